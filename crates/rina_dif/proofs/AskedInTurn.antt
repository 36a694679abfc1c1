-- Facilities that are asked in turn whether a flow came in.
use Rattle.std.proofs.Common.{◌≡◌, ℕ, ◌<◌, ◌≤◌, false, List, [], length, slice_get, Option, Some, None, refl, sym, subst, arith, inl, inr}
use Rattle.std.specs.Prelude.{MatchOption, is_some}
use Rattle.std.proofs.lemmas.Bool.{cases_lt}
use Rattle.std.proofs.lemmas.Option.{slice_get_past}
use Rattle.rina_iface.specs.Claim.{AreClaimed, NoneWaits}
use Rattle.rina_iface.specs.Later.{IsLater}
use Rattle.rina_iface.specs.Seen.{Fac, Seen, oldest_in}
use Rattle.rina_iface.proofs.Later.{later_refl}

pub later_same : (s s' : Seen) → s' ≡ s → IsLater s s'
later_same s s' same = rw same (later_refl s)

pub none_of : {X : Type 0} (o : Option X) (A : Type 0) (B : X → Type 0) → is_some o ≡ false → MatchOption o A B → A
none_of None A B none it = it
none_of (Some x) A B none it = absurd cc

-- the facilities that were asked have none, and there are no others
pub none_anywhere : (s : Seen) (fac node : ℕ) (app : List ℕ) → length s.facs ≤ fac → ((n : ℕ) → n < fac → NoneWaits (slice_get s.facs n) node app) → (n : ℕ) → NoneWaits (slice_get s.facs n) node app
none_anywhere s fac node app few none n =
    elim (cases_lt n fac) [
      | inl lt ↦ none n lt
      | inr past ↦ subst (λ (o : Option Fac). NoneWaits o node app) (sym (slice_get_past s.facs n (omega (arith, few, past)))) tt
    ]

-- none waits at any of them

none_at : (o : Option Fac) (node : ℕ) (app : List ℕ) → ((f : Fac) → o ≡ Some f → f.waiting ≡ []) → NoneWaits o node app
none_at None node app none = tt
none_at (Some f) node app none = subst (λ (waiting : List ℕ). oldest_in f.ends waiting node app ≡ None) (sym (none f refl)) refl

pub all_claimed : (s : Seen) (node : ℕ) (app : List ℕ) → AreClaimed s → (n : ℕ) → NoneWaits (slice_get s.facs n) node app
all_claimed s node app none n = none_at (slice_get s.facs n) node app (none n)
