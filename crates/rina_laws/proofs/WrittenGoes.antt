-- A call or a step within a tick leaves a tower that stands, and its ledgers grow.
use Rattle.std.proofs.Common.{◌≡◌, ◌≢◌, ◌∙◌, ℕ, ◌+◌, Bool, true, false, List, Option, Some, None, Result, Ok, Err, refl, sym, ap, subst, inl, inr}
use Rattle.std.proofs.lemmas.Bool.Decides.{eqb_tells}
use Rattle.rina_base.specs.declared.number.Port.{Port}
use Rattle.rina_dif.specs.declared.dif.Dif.{Dif}
use Rattle.rina_wire.specs.Air.{Air}
use Rattle.rina_wire.specs.Sound.{IsSound}
use Rattle.rina_tower.specs.declared.applications.AppError.{AppError}
use Rattle.rina_tower.specs.declared.applications.AppError.TheVariants.{NoRank, NotYours, Call}
use Rattle.rina_tower.specs.declared.tower.Tower.{Tower, Wires, Rank'}
use Rattle.rina_tower.specs.Applications.{Answers, ClaimsFor}
use Rattle.rina_tower.specs.Bystanders.{IsIpc, LeavesNow}
use Rattle.rina_tower.specs.Levels.{AtRank, AtWires}
use Rattle.rina_tower.specs.Ranks.{height_of, rank_of, seen_of}
use Rattle.rina_tower.specs.Stands.{IsTower}
use Rattle.rina_tower.proofs.Alone.{all_alone}
use Rattle.rina_tower.proofs.Serving.{beside_alone, rank_beside}
use Rattle.rina_laws.proofs.WrittenGrows.{Grows, MayBeWritten, grows_same, rank_same}

-- the tower stands, with as many ranks, the IPC processes above it were left alone, and what is new in a ledger is what may be written
pub record Goes (W : MayBeWritten) (t t' : Tower) : Type 0 where
  pub valid : IsTower t'
  pub height : height_of t' ≡ height_of t
  pub alone : LeavesNow IsIpc (seen_of t) (seen_of t')
  pub grows : Grows W t t'

pub goes_same : (W : MayBeWritten) (t t' : Tower) → IsTower t → t' ≡ t → Goes W t t'
goes_same W t t' v is = subst (Goes W t) (sym is) (record { valid = v; height = refl; alone = all_alone IsIpc (seen_of t); grows = grows_same W t })

-- ---- at a rank

-- a rank above
above : (W : MayBeWritten) (p p' : _) (difs difs' : List Dif) (below below' : Tower) → IsTower (Rank' p difs below) → difs' ≡ difs → Goes W below below' → Goes W (Rank' p difs below) (Rank' p' difs' below')
above W p p' difs difs' below below' v same k = subst (λ (ds : List Dif). Goes W (Rank' p difs below) (Rank' p' ds below')) (sym same) (record {
  valid = (rank_beside difs below below' v.0 v.1 k.valid k.height k.alone, k.valid);
  height = ap (λ (n : ℕ). n + 1) k.height;
  alone = beside_alone IsIpc difs below below' k.alone;
  grows = (rank_same W difs below, k.grows);
})

own_rank : (t : Tower) (r : ℕ) → r ≡ height_of t → rank_of t r ≡ Some t
own_rank (Wires a) r is = elim (eqb_tells r 0) [ inl t ↦ rw t.0 refl | inr f ↦ absurd (f.1 is) ]
own_rank (Rank' p difs below) r is = elim (eqb_tells r (height_of below + 1)) [ inl t ↦ rw t.0 refl | inr f ↦ absurd (f.1 is) ]

low_rank : (p : _) (difs : List Dif) (below : Tower) (r : ℕ) → r ≢ height_of below + 1 → rank_of (Rank' p difs below) r ≡ rank_of below r
low_rank p difs below r ne = elim (eqb_tells r (height_of below + 1)) [ inl t ↦ absurd (ne t.1) | inr f ↦ rw f.0 refl ]

pub at_rank : (W : MayBeWritten) (r : ℕ) (does : Tower → Tower → Type 0) (none : Type 0) (t t' : Tower) → IsTower t → ((u u' : Tower) → rank_of t r ≡ Some u → IsTower u → does u u' → Goes W u u') → AtRank r does none t t' → Goes W t t'
at_rank W r does none (Wires a) (Wires a') v next (inl d) = next (Wires a) (Wires a') (own_rank (Wires a) r d.0) v d.1
at_rank W r does none (Wires a) (Wires a') v next (inr d) = goes_same W (Wires a) (Wires a') v (ap (λ (z : Air). Wires z) d.2)
at_rank W r does none (Rank' p difs below) (Rank' p' difs' below') v next (inl d) = next (Rank' p difs below) (Rank' p' difs' below') (own_rank (Rank' p difs below) r d.0) v d.1
at_rank W r does none (Rank' p difs below) (Rank' p' difs' below') v next (inr d) = above W p p' difs difs' below below' v d.1 (at_rank W r does none below below' v.1 (λ u u' is. next u u' (low_rank p difs below r d.0 ∙ is)) d.2)
at_rank W r does none (Wires a) (Rank' p difs below) v next d = absurd d
at_rank W r does none (Rank' p difs below) (Wires a) v next d = absurd d

-- what an event of a wire does
pub at_wires : (W : MayBeWritten) (does : Air → Air → Type 0) (t t' : Tower) → IsTower t → ((a a' : Air) → IsSound a → does a a' → IsSound a' × LeavesNow IsIpc (seen_of (Wires a)) (seen_of (Wires a'))) → AtWires does t t' → Goes W t t'
at_wires W does (Wires a) (Wires a') v next d = (let k = next a a' v d in record { valid = k.0; height = refl; alone = k.1; grows = tt })
at_wires W does (Rank' p difs below) (Rank' p' difs' below') v next d = above W p p' difs difs' below below' v d.0 (at_wires W does below below' v.1 next d.1)
at_wires W does (Wires a) (Rank' p difs below) v next d = absurd d
at_wires W does (Rank' p difs below) (Wires a) v next d = absurd d

-- ---- a call of an application

answers : {T E : Type 0} (W : MayBeWritten) (ipc : Bool) (u u' : Tower) (call : Result T E → Type 0) (r : Result T (AppError E)) → IsTower u → ((x : Result T E) → ipc ≡ false → call x → Goes W u u') → Answers ipc call (u' ≡ u) r → Goes W u u'
answers W ipc u u' call (Ok x) v next d = next (Ok x) d.0 d.1
answers W ipc u u' call (Err (Call e)) v next d = next (Err e) d.0 d.1
answers W ipc u u' call (Err NotYours) v next d = goes_same W u u' v d.1
answers W ipc u u' call (Err NoRank) v next d = absurd d

pub at_app : {T E : Type 0} (W : MayBeWritten) (r : ℕ) (ipc : Tower → Bool) (call : Result T E → Tower → Tower → Type 0) (result : Result T (AppError E)) (t t' : Tower) → IsTower t → ((x : Result T E) (u u' : Tower) → IsTower u → ipc u ≡ false → call x u u' → Goes W u u') → AtRank r (λ u u'. Answers (ipc u) (λ x. call x u u') (u' ≡ u) result) (result ≡ Err NoRank) t t' → Goes W t t'
at_app W r ipc call result t t' v next d = at_rank W r (λ u u'. Answers (ipc u) (λ x. call x u u') (u' ≡ u) result) (result ≡ Err NoRank) t t' v (λ u u' is w e. answers W (ipc u) u u' (λ x. call x u u') result w (λ x no c. next x u u' w no c) e) d

claims_for : (W : MayBeWritten) (ipc : Bool) (u u' : Tower) (call : Option Port → Type 0) (r : Option Port) → IsTower u → (call r → Goes W u u') → ClaimsFor ipc call (u' ≡ u) r → Goes W u u'
claims_for W true u u' call r v next d = goes_same W u u' v d.1
claims_for W false u u' call r v next d = next d

pub at_claim : (W : MayBeWritten) (r : ℕ) (ipc : Bool) (call : Option Port → Tower → Tower → Type 0) (result : Option Port) (t t' : Tower) → IsTower t → ((u u' : Tower) → IsTower u → call result u u' → Goes W u u') → AtRank r (λ u u'. ClaimsFor ipc (λ x. call x u u') (u' ≡ u) result) (result ≡ None) t t' → Goes W t t'
at_claim W r ipc call result t t' v next d = at_rank W r (λ u u'. ClaimsFor ipc (λ x. call x u u') (u' ≡ u) result) (result ≡ None) t t' v (λ u u' is w e. claims_for W ipc u u' (λ x. call x u u') result w (λ c. next u u' w c) e) d
