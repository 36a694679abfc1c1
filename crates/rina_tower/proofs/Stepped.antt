-- What it is to its rank that one DIF takes a step, or asks to enrol.
use Rattle.std.proofs.Common.{◌≡◌, ◌∙◌, ℕ, List, Option, Result, sym, ap, subst, inl, inr}
use Rattle.rina_iface.specs.declared.ask.Ask.{Ask}
use Rattle.rina_iface.specs.declared.error.AllocateError.{AllocateError}
use Rattle.rina_iface.specs.Seen.{Seen}
use Rattle.rina_dif_law.specs.Upward.{IsSilent}
use Rattle.rina_dif.specs.declared.dif.Dif.{Dif}
use Rattle.rina_dif.specs.declared.enrol.EnrolError.{EnrolError}
use Rattle.rina_dif.specs.Facade.{GoesOn, OthersStand}
use Rattle.rina_dif.specs.Holding.{Stands}
use Rattle.rina_dif.specs.Shown.{seen_of}
use Rattle.rina_tower.specs.Bystanders.{Anyone, LeavesNow}
use Rattle.rina_tower.specs.Enrolling.{EnrolsOne}
use Rattle.rina_tower.specs.StepEffect.{StandsAfter}
use Rattle.rina_tower.specs.Ranks.{seen_of_difs}
use Rattle.rina_tower.specs.Stands.{AreStanding}
use Rattle.rina_tower.specs.Levels.{AtDif}
use Rattle.rina_tower.proofs.Alone.{same_alone}
use Rattle.rina_tower.proofs.Ranking.{silent_alone, standing_after}

-- what a step leaves of a rank
pub record IsStepped (difs : List Dif) (below : Seen) (difs' : List Dif) (below' : Seen) : Type 0 where
  pub stand : AreStanding difs' below'
  pub clock : below'.now ≡ below.now
  pub quiet : LeavesNow Anyone (seen_of_difs below.now difs) (seen_of_difs below.now difs')

-- how one DIF stands after what it did
record StandsOn (below below' : Seen) (d d' : Dif) : Type 0 where
  stands : Stands d' below'
  goes_on : GoesOn d d'
  silent : IsSilent (seen_of d) (seen_of d')
  others : OthersStand d below below'
  settings : d'.settings ≡ d.settings

one_did : (n : ℕ) (does : Dif → Dif → Type 0) (none : Type 0) (difs difs' : List Dif) (below below' : Seen) → ((d d' : Dif) → does d d' → StandsOn below below' d d') → (none → below' ≡ below) → AreStanding difs below → AtDif n does none difs difs' → IsStepped difs below difs' below'
one_did n does none difs difs' below below' after idle st a = elim a [
  | inl h ↦
      let k = after h.dif h.dif' h.done in
      let own = st.stand n h.dif h.is_dif in
      let stand : AreStanding difs' below' = subst (λ (ds : List Dif). AreStanding ds below') (sym h.new_is) (standing_after difs below below' n h.dif h.dif' st h.is_dif k.settings k.stands k.others) in
      let clock : below'.now ≡ below.now = sym k.stands.1.standing.clock ∙ k.goes_on.clock ∙ own.1.standing.clock in
      let quiet = silent_alone difs below.now n h.dif h.dif' own.1.standing.clock k.goes_on.clock h.is_dif k.silent in
      record { stand = stand; clock = clock; quiet = subst (λ (ds : List Dif). LeavesNow Anyone (seen_of_difs below.now difs) (seen_of_difs below.now ds)) (sym h.new_is) quiet }
  | inr h ↦
      let is : below' ≡ below = idle h.1 in
      record {
        stand = subst (λ (ds : List Dif). AreStanding ds below') (sym h.2) (subst (AreStanding difs) (sym is) st);
        clock = ap (λ (s : Seen). s.now) is;
        quiet = same_alone Anyone (seen_of_difs below.now difs) (seen_of_difs below.now difs') (ap (seen_of_difs below.now) h.2);
      }
]

pub is_stepped : (n : ℕ) (does : Dif → Dif → Type 0) (none : Type 0) (difs difs' : List Dif) (below below' : Seen) → ((d d' : Dif) → does d d' → StandsAfter below below' d d') → (none → below' ≡ below) → AreStanding difs below → AtDif n does none difs difs' → IsStepped difs below difs' below'
is_stepped n does none difs difs' below below' after idle st a =
    one_did n does none difs difs' below below' (λ d d' x. (let k = after d d' x in record { stands = k.stands; goes_on = k.goes_on; silent = k.silent; others = k.others; settings = k.settings })) idle st a

-- it asked to enrol
pub is_enrolled : {refuses : Ask → Option AllocateError} {node fac peer : ℕ} {result : Result (Unit {0}) EnrolError} {none : Type 0} (n : ℕ) (difs difs' : List Dif) (below below' : Seen) → (none → below' ≡ below) → AreStanding difs below → AtDif n (EnrolsOne refuses below node fac peer result below') none difs difs' → IsStepped difs below difs' below'
is_enrolled n difs difs' below below' idle st a =
    one_did n _ _ difs difs' below below' (λ d d' k. record { stands = k.stands; goes_on = k.goes_on; silent = k.silent; others = k.others; settings = k.settings }) idle st a
