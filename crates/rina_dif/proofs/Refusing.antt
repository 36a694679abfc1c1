-- What the enrolled member at a node refuses to an ask, one cause after the other.
use Rattle.std.proofs.Common.{◌≡◌, ◌∙◌, ℕ, Bool, true, cond, slice_get, Option, Some, None, Result, option_and_then, refl, sym, ap, subst}
use Rattle.std.specs.Option.{is_some}
use Rattle.std.proofs.lemmas.Bool.{false≢true}
use Rattle.rina_iface.specs.declared.ask.Ask.{Ask}
use Rattle.rina_iface.specs.declared.error.AllocateError.{AllocateError}
use Rattle.rina_iface.specs.declared.error.AllocateError.TheVariants as allocate
use Rattle.rina_iface.specs.Allocate.{refused_in, unless_offered}
use Rattle.rina_iface.specs.Seen.{Offer, offered}
use Rattle.rina_dif_law.specs.Dif.{fac_of}
use Rattle.rina_member.specs.declared.management.Management.{Management}
use Rattle.rina_dif.specs.declared.dif.Dif.{Dif}
use Rattle.rina_dif.specs.Allocating.{TellsRefusal, allocate_refusal, member_refusal}
use Rattle.rina_dif.specs.Elsewhere.{enrolled_home}
use Rattle.rina_dif.specs.Shown.{seen_of}
use Rattle.rina_dif.specs.Whole.{IsDif}
use Rattle.rina_dif.proofs.Enrolled.{enrolled_home_is}
use Rattle.rina_dif.proofs.Naming.{members_at}

-- What every facility refuses, and then the member

pub tells_same : {T : Type 0} (r : Result T AllocateError) (a b : Option AllocateError) → a ≡ b → TellsRefusal b r → TellsRefusal a r
tells_same r a b is tells = subst (λ (o : Option AllocateError). TellsRefusal o r) (sym is) tells

module _ (d : Dif) (ask : Ask) where
  abbrev pub offered_there : Option Offer
  offered_there = offered (fac_of (seen_of d)).cubes ask.want

  abbrev by_facility : Bool → Option AllocateError → Option AllocateError
  by_facility here own = cond here (unless_offered offered_there own) (Some allocate.NoMember)

  pub no_member : (own : Option AllocateError) → IsDif d → enrolled_home d ask.node ≡ None → refused_in (Some (fac_of (seen_of d))) ask own ≡ Some allocate.NoMember
  no_member own is none = ap (λ (b : Bool). by_facility b own) (members_at d ask.node is ∙ ap is_some none)

  behind_member : (own : Option AllocateError) (at : ℕ) → enrolled_home d ask.node ≡ Some at → refused_in (Some (fac_of (seen_of d))) ask own ≡ unless_offered offered_there own
  behind_member own at here = ap (λ (b : Bool). by_facility b own) (enrolled_home_is d ask.node at here).0

  met : (o : Option Offer) (own : Option AllocateError) → is_some o ≡ true → unless_offered o own ≡ own
  met None own e = absurd (false≢true e)
  met (Some c) own e = refl

  pub no_cube : (own : Option AllocateError) (at : ℕ) → enrolled_home d ask.node ≡ Some at → offered_there ≡ None → refused_in (Some (fac_of (seen_of d))) ask own ≡ Some allocate.NoCube
  no_cube own at here none = behind_member own at here ∙ ap (λ (o : Option Offer). unless_offered o own) none

  -- what the member refuses
  pub by_member : (at : ℕ) (m : Management) → enrolled_home d ask.node ≡ Some at → is_some offered_there ≡ true → slice_get d.managements at ≡ Some m → refused_in (Some (fac_of (seen_of d))) ask (allocate_refusal d ask) ≡ member_refusal d at ask.node ask.to m
  by_member at m here some is_m =
      behind_member (allocate_refusal d ask) at here
      ∙ met offered_there (allocate_refusal d ask) some
      ∙ ap (option_and_then (λ i. option_and_then (member_refusal d i ask.node ask.to) (slice_get d.managements i))) here
      ∙ ap (option_and_then (member_refusal d at ask.node ask.to)) is_m
