-- What an IPC process that asks to enrol does at the rank below its own: it asks for one flow at most, between IPC processes.
use Rattle.std.proofs.Common.{◌≡◌, ◌⊎◌, ℕ, true, false, List, slice_get, Option, Some, None, option_map, Result, Ok, Err, refl, sym, ◌∙◌, ap, subst, inl, inr}
use Rattle.std.proofs.lemmas.Option.{slice_get-map}
use Rattle.rina_base.specs.declared.number.Port.{Port}
use Rattle.rina_data.specs.declared.settings.Member.{Member}
use Rattle.rina_data.specs.Configs.{config_of, member_of}
use Rattle.rina_iface.specs.declared.ask.Ask.{Ask}
use Rattle.rina_iface.specs.declared.error.AllocateError.{AllocateError}
use Rattle.rina_dif_law.specs.Cloud.{IsMine}
use Rattle.rina_dif.specs.declared.dif.Dif.{Dif}
use Rattle.rina_dif.specs.declared.enrol.EnrolError.{EnrolError}
use Rattle.rina_dif.specs.declared.enrol.EnrolError.TheVariants as errors
use Rattle.rina_dif.specs.Enrolling.{AllocatesAsSeen, AllocatesBelow, IsLinkAsk}
use Rattle.rina_tower.specs.declared.tower.Tower.{Tower, Rank'}
use Rattle.rina_tower.specs.Bystanders.{IsIpc}
use Rattle.rina_tower.specs.Calls.{AllocatesAtTop, AllocatesWhole}
use Rattle.rina_tower.specs.Enrolling.{AsksBelow, EnrolsAtTop}
use Rattle.rina_tower.specs.MemoryFailure.{has_failed}
use Rattle.rina_tower.specs.Ranks.{seen_of}
use Rattle.rina_tower.specs.Refusals.{refuses_allocate}
use Rattle.rina_tower.specs.Stands.{AreStanding, At, IsTower}

-- nothing changed there, or a flow was asked for
abbrev pub MayAllocate : Tower → Tower → Type 0
MayAllocate below below' = (below' ≡ below) ⊎ ((ask : Ask) × (answer : Result Port AllocateError) × IsIpc ask.app × IsIpc ask.to × AllocatesAtTop ask answer below below')

-- the DIF that asked, and what it asked for
pub record AsksOnce (difs : List Dif) (n node fac peer : ℕ) (below below' : Tower) : Type 0 where
  pub dif : Dif
  pub is_dif : At difs n dif
  pub ask : Ask
  pub answer : Result Port AllocateError
  pub link : IsLinkAsk dif node fac peer ask
  pub does : AllocatesAtTop ask answer below below'

module _ (difs : List Dif) (below below' : Tower) (n node fac peer : ℕ) where
  asked : (d : Dif) (ask : Ask) (answer : Result Port AllocateError) → At difs n d → IsLinkAsk d node fac peer ask → AllocatesAsSeen seen_of refuses_allocate AllocatesWhole below below' ask answer → (below' ≡ below) ⊎ AsksOnce difs n node fac peer below below'
  asked d ask answer at link does = elim (has_failed below) as (λ z. has_failed below ≡ z → (below' ≡ below) ⊎ AsksOnce difs n node fac peer below below') [
    | true ↦ λ is. inl (does.1.1 is).1
    | false ↦ λ is. inr (record { dif = d; is_dif = at; ask = ask; answer = answer; link = link; does = does.1.0 is })
  ] refl

  dif_asks : (d : Dif) (result : Result (Unit {0}) EnrolError) → At difs n d → AllocatesBelow (below' ≡ below) (AllocatesAsSeen seen_of refuses_allocate AllocatesWhole below below') d node fac peer result → (below' ≡ below) ⊎ AsksOnce difs n node fac peer below below'
  dif_asks d (Ok done) at does = asked d does.0 (Ok does.1) at does.2 does.3
  dif_asks d (Err (errors.Lower e)) at does = asked d does.0 (Err e) at does.1 does.2
  dif_asks d (Err errors.Memory) at (inl same) = inl same
  dif_asks d (Err errors.Memory) at (inr does) = asked d does.0 does.1 at does.2 does.3
  dif_asks d (Err errors.NoIpc) at does = inl does
  dif_asks d (Err (errors.Enrolling link)) at does = inl does
  dif_asks d (Err (errors.LinksFull max)) at does = inl does
  dif_asks d (Err (errors.CountSpent need left)) at does = inl does

  asks_there : (o : Option Dif) (result : Result (Unit {0}) EnrolError) → slice_get difs n ≡ o → AsksBelow (below' ≡ below) (AllocatesAsSeen seen_of refuses_allocate AllocatesWhole below below') o node fac peer result → (below' ≡ below) ⊎ AsksOnce difs n node fac peer below below'
  asks_there None result at does = inl does
  asks_there (Some d) result at does = dif_asks d result at does

pub enrol_asks : (dif node fac peer : ℕ) (result : Result (Unit {0}) EnrolError) (p p' : _) (difs difs' : List Dif) (below below' : Tower) → EnrolsAtTop dif node fac peer result (Rank' p difs below) (Rank' p' difs' below') → (below' ≡ below) ⊎ AsksOnce difs dif node fac peer below below'
enrol_asks dif node fac peer result p p' difs difs' below below' does = asks_there difs below below' dif node fac peer (slice_get difs dif) result refl does.2

-- a member's name is that of an IPC process
pub member_ipc : (difs : List Dif) (below : Tower) (n : ℕ) (d : Dif) (i : ℕ) (member : Member) → AreStanding difs (seen_of below) → At difs n d → slice_get d.settings.members i ≡ Some member → IsIpc member.name
member_ipc difs below n d i member standing at is =
    let mine : IsMine (config_of d.settings).members member.name = record { addr = member.addr; member = record { place = i; member = member_of member; stands = slice_get-map member_of d.settings.members i ∙ ap (option_map member_of) is; addr_is = refl; name_is = refl } } in
    standing.ipc n d member.name at mine

pub enrolled : (dif node fac peer : ℕ) (result : Result (Unit {0}) EnrolError) (p p' : _) (difs difs' : List Dif) (below below' : Tower) → IsTower (Rank' p difs below) → EnrolsAtTop dif node fac peer result (Rank' p difs below) (Rank' p' difs' below') → MayAllocate below below'
enrolled dif node fac peer result p p' difs difs' below below' valid does = elim (enrol_asks dif node fac peer result p p' difs difs' below below' does) [
  | inl same ↦ inl same
  | inr a ↦
      let joiner : IsIpc a.ask.app = subst (λ (z : Ask). IsIpc z.app) (sym a.link.ask_is) (member_ipc difs below dif a.dif a.link.i a.link.joiner valid.0.standing a.is_dif a.link.are.is_joiner) in
      let member : IsIpc a.ask.to = subst (λ (z : Ask). IsIpc z.to) (sym a.link.ask_is) (member_ipc difs below dif a.dif a.link.j a.link.member valid.0.standing a.is_dif a.link.are.is_member) in
      inr (a.ask, a.answer, joiner, member, a.does)
]
