-- What holds of a DIF and comes to hold by no call of an application comes to hold by no tick either, and by no step but one that takes what came.
use Rattle.std.proofs.Common.{◌≡◌, ℕ, ◌+◌, ◌==◌, List, slice_get, Option, Some, None, option_and_then, option_map, Result, Ok, Err, refl, subst, sym, arith, inl, inr, ◌⊎◌}
use Rattle.std.specs.Prelude.{find}
use Rattle.std.proofs.lemmas.Option.{same_Some, slice_get_within}
use Rattle.rina_iface.specs.declared.error.RegisterError.{RegisterError}
use Rattle.rina_policy.specs.Slots.{Slot}
use Rattle.rina_data.specs.declared.settings.Member.{Member}
use Rattle.rina_data.specs.declared.step.ClockStep.{ClockStep}
use Rattle.rina_data.specs.declared.step.InStep.{InStep}
use Rattle.rina_data.specs.declared.step.OutStep.{OutStep}
use Rattle.rina_data.specs.declared.step.StepError.{StepError}
use Rattle.rina_data.proofs.Finding.{found_in, there}
use Rattle.rina_dif.specs.declared.dif.Dif.{Dif}
use Rattle.rina_dif.specs.declared.enrol.EnrolError.{EnrolError}
use Rattle.rina_dif.specs.Holding.{Stands}
use Rattle.rina_wire.specs.declared.tick.TickError.{TickError}
use Rattle.rina_tower.specs.declared.publish.PublishError.{PublishError}
use Rattle.rina_tower.specs.declared.publish.PublishError.TheVariants.{NoIpc as NoMember, Lower}
use Rattle.rina_tower.specs.declared.tower.Tower.{Tower, Wires, Rank'}
use Rattle.rina_tower.specs.Bystanders.{IsIpc}
use Rattle.rina_tower.specs.Calls.{RegistersAtTop}
use Rattle.rina_tower.specs.ClockTick.{AreClocked, Ticks}
use Rattle.rina_tower.specs.Enrolling.{EnrolsAtTop, EnrolsOne}
use Rattle.rina_tower.specs.Publishing.{PublishesAtTop, RegistersIpc, ipc_name_at, name_of}
use Rattle.rina_tower.specs.Ranks.{height_of, now_of, seen_of}
use Rattle.rina_tower.specs.Refusals.{refuses_allocate, refuses_send}
use Rattle.rina_tower.specs.Rounds.{Anything}
use Rattle.rina_tower.specs.Stands.{IsTower}
use Rattle.rina_tower.specs.Steps.{ClocksAtTop, ClocksOne, InStepsAtTop, OutStepsAtTop, SendsOne, TakesOne, claimant}
use Rattle.rina_laws.proofs.Enrolled.{AsksOnce, enrol_asks, member_ipc}
use Rattle.rina_laws.proofs.NamedCalls.{Stays, allocates, clocked_below, left_below, taken_below}
use Rattle.rina_laws.proofs.NamedComes.{Comes, Fact, Never, RankComes, Reason, any_comes, any_stays, comes_is, never_more, rank_same}

-- ---- a step that takes what came

-- whatever comes to hold as one DIF takes what came does so for this reason
abbrev pub TakesFor : Fact → Reason → Result InStep StepError → Type 0
TakesFor F W x = (r n node link : ℕ) (d d' : Dif) (below below' : Tower) → Stands d (seen_of below) → TakesOne (seen_of below) node link x (seen_of below') d d' → F d' → F d ⊎ W r n d below

pub takes : (F : Fact) (k : Stays F) (W : Reason) (dif node link : ℕ) (x : Result InStep StepError) → TakesFor F W x → (u u' : Tower) → IsTower u → InStepsAtTop dif node link x u u' → Comes F W u u'
takes F k W dif node link x each (Wires a) (Wires a') v d = tt
takes F k W dif node link x each (Rank' p difs below) (Rank' p' difs' below') v d =
    let Does : Dif → Dif → Type 0 = TakesOne (seen_of below) node link x (seen_of below') in (
      any_comes F W Does dif _ difs difs' below (λ y y' at s f. each (height_of below + 1) dif node link y y' below below' (v.0.standing.stand dif y at) s f) d.0,
      never_more F W below below' (taken_below F k x below below' d.2),
    )
takes F k W dif node link x each (Wires a) (Rank' p difs below) v d = absurd d
takes F k W dif node link x each (Rank' p difs below) (Wires a) v d = absurd d

module _ (F : Fact) (k : Stays F) where
  -- ---- other steps

  pub lets_out : (slots slots' : List Slot) (dif node link : ℕ) (x : Result OutStep StepError) (u u' : Tower) → OutStepsAtTop Anything slots slots' dif node link x u u' → Comes F Never u u'
  lets_out slots slots' dif node link x (Wires a) (Wires a') d = tt
  lets_out slots slots' dif node link x (Rank' p difs below) (Rank' p' difs' below') d =
      let Does : Dif → Dif → Type 0 = SendsOne (refuses_send below) Anything slots slots' (seen_of below) node link x (seen_of below') in
      (any_stays F Does dif _ difs difs' below (λ y y' at s. k.left y y' s.rest) d.0, left_below F k x below below' d.2)
  lets_out slots slots' dif node link x (Wires a) (Rank' p difs below) d = absurd d
  lets_out slots slots' dif node link x (Rank' p difs below) (Wires a) d = absurd d

  pub does_due : (dif node : ℕ) (x : Result ClockStep StepError) (u u' : Tower) → ClocksAtTop dif node x u u' → Comes F Never u u'
  does_due dif node x (Wires a) (Wires a') d = tt
  does_due dif node x (Rank' p difs below) (Rank' p' difs' below') d =
      let Does : Dif → Dif → Type 0 = ClocksOne (seen_of below) node x (seen_of below') in
      (any_stays F Does dif _ difs difs' below (λ y y' at s. k.stepped (seen_of below) node x (seen_of below') y y' s) d.0, clocked_below F k node (claimant difs dif node) below below' x d.2)
  does_due dif node x (Wires a) (Rank' p difs below) d = absurd d
  does_due dif node x (Rank' p difs below) (Wires a) d = absurd d

  -- ---- an IPC process asks to enrol

  asked_below : (difs : List Dif) (n node fac peer : ℕ) (b b' : Tower) → IsTower b → (b' ≡ b) ⊎ AsksOnce difs n node fac peer b b' → Comes F Never b b'
  asked_below difs n node fac peer b b' v (inl same) = comes_is F Never b b' same
  asked_below difs n node fac peer b b' v (inr a) = allocates F k a.ask a.answer b b' v a.does

  pub enrols : (dif node fac peer : ℕ) (x : Result (Unit {0}) EnrolError) (u u' : Tower) → IsTower u → EnrolsAtTop dif node fac peer x u u' → Comes F Never u u'
  enrols dif node fac peer x (Wires a) (Wires a') v d = tt
  enrols dif node fac peer x (Rank' p difs below) (Rank' p' difs' below') v d =
      let Does : Dif → Dif → Type 0 = EnrolsOne (refuses_allocate below) (seen_of below) node fac peer x (seen_of below') in
      (any_stays F Does dif _ difs difs' below (λ y y' at s. k.joined y y' s.rest) d.0, asked_below difs dif node fac peer below below' v.1 (enrol_asks dif node fac peer x p p' difs difs' below below' d))
  enrols dif node fac peer x (Wires a) (Rank' p difs below) v d = absurd d
  enrols dif node fac peer x (Rank' p difs below) (Wires a) v d = absurd d

  -- ---- ticks

  clocked_comes : (now : ℕ) (difs difs' : List Dif) (below : Tower) → AreClocked now difs difs' → RankComes F Never difs below difs'
  clocked_comes now difs difs' below c n d' at =
      let within = slice_get_within difs' n d' at in
      let number = c.number in
      let d = there difs n (omega (arith, within, number)) in
      (d.0, d.1, λ f. inl (k.clocked now d.0 d' (c.each n d.0 d' d.1 at).rest f))

  pub ticks : (r : Result (Unit {0}) TickError) (t t' : Tower) → Ticks r t t' → Comes F Never t t'
  ticks r (Wires a) (Wires a') d = tt
  ticks r (Rank' p difs below) (Rank' p' difs' below') d = (clocked_comes (now_of below') difs difs' below d.0, ticks r below below' d.1)
  ticks r (Wires a) (Rank' p difs below) d = absurd d
  ticks r (Rank' p difs below) (Wires a) d = absurd d

-- ---- an IPC process is published

-- whatever comes to hold as the name of an IPC process is registered
abbrev pub IpcsStay : Fact → ℕ → ℕ → Type 0
IpcsStay F fac node = (name : List ℕ) (x : Result (Unit {0}) RegisterError) (u u' : Tower) → IsIpc name → RegistersAtTop fac node name x u u' → Comes F Never u u'

name_there : (members : List Member) (node : ℕ) (o : Option Member) (name : List ℕ) → find (λ (m : Member). m.node == node) members ≡ o → option_map (λ (m : Member). m.name) o ≡ Some name → (i : ℕ) × (m : Member) × (slice_get members i ≡ Some m) × (m.name ≡ name)
name_there members node None name is h = cc
name_there members node (Some m) name is h = (let x = found_in (λ (z : Member). z.node == node) members m is in (x.0, m, x.1, same_Some m.name name h))

-- the name of a member of a DIF is that of an IPC process
pub name_ipc : (node : ℕ) (p : _) (difs : List Dif) (below : Tower) (dif : ℕ) (o : Option Dif) (name : List ℕ) → IsTower (Rank' p difs below) → slice_get difs dif ≡ o → option_and_then (λ (d : Dif). name_of d.settings.members node) o ≡ Some name → IsIpc name
name_ipc node p difs below dif None name v is h = cc
name_ipc node p difs below dif (Some d) name v is h =
    let m = name_there d.settings.members node (find (λ (z : Member). z.node == node) d.settings.members) name refl h in
    subst IsIpc m.3 (member_ipc difs below dif d m.0 m.1 v.0.standing is m.2)

module _ (F : Fact) (fac node : ℕ) (regs : IpcsStay F fac node) where
  registers_ipc : (o : Option (List ℕ)) (x : Result (Unit {0}) PublishError) (b b' : Tower) → ((name : List ℕ) → o ≡ Some name → IsIpc name) → RegistersIpc o fac node x b b' → Comes F Never b b'
  registers_ipc None x b b' ipc d = comes_is F Never b b' d.1
  registers_ipc (Some name) (Ok done) b b' ipc d = regs name (Ok done) b b' (ipc name refl) d
  registers_ipc (Some name) (Err (Lower e)) b b' ipc d = regs name (Err e) b b' (ipc name refl) d
  registers_ipc (Some name) (Err NoMember) b b' ipc d = absurd d

  pub publishes : (dif : ℕ) (x : Result (Unit {0}) PublishError) (u u' : Tower) → IsTower u → PublishesAtTop dif node fac x u u' → Comes F Never u u'
  publishes dif x (Wires a) (Wires a') v d = tt
  publishes dif x (Rank' p difs below) (Rank' p' difs' below') v d = (
    subst (RankComes F Never difs below) (sym d.0) (rank_same F Never difs below),
    registers_ipc (ipc_name_at difs dif node) x below below' (λ name is. name_ipc node p difs below dif (slice_get difs dif) name v refl is) d.1,
  )
  publishes dif x (Wires a) (Rank' p difs below) v d = absurd d
  publishes dif x (Rank' p difs below) (Wires a) v d = absurd d
