-- A flow fails in a clock step for its stated causes alone.
use Rattle.std.proofs.Common.{◌≡◌, ◌∙◌, ℕ, ◌+◌, ◌*◌, ◌<◌, ◌≤◌, ◌⊎◌, Bool, true, false, List, length, slice_get, slice_set, Option, Some, None, Result, Ok, Err, refl, sym, ap, subst, inl, inr}
use Rattle.std.proofs.lemmas.Option.{slice_get-get_or}
use Rattle.rina_cube.specs.declared.Cube.{Cube}
use Rattle.rina_iface.specs.declared.ends.End.{End}
use Rattle.rina_iface.specs.declared.state.Fail.{Fail}
use Rattle.rina_iface.specs.declared.state.Fail.TheVariants.{Below, GaveUp}
use Rattle.rina_iface.specs.declared.state.PortState.{PortState}
use Rattle.rina_iface.specs.declared.state.PortState.TheVariants.{Failed, Refused}
use Rattle.rina_iface.specs.declared.state.Why.{Why}
use Rattle.rina_iface.specs.Journal.{At}
use Rattle.rina_iface.specs.Seen.{Seen}
use Rattle.rina_iface.proofs.Changed.{set_at, slice_get-set_other}
use Rattle.rina_law.specs.declared.entry.Entry.{Entry}
use Rattle.rina_law.specs.Constants.{Constants}
use Rattle.rina_law.specs.Direction.{Direction, entry, no_entry, place_of}
use Rattle.rina_law.specs.DirectionHolds.{DirectionHolds}
use Rattle.rina_law.specs.Sender.{member}
use Rattle.rina_law.proofs.Due.{late_given_up}
use Rattle.rina_law.proofs.Cuts.{place_within}
use Rattle.rina_data.specs.declared.step.ClockStep.{ClockStep}
use Rattle.rina_data.specs.declared.step.ClockStep.TheVariants as step
use Rattle.rina_data.specs.declared.step.StepError.{StepError}
use Rattle.rina_data.specs.declared.step.StepError.TheVariants as why
use Rattle.rina_data.specs.Configs.{config_of, cube_by}
use Rattle.rina_dif_law.specs.Dif.{DifSeen, constants}
use Rattle.rina_dif_law.specs.Answering.{IsTurnedDown}
use Rattle.rina_dif_law.specs.Ending.{IsGivenUp}
use Rattle.rina_dif_law.specs.Losing.{IsAllocatedAt}
use Rattle.rina_dif_law.specs.Sending.{home}
use Rattle.rina_dif_law.specs.Cloud.{Cloud, Everywhere}
use Rattle.rina_dif_law.proofs.Own.{direction_out}
use Rattle.rina_dif.specs.declared.dif.Dif.{Dif}
use Rattle.rina_dif.specs.Clocking.{ClockSteps, FailsBelow, FailsLate, IsLate, Serves, ServesAny, Steps, StepsFlow, StepsHere, StepsLost, StepsOk}
use Rattle.rina_dif.specs.Elsewhere.{home_of}
use Rattle.rina_dif.specs.Holding.{Holds}
use Rattle.rina_dif.specs.FlowEnds.{ManagesStep}
use Rattle.rina_dif.specs.Shown.{seen_of}
use Rattle.rina_dif.specs.Steps.{AtHome}
use Rattle.rina_dif.specs.Unlinking.{NoneLeft, links_without}
use Rattle.rina_dif.specs.WaitingAsks.{KeepsStep}
use Rattle.rina_dif.proofs.Cutting.{after_loss, failed_ends}

same_some : {X : Type 0} (o : Option X) (a b : X) → o ≡ Some a → o ≡ Some b → a ≡ b
same_some o a b h g = cc

-- the number that is given up is that of a piece of an SDU that was sent
late_one : (d : Dif) (lines : List Direction) (below : Seen) (at number : ℕ) (new : DifSeen) → Holds d lines below → (g : IsGivenUp (seen_of d) lines at number new) → IsLate d lines at (GaveUp (record { cep = g.ids.scep; seq = number }) (member g.line.line.sender.run number).first d.clock)
late_one d lines below at number new h g =
    let st = h.standing in
    let k : Constants = constants (config_of d.settings) g.cube g.ids in
    let end : End = g.ended.end in
    let is_end = g.ended.is_conn.end in
    let partner = st.journal.allocated at end is_end g.ended.allocated in
    let flow = direction_out (config_of d.settings) d.clock (Cloud Everywhere (config_of d.settings) (seen_of d).processes below) d.ids (seen_of d).ends (seen_of d).conns lines st.own at partner.place end partner.other g.ids g.line (record { end = is_end; ids_are = g.ids_are }) partner.stands g.is_line partner.partner g.ended.allocated in
    let cube_is : flow.cube ≡ g.cube = same_some (cube_by g.ids.qos (config_of d.settings).cubes) flow.cube g.cube flow.is_cube g.is_cube in
    let holds : DirectionHolds k g.line = subst (λ (x : Cube). DirectionHolds (constants (config_of d.settings) x g.ids) g.line) cube_is flow.backed.holds in
    let run = g.line.line.sender.run in
    let sent = holds.core.sent in
    let x = late_given_up k g.line.line.clock g.line.line.sender number g.late in
    let place : ℕ = place_of run g.line.base number in
    let within : place < length g.line.sent = place_within k run g.line.base g.line.sent sent number x.within in
    let sdu : Entry = entry g.line.sent place in
    record {
      end = end;
      ids = g.ids;
      is_conn = record { end = is_end; ids_are = g.ids_are };
      cube = g.cube;
      is_cube = g.is_cube;
      line = g.line;
      is_line = g.is_line;
      number = number;
      first = (member run number).first;
      is = refl;
      reliable = x.reliable;
      unacknowledged = x.unacked;
      made = x.within;
      place = place;
      sdu = sdu;
      is_sdu = ap (λ (es : List Entry). slice_get es place) (sym flow.sent) ∙ slice_get-get_or g.line.sent place no_entry within;
      num = (let cep = sent.cep place within in let seq = sent.num number x.within in rw (← cep, ← seq) refl);
      tick = sent.tick number x.within;
      late = subst (λ (n : ℕ). (member run number).first + g.cube.r + g.cube.a + 2 * g.cube.mpl ≤ n) flow.backed.clock x.late;
    }

Late : Dif → List Direction → Seen → List End → Type 0
Late d lines below ends = (at : ℕ) (end end' : End) (fail : Fail) → At d.flows.journal.ends at end → At ends at end' → end'.state ≡ Failed fail → (end.state ≡ Failed fail) ⊎ (IsLate d lines at fail ⊎ FailsBelow d below at fail)

-- no end changed
late_same : (d : Dif) (lines : List Direction) (below : Seen) (ends : List End) → ends ≡ d.flows.journal.ends → Late d lines below ends
unfolding Late
late_same d lines below ends is at end end' fail old new failed =
    let same : end' ≡ end = same_some (slice_get d.flows.journal.ends at) end' end (ap (λ (es : List End). slice_get es at) (sym is) ∙ new) old in
    inl (ap (λ (e : End). e.state) (sym same) ∙ failed)

failed_so : (a b : Fail) (state : PortState) → state ≡ Failed b → state ≡ Failed a → b ≡ a
failed_so a b state h g = cc

-- one has failed
late_failed : (d : Dif) (lines : List Direction) (below : Seen) (at number : ℕ) (new : DifSeen) → Holds d lines below → IsGivenUp (seen_of d) lines at number new → Late d lines below new.ends
unfolding Late
late_failed d lines below at number new h g k end end' fail old is failed =
    let by : Fail = GaveUp (record { cep = g.ids.scep; seq = number }) (member g.line.line.sender.run number).first d.clock in
    let changed : End = record g.ended.end { state = Failed by } in
    let ends : new.ends ≡ slice_set d.flows.journal.ends at changed = ap (λ (z : DifSeen). z.ends) g.ended.new_is in
    elim (set_at d.flows.journal.ends at k g.ended.end changed end' g.ended.is_conn.end (subst (λ (es : List End). slice_get es k ≡ Some end') ends is)) [
      | inl t ↦
          (let so : fail ≡ by = failed_so by fail end'.state failed (ap (λ (e : End). e.state) t.1) in
          inr (inl (subst (λ (f : Fail). IsLate d lines k f) (sym so) (subst (λ (n : ℕ). IsLate d lines n by) (sym t.0) (late_one d lines below at number new h g)))))
      | inr f ↦
          (let same : end' ≡ end = same_some (slice_get d.flows.journal.ends k) end' end f.1 old in
          inl (ap (λ (e : End). e.state) (sym same) ∙ failed))
    ]

late_flow : (d : Dif) (lines : List Direction) (below : Seen) (node : ℕ) (done : ClockStep) (new : DifSeen) (lines' : List Direction) → Holds d lines below → StepsFlow d lines node done new lines' → Late d lines below new.ends
late_flow d lines below node step.Idle new lines' h s = late_same d lines below new.ends (ap (λ (z : DifSeen). z.ends) s.1)
late_flow d lines below node (step.Gone cep) new lines' h s = late_same d lines below new.ends (ap (λ (z : DifSeen). z.ends) s.forgotten.new_is)
late_flow d lines below node (step.GaveUp num) new lines' h s = late_failed d lines below s.at num.seq new h s.given_up
late_flow d lines below node (step.Ack cep) new lines' h s = late_same d lines below new.ends (ap (λ (z : DifSeen). z.ends) s.acknowledged.new_is)
late_flow d lines below node (step.Again num) new lines' h s = late_same d lines below new.ends (ap (λ (z : DifSeen). z.ends) s.resent.new_is)
late_flow d lines below node (step.LinkLost link) new lines' h s = absurd s
late_flow d lines below node (step.LinkNew link) new lines' h s = absurd s
late_flow d lines below node (step.Timeout port) new lines' h s = absurd s
late_flow d lines below node (step.Message link) new lines' h s = absurd s

-- one was refused
refused_not : (why : Why) (fail : Fail) (state : PortState) → state ≡ Refused why → state ≡ Failed fail → ⊥
refused_not why fail state a b = absurd cc

late_turned : (d : Dif) (lines : List Direction) (below : Seen) (at : ℕ) (why : Why) (new : DifSeen) → IsTurnedDown (seen_of d) at (Refused why) new → Late d lines below new.ends
unfolding Late
late_turned d lines below at why new t k end end' fail old is failed =
    let changed : End = record t.end { state = Refused why } in
    let ends : new.ends ≡ slice_set d.flows.journal.ends at changed = ap (λ (z : DifSeen). z.ends) t.new_is in
    elim (set_at d.flows.journal.ends at k t.end changed end' t.is_end (subst (λ (es : List End). slice_get es k ≡ Some end') ends is)) [
      | inl x ↦ absurd (refused_not why fail end'.state (ap (λ (e : End). e.state) x.1) failed)
      | inr f ↦
          (let same : end' ≡ end = same_some (slice_get d.flows.journal.ends k) end' end f.1 old in
          inl (ap (λ (e : End). e.state) (sym same) ∙ failed))
    ]

-- all of a node have failed
below_one : (d : Dif) (lines : List Direction) (below : Seen) (node number : ℕ) (d' : Dif) (s : StepsLost d lines below node number d') (at : ℕ) (fail : Fail) → NoneLeft (links_without s.loses.loses.loses.process.links s.loses.loses.loses.place s.loses.loses.loses.link) below s.loses.loses.loses.link.port → IsAllocatedAt d.flows.journal.ends node at → fail ≡ Below s.loses.loses.loses.link.port → FailsBelow d below at fail
below_one d lines below node number d' s at fail left a is =
    let l = s.loses.loses.loses in
    record {
      end = a.end;
      is_end = a.is_end;
      allocated = a.allocated;
      i = s.i;
      at_home = ap (λ (n : ℕ). home n (config_of d.settings).members) a.node_is ∙ s.at_home;
      process = l.process;
      is_process = l.is_process;
      place = l.place;
      link = l.link;
      stands = l.first.lost.stands;
      live = l.first.lost.live;
      last = λ other its ne there live. left.none other its (slice_get-set_other l.process.links l.place other (record l.link { live = false }) ne ∙ there) live;
      is = is;
      failed = left.failed;
    }

late_lost : (d : Dif) (lines : List Direction) (below : Seen) (node number : ℕ) (d' : Dif) → StepsLost d lines below node number d' → Late d lines below d'.flows.journal.ends
unfolding Late
late_lost d lines below node number d' s at end end' fail old is failed =
    let l = s.loses.loses.loses in
    let mid : DifSeen = after_loss d lines below s.i node number d' s.loses in
    let by : Fail = Below l.link.port in
    let kept : slice_get d.flows.journal.ends at ≡ Some end' → end.state ≡ Failed fail = λ there. ap (λ (e : End). e.state) (same_some (slice_get d.flows.journal.ends at) end end' old there) ∙ failed in
    elim s.loses.fails [
      | inl f ↦ elim (failed_ends lines node by (length mid.ends) mid (seen_of d') f.1 at end' is) [
        | inl there ↦ inl (kept there)
        | inr x ↦ inr (inr (below_one d lines below node number d' s at fail f.0 x.0 (failed_so by fail end'.state failed x.1)))
      ]
      | inr k ↦ inl (kept (subst (λ (z : DifSeen). slice_get z.ends at ≡ Some end') k.1 is))
    ]

late_served : (d : Dif) (lines : List Direction) (below mid : Seen) (node : ℕ) (done : ClockStep) (d' : Dif) (lines' : List Direction) (below' : Seen) → Holds d lines below → Serves d lines mid node done d' lines' below' → Late d lines below d'.flows.journal.ends
late_served d lines below mid node done d' lines' below' h (inl flow) = late_flow d lines below node done (seen_of d') lines' h flow.does
late_served d lines below mid node done d' lines' below' h (inr (inr ask)) = (let t = ask.0.times_out.turns_down.turned in late_turned d lines below _ _ (seen_of d') t)
late_served d lines below mid node done d' lines' below' h (inr (inl link)) = late_same d lines below d'.flows.journal.ends (ap (λ (z : Dif). z.flows.journal.ends) link.0.only)

late_any : (d : Dif) (lines : List Direction) (below mid : Seen) (node : ℕ) (done : ClockStep) (d' : Dif) (lines' : List Direction) (below' : Seen) → Holds d lines below → ServesAny d lines mid node done d' lines' below' → Late d lines below d'.flows.journal.ends
late_any d lines below mid node done d' lines' below' h (inl served) = late_served d lines below mid node done d' lines' below' h served.0
late_any d lines below mid node done d' lines' below' h (inr message) = late_same d lines below d'.flows.journal.ends (ap (λ (z : Dif). z.flows.journal.ends) message.0.sends.only)

late_step : (d : Dif) (lines : List Direction) (below : Seen) (node : ℕ) (done : ClockStep) (d' : Dif) (lines' : List Direction) (below' : Seen) → Holds d lines below → Steps d lines below node done d' lines' below' → Late d lines below d'.flows.journal.ends
late_step d lines below node step.Idle d' lines' below' h s = late_any d lines below s.1.mid node step.Idle d' lines' below' h s.1.serves
late_step d lines below node (step.Gone cep) d' lines' below' h s = late_any d lines below s.1.mid node (step.Gone cep) d' lines' below' h s.1.serves
late_step d lines below node (step.GaveUp num) d' lines' below' h s = late_any d lines below s.1.mid node (step.GaveUp num) d' lines' below' h s.1.serves
late_step d lines below node (step.Ack cep) d' lines' below' h s = late_any d lines below s.1.mid node (step.Ack cep) d' lines' below' h s.1.serves
late_step d lines below node (step.Again num) d' lines' below' h s = late_any d lines below s.1.mid node (step.Again num) d' lines' below' h s.1.serves
late_step d lines below node (step.LinkLost link) d' lines' below' h s = late_lost d lines below node link d' s.0
late_step d lines below node (step.LinkNew link) d' lines' below' h s = late_same d lines below d'.flows.journal.ends (ap (λ (z : Dif). z.flows.journal.ends) s.1.takes.only)
late_step d lines below node (step.Timeout port) d' lines' below' h s = late_any d lines below s.1.mid node (step.Timeout port) d' lines' below' h s.1.serves
late_step d lines below node (step.Message link) d' lines' below' h s = late_any d lines below s.1.mid node (step.Message link) d' lines' below' h s.1.serves

pub fails_late : (d : Dif) (lines : List Direction) (below : Seen) (node : ℕ) (r : Result ClockStep StepError) (d' : Dif) (below' : Seen) → Holds d lines below → StepsHere d lines below node r d' below' → FailsLate d lines below d'
unfolding Late
fails_late d lines below node (Ok done) d' below' h s = late_step d lines below node done d' s.lines' below' h s.does
fails_late d lines below node (Err why.Memory) d' below' h s = late_same d lines below d'.flows.journal.ends (ap (λ (z : DifSeen). z.ends) s.0)
fails_late d lines below node (Err why.NoIpc) d' below' h s = absurd s
fails_late d lines below node (Err why.NoLink) d' below' h s = absurd s
fails_late d lines below node (Err (why.CountSpent need left)) d' below' h s = late_same d lines below d'.flows.journal.ends (ap (λ (z : DifSeen). z.ends) s.1)

-- nothing was done
pub fails_none : (d : Dif) (lines : List Direction) (below : Seen) → FailsLate d lines below d
unfolding Late
fails_none d lines below = late_same d lines below d.flows.journal.ends refl

-- The step

at_home : (o : Option ℕ) (i : ℕ) (P : ℕ → Type 0) (Q : Type 0) → o ≡ Some i → P i → AtHome o P Q
at_home o i P Q is p = subst (λ (z : Option ℕ). AtHome z P Q) (sym is) p

not_home : (o : Option ℕ) (P : ℕ → Type 0) (Q : Type 0) → o ≡ None → Q → AtHome o P Q
not_home o P Q is q = subst (λ (z : Option ℕ). AtHome z P Q) (sym is) q

-- whether an allocation failed is not seen
pub noted : (d : Dif) (lines : List Direction) (below : Seen) (failed : Bool) → d.failed ≡ false → Holds d lines below → Holds (record d { failed = failed }) lines below
noted d lines below failed alive h = record { tied = h.tied; standing = h.standing; carrying = h.carrying; numbered = h.numbered; accounted = h.accounted; caused = h.caused; written_off = h.written_off; housed = h.housed; managed = h.managed; enrolled = h.enrolled; connected = h.connected; flooded = λ still. h.flooded alive }

-- it has failed where a step wants memory alone
none_failed : (d' : Dif) (failed : Bool) (done : ClockStep) → d'.failed ≡ false → (failed ≡ true → Ok done ≡ Err why.Memory) → d' ≡ record d' { failed = failed }
none_failed d' true done alive only = (let wants = only refl in absurd cc)
none_failed d' false done alive only = ap (λ (b : Bool). record d' { failed = b }) alive

-- and not where it wants a version count
spent_failed : (d' : Dif) (failed : Bool) (r : Result ClockStep StepError) (need left : ℕ) → r ≡ Err (why.CountSpent need left) → d'.failed ≡ false → (failed ≡ true → r ≡ Err why.Memory) → d' ≡ record d' { failed = failed }
spent_failed d' true r need left spent alive only = (let wants = sym spent ∙ only refl in absurd cc)
spent_failed d' false r need left spent alive only = ap (λ (b : Bool). record d' { failed = b }) alive

steps_by : (d : Dif) (lines : List Direction) (below : Seen) (node i : ℕ) (r : Result ClockStep StepError) (d' : Dif) (below' : Seen) (failed : Bool) → d'.failed ≡ false → (failed ≡ true → r ≡ Err why.Memory) → home node (config_of d.settings).members ≡ Some i → StepsHere d lines below node r d' below' → ManagesStep r (home_of d node) d below node d'.managements → KeepsStep r d node d' → ClockSteps d lines below node r (record d' { failed = failed }) below'
steps_by d lines below node i (Ok done) d' below' failed alive only here s managed keeps = subst (λ (z : Dif). ClockSteps d lines below node (Ok done) z below') (none_failed d' failed done alive only) (record {
  lines' = s.lines';
  does = at_home (home node (config_of d.settings).members) i (λ n. StepsOk d lines below node (Ok done) d' s.lines' below') _ here s.does;
  managed = managed;
  keeps = keeps;
  holds = s.holds;
})
steps_by d lines below node i (Err why.Memory) d' below' failed alive only here s managed keeps = record { lines' = lines; does = (s.0, refl, s.2); managed = managed; keeps = keeps; holds = noted d' lines below' failed alive s.1 }
steps_by d lines below node i (Err why.NoIpc) d' below' failed alive only here s managed keeps = absurd s
steps_by d lines below node i (Err why.NoLink) d' below' failed alive only here s managed keeps = absurd s
steps_by d lines below node i (Err (why.CountSpent need left)) d' below' failed alive only here s managed keeps = record { lines' = lines; does = (s.0, s.1, refl, s.3); managed = managed; keeps = sym (spent_failed d' failed (Err (why.CountSpent need left)) need left refl alive only) ∙ keeps; holds = noted d' lines below' failed alive s.2 }

pub steps_home : (d : Dif) (lines : List Direction) (below : Seen) (node i : ℕ) (r r' : Result ClockStep StepError) (d' : Dif) (below' : Seen) (failed : Bool) → d'.failed ≡ false → (failed ≡ true → r ≡ Err why.Memory) → home node (config_of d.settings).members ≡ Some i → r' ≡ r → StepsHere d lines below node r d' below' → ManagesStep r (Some i) d below node d'.managements → KeepsStep r d node d' → ClockSteps d lines below node r' (record d' { failed = failed }) below'
steps_home d lines below node i r r' d' below' failed alive only here same s managed keeps =
    let there : ManagesStep r (home_of d node) d below node d'.managements = subst (λ (o : Option ℕ). ManagesStep r o d below node d'.managements) (sym here) managed in
    subst (λ (v : Result ClockStep StepError). ClockSteps d lines below node v (record d' { failed = failed }) below') (sym same) (steps_by d lines below node i r d' below' failed alive only here s there keeps)

none_managed : (d : Dif) (below : Seen) (node : ℕ) (o : Option ℕ) → ManagesStep (Err why.Memory) o d below node d.managements
none_managed d below node (Some at) = inl refl
none_managed d below node None = refl

pub steps_none : (d : Dif) (lines : List Direction) (below : Seen) (node : ℕ) → Holds d lines below → ClockSteps d lines below node (Err why.Memory) d below
steps_none d lines below node h = record { lines' = lines; does = (refl, refl, inl refl); managed = none_managed d below node (home_of d node); keeps = refl; holds = h }

pub steps_nowhere : (d : Dif) (lines : List Direction) (below : Seen) (node : ℕ) → home node (config_of d.settings).members ≡ None → Holds d lines below → ClockSteps d lines below node (Err why.NoIpc) d below
steps_nowhere d lines below node none h = record { lines' = lines; does = not_home (home node (config_of d.settings).members) (λ i. StepsOk d lines below node (Err why.NoIpc) d lines below) _ none (refl, refl, refl, refl); managed = refl; keeps = refl; holds = h }
