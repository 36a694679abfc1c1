-- The member handled all that came, or there was nothing to handle.
use Rattle.std.proofs.Common.{◌≡◌, ◌∙◌, ℕ, ◌<◌, List, length, slice_get, Option, Some, ap, refl, subst, sym}
use Rattle.std.specs.Prelude.{IfSome}
use Rattle.std.proofs.lemmas.Option.{slice_get_within}
use Rattle.rina_iface.specs.declared.ends.End.{End}
use Rattle.rina_iface.specs.Journal.{At}
use Rattle.rina_member.specs.declared.management.Management.{Management}
use Rattle.rina_dif.specs.declared.dif.Dif.{Dif}
use Rattle.rina_dif.specs.declared.messages_in.Change.{Change}
use Rattle.rina_dif.specs.declared.messages_in.Handled.{Handled}
use Rattle.rina_dif.specs.Handling.{HandlesAs, HandlesInTurn, IsChange, IsHandled, TellsNodes, or_same, told_of, unpassed_sdus}
use Rattle.rina_dif.specs.Managing.{StayEnrolled}
use Rattle.rina_dif.specs.Routing.{SetsRoutes}
use Rattle.rina_dif.proofs.Enrolled.{nodes_stay}
use Rattle.rina_dif.proofs.Learned.{at_place, handles_after, handles_leave, handles_nothing, stays_enrolled}
use Rattle.rina_dif.proofs.Leaves.{has_process}
use Rattle.rina_dif.proofs.Unlinked.{agent_within, has_agent}
use Rattle.rina_dif.proofs.dif.Dif.handle_messages.Goals as goal

told : (d : Dif) (at number : ℕ) (found : Option Handled) (w : Handled) → found ≡ Some w → IfSome found (IsHandled d at number) → IsHandled d at number w
told d at number found w is h = subst (λ (o : Option Handled). IfSome o (IsHandled d at number)) is h

-- what is told
its_handles : (d : Dif) (at number : ℕ) (w : Handled) (ch : Change) → w.change ≡ Some ch → IsHandled d at number w → (m : Management) (end : End) → slice_get d.managements at ≡ Some m → At d.connections.flows.journal.ends w.place end → HandlesInTurn d.clock number (unpassed_sdus end) m ch.management
its_handles d at number w ch is h m end is_m is_end = subst (λ (o : Option Change). HandlesInTurn d.clock number (unpassed_sdus end) m (or_same m (told_of o))) is (h.handles m end is_m is_end)

its_change : (d : Dif) (at number : ℕ) (w : Handled) (ch : Change) → w.change ≡ Some ch → IsHandled d at number w → IsChange d at ch
its_change d at number w ch is h = subst (λ (o : Option Change). IfSome o (IsChange d at)) is h.changes

pub pass_messages-requires-clause-stands : goal.pass_messages-requires-clause-stands
pass_messages-requires-clause-stands c = (c.requires.stands.0, c.requires.stands.1.1.connected)

pub pass_messages-requires-clause-place : goal.pass_messages-requires-clause-place
pass_messages-requires-clause-place c =
    let w = told c.args.self.now c.args.at c.args.number c.args.handled c.in-Some.handled c.in-Some.is c.requires.handled in
    at_place c.args.self.now c.args.at c.in-Some.handled.place c.args.number w.here c.requires.at

pub set_routes-requires : goal.set_routes-requires
set_routes-requires c =
    let p = has_process c.args.self.now c.requires.stands.0 c.args.at c.requires.stands.1 c.requires.at in
    subst (λ (d : Dif). c.args.at < length d.processes) (sym c.pass_messages.ensures.whole) (slice_get_within c.args.self.now.processes c.args.at p.0 p.1)

pub set-requires : goal.set-requires
set-requires c = subst (λ (d : Dif). c.args.at < length d.managements) (sym c.pass_messages.ensures.whole) (agent_within c.args.self.now c.requires.stands.0 c.args.at c.requires.at c.requires.stands.1)

pub returns-in_default-clause-does : goal.returns-in_default-clause-does
returns-in_default-clause-does c = λ lines below h. subst (λ (o : Option Handled). HandlesAs c.args.self.now lines below c.args.at c.args.number o c.args.self.now) (sym c.in_default.is) refl

-- It is as it was

pub returns-in_default-change-clause-does : goal.returns-in_default-change-clause-does
returns-in_default-change-clause-does c = λ lines below h.
    let d = c.args.self.now in
    let w = c.in-Some.handled in
    let is = told d c.args.at c.args.number c.args.handled w c.in-Some.is c.requires.handled in
    subst (λ (o : Option Handled). HandlesAs d lines below c.args.at c.args.number o c.pass_messages.new.self) (sym c.in-Some.is)
    (handles_nothing d c.args.at w.place c.args.number is.here c.requires.at c.what_comes_was_made_by_a_member.ensures c.requires.alive c.pass_messages.new.self
    (λ m end is_m is_end. subst (λ (o : Option Change). HandlesInTurn d.clock c.args.number (unpassed_sdus end) m (or_same m (told_of o))) c.in_default-change.is (is.handles m end is_m is_end))
    c.pass_messages.ensures.passes c.pass_messages.ensures.stand c.pass_messages.ensures.whole lines below h)

-- Others are enrolled

pub returns-in-Some-enrolled-clause-does : goal.returns-in-Some-enrolled-clause-does
returns-in-Some-enrolled-clause-does c = λ lines below h.
    let d = c.args.self.now in
    let w = c.in-Some.handled in
    let is = told d c.args.at c.args.number c.args.handled w c.in-Some.is c.requires.handled in
    let ch = c.in-Some-change.change in
    let own = its_change d c.args.at c.args.number w ch c.in-Some-change.is is in
    let nodes = subst (λ (o : Option (List ℕ)). TellsNodes d c.args.at ch.management o) c.in-Some-enrolled.is own.enrolled in
    subst (λ (ns : List ℕ). HandlesAs d lines below c.args.at c.args.number c.args.handled (record c.pass_messages.new.self { processes = c.set_routes.new.self; managements = c.set.new.self; enrolled = ns })) (sym c.in-Some-enrolled.nodes-is)
    (subst (λ (o : Option Handled). HandlesAs d lines below c.args.at c.args.number o (record c.pass_messages.new.self { processes = c.set_routes.new.self; managements = c.set.new.self; enrolled = c.in-Some-enrolled.nodes })) (sym c.in-Some.is)
    (handles_after d c.args.at w.place c.args.number is.here c.requires.at c.what_comes_was_made_by_a_member.ensures c.requires.alive ch.management ch.routes c.pass_messages.new.self c.set.new.self c.set_routes.new.self c.in-Some-enrolled.nodes
    (its_handles d c.args.at c.args.number w ch c.in-Some-change.is is) own.routes c.pass_messages.ensures.passes c.pass_messages.ensures.stand c.pass_messages.ensures.whole c.set_routes.ensures c.set.ensures nodes lines below h))

pub returns-in-Some-enrolled-clause-enrolled : goal.returns-in-Some-enrolled-clause-enrolled
returns-in-Some-enrolled-clause-enrolled c =
    let d = c.args.self.now in
    let w = c.in-Some.handled in
    let is = told d c.args.at c.args.number c.args.handled w c.in-Some.is c.requires.handled in
    let ch = c.in-Some-change.change in
    let own = its_change d c.args.at c.args.number w ch c.in-Some-change.is is in
    let nodes = subst (λ (o : Option (List ℕ)). TellsNodes d c.args.at ch.management o) c.in-Some-enrolled.is own.enrolled in
    subst (λ (ns : List ℕ). StayEnrolled d.enrolled ns) (sym (c.in-Some-enrolled.nodes-is ∙ nodes))
    (stays_enrolled d c.args.at w.place c.args.number is.here c.requires.at c.what_comes_was_made_by_a_member.ensures c.requires.alive c.requires.stands ch.management (its_handles d c.args.at c.args.number w ch c.in-Some-change.is is))

pub returns-in-Some-enrolled-clause-leaves : goal.returns-in-Some-enrolled-clause-leaves
returns-in-Some-enrolled-clause-leaves c =
    let d = c.args.self.now in
    let w = c.in-Some.handled in
    let is = told d c.args.at c.args.number c.args.handled w c.in-Some.is c.requires.handled in
    let ch = c.in-Some-change.change in
    let own = its_change d c.args.at c.args.number w ch c.in-Some-change.is is in
    handles_leave d c.args.at w.place c.args.number is.here c.requires.at c.requires.stands ch.routes c.set_routes.new.self
    (subst (λ (z : Dif). SetsRoutes c.args.at ch.routes z.processes c.set_routes.new.self) c.pass_messages.ensures.whole c.set_routes.ensures)

-- The same are

pub returns-in_default-enrolled-clause-does : goal.returns-in_default-enrolled-clause-does
returns-in_default-enrolled-clause-does c = λ lines below h.
    let d = c.args.self.now in
    let w = c.in-Some.handled in
    let is = told d c.args.at c.args.number c.args.handled w c.in-Some.is c.requires.handled in
    let ch = c.in-Some-change.change in
    let own = its_change d c.args.at c.args.number w ch c.in-Some-change.is is in
    let g = has_agent d lines below c.args.at c.requires.at h in
    let same = subst (λ (o : Option (List ℕ)). TellsNodes d c.args.at ch.management o) c.in_default-enrolled.is own.enrolled in
    let nodes = ap (λ (z : Dif). z.enrolled) c.pass_messages.ensures.whole ∙ nodes_stay d c.args.at g.0 ch.management h.enrolled g.1 (same g.0 g.1) in
    subst (λ (o : Option Handled). HandlesAs d lines below c.args.at c.args.number o (record c.pass_messages.new.self { processes = c.set_routes.new.self; managements = c.set.new.self })) (sym c.in-Some.is)
    (handles_after d c.args.at w.place c.args.number is.here c.requires.at c.what_comes_was_made_by_a_member.ensures c.requires.alive ch.management ch.routes c.pass_messages.new.self c.set.new.self c.set_routes.new.self c.pass_messages.new.self.enrolled
    (its_handles d c.args.at c.args.number w ch c.in-Some-change.is is) own.routes c.pass_messages.ensures.passes c.pass_messages.ensures.stand c.pass_messages.ensures.whole c.set_routes.ensures c.set.ensures nodes lines below h)

pub returns-in_default-enrolled-clause-leaves : goal.returns-in_default-enrolled-clause-leaves
returns-in_default-enrolled-clause-leaves c =
    let d = c.args.self.now in
    let w = c.in-Some.handled in
    let is = told d c.args.at c.args.number c.args.handled w c.in-Some.is c.requires.handled in
    let ch = c.in-Some-change.change in
    let own = its_change d c.args.at c.args.number w ch c.in-Some-change.is is in
    handles_leave d c.args.at w.place c.args.number is.here c.requires.at c.requires.stands ch.routes c.set_routes.new.self
    (subst (λ (z : Dif). SetsRoutes c.args.at ch.routes z.processes c.set_routes.new.self) c.pass_messages.ensures.whole c.set_routes.ensures)
