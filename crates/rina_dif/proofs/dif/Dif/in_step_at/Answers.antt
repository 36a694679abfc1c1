use Rattle.std.proofs.Common.{◌<◌, ◌∙◌, length, sym, ap, option_map, refl, Some, Ok, Err, Result, subst}
use Rattle.std.proofs.lemmas.Result.{err_from_is_err_and}
use Rattle.rina_data.specs.Hops.{hop_of}
use Rattle.rina_data.specs.Deciding.{process_of}
use Rattle.rina_data.specs.declared.settings.Settings.{Settings}
use Rattle.rina_data.specs.declared.step.InStep.{InStep}
use Rattle.rina_data.specs.declared.step.InStep.TheVariants as in_
use Rattle.rina_data.specs.declared.step.StepError.{StepError}
use Rattle.rina_data.specs.declared.step.StepError.TheVariants.{Memory as MemoryWanted}
use Rattle.rina_base.specs.Pdus.{key_of}
use Rattle.rina_channel.proofs.Going.{live_by}
use Rattle.rina_dif.specs.Shown.{seen_of}
use Rattle.rina_dif.proofs.Brought.{brought}
use Rattle.rina_dif.proofs.Beside.{stands_whole}
use Rattle.rina_dif.proofs.Elsewhere.{in_failed, in_handled, in_took, none_changed}
use Rattle.rina_dif.proofs.FlowWalk.{leaves_on}
use Rattle.rina_dif.proofs.Leaves.{shown_at}
use Rattle.rina_dif.specs.declared.dif.Dif.{Dif}
use Rattle.rina_dif.specs.Elsewhere.{ChangesOnly, MayTake}
use Rattle.rina_dif.proofs.Taken.{comes_there, handled_holds, handled_silent, lacks_told, link_at, never_closed, no_link, none_waits, oldest_there, took_and_handled, took_it, took_none}
use Rattle.rina_dif.proofs.dif.Dif.in_step_at.Goals as goal

pub returns-in_default-live_link-clause-does : goal.returns-in_default-live_link-clause-does
returns-in_default-live_link-clause-does g c = λ lines h.
    let d = c.args.self.now in
    let below = g.F.Facility.seen c.args.below.now in
    let at = c.args.at in
    let n = c.args.link in
    let p = c.in-Some.process.now in
    let looked = link_at p c.as_slice.result.now n c.live_link.result c.as_slice.ensures c.live_link.ensures in
    no_link d lines below at n p c.in-Some.ensures (looked ∙ c.in_default-live_link.is) h

pub returns-in_default-peek-clause-does : goal.returns-in_default-peek-clause-does
returns-in_default-peek-clause-does g c = λ lines h.
    let d = c.args.self.now in
    let below = g.F.Facility.seen c.args.below.now in
    let at = c.args.at in
    let n = c.args.link in
    let p = c.in-Some.process.now in
    let looked = link_at p c.as_slice.result.now n c.live_link.result c.as_slice.ensures c.live_link.ensures in
    let link = c.in-Some-live_link.live in
    let is_link = looked ∙ c.in-Some-live_link.is in
    none_waits d lines below at n p link c.in-Some.ensures is_link c.in_default-peek.ensures h

pub unreachable-requires-in_default-open : goal.unreachable-requires-in_default-open
unreachable-requires-in_default-open g c =
    let d = c.args.self.now in
    let below = g.F.Facility.seen c.args.below.now in
    let at = c.args.at in
    let n = c.args.link in
    let p = c.in-Some.process.now in
    let looked = link_at p c.as_slice.result.now n c.live_link.result c.as_slice.ensures c.live_link.ensures in
    let link = c.in-Some-live_link.live in
    let is_link = looked ∙ c.in-Some-live_link.is in
    let kept = g.met.F.Facility.kept c.args.below.now c.requires.valid in
    let lent = c.in-Some-peek.lent in
    never_closed d c.requires.stands.0 below at n p link lent.at lent.bytes.now kept c.requires.at c.requires.stands.1 c.in-Some.ensures is_link c.in-Some-peek.ensures (ap (option_map hop_of) (sym c.in_default-open.is) ∙ c.open.ensures.exact)

pub settle-requires-clause-comes : goal.settle-requires-clause-comes
settle-requires-clause-comes g c =
    let d = c.args.self.now in
    let below = g.F.Facility.seen c.args.below.now in
    let at = c.args.at in
    let n = c.args.link in
    let p = c.in-Some.process.now in
    let looked = link_at p c.as_slice.result.now n c.live_link.result c.as_slice.ensures c.live_link.ensures in
    let link = c.in-Some-live_link.live in
    let is_link = looked ∙ c.in-Some-live_link.is in
    let kept = g.met.F.Facility.kept c.args.below.now c.requires.valid in
    let lent = c.in-Some-peek.lent in
    let hop = hop_of c.in-Some-open.hop in
    let opens = ap (option_map hop_of) (sym c.in-Some-open.is) ∙ c.open.ensures.exact in
    (c.requires.stands.0, below, c.requires.stands.1, comes_there d c.requires.stands.0 below at n p link lent.at lent.bytes.now hop kept c.requires.at c.requires.stands.1 c.in-Some.ensures is_link c.in-Some-peek.ensures opens)

pub handled_ahead-requires-clause-stands : goal.handled_ahead-requires-clause-stands
handled_ahead-requires-clause-stands g c = (g.F.Facility.seen c.args.below.now, c.requires.stands)

pub returns-in-Err-Memory-clause-does : goal.returns-in-Err-Memory-clause-does
returns-in-Err-Memory-clause-does g c = λ lines h. took_none c.args.self.now lines (g.F.Facility.seen c.args.below.now) c.args.at c.args.link c.args.self.now MemoryWanted (Err MemoryWanted) refl refl (refl, h, refl) refl refl

pub returns-in-Err-CountSpent-clause-does : goal.returns-in-Err-CountSpent-clause-does
returns-in-Err-CountSpent-clause-does g c = λ lines h.
    let d = c.args.self.now in
    let below = g.F.Facility.seen c.args.below.now in
    let at = c.args.at in
    let n = c.args.link in
    let p = c.in-Some.process.now in
    let looked = link_at p c.as_slice.result.now n c.live_link.result c.as_slice.ensures c.live_link.ensures in
    let link = c.in-Some-live_link.live in
    let is_link = looked ∙ c.in-Some-live_link.is in
    let lent = c.in-Some-peek.lent in
    let hop = hop_of c.in-Some-open.hop in
    let opens = ap (option_map hop_of) (sym c.in-Some-open.is) ∙ c.open.ensures.exact in
    let oldest = oldest_there d below link.port lent.at lent.bytes.now hop c.in-Some-peek.ensures opens in
    lacks_told d lines below at n lent.at p link hop c.in-Err-CountSpent.field-0 c.in-Err-CountSpent.need c.in-Err-CountSpent.left _ _ c.in-Err-CountSpent.field-0-is c.in-Err-CountSpent.need-is c.in-Err-CountSpent.left-is c.in-Some.ensures is_link oldest c.in-Err-CountSpent.ensures h

pub returns-in_err-end-clause-does : goal.returns-in_err-end-clause-does
returns-in_err-end-clause-does g c = λ lines h.
    let d = c.args.self.now in
    let below = g.F.Facility.seen c.args.below.now in
    let at = c.args.at in
    let n = c.args.link in
    let p = c.in-Some.process.now in
    let looked = link_at p c.as_slice.result.now n c.live_link.result c.as_slice.ensures c.live_link.ensures in
    let link = c.in-Some-live_link.live in
    let is_link = looked ∙ c.in-Some-live_link.is in
    let kept = g.met.F.Facility.kept c.args.below.now c.requires.valid in
    let lent = c.in-Some-peek.lent in
    let hop = hop_of c.in-Some-open.hop in
    let opens = ap (option_map hop_of) (sym c.in-Some-open.is) ∙ c.open.ensures.exact in
    let there = comes_there d lines below at n p link lent.at lent.bytes.now hop kept c.requires.at h c.in-Some.ensures is_link c.in-Some-peek.ensures opens in
    let err = err_from_is_err_and c.from_residual-in_err-end.result c.from_residual-in_err-end.ensures.1 in
    took_none d lines below at n c.settle.new.self err.0 c.from_residual-in_err-end.result err.2 err.1 (c.in_err-end.ensures.does lines below h kept there (oldest_there d below link.port lent.at lent.bytes.now hop c.in-Some-peek.ensures opens)) (ap (λ (z : Dif). z.managements) c.in_err-end.ensures.whole) (ap (λ (z : Dif). z.asks) c.in_err-end.ensures.whole)

pub handle_messages-requires-clause-stands : goal.handle_messages-requires-clause-stands
handle_messages-requires-clause-stands g c =
    let d = c.args.self.now in
    let below = g.F.Facility.seen c.args.below.now in
    let at = c.args.at in
    let n = c.args.link in
    let p = c.in-Some.process.now in
    let looked = link_at p c.as_slice.result.now n c.live_link.result c.as_slice.ensures c.live_link.ensures in
    let link = c.in-Some-live_link.live in
    let is_link = looked ∙ c.in-Some-live_link.is in
    let kept = g.met.F.Facility.kept c.args.below.now c.requires.valid in
    let lent = c.in-Some-peek.lent in
    let hop = hop_of c.in-Some-open.hop in
    let opens = ap (option_map hop_of) (sym c.in-Some-open.is) ∙ c.open.ensures.exact in
    let st = c.requires.stands in
    let there = comes_there d st.0 below at n p link lent.at lent.bytes.now hop kept c.requires.at st.1 c.in-Some.ensures is_link c.in-Some-peek.ensures opens in
    let kept' = g.met.F.Facility.kept c.pass.new.self c.pass.ensures.valid in
    let t = took_it d st.0 below at n p link lent.at lent.bytes.now hop c.key-key.result c.in_ok-end.end c.settle.new.self (g.F.Facility.seen c.pass.new.self) kept kept' c.requires.at st.1 c.in-Some.ensures is_link c.in-Some-peek.ensures opens c.key-key.ensures there c.in_ok-end.ensures.does c.pass.ensures.does in
    (g.F.Facility.seen c.pass.new.self, (t.lines', t.holds))

pub handle_messages-requires-clause-alive : goal.handle_messages-requires-clause-alive
handle_messages-requires-clause-alive g c = c.in_ok-end.ensures.failed ∙ c.requires.alive

pub handle_messages-requires-clause-at : goal.handle_messages-requires-clause-at
handle_messages-requires-clause-at g c = subst (λ (s : Settings). c.args.at < length s.members) (sym c.in_ok-end.ensures.settings) c.requires.at

pub handle_messages-requires-clause-handled : goal.handle_messages-requires-clause-handled
handle_messages-requires-clause-handled g c =
    let d = c.args.self.now in
    let below = g.F.Facility.seen c.args.below.now in
    let at = c.args.at in
    let n = c.args.link in
    let p = c.in-Some.process.now in
    let looked = link_at p c.as_slice.result.now n c.live_link.result c.as_slice.ensures c.live_link.ensures in
    let link = c.in-Some-live_link.live in
    let is_link = looked ∙ c.in-Some-live_link.is in
    let kept = g.met.F.Facility.kept c.args.below.now c.requires.valid in
    let lent = c.in-Some-peek.lent in
    let hop = hop_of c.in-Some-open.hop in
    let opens = ap (option_map hop_of) (sym c.in-Some-open.is) ∙ c.open.ensures.exact in
    let st = c.requires.stands in
    let there = comes_there d st.0 below at n p link lent.at lent.bytes.now hop kept c.requires.at st.1 c.in-Some.ensures is_link c.in-Some-peek.ensures opens in
    let oldest = oldest_there d below link.port lent.at lent.bytes.now hop c.in-Some-peek.ensures opens in
    let live = live_by (seen_of d).processes at n (process_of p) link (shown_at d at p c.in-Some.ensures) is_link in
    brought d at n lent.at link.port hop st.0 below st.1 kept oldest there c.requires.at live c.in_ok-end.end c.settle.new.self c.in_ok-end.ensures.does c.in_ok-end.ensures.whole c.in-Ok.handled c.in-Ok.ensures

-- the DIF holds behind the messages of neighbours
pub take_messages-requires-clause-valid : goal.take_messages-requires-clause-valid
take_messages-requires-clause-valid g c =
    let d = c.args.self.now in
    let below = g.F.Facility.seen c.args.below.now in
    let at = c.args.at in
    let n = c.args.link in
    let p = c.in-Some.process.now in
    let looked = link_at p c.as_slice.result.now n c.live_link.result c.as_slice.ensures c.live_link.ensures in
    let link = c.in-Some-live_link.live in
    let is_link = looked ∙ c.in-Some-live_link.is in
    let kept = g.met.F.Facility.kept c.args.below.now c.requires.valid in
    let lent = c.in-Some-peek.lent in
    let hop = hop_of c.in-Some-open.hop in
    let opens = ap (option_map hop_of) (sym c.in-Some-open.is) ∙ c.open.ensures.exact in
    let there = comes_there d c.requires.stands.0 below at n p link lent.at lent.bytes.now hop kept c.requires.at c.requires.stands.1 c.in-Some.ensures is_link c.in-Some-peek.ensures opens in
    let oldest = oldest_there d below link.port lent.at lent.bytes.now hop c.in-Some-peek.ensures opens in
    let kept' = g.met.F.Facility.kept c.pass.new.self c.pass.ensures.valid in
    let t = took_it d c.requires.stands.0 below at n p link lent.at lent.bytes.now hop c.key-key.result c.in_ok-end.end c.settle.new.self (g.F.Facility.seen c.pass.new.self) kept kept' c.requires.at c.requires.stands.1 c.in-Some.ensures is_link c.in-Some-peek.ensures opens c.key-key.ensures there c.in_ok-end.ensures.does c.pass.ensures.does in
    let m = handled_holds d c.requires.stands.0 below at n c.key-key.result c.in_ok-end.end c.settle.new.self (g.F.Facility.seen c.pass.new.self) c.in-Ok.handled c.handle_messages.new.self t c.handle_messages.ensures.does in
    stands_whole c.handle_messages.new.self (g.F.Facility.seen c.pass.new.self) (g.met.F.Facility.clock_ends c.pass.new.self c.pass.ensures.valid) m

pub take_messages-requires-clause-at : goal.take_messages-requires-clause-at
take_messages-requires-clause-at g c = subst (λ (s : Settings). c.args.at < length s.members) (sym (ap (λ (z : Dif). z.settings) c.handle_messages.ensures.whole ∙ c.in_ok-end.ensures.settings)) c.requires.at

pub flow_messages_ahead-requires : goal.flow_messages_ahead-requires
flow_messages_ahead-requires g c = record { valid = stands_whole c.args.self.now (g.F.Facility.seen c.args.below.now) (g.met.F.Facility.clock_ends c.args.below.now c.requires.valid) c.requires.stands }

pub returns-in_err-messages-clause-does : goal.returns-in_err-messages-clause-does
returns-in_err-messages-clause-does g c = λ lines h.
    let err = err_from_is_err_and c.from_residual.result c.from_residual.ensures.1 in
    took_none c.args.self.now lines (g.F.Facility.seen c.args.below.now) c.args.at c.args.link c.args.self.now err.0 c.from_residual.result err.2 err.1 (refl, h, refl) refl refl

pub returns-in_err-take_messages-clause-does : goal.returns-in_err-take_messages-clause-does
returns-in_err-take_messages-clause-does g c = λ lines h.
    let d = c.args.self.now in
    let below = g.F.Facility.seen c.args.below.now in
    let at = c.args.at in
    let n = c.args.link in
    let p = c.in-Some.process.now in
    let looked = link_at p c.as_slice.result.now n c.live_link.result c.as_slice.ensures c.live_link.ensures in
    let link = c.in-Some-live_link.live in
    let is_link = looked ∙ c.in-Some-live_link.is in
    let kept = g.met.F.Facility.kept c.args.below.now c.requires.valid in
    let lent = c.in-Some-peek.lent in
    let hop = hop_of c.in-Some-open.hop in
    let opens = ap (option_map hop_of) (sym c.in-Some-open.is) ∙ c.open.ensures.exact in
    let there = comes_there d lines below at n p link lent.at lent.bytes.now hop kept c.requires.at h c.in-Some.ensures is_link c.in-Some-peek.ensures opens in
    let oldest = oldest_there d below link.port lent.at lent.bytes.now hop c.in-Some-peek.ensures opens in
    let kept' = g.met.F.Facility.kept c.pass.new.self c.pass.ensures.valid in
    let t = took_it d lines below at n p link lent.at lent.bytes.now hop c.key-key.result c.in_ok-end.end c.settle.new.self (g.F.Facility.seen c.pass.new.self) kept kept' c.requires.at h c.in-Some.ensures is_link c.in-Some-peek.ensures opens c.key-key.ensures there c.in_ok-end.ensures.does c.pass.ensures.does in
    let err = err_from_is_err_and c.from_residual-in_err-take_messages.result c.from_residual-in_err-take_messages.ensures.1 in
    took_and_handled d lines below at n lent.at p link hop c.key-key.result c.in_ok-end.end c.settle.new.self (g.F.Facility.seen c.pass.new.self) c.in-Ok.handled c.handle_messages.new.self c.in_ok-messages.messages.items (Err c.in_err-take_messages.field-0.0) c.from_residual-in_err-take_messages.result c.take_messages.new.self c.in-Some.ensures is_link oldest t c.in-Ok.ensures c.handle_messages.ensures.does (ap (λ (z : Dif). z.managements) c.in_ok-end.ensures.whole) (ap (λ (z : Dif). z.asks) c.in_ok-end.ensures.whole) c.in_ok-messages.ensures c.in_err-take_messages.ensures.does (ap (λ (z : Dif). z.failed) c.in_err-take_messages.ensures.whole) (err.1 ∙ ap (λ (e : StepError). Err e) err.2)

pub returns-clause-does : goal.returns-clause-does
returns-clause-does g c = λ lines h.
    let d = c.args.self.now in
    let below = g.F.Facility.seen c.args.below.now in
    let at = c.args.at in
    let n = c.args.link in
    let p = c.in-Some.process.now in
    let looked = link_at p c.as_slice.result.now n c.live_link.result c.as_slice.ensures c.live_link.ensures in
    let link = c.in-Some-live_link.live in
    let is_link = looked ∙ c.in-Some-live_link.is in
    let kept = g.met.F.Facility.kept c.args.below.now c.requires.valid in
    let lent = c.in-Some-peek.lent in
    let hop = hop_of c.in-Some-open.hop in
    let opens = ap (option_map hop_of) (sym c.in-Some-open.is) ∙ c.open.ensures.exact in
    let there = comes_there d lines below at n p link lent.at lent.bytes.now hop kept c.requires.at h c.in-Some.ensures is_link c.in-Some-peek.ensures opens in
    let oldest = oldest_there d below link.port lent.at lent.bytes.now hop c.in-Some-peek.ensures opens in
    let kept' = g.met.F.Facility.kept c.pass.new.self c.pass.ensures.valid in
    let t = took_it d lines below at n p link lent.at lent.bytes.now hop c.key-key.result c.in_ok-end.end c.settle.new.self (g.F.Facility.seen c.pass.new.self) kept kept' c.requires.at h c.in-Some.ensures is_link c.in-Some-peek.ensures opens c.key-key.ensures there c.in_ok-end.ensures.does c.pass.ensures.does in
    took_and_handled d lines below at n lent.at p link hop c.key-key.result c.in_ok-end.end c.settle.new.self (g.F.Facility.seen c.pass.new.self) c.in-Ok.handled c.handle_messages.new.self c.in_ok-messages.messages.items (Ok tt) _ c.take_messages.new.self c.in-Some.ensures is_link oldest t c.in-Ok.ensures c.handle_messages.ensures.does (ap (λ (z : Dif). z.managements) c.in_ok-end.ensures.whole) (ap (λ (z : Dif). z.asks) c.in_ok-end.ensures.whole) c.in_ok-messages.ensures c.in_ok-take_messages.ensures.does (ap (λ (z : Dif). z.failed) c.in_ok-take_messages.ensures.whole) refl

pub returns-in_err-messages-clause-leaves : goal.returns-in_err-messages-clause-leaves
returns-in_err-messages-clause-leaves g c =
    let err = err_from_is_err_and c.from_residual.result c.from_residual.ensures.1 in
    in_failed c.from_residual.result err.0 c.args.self.now c.args.self.now (Some c.args.at) err.1 (none_changed (Some c.args.at) c.args.self.now c.args.self.now refl)

pub returns-in_err-end-clause-leaves : goal.returns-in_err-end-clause-leaves
returns-in_err-end-clause-leaves g c =
    let err = err_from_is_err_and c.from_residual-in_err-end.result c.from_residual-in_err-end.ensures.1 in
    in_failed c.from_residual-in_err-end.result err.0 c.args.self.now c.settle.new.self (Some c.args.at) err.1 c.in_err-end.ensures.leaves

pub returns-in_err-take_messages-clause-leaves : goal.returns-in_err-take_messages-clause-leaves
returns-in_err-take_messages-clause-leaves g c =
    let err = err_from_is_err_and c.from_residual-in_err-take_messages.result c.from_residual-in_err-take_messages.ensures.1 in
    let d = c.args.self.now in
    let below = g.F.Facility.seen c.args.below.now in
    let at = c.args.at in
    let n = c.args.link in
    let p = c.in-Some.process.now in
    let looked = link_at p c.as_slice.result.now n c.live_link.result c.as_slice.ensures c.live_link.ensures in
    let link = c.in-Some-live_link.live in
    let is_link = looked ∙ c.in-Some-live_link.is in
    let kept = g.met.F.Facility.kept c.args.below.now c.requires.valid in
    let lent = c.in-Some-peek.lent in
    let hop = hop_of c.in-Some-open.hop in
    let opens = ap (option_map hop_of) (sym c.in-Some-open.is) ∙ c.open.ensures.exact in
    let there = comes_there d c.requires.stands.0 below at n p link lent.at lent.bytes.now hop kept c.requires.at c.requires.stands.1 c.in-Some.ensures is_link c.in-Some-peek.ensures opens in
    let oldest = oldest_there d below link.port lent.at lent.bytes.now hop c.in-Some-peek.ensures opens in
    let kept' = g.met.F.Facility.kept c.pass.new.self c.pass.ensures.valid in
    let t = took_it d c.requires.stands.0 below at n p link lent.at lent.bytes.now hop c.key-key.result c.in_ok-end.end c.settle.new.self (g.F.Facility.seen c.pass.new.self) kept kept' c.requires.at c.requires.stands.1 c.in-Some.ensures is_link c.in-Some-peek.ensures opens c.key-key.ensures there c.in_ok-end.ensures.does c.pass.ensures.does in
    let mid = c.handle_messages.new.self in
    let silent = handled_silent d c.requires.stands.0 below at n c.key-key.result c.in_ok-end.end c.settle.new.self (g.F.Facility.seen c.pass.new.self) c.in-Ok.handled mid c.requires.stands.1 t c.handle_messages.ensures.does in
    let before = in_handled (in_.Took c.key-key.result c.in_ok-end.end) d c.settle.new.self mid at (in_took (key_of hop.pdu) c.key-key.result c.in_ok-end.end d c.settle.new.self (Some at) c.key-key.ensures c.in_ok-end.ensures.leaves) c.handle_messages.ensures.whole c.handle_messages.ensures.leaves in
    subst (λ (r : Result InStep StepError). ChangesOnly (MayTake r d (Some at)) (Some at) d c.take_messages.new.self) (sym (err.1 ∙ ap (λ (e : StepError). Err e) err.2))
    (leaves_on d mid c.take_messages.new.self (Some at) silent (ap (λ (z : Dif). z.settings) c.handle_messages.ensures.whole ∙ c.in_ok-end.ensures.settings) before c.in_err-take_messages.ensures.leaves)

pub returns-clause-leaves : goal.returns-clause-leaves
returns-clause-leaves g c =
    let d = c.args.self.now in
    let below = g.F.Facility.seen c.args.below.now in
    let at = c.args.at in
    let n = c.args.link in
    let p = c.in-Some.process.now in
    let looked = link_at p c.as_slice.result.now n c.live_link.result c.as_slice.ensures c.live_link.ensures in
    let link = c.in-Some-live_link.live in
    let is_link = looked ∙ c.in-Some-live_link.is in
    let kept = g.met.F.Facility.kept c.args.below.now c.requires.valid in
    let lent = c.in-Some-peek.lent in
    let hop = hop_of c.in-Some-open.hop in
    let opens = ap (option_map hop_of) (sym c.in-Some-open.is) ∙ c.open.ensures.exact in
    let there = comes_there d c.requires.stands.0 below at n p link lent.at lent.bytes.now hop kept c.requires.at c.requires.stands.1 c.in-Some.ensures is_link c.in-Some-peek.ensures opens in
    let oldest = oldest_there d below link.port lent.at lent.bytes.now hop c.in-Some-peek.ensures opens in
    let kept' = g.met.F.Facility.kept c.pass.new.self c.pass.ensures.valid in
    let t = took_it d c.requires.stands.0 below at n p link lent.at lent.bytes.now hop c.key-key.result c.in_ok-end.end c.settle.new.self (g.F.Facility.seen c.pass.new.self) kept kept' c.requires.at c.requires.stands.1 c.in-Some.ensures is_link c.in-Some-peek.ensures opens c.key-key.ensures there c.in_ok-end.ensures.does c.pass.ensures.does in
    let mid = c.handle_messages.new.self in
    let silent = handled_silent d c.requires.stands.0 below at n c.key-key.result c.in_ok-end.end c.settle.new.self (g.F.Facility.seen c.pass.new.self) c.in-Ok.handled mid c.requires.stands.1 t c.handle_messages.ensures.does in
    let before = in_handled (in_.Took c.key-key.result c.in_ok-end.end) d c.settle.new.self mid at (in_took (key_of hop.pdu) c.key-key.result c.in_ok-end.end d c.settle.new.self (Some at) c.key-key.ensures c.in_ok-end.ensures.leaves) c.handle_messages.ensures.whole c.handle_messages.ensures.leaves in
    leaves_on d mid c.take_messages.new.self (Some at) silent (ap (λ (z : Dif). z.settings) c.handle_messages.ensures.whole ∙ c.in_ok-end.ensures.settings) before c.in_ok-take_messages.ensures.leaves
