use Rattle.std.proofs.Common.{None, Some, refl}
use Rattle.rina_dif.proofs.Claimed.{claimed_goes_on, claimed_stays, claimed_whole, claims_none, claims_some, never_missing, oldest_is, taken_out}
use Rattle.rina_dif.proofs.Facing.{same_goes_on}
use Rattle.rina_dif.proofs.dif.Dif.incoming.Goals as goal

pub returns-in_err-at-clause-shown : goal.returns-in_err-at-clause-shown
returns-in_err-at-clause-shown c = λ s n h.
    let d = c.args.self.now in
    let none = oldest_is d.flows.journal.ends c.as_slice.result.now d.waiting.items c.args.node c.args.app.now c.oldest.result None c.as_slice.ensures.value c.oldest.ensures.at c.in_err-at.was in
    rw c.from_residual.ensures (claims_none s n d c.args.node c.args.app.now none h)

pub returns-in_err-at-clause-goes_on : goal.returns-in_err-at-clause-goes_on
returns-in_err-at-clause-goes_on c = same_goes_on c.args.self.now c.args.self.now c.requires refl

pub unreachable-requires : goal.unreachable-requires
unreachable-requires c =
    let d = c.args.self.now in
    let oldest = oldest_is d.flows.journal.ends c.as_slice.result.now d.waiting.items c.args.node c.args.app.now c.oldest.result (Some c.in_ok-at.at) c.as_slice.ensures.value c.oldest.ensures.at c.in_ok-at.was in
    never_missing d.flows.journal.ends d.waiting.items c.args.node c.args.app.now c.in_ok-at.at c.remove-place.result oldest c.remove-place.ensures.value c.in_default.ensures

pub returns-clause-valid : goal.returns-clause-valid
returns-clause-valid c = claimed_whole c.args.self.now c.remove-place.new.self c.requires

pub returns-clause-shown : goal.returns-clause-shown
returns-clause-shown c = λ s n h.
    let d = c.args.self.now in
    let oldest = oldest_is d.flows.journal.ends c.as_slice.result.now d.waiting.items c.args.node c.args.app.now c.oldest.result (Some c.in_ok-at.at) c.as_slice.ensures.value c.oldest.ensures.at c.in_ok-at.was in
    let waits = taken_out d.flows.journal.ends d.waiting.items c.args.node c.args.app.now c.in_ok-at.at c.remove-place.result oldest c.remove-place.ensures.value in
    claims_some s n d c.args.node c.args.app.now c.in_ok-at.at c.remove-place.result c.in-Some.end.now c.remove-place.new.self oldest waits c.in-Some.ensures c.remove-place.ensures.items h

pub returns-clause-goes_on : goal.returns-clause-goes_on
returns-clause-goes_on c = claimed_goes_on c.args.self.now c.remove-place.new.self c.requires

pub returns-clause-stands : goal.returns-clause-stands
returns-clause-stands c = claimed_stays c.args.self.now c.remove-place.new.self
