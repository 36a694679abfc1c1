use Rattle.std.proofs.Common.{◌≡◌, ◌-◌, length, slice_get, Some, refl, arith}
use Rattle.std.proofs.lemmas.Option.{slice_get_read}
use Rattle.rina_dtcp.proofs.Rising.{rise_past, rise_to_end, rise_to_past}
use Rattle.rina_dtcp.proofs.tx.mixed_with.Goals as goal

pub returns-then-len-mixed-clause-among : goal.returns-then-len-mixed-clause-among
returns-then-len-mixed-clause-among c = rise_past c.args.cube.now c.len-len.result c.args.unacked.now.items (omega arith)

pub returns-then-len-mixed-clause-then : goal.returns-then-len-mixed-clause-then
returns-then-len-mixed-clause-then c = rise_to_past c.args.cube.now c.args.now c.len-len.result c.args.unacked.now.items (omega arith)

pub returns-then-still_until-due_tick-clause-then : goal.returns-then-still_until-due_tick-clause-then
returns-then-still_until-due_tick-clause-then c =
    let items = c.args.unacked.now.items in
    let end = c.index.result.now in
    let there : slice_get items (c.len-len.result - 1) ≡ Some end = slice_get_read items (length items) (c.len-len.result - 1) end refl (omega arith) c.index.ensures in
    rise_to_end c.args.cube.now c.args.now c.args.mixed c.still_until.result c.due_tick.result (c.len-len.result - 1) items end c.requires (omega arith) there c.still_until.ensures.from c.due_tick.ensures.before (omega arith)

pub returns-else-still_until-due_tick-clause-among : goal.returns-else-still_until-due_tick-clause-among
returns-else-still_until-due_tick-clause-among c = rise_past c.args.cube.now c.len-len.result c.args.unacked.now.items (omega arith)

pub returns-else-still_until-due_tick-clause-then : goal.returns-else-still_until-due_tick-clause-then
returns-else-still_until-due_tick-clause-then c = rise_to_past c.args.cube.now c.args.now c.len-len.result c.args.unacked.now.items (omega arith)
