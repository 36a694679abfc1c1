use Rattle.std.proofs.Common.{arith}
use Rattle.std.specs.Vec.{vec_capacity}
use Rattle.rina_dif.proofs.processes.lose_with_room.Goals as goal

pub returns-clause-ok : goal.returns-clause-ok
returns-clause-ok c =
    let lines = c.in_ok-lines.lines in
    let ok = c.in_ok-lines.ensures.ok in
    let room = ok.1 in
    let held = c.held_at-held.ensures in
    let sum = c.in-Some.ensures in (
      record {
        ledger = lines.items;
        loses = ok.0;
        room = vec_capacity lines;
        fits = omega (arith, room, held, sum);
        closes = c.close_end.ensures.closes;
      },
      c.close_end.ensures.capacity,
    )
