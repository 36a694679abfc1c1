-- The bounds of delta-t suffice, and so does the rest of ids.
use Rattle.std.proofs.Common.{◌+◌, ◌*◌, ◌≤◌, List, [], refl, arith}
use Rattle.rina_cube.specs.Cubes.{IsCube, promise_of}
use Rattle.rina_law.specs.Bounds.{bounds_of}
use Rattle.rina_law.specs.Constants.{Constants, delta}
use Rattle.rina_law.specs.Direction.{Direction, Row, start, IsRun, after}
use Rattle.rina_law.specs.DirectionHolds.{DirectionHolds}
use Rattle.rina_law.specs.Journal.{Keeps}
use Rattle.rina_law.specs.Suffices.{Suffice, reused, IsOver, RestSuffices}
use Rattle.rina_law.proofs.Keeping.{keeps_from}
use Rattle.rina_law.proofs.Quiet.{quiet_after}
use Rattle.rina_law.proofs.Suffices.{start_holds, run_holds, cloud_law, reached_holds, journals_kept}

pub bounds_suffice : Suffice bounds_of
bounds_suffice c rows cube run = journals_kept c (after c (start c) rows) (record { cube = cube; rows = rows; run = run; is = refl })

-- Ids that are used again

-- nothing of the old direction is alive, so the new one stands as one that starts
pub reused_holds : (next : Constants) (old : Direction) → IsCube next.cube → IsOver old → DirectionHolds next (reused next old)
reused_holds next old cube over =
    let begun = cloud_law next (start next) old.line.clock [] [] (start_holds next cube) (omega arith) (λ p i. absurd i) (λ k i. absurd i) in
    let core = begun.core in
    let line = core.line in
    record {
      core = record {
        line = record {
          sender = line.sender;
          pieces = λ p i alive. absurd (over.pieces p (i, alive));
          receiver = line.receiver;
          done = line.done;
          shape = line.shape;
          gapless = line.gapless;
          acks = λ k i alive. absurd (over.acks k (i, alive));
        };
        run = core.run;
        sent = core.sent;
        base = core.base;
        since = core.since;
        join = core.join;
        got = core.got;
        ticks = core.ticks;
        count = core.count;
        reach = core.reach;
      };
      closed = begun.closed;
    }

reused_keeps : (next : Constants) (old : Direction) (rows : List Row) → IsCube next.cube → IsOver old → IsRun next (reused next old) rows → Keeps next.cube.kind (promise_of next.cube) (after next (reused next old) rows).sent (after next (reused next old) rows).inbox.got
reused_keeps next old rows cube over run = keeps_from next (after next (reused next old) rows) cube (run_holds next (reused next old) rows cube (reused_holds next old cube over) run)

pub rested_over : (c : Constants) (old : Direction) → IsCube c.cube → DirectionHolds c old → old.line.sender.last_out + 3 * delta c ≤ old.line.clock → IsOver old
rested_over c old cube h rested =
    let quiet = quiet_after c old.line cube h.core.line rested in
    record { pieces = λ p alive. quiet.pieces p alive.0 alive.1; acks = λ k alive. quiet.acks k alive.0 alive.1 }

pub rest_suffices : RestSuffices (λ c. 3 * delta c)
rest_suffices c next old rows reached rested cube run = reused_keeps next old rows cube (rested_over c old reached.cube (reached_holds c old reached) rested) run

-- an acknowledgement dies by `2 * mpl + delta` after the sender's last piece, and a piece before that
least_over : (c : Constants) (old : Direction) → DirectionHolds c old → old.line.sender.last_out + (2 * c.cube.mpl + delta c + 1) ≤ old.line.clock → IsOver old
least_over c old h rested =
    let line = h.core.line in
    record {
      pieces = λ p alive. (let out = (line.pieces p alive.0 alive.1).out in let late = alive.1 in omega arith);
      acks = λ k alive. (let out = (line.acks k alive.0 alive.1).out in let late = alive.1 in omega arith);
    }

pub least_rest_suffices : RestSuffices (λ c. 2 * c.cube.mpl + delta c + 1)
least_rest_suffices c next old rows reached rested cube run = reused_keeps next old rows cube (least_over c old (reached_holds c old reached) rested) run
