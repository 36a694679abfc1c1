use Rattle.std.proofs.Common.{◌≡◌, ◌≤◌, ◌+◌, ◌*◌, length}
use Rattle.rina_dtp.specs.Accepted.{FollowsMany}
use Rattle.rina_dtp.proofs.accepted.join_all_following.Given as goal

abbrev pub invariant-loop-step : goal.invariant-loop-step
invariant-loop-step l = record {
  many : FollowsMany l.step l.fn.shelf l.fn.join l.shelf l.join;
  slots : l.join.slots ≡ l.fn.join.slots;
  filled : l.join.filled ≤ 1 + l.step;
  places : length l.shelf.places ≡ length l.fn.shelf.places;
  gaps : length l.join.gaps ≤ 1 + 2 * l.step;
}
