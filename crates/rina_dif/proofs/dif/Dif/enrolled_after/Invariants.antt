-- The nodes so far are those of the enrolled members so far.
use Rattle.std.proofs.Common.{◌≡◌, slice_set, take}
use Rattle.rina_dif.specs.Managing.{enrolled_nodes, states_of}
use Rattle.rina_dif.proofs.dif.Dif.enrolled_after.Given as goal

abbrev pub invariant-loop-place : goal.invariant-loop-place
invariant-loop-place l = l.nodes ≡ enrolled_nodes (take l.place l.member-items) (states_of (slice_set l.managements l.at l.after))
