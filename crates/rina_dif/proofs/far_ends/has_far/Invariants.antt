use Rattle.rina_dif.proofs.FarLooks.{NoneFar}
use Rattle.rina_dif.proofs.far_ends.has_far.Given as goal

-- none of the ends before this one is the far end of the flow
abbrev pub invariant-loop-end : goal.invariant-loop-end
invariant-loop-end l = NoneFar l.end-index l.ends l.flow
