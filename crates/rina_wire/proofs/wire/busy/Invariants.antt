use Rattle.std.proofs.Common.{◌≡◌, drop}
use Rattle.std.specs.Prelude.{find}
use Rattle.rina_wire.specs.Allocate.{is_busy}
use Rattle.rina_wire.proofs.wire.busy.Given as goal

abbrev pub invariant-ends : goal.invariant-ends
invariant-ends l = find (is_busy l.node) (drop l.end-index l.ends) ≡ find (is_busy l.node) l.ends
