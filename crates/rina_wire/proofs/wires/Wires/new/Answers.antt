use Rattle.std.proofs.Common.{◌≡◌, map}
use Rattle.rina_wire.specs.Plan.{line_of}
use Rattle.rina_wire.proofs.Start.{sound_start}
use Rattle.rina_wire.proofs.wires.Wires.new.Goals as goal

pub returns-clause-valid : goal.returns-clause-valid
returns-clause-valid c =
    let wires : c.in_ok-lay.field-0.items ≡ map line_of c.args.plan.now.wires = cc (c.in_ok-lay.ensures, c.as_slice.ensures) in
    rw wires (sound_start c.args.plan.now c.requires)
