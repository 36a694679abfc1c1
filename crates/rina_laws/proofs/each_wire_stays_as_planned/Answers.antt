-- Wires stay as they were laid.
use Rattle.rina_laws.proofs.WiresLaid.{wires_draw, wires_stay}
use Rattle.rina_laws.proofs.each_wire_stays_as_planned.Goals as goal

pub returns : goal.returns
returns c = record { laid = wires_stay; draws = wires_draw }
