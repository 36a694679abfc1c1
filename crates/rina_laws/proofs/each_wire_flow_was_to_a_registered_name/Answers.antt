-- Names of wires were registered by lines, and so were the applications for which their flows were asked.
use Rattle.rina_laws.proofs.WiresNamedRun.{wire_flows_are_to_names, wire_names_are_registered}
use Rattle.rina_laws.proofs.each_wire_flow_was_to_a_registered_name.Goals as goal

pub returns : goal.returns
returns c = record { names = wire_names_are_registered; flows = wire_flows_are_to_names }
