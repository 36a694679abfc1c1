-- Each run starts from what its stack says.
use Rattle.rina_laws.proofs.StartsAt.{difs_start, wires_start}
use Rattle.rina_laws.proofs.a_run_starts_as_planned.Goals as goal

pub returns : goal.returns
returns c = record { wires = wires_start; difs = difs_start }
