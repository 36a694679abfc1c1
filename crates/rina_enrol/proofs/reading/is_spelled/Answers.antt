use Rattle.std.proofs.Common.{◌∙◌, sym}
use Rattle.rina_cdap.proofs.Faults.{no_bytes}
use Rattle.rina_enrol.proofs.reading.is_spelled.Goals as goal

pub returns-else-is_memory : goal.returns-else-is_memory
returns-else-is_memory c = (λ wrong. absurd cc, λ spelled. absurd (no_bytes c.in-Err.e c.args.bytes.now (sym c.is_memory.ensures ∙ c.if-is_memory.false) (c.in-Err.ensures.only c.args.bytes.now spelled)))
