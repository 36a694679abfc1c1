use Rattle.std.proofs.Common.{Ok, sym, ap}
use Rattle.rina_table.proofs.Named.{name_is}
use Rattle.rina_table.proofs.fields.placeholder.Goals as goal

pub returns-in-Ok : goal.returns-in-Ok
returns-in-Ok c = ap Ok (sym (name_is _ _ c.in-Ok.ensures))
