use Rattle.std.proofs.Common.{arith}
use Rattle.rina_base.proofs.Lengths.{app_short}
use Rattle.rina_base.proofs.app_name.AppName.len.Goals as goal

pub returns-clause-most : goal.returns-clause-most
returns-clause-most c = omega (arith, c.len.ensures, app_short c.self.inside.bytes.items c.self.inside.bytes.items c.self.invariant)
