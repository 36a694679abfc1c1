use Rattle.std.proofs.Common.{arith}
use Rattle.std.proofs.lemmas.Option.{slice_get_within}
use Rattle.rina_dif.proofs.Among.{waits_told}
use Rattle.rina_dif.proofs.dif.Dif.has_waiting.Goals as goal

pub returns-in-Some : goal.returns-in-Some
returns-in-Some c = waits_told c.args.self.now c.args.at c.in-Some.management.now c.len.result c.in-Some.ensures c.len.ensures

pub returns-in-None : goal.returns-in-None
returns-in-None c = λ m is.
    let lt = slice_get_within c.args.self.now.managements c.args.at m is in
    let past = c.in-None.ensures in
    absurd (omega (arith, lt, past))
