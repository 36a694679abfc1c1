use Rattle.std.proofs.Common.{arith}
use Rattle.std.proofs.lemmas.Option.{slice_get_within}
use Rattle.rina_dif.proofs.Undue.{tells_first}
use Rattle.rina_dif.proofs.dif.Dif.first_sdu.Goals as goal

pub next_sdu-requires : goal.next_sdu-requires
next_sdu-requires c = (c.requires.tell c.args.at c.in-Some.management.now c.in-Some.ensures).waiting

pub returns-in-Some-clause-first : goal.returns-in-Some-clause-first
returns-in-Some-clause-first c = tells_first c.args.self.now c.args.at c.args.number c.in-Some.management.now c.next_sdu.result c.in-Some.ensures c.next_sdu.ensures.next

pub returns-in-None-clause-first : goal.returns-in-None-clause-first
returns-in-None-clause-first c = λ sdu first.
    let lt = slice_get_within c.args.self.now.managements c.args.at first.management first.is_management in
    let past = c.in-None.ensures in
    absurd (omega (arith, lt, past))
