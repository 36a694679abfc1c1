use Rattle.std.proofs.Common.{List, subst, sym}
use Rattle.rina_account.specs.declared.ledger.Off.{Off}
use Rattle.rina_data.specs.Deciding.{process_of}
use Rattle.rina_dif.specs.Unlinking.{LosesThenCloses}
use Rattle.rina_dif.proofs.processes.lose_link.Goals as goal

pub returns-clause-does : goal.returns-clause-does
returns-clause-does c =
    let P : List Off → Type 0 = λ lines. LosesThenCloses c.args.loss 0 c.args.links.now (process_of c.args.process.now) c.lose_with_room.new.links (record (process_of c.lose_with_room.new.process) { ledger = lines }) in
    subst P (sym c.put.ensures) c.in_ok-lines.ensures.ok.0
