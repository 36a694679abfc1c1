use Rattle.std.proofs.Common.{◌∙◌, List, ap, length}
use Rattle.rina_account.specs.declared.ledger.Off.{Off}
use Rattle.rina_base.specs.Pdus.{pdu_of}
use Rattle.rina_channel.specs.Ledgers.{unnamed_from}
use Rattle.rina_dif.proofs.Settling.{arrives_one_on_link}
use Rattle.rina_dif.proofs.processes.Processes.on_link_data.Goals as goal

pub returns : goal.returns
returns c =
    let x = c.index_mut-process.result.now in
    let lines = c.unname_lines.ensures ∙ ap (λ (ls : List Off). unnamed_from (length ls) c.on_data.new.ledger) c.lines-from.ensures in
    rw (← c.self.view_is) (arrives_one_on_link c.args.now c.args.place (pdu_of c.args.pdu.now) c.args.at c.args.flows.now c.on_data.new.self c.in_ok-cause.cause c.self.inside.items.items x c.on_data.new.ledger c.unname_lines.new.ledger lines (rw (← c.self.view_is) at c.requires.at) c.index_mut-process.ensures.value c.in_ok-cause.ensures.arrives)
