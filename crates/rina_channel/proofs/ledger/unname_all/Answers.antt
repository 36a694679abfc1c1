use Rattle.std.proofs.Common.{List, get_or, arith}
use Rattle.std.proofs.lemmas.List.Edits.{map_over_more}
use Rattle.rina_account.specs.declared.ledger.Off.{Off}
use Rattle.rina_base.specs.declared.cause.Cause.TheVariants.{Expired}
use Rattle.rina_base.specs.declared.pdu.PduKind.TheVariants.{Piece}
use Rattle.rina_channel.specs.Ledgers.{unnamed_line}
use Rattle.std.proofs.lemmas.List.{get_or_default}
use Rattle.rina_channel.proofs.ledger.unname_all.Goals as goal

pub loop-line-preserved : goal.loop-line-preserved
loop-line-preserved c =
    let none : Off = record { key = record { kind = Piece; src = 0; scep = 0; seq = 0 }; cause = Expired 0 0 } in
    let here : List Off = c.loop-line.lines in
    let line : Off = get_or here c.loop-line.line-index none in
    let lt = c.loop-line-test.true in
    let same = c.loop-line.auto.lines in
    map_over_more unnamed_line c.args.lines.now here c.loop-line.line-index line lt c.loop-line.invariant (get_or_default here c.loop-line.line-index none line (omega (arith, lt, same)))
