use Rattle.std.proofs.Common.{sym}
use Rattle.rina_run.proofs.Pieces.{closing_piece}
use Rattle.rina_run.proofs.Playing.{front_push}
use Rattle.rina_run.proofs.Texts.{if_done, stop_wrote}
use Rattle.rina_run.proofs.closing.close.Goals as goal

pub returns-clause-err : goal.returns-clause-err
returns-clause-err g c =
    let noted = if_done c.push.result (sym c.if-is_err.ensures.value) c.push.ensures.ok in
    stop_wrote _ _ _ _ _ _ c.len-from.ensures (front_push _ _ _ noted) (closing_piece _ _ _ noted) c.emit.ensures.err
