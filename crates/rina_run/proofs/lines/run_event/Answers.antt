use Rattle.rina_run.proofs.Pieces.{piece_of}
use Rattle.rina_run.proofs.Playing.{front_of}
use Rattle.rina_run.proofs.Texts.{stop_wrote}
use Rattle.rina_run.proofs.lines.run_event.Goals as goal

pub returns-in-Ok-clause-err : goal.returns-in-Ok-clause-err
returns-in-Ok-clause-err g c =
    let told = c.in-Ok.ensures.does in
    stop_wrote _ _ _ _ _ _ c.len-from.ensures (front_of _ _ _ told) (piece_of _ _ _ _ _ _ _ told) c.emit.ensures.err
