-- Numbers are spent only while the sender has state.
use Rattle.rina_law.specs.Direction.{start}
use Rattle.rina_law.specs.Line.{opening}
use Rattle.rina_law.proofs.Making.{spent_present}
use Rattle.rina_conn.specs.Laws.{SpentHasState}

pub spent_has_state : SpentHasState
spent_has_state c m now until sdu old new offers sender few =
    let o = offers c m sender in
    spent_present c (record (start c) { line = record (opening c) { clock = now; sender = m } }) o.0 until (few o.0 o.1) o.2.0
