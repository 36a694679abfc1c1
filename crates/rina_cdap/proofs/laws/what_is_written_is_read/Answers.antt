use Rattle.rina_cdap.proofs.Written.{written_spells, spells_written}
use Rattle.rina_cdap.proofs.Spelled.{only}
use Rattle.rina_cdap.proofs.laws.what_is_written_is_read.Goals as goal

pub returns-clause-written : goal.returns-clause-written
returns-clause-written c = λ m bytes. (written_spells m bytes, spells_written m bytes)

pub returns-clause-read : goal.returns-clause-read
returns-clause-read c = λ m bytes r range written reads ranges. only r bytes ranges reads m range (written_spells m bytes written)
