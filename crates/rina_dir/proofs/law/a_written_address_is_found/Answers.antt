use Rattle.rina_dir.proofs.Written.{written_found}
use Rattle.rina_dir.proofs.law.a_written_address_is_found.Goals as goal

pub returns : goal.returns
returns c = record { found = written_found }
