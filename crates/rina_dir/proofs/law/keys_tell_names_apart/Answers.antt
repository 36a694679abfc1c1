use Rattle.rina_dir.proofs.Apart.{keys_apart, key_named}
use Rattle.rina_dir.proofs.law.keys_tell_names_apart.Goals as goal

pub returns-clause-apart : goal.returns-clause-apart
returns-clause-apart c = keys_apart

pub returns-clause-named : goal.returns-clause-named
returns-clause-named c = key_named
