-- The laws are the lemmas on whole runs.
use Rattle.rina_laws.proofs.LabelLaws.{got_is_told, sent_is_told}
use Rattle.rina_laws.proofs.labels_tell_their_ends.Goals as goal

pub returns : goal.returns
returns c = record { sent = sent_is_told; got = got_is_told }
