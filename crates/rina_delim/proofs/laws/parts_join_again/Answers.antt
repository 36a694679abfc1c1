use Rattle.rina_delim.proofs.Parts.{answers, all_again, has_room}
use Rattle.rina_delim.proofs.laws.parts_join_again.Goals as goal

pub returns-clause-room : goal.returns-clause-room
returns-clause-room c = has_room

pub returns-clause-answers : goal.returns-clause-answers
returns-clause-answers c = answers

pub returns-clause-same : goal.returns-clause-same
returns-clause-same c = all_again
