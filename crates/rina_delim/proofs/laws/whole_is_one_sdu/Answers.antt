use Rattle.rina_delim.proofs.Pieces.{all_steps}
use Rattle.rina_delim.proofs.laws.whole_is_one_sdu.Goals as goal

pub returns-clause-whole : goal.returns-clause-whole
returns-clause-whole c = λ largest p older. (all_steps largest p older).whole

pub returns-clause-more : goal.returns-clause-more
returns-clause-more c = λ largest p older. (all_steps largest p older).more

pub returns-clause-bytes : goal.returns-clause-bytes
returns-clause-bytes c = λ largest p older last h. (all_steps largest p older).bytes last h
