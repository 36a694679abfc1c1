use Rattle.rina_dif.proofs.Facing.{rank_shows}
use Rattle.rina_dif.proofs.facade.a_rank_shows_its_difs.Goals as goal

pub returns : goal.returns
returns c = rank_shows
