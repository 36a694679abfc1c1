use Rattle.rina_tower.proofs.Owned.{rank_valid}
use Rattle.rina_notes.proofs.label_note.state_at.Goals as goal

pub state-requires : goal.state-requires
state-requires c = rank_valid _ _ _ c.requires c.in_ok-rank.ensures
