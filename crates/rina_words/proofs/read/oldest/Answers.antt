use Rattle.rina_tower.proofs.Owned.{rank_valid}
use Rattle.rina_words.proofs.read.oldest.Goals as goal

pub is_ipc_port-requires : goal.is_ipc_port-requires
is_ipc_port-requires c = rank_valid _ _ _ c.requires c.in_ok-at.ensures

pub peek-requires : goal.peek-requires
peek-requires c = rank_valid _ _ _ c.requires c.in_ok-at.ensures
