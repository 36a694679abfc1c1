use Rattle.rina_dif.proofs.dif.Dif.add_named.Goals.{in-Err, in-Ok}
use Rattle.rina_dif.proofs.dif.Dif.add_named.Goals as goal

pub returns-clause-ok : goal.returns-clause-ok
returns-clause-ok c = elim c.match-reserve.branch [
  | in-Ok w ↦ rw (w.added-is, w.self-is) w.add_flow-added.ensures.ok
  | in-Err w ↦ rw w.added-is tt
]

pub returns-clause-keeps : goal.returns-clause-keeps
returns-clause-keeps c = elim c.match-reserve.branch [
  | in-Ok w ↦ rw (w.added-is, w.self-is) w.add_flow-added.ensures.keeps
  | in-Err w ↦ rw w.added-is tt
]
