use Rattle.rina_tower.specs.Bystanders.{IsIpc}
use Rattle.rina_tower.specs.Ranks.{seen_of}
use Rattle.rina_tower.proofs.Serving.{beside_alone, rank_beside}
use Rattle.rina_tower.proofs.Walks.{can_own, passed_beside}
use Rattle.rina_tower.proofs.tower.Tower.+app_pass.Goals as goal

pub returns-then-r-height-clause-beside : goal.returns-then-r-height-clause-beside
returns-then-r-height-clause-beside t c =
    let here = can_own c.args.self.now c.args.r c.args.port (rw c.height.ensures at c.if-r-height.true) c.requires.can in
    passed_beside (seen_of c.args.self.now) c.args.port (seen_of c.pass.new.self) here.0 c.pass.ensures.does

pub returns-clause-valid : goal.returns-clause-valid
returns-clause-valid t c =
    let v = rw c.in-Rank.is at c.requires.valid in
    let old = c.in-Rank.rank.value in
    let k = c.app_pass.ensures in
    let height = rw c.deref_mut.ensures.value at k.height in
    let beside = rw c.deref_mut.ensures.value at k.beside in
    rw c.deref_mut.ensures.value (rank_beside old.difs old.below c.app_pass.new.self v.0 v.1 k.valid height beside, k.valid)

pub returns-clause-beside : goal.returns-clause-beside
returns-clause-beside t c =
    let old = c.in-Rank.rank.value in
    let beside = rw c.deref_mut.ensures.value at c.app_pass.ensures.beside in
    rw (c.in-Rank.is, c.deref_mut.ensures.value) (beside_alone IsIpc old.difs old.below c.app_pass.new.self beside)
