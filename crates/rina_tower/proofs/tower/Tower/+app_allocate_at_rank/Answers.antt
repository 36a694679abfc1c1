use Rattle.rina_tower.proofs.Alone.{all_alone}
use Rattle.rina_tower.proofs.Serving.{beside_alone, rank_beside}
use Rattle.rina_tower.proofs.Failed.{below_failed}
use Rattle.std.proofs.Common.{◌≡◌, ◌∙◌, ◌||◌, Err}
use Rattle.rina_tower.specs.declared.applications.AppError.TheVariants.{NoRank}
use Rattle.rina_tower.specs.Applications.{Answers}
use Rattle.rina_tower.specs.Bystanders.{IsIpc, is_ipc}
use Rattle.rina_tower.specs.Calls.{AllocatesAtTop}
use Rattle.rina_tower.proofs.Walks.{at_own}
use Rattle.rina_tower.proofs.tower.Tower.+app_allocate_at_rank.Goals as goal

pub returns-in-Wires-clause-beside : goal.returns-in-Wires-clause-beside
returns-in-Wires-clause-beside t c = all_alone IsIpc _

pub returns-in-Rank-clause-valid : goal.returns-in-Rank-clause-valid
returns-in-Rank-clause-valid t c =
    let v = rw c.in-Rank.is at c.requires in
    let old = c.in-Rank.rank.value in
    let k = c.app_allocate_at_rank.ensures in
    let height = rw c.deref_mut.ensures.value at k.height in
    let beside = rw c.deref_mut.ensures.value at k.beside in
    rw c.deref_mut.ensures.value (rank_beside old.difs old.below c.app_allocate_at_rank.new.self v.0 v.1 k.valid height beside, k.valid)

pub returns-in-Rank-clause-beside : goal.returns-in-Rank-clause-beside
returns-in-Rank-clause-beside t c =
    let old = c.in-Rank.rank.value in
    let beside = rw c.deref_mut.ensures.value at c.app_allocate_at_rank.ensures.beside in
    rw (c.in-Rank.is, c.deref_mut.ensures.value) (beside_alone IsIpc old.difs old.below c.app_allocate_at_rank.new.self beside)

pub returns-in-Rank-clause-fails : goal.returns-in-Rank-clause-fails
returns-in-Rank-clause-fails t c = λ h. rw c.deref_mut.ensures.value (below_failed c.in-Rank.rank.value.difs c.app_allocate_at_rank.new.self (c.app_allocate_at_rank.ensures.fails h))

pub returns-then-r-height-clause-does : goal.returns-then-r-height-clause-does
returns-then-r-height-clause-does t c =
    at_own c.args.r (λ u u'. Answers (is_ipc c.args.ask.now.app || is_ipc c.args.ask.now.to) (λ x. AllocatesAtTop c.args.ask.now x u u') (u' ≡ u) c.allocate_app_at_top.result) (c.allocate_app_at_top.result ≡ Err NoRank) c.args.self.now c.allocate_app_at_top.new.self
    (c.if-r-height.true ∙ c.height.ensures) c.allocate_app_at_top.ensures.below c.allocate_app_at_top.ensures.does
