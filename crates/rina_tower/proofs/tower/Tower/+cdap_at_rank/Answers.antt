use Rattle.std.proofs.Common.{◌≡◌, ◌+◌, ◌∙◌, ℕ, Err, ap, inl, refl}
use Rattle.rina_dif.specs.declared.cdap.CdapCallError.TheVariants.{NoIpc}
use Rattle.rina_dif.specs.Asking.{answer_of}
use Rattle.rina_tower.specs.Bystanders.{Anyone}
use Rattle.rina_tower.specs.Ranks.{now_of}
use Rattle.rina_tower.proofs.Alone.{all_alone}
use Rattle.rina_tower.proofs.Asked.{asked_alone, asked_rank}
use Rattle.rina_tower.proofs.Serving.{beside_alone, rank_quiet}
use Rattle.rina_tower.proofs.Failed.{below_failed, rank_failed}
use Rattle.rina_tower.proofs.tower.Tower.+cdap_at_rank.Goals as goal

pub returns-in-Wires-clause-quiet : goal.returns-in-Wires-clause-quiet
returns-in-Wires-clause-quiet t c = all_alone Anyone _

pub returns-then-r-height-clause-valid : goal.returns-then-r-height-clause-valid
returns-then-r-height-clause-valid t c =
    let v = rw c.in-Rank.is at c.requires in
    let old = c.in-Rank.rank.value in
    rw c.deref_mut-rank.ensures.value (asked_rank c.args.dif c.args.node c.args.bytes.now (answer_of c.cdap.result) (answer_of c.cdap.result ≡ Err NoIpc) old.difs c.cdap.new.self old.below v.0 v.1 (rw c.deref_mut-rank.ensures.value at c.cdap.ensures.does), v.1)

pub returns-then-r-height-clause-quiet : goal.returns-then-r-height-clause-quiet
returns-then-r-height-clause-quiet t c =
    let old = c.in-Rank.rank.value in
    rw (c.in-Rank.is, c.deref_mut-rank.ensures.value) (asked_alone c.args.dif c.args.node c.args.bytes.now (answer_of c.cdap.result) (answer_of c.cdap.result ≡ Err NoIpc) (now_of old.below) old.difs c.cdap.new.self (rw c.deref_mut-rank.ensures.value at c.cdap.ensures.does))

pub returns-then-r-height-clause-does : goal.returns-then-r-height-clause-does
returns-then-r-height-clause-does t c =
    let height = rw c.deref_mut-rank.ensures.value at c.height.ensures in
    let does = rw c.deref_mut-rank.ensures.value at c.cdap.ensures.does in
    rw (c.in-Rank.is, c.deref_mut-rank.ensures.value) (inl (c.if-r-height.true ∙ ap (λ (n : ℕ). n + 1) height, (does, refl)))

pub returns-else-r-height-clause-valid : goal.returns-else-r-height-clause-valid
returns-else-r-height-clause-valid t c =
    let v = rw c.in-Rank.is at c.requires in
    let old = c.in-Rank.rank.value in
    let k = c.cdap_at_rank.ensures in
    let height = rw c.deref_mut-rank.ensures.value at k.height in
    let quiet = rw c.deref_mut-rank.ensures.value at k.quiet in
    rw c.deref_mut-rank.ensures.value (rank_quiet old.difs old.below c.cdap_at_rank.new.self v.0 v.1 k.valid height quiet, k.valid)

pub returns-else-r-height-clause-quiet : goal.returns-else-r-height-clause-quiet
returns-else-r-height-clause-quiet t c =
    let old = c.in-Rank.rank.value in
    let quiet = rw c.deref_mut-rank.ensures.value at c.cdap_at_rank.ensures.quiet in
    rw (c.in-Rank.is, c.deref_mut-rank.ensures.value) (beside_alone Anyone old.difs old.below c.cdap_at_rank.new.self quiet)

pub returns-then-r-height-clause-fails : goal.returns-then-r-height-clause-fails
returns-then-r-height-clause-fails t c = λ h. rw c.deref_mut-rank.ensures.value (rank_failed c.cdap.new.self c.in-Rank.rank.value.below (c.cdap.ensures.fails h))

pub returns-else-r-height-clause-fails : goal.returns-else-r-height-clause-fails
returns-else-r-height-clause-fails t c = λ h. rw c.deref_mut-rank.ensures.value (below_failed c.in-Rank.rank.value.difs c.cdap_at_rank.new.self (c.cdap_at_rank.ensures.fails h))
