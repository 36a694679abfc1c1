use Rattle.std.proofs.Common.{◌≡◌, [], ap, arith, length}
use Rattle.std.proofs.lemmas.List.{nil_from_length}
use Rattle.rina_member.specs.declared.management.Management.{Management}
use Rattle.rina_dif.proofs.Rested.{all_so_far, so_far_next}
use Rattle.rina_dif.proofs.rest.none_waits.Goals as goal

pub loop-at-preserved : goal.loop-at-preserved
loop-at-preserved c =
    let none = c.if-len-gt0.false in
    let count = c.len.ensures in
    let same = ap (λ (g : Management). length g.agent.agenda) c.index-managements-at.is in
    so_far_next (λ (g : Management). g.agent.agenda ≡ []) c.args.managements.now c.loop-at.at c.index-managements-at.result c.index-managements-at.is (nil_from_length c.index-managements-at.result.agent.agenda (omega (arith, none, count, same))) c.loop-at.invariant

pub returns : goal.returns
returns c = λ e.
    let after = c.loop-at-test.false in
    all_so_far (λ (g : Management). g.agent.agenda ≡ []) c.args.managements.now c.loop-at.at (omega (arith, after)) c.loop-at.invariant
