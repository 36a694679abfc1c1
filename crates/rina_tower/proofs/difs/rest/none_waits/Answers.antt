use Rattle.std.proofs.Common.{◌≡◌, [], arith}
use Rattle.rina_dif.specs.declared.dif.Dif.{Dif}
use Rattle.rina_dif.specs.Shown.{seen_of}
use Rattle.rina_dif.proofs.Rested.{all_so_far, so_far_next}
use Rattle.rina_tower.proofs.difs.rest.none_waits.Goals as goal

pub loop-at-preserved : goal.loop-at-preserved
loop-at-preserved c = so_far_next (λ (d : Dif). (seen_of d).waiting ≡ []) c.args.difs.now c.loop-at.at c.index-difs-at.result c.index-difs-at.is (c.none_waits.ensures c.if-not-none_waits.false) c.loop-at.invariant

pub returns : goal.returns
returns c = λ e.
    let after = c.loop-at-test.false in
    all_so_far (λ (d : Dif). (seen_of d).waiting ≡ []) c.args.difs.now c.loop-at.at (omega (arith, after)) c.loop-at.invariant
