use Rattle.std.proofs.Common.{◌≡◌, ◌<◌, length, slice_get, Some, refl, arith}
use Rattle.std.proofs.lemmas.Option.{slice_get_read}
use Rattle.rina_dtcp.proofs.Rising.{all_still, next_from, next_still}
use Rattle.rina_dtcp.proofs.tx.still_until.Goals.{then-mixed-len, else-mixed-len}
use Rattle.rina_dtcp.proofs.tx.still_until.Goals as goal

pub loop-place-preserved : goal.loop-place-preserved
loop-place-preserved c =
    let cube = c.args.cube.now in
    let items = c.args.unacked.now.items in
    let place = c.loop-place.place in
    let here = c.index.result.now in
    let within : place < length items = elim c.if-mixed-len.branch [
      | then-mixed-len w ↦ (let is = w.end-is in let lt = w.if-mixed-len.true in omega (arith, is, lt))
      | else-mixed-len w ↦ (let is = w.end-is in let len = w.len-end.ensures in omega (arith, is, len))
    ] in
    let there : slice_get items place ≡ Some here = slice_get_read items (length items) place here refl within c.index.ensures in
    rw c.min-until.ensures (record {
      before = next_still cube items place c.loop-place.until c.still_until.result here there c.still_until.ensures.before c.loop-place.invariant.before;
      from = next_from cube items place c.loop-place.until c.still_until.result here there c.still_until.ensures.from c.loop-place.invariant.from;
      most = (let most = c.loop-place.invariant.most in omega (arith, most));
    })

pub returns-clause-before : goal.returns-clause-before
returns-clause-before c =
    let end = c.if-mixed-len.end in
    let items = c.args.unacked.now.items in
    all_still c.args.cube.now c.args.mixed c.loop-place.until end items c.requires c.loop-place.invariant.most
    (λ lt. elim c.if-mixed-len.branch [
      | then-mixed-len w ↦ (let is = w.end-is in omega (arith, is))
      | else-mixed-len w ↦ absurd (let is = w.end-is in let len = w.len-end.ensures in omega (arith, lt, is, len))
    ])
    (λ k s lt at. c.loop-place.invariant.before k s (omega (arith, lt)) at)
