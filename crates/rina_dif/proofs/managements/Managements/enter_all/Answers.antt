-- One more member took the entry, or it is the one that failed to.
use Rattle.std.proofs.Common.{◌≡◌, ◌∙◌, ◌<◌, ap, arith, length, length-set, refl, slice_get, slice_set, Some}
use Rattle.std.proofs.lemmas.Option.{get_or_from_slice_get, slice_get_read}
use Rattle.rina_iface.proofs.Changed.{changed_more}
use Rattle.rina_member.specs.Managements.{entered}
use Rattle.rina_dif.proofs.Entered.{all_changed, on_err, stopped_at}
use Rattle.rina_dif.proofs.managements.Managements.enter_all.Goals as goal

pub loop-at-preserved : goal.loop-at-preserved
loop-at-preserved c =
    let enter = entered c.args.app.now c.args.address in
    let now = c.loop-at.self-inside.items.items in
    let at = c.loop-at.at in
    let within : at < length c.args.self.now = omega (arith, c.loop-at-test.true, c.len-at-end.ensures, ap length c.self.view_is) in
    record {
      took = changed_more enter c.args.self.now now (slice_set now at c.enter.new.self) at within c.loop-at.invariant.took (λ m is.
          ap (slice_set now at) (c.in_ok-enter.ensures.ok ∙ ap enter (c.index_mut.ensures.value ∙ get_or_from_slice_get now at m c.index_mut.result.now is)));
      size = length-set now at c.enter.new.self ∙ c.loop-at.invariant.size;
    }

pub returns-in_err-enter-clause-err : goal.returns-in_err-enter-clause-err
returns-in_err-enter-clause-err c =
    let now = c.loop-at.self-inside.items.items in
    let at = c.loop-at.at in
    let within : at < length now = omega (arith, c.loop-at-test.true, c.len-at-end.ensures, ap length c.self.view_is, c.loop-at.invariant.size) in
    let is : slice_get now at ≡ Some c.index_mut.result.now = slice_get_read now (length now) at c.index_mut.result.now refl within c.index_mut.ensures.value in
    on_err c.from_residual.result _ (stopped_at c.args.app.now c.args.address c.args.self.now now (slice_set now at c.enter.new.self) at c.index_mut.result.now c.enter.new.self c.loop-at.invariant.took is refl c.in_err-enter.ensures.err)

pub returns-clause-ok : goal.returns-clause-ok
returns-clause-ok c =
    c.loop-at.invariant.took ∙ all_changed (entered c.args.app.now c.args.address) c.args.self.now c.loop-at.at (omega (arith, c.loop-at-test.false, c.len-at-end.ensures, ap length c.self.view_is))
