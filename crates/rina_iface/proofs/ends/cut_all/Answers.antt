use Rattle.std.proofs.Common.{◌≡◌, ℕ, ◌+◌, ◌<◌, ◌++◌, List, drop, get_or, length, length-set, map, take, slice_get, slice_set, Some, ◌∙◌, ap, arith}
use Rattle.std.proofs.lemmas.Option.{get_or_from_slice_get, slice_get-get_or}
use Rattle.rina_iface.specs.declared.ends.End.{End}
use Rattle.rina_iface.specs.declared.state.PortState.{PortState}
use Rattle.rina_iface.specs.State.{cut_off, cut_state, with_state}
use Rattle.rina_iface.proofs.Changed.{changed_more}
use Rattle.rina_iface.proofs.ends.cut_all.Goals as goal

-- one more end is cut off
cut_more : (tick at : ℕ) (xs now after : List End) (seen : End) (state : PortState) → at < length xs → now ≡ map (cut_off tick) (take at xs) ++ drop at xs → seen ≡ get_or now at seen → state ≡ cut_state tick seen.state → ((e : End) → slice_get now at ≡ Some e → after ≡ slice_set now at (with_state e state)) → after ≡ map (cut_off tick) (take (at + 1) xs) ++ drop (at + 1) xs
cut_more tick at xs now after seen state lt is its_seen its_state step = changed_more (cut_off tick) xs now after at lt is (λ e h.
    let same : seen ≡ e = its_seen ∙ get_or_from_slice_get now at e seen h in
    let its : state ≡ cut_state tick e.state = its_state ∙ ap (λ (z : End). cut_state tick z.state) same in
    step e h ∙ ap (λ s. slice_set now at (with_state e s)) its)

-- as many ends as before
cut_size : (at : ℕ) (now after : List End) (d : End) (state : PortState) → at < length now → ((e : End) → slice_get now at ≡ Some e → after ≡ slice_set now at (with_state e state)) → length after ≡ length now
cut_size at now after d state lt step = ap length (step (get_or now at d) (slice_get-get_or now at d lt)) ∙ length-set now at (with_state (get_or now at d) state)

pub loop-place-preserved : goal.loop-place-preserved
loop-place-preserved c =
    let within : c.loop-place.place < length c.args.ends.now.items = omega (arith, c.loop-place-test.true, c.loop-place.invariant.size, c.loop-place.auto.place-end, c.len-place-end.ensures) in
    let here : c.loop-place.place < length c.loop-place.ends.items = omega (arith, within, c.loop-place.invariant.size) in
    record {
      ends = cut_more c.args.tick c.loop-place.place c.args.ends.now.items c.loop-place.ends.items c.set_state.new.ends.items c.index.result.now c.cut_state-state.result within c.loop-place.invariant.ends c.index.ensures c.cut_state-state.ensures c.set_state.ensures;
      size = cut_size c.loop-place.place c.loop-place.ends.items c.set_state.new.ends.items c.index.result.now c.cut_state-state.result here c.set_state.ensures ∙ c.loop-place.invariant.size;
    }
