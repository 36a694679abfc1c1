use Rattle.std.proofs.Common.{◌∙◌, arith, ap, sym}
use Rattle.std.proofs.lemmas.Option.{none-some}
use Rattle.rina_iface.specs.Ends.{drawn_at}
use Rattle.rina_dif.proofs.Bound.{draws_at, draws_id, next_small}
use Rattle.rina_dif.proofs.dif.Dif.draw.Goals as goal

pub overflow_cast-drawn : goal.overflow_cast-drawn
overflow_cast-drawn c = (let small = next_small c.args.self.now c.args.node c.drawn-drawn.result c.requires.valid c.requires.some (c.drawn-drawn.ensures ∙ ap (drawn_at c.args.node) c.as_slice.ensures) in omega (arith, small))

pub overflow_add-result : goal.overflow_add-result
overflow_add-result c = (let small = next_small c.args.self.now c.args.node c.drawn-drawn.result c.requires.valid c.requires.some (c.drawn-drawn.ensures ∙ ap (drawn_at c.args.node) c.as_slice.ensures) in omega (arith, small))

pub returns : goal.returns
returns c =
    let d = c.args.self.now in
    let here = sym c.in-Some.is ∙ c.place_at_node.ensures.place in
    let ids = draws_id d c.args.node c.in-Some.home c.requires.valid c.requires.some here in
    draws_at d c.args.node c.in-Some.home c.drawn-drawn.result c.in-Some-free.cep c.in-Some-get.member.now here c.in-Some-get.ensures (c.drawn-drawn.ensures ∙ ap (drawn_at c.args.node) c.as_slice.ensures) (record { ids = ids.0; are_ids = ids.1; least = sym (c.free.ensures ids.0 ids.1) ∙ c.in-Some-free.is })

pub unreachable-requires-in_default-free : goal.unreachable-requires-in_default-free
unreachable-requires-in_default-free c =
    let d = c.args.self.now in
    let ids = draws_id d c.args.node c.in-Some.home c.requires.valid c.requires.some (sym c.in-Some.is ∙ c.place_at_node.ensures.place) in
    none-some ids.2.0 (sym c.in_default-free.is ∙ c.free.ensures ids.0 ids.1 ∙ ids.2.1)
