use Rattle.std.proofs.Common.{◌≡◌, Option, Some, None, is_some, ℕ, false, sym, ◌∙◌, arith}
use Rattle.std.specs.BTreeMap.{get_by}
use Rattle.rina_iface.specs.Index.{port_cmp}
use Rattle.rina_iface.proofs.Indexed.{index_more}
use Rattle.rina_iface.proofs.places.add.Goals as goal

none_from : (o : Option ℕ) → is_some o ≡ false → o ≡ None
none_from None is = cc
none_from (Some n) is = cc

pub returns-in-Ok-clause-index : goal.returns-in-Ok-clause-index
returns-in-Ok-clause-index c =
    let e = c.args.end in
    let none : get_by (port_cmp e.port) c.args.places.now ≡ None = sym c.place_of.ensures ∙ none_from c.place_of.result (sym c.if-is_some.ensures) in
    let more = index_more c.args.places.now c.insert.new.self c.args.ends.now.items e c.key_of.result c.len-place.result c.requires none c.key_of.ensures (omega (arith, c.len-place.ensures)) c.in-Ok.ensures.updates in
    rw c.in_ok-push.ensures.items more
