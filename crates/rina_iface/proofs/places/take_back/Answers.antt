use Rattle.std.proofs.Common.{◌≡◌, ◌∙◌, ℕ, Bool, true, false, eqb, length, Option, Some, None, sym, ap, arith}
use Rattle.std.specs.Option.{option_eq}
use Rattle.std.proofs.lemmas.Bool.Decides.{nat_tests}
use Rattle.std.specs.BTreeMap.{get_by}
use Rattle.rina_iface.specs.Index.{port_cmp}
use Rattle.rina_iface.proofs.Indexed.{index_less, index_same}
use Rattle.rina_iface.proofs.places.take_back.Goals as goal

is_place : (o : Option ℕ) (n m : ℕ) (b : Bool) → b ≡ option_eq eqb o (Some n) → n ≡ m → b ≡ true → o ≡ Some m
is_place None n m b tested same is = absurd (let clash : true ≡ false = sym is ∙ tested in cc)
is_place (Some k) n m b tested same is = (let e : k ≡ m = grind (arith, nat_tests, tested, same, is) in ap Some e)

is_other : (o : Option ℕ) (n m : ℕ) (b : Bool) → b ≡ option_eq eqb o (Some n) → n ≡ m → b ≡ false → o ≡ Some m → ⊥
is_other None n m b tested same is at = cc
is_other (Some k) n m b tested same is at = (let e : k ≡ m = cc in grind (arith, nat_tests, tested, same, is, e))

pub returns-then-eq-clause-index : goal.returns-then-eq-clause-index
returns-then-eq-clause-index c =
    let index = rw c.in-Some.ensures.items at c.requires in
    let size : c.len.result ≡ length c.pop.new.self.items = omega (arith, c.len.ensures) in
    let at : get_by (port_cmp c.in-Some.last.port) c.args.places.now ≡ Some (length c.pop.new.self.items) = sym c.place_of.ensures ∙ is_place c.place_of.result c.len.result (length c.pop.new.self.items) c.eq.result c.eq.ensures size c.if-eq.true in
    index_less c.args.places.now c.remove.new.self c.pop.new.self.items c.in-Some.last c.key_of.result index at c.key_of.ensures c.remove.ensures.updates

pub returns-clause-index : goal.returns-clause-index
returns-clause-index c =
    let index = rw c.in-Some.ensures.items at c.requires in
    let size : c.len.result ≡ length c.pop.new.self.items = omega (arith, c.len.ensures) in
    index_same c.args.places.now c.pop.new.self.items c.in-Some.last index (λ at. is_other c.place_of.result c.len.result (length c.pop.new.self.items) c.eq.result c.eq.ensures size c.if-eq.false (c.place_of.ensures ∙ at))
