-- An item that is put: its entry is the last, and the one that its key had before is gone.
use Rattle.std.proofs.Common.{◌≡◌, ◌∷◌, [], ◌++◌, List, Some, None, sym, ◌∙◌, ap, arith}
use Rattle.std.proofs.lemmas.Grind.{common_steps}
use Rattle.std.specs.Map.{remove_entry}
use Rattle.std.specs.Ordering.{nat_cmp}
use Rattle.std.specs.BTreeMap.{is_at}
use Rattle.rina_newest.proofs.Index.{Numbered}
use Rattle.rina_newest.proofs.Places.{place_in, moved, indexed_same}
use Rattle.rina_newest.proofs.Put.{rising_push, put_new, put_again, values_new, values_again, removed_behind}
use Rattle.rina_newest.proofs.newest.replace.Goals as goal

pub take_out-requires : goal.take_out-requires
take_out-requires c =
    let es = c.args.items.now.items in
    let put : c.push.new.self.items ≡ es ++ (c.args.at, c.args.item) ∷ [] = c.in-Ok.ensures.items in
    rw put (rising_push c.args.at c.args.item es c.requires.indexed.below c.requires.indexed.rising)

pub returns-in_default-insert-clause-stays : goal.returns-in_default-insert-clause-stays
returns-in_default-insert-clause-stays c =
    let es = c.args.items.now.items in
    let put : c.push.new.self.items ≡ es ++ (c.args.at, c.args.item) ∷ [] = c.in-Ok.ensures.items in
    let stays : c.pop.new.self.items ≡ es = grind (arith, common_steps, put) in
    rw stays (indexed_same c.args.places.now c.insert.new.self es c.args.at c.in_default-insert.ensures.err c.requires.indexed)

pub returns-in_default-replaced-clause-index : goal.returns-in_default-replaced-clause-index
returns-in_default-replaced-clause-index c =
    let es = c.args.items.now.items in
    let put : c.push.new.self.items ≡ es ++ (c.args.at, c.args.item) ∷ [] = c.in-Ok.ensures.items in
    let none : place_in c.args.places.now c.args.key.items ≡ None = sym c.in-Ok-insert.ensures.old ∙ c.in_default-replaced.is in
    rw put (put_new (place_in c.args.places.now) (place_in c.insert.new.self) c.args.key.items c.args.at (moved c.args.places.now c.insert.new.self c.args.key.items c.args.at c.in-Ok-insert.ensures.updates) es c.args.item c.requires.same c.requires.indexed none)

pub returns-in_default-replaced-clause-ok : goal.returns-in_default-replaced-clause-ok
returns-in_default-replaced-clause-ok c =
    let es = c.args.items.now.items in
    let put : c.push.new.self.items ≡ es ++ (c.args.at, c.args.item) ∷ [] = c.in-Ok.ensures.items in
    let none : place_in c.args.places.now c.args.item.key ≡ None = ap (place_in c.args.places.now) c.requires.same ∙ sym c.in-Ok-insert.ensures.old ∙ c.in_default-replaced.is in
    rw put (values_new (place_in c.args.places.now) es c.args.at c.args.item.key c.args.item c.requires.indexed.placed none)

pub returns-clause-index : goal.returns-clause-index
returns-clause-index c =
    let es = c.args.items.now.items in
    let put : c.push.new.self.items ≡ es ++ (c.args.at, c.args.item) ∷ [] = c.in-Ok.ensures.items in
    let some : place_in c.args.places.now c.args.key.items ≡ Some c.in-Some.before = sym c.in-Ok-insert.ensures.old ∙ c.in-Some.is in
    let gone : c.take_out.new.items.items ≡ remove_entry (is_at (nat_cmp c.in-Some.before)) es ++ (c.args.at, c.args.item) ∷ [] =
    c.take_out.ensures ∙ ap (λ (ys : List Numbered). remove_entry (is_at (nat_cmp c.in-Some.before)) ys) put ∙ removed_behind (place_in c.args.places.now) es c.args.at c.args.key.items c.args.item c.in-Some.before c.requires.indexed some in
    rw gone (put_again (place_in c.args.places.now) (place_in c.insert.new.self) c.args.key.items c.args.at (moved c.args.places.now c.insert.new.self c.args.key.items c.args.at c.in-Ok-insert.ensures.updates) es c.args.item c.in-Some.before c.requires.same c.requires.indexed some)

pub returns-clause-ok : goal.returns-clause-ok
returns-clause-ok c =
    let es = c.args.items.now.items in
    let put : c.push.new.self.items ≡ es ++ (c.args.at, c.args.item) ∷ [] = c.in-Ok.ensures.items in
    let some : place_in c.args.places.now c.args.item.key ≡ Some c.in-Some.before = ap (place_in c.args.places.now) c.requires.same ∙ sym c.in-Ok-insert.ensures.old ∙ c.in-Some.is in
    let gone : c.take_out.new.items.items ≡ remove_entry (is_at (nat_cmp c.in-Some.before)) es ++ (c.args.at, c.args.item) ∷ [] =
    c.take_out.ensures ∙ ap (λ (ys : List Numbered). remove_entry (is_at (nat_cmp c.in-Some.before)) ys) put ∙ removed_behind (place_in c.args.places.now) es c.args.at c.args.item.key c.args.item c.in-Some.before c.requires.indexed some in
    rw gone (values_again (place_in c.args.places.now) es c.args.at c.args.item.key c.args.item c.in-Some.before c.requires.indexed some)
