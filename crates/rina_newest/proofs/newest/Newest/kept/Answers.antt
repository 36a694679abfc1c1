-- The item of a key is the one at its place.
use Rattle.std.proofs.Common.{◌≡◌, Some, None, List, sym, ap, ◌∙◌, subst}
use Rattle.std.specs.Map.{lookup}
use Rattle.rina_newest.specs.Newest.{IsNumbered}
use Rattle.rina_newest.proofs.Index.{Numbered, at, finds_none, place_finds}
use Rattle.rina_newest.proofs.Numbers.{lookup_numbered}
use Rattle.rina_newest.proofs.Places.{place_in}
use Rattle.rina_newest.proofs.newest.Newest.kept.Goals as goal

pub returns-in_err-at : goal.returns-in_err-at
returns-in_err-at c =
    let n = c.self.inside in
    rw (c.from_residual.ensures, sym c.self.view_is) (sym (finds_none (place_in n.places) c.args.key.now n.items.items c.self.invariant.placed (sym c.in_err-at.ensures.value)))

pub returns-in_err-index : goal.returns-in_err-index
returns-in_err-index c =
    let n = c.self.inside in
    let none = subst (λ (es : List Numbered). lookup (at c.in_ok-at.at.now) es ≡ None) c.deref.ensures.value c.in_err-index.ensures in
    rw (c.from_residual-in_err-index.ensures, sym c.self.view_is) (sym none ∙ place_finds (place_in n.places) n.items.items n.next c.self.invariant c.args.key.now c.in_ok-at.at.now (sym c.in_ok-at.ensures.value))

pub returns : goal.returns
returns c =
    let n = c.self.inside in
    let here = subst (λ (es : List Numbered). IsNumbered es c.in_ok-at.at.now c.in_ok-index.index) c.deref.ensures.value c.in_ok-index.ensures in
    let found = lookup_numbered n.items.items c.self.invariant.rising c.in_ok-at.at.now c.in_ok-index.index c.index.result.now here in
    rw (sym c.self.view_is) (ap (λ (e : Numbered). Some e.1) c.index.ensures ∙ sym found ∙ place_finds (place_in n.places) n.items.items n.next c.self.invariant c.args.key.now c.in_ok-at.at.now (sym c.in_ok-at.ensures.value))
