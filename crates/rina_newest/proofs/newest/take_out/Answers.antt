-- The entry at the index is the one of the number.
use Rattle.std.proofs.Common.{◌≡◌, None, sym, ◌∙◌, subst, List}
use Rattle.std.specs.Map.{lookup}
use Rattle.rina_newest.specs.Newest.{IsNumbered}
use Rattle.rina_newest.proofs.Index.{Numbered, at}
use Rattle.rina_newest.proofs.Numbers.{remove_numbered, remove_none}
use Rattle.rina_newest.proofs.newest.take_out.Goals as goal

pub returns-in-Some : goal.returns-in-Some
returns-in-Some c =
    let here = subst (λ (es : List Numbered). IsNumbered es c.args.at c.in-Some.index) c.deref.ensures.value c.in-Some.ensures in
    c.remove.ensures.items ∙ sym (remove_numbered c.args.items.now.items c.requires c.args.at c.in-Some.index here)

pub returns-in_default : goal.returns-in_default
returns-in_default c =
    let none = subst (λ (es : List Numbered). lookup (at c.args.at) es ≡ None) c.deref.ensures.value c.in_default.ensures in
    sym (remove_none c.args.at c.args.items.now.items none)
