use Rattle.std.proofs.Common.{◌∙◌, ◌-◌, ◌≤◌, List, length, None, Option, Some, ap, subst, sym}
use Rattle.rina_ids.specs.declared.slot.Slot.{Slot}
use Rattle.rina_ids.specs.declared.slot.Slot.TheVariants.{InUse}
use Rattle.rina_ids.specs.Ids.{HasDrawn}
use Rattle.rina_ids.proofs.Undone.{again_back, again_within, new_last, pushed_some}
use Rattle.rina_ids.proofs.ids.Ids.undo_draw.Goals as goal

pub put_back-requires : goal.put_back-requires
put_back-requires c = again_within c.requires.0 c.args.self.now.1 c.args.id c.in-Some.slot (subst (λ (o : Option Slot). HasDrawn c.requires.0 c.args.id o c.args.self.now.1) c.in-Some.is c.requires.1)

pub take_out-requires : goal.take_out-requires
take_out-requires c =
    let last = new_last c.requires.0 c.args.self.now.1 c.args.id (subst (λ (o : Option Slot). HasDrawn c.requires.0 c.args.id o c.args.self.now.1) c.in-None.is c.requires.1) in
    subst (λ (zs : List Slot). 1 ≤ length zs) (sym last) (pushed_some c.requires.0 InUse)

pub returns-in-Some : goal.returns-in-Some
returns-in-Some c = λ slots h.
    c.put_back.ensures ∙ ap (λ (zs : List Slot). (c.args.self.now.0, zs)) (again_back slots c.args.self.now.1 c.args.id c.in-Some.slot (subst (λ (o : Option Slot). HasDrawn slots c.args.id o c.args.self.now.1) c.in-Some.is h))

pub returns-in-None : goal.returns-in-None
returns-in-None c = λ slots h. c.take_out.ensures slots InUse (new_last slots c.args.self.now.1 c.args.id (subst (λ (o : Option Slot). HasDrawn slots c.args.id o c.args.self.now.1) c.in-None.is h))
