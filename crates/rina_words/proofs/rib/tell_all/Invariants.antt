-- So far these objects were told.
use Rattle.std.proofs.Common.{◌≡◌, ◌++◌, take}
use Rattle.std.specs.List.{flat_map}
use Rattle.rina_dif.specs.declared.shown.Shown.{Shown}
use Rattle.rina_notes.specs.Look.{noted}
use Rattle.rina_notes.specs.StepTold.{object_told}
use Rattle.rina_words.proofs.rib.tell_all.Given as goal

abbrev pub invariant-objects : goal.invariant-objects
invariant-objects l = l.trace ≡ l.fn.trace ++ flat_map (λ (x : Shown). noted l.line l.tick (object_told x)) (take l.shown-index l.objects)
