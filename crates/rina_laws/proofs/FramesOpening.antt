-- A run begins over wires on which nothing was sent.
use Rattle.std.proofs.Common.{◌≡◌, ℕ, List, [], map, slice_get, Some, option_map, ◌∙◌, ap, subst}
use Rattle.std.proofs.lemmas.Option.{slice_get-map}
use Rattle.rina_law.specs.declared.entry.Entry.{Entry}
use Rattle.rina_policy.specs.Slots.{Slot}
use Rattle.rina_stack.specs.declared.plan.Plan.{Plan}
use Rattle.rina_tower.specs.declared.tower.Tower.{Wires}
use Rattle.rina_wire.specs.Air.{Air, Line, fac_of, wire_at}
use Rattle.rina_run.specs.Opening.{IsOpening}
use Rattle.rina_words.specs.Step.{Stage}
use Rattle.rina_laws.specs.Frames.{wires_of}
use Rattle.rina_laws.proofs.FramesCalls.{IsCarrying}
use Rattle.rina_laws.proofs.FramesKept.{Carries}
use Rattle.rina_laws.proofs.LabelBuilt.{IsBlank, built_blank}
use Rattle.rina_laws.proofs.LabelRanks.{facs_of}
use Rattle.rina_laws.proofs.WiresAt.{Holds}
use Rattle.rina_laws.proofs.WiresOf.{wires_rank, wires_sound}

-- no end of a wire sent anything
none_sent : (k now fac : ℕ) (a : Air) (l : Line) → IsBlank (facs_of (Wires a)) → wire_at a fac ≡ Some l → Carries k now l
none_sent k now fac a l blank wire late fate i j e x at is n =
    let shown : slice_get (map fac_of a.wires) fac ≡ Some (fac_of l) = slice_get-map fac_of a.wires fac ∙ ap (option_map fac_of) wire in
    let none = ((blank.of fac (fac_of l) shown).ends i e at).0 in
    let nowhere : slice_get [] j ≡ Some x = subst (λ (xs : List Entry). slice_get xs j ≡ Some x) none is in
    cc

pub opening_holds : (fac k : ℕ) (plan : Plan) (shelf : List Slot) (s : Stage) → IsOpening plan shelf s → Holds (IsCarrying fac k) s.run.tower
opening_holds fac k plan shelf s o =
    let a = wires_of s.run.tower in
    let blank = built_blank plan s.run.tower 0 (Wires a) o.built (wires_rank s.run.tower) in
    record { sound = wires_sound s.run.tower o.stands; holds = λ l h. none_sent k a.now fac a l blank h }
