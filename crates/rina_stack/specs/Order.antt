-- The rules from 8 on in their order, each over the whole stack.
use Rattle.std.specs.Prelude.{ℕ, ◌+◌, List, length, map, Result, option_map, position}
use Rattle.rina_base.specs.Traverse.{◌>>=◌}
use Rattle.rina_plan.specs.declared.dif.DifPlan.{DifPlan}
use Rattle.rina_plan.specs.declared.dif.WireEnds.{WireEnds}
use Rattle.rina_plan.specs.Difs.{lacks_lower, lacks_cubes, has_mistimed, is_misplaced, has_unfit_pdu, has_oversized}
use Rattle.rina_plan.specs.Links.{is_misused, has_unfit_link, is_uncarried}
use Rattle.rina_plan.specs.Walks.{is_unjoined}
use Rattle.rina_plan.specs.Counts.{first_loaded, first_full}
use Rattle.rina_table.specs.declared.error.StackError.{StackError}
use Rattle.rina_table.specs.Faults.{unless}
use Rattle.rina_table.specs.declared.sketch.WireSketch.{WireSketch}
use Rattle.rina_table.specs.declared.sketch.Sketch.{Sketch}
use Rattle.rina_stack.specs.Rules.{first_wire, is_unfit_wire, top_fault}

-- what the rules on DIFs read of a wire
abbrev pub ends_of : WireSketch → WireEnds
ends_of w = record { a = w.a; b = w.b; largest = w.largest }

-- the rules from 9 to 14, each over all DIFs, where `first` is the item of the first DIF
unfoldable pub alone_at : ℕ → List DifPlan → Result (Unit {0}) StackError
alone_at first difs = do
  _ ← unless 9 (option_map (λ i. first + i) (position (lacks_lower difs) difs))
  _ ← unless 10 (option_map (λ i. first + i) (position lacks_cubes difs))
  _ ← unless 11 (option_map (λ i. first + i) (position has_mistimed difs))
  _ ← unless 12 (option_map (λ i. first + i) (position is_misplaced difs))
  _ ← unless 13 (option_map (λ i. first + i) (position has_unfit_pdu difs))
  unless 14 (option_map (λ i. first + i) (position has_oversized difs))

-- the rules from 15 to 18, on links and flows; a wire with two links is the item of rule 16, before any DIF
unfoldable pub linked_at : ℕ → List WireEnds → List DifPlan → Result (Unit {0}) StackError
linked_at first wires difs = do
  _ ← unless 15 (option_map (λ i. first + i) (position (is_misused difs) difs))
  _ ← unless 16 (option_map (λ i. 1 + i) (first_loaded (length wires) difs))
  _ ← unless 16 (option_map (λ i. first + i) (position (has_unfit_link wires difs) difs))
  _ ← unless 17 (option_map (λ i. first + i) (position (is_uncarried wires difs) difs))
  unless 18 (option_map (λ i. first + i) (position (is_unjoined difs) difs))

-- the rules from 9 to 18
unfoldable pub difs_at : ℕ → List WireEnds → List DifPlan → Result (Unit {0}) StackError
difs_at first wires difs = alone_at first difs >>= λ _. linked_at first wires difs

-- the rules from 8 on
unfoldable pub rules_at : Sketch → Result (Unit {0}) StackError
rules_at s = do
  _ ← unless 8 (first_wire is_unfit_wire s.wires)
  _ ← difs_at (1 + length s.wires) (map ends_of s.wires) s.difs
  _ ← unless 19 (top_fault s)
  unless 19 (option_map (λ i. 1 + length s.wires + i) (first_full s.difs))
