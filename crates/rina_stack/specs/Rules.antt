-- Rules 5, 8 and 19 over a whole stack, each with the first item that breaks it.
use Rattle.std.specs.Prelude.{ℕ, ◌+◌, ◌-◌, ◌*◌, ◌/◌, ◌++◌, ◌==◌, ◌||◌, min, Bool, nat_lt, List, [], ◌∷◌, length, map, Option, Some, None, is_some, if◌then◌else◌, option_map, option_and_then, position}
use Rattle.std.specs.List.{list_any}
use Rattle.std.specs.Str.{bytes_eq}
use Rattle.rina_plan.specs.declared.dif.FlowPlan.{FlowPlan}
use Rattle.rina_plan.specs.declared.dif.DifPlan.{DifPlan}
use Rattle.rina_base.specs.declared.storm.Storm.{Storm}
use Rattle.rina_table.specs.declared.sketch.WireSketch.{WireSketch}
use Rattle.rina_table.specs.declared.sketch.Sketch.{Sketch}

-- the earlier of two items
abbrev pub earlier : Option ℕ → Option ℕ → Option ℕ
earlier (Some m) (Some n) = Some (min m n)
earlier (Some m) None = Some m
earlier None other = other

-- ---- rule 5: no name twice

abbrev pub has_text : List (List ℕ) → List ℕ → Bool
has_text ts t = list_any (λ u. bytes_eq u t) ts

-- the place of the first text that equals one before it
unfoldable pub duplicate_after : List (List ℕ) → List (List ℕ) → Option ℕ
duplicate_after before [] = None
duplicate_after before (t ∷ ts) = if has_text before t then Some (length before) else duplicate_after (before ++ t ∷ []) ts

abbrev pub duplicate_in : List (List ℕ) → Option ℕ
duplicate_in ts = duplicate_after [] ts

abbrev pub wire_names : List WireSketch → List (List ℕ)
wire_names wires = map (λ (w : WireSketch). w.name) wires

abbrev pub dif_names : List DifPlan → List (List ℕ)
dif_names difs = map (λ (d : DifPlan). d.name) difs

-- the labels of flows, two for each
abbrev pub flow_labels : List FlowPlan → List (List ℕ)
flow_labels [] = []
flow_labels (f ∷ fs) = f.from.label ∷ f.to.label ∷ flow_labels fs

-- the labels of all flows
abbrev pub labels : List DifPlan → List (List ℕ)
labels [] = []
labels (d ∷ ds) = flow_labels d.flows ++ labels ds

-- the place of the DIF that has the label at a place
unfoldable pub owner_of : ℕ → List DifPlan → Option ℕ
owner_of k [] = None
owner_of k (d ∷ ds) = if nat_lt (k / 2) (length d.flows) then Some 0 else option_map (λ i. i + 1) (owner_of (k - length d.flows * 2) ds)

-- the first wire or DIF whose name a wire or DIF before it has
abbrev pub facility_duplicate : Sketch → Option ℕ
facility_duplicate s = option_map (λ i. 1 + i) (duplicate_in (wire_names s.wires ++ dif_names s.difs))

-- the DIF of the first label that equals one before it
abbrev pub label_duplicate : List DifPlan → Option ℕ
label_duplicate difs = option_and_then (λ k. owner_of k difs) (duplicate_in (labels difs))

-- nodes belong to the top; wires and DIFs have their names in common
unfoldable pub duplicate_fault : Sketch → Option ℕ
duplicate_fault s = if is_some (duplicate_in s.nodes) then Some 0 else earlier (facility_duplicate s) (option_map (λ i. 1 + length s.wires + i) (label_duplicate s.difs))

-- ---- rule 8: the ends of a wire differ, and a frame arrives in its lifetime

abbrev pub spread_of : Option Storm → ℕ
spread_of None = 0
spread_of (Some storm) = storm.spread

unfoldable pub is_unfit_wire : WireSketch → Bool
is_unfit_wire w = (w.a == w.b) || nat_lt w.life (w.delay + spread_of w.storm)

-- the first wire that passes; the first of all wires is item 1
abbrev pub first_wire : (WireSketch → Bool) → List WireSketch → Option ℕ
first_wire p wires = option_map (λ i. 1 + i) (position p wires)

-- ---- rule 19: how many there may be

unfoldable pub top_fault : Sketch → Option ℕ
top_fault s = if nat_lt 64 (length s.nodes) || nat_lt 128 (length s.wires) || nat_lt 16 (length s.difs) then Some 0 else None
