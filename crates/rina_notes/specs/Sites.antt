-- What the names in a line stand for.
use Rattle.std.specs.Prelude.{ℕ, ◌+◌, ◌==◌, Bool, List, filter, find, length, map, position, slice_get, take, Option, Some, None, Result, Ok, Err, option_map}
use Rattle.std.specs.Str.{bytes_eq}
use Rattle.rina_base.specs.declared.number.Port.{Port}
use Rattle.rina_base.specs.Traverse.{◌>>=◌}
use Rattle.rina_plan.specs.declared.dif.DifPlan.{DifPlan}
use Rattle.rina_stack.specs.declared.plan.Plan.{Plan}
use Rattle.rina_stack.specs.Names.{place_in}
use Rattle.rina_stack.specs.Plan.{names_of}
use Rattle.rina_notes.specs.declared.label.Label.{Label}
use Rattle.rina_notes.specs.declared.facility.RankedFac.{RankedFac}
use Rattle.rina_notes.specs.declared.site.Site.{Site}

-- what stands in a field; the field is unknown where there is nothing of that name
abbrev pub known : {A : Type 0} → ℕ → Option A → Result A ℕ
known field (Some x) = Ok x
known field None = Err field

-- a DIF has this rank
abbrev pub has_rank : ℕ → DifPlan → Bool
has_rank rank d = d.rank == rank

-- the names of the DIFs of a rank, in stack order
abbrev pub names_at : ℕ → List DifPlan → List (List ℕ)
names_at rank difs = map (λ (d : DifPlan). d.name) (filter (has_rank rank) difs)

-- the facility that is the DIF at a place of the stack: its rank, and its number among the DIFs of that rank
abbrev pub fac_at : List DifPlan → Option ℕ → Option RankedFac
fac_at difs None = None
fac_at difs (Some i) = option_map (λ (d : DifPlan). record { rank = d.rank; fac = length (filter (has_rank d.rank) (take i difs)) }) (slice_get difs i)

-- the DIF of that name
abbrev pub dif_named : List DifPlan → List ℕ → Option RankedFac
dif_named difs name = fac_at difs (position (λ (d : DifPlan). bytes_eq d.name name) difs)

abbrev pub wire_fac : ℕ → RankedFac
wire_fac n = record { rank = 0; fac = n }

abbrev pub or_dif : Option ℕ → Option RankedFac → Option RankedFac
or_dif (Some n) dif = Some (wire_fac n)
or_dif None dif = dif

-- the facility of that name: a wire, or a DIF
abbrev pub fac_named : Plan → List ℕ → Option RankedFac
fac_named plan name = or_dif (place_in (names_of plan.wires) name) (dif_named plan.difs name)

-- the place of a facility and a node that were found
abbrev pub site_of : RankedFac → ℕ → Site
site_of f n = record { rank = f.rank; fac = f.fac; node = n }

-- the facility and the node that two fields of a line name, of which the first is this one; or the
-- first of them that names nothing
unfoldable pub site_at : Plan → ℕ → List ℕ → List ℕ → Result Site ℕ
site_at plan field fac node = do
  f ← known field (fac_named plan fac)
  n ← known (field + 1) (place_in plan.nodes node)
  Ok (site_of f n)

-- the DIF and the node that the first two fields of a line name
unfoldable pub dif_site_at : Plan → List ℕ → List ℕ → Result Site ℕ
dif_site_at plan dif node = do
  f ← known 1 (dif_named plan.difs dif)
  n ← known 2 (place_in plan.nodes node)
  Ok (site_of f n)

-- the label of that name
abbrev pub label_in : List Label → List ℕ → Option Label
label_in labels name = find (λ (l : Label). bytes_eq l.name name) labels

-- the port of a label, and its rank before it
abbrev pub port_in : List Label → List ℕ → Option (ℕ × Port)
port_in labels name = option_map (λ (l : Label). (l.rank, l.port)) (label_in labels name)
