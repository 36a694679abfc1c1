-- The parts of an SDU.
use Rattle.std.specs.Prelude.{ℕ, zero, suc, ◌+◌, ◌-◌, ◌*◌, ◌/◌, ◌==◌, min, List, [], ◌∷◌, ◌++◌}
use Rattle.rina_delim.specs.declared.part.Part.{Part}

-- how many parts of a size an SDU of len bytes has: one at least
unfoldable pub part_count : ℕ → ℕ → ℕ
part_count len size = (len - 1) / size + 1

-- the part of a number, from 0: it has size bytes, or those that are left
unfoldable pub part_at : ℕ → ℕ → ℕ → Part
part_at len size number = record {
  first = number == 0;
  last = number + 1 == part_count len size;
  at = number * size;
  len = min size (len - number * size);
}

-- so many parts from the first on
abbrev pub first_parts : ℕ → ℕ → ℕ → List Part
first_parts len size zero = []
first_parts len size (suc k) = first_parts len size k ++ part_at len size k ∷ []

-- all parts, in order
unfoldable pub parts_of : ℕ → ℕ → List Part
parts_of len size = first_parts len size (part_count len size)
