-- Which place among the heads a policy picks.
use Rattle.std.specs.Prelude.{◌≡◌, ℕ, ◌-◌, ◌%◌, ◌<◌, ◌≤◌, ◌==◌, List, length, Some, slice_get, if◌then◌else◌}
use Rattle.rina_policy.specs.declared.policy.Head.{Head}

-- of the first so many heads, the place of the least since, and of several such the lowest place
abbrev pub IsEarliestOf : ℕ → List Head → ℕ → Type 0
IsEarliestOf many heads place =
    (place < many) × ((k : ℕ) (h other : Head) → k < many → slice_get heads place ≡ Some h → slice_get heads k ≡ Some other → (h.since ≤ other.since) × (k < place → h.since < other.since))

-- the place of the least since, and of several such the lowest place
abbrev pub IsEarliest : List Head → ℕ → Type 0
IsEarliest heads place = IsEarliestOf (length heads) heads place

-- place 0, but at each fourth pick the last of so many places
abbrev pub weighted_place : ℕ → ℕ → ℕ
weighted_place picks heads = if picks % 4 == 3 then heads - 1 else 0
