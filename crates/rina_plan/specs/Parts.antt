-- The parts that links join nodes to.
use Rattle.std.specs.Prelude.{◌≡◌, ℕ, ◌==◌, ◌&&◌, ◌||◌, Bool, false, List, [], ◌∷◌, slice_index, Option, Some, option_map, position, if◌then◌else◌}
use Rattle.rina_plan.specs.declared.dif.LinkPlan.{LinkPlan}
use Rattle.rina_plan.specs.Walks.{is_joined}

-- the ends of links, two for each
abbrev pub ends_of : List LinkPlan → List ℕ
ends_of [] = []
ends_of (l ∷ ls) = l.a ∷ l.b ∷ ends_of ls

-- the part of a node, which stands at the node's place
abbrev pub part_in : List ℕ → List ℕ → ℕ → Option ℕ
part_in nodes parts n = option_map (λ i. slice_index parts i) (position (λ m. m == n) nodes)

abbrev pub is_same : Option ℕ → Option ℕ → Bool
is_same (Some p) (Some q) = p == q
is_same _ _ = false

-- two nodes are equal, or have one part
unfoldable pub is_one_part : List ℕ → List ℕ → ℕ → ℕ → Bool
is_one_part nodes parts m n = (m == n) || is_same (part_in nodes parts m) (part_in nodes parts n)

-- what becomes of a part where one is merged into another
abbrev pub merged : ℕ → ℕ → ℕ → ℕ
merged from to part = if part == from then to else part

-- nodes have one part exactly where a walk of the links joins them
abbrev pub ArePartsOf : List LinkPlan → List ℕ → List ℕ → Type 0
ArePartsOf links nodes parts = (m n : ℕ) → is_one_part nodes parts m n ≡ is_joined links m n

-- nodes have one part where they had, and where the link leads from the part of one to that of the other
abbrev pub Merges : List ℕ → List ℕ → List ℕ → LinkPlan → Type 0
Merges nodes parts after l = (m n : ℕ) → is_one_part nodes after m n ≡ (is_one_part nodes parts m n || (is_one_part nodes parts m l.a && is_one_part nodes parts l.b n) || (is_one_part nodes parts m l.b && is_one_part nodes parts l.a n))
