-- Link states as they are written.
use Rattle.std.specs.Prelude.{◌≡◌, ℕ, ◌^◌, ◌<◌, ◌≤◌, List, [], ◌∷◌, ◌++◌}
use Rattle.std.specs.Fmt.{decimal}
use Rattle.rina_graph.specs.declared.graph.Edge.{Edge}

-- a neighbour: its address, a colon, and the weight of the link
abbrev pub claim_text : Edge → List ℕ
claim_text e = decimal e.to ++ 58 ∷ decimal e.weight

-- more neighbours behind a text, each behind a comma
abbrev pub claims_behind : List ℕ → List Edge → List ℕ
claims_behind text [] = text
claims_behind text (e ∷ es) = text ++ 44 ∷ claims_behind (claim_text e) es

-- the value of a link state: its neighbours, joined by commas
abbrev pub claims_text : List Edge → List ℕ
claims_text [] = []
claims_text (e ∷ es) = claims_behind (claim_text e) es

-- an edge that the link state of an address can claim
pub record IsClaim (own : ℕ) (e : Edge) : Type 0 where
  pub from : e.from ≡ own
  pub to : e.to < 2 ^ 32
  pub least : 1 ≤ e.weight
  pub weight : e.weight ≤ 65535
