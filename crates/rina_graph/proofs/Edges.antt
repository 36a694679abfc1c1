-- Edges of a graph stay sound when one more is added.
use Rattle.std.proofs.Common.{ℕ, ◌<◌, ◌≤◌, List, [], ◌∷◌, ◌++◌, ⊎_elim, subst}
use Rattle.std.proofs.lemmas.List.Elements.{Contains-push_cases}
use Rattle.rina_graph.specs.declared.graph.Edge.{Edge}
use Rattle.rina_graph.specs.Walks.{AreEdges}

abbrev pub IsSound : ℕ → Edge → Type 0
IsSound nodes e = (e.from < nodes) × (e.to < nodes) × (1 ≤ e.weight) × (e.weight ≤ 65535)

pub one_more : (nodes : ℕ) (edges : List Edge) (e : Edge) → AreEdges nodes edges → IsSound nodes e → AreEdges nodes (edges ++ e ∷ [])
one_more nodes edges e sound h x among = ⊎_elim (λ before. sound x before) (λ same. subst (IsSound nodes) same h) (Contains-push_cases edges e x among)
