-- What changes in a tower where something is done at one of its ranks.
use Rattle.std.specs.Prelude.{◌≡◌, ◌≢◌, ℕ, ◌+◌, ◌⊎◌, List, slice_get, slice_set, Some, None, refl}
use Rattle.std.proofs.Common.{◌∙◌}
use Rattle.rina_dif.specs.declared.dif.Dif.{Dif}
use Rattle.rina_wire.specs.Air.{Air}
use Rattle.rina_tower.specs.declared.tower.Tower.{Tower, Wires, Rank'}
use Rattle.rina_tower.specs.Ranks.{height_of}
use Rattle.rina_tower.specs.Unchanged.{AreStaying, difs_refl, difs_trans}

-- nothing of the ranks below the own one changed, and nothing in the own DIFs that never does
abbrev pub SameBelow : Tower → Tower → Type 0
SameBelow (Wires a) (Wires a') = Unit {0}
SameBelow (Rank' p difs below) (Rank' p' difs' below') = AreStaying difs difs' × (below' ≡ below)
SameBelow t t' = ⊥

pub same_refl : (t : Tower) → SameBelow t t
same_refl (Wires a) = tt
same_refl (Rank' p difs below) = (difs_refl difs, refl)

pub same_trans : (t u v : Tower) → SameBelow t u → SameBelow u v → SameBelow t v
same_trans (Wires a) (Wires a') (Wires a'') h g = tt
same_trans (Rank' p difs below) (Rank' p' difs' below') (Rank' p'' difs'' below'') h g = (difs_trans difs difs' difs'' h.0 g.0, g.1 ∙ h.1)
same_trans (Wires a) (Wires a') (Rank' p difs below) h g = absurd g
same_trans (Wires a) (Rank' p difs below) v h g = absurd h
same_trans (Rank' p difs below) (Wires a') v h g = absurd h
same_trans (Rank' p difs below) (Rank' p' difs' below') (Wires a'') h g = absurd g

-- at rank r of a tower this is done, and nothing else changes; where it has no such rank, this is the answer
abbrev pub AtRank : ℕ → (Tower → Tower → Type 0) → Type 0 → Tower → Tower → Type 0
AtRank r does none (Wires a) (Wires a') = ((r ≡ 0) × does (Wires a) (Wires a')) ⊎ ((r ≢ 0) × none × (a' ≡ a))
AtRank r does none (Rank' p difs below) (Rank' p' difs' below') =
    ((r ≡ height_of below + 1) × does (Rank' p difs below) (Rank' p' difs' below'))
    ⊎ ((r ≢ height_of below + 1) × (difs' ≡ difs) × AtRank r does none below below')
AtRank r does none t t' = ⊥

-- at the wires of a tower this is done, and nothing else changes
abbrev pub AtWires : (Air → Air → Type 0) → Tower → Tower → Type 0
AtWires does (Wires a) (Wires a') = does a a'
AtWires does (Rank' p difs below) (Rank' p' difs' below') = (difs' ≡ difs) × AtWires does below below'
AtWires does t t' = ⊥

-- the DIF of a place does something, and no other DIF of the rank changes
pub record IsAtDif (does : Dif → Dif → Type 0) (n : ℕ) (difs difs' : List Dif) : Type 0 where
  pub dif : Dif
  pub dif' : Dif
  pub is_dif : slice_get difs n ≡ Some dif
  pub done : does dif dif'
  pub new_is : difs' ≡ slice_set difs n dif'

-- the same; where there is no such DIF, this is the answer
abbrev pub AtDif : ℕ → (Dif → Dif → Type 0) → Type 0 → List Dif → List Dif → Type 0
AtDif n does none difs difs' = IsAtDif does n difs difs' ⊎ ((slice_get difs n ≡ None) × none × (difs' ≡ difs))
