-- Whether an allocation has failed, and where this is noted.
use Rattle.std.specs.Prelude.{◌≡◌, ◌||◌, Bool, List}
use Rattle.std.specs.List.{list_any}
use Rattle.rina_dif.specs.declared.dif.Dif.{Dif}
use Rattle.rina_wire.specs.Air.{failed_air}
use Rattle.rina_tower.specs.declared.tower.Tower.{Tower, Wires, Rank'}
use Rattle.rina_tower.specs.Levels.{AtWires}

-- one failed in one of these DIFs
abbrev pub have_failed : List Dif → Bool
have_failed difs = list_any (λ (d : Dif). d.failed) difs

-- one failed in the wires of a tower, or in a DIF of any rank
abbrev pub has_failed : Tower → Bool
has_failed (Wires a) = a.failed
has_failed (Rank' p difs below) = have_failed difs || has_failed below

-- the wires of the tower note that one failed, and nothing else changes
abbrev pub Fails : Tower → Tower → Type 0
Fails t t' = AtWires (λ a a'. a' ≡ failed_air a) t t'
