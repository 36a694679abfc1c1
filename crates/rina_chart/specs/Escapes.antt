-- Texts of the input as they may stand in XML.
use Rattle.std.specs.Prelude.{ℕ, ◌==◌, ◌&&◌, Bool, true, not, nat_le, List, [], ◌∷◌, codes, if◌then◌else◌}
use Rattle.std.specs.List.{flat_map, list_any, starts_with}
use Rattle.std.specs.Prelude.{nat_eq, ◌||◌}

-- a byte stands for itself: it is from space to `~`, and none of `&`, `<`, `>`, `"` and `'`
unfoldable pub is_plain : ℕ → Bool
is_plain b = nat_le 32 b && nat_le b 126 && not (b == 38) && not (b == 60) && not (b == 62) && not (b == 34) && not (b == 39)

-- the entity of a byte that does not stand for itself; U+FFFD for one that XML does not allow, or that is no ASCII
unfoldable pub entity : ℕ → List ℕ
entity b = if b == 38 then codes "&amp;" else if b == 60 then codes "&lt;" else if b == 62 then codes "&gt;" else if b == 34 then codes "&quot;" else if b == 39 then codes "&#39;" else codes "&#xFFFD;"

-- a byte, or the entity that stands for it
unfoldable pub spelled : ℕ → List ℕ
spelled b = if is_plain b then b ∷ [] else entity b

-- a text with each byte spelled
abbrev pub escaped : List ℕ → List ℕ
escaped bytes = flat_map spelled bytes

-- what may stand behind an `&`
abbrev pub entity_ends : List (List ℕ)
entity_ends = codes "amp;" ∷ codes "lt;" ∷ codes "gt;" ∷ codes "quot;" ∷ codes "#39;" ∷ codes "#xFFFD;" ∷ []

-- the byte before a text may stand in XML: it stands for itself, or it is an `&` that begins an entity
unfoldable pub may_stand : ℕ → List ℕ → Bool
may_stand b rest = is_plain b || ((b == 38) && list_any (λ end. starts_with nat_eq rest end) entity_ends)

-- a text has none of `<`, `>`, `"` and `'`, no byte that XML does not allow, and an `&` only where an entity begins
abbrev pub is_safe : List ℕ → Bool
is_safe [] = true
is_safe (b ∷ rest) = may_stand b rest && is_safe rest
