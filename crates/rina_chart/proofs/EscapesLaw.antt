-- A text that is escaped may stand in XML.
use Rattle.std.proofs.Common.{◌≡◌, ℕ, ◌==◌, Bool, true, false, cond, List, [], ◌∷◌, ◌++◌, refl, codes}
use Rattle.rina_chart.specs.Escapes.{entity, escaped, is_plain, is_safe, may_stand, spelled}

plain_front : (b : ℕ) (rest : List ℕ) → is_plain b ≡ true → is_safe rest ≡ true → is_safe (b ∷ rest) ≡ true
unfolding may_stand
plain_front b rest plain safe = rw plain safe

either : (c : Bool) (x y rest : List ℕ) → is_safe (x ++ rest) ≡ true → is_safe (y ++ rest) ≡ true → is_safe (cond c x y ++ rest) ≡ true
either true x y rest first second = first
either false x y rest first second = second

amp : (rest : List ℕ) → is_safe rest ≡ true → is_safe (codes "&amp;" ++ rest) ≡ true
unfolding may_stand is_plain
amp rest safe = safe

lt : (rest : List ℕ) → is_safe rest ≡ true → is_safe (codes "&lt;" ++ rest) ≡ true
unfolding may_stand is_plain
lt rest safe = safe

gt : (rest : List ℕ) → is_safe rest ≡ true → is_safe (codes "&gt;" ++ rest) ≡ true
unfolding may_stand is_plain
gt rest safe = safe

quot : (rest : List ℕ) → is_safe rest ≡ true → is_safe (codes "&quot;" ++ rest) ≡ true
unfolding may_stand is_plain
quot rest safe = safe

apostrophe : (rest : List ℕ) → is_safe rest ≡ true → is_safe (codes "&#39;" ++ rest) ≡ true
unfolding may_stand is_plain
apostrophe rest safe = safe

replaced : (rest : List ℕ) → is_safe rest ≡ true → is_safe (codes "&#xFFFD;" ++ rest) ≡ true
unfolding may_stand is_plain
replaced rest safe = safe

entity_front : (b : ℕ) (rest : List ℕ) → is_safe rest ≡ true → is_safe (entity b ++ rest) ≡ true
unfolding entity
entity_front b rest safe =
    either (b == 38) _ _ rest (amp rest safe)
    (either (b == 60) _ _ rest (lt rest safe)
    (either (b == 62) _ _ rest (gt rest safe)
    (either (b == 34) _ _ rest (quot rest safe)
    (either (b == 39) _ _ rest (apostrophe rest safe) (replaced rest safe)))))

spelled_by : (c : Bool) (b : ℕ) (rest : List ℕ) → is_plain b ≡ c → is_safe rest ≡ true → is_safe (cond c (b ∷ []) (entity b) ++ rest) ≡ true
spelled_by true b rest plain safe = plain_front b rest plain safe
spelled_by false b rest plain safe = entity_front b rest safe

spelled_front : (b : ℕ) (rest : List ℕ) → is_safe rest ≡ true → is_safe (spelled b ++ rest) ≡ true
unfolding spelled
spelled_front b rest safe = spelled_by (is_plain b) b rest refl safe

pub escaped_safe : (bytes : List ℕ) → is_safe (escaped bytes) ≡ true
escaped_safe [] = refl
escaped_safe (b ∷ bytes) = spelled_front b (escaped bytes) (escaped_safe bytes)
