-- The SDUs of the present receiver state that are not passed.
use Rattle.std.specs.Prelude.{ℕ, ◌-◌, nat_lt, if◌then◌else◌, List, [], ◌∷◌, ◌++◌, length, drop, Option, Some, None}

-- how many there is room for, how many of earlier states are to be passed before them, and the numbers with which they begin
pub record Waits : Type 0 where
  pub room : ℕ
  pub earlier : ℕ
  pub firsts : List ℕ

-- with one more, where there is room
abbrev pub with_whole : Option ℕ → Waits → Waits
with_whole None w = w
with_whole (Some n) w = if nat_lt (length w.firsts) w.room then record w { firsts = w.firsts ++ n ∷ [] } else w

-- one SDU was passed: first those of earlier states
abbrev pub after_pass : Waits → Waits
after_pass w = if nat_lt 0 w.earlier then record w { earlier = w.earlier - 1 } else record w { firsts = drop 1 w.firsts }

-- a state begins, while so many SDUs of earlier ones are not passed
abbrev pub begun : ℕ → Waits → Waits
begun unpassed w = record w { earlier = unpassed; firsts = [] }
