-- What a contract sees of a reader of lines.
use Rattle.std.specs.Prelude.{ℕ, ◌+◌, Bool, List, length}

-- the bytes that were read and are not handed out yet, how many bytes more may be read, and whether the end of the source was met
pub record Reader : Type 0 where
  pub held : List ℕ
  pub room : ℕ
  pub over : Bool

-- how many bytes it may still hand out
abbrev pub size : Reader → ℕ
size r = length r.held + r.room
