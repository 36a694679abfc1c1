-- Room for whole SDUs.
use Rattle.std.specs.Prelude.{ℕ, List}

-- an SDU from one number to another, in room for so many bytes
pub record Waiting : Type 0 where
  pub room : ℕ
  pub from : ℕ
  pub last : ℕ
  pub bytes : List ℕ
