-- What never changes in one direction of a connection.
use Rattle.std.specs.Prelude.{ℕ}
use Rattle.rina_cube.specs.declared.Cube.{Cube}
use Rattle.rina_cube.specs.Cubes.{delta_of}

-- its cube, how many bytes a piece has at most, the greatest sequence number, and the sender's CEP-id
pub record Constants : Type 0 where
  pub cube : Cube
  pub piece : ℕ
  pub max : ℕ
  pub cep : ℕ

-- delta-t: how long a number may be in use after it was first sent, in ticks
abbrev pub delta : Constants → ℕ
delta c = delta_of c.cube
