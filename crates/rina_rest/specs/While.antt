-- How a DIF keeps a direction behind its part of the cloud for as long as the connection is in use. After that no PDU of the
-- cloud is asked for, and the direction goes on by its clock alone.
use Rattle.std.specs.Prelude.{◌≡◌, ℕ, Some}
use Rattle.rina_cube.specs.Cubes.{IsCube}
use Rattle.rina_law.specs.Backed.{IsBacked}
use Rattle.rina_law.specs.Constants.{Constants}
use Rattle.rina_law.specs.Direction.{Direction}
use Rattle.rina_law.specs.Receiver.{Piece}
use Rattle.rina_law.specs.Sender.{Ack}
use Rattle.rina_rest.specs.Flows.{Endpoint, Side, Flow, ended_of, IsInUse}
use Rattle.rina_rest.specs.Still.{rest_of, HasEnded}

-- a part of a cloud, of which nothing is asked for unless this holds
abbrev pub Guarded : Type 0 → {P : Type 0} → (ℕ → P → Type 0) → ℕ → P → Type 0
Guarded guard cloud death p = guard × cloud death p

-- a direction stands behind a part of a cloud, if this holds
abbrev pub IsBackedIf : Type 0 → Constants → ℕ → (ℕ → Piece → Type 0) → (ℕ → Ack → Type 0) → Direction → Type 0
IsBackedIf guard c now pieces acks d = IsBacked c now (Guarded guard pieces) (Guarded guard acks) d

-- while the connection is in use
abbrev pub IsBackedWhile : Constants → ℕ → Flow → (ℕ → Piece → Type 0) → (ℕ → Ack → Type 0) → Direction → Type 0
IsBackedWhile c now f pieces acks d = IsBackedIf (IsInUse now f) c now pieces acks d

-- the direction in which the end of a side sends: its ids rest by its cube, and where that end ended, it made no piece later
pub record IsDirectionFrom (c : Constants) (side : Side) (f : Flow) (far : Endpoint) (d : Direction) : Type 0 where
  pub cube : IsCube c.cube
  pub rest : rest_of c ≡ f.rest
  pub ended : (t : ℕ) → ended_of side f far ≡ Some t → HasEnded d t
