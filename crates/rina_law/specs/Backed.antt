-- How a layer keeps a direction beside its own state: the direction stands behind the layer's part of the cloud.
use Rattle.std.specs.Prelude.{◌≡◌, ℕ, ◌≤◌, ◌⊎◌, List}
use Rattle.rina_law.specs.Constants.{Constants}
use Rattle.rina_law.specs.Direction.{Direction}
use Rattle.rina_law.specs.DirectionHolds.{DirectionHolds}
use Rattle.rina_law.specs.Line.{InFlight}
use Rattle.rina_law.specs.Lists.{In}
use Rattle.rina_law.specs.Receiver.{Piece}
use Rattle.rina_law.specs.Sender.{Ack}

-- a PDU with this death has one like it in a list, with a death at least as great
abbrev pub IsIn : {P : Type 0} → List (InFlight P) → ℕ → P → Type 0
IsIn list death p = (q : InFlight _) × In q list × (q.pdu ≡ p) × (death ≤ q.death)

-- a cloud says with which deaths a PDU is in flight. Each pair that is not dead has its like in the direction's
-- lists, which may hold more
pub record IsBacked (c : Constants) (now : ℕ) (pieces : ℕ → Piece → Type 0) (acks : ℕ → Ack → Type 0) (d : Direction) : Type 0 where
  pub holds : DirectionHolds c d
  pub clock : d.line.clock ≡ now
  pub pieces_in : (death : ℕ) (p : Piece) → pieces death p → now ≤ death → IsIn d.line.pieces death p
  pub acks_in : (death : ℕ) (k : Ack) → acks death k → now ≤ death → IsIn d.line.acks death k

-- a later cloud: each pair of it that is not dead was in the one before with a death at least as great
abbrev pub Covers : {P : Type 0} → ℕ → (ℕ → P → Type 0) → (ℕ → P → Type 0) → Type 0
Covers now before after = (death : ℕ) (p : _) → after death p → now ≤ death → (older : ℕ) × (death ≤ older) × before older p

-- or it is of a PDU that was made now, and dies no later than that
abbrev pub CoversBut : {P : Type 0} → ℕ → (ℕ → P → Type 0) → (P → Type 0) → ℕ → (ℕ → P → Type 0) → Type 0
CoversBut now before made life after = (death : ℕ) (p : _) → after death p → now ≤ death → ((older : ℕ) × (death ≤ older) × before older p) ⊎ (made p × (death ≤ life))
