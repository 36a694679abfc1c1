-- Where a tick stands in a wheel of four levels of 64 slots.
use Rattle.std.specs.Prelude.{◌≡◌, ◌≢◌, ℕ, zero, suc, ◌+◌, ◌*◌, ◌/◌, ◌%◌, ◌<◌, ◌≤◌, ◌⊎◌, ◌==◌, nat_le, if◌then◌else◌, List, Option, Some, None, length}
use Rattle.rina_timers.specs.Chains.{chain_of, link}
use Rattle.rina_timers.specs.Times.{IsSet}

-- the slot of a tick after the clock: 64 for each level at which they differ above, and then its digit there
unfoldable pub slot : ℕ → ℕ → ℕ → ℕ
slot zero clock at = at
slot (suc levels) clock at = if clock / 64 == at / 64 then at % 64 else 64 + slot levels (clock / 64) (at / 64)

-- the first tick of that slot
unfoldable pub slot_start : ℕ → ℕ → ℕ → ℕ
slot_start zero clock at = at
slot_start (suc levels) clock at = if clock / 64 == at / 64 then at else 64 * slot_start levels (clock / 64) (at / 64)

-- how many ticks these levels tell apart, with 256 slots behind them
abbrev pub reach : ℕ → ℕ
reach zero = 256
reach (suc levels) = 64 * reach levels

-- the chain of a timer: 0 where it is not set, 1 where the clock has reached its tick, else that of its slot
abbrev pub place : ℕ → Option ℕ → ℕ
place clock None = 0
place clock (Some at) = if nat_le at clock then 1 else 2 + slot 4 clock at

-- each timer stands where it belongs
pub record IsPlaced (times : List (Option ℕ)) (chains : List ℕ) (clock : ℕ) : Type 0 where
  pub long : length chains ≡ length times
  pub placed : (id : ℕ) → chain_of chains id ≡ place clock (link times id)

-- each timer stands where it belongs, but those of one chain, which belong before it
pub record IsPlacedBut (times : List (Option ℕ)) (chains : List ℕ) (clock chain : ℕ) : Type 0 where
  pub long : length chains ≡ length times
  pub placed : (id : ℕ) → ((chain_of chains id ≢ chain) × (chain_of chains id ≡ place clock (link times id))) ⊎ ((chain_of chains id ≡ chain) × (place clock (link times id) < chain))

-- a timer that is due stands in the chain of these, or none is due
abbrev pub IsReached : List (Option ℕ) → List ℕ → ℕ → Type 0
IsReached times chains now = ((id : ℕ) → chain_of chains id ≢ 1) → (id at : ℕ) → IsSet times id at → now < at

-- a slot whose first tick has come: its timers belong before it once the clock is there, and all others stay
pub record IsNextSlot (times : List (Option ℕ)) (chains : List ℕ) (clock now chain start : ℕ) : Type 0 where
  pub slot : 1 < chain
  pub within : chain < 514
  pub after : clock < start
  pub come : start ≤ now
  pub placed : IsPlacedBut times chains start chain
