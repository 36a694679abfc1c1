-- Which places are looked at for what is due.
use Rattle.std.specs.Prelude.{ℕ, ◌-◌, ◌^◌, ◌≤◌, ◌≡◌, ◌≢◌, List, length, slice_get, Some, false}
use Rattle.rina_conn.specs.declared.conn.Conn.{Conn}
use Rattle.rina_conn.specs.Quiet.{IsIdleAt}
use Rattle.rina_flows.specs.declared.due.Item.{Item}
use Rattle.rina_flows.specs.declared.flows.Flows.{Flows}
use Rattle.rina_flows.specs.declared.watch.Watch.{Watch}
use Rattle.rina_flows.specs.Alarms.{Sets, tick_at}
use Rattle.rina_flows.specs.Quiet.{IsBeside}
use Rattle.rina_flows.specs.Timely.{DueIn}

-- a place is noted at which nothing is due before the tick `quiet`: it is looked at from now on, or its timer rings no
-- later than that; and no other place loses its timer, or is looked at no more
pub record Notes (at quiet : ℕ) (old new : Watch) : Type 0 where
  pub keeps : (i : ℕ) → i ≢ at → IsBeside new.places.items i → IsBeside old.places.items i × (tick_at new.alarms i ≤ tick_at old.alarms i)
  pub here : IsBeside new.places.items at → tick_at new.alarms at ≤ quiet
  pub least : ((i : ℕ) → old.until ≤ tick_at old.alarms i) → (i : ℕ) → new.until ≤ tick_at new.alarms i
  pub long : length new.alarms ≡ length old.alarms

-- each place that is not looked at was not looked at before, and its timer rings no later
pub record Shifts (old new : Watch) : Type 0 where
  pub keeps : (i : ℕ) → IsBeside new.places.items i → IsBeside old.places.items i × (tick_at new.alarms i ≤ tick_at old.alarms i)
  pub least : ((i : ℕ) → old.until ≤ tick_at old.alarms i) → (i : ℕ) → new.until ≤ tick_at new.alarms i
  pub long : length new.alarms ≡ length old.alarms

-- the timer of a place is cleared
pub record Clears (at : ℕ) (old new : Watch) : Type 0 where
  pub sets : Sets at (2 ^ 32 - 1) old.alarms new.alarms
  pub places : new.places.items ≡ old.places.items
  pub until : new.until ≡ old.until

-- at this tick no item is due at the end of any other place than these
abbrev pub NoneDueBeside : ℕ → List ℕ → Flows → Type 0
NoneDueBeside now places flows = (at : ℕ) → IsBeside places at → (item : Item) → DueIn item now at flows false

-- nor at any connection of another place, unless it is closed
abbrev pub AreIdleBeside : ℕ → List ℕ → List Conn → Type 0
AreIdleBeside now places conns = (at : ℕ) (k : Conn) → slice_get conns at ≡ Some k → IsBeside places at → k.rx.closed ≡ false → IsIdleAt now k
