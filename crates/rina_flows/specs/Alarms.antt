-- The ticks at which the timers of places are set.
use Rattle.std.specs.Prelude.{◌≡◌, ◌≢◌, ℕ, ◌-◌, ◌<◌, ◌^◌, List, [], Option, Some, None, is_some, cond, length, slice_index_or, unwrap_or}
use Rattle.std.specs.List.{sum_by}

-- the ticks by place
abbrev pub times_of : Option (List (Option ℕ)) → List (Option ℕ)
times_of (Some times) = times
times_of None = []

-- the tick at which the timer of a place is set, the last one of all where it is not
abbrev pub tick_at : List (Option ℕ) → ℕ → ℕ
tick_at times at = unwrap_or (slice_index_or times at None) (2 ^ 32 - 1)

-- the place has a timer, which may be set
abbrev pub HasAlarm : List (Option ℕ) → ℕ → Type 0
HasAlarm times at = (at < length times) × (at < 2 ^ 32)

-- the timer of a place is set to a tick, and no other changes
pub record Sets (at tick : ℕ) (old new : List (Option ℕ)) : Type 0 where
  pub here : tick_at new at ≡ tick
  pub others : (i : ℕ) → i ≢ at → tick_at new i ≡ tick_at old i
  pub long : length new ≡ length old

-- how many timers are set
abbrev pub how_many : List (Option ℕ) → ℕ
how_many times = sum_by (λ (t : Option ℕ). cond (is_some t) 1 0) times

-- the timer that rang is cleared; none did, and nothing changes
abbrev pub IsRung : Option ℕ → List (Option ℕ) → List (Option ℕ) → Type 0
IsRung (Some at) old new = HasAlarm old at × Sets at (2 ^ 32 - 1) old new × (how_many new < how_many old)
IsRung None old new = new ≡ old
