-- Counters of a member: of the items that it made, and of the requests that it sent. Each number is one more than the last.
use Rattle.std.specs.Prelude.{ℕ, ◌+◌, ◌-◌, ◌^◌, min, nat_lt, Option, Some, None, Result, Ok, Err, if◌then◌else◌}
use Rattle.rina_agent.specs.declared.state.AgentError.{AgentError}
use Rattle.rina_agent.specs.declared.state.AgentError.TheVariants.{CountSpent}

-- the next number; the greatest stays
abbrev pub next_of : ℕ → ℕ
next_of last = min (last + 1) (2 ^ 32 - 1)

-- the refusal where fewer numbers are left than are needed
abbrev pub spent : ℕ → ℕ → Option AgentError
spent need last = if nat_lt (2 ^ 32 - 1 - last) need then Some (CountSpent need (2 ^ 32 - 1 - last)) else None

-- what is done unless it is refused
abbrev pub unless : {A : Type 0} → Option AgentError → A → Result A AgentError
unless None done = Ok done
unless (Some e) done = Err e
