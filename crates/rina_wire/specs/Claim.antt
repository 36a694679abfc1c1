-- `incoming` on wires.
use Rattle.std.specs.Prelude.{◌≡◌, ℕ, List, remove, slice_get, Option, Some, None, option_and_then, option_map}
use Rattle.rina_base.specs.declared.number.Port.{Port}
use Rattle.rina_iface.specs.declared.ends.End.{End}
use Rattle.rina_iface.specs.Seen.{oldest_in}
use Rattle.rina_wire.specs.Air.{Air, Line, on_wire, wire_at}

-- the end at the place that stands there among those that wait
abbrev pub waiting_end : Line → ℕ → Option End
waiting_end l at = option_and_then (λ place. slice_get l.ends place) (slice_get l.waiting at)

-- the oldest far end of the application at the node that waits to be claimed
abbrev pub claim_in : Line → ℕ → List ℕ → Option End
claim_in l node app = option_and_then (λ at. waiting_end l at) (oldest_in l.ends l.waiting node app)

-- the port that is answered
abbrev pub claim_at : Air → ℕ → ℕ → List ℕ → Option Port
claim_at a fac node app = option_map (λ (e : End). e.port) (option_and_then (λ l. claim_in l node app) (wire_at a fac))

abbrev pub without : Line → Option ℕ → Line
without l None = l
without l (Some at) = record l { waiting = remove l.waiting at }

-- the wires after that end was claimed
abbrev pub claimed : Air → ℕ → ℕ → List ℕ → Air
claimed a fac node app = on_wire a fac (λ (l : Line). without l (oldest_in l.ends l.waiting node app))

-- what `incoming` does
pub record ClaimsOn (a : Air) (fac node : ℕ) (app : List ℕ) (result : Option Port) (a' : Air) : Type 0 where
  pub answers : result ≡ claim_at a fac node app
  pub air : a' ≡ claimed a fac node app
