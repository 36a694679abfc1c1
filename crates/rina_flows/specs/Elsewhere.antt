-- What a call of the flows leaves as it was.
use Rattle.std.specs.Prelude.{◌≡◌, ℕ, List, slice_get}
use Rattle.rina_flows.specs.declared.flows.Flows.{Flows}

-- a list holds what the other one holds, at each place but those of which this holds
abbrev pub SameBut : {A : Type 0} → (ℕ → Type 0) → List A → List A → Type 0
SameBut Changes old new = (i : ℕ) → (Changes i → ⊥) → slice_get new i ≡ slice_get old i

-- the ends at these places may change, with their connections, and no other end and no other connection does
abbrev pub ChangesAt : (ℕ → Type 0) → Flows → Flows → Type 0
ChangesAt Changes old new = SameBut Changes old.journal.ends new.journal.ends × SameBut Changes old.conns new.conns
