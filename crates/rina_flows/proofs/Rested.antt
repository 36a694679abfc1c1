-- Until when nothing is due at any end.
use Rattle.std.proofs.Common.{◌≡◌, ◌∙◌, ℕ, ◌+◌, ◌<◌, ◌≤◌, List, [], ◌∷◌, Contains, drop, get_or, length, slice_get, Some, sym, ap, subst, arith, inl, inr}
use Rattle.std.proofs.lemmas.Bool.{cases_eq}
use Rattle.std.proofs.lemmas.List.{drop_more}
use Rattle.std.proofs.lemmas.Map.Made.{Contains-tail}
use Rattle.std.proofs.lemmas.Option.{get_or_from_slice_get, slice_get_within}
use Rattle.std.proofs.Math.ListN.{drop_of_length-le}
use Rattle.rina_conn.specs.declared.conn.Conn.{Conn}
use Rattle.rina_conn.specs.Quiet.{IsQuietUntil}
use Rattle.rina_iface.specs.declared.ends.End.{End}
use Rattle.rina_flows.specs.Quiet.{AreQuiet, AreQuietBeside}
use Rattle.rina_flows.specs.Resting.{NoneDueUntil}
use Rattle.rina_flows.proofs.Idle.{idle_item}
use Rattle.rina_flows.proofs.Offered.{flows_of}
use Rattle.rina_flows.proofs.Watched.{quiet_sooner}

-- one place that is watched was looked at
next_left : (places : List ℕ) (n at until until' : ℕ) (conns : List Conn) → n < length places → at ≡ get_or places n at → until' ≤ until → ((k : Conn) → slice_get conns at ≡ Some k → IsQuietUntil until' k) → AreQuietBeside (drop n places) until conns → AreQuietBeside (drop (n + 1) places) until' conns
next_left places n at until until' conns lt is le here before = λ i k stands beside. elim (cases_eq i at) [
  | inl e ↦ here k (subst (λ j. slice_get conns j ≡ Some k) e stands)
  | inr ne ↦
      let split : drop n places ≡ at ∷ drop (n + 1) places = drop_more places n at lt ∙ ap (λ x. x ∷ drop (n + 1) places) (sym is) in
      quiet_sooner until until' k (before i k stands (λ c. beside (Contains-tail at (drop (n + 1) places) i (λ e. ne (sym e)) (subst (λ xs. Contains xs i) split c)))) le
]

-- a connection stands there
pub next_asked : (places : List ℕ) (n at until quiet until' : ℕ) (conns : List Conn) (conn : Conn) → n < length places → at ≡ get_or places n at → conn ≡ get_or conns at conn → IsQuietUntil quiet conn → until' ≤ until → until' ≤ quiet → AreQuietBeside (drop n places) until conns → AreQuietBeside (drop (n + 1) places) until' conns
next_asked places n at until quiet until' conns conn lt is there quiet_there le le' before =
    next_left places n at until until' conns lt is le (λ k stands. subst (λ (x : Conn). IsQuietUntil until' x) (there ∙ get_or_from_slice_get conns at k conn stands) (quiet_sooner quiet until' conn quiet_there le')) before

-- none does
pub next_beyond : (places : List ℕ) (n at until : ℕ) (conns : List Conn) → n < length places → at ≡ get_or places n at → length conns ≤ at → AreQuietBeside (drop n places) until conns → AreQuietBeside (drop (n + 1) places) until conns
next_beyond places n at until conns lt is beyond before =
    next_left places n at until until conns lt is (omega arith) (λ k stands. (let within = slice_get_within conns at k stands in absurd (omega (arith, within, beyond)))) before

nothing_in : (at : ℕ) → Contains [] at → ⊥
nothing_in at (k, lt, is) = absurd (omega (arith, lt))

-- no place is left
pub none_left : (places : List ℕ) (n until : ℕ) (conns : List Conn) → length places ≤ n → AreQuietBeside (drop n places) until conns → AreQuiet until conns
none_left places n until conns le quiet = λ at k stands. quiet at k stands (λ c. nothing_in at (subst (λ xs. Contains xs at) (drop_of_length-le places le) c))

pub quiet_due : (until : ℕ) (ends : List End) (conns : List Conn) → AreQuiet until conns → NoneDueUntil until (flows_of ends conns)
quiet_due until ends conns quiet = λ now lt at item. idle_item item now at ends conns (λ k stands live. quiet at k stands live now lt)
