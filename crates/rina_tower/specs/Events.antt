-- What the events of a wire do to a tower: to its wires what they are there, and to no DIF anything.
use Rattle.std.specs.Prelude.{ℕ, Result}
use Rattle.rina_wire.specs.declared.event.WireError.{WireError}
use Rattle.rina_wire.specs.Cut.{CutsOn, MendsOn}
use Rattle.rina_wire.specs.Disturb.{HoldsOn, LosesOn, RepeatsOn}
use Rattle.rina_tower.specs.declared.tower.Tower.{Tower}
use Rattle.rina_tower.specs.Levels.{AtWires}

abbrev pub Loses : ℕ → ℕ → Result (Unit {0}) WireError → Tower → Tower → Type 0
Loses wire k result t t' = AtWires (λ a a'. LosesOn a wire k result a') t t'

abbrev pub Repeats : ℕ → ℕ → ℕ → Result (Unit {0}) WireError → Tower → Tower → Type 0
Repeats wire k at result t t' = AtWires (λ a a'. RepeatsOn a wire k at result a') t t'

abbrev pub HoldsBack : ℕ → ℕ → ℕ → Result (Unit {0}) WireError → Tower → Tower → Type 0
HoldsBack wire k at result t t' = AtWires (λ a a'. HoldsOn a wire k at result a') t t'

abbrev pub Cuts : ℕ → Result (Unit {0}) WireError → Tower → Tower → Type 0
Cuts wire result t t' = AtWires (λ a a'. CutsOn a wire result a') t t'

abbrev pub Mends : ℕ → Result (Unit {0}) WireError → Tower → Tower → Type 0
Mends wire result t t' = AtWires (λ a a'. MendsOn a wire result a') t t'
