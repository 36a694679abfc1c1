-- No storm delays a frame by more than its spread.
use Rattle.std.proofs.Common.{ℕ, ◌+◌, ◌≤◌, cond, Bool, true, false, nat_lt, Option, Some, None, IfSome, arith}
use Rattle.std.proofs.Math.Nat.{mod-lt}
use Rattle.rand_pcg.specs.Lcg.{Lcg}
use Rattle.rand_pcg.specs.Pcg.{pcg32}
use Rattle.rina_base.specs.declared.storm.Storm.{Storm}
use Rattle.rina_draws.specs.declared.storm.Fate.TheVariants.{Lost}
use Rattle.rina_draws.specs.Draws.{drawn}
use Rattle.rina_draws.specs.Storm.{IsWithin, copy_drawn, fate_drawn, sent_drawn}

either : {X : Type 0} (P : X → Type 0) (b : Bool) (x y : X × Lcg) → P x.0 → P y.0 → P (cond b x y).0
either P true x y hx hy = hx
either P false x y hx hy = hy

late_within : (spread : ℕ) (g : Lcg) → (drawn (spread + 1) g).0 ≤ spread
late_within spread g = let lt = mod-lt (pcg32 g).0 {m = spread + 1} (omega arith) in omega (arith, lt)

abbrev IsShort : ℕ → Option ℕ → Type 0
IsShort spread copy = IfSome copy (λ again. again ≤ spread)

copy_within : (storm : Storm) (g : Lcg) → IsShort storm.spread (copy_drawn storm g).0
unfolding copy_drawn
copy_within storm g =
    let die = drawn 1000 g in
    let late = drawn (storm.spread + 1) die.1 in
    either (IsShort storm.spread) (nat_lt die.0 storm.repeat) (Some late.0, late.1) (None, die.1) (late_within storm.spread die.1) tt

sent_within : (storm : Storm) (g : Lcg) → IsWithin storm.spread (sent_drawn storm g).0
unfolding sent_drawn
sent_within storm g = (late_within storm.spread g, copy_within storm (drawn (storm.spread + 1) g).1)

pub fate_within : (storm : Storm) (g : Lcg) → IsWithin storm.spread (fate_drawn storm g).0
unfolding fate_drawn
fate_within storm g =
    let die = drawn 1000 g in
    either (IsWithin storm.spread) (nat_lt die.0 storm.lose) (Lost, die.1) (sent_drawn storm die.1) tt (sent_within storm die.1)
