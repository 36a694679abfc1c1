-- Drawing what a storm does with a frame.
use Rattle.std.specs.Prelude.{ℕ, zero, suc, ◌+◌, ◌≤◌, nat_lt, Option, Some, None, IfSome, if◌then◌else◌}
use Rattle.rand_pcg.specs.Lcg.{Lcg}
use Rattle.rina_base.specs.declared.storm.Storm.{Storm}
use Rattle.rina_draws.specs.declared.storm.Fate.{Fate}
use Rattle.rina_draws.specs.declared.storm.Fate.TheVariants.{Lost, Sent}
use Rattle.rina_draws.specs.Draws.{drawn, seeded}

-- the additional delay of a copy: the third draw decides whether there is one, and the fourth its delay
unfoldable pub copy_drawn : Storm → Lcg → Option ℕ × Lcg
copy_drawn storm g =
    let die = drawn 1000 g in
    let late = drawn (storm.spread + 1) die.1 in
    if nat_lt die.0 storm.repeat then (Some late.0, late.1) else (None, die.1)

-- a frame that is not lost: its additional delay, and its copy
unfoldable pub sent_drawn : Storm → Lcg → Fate × Lcg
sent_drawn storm g =
    let late = drawn (storm.spread + 1) g in
    let copy = copy_drawn storm late.1 in
    (Sent late.0 copy.0, copy.1)

-- what a storm does with a frame, and the generator after it: the first draw decides whether the frame is lost, and is then the only one
unfoldable pub fate_drawn : Storm → Lcg → Fate × Lcg
fate_drawn storm g =
    let die = drawn 1000 g in
    if nat_lt die.0 storm.lose then (Lost, die.1) else sent_drawn storm die.1

-- the generator of a storm once it has drawn for so many frames, from its seed on
abbrev pub after_frames : Storm → ℕ → Lcg
after_frames storm zero = seeded storm.seed
after_frames storm (suc k) = (fate_drawn storm (after_frames storm k)).1

-- the additional delays are no longer than this
abbrev pub IsWithin : ℕ → Fate → Type 0
IsWithin spread Lost = Unit {0}
IsWithin spread (Sent late copy) = (late ≤ spread) × IfSome copy (λ again. again ≤ spread)
