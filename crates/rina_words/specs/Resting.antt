-- Ticks at which nothing happens by itself.
use Rattle.std.specs.Prelude.{◌≡◌, ℕ, ◌+◌, zero, suc}
use Rattle.rina_table.specs.declared.sketch.Rounds.{Rounds}
use Rattle.rina_table.specs.declared.sketch.Rounds.TheVariants.{Auto, Manual}
use Rattle.rina_tower.specs.declared.tower.Tower.{Tower}
use Rattle.rina_tower.specs.Ranks.{now_of}
use Rattle.rina_tower.specs.Resting.{IsAtTick, RestsUntil, WiresRestUntil}

-- nothing happens before this tick: where no round follows a tick, the wires alone have to rest
abbrev pub RestsBy : Rounds → ℕ → Tower → Type 0
RestsBy Auto until t = RestsUntil until t
RestsBy Manual until t = WiresRestUntil until t

-- at so many ticks nothing happened, and every clock has gone on over them
abbrev pub IdleTicksPass : Rounds → ℕ → Tower → Tower → Type 0
IdleTicksPass rounds zero t t' = t' ≡ t
IdleTicksPass rounds (suc count) t t' = RestsBy rounds (now_of t + suc count + 1) t × IsAtTick (now_of t + suc count) t t'
