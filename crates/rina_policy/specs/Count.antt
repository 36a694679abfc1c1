-- The picks of a policy, and its last answer.
use Rattle.std.specs.Prelude.{ℕ, ◌+◌, ◌-◌, ◌^◌, min}
use Rattle.rina_policy.specs.declared.count.Count.{Count}

-- one more pick, which answered this place; the number of picks stays at the greatest of 64 bits
abbrev pub counted : Count → ℕ → Count
counted c place = record { picks = min (c.picks + 1) (2 ^ 64 - 1); last = place }

-- no pick yet
abbrev pub no_picks : Count
no_picks = record { picks = 0; last = 0 }
