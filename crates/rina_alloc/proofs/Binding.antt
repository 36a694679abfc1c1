-- An answer that binds nothing.
use Rattle.std.proofs.Common.{◌≡◌, ◌≢◌, ℕ, zero, suc, None, refl}
use Rattle.rina_alloc.specs.Machines.{bound_by}

pub not_yes : (code d n : ℕ) → code ≢ 0 → bound_by code d n ≡ None
not_yes zero d n h = absurd (h refl)
not_yes (suc code) d n h = refl
