-- The numbers that a datagram receiver accepted lately.
use Rattle.std.specs.Prelude.{◌≡◌, ℕ, ◌+◌, ◌%◌, ◌<◌, ◌≤◌, max, Bool, true, false, ◌&&◌, nat_le, ◌==◌, if◌then◌else◌, List, slice_index_or}
use Rattle.rina_law.specs.Lists.{has, highest}

-- the greatest number, and a bit for each of the last 4,096 numbers up to it
pub record Recent : Type 0 where
  pub top : ℕ
  pub bits : List Bool

-- the bit at the place of a number
abbrev pub bit : List Bool → ℕ → Bool
bit bits n = slice_index_or bits (n % 4096) false

abbrev pub has_number : Recent → ℕ → Bool
has_number r n = nat_le n r.top && bit r.bits n

-- these tell the last numbers of a list
pub record Recalls (accepted : List ℕ) (r : Recent) : Type 0 where
  pub top : highest accepted ≡ r.top
  pub bits : (k : ℕ) → k ≤ r.top → r.top < k + 4096 → bit r.bits k ≡ has k accepted

-- with a number more, where those up to the old greatest one stay
pub record IsAdded (n : ℕ) (old new : Recent) : Type 0 where
  pub top : new.top ≡ max n old.top
  pub bits : (k : ℕ) → k ≤ new.top → new.top < k + 4096 → bit new.bits k ≡ (if k == n then true else (if nat_le k old.top then bit old.bits k else false))

-- with one number alone
pub record IsAlone (n : ℕ) (r : Recent) : Type 0 where
  pub top : r.top ≡ n
  pub bits : (k : ℕ) → k ≤ n → n < k + 4096 → bit r.bits k ≡ (k == n)
