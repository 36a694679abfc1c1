-- What waits to be claimed after a step.
use Rattle.std.specs.Prelude.{◌≡◌, ℕ, ◌<◌, ◌≤◌, List, ◌++◌, length, slice_get, Some}
use Rattle.rina_dif_law.specs.Dif.{DifSeen}

-- what waited waits on, and behind it begin new ends to wait, each once
pub record BeginToWait (d d' : DifSeen) : Type 0 where
  pub more : List ℕ
  pub waiting : d'.waiting ≡ d.waiting ++ more
  pub are_new : (k place : ℕ) → slice_get more k ≡ Some place → (length d.ends ≤ place) × (place < length d'.ends)
  pub once : (j k place : ℕ) → slice_get more j ≡ Some place → slice_get more k ≡ Some place → j ≡ k
