-- For each id the tick at which its timer is set, and the next timer that is due.
use Rattle.std.specs.Prelude.{◌≡◌, ℕ, ◌<◌, ◌≤◌, ◌⊎◌, List, Option, Some, None, slice_get, slice_set}

-- the timer of an id is set
abbrev pub IsSet : List (Option ℕ) → ℕ → ℕ → Type 0
IsSet times id at = slice_get times id ≡ Some (Some at)

-- no timer comes before it, by its tick and then its id
pub record IsFirst (times : List (Option ℕ)) (id at : ℕ) : Type 0 where
  pub is_set : IsSet times id at
  pub first : (other later : ℕ) → IsSet times other later → (at < later) ⊎ ((at ≡ later) × (id ≤ other))

-- the first timer of all, where its tick has come; None where that of none has
abbrev pub IsDue : ℕ → List (Option ℕ) → Option ℕ → Type 0
IsDue now times (Some id) = (at : ℕ) × IsFirst times id at × (at ≤ now)
IsDue now times None = (id at : ℕ) → IsSet times id at → now < at

-- it is cleared
abbrev pub after_due : Option ℕ → List (Option ℕ) → List (Option ℕ)
after_due (Some id) times = slice_set times id None
after_due None times = times

-- a timer whose tick has come; None where that of none has
abbrev pub IsSomeDue : ℕ → List (Option ℕ) → Option ℕ → Type 0
IsSomeDue now times (Some id) = (at : ℕ) × IsSet times id at × (at ≤ now)
IsSomeDue now times None = (id at : ℕ) → IsSet times id at → now < at

-- no timer is set before this tick
abbrev pub IsNoneBefore : ℕ → List (Option ℕ) → Type 0
IsNoneBefore until times = (id at : ℕ) → IsSet times id at → until ≤ at
