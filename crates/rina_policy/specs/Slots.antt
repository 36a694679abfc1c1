-- What a contract sees of a shelf: its names in the order in which they were added, each with the count of its policy where that is live.
use Rattle.std.specs.Prelude.{ℕ, Bool, List, Option, Some, None, map, option_map, find, position, slice_get, slice_set, option_and_then}
use Rattle.std.specs.Option.{is_some}
use Rattle.std.specs.Str.{bytes_eq}
use Rattle.rina_policy.specs.declared.count.Count.{Count}
use Rattle.rina_policy.specs.Count.{counted}

pub record Slot : Type 0 where
  pub name : List ℕ
  pub live : Option Count

abbrev pub slot : List ℕ → Option Count → Slot
slot name live = record { name = name; live = live }

-- the slots of places that have a name, and a policy with a count where they are not retired
abbrev pub slots_of : {P B : Type 0} → (P → List ℕ) → (P → Option B) → (B → Count) → List P → List Slot
slots_of name policy count places = map (λ p. slot (name p) (option_map count (policy p))) places

-- where a name stands first
abbrev pub place_of : List ℕ → List Slot → Option ℕ
place_of name slots = position (λ s. bytes_eq s.name name) slots

-- a shelf has a name, live or retired
abbrev pub has_name : List ℕ → List Slot → Bool
has_name name slots = is_some (place_of name slots)

abbrev pub count_in : Option Slot → Option Count
count_in (Some s) = s.live
count_in None = None

abbrev pub count_at : Option ℕ → List Slot → Option Count
count_at (Some k) slots = count_in (slice_get slots k)
count_at None slots = None

-- the count of a name's policy, where the shelf has the name and its policy is live
abbrev pub count_of : List ℕ → List Slot → Option Count
count_of name slots = count_at (place_of name slots) slots

-- the shelf with another count, or none, at a place
abbrev pub put_at : Option ℕ → List ℕ → Option Count → List Slot → List Slot
put_at (Some k) name live slots = slice_set slots k (slot name live)
put_at None name live slots = slots

-- the shelf after the policy of a name was asked, where it is live, and answered this place
abbrev pub asked : List ℕ → ℕ → List Slot → List Slot
asked name place slots = put_at (place_of name slots) name (option_map (λ c. counted c place) (count_of name slots)) slots

-- the shelf after the policy of a name was retired
abbrev pub retired : List ℕ → List Slot → List Slot
retired name slots = put_at (place_of name slots) name None slots

-- the live policy of a name, among places that have a name, and a policy where they are not retired
abbrev pub policy_of : {P B : Type 0} → (P → List ℕ) → (P → Option B) → List ℕ → List P → Option B
policy_of name policy n places = option_and_then policy (find (λ p. bytes_eq (name p) n) places)
