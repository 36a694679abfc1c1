-- What a cube promises, and which wish it meets.
use Rattle.std.specs.Prelude.{◌≡◌, ℕ, ◌+◌, ◌≤◌, Bool, true, false, not, ◌&&◌, ◌||◌, nat_le, List, Option, position, option_and_then, option_map, slice_get}
use Rattle.rina_cube.specs.declared.Cube.{Cube}
use Rattle.rina_cube.specs.declared.Want.{Want}
use Rattle.rina_cube.specs.declared.Kind.{Kind}
use Rattle.rina_cube.specs.declared.Kind.TheVariants.{Datagram, Reliable}

-- only a reliable cube sends again, and it does so in time
abbrev pub IsTimed : Kind → Cube → Type 0
IsTimed Reliable c = (1 ≤ c.retry) × (c.retry ≤ c.r)
IsTimed _ c = (c.r ≡ 0) × (c.a ≡ 0) × (c.retry ≡ 0)

-- the numbers of a cube are within their limits
pub record IsCube (c : Cube) : Type 0 where
  pub least_mpl : 1 ≤ c.mpl
  pub mpl : c.mpl ≤ 1000000
  pub r : c.r ≤ 1000000
  pub a : c.a ≤ 1000000
  pub retry : c.retry ≤ 1000000
  pub least_window : 1 ≤ c.window
  pub window : c.window ≤ 256
  pub least_largest : 1 ≤ c.largest
  pub largest : c.largest ≤ 65535
  pub times : IsTimed c.kind c

-- the ticks from acceptance to delivery, at most
abbrev pub promise_by : Kind → Cube → ℕ
promise_by Reliable c = c.r + c.mpl
promise_by _ c = c.mpl

abbrev pub promise_of : Cube → ℕ
promise_of c = promise_by c.kind c

abbrev pub delta_of : Cube → ℕ
delta_of c = c.mpl + c.r + c.a

abbrev pub is_ordered : Kind → Bool
is_ordered Datagram = false
is_ordered _ = true

abbrev pub is_reliable : Kind → Bool
is_reliable Reliable = true
is_reliable _ = false

-- a cube meets a wish
unfoldable pub fits : Want → Cube → Bool
fits want c = (not want.ordered || is_ordered c.kind) && (not want.reliable || is_reliable c.kind) && nat_le (promise_of c) want.within && nat_le want.size c.largest

-- the id of the first cube that meets a wish
abbrev pub picked : List Cube → Want → Option ℕ
picked cubes want = option_map (λ (c : Cube). c.id) (option_and_then (λ i. slice_get cubes i) (position (fits want) cubes))
