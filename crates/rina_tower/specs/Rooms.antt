-- Which flows can be bound one after the other: where each is placed, and there is room for all.
use Rattle.std.specs.Prelude.{◌≡◌, ◌≢◌, ℕ, ◌+◌, ◌≤◌, ◌==◌, ◌&&◌, ◌||◌, Bool, true, List, [], ◌∷◌, count_by, slice_get, Some}
use Rattle.rina_iface.specs.declared.ask.Fixed.{Fixed}
use Rattle.rina_iface.specs.Ends.{drawn_at}
use Rattle.rina_iface.specs.Seen.{Fac, Offer, Seen, cube_in, is_member}
use Rattle.rina_dif.specs.Laying.{CanBindAll}

-- the facility of a flow has a place for both its nodes, and its cube
pub record IsPlaced (s : Seen) (x : Fixed) : Type 0 where
  pub facility : Fac
  pub stands : slice_get s.facs x.fac ≡ Some facility
  pub apart : x.a ≢ x.b
  pub a_in : is_member facility.members x.a ≡ true
  pub b_in : is_member facility.members x.b ≡ true
  pub cube : Offer
  pub offer : cube_in facility.cubes x.cube ≡ Some cube

abbrev pub ArePlaced : Seen → List Fixed → Type 0
ArePlaced s [] = Unit {0}
ArePlaced s (x ∷ xs) = IsPlaced s x × ArePlaced s xs

-- a flow has an end at this node of this facility
abbrev pub ends_there : ℕ → ℕ → Fixed → Bool
ends_there fac node x = (x.fac == fac) && ((x.a == node) || (x.b == node))

-- at each node there is room for the ends of all these flows
abbrev pub HasRoom : Seen → List Fixed → Type 0
HasRoom s xs = (n node : ℕ) (f : Fac) → slice_get s.facs n ≡ Some f → drawn_at node f.ends + count_by (ends_there n node) xs ≤ f.admits

-- what is placed, and has room, can be bound at tick 0, one after the other
abbrev pub BindsFit : Type 0
BindsFit = (s : Seen) (xs : List Fixed) → s.now ≡ 0 → ArePlaced s xs → HasRoom s xs → CanBindAll s xs

-- the facilities of a rank offer what they offered
abbrev pub OffersStay : Seen → Seen → Type 0
OffersStay old new = (n : ℕ) (f' : Fac) → slice_get new.facs n ≡ Some f' → (f : Fac) × (slice_get old.facs n ≡ Some f) × (f'.cubes ≡ f.cubes)
