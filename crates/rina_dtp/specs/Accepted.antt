-- What each kind of receiver keeps of the numbers, and what it says of a piece.
use Rattle.std.specs.Prelude.{◌≡◌, ℕ, zero, suc, ◌+◌, ◌-◌, ◌<◌, ◌≤◌, ◌⊎◌, Bool, true, false, ◌||◌, nat_lt, nat_le, ◌==◌, [], ◌∷◌, ◌++◌, length, All, Option, Some, None, if◌then◌else◌}
use Rattle.rina_cube.specs.declared.Cube.{Cube}
use Rattle.rina_cube.specs.declared.Kind.{Kind}
use Rattle.rina_cube.specs.declared.Kind.TheVariants as kinds
use Rattle.rina_delim.specs.Joining.{piece}
use Rattle.rina_dtp.specs.declared.accepted.Accepted.{Accepted}
use Rattle.rina_dtp.specs.declared.accepted.Accepted.TheVariants.{Datagram, Loose, Reliable}
use Rattle.rina_dtp.specs.declared.verdict.Judged.{Judged}
use Rattle.rina_dtp.specs.declared.verdict.Judged.TheVariants as judged
use Rattle.rina_dtp.specs.Joins.{Joins, IsJoined}
use Rattle.rina_dtp.specs.Ring.{has_number, IsAdded, IsAlone}
use Rattle.rina_dtp.specs.Shelf.{Place, Shelved, place_at, holds, without, IsUnused}
use Rattle.rina_law.specs.Receiver as law

abbrev pub kind_of : Accepted → Kind
kind_of (Datagram r) = kinds.Datagram
kind_of (Loose h) = kinds.Loose
kind_of (Reliable s) = kinds.Reliable

-- the verdict of the numbers, where state stands
abbrev pub known_verdict : Accepted → ℕ → law.Verdict
known_verdict (Datagram r) n = if nat_le (n + 4096) r.top then law.Behind else (if has_number r n then law.Duplicate else law.Accepted)
known_verdict (Loose h) n = if nat_lt h n then law.Accepted else law.Behind
known_verdict (Reliable s) n = if nat_lt n s.next || holds s.places n then law.Duplicate else (if n == s.next then law.Accepted else law.Held)

-- and where it may stand or not
abbrev pub number_verdict : Bool → Accepted → ℕ → Bool → law.Verdict
number_verdict true a n drf = known_verdict a n
number_verdict false a n drf = law.absent_verdict (kind_of a) drf

abbrev pub judged_as : law.Verdict → Judged
judged_as law.Accepted = judged.Accepted
judged_as law.Held = judged.Held
judged_as law.Duplicate = judged.Duplicate
judged_as law.Behind = judged.Behind
judged_as law.NoState = judged.NoState
judged_as law.NoRoom = judged.NoRoom

-- the piece of a number is held
abbrev pub is_held : Accepted → ℕ → Bool
is_held (Reliable s) n = holds s.places n
is_held _ n = false

abbrev pub is_accepted : law.Verdict → Bool
is_accepted law.Accepted = true
is_accepted _ = false

-- the greatest number that was accepted
abbrev pub top_of : Accepted → ℕ
top_of (Datagram r) = r.top
top_of (Loose h) = h
top_of (Reliable s) = s.next - 1

-- A number that is accepted

-- a number that may be accepted where state stands
abbrev pub MayCount : Accepted → ℕ → Type 0
MayCount (Datagram r) n = r.top < n + 4096
MayCount (Loose h) n = Unit {0}
MayCount (Reliable s) n = n ≡ s.next

-- with a number more, where state stands, or with it alone
abbrev pub IsCounted : Bool → ℕ → Accepted → Accepted → Type 0
IsCounted true n (Datagram r) (Datagram s) = IsAdded n r s
IsCounted false n (Datagram r) (Datagram s) = IsAlone n s
IsCounted present n (Loose h) (Loose k) = k ≡ n
IsCounted true n (Reliable r) (Reliable s) = s ≡ record r { next = r.next + 1 }
IsCounted false n (Reliable r) (Reliable s) = (s.next ≡ n + 1) × (s.piece ≡ r.piece) × (length s.places ≡ length r.places) × All IsUnused s.places
IsCounted _ _ _ _ = ⊥

-- The held pieces that follow

abbrev pub gap_given : Option ℕ → ℕ → Joins → Joins
gap_given None n j = j
gap_given (Some missing) n j = record j { gaps = j.gaps ++ record { from = n; last = n; missing = missing } ∷ [] }

-- a held piece was joined, and given up itself where it could not be
pub record IsGiven (p : Place) (old new : Joins) : Type 0 where
  pub missing : Option ℕ
  pub between : Joins
  pub joined : IsJoined (piece p.number p.first p.last p.body) old missing between
  pub given : new ≡ gap_given missing p.number between

-- the held piece of the next number was joined
pub record FollowsOne (s : Shelved) (j : Joins) (t : Shelved) (k : Joins) : Type 0 where
  pub there : holds s.places s.next ≡ true
  pub shelf : t ≡ record s { next = s.next + 1; places = without s.next s.places }
  pub given : IsGiven (place_at s.places s.next) j k

-- and so were so many, one after the other
abbrev pub FollowsMany : ℕ → Shelved → Joins → Shelved → Joins → Type 0
FollowsMany zero s j t k = (t ≡ s) × (k ≡ j)
FollowsMany (suc steps) s j t k = (u : Shelved) × (i : Joins) × FollowsMany steps s j u i × FollowsOne u i t k

-- and all that follow: the next one is not held, or one less than there are places did
pub record FollowsAll (s : Shelved) (j : Joins) (t : Shelved) (k : Joins) : Type 0 where
  pub steps : ℕ
  pub many : FollowsMany steps s j t k
  pub no_more : (holds t.places t.next ≡ false) ⊎ (steps + 1 ≡ length s.places)

abbrev pub Follows : Accepted → Joins → Accepted → Joins → Type 0
Follows (Datagram r) j (Datagram s) k = (s ≡ r) × (k ≡ j)
Follows (Loose r) j (Loose s) k = (s ≡ r) × (k ≡ j)
Follows (Reliable s) j (Reliable t) k = FollowsAll s j t k
Follows _ _ _ _ = ⊥

-- no number was accepted yet, by a receiver of a cube for pieces of so many bytes
abbrev pub IsFresh : Cube → ℕ → Accepted → Type 0
IsFresh cube size (Datagram r) = cube.kind ≡ kinds.Datagram
IsFresh cube size (Loose h) = cube.kind ≡ kinds.Loose
IsFresh cube size (Reliable s) = (cube.kind ≡ kinds.Reliable) × (length s.places ≡ cube.window) × (s.piece ≡ size) × All IsUnused s.places

-- as many slots for SDUs as there are places, and one at least
abbrev pub HasSlotsFor : Accepted → ℕ → Type 0
HasSlotsFor (Reliable s) slots = (1 ≤ length s.places) × (length s.places ≤ slots)
HasSlotsFor _ slots = 1 ≤ slots
