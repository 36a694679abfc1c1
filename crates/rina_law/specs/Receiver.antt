-- The receiver of the connection machine, and what each row makes of it, by kind.
use Rattle.std.specs.Prelude.{◌≡◌, ℕ, zero, suc, ◌+◌, Bool, true, false, ◌&&◌, ◌||◌, nat_lt, nat_le, ◌==◌, if◌then◌else◌, List, [], ◌∷◌, length, Option, Some, None}
use Rattle.rina_cube.specs.declared.Kind.{Kind}
use Rattle.rina_cube.specs.declared.Kind.TheVariants.{Datagram, Loose, Reliable}
use Rattle.rina_law.specs.Bounds.{Bounds, bounds_of}
use Rattle.rina_law.specs.Constants.{Constants}
use Rattle.rina_law.specs.Lists.{has, highest}
use Rattle.rina_law.specs.Pieces.{Part, Joiner, empty_joiner, Joined, joined_with, HasRoomFor}

-- a data PDU: its number, its data run flag, and its part of an SDU
pub record Piece : Type 0 where
  pub number : ℕ
  pub drf : Bool
  pub part : Part

-- whether state was ever made, the number that made it, the numbers accepted since then with the newest first,
-- the pieces that are held until the gap before them is filled, and the tick of the last piece that counted
pub record Receiver : Type 0 where
  pub made : Bool
  pub base : ℕ
  pub accepted : List ℕ
  pub held : List Piece
  pub last_in : ℕ

abbrev pub no_state : Receiver
no_state = record { made = false; base = 0; accepted = []; held = []; last_in = 0 }

-- state stands for its bound after the last piece that counted; it is absent from then on, and before any was made
abbrev pub is_present_by : Bounds → ℕ → Receiver → Bool
is_present_by b now rx = rx.made && nat_lt now (rx.last_in + b.stands)

-- by delta-t for `2 * delta` ticks
abbrev pub is_present : Constants → ℕ → Receiver → Bool
is_present c now rx = is_present_by (bounds_of c) now rx

-- on a reliable flow the accepted numbers follow each other from `base` on, and this is the number after them
abbrev pub next_of : Receiver → ℕ
next_of rx = rx.base + length rx.accepted

abbrev pub numbers : List Piece → List ℕ
numbers [] = []
numbers (p ∷ ps) = p.number ∷ numbers ps

-- the part of the piece with this number
abbrev pub part_in : ℕ → List Piece → Part
part_in n [] = record { begins = false; ends = false; body = [] }
part_in n (p ∷ ps) = if n == p.number then p.part else part_in n ps

-- the pieces from a number on
abbrev pub from_on : ℕ → List Piece → List Piece
from_on n [] = []
from_on n (p ∷ ps) = if nat_le n p.number then p ∷ from_on n ps else from_on n ps

-- What becomes of a piece

pub data Verdict : Type 0 where
  Accepted : Verdict
  Held : Verdict
  Duplicate : Verdict
  Behind : Verdict
  NoState : Verdict
  NoRoom : Verdict

-- where state stands, by its numbers
abbrev pub present_verdict : Kind → Receiver → ℕ → Verdict
present_verdict Datagram rx n = if nat_le (n + 4096) (highest rx.accepted) then Behind else (if has n rx.accepted then Duplicate else Accepted)
present_verdict Loose rx n = if nat_lt (highest rx.accepted) n then Accepted else Behind
present_verdict Reliable rx n = if nat_lt n (next_of rx) || has n (numbers rx.held) then Duplicate else (if n == next_of rx then Accepted else Held)

-- where none stands: a reliable flow begins with a piece that has the data run flag
abbrev pub absent_verdict : Kind → Bool → Verdict
absent_verdict Reliable drf = if drf then Accepted else NoState
absent_verdict _ drf = Accepted

abbrev pub verdict_by_state : Kind → Bool → Receiver → Piece → Verdict
verdict_by_state kind true rx p = present_verdict kind rx p.number
verdict_by_state kind false rx p = absent_verdict kind p.drf

-- while too many SDUs wait to be passed, nothing is accepted or held
abbrev pub with_room : Bool → Verdict → Verdict
with_room true v = v
with_room false Accepted = NoRoom
with_room false Held = NoRoom
with_room false v = v

-- by kind, whether state stands, the receiver, the piece, and whether there is room
abbrev pub verdict : Kind → Bool → Receiver → Piece → Bool → Verdict
verdict kind present rx p room = with_room room (verdict_by_state kind present rx p)

-- What the receiver is after it

-- a list of numbers, the newest first, with the held numbers that follow it from n on
abbrev pub with_held : ℕ → ℕ → List ℕ → List ℕ → List ℕ
with_held zero n held list = list
with_held (suc steps) n held list = if has n held then with_held steps (n + 1) held (n ∷ list) else list

-- a list of numbers with one that was accepted, on a reliable flow with the held ones that follow
abbrev pub with_accepted : Kind → List ℕ → ℕ → List ℕ → List ℕ
with_accepted Reliable held n list = with_held (highest held) (n + 1) held (n ∷ list)
with_accepted _ held n list = n ∷ list

-- no more is held than what lies above the accepted numbers
abbrev pub receiver_with : List ℕ → ℕ → Receiver → Receiver
receiver_with accepted now rx = record { made = true; base = rx.base; accepted = accepted; held = from_on (rx.base + length accepted) rx.held; last_in = now }

abbrev pub receiver_after : Verdict → Kind → Bool → ℕ → Piece → Receiver → Receiver
receiver_after Accepted kind true now p rx = receiver_with (with_accepted kind (numbers rx.held) p.number rx.accepted) now rx
receiver_after Accepted kind false now p rx = record { made = true; base = p.number; accepted = p.number ∷ []; held = []; last_in = now }
receiver_after Held kind present now p rx = record rx { held = p ∷ rx.held; last_in = now }
receiver_after Duplicate kind present now p rx = record rx { last_in = now }
receiver_after Behind kind present now p rx = record rx { last_in = now }
receiver_after NoState kind present now p rx = rx
receiver_after NoRoom kind present now p rx = rx

-- What is joined

-- the held pieces that follow, from n on, given to the joiner
abbrev pub joined_held : ℕ → ℕ → List Piece → Joined → Joined
joined_held zero n held j = j
joined_held (suc steps) n held j = if has n (numbers held) then joined_held steps (n + 1) held (joined_with n (part_in n held) j) else j

abbrev pub joined_on : Kind → ℕ → List Piece → Joined → Joined
joined_on Reliable n held j = joined_held (highest (numbers held)) (n + 1) held j
joined_on _ n held j = j

-- a piece that is accepted goes to the joiner, on a reliable flow with the held ones that follow; new state begins
-- with an empty one
abbrev pub joined_after : Verdict → Kind → Bool → Piece → List Piece → Joiner → Joined
joined_after Accepted kind true p held j = joined_on kind p.number held (joined_with p.number p.part (record { joiner = j; whole = [] }))
joined_after Accepted kind false p held j = joined_with p.number p.part (record { joiner = empty_joiner; whole = [] })
joined_after v kind present p held j = record { joiner = j; whole = [] }

-- each of the held pieces that follow finds room in the joiner when its turn comes
abbrev pub HeldHaveRoom : ℕ → ℕ → ℕ → List Piece → Joined → Type 0
HeldHaveRoom largest zero n held j = Unit {0}
HeldHaveRoom largest (suc steps) n held j =
    has n (numbers held) ≡ true → HasRoomFor largest n (part_in n held) j.joiner × HeldHaveRoom largest steps (n + 1) held (joined_with n (part_in n held) j)

abbrev pub FollowersHaveRoom : ℕ → Kind → ℕ → List Piece → Joined → Type 0
FollowersHaveRoom largest Reliable n held j = HeldHaveRoom largest (highest (numbers held)) (n + 1) held j
FollowersHaveRoom largest _ n held j = Unit {0}

-- each piece that an arrival gives to the joiner finds room there when its turn comes
abbrev pub AllHaveRoom : ℕ → Verdict → Kind → Bool → Piece → List Piece → Joiner → Type 0
AllHaveRoom largest Accepted kind true p held j =
    HasRoomFor largest p.number p.part j × FollowersHaveRoom largest kind p.number held (joined_with p.number p.part (record { joiner = j; whole = [] }))
AllHaveRoom largest Accepted kind false p held j = HasRoomFor largest p.number p.part empty_joiner
AllHaveRoom largest v kind present p held j = Unit {0}

-- When an acknowledgement is due

-- the earlier mark stays
abbrev pub or_mark : Option ℕ → ℕ → Option ℕ
or_mark None at = Some at
or_mark (Some mark) at = Some mark

-- a mark is forgotten when the bound of acknowledgements has gone by since the last piece that counted
abbrev pub kept_mark_by : Bounds → ℕ → Receiver → Option ℕ → Option ℕ
kept_mark_by b now rx mark = if nat_lt (rx.last_in + b.acks) now then None else mark

-- a piece that is accepted, held or a duplicate makes an acknowledgement due `a` ticks on, where none is yet
abbrev pub mark_after_by : Verdict → Bounds → Constants → ℕ → Receiver → Option ℕ → Option ℕ
mark_after_by Accepted b c now rx mark = or_mark (kept_mark_by b now rx mark) (now + c.cube.a)
mark_after_by Held b c now rx mark = or_mark (kept_mark_by b now rx mark) (now + c.cube.a)
mark_after_by Duplicate b c now rx mark = or_mark (kept_mark_by b now rx mark) (now + c.cube.a)
mark_after_by v b c now rx mark = mark

-- and so does an SDU that is passed, while that bound has not gone by
abbrev pub mark_passed_by : Bounds → Constants → ℕ → Receiver → Option ℕ → Option ℕ
mark_passed_by b c now rx mark = if rx.made && nat_le now (rx.last_in + b.acks) then or_mark mark (now + c.cube.a) else None

-- by delta-t acknowledgements are made for `delta` ticks

abbrev pub kept_mark : Constants → ℕ → Receiver → Option ℕ → Option ℕ
kept_mark c now rx mark = kept_mark_by (bounds_of c) now rx mark

abbrev pub mark_after : Verdict → Constants → ℕ → Receiver → Option ℕ → Option ℕ
mark_after v c now rx mark = mark_after_by v (bounds_of c) c now rx mark

abbrev pub mark_passed : Constants → ℕ → Receiver → Option ℕ → Option ℕ
mark_passed c now rx mark = mark_passed_by (bounds_of c) c now rx mark
