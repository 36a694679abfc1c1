-- What is kept of the SDUs that are being joined: the pieces that wait, the SDUs that are whole, and the pieces that were
-- given up.
use Rattle.std.specs.Prelude.{◌≡◌, ℕ, ◌+◌, ◌-◌, ◌≤◌, Bool, true, List, [], ◌∷◌, ◌++◌, length, map, take, drop, Option, Some, None, if◌then◌else◌}
use Rattle.rina_delim.specs.declared.joiner.Run.{Run}
use Rattle.rina_delim.specs.declared.joiner.Joined.{Joined}
use Rattle.rina_delim.specs.declared.joiner.Joined.TheVariants.{Whole, Broken}
use Rattle.rina_delim.specs.Joining.{Piece, Joining, after, from_of, answer, joined, IsRoomFor}
use Rattle.rina_dtp.specs.declared.gap.Gap.{Gap}
use Rattle.rina_dtp.specs.Slots.{Waiting}
use Rattle.rina_law.specs.Pieces.{Sdu}

-- `filled` of the `slots` for whole SDUs are in use
pub record Joins : Type 0 where
  pub joining : Joining
  pub whole : List Sdu
  pub gaps : List Gap
  pub filled : ℕ
  pub slots : ℕ

-- the SDU in a slot
abbrev pub sdu_in : Waiting → Sdu
sdu_in w = record { first = w.from; pieces = w.last - w.from + 1; bytes = w.bytes }

-- the SDUs in the filled slots that were not fetched
abbrev pub sdus_in : ℕ → ℕ → List Waiting → List Sdu
sdus_in fetched filled slots = map sdu_in (drop fetched (take filled slots))

-- a slot has room for the largest SDU
abbrev pub HasRoomOf : ℕ → Waiting → Type 0
HasRoomOf largest w = largest ≤ w.room

-- What a piece makes of it

abbrev pub gap_if : Bool → Option Run → List Gap
gap_if true (Some run) = record { from = run.from; last = run.last; missing = after run.last } ∷ []
gap_if _ run = []

abbrev pub missing_in : Joined → Option ℕ
missing_in (Broken n) = Some n
missing_in _ = None

-- the pieces that wait are given up at a piece that begins an SDU, or that does not follow them
abbrev pub is_cut_off : Joined → Bool → Bool
is_cut_off (Broken n) first = true
is_cut_off _ first = first

-- the number of the first piece of the SDU of a piece
abbrev pub start_of : Bool → Option Run → ℕ → ℕ
start_of first held seq = if first then seq else from_of held seq

abbrev pub whole_by : Joined → Waiting → List Waiting
whole_by Whole w = w ∷ []
whole_by _ w = []

-- the SDU that a piece may make whole
abbrev pub made_by : ℕ → Piece → Joining → Waiting
made_by room p j = record { room = room; from = start_of p.first j.held p.seq; last = p.seq; bytes = (joined j p).bytes }

abbrev pub taken_by : Joined → Piece → Joins → Joins
taken_by a p s = record {
  joining = joined s.joining p;
  whole = s.whole ++ map sdu_in (whole_by a (made_by 0 p s.joining));
  gaps = s.gaps ++ gap_if (is_cut_off a p.first) s.joining.held;
  filled = s.filled + length (whole_by a (made_by 0 p s.joining));
  slots = s.slots;
}

-- with a piece more, for which there is room
abbrev pub taken : Piece → Joins → Joins
taken p s = taken_by (answer s.joining p) p s

-- a piece was taken, and the number that is missing before it was told
abbrev pub IsJoined : Piece → Joins → Option ℕ → Joins → Type 0
IsJoined p old missing new = IsRoomFor old.joining p → (missing ≡ missing_in (answer old.joining p)) × (new ≡ taken p old)

-- at most one SDU and so many gaps came
pub record Grows (gaps : ℕ) (old new : Joins) : Type 0 where
  pub slots : new.slots ≡ old.slots
  pub largest : new.joining.largest ≡ old.joining.largest
  pub filled : new.filled ≤ old.filled + 1
  pub gaps_by : length new.gaps ≤ length old.gaps + gaps

-- nothing waits to be fetched
abbrev pub cleared : Joins → Joins
cleared s = record s { whole = []; gaps = []; filled = 0 }

-- a run of rising numbers
abbrev pub IsForward : Option Run → Type 0
IsForward None = Unit {0}
IsForward (Some run) = run.from ≤ run.last

-- the bytes of SDUs
abbrev pub bytes_of : List Sdu → List (List ℕ)
bytes_of ws = map (λ (w : Sdu). w.bytes) ws

-- the number with which the first of SDUs begins, where there is any
abbrev pub first_number : List Sdu → Option ℕ
first_number [] = None
first_number (w ∷ ws) = Some w.first
