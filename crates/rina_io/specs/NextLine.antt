-- What a reader of lines gives of its source, and what it holds.
use Rattle.std.specs.Prelude.{◌≡◌, ◌≢◌, ℕ, ◌+◌, ◌-◌, ◌<◌, ◌≤◌, Bool, true, false, not, List, [], ◌++◌, length, slice_index, Option, Some, None, Result, Ok, Err}
use Rattle.std.specs.Io.KnownBytes.{Consumes, IsAtEnd}
use Rattle.rina_io.specs.Causes.{RoseOnce}
use Rattle.rina_io.specs.declared.line_reader.ReadError.{ReadError}
use Rattle.rina_io.specs.declared.line_reader.ReadError.TheVariants as errors
use Rattle.rina_io.specs.Reader.{Reader}

-- none of the bytes is a line feed
abbrev pub HasNoEnd : List ℕ → Type 0
HasNoEnd bs = (k : ℕ) → k < length bs → slice_index bs k ≢ 10

-- the last byte is a line feed
abbrev pub HasEnd : List ℕ → Type 0
HasEnd bs = slice_index bs (length bs - 1) ≡ 10

-- at least one byte, and no line feed before the last
pub record IsLine (bs : List ℕ) : Type 0 where
  pub some : 0 < length bs
  pub whole : (k : ℕ) → k + 1 < length bs → slice_index bs k ≢ 10

-- a reader holds what one read gave at most; where it met the end of its source it holds nothing, and nothing is left there
pub record IsSound (left : Option (List ℕ)) (r : Reader) : Type 0 where
  pub few : length r.held ≤ 4096
  pub over : r.over ≡ true → IsAtEnd left × (r.held ≡ [])

-- a line has its end, or it is the last
abbrev pub MayEnd : Bool → List ℕ → Type 0
MayEnd false line = HasEnd line
MayEnd true line = HasNoEnd line

-- this line was handed out: it is the front of what was held and of what was read for it, and the rest is held
pub record IsNext (left left' : Option (List ℕ)) (r r' : Reader) (line : List ℕ) : Type 0 where
  pub read : List ℕ
  pub consumed : Consumes left left' read
  pub bytes : r.held ++ read ≡ line ++ r'.held
  pub room : r'.room + length read ≡ r.room
  pub line_is : IsLine line
  pub ends : MayEnd r'.over line
  pub sound : IsSound left' r'

-- no line was left
pub record IsOver (left left' : Option (List ℕ)) (r r' : Reader) : Type 0 where
  pub none : r.held ≡ []
  pub consumed : Consumes left left' []
  pub room : r'.room ≡ r.room
  pub over : r'.over ≡ true
  pub sound : IsSound left' r'

-- how many bytes were read, where so many more were allowed, and how many of them stand behind the part of a line; where memory ran out, these are what one read
-- gave at most
abbrev pub Breaks : ReadError → ℕ → ℕ → ℕ → Type 0
Breaks errors.Fault room read behind = (behind ≡ 0) × (read ≤ room)
Breaks errors.TooLarge room read behind = (behind ≡ 1) × (read ≡ room + 1)
Breaks errors.Memory room read behind = (behind ≤ 4096) × (read ≤ room)

-- the next line could not be read: only a part of it was, which has no end; memory ran out only where a byte was to be kept
pub record IsCutOff (e : ReadError) (left left' : Option (List ℕ)) (r : Reader) : Type 0 where
  pub part : List ℕ
  pub behind : List ℕ
  pub read : List ℕ
  pub consumed : Consumes left left' read
  pub bytes : r.held ++ read ≡ part ++ behind
  pub unended : HasNoEnd part
  pub breaks : Breaks e r.room (length read) (length behind)
  pub kept : e ≡ errors.Memory → 0 < length part + length behind

-- what reading the next line gives, by the bytes of a line; a reader that met the end of its source has no line more
abbrev pub Gives : {A : Type 0} → (A → List ℕ) → Option (List ℕ) → Option (List ℕ) → Reader → Reader → Result (Option A) ReadError → Type 0
Gives items left left' r r' (Ok (Some line)) = (r.over ≡ false) × IsNext left left' r r' (items line)
Gives items left left' r r' (Ok None) = IsOver left left' r r'
Gives items left left' r r' (Err e) = (r.over ≡ false) × IsCutOff e left left' r

-- one read failed where that is the error, and else none
abbrev pub FaultsOf : {A : Type 0} → Result A ReadError → ℕ → ℕ → Bool → Bool → Type 0
FaultsOf (Err errors.Fault) before now odd odd' = RoseOnce before now × (odd' ≡ not odd)
FaultsOf result before now odd odd' = (now ≡ before) × (odd' ≡ odd)

-- the reader has read and met as much as before
abbrev pub HasReadAs : Reader → Reader → Type 0
HasReadAs r r' = (r'.room ≡ r.room) × (r'.over ≡ r.over)

-- the front of what was held, up to its first line feed, went to a line
pub record IsEnded (r : Reader) (line : List ℕ) (r' : Reader) (line' : List ℕ) : Type 0 where
  pub piece : List ℕ
  pub is_line : IsLine piece
  pub ends : HasEnd piece
  pub bytes : r.held ≡ piece ++ r'.held
  pub grown : line' ≡ line ++ piece
  pub same : HasReadAs r r'

-- all that was held went to a line, and has no line feed
pub record IsEmptied (r : Reader) (line : List ℕ) (r' : Reader) (line' : List ℕ) : Type 0 where
  pub unended : HasNoEnd r.held
  pub grown : line' ≡ line ++ r.held
  pub none : r'.held ≡ []
  pub same : HasReadAs r r'

-- what moved from a reader to a line; an allocation can fail only where a byte is held
abbrev pub Takes : {E : Type 0} → Reader → List ℕ → Reader → List ℕ → Result Bool E → Type 0
Takes r line r' line' (Ok true) = IsEnded r line r' line'
Takes r line r' line' (Ok false) = IsEmptied r line r' line'
Takes r line r' line' (Err e) = (0 < length r.held) × (r'.held ≡ r.held) × (line' ≡ line) × HasReadAs r r'

-- the next bytes were read
pub record IsFilled (left left' : Option (List ℕ)) (r r' : Reader) : Type 0 where
  pub some : 0 < length r'.held
  pub few : length r'.held ≤ 4096
  pub consumed : Consumes left left' r'.held
  pub room : r'.room + length r'.held ≡ r.room
  pub over : r'.over ≡ r.over

-- the source was at its end
pub record IsDry (left left' : Option (List ℕ)) (r r' : Reader) : Type 0 where
  pub end : IsAtEnd left'
  pub consumed : Consumes left left' []
  pub none : r'.held ≡ []
  pub same : HasReadAs r r'

-- what reading the next bytes gives
abbrev pub Refills : Option (List ℕ) → Option (List ℕ) → Reader → Reader → Result Bool ReadError → Type 0
Refills left left' r r' (Ok true) = IsFilled left left' r r'
Refills left left' r r' (Ok false) = IsDry left left' r r'
Refills left left' r r' (Err e) = IsCutOff e left left' r
