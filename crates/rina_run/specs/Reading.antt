-- How the lines of an input are read: what was read of the source, which bytes of it are used, and which lines they are.
use Rattle.std.specs.Prelude.{◌≡◌, ℕ, ◌+◌, ◌<◌, ◌≤◌, Bool, true, false, List, [], ◌∷◌, ◌++◌, length, map, take, Option, Result, Ok, Err, ◌⊎◌}
use Rattle.std.specs.Io.{IsEmptyOrEndsWith}
use Rattle.std.specs.Io.KnownBytes.{Consumes, IsAtEnd}
use Rattle.std.specs.List.{All, flat_map}
use Rattle.bstr.specs.Text.{lines_of, without_terminator}
use Rattle.rina_io.specs.NextLine.{IsSound}
use Rattle.rina_io.specs.Reader.{Reader, size}
use Rattle.rina_base.specs.declared.memory.Memory.{Memory}
use Rattle.rina_report.specs.declared.note.Fault.{Fault}
use Rattle.rina_report.specs.declared.note.Fault.TheVariants as faults
use Rattle.rina_run.specs.Script.{counted_lines, has_end, is_mark}
use Rattle.rina_run.specs.declared.reading.Head.{Head}
use Rattle.rina_run.specs.declared.reading.Head.TheVariants as heads
use Rattle.rina_run.specs.declared.reading.Next.{Next}
use Rattle.rina_run.specs.declared.reading.Next.TheVariants as nexts

-- how reading ended: at the end of the input; by a fault; behind the last line that was used, where nothing more was wanted; or without memory
pub data Ending : Type 0 where
  Whole : Ending
  Broken : Fault → Ending
  Enough : Ending
  Lost : Ending

abbrev pub is_whole : Ending → Bool
is_whole Whole = true
is_whole (Broken fault) = false
is_whole Enough = false
is_whole Lost = false

-- reading was not broken off: it ended with the last line that was used, or at the end of the input
abbrev pub IsFine : Ending → Type 0
IsFine Whole = Unit {0}
IsFine (Broken fault) = ⊥
IsFine Enough = Unit {0}
IsFine Lost = ⊥

abbrev pub joined : List (List ℕ) → List ℕ
joined lines = flat_map (λ l. l) lines

-- where a run has enough, it has read at most 4,096 bytes behind the end of its last line
pub record IsEnough (bytes used : List ℕ) : Type 0 where
  pub ended : IsEmptyOrEndsWith used 10
  pub behind : List ℕ
  pub few : length behind ≤ 4096
  pub are : bytes ≡ used ++ behind

-- which of the bytes that were read are used, by how reading ended: more than 16,777,216 are read only where that is what breaks reading off; without memory
-- all are used but for what one read gave at most
abbrev pub EndedBy : Ending → Option (List ℕ) → List ℕ → List ℕ → Type 0
EndedBy Whole left bytes used = IsAtEnd left × (length bytes ≤ 16777216) × (used ≡ bytes)
EndedBy (Broken faults.TooLarge) left bytes used = (16777216 < length bytes) × (used ≡ take 16777216 bytes)
EndedBy (Broken faults.ReadFault) left bytes used = (length bytes ≤ 16777216) × (used ≡ bytes)
EndedBy (Broken fault) left bytes used = ⊥
EndedBy Enough left bytes used = (length bytes ≤ 16777216) × IsEnough bytes used
EndedBy Lost left bytes used = (length bytes ≤ 16777216) × (behind : List ℕ) × (length behind ≤ 4096) × (bytes ≡ used ++ behind)

-- these bytes were read, reading ended so, and these of them are used
pub record IsReadTo (left left' : Option (List ℕ)) (ending : Ending) (used : List ℕ) : Type 0 where
  pub bytes : List ℕ
  pub read : Consumes left left' bytes
  pub ended : EndedBy ending left' bytes used

-- the lines that were used, each with its end if it has one
pub record AreRead (left left' : Option (List ℕ)) (ending : Ending) (lines : List (List ℕ)) : Type 0 where
  pub used : List ℕ
  pub read : IsReadTo left left' ending used
  pub are : counted_lines (is_whole ending) (lines_of used) ≡ lines

-- each of the lines has its end
abbrev pub HaveEnds : List (List ℕ) → Type 0
HaveEnds lines = All (λ l. has_end l ≡ true) lines

-- so far a reader has handed out these lines, and holds what it read behind them
pub record HasRead (left left' : Option (List ℕ)) (r : Reader) (lines : List (List ℕ)) : Type 0 where
  pub read : List ℕ
  pub consumed : Consumes left left' read
  pub bytes : read ≡ joined lines ++ r.held
  pub room : r.room + length read ≡ 16777216
  pub are : lines_of (joined lines) ≡ lines
  pub ended : r.over ≡ false → HaveEnds lines
  pub sound : IsSound left' r

-- reading met the end of the input behind these lines
pub record HasReadAll (left left' : Option (List ℕ)) (r : Reader) (lines : List (List ℕ)) : Type 0 where
  pub read : HasRead left left' r lines
  pub over : r.over ≡ true

-- what reading one line more gives, behind lines that were read
abbrev pub NextRead : Option (List ℕ) → Option (List ℕ) → Reader → List (List ℕ) → Result Next Memory → Type 0
NextRead left left' r lines (Ok (nexts.Line line)) = HasRead left left' r (lines ++ line.items ∷ [])
NextRead left left' r lines (Ok nexts.End) = HasReadAll left left' r lines
NextRead left left' r lines (Ok (nexts.Broken fault)) = AreRead left left' (Broken fault) lines
NextRead left left' r lines (Err e) = AreRead left left' Lost lines

-- no line is the mark
abbrev pub HasNoMark : List (List ℕ) → Type 0
HasNoMark lines = All (λ l. is_mark l ≡ false) lines

-- the lines up to the mark were read, and these are the bytes before it
pub record IsMarked (text : List ℕ) (lines : List (List ℕ)) : Type 0 where
  pub before : List (List ℕ)
  pub mark : List ℕ
  pub are : lines ≡ before ++ mark ∷ []
  pub is_mark : is_mark mark ≡ true
  pub none : HasNoMark before
  pub text_is : text ≡ joined before

-- all lines were read, and none is the mark
pub record IsUnmarked (text : List ℕ) (r : Reader) (lines : List (List ℕ)) : Type 0 where
  pub none : HasNoMark lines
  pub over : r.over ≡ true
  pub text_is : text ≡ joined lines

-- the text of the stack was read
pub record HasText (left left' : Option (List ℕ)) (r : Reader) (text : List ℕ) : Type 0 where
  pub lines : List (List ℕ)
  pub read : HasRead left left' r lines
  pub marked : IsMarked text lines ⊎ IsUnmarked text r lines

-- reading broke off before the mark
pub record IsHeadless (left left' : Option (List ℕ)) (fault : Fault) : Type 0 where
  pub lines : List (List ℕ)
  pub read : AreRead left left' (Broken fault) lines
  pub none : HasNoMark lines

-- what reading the text of the stack gives
abbrev pub HeadRead : Option (List ℕ) → Option (List ℕ) → Reader → Result Head Memory → Type 0
HeadRead left left' r (Ok (heads.Stack text)) = HasText left left' r text.items
HeadRead left left' r (Ok (heads.Broken fault)) = IsHeadless left left' fault
HeadRead left left' r (Err e) = Unit {0}

-- a line was read, and fewer bytes are left to be handed out
pub record GoesOn (left' : Option (List ℕ)) (r r' : Reader) : Type 0 where
  pub sound : IsSound left' r'
  pub fewer : size r' < size r

-- reading goes on only behind a line, and only a reader that did not meet the end of the input gives one, or breaks off
abbrev pub NextGoesOn : Option (List ℕ) → Reader → Reader → Result Next Memory → Type 0
NextGoesOn left' r r' (Ok (nexts.Line line)) = (r.over ≡ false) × GoesOn left' r r'
NextGoesOn left' r r' (Ok nexts.End) = Unit {0}
NextGoesOn left' r r' result = r.over ≡ false

-- lines were read behind those before them, and this is known of them without their ends; none was read by a reader that had met the end of the input
pub record ReadBehind (left left' : Option (List ℕ)) (r : Reader) (before : List (List ℕ)) (Known : Ending → List (List ℕ) → Type 0) : Type 0 where
  pub ending : Ending
  pub lines : List (List ℕ)
  pub read : AreRead left left' ending (before ++ lines)
  pub at_end : r.over ≡ true → (ending ≡ Whole) × (lines ≡ [])
  pub known : Known ending (map without_terminator lines)
