-- The first fault of bytes that are no message.
use Rattle.std.specs.Prelude.{◌≡◌, ℕ, Bool, true, ◌||◌, ◌&&◌, ◌==◌, nat_lt, List, [], ◌∷◌, ◌++◌, length, take, drop, slice_index, Option, Some, None, Result, Ok, Err, option_map, is_some, if◌then◌else◌}
use Rattle.std.specs.Int.{w16, from_be_bytes}
use Rattle.rina_cdap.specs.declared.error.CdapError.{CdapError}
use Rattle.rina_cdap.specs.declared.error.CdapError.TheVariants.{Memory, Short, BadTag, BadOp, Twice, Missing, BadValue}
use Rattle.rina_cdap.specs.declared.message.Message.{Message}
use Rattle.rina_cdap.specs.declared.reading.Draft.{Draft}
use Rattle.rina_cdap.specs.Messages.{Field, field, be4, be8, byte, has_form, IsLawful, IsRow, last_tag, field_text, text, row_fault, whole_fault, row, contents, Spells}

-- the field that stands in front of bytes, and the bytes behind it; none where no field ends within them
unfoldable pub field_at : List ℕ → Option (Field × List ℕ)
field_at (tag ∷ high ∷ low ∷ after) =
    if nat_lt (length after) (from_be_bytes w16 (high ∷ low ∷ [])) then None
    else Some (field tag (take (from_be_bytes w16 (high ∷ low ∷ [])) after), drop (from_be_bytes w16 (high ∷ low ∷ [])) after)
field_at _ = None

-- the fault of a field that begins at `at` behind one of tag `last`
unfoldable pub field_fault : ℕ → ℕ → Field → Option CdapError
field_fault at last f =
    if nat_lt 0 last && (f.tag == last) then Some (Twice f.tag)
    else (if (f.tag == 0) || nat_lt 12 f.tag || nat_lt f.tag last then Some (BadTag at)
    else (if (f.tag == 1) && (length f.content == 1) && nat_lt 17 (slice_index f.content 0) then Some (BadOp (slice_index f.content 0))
    else (if has_form f.tag f.content then None else Some (BadValue f.tag))))

abbrev pub fault_of : ℕ → ℕ → Option (Field × List ℕ) → Option CdapError
fault_of at last None = Some (Short at)
fault_of at last (Some x) = field_fault at last x.0

-- the fault of what stands behind a row of fields: of its first field, or of the row where nothing does
abbrev pub fault_behind : List Field → List ℕ → Option CdapError
fault_behind fs [] = row_fault fs
fault_behind fs (b ∷ bytes) = fault_of (length (text fs)) (last_tag 0 fs) (field_at (b ∷ bytes))

-- the first fault of bytes: a row of fields stands in front, and the fault is that of what stands behind it
pub record IsFault (bytes : List ℕ) (e : CdapError) : Type 0 where
  pub front : List Field
  pub behind : List ℕ
  pub row : IsRow 0 front
  pub parts : bytes ≡ text front ++ behind
  pub fault : fault_behind front behind ≡ Some e

-- the content of a field of this tag is copied: a class, a name, a value, a reason, or the name of an application
unfoldable pub is_copied : ℕ → Bool
is_copied tag = (tag == 3) || (tag == 4) || (tag == 6) || (tag == 8) || (tag == 9) || (tag == 10)

-- a row of fields stands in front of bytes, and the last of them is copied
pub record HasCopied (bytes : List ℕ) : Type 0 where
  pub front : List Field
  pub behind : List ℕ
  pub row : IsRow 0 front
  pub parts : bytes ≡ text front ++ behind
  pub copied : is_copied (last_tag 0 front) ≡ true

-- an error of reading bytes: their first fault, or `Memory`, which comes only where a field is copied
abbrev pub Faulty : CdapError → List ℕ → Type 0
Faulty Memory bytes = HasCopied bytes
Faulty (Short at) bytes = IsFault bytes (Short at)
Faulty (BadTag at) bytes = IsFault bytes (BadTag at)
Faulty (BadOp n) bytes = IsFault bytes (BadOp n)
Faulty (Twice tag) bytes = IsFault bytes (Twice tag)
Faulty (Missing tag) bytes = IsFault bytes (Missing tag)
Faulty (BadValue tag) bytes = IsFault bytes (BadValue tag)

-- what reading bytes gives: the message that they spell, or their first fault
abbrev pub Reads : Result Message CdapError → List ℕ → Type 0
Reads (Ok m) bytes = Spells m bytes
Reads (Err e) bytes = Faulty e bytes

-- a call answered this, unless memory ran out
abbrev pub Gives : {X : Type 0} → Result X CdapError → Result X CdapError → Type 0
Gives (Ok x) told = told ≡ Ok x
Gives (Err Memory) told = Unit {0}
Gives (Err (Short at)) told = told ≡ Err (Short at)
Gives (Err (BadTag at)) told = told ≡ Err (BadTag at)
Gives (Err (BadOp n)) told = told ≡ Err (BadOp n)
Gives (Err (Twice tag)) told = told ≡ Err (Twice tag)
Gives (Err (Missing tag)) told = told ≡ Err (Missing tag)
Gives (Err (BadValue tag)) told = told ≡ Err (BadValue tag)

-- a field that may stand behind one of tag `last` is in front of bytes
pub record IsNext (last : ℕ) (bytes : List ℕ) (f : Field) (rest : List ℕ) : Type 0 where
  pub parts : bytes ≡ field_text f ++ rest
  pub lawful : IsLawful last f

-- in front of bytes stands a field that may stand behind one of tag `last`, and it is copied
pub record IsCopiedNext (last : ℕ) (bytes : List ℕ) : Type 0 where
  pub front : Field
  pub rest : List ℕ
  pub next : IsNext last bytes front rest
  pub copied : is_copied front.tag ≡ true

-- a fault, or none
abbrev pub err_of : Option CdapError → Result (Unit {0}) CdapError
err_of None = Ok tt
err_of (Some e) = Err e

-- what is known of a message while its fields are read, by tag from 1 to 12
unfoldable pub drafted : Draft → List (Option (List ℕ))
drafted d =
    option_map byte d.operation ∷ option_map be4 d.invoke ∷ d.class ∷ d.name ∷ option_map be8 d.instance ∷ d.value ∷ option_map byte d.result ∷ d.reason ∷
    d.source_name ∷ d.destination_name ∷ option_map be4 d.destination_address ∷ option_map be4 d.source_address ∷ []

abbrev pub drafted_fields : Draft → List Field
drafted_fields d = row 1 (drafted d)

-- the fields that were read, or the first fault
abbrev pub Drafts : Result Draft CdapError → List ℕ → Type 0
Drafts (Ok d) bytes = IsRow 0 (drafted_fields d) × (bytes ≡ text (drafted_fields d))
Drafts (Err e) bytes = Faulty e bytes

abbrev pub draft_fault : Draft → Option CdapError
draft_fault d = whole_fault d.operation (is_some d.invoke) (is_some d.result)

-- the message that the fields are, or what it lacks or has too much
abbrev pub Finishes : Result Message CdapError → Draft → Type 0
Finishes (Ok m) d = (contents m ≡ drafted d) × (draft_fault d ≡ None)
Finishes (Err e) d = draft_fault d ≡ Some e
