-- The bytes of a message: a row of fields, tags rising, each a tag, the length of the content, and the content.
use Rattle.std.specs.Prelude.{◌≡◌, ℕ, ◌+◌, ◌%◌, ◌<◌, ◌≤◌, ◌^◌, Bool, true, ◌||◌, ◌&&◌, ◌==◌, nat_le, List, [], ◌∷◌, ◌++◌, length, slice_index, Option, Some, None, option_map, is_some, is_ok, if◌then◌else◌}
use Rattle.std.specs.Int.{w16, w32, w64, to_be_bytes}
use Rattle.rina_base.specs.Names.{name_at, app_at}
use Rattle.rina_base.specs.ObjectNames.{is_object_name}
use Rattle.rina_cdap.specs.declared.error.CdapError.{CdapError}
use Rattle.rina_cdap.specs.declared.error.CdapError.TheVariants.{Missing, BadValue}
use Rattle.rina_cdap.specs.declared.message.Message.{Message}

pub record Field : Type 0 where
  pub tag : ℕ
  pub content : List ℕ

abbrev pub field : ℕ → List ℕ → Field
field tag content = record { tag = tag; content = content }

-- numbers in 2, 4 and 8 bytes, big-endian
unfoldable pub be2 : ℕ → List ℕ
be2 n = to_be_bytes w16 n

unfoldable pub be4 : ℕ → List ℕ
be4 n = to_be_bytes w32 n

unfoldable pub be8 : ℕ → List ℕ
be8 n = to_be_bytes w64 n

abbrev pub byte : ℕ → List ℕ
byte n = n ∷ []

-- the content that a tag asks for: 1 an operation up to 17; 2, 11 and 12 four bytes; 3 a name; 4 an object name of at most 255 bytes; 5 eight bytes; 6 at most 65,535 bytes, as all; 7 one byte; 8 at most 255 bytes; 9 and 10 an application name
unfoldable pub has_form : ℕ → List ℕ → Bool
has_form tag content = nat_le (length content) 65535 &&
    (if tag == 1 then (length content == 1) && nat_le (slice_index content 0) 17
    else (if (tag == 2) || (tag == 11) || (tag == 12) then length content == 4
    else (if tag == 3 then is_ok (name_at content)
    else (if tag == 4 then nat_le (length content) 255 && is_object_name content
    else (if tag == 5 then length content == 8
    else (if tag == 6 then true
    else (if tag == 7 then length content == 1
    else (if tag == 8 then nat_le (length content) 255
    else is_ok (app_at content)))))))))

-- a field may stand behind one of tag `last`, or first where that is 0
pub record IsLawful (last : ℕ) (f : Field) : Type 0 where
  pub above : last < f.tag
  pub known : f.tag ≤ 12
  pub form : has_form f.tag f.content ≡ true

-- fields whose tags rise from above `last`
abbrev pub IsRow : ℕ → List Field → Type 0
IsRow last [] = Unit {0}
IsRow last (f ∷ fs) = IsLawful last f × IsRow f.tag fs

-- the tag of the last field, or `last` where there is none
abbrev pub last_tag : ℕ → List Field → ℕ
last_tag last [] = last
last_tag last (f ∷ fs) = last_tag f.tag fs

unfoldable pub field_text : Field → List ℕ
field_text f = f.tag ∷ be2 (length f.content) ++ f.content

abbrev pub text : List Field → List ℕ
text [] = []
text (f ∷ fs) = field_text f ++ text fs

-- a response has the number of its request plus one
unfoldable pub is_response : ℕ → Bool
is_response op = op % 2 == 1

-- what is missing or too much in a message of an operation, by whether it has an invoke id and a result
abbrev pub whole_fault : Option ℕ → Bool → Bool → Option CdapError
whole_fault None invoke result = Some (Missing 1)
whole_fault (Some op) invoke result =
    if invoke then (if is_response op then (if result then None else Some (Missing 7)) else (if result then Some (BadValue 7) else None))
    else Some (Missing 2)

-- the content of the field of a tag
abbrev pub content_of : ℕ → List Field → Option (List ℕ)
content_of tag [] = None
content_of tag (f ∷ fs) = if f.tag == tag then Some f.content else content_of tag fs

-- what a row of fields lacks to be a message, or has too much
unfoldable pub row_fault : List Field → Option CdapError
row_fault fs = whole_fault (option_map (λ c. slice_index c 0) (content_of 1 fs)) (is_some (content_of 2 fs)) (is_some (content_of 7 fs))

-- the fields of contents that are there, the first of which would have this tag, and the next one the next
abbrev pub row : ℕ → List (Option (List ℕ)) → List Field
row tag [] = []
row tag (None ∷ others) = row (tag + 1) others
row tag (Some content ∷ others) = field tag content ∷ row (tag + 1) others

-- the contents of a message, in the order of the tags from 1 to 12
unfoldable pub contents : Message → List (Option (List ℕ))
contents m =
    Some (byte m.operation) ∷ Some (be4 m.invoke) ∷ m.class ∷ m.name ∷ option_map be8 m.instance ∷ m.value ∷ option_map byte m.result ∷ m.reason ∷
    m.source_name ∷ m.destination_name ∷ option_map be4 m.destination_address ∷ option_map be4 m.source_address ∷ []

abbrev pub fields : Message → List Field
fields m = row 1 (contents m)

-- the bytes are this message's: its fields are a row that is a message, and the bytes are theirs
pub record Spells (m : Message) (bytes : List ℕ) : Type 0 where
  pub rises : IsRow 0 (fields m)
  pub whole : row_fault (fields m) ≡ None
  pub spelled : bytes ≡ text (fields m)

abbrev pub IfThere : Option ℕ → ℕ → Type 0
IfThere None n = Unit {0}
IfThere (Some x) n = x < n

-- the numbers of a message are those of its type
pub record InRange (m : Message) : Type 0 where
  pub operation : m.operation < 2 ^ 8
  pub invoke : m.invoke < 2 ^ 32
  pub instance : IfThere m.instance (2 ^ 64)
  pub result : IfThere m.result (2 ^ 8)
  pub destination : IfThere m.destination_address (2 ^ 32)
  pub source : IfThere m.source_address (2 ^ 32)
