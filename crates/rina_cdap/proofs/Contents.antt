-- Contents that have the form of their tag, and rows of them.
use Rattle.std.proofs.Common.{◌≡◌, ℕ, ◌+◌, ◌<◌, ◌≤◌, Bool, true, ◌&&◌, leb, List, [], ◌∷◌, length, None, Result, Ok, Err, IfErr, is_ok, refl, ap, arith}
use Rattle.std.specs.Global.{Vec}
use Rattle.std.proofs.lemmas.Bool.{le-leb}
use Rattle.std.proofs.lemmas.List.{length-append}
use Rattle.rina_base.specs.Names.{app_at}
use Rattle.rina_base.proofs.Lengths.{app_short}
use Rattle.rina_cdap.specs.declared.error.CdapError.{CdapError}
use Rattle.rina_cdap.specs.declared.error.CdapError.TheVariants.{Memory, Short, BadTag, BadOp, Twice, Missing, BadValue}
use Rattle.rina_cdap.specs.declared.message.Message.{Message}
use Rattle.rina_cdap.specs.Messages.{Field, field, be2, be4, byte, has_form, IsLawful, IsRow, field_text, text, fields, row_fault, Spells}
use Rattle.rina_base.specs.ObjectNames.{is_object_name}
use Rattle.rina_cdap.specs.Writing.{Makes}

-- only `Memory` stops what can be written
pub only_memory : (r : Result (Vec ℕ) CdapError) (bytes : List ℕ) → Makes r (Ok bytes) → IfErr r (λ e. e ≡ Memory)
only_memory (Ok v) bytes h = tt
only_memory (Err Memory) bytes h = refl
only_memory (Err (Short at)) bytes h = absurd cc
only_memory (Err (BadTag at)) bytes h = absurd cc
only_memory (Err (BadOp n)) bytes h = absurd cc
only_memory (Err (Twice tag)) bytes h = absurd cc
only_memory (Err (Missing tag)) bytes h = absurd cc
only_memory (Err (BadValue tag)) bytes h = absurd cc

-- a message whose fields are a row has a spelling
pub spells : (m : Message) → IsRow 0 (fields m) → row_fault (fields m) ≡ None → (bytes : List ℕ) × Spells m bytes
spells m rises whole = (text (fields m), record { rises = rises; whole = whole; spelled = refl })

-- ---- forms

both : (a b : Bool) → a ≡ true → b ≡ true → (a && b) ≡ true
both a b p q = rw (p, q) refl

pub operation_form : (n : ℕ) → leb n 17 ≡ true → has_form 1 (byte n) ≡ true
unfolding has_form
operation_form n e = rw e refl

pub invoke_form : (n : ℕ) → has_form 2 (be4 n) ≡ true
unfolding has_form be4
invoke_form n = refl

pub key_form : (key : List ℕ) → is_object_name key ≡ true → length key ≤ 255 → has_form 4 key ≡ true
unfolding has_form
key_form key name short = both _ _ (le-leb _ _ (omega arith)) (both _ _ (le-leb _ _ short) name)

pub value_form : (value : List ℕ) → length value ≤ 65535 → has_form 6 value ≡ true
unfolding has_form
value_form value short = both _ _ (le-leb _ _ short) refl

pub result_form : (n : ℕ) → has_form 7 (byte n) ≡ true
unfolding has_form
result_form n = refl

pub source_form : (app : List ℕ) → app_at app ≡ Ok app → has_form 9 app ≡ true
unfolding has_form
source_form app named = both _ _ (le-leb _ _ (omega (arith, app_short app app named))) (ap is_ok named)

pub destination_form : (app : List ℕ) → app_at app ≡ Ok app → has_form 10 app ≡ true
unfolding has_form
destination_form app named = both _ _ (le-leb _ _ (omega (arith, app_short app app named))) (ap is_ok named)

pub to_form : (n : ℕ) → has_form 11 (be4 n) ≡ true
unfolding has_form be4
to_form n = refl

pub from_form : (n : ℕ) → has_form 12 (be4 n) ≡ true
unfolding has_form be4
from_form n = refl

-- ---- rows

pub lawful : (last tag : ℕ) (content : List ℕ) → last < tag → tag ≤ 12 → has_form tag content ≡ true → IsLawful last (field tag content)
lawful last tag content above known form = record { above = above; known = known; form = form }

pub front_row : (op invoke : ℕ) (rest : List Field) → leb op 17 ≡ true → IsRow 2 rest → IsRow 0 (field 1 (byte op) ∷ field 2 (be4 invoke) ∷ rest)
front_row op invoke rest e h = (lawful 0 1 (byte op) (omega arith) (omega arith) (operation_form op e), (lawful 1 2 (be4 invoke) (omega arith) (omega arith) (invoke_form invoke), h))

pub value_row : (last : ℕ) (value : List ℕ) (rest : List Field) → last < 6 → length value ≤ 65535 → IsRow 6 rest → IsRow last (field 6 value ∷ rest)
value_row last value rest lt short h = (lawful last 6 value lt (omega arith) (value_form value short), h)

pub result_row : (last n : ℕ) (rest : List Field) → last < 7 → IsRow 7 rest → IsRow last (field 7 (byte n) ∷ rest)
result_row last n rest lt h = (lawful last 7 (byte n) lt (omega arith) (result_form n), h)

pub names_row : (source destination : List ℕ) → app_at source ≡ Ok source → app_at destination ≡ Ok destination → IsRow 2 (field 9 source ∷ field 10 destination ∷ [])
names_row source destination s d = (lawful 2 9 source (omega arith) (omega arith) (source_form source s), (lawful 9 10 destination (omega arith) (omega arith) (destination_form destination d), tt))

pub addresses_row : (last to from : ℕ) → last < 11 → IsRow last (field 11 (be4 to) ∷ field 12 (be4 from) ∷ [])
addresses_row last to from lt = (lawful last 11 (be4 to) lt (omega arith) (to_form to), (lawful 11 12 (be4 from) (omega arith) (omega arith) (from_form from), tt))

-- ---- lengths

length-field : (f : Field) → length (field_text f) ≡ 3 + length f.content
unfolding field_text be2
length-field f = omega (arith, length-append (f.tag ∷ be2 (length f.content)) f.content)

-- how many bytes fields have
abbrev pub size : List Field → ℕ
size [] = 0
size (f ∷ fs) = 3 + length f.content + size fs

pub length-text : (fs : List Field) → length (text fs) ≡ size fs
length-text [] = refl
length-text (f ∷ fs) = omega (arith, length-field f, length-append (field_text f) (text fs), length-text fs)
