-- Which messages can be written, and how long they are.
use Rattle.std.proofs.Common.{◌≡◌, ℕ, ◌+◌, ◌<◌, ◌≤◌, true, List, [], ◌∷◌, ◌++◌, length, Some, None, is_some, refl, ap, ◌∙◌, arith}
use Rattle.std.specs.Prelude.{codes}
use Rattle.std.proofs.lemmas.List.{length-append}
use Rattle.rina_base.specs.Names.{is_name_byte, length_at, bad_at, bytes_at, name_at}
use Rattle.rina_base.proofs.Lengths.{app_short}
use Rattle.rina_cdap.specs.Messages.{Field, field, be2, be4, byte, has_form, IsRow, contents, fields, is_response, whole_fault}
use Rattle.rina_base.specs.ObjectNames.{is_object_byte, are_parts, is_object_name}
use Rattle.rina_cdap.proofs.Contents.{spells, lawful, front_row, value_row, result_row, addresses_row, size, length-text}
use Rattle.rina_cdap.proofs.Numbers.{length-number}
use Rattle.rina_cdap.proofs.Written.{row_fault-message}
use Rattle.rina_alloc.specs.declared.message.FlowAsk.{FlowAsk}
use Rattle.rina_alloc.specs.declared.message.FlowWord.{FlowWord}
use Rattle.rina_alloc.specs.declared.message.FlowWord.TheVariants as words
use Rattle.rina_alloc.specs.declared.message.FlowMessage.{FlowMessage}
use Rattle.rina_alloc.specs.Words.{code_of, dcep_of, number_of}
use Rattle.rina_alloc.specs.Messages.{value_of, app_text, ask_text, message_of, IsSpelled, IsProper}
use Rattle.rina_alloc.specs.Reading.{message_to}

flow_class : has_form 3 (codes "flow") ≡ true
unfolding has_form name_at length_at bytes_at bad_at is_name_byte
flow_class = refl

flows_name : has_form 4 (codes "/flow") ≡ true
unfolding has_form is_object_name are_parts is_object_byte is_name_byte
flows_name = refl

length-app : (app : List ℕ) → length (app_text app) ≡ 2 + length app
unfolding app_text be2
length-app app = omega (arith, length-append (be2 (length app)) app)

length-ask : (ask : FlowAsk) → length (ask_text ask) ≡ 21 + length ask.destination + length ask.source
unfolding ask_text
length-ask ask =
    let names = app_text ask.destination ++ app_text ask.source in
    let behind = ask.cube ∷ be4 ask.scep ++ names in
    omega (
      arith,
      length-number ask.flow.src,
      length-number ask.flow.tick,
      length-number ask.flow.count,
      length-number ask.scep,
      length-app ask.destination,
      length-app ask.source,
      length-append (app_text ask.destination) (app_text ask.source),
      length-append (be4 ask.scep) names,
      length-append (be4 ask.flow.count) behind,
      length-append (be4 ask.flow.tick) (be4 ask.flow.count ++ behind),
      length-append (be4 ask.flow.src) (be4 ask.flow.tick ++ (be4 ask.flow.count ++ behind)),
    )

length-pair : (m n : ℕ) → length (be4 m ++ be4 n) ≡ 8
length-pair m n = omega (arith, length-append (be4 m) (be4 n), length-number m, length-number n)

value_short : (word : FlowWord) → IsProper word → length (value_of word) ≤ 279
value_short (words.Ask invoke ask) h = omega (arith, length-ask ask, app_short ask.destination ask.destination h.0, app_short ask.source ask.source h.1)
value_short (words.Answer invoke answer) h = omega (arith, length-pair (dcep_of answer) (number_of answer))
value_short (words.Delete dcep scep) h = omega (arith, length-pair dcep scep)

nothing_lacks : (m : FlowMessage) (word : FlowWord) → whole_fault (Some (message_of (message_to m.to m.from word)).operation) true (is_some (message_of (message_to m.to m.from word)).result) ≡ None
unfolding message_of is_response
nothing_lacks m (words.Ask invoke ask) = refl
nothing_lacks m (words.Answer invoke answer) = refl
nothing_lacks m (words.Delete dcep scep) = refl

abbrev ends : FlowMessage → List Field
ends m = field 11 (be4 m.to) ∷ field 12 (be4 m.from) ∷ []

abbrev from_value : FlowMessage → FlowWord → List Field
from_value m word = field 6 (value_of word) ∷ ends m

flow_row : (last : ℕ) (rest : List Field) → last < 4 → IsRow 4 rest → IsRow last (field 4 (codes "/flow") ∷ rest)
flow_row last rest lt h = (lawful last 4 (codes "/flow") lt (omega arith) flows_name, h)

plain_value : (m : FlowMessage) (word : FlowWord) → IsProper word → IsRow 4 (from_value m word)
plain_value m word h = value_row 4 (value_of word) (ends m) (omega arith) (omega (arith, value_short word h)) (addresses_row 6 m.to m.from (omega arith))

rises : (m : FlowMessage) (word : FlowWord) → IsProper word → IsRow 0 (fields (message_of (message_to m.to m.from word)))
unfolding message_of contents
rises m (words.Ask invoke ask) h =
    front_row 4 invoke (field 3 (codes "flow") ∷ field 4 (codes "/flow") ∷ from_value m (words.Ask invoke ask)) refl
    (lawful 2 3 (codes "flow") (omega arith) (omega arith) flow_class, flow_row 3 (from_value m (words.Ask invoke ask)) (omega arith) (plain_value m (words.Ask invoke ask) h))
rises m (words.Answer invoke answer) h =
    let rest = field 7 (byte (code_of answer)) ∷ ends m in
    let value = be4 (dcep_of answer) ++ be4 (number_of answer) in
    front_row 5 invoke (field 4 (codes "/flow") ∷ field 6 value ∷ rest) refl
    (flow_row 2 (field 6 value ∷ rest) (omega arith) (value_row 4 value rest (omega arith) (omega (arith, value_short (words.Answer invoke answer) h)) (result_row 6 (code_of answer) (ends m) (omega arith) (addresses_row 7 m.to m.from (omega arith)))))
rises m (words.Delete dcep scep) h =
    front_row 6 0 (field 4 (codes "/flow") ∷ from_value m (words.Delete dcep scep)) refl (flow_row 2 (from_value m (words.Delete dcep scep)) (omega arith) (plain_value m (words.Delete dcep scep) h))

-- a proper message has a spelling
pub can_be_written : (m : FlowMessage) → IsProper m.word → (bytes : List ℕ) × IsSpelled m bytes
can_be_written m h = spells (message_of m) (rises m m.word h) (row_fault-message (message_of m) ∙ nothing_lacks m m.word)

small : (m : FlowMessage) (word : FlowWord) → IsProper word → size (fields (message_of (message_to m.to m.from word))) ≤ 322
unfolding message_of contents
small m (words.Ask invoke ask) h = omega (arith, length-number invoke, length-number m.to, length-number m.from, value_short (words.Ask invoke ask) h)
small m (words.Answer invoke answer) h = omega (arith, length-number invoke, length-number m.to, length-number m.from, value_short (words.Answer invoke answer) h)
small m (words.Delete dcep scep) h = omega (arith, length-number 0, length-number m.to, length-number m.from, value_short (words.Delete dcep scep) h)

pub messages_short : (m : FlowMessage) (bytes : List ℕ) → IsProper m.word → IsSpelled m bytes → length bytes ≤ 322
messages_short m bytes h spelled = omega (arith, ap (λ (xs : List ℕ). length xs) spelled.spelled, length-text (fields (message_of m)), small m m.word h)
