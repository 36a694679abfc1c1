-- Which messages can be written.
use Rattle.std.proofs.Common.{◌≡◌, ℕ, ◌+◌, ◌<◌, true, List, [], ◌∷◌, ◌++◌, length, Some, None, is_some, refl, ◌∙◌, arith}
use Rattle.std.specs.Prelude.{codes}
use Rattle.std.proofs.lemmas.List.{length-append}
use Rattle.rina_base.specs.Names.{is_name_byte, length_at, bad_at, bytes_at, name_at}
use Rattle.rina_cdap.specs.Messages.{Field, field, be4, byte, has_form, IsRow, contents, fields, is_response, whole_fault}
use Rattle.rina_base.specs.ObjectNames.{is_object_byte, are_parts, is_object_name}
use Rattle.rina_cdap.proofs.Contents.{spells, key_form, value_form, lawful, front_row, value_row, result_row, names_row}
use Rattle.rina_cdap.proofs.Numbers.{length-number}
use Rattle.rina_cdap.proofs.Written.{row_fault-message}
use Rattle.rina_newest.specs.declared.item.Item.{Item}
use Rattle.rina_enrol.specs.declared.message.LinkMessage.{LinkMessage}
use Rattle.rina_enrol.specs.declared.message.LinkMessage.TheVariants as messages
use Rattle.rina_enrol.specs.Messages.{live_text, item_text, message_of, IsSpelled, IsProperItem, IsProper}

enrol_class : has_form 3 (codes "enrol") ≡ true
unfolding has_form name_at length_at bytes_at bad_at is_name_byte
enrol_class = refl

value_class : has_form 3 (codes "value") ≡ true
unfolding has_form name_at length_at bytes_at bad_at is_name_byte
value_class = refl

members_name : has_form 4 (codes "/member") ≡ true
unfolding has_form is_object_name are_parts is_object_byte is_name_byte
members_name = refl

pub length-item : (item : Item) → length (item_text item) ≡ 12 + length (live_text item.value)
unfolding item_text
length-item item =
    omega (
      arith,
      length-number item.version.tick,
      length-number item.version.count,
      length-number item.version.origin,
      length-append (be4 item.version.tick) (be4 item.version.count ++ (be4 item.version.origin ++ live_text item.value)),
      length-append (be4 item.version.count) (be4 item.version.origin ++ live_text item.value),
      length-append (be4 item.version.origin) (live_text item.value),
    )

abbrev item_fields : Item → List Field
item_fields item = field 3 (codes "value") ∷ field 4 item.key ∷ field 6 (item_text item) ∷ []

item_row : (item : Item) → IsProperItem item → IsRow 2 (item_fields item)
item_row item h = (
  lawful 2 3 (codes "value") (omega arith) (omega arith) value_class,
  (
    lawful 3 4 item.key (omega arith) (omega arith) (key_form item.key h.0 h.1),
    (lawful 4 6 (item_text item) (omega arith) (omega arith) (value_form (item_text item) (omega (arith, length-item item, h.2))), tt),
  ),
)

abbrev members_fields : List Field → List Field
members_fields rest = field 3 (codes "enrol") ∷ field 4 (codes "/member") ∷ rest

members_row : (rest : List Field) → IsRow 4 rest → IsRow 2 (members_fields rest)
members_row rest h = (
  lawful 2 3 (codes "enrol") (omega arith) (omega arith) enrol_class,
  (lawful 3 4 (codes "/member") (omega arith) (omega arith) members_name, h),
)

number_row : (last n : ℕ) (rest : List Field) → last < 6 → IsRow 6 rest → IsRow last (field 6 (be4 n) ∷ rest)
number_row last n rest lt h = value_row last (be4 n) rest lt (omega (arith, length-number n)) h

nothing_lacks : (m : LinkMessage) → whole_fault (Some (message_of m).operation) true (is_some (message_of m).result) ≡ None
unfolding message_of is_response
nothing_lacks (messages.Connect invoke joiner member) = refl
nothing_lacks (messages.ConnectR invoke None) = refl
nothing_lacks (messages.ConnectR invoke (Some rule)) = refl
nothing_lacks (messages.Start invoke address) = refl
nothing_lacks (messages.StartR invoke) = refl
nothing_lacks (messages.Item item) = refl
nothing_lacks (messages.Stop invoke) = refl
nothing_lacks (messages.StopR invoke) = refl
nothing_lacks (messages.Flood item) = refl

abbrev result_field : ℕ → List Field
result_field n = field 7 (byte n) ∷ []

rises : (m : LinkMessage) → IsProper m → IsRow 0 (fields (message_of m))
unfolding message_of contents
rises (messages.Connect invoke joiner member) h = front_row 0 invoke (field 9 joiner ∷ field 10 member ∷ []) refl (names_row joiner member h.0 h.1)
rises (messages.ConnectR invoke None) h = front_row 1 invoke (result_field 0) refl (result_row 2 0 [] (omega arith) tt)
rises (messages.ConnectR invoke (Some rule)) h = front_row 1 invoke (field 6 (be4 rule) ∷ result_field 1) refl (number_row 2 rule (result_field 1) (omega arith) (result_row 6 1 [] (omega arith) tt))
rises (messages.Start invoke address) h = front_row 14 invoke (members_fields (field 6 (be4 address) ∷ [])) refl (members_row (field 6 (be4 address) ∷ []) (number_row 4 address [] (omega arith) tt))
rises (messages.StartR invoke) h = front_row 15 invoke (result_field 0) refl (result_row 2 0 [] (omega arith) tt)
rises (messages.Item item) h = front_row 4 0 (item_fields item) refl (item_row item h)
rises (messages.Stop invoke) h = front_row 16 invoke (members_fields []) refl (members_row [] tt)
rises (messages.StopR invoke) h = front_row 17 invoke (members_fields (result_field 0)) refl (members_row (result_field 0) (result_row 4 0 [] (omega arith) tt))
rises (messages.Flood item) h = front_row 12 0 (item_fields item) refl (item_row item h)

-- a proper message has a spelling
pub can_be_written : (m : LinkMessage) → IsProper m → (bytes : List ℕ) × IsSpelled m bytes
can_be_written m h = spells (message_of m) (rises m h) (row_fault-message (message_of m) ∙ nothing_lacks m)
