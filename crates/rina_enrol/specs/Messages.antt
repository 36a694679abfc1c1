-- The messages of a link as CDAP messages, field by field.
use Rattle.std.specs.Prelude.{◌≡◌, ℕ, ◌<◌, ◌≤◌, ◌^◌, List, [], ◌∷◌, ◌++◌, length, Option, Some, None, Ok, option_map, codes}
use Rattle.rina_base.specs.Names.{app_at}
use Rattle.rina_cdap.specs.Messages.{be4, IfThere, Spells}
use Rattle.rina_base.specs.ObjectNames.{IsObjectName}
use Rattle.rina_cdap.specs.declared.message.Message.{Message}
use Rattle.rina_newest.specs.declared.item.Version.{Version}
use Rattle.rina_newest.specs.declared.item.Item.{Item}
use Rattle.rina_enrol.specs.declared.message.LinkMessage.{LinkMessage}
use Rattle.rina_enrol.specs.declared.message.LinkMessage.TheVariants as messages

-- CONNECT, CONNECT_R, START, START_R, CREATE for an item, STOP, STOP_R, WRITE for a flood
abbrev pub operation_of : LinkMessage → ℕ
operation_of (messages.Connect invoke joiner member) = 0
operation_of (messages.ConnectR invoke denied) = 1
operation_of (messages.Start invoke address) = 14
operation_of (messages.StartR invoke) = 15
operation_of (messages.Item item) = 4
operation_of (messages.Stop invoke) = 16
operation_of (messages.StopR invoke) = 17
operation_of (messages.Flood item) = 12

-- an item asks for no response
abbrev pub invoke_of : LinkMessage → ℕ
invoke_of (messages.Connect invoke joiner member) = invoke
invoke_of (messages.ConnectR invoke denied) = invoke
invoke_of (messages.Start invoke address) = invoke
invoke_of (messages.StartR invoke) = invoke
invoke_of (messages.Item item) = 0
invoke_of (messages.Stop invoke) = invoke
invoke_of (messages.StopR invoke) = invoke
invoke_of (messages.Flood item) = 0

abbrev pub class_of : LinkMessage → Option (List ℕ)
class_of (messages.Start invoke address) = Some (codes "enrol")
class_of (messages.Item item) = Some (codes "value")
class_of (messages.Stop invoke) = Some (codes "enrol")
class_of (messages.StopR invoke) = Some (codes "enrol")
class_of (messages.Flood item) = Some (codes "value")
class_of m = None

-- an item's message has its key as the object's name
abbrev pub name_of : LinkMessage → Option (List ℕ)
name_of (messages.Start invoke address) = Some (codes "/member")
name_of (messages.Item item) = Some item.key
name_of (messages.Stop invoke) = Some (codes "/member")
name_of (messages.StopR invoke) = Some (codes "/member")
name_of (messages.Flood item) = Some item.key
name_of m = None

-- 1 and the text of a live item, 0 for a deletion
abbrev pub live_text : Option (List ℕ) → List ℕ
live_text (Some text) = 1 ∷ text
live_text None = 0 ∷ []

-- an item without its key: the tick, the count and the origin of its version in four bytes each, whether it is live, and its text
unfoldable pub item_text : Item → List ℕ
item_text item = be4 item.version.tick ++ (be4 item.version.count ++ (be4 item.version.origin ++ live_text item.value))

-- the rule that denies, the address, or the item
abbrev pub value_of : LinkMessage → Option (List ℕ)
value_of (messages.ConnectR invoke denied) = option_map be4 denied
value_of (messages.Start invoke address) = Some (be4 address)
value_of (messages.Item item) = Some (item_text item)
value_of (messages.Flood item) = Some (item_text item)
value_of m = None

-- a response has result 0, but one that denies has result 1
abbrev pub result_of : LinkMessage → Option ℕ
result_of (messages.ConnectR invoke None) = Some 0
result_of (messages.ConnectR invoke (Some rule)) = Some 1
result_of (messages.StartR invoke) = Some 0
result_of (messages.StopR invoke) = Some 0
result_of m = None

abbrev pub joiner_of : LinkMessage → Option (List ℕ)
joiner_of (messages.Connect invoke joiner member) = Some joiner
joiner_of m = None

abbrev pub member_of : LinkMessage → Option (List ℕ)
member_of (messages.Connect invoke joiner member) = Some member
member_of m = None

-- the CDAP message that a message of a link is; the joiner is its source, and the member its destination
unfoldable pub message_of : LinkMessage → Message
message_of m = record {
  operation = operation_of m;
  invoke = invoke_of m;
  class = class_of m;
  name = name_of m;
  instance = None;
  value = value_of m;
  result = result_of m;
  reason = None;
  source_name = joiner_of m;
  destination_name = member_of m;
  destination_address = None;
  source_address = None;
}

-- the bytes are this message's
abbrev pub IsSpelled : LinkMessage → List ℕ → Type 0
IsSpelled m bytes = Spells (message_of m) bytes

abbrev pub IsVersion : Version → Type 0
IsVersion v = (v.tick < 2 ^ 32) × (v.count < 2 ^ 32) × (v.origin < 2 ^ 32)

-- the numbers of a message are those of its type
abbrev pub IsInRange : LinkMessage → Type 0
IsInRange (messages.Connect invoke joiner member) = invoke < 2 ^ 32
IsInRange (messages.ConnectR invoke denied) = (invoke < 2 ^ 32) × IfThere denied (2 ^ 32)
IsInRange (messages.Start invoke address) = (invoke < 2 ^ 32) × (address < 2 ^ 32)
IsInRange (messages.StartR invoke) = invoke < 2 ^ 32
IsInRange (messages.Item item) = IsVersion item.version
IsInRange (messages.Stop invoke) = invoke < 2 ^ 32
IsInRange (messages.StopR invoke) = invoke < 2 ^ 32
IsInRange (messages.Flood item) = IsVersion item.version

-- the key of an item is an object name of at most 255 bytes, and with its text it fits a message
abbrev pub IsProperItem : Item → Type 0
IsProperItem item = IsObjectName item.key × (length item.key ≤ 255) × (length (live_text item.value) ≤ 65523)

-- what its type does not say of a message that can be written; the names of applications are names
abbrev pub IsProper : LinkMessage → Type 0
IsProper (messages.Connect invoke joiner member) = (app_at joiner ≡ Ok joiner) × (app_at member ≡ Ok member)
IsProper (messages.Item item) = IsProperItem item
IsProper (messages.Flood item) = IsProperItem item
IsProper m = Unit {0}
