-- What a CDAP message would be as a message of a link, by its operation, if it were spelled so.
use Rattle.std.specs.Prelude.{ℕ, ◌==◌, List, [], ◌∷◌, Option, Some, None, option_map, if◌then◌else◌}
use Rattle.rina_cdap.specs.Numbers.{number_at}
use Rattle.rina_cdap.specs.declared.message.Message.{Message}
use Rattle.rina_newest.specs.declared.item.Version.{Version}
use Rattle.rina_newest.specs.declared.item.Item.{Item}
use Rattle.rina_newest.specs.Newest.{item_of}
use Rattle.rina_enrol.specs.declared.message.LinkMessage.{LinkMessage}
use Rattle.rina_enrol.specs.declared.message.LinkMessage.TheVariants as messages

infixl 10 ◌>>=◌
abbrev ◌>>=◌ : {A B : Type 0} → Option A → (A → Option B) → Option B
None >>= f = None
(Some x) >>= f = f x

abbrev pub version : ℕ → ℕ → ℕ → Version
version tick count origin = record { tick = tick; count = count; origin = origin }

-- the version in front of a value, and the bytes behind it
unfoldable pub version_in : List ℕ → Option (Version × List ℕ)
version_in bytes = do
  t ← number_at bytes
  c ← number_at t.1
  o ← number_at c.1
  Some (version t.0 c.0 o.0, o.1)

-- the text behind a byte that is not 0
abbrev pub live_in : List ℕ → Option (List ℕ)
live_in [] = None
live_in (live ∷ text) = if live == 0 then None else Some text

abbrev pub number_in : Option (List ℕ) → Option ℕ
number_in None = None
number_in (Some bytes) = option_map (λ x. x.0) (number_at bytes)

unfoldable pub item_in : Message → Option Item
item_in m = do
  key ← m.name
  bytes ← m.value
  v ← version_in bytes
  Some (item_of key v.0 (live_in v.1))

unfoldable pub connect_in : Message → Option LinkMessage
connect_in m = do
  joiner ← m.source_name
  member ← m.destination_name
  Some (messages.Connect m.invoke joiner member)

unfoldable pub start_in : Message → Option LinkMessage
start_in m = do
  address ← number_in m.value
  Some (messages.Start m.invoke address)

unfoldable pub enrolment_in : Message → Option LinkMessage
enrolment_in m =
    if m.operation == 0 then connect_in m
    else (if m.operation == 1 then Some (messages.ConnectR m.invoke (number_in m.value))
    else (if m.operation == 14 then start_in m
    else (if m.operation == 15 then Some (messages.StartR m.invoke)
    else (if m.operation == 16 then Some (messages.Stop m.invoke)
    else (if m.operation == 17 then Some (messages.StopR m.invoke)
    else None)))))

unfoldable pub guessed : Message → Option LinkMessage
guessed m =
    if m.operation == 4 then option_map messages.Item (item_in m)
    else (if m.operation == 12 then option_map messages.Flood (item_in m)
    else enrolment_in m)
