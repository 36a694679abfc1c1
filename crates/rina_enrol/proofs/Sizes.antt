-- How long the messages of a link are.
use Rattle.std.proofs.Common.{◌≡◌, inl, inr, ℕ, ◌+◌, ◌*◌, ◌^◌, ◌<◌, ◌≤◌, List, [], ◌∷◌, ◌++◌, length, map, Option, Some, None, ap, ◌∙◌, arith}
use Rattle.std.specs.Prelude.{codes}
use Rattle.std.specs.Fmt.{decimal}
use Rattle.std.proofs.lemmas.Fmt.{length-decimal-le}
use Rattle.std.proofs.lemmas.List.{length-append, length-map}
use Rattle.rina_base.proofs.Lengths.{name_short, app_short}
use Rattle.rina_cdap.specs.Messages.{text, contents, fields}
use Rattle.rina_cdap.proofs.Contents.{size, length-text}
use Rattle.rina_cdap.proofs.Numbers.{length-number}
use Rattle.rina_enrol.proofs.Proper.{length-item}
use Rattle.rina_newest.specs.declared.item.Item.{Item}
use Rattle.rina_enrol.specs.declared.message.LinkMessage.{LinkMessage}
use Rattle.rina_enrol.specs.declared.message.LinkMessage.TheVariants as messages
use Rattle.rina_enrol.specs.Messages.{live_text, message_of, IsSpelled, IsProper}
use Rattle.rina_enrol.specs.Items.{Neighbour, neighbour_text, neighbours_text, AreInRange, IsText, shown, IsReplicated, CarriesReplicated}

address_short : (n : ℕ) → n < 2 ^ 32 → length (decimal n) ≤ 10
address_short n lt = length-decimal-le 10 n (omega arith) (omega arith) (omega arith)

weight_short : (n : ℕ) → n < 2 ^ 16 → length (decimal n) ≤ 5
weight_short n lt = length-decimal-le 5 n (omega arith) (omega arith) (omega arith)

neighbour_short : (n : Neighbour) → n.address < 2 ^ 32 → n.weight < 2 ^ 16 → length (neighbour_text n) ≤ 16
neighbour_short n a w = omega (arith, address_short n.address a, weight_short n.weight w, length-append (decimal n.address ++ codes ":") (decimal n.weight), length-append (decimal n.address) (codes ":"))

neighbours_short : (n : Neighbour) (others : List Neighbour) → AreInRange (n ∷ others) → length (neighbours_text (n ∷ others)) < 17 * length (n ∷ others)
neighbours_short n [] h = omega (arith, neighbour_short n h.0 h.1)
neighbours_short n (m ∷ others) h =
    omega (arith, neighbour_short n h.0 h.1, neighbours_short m others h.2, length-append (neighbour_text n ++ codes ",") (neighbours_text (m ∷ others)), length-append (neighbour_text n) (codes ","))

all_short : (ns : List Neighbour) → length ns ≤ 16 → AreInRange ns → length (neighbours_text ns) ≤ 271
all_short [] few h = omega arith
all_short (n ∷ others) few h = omega (arith, neighbours_short n others h)

live_short : (value : Option (List ℕ)) (text : List ℕ) → IsText value text → length (live_text value) ≤ 1 + length text
live_short None text h = omega arith
live_short (Some value) text h = omega (arith, ap (λ (xs : List ℕ). length xs) h)

key_is : (key front rest : List ℕ) → key ≡ front ++ rest → length key ≡ length front + length rest
key_is key front rest e = ap (λ (xs : List ℕ). length xs) e ∙ length-append front rest

-- the key and the text of a replicated item
item_short : (item : Item) → IsReplicated item → length item.key + length (live_text item.value) ≤ 288
item_short item (inl link) =
    omega (arith, key_is item.key (codes "/link/") (decimal link.address) link.key, address_short link.address link.small, live_short item.value (neighbours_text link.neighbours) link.value, all_short link.neighbours link.few link.ranges)
item_short item (inr (inl member)) =
    omega (arith, key_is item.key (codes "/member/") (decimal member.address) member.key, address_short member.address member.small, live_short item.value member.node member.value, name_short member.node member.node member.name)
item_short item (inr (inr entry)) =
    omega (arith, key_is item.key (codes "/dir/") (map shown entry.app) entry.key, length-map entry.app shown, app_short entry.app entry.app entry.name, live_short item.value (decimal entry.address) entry.value, address_short entry.address entry.small)

-- ---- the fields of a message

small : (m : LinkMessage) → IsProper m → CarriesReplicated m → size (fields (message_of m)) ≤ 325
unfolding message_of contents
small (messages.Connect invoke joiner member) h r = omega (arith, length-number invoke, app_short joiner joiner h.0, app_short member member h.1)
small (messages.ConnectR invoke None) h r = omega (arith, length-number invoke)
small (messages.ConnectR invoke (Some rule)) h r = omega (arith, length-number invoke, length-number rule)
small (messages.Start invoke address) h r = omega (arith, length-number invoke, length-number address)
small (messages.StartR invoke) h r = omega (arith, length-number invoke)
small (messages.Item item) h r = omega (arith, length-number 0, item_short item r, length-item item)
small (messages.Stop invoke) h r = omega (arith, length-number invoke)
small (messages.StopR invoke) h r = omega (arith, length-number invoke)
small (messages.Flood item) h r = omega (arith, length-number 0, item_short item r, length-item item)

pub messages_short : (m : LinkMessage) (bytes : List ℕ) → IsProper m → CarriesReplicated m → IsSpelled m bytes → length bytes ≤ 325
messages_short m bytes h r spelled = omega (arith, ap (λ (xs : List ℕ). length xs) spelled.spelled, length-text (fields (message_of m)), small m h r)
