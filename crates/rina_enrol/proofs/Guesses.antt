-- What the fields of a message tell is the message itself.
use Rattle.std.proofs.Common.{◌≡◌, ℕ, ◌^◌, ◌<◌, List, ◌++◌, Option, Some, None, Result, Ok, Err, IfOk, refl, sym, ap, ◌∙◌, arith}
use Rattle.rina_cdap.specs.declared.message.Message.{Message}
use Rattle.rina_cdap.specs.Messages.{be4, InRange}
use Rattle.rina_base.specs.declared.memory.Memory.{Memory}
use Rattle.rina_cdap.specs.Reading.{Gives}
use Rattle.rina_cdap.proofs.Numbers.{number_again, number_alone}
use Rattle.rina_cdap.proofs.Spelled as cdap
use Rattle.rina_newest.specs.declared.item.Version.{Version}
use Rattle.rina_newest.specs.declared.item.Item.{Item}
use Rattle.rina_enrol.specs.declared.message.LinkMessage.{LinkMessage}
use Rattle.rina_enrol.specs.declared.message.LinkMessage.TheVariants as messages
use Rattle.rina_enrol.specs.Messages.{live_text, item_text, message_of, IsSpelled, IsVersion, IsInRange}
use Rattle.rina_enrol.specs.Reading.{version_in, live_in, number_in, item_in, connect_in, start_in, enrolment_in, guessed}

version_again : (v : Version) (rest : List ℕ) → IsVersion v → version_in (be4 v.tick ++ (be4 v.count ++ (be4 v.origin ++ rest))) ≡ Some (v, rest)
unfolding version_in
version_again v rest h = rw (number_again v.tick (be4 v.count ++ (be4 v.origin ++ rest)) h.0, number_again v.count (be4 v.origin ++ rest) h.1, number_again v.origin rest h.2) refl

live_again : (value : Option (List ℕ)) → live_in (live_text value) ≡ value
live_again None = refl
live_again (Some text) = refl

item_create : (item : Item) → IsVersion item.version → item_in (message_of (messages.Item item)) ≡ Some item
unfolding item_in message_of item_text
item_create item h = rw (version_again item.version (live_text item.value) h, live_again item.value) refl

item_flood : (item : Item) → IsVersion item.version → item_in (message_of (messages.Flood item)) ≡ Some item
unfolding item_in message_of item_text
item_flood item h = rw (version_again item.version (live_text item.value) h, live_again item.value) refl

number_there : (n : ℕ) → n < 2 ^ 32 → number_in (Some (be4 n)) ≡ Some n
number_there n lt = rw (number_alone n lt) refl

pub guess_again : (m : LinkMessage) → IsInRange m → guessed (message_of m) ≡ Some m
unfolding guessed enrolment_in connect_in start_in message_of
guess_again (messages.Connect invoke joiner member) h = refl
guess_again (messages.ConnectR invoke None) h = refl
guess_again (messages.ConnectR invoke (Some rule)) h = rw (number_there rule h.1) refl
guess_again (messages.Start invoke address) h = rw (number_there address h.1) refl
guess_again (messages.StartR invoke) h = refl
guess_again (messages.Item item) h = rw (item_create item h) refl
guess_again (messages.Stop invoke) h = refl
guess_again (messages.StopR invoke) h = refl
guess_again (messages.Flood item) h = rw (item_flood item h) refl

pub message_ranged : (m : LinkMessage) → IsInRange m → InRange (message_of m)
unfolding message_of
message_ranged (messages.Connect invoke joiner member) h = record { operation = omega arith; invoke = h; instance = tt; result = tt; destination = tt; source = tt }
message_ranged (messages.ConnectR invoke None) h = record { operation = omega arith; invoke = h.0; instance = tt; result = omega arith; destination = tt; source = tt }
message_ranged (messages.ConnectR invoke (Some rule)) h = record { operation = omega arith; invoke = h.0; instance = tt; result = omega arith; destination = tt; source = tt }
message_ranged (messages.Start invoke address) h = record { operation = omega arith; invoke = h.0; instance = tt; result = tt; destination = tt; source = tt }
message_ranged (messages.StartR invoke) h = record { operation = omega arith; invoke = h; instance = tt; result = omega arith; destination = tt; source = tt }
message_ranged (messages.Item item) h = record { operation = omega arith; invoke = omega arith; instance = tt; result = tt; destination = tt; source = tt }
message_ranged (messages.Stop invoke) h = record { operation = omega arith; invoke = h; instance = tt; result = tt; destination = tt; source = tt }
message_ranged (messages.StopR invoke) h = record { operation = omega arith; invoke = h; instance = tt; result = omega arith; destination = tt; source = tt }
message_ranged (messages.Flood item) h = record { operation = omega arith; invoke = omega arith; instance = tt; result = tt; destination = tt; source = tt }

same_message : (n k : Message) → Gives {X = Message} (Ok n) (Ok k) → n ≡ k
same_message n k e = cc

pub guess_is : (r : Result (Option LinkMessage) Memory) (n : Message) (m : LinkMessage) → IfOk r (λ o. o ≡ guessed n) → Gives {X = Message} (Ok n) (Ok (message_of m)) → IsInRange m → IfOk r (λ o. o ≡ Some m)
guess_is (Ok o) n m h same range = h ∙ ap guessed (same_message n (message_of m) same) ∙ guess_again m range
guess_is (Err e) n m h same range = tt

some_same : (m n : LinkMessage) → Some m ≡ Some n → m ≡ n
some_same m n e = cc

pub one_message : (m n : LinkMessage) (bytes : List ℕ) → IsInRange m → IsInRange n → IsSpelled m bytes → IsSpelled n bytes → m ≡ n
one_message m n bytes hm hn p q =
    some_same m n (sym (guess_again m hm) ∙ ap guessed (cdap.one_message (message_of m) (message_of n) bytes (message_ranged m hm) (message_ranged n hn) p q) ∙ guess_again n hn)
