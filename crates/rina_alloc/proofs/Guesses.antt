-- What the fields of a message tell is the message itself.
use Rattle.std.proofs.Common.{◌≡◌, ℕ, ◌^◌, ◌<◌, ltb, false, List, [], ◌∷◌, ◌++◌, append-nil, length, Option, Some, Result, Ok, Err, IfOk, refl, sym, ap, ◌∙◌, arith}
use Rattle.std.proofs.lemmas.Bool.{le-ltb}
use Rattle.std.proofs.lemmas.List.{take_at, drop_at, length-append}
use Rattle.std.proofs.lemmas.Nat.{from_be_bytes-to_be_bytes_2}
use Rattle.rina_base.specs.Names.{app_at}
use Rattle.rina_base.specs.declared.memory.Memory.{Memory}
use Rattle.rina_base.specs.declared.number.FlowName.{FlowName}
use Rattle.rina_base.proofs.Lengths.{app_short}
use Rattle.rina_cdap.specs.declared.message.Message.{Message}
use Rattle.rina_cdap.specs.Messages.{be2, be4, IfThere, InRange}
use Rattle.rina_cdap.specs.Reading.{Gives}
use Rattle.rina_cdap.proofs.Numbers.{number_again, number_alone}
use Rattle.rina_cdap.proofs.Spelled as cdap
use Rattle.rina_alloc.specs.declared.answer.FlowAnswer.{FlowAnswer}
use Rattle.rina_alloc.specs.declared.answer.FlowAnswer.TheVariants as answers
use Rattle.rina_alloc.specs.declared.message.FlowAsk.{FlowAsk}
use Rattle.rina_alloc.specs.declared.message.FlowWord.{FlowWord}
use Rattle.rina_alloc.specs.declared.message.FlowWord.TheVariants as words
use Rattle.rina_alloc.specs.declared.message.FlowMessage.{FlowMessage}
use Rattle.rina_alloc.specs.Words.{code_of, dcep_of, number_of, answer_at}
use Rattle.rina_alloc.specs.Messages.{operation_of, invoke_of, result_of, app_text, ask_text, message_of, IsSpelled, IsProper, IsAskInRange, IsWordInRange, IsInRange}
use Rattle.rina_alloc.specs.Reading.{flow_in, text_in, fixed, fixed_in, ask_in, answer_in, delete_in, word_in, message_to, guessed}

flow_again : (f : FlowName) (rest : List ℕ) → f.src < 2 ^ 32 → f.tick < 2 ^ 32 → f.count < 2 ^ 32 → flow_in (be4 f.src ++ (be4 f.tick ++ (be4 f.count ++ rest))) ≡ Some (f, rest)
unfolding flow_in
flow_again f rest s t c = rw (number_again f.src (be4 f.tick ++ (be4 f.count ++ rest)) s, number_again f.tick (be4 f.count ++ rest) t, number_again f.count rest c) refl

fixed_again : (ask : FlowAsk) (rest : List ℕ) → IsAskInRange ask → fixed_in (be4 ask.flow.src ++ (be4 ask.flow.tick ++ (be4 ask.flow.count ++ (ask.cube ∷ be4 ask.scep ++ rest)))) ≡ Some (fixed ask.flow ask.cube ask.scep, rest)
unfolding fixed_in
fixed_again ask rest h = rw (flow_again ask.flow (ask.cube ∷ be4 ask.scep ++ rest) h.src h.tick h.count, number_again ask.scep rest h.scep) refl

text_again : (text rest : List ℕ) → length text < 2 ^ 16 → text_in (app_text text ++ rest) ≡ Some (text, rest)
unfolding text_in app_text be2
text_again text rest short =
    let n-is = from_be_bytes-to_be_bytes_2 (length text) short in
    let long : ltb (length (text ++ rest)) (length text) ≡ false = le-ltb _ _ (omega (arith, length-append text rest)) in
    rw (n-is, long, take_at text rest (length text) refl, drop_at text rest (length text) refl) refl

text_alone : (text : List ℕ) → length text < 2 ^ 16 → text_in (app_text text) ≡ Some (text, [])
text_alone text short = ap text_in (sym (append-nil (app_text text))) ∙ text_again text [] short

ask_again : (ask : FlowAsk) → IsAskInRange ask → app_at ask.destination ≡ Ok ask.destination → app_at ask.source ≡ Ok ask.source → ask_in (ask_text ask) ≡ Some ask
unfolding ask_in ask_text
ask_again ask h d s =
    let d-short : length ask.destination < 2 ^ 16 = omega (arith, app_short ask.destination ask.destination d) in
    let s-short : length ask.source < 2 ^ 16 = omega (arith, app_short ask.source ask.source s) in
    rw (fixed_again ask (app_text ask.destination ++ app_text ask.source) h, text_again ask.destination (app_text ask.source) d-short, text_alone ask.source s-short, d, s) refl

pub numbers_again : (a : FlowAnswer) → answer_at (code_of a) (dcep_of a) (number_of a) ≡ Some a
unfolding answer_at
numbers_again (answers.Yes dcep scep) = refl
numbers_again (answers.Denied rule) = refl
numbers_again answers.NotHere = refl
numbers_again (answers.NoIds used) = refl

answer_again : (a : FlowAnswer) → dcep_of a < 2 ^ 32 → number_of a < 2 ^ 32 → answer_in (Some (code_of a)) (be4 (dcep_of a) ++ be4 (number_of a)) ≡ Some a
unfolding answer_in
answer_again a d n = rw (number_again (dcep_of a) (be4 (number_of a)) d, number_alone (number_of a) n, numbers_again a) refl

delete_again : (dcep scep : ℕ) → dcep < 2 ^ 32 → scep < 2 ^ 32 → delete_in (be4 dcep ++ be4 scep) ≡ Some (words.Delete dcep scep)
unfolding delete_in
delete_again dcep scep d s = rw (number_again dcep (be4 scep) d, number_alone scep s) refl

word_again : (m : FlowMessage) (word : FlowWord) → m.word ≡ word → IsWordInRange word → IsProper word → guessed (message_of (message_to m.to m.from word)) ≡ Some (message_to m.to m.from word)
unfolding guessed word_in message_of
word_again m (words.Ask invoke ask) e h p = rw (ask_again ask h.1 p.0 p.1) refl
word_again m (words.Answer invoke answer) e h p = rw (answer_again answer h.1 h.2) refl
word_again m (words.Delete dcep scep) e h p = rw (delete_again dcep scep h.0 h.1) refl

pub guess_again : (m : FlowMessage) → IsInRange m → IsProper m.word → guessed (message_of m) ≡ Some m
guess_again m h p = word_again m m.word refl h.word p

code_small : (a : FlowAnswer) → code_of a < 2 ^ 8
code_small (answers.Yes dcep scep) = omega arith
code_small (answers.Denied rule) = omega arith
code_small answers.NotHere = omega arith
code_small (answers.NoIds used) = omega arith

record AreSmall (word : FlowWord) : Type 0 where
  operation : operation_of word < 2 ^ 8
  invoke : invoke_of word < 2 ^ 32
  result : IfThere (result_of word) (2 ^ 8)

word_ranged : (word : FlowWord) → IsWordInRange word → AreSmall word
word_ranged (words.Ask invoke ask) h = record { operation = omega arith; invoke = h.0; result = tt }
word_ranged (words.Answer invoke answer) h = record { operation = omega arith; invoke = h.0; result = code_small answer }
word_ranged (words.Delete dcep scep) h = record { operation = omega arith; invoke = omega arith; result = tt }

pub message_ranged : (m : FlowMessage) → IsInRange m → InRange (message_of m)
unfolding message_of
message_ranged m h = let w = word_ranged m.word h.word in record { operation = w.operation; invoke = w.invoke; instance = tt; result = w.result; destination = h.to; source = h.from }

same_message : (n k : Message) → Gives {X = Message} (Ok n) (Ok k) → n ≡ k
same_message n k e = cc

pub guess_is : (r : Result (Option FlowMessage) Memory) (n : Message) (m : FlowMessage) → IfOk r (λ o. o ≡ guessed n) → Gives {X = Message} (Ok n) (Ok (message_of m)) → IsInRange m → IsProper m.word → IfOk r (λ o. o ≡ Some m)
guess_is (Ok o) n m h same range proper = h ∙ ap guessed (same_message n (message_of m) same) ∙ guess_again m range proper
guess_is (Err e) n m h same range proper = tt

some_same : (m n : FlowMessage) → Some m ≡ Some n → m ≡ n
some_same m n e = cc

pub one_message : (m n : FlowMessage) (bytes : List ℕ) → IsInRange m → IsInRange n → IsProper m.word → IsProper n.word → IsSpelled m bytes → IsSpelled n bytes → m ≡ n
one_message m n bytes hm hn pm pn p q =
    some_same m n (sym (guess_again m hm pm) ∙ ap guessed (cdap.one_message (message_of m) (message_of n) bytes (message_ranged m hm) (message_ranged n hn) p q) ∙ guess_again n hn pn)
