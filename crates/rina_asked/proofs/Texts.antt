-- The texts of messages about flows: which are those of asks, and of which.
use Rattle.std.proofs.Common.{◌<◌, ◌^◌, drop, take, subst, ◌≡◌, ◌∙◌, ℕ, List, Some, slice_get, sym, ap}
use Rattle.std.specs.Int.{from_be_bytes, w32}
use Rattle.std.proofs.lemmas.Nat.{from_be_bytes-to_be_bytes_4}
use Rattle.std.proofs.lemmas.Option.{same_Some}
use Rattle.rina_cdap.specs.Messages.{be2, be4, contents, field_text}
use Rattle.rina_alloc.specs.declared.answer.FlowAnswer.{FlowAnswer}
use Rattle.rina_alloc.specs.declared.answer.FlowAnswer.TheVariants as answers
use Rattle.rina_alloc.specs.declared.message.FlowAsk.{FlowAsk}
use Rattle.rina_alloc.specs.declared.message.FlowMessage.{FlowMessage}
use Rattle.rina_alloc.specs.declared.message.FlowWord.{FlowWord}
use Rattle.rina_alloc.specs.declared.message.FlowWord.TheVariants as words
use Rattle.rina_alloc.specs.Messages.{IsSpelled, ask_text, message_of, operation_of}
use Rattle.rina_alloc.specs.Words.{code_of, dcep_of}
use Rattle.rina_agent.specs.declared.message.ManagementMessage.{ManagementMessage}
use Rattle.rina_agent.specs.declared.message.ManagementMessage.TheVariants.{ToMember, ToNeighbour}
use Rattle.rina_member.specs.Managements.{IsSduOf}
use Rattle.rina_member.proofs.TextsApart.{texts_apart}
use Rattle.rina_dif.specs.declared.dif.Dif.{Dif}
use Rattle.rina_dif.specs.FlowMessages.{IsTextOf}
use Rattle.rina_asked.specs.Ends.{HasEnd, IsFarEnd}
use Rattle.rina_asked.proofs.Waiting.{IsOther}

-- the fourth byte is the operation
operation_at : (m : FlowMessage) (text : List ℕ) → IsSpelled m text → slice_get text 3 ≡ Some (operation_of m.word)
unfolding be2 contents field_text message_of
operation_at m text spelled = ap (λ (bytes : List ℕ). slice_get bytes 3) spelled.spelled

-- and the forty-second of an ask its cube
cube_at : (to from invoke : ℕ) (ask : FlowAsk) (text : List ℕ) → IsSpelled (record { to = to; from = from; word = words.Ask invoke ask }) text → slice_get text 41 ≡ Some ask.cube
unfolding be2 be4 contents field_text message_of ask_text
cube_at to from invoke ask text spelled = ap (λ (bytes : List ℕ). slice_get bytes 41) spelled.spelled

-- a text that two messages are spelled as has one operation
pub same_operation : (m n : FlowMessage) (text : List ℕ) → IsSpelled m text → IsSpelled n text → operation_of m.word ≡ operation_of n.word
same_operation m n text is other = same_Some (operation_of m.word) (operation_of n.word) (sym (operation_at m text is) ∙ operation_at n text other)

pub same_cube : (to from invoke to' from' invoke' : ℕ) (ask ask' : FlowAsk) (text : List ℕ) → IsSpelled (record { to = to; from = from; word = words.Ask invoke ask }) text → IsSpelled (record { to = to'; from = from'; word = words.Ask invoke' ask' }) text → ask.cube ≡ ask'.cube
same_cube to from invoke to' from' invoke' ask ask' text is other = same_Some ask.cube ask'.cube (sym (cube_at to from invoke ask text is) ∙ cube_at to' from' invoke' ask' text other)

-- one message has one text
pub one_text : (m : FlowMessage) (a b : List ℕ) → IsSpelled m a → IsSpelled m b → a ≡ b
one_text m a b is other = is.spelled ∙ sym other.spelled

-- in an answer the byte behind the value is its result, and its numbers have their places
code_at : (to from invoke : ℕ) (answer : FlowAnswer) (text : List ℕ) → IsSpelled (record { to = to; from = from; word = words.Answer invoke answer }) text → slice_get text 33 ≡ Some (code_of answer)
unfolding be2 be4 contents field_text message_of
code_at to from invoke answer text spelled = ap (λ (bytes : List ℕ). slice_get bytes 33) spelled.spelled

pub same_code : (to from invoke to' from' invoke' : ℕ) (a b : FlowAnswer) (text : List ℕ) → IsSpelled (record { to = to; from = from; word = words.Answer invoke a }) text → IsSpelled (record { to = to'; from = from'; word = words.Answer invoke' b }) text → code_of a ≡ code_of b
same_code to from invoke to' from' invoke' a b text is other = same_Some (code_of a) (code_of b) (sym (code_at to from invoke a text is) ∙ code_at to' from' invoke' b text other)

cep_at : (to from invoke : ℕ) (answer : FlowAnswer) (text : List ℕ) → IsSpelled (record { to = to; from = from; word = words.Answer invoke answer }) text → take 4 (drop 22 text) ≡ be4 (dcep_of answer)
unfolding be2 be4 contents field_text message_of
cep_at to from invoke answer text spelled = ap (λ (bytes : List ℕ). take 4 (drop 22 bytes)) spelled.spelled

pub to_at : (to from invoke : ℕ) (answer : FlowAnswer) (text : List ℕ) → IsSpelled (record { to = to; from = from; word = words.Answer invoke answer }) text → take 4 (drop 37 text) ≡ be4 to
unfolding be2 be4 contents field_text message_of
to_at to from invoke answer text spelled = ap (λ (bytes : List ℕ). take 4 (drop 37 bytes)) spelled.spelled

from_at : (to from invoke : ℕ) (answer : FlowAnswer) (text : List ℕ) → IsSpelled (record { to = to; from = from; word = words.Answer invoke answer }) text → take 4 (drop 44 text) ≡ be4 from
unfolding be2 be4 contents field_text message_of
from_at to from invoke answer text spelled = ap (λ (bytes : List ℕ). take 4 (drop 44 bytes)) spelled.spelled

pub four_same : (m n : ℕ) → m < 2 ^ 32 → n < 2 ^ 32 → be4 m ≡ be4 n → m ≡ n
unfolding be4
four_same m n fits its same = sym (from_be_bytes-to_be_bytes_4 m fits) ∙ ap (from_be_bytes w32) same ∙ from_be_bytes-to_be_bytes_4 n its

-- What they tell of

-- the end that each message tells of which a text is spelled as stands
abbrev pub IsAskedText : Dif → List ℕ → Type 0
IsAskedText d text = (m : FlowMessage) → IsTextOf m text → HasEnd d m.to m.from m.word

no_end : (d : Dif) (own from : ℕ) (word : FlowWord) → operation_of word ≡ 6 → HasEnd d own from word
no_end d own from (words.Ask invoke ask) other = absurd (let wrong = other in cc)
no_end d own from (words.Answer invoke answer) other = absurd (let wrong = other in cc)
no_end d own from (words.Delete dcep scep) other = tt

pub other_asked : (d : Dif) (x : ManagementMessage) (text : List ℕ) → IsOther x → IsSduOf x text → IsAskedText d text
other_asked d (ToNeighbour word) text other sdu m is = absurd (texts_apart text word m sdu is.spelled)
other_asked d (ToMember n) text other sdu m is = no_end d m.to m.from m.word (sym (same_operation n m text sdu is.spelled) ∙ other)

-- whatever text a message has, that is asked
abbrev pub IsAskedFlow : Dif → FlowMessage → Type 0
IsAskedFlow d message = (text : List ℕ) → IsSpelled message text → IsAskedText d text

-- a refusal tells of none
pub refusal_asked : (d : Dif) (to from invoke : ℕ) (answer : FlowAnswer) → (code_of answer ≡ 0 → ⊥) → IsAskedFlow d (record { to = to; from = from; word = words.Answer invoke answer })
refusal_asked d to from invoke answer refuses text spelled m of = by_word m.to m.from m.word of.spelled
  where
    by_word : (to' from' : ℕ) (word : FlowWord) → IsSpelled (record { to = to'; from = from'; word = word }) text → HasEnd d to' from' word
    by_word to' from' (words.Ask number ask) is = absurd (let wrong = same_operation (record { to = to; from = from; word = words.Answer invoke answer }) (record { to = to'; from = from'; word = words.Ask number ask }) text spelled is in cc)
    by_word to' from' (words.Answer number (answers.Yes cep scep)) is = absurd (refuses (same_code to from invoke to' from' number answer (answers.Yes cep scep) text spelled is))
    by_word to' from' (words.Answer number (answers.Denied rule)) is = tt
    by_word to' from' (words.Answer number answers.NotHere) is = tt
    by_word to' from' (words.Answer number (answers.NoIds used)) is = tt
    by_word to' from' (words.Delete dcep scep) is = tt

-- a yes tells of its far end
pub yes_asked : (d : Dif) (place to from invoke cep scep : ℕ) → to < 2 ^ 32 → from < 2 ^ 32 → cep < 2 ^ 32 → IsFarEnd d place to from cep → IsAskedFlow d (record { to = to; from = from; word = words.Answer invoke (answers.Yes cep scep) })
yes_asked d place to from invoke cep scep to_fits from_fits cep_fits far text spelled m of = by_word m.to m.from m.word of
  where
    by_word : (to' from' : ℕ) (word : FlowWord) → IsTextOf (record { to = to'; from = from'; word = word }) text → HasEnd d to' from' word
    by_word to' from' (words.Ask number ask) is = absurd (let wrong = same_operation (record { to = to; from = from; word = words.Answer invoke (answers.Yes cep scep) }) (record { to = to'; from = from'; word = words.Ask number ask }) text spelled is.spelled in cc)
    by_word to' from' (words.Answer number (answers.Yes its other)) is =
        let same_to : to ≡ to' = four_same to to' to_fits is.in_range.to (sym (to_at to from invoke (answers.Yes cep scep) text spelled) ∙ to_at to' from' number (answers.Yes its other) text is.spelled) in
        let same_from : from ≡ from' = four_same from from' from_fits is.in_range.from (sym (from_at to from invoke (answers.Yes cep scep) text spelled) ∙ from_at to' from' number (answers.Yes its other) text is.spelled) in
        let same_cep : cep ≡ its = four_same cep its cep_fits is.in_range.word.1 (sym (cep_at to from invoke (answers.Yes cep scep) text spelled) ∙ cep_at to' from' number (answers.Yes its other) text is.spelled) in
        (place, subst (λ (x : ℕ). IsFarEnd d place x from' its) same_to (subst (λ (x : ℕ). IsFarEnd d place to x its) same_from (subst (λ (x : ℕ). IsFarEnd d place to from x) same_cep far)))
    by_word to' from' (words.Answer number (answers.Denied rule)) is = tt
    by_word to' from' (words.Answer number answers.NotHere) is = tt
    by_word to' from' (words.Answer number (answers.NoIds used)) is = tt
    by_word to' from' (words.Delete dcep scep) is = tt
