-- What a CDAP message would be as a message about a flow, by its operation, if it were spelled so.
use Rattle.std.specs.Prelude.{ℕ, ◌==◌, nat_lt, List, [], ◌∷◌, length, take, drop, Option, Some, None, option_map, if◌then◌else◌}
use Rattle.std.specs.Int.{w16, from_be_bytes}
use Rattle.std.specs.Result.{result_ok}
use Rattle.rina_base.specs.Names.{app_at}
use Rattle.rina_base.specs.declared.number.FlowName.{FlowName}
use Rattle.rina_cdap.specs.Numbers.{number_at}
use Rattle.rina_cdap.specs.declared.message.Message.{Message}
use Rattle.rina_alloc.specs.declared.answer.FlowAnswer.{FlowAnswer}
use Rattle.rina_alloc.specs.declared.message.FlowAsk.{FlowAsk}
use Rattle.rina_alloc.specs.declared.message.FlowWord.{FlowWord}
use Rattle.rina_alloc.specs.declared.message.FlowWord.TheVariants as words
use Rattle.rina_alloc.specs.declared.message.FlowMessage.{FlowMessage}
use Rattle.rina_alloc.specs.Words.{answer_at}

infixl 10 ◌>>=◌
abbrev ◌>>=◌ : {A B : Type 0} → Option A → (A → Option B) → Option B
None >>= f = None
(Some x) >>= f = f x

abbrev pub flow_name : ℕ → ℕ → ℕ → FlowName
flow_name src tick count = record { src = src; tick = tick; count = count }

-- the name of a flow in front of bytes, and the bytes behind it
unfoldable pub flow_in : List ℕ → Option (FlowName × List ℕ)
flow_in bytes = do
  s ← number_at bytes
  t ← number_at s.1
  c ← number_at t.1
  Some (flow_name s.0 t.0 c.0, c.1)

abbrev pub cube_in : List ℕ → Option (ℕ × List ℕ)
cube_in [] = None
cube_in (cube ∷ rest) = Some (cube, rest)

-- the text behind its length in two bytes in front of bytes, and the bytes behind it
unfoldable pub text_in : List ℕ → Option (List ℕ × List ℕ)
text_in (high ∷ low ∷ after) =
    if nat_lt (length after) (from_be_bytes w16 (high ∷ low ∷ [])) then None
    else Some (take (from_be_bytes w16 (high ∷ low ∷ [])) after, drop (from_be_bytes w16 (high ∷ low ∷ [])) after)
text_in _ = None

-- what an ask has before the names of its applications
pub record FixedPart : Type 0 where
  pub flow : FlowName
  pub cube : ℕ
  pub scep : ℕ

abbrev pub fixed : FlowName → ℕ → ℕ → FixedPart
fixed flow cube scep = record { flow = flow; cube = cube; scep = scep }

unfoldable pub fixed_in : List ℕ → Option (FixedPart × List ℕ)
fixed_in bytes = do
  f ← flow_in bytes
  c ← cube_in f.1
  s ← number_at c.1
  Some (fixed f.0 c.0 s.0, s.1)

abbrev pub ask_of : FixedPart → List ℕ → List ℕ → FlowAsk
ask_of f destination source = record { flow = f.flow; cube = f.cube; scep = f.scep; destination = destination; source = source }

unfoldable pub ask_in : List ℕ → Option FlowAsk
ask_in bytes = do
  f ← fixed_in bytes
  d ← text_in f.1
  s ← text_in d.1
  destination ← result_ok (app_at d.0)
  source ← result_ok (app_at s.0)
  Some (ask_of f.0 destination source)

unfoldable pub answer_in : Option ℕ → List ℕ → Option FlowAnswer
answer_in result bytes = do
  code ← result
  d ← number_at bytes
  n ← number_at d.1
  answer_at code d.0 n.0

unfoldable pub delete_in : List ℕ → Option FlowWord
delete_in bytes = do
  d ← number_at bytes
  s ← number_at d.1
  Some (words.Delete d.0 s.0)

unfoldable pub word_in : Message → List ℕ → Option FlowWord
word_in m bytes =
    if m.operation == 4 then option_map (words.Ask m.invoke) (ask_in bytes)
    else (if m.operation == 5 then option_map (words.Answer m.invoke) (answer_in m.result bytes)
    else (if m.operation == 6 then delete_in bytes
    else None))

abbrev pub message_to : ℕ → ℕ → FlowWord → FlowMessage
message_to to from word = record { to = to; from = from; word = word }

unfoldable pub guessed : Message → Option FlowMessage
guessed m = do
  to ← m.destination_address
  from ← m.source_address
  bytes ← m.value
  word ← word_in m bytes
  Some (message_to to from word)
