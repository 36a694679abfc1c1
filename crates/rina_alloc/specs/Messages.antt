-- The messages about flows as CDAP messages, field by field.
use Rattle.std.specs.Prelude.{◌≡◌, ℕ, ◌<◌, ◌^◌, List, ◌∷◌, ◌++◌, length, Option, Some, None, Ok, codes}
use Rattle.rina_base.specs.Names.{app_at}
use Rattle.rina_cdap.specs.Messages.{be2, be4, Spells}
use Rattle.rina_cdap.specs.declared.message.Message.{Message}
use Rattle.rina_alloc.specs.declared.message.FlowAsk.{FlowAsk}
use Rattle.rina_alloc.specs.declared.message.FlowWord.{FlowWord}
use Rattle.rina_alloc.specs.declared.message.FlowWord.TheVariants as words
use Rattle.rina_alloc.specs.declared.message.FlowMessage.{FlowMessage}
use Rattle.rina_alloc.specs.Words.{code_of, dcep_of, number_of}

-- CREATE, CREATE_R, DELETE
abbrev pub operation_of : FlowWord → ℕ
operation_of (words.Ask invoke ask) = 4
operation_of (words.Answer invoke answer) = 5
operation_of (words.Delete dcep scep) = 6

-- a deletion asks for no response
abbrev pub invoke_of : FlowWord → ℕ
invoke_of (words.Ask invoke ask) = invoke
invoke_of (words.Answer invoke answer) = invoke
invoke_of (words.Delete dcep scep) = 0

abbrev pub class_of : FlowWord → Option (List ℕ)
class_of (words.Ask invoke ask) = Some (codes "flow")
class_of word = None

-- the name of an application behind its length in two bytes
unfoldable pub app_text : List ℕ → List ℕ
app_text app = be2 (length app) ++ app

-- the source, the tick and the count of the flow's name, the cube in one byte, the asker's CEP-id, and the applications that is asked for and that asks
unfoldable pub ask_text : FlowAsk → List ℕ
ask_text ask = be4 ask.flow.src ++ (be4 ask.flow.tick ++ (be4 ask.flow.count ++ (ask.cube ∷ be4 ask.scep ++ (app_text ask.destination ++ app_text ask.source))))

-- an ask; the far end's CEP-id and the number of an answer; the CEP-ids at the receiver and at the sender
abbrev pub value_of : FlowWord → List ℕ
value_of (words.Ask invoke ask) = ask_text ask
value_of (words.Answer invoke answer) = be4 (dcep_of answer) ++ be4 (number_of answer)
value_of (words.Delete dcep scep) = be4 dcep ++ be4 scep

abbrev pub result_of : FlowWord → Option ℕ
result_of (words.Answer invoke answer) = Some (code_of answer)
result_of word = None

-- the CDAP message that a message about a flow is
unfoldable pub message_of : FlowMessage → Message
message_of m = record {
  operation = operation_of m.word;
  invoke = invoke_of m.word;
  class = class_of m.word;
  name = Some (codes "/flow");
  instance = None;
  value = Some (value_of m.word);
  result = result_of m.word;
  reason = None;
  source_name = None;
  destination_name = None;
  destination_address = Some m.to;
  source_address = Some m.from;
}

-- the bytes are this message's
abbrev pub IsSpelled : FlowMessage → List ℕ → Type 0
IsSpelled m bytes = Spells (message_of m) bytes

-- the names of an ask are names of applications
abbrev pub IsProper : FlowWord → Type 0
IsProper (words.Ask invoke ask) = (app_at ask.destination ≡ Ok ask.destination) × (app_at ask.source ≡ Ok ask.source)
IsProper word = Unit {0}

pub record IsAskInRange (ask : FlowAsk) : Type 0 where
  pub src : ask.flow.src < 2 ^ 32
  pub tick : ask.flow.tick < 2 ^ 32
  pub count : ask.flow.count < 2 ^ 32
  pub cube : ask.cube < 2 ^ 8
  pub scep : ask.scep < 2 ^ 32

abbrev pub IsWordInRange : FlowWord → Type 0
IsWordInRange (words.Ask invoke ask) = (invoke < 2 ^ 32) × IsAskInRange ask
IsWordInRange (words.Answer invoke answer) = (invoke < 2 ^ 32) × (dcep_of answer < 2 ^ 32) × (number_of answer < 2 ^ 32)
IsWordInRange (words.Delete dcep scep) = (dcep < 2 ^ 32) × (scep < 2 ^ 32)

-- the numbers of a message are those of its type
pub record IsInRange (m : FlowMessage) : Type 0 where
  pub to : m.to < 2 ^ 32
  pub from : m.from < 2 ^ 32
  pub word : IsWordInRange m.word
