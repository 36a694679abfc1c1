-- The bytes of a message of a neighbour, and those of a message about a flow.
use Rattle.std.proofs.Common.{◌≡◌, ◌∙◌, ℕ, List, Some, slice_get, sym, ap, arith}
use Rattle.std.proofs.lemmas.Option.{same_Some}
use Rattle.rina_cdap.specs.Messages.{be2, be4, contents, field_text}
use Rattle.rina_alloc.specs.declared.message.FlowAsk.{FlowAsk}
use Rattle.rina_alloc.specs.declared.message.FlowMessage.{FlowMessage}
use Rattle.rina_alloc.specs.declared.message.FlowWord.{FlowWord}
use Rattle.rina_alloc.specs.declared.message.FlowWord.TheVariants as words
use Rattle.rina_alloc.specs.Messages.{IsSpelled as IsFlowText, message_of as flow_message_of, operation_of as flow_operation_of}
use Rattle.rina_newest.specs.declared.item.Item.{Item}
use Rattle.rina_enrol.specs.declared.message.LinkMessage.{LinkMessage}
use Rattle.rina_enrol.specs.declared.message.LinkMessage.TheVariants as messages
use Rattle.rina_enrol.specs.Messages.{IsSpelled, message_of, operation_of}
use Rattle.rina_member.specs.Managements.{IsSdu}

-- the fourth byte is the operation
operation_at : (message : LinkMessage) (sdu : List ℕ) → IsSpelled message sdu → slice_get sdu 3 ≡ Some (operation_of message)
unfolding be2 contents field_text message_of
operation_at message sdu spelled = ap (λ (bytes : List ℕ). slice_get bytes 3) spelled.spelled

flow_operation_at : (flow : FlowMessage) (sdu : List ℕ) → IsFlowText flow sdu → slice_get sdu 3 ≡ Some (flow_operation_of flow.word)
unfolding be2 contents field_text flow_message_of
flow_operation_at flow sdu spelled = ap (λ (bytes : List ℕ). slice_get bytes 3) spelled.spelled

-- the fourteenth is the length of the class: an item is a value, and an ask is of a flow
item_class : (item : Item) (sdu : List ℕ) → IsSpelled (messages.Item item) sdu → slice_get sdu 13 ≡ Some 5
unfolding be2 be4 contents field_text message_of
item_class item sdu spelled = ap (λ (bytes : List ℕ). slice_get bytes 13) spelled.spelled

ask_class : (to from invoke : ℕ) (ask : FlowAsk) (sdu : List ℕ) → IsFlowText (record { to = to; from = from; word = words.Ask invoke ask }) sdu → slice_get sdu 13 ≡ Some 4
unfolding be2 be4 contents field_text flow_message_of
ask_class to from invoke ask sdu spelled = ap (λ (bytes : List ℕ). slice_get bytes 13) spelled.spelled

-- of the operations of both, an item and an ask have one alone
classes_apart : (sdu : List ℕ) (message : LinkMessage) (to from invoke : ℕ) (ask : FlowAsk) → IsSpelled message sdu → IsFlowText (record { to = to; from = from; word = words.Ask invoke ask }) sdu → operation_of message ≡ 4 → ⊥
classes_apart sdu (messages.Connect number joiner member) to from invoke ask is text same = cc
classes_apart sdu (messages.ConnectR number denied) to from invoke ask is text same = cc
classes_apart sdu (messages.Start number address) to from invoke ask is text same = cc
classes_apart sdu (messages.StartR number) to from invoke ask is text same = cc
classes_apart sdu (messages.Item item) to from invoke ask is text same = (let lengths : ◌≡◌ {A = ℕ} 5 4 = same_Some 5 4 (sym (item_class item sdu is) ∙ ask_class to from invoke ask sdu text) in omega (arith, lengths))
classes_apart sdu (messages.Stop number) to from invoke ask is text same = cc
classes_apart sdu (messages.StopR number) to from invoke ask is text same = cc
classes_apart sdu (messages.Flood item) to from invoke ask is text same = cc

-- no message of a neighbour has this operation
abbrev IsNoOperation : ℕ → Type 0
IsNoOperation operation = (message : LinkMessage) → operation_of message ≡ operation → ⊥

no_answer : IsNoOperation 5
no_answer (messages.Connect number joiner member) same = cc
no_answer (messages.ConnectR number denied) same = cc
no_answer (messages.Start number address) same = cc
no_answer (messages.StartR number) same = cc
no_answer (messages.Item item) same = cc
no_answer (messages.Stop number) same = cc
no_answer (messages.StopR number) same = cc
no_answer (messages.Flood item) same = cc

no_delete : IsNoOperation 6
no_delete (messages.Connect number joiner member) same = cc
no_delete (messages.ConnectR number denied) same = cc
no_delete (messages.Start number address) same = cc
no_delete (messages.StartR number) same = cc
no_delete (messages.Item item) same = cc
no_delete (messages.Stop number) same = cc
no_delete (messages.StopR number) same = cc
no_delete (messages.Flood item) same = cc

words_apart : (sdu : List ℕ) (message : LinkMessage) (to from : ℕ) (word : FlowWord) → IsSpelled message sdu → IsFlowText (record { to = to; from = from; word = word }) sdu → operation_of message ≡ flow_operation_of word → ⊥
words_apart sdu message to from (words.Ask invoke ask) is text same = classes_apart sdu message to from invoke ask is text same
words_apart sdu message to from (words.Answer invoke answer) is text same = no_answer message same
words_apart sdu message to from (words.Delete dcep scep) is text same = no_delete message same

-- no bytes are those of both
pub texts_apart : (sdu : List ℕ) (message : LinkMessage) (flow : FlowMessage) → IsSdu message sdu → IsFlowText flow sdu → ⊥
texts_apart sdu message flow is text = words_apart sdu message flow.to flow.from flow.word is.spelled text (same_Some (operation_of message) (flow_operation_of flow.word) (sym (operation_at message sdu is.spelled) ∙ flow_operation_at flow sdu text))
