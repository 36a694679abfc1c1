-- Which texts, and which messages that wait, are asks for one flow.
use Rattle.std.proofs.Common.{◌≡◌, ◌∙◌, ℕ, ◌==◌, ◌&&◌, Bool, false, List, bytes_eq, drop, slice_index_or, take, refl, sym, ap}
use Rattle.rina_base.specs.declared.number.FlowName.{FlowName}
use Rattle.rina_cdap.specs.Messages.{be2, be4, contents, field_text}
use Rattle.rina_alloc.specs.declared.message.FlowAsk.{FlowAsk}
use Rattle.rina_alloc.specs.declared.message.FlowMessage.{FlowMessage}
use Rattle.rina_alloc.specs.declared.message.FlowWord.{FlowWord}
use Rattle.rina_alloc.specs.declared.message.FlowWord.TheVariants as words
use Rattle.rina_alloc.specs.Messages.{IsSpelled, ask_text, message_of, operation_of}
use Rattle.rina_newest.specs.declared.item.Item.{Item}
use Rattle.rina_enrol.specs.declared.message.LinkMessage.{LinkMessage}
use Rattle.rina_enrol.specs.declared.message.LinkMessage.TheVariants as messages
use Rattle.rina_enrol.specs.Messages.{IsSpelled as IsLinkText, message_of as link_message_of, operation_of as link_operation_of}
use Rattle.rina_agent.specs.declared.message.ManagementMessage.{ManagementMessage}
use Rattle.rina_agent.specs.declared.message.ManagementMessage.TheVariants.{ToMember, ToNeighbour}
use Rattle.rina_member.specs.Managements.{IsSduOf}
use Rattle.rina_asked.specs.Alone.{asks, name_text, one, text_asks, word_asks}
use Rattle.rina_asked.proofs.Waiting.{IsOther}

-- by the operation, the length of the class, and the name
abbrev asks_by : FlowName → ℕ → ℕ → List ℕ → Bool
asks_by f operation class name = (operation == 4) && ((class == 4) && bytes_eq name (name_text f))

pub operation_at : (m : FlowMessage) (text : List ℕ) → IsSpelled m text → slice_index_or text 3 0 ≡ operation_of m.word
unfolding be2 contents field_text message_of
operation_at m text spelled = ap (λ (bytes : List ℕ). slice_index_or bytes 3 0) spelled.spelled

pub class_at : (to from invoke : ℕ) (ask : FlowAsk) (text : List ℕ) → IsSpelled (record { to = to; from = from; word = words.Ask invoke ask }) text → slice_index_or text 13 0 ≡ 4
unfolding be2 be4 contents field_text message_of
class_at to from invoke ask text spelled = ap (λ (bytes : List ℕ). slice_index_or bytes 13 0) spelled.spelled

name_at : (to from invoke : ℕ) (ask : FlowAsk) (text : List ℕ) → IsSpelled (record { to = to; from = from; word = words.Ask invoke ask }) text → take 12 (drop 29 text) ≡ name_text ask.flow
unfolding be2 be4 contents field_text message_of ask_text
name_at to from invoke ask text spelled = ap (λ (bytes : List ℕ). take 12 (drop 29 bytes)) spelled.spelled

pub link_operation_at : (m : LinkMessage) (text : List ℕ) → IsLinkText m text → slice_index_or text 3 0 ≡ link_operation_of m
unfolding be2 contents field_text link_message_of
link_operation_at m text spelled = ap (λ (bytes : List ℕ). slice_index_or bytes 3 0) spelled.spelled

pub item_class_at : (item : Item) (text : List ℕ) → IsLinkText (messages.Item item) text → slice_index_or text 13 0 ≡ 5
unfolding be2 be4 contents field_text link_message_of
item_class_at item text spelled = ap (λ (bytes : List ℕ). slice_index_or bytes 13 0) spelled.spelled

-- a text of another operation is none
other_operation : (f : FlowName) (text : List ℕ) (n : ℕ) → slice_index_or text 3 0 ≡ n → (n == 4) ≡ false → text_asks f text ≡ false
other_operation f text n is other = ap (λ (k : ℕ). asks_by f k (slice_index_or text 13 0) (take 12 (drop 29 text))) is ∙ ap (λ (b : Bool). b && ((slice_index_or text 13 0 == 4) && bytes_eq (take 12 (drop 29 text)) (name_text f))) other

link_text : (f : FlowName) (m : LinkMessage) (text : List ℕ) → IsLinkText m text → text_asks f text ≡ false
link_text f (messages.Connect number joiner member) text is = other_operation f text _ (link_operation_at (messages.Connect number joiner member) text is) refl
link_text f (messages.ConnectR number denied) text is = other_operation f text _ (link_operation_at (messages.ConnectR number denied) text is) refl
link_text f (messages.Start number address) text is = other_operation f text _ (link_operation_at (messages.Start number address) text is) refl
link_text f (messages.StartR number) text is = other_operation f text _ (link_operation_at (messages.StartR number) text is) refl
link_text f (messages.Item item) text is = (λ i. asks_by f (link_operation_at (messages.Item item) text is i) (item_class_at item text is i) (take 12 (drop 29 text)))
link_text f (messages.Stop number) text is = other_operation f text _ (link_operation_at (messages.Stop number) text is) refl
link_text f (messages.StopR number) text is = other_operation f text _ (link_operation_at (messages.StopR number) text is) refl
link_text f (messages.Flood item) text is = other_operation f text _ (link_operation_at (messages.Flood item) text is) refl

word_text : (f : FlowName) (to from : ℕ) (word : FlowWord) (text : List ℕ) → IsSpelled (record { to = to; from = from; word = word }) text → text_asks f text ≡ word_asks f word
word_text f to from (words.Ask invoke ask) text is =
    (λ i. asks_by f (operation_at (record { to = to; from = from; word = words.Ask invoke ask }) text is i) (class_at to from invoke ask text is i) (name_at to from invoke ask text is i))
word_text f to from (words.Answer invoke answer) text is = other_operation f text 5 (operation_at (record { to = to; from = from; word = words.Answer invoke answer }) text is) refl
word_text f to from (words.Delete dcep scep) text is = other_operation f text 6 (operation_at (record { to = to; from = from; word = words.Delete dcep scep }) text is) refl

pub flow_text : (f : FlowName) (m : FlowMessage) (text : List ℕ) → IsSpelled m text → text_asks f text ≡ word_asks f m.word
flow_text f m text is = word_text f m.to m.from m.word text is

-- a text is one exactly where its message is
pub text_same : (f : FlowName) (x : ManagementMessage) (text : List ℕ) → IsSduOf x text → text_asks f text ≡ asks f x
text_same f (ToNeighbour m) text is = link_text f m text is.spelled
text_same f (ToMember m) text is = flow_text f m text is

pub text_weighs : (f : FlowName) (x : ManagementMessage) (text : List ℕ) → IsSduOf x text → one (text_asks f text) ≡ one (asks f x)
text_weighs f x text is = ap one (text_same f x text is)

-- what is no ask at all is none
pub no_word : (f : FlowName) (word : FlowWord) → (operation_of word ≡ 4 → ⊥) → one (word_asks f word) ≡ 0
no_word f (words.Ask invoke ask) other = absurd (other refl)
no_word f (words.Answer invoke answer) other = refl
no_word f (words.Delete dcep scep) other = refl

six_four : ◌≡◌ {A = ℕ} 6 4 → ⊥
six_four e = absurd cc

pub other_weighs : (f : FlowName) (x : ManagementMessage) → IsOther x → one (asks f x) ≡ 0
other_weighs f (ToNeighbour m) other = refl
other_weighs f (ToMember m) other = no_word f m.word (λ ask. six_four (sym other ∙ ask))
