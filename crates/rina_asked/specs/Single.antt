-- Of each ask that a member of a DIF made one message at most is on its way: the ask, or the answer to it.
use Rattle.std.specs.Prelude.{ℕ, ◌+◌, ◌-◌, ◌^◌, ◌<◌, ◌≤◌, ◌==◌, ◌&&◌, nat_le, if◌then◌else◌, Bool, false, List, bytes_eq, drop, length, slice_index_or, sum_by, take}
use Rattle.rina_cdap.specs.Messages.{be4}
use Rattle.rina_agent.specs.declared.message.ManagementMessage.{ManagementMessage}
use Rattle.rina_agent.specs.declared.message.ManagementMessage.TheVariants.{ToMember, ToNeighbour}
use Rattle.rina_alloc.specs.declared.message.FlowWord.{FlowWord}
use Rattle.rina_alloc.specs.declared.message.FlowWord.TheVariants as words
use Rattle.rina_member.specs.declared.management.Management.{Management}
use Rattle.rina_dif.specs.declared.dif.Dif.{Dif}
use Rattle.rina_asked.specs.Alone.{all_on_links, all_waiting, one}

-- an ask is told by the address of the member that made it, and by the invoke id that this drew for it
pub record AskId : Type 0 where
  pub addr : ℕ
  pub invoke : ℕ

-- its numbers are those of its type
pub record IsAskId (k : AskId) : Type 0 where
  pub addr : k.addr < 2 ^ 32
  pub invoke : k.invoke < 2 ^ 32

-- The messages of an ask

-- the numbers of a message are those of an ask, in its bytes
abbrev pub is_id : AskId → List ℕ → List ℕ → Bool
is_id k invoke addr = bytes_eq invoke (be4 k.invoke) && bytes_eq addr (be4 k.addr)

-- it is the ask, which comes from the member that made it, or the answer, which goes to this member
abbrev pub word_belongs : AskId → (to from : ℕ) → FlowWord → Bool
word_belongs k to from (words.Ask invoke ask) = is_id k (be4 invoke) (be4 from)
word_belongs k to from (words.Answer invoke answer) = is_id k (be4 invoke) (be4 to)
word_belongs k to from (words.Delete dcep scep) = false

abbrev pub belongs : AskId → ManagementMessage → Bool
belongs k (ToMember m) = word_belongs k m.to m.from m.word
belongs k (ToNeighbour m) = false

-- a text is that of one: it says CREATE, and its class has four bytes, or it says CREATE_R
abbrev pub belongs_by : AskId → (operation class : ℕ) → (invoke from to : List ℕ) → Bool
belongs_by k operation class invoke from to = if operation == 4 then (class == 4) && is_id k invoke from else ((operation == 5) && is_id k invoke to)

-- the invoke id stands behind the operation, the address that an ask comes from at the end, and the one that an answer goes to behind its result
abbrev pub text_belongs : AskId → List ℕ → Bool
text_belongs k text = belongs_by k (slice_index_or text 3 0) (slice_index_or text 13 0) (take 4 (drop 7 text)) (drop (length text - 4) text) (take 4 (drop 37 text))

-- The members that drew its invoke id

abbrev pub has_drawn : AskId → Management → Bool
has_drawn k m = (m.agent.address == k.addr) && nat_le k.invoke m.agent.last_invoke

abbrev pub drawn_by : AskId → List Management → ℕ
drawn_by k ms = sum_by (λ (m : Management). one (has_drawn k m)) ms

-- the messages of an ask are no more than the members that drew its invoke id, of which there is one at most
abbrev pub AreSingle : Dif → Type 0
AreSingle d = (k : AskId) (links : ℕ) → IsAskId k → all_waiting (λ x. one (belongs k x)) d.managements + all_on_links (λ t. one (text_belongs k t)) d links ≤ drawn_by k d.managements
