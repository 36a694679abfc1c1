-- Which texts, and which messages that wait, are those of one ask.
use Rattle.std.proofs.Common.{◌≡◌, ◌∙◌, ⊎_elim, ℕ, ◌+◌, ◌-◌, ◌^◌, ◌<◌, ◌&&◌, Bool, true, false, List, [], ◌∷◌, ◌++◌, append-nil, bytes_eq, drop, length, slice_index_or, take, refl, sym, ap, subst, arith}
use Rattle.std.specs.Prelude.{codes}
use Rattle.std.proofs.lemmas.Bool.{and_from, cases_Bool, true≢false}
use Rattle.std.proofs.lemmas.List.{append_assoc, drop_at, length-append}
use Rattle.std.proofs.lemmas.Slice.Eq.{bytes_eq-Decides}
use Rattle.rina_cdap.specs.Messages.{Field, be2, be4, contents, field, field_text, text as text_of}
use Rattle.rina_alloc.specs.declared.message.FlowAsk.{FlowAsk}
use Rattle.rina_alloc.specs.declared.message.FlowMessage.{FlowMessage}
use Rattle.rina_alloc.specs.declared.message.FlowWord.{FlowWord}
use Rattle.rina_alloc.specs.declared.message.FlowWord.TheVariants as words
use Rattle.rina_alloc.specs.Messages.{IsSpelled, ask_text, invoke_of, message_of, operation_of}
use Rattle.rina_enrol.specs.declared.message.LinkMessage.{LinkMessage}
use Rattle.rina_enrol.specs.declared.message.LinkMessage.TheVariants as messages
use Rattle.rina_enrol.specs.Messages.{IsSpelled as IsLinkText}
use Rattle.rina_agent.specs.declared.message.ManagementMessage.{ManagementMessage}
use Rattle.rina_agent.specs.declared.message.ManagementMessage.TheVariants.{ToMember, ToNeighbour}
use Rattle.rina_member.specs.Managements.{IsSduOf}
use Rattle.rina_asked.specs.Alone.{one}
use Rattle.rina_asked.specs.Single.{AskId, IsAskId, belongs, belongs_by, is_id, text_belongs, word_belongs}
use Rattle.rina_asked.proofs.Texts.{four_same, to_at}
use Rattle.rina_asked.proofs.Waiting.{IsOther}
use Rattle.rina_asked.proofs.Weights.{class_at, item_class_at, link_operation_at, operation_at}

-- Where its numbers stand

invoke_at : (m : FlowMessage) (text : List ℕ) → IsSpelled m text → take 4 (drop 7 text) ≡ be4 (invoke_of m.word)
unfolding be2 be4 contents field_text message_of
invoke_at m text spelled = ap (λ (bytes : List ℕ). take 4 (drop 7 bytes)) spelled.spelled

-- a text ends with some bytes
abbrev EndsWith : List ℕ → List ℕ → Type 0
EndsWith text end = (front : List ℕ) × (text ≡ front ++ end)

ends_behind : (xs rest end : List ℕ) → EndsWith rest end → EndsWith (xs ++ rest) end
ends_behind xs rest end e = (xs ++ e.0, ap (λ (z : List ℕ). xs ++ z) e.1 ∙ sym (append_assoc xs e.0 end))

field_ends : (f : Field) → EndsWith (field_text f ++ []) f.content
unfolding field_text
field_ends f = (f.tag ∷ be2 (length f.content), append-nil (f.tag ∷ be2 (length f.content) ++ f.content))

last_four : (text end : List ℕ) → length end ≡ 4 → EndsWith text end → drop (length text - 4) text ≡ end
last_four text end four e =
    let long : length text ≡ length e.0 + length end = ap (λ (z : List ℕ). length z) e.1 ∙ length-append e.0 end in
    let at : length text - 4 ≡ length e.0 = omega (arith, long, four) in
    ap (λ (k : ℕ). drop k text) at ∙ ap (drop (length e.0)) e.1 ∙ drop_at e.0 end (length e.0) refl

four_long : (n : ℕ) → length (be4 n) ≡ 4
unfolding be4
four_long n = refl

-- that of some fields with the last one
ends_last : (fs : List Field) (f : Field) → EndsWith (text_of (fs ++ f ∷ [])) f.content
ends_last [] f = field_ends f
ends_last (g ∷ gs) f = ends_behind (field_text g) (text_of (gs ++ f ∷ [])) f.content (ends_last gs f)

-- an ask ends with the address that it comes from
ask_ends : (to from invoke : ℕ) (ask : FlowAsk) (text : List ℕ) → IsSpelled (record { to = to; from = from; word = words.Ask invoke ask }) text → EndsWith text (be4 from)
unfolding contents message_of
ask_ends to from invoke ask text spelled = subst (λ (z : List ℕ). EndsWith z (be4 from)) (sym spelled.spelled)
    (ends_last (field 1 (4 ∷ []) ∷ field 2 (be4 invoke) ∷ field 3 (codes "flow") ∷ field 4 (codes "/flow") ∷ field 6 (ask_text ask) ∷ field 11 (be4 to) ∷ []) (field 12 (be4 from)))

ask_from : (to from invoke : ℕ) (ask : FlowAsk) (text : List ℕ) → IsSpelled (record { to = to; from = from; word = words.Ask invoke ask }) text → drop (length text - 4) text ≡ be4 from
ask_from to from invoke ask text spelled = last_four text (be4 from) (four_long from) (ask_ends to from invoke ask text spelled)

-- A text is one of an ask exactly where its message is

word_text : (k : AskId) (to from : ℕ) (word : FlowWord) (text : List ℕ) → IsSpelled (record { to = to; from = from; word = word }) text → text_belongs k text ≡ word_belongs k to from word
word_text k to from (words.Ask invoke ask) text is =
    let m : FlowMessage = record { to = to; from = from; word = words.Ask invoke ask } in
    (λ i. belongs_by k (operation_at m text is i) (class_at to from invoke ask text is i) (invoke_at m text is i) (ask_from to from invoke ask text is i) (take 4 (drop 37 text)))
word_text k to from (words.Answer invoke answer) text is =
    let m : FlowMessage = record { to = to; from = from; word = words.Answer invoke answer } in
    (λ i. belongs_by k (operation_at m text is i) (slice_index_or text 13 0) (invoke_at m text is i) (drop (length text - 4) text) (to_at to from invoke answer text is i))
word_text k to from (words.Delete dcep scep) text is =
    let m : FlowMessage = record { to = to; from = from; word = words.Delete dcep scep } in
    (λ i. belongs_by k (operation_at m text is i) (slice_index_or text 13 0) (take 4 (drop 7 text)) (drop (length text - 4) text) (take 4 (drop 37 text)))

-- a text of another operation is none
other_operation : (k : AskId) (text : List ℕ) (n : ℕ) → slice_index_or text 3 0 ≡ n → ((class : ℕ) (invoke from to : List ℕ) → belongs_by k n class invoke from to ≡ false) → text_belongs k text ≡ false
other_operation k text n is other =
    ap (λ (o : ℕ). belongs_by k o (slice_index_or text 13 0) (take 4 (drop 7 text)) (drop (length text - 4) text) (take 4 (drop 37 text))) is ∙ other (slice_index_or text 13 0) (take 4 (drop 7 text)) (drop (length text - 4) text) (take 4 (drop 37 text))

link_text : (k : AskId) (m : LinkMessage) (text : List ℕ) → IsLinkText m text → text_belongs k text ≡ false
link_text k (messages.Connect number joiner member) text is = other_operation k text 0 (link_operation_at (messages.Connect number joiner member) text is) (λ class invoke from to. refl)
link_text k (messages.ConnectR number denied) text is = other_operation k text 1 (link_operation_at (messages.ConnectR number denied) text is) (λ class invoke from to. refl)
link_text k (messages.Start number address) text is = other_operation k text 14 (link_operation_at (messages.Start number address) text is) (λ class invoke from to. refl)
link_text k (messages.StartR number) text is = other_operation k text 15 (link_operation_at (messages.StartR number) text is) (λ class invoke from to. refl)
link_text k (messages.Item item) text is = (λ i. belongs_by k (link_operation_at (messages.Item item) text is i) (item_class_at item text is i) (take 4 (drop 7 text)) (drop (length text - 4) text) (take 4 (drop 37 text)))
link_text k (messages.Stop number) text is = other_operation k text 16 (link_operation_at (messages.Stop number) text is) (λ class invoke from to. refl)
link_text k (messages.StopR number) text is = other_operation k text 17 (link_operation_at (messages.StopR number) text is) (λ class invoke from to. refl)
link_text k (messages.Flood item) text is = other_operation k text 12 (link_operation_at (messages.Flood item) text is) (λ class invoke from to. refl)

pub text_same : (k : AskId) (x : ManagementMessage) (text : List ℕ) → IsSduOf x text → text_belongs k text ≡ belongs k x
text_same k (ToNeighbour m) text is = link_text k m text is.spelled
text_same k (ToMember m) text is = word_text k m.to m.from m.word text is

pub text_weighs : (k : AskId) (x : ManagementMessage) (text : List ℕ) → IsSduOf x text → one (text_belongs k text) ≡ one (belongs k x)
text_weighs k x text is = ap one (text_same k x text is)

-- what is neither an ask nor an answer is of none
no_word : (k : AskId) (to from : ℕ) (word : FlowWord) → operation_of word ≡ 6 → one (word_belongs k to from word) ≡ 0
no_word k to from (words.Ask invoke ask) other = absurd (let wrong = other in cc)
no_word k to from (words.Answer invoke answer) other = absurd (let wrong = other in cc)
no_word k to from (words.Delete dcep scep) other = refl

pub other_weighs : (k : AskId) (x : ManagementMessage) → IsOther x → one (belongs k x) ≡ 0
other_weighs k (ToNeighbour m) other = refl
other_weighs k (ToMember m) other = no_word k m.to m.from m.word other

-- Which ask

-- numbers in range are those of an ask exactly where their bytes are
pub id_is : (k : AskId) (invoke addr : ℕ) → IsAskId k → invoke < 2 ^ 32 → addr < 2 ^ 32 → is_id k (be4 invoke) (be4 addr) ≡ true → (addr ≡ k.addr) × (invoke ≡ k.invoke)
id_is k invoke addr is invoke_fits addr_fits same = ⊎_elim
    (λ a.
    (⊎_elim
    (λ b. (four_same addr k.addr addr_fits is.addr ((bytes_eq-Decides (be4 addr) (be4 k.addr)).0 b), four_same invoke k.invoke invoke_fits is.invoke ((bytes_eq-Decides (be4 invoke) (be4 k.invoke)).0 a)))
    (λ b. absurd (true≢false (sym same ∙ ap (λ (t : Bool). bytes_eq (be4 invoke) (be4 k.invoke) && t) b ∙ ap (λ (t : Bool). t && false) a)))
    (cases_Bool (bytes_eq (be4 addr) (be4 k.addr)))))
    (λ a. absurd (true≢false (sym same ∙ ap (λ (t : Bool). t && bytes_eq (be4 addr) (be4 k.addr)) a)))
    (cases_Bool (bytes_eq (be4 invoke) (be4 k.invoke)))

pub is_its_id : (k : AskId) (invoke addr : ℕ) → addr ≡ k.addr → invoke ≡ k.invoke → is_id k (be4 invoke) (be4 addr) ≡ true
is_its_id k invoke addr addr_is invoke_is = and_from (bytes_eq (be4 invoke) (be4 k.invoke)) (bytes_eq (be4 addr) (be4 k.addr)) ((bytes_eq-Decides (be4 invoke) (be4 k.invoke)).1 (ap be4 invoke_is)) ((bytes_eq-Decides (be4 addr) (be4 k.addr)).1 (ap be4 addr_is))
