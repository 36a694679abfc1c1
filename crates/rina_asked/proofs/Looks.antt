-- The look of a member finds the asker's end of each ask that an SDU brought.
use Rattle.std.proofs.Common.{◌≡◌, ◌∙◌, inl, inr, ℕ, zero, ◌<◌, List, [], ◌∷◌, length, Result, Ok, sym, ap, subst, arith}
use Rattle.std.proofs.lemmas.List.Sums.{sum_by-cons}
use Rattle.rina_base.specs.declared.memory.Memory.{Memory}
use Rattle.rina_base.specs.declared.number.FlowName.{FlowName}
use Rattle.rina_alloc.specs.declared.message.FlowAsk.{FlowAsk}
use Rattle.rina_alloc.specs.declared.message.FlowMessage.{FlowMessage}
use Rattle.rina_alloc.specs.declared.message.FlowWord.{FlowWord}
use Rattle.rina_alloc.specs.declared.message.FlowWord.TheVariants as words
use Rattle.rina_alloc.specs.Messages.{IsInRange}
use Rattle.rina_iface.specs.Seen.{Seen}
use Rattle.rina_law.specs.Direction.{Direction}
use Rattle.rina_dif.specs.declared.dif.Dif.{Dif}
use Rattle.rina_dif.specs.FarMaking.{HasFar}
use Rattle.rina_dif.specs.FlowMessages.{HandlesFlows, IsTextOf}
use Rattle.rina_dif.specs.Holding.{Holds}
use Rattle.rina_asked.specs.Alone.{IsName, one, word_asks}
use Rattle.rina_asked.specs.Ends.{HasEnd}
use Rattle.rina_asked.specs.Finding.{Finds, InFinds, InTurn}
use Rattle.rina_asked.specs.Messages.{IsMessage}
use Rattle.rina_asked.proofs.Flows.{AllAsked, AllOf, all_on, all_so, flow_askers}
use Rattle.rina_asked.proofs.Found.{far_counts, one_asker}
use Rattle.rina_asked.proofs.Ins.{as_many, by_answer, handled_askers, handled_ends}
use Rattle.rina_asked.proofs.Names.{same_bytes}
use Rattle.rina_asked.proofs.Keeps.{asked_flow}
use Rattle.rina_asked.proofs.Texts.{IsAskedFlow}
use Rattle.rina_asked.proofs.Walk.{AloneWith, alone_with, flow_alone}

-- while it is in hand the flow of an ask has no far end
no_far : (d : Dif) (lines : List Direction) (below : Seen) → Holds d lines below → (m : FlowMessage) (ms : List FlowMessage) (invoke : ℕ) (ask : FlowAsk) (text : List ℕ) → AloneWith d (m ∷ ms) → m.word ≡ words.Ask invoke ask → IsTextOf m text → HasFar d.flows.journal.ends ask.flow → ⊥
no_far d lines below h m ms invoke ask text alone word is far =
    let f : FlowName = ask.flow in
    let range = subst (λ (w : FlowWord). IsInRange (record { to = m.to; from = m.from; word = w })) word is.in_range in
    let name : IsName f = record { src = range.word.1.src; tick = range.word.1.tick; count = range.word.1.count } in
    let before = alone f zero name in
    let hand = sum_by-cons (λ (x : FlowMessage). one (word_asks f x.word)) m ms in
    let here : one (word_asks f m.word) ≡ 1 = ap one (ap (word_asks f) word ∙ same_bytes f) in
    let asker = one_asker f d.flows.journal.ends h.standing.journal.distinct in
    let fars = far_counts f d.flows.journal.ends far in
    omega (arith, before, hand, here, asker, fars)

-- it is that of a text
abbrev IsRead : FlowMessage → Type 0
IsRead m = (text : List ℕ) × IsTextOf m text

finds : (d : Dif) (lines : List Direction) (below : Seen) → Holds d lines below → (m : FlowMessage) (ms : List FlowMessage) → IsAskedFlow d m → IsRead m → AloneWith d (m ∷ ms) → Finds d m
finds d lines below h m ms asked read alone invoke ask word =
    let text : List ℕ = read.0 in
    let is = read.1 in
    let has : HasEnd d m.to m.from (words.Ask invoke ask) = subst (HasEnd d m.to m.from) word (asked text is.spelled m is) in
    (has.0, record { end = has.1.end; conn = has.1.conn; is_at = has.1.is_at; asks = has.1.asks; leads = has.1.leads; alone = no_far d lines below h m ms invoke ask text alone word is })

all_find : (d : Dif) (lines : List Direction) (below : Seen) → Holds d lines below → (i : ℕ) (ms : List FlowMessage) (result : Result (Unit {0}) Memory) (d' : Dif) (lines' : List Direction) (h : HandlesFlows d lines below i ms result d' lines') → i < length d.settings.members → AllAsked d ms → AllOf IsRead ms → AloneWith d ms → InTurn Finds d lines below i ms result d' lines' h
all_find d lines below holds i [] result d' lines' h lt all reads alone = tt
all_find d lines below holds i (m ∷ ms) result d' lines' (inl stops) lt all reads alone = finds d lines below holds m ms all.0 reads.0 alone
all_find d lines below holds i (m ∷ ms) result d' lines' (inr h) lt all reads alone =
    let mid = h.0 in
    let settings : length mid.settings.members ≡ length d.settings.members = ap (λ (z : Dif). length z.settings.members) h.2.rest in
    let within : i < length mid.settings.members = subst (λ (n : ℕ). i < n) (sym settings) lt in
    (finds d lines below holds m ms all.0 reads.0 alone, all_find mid h.1 below h.3 i ms result d' lines' h.4 within (all_on d mid ms (flow_askers d lines below i m (Ok tt) mid h.1 h.2) all.1) reads.1 (flow_alone d lines below holds i m ms mid h.1 lt h.2 alone))

pub in_finds : InFinds
in_finds d d' lines below below' i n result kept kept' h lt t asked alone =
    let b = by_answer d lines below h kept i n t.answer t.taken t.between below' kept' t.handled t.told.messages t.does (t.links h.connected) t.managed t.handles t.told.are in
    let keeps = handled_askers d lines below i n t.answer t.taken t.between below' t.handled t.does t.rerouted h in
    let balanced = handled_ends d lines below i n t.answer t.taken t.between below' t.handled t.does t.rerouted h t.stood in
    let many = as_many d lines below i n t.answer t.taken t.between below' t.handled t.does t.rerouted in
    all_find t.handled t.between below' t.stood i t.told.messages t.told.stopped (record d' { failed = t.handled.failed }) t.lines' t.told.handles (subst (λ (k : ℕ). i < k) (sym many) lt) (all_on d t.handled t.told.messages keeps (all_so (IsMessage d) (IsAskedFlow d) (asked_flow d asked) t.told.messages b.among)) (all_so (IsMessage d) IsRead (λ m is. (is.text, is.is)) t.told.messages b.among) (alone_with d t.handled t.told.messages b.fewer balanced alone)
