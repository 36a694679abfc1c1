-- The looks find what they look for, so an ask is answered as the member decides, and a yes allocates the end that asked.
use Rattle.std.proofs.Common.{◌≡◌, ◌∙◌, inl, inr, ℕ, ◌-◌, ◌*◌, ◌^◌, ◌<◌, ◌≤◌, Bool, true, false, cond, List, [], ◌∷◌, slice_get, Option, Some, None, option_and_then, Result, Ok, refl, sym, ap, subst, arith}
use Rattle.std.specs.Prelude.{nat_lt}
use Rattle.std.proofs.lemmas.Bool.{ltb-false}
use Rattle.std.proofs.lemmas.Option.{none-some, same_Some}
use Rattle.rina_alloc.specs.declared.answer.FlowAnswer.{FlowAnswer}
use Rattle.rina_alloc.specs.declared.answer.FlowAnswer.TheVariants as answers
use Rattle.rina_alloc.specs.declared.message.FlowAsk.{FlowAsk}
use Rattle.rina_alloc.specs.declared.message.FlowMessage.{FlowMessage}
use Rattle.rina_alloc.specs.declared.message.FlowWord.{FlowWord}
use Rattle.rina_alloc.specs.declared.message.FlowWord.TheVariants as words
use Rattle.rina_base.specs.declared.memory.Memory.{Memory}
use Rattle.rina_data.specs.declared.settings.Member.{Member}
use Rattle.rina_dif_law.proofs.Giving.{power_positive}
use Rattle.rina_ids.specs.Ids.{free_id}
use Rattle.rina_ids.specs.Members.{CepIds}
use Rattle.rina_iface.specs.Ends.{drawn_at}
use Rattle.rina_iface.specs.Seen.{Seen}
use Rattle.rina_law.specs.Direction.{Direction}
use Rattle.rina_dif.specs.declared.dif.Dif.{Dif}
use Rattle.rina_dif.specs.Allocating.{spent_by, spent_ids}
use Rattle.rina_dif.specs.AnswersIn.{IsFirstAsk, TakesYes}
use Rattle.rina_dif.specs.FarMaking.{AnswersBy, Decides, FitsNext, IsAskerOf, answer_by}
use Rattle.rina_dif.specs.FlowMessages.{HandlesFlows, HandlesWord}
use Rattle.rina_dif.specs.Holding.{Holds}
use Rattle.rina_dif.proofs.Accepting.{may_accept}
use Rattle.rina_asked.specs.Awaited.{HasFarOf}
use Rattle.rina_asked.specs.Doing.{AllocatesFirst, AnswersSo, DoInTurn, DoesWord, InDoes}
use Rattle.rina_asked.specs.Finding.{Finds, FindsFar, InTurn}
use Rattle.rina_asked.proofs.Looks.{in_finds}
use Rattle.rina_asked.proofs.OwnIns.{in_finds_far}

-- The CEP-id

within_by : (greatest cep drawn : ℕ) → spent_by (Some cep) greatest drawn ≡ None → cep ≤ greatest
within_by greatest cep drawn none = go (nat_lt greatest cep) refl none
  where
    go : (b : Bool) → nat_lt greatest cep ≡ b → cond b (Some greatest) (cond (nat_lt drawn (2 ^ 32 - 1)) None (Some (2 ^ 32 - 1))) ≡ None → cep ≤ greatest
    go true is none = absurd (none-some greatest (sym none))
    go false is none = ltb-false greatest cep is

-- where the ids are not spent the next one fits
fits_next : (d : Dif) (lines : List Direction) (below : Seen) → Holds d lines below → (at node : ℕ) → spent_ids d at node ≡ None → FitsNext d at
fits_next d lines below h at node none cep next = by_ids (slice_get d.ids at) refl none next
  where
    by_ids : (o : Option CepIds) → slice_get d.ids at ≡ o → option_and_then (λ (ids : CepIds). spent_by (free_id ids.0 d.clock ids.1) ids.0 (drawn_at node d.flows.journal.ends)) o ≡ None → option_and_then (λ (ids : CepIds). free_id ids.0 d.clock ids.1) o ≡ Some cep → cep < 2 ^ (8 * d.settings.widths.cep)
    by_ids None is none next = absurd (none-some cep next)
    by_ids (Some ids) is none next =
        let le = within_by ids.0 cep (drawn_at node d.flows.journal.ends) (ap (λ (o : Option ℕ). spent_by o ids.0 (drawn_at node d.flows.journal.ends)) (sym next) ∙ none) in
        let greatest = h.numbered.drawn.greatest at ids is in
        let some = power_positive (8 * d.settings.widths.cep) in
        omega (arith, le, greatest, some)

-- An ask

answers_so : (a : FlowAnswer) (d : Dif) (lines : List Direction) (below : Seen) → Holds d lines below → (at from invoke : ℕ) (ask : FlowAsk) (d' : Dif) (x : Decides d at ask) → answer_by x.grounds ask.scep ≡ Some a → ((place : ℕ) × IsAskerOf d place x.member.addr from ask) → AnswersBy a d lines below at x.member.addr x.member.node from invoke ask d' → AnswersSo a d lines below at x.member.addr x.member.node from invoke ask d'
answers_so (answers.Yes cep scep) d lines below h at from invoke ask d' x told found (inl s) = s
answers_so (answers.Yes cep scep) d lines below h at from invoke ask d' x told found (inr s) =
    let may = may_accept d at ask x.grounds x.member cep scep x.stands x.enrolled x.are told in
    let same : may.member ≡ x.member = same_Some may.member x.member (sym may.stands ∙ x.stands) in
    let room = subst (λ (z : Member). spent_ids d at z.node ≡ None) same may.room in
    absurd (s.0 found.0 found.1 (fits_next d lines below h at x.member.node room))
answers_so (answers.Denied rule) d lines below h at from invoke ask d' x told found s = s
answers_so answers.NotHere d lines below h at from invoke ask d' x told found s = s
answers_so (answers.NoIds used) d lines below h at from invoke ask d' x told found s = s

-- A yes

allocates_first : (d : Dif) (lines : List Direction) (below : Seen) (at from invoke cep which : ℕ) (first : IsFirstAsk d at invoke which) (d' : Dif) → HasFarOf d first.is_ask.ask.place from cep → TakesYes d lines below at from cep which first.is_ask.ask.place (Ok tt) d' → AllocatesFirst d lines below at invoke d'
allocates_first d lines below at from invoke cep which first d' far (inl n) = (let w = first.is_ask.is_of.waits in absurd (n.0 w.end w.is_end far.0 (far.1 w.end w.is_end)))
allocates_first d lines below at from invoke cep which first d' far (inr b) = record { which = which; first = first; binds = b.2 }

-- By the word

does_word : (word : FlowWord) (d : Dif) (lines : List Direction) (below : Seen) → Holds d lines below → (i to from : ℕ) (m : Member) (d' : Dif) → slice_get d.settings.members i ≡ Some m → to ≡ m.addr → Finds d (record { to = to; from = from; word = word }) → FindsFar d i (record { to = to; from = from; word = word }) → HandlesWord d lines below i from word (Ok tt) d' → DoesWord d lines below i from word d'
does_word (words.Ask invoke ask) d lines below h i to from m d' is own finds far (inl a) =
    let same : m ≡ a.decides.member = same_Some m a.decides.member (sym is ∙ a.decides.stands) in
    let found = subst (λ (addr : ℕ). (place : ℕ) × IsAskerOf d place addr from ask) (own ∙ ap (λ (z : Member). z.addr) same) (finds invoke ask refl) in
    inl (record { decides = a.decides; does = answers_so a.decides.answer d lines below h i from invoke ask d' a.decides a.decides.told found a.does })
does_word (words.Ask invoke ask) d lines below h i to from m d' is own finds far (inr same) = inr same
does_word (words.Answer invoke (answers.Yes cep scep)) d lines below h i to from m d' is own finds far (inl t) =
    inl (allocates_first d lines below i from invoke cep t.which t.first d' (far m invoke cep scep t.which is own refl t.first.is_ask) t.takes)
does_word (words.Answer invoke (answers.Yes cep scep)) d lines below h i to from m d' is own finds far (inr t) = inr t
does_word (words.Answer invoke (answers.Denied rule)) d lines below h i to from m d' is own finds far w = w
does_word (words.Answer invoke answers.NotHere) d lines below h i to from m d' is own finds far w = w
does_word (words.Answer invoke (answers.NoIds used)) d lines below h i to from m d' is own finds far w = w
does_word (words.Delete dcep scep) d lines below h i to from m d' is own finds far w = w

-- In turn

do_in_turn : (d : Dif) (lines : List Direction) (below : Seen) → Holds d lines below → (i : ℕ) (ms : List FlowMessage) (result : Result (Unit {0}) Memory) (d' : Dif) (lines' : List Direction) (h : HandlesFlows d lines below i ms result d' lines') → InTurn Finds d lines below i ms result d' lines' h → InTurn (λ z m. FindsFar z i m) d lines below i ms result d' lines' h → DoInTurn d lines below i ms result d' lines' h
do_in_turn d lines below holds i [] result d' lines' h finds far = tt
do_in_turn d lines below holds i (m ∷ ms) result d' lines' (inl stops) finds far = tt
do_in_turn d lines below holds i (m ∷ ms) result d' lines' (inr h) finds far =
    ((λ member is own. does_word m.word d lines below holds i m.to m.from member h.0 is own finds.0 far.0 (h.2.own member is own)), do_in_turn h.0 h.1 below h.3 i ms result d' lines' h.4 finds.1 far.1)

pub in_does : InDoes
in_does d d' lines below below' i n result kept kept' h lt t asked alone awaited =
    do_in_turn t.handled t.between below' t.stood i t.told.messages t.told.stopped (record d' { failed = t.handled.failed }) t.lines' t.told.handles (in_finds d d' lines below below' i n result kept kept' h lt t asked alone) (in_finds_far d d' lines below below' i n result kept kept' h lt t awaited)
