-- A member handles the answers to its asks for flows: the DIF holds.
use Rattle.std.proofs.Common.{◌≡◌, ◌∙◌, ◌↔◌, ℕ, ◌+◌, ◌<◌, ◌≤◌, Bool, IsTrue, true, false, List, get_or, length, slice_get, Option, Some, None, Result, Ok, Err, OnErr, OnOk, refl, sym, ap, subst, arith, inl, inr}
use Rattle.std.specs.Global.{Vec}
use Rattle.std.specs.List.{remove}
use Rattle.std.proofs.lemmas.Bool.{cases_lt, false≢true}
use Rattle.std.proofs.lemmas.Option.{get_or_from_slice_get, same_Some, slice_get_read, slice_get_within}
use Rattle.rina_alloc.specs.declared.answer.FlowAnswer.{FlowAnswer}
use Rattle.rina_alloc.specs.declared.message.FlowWord.{FlowWord}
use Rattle.rina_alloc.specs.Words.{dcep_of}
use Rattle.rina_base.specs.declared.memory.Memory.{Memory}
use Rattle.rina_data.specs.declared.settings.Member.{Member}
use Rattle.rina_iface.specs.declared.ends.End.{End}
use Rattle.rina_iface.specs.declared.state.PortState.TheVariants.{Pending, Refused}
use Rattle.rina_iface.specs.declared.state.Why.{Why}
use Rattle.rina_iface.specs.declared.state.Why.TheVariants.{NotHere}
use Rattle.rina_iface.specs.Journal.{At}
use Rattle.rina_iface.specs.Seen.{Seen}
use Rattle.rina_law.specs.Direction.{Direction}
use Rattle.rina_member.specs.declared.management.Management.{Management}
use Rattle.rina_dif.specs.declared.dif.Dif.{Dif}
use Rattle.rina_dif.specs.declared.waiting_asks.WaitingAsk.{WaitingAsk}
use Rattle.rina_dif.specs.AnswersIn.{BindsAsk, FarOf, IsAskAt, IsAskOf, IsFirstAsk, NoAsk, NoFarOf, RefusesAsk, SaysBack, TakesAnswer, TakesAt, TakesYes, given_back, why_of}
use Rattle.rina_dif.specs.Elsewhere.{home_of}
use Rattle.rina_dif.specs.FlowAnswers.{BindsEnd, FindsFarEnd, IsFarEndAt, StandsFar, WaitsAtHome}
use Rattle.rina_dif.specs.Freeing.{IsKept}
use Rattle.rina_dif.specs.Holding.{Holds}
use Rattle.rina_dif.specs.Posting.{message_of, posts}
use Rattle.rina_dif.specs.WaitingAsks.{TurnsDown}
use Rattle.rina_dif.proofs.TurnedDown.{other_asks}

-- Which ask it is

-- none of the first asks
abbrev pub NoAskBefore : ℕ → Dif → ℕ → ℕ → Type 0
NoAskBefore n d at invoke = (which : ℕ) → which < n → IsAskAt d at invoke which → ⊥

-- this one is, and none before it
pub first_ask_is : (d : Dif) (at invoke which : ℕ) (ask : WaitingAsk) (told : Bool) → which < length d.asks.items → ask ≡ get_or d.asks.items which ask → (IsTrue told ↔ IsAskOf d at invoke ask) → told ≡ true → NoAskBefore which d at invoke → IsFirstAsk d at invoke which
first_ask_is d at invoke which ask told lt is tells so before = record {
  is_ask = record { ask = ask; stands = slice_get_read d.asks.items (length d.asks.items) which ask refl lt is; is_of = tells.0 so };
  least = λ other its. elim (cases_lt other which) [ inl l ↦ absurd (before other l its) | inr ge ↦ ge ];
}

-- one more is not
pub next_ask : (d : Dif) (at invoke n : ℕ) (ask : WaitingAsk) (told : Bool) → n < length d.asks.items → ask ≡ get_or d.asks.items n ask → (IsTrue told ↔ IsAskOf d at invoke ask) → told ≡ false → NoAskBefore n d at invoke → NoAskBefore (n + 1) d at invoke
next_ask d at invoke n ask told within is tells not before which lt one = elim (cases_lt which n) [
  | inl l ↦ before which l one
  | inr ge ↦
      let same : which ≡ n = omega (arith, lt, ge) in
      let its : one.ask ≡ ask = same_Some one.ask ask (sym one.stands ∙ ap (slice_get d.asks.items) same ∙ slice_get_read d.asks.items (length d.asks.items) n ask refl within is) in
      false≢true (sym not ∙ tells.1 (subst (IsAskOf d at invoke) its one.is_of))
]

pub no_ask : (d : Dif) (at invoke n : ℕ) → length d.asks.items ≤ n → NoAskBefore n d at invoke → NoAsk d at invoke
no_ask d at invoke n le before which one = (let lt = slice_get_within d.asks.items which one.ask one.stands in before which (omega (arith, lt, le)) one)

-- The end that waits

pub waits_so : (d : Dif) (at place : ℕ) → WaitsAtHome d at place → (e : End) → slice_get d.flows.journal.ends place ≡ Some e → (e.state ≡ Pending) × (home_of d e.port.node ≡ Some at)
waits_so d at place w e is =
    let same : w.end ≡ e = same_Some w.end e (sym w.is_end ∙ is) in
    subst (λ (z : End). (z.state ≡ Pending) × (home_of d z.port.node ≡ Some at)) same (w.waits, w.at_home)

-- it is refused
pub refuses_ask : (d d1 : Dif) (lines : List Direction) (below : Seen) (which place : ℕ) (cause : Why) (asks : Vec WaitingAsk) → d1.asks ≡ d.asks → asks.items ≡ remove d1.asks.items which → TurnsDown d place (Refused cause) d1 → Holds d1 lines below → RefusesAsk d lines below which place cause (record d1 { asks = asks })
refuses_ask d d1 lines below which place cause asks same removed t h = record {
  turns_down = record { turned = t.turned; managed = t.managed };
  asks = removed ∙ ap (λ (v : Vec WaitingAsk). remove v.items which) same;
  holds = other_asks d1 lines below asks h;
}

-- The far end of a yes

module _ (d : Dif) (place from cep : ℕ) (end : End) (is : At d.flows.journal.ends place end) where
  pub no_far : FindsFarEnd d end.flow from cep None → NoFarOf d place from cep
  no_far none e is_e = subst (λ (z : End). FindsFarEnd d z.flow from cep None) (same_Some end e (sym is ∙ is_e)) none

  pub far_of : (far_at : ℕ) → IsFarEndAt d far_at end.flow from cep → FarOf d place from cep far_at
  far_of far_at far e is_e = subst (λ (z : End). IsFarEndAt d far_at z.flow from cep) (same_Some end e (sym is ∙ is_e)) far

  pub stands_far : (far_at : ℕ) → IsFarEndAt d far_at end.flow from cep → StandsFar d place far_at
  stands_far far_at far = record { own = from; cep = cep; far = far_of far_at far }

  -- where it does not stand the ask is refused
  pub takes_none : (d1 : Dif) (lines : List Direction) (below : Seen) (at which : ℕ) (r : Result (Unit {0}) Memory) → FindsFarEnd d end.flow from cep None → RefusesAsk d lines below which place NotHere d1 → TakesYes d lines below at from cep which place r d1
  takes_none d1 lines below at which r none refuses = inl (no_far none, refuses)

  -- without memory
  pub takes_err : (d1 : Dif) (lines : List Direction) (below : Seen) (at which far_at : ℕ) (r : Result (Unit {0}) Memory) (e : Memory) → IsFarEndAt d far_at end.flow from cep → r ≡ Err e → IsKept d lines below d1 → d1.asks ≡ d.asks → TakesYes d lines below at from cep which place r d1
  takes_err d1 lines below at which far_at r e far is_r kept same = inr (far_at, far_of far_at far, subst (λ (z : Result (Unit {0}) Memory). BindsAsk d lines below at which place z d1) (sym is_r) (kept, same))

  -- it is allocated
  pub takes_bound : (d1 : Dif) (lines : List Direction) (below : Seen) (at which far_at : ℕ) (t : Unit {0}) (asks : Vec WaitingAsk) → IsFarEndAt d far_at end.flow from cep → BindsEnd d lines below at place (Ok t) d1 → d1.asks ≡ d.asks → asks.items ≡ remove d1.asks.items which → TakesYes d lines below at from cep which place (Ok t) (record d1 { asks = asks })
  takes_bound d1 lines below at which far_at t asks far b same removed = inr (
    far_at,
    far_of far_at far,
    record {
      binds = record { answered = b.answered; managed = b.managed; holds = other_asks d1 lines below asks b.holds };
      asks = removed ∙ ap (λ (v : Vec WaitingAsk). remove v.items which) same;
    },
  )

-- The answer is handled

pub taken_place : (d : Dif) (at invoke which : ℕ) (first : IsFirstAsk d at invoke which) (ask : WaitingAsk) → ask ≡ get_or d.asks.items which ask → first.is_ask.ask ≡ ask
taken_place d at invoke which first ask read = sym (read ∙ get_or_from_slice_get d.asks.items which first.is_ask.ask ask first.is_ask.stands)

pub place_waits : (d : Dif) (at invoke which : ℕ) (first : IsFirstAsk d at invoke which) (ask : WaitingAsk) → ask ≡ get_or d.asks.items which ask → WaitsAtHome d at ask.place
place_waits d at invoke which first ask read = subst (λ (a : WaitingAsk). WaitsAtHome d at a.place) (taken_place d at invoke which first ask read) first.is_ask.is_of.waits

module _ (d : Dif) (lines : List Direction) (below : Seen) (at from invoke which : ℕ) (answer : FlowAnswer) (first : IsFirstAsk d at invoke which) (ask : WaitingAsk) (read : ask ≡ get_or d.asks.items which ask) where
  its_ask : first.is_ask.ask ≡ ask
  its_ask = taken_place d at invoke which first ask read

  pub takes_refusal : (r : Result (Unit {0}) Memory) (d' : Dif) (cause : Why) → why_of answer ≡ Some cause → RefusesAsk d lines below which ask.place cause d' → TakesAnswer d lines below at from invoke answer r d'
  takes_refusal r d' cause is refuses = inl (record {
    which = which;
    first = first;
    takes = subst (λ (o : Option Why). TakesAt o (dcep_of answer) d lines below at from which first.is_ask.ask.place r d') (sym is) (subst (λ (a : WaitingAsk). RefusesAsk d lines below which a.place cause d') (sym its_ask) refuses);
  })

  pub takes_yes : (r : Result (Unit {0}) Memory) (d' : Dif) (cep : ℕ) → why_of answer ≡ None → cep ≡ dcep_of answer → TakesYes d lines below at from cep which ask.place r d' → TakesAnswer d lines below at from invoke answer r d'
  takes_yes r d' cep is cep_is takes = inl (record {
    which = which;
    first = first;
    takes = subst (λ (o : Option Why). TakesAt o (dcep_of answer) d lines below at from which first.is_ask.ask.place r d') (sym is) (subst (λ (a : WaitingAsk). TakesYes d lines below at from (dcep_of answer) which a.place r d') (sym its_ask) (subst (λ (n : ℕ). TakesYes d lines below at from n which ask.place r d') cep_is takes));
  })

pub turned_away : (d d' : Dif) (lines : List Direction) (below : Seen) (at from invoke : ℕ) (answer : FlowAnswer) (r : Result (Unit {0}) Memory) → NoAsk d at invoke → OnOk r (SaysBack (given_back answer) d at from d') → OnErr r (d' ≡ d) → Holds d' lines below → TakesAnswer d lines below at from invoke answer r d'
turned_away d d' lines below at from invoke answer r none ok err h = inr (none, record { ok = ok; err = err; holds = h })

-- What is said back

pub says_none : (d : Dif) (at from : ℕ) (says : Option FlowWord) (r : Result (Unit {0}) Memory) → says ≡ None → OnOk r (SaysBack says d at from d)
says_none d at from says (Ok t) is = subst (λ (o : Option FlowWord). SaysBack o d at from d) (sym is) refl
says_none d at from says (Err e) is = tt

-- a message that waits
pub says_word : (d d' : Dif) (at from own : ℕ) (says : Option FlowWord) (word : FlowWord) (r : Result (Unit {0}) Memory) → says ≡ Some word → ((m : Member) → slice_get d.settings.members at ≡ Some m → own ≡ m.addr) → OnOk r (d' ≡ record d { managements = posts d at (message_of from own word) d.managements }) → OnOk r (SaysBack says d at from d')
says_word d d' at from own says word (Ok t) is own_is posted = subst (λ (o : Option FlowWord). SaysBack o d at from d') (sym is) (λ m is_m. posted ∙ ap (λ (n : ℕ). record d { managements = posts d at (message_of from n word) d.managements }) (own_is m is_m))
says_word d d' at from own says word (Err e) is own_is posted = tt

pub said_whole : (d d' : Dif) (r : Result (Unit {0}) Memory) (ms : List Management) → OnOk r (d' ≡ record d { managements = ms }) → OnErr r (d' ≡ d) → d' ≡ record d { managements = d'.managements }
said_whole d d' (Ok t) ms ok err = ok ∙ sym (ap (λ (z : Dif). record d { managements = z.managements }) ok)
said_whole d d' (Err e) ms ok err = err ∙ sym (ap (λ (z : Dif). record d { managements = z.managements }) err)

-- What changes

pub refuse_whole : (d d1 : Dif) (asks : Vec WaitingAsk) → d1 ≡ record d { flows = d1.flows; ids = d1.ids } → record d1 { asks = asks } ≡ record d { flows = d1.flows; ids = d1.ids; asks = asks }
refuse_whole d d1 asks is = ap (λ (z : Dif). record z { asks = asks }) is

pub bind_whole : (d d1 : Dif) (asks : Vec WaitingAsk) → d1 ≡ record d { flows = d1.flows; managements = d1.managements } → record d1 { asks = asks } ≡ record d { flows = d1.flows; ids = d1.ids; asks = asks; managements = d1.managements }
bind_whole d d1 asks is = ap (λ (z : Dif). record z { asks = asks }) is ∙ sym (ap (λ (z : Dif). record d { flows = d1.flows; ids = z.ids; asks = asks; managements = d1.managements }) is)

pub kept_whole : (d d1 : Dif) → d1 ≡ record d { flows = d1.flows; managements = d1.managements } → d1 ≡ record d { flows = d1.flows; ids = d1.ids; asks = d1.asks; managements = d1.managements }
kept_whole d d1 is = is ∙ sym (ap (λ (z : Dif). record d { flows = d1.flows; ids = z.ids; asks = z.asks; managements = d1.managements }) is)

pub whole_refused : (d d1 : Dif) → d1 ≡ record d { flows = d1.flows; ids = d1.ids; asks = d1.asks } → d1 ≡ record d { flows = d1.flows; ids = d1.ids; asks = d1.asks; managements = d1.managements }
whole_refused d d1 is = is ∙ sym (ap (λ (z : Dif). record d { flows = d1.flows; ids = d1.ids; asks = d1.asks; managements = z.managements }) is)

pub whole_away : (d d1 : Dif) → d1 ≡ record d { managements = d1.managements } → d1 ≡ record d { flows = d1.flows; ids = d1.ids; asks = d1.asks; managements = d1.managements }
whole_away d d1 is = is ∙ sym (ap (λ (z : Dif). record d { flows = z.flows; ids = z.ids; asks = z.asks; managements = d1.managements }) is)
