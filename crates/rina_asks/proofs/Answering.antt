-- What the machines of an ask do where a message comes is a row.
use Rattle.std.proofs.Common.{◌≡◌, ℕ, Bool, true, false, slice_get, Option, Some, None, refl, sym, ◌∙◌, ap}
use Rattle.std.proofs.lemmas.Bool.{false≢true}
use Rattle.std.proofs.lemmas.Option.{none-some}
use Rattle.rina_alloc.specs.declared.answer.FlowAnswer.{FlowAnswer}
use Rattle.rina_alloc.specs.declared.answer.FlowAnswer.TheVariants as answers
use Rattle.rina_alloc.specs.declared.asking.Asking.{Asking}
use Rattle.rina_alloc.specs.declared.event.Pair.{Pair}
use Rattle.rina_alloc.specs.declared.event.AskEvent.TheVariants as events
use Rattle.rina_alloc.specs.declared.event.AskDo.{AskDo}
use Rattle.rina_alloc.specs.declared.event.AskDo.TheVariants as does
use Rattle.rina_alloc.specs.declared.message.FlowAsk.{FlowAsk}
use Rattle.rina_alloc.specs.declared.message.FlowWord.TheVariants as words
use Rattle.rina_alloc.specs.Machines.{given_up, asking_answers, asking_becomes, new_asked, asked_does}
use Rattle.rina_alloc.specs.Words.{code_of, dcep_of, number_of}
use Rattle.rina_rest.specs.Flows.{Endpoint, Flow}
use Rattle.rina_asks.specs.Allocation.{FarSide, Request, sent, cut, Allocation, IsAt, Accept, Deny, Bind, GiveBack, BeDenied, TimeOut, Withdraw, FreeAsker, FreeFar, Drop, asker_heard, far_heard, heard, IsRefusal}
use Rattle.rina_asks.specs.Holding.{AskerIs, AllHolds}
use Rattle.rina_asks.specs.Machines.{IsTold, IsAnsweredBy, with_delete, IsAskerRow, IsFarRow}
use Rattle.rina_asks.proofs.Machines.{far_is, bound_standing}
use Rattle.rina_asks.proofs.Requests as request_list

abbrev IsAnswered : Allocation → ℕ → ℕ → ℕ → ℕ → ℕ → AskDo → Type 0
IsAnswered s n i to from invoke done = (answer : FlowAnswer) × (done ≡ does.Answer (code_of answer) (dcep_of answer) (number_of answer)) × IsAnsweredBy s n i to from invoke answer

-- The end that is asked

module _ (s : Allocation) (n i : ℕ) (f : Flow) (a : Request) (to from invoke : ℕ) (ask : FlowAsk) (at : IsAt s i f a) (comes : slice_get s.messages n ≡ Some (sent i to from (words.Ask invoke ask))) where
  refused : (answer : FlowAnswer) → IsRefusal answer → IsAnsweredBy s n i to from invoke answer
  refused answer refuses = record { row = Deny n i to from invoke ask answer; may = (comes, refuses); answers = refl }

  by_machine : (here aged : Bool) (denied drawn : Option ℕ) (used : ℕ) → IsTold s to ask here aged denied drawn → IsAnswered s n i to from invoke (asked_does new_asked (events.Ask here aged denied drawn used ask.scep))
  by_machine false aged denied drawn used told = (answers.NotHere, refl, refused answers.NotHere tt)
  by_machine true true denied drawn used told = (answers.NotHere, refl, refused answers.NotHere tt)
  by_machine true false (Some rule) drawn used told = (answers.Denied rule, refl, refused (answers.Denied rule) tt)
  by_machine true false None None used told = (answers.NoIds used, refl, refused (answers.NoIds used) tt)
  by_machine true false None (Some cep) used told = (
    answers.Yes cep ask.scep,
    refl,
    record {
      row = Accept n i f a to from invoke ask cep;
      may = (at, comes, told.registered refl, told.young refl, told.allowed refl, told.free cep refl);
      answers = refl;
    },
  )

pub answer_row : (s : Allocation) (n i : ℕ) (f : Flow) (a : Request) (to from invoke : ℕ) (ask : FlowAsk) (here aged : Bool) (denied drawn : Option ℕ) (used : ℕ) → IsAt s i f a → slice_get s.messages n ≡ Some (sent i to from (words.Ask invoke ask)) → IsTold s to ask here aged denied drawn →
    (answer : FlowAnswer) × (asked_does new_asked (events.Ask here aged denied drawn used ask.scep) ≡ does.Answer (code_of answer) (dcep_of answer) (number_of answer)) × IsAnsweredBy s n i to from invoke answer
answer_row s n i f a to from invoke ask here aged denied drawn used at comes told = by_machine s n i f a to from invoke ask at comes here aged denied drawn used told

-- The end that asks

waiting_does : (waits : Bool) (bound : Option Pair) (answer : FlowAnswer) → waits ≡ true → asking_answers waits bound (heard answer) ≡ does.Nothing
waiting_does true bound (answers.Yes dcep scep) e = refl
waiting_does true bound (answers.Denied rule) e = refl
waiting_does true bound answers.NotHere e = refl
waiting_does true bound (answers.NoIds used) e = refl
waiting_does false bound answer e = absurd (false≢true e)

pub late_does : (waits : Bool) (bound : Option Pair) (dcep scep : ℕ) → waits ≡ false → asking_answers waits bound (heard (answers.Yes dcep scep)) ≡ does.Delete dcep scep
late_does true bound dcep scep e = absurd (false≢true (sym e))
late_does false bound dcep scep e = refl

late_refusal_does : (waits : Bool) (bound : Option Pair) (answer : FlowAnswer) → waits ≡ false → IsRefusal answer → asking_answers waits bound (heard answer) ≡ does.Nothing
late_refusal_does true bound answer e refuses = absurd (false≢true (sym e))
late_refusal_does false bound (answers.Yes dcep scep) e refuses = absurd refuses
late_refusal_does false bound (answers.Denied rule) e refuses = refl
late_refusal_does false bound answers.NotHere e refuses = refl
late_refusal_does false bound (answers.NoIds used) e refuses = refl

-- a machine that waits no more stays as it is
late_becomes : (waits : Bool) (bound : Option Pair) (answer : FlowAnswer) → waits ≡ false → asking_becomes waits bound (heard answer) ≡ record { waits = waits; bound = bound }
late_becomes true bound answer e = absurd (false≢true (sym e))
late_becomes false None (answers.Yes dcep scep) e = refl
late_becomes false None (answers.Denied rule) e = refl
late_becomes false None answers.NotHere e = refl
late_becomes false None (answers.NoIds used) e = refl
late_becomes false (Some pair) (answers.Yes dcep scep) e = refl
late_becomes false (Some pair) (answers.Denied rule) e = refl
late_becomes false (Some pair) answers.NotHere e = refl
late_becomes false (Some pair) (answers.NoIds used) e = refl

module _ (s : Allocation) (n i : ℕ) (f : Flow) (a : Request) (to from invoke : ℕ) (at : IsAt s i f a) where
  -- nothing goes back
  quiet : (answer : FlowAnswer) → asking_answers a.asking.waits a.asking.bound (heard answer) ≡ does.Nothing → cut n s.messages ≡ with_delete i from to (asking_answers a.asking.waits a.asking.bound (heard answer)) (cut n s.messages)
  quiet answer e = sym (ap (λ (z : AskDo). with_delete i from to z (cut n s.messages)) e)

  unchanged : (answer : FlowAnswer) → a.asking.waits ≡ false → slice_get s.requests i ≡ Some (asker_heard a (heard answer))
  unchanged answer late = at.1 ∙ sym (ap (λ (z : Asking). Some (record a { asking = z })) (late_becomes a.asking.waits a.asking.bound answer late))

  heard_waiting : (answer : FlowAnswer) → slice_get s.messages n ≡ Some (sent i to from (words.Answer invoke answer)) → a.asking.waits ≡ true → IsRefusal answer → IsAskerRow s i from to a (heard answer) (cut n s.messages)
  heard_waiting answer comes waits refuses = record {
    row = BeDenied n i f a to from invoke answer;
    may = (at, comes, waits, refuses);
    machine = (request_list.put_changed s.requests i a (asker_heard a (heard answer)) at.1).at;
    messages = quiet answer (waiting_does a.asking.waits a.asking.bound answer waits);
  }

  heard_late : (answer : FlowAnswer) → slice_get s.messages n ≡ Some (sent i to from (words.Answer invoke answer)) → a.asking.waits ≡ false → IsRefusal answer → IsAskerRow s i from to a (heard answer) (cut n s.messages)
  heard_late answer comes late refuses = record {
    row = Drop n;
    may = tt;
    machine = unchanged answer late;
    messages = quiet answer (late_refusal_does a.asking.waits a.asking.bound answer late refuses);
  }

  heard_by : (waits : Bool) (answer : FlowAnswer) → a.asking.waits ≡ waits → slice_get s.messages n ≡ Some (sent i to from (words.Answer invoke answer)) → IsAskerRow s i from to a (heard answer) (cut n s.messages)
  heard_by true (answers.Yes dcep scep) waits comes = record {
    row = Bind n i f a to from invoke dcep scep;
    may = (at, comes, waits);
    machine = (request_list.put_changed s.requests i a (asker_heard a (heard (answers.Yes dcep scep))) at.1).at;
    messages = quiet (answers.Yes dcep scep) (waiting_does a.asking.waits a.asking.bound (answers.Yes dcep scep) waits);
  }
  heard_by true (answers.Denied rule) waits comes = heard_waiting (answers.Denied rule) comes waits tt
  heard_by true answers.NotHere waits comes = heard_waiting answers.NotHere comes waits tt
  heard_by true (answers.NoIds used) waits comes = heard_waiting (answers.NoIds used) comes waits tt
  heard_by false (answers.Yes dcep scep) late comes = record {
    row = GiveBack n i f a to from invoke dcep scep;
    may = (at, comes, late);
    machine = unchanged (answers.Yes dcep scep) late;
    messages = sym (ap (λ (z : AskDo). with_delete i from to z (cut n s.messages)) (late_does a.asking.waits a.asking.bound dcep scep late));
  }
  heard_by false (answers.Denied rule) late comes = heard_late (answers.Denied rule) comes late tt
  heard_by false answers.NotHere late comes = heard_late answers.NotHere comes late tt
  heard_by false (answers.NoIds used) late comes = heard_late (answers.NoIds used) comes late tt

pub heard_row : (s : Allocation) (n i : ℕ) (f : Flow) (a : Request) (to from invoke : ℕ) (answer : FlowAnswer) → IsAt s i f a → slice_get s.messages n ≡ Some (sent i to from (words.Answer invoke answer)) → IsAskerRow s i from to a (heard answer) (cut n s.messages)
heard_row s n i f a to from invoke answer at comes = heard_by s n i f a to from invoke at a.asking.waits answer refl comes

-- Its wait is over, or its end is freed or fails

late_clock : (waits : Bool) (bound : Option Pair) → waits ≡ true → asking_answers waits bound (events.Clock true) ≡ does.TimedOut
late_clock true bound e = refl
late_clock false bound e = absurd (false≢true e)

waiting_ends : (waits : Bool) (bound : Option Pair) → waits ≡ true → asking_answers waits bound events.Ended ≡ does.Nothing
waiting_ends true bound e = refl
waiting_ends false bound e = absurd (false≢true e)

bound_ends : (waits : Bool) (bound : Option Pair) (pair : Pair) → waits ≡ false → bound ≡ Some pair → asking_answers waits bound events.Ended ≡ does.Delete pair.far pair.own
bound_ends true bound pair e b = absurd (false≢true (sym e))
bound_ends false bound pair e b = ap (λ (z : Option Pair). given_up z) b

pub late_row : (s : Allocation) (i : ℕ) (f : Flow) (a : Request) → IsAt s i f a → a.asking.waits ≡ true → IsAskerRow s i f.peer f.asker.addr a (events.Clock true) s.messages
late_row s i f a at waits = record {
  row = TimeOut i f a;
  may = (at, waits);
  machine = (request_list.put_changed s.requests i a (asker_heard a (events.Clock true)) at.1).at;
  messages = sym (ap (λ (z : AskDo). with_delete i f.peer f.asker.addr z s.messages) (late_clock a.asking.waits a.asking.bound waits));
}

module _ (s : Allocation) (i : ℕ) (f : Flow) (a : Request) (at : IsAt s i f a) (stands : f.asker.ended ≡ None) where
  ended_by : (waits : Bool) (bound : Option Pair) → a.asking.waits ≡ waits → a.asking.bound ≡ bound → AskerIs waits bound f → IsAskerRow s i f.peer f.asker.addr a events.Ended s.messages
  ended_by true None w b is = record {
    row = Withdraw i f a;
    may = (at, w);
    machine = (request_list.put_changed s.requests i a (asker_heard a events.Ended) at.1).at;
    messages = sym (ap (λ (z : AskDo). with_delete i f.peer f.asker.addr z s.messages) (waiting_ends a.asking.waits a.asking.bound w));
  }
  ended_by true (Some pair) w b is = absurd is
  ended_by false None w b is = absurd (none-some (is.0) (sym stands ∙ is.1))
  ended_by false (Some pair) w b is = record {
    row = FreeAsker i f a pair;
    may = (at, b);
    machine = (request_list.put_changed s.requests i a (asker_heard a events.Ended) at.1).at;
    messages = sym (ap (λ (z : AskDo). with_delete i f.peer f.asker.addr z s.messages) (bound_ends a.asking.waits a.asking.bound pair w b));
  }

pub ended_row : (s : Allocation) (i : ℕ) (f : Flow) (a : Request) → AllHolds s → IsAt s i f a → f.asker.ended ≡ None → IsAskerRow s i f.peer f.asker.addr a events.Ended s.messages
ended_row s i f a h at stands = ended_by s i f a at stands a.asking.waits a.asking.bound refl refl (h.request i f a at.0 at.1).asker

pub far_ended_row : (s : Allocation) (i : ℕ) (f : Flow) (a : Request) (far : Endpoint) (e : FarSide) → AllHolds s → IsAt s i f a → f.far ≡ Some far → a.far_side ≡ Some e → far.ended ≡ None → IsFarRow s i e.partner far.addr a e events.Ended s.messages
far_ended_row s i f a far e h at known there stands =
    let is = far_is a.ask f.asker.addr f.asker.cep f.far a.far_side far e known there (h.request i f a at.0 at.1).far in
    let pair : Pair = record { far = f.asker.cep; own = far.cep } in
    let bound = bound_standing far.ended pair e.asked.bound (is.4) stands in
    record {
      row = FreeFar i f a far e pair;
      may = (at, known, there, bound);
      machine = (request_list.put_changed s.requests i a (far_heard a e events.Ended) at.1).at;
      messages = sym (ap (λ (z : Option Pair). with_delete i e.partner far.addr (given_up z) s.messages) bound);
    }
