-- What a message does at the member that it is for is a row of the laws.
use Rattle.std.proofs.Common.{◌≡◌, ◌∙◌, ℕ, ◌<◌, ◌⊎◌, List, length, slice_get, option_map, Option, Some, None, Result, Ok, Err, refl, sym, ap, subst, inl, inr}
use Rattle.std.proofs.lemmas.Option.{same_Some, slice_get-map}
use Rattle.rina_alloc.specs.declared.answer.FlowAnswer.{FlowAnswer}
use Rattle.rina_alloc.specs.declared.answer.FlowAnswer.TheVariants as answers
use Rattle.rina_alloc.specs.declared.message.FlowAsk.{FlowAsk}
use Rattle.rina_alloc.specs.declared.message.FlowWord.{FlowWord}
use Rattle.rina_alloc.specs.declared.message.FlowWord.TheVariants as words
use Rattle.rina_alloc.specs.Words.{dcep_of}
use Rattle.rina_base.specs.declared.memory.Memory.{Memory}
use Rattle.rina_iface.specs.declared.ends.End.{End}
use Rattle.rina_iface.specs.declared.state.PortState.{PortState}
use Rattle.rina_iface.specs.declared.state.PortState.TheVariants.{Allocated, Closed, Failed, Pending, Refused}
use Rattle.rina_iface.specs.declared.state.Why.{Why}
use Rattle.rina_iface.specs.declared.state.Why.TheVariants.{NotHere}
use Rattle.rina_iface.specs.Journal.{At}
use Rattle.rina_iface.specs.Seen.{Seen}
use Rattle.rina_law.specs.Direction.{Direction}
use Rattle.rina_data.specs.declared.settings.Member.{Member}
use Rattle.rina_data.specs.Configs.{config_of, member_of}
use Rattle.rina_data.proofs.Finding.{there}
use Rattle.rina_dif_law.specs.Answering.{IsFarMade}
use Rattle.rina_dif.specs.declared.dif.Dif.{Dif}
use Rattle.rina_dif.specs.AnswersIn.{RefusesAsk, SaysBack, TakesAnswer, TakesAt, TakesFirst, TurnsAway, given_back, why_of}
use Rattle.rina_dif.specs.DeletesIn.{ClosesUp, NoneUp, TakesDelete}
use Rattle.rina_dif.specs.Elsewhere.{home_of}
use Rattle.rina_dif.specs.FarMaking.{AnswersBy, HandlesAsk}
use Rattle.rina_dif.specs.FlowMessages.{MayChangeFlow, TakesWord}
use Rattle.rina_dif.specs.Freeing.{FreesEnd, FreesHere}
use Rattle.rina_dif.specs.Holding.{Holds}
use Rattle.rina_dif.specs.Shown.{seen_of}
use Rattle.rina_dif.proofs.Bound.{at_its_node}
use Rattle.rina_dif.proofs.DeletesIn.{up_home}

-- nothing is seen to change
seen_same : (d d' : Dif) (lines : List Direction) (i : ℕ) → seen_of d' ≡ seen_of d → MayChangeFlow (seen_of d) lines i (seen_of d') lines
seen_same d d' lines i same = inl (same, refl)

-- the far end is made at this member
made_here : (d : Dif) (lines : List Direction) (below : Seen) (i place : ℕ) (member : Member) (d' : Dif) (lines' : List Direction) → Holds d lines below → slice_get d.settings.members i ≡ Some member → (m : IsFarMade (seen_of d) lines member.node place (seen_of d') lines') → MayChangeFlow (seen_of d) lines i (seen_of d') lines'
made_here d lines below i place member d' lines' h stands m =
    let its_node = at_its_node (config_of d.settings).members member.node m.place m.member m.at_home m.stands in
    let seen : slice_get (config_of d.settings).members i ≡ Some (member_of member) = slice_get-map member_of d.settings.members i ∙ ap (option_map member_of) stands in
    inr (inl (record { node = member.node; asker_at = place; makes = m; here = h.numbered.members.nodes m.place i m.member (member_of member) m.stands seen its_node }))

answered_by : (a : FlowAnswer) (d : Dif) (lines : List Direction) (below : Seen) (i : ℕ) (member : Member) (from invoke : ℕ) (ask : FlowAsk) (d' : Dif) → Holds d lines below → slice_get d.settings.members i ≡ Some member → AnswersBy a d lines below i member.addr member.node from invoke ask d' → (lines' : List Direction) × MayChangeFlow (seen_of d) lines i (seen_of d') lines' × Holds d' lines' below
answered_by (answers.Yes cep scep) d lines below i member from invoke ask d' h stands (inl s) = (s.lines', made_here d lines below i s.place member d' s.lines' h stands s.makes, s.holds)
answered_by (answers.Yes cep scep) d lines below i member from invoke ask d' h stands (inr s) = (lines, seen_same d d' lines i (ap seen_of s.1.only), s.1.holds)
answered_by (answers.Denied rule) d lines below i member from invoke ask d' h stands s = (lines, seen_same d d' lines i (ap seen_of s.only), s.holds)
answered_by answers.NotHere d lines below i member from invoke ask d' h stands s = (lines, seen_same d d' lines i (ap seen_of s.only), s.holds)
answered_by (answers.NoIds used) d lines below i member from invoke ask d' h stands s = (lines, seen_same d d' lines i (ap seen_of s.only), s.holds)

-- a member is asked for a flow
pub ask_taken : (d : Dif) (lines : List Direction) (below : Seen) (i from invoke : ℕ) (ask : FlowAsk) (r : Result (Unit {0}) Memory) (d' : Dif) → Holds d lines below → HandlesAsk d lines below i from invoke ask r d' → d'.asks ≡ d.asks → TakesWord d lines below i from (words.Ask invoke ask) r d'
ask_taken d lines below i from invoke ask (Ok done) d' h (inl a) asks =
    let s = answered_by a.decides.answer d lines below i a.decides.member from invoke ask d' h a.decides.stands a.does in
    record { lines' = s.0; flow = s.1; does = inl a; asks = asks; holds = s.2 }
ask_taken d lines below i from invoke ask (Ok done) d' h (inr same) asks =
    record { lines' = lines; flow = seen_same d d' lines i (ap seen_of same.1); does = inr same; asks = asks; holds = subst (λ (z : Dif). Holds z lines below) (sym same.1) h }
ask_taken d lines below i from invoke ask (Err e) d' h (inl kept) asks = record { lines' = lines; flow = seen_same d d' lines i kept.same; does = inl kept; asks = asks; holds = kept.holds }
ask_taken d lines below i from invoke ask (Err e) d' h (inr m) asks =
    let made = m.2.made in
    record { lines' = made.lines'; flow = made_here d lines below i m.2.place made.member d' made.lines' h made.stands made.makes; does = inr m; asks = asks; holds = made.holds }

-- the answer to an ask comes

-- a refusal, at the end that waits
refused_here : (d : Dif) (lines : List Direction) (below : Seen) (i from invoke : ℕ) (cause : Why) (answer : FlowAnswer) (r : Result (Unit {0}) Memory) (d' : Dif) → (s : TakesFirst d lines below i from invoke answer r d') → RefusesAsk d lines below s.which s.first.is_ask.ask.place cause d' → MayChangeFlow (seen_of d) lines i (seen_of d') lines × Holds d' lines below
refused_here d lines below i from invoke cause answer r d' s t =
    let w = s.first.is_ask.is_of.waits in
    let down = t.turns_down.turned in
    let same : w.end ≡ down.end = same_Some w.end down.end (sym w.is_end ∙ down.is_end) in
    (inr (inr (inr (inl (record { place = s.first.is_ask.ask.place; state = Refused cause; turned = down; here = ap (λ (e : End). home_of d e.port.node) (sym same) ∙ w.at_home; same = refl })))), t.holds)

answer_first : (d : Dif) (lines : List Direction) (below : Seen) (i from invoke cep : ℕ) (o : Option Why) (answer : FlowAnswer) (r : Result (Unit {0}) Memory) (d' : Dif) → Holds d lines below → (s : TakesFirst d lines below i from invoke answer r d') → TakesAt o cep d lines below i from s.which s.first.is_ask.ask.place r d' → MayChangeFlow (seen_of d) lines i (seen_of d') lines × Holds d' lines below
answer_first d lines below i from invoke cep (Some cause) answer r d' h s t = refused_here d lines below i from invoke cause answer r d' s t
answer_first d lines below i from invoke cep None answer r d' h s (inl none) = refused_here d lines below i from invoke NotHere answer r d' s none.1
answer_first d lines below i from invoke cep None answer (Ok done) d' h s (inr b) =
    let w = s.first.is_ask.is_of.waits in
    let bound = b.2.binds in
    let same : w.end ≡ bound.answered.asker = same_Some w.end bound.answered.asker (sym w.is_end ∙ bound.answered.is_conn.end) in
    (inr (inr (inl (record { place = s.first.is_ask.ask.place; answered = bound.answered; here = ap (λ (e : End). home_of d e.port.node) (sym same) ∙ w.at_home; same = refl }))), bound.holds)
answer_first d lines below i from invoke cep None answer (Err e) d' h s (inr b) = (seen_same d d' lines i b.2.0.same, b.2.0.holds)

-- what is given back
said_same : (d d' : Dif) (i from : ℕ) (o : Option FlowWord) (lt : (m : Member) × (slice_get d.settings.members i ≡ Some m)) → SaysBack o d i from d' → seen_of d' ≡ seen_of d
said_same d d' i from (Some word) m s = ap seen_of (s m.0 m.1)
said_same d d' i from None m s = ap seen_of s

away_same : (d : Dif) (lines : List Direction) (below : Seen) (i from : ℕ) (answer : FlowAnswer) (r : Result (Unit {0}) Memory) (d' : Dif) → (m : Member) × (slice_get d.settings.members i ≡ Some m) → TurnsAway d lines below i from answer r d' → seen_of d' ≡ seen_of d
away_same d lines below i from answer (Ok done) d' m t = said_same d d' i from (given_back answer) m t.ok
away_same d lines below i from answer (Err e) d' m t = ap seen_of t.err

pub answer_taken : (d : Dif) (lines : List Direction) (below : Seen) (i from invoke : ℕ) (answer : FlowAnswer) (r : Result (Unit {0}) Memory) (d' : Dif) → i < length d.settings.members → Holds d lines below → TakesAnswer d lines below i from invoke answer r d' → TakesWord d lines below i from (words.Answer invoke answer) r d'
answer_taken d lines below i from invoke answer r d' lt h (inl s) =
    let f = answer_first d lines below i from invoke (dcep_of answer) (why_of answer) answer r d' h s s.takes in
    record { lines' = lines; flow = f.0; does = inl s; asks = tt; holds = f.1 }
answer_taken d lines below i from invoke answer r d' lt h (inr s) =
    record { lines' = lines; flow = seen_same d d' lines i (away_same d lines below i from answer r d' (there d.settings.members i lt) s.1); does = inr s; asks = tt; holds = s.1.holds }

-- the other end gave the flow up

closed_end : (d : Dif) (lines : List Direction) (i place : ℕ) (end : End) (state : PortState) (d' : Dif) → end.state ≡ state → state ≡ Allocated → home_of d end.port.node ≡ Some i → At d.flows.journal.ends place end → FreesEnd state (seen_of d) lines place end (seen_of d') → MayChangeFlow (seen_of d) lines i (seen_of d') lines
closed_end d lines i place end Allocated d' is allocated at_home is_end ended =
    let same : end ≡ ended.end = same_Some end ended.end (sym is_end ∙ ended.is_conn.end) in
    inr (inr (inr (inr (record { place = place; ended = ended; here = same_Some ended.i i (sym ended.at_home ∙ ap (λ (e : End). home_of d e.port.node) (sym same) ∙ at_home); same = refl }))))
closed_end d lines i place end Pending d' is wrong at_home is_end ended = absurd cc
closed_end d lines i place end (Refused why) d' is wrong at_home is_end ended = absurd cc
closed_end d lines i place end (Failed fail) d' is wrong at_home is_end ended = absurd cc
closed_end d lines i place end Closed d' is wrong at_home is_end ended = absurd cc

closed_up : (d : Dif) (lines : List Direction) (below : Seen) (i from dcep scep : ℕ) (m : Member) (r : Result (Unit {0}) Memory) (d' : Dif) → Holds d lines below → slice_get d.settings.members i ≡ Some m → (s : ClosesUp d lines below m.addr from dcep scep r d') → FreesHere d lines below s.place r d' → MayChangeFlow (seen_of d) lines i (seen_of d') lines × Holds d' lines below
closed_up d lines below i from dcep scep m (Ok done) d' h is_m s f =
    let up = s.first.is_up in
    let same : up.end ≡ f.end = same_Some up.end f.end (sym up.is_at.end_is ∙ f.is_end) in
    let at_home = ap (λ (e : End). home_of d e.port.node) (sym same) ∙ up_home d lines below i m.addr from dcep scep s.place m h is_m refl up in
    (closed_end d lines i s.place f.end f.end.state d' refl (ap (λ (e : End). e.state) (sym same) ∙ up.allocated) at_home f.is_end f.frees, f.holds)
closed_up d lines below i from dcep scep m (Err e) d' h is_m s f = (seen_same d d' lines i f.same, f.holds)

delete_by : (d : Dif) (lines : List Direction) (below : Seen) (i from dcep scep : ℕ) (m : Member) (r : Result (Unit {0}) Memory) (d' : Dif) → Holds d lines below → slice_get d.settings.members i ≡ Some m → ClosesUp d lines below m.addr from dcep scep r d' ⊎ (NoneUp d m.addr from dcep scep × (d' ≡ d)) → MayChangeFlow (seen_of d) lines i (seen_of d') lines × Holds d' lines below
delete_by d lines below i from dcep scep m r d' h is_m (inl s) = closed_up d lines below i from dcep scep m r d' h is_m s s.frees
delete_by d lines below i from dcep scep m r d' h is_m (inr s) = (seen_same d d' lines i (ap seen_of s.1), subst (λ (z : Dif). Holds z lines below) (sym s.1) h)

pub delete_taken : (d : Dif) (lines : List Direction) (below : Seen) (i from dcep scep : ℕ) (r : Result (Unit {0}) Memory) (d' : Dif) → i < length d.settings.members → Holds d lines below → TakesDelete d lines below i from dcep scep r d' → d'.asks ≡ d.asks → TakesWord d lines below i from (words.Delete dcep scep) r d'
delete_taken d lines below i from dcep scep r d' lt h does asks =
    let m = there d.settings.members i lt in
    let f = delete_by d lines below i from dcep scep m.0 r d' h m.1 (does m.0 m.1) in
    record { lines' = lines; flow = f.0; does = does; asks = asks; holds = f.1 }
