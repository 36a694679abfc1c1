-- Where a far end is made.
use Rattle.std.proofs.Common.{◌≡◌, ℕ, ◌+◌, ◌<◌, List, [], ◌∷◌, ◌++◌, slice_get, Some, None, refl, sym, ◌∙◌, ap, subst, arith, inl, inr}
use Rattle.std.proofs.lemmas.Bool.{cases_eq}
use Rattle.std.proofs.lemmas.Option.{none-some, slice_get_within}
use Rattle.rina_law.specs.Line.{InFlight}
use Rattle.rina_law.specs.Lists.{In}
use Rattle.rina_alloc.specs.declared.message.FlowAsk.{FlowAsk}
use Rattle.rina_alloc.specs.declared.message.FlowWord.TheVariants as words
use Rattle.rina_rest.specs.Flows.{Endpoint, Side, Flow, IsFree, Four, GoesFrom}
use Rattle.rina_rest.specs.Laws.{MayCome}
use Rattle.rina_rest.specs.Ledger.{Time, Cloud, Ask, Make, Tell, EndAsker, EndFar, Send, put, asked_flow, made, told_flow, ended_asker, ended_far}
use Rattle.rina_rest.proofs.Fresh.{made_fresh}
use Rattle.rina_rest.proofs.Lists.{put_changed, push_changed, new_or_old, same_flow}
use Rattle.rina_asks.specs.Allocation.{Place, Request, sent, Allocation, IsAt, AskRow, Wait, Data, Rules, Allocate, Accept, Deny, Bind, GiveBack, BeDenied, TimeOut, Withdraw, FreeAsker, FreeFar, CloseAsker, CloseFar, Forward, Drop, happened, May}
use Rattle.rina_asks.specs.Holding.{AllHolds}
use Rattle.rina_asks.proofs.Messages.{get_in}
use Rattle.rina_asks.proofs.Owning.{ask_own}
use Rattle.rina_asks.proofs.Requests as request_list

-- No other row makes one

same_far : (flows : List Flow) (i : ℕ) (f g : Flow) (far : Endpoint) → slice_get flows i ≡ Some f → f.far ≡ None → slice_get flows i ≡ Some g → g.far ≡ Some far → ⊥
same_far flows i f g far at free at' known = none-some far (sym free ∙ ap (λ (z : Flow). z.far) (same_flow flows i i f g refl at at') ∙ known)

put_far : (flows : List Flow) (k : ℕ) (f' x : Flow) (i : ℕ) (f g : Flow) (far : Endpoint) → slice_get flows k ≡ Some f' → (f'.far ≡ None → x.far ≡ None) → slice_get flows i ≡ Some f → f.far ≡ None → slice_get (put k x flows) i ≡ Some g → g.far ≡ Some far → ⊥
put_far flows k f' x i f g far there keeps at free at' known = elim (new_or_old flows (put k x flows) k x i g (put_changed flows k f' x there) at') [
  | inl new ↦
      (let one = same_flow flows i k f f' new.0 at there in
      none-some far (sym (keeps (sym (ap (λ (z : Flow). z.far) one) ∙ free)) ∙ ap (λ (z : Flow). z.far) new.1 ∙ known))
  | inr old ↦ same_far flows i f g far at free old.1 known
]

push_far : (flows : List Flow) (x : Flow) (i : ℕ) (f g : Flow) (far : Endpoint) → slice_get flows i ≡ Some f → f.far ≡ None → slice_get (flows ++ x ∷ []) i ≡ Some g → g.far ≡ Some far → ⊥
push_far flows x i f g far at free at' known =
    let lt = slice_get_within flows i f at in
    same_far flows i f g far at free (sym ((push_changed flows x).others i (λ e. omega arith)) ∙ at') known

-- By leave

abbrev IsByLeave : Allocation → Flow → Request → Type 0
IsByLeave s f a = In (record { addr = f.peer; app = a.ask.destination }) s.registered × In (record { addr = f.peer; app = a.ask.source }) s.allowed × (s.ledger.now < f.asked + s.rests a.ask.cube)

abbrev place : ℕ → List ℕ → Place
place addr app = record { addr = addr; app = app }

accept_by_leave : (s : Allocation) (n i : ℕ) (f : Flow) (a : Request) (to from invoke : ℕ) (ask : FlowAsk) (cep : ℕ) → AllHolds s → May s (Accept n i f a to from invoke ask cep) → IsByLeave s f a
accept_by_leave s n i f a to from invoke ask cep h may =
    let w = ask_own s i to from invoke ask f a h (get_in s.messages n (sent i to from (words.Ask invoke ask)) may.1) may.0 in
    let P : ℕ → Type 0 = λ z. In (place z ask.destination) s.registered in
    let Q : ℕ → Type 0 = λ z. In (place z ask.source) s.allowed in
    let P' : FlowAsk → Type 0 = λ z. In (place f.peer z.destination) s.registered in
    let Q' : FlowAsk → Type 0 = λ z. In (place f.peer z.source) s.allowed in
    let R : ℕ → Type 0 = λ z. s.ledger.now < z + s.rests ask.cube in
    let R' : FlowAsk → Type 0 = λ z. s.ledger.now < f.asked + s.rests z.cube in
    (subst P' w.4 (subst P w.1 may.2), subst Q' w.4 (subst Q w.1 may.4), subst R' w.4 (subst R w.6 may.3))

pub made_allowed : (s : Allocation) (row : AskRow) (i : ℕ) (f g : Flow) (a : Request) (far : Endpoint) → AllHolds s → May s row → IsAt s i f a → f.far ≡ None → slice_get (happened s row).ledger.flows i ≡ Some g → g.far ≡ Some far → IsByLeave s f a
made_allowed s (Accept n k f' a' to from invoke ask cep) i f g a far h may at free at' known = elim (cases_eq i k) [
  | inl same ↦
      (let one : f' ≡ f = same_flow s.ledger.flows k i f' f (sym same) ((may.0).0) at.0 in
      let two : a' ≡ a = request_list.same_request s.requests k i a' a (sym same) ((may.0).1) at.1 in
      let P : Flow → Type 0 = λ z. IsByLeave s z a' in
      let Q : Request → Type 0 = λ z. IsByLeave s f z in
      subst Q two (subst P one (accept_by_leave s n k f' a' to from invoke ask cep h may)))
  | inr ne ↦ absurd (same_far s.ledger.flows i f g far at.0 free (sym ((put_changed s.ledger.flows k f' (made f' cep) ((may.0).0)).others i ne) ∙ at') known)
]
made_allowed s (Wait ticks) i f g a far h may at free at' known = absurd (same_far s.ledger.flows i f g far at.0 free at' known)
made_allowed s (Data (Cloud pdus)) i f g a far h may at free at' known = absurd (same_far s.ledger.flows i f g far at.0 free at' known)
made_allowed s (Data (Send k f' far' side p)) i f g a far h may at free at' known = absurd (same_far s.ledger.flows i f g far at.0 free at' known)
made_allowed s (Data (Time ticks)) i f g a far h may at free at' known = absurd may.0
made_allowed s (Data (Ask rest peer addr cep)) i f g a far h may at free at' known = absurd may.0
made_allowed s (Data (Make k f' cep)) i f g a far h may at free at' known = absurd may.0
made_allowed s (Data (Tell k f')) i f g a far h may at free at' known = absurd may.0
made_allowed s (Data (EndAsker k f')) i f g a far h may at free at' known = absurd may.0
made_allowed s (Data (EndFar k f' far')) i f g a far h may at free at' known = absurd may.0
made_allowed s (Rules registered allowed) i f g a far h may at free at' known = absurd (same_far s.ledger.flows i f g far at.0 free at' known)
made_allowed s (Allocate peer addr invoke ask) i f g a far h may at free at' known = absurd (push_far s.ledger.flows (asked_flow s.ledger.now (s.rests ask.cube) peer addr ask.scep) i f g far at.0 free at' known)
made_allowed s (Deny n k to from invoke ask answer) i f g a far h may at free at' known = absurd (same_far s.ledger.flows i f g far at.0 free at' known)
made_allowed s (Bind n k f' a' to from invoke dcep scep) i f g a far h may at free at' known = absurd (put_far s.ledger.flows k f' (told_flow f') i f g far ((may.0).0) (λ z. z) at.0 free at' known)
made_allowed s (GiveBack n k f' a' to from invoke dcep scep) i f g a far h may at free at' known = absurd (same_far s.ledger.flows i f g far at.0 free at' known)
made_allowed s (BeDenied n k f' a' to from invoke answer) i f g a far h may at free at' known = absurd (put_far s.ledger.flows k f' (ended_asker s.ledger.now f') i f g far ((may.0).0) (λ z. z) at.0 free at' known)
made_allowed s (TimeOut k f' a') i f g a far h may at free at' known = absurd (put_far s.ledger.flows k f' (ended_asker s.ledger.now f') i f g far ((may.0).0) (λ z. z) at.0 free at' known)
made_allowed s (Withdraw k f' a') i f g a far h may at free at' known = absurd (put_far s.ledger.flows k f' (ended_asker s.ledger.now f') i f g far ((may.0).0) (λ z. z) at.0 free at' known)
made_allowed s (FreeAsker k f' a' pair) i f g a far h may at free at' known = absurd (put_far s.ledger.flows k f' (ended_asker s.ledger.now f') i f g far ((may.0).0) (λ z. z) at.0 free at' known)
made_allowed s (FreeFar k f' a' far' e pair) i f g a far h may at free at' known = absurd (put_far s.ledger.flows k f' (ended_far s.ledger.now f' far') i f g far ((may.0).0) (λ z. absurd (none-some far' (sym z ∙ may.1))) at.0 free at' known)
made_allowed s (CloseAsker n k j f' a' to from dcep scep) i f g a far h may at free at' known = absurd (put_far s.ledger.flows j f' (ended_asker s.ledger.now f') i f g far ((may.0).0) (λ z. z) at.0 free at' known)
made_allowed s (CloseFar n k j f' a' far' e to from dcep scep) i f g a far h may at free at' known = absurd (put_far s.ledger.flows j f' (ended_far s.ledger.now f' far') i f g far ((may.0).0) (λ z. absurd (none-some far' (sym z ∙ may.2))) at.0 free at' known)
made_allowed s (Forward n m) i f g a far h may at free at' known = absurd (same_far s.ledger.flows i f g far at.0 free at' known)
made_allowed s (Drop n) i f g a far h may at free at' known = absurd (same_far s.ledger.flows i f g far at.0 free at' known)

-- Afresh

pub accepted_fresh : (s : Allocation) (n i : ℕ) (f : Flow) (a : Request) (to from invoke : ℕ) (ask : FlowAsk) (cep : ℕ) (side : Side) (p : InFlight Four) → AllHolds s → May s (Accept n i f a to from invoke ask cep) → MayCome s.ledger p →
    GoesFrom side f.asker (record { addr = f.peer; cep = cep; ended = None }) p.pdu → ⊥
accepted_fresh s n i f a to from invoke ask cep side p h may comes goes =
    let at = may.0 in
    let w = ask_own s i to from invoke ask f a h (get_in s.messages n (sent i to from (words.Ask invoke ask)) may.1) at in
    let young = (accept_by_leave s n i f a to from invoke ask cep h may).2 in
    let R : ℕ → Type 0 = λ z. s.ledger.now < f.asked + z in
    let P : ℕ → Type 0 = λ z. IsFree s.ledger.now s.ledger.flows z cep in
    made_fresh s.ledger i cep f side p h.ledger_holds (at.0, w.0, subst R (sym (((h.request i f a at.0 at.1).ask).3)) young, subst P w.1 may.5) comes goes
