-- What a delete closes.
use Rattle.std.proofs.Common.{◌≡◌, ℕ, slice_get, Some, None, refl, sym, ◌∙◌, ap, subst}
use Rattle.std.proofs.lemmas.Option.{none-some, same_Some}
use Rattle.rina_law.specs.Lists.{In}
use Rattle.rina_alloc.specs.declared.event.Pair.{Pair}
use Rattle.rina_alloc.specs.declared.message.FlowWord.TheVariants as words
use Rattle.rina_rest.specs.Flows.{Endpoint, HasRested, Side, Asker, Far, Flow, end_at, ended_of, IsInUse, Four, Goes, GoesFrom}
use Rattle.rina_rest.specs.Ledger.{ended_asker, ended_far, Stands}
use Rattle.rina_rest.proofs.Holding.{unended, four_of}
use Rattle.rina_rest.proofs.Lists.{put_changed}
use Rattle.rina_asks.specs.Allocation.{FarSide, Request, sent, Allocation, IsAt, AskRow, Wait, Data, Rules, Allocate, Accept, Deny, Bind, GiveBack, BeDenied, TimeOut, Withdraw, FreeAsker, FreeFar, CloseAsker, CloseFar, Forward, Drop, May}
use Rattle.rina_asks.specs.Holding.{four_of_delete, AllHolds}
use Rattle.rina_asks.specs.Laws.{Closes, GoesTo, IsNamedEnd}
use Rattle.rina_asks.proofs.Machines.{bound_is, far_is, bound_while, bound_standing}
use Rattle.rina_asks.proofs.Messages.{get_in}
use Rattle.rina_asks.proofs.Owning.{delete_of_flow}

-- a delete that was made for the i-th flow, and is on its way
abbrev IsOnWay : Allocation → ℕ → Four → Type 0
IsOnWay s i four = In (sent i four.dst four.src (words.Delete four.dcep four.scep)) s.messages

abbrev IsClosing : Allocation → AskRow → ℕ → ℕ → Four → Type 0
IsClosing s row i j four = IsOnWay s i four × IsNamedEnd s row j four

turn : (s : Allocation) (row : AskRow) (i i' j j' : ℕ) (four four' : Four) → i ≡ i' → j ≡ j' → four ≡ four' → IsClosing s row i j four → IsClosing s row i' j' four'
turn s row i i' j j' four four' e e' e'' is =
    let P : ℕ → Type 0 = λ z. IsClosing s row z j four in
    let Q : ℕ → Type 0 = λ z. IsClosing s row i' z four in
    let R : Four → Type 0 = λ z. IsClosing s row i' j' z in
    subst R e'' (subst Q e' (subst P e is))

closing : (s : Allocation) (row : AskRow) (i j : ℕ) (four : Four) → AllHolds s → May s row → Closes row i j four → IsClosing s row i j four
closing s (CloseAsker n i' j' g a to from dcep scep) i j four h may closes =
    let at = may.0 in
    let b = bound_is a.asking.waits a.asking.bound g (record { far = scep; own = dcep }) may.2 (h.request j' g a at.0 at.1).asker in
    let far = b.3 in
    let flow = h.ledger_holds.flow j' g at.0 in
    turn s (CloseAsker n i' j' g a to from dcep scep) i' i j' j (four_of_delete to from dcep scep) four closes.0 closes.1 closes.2 (
      get_in s.messages n (sent i' to from (words.Delete dcep scep)) may.1,
      record {
        flow = g;
        far = far;
        side = Asker;
        at = at.0;
        known = b.4;
        stood = b.0;
        goes = (may.4 ∙ sym (flow.there far (b.4)), b.5, may.3, b.2);
        closed = (put_changed s.ledger.flows j' g (ended_asker s.ledger.now g) at.0).at;
      },
    )
closing s (CloseFar n i' j' g a far e to from dcep scep) i j four h may closes =
    let at = may.0 in
    let is = far_is a.ask g.asker.addr g.asker.cep g.far a.far_side far e may.2 may.3 (h.request j' g a at.0 at.1).far in
    let b = bound_while far.ended (record { far = g.asker.cep; own = far.cep }) (record { far = scep; own = dcep }) e.asked.bound (is.4) may.4 in
    turn s (CloseFar n i' j' g a far e to from dcep scep) i' i j' j (four_of_delete to from dcep scep) four closes.0 closes.1 closes.2 (
      get_in s.messages n (sent i' to from (words.Delete dcep scep)) may.1,
      record {
        flow = g;
        far = far;
        side = Far;
        at = at.0;
        known = may.2;
        stood = b.0;
        goes = (may.6 ∙ is.3, sym (ap (λ (z : Pair). z.far) b.1), may.5, sym (ap (λ (z : Pair). z.own) b.1));
        closed = (put_changed s.ledger.flows j' g (ended_far s.ledger.now g far) at.0).at;
      },
    )
closing s (Wait ticks) i j four h may closes = absurd closes
closing s (Data row) i j four h may closes = absurd closes
closing s (Rules registered allowed) i j four h may closes = absurd closes
closing s (Allocate peer addr invoke ask) i j four h may closes = absurd closes
closing s (Accept n k f a to from invoke ask cep) i j four h may closes = absurd closes
closing s (Deny n k to from invoke ask answer) i j four h may closes = absurd closes
closing s (Bind n k f a to from invoke dcep scep) i j four h may closes = absurd closes
closing s (GiveBack n k f a to from invoke dcep scep) i j four h may closes = absurd closes
closing s (BeDenied n k f a to from invoke answer) i j four h may closes = absurd closes
closing s (TimeOut k f a) i j four h may closes = absurd closes
closing s (Withdraw k f a) i j four h may closes = absurd closes
closing s (FreeAsker k f a pair) i j four h may closes = absurd closes
closing s (FreeFar k f a far e pair) i j four h may closes = absurd closes
closing s (Forward n m) i j four h may closes = absurd closes
closing s (Drop n) i j four h may closes = absurd closes

pub closed_named : (s : Allocation) (row : AskRow) (i j : ℕ) (four : Four) → AllHolds s → May s row → Closes row i j four → IsNamedEnd s row j four
closed_named s row i j four h may closes = (closing s row i j four h may closes).1

-- One end at most

-- the end of a side, where it stands, has the address and the CEP-id that the delete goes to
record IsTarget (s : Allocation) (j : ℕ) (four : Four) : Type 0 where
  flow : Flow
  side : Side
  end : Endpoint
  at : slice_get s.ledger.flows j ≡ Some flow
  is : end_at side flow ≡ Some end
  stands : end.ended ≡ None
  addr : four.dst ≡ end.addr
  cep : four.dcep ≡ end.cep

target_of : (s : Allocation) (j : ℕ) (four : Four) (flow : Flow) (far : Endpoint) (side : Side) → slice_get s.ledger.flows j ≡ Some flow → flow.far ≡ Some far → Stands side flow far → GoesTo side flow.asker far four → IsTarget s j four
target_of s j four flow far Asker at known stood goes = record { flow = flow; side = Asker; end = flow.asker; at = at; is = refl; stands = stood; addr = goes.2; cep = goes.3 }
target_of s j four flow far Far at known stood goes = record { flow = flow; side = Far; end = far; at = at; is = known; stands = stood; addr = goes.2; cep = goes.3 }

pub closed_one : (s : Allocation) (row other : AskRow) (i j k : ℕ) (four : Four) → AllHolds s → May s row → May s other → Closes row i j four → Closes other i k four → j ≡ k
closed_one s row other i j k four h may may' closes closes' =
    let p = closed_named s row i j four h may closes in
    let q = closed_named s other i k four h may' closes' in
    let x = target_of s j four p.flow p.far p.side p.at p.known p.stood p.goes in
    let y = target_of s k four q.flow q.far q.side q.at q.known q.stood q.goes in
    h.ledger_holds.ids j k x.flow y.flow x.side y.side x.end y.end x.at y.at x.is y.is (sym x.addr ∙ y.addr, sym x.cep ∙ y.cep) (λ r. unended x.flow.rest s.ledger.now x.end.ended x.stands r) (λ r. unended y.flow.rest s.ledger.now y.end.ended y.stands r)

-- Its own flow's, while that is in use

-- the side from which it goes
abbrev other_side : Side → Side
other_side Asker = Far
other_side Far = Asker

goes_back : (side : Side) (a b : Endpoint) (four : Four) → GoesTo side a b four → GoesFrom (other_side side) a b four
goes_back Asker a b four goes = goes
goes_back Far a b four goes = goes

used_where_stands : (now : ℕ) (side : Side) (f : Flow) (far : Endpoint) → f.far ≡ Some far → Stands side f far → (HasRested f.rest now f.asker → HasRested f.rest now far → ⊥)
used_where_stands now Asker f far known stands r q = unended f.rest now f.asker.ended stands r
used_where_stands now Far f far known stands r q = unended f.rest now far.ended stands q

pub used_own : (s : Allocation) (row : AskRow) (i j : ℕ) (four : Four) (f : Flow) → AllHolds s → May s row → Closes row i j four → slice_get s.ledger.flows i ≡ Some f → IsInUse s.ledger.now f → i ≡ j
used_own s row i j four f h may closes at u =
    let c = closing s row i j four h may closes in
    let p = c.1 in
    let d = delete_of_flow s i four.dst four.src four.dcep four.scep f h c.0 at in
    let P : Endpoint → Type 0 = λ z. GoesFrom (d.2) f.asker z four in
    let mine : GoesFrom (d.2) f.asker u.far four = subst P (same_Some (d.0) u.far (sym (d.1) ∙ u.known)) (d.3) in
    let v : IsInUse s.ledger.now p.flow = record { far = p.far; known = p.known; unrested = used_where_stands s.ledger.now p.side p.flow p.far p.known p.stood } in
    h.ledger_holds.fours i j f p.flow u v at p.at (four_of (d.2) (other_side p.side) f.asker u.far p.flow.asker p.far four mine (goes_back p.side p.flow.asker p.far four p.goes))

-- What it finds

-- it goes to the end that stands
to_far : (side : Side) (f : Flow) (far end : Endpoint) (four : Four) (t : ℕ) → far ≡ end → end.ended ≡ None → ended_of side f far ≡ Some t → GoesFrom side f.asker far four → Goes f.asker end four
to_far Asker f far end four t one stands ended goes = (goes.0, goes.1, goes.2 ∙ ap (λ (z : Endpoint). z.addr) one, goes.3 ∙ ap (λ (z : Endpoint). z.cep) one)
to_far Far f far end four t one stands ended goes = absurd (none-some t (sym stands ∙ sym (ap (λ (z : Endpoint). z.ended) one) ∙ ended))

to_asker : (side : Side) (f : Flow) (far end : Endpoint) (four : Four) (t : ℕ) → far ≡ end → f.asker.ended ≡ None → ended_of side f far ≡ Some t → GoesFrom side f.asker far four → Goes end f.asker four
to_asker Asker f far end four t one stands ended goes = absurd (none-some t (sym stands ∙ ended))
to_asker Far f far end four t one stands ended goes = (goes.0 ∙ ap (λ (z : Endpoint). z.addr) one, goes.1 ∙ ap (λ (z : Endpoint). z.cep) one, goes.2, goes.3)

abbrev pair_of : ℕ → ℕ → Pair
pair_of far own = record { far = far; own = own }

same_pair : (p : Pair) (far own far' own' : ℕ) → p ≡ pair_of far own → far ≡ far' → own ≡ own' → p ≡ pair_of far' own'
same_pair p far own far' own' e x y = e ∙ ap (λ (z : ℕ). pair_of z own) x ∙ ap (λ (z : ℕ). pair_of far' z) y

pub delete_finds_far : (s : Allocation) (n i : ℕ) (f : Flow) (a : Request) (far : Endpoint) (e : FarSide) (to from dcep scep : ℕ) → AllHolds s → slice_get s.messages n ≡ Some (sent i to from (words.Delete dcep scep)) → IsAt s i f a → f.far ≡ Some far → a.far_side ≡ Some e → far.ended ≡ None →
    May s (CloseFar n i i f a far e to from dcep scep)
delete_finds_far s n i f a far e to from dcep scep h is at known there stands =
    let d = delete_of_flow s i to from dcep scep f h (get_in s.messages n (sent i to from (words.Delete dcep scep)) is) at.0 in
    let q = to_far (d.2) f (d.0) far (four_of_delete to from dcep scep) (d.4) (same_Some (d.0) far (sym (d.1) ∙ known)) stands (d.5) (d.3) in
    let w = far_is a.ask f.asker.addr f.asker.cep f.far a.far_side far e known there (h.request i f a at.0 at.1).far in
    let b = bound_standing far.ended (pair_of f.asker.cep far.cep) e.asked.bound (w.4) stands in
    (at, is, known, there, b ∙ ap Some (same_pair (pair_of f.asker.cep far.cep) f.asker.cep far.cep scep dcep refl (sym q.1) (sym q.3)), q.2, q.0 ∙ sym (w.3))

pub delete_finds_asker : (s : Allocation) (n i : ℕ) (f : Flow) (a : Request) (pair : Pair) (to from dcep scep : ℕ) → AllHolds s → slice_get s.messages n ≡ Some (sent i to from (words.Delete dcep scep)) → IsAt s i f a → a.asking.bound ≡ Some pair → May s (CloseAsker n i i f a to from dcep scep)
delete_finds_asker s n i f a pair to from dcep scep h is at bound =
    let d = delete_of_flow s i to from dcep scep f h (get_in s.messages n (sent i to from (words.Delete dcep scep)) is) at.0 in
    let b = bound_is a.asking.waits a.asking.bound f pair bound (h.request i f a at.0 at.1).asker in
    let flow = h.ledger_holds.flow i f at.0 in
    let q = to_asker (d.2) f (d.0) (b.3) (four_of_delete to from dcep scep) (d.4) (same_Some (d.0) (b.3) (sym (d.1) ∙ b.4)) (b.0) (d.5) (d.3) in
    (at, is, bound ∙ ap Some (same_pair pair pair.far pair.own scep dcep refl (b.5 ∙ sym q.1) (b.2 ∙ sym q.3)), q.2, q.0 ∙ flow.there (b.3) (b.4))
