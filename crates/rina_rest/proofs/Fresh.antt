-- What follows for PDUs that are not dead, and for ids that are drawn.
use Rattle.std.proofs.Common.{◌≡◌, ℕ, ◌≤◌, ◌⊎◌, true, false, ◌+◌, ◌<◌, List, slice_get, Some, None, refl, sym, ◌∙◌, ap, subst, inl, inr}
use Rattle.std.proofs.lemmas.Bool.{false≢true}
use Rattle.std.proofs.lemmas.Option.{same_Some}
use Rattle.rina_law.specs.Line.{InFlight}
use Rattle.rina_rest.specs.Flows.{Endpoint, HasSameId, Side, Asker, Far, Flow, end_at, IsFree, IsInUse, IsSameFour, Four, Goes, GoesFrom, IsOf}
use Rattle.rina_rest.specs.Laws.{MayCome}
use Rattle.rina_rest.specs.Ledger.{Ledger, Make, Tell, IsAllowed, FlowHolds, LedgerHolds, Listed, Holds}
use Rattle.rina_rest.proofs.Lists.{same_flow}
use Rattle.rina_rest.proofs.Holding.{unended, same_to, four_of, goes_still, used_by}
use Rattle.rina_rest.proofs.Rows.{make_alone}

goes_either : (side : Side) (a b : Endpoint) (four : Four) → GoesFrom side a b four → Goes a b four ⊎ Goes b a four
goes_either Asker a b four g = inl g
goes_either Far a b four g = inr g

-- where the asker waits, or stands, its connection is in use
abbrev pub asker_in_use : (now : ℕ) (f : Flow) (far : Endpoint) → f.asker.ended ≡ None → f.far ≡ Some far → IsInUse now f
asker_in_use now f far stands known = record { far = far; known = known; unrested = λ r q. unended f.rest now f.asker.ended stands r }

told_goes : (side : Side) (f : Flow) (far : Endpoint) (four : Four) → f.told ≡ false → (side ≡ Asker → f.told ≡ true) → (far.addr ≡ f.asker.addr → ⊥) → GoesFrom side f.asker far four → Goes f.asker far four → ⊥
told_goes Asker f far four waiting told ne g e = false≢true (sym waiting ∙ told refl)
told_goes Far f far four waiting told ne g e = ne (sym (g.0) ∙ e.0)

-- the two ends of a flow are at two addresses
goes_one_side : (now : ℕ) (f : Flow) (side other : Side) (a b : Endpoint) (four : Four) → FlowHolds now f → f.far ≡ Some a → f.far ≡ Some b → GoesFrom side f.asker a four → GoesFrom other f.asker b four → side ≡ other
goes_one_side now f Asker Asker a b four flow x y g e = refl
goes_one_side now f Far Far a b four flow x y g e = refl
goes_one_side now f Asker Far a b four flow x y g e = absurd (flow.elsewhere (sym (flow.there b y) ∙ sym e.0 ∙ g.0))
goes_one_side now f Far Asker a b four flow x y g e = absurd (flow.elsewhere (sym (flow.there a x) ∙ sym g.0 ∙ e.0))

-- Of any cloud: a DIF that keeps its cloud in another way than a list takes these

module _ (now : ℕ) (flows : List Flow) (cloud : ℕ → Four → Type 0) (h : LedgerHolds now flows cloud) (death : ℕ) (four : Four) (comes : cloud death four) (alive : now ≤ death) where
  pub named_in_use : (i : ℕ) × (f : Flow) × (u : IsInUse now f) × (slice_get flows i ≡ Some f) × (Goes f.asker u.far four ⊎ Goes u.far f.asker four)
  named_in_use =
      let a = h.alive death four comes alive in
      let o = a.3 in
      (a.0, a.1, used_by now (a.1) death four alive o, a.2, goes_either o.side (a.1).asker o.far four o.goes)

  pub comes_own : (i : ℕ) (f : Flow) (u : IsInUse now f) (side : Side) → slice_get flows i ≡ Some f → GoesFrom side f.asker u.far four → IsOf now f death four
  comes_own i f u side at goes =
      let a = h.alive death four comes alive in
      let o = a.3 in
      let is = h.fours i (a.0) f (a.1) u (used_by now (a.1) death four alive o) at (a.2) (four_of side o.side f.asker u.far (a.1).asker o.far four goes o.goes) in
      let P : Flow → Type 0 = λ z. IsOf now z death four in
      subst P (sym (same_flow flows i (a.0) f (a.1) is at (a.2))) o

  -- the far end is made
  pub none_for_made : (i cep : ℕ) (f : Flow) (side : Side) → slice_get flows i ≡ Some f → f.far ≡ None → now < f.asked + f.rest → IsFree now flows f.peer cep → GoesFrom side f.asker (record { addr = f.peer; cep = cep; ended = None }) four → ⊥
  none_for_made i cep f side at none young free goes =
      let a = h.alive death four comes alive in
      let o = a.3 in
      let end : Endpoint = record { addr = f.peer; cep = cep; ended = None } in
      make_alone now flows cloud i f cep h at none young free (a.0) (a.1) end (used_by now (a.1) death four alive o) (a.2) refl refl (four_of side o.side f.asker end (a.1).asker o.far four goes o.goes)

  -- the answer comes
  pub none_for_told : (i : ℕ) (f : Flow) (far : Endpoint) → slice_get flows i ≡ Some f → f.asker.ended ≡ None → f.told ≡ false → f.far ≡ Some far → Goes f.asker far four → ⊥
  none_for_told i f far at stands waiting known goes =
      let mine = comes_own i f (asker_in_use now f far stands known) Asker at goes in
      let end : mine.far ≡ far = same_Some mine.far far (sym mine.known ∙ known) in
      let flow = h.flow i f at in
      told_goes mine.side f far four waiting mine.told (λ e. flow.elsewhere (sym (flow.there far known) ∙ e)) (goes_still mine.side f.asker mine.far f.asker far four (refl, refl) (same_to mine.far far end) mine.goes) goes

pub one_flow_and_side : (now : ℕ) (flows : List Flow) (cloud : ℕ → Four → Type 0) (i k : ℕ) (f g : Flow) (side other : Side) (u : IsInUse now f) (v : IsInUse now g) (four : Four) → LedgerHolds now flows cloud → slice_get flows i ≡ Some f → slice_get flows k ≡ Some g → GoesFrom side f.asker u.far four → GoesFrom other g.asker v.far four →
    (i ≡ k) × (side ≡ other)
one_flow_and_side now flows cloud i k f g side other u v four h x y goes goes' =
    let is = h.fours i k f g u v x y (four_of side other f.asker u.far g.asker v.far four goes goes') in
    let one : g ≡ f = sym (same_flow flows i k f g is x y) in
    let P : Flow → Type 0 = λ z. (z.far ≡ Some v.far) × GoesFrom other z.asker v.far four in
    let back = subst P one (v.known, goes') in
    (is, goes_one_side now f side other u.far v.far four (h.flow i f x) u.known back.0 goes back.1)

-- Of a ledger

pub fours_tell_sides : (s : Ledger) (i k : ℕ) (f g : Flow) (side other : Side) (u : IsInUse s.now f) (v : IsInUse s.now g) (four : Four) → Holds s → slice_get s.flows i ≡ Some f → slice_get s.flows k ≡ Some g → GoesFrom side f.asker u.far four → GoesFrom other g.asker v.far four → (i ≡ k) × (side ≡ other)
fours_tell_sides s i k f g side other u v four h x y goes goes' = one_flow_and_side s.now s.flows (Listed s.pdus) i k f g side other u v four h x y goes goes'

pub live_in_use : (s : Ledger) (p : InFlight Four) → Holds s → MayCome s p → (i : ℕ) × (f : Flow) × (u : IsInUse s.now f) × (slice_get s.flows i ≡ Some f) × (Goes f.asker u.far p.pdu ⊎ Goes u.far f.asker p.pdu)
live_in_use s p h comes = named_in_use s.now s.flows (Listed s.pdus) h p.death p.pdu comes.0 comes.1

pub fours_apart : (s : Ledger) (i k : ℕ) (f g : Flow) (u : IsInUse s.now f) (v : IsInUse s.now g) → Holds s → slice_get s.flows i ≡ Some f → slice_get s.flows k ≡ Some g → IsSameFour f.asker u.far g.asker v.far → i ≡ k
fours_apart s i k f g u v h x y same = h.fours i k f g u v x y same

-- the ends of one flow are at two addresses
pub one_side : (now : ℕ) (f : Flow) (side other : Side) (a b : Endpoint) → FlowHolds now f → end_at side f ≡ Some a → end_at other f ≡ Some b → a.addr ≡ b.addr → side ≡ other
one_side now f Asker Asker a b flow x y same = refl
one_side now f Far Far a b flow x y same = refl
one_side now f Asker Far a b flow x y same = absurd (flow.elsewhere (sym (flow.there b y) ∙ sym same ∙ sym (ap (λ (z : Endpoint). z.addr) (same_Some f.asker a x))))
one_side now f Far Asker a b flow x y same = absurd (flow.elsewhere (sym (flow.there a x) ∙ same ∙ sym (ap (λ (z : Endpoint). z.addr) (same_Some f.asker b y))))

pub standing_alone : (s : Ledger) (i k : ℕ) (f g : Flow) (side other : Side) (a b : Endpoint) → Holds s → slice_get s.flows i ≡ Some f → slice_get s.flows k ≡ Some g → end_at side f ≡ Some a → end_at other g ≡ Some b → a.ended ≡ None → b.ended ≡ None → HasSameId a b → (i ≡ k) × (side ≡ other)
standing_alone s i k f g side other a b h x y is is' stands stands' same =
    let one = h.ids i k f g side other a b x y is is' same (unended f.rest s.now a.ended stands) (unended g.rest s.now b.ended stands') in
    let P : Flow → Type 0 = λ z. end_at other z ≡ Some b in
    (one, one_side s.now f side other a b (h.flow i f x) is (subst P (sym (same_flow s.flows i k f g one x y)) is') same.0)

pub arrival_own : (s : Ledger) (i : ℕ) (f : Flow) (u : IsInUse s.now f) (side : Side) (p : InFlight Four) → Holds s → slice_get s.flows i ≡ Some f → MayCome s p → GoesFrom side f.asker u.far p.pdu → IsOf s.now f p.death p.pdu
arrival_own s i f u side p h at comes goes = comes_own s.now s.flows (Listed s.pdus) h p.death p.pdu comes.0 comes.1 i f u side at goes

pub made_alone : (s : Ledger) (i cep k : ℕ) (f g : Flow) (v : IsInUse s.now g) → Holds s → IsAllowed s (Make i f cep) → slice_get s.flows k ≡ Some g → IsSameFour f.asker (record { addr = f.peer; cep = cep; ended = None }) g.asker v.far → ⊥
made_alone s i cep k f g v h may e same =
    let end : Endpoint = record { addr = f.peer; cep = cep; ended = None } in
    make_alone s.now s.flows (Listed s.pdus) i f cep h may.0 may.1 may.2 may.3 k g end v e refl refl same

pub made_fresh : (s : Ledger) (i cep : ℕ) (f : Flow) (side : Side) (p : InFlight Four) → Holds s → IsAllowed s (Make i f cep) → MayCome s p → GoesFrom side f.asker (record { addr = f.peer; cep = cep; ended = None }) p.pdu → ⊥
made_fresh s i cep f side p h may comes goes = none_for_made s.now s.flows (Listed s.pdus) h p.death p.pdu comes.0 comes.1 i cep f side may.0 may.1 may.2 may.3 goes

pub told_fresh : (s : Ledger) (i : ℕ) (f : Flow) (far : Endpoint) (p : InFlight Four) → Holds s → IsAllowed s (Tell i f) → f.far ≡ Some far → MayCome s p → Goes f.asker far p.pdu → ⊥
told_fresh s i f far p h may known comes goes = none_for_told s.now s.flows (Listed s.pdus) h p.death p.pdu comes.0 comes.1 i f far may.0 may.1 may.2 known goes

pub told_alone : (s : Ledger) (i k : ℕ) (f g : Flow) (far : Endpoint) (v : IsInUse s.now g) → Holds s → IsAllowed s (Tell i f) → f.far ≡ Some far → slice_get s.flows k ≡ Some g → IsSameFour f.asker far g.asker v.far → i ≡ k
told_alone s i k f g far v h may known e same = h.fours i k f g (asker_in_use s.now f far may.1 known) v may.0 e same
