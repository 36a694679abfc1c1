-- What the own ends of an IPC process made and keep, as one end or one direction changes.
use Rattle.std.proofs.Common.{◌≡◌, ◌≢◌, ℕ, suc, ◌+◌, ◌&&◌, not, Bool, true, false, cond, eqb, ltb, List, [], ◌∷◌, get_or, length, length-set, slice_get, slice_set, Some, None, Option, option_and_then, refl, sym, ◌∙◌, ap, subst, arith, inl, inr}
use Rattle.std.specs.Prelude.{position}
use Rattle.std.specs.List.{position_or_len, prefix_len}
use Rattle.std.proofs.lemmas.Bool.{and_parts, eq-eqb, eqb-true}
use Rattle.std.proofs.lemmas.Bool.Decides.{eqb_tells}
use Rattle.std.proofs.lemmas.List.Quantifiers.{position-Some}
use Rattle.std.proofs.lemmas.Option.{get_or_from_slice_get, slice_get_within}
use Rattle.rina_base.specs.declared.number.FlowName.{FlowName}
use Rattle.rina_base.specs.declared.number.Key.{Key}
use Rattle.rina_iface.specs.declared.ends.End.{End}
use Rattle.rina_iface.proofs.Changed.{slice_get-set_other, slice_get-set_same}
use Rattle.rina_iface.specs.declared.state.PortState.{PortState}
use Rattle.rina_iface.specs.declared.state.Role.{Role}
use Rattle.rina_iface.specs.declared.state.Role.TheVariants.{Asker, Far}
use Rattle.rina_iface.specs.Journal.{At, IsPartner}
use Rattle.rina_law.specs.declared.entry.Entry.{Entry}
use Rattle.rina_law.specs.Direction.{Direction}
use Rattle.rina_dif_law.specs.Accounted.{held_by, held_in, inbound_of, is_other, is_other_of, is_other_role, journal_numbers, kept_by, made_by, total}
use Rattle.rina_dif_law.specs.Counting.{held_numbers, times}
use Rattle.rina_dif_law.specs.Ids.{Ids}
use Rattle.rina_dif_law.specs.Standing.{IsJournal}
use Rattle.rina_dif_law.proofs.Own.{one_partner, partner_back}
use Rattle.rina_dif_law.proofs.Shares.{position_only}
use Rattle.rina_dif_law.proofs.Totals.{total_change, total_same}

-- An end that changes, or stays

pub record IsEndChanged (ends ends' : List End) (at : ℕ) (e e' : End) : Type 0 where
  pub number : length ends' ≡ length ends
  pub old : slice_get ends at ≡ Some e
  pub new : slice_get ends' at ≡ Some e'
  pub others : (i : ℕ) → i ≢ at → slice_get ends' i ≡ slice_get ends i
  pub flow : e'.flow ≡ e.flow
  pub role : e'.role ≡ e.role

pub end_changed : (ends : List End) (at : ℕ) (e e' : End) → slice_get ends at ≡ Some e → e'.flow ≡ e.flow → e'.role ≡ e.role → IsEndChanged ends (slice_set ends at e') at e e'
end_changed ends at e e' is flow role = record { flow = flow; role = role; number = length-set ends at e'; old = is; new = slice_get-set_same ends at e e' is; others = λ i ne. slice_get-set_other ends at i e' ne }

pub end_stays : (ends : List End) (at : ℕ) (e : End) → slice_get ends at ≡ Some e → IsEndChanged ends ends at e e
end_stays ends at e is = record { flow = refl; role = refl; number = refl; old = is; new = is; others = λ i ne. refl }

-- Where the other end of a flow is found

prefix_same : {X : Type 0} (p q : X → Bool) (xs ys : List X) → length ys ≡ length xs → ((i : ℕ) (x y : X) → slice_get xs i ≡ Some x → slice_get ys i ≡ Some y → q y ≡ p x) → prefix_len q ys ≡ prefix_len p xs
prefix_same p q [] [] alike same = refl
prefix_same p q [] (y ∷ ys) alike same = absurd (omega arith)
prefix_same p q (x ∷ xs) [] alike same = absurd (omega arith)
prefix_same p q (x ∷ xs) (y ∷ ys) alike same =
    let rest = prefix_same p q xs ys (omega (arith, alike)) (λ i a b h g. same (suc i) a b h g) in
    ap (λ (b : Bool). cond b (1 + prefix_len q ys) 0) (same 0 x y refl refl) ∙ ap (λ (n : ℕ). cond (p x) (1 + n) 0) rest

position_same : {X : Type 0} (p : X → Bool) (xs ys : List X) → length ys ≡ length xs → ((i : ℕ) (x y : X) → slice_get xs i ≡ Some x → slice_get ys i ≡ Some y → p y ≡ p x) → position p ys ≡ position p xs
position_same p xs ys alike same =
    let place : position_or_len p ys ≡ position_or_len p xs = prefix_same (λ x. not (p x)) (λ x. not (p x)) xs ys alike (λ i x y h g. ap (λ (b : Bool). not b) (same i x y h g)) in
    ap (λ (n : ℕ). cond (ltb n (length ys)) (Some n) None) place ∙ ap (λ (n : ℕ). cond (ltb (position_or_len p xs) n) (Some (position_or_len p xs)) None) alike

-- an end that changes keeps its flow name and its role
other_same : (ends ends' : List End) (at : ℕ) (e e' : End) → IsEndChanged ends ends' at e e' → (name : FlowName) (role : Role) → position (is_other_of name role) ends' ≡ position (is_other_of name role) ends
other_same ends ends' at e e' change name role = position_same (is_other_of name role) ends ends' change.number (λ i x y h g. elim (eqb_tells i at) [
  | inl t ↦
      let old : slice_get ends at ≡ Some x = subst (λ (j : ℕ). slice_get ends j ≡ Some x) t.1 h in
      let new : slice_get ends' at ≡ Some y = subst (λ (j : ℕ). slice_get ends' j ≡ Some y) t.1 g in
      let before = change.old in
      let after = change.new in
      let x_is : e ≡ x = cc in
      let y_is : e' ≡ y = cc in
      ap (is_other_of name role) (sym y_is) ∙ ap (λ (f : FlowName). ((eqb f.src name.src) && (eqb f.tick name.tick)) && ((eqb f.count name.count) && is_other_role role e'.role)) change.flow ∙ ap (λ (r : Role). ((eqb e.flow.src name.src) && (eqb e.flow.tick name.tick)) && ((eqb e.flow.count name.count) && is_other_role role r)) change.role ∙ ap (is_other_of name role) x_is
  | inr f ↦ (let same = change.others i f.1 in let is : y ≡ x = cc in ap (is_other_of name role) is)
])

pub inbound_changed : (ends ends' : List End) (at : ℕ) (e e' : End) (lines : List Direction) (a : End) → IsEndChanged ends ends' at e e' → inbound_of ends' lines a ≡ inbound_of ends lines a
inbound_changed ends ends' at e e' lines a change = ap (option_and_then (λ i. slice_get lines i)) (other_same ends ends' at e e' change a.flow a.role)

-- and so it is found as before
pub inbound_stays : (ends ends' : List End) (at : ℕ) (e e' : End) (lines : List Direction) → IsEndChanged ends ends' at e e' → inbound_of ends' lines e' ≡ inbound_of ends lines e
inbound_stays ends ends' at e e' lines change = inbound_changed ends ends' at e e' lines e' change ∙ ap (λ (f : FlowName). option_and_then (λ i. slice_get lines i) (position (is_other_of f e'.role) ends)) change.flow ∙ ap (λ (r : Role). option_and_then (λ i. slice_get lines i) (position (is_other_of e.flow r) ends)) change.role

-- What an end counts

and_true : (a b : Bool) → a ≡ true → b ≡ true → (a && b) ≡ true
and_true a b p q = rw (p, q) refl

pub made_own : (size addr : ℕ) (k : Key) (e : End) (c : Ids) → c.own ≡ addr → c.scep ≡ k.scep → made_by size addr k (Some e) (Some c) ≡ times k.seq (journal_numbers size e.sent)
made_own size addr k e c own scep =
    let t = and_true (eqb c.own addr) (eqb c.scep k.scep) (eq-eqb c.own addr own) (eq-eqb c.scep k.scep scep) in
    ap (λ (b : Bool). cond b (times k.seq (journal_numbers size e.sent)) 0) t

pub made_not : (size addr : ℕ) (k : Key) (e : End) (c : Ids) → (c.own ≡ addr → c.scep ≡ k.scep → ⊥) → made_by size addr k (Some e) (Some c) ≡ 0
made_not size addr k e c none = go (eqb c.own addr && eqb c.scep k.scep) refl
  where
    go : (b : Bool) → (eqb c.own addr && eqb c.scep k.scep) ≡ b → cond b (times k.seq (journal_numbers size e.sent)) 0 ≡ 0
    go true t = (let p = and_parts (eqb c.own addr) _ t in absurd (none (eqb-true c.own addr p.0) (eqb-true c.scep k.scep p.1)))
    go false t = refl

pub kept_own : (size : ℕ) (ends : List End) (lines : List Direction) (addr : ℕ) (k : Key) (e : End) (c : Ids) → c.own ≡ addr → c.far ≡ k.src → c.dcep ≡ k.scep → kept_by size ends lines addr k (Some e) (Some c) ≡ times k.seq (journal_numbers size e.got) + held_by e.state (held_in (inbound_of ends lines e) k.seq)
kept_own size ends lines addr k e c own far dcep =
    let u = and_true (eqb c.own addr) (eqb c.far k.src) (eq-eqb c.own addr own) (eq-eqb c.far k.src far) in
    let t = and_true (eqb c.own addr && eqb c.far k.src) (eqb c.dcep k.scep) u (eq-eqb c.dcep k.scep dcep) in
    ap (λ (b : Bool). cond b (times k.seq (journal_numbers size e.got) + held_by e.state (held_in (inbound_of ends lines e) k.seq)) 0) t

pub kept_not : (size : ℕ) (ends : List End) (lines : List Direction) (addr : ℕ) (k : Key) (e : End) (c : Ids) → (c.own ≡ addr → c.far ≡ k.src → c.dcep ≡ k.scep → ⊥) → kept_by size ends lines addr k (Some e) (Some c) ≡ 0
kept_not size ends lines addr k e c none = go ((eqb c.own addr && eqb c.far k.src) && eqb c.dcep k.scep) refl
  where
    go : (b : Bool) → ((eqb c.own addr && eqb c.far k.src) && eqb c.dcep k.scep) ≡ b → cond b (times k.seq (journal_numbers size e.got) + held_by e.state (held_in (inbound_of ends lines e) k.seq)) 0 ≡ 0
    go true t =
        let p = and_parts (eqb c.own addr && eqb c.far k.src) (eqb c.dcep k.scep) t in
        let q = and_parts (eqb c.own addr) (eqb c.far k.src) p.0 in
        absurd (none (eqb-true c.own addr q.0) (eqb-true c.far k.src q.1) (eqb-true c.dcep k.scep p.1))
    go false t = refl

-- What they made

abbrev pub made_in : ℕ → List Ids → ℕ → Key → List End → ℕ → ℕ
made_in size conns addr k ends j = made_by size addr k (slice_get ends j) (slice_get conns j)

pub made_same : (size : ℕ) (conns : List Ids) (addr : ℕ) (k : Key) (ends ends' : List End) (at : ℕ) (e e' : End) → IsEndChanged ends ends' at e e' → e'.sent ≡ e.sent → total (length ends') (made_in size conns addr k ends') ≡ total (length ends) (made_in size conns addr k ends)
made_same size conns addr k ends ends' at e e' change sent =
    let each : (j : ℕ) → made_in size conns addr k ends' j ≡ made_in size conns addr k ends j = λ j. elim (eqb_tells j at) [
      | inl t ↦ subst (λ (i : ℕ). made_in size conns addr k ends' i ≡ made_in size conns addr k ends i) (sym t.1) (here (slice_get conns at))
      | inr f ↦ ap (λ (o : Option End). made_by size addr k o (slice_get conns j)) (change.others j f.1)
    ] in
    ap (λ (n : ℕ). total n (made_in size conns addr k ends')) change.number ∙ total_same (length ends) (made_in size conns addr k ends') (made_in size conns addr k ends) (λ j lt. each j)
  where
    alike : (o : Option Ids) → made_by size addr k (Some e') o ≡ made_by size addr k (Some e) o
    alike None = refl
    alike (Some c) = ap (λ (xs : List Entry). cond (eqb c.own addr && eqb c.scep k.scep) (times k.seq (journal_numbers size xs)) 0) sent

    here : (o : Option Ids) → made_by size addr k (slice_get ends' at) o ≡ made_by size addr k (slice_get ends at) o
    here o = ap (λ (z : Option End). made_by size addr k z o) change.new ∙ alike o ∙ ap (λ (z : Option End). made_by size addr k z o) (sym change.old)

pub made_change : (size : ℕ) (conns : List Ids) (addr : ℕ) (k : Key) (ends ends' : List End) (at : ℕ) (e e' : End) (c : Ids) → IsEndChanged ends ends' at e e' → slice_get conns at ≡ Some c → total (length ends') (made_in size conns addr k ends') + made_by size addr k (Some e) (Some c) ≡ total (length ends) (made_in size conns addr k ends) + made_by size addr k (Some e') (Some c)
made_change size conns addr k ends ends' at e e' c change is =
    let old : made_in size conns addr k ends at ≡ made_by size addr k (Some e) (Some c) = ap (λ (o : Option End). made_by size addr k o (slice_get conns at)) change.old ∙ ap (made_by size addr k (Some e)) is in
    let new : made_in size conns addr k ends' at ≡ made_by size addr k (Some e') (Some c) = ap (λ (o : Option End). made_by size addr k o (slice_get conns at)) change.new ∙ ap (made_by size addr k (Some e')) is in
    let all = total_change (length ends) at (made_in size conns addr k ends') (made_in size conns addr k ends) (slice_get_within ends at e change.old) (λ j ne. ap (λ (o : Option End). made_by size addr k o (slice_get conns j)) (change.others j ne)) in
    let number : total (length ends') (made_in size conns addr k ends') ≡ total (length ends) (made_in size conns addr k ends') = ap (λ (n : ℕ). total n (made_in size conns addr k ends')) change.number in
    omega (arith, old, new, all, number)

-- What they keep

abbrev pub kept_in : ℕ → List Ids → List Direction → ℕ → Key → List End → ℕ → ℕ
kept_in size conns lines addr k ends j = kept_by size ends lines addr k (slice_get ends j) (slice_get conns j)

-- the directions in which other ends receive hold what they held
abbrev pub HoldElsewhere : List End → List Direction → List Direction → ℕ → ℕ → Type 0
HoldElsewhere ends lines lines' at n = (j : ℕ) (a : End) → j ≢ at → slice_get ends j ≡ Some a → held_in (inbound_of ends lines' a) n ≡ held_in (inbound_of ends lines a) n

pub kept_elsewhere : (size : ℕ) (conns : List Ids) (lines lines' : List Direction) (addr : ℕ) (k : Key) (ends ends' : List End) (at : ℕ) (e e' : End) → IsEndChanged ends ends' at e e' → HoldElsewhere ends lines lines' at k.seq → (j : ℕ) → j ≢ at → kept_in size conns lines' addr k ends' j ≡ kept_in size conns lines addr k ends j
kept_elsewhere size conns lines lines' addr k ends ends' at e e' change hold j ne = ap (λ (o : Option End). kept_by size ends' lines' addr k o (slice_get conns j)) (change.others j ne) ∙ alike (slice_get ends j) (slice_get conns j) refl
  where
    alike : (o : Option End) (i : Option Ids) → slice_get ends j ≡ o → kept_by size ends' lines' addr k o i ≡ kept_by size ends lines addr k o i
    alike None i is = refl
    alike (Some a) None is = refl
    alike (Some a) (Some c) is = ap (λ (n : ℕ). cond ((eqb c.own addr && eqb c.far k.src) && eqb c.dcep k.scep) (times k.seq (journal_numbers size a.got) + held_by a.state n) 0) (ap (λ (o : Option Direction). held_in o k.seq) (inbound_changed ends ends' at e e' lines' a change) ∙ hold j a ne is)

pub kept_change : (size : ℕ) (conns : List Ids) (lines lines' : List Direction) (addr : ℕ) (k : Key) (ends ends' : List End) (at : ℕ) (e e' : End) (c : Ids) → IsEndChanged ends ends' at e e' → slice_get conns at ≡ Some c → HoldElsewhere ends lines lines' at k.seq → total (length ends') (kept_in size conns lines' addr k ends') + kept_by size ends lines addr k (Some e) (Some c) ≡ total (length ends) (kept_in size conns lines addr k ends) + kept_by size ends' lines' addr k (Some e') (Some c)
kept_change size conns lines lines' addr k ends ends' at e e' c change is hold =
    let old : kept_in size conns lines addr k ends at ≡ kept_by size ends lines addr k (Some e) (Some c) = ap (λ (o : Option End). kept_by size ends lines addr k o (slice_get conns at)) change.old ∙ ap (kept_by size ends lines addr k (Some e)) is in
    let new : kept_in size conns lines' addr k ends' at ≡ kept_by size ends' lines' addr k (Some e') (Some c) = ap (λ (o : Option End). kept_by size ends' lines' addr k o (slice_get conns at)) change.new ∙ ap (kept_by size ends' lines' addr k (Some e')) is in
    let all = total_change (length ends) at (kept_in size conns lines' addr k ends') (kept_in size conns lines addr k ends) (slice_get_within ends at e change.old) (kept_elsewhere size conns lines lines' addr k ends ends' at e e' change hold) in
    let number : total (length ends') (kept_in size conns lines' addr k ends') ≡ total (length ends) (kept_in size conns lines' addr k ends') = ap (λ (n : ℕ). total n (kept_in size conns lines' addr k ends')) change.number in
    omega (arith, old, new, all, number)

-- where each direction holds what it held, and an end got what it had got and is in its state
abbrev pub HoldSame : List Direction → List Direction → ℕ → Type 0
HoldSame lines lines' n = (i : ℕ) → held_in (slice_get lines' i) n ≡ held_in (slice_get lines i) n

pub inbound_same : (ends : List End) (lines lines' : List Direction) (n : ℕ) (a : End) → HoldSame lines lines' n → held_in (inbound_of ends lines' a) n ≡ held_in (inbound_of ends lines a) n
inbound_same ends lines lines' n a hold = go (position (is_other a) ends)
  where
    go : (o : Option ℕ) → held_in (option_and_then (λ i. slice_get lines' i) o) n ≡ held_in (option_and_then (λ i. slice_get lines i) o) n
    go None = refl
    go (Some i) = hold i

pub hold_set : (lines : List Direction) (at : ℕ) (line line' : Direction) (n : ℕ) → slice_get lines at ≡ Some line → times n (held_numbers line') ≡ times n (held_numbers line) → HoldSame lines (slice_set lines at line') n
hold_set lines at line line' n is same i = elim (eqb_tells i at) [
  | inl t ↦ subst (λ (j : ℕ). held_in (slice_get (slice_set lines at line') j) n ≡ held_in (slice_get lines j) n) (sym t.1)
      (ap (λ (o : Option Direction). held_in o n) (slice_get-set_same lines at line line' is) ∙ same ∙ ap (λ (o : Option Direction). held_in o n) (sym is))
  | inr f ↦ ap (λ (o : Option Direction). held_in o n) (slice_get-set_other lines at i line' f.1)
]

pub kept_same : (size : ℕ) (conns : List Ids) (lines lines' : List Direction) (addr : ℕ) (k : Key) (ends ends' : List End) (at : ℕ) (e e' : End) → IsEndChanged ends ends' at e e' → e'.got ≡ e.got → e'.state ≡ e.state → HoldSame lines lines' k.seq → total (length ends') (kept_in size conns lines' addr k ends') ≡ total (length ends) (kept_in size conns lines addr k ends)
kept_same size conns lines lines' addr k ends ends' at e e' change got state hold =
    let each : (j : ℕ) → kept_in size conns lines' addr k ends' j ≡ kept_in size conns lines addr k ends j = λ j. elim (eqb_tells j at) [
      | inl t ↦ subst (λ (i : ℕ). kept_in size conns lines' addr k ends' i ≡ kept_in size conns lines addr k ends i) (sym t.1) (here (slice_get conns at))
      | inr f ↦ kept_elsewhere size conns lines lines' addr k ends ends' at e e' change (λ i a ne is. inbound_same ends lines lines' k.seq a hold) j f.1
    ] in
    ap (λ (n : ℕ). total n (kept_in size conns lines' addr k ends')) change.number ∙ total_same (length ends) (kept_in size conns lines' addr k ends') (kept_in size conns lines addr k ends) (λ j lt. each j)
  where
    alike : (o : Option Ids) → kept_by size ends' lines' addr k (Some e') o ≡ kept_by size ends lines addr k (Some e) o
    alike None = refl
    alike (Some c) =
        ap (λ (xs : List Entry). cond ((eqb c.own addr && eqb c.far k.src) && eqb c.dcep k.scep) (times k.seq (journal_numbers size xs) + held_by e'.state (held_in (inbound_of ends' lines' e') k.seq)) 0) got
        ∙ ap (λ (z : PortState). cond ((eqb c.own addr && eqb c.far k.src) && eqb c.dcep k.scep) (times k.seq (journal_numbers size e.got) + held_by z (held_in (inbound_of ends' lines' e') k.seq)) 0) state
        ∙ ap (λ (n : ℕ). cond ((eqb c.own addr && eqb c.far k.src) && eqb c.dcep k.scep) (times k.seq (journal_numbers size e.got) + held_by e.state n) 0) (ap (λ (o : Option Direction). held_in o k.seq) (inbound_stays ends ends' at e e' lines' change) ∙ inbound_same ends lines lines' k.seq e hold)

    here : (o : Option Ids) → kept_by size ends' lines' addr k (slice_get ends' at) o ≡ kept_by size ends lines addr k (slice_get ends at) o
    here o = ap (λ (z : Option End). kept_by size ends' lines' addr k z o) change.new ∙ alike o ∙ ap (λ (z : Option End). kept_by size ends lines addr k z o) (sym change.old)

-- an end that moves on without holding anything
pub kept_restated : (size : ℕ) (conns : List Ids) (lines : List Direction) (addr : ℕ) (k : Key) (ends ends' : List End) (at : ℕ) (e e' : End) → IsEndChanged ends ends' at e e' → e'.got ≡ e.got → ((n : ℕ) → held_by e.state n ≡ held_by e'.state n) → total (length ends') (kept_in size conns lines addr k ends') ≡ total (length ends) (kept_in size conns lines addr k ends)
kept_restated size conns lines addr k ends ends' at e e' change got held =
    let each : (j : ℕ) → kept_in size conns lines addr k ends' j ≡ kept_in size conns lines addr k ends j = λ j. elim (eqb_tells j at) [
      | inl t ↦ subst (λ (i : ℕ). kept_in size conns lines addr k ends' i ≡ kept_in size conns lines addr k ends i) (sym t.1) (here (slice_get conns at))
      | inr f ↦ kept_elsewhere size conns lines lines addr k ends ends' at e e' change (λ i a ne is. refl) j f.1
    ] in
    ap (λ (n : ℕ). total n (kept_in size conns lines addr k ends')) change.number ∙ total_same (length ends) (kept_in size conns lines addr k ends') (kept_in size conns lines addr k ends) (λ j lt. each j)
  where
    alike : (o : Option Ids) → kept_by size ends' lines addr k (Some e') o ≡ kept_by size ends lines addr k (Some e) o
    alike None = refl
    alike (Some c) =
        ap (λ (xs : List Entry). cond ((eqb c.own addr && eqb c.far k.src) && eqb c.dcep k.scep) (times k.seq (journal_numbers size xs) + held_by e'.state (held_in (inbound_of ends' lines e') k.seq)) 0) got
        ∙ ap (λ (n : ℕ). cond ((eqb c.own addr && eqb c.far k.src) && eqb c.dcep k.scep) (times k.seq (journal_numbers size e.got) + n) 0) (ap (λ (o : Option Direction). held_by e'.state (held_in o k.seq)) (inbound_stays ends ends' at e e' lines change) ∙ sym (held (held_in (inbound_of ends lines e) k.seq)))

    here : (o : Option Ids) → kept_by size ends' lines addr k (slice_get ends' at) o ≡ kept_by size ends lines addr k (slice_get ends at) o
    here o = ap (λ (z : Option End). kept_by size ends' lines addr k z o) change.new ∙ alike o ∙ ap (λ (z : Option End). kept_by size ends lines addr k z o) (sym change.old)

-- and the same of all ends
pub kept_all_same : (size : ℕ) (conns : List Ids) (lines lines' : List Direction) (addr : ℕ) (k : Key) (ends : List End) → HoldSame lines lines' k.seq → total (length ends) (kept_in size conns lines' addr k ends) ≡ total (length ends) (kept_in size conns lines addr k ends)
kept_all_same size conns lines lines' addr k ends hold = total_same (length ends) (kept_in size conns lines' addr k ends) (kept_in size conns lines addr k ends) (λ j lt. alike (slice_get ends j) (slice_get conns j))
  where
    alike : (o : Option End) (i : Option Ids) → kept_by size ends lines' addr k o i ≡ kept_by size ends lines addr k o i
    alike None i = refl
    alike (Some a) None = refl
    alike (Some a) (Some c) = ap (λ (n : ℕ). cond ((eqb c.own addr && eqb c.far k.src) && eqb c.dcep k.scep) (times k.seq (journal_numbers size a.got) + held_by a.state n) 0) (inbound_same ends lines lines' k.seq a hold)

-- The other end of a flow

abbrev name_of : ℕ → ℕ → ℕ → FlowName
name_of src tick count = record { src = src; tick = tick; count = count }

flow_is : (a b : FlowName) → a.src ≡ b.src → a.tick ≡ b.tick → a.count ≡ b.count → a ≡ b
flow_is a b src tick count = ap (λ (n : ℕ). name_of n a.tick a.count) src ∙ ap (λ (n : ℕ). name_of b.src n a.count) tick ∙ ap (λ (n : ℕ). name_of b.src b.tick n) count

role_differs : (r s : Role) → is_other_role r s ≡ true → s ≢ r
role_differs Asker Far t is = cc
role_differs Far Asker t is = cc
role_differs Asker Asker t is = cc
role_differs Far Far t is = cc

role_other : (r s : Role) → s ≢ r → is_other_role r s ≡ true
role_other Asker Far ne = refl
role_other Far Asker ne = refl
role_other Asker Asker ne = absurd (ne refl)
role_other Far Far ne = absurd (ne refl)

pub other_partner : (e other : End) → is_other e other ≡ true → IsPartner e other
other_partner e other t =
    let p = and_parts (eqb other.flow.src e.flow.src && eqb other.flow.tick e.flow.tick) (eqb other.flow.count e.flow.count && is_other_role e.role other.role) t in
    let q = and_parts (eqb other.flow.src e.flow.src) (eqb other.flow.tick e.flow.tick) p.0 in
    let r = and_parts (eqb other.flow.count e.flow.count) (is_other_role e.role other.role) p.1 in
    record { same_flow = flow_is other.flow e.flow (eqb-true other.flow.src e.flow.src q.0) (eqb-true other.flow.tick e.flow.tick q.1) (eqb-true other.flow.count e.flow.count r.0); other_role = role_differs e.role other.role r.1 }

pub partner_other : (e other : End) → IsPartner e other → is_other e other ≡ true
partner_other e other p =
    let same = p.same_flow in
    let a = and_true (eqb other.flow.src e.flow.src) (eqb other.flow.tick e.flow.tick) (eq-eqb other.flow.src e.flow.src (ap (λ (f : FlowName). f.src) same)) (eq-eqb other.flow.tick e.flow.tick (ap (λ (f : FlowName). f.tick) same)) in
    let b = and_true (eqb other.flow.count e.flow.count) (is_other_role e.role other.role) (eq-eqb other.flow.count e.flow.count (ap (λ (f : FlowName). f.count) same)) (role_other e.role other.role p.other_role) in
    and_true (eqb other.flow.src e.flow.src && eqb other.flow.tick e.flow.tick) (eqb other.flow.count e.flow.count && is_other_role e.role other.role) a b

module _ (now : ℕ) (ends : List End) (journal : IsJournal now ends) (from : ℕ) (partner e : End) (is_partner : At ends from partner) (partners : IsPartner partner e) where
  other_place : position (is_other e) ends ≡ Some from
  other_place = position_only (is_other e) ends from partner is_partner (partner_other e partner (partner_back partner e partners)) (λ j y at t. one_partner now ends j from y partner e journal at is_partner (partner_back e y (other_partner e y t)) partners)

  -- an end receives in the direction of its partner
  pub inbound_at : (lines : List Direction) (line : Direction) → slice_get lines from ≡ Some line → inbound_of ends lines e ≡ Some line
  inbound_at lines line is_line = ap (option_and_then (λ i. slice_get lines i)) other_place ∙ is_line

  -- and no other end does
  pub hold_elsewhere : (at : ℕ) (lines : List Direction) (line' : Direction) (n : ℕ) → At ends at e → HoldElsewhere ends lines (slice_set lines from line') at n
  hold_elsewhere at lines line' n is_e j a ne is_a = go (position (is_other a) ends) refl
    where
      alone : position (is_other a) ends ≡ Some from → j ≡ at
      alone place =
          let there : get_or ends from partner ≡ partner = get_or_from_slice_get ends from partner partner is_partner in
          let passes : is_other a partner ≡ true = ap (is_other a) (sym there) ∙ (position-Some (is_other a) ends from partner place).1 in
          one_partner now ends j at a e partner journal is_a is_e (partner_back partner a (partner_back a partner (other_partner a partner passes))) (partner_back partner e partners)

      go : (o : Option ℕ) → position (is_other a) ends ≡ o → held_in (option_and_then (λ i. slice_get (slice_set lines from line') i) o) n ≡ held_in (option_and_then (λ i. slice_get lines i) o) n
      go None place = refl
      go (Some i) place = elim (eqb_tells i from) [
        | inl t ↦ absurd (ne (alone (place ∙ ap (λ (m : ℕ). Some m) t.1)))
        | inr f ↦ ap (λ (o : Option Direction). held_in o n) (slice_get-set_other lines from i line' f.1)
      ]
