-- An id that is drawn is free.
use Rattle.std.proofs.Common.{◌≡◌, ℕ, zero, suc, ◌+◌, ◌-◌, ◌<◌, ◌≤◌, Bool, true, false, leb, if◌then◌else◌, List, [], ◌∷◌, ◌++◌, length, get_or, position, slice_get, slice_set, Option, Some, None, refl, sym, ◌∙◌, subst, arith, inl, inr}
use Rattle.std.proofs.lemmas.Bool.{false≢true, leb-true, leb-false}
use Rattle.std.proofs.lemmas.List.{get_or-set_same, get_or-set_other, length-set}
use Rattle.std.proofs.lemmas.List.Quantifiers.{position-Some}
use Rattle.std.proofs.lemmas.Option.{none-some, same_Some, slice_get_within, slice_get_read, get_or_from_slice_get, cond_some}
use Rattle.rina_ids.specs.declared.slot.Slot.{Slot}
use Rattle.rina_ids.specs.declared.slot.Slot.TheVariants.{InUse, Resting}
use Rattle.rina_ids.specs.Ids.{is_free, free_id, fresh_id, free_or, drawn, given_back, IsInUse, IsResting}
use Rattle.rina_rest.specs.Drawn.{IsKept, AreKept}
use Rattle.rina_rest.specs.Flows.{Endpoint, RestedBy, HasRested, Side, Flow, end_at, IsFree}

-- the slot of an id, if it has one, is free
abbrev IsOpen : ℕ → List Slot → ℕ → Type 0
IsOpen now slots cep = (s : Slot) → slice_get slots (cep - 1) ≡ Some s → is_free now s ≡ true

used_not : (now : ℕ) → is_free now InUse ≡ true → ⊥
unfolding is_free
used_not now e = false≢true e

rest_over : (now until : ℕ) → is_free now (Resting until) ≡ true → until ≤ now
unfolding is_free
rest_over now until e = leb-true until now e

rested_from : (rest now : ℕ) (slots : List Slot) (cep : ℕ) (e : Option ℕ) → IsOpen now slots cep → IsKept rest now slots cep e → RestedBy rest now e
rested_from rest now slots cep None is_open kept = absurd (used_not now (is_open InUse kept.1))
rested_from rest now slots cep (Some t) is_open (inl le) = le
rested_from rest now slots cep (Some t) is_open (inr r) = (let le = rest_over now (r.0) (is_open (Resting (r.0)) ((r.1).1)) in let below = r.2 in omega arith)

open_at : (now : ℕ) (slots : List Slot) (k : ℕ) → position (is_free now) slots ≡ Some k → IsOpen now slots (k + 1)
open_at now slots k e s at =
    let free : is_free now (get_or slots k s) ≡ true = (position-Some (is_free now) slots k s e).1 in
    let back : k + 1 - 1 ≡ k = omega arith in
    let P : ℕ → Type 0 = λ n. slice_get slots n ≡ Some s in
    let is : get_or slots k s ≡ s = get_or_from_slice_get slots k s s (subst P back at) in
    let Q : Slot → Type 0 = λ z. is_free now z ≡ true in
    subst Q is free

open_past : (now greatest : ℕ) (slots : List Slot) (cep : ℕ) → fresh_id greatest slots ≡ Some cep → IsOpen now slots cep
open_past now greatest slots cep e s at =
    let is = (cond_some _ (length slots + 1) cep e).1 in
    let lt = slice_get_within slots (cep - 1) s at in
    absurd (omega arith)

open_drawn : (now greatest : ℕ) (slots : List Slot) (cep : ℕ) (o : Option ℕ) → position (is_free now) slots ≡ o → free_or o (fresh_id greatest slots) ≡ Some cep → IsOpen now slots cep
open_drawn now greatest slots cep None is e = open_past now greatest slots cep e
open_drawn now greatest slots cep (Some k) is e =
    let P : ℕ → Type 0 = λ n. IsOpen now slots n in
    subst P (same_Some (k + 1) cep e) (open_at now slots k is)

drawn_open : (now greatest : ℕ) (slots : List Slot) (cep : ℕ) → free_id greatest now slots ≡ Some cep → IsOpen now slots cep
unfolding free_id
drawn_open now greatest slots cep e = open_drawn now greatest slots cep (position (is_free now) slots) refl e

pub drawn_free : (greatest now : ℕ) (slots : List Slot) (flows : List Flow) (addr cep : ℕ) → AreKept now flows addr slots → free_id greatest now slots ≡ Some cep → IsFree now flows addr cep
drawn_free greatest now slots flows addr cep kept e i f side x at is here is_cep =
    let P : ℕ → Type 0 = λ n. IsOpen now slots n in
    rested_from f.rest now slots x.cep x.ended (subst P (sym is_cep) (drawn_open now greatest slots cep e)) (kept i f side x at is here)

-- What is kept of one end

-- of every id but one the slots say what they said
pub record IsSameBut (before after : List Slot) (cep : ℕ) : Type 0 where
  pub used : (id : ℕ) → (id ≡ cep → ⊥) → IsInUse before id → IsInUse after id
  pub resting : (id until : ℕ) → (id ≡ cep → ⊥) → IsResting before id until → IsResting after id until

pub kept_end_later : (rest now later : ℕ) (slots : List Slot) (cep : ℕ) (e : Option ℕ) → now ≤ later → IsKept rest now slots cep e → IsKept rest later slots cep e
kept_end_later rest now later slots cep None le kept = kept
kept_end_later rest now later slots cep (Some t) le (inl r) = inl (omega arith)
kept_end_later rest now later slots cep (Some t) le (inr r) = inr r

pub kept_rested : (rest now : ℕ) (slots : List Slot) (cep : ℕ) (e : Option ℕ) → RestedBy rest now e → IsKept rest now slots cep e
kept_rested rest now slots cep None r = absurd r
kept_rested rest now slots cep (Some t) r = inl r

pub kept_other : (rest now : ℕ) (slots after : List Slot) (cep id : ℕ) (e : Option ℕ) → IsSameBut slots after cep → (id ≡ cep → ⊥) → IsKept rest now slots id e → IsKept rest now after id e
kept_other rest now slots after cep id None same ne kept = same.used id ne kept
kept_other rest now slots after cep id (Some t) same ne (inl r) = inl r
kept_other rest now slots after cep id (Some t) same ne (inr r) = inr (r.0, same.resting id (r.0) ne (r.1), r.2)

-- an id is in use or rests, and not both
used_resting : (slots : List Slot) (cep until : ℕ) → IsInUse slots cep → IsResting slots cep until → ⊥
used_resting slots cep until used resting =
    let e = same_Some InUse (Resting until) (sym used.1 ∙ resting.1) in
    let P : Slot → Type 0 = λ s. elim s [ InUse ↦ Unit {0} | Resting until ↦ ⊥ ] in
    subst P e tt

-- where an id is in use, an end that had it and ended has rested
pub kept_past : (rest now : ℕ) (slots after : List Slot) (cep : ℕ) (e : Option ℕ) → IsInUse slots cep → (e ≡ None → ⊥) → IsKept rest now slots cep e → IsKept rest now after cep e
kept_past rest now slots after cep None used alone kept = absurd (alone refl)
kept_past rest now slots after cep (Some t) used alone (inl r) = inl r
kept_past rest now slots after cep (Some t) used alone (inr r) = absurd (used_resting slots cep (r.0) used (r.1))

pub none_kept : (now : ℕ) (flows : List Flow) (addr : ℕ) → ((i : ℕ) (f : Flow) (side : Side) (x : Endpoint) → slice_get flows i ≡ Some f → end_at side f ≡ Some x → x.addr ≡ addr → HasRested f.rest now x) → AreKept now flows addr []
none_kept now flows addr rested i f side x at is there = kept_rested f.rest now [] x.cep x.ended (rested i f side x at is there)

-- What drawing and giving back make of the slots

set_at : (slots : List Slot) (k : ℕ) (x : Slot) → k < length slots → slice_get (slice_set slots k x) k ≡ Some x
set_at slots k x lt = slice_get_read (slice_set slots k x) (length (slice_set slots k x)) k x refl (omega (arith, length-set slots k x)) (sym (get_or-set_same slots k x x lt))

set_other : (slots : List Slot) (k j : ℕ) (x s : Slot) → (j ≡ k → ⊥) → slice_get slots j ≡ Some s → slice_get (slice_set slots k x) j ≡ Some s
set_other slots k j x s ne e =
    let lt = slice_get_within slots j s e in
    slice_get_read (slice_set slots k x) (length (slice_set slots k x)) j s refl (omega (arith, length-set slots k x)) (sym (get_or-set_other slots k j x s ne ∙ get_or_from_slice_get slots j s s e))

push_slot : (slots : List Slot) (x : Slot) → slice_get (slots ++ x ∷ []) (length slots) ≡ Some x
push_slot [] x = refl
push_slot (s ∷ slots) x = push_slot slots x

push_slots : (slots : List Slot) (x s : Slot) (j : ℕ) → slice_get slots j ≡ Some s → slice_get (slots ++ x ∷ []) j ≡ Some s
push_slots [] x s j e = absurd (none-some s e)
push_slots (y ∷ slots) x s zero e = e
push_slots (y ∷ slots) x s (suc j) e = push_slots slots x s j e

pub given_back_rests : (slots : List Slot) (cep until : ℕ) → IsInUse slots cep → IsResting (given_back slots cep until) cep until
given_back_rests slots cep until used = (used.0, set_at slots (cep - 1) (Resting until) (slice_get_within slots (cep - 1) InUse used.1))

pub given_back_same : (slots : List Slot) (cep until : ℕ) → IsInUse slots cep → IsSameBut slots (given_back slots cep until) cep
given_back_same slots cep until used = record {
  used = λ id ne u. (let some = used.0 in let some' = u.0 in (some', set_other slots (cep - 1) (id - 1) (Resting until) InUse (λ e. ne (omega arith)) u.1));
  resting = λ id t ne r. (let some = used.0 in let some' = r.0 in (some', set_other slots (cep - 1) (id - 1) (Resting until) (Resting t) (λ e. ne (omega arith)) r.1));
}

-- a slot that is there is written, and else one is added
put_in_use : (slots : List Slot) (cep : ℕ) (there : Bool) → 1 ≤ cep → (there ≡ true → cep - 1 < length slots) → (there ≡ false → cep - 1 ≡ length slots) →
    IsInUse (if there then slice_set slots (cep - 1) InUse else slots ++ InUse ∷ []) cep × IsSameBut slots (if there then slice_set slots (cep - 1) InUse else slots ++ InUse ∷ []) cep
put_in_use slots cep true some within past = (
  (some, set_at slots (cep - 1) InUse (within refl)),
  record {
    used = λ id ne u. (let some' = u.0 in (some', set_other slots (cep - 1) (id - 1) InUse InUse (λ e. ne (omega arith)) u.1));
    resting = λ id t ne r. (let some' = r.0 in (some', set_other slots (cep - 1) (id - 1) InUse (Resting t) (λ e. ne (omega arith)) r.1));
  },
)
put_in_use slots cep false some within past = (
  (some, (let P : ℕ → Type 0 = λ n. slice_get (slots ++ InUse ∷ []) n ≡ Some InUse in subst P (sym (past refl)) (push_slot slots InUse))),
  record {
    used = λ id ne u. (u.0, push_slots slots InUse InUse (id - 1) u.1);
    resting = λ id t ne r. (r.0, push_slots slots InUse (Resting t) (id - 1) r.1);
  },
)

-- the place of an id that is free
free_place : (greatest now : ℕ) (slots : List Slot) (cep : ℕ) (o : Option ℕ) → position (is_free now) slots ≡ o → free_or o (fresh_id greatest slots) ≡ Some cep → (1 ≤ cep) × (cep ≤ length slots + 1)
free_place greatest now slots cep None is e = (let same = (cond_some _ (length slots + 1) cep e).1 in (omega arith, omega arith))
free_place greatest now slots cep (Some k) is e =
    let same = same_Some (k + 1) cep e in
    let lt = (position-Some (is_free now) slots k InUse is).0 in
    (omega arith, omega arith)

pub drawn_in_use : (greatest now : ℕ) (slots : List Slot) (cep : ℕ) → free_id greatest now slots ≡ Some cep → IsInUse (drawn slots cep) cep × IsSameBut slots (drawn slots cep) cep
unfolding free_id drawn
drawn_in_use greatest now slots cep e =
    let at = free_place greatest now slots cep (position (is_free now) slots) refl e in
    let some = at.0 in
    let last = at.1 in
    put_in_use slots cep (leb cep (length slots)) some (λ t. (let le = leb-true cep (length slots) t in omega arith)) (λ t. (let gt = leb-false cep (length slots) t in omega arith))

pub drawn_some : (greatest now : ℕ) (slots : List Slot) (cep : ℕ) → free_id greatest now slots ≡ Some cep → 1 ≤ cep
drawn_some greatest now slots cep e = (let used = (drawn_in_use greatest now slots cep e).0 in used.0)

-- how far it goes
pub drawn_small : (greatest now : ℕ) (slots : List Slot) (cep : ℕ) → free_id greatest now slots ≡ Some cep → cep ≤ length slots + 1
unfolding free_id
drawn_small greatest now slots cep e = (let at = free_place greatest now slots cep (position (is_free now) slots) refl e in at.1)

pub drawn_long : (slots : List Slot) (cep : ℕ) → length (drawn slots cep) ≤ length slots + 1
unfolding drawn
drawn_long slots cep = go (leb cep (length slots))
  where
    pushed_long : (xs : List Slot) → length (xs ++ InUse ∷ []) ≡ length xs + 1
    pushed_long [] = refl
    pushed_long (x ∷ xs) = (let is = pushed_long xs in omega (arith, is))

    go : (b : Bool) → length (if b then slice_set slots (cep - 1) InUse else slots ++ InUse ∷ []) ≤ length slots + 1
    go true = omega (arith, length-set slots (cep - 1) InUse)
    go false = omega (arith, pushed_long slots)

-- where not all were drawn there is a free one
pub free_there : (greatest now : ℕ) (slots : List Slot) → length slots < greatest → (cep : ℕ) × (free_id greatest now slots ≡ Some cep)
unfolding free_id
free_there greatest now slots lt = go (position (is_free now) slots)
  where
    fresh_there : fresh_id greatest slots ≡ Some (length slots + 1)
    fresh_there = grind (arith, lt)

    go : (o : Option ℕ) → (cep : ℕ) × (free_or o (fresh_id greatest slots) ≡ Some cep)
    go (Some k) = (k + 1, refl)
    go None = (length slots + 1, fresh_there)
