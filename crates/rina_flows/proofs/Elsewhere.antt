-- What stays as it was where something changes.
use Rattle.std.proofs.Common.{◌≡◌, ℕ, ◌<◌, ◌≤◌, List, [], ◌∷◌, ◌++◌, zero, suc, length, length-set, slice_get, slice_set, Result, Ok, Err, Option, Some, ◌∙◌, ap, refl, arith, inl, inr}
use Rattle.rina_account.specs.declared.ledger.Off.{Off}
use Rattle.rina_base.specs.declared.cause.Cause.{Cause}
use Rattle.rina_base.specs.declared.memory.Memory.{Memory}
use Rattle.rina_base.specs.declared.pdu.Pdu.{Pdu}
use Rattle.rina_conn.specs.declared.conn.Conn.{Conn}
use Rattle.rina_conn.specs.declared.made.Made.{Made}
use Rattle.rina_conn.specs.declared.made.OfferError.{OfferError}
use Rattle.rina_data.proofs.Finding.{there}
use Rattle.rina_iface.specs.declared.ends.End.{End}
use Rattle.rina_iface.proofs.Changed.{slice_get-set_other}
use Rattle.rina_law.specs.declared.entry.Entry.{Entry}
use Rattle.rina_flows.specs.Calls.{Becomes, IsOffer, Offered}
use Rattle.rina_flows.specs.Delivering.{IsLanding, Lands}
use Rattle.rina_flows.specs.Elsewhere.{SameBut}

-- In a list

-- nothing changed
pub by_none : {A : Type 0} (Changes : ℕ → Type 0) (old new : List A) → new ≡ old → SameBut Changes old new
by_none Changes old new same i other = ap (λ xs. slice_get xs i) same

-- one thing was put in a place
pub by_set : {A : Type 0} (old new : List A) (at : ℕ) (x : A) → new ≡ slice_set old at x → SameBut (λ i. i ≡ at) old new
by_set old new at x is i other = ap (λ xs. slice_get xs i) is ∙ slice_get-set_other old at i x other

-- what stood in a place was changed
pub by_change : {A : Type 0} (f : A → A) (old new : List A) (at : ℕ) → at < length old → ((x : A) → slice_get old at ≡ Some x → new ≡ slice_set old at (f x)) → SameBut (λ i. i ≡ at) old new
by_change f old new at lt is = (let x = there old at lt in by_set old new at (f x.0) (is x.0 x.1))

-- one change after the other
pub by_both : {A : Type 0} (Changes : ℕ → Type 0) (old mid new : List A) → SameBut Changes old mid → SameBut Changes mid new → SameBut Changes old new
by_both Changes old mid new h g i other = g i other ∙ h i other

-- at more places
pub by_more : {A : Type 0} (Few Many : ℕ → Type 0) (old new : List A) → ((i : ℕ) → Few i → Many i) → SameBut Few old new → SameBut Many old new
by_more Few Many old new all h i other = h i (λ few. other (all i few))

-- one thing was added
pub by_adding_one : {A : Type 0} (old new : List A) (x : A) → new ≡ old ++ x ∷ [] → SameBut (λ i. length old ≤ i) old new
by_adding_one old new x is i other = ap (λ xs. slice_get xs i) is ∙ before old x i other
  where
    before : {A : Type 0} (xs : List A) (x : A) (i : ℕ) → (length xs ≤ i → ⊥) → slice_get (xs ++ x ∷ []) i ≡ slice_get xs i
    before [] x i within = absurd (within (omega arith))
    before (z ∷ xs) x zero within = refl
    before (z ∷ xs) x (suc i) within = before xs x i (λ le. within (omega (arith, le)))

-- two things were added
pub by_adding : {A : Type 0} (old new : List A) (x y : A) → new ≡ old ++ x ∷ y ∷ [] → SameBut (λ i. length old ≤ i) old new
by_adding old new x y is i other = ap (λ xs. slice_get xs i) is ∙ before old x y i other
  where
    before : {A : Type 0} (xs : List A) (x y : A) (i : ℕ) → (length xs ≤ i → ⊥) → slice_get (xs ++ x ∷ y ∷ []) i ≡ slice_get xs i
    before [] x y i within = absurd (within (omega arith))
    before (z ∷ xs) x y zero within = refl
    before (z ∷ xs) x y (suc i) within = before xs x y i (λ le. within (omega (arith, le)))

-- The ends

-- what an end sent was taken out, and then stands there again, with more
pub taken_sent : (old mid new : List End) (at : ℕ) (sent : List Entry) → at < length old → ((e : End) → slice_get old at ≡ Some e → mid ≡ slice_set old at (record e { sent = [] })) → ((e : End) → slice_get mid at ≡ Some e → new ≡ slice_set mid at (record e { sent = sent })) → SameBut (λ i. i ≡ at) old new
taken_sent old mid new at sent lt takes puts =
    let e = there old at lt in
    let within : at < length mid = rw (takes e.0 e.1, length-set) lt in
    by_both (λ i. i ≡ at) old mid new (by_change (λ (x : End). record x { sent = [] }) old mid at lt takes) (by_change (λ (x : End). record x { sent = sent }) mid new at within puts)

-- what was delivered to it
pub taken_got : (old mid new : List End) (at : ℕ) (got : List Entry) → at < length old → ((e : End) → slice_get old at ≡ Some e → mid ≡ slice_set old at (record e { got = [] })) → ((e : End) → slice_get mid at ≡ Some e → new ≡ slice_set mid at (record e { got = got })) → SameBut (λ i. i ≡ at) old new
taken_got old mid new at got lt takes puts =
    let e = there old at lt in
    let within : at < length mid = rw (takes e.0 e.1, length-set) lt in
    by_both (λ i. i ≡ at) old mid new (by_change (λ (x : End). record x { got = [] }) old mid at lt takes) (by_change (λ (x : End). record x { got = got }) mid new at within puts)

-- The connections

pub by_becoming : (R : Conn → Conn → Type 0) (at : ℕ) (old new : List Conn) → at < length old → Becomes R at old new → SameBut (λ i. i ≡ at) old new
by_becoming R at old new lt b =
    let k = there old at lt in
    let x = b k.0 k.1 in
    by_set old new at x.0 x.2

pub by_offer : (now at : ℕ) (sdu : List ℕ) (old : List Conn) (sent : List Entry) (r : Result Made OfferError) (new : List Conn) (sent' : List Entry) → at < length old → Offered now at sdu old sent r new sent' → SameBut (λ i. i ≡ at) old new
by_offer now at sdu old sent (Ok made) new sent' lt o = by_becoming (IsOffer now sdu (Ok made)) at old new lt o.0
by_offer now at sdu old sent (Err why) new sent' lt o = elim o.0 [
  | inl none ↦ by_none (λ i. i ≡ at) old new none.1
  | inr becomes ↦ by_becoming (IsOffer now sdu (Err why)) at old new lt becomes
]

pub by_landing : (now : ℕ) (pdu : Pdu) (unpassed at : ℕ) (bodies : List (List ℕ)) (old : List Conn) (got : List Entry) (lines : List Off) (r : Result (Option Cause) Memory) (new : List Conn) (got' : List Entry) (lines' : List Off) → at < length old → IsLanding now pdu unpassed at bodies old got lines r new got' lines' → SameBut (λ i. i ≡ at) old new
by_landing now pdu unpassed at bodies old got lines (Ok cause) new got' lines' lt l = by_becoming (Lands now pdu unpassed bodies got lines cause got' lines') at old new lt l
by_landing now pdu unpassed at bodies old got lines (Err e) new got' lines' lt l = by_none (λ i. i ≡ at) old new l.0
