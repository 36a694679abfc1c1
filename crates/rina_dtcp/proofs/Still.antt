-- Before a tick nothing is sent again or given up.
use Rattle.std.proofs.Common.{◌≡◌, ℕ, zero, suc, ◌+◌, ◌≤◌, Bool, true, false, cond, List, [], ◌∷◌, slice_get, position, ◌||◌, Option, Some, None, is_some, refl, sym, ◌∙◌, ap, arith, inl, inr}
use Rattle.std.proofs.lemmas.Bool.{or_cases}
use Rattle.std.specs.List.{position_from}
use Rattle.std.proofs.lemmas.Iterator.Adapters.{position_from-zero}
use Rattle.rina_cube.specs.declared.Cube.{Cube}
use Rattle.rina_dtcp.specs.declared.sent.Sent.{Sent}
use Rattle.rina_dtcp.specs.Sents as sents
use Rattle.rina_dtcp.specs.Sents.{is_due, is_late}
use Rattle.rina_dtcp.specs.Senders.{Kept, late_of, sent_at}
use Rattle.rina_law.specs.Sender.{again_due, given_up}
use Rattle.rina_dtcp.specs.Rows.{IsDueFrom, IsStillUntil}
use Rattle.rina_dtcp.proofs.Standing.{again_none, has_due_row, has_late, late_row}

none_from : (p : Sent → Bool) (n : ℕ) (xs : List Sent) → ((k : ℕ) (s : Sent) → slice_get xs k ≡ Some s → p s ≡ false) → position_from p n xs ≡ None
none_from p n [] none = refl
none_from p n (x ∷ xs) none = go (p x) (none 0 x refl) (none_from p (n + 1) xs (λ k s is. none (suc k) s is))
  where
    go : (b : Bool) → b ≡ false → position_from p (n + 1) xs ≡ None → cond b (Some n) (position_from p (n + 1) xs) ≡ None
    go true e rest = cc
    go false e rest = rest

none_at : (p : Sent → Bool) (xs : List Sent) → ((k : ℕ) (s : Sent) → slice_get xs k ≡ Some s → p s ≡ false) → position p xs ≡ None
none_at p xs none = position_from-zero p xs ∙ none_from p 0 xs none

pub still_earlier : (until until' : ℕ) (cube : Cube) (s : Sent) → sents.IsStillUntil until cube s → until' ≤ until → sents.IsStillUntil until' cube s
still_earlier until until' cube s still le = record { again = λ t lt. still.again t (omega (arith, lt, le)); given_up = λ t lt. still.given_up t (omega (arith, lt, le)) }

pub sender_still : (until : ℕ) (k : Kept) → ((i : ℕ) (s : Sent) → slice_get k.unacked i ≡ Some s → sents.IsStillUntil until k.cube s) → IsStillUntil until k
sender_still until k all = record {
  again = λ t lt. again_none t k (sym (none_at (is_due k.cube t) k.unacked (λ i s is. (all i s is).again t lt)));
  given_up = λ t lt. late_row t k None (sym (ap (λ o. late_of t (sent_at k.unacked o)) (none_at (is_late k.cube t) k.unacked (λ i s is. (all i s is).given_up t lt))));
}

-- At a tick some number is

some_from : (p : Sent → Bool) (n : ℕ) (xs : List Sent) (k : ℕ) (s : Sent) → slice_get xs k ≡ Some s → p s ≡ true → is_some (position_from p n xs) ≡ true
some_from p n [] k s at met = absurd cc
some_from p n (x ∷ xs) zero s at met = (let is : x ≡ s = cc in let first : p x ≡ true = ap p is ∙ met in rw first refl)
some_from p n (x ∷ xs) (suc k) s at met = go (p x) (position_from p (n + 1) xs) (some_from p (n + 1) xs k s at met)
  where
    go : (b : Bool) (rest : Option ℕ) → is_some rest ≡ true → is_some (cond b (Some n) rest) ≡ true
    go true rest h = refl
    go false rest h = h

some_at : (p : Sent → Bool) (xs : List Sent) (k : ℕ) (s : Sent) → slice_get xs k ≡ Some s → p s ≡ true → is_some (position p xs) ≡ true
some_at p xs k s at met = ap is_some (position_from-zero p xs) ∙ some_from p 0 xs k s at met

either_true : (b : Bool) → (b || true) ≡ true
either_true true = refl
either_true false = refl

pub sender_due : (tick : ℕ) (k : Kept) → sents.IsSomeDueFrom tick k.cube k.unacked → IsDueFrom tick k
sender_due tick k some c carry m st low =
    let (i, s, at, due) = some low in
    let again = is_some (again_due c tick m) in
    let gone = is_some (given_up c tick m) in
    elim (or_cases (is_due k.cube tick s) (is_late k.cube tick s) due) [
      | inl met ↦
          (let is : again ≡ true = sym (has_due_row tick k (is_some (position (is_due k.cube tick) k.unacked)) refl c carry m st) ∙ some_at (is_due k.cube tick) k.unacked i s at met in
          ap (λ b. b || gone) is)
      | inr met ↦
          (let is : gone ≡ true = has_late c carry tick m k st ∙ some_at (is_late k.cube tick) k.unacked i s at met in
          ap (λ b. again || b) is ∙ either_true again)
    ]
