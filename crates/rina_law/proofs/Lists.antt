-- Lists of members and of numbers.
use Rattle.std.proofs.Common.{◌-◌, ◌≡◌, ◌≢◌, ℕ, zero, suc, ◌+◌, ◌<◌, ◌≤◌, List, [], ◌∷◌, ◌++◌, length, get_or, Bool, true, false, cond, eqb, leb, refl, ap, arith, inl, inr, ◌⊎◌, length-append}
use Rattle.std.proofs.lemmas.Bool.Decides.{eqb_tells}
use Rattle.std.proofs.lemmas.Bool.{or_cases, or_parts, eqb-true, eqb-false, false≢true, false_from_ne_true}
use Rattle.std.proofs.lemmas.List.{get_or_append_left}
use Rattle.std.proofs.Math.Seq.{get_or-append_seam}
use Rattle.rina_law.specs.Lists.{In, has, highest}
use Rattle.rina_law.specs.LineHolds.{below}
use Rattle.rina_law.specs.Receiver.{Piece, numbers, from_on, with_held}
use Rattle.rina_law.specs.Sender.{Member, member, resent}

pub length-push : {X : Type 0} → (xs : List X) (x : X) → length (xs ++ x ∷ []) ≡ length xs + 1
length-push xs x = omega (arith, length-append xs (x ∷ []))

-- what stood in a list before one more was added
pub old_at : {X : Type 0} → (xs : List X) (x d : X) (n : ℕ) → n < length xs → get_or (xs ++ x ∷ []) n d ≡ get_or xs n d
old_at xs x d n h = get_or_append_left xs (x ∷ []) d n h

-- and what was added
pub new_at : {X : Type 0} → (xs : List X) (x d : X) (n : ℕ) → n ≡ length xs → get_or (xs ++ x ∷ []) n d ≡ x
new_at xs x d n e = rw e (get_or-append_seam xs x [] d)

pub resent-length : (n now : ℕ) (run : List Member) → length (resent n now run) ≡ length run
resent-length n now [] = refl
resent-length zero now (s ∷ run) = refl
resent-length (suc n) now (s ∷ run) = ap suc (resent-length n now run)

pub resent-first : (n now : ℕ) (run : List Member) (k : ℕ) → (member (resent n now run) k).first ≡ (member run k).first
resent-first n now [] k = refl
resent-first zero now (s ∷ run) zero = refl
resent-first zero now (s ∷ run) (suc k) = refl
resent-first (suc n) now (s ∷ run) zero = refl
resent-first (suc n) now (s ∷ run) (suc k) = resent-first n now run k

pub resent-drf : (n now : ℕ) (run : List Member) (k : ℕ) → (member (resent n now run) k).drf ≡ (member run k).drf
resent-drf n now [] k = refl
resent-drf zero now (s ∷ run) zero = refl
resent-drf zero now (s ∷ run) (suc k) = refl
resent-drf (suc n) now (s ∷ run) zero = refl
resent-drf (suc n) now (s ∷ run) (suc k) = resent-drf n now run k

pub resent-part : (n now : ℕ) (run : List Member) (k : ℕ) → (member (resent n now run) k).part ≡ (member run k).part
resent-part n now [] k = refl
resent-part zero now (s ∷ run) zero = refl
resent-part zero now (s ∷ run) (suc k) = refl
resent-part (suc n) now (s ∷ run) zero = refl
resent-part (suc n) now (s ∷ run) (suc k) = resent-part n now run k

pub highest-in : (n : ℕ) (ns : List ℕ) → In n ns → n ≤ highest ns
highest-in n [] h = absurd h
highest-in n (k ∷ ns) (inl e) = omega arith
highest-in n (k ∷ ns) (inr h) = let le : n ≤ highest ns = highest-in n ns h in omega arith

pub has-not : (n : ℕ) (ns : List ℕ) → has n ns ≡ false → In n ns → ⊥
has-not n [] e h = h
has-not n (k ∷ ns) e (inl same) = eqb-false n k ((or_parts (eqb n k) (has n ns) e).0) same
has-not n (k ∷ ns) e (inr h) = has-not n ns ((or_parts (eqb n k) (has n ns) e).1) h

pub has-in : (n : ℕ) (ns : List ℕ) → has n ns ≡ true → In n ns
has-in n [] e = absurd (false≢true e)
has-in n (k ∷ ns) e = elim (or_cases (eqb n k) (has n ns) e) [ inl t ↦ inl (eqb-true n k t) | inr t ↦ inr (has-in n ns t) ]

pub from_on-in : (n : ℕ) (q : Piece) (hs : List Piece) → In q (from_on n hs) → In q hs
from_on-in n q [] i = i
from_on-in n q (k ∷ hs) i = go (leb n k.number) (from_on-in n q hs) i
  where
    go : (b : Bool) → (In q (from_on n hs) → In q hs) → In q (cond b (k ∷ from_on n hs) (from_on n hs)) → In q (k ∷ hs)
    go true f (inl e) = inl e
    go true f (inr j) = inr (f j)
    go false f j = inr (f j)

pub in_numbers : (h : ℕ) (hs : List Piece) → In h (numbers hs) → (q : Piece) × In q hs × (h ≡ q.number)
in_numbers h [] i = absurd i
in_numbers h (k ∷ hs) (inl e) = (k, inl refl, e)
in_numbers h (k ∷ hs) (inr i) = (let (q, j, e) = in_numbers h hs i in (q, inr j, e))

pub numbers_in : (q : Piece) (hs : List Piece) → In q hs → In q.number (numbers hs)
numbers_in q [] i = i
numbers_in q (k ∷ hs) (inl e) = inl (ap (λ (p : Piece). p.number) e)
numbers_in q (k ∷ hs) (inr i) = inr (numbers_in q hs i)

pub from_on_numbers : (n h : ℕ) (hs : List Piece) → In h (numbers (from_on n hs)) → In h (numbers hs)
from_on_numbers n h hs i = (let (q, j, e) = in_numbers h (from_on n hs) i in rw e (numbers_in q hs (from_on-in n q hs j)))

pub below-length : (n : ℕ) → length (below n) ≡ n
below-length zero = refl
below-length (suc n) = ap suc (below-length n)

pub below-in : (n k : ℕ) → In k (below n) → k < n
below-in zero k i = absurd i
below-in (suc n) k (inl e) = omega arith
below-in (suc n) k (inr i) = let h : k < n = below-in n k i in omega arith

pub in-below : (n k : ℕ) → k < n → In k (below n)
in-below zero k h = absurd (omega arith)
in-below (suc n) k h = elim (eqb_tells k n) [ inl t ↦ inl t.1 | inr t ↦ (let ne : k ≢ n = t.1 in inr (in-below n k (omega arith))) ]

-- the held numbers that with_held
pub with_held-in : (fuel n : ℕ) (held list : List ℕ) (k : ℕ) → In k (with_held fuel n held list) → In k held ⊎ In k list
with_held-in zero n held list k i = inr i
with_held-in (suc fuel) n held list k i = go (has n held) (has-in n held) (with_held-in fuel (n + 1) held (n ∷ list) k) i
  where
    go : (b : Bool) → (b ≡ true → In n held) → (In k (with_held fuel (n + 1) held (n ∷ list)) → In k held ⊎ In k (n ∷ list)) → In k (cond b (with_held fuel (n + 1) held (n ∷ list)) list) → In k held ⊎ In k list
    go true there f j = elim (f j) [ inl a ↦ inl a | inr (inl e) ↦ inl (rw e (there refl)) | inr (inr b) ↦ inr b ]
    go false there f j = inr j

pub with_held-keeps : (fuel n : ℕ) (held list : List ℕ) (k : ℕ) → In k list → In k (with_held fuel n held list)
with_held-keeps zero n held list k i = i
with_held-keeps (suc fuel) n held list k i = go (has n held) (with_held-keeps fuel (n + 1) held (n ∷ list) k (inr i))
  where
    go : (b : Bool) → In k (with_held fuel (n + 1) held (n ∷ list)) → In k (cond b (with_held fuel (n + 1) held (n ∷ list)) list)
    go true j = j
    go false j = i

pub with_held-grows : (fuel n : ℕ) (held list : List ℕ) → length list ≤ length (with_held fuel n held list)
with_held-grows zero n held list = omega arith
with_held-grows (suc fuel) n held list = go (has n held) (with_held-grows fuel (n + 1) held (n ∷ list))
  where
    go : (b : Bool) → suc (length list) ≤ length (with_held fuel (n + 1) held (n ∷ list)) → length list ≤ length (cond b (with_held fuel (n + 1) held (n ∷ list)) list)
    go true j = omega arith
    go false j = omega arith

pub with_held-length : (fuel n : ℕ) (held xs ys : List ℕ) → length (with_held fuel n held xs) + length ys ≡ length (with_held fuel n held ys) + length xs
with_held-length zero n held xs ys = omega arith
with_held-length (suc fuel) n held xs ys = go (has n held) (with_held-length fuel (n + 1) held (n ∷ xs) (n ∷ ys))
  where
    go : (b : Bool) → length (with_held fuel (n + 1) held (n ∷ xs)) + suc (length ys) ≡ length (with_held fuel (n + 1) held (n ∷ ys)) + suc (length xs) → length (cond b (with_held fuel (n + 1) held (n ∷ xs)) xs) + length ys ≡ length (cond b (with_held fuel (n + 1) held (n ∷ ys)) ys) + length xs
    go true j = omega arith
    go false j = omega arith

below-next : (n : ℕ) (xs : List ℕ) → xs ≡ below (length xs) → n ≡ length xs → n ∷ xs ≡ below (suc (length xs))
below-next n xs e same = rw same (ap (λ ys. length xs ∷ ys) e)

pub with_held-below : (fuel n : ℕ) (held xs : List ℕ) → xs ≡ below (length xs) → n ≡ length xs → with_held fuel n held xs ≡ below (length (with_held fuel n held xs))
with_held-below zero n held xs e same = e
with_held-below (suc fuel) n held xs e same = go (has n held) (with_held-below fuel (n + 1) held (n ∷ xs) (below-next n xs e same) (omega arith))
  where
    go : (b : Bool) → with_held fuel (n + 1) held (n ∷ xs) ≡ below (length (with_held fuel (n + 1) held (n ∷ xs))) → cond b (with_held fuel (n + 1) held (n ∷ xs)) xs ≡ below (length (cond b (with_held fuel (n + 1) held (n ∷ xs)) xs))
    go true j = j
    go false j = e

has-none : (n : ℕ) (ns : List ℕ) → highest ns < n → has n ns ≡ false
has-none n ns h = false_from_ne_true (has n ns) (λ t. (let le = highest-in n ns (has-in n ns t) in omega arith))

-- with enough fuel the numbers that with_held are all that with_held: the next one is not held
pub with_held_stops : (fuel n : ℕ) (held list : List ℕ) → highest held < n + fuel → (k : ℕ) → length (with_held fuel n held list) ≡ length list + k → has (n + k) held ≡ false
with_held_stops zero n held list h k e = has-none (n + k) held (omega arith)
with_held_stops (suc fuel) n held list h k e = go (has n held) refl (λ j e'. with_held_stops fuel (n + 1) held (n ∷ list) (omega arith) j e') (with_held-grows fuel (n + 1) held (n ∷ list)) e
  where
    go : (b : Bool) → has n held ≡ b → ((j : ℕ) → length (with_held fuel (n + 1) held (n ∷ list)) ≡ suc (length list) + j → has (n + 1 + j) held ≡ false) → suc (length list) ≤ length (with_held fuel (n + 1) held (n ∷ list)) → length (cond b (with_held fuel (n + 1) held (n ∷ list)) list) ≡ length list + k → has (n + k) held ≡ false
    go true t f g e' = (let x : has (n + 1 + (k - 1)) held ≡ false = f (k - 1) (omega arith) in let is : n + 1 + (k - 1) ≡ n + k = omega arith in rw is at x)
    go false t f g e' = (let is : n + k ≡ n = omega arith in rw is t)
