-- The least number that no live link has: among fewer than 16 live links one of the first 16 numbers is free.
use Rattle.std.proofs.Common.{◌≡◌, ◌∙◌, ℕ, zero, suc, ◌+◌, ◌<◌, ◌≤◌, ◌&&◌, nat_lt, Bool, true, false, cond, List, [], ◌∷◌, length, slice_get, Option, Some, None, refl, ap, subst, arith, leb-false, inl, inr}
use Rattle.std.specs.Prelude.{IsSome, count_by, is_some, option_and_then, position}
use Rattle.std.proofs.lemmas.Bool.{cases_lt, false≢true}
use Rattle.rina_queue.proofs.Places.{first_passes}
use Rattle.std.proofs.lemmas.List.Sums.{length-filter, sum_by-cons}
use Rattle.rina_data.specs.declared.link.Link.{Link}
use Rattle.rina_data.specs.Process.{is_link, link_by}
use Rattle.rina_member.specs.Knowing.{IsFreeNumber}
use Rattle.rina_member.specs.Routing.{live_of}
use Rattle.rina_dif.specs.Enrolling.{HasNumber, IsLeastNumber, is_full}
use Rattle.rina_dif.proofs.Linked.{passes_some}

abbrev live : Link → Bool
live l = l.live

-- a live link with a number below this one
unfoldable below : ℕ → Link → Bool
below n l = l.live && nat_lt l.number n

one : (p : Link → Bool) (l : Link) (rest : List Link) → count_by p (l ∷ rest) ≡ cond (p l) 1 0 + count_by p rest
one p l rest = sum_by-cons (λ (x : Link). cond (p x) 1 0) l rest

-- link by link
point : (n : ℕ) (l : Link) → cond (below n l) 1 0 + cond (is_link n l) 1 0 ≡ cond (below (suc n) l) 1 0
unfolding below is_link
point n l = grind arith

step : (n : ℕ) (links : List Link) → count_by (below n) links + count_by (is_link n) links ≡ count_by (below (suc n)) links
step n [] = refl
step n (l ∷ links) =
    let a = one (below n) l links in
    let b = one (is_link n) l links in
    let c = one (below (suc n)) l links in
    let p = point n l in
    let rest = step n links in
    omega (arith, a, b, c, p, rest)

point_live : (n : ℕ) (l : Link) → cond (below n l) 1 0 ≤ cond (live l) 1 0
unfolding below
point_live n l = grind arith

among_live : (n : ℕ) (links : List Link) → count_by (below n) links ≤ count_by live links
among_live n [] = omega arith
among_live n (l ∷ links) =
    let a = one (below n) l links in
    let b = one live l links in
    let p = point_live n l in
    let rest = among_live n links in
    omega (arith, a, b, p, rest)

-- a link that has a number counts
found : (n : ℕ) (links : List Link) (place : ℕ) (l : Link) → slice_get links place ≡ Some l → is_link n l ≡ true → 1 ≤ count_by (is_link n) links
found n [] place l at is = absurd cc
found n (x ∷ links) zero l at is =
    let a = one (is_link n) x links in
    let same : x ≡ l = cc in
    let b : is_link n x ≡ true = ap (is_link n) same ∙ is in
    let w : count_by (is_link n) (x ∷ links) ≡ cond true 1 0 + count_by (is_link n) links = a ∙ ap (λ (t : Bool). cond t 1 0 + count_by (is_link n) links) b in
    omega (arith, w)
found n (x ∷ links) (suc place) l at is =
    let a = one (is_link n) x links in
    let rest = found n links place l at is in
    omega (arith, a, rest)

is_its : (n : ℕ) (l : Link) → l.live ≡ true → l.number ≡ n → is_link n l ≡ true
unfolding is_link
is_its n l live number = grind arith

has : (n : ℕ) (links : List Link) → HasNumber links n → 1 ≤ count_by (is_link n) links
has n links h = found n links h.place h.link h.stands (is_its n h.link h.live h.number_is)

below_all : (n : ℕ) (links : List Link) → ((k : ℕ) → k < n → HasNumber links k) → n ≤ count_by (below n) links
below_all zero links all = omega arith
below_all (suc n) links all =
    let rest = below_all n links (λ k lt. all k (omega (arith, lt))) in
    let one_more = has n links (all n (omega arith)) in
    let both = step n links in
    omega (arith, rest, one_more, both)

-- so there are as many at least
pub enough : (n : ℕ) (links : List Link) → ((k : ℕ) → k < n → HasNumber links k) → n ≤ count_by live links
enough n links all = (let a = below_all n links all in let b = among_live n links in omega (arith, a, b))

-- Looking a number up

none_some : (o : Option Link) → is_some o ≡ false → o ≡ None
none_some None not_so = refl
none_some (Some l) not_so = absurd cc

some_some : (o : Option Link) → is_some o ≡ true → (l : Link) × (o ≡ Some l)
some_some None so = absurd cc
some_some (Some l) so = (l, refl)

some_of : (o : Option ℕ) → IsSome o → (k : ℕ) × (o ≡ Some k)
some_of None some = absurd (false≢true some)
some_of (Some k) some = (k, refl)

place_of : (n : ℕ) (links : List Link) (o : Option ℕ) (l : Link) → option_and_then (λ i. slice_get links i) o ≡ Some l → (k : ℕ) × (o ≡ Some k)
place_of n links None l e = absurd cc
place_of n links (Some k) l e = (k, refl)

its_number : (n : ℕ) (l : Link) → is_link n l ≡ true → (l.live ≡ true) × (l.number ≡ n)
unfolding is_link
its_number n l is = grind arith

-- a link that is found has the number
pub found_has : (n : ℕ) (links : List Link) → is_some (link_by n links) ≡ true → HasNumber links n
found_has n links so =
    let l = some_some (link_by n links) so in
    let k = place_of n links (position (is_link n) links) l.0 l.1 in
    let x = first_passes (is_link n) links k.0 k.1 in
    let its = its_number n x.0 x.1.passes in
    record { place = k.0; link = x.0; stands = x.1.stands; live = its.0; number_is = its.1 }

-- where none is found, none has it
pub none_has : (n : ℕ) (links : List Link) → is_some (link_by n links) ≡ false → HasNumber links n → ⊥
none_has n links not_so h =
    let found = some_of (position (is_link n) links) (passes_some (is_link n) links h.place h.link h.stands (is_its n h.link h.live h.number_is)) in
    let x = first_passes (is_link n) links found.0 found.1 in
    let there : link_by n links ≡ Some x.0 = ap (λ (o : Option ℕ). option_and_then (λ i. slice_get links i) o) found.1 ∙ x.1.stands in
    let none : link_by n links ≡ None = none_some (link_by n links) not_so in
    absurd cc

-- one number more
pub one_more : (n : ℕ) (links : List Link) → ((k : ℕ) → k < n → HasNumber links k) → HasNumber links n → (k : ℕ) → k < n + 1 → HasNumber links k
one_more n links all here k lt =
    elim (cases_lt k n) [
      | inl l ↦ all k l
      | inr ge ↦ subst (λ (m : ℕ). HasNumber links m) (omega (arith, lt, ge)) here
    ]

not_full : (links : List Link) → is_full links ≡ false → count_by live links < 16
not_full links not_so = leb-false 16 (count_by live links) not_so

pub never : (n : ℕ) (links : List Link) → is_full links ≡ false → ((k : ℕ) → k < n → HasNumber links k) → 16 ≤ n → ⊥
never n links not_so all far = (let a = enough n links all in let b = not_full links not_so in omega (arith, a, b, far))

-- A new link

-- the least number is free
pub free_number : (links : List Link) (n : ℕ) → IsLeastNumber links n → IsFreeNumber links n
free_number links n least k link stands live number_is = least.unused (record { place = k; link = link; stands = stands; live = live; number_is = number_is })

-- and one of the first
pub small_number : (links : List Link) (n : ℕ) → is_full links ≡ false → IsLeastNumber links n → n < 16
small_number links n not_so least = elim (cases_lt n 16) [
  | inl lt ↦ lt
  | inr far ↦ absurd (never n links not_so least.least far)
]

pub few_live : (links : List Link) → is_full links ≡ false → length (live_of links) < 16
few_live links not_so = (let long = length-filter live links in let few = not_full links not_so in omega (arith, long, few))
