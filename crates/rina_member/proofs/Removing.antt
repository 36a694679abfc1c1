-- The links of a member, once one of them is lost: their numbers, and those over which PDUs may leave.
use Rattle.std.proofs.Common.{◌≡◌, ◌∙◌, ◌⊎◌, inl, inr, ⊎_elim, ℕ, ◌+◌, ◌≤◌, ◌==◌, zero, suc, ltb, Bool, true, false, cond, not, List, [], ◌∷◌, ◌++◌, Option, Some, None, Contains, length, map, filter, drop, slice_get, slice_set, refl, sym, ap, arith}
use Rattle.std.specs.Prelude.{find, option_map, position, remove}
use Rattle.std.specs.List.{cons_option, position_or_len}
use Rattle.std.proofs.lemmas.Bool.{both_ways, eq-eqb, eqb-true, ltb-false, ne_eqb, true≢false}
use Rattle.std.proofs.lemmas.List.{append-nil, drop_all, take_all}
use Rattle.std.proofs.lemmas.Option.{same_Some}
use Rattle.rina_route.specs.declared.link.Link.{Link as Hop}
use Rattle.rina_route.proofs.Lists.{contains_filter, contains_map, contains_unmap}
use Rattle.rina_agent.specs.declared.link.Link.{Link as Managed}
use Rattle.rina_agent.specs.Agenda.{without_at}
use Rattle.rina_agent.specs.Enrolments.{is_numbered, place_of}
use Rattle.rina_agent.specs.Rows.{was_up}
use Rattle.rina_data.specs.declared.link.Link.{Link}
use Rattle.rina_member.specs.Routing.{live_of}
use Rattle.rina_member.specs.Knowing.{HaveOwnNumbers, hop_of, hops_of, live_numbers, managed_numbers}
use Rattle.rina_member.proofs.Lists.{at_place, keeps_all, made_of}

-- The first element that passes is gone

abbrev pub gone : {A : Type 0} → (A → Bool) → List A → List A
gone p [] = []
gone p (x ∷ xs) = cond (p x) xs (x ∷ gone p xs)

gone_step : {A : Type 0} (p : A → Bool) (x : A) (xs : List A) (b : Bool) → remove xs (position_or_len p xs) ≡ gone p xs → remove (x ∷ xs) (cond (not b) (1 + position_or_len p xs) 0) ≡ cond b xs (x ∷ gone p xs)
gone_step p x xs true h = refl
gone_step p x xs false h =
    let one : 1 + position_or_len p xs ≡ suc (position_or_len p xs) = omega arith in
    ap (λ (n : ℕ). remove (x ∷ xs) n) one ∙ ap (λ ys. x ∷ ys) h

gone_is : {A : Type 0} (p : A → Bool) (xs : List A) → remove xs (position_or_len p xs) ≡ gone p xs
gone_is p [] = refl
gone_is p (x ∷ xs) = gone_step p x xs (p x) (gone_is p xs)

at_step : {A : Type 0} (xs : List A) (n : ℕ) (b : Bool) → ltb n (length xs) ≡ b → without_at (cond b (Some n) None) xs ≡ remove xs n
at_step xs n true is = refl
at_step xs n false is =
    let le : length xs ≤ n = ltb-false n (length xs) is in
    let le' : length xs ≤ suc n = omega arith in
    sym (ap (λ ys. ys ++ drop (suc n) xs) (take_all n xs le) ∙ ap (λ ys. xs ++ ys) (drop_all (suc n) xs le') ∙ append-nil xs)

pub without_is : {A : Type 0} (p : A → Bool) (xs : List A) → without_at (position p xs) xs ≡ gone p xs
without_is p xs = at_step xs (position_or_len p xs) (ltb (position_or_len p xs) (length xs)) refl ∙ gone_is p xs

-- Numbers

abbrev pub is_same : ℕ → ℕ → Bool
is_same number n = n == number

numbers_step : (number : ℕ) (l : Managed) (ls : List Managed) (b : Bool) → managed_numbers (gone (is_numbered number) ls) ≡ gone (is_same number) (managed_numbers ls)
    → managed_numbers (cond b ls (l ∷ gone (is_numbered number) ls)) ≡ cond b (managed_numbers ls) (l.number ∷ gone (is_same number) (managed_numbers ls))
numbers_step number l ls true h = refl
numbers_step number l ls false h = ap (λ (ns : List ℕ). l.number ∷ ns) h

gone_numbers : (number : ℕ) (ls : List Managed) → managed_numbers (gone (is_numbered number) ls) ≡ gone (is_same number) (managed_numbers ls)
gone_numbers number [] = refl
gone_numbers number (l ∷ ls) = numbers_step number l ls (l.number == number) (gone_numbers number ls)

-- those of a management without a link
pub left_numbers : (number : ℕ) (ls : List Managed) → managed_numbers (without_at (place_of number ls) ls) ≡ gone (is_same number) (managed_numbers ls)
left_numbers number ls = ap (λ (xs : List Managed). managed_numbers xs) (without_is (is_numbered number) ls) ∙ gone_numbers number ls

apart_rest : (x : Link) (xs : List Link) → HaveOwnNumbers (x ∷ xs) → HaveOwnNumbers xs
apart_rest x xs h j k a b one two alive other same = (let e = h (suc j) (suc k) a b one two alive other same in omega (arith, e))

lost_here : (number : ℕ) (x : Link) (xs : List Link) (b : Bool) → b ≡ true → (x.number == number) ≡ true → live_numbers xs ≡ gone (is_same number) (map (λ (l : Link). l.number) (cond b (x ∷ live_of xs) (live_of xs)))
lost_here number x xs true on same = sym (ap (λ (c : Bool). cond c (live_numbers xs) (x.number ∷ gone (is_same number) (live_numbers xs))) same)
lost_here number x xs false on same = absurd (true≢false (sym on))

lost_step : (number : ℕ) (x : Link) (xs ys : List Link) (b : Bool) → (b ≡ true → (x.number == number) ≡ false) → live_numbers ys ≡ gone (is_same number) (live_numbers xs)
    → map (λ (l : Link). l.number) (cond b (x ∷ live_of ys) (live_of ys)) ≡ gone (is_same number) (map (λ (l : Link). l.number) (cond b (x ∷ live_of xs) (live_of xs)))
lost_step number x xs ys true other h =
    ap (λ (ns : List ℕ). x.number ∷ ns) h ∙ sym (ap (λ (c : Bool). cond c (live_numbers xs) (x.number ∷ gone (is_same number) (live_numbers xs))) (other refl))
lost_step number x xs ys false other h = h

-- those of the live links, once the one at a place is lost
pub lost_numbers : (links : List Link) (k : ℕ) (link : Link) → HaveOwnNumbers links → slice_get links k ≡ Some link → link.live ≡ true → live_numbers (slice_set links k (record link { live = false })) ≡ gone (is_same link.number) (live_numbers links)
lost_numbers [] k link apart is alive = absurd cc
lost_numbers (x ∷ xs) zero link apart is alive =
    let same : x ≡ link = same_Some x link is in
    lost_here link.number x xs x.live (ap (λ (l : Link). l.live) same ∙ alive) (eq-eqb x.number link.number (ap (λ (l : Link). l.number) same))
lost_numbers (x ∷ xs) (suc k) link apart is alive =
    lost_step link.number x xs (slice_set xs k (record link { live = false })) x.live
    (λ on. ne_eqb x.number link.number (λ same. (let e = apart zero (suc k) x link refl is on alive same in omega (arith, e))))
    (lost_numbers xs k link (apart_rest x xs apart) is alive)

-- a place that was set, or another
pub place_cases : {X : Type 0} (xs : List X) (k i : ℕ) (y x : X) → slice_get (slice_set xs k y) i ≡ Some x → ((i ≡ k) × (y ≡ x)) ⊎ (slice_get xs i ≡ Some x)
place_cases [] k i y x is = inr is
place_cases (z ∷ zs) zero zero y x is = inl (refl, same_Some y x is)
place_cases (z ∷ zs) zero (suc i) y x is = inr is
place_cases (z ∷ zs) (suc k) zero y x is = inr is
place_cases (z ∷ zs) (suc k) (suc i) y x is = ⊎_elim (λ both. inl (ap (λ (n : ℕ). suc n) both.0, both.1)) (λ old. inr old) (place_cases zs k i y x is)

-- no two live links have one number still
pub still_apart : (links : List Link) (k : ℕ) (link : Link) → HaveOwnNumbers links → HaveOwnNumbers (slice_set links k (record link { live = false }))
still_apart links k link apart i j a b one two alive other same =
    let lost : Link = record link { live = false } in
    ⊎_elim
    (λ both. absurd (true≢false (sym alive ∙ ap (λ (l : Link). l.live) (sym both.1))))
    (λ old. ⊎_elim
    (λ both. absurd (true≢false (sym other ∙ ap (λ (l : Link). l.live) (sym both.1))))
    (λ too. apart i j a b old too alive other same)
    (place_cases links k j lost b two))
    (place_cases links k i lost a one)

-- A list of numbers, no two of which are equal

abbrev pub Apart : List ℕ → Type 0
Apart [] = Unit {0}
Apart (n ∷ ns) = ((k : ℕ) → Contains ns k → n ≡ k → ⊥) × Apart ns

live_step : (x : Link) (xs : List Link) (b : Bool) → x.live ≡ b → HaveOwnNumbers (x ∷ xs) → Apart (live_numbers xs) → Apart (map (λ (l : Link). l.number) (cond b (x ∷ live_of xs) (live_of xs)))
live_step x xs true on apart rest = (
  (λ n has same. (
      let r = contains_unmap (λ (l : Link). l.number) (live_of xs) n has in
      let s = contains_filter (λ (l : Link). l.live) xs r.0 r.1 in
      let e = apart zero (suc s.0.0) x r.0 refl (at_place xs r.0 s.0) on s.1 (same ∙ sym r.2) in
      omega (arith, e))),
  rest,
)
live_step x xs false on apart rest = rest

pub live_apart : (links : List Link) → HaveOwnNumbers links → Apart (live_numbers links)
live_apart [] apart = tt
live_apart (x ∷ xs) apart = live_step x xs x.live refl apart (live_apart xs (apart_rest x xs apart))

-- Links over which PDUs may leave

-- a next hop has another number
abbrev pub is_other : ℕ → Hop → Bool
is_other number h = not (number == h.number)

abbrev pub hop : ℕ → ℕ → ℕ → Hop
hop number weight peer = record { number = number; peer = peer; weight = weight }

hop_by : (number weight : ℕ) (up : Bool) (peer : Option ℕ) (h : Hop) → cond up (option_map (hop number weight) peer) None ≡ Some h → h.number ≡ number
hop_by number weight true None h is = absurd cc
hop_by number weight true (Some p) h is = sym (ap (λ (x : Hop). x.number) (same_Some (hop number weight p) h is))
hop_by number weight false peer h is = absurd cc

pub hop_number : (l : Managed) (h : Hop) → hop_of l ≡ Some h → h.number ≡ l.number
hop_number l h is = hop_by l.number l.weight l.up l.peer h is

-- where no link has a number, no hop has it
none_numbered : (number : ℕ) (ls : List Managed) → ((n : ℕ) → Contains (managed_numbers ls) n → number ≡ n → ⊥) → filter (is_other number) (hops_of ls) ≡ hops_of ls
none_numbered number ls none = keeps_all (is_other number) (hops_of ls) (λ h among. (
    let r = made_of hop_of ls h among in
    ap not (ne_eqb number h.number (λ same. none r.0.number (contains_map (λ (l : Managed). l.number) ls r.0 r.1) (same ∙ hop_number r.0 h r.2)))))

here_left : (number : ℕ) (xs : List Hop) (o : Option Hop) → ((h : Hop) → o ≡ Some h → (number == h.number) ≡ true) → filter (is_other number) xs ≡ xs → xs ≡ filter (is_other number) (cons_option o xs)
here_left number xs None its rest = sym rest
here_left number xs (Some h) its rest = sym (ap (λ (c : Bool). cond (not c) (h ∷ filter (is_other number) xs) (filter (is_other number) xs)) (its h refl) ∙ rest)

behind_left : (number : ℕ) (xs ys : List Hop) (o : Option Hop) → ((h : Hop) → o ≡ Some h → (number == h.number) ≡ false) → xs ≡ filter (is_other number) ys → cons_option o xs ≡ filter (is_other number) (cons_option o ys)
behind_left number xs ys None its rest = rest
behind_left number xs ys (Some h) its rest = ap (λ (hs : List Hop). h ∷ hs) rest ∙ sym (ap (λ (c : Bool). cond (not c) (h ∷ filter (is_other number) ys) (filter (is_other number) ys)) (its h refl))

left_step : (number : ℕ) (l : Managed) (ls : List Managed) (b : Bool) → (l.number == number) ≡ b → ((n : ℕ) → Contains (managed_numbers ls) n → l.number ≡ n → ⊥) → hops_of (gone (is_numbered number) ls) ≡ filter (is_other number) (hops_of ls)
    → hops_of (cond b ls (l ∷ gone (is_numbered number) ls)) ≡ filter (is_other number) (cons_option (hop_of l) (hops_of ls))
left_step number l ls true is none more =
    let same : l.number ≡ number = eqb-true l.number number is in
    here_left number (hops_of ls) (hop_of l) (λ h made. eq-eqb number h.number (sym same ∙ sym (hop_number l h made))) (none_numbered number ls (λ n among equal. none n among (same ∙ equal)))
left_step number l ls false is none more =
    behind_left number (hops_of (gone (is_numbered number) ls)) (hops_of ls) (hop_of l)
    (λ h made. ne_eqb number h.number (λ equal. both_ways (l.number == number) is (eq-eqb l.number number (sym (equal ∙ hop_number l h made)))))
    more

gone_hops : (number : ℕ) (ls : List Managed) → Apart (managed_numbers ls) → hops_of (gone (is_numbered number) ls) ≡ filter (is_other number) (hops_of ls)
gone_hops number [] apart = refl
gone_hops number (l ∷ ls) apart = left_step number l ls (l.number == number) refl apart.0 (gone_hops number ls apart.1)

-- without a link those of the others are left
pub left_hops : (number : ℕ) (ls : List Managed) → Apart (managed_numbers ls) → hops_of (without_at (place_of number ls) ls) ≡ filter (is_other number) (hops_of ls)
left_hops number ls apart = ap (λ (xs : List Managed). hops_of xs) (without_is (is_numbered number) ls) ∙ gone_hops number ls apart

down_step : (number : ℕ) (l : Managed) (ls : List Managed) (b : Bool) → was_up (cond b (Some l) (find (is_numbered number) ls)) ≡ false → (was_up (find (is_numbered number) ls) ≡ false → hops_of (gone (is_numbered number) ls) ≡ hops_of ls)
    → hops_of (cond b ls (l ∷ gone (is_numbered number) ls)) ≡ cons_option (hop_of l) (hops_of ls)
down_step number l ls true down more = sym (ap (λ (up : Bool). cons_option (cond up (option_map (hop l.number l.weight) l.peer) None) (hops_of ls)) down)
down_step number l ls false down more = ap (λ (hs : List Hop). cons_option (hop_of l) hs) (more down)

gone_down : (number : ℕ) (ls : List Managed) → was_up (find (is_numbered number) ls) ≡ false → hops_of (gone (is_numbered number) ls) ≡ hops_of ls
gone_down number [] down = refl
gone_down number (l ∷ ls) down = down_step number l ls (l.number == number) down (gone_down number ls)

-- and all of them where it was not up
pub down_hops : (number : ℕ) (ls : List Managed) → was_up (find (is_numbered number) ls) ≡ false → hops_of (without_at (place_of number ls) ls) ≡ hops_of ls
down_hops number ls down = ap (λ (xs : List Managed). hops_of xs) (without_is (is_numbered number) ls) ∙ gone_down number ls down
