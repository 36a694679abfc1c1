-- The chains' lists, as links are written and read.
use Rattle.std.proofs.Common.{◌≡◌, ◌≢◌, ℕ, ◌+◌, ◌<◌, ◌≤◌, ◌==◌, if◌then◌else◌, List, Option, None, Some, length, slice_index_or, slice_set, replicate, refl, sym, ◌∙◌, ap, arith, inl, inr, get_or-set_other, get_or-set_same, length-set}
use Rattle.std.proofs.lemmas.Bool.{cases_lt}
use Rattle.std.proofs.lemmas.Bool.Decides.{eqb_tells}
use Rattle.std.proofs.lemmas.List.{get_or-replicate, length-replicate, get_or_past}
use Rattle.std.proofs.lemmas.Option.{get_or_from_slice_get, slice_get_read}
use Rattle.rina_timers.specs.Chains.{chain_of, link, led_by, set_link, Within, Chained, ChainedFrom, IsFirstSome, IsFirstChain}
use Rattle.rina_timers.proofs.Linking.{told, taken_keeps, pushed_keeps}

pub link_read : (xs : List (Option ℕ)) (i : ℕ) (x : Option ℕ) → i < length xs → x ≡ slice_index_or xs i x → x ≡ link xs i
link_read xs i x h e = sym (get_or_from_slice_get xs i x None (slice_get_read xs (length xs) i x refl h e))

pub chain_read : (xs : List ℕ) (i x : ℕ) → i < length xs → x ≡ slice_index_or xs i x → x ≡ chain_of xs i
chain_read xs i x h e = sym (get_or_from_slice_get xs i x 0 (slice_get_read xs (length xs) i x refl h e))

pub chain_within : (chain : List ℕ) (id : ℕ) → chain_of chain id ≢ 0 → id < length chain
chain_within chain id some = elim (cases_lt id (length chain)) [ inl lt ↦ lt | inr ge ↦ absurd (some (get_or_past chain id 0 ge)) ]

pub set_link_long : (at x : Option ℕ) (links : List (Option ℕ)) → length (set_link at x links) ≡ length links
set_link_long None x links = refl
set_link_long (Some i) x links = length-set links i x

pub set_link_same : (at x : Option ℕ) (links : List (Option ℕ)) (i : ℕ) → at ≡ Some i → i < length links → link (set_link at x links) i ≡ x
set_link_same None x links i e h = absurd cc
set_link_same (Some j) x links i e h = (let is : j ≡ i = cc in rw is (get_or-set_same links i x None h))

pub set_link_other : (at x : Option ℕ) (links : List (Option ℕ)) (i : ℕ) → at ≢ Some i → link (set_link at x links) i ≡ link links i
set_link_other None x links i apart = refl
set_link_other (Some j) x links i apart = (let far : i ≢ j = (λ z. apart (ap Some (sym z))) in get_or-set_other links j i x None far)

led_none : (c : ℕ) (prev : Option ℕ) → prev ≡ None → led_by c prev ≡ Some c
led_none c None e = refl
led_none c (Some p) e = absurd cc

led_far : (c d : ℕ) (prev : Option ℕ) → d ≢ c → led_by c prev ≢ Some d
led_far c d None apart = (λ e. apart cc)
led_far c d (Some p) apart = (λ e. cc)

led_some : (c d p : ℕ) (prev : Option ℕ) → prev ≡ Some p → led_by c prev ≢ Some d
led_some c d p None e = absurd cc
led_some c d p (Some q) e = (λ z. cc)

-- an id that stands in a chain is before another or after it only within the lists
pub prev_within : (chain : List ℕ) (next prev first : List (Option ℕ)) → Chained chain next prev first → (id : ℕ) → chain_of chain id ≢ 0 → (at : Option ℕ) → at ≡ link prev id → Within at (length next)
prev_within chain next prev first l id some None e = tt
prev_within chain next prev first l id some (Some p) e = (let (alike, there) = l.linked.prev_in id p some (sym e) in let h = chain_within chain p (λ z. some (sym alike ∙ z)) in omega (arith, h, l.next_long))

pub next_within : (chain : List ℕ) (next prev first : List (Option ℕ)) → Chained chain next prev first → (id : ℕ) → chain_of chain id ≢ 0 → (at : Option ℕ) → at ≡ link next id → Within at (length prev)
next_within chain next prev first l id some None e = tt
next_within chain next prev first l id some (Some n) e = (let alike = (l.linked.next_in id n some (sym e)).0 in let h = chain_within chain n (λ z. some (sym alike ∙ z)) in omega (arith, h, l.prev_long))

pub first_within : (chain : List ℕ) (next prev first : List (Option ℕ)) → Chained chain next prev first → (c : ℕ) → (at : Option ℕ) → at ≡ link first c → Within at (length prev)
first_within chain next prev first l c None e = tt
first_within chain next prev first l c (Some n) e = (let (alike, more) = l.linked.first_in c n (sym e) in let h = chain_within chain n (λ z. more (sym alike ∙ z)) in omega (arith, h, l.prev_long))

pub led_within : (chain : List ℕ) (next prev first : List (Option ℕ)) → Chained chain next prev first → (id : ℕ) (at : Option ℕ) → Within (led_by (chain_of chain id) at) (length first)
led_within chain next prev first l id None = (let h = l.within id in omega (arith, h, l.first_long))
led_within chain next prev first l id (Some p) = tt

-- each id stands below 514 still
within_set : (chain : List ℕ) (id c : ℕ) → ((m : ℕ) → chain_of chain m < 514) → c < 514 → id < length chain → (m : ℕ) → chain_of (slice_set chain id c) m < 514
within_set chain id c h few there m = elim (eqb_tells m id) [
  | inl is ↦ (let e = get_or-set_same chain id c 0 there in rw (is.1, e) few)
  | inr apart ↦ (let e = get_or-set_other chain id m c 0 apart.1 in rw e (h m))
]

pub taken_chained : (chain : List ℕ) (next prev first : List (Option ℕ)) → Chained chain next prev first → (id : ℕ) → id < length chain → chain_of chain id ≢ 0 → (nx pv : Option ℕ) → nx ≡ link next id → pv ≡ link prev id → Chained (slice_set chain id 0) (set_link pv nx next) (set_link nx pv prev) (set_link (led_by (chain_of chain id) pv) nx first)
taken_chained chain next prev first l id there some nx pv nx_is pv_is =
    let long = length-set chain id 0 in
    let next_long = set_link_long pv nx next in
    let prev_long = set_link_long nx pv prev in
    let first_long = set_link_long (led_by (chain_of chain id) pv) nx first in
    record {
      next_long = next_long ∙ l.next_long ∙ sym long;
      prev_long = prev_long ∙ l.prev_long ∙ sym long;
      first_long = first_long ∙ l.first_long;
      within = within_set chain id 0 l.within (omega arith) there;
      rank = l.rank;
      stamp = l.stamp;
      linked = taken_keeps l.linked some (record {
        here = get_or-set_same chain id 0 0 there;
        other = (λ m apart. get_or-set_other chain id m 0 0 apart);
        next_before = (λ p e. let within = prev_within chain next prev first l id some (Some p) (sym e) in set_link_same pv nx next p (pv_is ∙ e) within ∙ nx_is);
        next_other = (λ p apart. set_link_other pv nx next p (λ z. apart (sym pv_is ∙ z)));
        prev_after = (λ n e. let within = next_within chain next prev first l id some (Some n) (sym e) in set_link_same nx pv prev n (nx_is ∙ e) within ∙ pv_is);
        prev_other = (λ n apart. set_link_other nx pv prev n (λ z. apart (sym nx_is ∙ z)));
        first_none = (λ e. let h = l.within id in set_link_same (led_by (chain_of chain id) pv) nx first (chain_of chain id) (led_none (chain_of chain id) pv (pv_is ∙ e)) (omega (arith, h, l.first_long)) ∙ nx_is);
        first_far = (λ c apart. set_link_other (led_by (chain_of chain id) pv) nx first c (led_far (chain_of chain id) c pv apart));
        first_some = (λ c p e. set_link_other (led_by (chain_of chain id) pv) nx first c (led_some (chain_of chain id) c p pv (pv_is ∙ e)));
      });
    }

pub pushed_chained : (chain : List ℕ) (next prev first : List (Option ℕ)) → Chained chain next prev first → (id c : ℕ) → id < length chain → chain_of chain id ≡ 0 → c ≢ 0 → c < 514 → (nx : Option ℕ) → nx ≡ link first c → Chained (slice_set chain id c) (slice_set next id nx) (slice_set (set_link nx (Some id) prev) id None) (slice_set first c (Some id))
pushed_chained chain next prev first l id c there none some few nx nx_is =
    let long = length-set chain id c in
    let next_there : id < length next = omega (arith, there, l.next_long) in
    let prev_long = set_link_long nx (Some id) prev in
    let prev_there : id < length (set_link nx (Some id) prev) = omega (arith, there, l.prev_long, prev_long) in
    let first_there : c < length first = omega (arith, few, l.first_long) in
    record {
      next_long = length-set next id nx ∙ l.next_long ∙ sym long;
      prev_long = length-set (set_link nx (Some id) prev) id None ∙ prev_long ∙ l.prev_long ∙ sym long;
      first_long = length-set first c (Some id) ∙ l.first_long;
      within = within_set chain id c l.within few there;
      rank = (λ m. if m == id then l.stamp else l.rank m);
      stamp = l.stamp + 1;
      linked = pushed_keeps l.linked none some (record {
        here = get_or-set_same chain id c 0 there;
        other = (λ m apart. get_or-set_other chain id m c 0 apart);
        rank_here = elim (eqb_tells id id) [ inl is ↦ rw is.0 refl | inr not ↦ absurd (not.1 refl) ];
        rank_other = (λ m apart. elim (eqb_tells m id) [ inl is ↦ absurd (apart is.1) | inr not ↦ rw not.0 refl ]);
        next_here = get_or-set_same next id nx None next_there ∙ nx_is;
        next_other = (λ m apart. get_or-set_other next id m nx None apart);
        prev_here = get_or-set_same (set_link nx (Some id) prev) id None None prev_there;
        prev_after = (λ n apart e. let within = first_within chain next prev first l c (Some n) (sym e) in get_or-set_other (set_link nx (Some id) prev) id n None None apart ∙ set_link_same nx (Some id) prev n (nx_is ∙ e) within);
        prev_other = (λ n apart no. get_or-set_other (set_link nx (Some id) prev) id n None None apart ∙ set_link_other nx (Some id) prev n (λ z. no (sym nx_is ∙ z)));
        first_here = get_or-set_same first c (Some id) None first_there;
        first_far = (λ d apart. get_or-set_other first c d (Some id) None apart);
      });
    }

none_in : (n i : ℕ) → link (replicate n None) i ≡ None
none_in n i = elim (cases_lt i n) [
  | inl lt ↦ get_or-replicate n i None None lt
  | inr ge ↦ (let no : Option ℕ = None in let long = length-replicate n no in get_or_past (replicate n no) i None (omega (arith, ge, long)))
]

zero_in : (n i : ℕ) → chain_of (replicate n 0) i ≡ 0
zero_in n i = elim (cases_lt i n) [
  | inl lt ↦ get_or-replicate n i 0 0 lt
  | inr ge ↦ (let none : ℕ = 0 in let long = length-replicate n none in get_or_past (replicate n 0) i 0 (omega (arith, ge, long)))
]

-- no id stands in a chain
pub none_chained : (n : ℕ) → Chained (replicate n 0) (replicate n None) (replicate n None) (replicate 514 None)
none_chained n =
    let no : Option ℕ = None in
    let none : ℕ = 0 in
    let zeros = length-replicate n none in
    let nones = length-replicate n no in
    let out : (m : ℕ) → chain_of (replicate n 0) m ≢ 0 → ⊥ = (λ m h. h (zero_in n m)) in
    record {
      next_long = nones ∙ sym zeros;
      prev_long = nones ∙ sym zeros;
      first_long = length-replicate 514 no;
      within = (λ m. rw (zero_in n m) (omega arith));
      rank = (λ m. 0);
      stamp = 0;
      linked = record {
        fresh = (λ m h. absurd (out m h));
        apart = (λ m k h e r. absurd (out m h));
        first_in = (λ c h e. absurd (let none = none_in 514 c in cc));
        first_any = (λ m h. absurd (out m h));
        first_top = (λ m k h e. absurd (out m h));
        next_in = (λ p k h e. absurd (out p h));
        next_any = (λ p m h e r. absurd (out p h));
        next_top = (λ p m k h e r t. absurd (out p h));
        prev_in = (λ m p h e. absurd (out m h));
        prev_none = (λ m h e. absurd (out m h));
      };
    }

pub none_low : (n low m : ℕ) → chain_of (replicate n 0) m ≢ 0 → low ≤ chain_of (replicate n 0) m
none_low n low m h = absurd (h (zero_in n m))

-- no id stands before the low chain, as one leaves its chain or comes into one
pub taken_low : (chain : List ℕ) (low : ℕ) → ((m : ℕ) → chain_of chain m ≢ 0 → low ≤ chain_of chain m) → (id : ℕ) → id < length chain → (m : ℕ) → chain_of (slice_set chain id 0) m ≢ 0 → low ≤ chain_of (slice_set chain id 0) m
taken_low chain low least id there m some = elim (eqb_tells m id) [
  | inl is ↦ (let e = get_or-set_same chain id 0 0 there in absurd (some (ap (chain_of (slice_set chain id 0)) is.1 ∙ e)))
  | inr apart ↦ (let e = get_or-set_other chain id m 0 0 apart.1 in rw e (least m (λ z. some (e ∙ z))))
]

pub pushed_low : (chain : List ℕ) (low : ℕ) → ((m : ℕ) → chain_of chain m ≢ 0 → low ≤ chain_of chain m) → (id c : ℕ) → id < length chain → (low' : ℕ) → low' ≤ low → low' ≤ c → (m : ℕ) → chain_of (slice_set chain id c) m ≢ 0 → low' ≤ chain_of (slice_set chain id c) m
pushed_low chain low least id c there low' under here m some = elim (eqb_tells m id) [
  | inl is ↦ (let e = get_or-set_same chain id c 0 there in rw (is.1, e) here)
  | inr apart ↦ (let e = get_or-set_other chain id m c 0 apart.1 in let old = least m (λ z. some (e ∙ z)) in rw e (omega (arith, under, old)))
]

-- no chain before the first place with a link has an id
pub least_told : (chain : List ℕ) (next prev first : List (Option ℕ)) (low c : ℕ) → ChainedFrom chain next prev first low → IsFirstSome first low c → (m : ℕ) → chain_of chain m ≢ 0 → c ≤ chain_of chain m
least_told chain next prev first low c l is m h = elim (cases_lt (chain_of chain m) c) [
  | inl lt ↦ absurd (l.links.linked.first_any m h (is.before (chain_of chain m) (l.least m h) lt))
  | inr ge ↦ ge
]

pub first_chain_told : (chain : List ℕ) (next prev first : List (Option ℕ)) (low c : ℕ) → ChainedFrom chain next prev first low → IsFirstSome first low c → c < 514 → IsFirstChain chain (Some c)
first_chain_told chain next prev first low c l is few = elim (told (link first c)) [
  | inl none ↦ absurd (is.here (omega (arith, few, l.links.first_long)) none)
  | inr (id, top) ↦ (let (at, some) = l.links.linked.first_in c id top in (some, few, (id, at), least_told chain next prev first low c l is))
]

pub no_chain_told : (chain : List ℕ) (next prev first : List (Option ℕ)) (low c : ℕ) → ChainedFrom chain next prev first low → IsFirstSome first low c → 514 ≤ c → IsFirstChain chain None
no_chain_told chain next prev first low c l is past id = elim (eqb_tells (chain_of chain id) 0) [
  | inl same ↦ same.1
  | inr not ↦ (let le = least_told chain next prev first low c l is id not.1 in let few = l.links.within id in absurd (omega (arith, le, few, past)))
]
