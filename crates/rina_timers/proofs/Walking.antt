-- A walk down a chain, to the id that is due first.
use Rattle.std.proofs.Common.{◌≡◌, ◌≢◌, ℕ, zero, suc, ◌+◌, ◌<◌, ◌≤◌, ◌⊎◌, true, false, List, Option, None, Some, length, nat_lt, if◌then◌else◌, refl, sym, ◌∙◌, ap, arith, inl, inr}
use Rattle.std.proofs.lemmas.Bool.{cases_lt}
use Rattle.std.proofs.lemmas.Bool.Decides.{eqb_tells, nat_tests}
use Rattle.rina_timers.specs.Chains.{chain_of, link, tick_of, is_before, Chained, IsNoLater, IsEarliestOf}
use Rattle.rina_timers.proofs.Written.{chain_within}

-- how many ids below a number are ranked below another
abbrev pub below : (ℕ → ℕ) → ℕ → ℕ → ℕ
below rank r zero = 0
below rank r (suc n) = (if nat_lt (rank n) r then 1 else 0) + below rank r n

lt_tells : (a b : ℕ) → ((nat_lt a b ≡ true) × (a < b)) ⊎ ((nat_lt a b ≡ false) × (b ≤ a))
lt_tells a b = elim (cases_lt a b) [ inl lt ↦ inl (grind (arith, nat_tests), lt) | inr ge ↦ inr (grind (arith, nat_tests), ge) ]

below_few : (rank : ℕ → ℕ) (r n : ℕ) → below rank r n ≤ n
below_few rank r zero = omega arith
below_few rank r (suc n) = (let up = below_few rank r n in elim (lt_tells (rank n) r) [
  | inl is ↦ rw is.0 (omega (arith, up))
  | inr not ↦ rw not.0 (omega (arith, up))
])

below_mono : (rank : ℕ → ℕ) (r s n : ℕ) → r ≤ s → below rank r n ≤ below rank s n
below_mono rank r s zero le = omega arith
below_mono rank r s (suc n) le = (let up = below_mono rank r s n le in elim (lt_tells (rank n) r) [
  | inl is ↦ elim (lt_tells (rank n) s) [
    | inl is' ↦ rw (is.0, is'.0) (omega (arith, up))
    | inr not' ↦ absurd (omega (arith, le, is.1, not'.1))
  ]
  | inr not ↦ elim (lt_tells (rank n) s) [
    | inl is' ↦ rw (not.0, is'.0) (omega (arith, up))
    | inr not' ↦ rw (not.0, not'.0) (omega (arith, up))
  ]
])

-- going down to an id counts one less at least
below_less : (rank : ℕ → ℕ) (s a n : ℕ) → a < n → rank a < s → below rank (rank a) n < below rank s n
below_less rank s a zero h lt = absurd (omega arith)
below_less rank s a (suc n) h lt = elim (eqb_tells a n) [
  | inl is ↦
      (let up = below_mono rank (rank a) s n (omega arith) in
      let at : rank a ≡ rank n = ap rank is.1 in
      elim (lt_tells (rank n) (rank a)) [
        | inl is ↦ absurd (omega (arith, is.1, at))
        | inr not ↦ elim (lt_tells (rank n) s) [
          | inl is' ↦ rw (not.0, is'.0) (omega (arith, up))
          | inr not' ↦ absurd (omega (arith, at, lt, not'.1))
        ]
      ])
  | inr far ↦
      (let apart = far.1 in
      let up = below_less rank s a n (omega (arith, h, apart)) lt in
      elim (lt_tells (rank n) (rank a)) [
        | inl is ↦ elim (lt_tells (rank n) s) [
          | inl is' ↦ rw (is.0, is'.0) (omega (arith, up))
          | inr not' ↦ absurd (omega (arith, lt, is.1, not'.1))
        ]
        | inr not ↦ elim (lt_tells (rank n) s) [
          | inl is' ↦ rw (not.0, is'.0) (omega (arith, up))
          | inr not' ↦ rw (not.0, not'.0) (omega (arith, up))
        ]
      ])
]

-- an id is not below itself
below_itself : (rank : ℕ → ℕ) (a n : ℕ) → a < n → below rank (rank a) n < n
below_itself rank a zero h = absurd (omega arith)
below_itself rank a (suc n) h = elim (eqb_tells a n) [
  | inl is ↦
      (let up = below_few rank (rank a) n in
      let at : rank a ≡ rank n = ap rank is.1 in
      elim (lt_tells (rank n) (rank a)) [
        | inl is ↦ absurd (omega (arith, is.1, at))
        | inr not ↦ rw not.0 (omega (arith, up))
      ])
  | inr far ↦
      (let apart = far.1 in
      let up = below_itself rank a n (omega (arith, h, apart)) in
      elim (lt_tells (rank n) (rank a)) [
        | inl is ↦ rw is.0 (omega (arith, up))
        | inr not ↦ rw not.0 (omega (arith, up))
      ])
]

-- as far as the walk has come, `best` is due not later than any id passed
pub record Walk (chain : List ℕ) (next prev first times : List (Option ℕ)) (c id best steps : ℕ) : Type 0 where
  pub links : Chained chain next prev first
  pub here : chain_of chain id ≡ c
  pub best_here : chain_of chain best ≡ c
  pub passed : (m : ℕ) → chain_of chain m ≡ c → links.rank id ≤ links.rank m → IsNoLater times best m
  pub left : below links.rank (links.rank id) (length chain) + steps < length chain

no_later_same : (times : List (Option ℕ)) (a : ℕ) → IsNoLater times a a
no_later_same times a = inr (refl, omega arith)

no_later_trans : (times : List (Option ℕ)) (a b d : ℕ) → IsNoLater times a b → IsNoLater times b d → IsNoLater times a d
no_later_trans times a b d x y = elim x [
  | inl before ↦ elim y [ inl after ↦ inl (omega (arith, before, after)) | inr same ↦ inl (omega (arith, before, same.0)) ]
  | inr equal ↦ elim y [ inl after ↦ inl (omega (arith, equal.0, after)) | inr same ↦ inr (equal.0 ∙ same.0, omega (arith, equal.1, same.1)) ]
]

before_told : (times : List (Option ℕ)) (a b : ℕ) → ((is_before times a b ≡ true) × IsNoLater times a b) ⊎ ((is_before times a b ≡ false) × IsNoLater times b a)
before_told times a b =
    let s : ℕ = tick_of times a in let t : ℕ = tick_of times b in
    elim (cases_lt s t) [
      | inl lt ↦ inl (grind (arith, nat_tests), inl lt)
      | inr ge ↦ elim (cases_lt t s) [
        | inl lt ↦ inr (grind (arith, nat_tests), inl lt)
        | inr le ↦ elim (cases_lt a b) [
          | inl lt ↦ inl (grind (arith, nat_tests), inr (omega arith, omega arith))
          | inr more ↦ inr (grind (arith, nat_tests), inr (omega arith, omega arith))
        ]
      ]
    ]

-- at the first id of the chain
pub walk_begins : (chain : List ℕ) (next prev first times : List (Option ℕ)) → Chained chain next prev first → (c id : ℕ) → c ≢ 0 → link first c ≡ Some id → Walk chain next prev first times c id id 0
walk_begins chain next prev first times l c id some top =
    let at = (l.linked.first_in c id top).0 in
    let here : chain_of chain id ≢ 0 = (λ z. some (sym at ∙ z)) in
    record {
      links = l;
      here = at;
      best_here = at;
      passed = (λ m e le.
          let old : chain_of chain m ≢ 0 = (λ z. some (sym e ∙ z)) in
          let above = l.linked.first_top m id old (ap (link first) e ∙ top) in
          let is = l.linked.apart id m here (at ∙ sym e) (omega (arith, above, le)) in
          rw is (no_later_same times m));
      left = (let b = below_itself l.rank id (length chain) (chain_within chain id here) in omega (arith, b));
    }

-- one step down
pub walk_goes : (chain : List ℕ) (next prev first times : List (Option ℕ)) (c id best steps : ℕ) → Walk chain next prev first times c id best steps → c ≢ 0 → (n : ℕ) → link next id ≡ Some n → Walk chain next prev first times c n (if is_before times n best then n else best) (steps + 1)
walk_goes chain next prev first times c id best steps w some n e =
    let l = w.links in
    let here : chain_of chain id ≢ 0 = (λ z. some (sym w.here ∙ z)) in
    let (alike, less) = l.linked.next_in id n here e in
    let at : chain_of chain n ≡ c = alike ∙ w.here in
    let there : chain_of chain n ≢ 0 = (λ z. some (sym at ∙ z)) in
    let b = below_less l.rank (l.rank id) n (length chain) (chain_within chain n there) less in
    let left = w.left in
    let on : (m : ℕ) → chain_of chain m ≡ c → l.rank n ≤ l.rank m → (m ≡ n) ⊎ IsNoLater times best m = (λ m e' le. elim (cases_lt (l.rank m) (l.rank id)) [
      | inl lt ↦
          (let old : chain_of chain m ≢ 0 = (λ z. some (sym e' ∙ z)) in
          let top = l.linked.next_top id m n here (e' ∙ sym w.here) lt e in
          inl (l.linked.apart m n old (e' ∙ sym at) (omega (arith, top, le))))
      | inr ge ↦ inr (w.passed m e' ge)
    ]) in
    elim (before_told times n best) [
      | inl is ↦ rw is.0 (record {
        links = l;
        here = at;
        best_here = at;
        passed = (λ m e' le. elim (on m e' le) [ inl is ↦ rw is (no_later_same times n) | inr later ↦ no_later_trans times n best m is.1 later ]);
        left = omega (arith, b, left);
      })
      | inr not ↦ rw not.0 (record {
        links = l;
        here = at;
        best_here = w.best_here;
        passed = (λ m e' le. elim (on m e' le) [ inl is ↦ rw is not.1 | inr later ↦ later ]);
        left = omega (arith, b, left);
      })
    ]

-- behind the last id
pub walk_ends : (chain : List ℕ) (next prev first times : List (Option ℕ)) (c id best steps : ℕ) → Walk chain next prev first times c id best steps → c ≢ 0 → link next id ≡ None → IsEarliestOf times chain c (Some best)
walk_ends chain next prev first times c id best steps w some e =
    let here : chain_of chain id ≢ 0 = (λ z. some (sym w.here ∙ z)) in (
      w.best_here,
      (λ m e'. elim (cases_lt (w.links.rank m) (w.links.rank id)) [
        | inl lt ↦ absurd (w.links.linked.next_any id m here (e' ∙ sym w.here) lt e)
        | inr ge ↦ w.passed m e' ge
      ]),
    )

-- the next id is one of the lists
pub walk_within : (chain : List ℕ) (next prev first times : List (Option ℕ)) (c id best steps : ℕ) → Walk chain next prev first times c id best steps → c ≢ 0 → (n : ℕ) → link next id ≡ Some n → n < length chain
walk_within chain next prev first times c id best steps w some n e =
    let here : chain_of chain id ≢ 0 = (λ z. some (sym w.here ∙ z)) in
    let alike = (w.links.linked.next_in id n here e).0 in
    chain_within chain n (λ z. here (sym alike ∙ z))

pub walk_at : (chain : List ℕ) (next prev first times : List (Option ℕ)) (c id best steps : ℕ) → Walk chain next prev first times c id best steps → c ≢ 0 → id < length chain
walk_at chain next prev first times c id best steps w some = chain_within chain id (λ z. some (sym w.here ∙ z))
