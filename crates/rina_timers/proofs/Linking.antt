-- How chains keep their order as an id leaves one or comes first in one.
use Rattle.std.proofs.Common.{◌≡◌, ◌≢◌, ℕ, ◌+◌, ◌<◌, ◌⊎◌, Option, None, Some, refl, sym, ◌∙◌, ap, arith, inl, inr}
use Rattle.std.proofs.lemmas.Bool.{cases_lt}
use Rattle.std.proofs.lemmas.Bool.Decides.{eqb_tells}
use Rattle.rina_timers.specs.Chains.{Linked}

pub told : (o : Option ℕ) → (o ≡ None) ⊎ ((x : ℕ) × (o ≡ Some x))
told None = inl refl
told (Some x) = inr (x, refl)

pub told_of : (o : Option ℕ) (p : ℕ) → (o ≡ Some p) ⊎ (o ≢ Some p)
told_of None p = inr (λ e. cc)
told_of (Some x) p = elim (eqb_tells x p) [
  | inl same ↦ inl (ap Some same.1)
  | inr apart ↦ inr (λ e. apart.1 cc)
]

-- an id that is next of another has it before it
came_from : {chain rank : ℕ → ℕ} {next prev first : ℕ → Option ℕ} {stamp : ℕ} → Linked chain rank next prev first stamp → (p m : ℕ) → chain p ≢ 0 → next p ≡ Some m → prev m ≡ Some p
came_from {chain = chain} {rank = rank} {next = next} {prev = prev} {first = first} l p m some e =
    let (same, less) = l.next_in p m some e in
    let here : chain m ≢ 0 = (λ z. some (sym same ∙ z)) in
    elim (told (prev m)) [
      | inl none ↦
          (let top = l.prev_none m here none in
          let top' : first (chain p) ≡ Some m = ap first (sym same) ∙ top in
          let above = l.first_top p m some top' in
          absurd (omega (arith, above, less)))
      | inr (q, is) ↦
          (let (same', there) = l.prev_in m q here is in
          let some' : chain q ≢ 0 = (λ z. here (sym same' ∙ z)) in
          let below = (l.next_in q m some' there).1 in
          let alike : chain p ≡ chain q = sym same ∙ sym same' in
          elim (cases_lt (rank p) (rank q)) [
            | inl lt ↦ (let no = l.next_top q p m some' alike lt there in absurd (omega (arith, no, less)))
            | inr ge ↦ elim (cases_lt (rank q) (rank p)) [
              | inl lt ↦ (let no = l.next_top p q m some (sym alike) lt e in absurd (omega (arith, no, below)))
              | inr le ↦ (let one = l.apart p q some alike (omega (arith, ge, le)) in is ∙ ap Some (sym one))
            ]
          ])
    ]

-- what changes as an id leaves its chain
pub record IsTaken (chain chain' : ℕ → ℕ) (next next' prev prev' first first' : ℕ → Option ℕ) (id : ℕ) : Type 0 where
  pub here : chain' id ≡ 0
  pub other : (m : ℕ) → m ≢ id → chain' m ≡ chain m
  pub next_before : (p : ℕ) → prev id ≡ Some p → next' p ≡ next id
  pub next_other : (p : ℕ) → prev id ≢ Some p → next' p ≡ next p
  pub prev_after : (n : ℕ) → next id ≡ Some n → prev' n ≡ prev id
  pub prev_other : (n : ℕ) → next id ≢ Some n → prev' n ≡ prev n
  pub first_none : prev id ≡ None → first' (chain id) ≡ next id
  pub first_far : (c : ℕ) → c ≢ chain id → first' c ≡ first c
  pub first_some : (c p : ℕ) → prev id ≡ Some p → first' c ≡ first c

-- an id that still stands in a chain is another one, and stands where it stood
stays : {chain chain' : ℕ → ℕ} {next next' prev prev' first first' : ℕ → Option ℕ} {id : ℕ} → IsTaken chain chain' next next' prev prev' first first' id → (m : ℕ) → chain' m ≢ 0 → (m ≢ id) × (chain' m ≡ chain m) × (chain m ≢ 0)
stays {chain' = chain'} {id = id} t m some =
    let apart : m ≢ id = (λ e. some (ap chain' e ∙ t.here)) in
    let same = t.other m apart in
    (apart, same, (λ z. some (same ∙ z)))

-- what a chain's first id is afterwards: the next one of that which left, or as before
first_told : {chain chain' rank : ℕ → ℕ} {next next' prev prev' first first' : ℕ → Option ℕ} {stamp id : ℕ} → Linked chain rank next prev first stamp → chain id ≢ 0 → IsTaken chain chain' next next' prev prev' first first' id → (c : ℕ) → ((c ≡ chain id) × (first' c ≡ next id) × (first c ≡ Some id)) ⊎ ((first' c ≡ first c) × (first c ≢ Some id))
first_told {chain = chain} {rank = rank} {next = next} {prev = prev} {first = first} {first' = first'} {id = id} l some t c = elim (eqb_tells c (chain id)) [
  | inl same ↦ elim (told (prev id)) [
    | inl none ↦ inl (same.1, ap first' same.1 ∙ t.first_none none, ap first same.1 ∙ l.prev_none id some none)
    | inr (p, is) ↦
        (let (alike, there) = l.prev_in id p some is in
        let some' : chain p ≢ 0 = (λ z. some (sym alike ∙ z)) in
        let below = (l.next_in p id some' there).1 in
        inr (t.first_some c p is, (λ e. let e' : first (chain p) ≡ Some id = ap first (alike ∙ sym same.1) ∙ e in let top = l.first_top p id some' e' in absurd (omega (arith, top, below)))))
  ]
  | inr far ↦ inr (t.first_far c far.1, (λ e. far.1 (sym (l.first_in c id e).0)))
]

-- what comes after an id afterwards: the next one of that which left, or as before
next_told : {chain chain' rank : ℕ → ℕ} {next next' prev prev' first first' : ℕ → Option ℕ} {stamp id : ℕ} → Linked chain rank next prev first stamp → chain id ≢ 0 → IsTaken chain chain' next next' prev prev' first first' id → (p : ℕ) → chain p ≢ 0 → ((chain p ≡ chain id) × (rank id < rank p) × (next' p ≡ next id) × (next p ≡ Some id) × (prev id ≡ Some p)) ⊎ ((next' p ≡ next p) × (next p ≢ Some id) × (prev id ≢ Some p))
next_told {chain = chain} {prev = prev} {id = id} l some t p some' = elim (told_of (prev id) p) [
  | inl is ↦
      (let (alike, there) = l.prev_in id p some is in
      inl (alike, (l.next_in p id some' there).1, t.next_before p is, there, is))
  | inr not ↦ inr (t.next_other p not, (λ e. not (came_from l p id some' e)), not)
]

pub taken_keeps : {chain chain' rank : ℕ → ℕ} {next next' prev prev' first first' : ℕ → Option ℕ} {stamp id : ℕ} → Linked chain rank next prev first stamp → chain id ≢ 0 → IsTaken chain chain' next next' prev prev' first first' id → Linked chain' rank next' prev' first' stamp
taken_keeps {chain = chain} {chain' = chain'} {rank = rank} {next = next} {next' = next'} {prev = prev} {prev' = prev'} {first = first} {first' = first'} {id = id} l some t = record {
  fresh = (λ m here. l.fresh m (stays t m here).2);
  apart = (λ m k here e r. let (far, same, old) = stays t m here in let here' : chain' k ≢ 0 = (λ z. here (e ∙ z)) in let (far', same', old') = stays t k here' in l.apart m k old (sym same ∙ e ∙ same') r);
  first_in = (λ c h e. elim (first_told l some t c) [
    | inl (same, new, was) ↦
        (let after : next id ≡ Some h = sym new ∙ e in
        let (alike, less) = l.next_in id h some after in
        let far : h ≢ id = (λ z. absurd (omega (arith, less, ap rank z))) in
        (t.other h far ∙ alike ∙ sym same, (λ z. some (sym same ∙ z))))
    | inr (new, not) ↦
        (let was : first c ≡ Some h = sym new ∙ e in
        let (alike, more) = l.first_in c h was in
        let far : h ≢ id = (λ z. not (was ∙ ap Some z)) in
        (t.other h far ∙ alike, more))
  ]);
  first_any = (λ m here none. let (far, same, old) = stays t m here in elim (first_told l some t (chain' m)) [
    | inl (at, new, was) ↦
        (let alike : chain m ≡ chain id = sym same ∙ at in
        let top = l.first_top m id old (ap first (sym same) ∙ was) in
        let less : rank m < rank id = elim (cases_lt (rank m) (rank id)) [ inl lt ↦ lt | inr ge ↦ absurd (far (l.apart m id old alike (omega (arith, top, ge)))) ] in
        l.next_any id m some alike less (sym new ∙ none))
    | inr (new, not) ↦ l.first_any m old (ap first (sym same) ∙ sym new ∙ none)
  ]);
  first_top = (λ m h here e. let (far, same, old) = stays t m here in elim (first_told l some t (chain' m)) [
    | inl (at, new, was) ↦
        (let alike : chain m ≡ chain id = sym same ∙ at in
        let top = l.first_top m id old (ap first (sym same) ∙ was) in
        let less : rank m < rank id = elim (cases_lt (rank m) (rank id)) [ inl lt ↦ lt | inr ge ↦ absurd (far (l.apart m id old alike (omega (arith, top, ge)))) ] in
        l.next_top id m h some alike less (sym new ∙ e))
    | inr (new, not) ↦ l.first_top m h old (ap first (sym same) ∙ sym new ∙ e)
  ]);
  next_in = (λ p n here e. let (far, same, old) = stays t p here in elim (next_told l some t p old) [
    | inl (alike, less, new, was, is) ↦
        (let (alike', less') = l.next_in id n some (sym new ∙ e) in
        let far' : n ≢ id = (λ z. absurd (omega (arith, less', ap rank z))) in
        (t.other n far' ∙ alike' ∙ sym alike ∙ sym same, omega (arith, less, less')))
    | inr (new, not, apart) ↦
        (let was : next p ≡ Some n = sym new ∙ e in
        let (alike, less) = l.next_in p n old was in
        let far' : n ≢ id = (λ z. not (was ∙ ap Some z)) in
        (t.other n far' ∙ alike ∙ sym same, less))
  ]);
  next_any = (λ p m here e r none. let (far, same, old) = stays t p here in let here' : chain' m ≢ 0 = (λ z. here (sym e ∙ z)) in let (far', same', old') = stays t m here' in let alike : chain m ≡ chain p = sym same' ∙ e ∙ same in elim (next_told l some t p old) [
    | inl (at, more, new, was, is) ↦
        (let le = l.next_top p m id old alike r was in
        let alike' : chain m ≡ chain id = alike ∙ at in
        let less : rank m < rank id = elim (cases_lt (rank m) (rank id)) [ inl lt ↦ lt | inr ge ↦ absurd (far' (l.apart m id old' alike' (omega (arith, le, ge)))) ] in
        l.next_any id m some alike' less (sym new ∙ none))
    | inr (new, not, apart) ↦ l.next_any p m old alike r (sym new ∙ none)
  ]);
  next_top = (λ p m n here e r is. let (far, same, old) = stays t p here in let here' : chain' m ≢ 0 = (λ z. here (sym e ∙ z)) in let (far', same', old') = stays t m here' in let alike : chain m ≡ chain p = sym same' ∙ e ∙ same in elim (next_told l some t p old) [
    | inl (at, more, new, was, before) ↦
        (let le = l.next_top p m id old alike r was in
        let alike' : chain m ≡ chain id = alike ∙ at in
        let less : rank m < rank id = elim (cases_lt (rank m) (rank id)) [ inl lt ↦ lt | inr ge ↦ absurd (far' (l.apart m id old' alike' (omega (arith, le, ge)))) ] in
        l.next_top id m n some alike' less (sym new ∙ is))
    | inr (new, not, apart) ↦ l.next_top p m n old alike r (sym new ∙ is)
  ]);
  prev_in = (λ m p here e. let (far, same, old) = stays t m here in elim (told_of (next id) m) [
    | inl after ↦
        (let before : prev id ≡ Some p = sym (t.prev_after m after) ∙ e in
        let (alike, there) = l.prev_in id p some before in
        let (alike', less) = l.next_in id m some after in
        let some' : chain p ≢ 0 = (λ z. some (sym alike ∙ z)) in
        let less' = (l.next_in p id some' there).1 in
        let far' : p ≢ id = (λ z. absurd (omega (arith, less', ap rank z))) in
        (t.other p far' ∙ alike ∙ sym alike' ∙ sym same, t.next_before p before ∙ after))
    | inr not ↦
        (let before : prev m ≡ Some p = sym (t.prev_other m not) ∙ e in
        let (alike, there) = l.prev_in m p old before in
        let far' : p ≢ id = (λ z. not (ap next (sym z) ∙ there)) in
        let apart : prev id ≢ Some p = (λ z. let there' = (l.prev_in id p some z).1 in far cc) in
        (t.other p far' ∙ alike ∙ sym same, t.next_other p apart ∙ there))
  ]);
  prev_none = (λ m here e. let (far, same, old) = stays t m here in elim (told_of (next id) m) [
    | inl after ↦
        (let none : prev id ≡ None = sym (t.prev_after m after) ∙ e in
        let alike = (l.next_in id m some after).0 in
        ap first' (same ∙ alike) ∙ t.first_none none ∙ after)
    | inr not ↦
        (let none : prev m ≡ None = sym (t.prev_other m not) ∙ e in
        let top = l.prev_none m old none in
        let top' : first (chain' m) ≡ Some m = ap first same ∙ top in
        elim (first_told l some t (chain' m)) [
          | inl (at, new, was) ↦ absurd (far cc)
          | inr (new, apart) ↦ new ∙ top'
        ])
  ]);
}

-- what changes as an id that stands nowhere comes first in a chain
pub record IsPushed (chain chain' rank rank' : ℕ → ℕ) (next next' prev prev' first first' : ℕ → Option ℕ) (stamp id c : ℕ) : Type 0 where
  pub here : chain' id ≡ c
  pub other : (m : ℕ) → m ≢ id → chain' m ≡ chain m
  pub rank_here : rank' id ≡ stamp
  pub rank_other : (m : ℕ) → m ≢ id → rank' m ≡ rank m
  pub next_here : next' id ≡ first c
  pub next_other : (p : ℕ) → p ≢ id → next' p ≡ next p
  pub prev_here : prev' id ≡ None
  pub prev_after : (n : ℕ) → n ≢ id → first c ≡ Some n → prev' n ≡ Some id
  pub prev_other : (n : ℕ) → n ≢ id → first c ≢ Some n → prev' n ≡ prev n
  pub first_here : first' c ≡ Some id
  pub first_far : (d : ℕ) → d ≢ c → first' d ≡ first d

-- an id that stands in a chain is the new one, or another that stands where it stood
stood : {chain chain' rank rank' : ℕ → ℕ} {next next' prev prev' first first' : ℕ → Option ℕ} {stamp id c : ℕ} → IsPushed chain chain' rank rank' next next' prev prev' first first' stamp id c → (m : ℕ) → chain' m ≢ 0 → ((m ≡ id) × (chain' m ≡ c) × (rank' m ≡ stamp)) ⊎ ((m ≢ id) × (chain' m ≡ chain m) × (chain m ≢ 0) × (rank' m ≡ rank m))
stood {chain' = chain'} {rank' = rank'} {id = id} t m some = elim (eqb_tells m id) [
  | inl same ↦ inl (same.1, ap chain' same.1 ∙ t.here, ap rank' same.1 ∙ t.rank_here)
  | inr apart ↦ (let same = t.other m apart.1 in inr (apart.1, same, (λ z. some (same ∙ z)), t.rank_other m apart.1))
]

pub pushed_keeps : {chain chain' rank rank' : ℕ → ℕ} {next next' prev prev' first first' : ℕ → Option ℕ} {stamp id c : ℕ} → Linked chain rank next prev first stamp → chain id ≡ 0 → c ≢ 0 → IsPushed chain chain' rank rank' next next' prev prev' first first' stamp id c → Linked chain' rank' next' prev' first' (stamp + 1)
pushed_keeps {chain = chain} {chain' = chain'} {rank = rank} {rank' = rank'} {next = next} {next' = next'} {prev = prev} {prev' = prev'} {first = first} {first' = first'} {stamp = stamp} {id = id} {c = c} l none some t =
    let away : (m : ℕ) → chain m ≢ 0 → m ≢ id = (λ m h e. h (ap chain e ∙ none)) in record {
      fresh = (λ m here. elim (stood t m here) [
        | inl (is, at, rk) ↦ omega (arith, rk)
        | inr (far, same, old, rk) ↦ (let f = l.fresh m old in omega (arith, rk, f))
      ]);
      apart = (λ m k here e r. let here' : chain' k ≢ 0 = (λ z. here (e ∙ z)) in elim (stood t m here) [
        | inl (is, at, rk) ↦ elim (stood t k here') [
          | inl (is', at', rk') ↦ is ∙ sym is'
          | inr (far', same', old', rk') ↦ (let f = l.fresh k old' in absurd (omega (arith, f, rk, rk', r)))
        ]
        | inr (far, same, old, rk) ↦ elim (stood t k here') [
          | inl (is', at', rk') ↦ (let f = l.fresh m old in absurd (omega (arith, f, rk, rk', r)))
          | inr (far', same', old', rk') ↦ l.apart m k old (sym same ∙ e ∙ same') (sym rk ∙ r ∙ rk')
        ]
      ]);
      first_in = (λ d h e. elim (eqb_tells d c) [
        | inl same ↦ (let is : h ≡ id = (let f : first' d ≡ Some id = ap first' same.1 ∙ t.first_here in cc) in (ap chain' is ∙ t.here ∙ sym same.1, (λ z. some (sym same.1 ∙ z))))
        | inr apart ↦ (let (at, more) = l.first_in d h (sym (t.first_far d apart.1) ∙ e) in let old : chain h ≢ 0 = (λ z. more (sym at ∙ z)) in (t.other h (away h old) ∙ at, more))
      ]);
      first_any = (λ m here e. elim (eqb_tells (chain' m) c) [
        | inl same ↦ (let f : first' (chain' m) ≡ Some id = ap first' same.1 ∙ t.first_here in cc)
        | inr apart ↦ elim (stood t m here) [
          | inl (is, at, rk) ↦ absurd (apart.1 at)
          | inr (far, same, old, rk) ↦ l.first_any m old (ap first (sym same) ∙ sym (t.first_far (chain' m) apart.1) ∙ e)
        ]
      ]);
      first_top = (λ m h here e. elim (eqb_tells (chain' m) c) [
        | inl same ↦
            (let f : first' (chain' m) ≡ Some id = ap first' same.1 ∙ t.first_here in
            let is : h ≡ id = cc in
            let top : rank' h ≡ stamp = ap rank' is ∙ t.rank_here in
            elim (stood t m here) [
              | inl (is', at, rk) ↦ omega (arith, rk, top)
              | inr (far, same', old, rk) ↦ (let f' = l.fresh m old in omega (arith, rk, top, f'))
            ])
        | inr apart ↦ elim (stood t m here) [
          | inl (is, at, rk) ↦ absurd (apart.1 at)
          | inr (far, same, old, rk) ↦
              (let was : first (chain m) ≡ Some h = ap first (sym same) ∙ sym (t.first_far (chain' m) apart.1) ∙ e in
              let top = l.first_top m h old was in
              let at = (l.first_in (chain m) h was).0 in
              let rk' = t.rank_other h (away h (λ z. old (sym at ∙ z))) in
              omega (arith, rk, rk', top))
        ]
      ]);
      next_in = (λ p n here e. elim (stood t p here) [
        | inl (is, at, rk) ↦
            (let was : first c ≡ Some n = sym t.next_here ∙ ap next' (sym is) ∙ e in
            let (at', more) = l.first_in c n was in
            let old : chain n ≢ 0 = (λ z. more (sym at' ∙ z)) in
            let rk' = t.rank_other n (away n old) in
            let f = l.fresh n old in
            (t.other n (away n old) ∙ at' ∙ sym at, omega (arith, rk, rk', f)))
        | inr (far, same, old, rk) ↦
            (let (at, less) = l.next_in p n old (sym (t.next_other p far) ∙ e) in
            let old' : chain n ≢ 0 = (λ z. old (sym at ∙ z)) in
            let rk' = t.rank_other n (away n old') in
            (t.other n (away n old') ∙ at ∙ sym same, omega (arith, rk, rk', less)))
      ]);
      next_any = (λ p m here e r no. let here' : chain' m ≢ 0 = (λ z. here (sym e ∙ z)) in elim (stood t p here) [
        | inl (is, at, rk) ↦ elim (stood t m here') [
          | inl (is', at', rk') ↦ absurd (omega (arith, rk, rk', r))
          | inr (far', same', old', rk') ↦
              (let at' : chain m ≡ c = sym same' ∙ e ∙ at in
              l.first_any m old' (ap first at' ∙ sym t.next_here ∙ ap next' (sym is) ∙ no))
        ]
        | inr (far, same, old, rk) ↦ elim (stood t m here') [
          | inl (is', at', rk') ↦ (let f = l.fresh p old in absurd (omega (arith, rk, rk', r, f)))
          | inr (far', same', old', rk') ↦ l.next_any p m old (sym same' ∙ e ∙ same) (omega (arith, rk, rk', r)) (sym (t.next_other p far) ∙ no)
        ]
      ]);
      next_top = (λ p m n here e r to. let here' : chain' m ≢ 0 = (λ z. here (sym e ∙ z)) in elim (stood t p here) [
        | inl (is, at, rk) ↦ elim (stood t m here') [
          | inl (is', at', rk') ↦ absurd (omega (arith, rk, rk', r))
          | inr (far', same', old', rk') ↦
              (let at' : chain m ≡ c = sym same' ∙ e ∙ at in
              let was : first (chain m) ≡ Some n = ap first at' ∙ sym t.next_here ∙ ap next' (sym is) ∙ to in
              let top = l.first_top m n old' was in
              let in' = (l.first_in (chain m) n was).0 in
              let rkn = t.rank_other n (away n (λ z. old' (sym in' ∙ z))) in
              omega (arith, rk', rkn, top))
        ]
        | inr (far, same, old, rk) ↦ elim (stood t m here') [
          | inl (is', at', rk') ↦ (let f = l.fresh p old in absurd (omega (arith, rk, rk', r, f)))
          | inr (far', same', old', rk') ↦
              (let was = sym (t.next_other p far) ∙ to in
              let top = l.next_top p m n old (sym same' ∙ e ∙ same) (omega (arith, rk, rk', r)) was in
              let in' = (l.next_in p n old was).0 in
              let rkn = t.rank_other n (away n (λ z. old (sym in' ∙ z))) in
              omega (arith, rk', rkn, top))
        ]
      ]);
      prev_in = (λ m p here e. elim (stood t m here) [
        | inl (is, at, rk) ↦ (let no : prev' m ≡ None = ap prev' is ∙ t.prev_here in absurd cc)
        | inr (far, same, old, rk) ↦ elim (told_of (first c) m) [
          | inl top ↦
              (let is : p ≡ id = (let f = t.prev_after m far top in cc) in
              let at = (l.first_in c m top).0 in
              (ap chain' is ∙ t.here ∙ sym at ∙ sym same, ap next' is ∙ t.next_here ∙ top))
          | inr not ↦
              (let (at, there) = l.prev_in m p old (sym (t.prev_other m far not) ∙ e) in
              let far' = away p (λ z. old (sym at ∙ z)) in
              (t.other p far' ∙ at ∙ sym same, t.next_other p far' ∙ there))
        ]
      ]);
      prev_none = (λ m here e. elim (stood t m here) [
        | inl (is, at, rk) ↦ ap first' at ∙ t.first_here ∙ ap Some (sym is)
        | inr (far, same, old, rk) ↦ elim (told_of (first c) m) [
          | inl top ↦ (let f = t.prev_after m far top in absurd cc)
          | inr not ↦
              (let was = l.prev_none m old (sym (t.prev_other m far not) ∙ e) in
              let apart : chain' m ≢ c = (λ z. not (ap first (sym z ∙ same) ∙ was)) in
              t.first_far (chain' m) apart ∙ ap first same ∙ was)
        ]
      ]);
    }
