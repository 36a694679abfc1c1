-- What a list with one more entry keeps.
use Rattle.std.proofs.Common.{◌≡◌, ◌≢◌, ℕ, zero, suc, ◌+◌, ◌≤◌, List, [], ◌∷◌, ◌++◌, length, slice_get, Some, refl, sym, ◌∙◌, ap, arith, inl, inr, ◌⊎◌}
use Rattle.std.proofs.lemmas.Option.{slice_get_within}
use Rattle.rina_law.specs.declared.entry.Entry.{Entry}
use Rattle.rina_law.specs.Journal.{Born, IsPlace}
use Rattle.rina_iface.specs.Journal.{IsDated}

-- what stands in it stood there, or is the last
pub pushed_at : {X : Type 0} (xs : List X) (y : X) (i : ℕ) (x : X) → slice_get (xs ++ y ∷ []) i ≡ Some x → (slice_get xs i ≡ Some x) ⊎ ((i ≡ length xs) × (x ≡ y))
pushed_at [] y zero x h = inr (refl, cc)
pushed_at [] y (suc i) x h = cc
pushed_at (z ∷ xs) y zero x h = inl h
pushed_at (z ∷ xs) y (suc i) x h = elim (pushed_at xs y i x h) [ inl g ↦ inl g | inr g ↦ inr (ap suc g.0, g.1) ]

-- what stood there stands there still
pub still_at : {X : Type 0} (xs ys : List X) (i : ℕ) (x : X) → slice_get xs i ≡ Some x → slice_get (xs ++ ys) i ≡ Some x
still_at [] ys i x h = cc
still_at (z ∷ xs) ys zero x h = h
still_at (z ∷ xs) ys (suc i) x h = still_at xs ys i x h

pub last_at : {X : Type 0} (xs : List X) (y : X) → slice_get (xs ++ y ∷ []) (length xs) ≡ Some y
last_at [] y = refl
last_at (z ∷ xs) y = last_at xs y

-- it is dated, where the last entry is of now
pub dated_push : (now : ℕ) (xs : List Entry) (e : Entry) → IsDated now xs → e.tick ≡ now → IsDated now (xs ++ e ∷ [])
dated_push now xs e d at = record {
  rises = λ i k a b le ha hb. elim (pushed_at xs e k b hb) [
    | inl old ↦ elim (pushed_at xs e i a ha) [
      | inl o ↦ d.rises i k a b le o old
      | inr n ↦ absurd (omega (arith, n.0, le, slice_get_within xs k b old))
    ]
    | inr new ↦ elim (pushed_at xs e i a ha) [
      | inl o ↦ let past = d.past i a o in let is = ap (λ (x : Entry). x.tick) new.1 in omega (arith, past, is, at)
      | inr n ↦ let is = ap (λ (x : Entry). x.tick) (n.1 ∙ sym new.1) in omega (arith, is)
    ]
  ];
  past = λ i a h. elim (pushed_at xs e i a h) [
    | inl o ↦ d.past i a o
    | inr n ↦ let is = ap (λ (x : Entry). x.tick) n.1 in omega (arith, is, at)
  ];
}

pub dated_later : (before now : ℕ) (xs : List Entry) → before ≤ now → IsDated before xs → IsDated now xs
dated_later before now xs le d = record { rises = d.rises; past = λ i e h. let p = d.past i e h in omega (arith, p, le) }

pub dated_none : (now : ℕ) → IsDated now []
dated_none now = record { rises = λ i k e f le h g. cc; past = λ i e h. cc }

-- no two entries have one number
abbrev pub Distinct : List Entry → Type 0
Distinct sent = (j m : ℕ) (e f : Entry) → slice_get sent j ≡ Some e → slice_get sent m ≡ Some f → e.num ≡ f.num → j ≡ m

-- where a number stands there once, its entry is the place
pub place_of : (sent : List Entry) (e s : Entry) (j : ℕ) → Distinct sent → slice_get sent j ≡ Some s → s.num ≡ e.num → s.tick ≤ e.tick → IsPlace sent e j s
place_of sent e s j distinct stands same before = record {
  is_source = record { stands = stands; same = same; before = before };
  greatest = λ k t is. let same : k ≡ j = distinct k j t s is.stands stands (is.same ∙ sym same) in omega (arith, same);
}

-- one more entry was got, in time
pub born_got : (promise : ℕ) (sent got : List Entry) (e s : Entry) (j : ℕ) → Distinct sent → Born promise sent got → slice_get sent j ≡ Some s → s.num ≡ e.num → s.tick ≤ e.tick → e.bytes ≡ s.bytes → e.tick ≤ s.tick + promise → Born promise sent (got ++ e ∷ [])
born_got promise sent got e s j distinct born stands same before bytes time i f h = elim (pushed_at got e i f h) [
  | inl g ↦ born i f g
  | inr g ↦ rw g.1 (record { place = j; source = s; is_place = place_of sent e s j distinct stands same before; bytes = bytes; in_time = time })
]

-- a source stays the place where an entry of another number is sent
place_stays : (sent : List Entry) (x e : Entry) (j : ℕ) (s : Entry) → x.num ≢ e.num → IsPlace sent e j s → IsPlace (sent ++ x ∷ []) e j s
place_stays sent x e j s fresh p = record {
  is_source = record { stands = still_at sent (x ∷ []) j s p.is_source.stands; same = p.is_source.same; before = p.is_source.before };
  greatest = λ k t is. elim (pushed_at sent x k t is.stands) [
    | inl g ↦ p.greatest k t (record { stands = g; same = is.same; before = is.before })
    | inr g ↦ absurd (fresh (sym (ap (λ (y : Entry). y.num) g.1) ∙ is.same))
  ];
}

-- one more entry was sent, of a number that is new
pub born_sent : (promise : ℕ) (sent got : List Entry) (x : Entry) → ((i : ℕ) (e : Entry) → slice_get got i ≡ Some e → x.num ≢ e.num) → Born promise sent got → Born promise (sent ++ x ∷ []) got
born_sent promise sent got x fresh born i e h =
    let b = born i e h in
    record { place = b.place; source = b.source; is_place = place_stays sent x e b.place b.source (fresh i e h) b.is_place; bytes = b.bytes; in_time = b.in_time }

pub born_none : (promise : ℕ) (sent : List Entry) → Born promise sent []
born_none promise sent i e h = cc
