-- What is known of each piece that a joiner is given is known of each SDU that it makes whole.
use Rattle.std.proofs.Common.{◌≡◌, ℕ, zero, suc, ◌+◌, ◌<◌, List, [], ◌∷◌, ◌++◌, length, Bool, true, false, ltb, eqb, cond, ◌&&◌, ◌||◌, Some, slice_get, append_assoc, length-append, refl, sym, ◌∙◌, ap, subst, arith, inl, inr, ◌⊎◌}
use Rattle.std.proofs.lemmas.Bool.{and_parts, ltb-true, lt-ltb, eqb-true, false≢true}
use Rattle.std.proofs.lemmas.List.{append-nil}
use Rattle.rina_cube.specs.declared.Kind.{Kind}
use Rattle.rina_cube.specs.declared.Kind.TheVariants.{Datagram, Loose, Reliable}
use Rattle.rina_iface.proofs.Grown.{pushed_at}
use Rattle.rina_law.specs.Lists.{In, has, highest}
use Rattle.rina_law.specs.Pieces.{Joined, Joiner, Part, Sdu, IsCut, IsSized, empty_joiner, finished, goes_on, join, joined_with, with_part}
use Rattle.rina_law.specs.Receiver.{Piece, Verdict, Accepted, Held, Duplicate, Behind, NoState, NoRoom, joined_after, joined_held, joined_on, numbers, part_in}
use Rattle.rina_dif_law.specs.Carried.{AreJoined, IsOpenCut}

-- an SDU that is whole, of whose pieces this is known
pub record IsWholeOf (size : ℕ) (known : ℕ → Part → Type 0) (sdu : Sdu) : Type 0 where
  pub parts : List Part
  pub cut : IsCut size true parts
  pub count : length parts ≡ sdu.pieces
  pub joins : join parts ≡ sdu.bytes
  pub each : (k : ℕ) (part : Part) → slice_get parts k ≡ Some part → known (sdu.first + k) part

pub record AreKnown (size : ℕ) (known : ℕ → Part → Type 0) (j : Joined) : Type 0 where
  pub joiner : AreJoined size known j.joiner
  pub whole : (sdu : Sdu) → In sdu j.whole → IsWholeOf size known sdu

pub none_joined : (size : ℕ) (known : ℕ → Part → Type 0) → AreJoined size known empty_joiner
none_joined size known = record { parts = []; is_open = tt; count = refl; bytes = refl; each = λ k part h. cc }

join_push : (ps : List Part) (p : Part) → join (ps ++ p ∷ []) ≡ join ps ++ p.body
join_push [] p = append-nil p.body
join_push (q ∷ ps) p = ap (λ (xs : List ℕ). q.body ++ xs) (join_push ps p) ∙ sym (append_assoc q.body (join ps) p.body)

-- whether the next part begins an SDU
abbrev next_begins : Bool → List Part → Bool
next_begins b [] = b
next_begins b (p ∷ ps) = false

open_push : (size : ℕ) (b : Bool) (ps : List Part) (p : Part) → IsOpenCut size b ps → p.begins ≡ next_begins b ps → p.ends ≡ false → IsSized size p → IsOpenCut size b (ps ++ p ∷ [])
open_push size b [] p h begins ends sized = (begins, ends, sized, tt)
open_push size b (q ∷ []) p h begins ends sized = (h.0, h.1, h.2, open_push size false [] p tt begins ends sized)
open_push size b (q ∷ r ∷ ps) p h begins ends sized = (h.0, h.1, h.2, open_push size false (r ∷ ps) p h.3 begins ends sized)

closed_push : (size : ℕ) (b : Bool) (ps : List Part) (p : Part) → IsOpenCut size b ps → p.begins ≡ next_begins b ps → p.ends ≡ true → IsSized size p → IsCut size b (ps ++ p ∷ [])
closed_push size b [] p h begins ends sized = (begins, ends, sized)
closed_push size b (q ∷ []) p h begins ends sized = (h.0, h.1, h.2, closed_push size false [] p tt begins ends sized)
closed_push size b (q ∷ r ∷ ps) p h begins ends sized = (h.0, h.1, h.2, closed_push size false (r ∷ ps) p h.3 begins ends sized)

some_next : (b : Bool) (ps : List Part) → 0 < length ps → next_begins b ps ≡ false
some_next b [] h = absurd (omega arith)
some_next b (p ∷ ps) h = refl

-- the parts in a joiner with the next one behind them
record IsNext (size : ℕ) (known : ℕ → Part → Type 0) (part : Part) (j : Joiner) : Type 0 where
  parts : List Part
  is_open : IsOpenCut size true parts
  begins : part.begins ≡ next_begins true parts
  count : suc (length parts) ≡ j.count
  bytes : join (parts ++ part ∷ []) ≡ j.bytes
  each : (k : ℕ) (p : Part) → slice_get (parts ++ part ∷ []) k ≡ Some p → known (j.from + k) p

next_known : (known : ℕ → Part → Type 0) (from : ℕ) (ps : List Part) (part : Part) → ((k : ℕ) (p : Part) → slice_get ps k ≡ Some p → known (from + k) p) → known (from + length ps) part → (k : ℕ) (p : Part) → slice_get (ps ++ part ∷ []) k ≡ Some p → known (from + k) p
next_known known from ps part each new k p h = elim (pushed_at ps part k p h) [
  | inl o ↦ each k p o
  | inr n ↦ subst (λ (m : ℕ). known (from + m) p) (sym n.0) (subst (known (from + length ps)) (sym n.1) new)
]

next_with : (size : ℕ) (known : ℕ → Part → Type 0) (n : ℕ) (part : Part) (j : Joiner) (b : Bool) → part.begins ≡ b → AreJoined size known j → known n part → IsNext size known part (with_part n part j) ⊎ (with_part n part j ≡ empty_joiner)
next_with size known n part j true begins h new =
    let is : with_part n part j ≡ record { from = n; count = 1; bytes = part.body } = ap (λ (b : Bool). cond b (record { from = n; count = 1; bytes = part.body }) (cond (goes_on n j) (record { from = j.from; count = j.count + 1; bytes = j.bytes ++ part.body }) empty_joiner)) begins in
    let zero_is : n ≡ n + 0 = omega arith in
    let next : IsNext size known part (record { from = n; count = 1; bytes = part.body }) = record { parts = []; is_open = tt; begins = begins; count = refl; bytes = append-nil part.body; each = next_known known n [] part (λ k p x. cc) (subst (λ (m : ℕ). known m part) zero_is new) } in
    inl (subst (IsNext size known part) (sym is) next)
next_with size known n part j false begins h new = go (goes_on n j) refl
  where
    go : (g : Bool) → goes_on n j ≡ g → IsNext size known part (with_part n part j) ⊎ (with_part n part j ≡ empty_joiner)
    go true on =
        let is : with_part n part j ≡ record { from = j.from; count = j.count + 1; bytes = j.bytes ++ part.body } = ap (λ (b : Bool). cond b (record { from = n; count = 1; bytes = part.body }) (cond (goes_on n j) (record { from = j.from; count = j.count + 1; bytes = j.bytes ++ part.body }) empty_joiner)) begins ∙ ap (λ (b : Bool). cond b (record { from = j.from; count = j.count + 1; bytes = j.bytes ++ part.body }) empty_joiner) on in
        let both = and_parts (ltb 0 j.count) (eqb (j.from + j.count) n) on in
        let some = ltb-true 0 j.count both.0 in
        let at = eqb-true (j.from + j.count) n both.1 in
        let count = h.count in
        let there : n ≡ j.from + length h.parts = omega arith in
        let next : IsNext size known part (record { from = j.from; count = j.count + 1; bytes = j.bytes ++ part.body }) = record {
          parts = h.parts;
          is_open = h.is_open;
          begins = begins ∙ sym (some_next true h.parts (omega arith));
          count = omega arith;
          bytes = join_push h.parts part ∙ ap (λ (xs : List ℕ). xs ++ part.body) h.bytes;
          each = next_known known j.from h.parts part h.each (subst (λ (m : ℕ). known m part) there new);
        } in
        inl (subst (IsNext size known part) (sym is) next)
    go false on = inr (ap (λ (b : Bool). cond b (record { from = n; count = 1; bytes = part.body }) (cond (goes_on n j) (record { from = j.from; count = j.count + 1; bytes = j.bytes ++ part.body }) empty_joiner)) begins ∙ ap (λ (b : Bool). cond b (record { from = j.from; count = j.count + 1; bytes = j.bytes ++ part.body }) empty_joiner) on)

in_push : {X : Type 0} (xs : List X) (y x : X) → In x (xs ++ y ∷ []) → In x xs ⊎ (x ≡ y)
in_push [] y x (inl e) = inr e
in_push [] y x (inr i) = absurd i
in_push (z ∷ xs) y x (inl e) = inl (inl e)
in_push (z ∷ xs) y x (inr i) = elim (in_push xs y x i) [ inl a ↦ inl (inr a) | inr b ↦ inr b ]

-- an SDU whose last part came is whole, else it waits
finished_known : (size : ℕ) (known : ℕ → Part → Type 0) (part : Part) (j : Joiner) (whole : List Sdu) (b : Bool) → part.ends ≡ b → IsSized size part → IsNext size known part j → ((sdu : Sdu) → In sdu whole → IsWholeOf size known sdu) → AreKnown size known (finished b j whole)
finished_known size known part j whole true ends sized h done = record {
  joiner = none_joined size known;
  whole = λ sdu i. elim (in_push whole (record { first = j.from; pieces = j.count; bytes = j.bytes }) sdu i) [
    | inl o ↦ done sdu o
    | inr is ↦ subst (IsWholeOf size known) (sym is) (record { parts = h.parts ++ part ∷ []; cut = closed_push size true h.parts part h.is_open h.begins ends sized; count = (let c = h.count in omega (arith, length-append h.parts (part ∷ []))); joins = h.bytes; each = h.each })
  ];
}
finished_known size known part j whole false ends sized h done = record {
  joiner = record { parts = h.parts ++ part ∷ []; is_open = open_push size true h.parts part h.is_open h.begins ends sized; count = (let c = h.count in omega (arith, length-append h.parts (part ∷ []))); bytes = h.bytes; each = h.each };
  whole = done;
}

-- some count is not 0
counted : (size : ℕ) (known : ℕ → Part → Type 0) (part : Part) (j : Joiner) (b : Bool) → part.ends ≡ b → IsNext size known part j → (part.ends && ltb 0 j.count) ≡ b
counted size known part j true ends h = (let c = h.count in let some : ltb 0 j.count ≡ true = lt-ltb 0 j.count (omega arith) in rw (ends, some) refl)
counted size known part j false ends h = rw ends refl

pub joined_known : (size : ℕ) (known : ℕ → Part → Type 0) (n : ℕ) (part : Part) (j : Joined) → IsSized size part → known n part → AreKnown size known j → AreKnown size known (joined_with n part j)
joined_known size known n part j sized new h = elim (next_with size known n part j.joiner part.begins refl h.joiner new) [
  | inl next ↦
      let test = counted size known part (with_part n part j.joiner) part.ends refl next in
      let done = finished_known size known part (with_part n part j.joiner) j.whole part.ends refl sized next h.whole in
      subst (λ (b : Bool). AreKnown size known (finished b (with_part n part j.joiner) j.whole)) (sym test) done
  | inr none ↦
      let P : Joiner → Type 0 = λ z. AreKnown size known (finished (part.ends && ltb 0 z.count) z j.whole) in
      subst P (sym none) (nothing part.ends)
]
  where
    nothing : (b : Bool) → AreKnown size known (finished (b && ltb 0 0) empty_joiner j.whole)
    nothing true = record { joiner = none_joined size known; whole = h.whole }
    nothing false = record { joiner = none_joined size known; whole = h.whole }

-- the part of a number that is held
part_held : (n : ℕ) (held : List Piece) → has n (numbers held) ≡ true → (p : Piece) × In p held × (p.number ≡ n) × (part_in n held ≡ p.part)
part_held n [] e = absurd (false≢true e)
part_held n (q ∷ held) e = go (eqb n q.number) refl (λ e'. part_held n held e') e
  where
    go : (b : Bool) → eqb n q.number ≡ b → (has n (numbers held) ≡ true → (p : Piece) × In p held × (p.number ≡ n) × (part_in n held ≡ p.part)) → (b || has n (numbers held)) ≡ true → (p : Piece) × In p (q ∷ held) × (p.number ≡ n) × (cond (eqb n q.number) q.part (part_in n held) ≡ p.part)
    go true is rest e' = (q, inl refl, sym (eqb-true n q.number is), ap (λ (b : Bool). cond b q.part (part_in n held)) is)
    go false is rest e' = (let r = rest e' in (r.0, inr r.1, r.2, ap (λ (b : Bool). cond b q.part (part_in n held)) is ∙ r.3))

pub held_known : (size : ℕ) (known : ℕ → Part → Type 0) (steps n : ℕ) (held : List Piece) (j : Joined) → ((p : Piece) → In p held → known p.number p.part × IsSized size p.part) → AreKnown size known j → AreKnown size known (joined_held steps n held j)
held_known size known zero n held j each h = h
held_known size known (suc steps) n held j each h = go (has n (numbers held)) refl (λ new. held_known size known steps (n + 1) held (joined_with n (part_in n held) j) each new)
  where
    go : (b : Bool) → has n (numbers held) ≡ b → (AreKnown size known (joined_with n (part_in n held) j) → AreKnown size known (joined_held steps (n + 1) held (joined_with n (part_in n held) j))) → AreKnown size known (cond b (joined_held steps (n + 1) held (joined_with n (part_in n held) j)) j)
    go true is rest =
        let p = part_held n held is in
        let fact = each p.0 p.1 in
        let new : known n (part_in n held) = subst (known n) (sym p.3) (subst (λ (m : ℕ). known m p.0.part) p.2 fact.0) in
        rest (joined_known size known n (part_in n held) j (subst (IsSized size) (sym p.3) fact.1) new h)
    go false is rest = h

on_known : (size : ℕ) (known : ℕ → Part → Type 0) (kind : Kind) (n : ℕ) (held : List Piece) (j : Joined) → ((p : Piece) → In p held → known p.number p.part × IsSized size p.part) → AreKnown size known j → AreKnown size known (joined_on kind n held j)
on_known size known Reliable n held j each h = held_known size known (highest (numbers held)) (n + 1) held j each h
on_known size known Datagram n held j each h = h
on_known size known Loose n held j each h = h

started : (size : ℕ) (known : ℕ → Part → Type 0) (j : Joiner) → AreJoined size known j → AreKnown size known (record { joiner = j; whole = [] })
started size known j h = record { joiner = h; whole = λ sdu i. absurd i }

-- what an arrival joins
pub after_known : (size : ℕ) (known : ℕ → Part → Type 0) (v : Verdict) (kind : Kind) (present : Bool) (p : Piece) (held : List Piece) (j : Joiner) → IsSized size p.part → known p.number p.part → ((q : Piece) → In q held → known q.number q.part × IsSized size q.part) → AreJoined size known j → AreKnown size known (joined_after v kind present p held j)
after_known size known Accepted kind true p held j sized new each h = on_known size known kind p.number held (joined_with p.number p.part (record { joiner = j; whole = [] })) each (joined_known size known p.number p.part (record { joiner = j; whole = [] }) sized new (started size known j h))
after_known size known Accepted kind false p held j sized new each h = joined_known size known p.number p.part (record { joiner = empty_joiner; whole = [] }) sized new (started size known empty_joiner (none_joined size known))
after_known size known Held kind present p held j sized new each h = started size known j h
after_known size known Duplicate kind present p held j sized new each h = started size known j h
after_known size known Behind kind present p held j sized new each h = started size known j h
after_known size known NoState kind present p held j sized new each h = started size known j h
after_known size known NoRoom kind present p held j sized new each h = started size known j h
