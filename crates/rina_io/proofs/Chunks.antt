-- A line that is put together of what several reads gave.
use Rattle.std.proofs.Common.{◌≡◌, ℕ, ◌+◌, ◌-◌, ◌<◌, ◌≤◌, true, false, List, [], ◌∷◌, ◌++◌, length, length-append, slice_index, Option, refl, sym, ap, ◌∙◌, inl, inr, arith, subst, append_assoc}
use Rattle.std.proofs.lemmas.List.{append-nil, get_or_append_left, get_or-append_right}
use Rattle.std.proofs.lemmas.Bool.{cases_lt}
use Rattle.std.proofs.KnownBytes.{Consumes-nil, Consumes-trans}
use Rattle.std.specs.Io.KnownBytes.{Consumes}
use Rattle.rina_io.specs.Reader.{Reader}
use Rattle.rina_io.specs.NextLine.{Breaks, HasEnd, HasNoEnd, IsCutOff, IsDry, IsEmptied, IsEnded, IsFilled, IsLine, IsNext, IsOver, IsSound}
use Rattle.rina_io.specs.declared.line_reader.ReadError.{ReadError}
use Rattle.rina_io.specs.declared.line_reader.ReadError.TheVariants as errors

-- a part of a line was put together, which has no end yet
pub record SoFar (left left' : Option (List ℕ)) (r r' : Reader) (line : List ℕ) : Type 0 where
  pub read : List ℕ
  pub consumed : Consumes left left' read
  pub bytes : r.held ++ read ≡ line ++ r'.held
  pub room : r'.room + length read ≡ r.room
  pub unended : HasNoEnd line
  pub few : length r'.held ≤ 4096
  pub over : r'.over ≡ false

pub at_first : (left : Option (List ℕ)) (r : Reader) (line : List ℕ) → line ≡ [] → IsSound left r → r.over ≡ false → SoFar left left r r line
at_first left r line is sound over = record {
  read = [];
  consumed = Consumes-nil left;
  bytes = append-nil r.held ∙ ap (λ (bs : List ℕ). bs ++ r.held) (sym is);
  room = omega arith;
  unended = λ k lt. absurd (omega (arith, ap length is));
  few = sound.few;
  over = over;
}

joined_unended : (xs ys : List ℕ) → HasNoEnd xs → HasNoEnd ys → HasNoEnd (xs ++ ys)
joined_unended xs ys p q k lt = elim (cases_lt k (length xs)) [
  | inl below ↦ rw (get_or_append_left xs ys 0 k below) (p k below)
  | inr past ↦ rw (get_or-append_right xs ys (length xs) k 0 refl past) (q (k - length xs) (omega (arith, lt, past, length-append xs ys)))
]

joined_line : (xs ys : List ℕ) → HasNoEnd xs → IsLine ys → IsLine (xs ++ ys)
joined_line xs ys p q = record {
  some = omega (arith, length-append xs ys, q.some);
  whole = λ k lt. elim (cases_lt k (length xs)) [
    | inl below ↦ rw (get_or_append_left xs ys 0 k below) (p k below)
    | inr past ↦ rw (get_or-append_right xs ys (length xs) k 0 refl past) (q.whole (k - length xs) (omega (arith, lt, past, length-append xs ys)))
  ];
}

joined_end : (xs ys : List ℕ) → 0 < length ys → HasEnd ys → HasEnd (xs ++ ys)
joined_end xs ys some is =
    let past : length xs ≤ length (xs ++ ys) - 1 = omega (arith, length-append xs ys, some) in
    let place : length (xs ++ ys) - 1 - length xs ≡ length ys - 1 = omega (arith, length-append xs ys) in
    get_or-append_right xs ys (length xs) (length (xs ++ ys) - 1) 0 refl past ∙ ap (λ (i : ℕ). slice_index ys i) place ∙ is

-- the bytes that were held went to the line
moved : (a b c d e f g : List ℕ) → a ++ b ≡ c ++ d → d ≡ e ++ f → g ≡ c ++ e → a ++ b ≡ g ++ f
moved a b c d e f g p q s = rw s (p ∙ ap (λ (xs : List ℕ). c ++ xs) q ∙ sym (append_assoc c e f))

-- and more were read
grown : (a b c d e : List ℕ) → a ++ b ≡ c ++ d → a ++ (b ++ e) ≡ (c ++ d) ++ e
grown a b c d e p = sym (append_assoc a b e) ∙ ap (λ (xs : List ℕ). xs ++ e) p

not_over : (left : Option (List ℕ)) (r : Reader) → length r.held ≤ 4096 → r.over ≡ false → IsSound left r
not_over left r few is = record { few = few; over = λ h. let no : true ≡ false = sym h ∙ is in cc }

pub found : (left left' : Option (List ℕ)) (r r' r2 : Reader) (line line2 : List ℕ) → SoFar left left' r r' line → IsEnded r' line r2 line2 → IsNext left left' r r2 line2
found left left' r r' r2 line line2 s e =
    let over : r2.over ≡ false = e.same.1 ∙ s.over in
    record {
      read = s.read;
      consumed = s.consumed;
      bytes = moved r.held s.read line r'.held e.piece r2.held line2 s.bytes e.bytes e.grown;
      room = omega (arith, s.room, e.same.0);
      line_is = rw e.grown (joined_line line e.piece s.unended e.is_line);
      ends = rw (over, e.grown) (joined_end line e.piece e.is_line.some e.ends);
      sound = not_over left' r2 (omega (arith, s.few, ap length e.bytes, length-append e.piece r2.held)) over;
    }

pub filled : (left left' left2 : Option (List ℕ)) (r r' r2 r3 : Reader) (line line2 : List ℕ) → SoFar left left' r r' line → IsEmptied r' line r2 line2 → IsFilled left' left2 r2 r3 → SoFar left left2 r r3 line2
filled left left' left2 r r' r2 r3 line line2 s e f = record {
  read = s.read ++ r3.held;
  consumed = Consumes-trans left left' left2 s.read r3.held s.consumed f.consumed;
  bytes = rw e.grown (grown r.held s.read line r'.held r3.held s.bytes);
  room = omega (arith, s.room, f.room, e.same.0, length-append s.read r3.held);
  unended = rw e.grown (joined_unended line r'.held s.unended e.unended);
  few = f.few;
  over = f.over ∙ e.same.1 ∙ s.over;
}

nothing_joined : (xs ys : List ℕ) → xs ++ ys ≡ [] → (xs ≡ []) × (ys ≡ [])
nothing_joined [] ys p = (refl, p)
nothing_joined (x ∷ xs) ys p = cc

-- the source was at its end, with nothing behind the last line
pub none_left : (left left' left2 : Option (List ℕ)) (r r' r2 r3 r4 : Reader) (line line2 : List ℕ) → SoFar left left' r r' line → IsEmptied r' line r2 line2 → IsDry left' left2 r2 r3 → line2 ≡ [] → r4.held ≡ r3.held → r4.room ≡ r3.room → r4.over ≡ true → IsOver left left2 r r4
none_left left left' left2 r r' r2 r3 r4 line line2 s e d none same_held same_room over =
    let all : r.held ++ s.read ≡ [] = s.bytes ∙ sym e.grown ∙ none in
    let parts = nothing_joined r.held s.read all in
    record {
      none = parts.0;
      consumed = subst (λ (bs : List ℕ). Consumes left left2 bs) (append-nil s.read ∙ parts.1) (Consumes-trans left left' left2 s.read [] s.consumed d.consumed);
      room = omega (arith, s.room, same_room, d.same.0, e.same.0, ap length parts.1);
      over = over;
      sound = record { few = omega (arith, ap length same_held, ap length d.none); over = λ h. (d.end, same_held ∙ d.none) };
    }

-- or with a line behind that which has no end
pub last_left : (left left' left2 : Option (List ℕ)) (r r' r2 r3 r4 : Reader) (line line2 : List ℕ) → SoFar left left' r r' line → IsEmptied r' line r2 line2 → IsDry left' left2 r2 r3 → 0 < length line2 → r4.held ≡ r3.held → r4.room ≡ r3.room → r4.over ≡ true → IsNext left left2 r r4 line2
last_left left left' left2 r r' r2 r3 r4 line line2 s e d some same_held same_room over =
    let unended : HasNoEnd line2 = rw e.grown (joined_unended line r'.held s.unended e.unended) in
    let none : r4.held ≡ [] = same_held ∙ d.none in
    record {
      read = s.read;
      consumed = subst (λ (bs : List ℕ). Consumes left left2 bs) (append-nil s.read) (Consumes-trans left left' left2 s.read [] s.consumed d.consumed);
      bytes = rw none (s.bytes ∙ sym e.grown ∙ sym (append-nil line2));
      room = omega (arith, s.room, same_room, d.same.0, e.same.0);
      line_is = record { some = some; whole = λ k lt. unended k (omega arith) };
      ends = rw over unended;
      sound = record { few = omega (arith, ap length none); over = λ h. (d.end, none) };
    }

breaks_on : (e : ReadError) (room first read read' behind : ℕ) → room + first ≡ read → Breaks e room read' behind → Breaks e read (first + read') behind
breaks_on errors.Fault room first read read' behind is b = (b.0, omega (arith, b.1))
breaks_on errors.TooLarge room first read read' behind is b = (b.0, omega (arith, b.1))
breaks_on errors.Memory room first read read' behind is b = (b.0, omega (arith, b.1))

-- the next bytes could not be read
pub cut_off : (e : ReadError) (left left' left2 : Option (List ℕ)) (r r' r2 : Reader) (line line2 : List ℕ) → SoFar left left' r r' line → IsEmptied r' line r2 line2 → IsCutOff e left' left2 r2 → IsCutOff e left left2 r
cut_off e left left' left2 r r' r2 line line2 s em c =
    let rest : c.read ≡ c.part ++ c.behind = ap (λ (bs : List ℕ). bs ++ c.read) (sym em.none) ∙ c.bytes in
    let unended2 : HasNoEnd line2 = rw em.grown (joined_unended line r'.held s.unended em.unended) in
    record {
      part = line2 ++ c.part;
      behind = c.behind;
      read = s.read ++ c.read;
      consumed = Consumes-trans left left' left2 s.read c.read s.consumed c.consumed;
      bytes = grown r.held s.read line r'.held c.read s.bytes ∙ ap (λ (bs : List ℕ). bs ++ c.read) (sym em.grown) ∙ ap (λ (bs : List ℕ). line2 ++ bs) rest ∙ sym (append_assoc line2 c.part c.behind);
      unended = joined_unended line2 c.part unended2 c.unended;
      breaks = rw (length-append s.read c.read) (breaks_on e r2.room (length s.read) r.room (length c.read) (length c.behind) (omega (arith, s.room, em.same.0)) c.breaks);
      kept = λ is. omega (arith, c.kept is, length-append line2 c.part);
    }

-- an allocation failed for the bytes that are held
pub no_memory : (left left' : Option (List ℕ)) (r r' : Reader) (line : List ℕ) → SoFar left left' r r' line → 0 < length r'.held → IsCutOff errors.Memory left left' r
no_memory left left' r r' line s some = record {
  part = line;
  behind = r'.held;
  read = s.read;
  consumed = s.consumed;
  bytes = s.bytes;
  unended = s.unended;
  breaks = (s.few, omega (arith, s.room));
  kept = λ is. omega (arith, some);
}
