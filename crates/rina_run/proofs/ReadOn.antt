-- Lines that are read one after the other, and which bytes of the input they are.
use Rattle.std.proofs.Common.{◌≡◌, ℕ, zero, suc, ◌+◌, ◌-◌, ◌<◌, ◌≤◌, Bool, true, false, List, [], ◌∷◌, ◌++◌, length, length-append, take, slice_get, slice_index, get_or, unwrap_or, map, drop, Option, Some, None, ◌⊎◌, inl, inr, refl, sym, ap, ◌∙◌, arith, subst, append_assoc}
use Rattle.std.proofs.lemmas.Bool.{cases_Bool, eq-eqb, eqb-true, ne_eqb, le-ltb, lt-ltb, ltb-true, and_parts}
use Rattle.std.proofs.Math.Dec.{ltb}
use Rattle.std.proofs.lemmas.List.{append-nil, get_or_append_left, get_or-append_right}
use Rattle.std.proofs.lemmas.Option.{slice_get_within, unwrap_or-slice_get}
use Rattle.std.proofs.lemmas.List.Concat.{flat_map-append, flat_map-cons}
use Rattle.std.proofs.lemmas.List.Elements.{All-append}
use Rattle.std.proofs.lemmas.List.Sums.{position_or_len_is}
use Rattle.std.proofs.Math.Seq.{drop-append-add, get_or-append_seam, take-append_seam}
use Rattle.std.proofs.KnownBytes.{Consumes-nil, Consumes-trans}
use Rattle.std.specs.Io.{IsEmptyOrEndsWith}
use Rattle.std.specs.Io.KnownBytes.{Consumes}
use Rattle.std.specs.List.{All, position_or_len}
use Rattle.bstr.specs.Text.{lines_of, without_terminator}
use Rattle.bstr.proofs.lemmas.LineLemmas.{EndsLine, lines-append, lines-nil, lines-one}
use Rattle.rina_io.specs.Reader.{Reader, size}
use Rattle.rina_io.specs.NextLine.{HasEnd, HasNoEnd, IsCutOff, IsLine, IsNext, IsOver, MayEnd}
use Rattle.rina_io.specs.declared.line_reader.ReadError.TheVariants as errors
use Rattle.rina_report.specs.declared.note.Fault.{Fault}
use Rattle.rina_report.specs.declared.note.Fault.TheVariants as faults
use Rattle.rina_run.specs.Script.{Script, counted_lines, ended_lines, has_end, is_mark, is_open, script, script_of}
use Rattle.rina_run.specs.Reading.{AreRead, Broken, Ending, Enough, GoesOn, HasNoMark, HasRead, HasReadAll, HasText, HaveEnds, IsFine, IsHeadless, IsMarked, IsUnmarked, Lost, ReadBehind, Whole, is_whole, joined}
use Rattle.rina_run.specs.Top.{WasRead}

-- Lines with their ends

end_is : (line : List ℕ) → 0 < length line → HasEnd line → has_end line ≡ true
unfolding has_end
end_is line some is = rw (lt-ltb 0 (length line) some, eq-eqb (slice_index line (length line - 1)) 10 is) refl

end_tells : (line : List ℕ) → has_end line ≡ true → (0 < length line) × HasEnd line
unfolding has_end
end_tells line h =
    let parts = and_parts _ _ h in
    (ltb-true 0 (length line) parts.0, eqb-true _ _ parts.1)

no_end : (line : List ℕ) → 0 < length line → HasNoEnd line → has_end line ≡ false
unfolding has_end
no_end line some none = rw (lt-ltb 0 (length line) some, ne_eqb (slice_index line (length line - 1)) 10 (none (length line - 1) (omega arith))) refl

last_of : (ls : List (List ℕ)) (l : List ℕ) → slice_get (ls ++ l ∷ []) (length ls) ≡ Some l
last_of [] l = refl
last_of (k ∷ ks) l = last_of ks l

all_at : (P : List ℕ → Type 0) (ls : List (List ℕ)) (i : ℕ) (l : List ℕ) → All P ls → slice_get ls i ≡ Some l → P l
all_at P ls i l all at =
    let here : get_or ls i l ≡ l = sym (unwrap_or-slice_get ls i l) ∙ ap (λ (o : Option (List ℕ)). unwrap_or o l) at in
    subst P here (all i l (slice_get_within ls i l at))

all_none : (P : List ℕ → Type 0) → All P []
all_none P k d lt = absurd (omega (arith, lt))

all_one : (P : List ℕ → Type 0) (l : List ℕ) → P l → All P (l ∷ [])
all_one P l p zero d lt = p
all_one P l p (suc k) d lt = absurd (omega (arith, lt))

open_last : (l : Option (List ℕ)) → ((x : List ℕ) → l ≡ Some x → has_end x ≡ true) → is_open l ≡ false
open_last None all = refl
open_last (Some x) all = rw (all x refl) refl

-- where each line has its end, all of them count
ended_all : (ls : List (List ℕ)) → HaveEnds ls → ended_lines ls ≡ ls
unfolding ended_lines
ended_all ls all = rw (open_last (slice_get ls (length ls - 1)) (λ x at. all_at (λ l. has_end l ≡ true) ls (length ls - 1) x all at)) refl

-- a last line without its end does not
ended_front : (ls : List (List ℕ)) (part : List ℕ) → has_end part ≡ false → ended_lines (ls ++ part ∷ []) ≡ ls
unfolding ended_lines
ended_front ls part is =
    let long : length (ls ++ part ∷ []) - 1 ≡ length ls = omega (arith, length-append ls (part ∷ [])) in
    rw (long, last_of ls part, is, take-append_seam ls (part ∷ [])) refl

end_behind : (xs ys : List ℕ) → 0 < length ys → HasEnd ys → HasEnd (xs ++ ys)
end_behind xs ys some is =
    let past : length xs ≤ length (xs ++ ys) - 1 = omega (arith, length-append xs ys, some) in
    let place : length (xs ++ ys) - 1 - length xs ≡ length ys - 1 = omega (arith, length-append xs ys) in
    get_or-append_right xs ys (length xs) (length (xs ++ ys) - 1) 0 refl past ∙ ap (λ (i : ℕ). slice_index ys i) place ∙ is

ends_joined : (ls : List (List ℕ)) → HaveEnds ls → IsEmptyOrEndsWith (joined ls) 10
ends_joined [] all some = absurd (omega (arith, some))
ends_joined (l ∷ []) all some = rw (append-nil l) ((end_tells l (all 0 l (omega arith))).1)
ends_joined (l ∷ k ∷ ks) all some =
    let rest : HaveEnds (k ∷ ks) = λ i d lt. all (suc i) d (omega (arith, lt)) in
    let first = (end_tells k (all 1 k (omega arith))).0 in
    let more : 0 < length (joined (k ∷ ks)) = omega (arith, length-append k (joined ks), first) in
    end_behind l (joined (k ∷ ks)) more (ends_joined (k ∷ ks) rest more)

ends_line : (xs : List ℕ) → IsEmptyOrEndsWith xs 10 → EndsLine xs
ends_line [] ends = inl refl
ends_line (x ∷ xs) ends = inr (ends (omega arith))

joined_more : (ls : List (List ℕ)) (l : List ℕ) → joined (ls ++ l ∷ []) ≡ joined ls ++ l
joined_more ls l = flat_map-append (λ x. x) ls (l ∷ []) ∙ ap (λ (bs : List ℕ). joined ls ++ bs) (flat_map-cons (λ x. x) l [] ∙ append-nil l)

-- the lines of what was read behind lines that have their ends
lines_behind : (ls : List (List ℕ)) (more : List ℕ) → lines_of (joined ls) ≡ ls → HaveEnds ls → lines_of (joined ls ++ more) ≡ ls ++ lines_of more
lines_behind ls more are ends = lines-append (length (joined ls)) (joined ls) more (omega arith) (ends_line (joined ls) (ends_joined ls ends)) ∙ ap (λ (ks : List (List ℕ)). ks ++ lines_of more) are

lines_more : (ls : List (List ℕ)) (l : List ℕ) → lines_of (joined ls) ≡ ls → HaveEnds ls → IsLine l → lines_of (joined (ls ++ l ∷ [])) ≡ ls ++ l ∷ []
lines_more ls l are ends line = ap lines_of (joined_more ls l) ∙ lines_behind ls l are ends ∙ ap (λ (ks : List (List ℕ)). ls ++ ks) (lines-one l line.some line.whole)

lines_part : (ls : List (List ℕ)) (part : List ℕ) → lines_of (joined ls) ≡ ls → HaveEnds ls → HasNoEnd part → ended_lines (lines_of (joined ls ++ part)) ≡ ls
lines_part ls [] are ends none = ap ended_lines (lines_behind ls [] are ends ∙ ap (λ (ks : List (List ℕ)). ls ++ ks) lines-nil ∙ append-nil ls) ∙ ended_all ls ends
lines_part ls (b ∷ bs) are ends none =
    let one : lines_of (b ∷ bs) ≡ (b ∷ bs) ∷ [] = lines-one (b ∷ bs) (omega arith) (λ k lt. none k (omega arith)) in
    ap ended_lines (lines_behind ls (b ∷ bs) are ends ∙ ap (λ (ks : List (List ℕ)). ls ++ ks) one) ∙ ended_front ls (b ∷ bs) (no_end (b ∷ bs) (omega arith) none)

-- Reading

-- nothing was read yet
pub read_nothing : (left : Option (List ℕ)) (r : Reader) → r.held ≡ [] → r.room ≡ 16777216 → r.over ≡ false → HasRead left left r []
read_nothing left r held room over = record {
  read = [];
  consumed = Consumes-nil left;
  bytes = sym held;
  room = omega (arith, room);
  are = lines-nil;
  ended = λ f. all_none (λ l. has_end l ≡ true);
  sound = record { few = omega (arith, ap length held); over = λ t. let no : true ≡ false = sym t ∙ over in cc };
}

regrouped : (a b c d e : List ℕ) → b ++ c ≡ d ++ e → (a ++ b) ++ c ≡ (a ++ d) ++ e
regrouped a b c d e p = append_assoc a b c ∙ ap (λ (bs : List ℕ). a ++ bs) p ∙ sym (append_assoc a d e)

-- one line more
pub read_next : (left0 left left' : Option (List ℕ)) (r r' : Reader) (lines : List (List ℕ)) (line : List ℕ) → HasRead left0 left r lines → r.over ≡ false → IsNext left left' r r' line → HasRead left0 left' r' (lines ++ line ∷ [])
read_next left0 left left' r r' lines line h over n = record {
  read = h.read ++ n.read;
  consumed = Consumes-trans left0 left left' h.read n.read h.consumed n.consumed;
  bytes = ap (λ (bs : List ℕ). bs ++ n.read) h.bytes ∙ regrouped (joined lines) r.held n.read line r'.held n.bytes ∙ ap (λ (bs : List ℕ). bs ++ r'.held) (sym (joined_more lines line));
  room = omega (arith, h.room, n.room, length-append h.read n.read);
  are = lines_more lines line h.are (h.ended over) n.line_is;
  ended = λ f. All-append (λ l. has_end l ≡ true) lines (line ∷ []) (h.ended over) (all_one (λ l. has_end l ≡ true) line (end_is line n.line_is.some (subst (λ (b : Bool). MayEnd b line) f n.ends)));
  sound = n.sound;
}

-- the end of the input
pub read_over : (left0 left left' : Option (List ℕ)) (r r' : Reader) (lines : List (List ℕ)) → HasRead left0 left r lines → IsOver left left' r r' → HasReadAll left0 left' r' lines
read_over left0 left left' r r' lines h o =
    let end = o.sound.over o.over in
    record {
      read = record {
        read = h.read;
        consumed = subst (λ (bs : List ℕ). Consumes left0 left' bs) (append-nil h.read) (Consumes-trans left0 left left' h.read [] h.consumed o.consumed);
        bytes = h.bytes ∙ ap (λ (bs : List ℕ). joined lines ++ bs) (o.none ∙ sym end.1);
        room = omega (arith, h.room, o.room);
        are = h.are;
        ended = λ f. let no : true ≡ false = sym o.over ∙ f in cc;
        sound = o.sound;
      };
      over = o.over;
    }

pub whole_read : (left0 left : Option (List ℕ)) (r : Reader) (lines : List (List ℕ)) → HasReadAll left0 left r lines → AreRead left0 left Whole lines
whole_read left0 left r lines h =
    let end = h.read.sound.over h.over in
    record {
      used = joined lines;
      read = record {
        bytes = h.read.read;
        read = h.read.consumed;
        ended = (end.0, omega (arith, h.read.room), sym (append-nil (joined lines)) ∙ ap (λ (bs : List ℕ). joined lines ++ bs) (sym end.1) ∙ sym h.read.bytes);
      };
      are = h.read.are;
    }

-- what was read in all where the next line could not be read
all_bytes : (left0 left : Option (List ℕ)) (r : Reader) (lines : List (List ℕ)) (h : HasRead left0 left r lines) (read part behind : List ℕ) → r.held ++ read ≡ part ++ behind → h.read ++ read ≡ (joined lines ++ part) ++ behind
all_bytes left0 left r lines h read part behind is = ap (λ (bs : List ℕ). bs ++ read) h.bytes ∙ regrouped (joined lines) r.held read part behind is

empty_is : (bs : List ℕ) → length bs ≡ 0 → bs ≡ []
empty_is [] h = refl
empty_is (b ∷ bs) h = absurd (omega (arith, h))

pub read_broken : (left0 left left' : Option (List ℕ)) (r : Reader) (lines : List (List ℕ)) → HasRead left0 left r lines → r.over ≡ false → IsCutOff errors.Fault left left' r → AreRead left0 left' (Broken faults.ReadFault) lines
read_broken left0 left left' r lines h over c =
    let all : h.read ++ c.read ≡ (joined lines ++ c.part) ++ c.behind = all_bytes left0 left r lines h c.read c.part c.behind c.bytes in
    record {
      used = joined lines ++ c.part;
      read = record {
        bytes = h.read ++ c.read;
        read = Consumes-trans left0 left left' h.read c.read h.consumed c.consumed;
        ended = (omega (arith, h.room, c.breaks.1, length-append h.read c.read), sym (all ∙ ap (λ (bs : List ℕ). (joined lines ++ c.part) ++ bs) (empty_is c.behind c.breaks.0) ∙ append-nil (joined lines ++ c.part)));
      };
      are = lines_part lines c.part h.are (h.ended over) c.unended;
    }

pub read_too_much : (left0 left left' : Option (List ℕ)) (r : Reader) (lines : List (List ℕ)) → HasRead left0 left r lines → r.over ≡ false → IsCutOff errors.TooLarge left left' r → AreRead left0 left' (Broken faults.TooLarge) lines
read_too_much left0 left left' r lines h over c =
    let used = joined lines ++ c.part in
    let all : h.read ++ c.read ≡ used ++ c.behind = all_bytes left0 left r lines h c.read c.part c.behind c.bytes in
    let long : length (h.read ++ c.read) ≡ 16777217 = omega (arith, h.room, c.breaks.1, length-append h.read c.read) in
    let short : length used ≡ 16777216 = omega (arith, long, ap length all, c.breaks.0, length-append used c.behind) in
    record {
      used = used;
      read = record {
        bytes = h.read ++ c.read;
        read = Consumes-trans left0 left left' h.read c.read h.consumed c.consumed;
        ended = (omega (arith, long), sym (ap (take 16777216) all ∙ ap (λ (n : ℕ). take n (used ++ c.behind)) (sym short) ∙ take-append_seam used c.behind));
      };
      are = lines_part lines c.part h.are (h.ended over) c.unended;
    }

pub read_lost : (left0 left left' : Option (List ℕ)) (r : Reader) (lines : List (List ℕ)) → HasRead left0 left r lines → r.over ≡ false → IsCutOff errors.Memory left left' r → AreRead left0 left' Lost lines
read_lost left0 left left' r lines h over c = record {
  used = joined lines ++ c.part;
  read = record {
    bytes = h.read ++ c.read;
    read = Consumes-trans left0 left left' h.read c.read h.consumed c.consumed;
    ended = (omega (arith, h.room, c.breaks.1, length-append h.read c.read), c.behind, c.breaks.0, all_bytes left0 left r lines h c.read c.part c.behind c.bytes);
  };
  are = lines_part lines c.part h.are (h.ended over) c.unended;
}

-- no more is read behind these lines
pub record IsRead (left left' : Option (List ℕ)) (r : Reader) (lines : List (List ℕ)) : Type 0 where
  pub ending : Ending
  pub fine : IsFine ending
  pub read : AreRead left left' ending lines
  pub at_end : r.over ≡ true → ending ≡ Whole

pub enough_read : (left0 left : Option (List ℕ)) (r : Reader) (lines : List (List ℕ)) → HasRead left0 left r lines → IsRead left0 left r lines
enough_read left0 left r lines h = elim (cases_Bool r.over) [
  | inl over ↦ record { ending = Whole; fine = tt; read = whole_read left0 left r lines (record { read = h; over = over }); at_end = λ o. refl }
  | inr more ↦ record {
    ending = Enough;
    fine = tt;
    at_end = λ o. let no : true ≡ false = sym o ∙ more in cc;
    read = record {
      used = joined lines;
      read = record {
        bytes = h.read;
        read = h.consumed;
        ended = (omega (arith, h.room), record { ended = ends_joined lines (h.ended more); behind = r.held; few = h.sound.few; are = h.bytes });
      };
      are = ap ended_lines h.are ∙ ended_all lines (h.ended more);
    };
  }
]

-- a line was handed out, and fewer bytes are left
pub fewer_left : (left left' : Option (List ℕ)) (r r' : Reader) (line : List ℕ) → IsNext left left' r r' line → GoesOn left' r r'
fewer_left left left' r r' line n = record {
  sound = n.sound;
  fewer = omega (arith, n.room, n.line_is.some, ap length n.bytes, length-append r.held n.read, length-append line r'.held);
}

-- The text of the stack

-- so far these lines were read, and none is the mark
pub record HeadSoFar (left left' : Option (List ℕ)) (r : Reader) (text : List ℕ) : Type 0 where
  pub lines : List (List ℕ)
  pub read : HasRead left left' r lines
  pub none : HasNoMark lines
  pub text_is : text ≡ joined lines

pub head_nothing : (left left' : Option (List ℕ)) (r : Reader) (text : List ℕ) → HasRead left left' r [] → text ≡ [] → HeadSoFar left left' r text
head_nothing left left' r text h is = record { lines = []; read = h; none = all_none (λ l. is_mark l ≡ false); text_is = is }

pub head_more : (left0 left left' : Option (List ℕ)) (r r' : Reader) (text line text' : List ℕ) → (h : HeadSoFar left0 left r text) → HasRead left0 left' r' (h.lines ++ line ∷ []) → is_mark line ≡ false → text' ≡ text ++ line → HeadSoFar left0 left' r' text'
head_more left0 left left' r r' text line text' h read other grown = record {
  lines = h.lines ++ line ∷ [];
  read = read;
  none = All-append (λ l. is_mark l ≡ false) h.lines (line ∷ []) h.none (all_one (λ l. is_mark l ≡ false) line other);
  text_is = grown ∙ ap (λ (bs : List ℕ). bs ++ line) h.text_is ∙ sym (joined_more h.lines line);
}

pub head_marked : (left0 left left' : Option (List ℕ)) (r r' : Reader) (text line : List ℕ) → (h : HeadSoFar left0 left r text) → HasRead left0 left' r' (h.lines ++ line ∷ []) → is_mark line ≡ true → HasText left0 left' r' text
head_marked left0 left left' r r' text line h read is = record {
  lines = h.lines ++ line ∷ [];
  read = read;
  marked = inl (record { before = h.lines; mark = line; are = refl; is_mark = is; none = h.none; text_is = h.text_is });
}

pub head_unmarked : (left0 left left' : Option (List ℕ)) (r r' : Reader) (text : List ℕ) → (h : HeadSoFar left0 left r text) → HasReadAll left0 left' r' h.lines → HasText left0 left' r' text
head_unmarked left0 left left' r r' text h read = record {
  lines = h.lines;
  read = read.read;
  marked = inr (record { none = h.none; over = read.over; text_is = h.text_is });
}

pub head_broken : (left0 left left' : Option (List ℕ)) (r : Reader) (text : List ℕ) (fault : Fault) → (h : HeadSoFar left0 left r text) → AreRead left0 left' (Broken fault) h.lines → IsHeadless left0 left' fault
head_broken left0 left left' r text fault h read = record { lines = h.lines; read = read; none = h.none }

-- a reader has few bytes left
pub few_left : (left left' : Option (List ℕ)) (r : Reader) (lines : List (List ℕ)) → HasRead left left' r lines → size r < 4294967296
few_left left left' r lines h = omega (arith, h.room, ap length h.bytes, length-append (joined lines) r.held)

-- Lines behind those before them

-- a reader that handed out these lines behind those before them
pub record ReadSoFar (left left' : Option (List ℕ)) (r r' : Reader) (lines : List (List ℕ)) : Type 0 where
  pub read : (left0 : Option (List ℕ)) (before : List (List ℕ)) → HasRead left0 left r before → HasRead left0 left' r' (before ++ lines)
  pub at_end : r.over ≡ true → (lines ≡ []) × (r'.over ≡ true)

pub none_so_far : (left : Option (List ℕ)) (r : Reader) → ReadSoFar left left r r []
none_so_far left r = record {
  read = λ left0 before h. subst (λ (ls : List (List ℕ)). HasRead left0 left r ls) (sym (append-nil before)) h;
  at_end = λ o. (refl, o);
}

pub one_so_far : (left left' left2 : Option (List ℕ)) (r r' r2 : Reader) (lines : List (List ℕ)) (line : List ℕ) → ReadSoFar left left' r r' lines → ((left0 : Option (List ℕ)) (before : List (List ℕ)) → HasRead left0 left' r' before → HasRead left0 left2 r2 (before ++ line ∷ [])) → r'.over ≡ false → ReadSoFar left left2 r r2 (lines ++ line ∷ [])
one_so_far left left' left2 r r' r2 lines line s next more = record {
  read = λ left0 before h. subst (λ (ls : List (List ℕ)). HasRead left0 left2 r2 ls) (append_assoc before lines (line ∷ [])) (next left0 (before ++ lines) (s.read left0 before h));
  at_end = λ o. let no : true ≡ false = sym (s.at_end o).1 ∙ more in cc;
}

-- the end of the input was met behind them
pub all_behind : (left left' left2 : Option (List ℕ)) (r r' r2 : Reader) (lines : List (List ℕ)) (Known : Ending → List (List ℕ) → Type 0) → ReadSoFar left left' r r' lines → ((left0 : Option (List ℕ)) (before : List (List ℕ)) → HasRead left0 left' r' before → HasReadAll left0 left2 r2 before) → Known Whole (map without_terminator lines)
    → (left0 : Option (List ℕ)) (before : List (List ℕ)) → HasRead left0 left r before → ReadBehind left0 left2 r before Known
all_behind left left' left2 r r' r2 lines Known s end known left0 before h = record {
  ending = Whole;
  lines = lines;
  read = whole_read left0 left2 r2 (before ++ lines) (end left0 (before ++ lines) (s.read left0 before h));
  at_end = λ o. (refl, (s.at_end o).0);
  known = known;
}

-- reading broke off behind them
pub broken_behind : (left left' left2 : Option (List ℕ)) (r r' : Reader) (lines : List (List ℕ)) (ending : Ending) (Known : Ending → List (List ℕ) → Type 0) → ReadSoFar left left' r r' lines → ((left0 : Option (List ℕ)) (before : List (List ℕ)) → HasRead left0 left' r' before → AreRead left0 left2 ending before) → r'.over ≡ false → Known ending (map without_terminator lines)
    → (left0 : Option (List ℕ)) (before : List (List ℕ)) → HasRead left0 left r before → ReadBehind left0 left2 r before Known
broken_behind left left' left2 r r' lines ending Known s cut more known left0 before h = record {
  ending = ending;
  lines = lines;
  read = cut left0 (before ++ lines) (s.read left0 before h);
  at_end = λ o. let no : true ≡ false = sym (s.at_end o).1 ∙ more in cc;
  known = known;
}

-- no more is wanted behind them
pub enough_behind : (left left' : Option (List ℕ)) (r r' : Reader) (lines : List (List ℕ)) (Known : Ending → List (List ℕ) → Type 0) → ReadSoFar left left' r r' lines → ((ending : Ending) → IsFine ending → Known ending (map without_terminator lines))
    → (left0 : Option (List ℕ)) (before : List (List ℕ)) → HasRead left0 left r before → ReadBehind left0 left' r before Known
enough_behind left left' r r' lines Known s known left0 before h =
    let e = enough_read left0 left' r' (before ++ lines) (s.read left0 before h) in
    record {
      ending = e.ending;
      lines = lines;
      read = e.read;
      at_end = λ o. (e.at_end (s.at_end o).1, (s.at_end o).0);
      known = known e.ending e.fine;
    }

-- what is known of lines may be told in other words
pub known_as : (left left' : Option (List ℕ)) (r : Reader) (before : List (List ℕ)) (Known Other : Ending → List (List ℕ) → Type 0) → ReadBehind left left' r before Known → ((ending : Ending) (lines : List (List ℕ)) → Known ending lines → Other ending lines) → ReadBehind left left' r before Other
known_as left left' r before Known Other b f = record { ending = b.ending; lines = b.lines; read = b.read; at_end = b.at_end; known = f b.ending (map without_terminator b.lines) b.known }

-- and so may it with what was read
pub known_where : (left left' : Option (List ℕ)) (r : Reader) (before : List (List ℕ)) (Known Other : Ending → List (List ℕ) → Type 0) → ReadBehind left left' r before Known → ((ending : Ending) (all lines : List (List ℕ)) → AreRead left left' ending all → Known ending lines → Other ending lines) → ReadBehind left left' r before Other
known_where left left' r before Known Other b f = record { ending = b.ending; lines = b.lines; read = b.read; at_end = b.at_end; known = f b.ending (before ++ b.lines) (map without_terminator b.lines) b.read b.known }

-- The script of an input

mark_place : (before : List (List ℕ)) (mark : List ℕ) (behind : List (List ℕ)) → HasNoMark before → is_mark mark ≡ true → position_or_len is_mark (before ++ mark ∷ behind) ≡ length before
mark_place before mark behind none is = position_or_len_is is_mark (before ++ mark ∷ behind) (length before) [] (omega (arith, length-append before (mark ∷ behind)))
    (λ k lt. rw (get_or_append_left before (mark ∷ behind) [] k lt) (none k [] lt))
    (λ lt. rw (get_or-append_seam before mark behind []) is)

no_place : (lines : List (List ℕ)) → HasNoMark lines → position_or_len is_mark lines ≡ length lines
no_place lines none = position_or_len_is is_mark lines (length lines) [] (omega arith) (λ k lt. none k [] lt) (λ lt. absurd (omega (arith, lt)))

script_marked : (whole : Bool) (before : List (List ℕ)) (mark : List ℕ) (behind : List (List ℕ)) → HasNoMark before → is_mark mark ≡ true → script_of whole (before ++ mark ∷ behind) ≡ Some (script (joined before) (map without_terminator behind))
unfolding script_of
script_marked whole before mark behind none is =
    let place = mark_place before mark behind none is in
    let within : ltb (length before) (length (before ++ mark ∷ behind)) ≡ true = lt-ltb (length before) (length (before ++ mark ∷ behind)) (omega (arith, length-append before (mark ∷ behind))) in
    let rest : drop (length before + 1) (before ++ mark ∷ behind) ≡ behind = drop-append-add before (mark ∷ behind) 1 in
    rw (place, within, take-append_seam before (mark ∷ behind), rest) refl

script_unmarked : (lines : List (List ℕ)) → HasNoMark lines → script_of true lines ≡ Some (script (joined lines) [])
unfolding script_of
script_unmarked lines none =
    let within : ltb (length lines) (length lines) ≡ false = le-ltb (length lines) (length lines) (omega arith) in
    rw (no_place lines none, within) refl

script_headless : (lines : List (List ℕ)) → HasNoMark lines → script_of false lines ≡ None
unfolding script_of
script_headless lines none =
    let within : ltb (length lines) (length lines) ≡ false = le-ltb (length lines) (length lines) (omega arith) in
    rw (no_place lines none, within) refl

-- the script of lines that begin with the text of the stack
text_script : (text : List ℕ) (r : Reader) (lines more : List (List ℕ)) (ending : Ending) → IsMarked text lines ⊎ IsUnmarked text r lines → (r.over ≡ true → (ending ≡ Whole) × (more ≡ [])) → script_of (is_whole ending) (lines ++ more) ≡ Some (script text (map without_terminator more))
text_script text r lines more ending (inl m) end =
    ap (λ (ls : List (List ℕ)). script_of (is_whole ending) (ls ++ more)) m.are ∙ ap (λ (ls : List (List ℕ)). script_of (is_whole ending) ls) (append_assoc m.before (m.mark ∷ []) more)
    ∙ script_marked (is_whole ending) m.before m.mark more m.none m.is_mark ∙ ap (λ (bs : List ℕ). Some (script bs (map without_terminator more))) (sym m.text_is)
text_script text r lines more ending (inr u) end =
    let at = end u.over in
    let all : lines ++ more ≡ lines = ap (λ (ls : List (List ℕ)). lines ++ ls) at.1 ∙ append-nil lines in
    ap (λ (e : Ending). script_of (is_whole e) (lines ++ more)) at.0 ∙ ap (λ (ls : List (List ℕ)). script_of true ls) all ∙ script_unmarked lines u.none
    ∙ ap (λ (bs : List ℕ). Some (script bs [])) (sym u.text_is) ∙ ap (λ (ls : List (List ℕ)). Some (script text (map without_terminator ls))) (sym at.1)

-- an input was read up to where its outcome is known
pub was_read : (left left' left2 : Option (List ℕ)) (r : Reader) (text : List ℕ) (Known : Ending → List (List ℕ) → Type 0) (Outcome : Ending → Option Script → Type 0) → (h : HasText left left' r text) → ReadBehind left left2 r h.lines Known → ((ending : Ending) (lines : List (List ℕ)) → Known ending lines → Outcome ending (Some (script text lines))) → WasRead left left2 Outcome
was_read left left' left2 r text Known Outcome h b f = record {
  ending = b.ending;
  used = b.read.used;
  read = b.read.read;
  outcome =
      let is : script_of (is_whole b.ending) (counted_lines (is_whole b.ending) (lines_of b.read.used)) ≡ Some (script text (map without_terminator b.lines)) = ap (λ (ls : List (List ℕ)). script_of (is_whole b.ending) ls) b.read.are ∙ text_script text r h.lines b.lines b.ending h.marked b.at_end in
      subst (λ (s : Option Script). Outcome b.ending s) (sym is) (f b.ending (map without_terminator b.lines) b.known);
}

-- reading broke off before the mark
pub was_headless : (left left' : Option (List ℕ)) (fault : Fault) (Outcome : Ending → Option Script → Type 0) → IsHeadless left left' fault → Outcome (Broken fault) None → WasRead left left' Outcome
was_headless left left' fault Outcome h o = record {
  ending = Broken fault;
  used = h.read.used;
  read = h.read.read;
  outcome =
      let is : script_of false (counted_lines false (lines_of h.read.used)) ≡ None = ap (λ (ls : List (List ℕ)). script_of false ls) h.read.are ∙ script_headless h.lines h.none in
      subst (λ (s : Option Script). Outcome (Broken fault) s) (sym is) o;
}

-- nothing was read behind the text of the stack
pub text_alone : (left left' : Option (List ℕ)) (r : Reader) (text : List ℕ) (Known : Ending → List (List ℕ) → Type 0) → (h : HasText left left' r text) → ((ending : Ending) → IsFine ending → Known ending []) → ReadBehind left left' r h.lines Known
text_alone left left' r text Known h known = enough_behind left' left' r r [] Known (none_so_far left' r) known left h.lines h.read
