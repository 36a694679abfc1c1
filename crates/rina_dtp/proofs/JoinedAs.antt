-- The joiner does with a piece what the machine's does.
use Rattle.std.proofs.Common.{◌≡◌, ℕ, suc, ◌+◌, ◌-◌, ◌^◌, ◌%◌, ◌<◌, ◌≤◌, List, [], ◌∷◌, ◌++◌, length, map, Bool, true, false, cond, ◌&&◌, eqb, ltb, Option, Some, None, refl, sym, ◌∙◌, ap, arith, inl, inr, length-append}
use Rattle.std.proofs.lemmas.Bool.{eq-eqb, ne_eqb, lt-ltb, le-ltb, ltb-true, and_parts, cases_lt}
use Rattle.std.proofs.lemmas.Option.{none-some}
use Rattle.std.proofs.lemmas.Bool.Decides.{eqb_tells}
use Rattle.std.proofs.lemmas.List.{append-nil}
use Rattle.std.proofs.Math.Nat.{mod-eq_of_lt}
use Rattle.rina_delim.specs.declared.joiner.Run.{Run}
use Rattle.rina_delim.specs.Joining as delim
use Rattle.rina_delim.specs.Joining.{Joining, piece, after, before, missing_after, answer, joined}
use Rattle.rina_dtp.specs.Joins.{sdu_in, gap_if, missing_in, is_cut_off, whole_by, made_by}
use Rattle.rina_dtp.specs.Lost.{numbers_from, missing_before, is_broken, lost_with, given_up}
use Rattle.rina_dtp.specs.Receiving.{numbers_to, lost_in}
use Rattle.rina_dtp.specs.Stands.{IsRun, IsJoiner}
use Rattle.rina_law.specs.Pieces as law
use Rattle.rina_law.specs.Pieces.{Part, Joiner, empty_joiner, goes_on, Sdu, joined_with}

eqb_same : (a b c d : ℕ) → (a ≡ b → c ≡ d) → (c ≡ d → a ≡ b) → eqb a b ≡ eqb c d
eqb_same a b c d f g = elim (eqb_tells a b) [
  | inl t ↦ t.0 ∙ sym (eq-eqb c d (f t.1))
  | inr t ↦ t.0 ∙ sym (ne_eqb c d (λ e. t.1 (g e)))
]

after_small : (last : ℕ) → last + 1 < 2 ^ 32 → after last ≡ last + 1
after_small last h = mod-eq_of_lt h

after_last : (last : ℕ) → last + 1 ≡ 2 ^ 32 → after last ≡ 0
after_last last e = ap (λ x. x % 2 ^ 32) e

-- a number follows the last one in the sense of the joiner exactly where it is one more, since no number comes again
-- behind the greatest one
follows_same : (last n : ℕ) → last < 2 ^ 32 → n < 2 ^ 32 → (n ≡ 0 → last + 1 < 2 ^ 32) → eqb n (after last) ≡ eqb (last + 1) n
follows_same last n small fits no_wrap =
    elim (cases_lt (last + 1) (2 ^ 32)) [
      | inl low ↦ (let e = after_small last low in eqb_same n (after last) (last + 1) n (λ x. sym e ∙ sym x) (λ x. sym x ∙ sym e))
      | inr high ↦
          (let e = after_last last (omega arith) in
          eqb_same n (after last) (last + 1) n (λ x. (let z : n ≡ 0 = x ∙ e in let lt = no_wrap z in absurd (omega arith))) (λ x. absurd (omega arith)))
    ]

-- what the joiner makes of a piece is what the machine's makes of it
pub record JoinsAs (n : ℕ) (part : Part) (j : Joiner) (whole : List Sdu) (k : Joining) : Type 0 where
  pub missing : missing_in (answer k (piece n part.begins part.ends part.body)) ≡ cond (is_broken n part j) (Some (missing_before n j)) None
  pub joiner : IsJoiner (joined_with n part (record { joiner = j; whole = whole })).joiner (joined k (piece n part.begins part.ends part.body))
  pub reach : 0 < (joined_with n part (record { joiner = j; whole = whole })).joiner.count → (joined_with n part (record { joiner = j; whole = whole })).joiner.from + (joined_with n part (record { joiner = j; whole = whole })).joiner.count ≡ n + 1
  pub made : (joined_with n part (record { joiner = j; whole = whole })).whole ≡ whole ++ map sdu_in (whole_by (answer k (piece n part.begins part.ends part.body)) (made_by 0 (piece n part.begins part.ends part.body) k))
  pub gaps : lost_in (gap_if (is_cut_off (answer k (piece n part.begins part.ends part.body)) part.begins) k.held) ≡ given_up n part j

-- the joiner that holds nothing
none_held : IsRun empty_joiner None
none_held = refl

no_bytes : (bytes : List ℕ) → 0 < 0 → [] ≡ bytes
no_bytes bytes h = absurd (omega arith)

run_size : (j : Joiner) (run : Run) → IsRun j (Some run) → j.count ≡ suc (run.last - run.from)
run_size j run h = (let (some, from, end, small) = h in omega arith)

-- the pieces that wait
run_lost : (n : ℕ) (j : Joiner) (run : Run) → IsRun j (Some run) → lost_with (after run.last) (numbers_to run.from run.last) ++ [] ≡ lost_with (missing_before n j) (numbers_from j.from j.count)
run_lost n j run h =
    let size = run_size j run h in
    let there : ltb 0 j.count ≡ true = lt-ltb 0 j.count h.0 in
    let e : missing_before n j ≡ after run.last = ap (λ b. cond b ((j.from + j.count) % 2 ^ 32) (before n)) there ∙ ap (λ x. x % 2 ^ 32) h.2 in
    let same : lost_with (after run.last) (numbers_to run.from run.last) ≡ lost_with (missing_before n j) (numbers_from j.from j.count) = rw (e, size, h.1) refl in
    append-nil (lost_with (after run.last) (numbers_to run.from run.last)) ∙ same

none_lost : (n : ℕ) (j : Joiner) → IsRun j None → [] ≡ lost_with (missing_before n j) (numbers_from j.from j.count)
none_lost n j h = rw h refl

lost_held_by : (n : ℕ) (j : Joiner) (held : Option Run) → IsRun j held → lost_in (gap_if true held) ≡ lost_with (missing_before n j) (numbers_from j.from j.count)
lost_held_by n j None h = none_lost n j h
lost_held_by n j (Some run) h = run_lost n j run h

one_more : (n : ℕ) → n - n + 1 ≡ 1
one_more n = omega arith

begins_as : (n : ℕ) (ends : Bool) (body : List ℕ) (j : Joiner) (whole : List Sdu) (largest : ℕ) (held : Option Run) (bytes : List ℕ) → IsRun j held → n < 2 ^ 32 → JoinsAs n (record { begins = true; ends = ends; body = body }) j whole (record { largest = largest; held = held; bytes = bytes })
unfolding answer joined missing_after
begins_as n true body j whole largest held bytes h small = record {
  missing = refl;
  joiner = record { run = refl; bytes = λ lt. absurd (omega arith) };
  reach = λ lt. absurd (omega arith);
  made = ap (λ x. whole ++ record { first = n; pieces = x; bytes = body } ∷ []) (sym (one_more n));
  gaps = lost_held_by n j held h;
}
begins_as n false body j whole largest held bytes h small = record {
  missing = refl;
  joiner = record { run = (omega arith, refl, refl, small); bytes = λ lt. refl };
  reach = λ lt. refl;
  made = sym (append-nil whole);
  gaps = lost_held_by n j held h;
}

-- one that finds nothing
alone_as : (n : ℕ) (ends : Bool) (body : List ℕ) (j : Joiner) (whole : List Sdu) (largest : ℕ) (bytes : List ℕ) → IsRun j None → JoinsAs n (record { begins = false; ends = ends; body = body }) j whole (record { largest = largest; held = None; bytes = bytes })
unfolding answer joined missing_after
alone_as n ends body j whole largest bytes h =
    let off : ltb 0 j.count ≡ false = le-ltb 0 j.count (omega arith) in
    let gone : (ltb 0 j.count && eqb (j.from + j.count) n) ≡ false = ap (λ b. b && eqb (j.from + j.count) n) off in
    by_end ends gone (ap (λ b. cond b ((j.from + j.count) % 2 ^ 32) (before n)) off)
  where
    by_end : (ends : Bool) → goes_on n j ≡ false → missing_before n j ≡ before n → JoinsAs n (record { begins = false; ends = ends; body = body }) j whole (record { largest = largest; held = None; bytes = bytes })
    by_end true gone e = record {
      missing = rw (gone, e) refl;
      joiner = rw gone (record { run = refl; bytes = λ lt. absurd (omega arith) });
      reach = rw gone (λ lt. absurd (omega arith));
      made = rw gone (sym (append-nil whole));
      gaps = rw gone (none_lost n j h);
    }
    by_end false gone e = record {
      missing = rw (gone, e) refl;
      joiner = rw gone (record { run = refl; bytes = λ lt. absurd (omega arith) });
      reach = rw gone (λ lt. absurd (omega arith));
      made = sym (append-nil whole);
      gaps = rw gone (none_lost n j h);
    }

-- one that goes on
on_as : (n : ℕ) (ends : Bool) (body : List ℕ) (j : Joiner) (whole : List Sdu) (largest : ℕ) (run : Run) (bytes : List ℕ) → IsRun j (Some run) → (0 < j.count → j.bytes ≡ bytes) → n < 2 ^ 32 → eqb n (after run.last) ≡ true → goes_on n j ≡ true → j.from + j.count ≡ n → ltb 0 (j.count + 1) ≡ true →
    JoinsAs n (record { begins = false; ends = ends; body = body }) j whole (record { largest = largest; held = Some run; bytes = bytes })
unfolding answer joined missing_after
on_as n true body j whole largest run bytes h same small e goes is more = record {
  missing = rw (e, goes) refl;
  joiner = rw (e, goes, more) (record { run = refl; bytes = λ lt. absurd (omega arith) });
  reach = rw (goes, more) (λ lt. absurd (omega arith));
  made = rw (e, goes, more) (let pieces : j.count + 1 ≡ n - run.from + 1 = (let (some, from, end, low) = h in omega arith) in rw (h.1, pieces, same h.0) refl);
  gaps = rw (e, goes) refl;
}
on_as n false body j whole largest run bytes h same small e goes is more = record {
  missing = rw (e, goes) refl;
  joiner = rw (e, goes) (record { run = (omega arith, h.1, omega arith, small); bytes = λ lt. ap (λ (xs : List ℕ). xs ++ body) (same h.0) });
  reach = rw goes (λ lt. omega arith);
  made = rw e (sym (append-nil whole));
  gaps = rw (e, goes) refl;
}

-- one that does not
off_as : (n : ℕ) (ends : Bool) (body : List ℕ) (j : Joiner) (whole : List Sdu) (largest : ℕ) (run : Run) (bytes : List ℕ) → IsRun j (Some run) → eqb n (after run.last) ≡ false → goes_on n j ≡ false → missing_before n j ≡ after run.last →
    JoinsAs n (record { begins = false; ends = ends; body = body }) j whole (record { largest = largest; held = Some run; bytes = bytes })
unfolding answer joined missing_after
off_as n true body j whole largest run bytes h e gone missing = record {
  missing = rw (e, gone, missing) refl;
  joiner = rw (e, gone) (record { run = refl; bytes = λ lt. absurd (omega arith) });
  reach = rw gone (λ lt. absurd (omega arith));
  made = rw (e, gone) (sym (append-nil whole));
  gaps = rw (e, gone) (run_lost n j run h);
}
off_as n false body j whole largest run bytes h e gone missing = record {
  missing = rw (e, gone, missing) refl;
  joiner = rw (e, gone) (record { run = refl; bytes = λ lt. absurd (omega arith) });
  reach = rw gone (λ lt. absurd (omega arith));
  made = rw e (sym (append-nil whole));
  gaps = rw (e, gone) (run_lost n j run h);
}

some_as : (n : ℕ) (ends : Bool) (body : List ℕ) (j : Joiner) (whole : List Sdu) (largest : ℕ) (run : Run) (bytes : List ℕ) → IsRun j (Some run) → (0 < j.count → j.bytes ≡ bytes) → n < 2 ^ 32 → (n ≡ 0 → j.from + j.count < 2 ^ 32) → JoinsAs n (record { begins = false; ends = ends; body = body }) j whole (record { largest = largest; held = Some run; bytes = bytes })
some_as n ends body j whole largest run bytes h same small no_wrap =
    let (some, from, end, low) = h in
    let there : ltb 0 j.count ≡ true = lt-ltb 0 j.count h.0 in
    let tests : eqb n (after run.last) ≡ eqb (j.from + j.count) n = follows_same run.last n h.3 small (λ z. (let lt = no_wrap z in omega arith)) ∙ ap (λ x. eqb x n) (sym h.2) in
    let goes : goes_on n j ≡ eqb (j.from + j.count) n = ap (λ b. b && eqb (j.from + j.count) n) there in
    let missing : missing_before n j ≡ after run.last = ap (λ b. cond b ((j.from + j.count) % 2 ^ 32) (before n)) there ∙ ap (λ x. x % 2 ^ 32) h.2 in
    elim (eqb_tells (j.from + j.count) n) [
      | inl t ↦ on_as n ends body j whole largest run bytes h same small (tests ∙ t.0) (goes ∙ t.0) t.1 (lt-ltb 0 (j.count + 1) (omega arith))
      | inr t ↦ off_as n ends body j whole largest run bytes h (tests ∙ t.0) (goes ∙ t.0) missing
    ]

by_parts : (n : ℕ) (begins ends : Bool) (body : List ℕ) (j : Joiner) (whole : List Sdu) (largest : ℕ) (held : Option Run) (bytes : List ℕ) → IsRun j held → (0 < j.count → j.bytes ≡ bytes) → n < 2 ^ 32 → (n ≡ 0 → 0 < j.count → j.from + j.count < 2 ^ 32) → JoinsAs n (record { begins = begins; ends = ends; body = body }) j whole (record { largest = largest; held = held; bytes = bytes })
by_parts n true ends body j whole largest held bytes h same small no_wrap = begins_as n ends body j whole largest held bytes h small
by_parts n false ends body j whole largest None bytes h same small no_wrap = alone_as n ends body j whole largest bytes h
by_parts n false ends body j whole largest (Some run) bytes h same small no_wrap = some_as n ends body j whole largest run bytes h same small (λ z. no_wrap z h.0)

pub joins_as : (n : ℕ) (part : Part) (j : Joiner) (whole : List Sdu) (k : Joining) → IsJoiner j k → n < 2 ^ 32 → (n ≡ 0 → 0 < j.count → j.from + j.count < 2 ^ 32) → JoinsAs n part j whole k
joins_as n part j whole k h small no_wrap = by_parts n part.begins part.ends part.body j whole k.largest k.held k.bytes h.run h.bytes small no_wrap

-- and where the machine's joiner has room for the piece, this one has

none_missing : (b : Bool) (x : ℕ) → cond b None (Some x) ≡ None → b ≡ true
none_missing true x e = refl
none_missing false x e = absurd (none-some x (sym e))

goes_there : (n : ℕ) (j : Joiner) (held : Option Run) → IsRun j held → n < 2 ^ 32 → (n ≡ 0 → 0 < j.count → j.from + j.count < 2 ^ 32) → missing_after held n ≡ None → goes_on n j ≡ true
unfolding missing_after
goes_there n j None h small no_wrap none = absurd (none-some (before n) (sym none))
goes_there n j (Some run) h small no_wrap none =
    let (some, from, end, low) = h in
    let there : ltb 0 j.count ≡ true = lt-ltb 0 j.count h.0 in
    let yes : eqb n (after run.last) ≡ true = none_missing (eqb n (after run.last)) (after run.last) none in
    let tests : eqb n (after run.last) ≡ eqb (j.from + j.count) n = follows_same run.last n h.3 small (λ z. (let lt = no_wrap z h.0 in omega arith)) ∙ ap (λ x. eqb x n) (sym h.2) in
    ap (λ b. b && eqb (j.from + j.count) n) there ∙ sym tests ∙ yes

pub room_as : (n largest : ℕ) (part : Part) (j : Joiner) (k : Joining) → IsJoiner j k → n < 2 ^ 32 → (n ≡ 0 → 0 < j.count → j.from + j.count < 2 ^ 32) → k.largest ≡ largest → law.HasRoomFor largest n part j → delim.HasRoom k n part.begins (length part.body)
room_as n largest part j k h small no_wrap size room = record {
  begins = λ t. (let x : length part.body ≤ largest = rw t at room in omega arith);
  follows = λ f none.
      (let goes : goes_on n j ≡ true = goes_there n j k.held h.run small no_wrap none in
      let x : length (j.bytes ++ part.body) ≤ largest = rw (f, goes) at room in
      let some : 0 < j.count = ltb-true 0 j.count ((and_parts (ltb 0 j.count) (eqb (j.from + j.count) n) goes).0) in
      let same : length j.bytes ≡ length k.bytes = ap (λ (xs : List ℕ). length xs) (h.bytes some) in
      omega (arith, length-append j.bytes part.body));
}
