-- What a receiver gives up, it gives up in the order of the numbers.
use Rattle.std.proofs.Common.{◌≡◌, ℕ, zero, suc, ◌+◌, ◌-◌, ◌<◌, ◌≤◌, List, [], ◌∷◌, ◌++◌, length, filter, Bool, true, false, not, cond, ◌||◌, Option, Some, None, refl, sym, ap, subst, arith, inl, inr}
use Rattle.std.specs.Prelude.{slice_index}
use Rattle.std.proofs.lemmas.List.{append-nil}
use Rattle.std.proofs.lemmas.List.Kept.{IsStrictlyIncreasing-filter}
use Rattle.std.specs.List.Sorted.{IsStrictlyIncreasing}
use Rattle.rina_base.specs.declared.pdu.Pdu.{Pdu}
use Rattle.rina_cube.specs.declared.Kind.{Kind}
use Rattle.rina_cube.specs.declared.Kind.TheVariants as kinds
use Rattle.rina_delim.specs.declared.joiner.Run.{Run}
use Rattle.rina_dif_law.specs.Ids.{Ids}
use Rattle.rina_dtp.specs.declared.accepted.Accepted.{Accepted}
use Rattle.rina_dtp.specs.declared.accepted.Accepted.TheVariants.{Datagram, Loose, Reliable}
use Rattle.rina_dtp.specs.declared.gap.Lost.{Lost}
use Rattle.rina_dtp.specs.Lost as dtp
use Rattle.rina_dtp.specs.Lost.{given_up, lost_after, lost_with, missing_before}
use Rattle.rina_dtp.specs.Receiving.{Receiving, held_numbers, kept_numbers, run_numbers}
use Rattle.rina_dtp.specs.Shelf.{holds}
use Rattle.rina_dtp.specs.Stands.{IsRun, Stands, reach_of}
use Rattle.rina_law.specs.Constants.{Constants}
use Rattle.rina_law.specs.Direction.{Direction, has_room}
use Rattle.rina_law.specs.Line.{arrival_verdict}
use Rattle.rina_law.specs.Lists.{In}
use Rattle.rina_law.specs.Pdus.{piece_in}
use Rattle.rina_law.specs.Pieces.{Joiner, Part, goes_on}
use Rattle.rina_law.specs.Receiver as law
use Rattle.rina_law.specs.Receiver.{Piece, Receiver, is_present}
use Rattle.rina_flows.specs.Arriving.{IsComing}
use Rattle.rina_flows.proofs.Given.{in_append, numbers_from_in}
use Rattle.rina_flows.proofs.Settled.{lost_numbers, lost_with_numbers}
use Rattle.rina_flows.proofs.Unbroken.{none_lost}

-- Lists of numbers that rise

next_place : (k : ℕ) → suc k + 1 ≡ suc (k + 1)
next_place k = omega arith

pub rise_none : IsStrictlyIncreasing []
rise_none k lt = absurd (omega arith)

rise_cons : (x : ℕ) (xs : List ℕ) → ((y : ℕ) → In y xs → x < y) → IsStrictlyIncreasing xs → IsStrictlyIncreasing (x ∷ xs)
rise_cons x [] above rise k lt = absurd (omega arith)
rise_cons x (y ∷ ys) above rise zero lt = above y (inl refl)
rise_cons x (y ∷ ys) above rise (suc k) lt = subst (λ (n : ℕ). slice_index (y ∷ ys) k < slice_index (x ∷ y ∷ ys) n) (sym (next_place k)) (rise k (omega arith))

rise_rest : (x : ℕ) (xs : List ℕ) → IsStrictlyIncreasing (x ∷ xs) → IsStrictlyIncreasing xs
rise_rest x xs rise k lt = subst (λ (n : ℕ). slice_index xs k < slice_index (x ∷ xs) n) (next_place k) (rise (suc k) (omega arith))

rise_below : (x : ℕ) (xs : List ℕ) (y : ℕ) → IsStrictlyIncreasing (x ∷ xs) → In y xs → x < y
rise_below x [] y rise i = absurd i
rise_below x (z ∷ zs) y rise (inl e) = (let lt = rise zero (omega arith) in omega arith)
rise_below x (z ∷ zs) y rise (inr i) = (let lt = rise zero (omega arith) in let more = rise_below z zs y (rise_rest x (z ∷ zs) rise) i in omega arith)

pub rise_append : (xs ys : List ℕ) → IsStrictlyIncreasing xs → IsStrictlyIncreasing ys → ((x y : ℕ) → In x xs → In y ys → x < y) → IsStrictlyIncreasing (xs ++ ys)
rise_append [] ys a b apart = b
rise_append (x ∷ xs) ys a b apart =
    rise_cons x (xs ++ ys) (λ y i. elim (in_append xs ys y i) [
      | inl here ↦ rise_below x xs y a here
      | inr there ↦ apart x y (inl refl) there
    ]) (rise_append xs ys (rise_rest x xs a) b (λ u v i j. apart u v (inr i) j))

pub rise_from : (n count : ℕ) → IsStrictlyIncreasing (dtp.numbers_from n count)
rise_from n zero = rise_none
rise_from n (suc count) = rise_cons n (dtp.numbers_from (n + 1) count) (λ y i. (let at = numbers_from_in (n + 1) count y i in omega arith)) (rise_from (n + 1) count)

-- What is kept

run_rises : (o : Option Run) → IsStrictlyIncreasing (run_numbers o)
run_rises None = rise_none
run_rises (Some run) = rise_cons run.from (dtp.numbers_from (run.from + 1) (run.last - run.from)) (λ y i. (let at = numbers_from_in (run.from + 1) (run.last - run.from) y i in omega arith)) (rise_from (run.from + 1) (run.last - run.from))

run_below : (j : Joiner) (o : Option Run) (n : ℕ) → IsRun j o → In n (run_numbers o) → n < j.from + j.count
run_below j None n is i = absurd i
run_below j (Some run) n is (inl e) = omega arith
run_below j (Some run) n is (inr i) = (let at = numbers_from_in (run.from + 1) (run.last - run.from) n i in omega arith)

run_some : (j : Joiner) (o : Option Run) (n : ℕ) → IsRun j o → In n (run_numbers o) → 0 < j.count
run_some j None n is i = absurd i
run_some j (Some run) n is i = is.0

in_filtered : (p : ℕ → Bool) (xs : List ℕ) (k : ℕ) → In k (filter p xs) → In k xs
in_filtered p [] k i = absurd i
in_filtered p (x ∷ xs) k i = go (p x) i (in_filtered p xs k)
  where
    go : (b : Bool) → In k (cond b (x ∷ filter p xs) (filter p xs)) → (In k (filter p xs) → In k xs) → In k (x ∷ xs)
    go true (inl e) rest = inl e
    go true (inr j) rest = inr (rest j)
    go false j rest = inr (rest j)

held_rises : (a : Accepted) → IsStrictlyIncreasing (held_numbers a)
held_rises (Datagram r) = rise_none
held_rises (Loose h) = rise_none
held_rises (Reliable s) = IsStrictlyIncreasing-filter (holds s.places) (dtp.numbers_from s.next (length s.places)) (rise_from s.next (length s.places))

-- the held ones are not below the next number
held_from : (a : Accepted) (n : ℕ) → In n (held_numbers a) → reach_of a ≤ n
held_from (Datagram r) n i = absurd i
held_from (Loose h) n i = absurd i
held_from (Reliable s) n i = (let at = numbers_from_in s.next (length s.places) n (in_filtered (holds s.places) (dtp.numbers_from s.next (length s.places)) n i) in at.0)

-- while state stands: first those of the joiner, and then those that are held, which are above them
pub kept_rise : (c : Constants) (now : ℕ) (m : Receiver) (j : Joiner) (r : Receiving) → Stands c now m j r → is_present c now m ≡ true → r.going ≡ None → IsStrictlyIncreasing (kept_numbers r)
kept_rise c now m j r st present going =
    let run = (st.joiner present).run in
    let held : Option Run = r.join.joining.held in
    let all : kept_numbers r ≡ run_numbers held ++ held_numbers r.accepted = ap (λ (o : Option Run). run_numbers o ++ run_numbers held ++ held_numbers r.accepted) going in
    subst IsStrictlyIncreasing (sym all) (rise_append (run_numbers held) (held_numbers r.accepted) (run_rises held) (held_rises r.accepted) (λ x y i k.
    let below = run_below j held x run i in
    let reach = st.reach present (run_some j held x run i) in
    let above = held_from r.accepted y k in
    omega arith))

-- What a piece gives up

given_rise : (n : ℕ) (part : Part) (j : Joiner) → IsStrictlyIncreasing (lost_numbers (given_up n part j))
given_rise n part j = go (part.begins || not (goes_on n j))
  where
    go : (b : Bool) → IsStrictlyIncreasing (lost_numbers (cond b (lost_with (missing_before n j) (dtp.numbers_from j.from j.count)) []))
    go true = subst IsStrictlyIncreasing (sym (lost_with_numbers (missing_before n j) (dtp.numbers_from j.from j.count))) (rise_from j.from j.count)
    go false = rise_none

-- all of them were in the joiner
pub lost_rise : (c : Constants) (ids : Ids) (line : Direction) (pdu : Pdu) (v : law.Verdict) (kind : Kind) (b : Bool) → IsComing c ids line pdu → c.cube.kind ≡ kind → is_present c line.line.clock line.line.receiver ≡ b → arrival_verdict c line.line (piece_in pdu) (has_room c line) ≡ v → IsStrictlyIncreasing (lost_numbers (lost_after v kind b (piece_in pdu) line.line.receiver.held line.inbox.joiner))
lost_rise c ids line pdu law.Accepted kinds.Datagram true coming k b v = subst (λ (ls : List Lost). IsStrictlyIncreasing (lost_numbers ls)) (sym (append-nil (given_up pdu.seq (piece_in pdu).part line.inbox.joiner))) (given_rise pdu.seq (piece_in pdu).part line.inbox.joiner)
lost_rise c ids line pdu law.Accepted kinds.Loose true coming k b v = subst (λ (ls : List Lost). IsStrictlyIncreasing (lost_numbers ls)) (sym (append-nil (given_up pdu.seq (piece_in pdu).part line.inbox.joiner))) (given_rise pdu.seq (piece_in pdu).part line.inbox.joiner)
lost_rise c ids line pdu law.Accepted kinds.Reliable true coming k b v =
    let V : Piece → Type 0 = λ p. arrival_verdict c line.line p (has_room c line) ≡ law.Accepted in
    let L : Piece → Type 0 = λ p. lost_after law.Accepted kinds.Reliable true p line.line.receiver.held line.inbox.joiner ≡ [] in
    let none = subst L coming.copy_is (none_lost c line coming.copy coming.limits coming.holds coming.flies coming.alive k b (subst V (sym coming.copy_is) v)) in
    subst (λ (ls : List Lost). IsStrictlyIncreasing (lost_numbers ls)) (sym none) rise_none
lost_rise c ids line pdu law.Accepted kind false coming k b v = rise_none
lost_rise c ids line pdu law.Held kind b coming k p v = rise_none
lost_rise c ids line pdu law.Duplicate kind b coming k p v = rise_none
lost_rise c ids line pdu law.Behind kind b coming k p v = rise_none
lost_rise c ids line pdu law.NoState kind b coming k p v = rise_none
lost_rise c ids line pdu law.NoRoom kind b coming k p v = rise_none
