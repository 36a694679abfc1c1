-- What a receiver keeps are pieces that the machine's receiver and joiner hold, and how many it gives up at most.
use Rattle.std.proofs.Common.{◌≡◌, ℕ, ◌+◌, ◌-◌, ◌<◌, ◌≤◌, [], ◌++◌, length, Bool, true, false, not, cond, ◌||◌, Option, Some, None, length-append, sym, ◌∙◌, ap, subst, arith, inl, inr}
use Rattle.std.proofs.lemmas.Bool.{cases_eq}
use Rattle.rina_cube.specs.declared.Kind.TheVariants as kinds
use Rattle.rina_delim.specs.declared.joiner.Run.{Run}
use Rattle.rina_dif_law.specs.Incoming.{IsKeptNumber}
use Rattle.rina_dtp.specs.declared.accepted.Accepted.{Accepted}
use Rattle.rina_dtp.specs.declared.accepted.Accepted.TheVariants.{Datagram, Loose, Reliable}
use Rattle.rina_dtp.specs.Accepted.{kind_of}
use Rattle.rina_dtp.specs.Lost.{given_up, lost_with, missing_before, numbers_from}
use Rattle.rina_dtp.specs.Receiving.{Receiving, broken_with, drops, end_cause, ended_with, held_numbers, kept_numbers, lost_in, run_numbers}
use Rattle.rina_dtp.specs.Shelf.{holds}
use Rattle.rina_dtp.specs.Stands.{IsRun, Knows, Stands}
use Rattle.rina_dtp.proofs.Fetched.{length-numbers_from, run_length}
use Rattle.rina_law.specs.Constants.{Constants}
use Rattle.rina_law.specs.Direction.{Direction}
use Rattle.rina_law.specs.Lists.{In, has}
use Rattle.rina_law.specs.Pieces.{Joiner, Part, goes_on}
use Rattle.rina_law.specs.Receiver.{Receiver, is_present, numbers}
use Rattle.rina_law.proofs.Lists.{has-in}
use Rattle.rina_flows.proofs.Given.{ended_with-length, filter_in, in_append, in_filter, in_left, in_numbers_from, in_right, lost_with-length, numbers_from_in}

-- The numbers of the joiner

run_in : (j : Joiner) (o : Option Run) (n : ℕ) → IsRun j o → In n (run_numbers o) → (j.from ≤ n) × (n < j.from + j.count)
run_in j None n is i = absurd i
run_in j (Some run) n is (inl e) = (omega arith, omega arith)
run_in j (Some run) n is (inr i) = (let at = numbers_from_in (run.from + 1) (run.last - run.from) n i in (omega arith, omega arith))

in_run : (j : Joiner) (o : Option Run) (n : ℕ) → IsRun j o → j.from ≤ n → n < j.from + j.count → In n (run_numbers o)
in_run j None n is le lt = absurd (omega arith)
in_run j (Some run) n is le lt = elim (cases_eq n run.from) [
  | inl e ↦ inl e
  | inr ne ↦ inr (in_numbers_from (run.from + 1) (run.last - run.from) n (omega arith) (omega arith))
]

run_count : (j : Joiner) (o : Option Run) → IsRun j o → j.count ≤ length (run_numbers o)
run_count j None is = omega arith
run_count j (Some run) is = (let e = run_length run in omega arith)

-- The numbers of held pieces

pub held_of : (a : Accepted) (m : Receiver) (n : ℕ) → Knows a m → In n (held_numbers a) → In n (numbers m.held)
held_of (Datagram r) m n k i = absurd i
held_of (Loose h) m n k i = absurd i
held_of (Reliable s) m n k i = has-in n (numbers m.held) ((k.1).same n ∙ filter_in (holds s.places) _ n i)

held_before : (a b : Accepted) (m new : Receiver) (n : ℕ) → kind_of a ≡ kind_of b → Knows a m → Knows b new → new.held ≡ m.held → In n (held_numbers b) → In n (held_numbers a)
held_before a (Datagram r) m new n kind k l same i = absurd i
held_before a (Loose h) m new n kind k l same i = absurd i
held_before (Datagram r) (Reliable t) m new n kind k l same i = (let e : kinds.Datagram ≡ kinds.Reliable = kind in absurd cc)
held_before (Loose h) (Reliable t) m new n kind k l same i = (let e : kinds.Loose ≡ kinds.Reliable = kind in absurd cc)
held_before (Reliable s) (Reliable t) m new n kind k l same i =
    let there : holds t.places n ≡ true = filter_in (holds t.places) _ n i in
    let was : holds s.places n ≡ true = sym ((k.1).same n) ∙ ap (λ hs. has n (numbers hs)) (sym same) ∙ (l.1).same n ∙ there in
    let within = (k.1).within n was in
    in_filter (holds s.places) (numbers_from s.next (length s.places)) n (in_numbers_from s.next (length s.places) n (omega arith) (omega arith)) was

-- Both

pub kept_number : (c : Constants) (now : ℕ) (line : Direction) (r : Receiving) (n : ℕ) → Stands c now line.line.receiver line.inbox.joiner r → is_present c now line.line.receiver ≡ true → r.going ≡ None → In n (kept_numbers r) → IsKeptNumber line n
kept_number c now line r n st b going i =
    elim (in_append (run_numbers r.going ++ run_numbers r.join.joining.held) (held_numbers r.accepted) n i) [
      | inl waits ↦ elim (in_append (run_numbers r.going) (run_numbers r.join.joining.held) n waits) [
        | inl gone ↦ absurd (subst (λ (o : Option Run). In n (run_numbers o)) going gone)
        | inr joined ↦ inl (run_in line.inbox.joiner r.join.joining.held n (st.joiner b).run joined)
      ]
      | inr held ↦ inr (held_of r.accepted line.line.receiver n (st.known b) held)
    ]

-- a receiver that stands for the same joiner and held pieces as another keeps no more than that
pub kept_before : (c : Constants) (now : ℕ) (m after : Receiver) (j : Joiner) (old new : Receiving) (n : ℕ) → Stands c now m j old → Stands c now after j new → is_present c now m ≡ true → is_present c now after ≡ true → after.held ≡ m.held → new.going ≡ None → In n (kept_numbers new) → In n (kept_numbers old)
kept_before c now m after j old new n st stands b present same going i =
    elim (in_append (run_numbers new.going ++ run_numbers new.join.joining.held) (held_numbers new.accepted) n i) [
      | inl waits ↦ elim (in_append (run_numbers new.going) (run_numbers new.join.joining.held) n waits) [
        | inl gone ↦ absurd (subst (λ (o : Option Run). In n (run_numbers o)) going gone)
        | inr joined ↦
            (let at = run_in j new.join.joining.held n (stands.joiner present).run joined in
            in_left (run_numbers old.going ++ run_numbers old.join.joining.held) (held_numbers old.accepted) n (in_right (run_numbers old.going) (run_numbers old.join.joining.held) n (in_run j old.join.joining.held n (st.joiner b).run at.0 at.1)))
      ]
      | inr held ↦ in_right (run_numbers old.going ++ run_numbers old.join.joining.held) (held_numbers old.accepted) n (held_before old.accepted new.accepted m after n (sym st.of.kind ∙ stands.of.kind) (st.known b) (stands.known present) same held)
    ]

-- How many are given up

pub drops_ended : (now : ℕ) (r : Receiving) → lost_in r.join.gaps ≡ [] → drops now r ≡ ended_with r.source (end_cause now r) (kept_numbers r)
drops_ended now r none = ap (λ ls. broken_with r.source ls ++ ended_with r.source (end_cause now r) (kept_numbers r)) none

pub drops_count : (now : ℕ) (r : Receiving) → lost_in r.join.gaps ≡ [] → length (drops now r) ≤ length (kept_numbers r)
drops_count now r none = (let e = ap (λ ds. length ds) (drops_ended now r none) in let le = ended_with-length r.source (end_cause now r) (kept_numbers r) in omega arith)

given_up_count : (n : ℕ) (part : Part) (j : Joiner) → length (given_up n part j) ≤ j.count
given_up_count n part j = go (part.begins || not (goes_on n j))
  where
    go : (b : Bool) → length (cond b (lost_with (missing_before n j) (numbers_from j.from j.count)) []) ≤ j.count
    go true = (let e = lost_with-length (missing_before n j) (numbers_from j.from j.count) in let f = length-numbers_from j.from j.count in omega arith)
    go false = omega arith

pub joined_count : (c : Constants) (now : ℕ) (m : Receiver) (j : Joiner) (r : Receiving) → Stands c now m j r → is_present c now m ≡ true → j.count ≤ length (kept_numbers r)
joined_count c now m j r st b =
    let le = run_count j r.join.joining.held (st.joiner b).run in
    let front = length-append (run_numbers r.going) (run_numbers r.join.joining.held) in
    let all = length-append (run_numbers r.going ++ run_numbers r.join.joining.held) (held_numbers r.accepted) in
    omega arith

pub given_up_within : (c : Constants) (now : ℕ) (m : Receiver) (j : Joiner) (r : Receiving) (n : ℕ) (part : Part) → Stands c now m j r → is_present c now m ≡ true → length (given_up n part j) ≤ length (kept_numbers r)
given_up_within c now m j r n part st b = (let le = given_up_count n part j in let more = joined_count c now m j r st b in omega arith)
