-- While state stands, a receiver keeps exactly the pieces that the direction holds, each once.
use Rattle.std.proofs.Common.{◌≡◌, ℕ, suc, ◌+◌, ◌-◌, ◌<◌, ◌≤◌, List, [], ◌∷◌, ◌++◌, length, Bool, true, false, cond, Option, Some, None, refl, sym, ◌∙◌, ap, arith}
use Rattle.rina_base.specs.declared.cause.Cause.{Cause}
use Rattle.rina_base.specs.declared.cause.Cause.TheVariants as causes
use Rattle.rina_base.specs.declared.number.Key.{Key}
use Rattle.rina_cube.specs.declared.Kind.{Kind}
use Rattle.rina_cube.specs.declared.Kind.TheVariants as kinds
use Rattle.rina_dif_law.specs.Counting.{held_numbers, joiner_numbers, numbers_from, off_numbers, times}
use Rattle.rina_delim.specs.declared.joiner.Run.{Run}
use Rattle.rina_dtp.specs.declared.accepted.Accepted.{Accepted}
use Rattle.rina_dtp.specs.declared.accepted.Accepted.TheVariants.{Datagram, Loose, Reliable}
use Rattle.rina_dtp.specs.declared.gap.Lost.{Lost}
use Rattle.rina_dtp.specs.declared.source.Source.{Source}
use Rattle.rina_dtp.specs.Accepted.{kind_of}
use Rattle.rina_dtp.specs.Lost as dtp
use Rattle.rina_dtp.specs.Receiving as receiving
use Rattle.rina_dtp.specs.Receiving.{Receiving, broken_with, drops, end_cause, ended_with, held_in, kept_numbers, lost_in, present_at, run_numbers}
use Rattle.rina_dtp.specs.Shelf.{holds}
use Rattle.rina_dtp.specs.Stands.{IsRun, Knows, Stands}
use Rattle.rina_law.specs.Constants.{Constants}
use Rattle.rina_law.specs.Direction.{Direction}
use Rattle.rina_law.specs.Lists.{In, has}
use Rattle.rina_law.specs.Pieces.{Joiner}
use Rattle.rina_law.specs.Receiver.{Receiver, is_present, next_of, numbers}
use Rattle.rina_law.proofs.Lists.{has-not}
use Rattle.rina_flows.specs.Arriving.{offs_of}
use Rattle.rina_flows.specs.Tied.{HoldsOnce}
use Rattle.rina_flows.proofs.Given.{in_filter, in_numbers_from}
use Rattle.rina_flows.proofs.Kept.{drops_ended, held_of}
use Rattle.rina_flows.proofs.Settled.{lost_numbers}
use Rattle.rina_flows.proofs.Times.{from_once, from_same, times-append, times_filter, times_same}

-- The lines of what is given up

pub ended_numbers : (source : Source) (why : Cause) (ns : List ℕ) → off_numbers (offs_of (ended_with source (Some why) ns)) ≡ ns
ended_numbers source why [] = refl
ended_numbers source why (n ∷ ns) = ap (λ xs. n ∷ xs) (ended_numbers source why ns)

pub broken_numbers : (source : Source) (ls : List Lost) → off_numbers (offs_of (broken_with source ls)) ≡ lost_numbers ls
broken_numbers source [] = refl
broken_numbers source (l ∷ ls) = ap (λ xs. l.number ∷ xs) (broken_numbers source ls)

-- what ended gives up all that it kept
pub ended_all : (now : ℕ) (r : Receiving) (why : Cause) → lost_in r.join.gaps ≡ [] → end_cause now r ≡ Some why → off_numbers (offs_of (drops now r)) ≡ kept_numbers r
ended_all now r why broken is = ap (λ (ds : List (Key × Cause)). off_numbers (offs_of ds)) (drops_ended now r broken ∙ ap (λ (o : Option Cause). ended_with r.source o (kept_numbers r)) is) ∙ ended_numbers r.source why (kept_numbers r)

pub cause_gone : (now : ℕ) (r : Receiving) → r.closed ≡ false → present_at now r ≡ false → end_cause now r ≡ Some (causes.StateGone r.last_in)
cause_gone now r shut absent = (let E : end_cause now r ≡ cond false (Some (causes.NoConnection r.source.dcep)) (cond false None (Some (causes.StateGone r.last_in))) = rw (shut, absent) refl in E)

pub cause_none : (now : ℕ) (r : Receiving) → r.closed ≡ false → present_at now r ≡ true → end_cause now r ≡ None
cause_none now r shut present = (let E : end_cause now r ≡ cond false (Some (causes.NoConnection r.source.dcep)) (cond true None (Some (causes.StateGone r.last_in))) = rw (shut, present) refl in E)

-- What is kept

run_list : (j : Joiner) (o : Option Run) → IsRun j o → run_numbers o ≡ joiner_numbers j
run_list j None is = ap (numbers_from j.from) (sym is)
run_list j (Some run) is =
    let count : suc (run.last - run.from) ≡ j.count = omega arith in
    ap (λ (ns : List ℕ). run.from ∷ ns) (from_same (run.from + 1) (run.last - run.from)) ∙ ap (numbers_from run.from) count ∙ ap (λ (n : ℕ). numbers_from n j.count) (sym is.1)

in_has : (n : ℕ) (ns : List ℕ) → In n ns → has n ns ≡ true
in_has n ns i = go (has n ns) refl
  where
    go : (b : Bool) → has n ns ≡ b → b ≡ true
    go true e = refl
    go false e = absurd (has-not n ns e i)

held_same : (a : Accepted) (m : Receiver) (kind : Kind) (n : ℕ) → kind ≡ kind_of a → Knows a m → HoldsOnce kind m → times n (receiving.held_numbers a) ≡ times n (numbers m.held)
held_same (Datagram r) m kind n is k h = sym (ap (λ hs. times n (numbers hs)) (h.only (λ e. (let x : kinds.Datagram ≡ kinds.Reliable = sym is ∙ e in absurd cc))))
held_same (Loose r) m kind n is k h = sym (ap (λ hs. times n (numbers hs)) (h.only (λ e. (let x : kinds.Loose ≡ kinds.Reliable = sym is ∙ e in absurd cc))))
held_same (Reliable s) m kind n is k h =
    let once : times n (held_in s) ≤ 1 =
    (let le = times_filter n (holds s.places) (dtp.numbers_from s.next (length s.places)) in
    let same = ap (times n) (from_same s.next (length s.places)) in
    let most = from_once n s.next (length s.places) in
    omega arith) in
    times_same n (held_in s) (numbers m.held) once (h.once n)
    (λ i. held_of (Reliable s) m n k i)
    (λ i.
    let there : holds s.places n ≡ true = sym ((k.1).same n) ∙ in_has n (numbers m.held) i in
    let within = (k.1).within n there in
    in_filter (holds s.places) (dtp.numbers_from s.next (length s.places)) n (in_numbers_from s.next (length s.places) n (omega arith) (omega arith)) there)

pub kept_times : (c : Constants) (now : ℕ) (line : Direction) (r : Receiving) (n : ℕ) → Stands c now line.line.receiver line.inbox.joiner r → is_present c now line.line.receiver ≡ true → r.going ≡ None → HoldsOnce c.cube.kind line.line.receiver → times n (kept_numbers r) ≡ times n (held_numbers line)
kept_times c now line r n st b going h =
    let run = run_list line.inbox.joiner r.join.joining.held (st.joiner b).run in
    let held = held_same r.accepted line.line.receiver c.cube.kind n st.of.kind (st.known b) h in
    let all : kept_numbers r ≡ joiner_numbers line.inbox.joiner ++ receiving.held_numbers r.accepted = ap (λ (o : Option Run). run_numbers o ++ run_numbers r.join.joining.held ++ receiving.held_numbers r.accepted) going ∙ ap (λ (ns : List ℕ). ns ++ receiving.held_numbers r.accepted) run in
    let a = ap (times n) all in
    let b' = times-append n (joiner_numbers line.inbox.joiner) (receiving.held_numbers r.accepted) in
    let c' = times-append n (joiner_numbers line.inbox.joiner) (numbers line.line.receiver.held) in
    omega arith

-- a reliable receiver holds what is above its next number
pub held_above : (a : Accepted) (m : Receiver) (n : ℕ) → kind_of a ≡ kinds.Reliable → Knows a m → In n (numbers m.held) → next_of m < n
held_above (Datagram r) m n is k i = (let x : kinds.Datagram ≡ kinds.Reliable = is in absurd cc)
held_above (Loose r) m n is k i = (let x : kinds.Loose ≡ kinds.Reliable = is in absurd cc)
held_above (Reliable s) m n is k i =
    let there : holds s.places n ≡ true = sym ((k.1).same n) ∙ in_has n (numbers m.held) i in
    let within = (k.1).within n there in
    let next = k.0 in
    omega arith
