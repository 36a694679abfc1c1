-- The acknowledgement that is made is the machine's.
use Rattle.std.proofs.Common.{◌≡◌, ℕ, zero, suc, ◌+◌, ◌-◌, ◌<◌, max, min, Bool, true, false, cond, ◌&&◌, ltb, leb, List, [], ◌∷◌, length, map, drop, append-nil, slice_get, Some, None, inl, inr, refl, sym, ◌∙◌, ap, subst, arith}
use Rattle.std.proofs.lemmas.Bool.{cases_lt, lt-ltb, le-ltb, and_parts, false≢true}
use Rattle.std.proofs.lemmas.List.{drop_all}
use Rattle.rina_cube.specs.Cubes.{is_reliable}
use Rattle.rina_cube.specs.declared.Kind.{Kind}
use Rattle.rina_cube.specs.declared.Kind.TheVariants.{Datagram, Loose, Reliable}
use Rattle.rina_dtcp.specs.Plans.{Plan, is_young}
use Rattle.rina_dtp.specs.Observed.{TellsNext, number_after}
use Rattle.rina_dtp.proofs.Observing.{tells_joining}
use Rattle.rina_law.specs.declared.entry.Entry.{Entry}
use Rattle.rina_law.specs.Constants.{Constants, delta}
use Rattle.rina_law.specs.Direction.{Direction, entry, has_come, first_open, right_of, is_ack_due}
use Rattle.rina_law.specs.Receiver.{Receiver, is_present, next_of}
use Rattle.rina_conn.specs.declared.conn.Conn.{Conn}
use Rattle.rina_conn.specs.Clock as clock
use Rattle.rina_conn.specs.Clock.{first_of, plan_is_due, ack_due, TellsAck}
use Rattle.rina_conn.specs.Standing.{open_numbers, IsReceiver}

-- The first open number

first_seq : (k : ℕ) (es : List Entry) → k < length es → slice_get (map (λ (e : Entry). e.num.seq) (drop k es)) 0 ≡ Some (entry es k).num.seq
first_seq k [] h = absurd (omega arith)
first_seq zero (e ∷ es) h = refl
first_seq (suc k) (e ∷ es) h = first_seq k es (omega arith)

open_by : (c : Constants) (d : Direction) (k : Conn) (next : ℕ) → IsReceiver c d k → k.rx.join.whole ≡ [] → is_present c d.line.clock d.line.receiver ≡ true → next ≡ next_of d.line.receiver → clock.first_open next k ≡ first_open d
open_by c d k next st fetched present is =
    let firsts : k.waiting.firsts ≡ open_numbers d = sym (append-nil k.waiting.firsts) ∙ rw fetched at st.waiting.firsts in
    let joining = tells_joining k.rx _ refl c d.line.clock d.line.receiver d.inbox.joiner st.rx present in
    elim (cases_lt (max d.passed d.state_from) (length d.inbox.got)) [
      | inl lt ↦
          (let some : ltb (max d.passed d.state_from) (length d.inbox.got) ≡ true = lt-ltb _ _ lt in
          rw (firsts, first_seq (max d.passed d.state_from) d.inbox.got lt, some) refl)
      | inr le ↦
          (let none : ltb (max d.passed d.state_from) (length d.inbox.got) ≡ false = le-ltb _ _ le in
          let all : drop (max d.passed d.state_from) d.inbox.got ≡ [] = drop_all _ d.inbox.got le in
          rw (firsts, all, none, joining, is) (held_by (ltb 0 d.inbox.joiner.count)))
    ]
  where
    held_by : (b : Bool) → first_of (cond b (Some d.inbox.joiner.from) None) (next_of d.line.receiver) ≡ cond b d.inbox.joiner.from (next_of d.line.receiver)
    held_by true = refl
    held_by false = refl

-- Whether one is due

due_by : (r m h p y : Bool) → (p ≡ true → m ≡ true) → p ≡ true → (r && (m && (h && y))) ≡ (r && (h && (p && y)))
due_by r m h true y made e = (let is : m ≡ true = made refl in rw is refl)
due_by r m h false y made e = absurd (false≢true e)

absent_by : (r h y : Bool) → (r && (h && (false && y))) ≡ false
absent_by true true y = refl
absent_by true false y = refl
absent_by false h y = refl

due_is : (c : Constants) (d : Direction) (k : Conn) → IsReceiver c d k → is_present c d.line.clock d.line.receiver ≡ true → plan_is_due d.line.clock k ≡ is_ack_due c d
due_is c d k st present =
    let made : k.rx.made ≡ d.line.receiver.made = sym st.rx.made in
    let last : k.rx.last_in ≡ d.line.receiver.last_in = sym st.rx.last_in in
    let mark : k.plan.mark ≡ d.mark = ap (λ (p : Plan). p.mark) st.plan in
    let wait : k.plan.delta ≡ delta c = ap (λ (p : Plan). p.delta) st.plan in
    let kept : plan_is_due d.line.clock k ≡ (is_reliable c.cube.kind && (d.line.receiver.made && (has_come d.mark d.line.clock && is_young d.line.clock d.line.receiver.last_in (delta c)))) = rw (made, last, mark, wait, st.cube) refl in
    kept ∙ due_by (is_reliable c.cube.kind) d.line.receiver.made (has_come d.mark d.line.clock) (is_present c d.line.clock d.line.receiver) (leb d.line.clock (d.line.receiver.last_in + delta c)) (λ e. (and_parts d.line.receiver.made _ e).0) present

none_due : (c : Constants) (d : Direction) → is_ack_due c d ≡ false → None ≡ ack_due c d
none_due c d e = rw e refl

some_due : (c : Constants) (d : Direction) (ack right : ℕ) → is_ack_due c d ≡ true → ack ≡ next_of d.line.receiver - 1 → right ≡ right_of c d → Some (record { ack = ack; right = right }) ≡ ack_due c d
some_due c d ack right e a r = rw (e, a, r) refl

reliable_next : (kind : Kind) (m : Receiver) → is_reliable kind ≡ true → number_after kind m ≡ next_of m
reliable_next Datagram m e = cc
reliable_next Loose m e = cc
reliable_next Reliable m e = refl

-- there is a next number exactly where state stands
next_present : (b : Bool) (n k : ℕ) → Some n ≡ cond b (Some k) None → (b ≡ true) × (n ≡ k)
next_present true n k e = (refl, cc)
next_present false n k e = cc

next_absent : (b : Bool) (k : ℕ) → None ≡ cond b (Some k) None → b ≡ false
next_absent true k e = cc
next_absent false k e = refl

pub no_state : (now : ℕ) (k : Conn) → TellsNext now k.rx None → TellsAck now k None
no_state now k told c d same st fetched =
    let P : ℕ → Type 0 = λ n. TellsNext n k.rx None in
    let absent = next_absent _ _ (subst P (sym same) told c d.line.receiver d.inbox.joiner st.rx) in
    none_due c d (rw absent (absent_by (is_reliable c.cube.kind) (has_come d.mark d.line.clock) (leb d.line.clock (d.line.receiver.last_in + delta c))))

pub not_due : (now next : ℕ) (k : Conn) → TellsNext now k.rx (Some next) → plan_is_due now k ≡ false → TellsAck now k None
not_due now next k told due c d same st fetched =
    let P : ℕ → Type 0 = λ n. TellsNext n k.rx (Some next) in
    let Q : ℕ → Type 0 = λ n. plan_is_due n k ≡ false in
    let present = next_present _ _ _ (subst P (sym same) told c d.line.receiver d.inbox.joiner st.rx) in
    none_due c d (sym (due_is c d k st present.0) ∙ subst Q (sym same) due)

pub made : (now next : ℕ) (k : Conn) → TellsNext now k.rx (Some next) → plan_is_due now k ≡ true → TellsAck now k (Some (record { ack = next - 1; right = min (clock.first_open next k + k.sending.form.cube.window - 1) k.sending.numbers.max }))
made now next k told due c d same st fetched =
    let P : ℕ → Type 0 = λ n. TellsNext n k.rx (Some next) in
    let Q : ℕ → Type 0 = λ n. plan_is_due n k ≡ true in
    let present = next_present _ _ _ (subst P (sym same) told c d.line.receiver d.inbox.joiner st.rx) in
    let is_due : is_ack_due c d ≡ true = sym (due_is c d k st present.0) ∙ subst Q (sym same) due in
    let reliable : is_reliable c.cube.kind ≡ true = (and_parts (is_reliable c.cube.kind) _ is_due).0 in
    let next_is : next ≡ next_of d.line.receiver = present.1 ∙ reliable_next c.cube.kind d.line.receiver reliable in
    let first = open_by c d k next st fetched present.0 next_is in
    let right : min (clock.first_open next k + k.sending.form.cube.window - 1) k.sending.numbers.max ≡ right_of c d = rw (first, st.cube, st.max) refl in
    some_due c d _ _ is_due (ap (λ n. n - 1) next_is) right
