-- The receiving half of a connection follows the machine when an SDU is passed, or fetched.
use Rattle.std.proofs.Common.{◌≡◌, ℕ, ◌+◌, ◌-◌, ◌<◌, ◌≤◌, max, true, false, ltb, List, [], ◌∷◌, length, map, drop, append-nil, inl, inr, refl, sym, ◌∙◌, ap, subst, arith}
use Rattle.std.proofs.lemmas.Bool.{cases_lt, lt-ltb, le-ltb}
use Rattle.std.proofs.lemmas.List.{drop-drop, length-drop}
use Rattle.rina_dtcp.specs.Plans.{Plan}
use Rattle.rina_law.specs.declared.entry.Entry.{Entry}
use Rattle.rina_law.specs.Constants.{Constants}
use Rattle.rina_law.specs.Direction.{Direction, Pass, happens}
use Rattle.rina_law.specs.Pieces.{Sdu}
use Rattle.rina_conn.specs.declared.conn.Conn.{Conn}
use Rattle.rina_conn.specs.Conns.{Passes}
use Rattle.rina_conn.specs.Standing.{open_numbers, AreWaiting, PassesFirst}
use Rattle.rina_conn.specs.Waiting.{Waits, after_pass}

rest_mapped : (es : List Entry) → map (λ (e : Entry). e.num.seq) (drop 1 es) ≡ drop 1 (map (λ (e : Entry). e.num.seq) es)
rest_mapped [] = refl
rest_mapped (e ∷ es) = refl

-- one of an earlier state is passed
earlier_passed : (c : Constants) (d e : Direction) (w : Waits) → AreWaiting c d [] w → d.passed < d.state_from → e.inbox.got ≡ d.inbox.got → e.passed ≡ d.passed + 1 → e.state_from ≡ d.state_from → d.passed < length d.inbox.got → AreWaiting c e [] (record w { earlier = w.earlier - 1 })
earlier_passed c d e w h lt got passed from some =
    let same : max e.passed e.state_from ≡ max d.passed d.state_from = omega arith in
    let numbers : open_numbers e ≡ open_numbers d = rw (got, same) refl in
    let earlier = h.earlier in
    let within = h.within in
    let count = ap length got in
    record {
      room = h.room;
      earlier = omega arith;
      firsts = h.firsts ∙ sym numbers;
      within = omega arith;
      few = rw numbers h.few;
    }

-- the first of the present state is passed
first_passed : (c : Constants) (d e : Direction) (w : Waits) → AreWaiting c d [] w → d.state_from ≤ d.passed → e.inbox.got ≡ d.inbox.got → e.passed ≡ d.passed + 1 → e.state_from ≡ d.state_from → d.passed < length d.inbox.got → AreWaiting c e [] (record w { firsts = drop 1 w.firsts })
first_passed c d e w h le got passed from some =
    let before : max d.passed d.state_from ≡ d.passed = omega arith in
    let after : max e.passed e.state_from ≡ 1 + d.passed = omega arith in
    let noted : w.firsts ≡ open_numbers d = sym (append-nil w.firsts) ∙ h.firsts in
    let rest = rest_mapped (drop d.passed d.inbox.got) in
    let further = drop-drop 1 d.passed d.inbox.got in
    let plus : d.passed + 1 ≡ 1 + d.passed = omega arith in
    let numbers : open_numbers e ≡ drop 1 (open_numbers d) = rw (got, after, before, ← plus, ← further) rest in
    let earlier = h.earlier in
    let few = h.few in
    let fewer = length-drop 1 (open_numbers d) in
    let numbers_count = ap length numbers in
    let count = ap length got in
    record {
      room = h.room;
      earlier = omega arith;
      firsts = append-nil (drop 1 w.firsts) ∙ ap (drop 1) noted ∙ sym numbers;
      within = omega arith;
      few = omega arith;
    }

waiting_passed : (c : Constants) (d e : Direction) (w : Waits) → AreWaiting c d [] w → e.inbox.got ≡ d.inbox.got → e.passed ≡ d.passed + 1 → e.state_from ≡ d.state_from → d.passed < length d.inbox.got → AreWaiting c e [] (after_pass w)
waiting_passed c d e w h got passed from some =
    let earlier = h.earlier in
    elim (cases_lt d.passed d.state_from) [
      | inl lt ↦ (let some_earlier : ltb 0 w.earlier ≡ true = lt-ltb 0 w.earlier (omega arith) in rw some_earlier (earlier_passed c d e w h lt got passed from some))
      | inr le ↦ (let none_earlier : ltb 0 w.earlier ≡ false = le-ltb 0 w.earlier (omega arith) in rw none_earlier (first_passed c d e w h le got passed from some))
    ]

pub passes_row : (now : ℕ) (old : Conn) (plan : Plan) → Passes now old (record old { plan = plan; waiting = after_pass old.waiting }) → PassesFirst now old (record old { plan = plan; waiting = after_pass old.waiting })
passes_row now old plan passes c d clock some st fetched =
    let P : ℕ → Type 0 = λ n. Passes n old (record old { plan = plan; waiting = after_pass old.waiting }) in
    let row = subst P (sym clock) passes in
    let W : List Sdu → Type 0 = λ whole. AreWaiting c d whole old.waiting in
    let V : List Sdu → Type 0 = λ whole. AreWaiting c (happens c d Pass) whole (after_pass old.waiting) in
    record {
      cube = st.cube;
      max = st.max;
      rx = st.rx;
      last = st.last;
      plan = row c d.line.receiver d.inbox.joiner d.mark st.rx st.last st.plan;
      waiting = subst V (sym fetched) (waiting_passed c d (happens c d Pass) old.waiting (subst W fetched st.waiting) refl refl refl some);
    }
