-- A flow's object has a dash exactly where its state has ended by the clock.
use Rattle.std.proofs.Common.{◌≡◌, ℕ, ◌+◌, ◌*◌, ◌≤◌, ◌⊎◌, List, [], ◌∷◌, Option, None, Some, Bool, true, false, cond, ◌&&◌, ◌||◌, ltb, leb, refl, sym, ap, inl, inr}
use Rattle.std.proofs.lemmas.Bool.{and_from, and_parts, false≢true, le-leb, le-ltb, leb-true, ltb-false, or_cases}
use Rattle.rina_cube.specs.Cubes.{delta_of}
use Rattle.rina_data.specs.Configs.{config_of}
use Rattle.rina_flows.specs.Tied.{inward, outward}
use Rattle.rina_law.specs.Sender.{Member, is_empty, is_idle}
use Rattle.rina_dif.specs.Absence.{ReceiversEndByClock, SendersEndByClock}

-- nothing is told exactly where a test says so
none_if : (b : Bool) (x : ℕ) (told : Option ℕ) → told ≡ cond b None (Some x) → told ≡ None → b ≡ true
none_if true x told is none = refl
none_if false x told is none = cc

is_none_if : (b : Bool) (x : ℕ) (told : Option ℕ) → told ≡ cond b None (Some x) → b ≡ true → told ≡ None
is_none_if true x told is holds = is
is_none_if false x told is holds = absurd (false≢true holds)

none_unless : (b : Bool) (x : ℕ) (told : Option ℕ) → told ≡ cond b (Some x) None → told ≡ None → b ≡ false
none_unless true x told is none = cc
none_unless false x told is none = refl

is_none_unless : (b : Bool) (x : ℕ) (told : Option ℕ) → told ≡ cond b (Some x) None → b ≡ false → told ≡ None
is_none_unless true x told is fails = absurd (false≢true (sym fails))
is_none_unless false x told is fails = is

-- a sender is absent

empty_is : (run : List Member) → is_empty run ≡ true → run ≡ []
empty_is [] e = refl
empty_is (m ∷ run) e = absurd (false≢true e)

is_empty_of : (run : List Member) → run ≡ [] → is_empty run ≡ true
is_empty_of run e = ap is_empty e

or_left : (a b : Bool) → a ≡ true → (a || b) ≡ true
or_left true b e = refl
or_left false b e = absurd (false≢true e)

or_right : (a b : Bool) → b ≡ true → (a || b) ≡ true
or_right true b e = refl
or_right false b e = e

absent_then : (run : List Member) (idle : Bool) (until now : ℕ) → (is_empty run || (idle && leb until now)) ≡ true → (run ≡ []) ⊎ ((idle ≡ true) × (until ≤ now))
absent_then run idle until now e = elim (or_cases (is_empty run) (idle && leb until now) e) [
  | inl none ↦ inl (empty_is run none)
  | inr rest ↦ (let p = and_parts idle (leb until now) rest in inr (p.0, leb-true until now p.1))
]

then_absent : (run : List Member) (idle : Bool) (until now : ℕ) → (run ≡ []) ⊎ ((idle ≡ true) × (until ≤ now)) → (is_empty run || (idle && leb until now)) ≡ true
then_absent run idle until now (inl none) = or_left (is_empty run) (idle && leb until now) (is_empty_of run none)
then_absent run idle until now (inr x) = or_right (is_empty run) (idle && leb until now) (and_from idle (leb until now) x.0 (le-leb until now x.1))

-- a receiver is

gone_then : (made : Bool) (until now : ℕ) → (made && ltb now until) ≡ false → (made ≡ false) ⊎ (until ≤ now)
gone_then false until now e = inl refl
gone_then true until now e = inr (ltb-false now until e)

then_gone : (made : Bool) (until now : ℕ) → (made ≡ false) ⊎ (until ≤ now) → (made && ltb now until) ≡ false
then_gone false until now x = refl
then_gone true until now (inl fails) = absurd (false≢true (sym fails))
then_gone true until now (inr le) = le-ltb now until le

pub senders_end : SendersEndByClock
senders_end d lines below at end conn flow line t is_line =
    let c = outward (config_of d.settings) conn in
    let tx = line.line.sender in
    let idle = is_idle conn.sending.form.cube.kind tx in
    let until = tx.last_out + 3 * delta_of conn.sending.form.cube in
    let told = t.told.tx c tx (t.holds.tied.sends at conn line t.is_conn is_line).sender in
    (λ none. absent_then tx.run idle until d.clock (none_if _ _ flow.tx told none), λ x. is_none_if _ _ flow.tx told (then_absent tx.run idle until d.clock x))

pub receivers_end : ReceiversEndByClock
receivers_end d lines below at from end conn flow line t allocated inbound =
    let c = inward (config_of d.settings) conn in
    let rx = line.line.receiver in
    let until = rx.last_in + 2 * delta_of conn.sending.form.cube in
    let told = t.told.rx c rx line.inbox.joiner (t.holds.tied.receives at from end conn line (record { end_is = t.is_end; conn_is = t.is_conn }) allocated inbound).stands in
    (λ none. gone_then rx.made until d.clock (none_unless _ _ flow.rx told none), λ x. is_none_unless _ _ flow.rx told (then_gone rx.made until d.clock x))
