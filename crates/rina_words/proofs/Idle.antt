-- Ticks at which nothing happens are ticks.
use Rattle.std.proofs.Common.{◌≡◌, ◌∙◌, ℕ, zero, suc, ◌+◌, ◌-◌, ◌<◌, ◌≤◌, ◌==◌, ◌&&◌, cond, Bool, true, false, List, [], ◌∷◌, ◌++◌, Option, Some, None, option_and_then, option_map, refl, sym, ap, subst, arith}
use Rattle.std.proofs.lemmas.Bool.{and_from}
use Rattle.std.proofs.lemmas.Bool.Decides.{Decides-eqb}
use Rattle.rina_base.specs.declared.number.Num.{Num}
use Rattle.rina_base.specs.declared.number.Port.{Port}
use Rattle.rina_iface.specs.declared.state.Fail.{Fail}
use Rattle.rina_iface.specs.declared.state.Fail.TheVariants as fails
use Rattle.rina_iface.specs.declared.state.PortState.{PortState}
use Rattle.rina_iface.specs.declared.state.PortState.TheVariants as states
use Rattle.rina_iface.specs.declared.state.Why.{Why}
use Rattle.rina_iface.specs.declared.state.Why.TheVariants as whys
use Rattle.rina_iface.specs.Seen.{Seen, state_of}
use Rattle.rina_policy.specs.Slots.{Slot}
use Rattle.rina_report.specs.declared.answer.Answer.TheVariants as answers
use Rattle.rina_report.specs.declared.note.Note.{Note}
use Rattle.rina_stack.specs.declared.plan.Plan.{Plan}
use Rattle.rina_table.specs.declared.sketch.Rounds.{Rounds}
use Rattle.rina_table.specs.declared.sketch.Rounds.TheVariants.{Auto, Manual}
use Rattle.rina_notes.specs.declared.label.Label.{Label}
use Rattle.rina_notes.specs.Told.{drawn_told}
use Rattle.rina_notes.specs.Look.{Leads, label_notes, looked, noted, same_drawn, same_fail, same_num, same_port, same_state, same_why, shown_now, state_at, state_notes}
use Rattle.rina_tower.specs.declared.tower.Tower.{Tower, Rank', Wires}
use Rattle.rina_tower.specs.Ranks.{height_of, now_of, rank_of, seen_of}
use Rattle.rina_tower.specs.Resting.{IsAtTick, WiresRestUntil}
use Rattle.rina_tower.specs.Stands.{IsTower}
use Rattle.rina_tower.proofs.Idling.{round_rests}
use Rattle.rina_tower.proofs.Rested.{at_again, height_at, is_with, now_at, rests_on, rests_sooner, seen_at, ticks_at, tower_at, tower_with, wires_of, wires_on, wires_sooner}
use Rattle.rina_words.specs.declared.run.Run.{Run}
use Rattle.rina_words.specs.Resting.{IdleTicksPass, RestsBy}
use Rattle.rina_words.specs.Step.{RoundsBy, Stage, Ticks, TicksOnce, stage}
use Rattle.rina_words.proofs.Leading.{ticks_on}

-- A state that was told is told no more

same : (n : ℕ) → n == n ≡ true
same n = (Decides-eqb n n).1 refl

num_same : (a : Num) → same_num a a ≡ true
num_same a = and_from (a.cep == a.cep) (a.seq == a.seq) (same a.cep) (same a.seq)

port_same : (a : Port) → same_port a a ≡ true
port_same a = and_from ((a.fac == a.fac) && (a.node == a.node)) (a.n == a.n) (and_from (a.fac == a.fac) (a.node == a.node) (same a.fac) (same a.node)) (same a.n)

why_same : (a : Why) → same_why a a ≡ true
why_same (whys.Denied a) = same a
why_same whys.NotHere = refl
why_same (whys.NoIds a) = same a
why_same (whys.Timeout a b) = and_from (a == a) (b == b) (same a) (same b)
why_same whys.Withdrawn = refl

fail_same : (a : Fail) → same_fail a a ≡ true
fail_same (fails.GaveUp a b c) = and_from (same_num a a && (b == b)) (c == c) (and_from (same_num a a) (b == b) (num_same a) (same b)) (same c)
fail_same (fails.Below a) = port_same a
fail_same (fails.Cut a) = same a

state_same : (a : PortState) → same_state a a ≡ true
state_same states.Pending = refl
state_same states.Allocated = refl
state_same (states.Refused a) = why_same a
state_same (states.Failed a) = fail_same a
state_same states.Closed = refl

drawn_same : (a : Option PortState) → same_drawn a a ≡ true
drawn_same None = refl
drawn_same (Some a) = state_same a

-- The states of ports at another tick

state_later : (now : ℕ) (s s' : Seen) (port : Port) → s' ≡ record s { now = now } → state_of s' port ≡ state_of s port
state_later now s s' port is = ap (λ (z : Seen). state_of z port) is

state_there : (now : ℕ) (t t' : Tower) → IsAtTick now t t' → (r : ℕ) (port : Port) → state_at t' r port ≡ state_at t r port
state_there now (Wires a) (Wires a') at r port = elim (r == 0) as (λ b. option_and_then (λ u. state_of (seen_of u) port) (cond b (Some (Wires a')) None) ≡ option_and_then (λ u. state_of (seen_of u) port) (cond b (Some (Wires a)) None)) [
  | true ↦ state_later now (seen_of (Wires a)) (seen_of (Wires a')) port (seen_at now (Wires a) (Wires a') at)
  | false ↦ refl
]
state_there now (Rank' p difs below) (Rank' p' difs' below') at r port =
    let Top : Bool → Type 0 = λ b. option_and_then (λ u. state_of (seen_of u) port) (cond b (Some (Rank' p' difs' below')) (rank_of below' r)) ≡ option_and_then (λ u. state_of (seen_of u) port) (cond b (Some (Rank' p difs below)) (rank_of below r)) in
    let same : (b : Bool) → Top b = λ b. elim b as Top [
      | true ↦ state_later now (seen_of (Rank' p difs below)) (seen_of (Rank' p' difs' below')) port (seen_at now (Rank' p difs below) (Rank' p' difs' below') at)
      | false ↦ state_there now below below' at.1 r port
    ] in
    ap (λ h. option_and_then (λ u. state_of (seen_of u) port) (cond (r == h + 1) (Some (Rank' p' difs' below')) (rank_of below' r))) (height_at now below below' at.1) ∙ same (r == height_of below + 1)
state_there now (Wires a) (Rank' p' difs' below') at r port = absurd at
state_there now (Rank' p difs below) (Wires a') at r port = absurd at

-- Labels that have told their states

looked_again : (now : ℕ) (t t' : Tower) → IsAtTick now t t' → (ls : List Label) → looked t' (looked t ls) ≡ looked t ls
looked_again now t t' at [] = refl
looked_again now t t' at (l ∷ ls) = ap (λ (o : Option PortState). record l { shown = o } ∷ looked t' (looked t ls)) (state_there now t t' at l.rank l.port) ∙ ap (λ (ms : List Label). shown_now t l ∷ ms) (looked_again now t t' at ls)

label_quiet : (plan : Plan) (line : ℕ) (t' : Tower) (l : Label) → state_at t' l.rank l.port ≡ l.shown → label_notes plan line t' l ≡ []
unfolding label_notes
label_quiet plan line t' l is =
    let told : same_drawn (state_at t' l.rank l.port) l.shown ≡ true = subst (λ (o : Option PortState). same_drawn (state_at t' l.rank l.port) o ≡ true) is (drawn_same (state_at t' l.rank l.port)) in
    ap (λ b. cond b [] (noted line (now_of t') (option_map (answers.Label l.name) (drawn_told plan l.rank (state_at t' l.rank l.port))))) told

none_told : (plan : Plan) (line now : ℕ) (t t' : Tower) → IsAtTick now t t' → (ls : List Label) → state_notes plan line t' (looked t ls) ≡ []
none_told plan line now t t' at [] = refl
none_told plan line now t t' at (l ∷ ls) = ap (λ (ns : List Note). ns ++ state_notes plan line t' (looked t ls)) (label_quiet plan line t' (shown_now t l) (state_there now t t' at l.rank l.port)) ∙ none_told plan line now t t' at ls

-- One tick

rests_less : (rounds : Rounds) (until until' : ℕ) (t : Tower) → until' ≤ until → RestsBy rounds until t → RestsBy rounds until' t
rests_less Auto until until' t le rest = rests_sooner until until' t le rest
rests_less Manual until until' t le rest = wires_sooner until until' t le rest

rests_then : (rounds : Rounds) (until now : ℕ) (t t' : Tower) → IsAtTick now t t' → RestsBy rounds until t → RestsBy rounds until t'
rests_then Auto until now t t' at rest = rests_on until now t t' at rest
rests_then Manual until now t t' at rest = wires_on until now t t' at rest

wires_by : (rounds : Rounds) (until : ℕ) (t : Tower) → RestsBy rounds until t → WiresRestUntil until t
wires_by Auto until t rest = wires_of until t rest
wires_by Manual until t rest = rest

round_by : (rounds : Rounds) (until : ℕ) (t : Tower) (slots : List Slot) → IsTower t → now_of t < until → RestsBy rounds until t → RoundsBy rounds slots t slots t
round_by Auto until t slots v before rest = round_rests until t v before rest slots
round_by Manual until t slots v before rest = (refl, refl)

-- the labels have told the states that they have at a tower
abbrev pub HaveTold : Tower → List Label → Type 0
HaveTold t ls = (before : List Label) × (ls ≡ looked t before)

once : (plan : Plan) (line : ℕ) (t t' : Tower) (labels : List Label) (slots : List Slot) → IsTower t → now_of t < 10000000 → RestsBy plan.rounds (now_of t + 2) t → IsAtTick (now_of t + 1) t t' → HaveTold t labels → TicksOnce plan line (stage (record { tower = t; labels = labels }) slots) [] (stage (record { tower = t'; labels = labels }) slots)
once plan line t t' labels slots v lt rest at told =
    let wires : WiresRestUntil (now_of t + 2) t = wires_by plan.rounds (now_of t + 2) t rest in
    let now : now_of t' ≡ now_of t + 1 = now_at (now_of t + 1) t t' at in
    let v' : IsTower t' = tower_at (now_of t + 1) t t' v (omega arith) (omega (arith, lt)) (subst (λ n. WiresRestUntil n t) (omega arith) wires) at in
    record {
      ticked = t';
      ticks = ticks_at t t' v lt wires at;
      rounds = round_by plan.rounds (now_of t + 2) t' slots v' (omega (arith, now)) (rests_then plan.rounds (now_of t + 2) (now_of t + 1) t t' at rest);
      labels = rw told.1 (sym (looked_again (now_of t + 1) t t' at told.0));
      notes = rw told.1 (sym (none_told plan line (now_of t + 1) t t' at told.0));
    }

told_later : (now : ℕ) (t t' : Tower) (labels : List Label) → IsAtTick now t t' → HaveTold t labels → HaveTold t' labels
told_later now t t' labels at told = (labels, told.1 ∙ sym (looked_again now t t' at told.0) ∙ ap (λ (ls : List Label). looked t' ls) (sym told.1))

-- So many

idle_ticks : (plan : Plan) (line count : ℕ) (t t' : Tower) (labels : List Label) (slots : List Slot) → IsTower t → now_of t + suc count ≤ 10000000 → RestsBy plan.rounds (now_of t + suc count + 1) t → IsAtTick (now_of t + suc count) t t' → HaveTold t labels → Ticks plan line (suc count) (stage (record { tower = t; labels = labels }) slots) [] (stage (record { tower = t'; labels = labels }) slots)
idle_ticks plan line zero t t' labels slots v le rest at told = (_, [], [], once plan line t t' labels slots v (omega (arith, le)) (rests_less plan.rounds (now_of t + 1 + 1) (now_of t + 2) t (omega arith) rest) at told, (refl, refl), refl)
idle_ticks plan line (suc count) t t' labels slots v le rest at told =
    let next : ℕ = now_of t + 1 in
    let mid : Tower = tower_with next t in
    let is : IsAtTick next t mid = is_with next t in
    let now : now_of mid ≡ next = now_at next t mid is in
    let last : next + suc count ≡ now_of t + suc (suc count) = omega arith in
    let wires = wires_sooner (now_of t + suc (suc count) + 1) (next + 1) t (omega arith) (wires_by plan.rounds (now_of t + suc (suc count) + 1) t rest) in
    let v' : IsTower mid = tower_at next t mid v (omega arith) (omega (arith, le)) wires is in
    let rest' : RestsBy plan.rounds (now_of mid + suc count + 1) mid = subst (λ n. RestsBy plan.rounds n mid) (omega (arith, now)) (rests_then plan.rounds (now_of t + suc (suc count) + 1) next t mid is rest) in
    let at' : IsAtTick (now_of mid + suc count) mid t' = subst (λ n. IsAtTick n mid t') (omega (arith, now)) (at_again next (now_of t + suc (suc count)) t mid t' is at) in
    (stage (record { tower = mid; labels = labels }) slots, [], [], once plan line t mid labels slots v (omega (arith, le)) (rests_less plan.rounds (now_of t + suc (suc count) + 1) (now_of t + 2) t (omega arith) rest) is told, idle_ticks plan line count mid t' labels slots v' (omega (arith, le, now)) rest' at' (told_later next t mid labels is told), refl)

pub passes_ticks : (plan : Plan) (line count : ℕ) (t t' : Tower) (labels : List Label) (slots : List Slot) → IsTower t → now_of t + count ≤ 10000000 → IdleTicksPass plan.rounds count t t' → HaveTold t labels → Ticks plan line count (stage (record { tower = t; labels = labels }) slots) [] (stage (record { tower = t'; labels = labels }) slots)
passes_ticks plan line zero t t' labels slots v le passes told = (refl, ap (λ (z : Tower). stage (record { tower = z; labels = labels }) slots) passes)
passes_ticks plan line (suc count) t t' labels slots v le passes told = idle_ticks plan line count t t' labels slots v le passes.0 passes.1 told

-- ticks one after the other
ticks_then : (plan : Plan) (line n m : ℕ) (a b c : Stage) (ns : List Note) → Ticks plan line n a ns b → Ticks plan line m b [] c → Ticks plan line (n + m) a ns c
ticks_then plan line zero m a b c ns first others =
    let all : m ≡ 0 + m = omega arith in
    subst (λ (k : ℕ). Ticks plan line k a ns c) all (rw first.0 (subst (λ (s : Stage). Ticks plan line m s [] c) first.1 others))
ticks_then plan line (suc n) m a b c ns (mid, told, rest, first, more, is) others =
    let all : suc (n + m) ≡ suc n + m = omega arith in
    subst (λ (k : ℕ). Ticks plan line k a ns c) all (mid, told, rest, first, ticks_then plan line n m mid b c rest more others, is)

-- some ticks, one more, and then those at which nothing happens
pub ticks_on_over : (plan : Plan) (line done more : ℕ) (slots : List Slot) (a u : Stage) (w : Run) (t' : Tower) (x y z : List Note) → Leads (λ ns. Ticks plan line done a ns u) x y → Leads (λ ns. TicksOnce plan line u ns (stage w slots)) y z → IsTower w.tower → now_of w.tower + more ≤ 10000000 → IdleTicksPass plan.rounds more w.tower t' → Leads (λ ns. Ticks plan line (done + 1 + more) a ns (stage (record w { tower = t' }) slots)) x z
ticks_on_over plan line done more slots a u w t' x y z p q v le passes =
    let one = ticks_on plan line done a u (stage w slots) x y z p q in
    record {
      notes = one.notes;
      trace = one.trace;
      holds = ticks_then plan line (done + 1) more a (stage w slots) (stage (record w { tower = t' }) slots) one.notes one.holds (passes_ticks plan line more w.tower t' w.labels slots v le passes (u.run.labels, q.holds.labels));
    }

pub passes_now : (rounds : Rounds) (count : ℕ) (t t' : Tower) → IdleTicksPass rounds count t t' → now_of t' ≡ now_of t + count
passes_now rounds zero t t' passes = ap now_of passes ∙ omega arith
passes_now rounds (suc count) t t' passes = now_at (now_of t + suc count) t t' passes.1

-- where none passes, nothing changes; else as many as there are before the tick until which it rests
pub passed : (rounds : Rounds) (now until count : ℕ) (t t' : Tower) → IsTower t → now ≡ now_of t → now_of t + count ≤ 10000000 → count ≤ until - (now + 1) → 0 < count → (now_of t < until → RestsBy rounds until t) → IsAtTick (now + count) t t' → IdleTicksPass rounds count t t'
passed rounds now until zero t t' v is le most lt rests at = absurd (omega (arith, lt))
passed rounds now until (suc count) t t' v is le most lt rests at = (rests_less rounds until (now_of t + suc count + 1) t (omega (arith, most, is)) (rests (omega (arith, most, is))), subst (λ n. IsAtTick (n + suc count) t t') is at)

-- the wires rest as long as is needed
pub wires_needed : (rounds : Rounds) (now until count : ℕ) (t : Tower) → now ≡ now_of t → count ≤ until - (now + 1) → 0 < count → (now_of t < until → RestsBy rounds until t) → WiresRestUntil (now + count + 1) t
wires_needed rounds now until count t is most lt rests = wires_sooner until (now + count + 1) t (omega (arith, most, lt)) (wires_by rounds until t (rests (omega (arith, most, lt, is))))
