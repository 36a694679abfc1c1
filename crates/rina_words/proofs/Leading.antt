-- Traces that go on.
use Rattle.std.proofs.Common.{◌≡◌, ℕ, zero, suc, ◌+◌, List, [], ◌++◌, Result, Ok, Err, OnOk, Option, Some, None, option_map, Bor, refl, sym, ap, ◌∙◌, append_assoc, add-one}
use Rattle.std.proofs.lemmas.List.{append-nil}
use Rattle.std.specs.Prelude.{MatchOption}
use Rattle.rina_account.specs.declared.ledger.Off.{Off}
use Rattle.rina_base.specs.declared.memory.Memory.{Memory}
use Rattle.rina_policy.specs.Slots.{Slot}
use Rattle.rina_report.specs.declared.note.Note.{Note}
use Rattle.rina_report.specs.declared.answer.Answer.{Answer}
use Rattle.rina_schedule.specs.declared.event.Event.{Event}
use Rattle.rina_schedule.specs.declared.event.Event.TheVariants as events
use Rattle.rina_stack.specs.declared.plan.Plan.{Plan}
use Rattle.rina_words.specs.declared.run.Run.{Run}
use Rattle.rina_tower.specs.declared.tower.Tower.{Tower}
use Rattle.rina_tower.specs.Ledgers.{IsLedgerAt, member_at}
use Rattle.rina_tower.specs.Ranks.{now_of}
use Rattle.rina_notes.specs.declared.site.Site.{Site}
use Rattle.rina_notes.specs.Look.{Leads, Extends, noted}
use Rattle.rina_words.specs.Step.{Accounting, Acts, Answering, AreOffs, Says, SaysBeside, ShowsLedger, Stage, Ticks, TicksOnce, ledger_notes, stage}

-- a trace that went on twice went on
pub extends_on : (a b c : List Note) → Extends a b → Extends b c → Extends a c
extends_on a b c p q = record { notes = p.notes ++ q.notes; trace = q.trace ∙ ap (λ (ns : List Note). ns ++ q.notes) p.trace ∙ append_assoc a p.notes q.notes }

pub extends_leads : (P : List Note → Type 0) (a b c : List Note) → Leads P a b → Extends b c → Extends a c
extends_leads P a b c p q = extends_on a b c (record { notes = p.notes; trace = p.trace }) q

pub extends_same : (a b : List Note) → b ≡ a → Extends a b
extends_same a b same = record { notes = []; trace = same ∙ sym (append-nil a) }

-- what went on with notes of one kind, and then of another
pub leads_on : (P Q R : List Note → Type 0) (a b c : List Note) → Leads P a b → Leads Q b c → ((ms ns : List Note) → P ms → Q ns → R (ms ++ ns)) → Leads R a c
leads_on P Q R a b c p q join = record {
  notes = p.notes ++ q.notes;
  trace = q.trace ∙ ap (λ (ns : List Note). ns ++ q.notes) p.trace ∙ append_assoc a p.notes q.notes;
  holds = join p.notes q.notes p.holds q.holds;
}

ticks_more : (plan : Plan) (line : ℕ) (count : ℕ) (w u v : Stage) (ns more : List Note) → Ticks plan line count w ns u → TicksOnce plan line u more v → Ticks plan line (suc count) w (ns ++ more) v
ticks_more plan line zero w u v ns more p q =
    let once : TicksOnce plan line w more v = rw (sym p.1) q in
    (v, more, [], once, (refl, refl), ap (λ (ms : List Note). ms ++ more) p.0 ∙ sym (append-nil more))
ticks_more plan line (suc count) w u v ns more (mid, first, rest, once, others, is) q =
    (mid, first, rest ++ more, once, ticks_more plan line count mid u v rest more others q, ap (λ (ms : List Note). ms ++ more) is ∙ append_assoc first rest more)

-- no tick yet
pub ticks_none : (plan : Plan) (line : ℕ) (w : Stage) (a : List Note) → Leads (λ ns. Ticks plan line 0 w ns w) a a
ticks_none plan line w a = record { notes = []; trace = sym (append-nil a); holds = (refl, refl) }

-- one more tick
pub ticks_on : (plan : Plan) (line count : ℕ) (w u v : Stage) (a b c : List Note) → Leads (λ ns. Ticks plan line count w ns u) a b → Leads (λ ns. TicksOnce plan line u ns v) b c → Leads (λ ns. Ticks plan line (count + 1) w ns v) a c
ticks_on plan line count w u v a b c p q = rw (add-one count) (leads_on (λ ns. Ticks plan line count w ns u) (λ ns. TicksOnce plan line u ns v) (λ ns. Ticks plan line (suc count) w ns v) a b c p q (λ ms ns h g. ticks_more plan line count w u v ms ns h g))

-- a word that says one thing, after its note was added
pub told_leads : (Does : Option Answer → Run → Type 0) (line : ℕ) (says : Option Answer) (w' : Run) (a b : List Note) (tick : ℕ) (r : Result (Unit {0}) Memory) → Does says w' → tick ≡ now_of w'.tower → OnOk r (b ≡ a ++ noted line tick says) → OnOk r (Leads (λ ns. Says line Does ns w') a b)
told_leads Does line says w' a b tick (Ok done) does at told = record { notes = noted line tick says; trace = told; holds = record { says = says; does = does; notes = ap (λ (n : ℕ). noted line n says) at } }
told_leads Does line says w' a b tick (Err e) does at told = tt

-- a word that says one thing leaves the shelf as it was
acts_once : (plan : Plan) (line : ℕ) (event : Event) (shelf : List Slot) (w : Run) (ns : List Note) (w' : Run) → Says line (Answering plan event w) ns w' → Acts plan line event (stage w shelf) ns (stage w' shelf)
acts_once plan line (events.Read label) shelf w ns w' h = absurd h.does
acts_once plan line (events.Tick count) shelf w ns w' h = absurd h.does
acts_once plan line (events.Journal fac) shelf w ns w' h = absurd h.does
acts_once plan line (events.Ledger dif node) shelf w ns w' h = absurd h.does
acts_once plan line (events.Rib dif node path) shelf w ns w' h = absurd h.does
acts_once plan line (events.Out dif node link) shelf w ns w' h = absurd h.does
acts_once plan line events.Round shelf w ns w' h = absurd h.does
acts_once plan line (events.Retire policy) shelf w ns w' h = absurd h.does
acts_once plan line event shelf w ns w' h = (h, refl)

pub acts_leads : (plan : Plan) (line : ℕ) (event : Event) (shelf : List Slot) (w w' : Run) (a b : List Note) (r : Result (Unit {0}) Memory) → OnOk r (Leads (λ ns. Says line (Answering plan event w) ns w') a b) → OnOk r (Leads (λ ns. Acts plan line event (stage w shelf) ns (stage w' shelf)) a b)
acts_leads plan line event shelf w w' a b (Ok done) p = record { notes = p.notes; trace = p.trace; holds = acts_once plan line event shelf w p.notes w' p.holds }
acts_leads plan line event shelf w w' a b (Err e) p = tt

pub on_ok : (P : Type 0) (r : Result (Unit {0}) Memory) → P → OnOk r P
on_ok P (Ok done) p = p
on_ok P (Err e) p = tt

-- the ledger of a member, if it is there
pub are_offs : (t : Tower) (site : Site) (o : Option (Bor (List Off))) → MatchOption o (member_at t site.rank site.fac site.node ≡ None) (λ s. IsLedgerAt t site.rank site.fac site.node s.now) → AreOffs t site (option_map (λ (s : Bor (List Off)). s.now) o)
are_offs t site None h = h
are_offs t site (Some s) h = h

-- the ledger was told
pub accounting_from : (plan : Plan) (line tick : ℕ) (w : Run) (site : Site) (found : Result Site ℕ) (offs : Option (List Off)) (a b : List Note) (r : Result (Unit {0}) Memory) → found ≡ Ok site → AreOffs w.tower site offs → tick ≡ now_of w.tower → OnOk r (b ≡ a ++ ledger_notes plan site.rank line tick offs) → OnOk r (Leads (λ ns. Accounting plan line found w ns w) a b)
accounting_from plan line tick w site found offs a b (Err e) at are clock told = tt
accounting_from plan line tick w site found offs a b (Ok done) at are clock told =
    let shows : ShowsLedger plan line w site (ledger_notes plan site.rank line tick offs) w = record { offs = offs; are = are; run = refl; notes = ap (λ (n : ℕ). ledger_notes plan site.rank line n offs) clock } in
    record { notes = ledger_notes plan site.rank line tick offs; trace = told; holds = rw at shows }

-- a word beside the shelf that says one thing, after its note was added
pub said_beside : (Does : Option Answer → Stage → Type 0) (line : ℕ) (says : Option Answer) (s' : Stage) (a b : List Note) (tick : ℕ) (r : Result (Unit {0}) Memory) → Does says s' → tick ≡ now_of s'.run.tower → OnOk r (b ≡ a ++ noted line tick says) → OnOk r (Leads (λ ns. SaysBeside line Does ns s') a b)
said_beside Does line says s' a b tick (Ok done) does at told = record { notes = noted line tick says; trace = told; holds = record { says = says; does = does; notes = ap (λ (n : ℕ). noted line n says) at } }
said_beside Does line says s' a b tick (Err e) does at told = tt
