-- The words that send, read and tick keep that labels tell the journals of their ends.
use Rattle.std.proofs.Common.{◌≡◌, ◌∙◌, ℕ, zero, suc, Bool, true, false, List, [], ◌∷◌, ◌++◌, map, Option, Some, None, option_and_then, option_map, Result, Ok, Err, refl, sym, ap, subst, append_assoc}
use Rattle.std.specs.List.{flat_map}
use Rattle.std.proofs.lemmas.List.{append-nil}
use Rattle.rina_base.specs.declared.number.Num.{Num}
use Rattle.rina_base.specs.declared.number.Port.{Port}
use Rattle.rina_law.specs.declared.entry.Entry.{Entry}
use Rattle.rina_iface.specs.declared.ends.End.{End}
use Rattle.rina_iface.specs.declared.error.SendError.{SendError}
use Rattle.rina_iface.specs.Seen.{unpassed}
use Rattle.rina_report.specs.declared.note.Note.{Note}
use Rattle.rina_report.specs.declared.note.Note.TheVariants as notes
use Rattle.rina_report.specs.declared.answer.Answer.{Answer}
use Rattle.rina_report.specs.declared.answer.Answer.TheVariants as answers
use Rattle.rina_report.specs.declared.refusal.Refusal.TheVariants as refusals
use Rattle.rina_schedule.specs.declared.event.Event.TheVariants as events
use Rattle.rina_stack.specs.declared.plan.Plan.{Plan}
use Rattle.rina_tower.specs.declared.applications.AppError.{AppError}
use Rattle.rina_tower.specs.declared.tower.Tower.{Tower}
use Rattle.rina_tower.specs.Applications.{AppSends, is_ipc_at}
use Rattle.rina_tower.specs.Ranks.{now_of, rank_of, seen_of}
use Rattle.rina_tower.specs.Stands.{IsTower}
use Rattle.rina_notes.specs.declared.label.Label.{Label}
use Rattle.rina_words.specs.declared.run.Run.{Run}
use Rattle.rina_notes.specs.Look.{noted, state_notes}
use Rattle.rina_notes.specs.Sites.{port_in}
use Rattle.rina_words.specs.Step.{AtPort, CallsSend, Passes, Reading, Stage, Ticking, Ticks, for_app, got_note, read_notes}
use Rattle.rina_notes.specs.Told.{answer_told, app_told, send_told}
use Rattle.rina_laws.specs.Labels.{event_by}
use Rattle.rina_laws.proofs.LabelKeeps.{Keeps, keeps_at, keeps_rest, keeps_same}
use Rattle.rina_laws.proofs.LabelNotes.{IsDumb, IsQuiet, IsTelling, after, after_quiet, quiet_append, quiet_as, quiet_dumb, quiet_one, quiet_refusal, quiet_states}
use Rattle.rina_laws.proofs.LabelSends.{WaitsHere, app_passes, app_send_refused, app_sends, app_sends_clock}
use Rattle.rina_laws.proofs.LabelWords.{Holds, holds_same, keeps_tick}

-- ---- send

sends_by : {X : Type 0} (lines : List (List ℕ)) (V : End → List X) (by : List ℕ → Note → List X) (sent got : Entry → List X) (told : List ℕ → List X) (plan : Plan) (number : ℕ) (label bytes : List ℕ) (p : ℕ × Port) (t t' : Tower) (ls : List Label) (r : Result Num (AppError SendError))
    → IsTelling lines V by sent got → event_by lines number ≡ Some (events.Send label bytes) → IsTower t → port_in ls label ≡ Some p → AppSends p.0 p.1 bytes r t t' → Keeps V told t ls
    → Keeps V (after by told (noted number (now_of t') (answer_told (λ num. Some (answers.Sent num)) (app_told (send_told plan p.0)) r))) t' ls
sends_by lines V by sent got told plan number label bytes p t t' ls (Ok num) tell is v found does k =
    let clock : now_of t' ≡ now_of t = app_sends_clock p.0 p.1 bytes num t t' does in
    let mv = app_sends V (sent (record { tick = now_of t; num = num; bytes = bytes })) p.0 p.1 bytes num t t' v k.ports tell.view (λ e plain. tell.sent_view e (record { tick = now_of t; num = num; bytes = bytes }) plain) does in
    keeps_at V told (λ name. by name (notes.Line number (now_of t') (answers.Sent num)) ++ []) label p (sent (record { tick = now_of t; num = num; bytes = bytes })) t t' ls found mv
    (λ other same. append-nil (by other (notes.Line number (now_of t') (answers.Sent num))) ∙ subst (λ n. by n (notes.Line number (now_of t') (answers.Sent num)) ≡ sent (record { tick = now_of t; num = num; bytes = bytes })) same (rw clock (tell.sent_same number label bytes is (now_of t) num)))
    (λ other ne. append-nil (by other (notes.Line number (now_of t') (answers.Sent num))) ∙ tell.sent_other number label bytes is other ne (now_of t') num)
    k
sends_by lines V by sent got told plan number label bytes p t t' ls (Err e) tell is v found does k =
    after_quiet V by told (noted number (now_of t') (option_map answers.Refused (app_told (send_told plan p.0) e))) t' ls (quiet_refusal by number (now_of t') (app_told (send_told plan p.0) e) (λ name why. tell.refused name number (now_of t') why)) (keeps_rest V told t t' ls tell.view (app_send_refused p.0 p.1 bytes e t t' v does) k)

pub send_at : {X : Type 0} (lines : List (List ℕ)) (V : End → List X) (by : List ℕ → Note → List X) (sent got : Entry → List X) (told : List ℕ → List X) (plan : Plan) (number : ℕ) (label bytes : List ℕ) (w : Run) (found : Option (ℕ × Port)) (says : Option Answer) (w' : Run)
    → IsTelling lines V by sent got → event_by lines number ≡ Some (events.Send label bytes) → IsTower w.tower → port_in w.labels label ≡ found → AtPort found (CallsSend plan bytes w) w says w' → Holds V told w → Holds V (after by told (noted number (now_of w'.tower) says)) w'
send_at lines V by sent got told plan number label bytes w None says w' t is v found c k =
    subst (λ s. Holds V (after by told (noted number (now_of w'.tower) s)) w') (sym c.said) (after_quiet V by told (noted number (now_of w'.tower) (Some (answers.Refused (refusals.Unknown 1)))) w'.tower w'.labels (quiet_one by number (now_of w'.tower) (answers.Refused (refusals.Unknown 1)) (λ name. t.refused name number (now_of w'.tower) (refusals.Unknown 1))) (holds_same V told w w' c.run k))
send_at lines V by sent got told plan number label bytes w (Some p) says w' t is v found c k =
    let kept = sends_by lines V by sent got told plan number label bytes p w.tower w'.tower w.labels c.result t is v found c.does k in
    subst (λ s. Holds V (after by told (noted number (now_of w'.tower) s)) w') (sym c.told) (subst (Keeps V (after by told (noted number (now_of w'.tower) (answer_told (λ num. Some (answers.Sent num)) (app_told (send_told plan p.0)) c.result))) w'.tower) (sym c.labels) kept)

-- ---- read

for_some : (ipc : Bool) (oldest : Option Entry) (x : Entry) → for_app ipc oldest ≡ Some x → (ipc ≡ false) × (oldest ≡ Some x)
for_some true oldest x h = (let clash : None ≡ Some x = h in cc)
for_some false oldest x h = (refl, h)

waits_at : (t : Tower) (r : ℕ) (port : Port) (x : Entry) (o : Option Tower) → rank_of t r ≡ o → option_and_then (λ (u : Tower). for_app (is_ipc_at (seen_of u) port) (unpassed (seen_of u) port)) o ≡ Some x → WaitsHere t r port x
waits_at t r port x None is h = cc
waits_at t r port x (Some u) is h = (let w = for_some (is_ipc_at (seen_of u) port) (unpassed (seen_of u) port) x h in record { rank = u; is_rank = is; plain = w.0; oldest = w.1 })

passes_keep : {X : Type 0} (lines : List (List ℕ)) (V : End → List X) (by : List ℕ → Note → List X) (sent got : Entry → List X) (told : List ℕ → List X) (number tick : ℕ) (label : List ℕ) (p : ℕ × Port) (ls : List Label) (t : Tower) (xs : List Entry) (t' : Tower)
    → IsTelling lines V by sent got → event_by lines number ≡ Some (events.Read label) → port_in ls label ≡ Some p → Passes p.0 p.1 t xs t' → Keeps V told t ls → Keeps V (after by told (map (got_note number tick) xs)) t' ls
passes_keep lines V by sent got told number tick label p ls t [] t' tell is found d k = after_quiet V by told [] t' ls (λ name. refl) (subst (λ (u : Tower). Keeps V told u ls) (sym d) k)
passes_keep {X = X} lines V by sent got told number tick label p ls t (x ∷ xs) t' tell is found (mid, oldest, one, more) k =
    let waits = waits_at t p.0 p.1 x (rank_of t p.0) refl oldest in
    let mv = app_passes V (got x) p.0 p.1 x t mid k.ports tell.view (λ e plain h. tell.got_view e x plain h) waits one in
    let first = keeps_at V told (λ name. by name (got_note number tick x)) label p (got x) t mid ls found mv
    (λ other same. subst (λ n. by n (got_note number tick x) ≡ got x) same (tell.got_same number label is tick x))
    (λ other ne. tell.got_other number label is other ne tick x)
    k in
    let told' : List ℕ → List X = λ name. told name ++ by name (got_note number tick x) in
    let all = passes_keep lines V by sent got (λ name. told name ++ by name (got_note number tick x)) number tick label p ls mid xs t' tell is found more first in
    keeps_same V (after by told' (map (got_note number tick) xs)) (after by told (map (got_note number tick) (x ∷ xs))) t' ls (λ name. sym (append_assoc (told name) (by name (got_note number tick x)) (flat_map (by name) (map (got_note number tick) xs)))) all

-- the notes of a read are those of its entries, or say that there is nothing
read_is : {X : Type 0} (by : List ℕ → Note → List X) (number tick : ℕ) (xs : List Entry) → ((name : List ℕ) → by name (notes.Line number tick answers.Nothing) ≡ []) → (name : List ℕ) → flat_map (by name) (read_notes number tick xs) ≡ flat_map (by name) (map (got_note number tick) xs)
read_is by number tick [] h name = ap (λ ys. ys ++ []) (h name)
read_is by number tick (x ∷ xs) h name = refl

pub read_at : {X : Type 0} (lines : List (List ℕ)) (V : End → List X) (by : List ℕ → Note → List X) (sent got : Entry → List X) (told : List ℕ → List X) (number : ℕ) (label : List ℕ) (w : Run) (found : Option (ℕ × Port)) (ns : List Note) (w' : Run)
    → IsTelling lines V by sent got → event_by lines number ≡ Some (events.Read label) → port_in w.labels label ≡ found → Reading number found w ns w' → Holds V told w → Holds V (after by told ns) w'
read_at lines V by sent got told number label w None ns w' t is found c k = after_quiet V by told ns w'.tower w'.labels (quiet_as by ns (noted number (now_of w.tower) (Some (answers.Refused (refusals.Unknown 1)))) c.0 (quiet_one by number (now_of w.tower) (answers.Refused (refusals.Unknown 1)) (λ name. t.refused name number (now_of w.tower) (refusals.Unknown 1)))) (holds_same V told w w' c.1 k)
read_at lines V by sent got told number label w (Some p) ns w' t is found c k =
    let kept = passes_keep lines V by sent got told number (now_of w.tower) label p w.labels w.tower c.entries w'.tower t is found c.passes k in
    let kept' = subst (Keeps V (after by told (map (got_note number (now_of w.tower)) c.entries)) w'.tower) (sym c.labels) kept in
    keeps_same V (after by told (map (got_note number (now_of w.tower)) c.entries)) (after by told ns) w'.tower w'.labels (λ name. ap (λ ys. told name ++ ys) (ap (flat_map (by name)) c.notes ∙ read_is by number (now_of w.tower) c.entries (λ n. t.nothing n number (now_of w.tower)) name)) kept'

-- ---- tick

ticks_keep : {X : Type 0} (lines : List (List ℕ)) (V : End → List X) (by : List ℕ → Note → List X) (sent got : Entry → List X) (told : List ℕ → List X) (plan : Plan) (number count : ℕ) (s : Stage) (ns : List Note) (s' : Stage)
    → IsTelling lines V by sent got → Ticks plan number count s ns s' → Holds V told s.run → Holds V told s'.run × IsQuiet by ns
ticks_keep lines V by sent got told plan number zero s ns s' t p k = (holds_same V told s.run s'.run (ap (λ (x : Stage). x.run) p.1) k, λ name. ap (flat_map (by name)) p.0)
ticks_keep lines V by sent got told plan number (suc count) s ns s' t (mid, first, rest, once, more, is) k =
    let next = ticks_keep lines V by sent got told plan number count mid rest s' t more (keeps_tick V told plan number s first mid t.view once k) in
    let quiet : IsQuiet by first = quiet_as by first (state_notes plan number mid.run.tower s.run.labels) once.notes (quiet_states by plan number mid.run.tower s.run.labels (λ n label st. t.state n number (now_of mid.run.tower) label st)) in
    (next.0, quiet_as by ns (first ++ rest) is (quiet_append by first rest quiet next.1))

pub ticking_keep : {X : Type 0} (lines : List (List ℕ)) (V : End → List X) (by : List ℕ → Note → List X) (sent got : Entry → List X) (told : List ℕ → List X) (plan : Plan) (number count : ℕ) (s : Stage) (spent : Bool) (ns : List Note) (s' : Stage)
    → IsTelling lines V by sent got → IsDumb by number → Ticking spent plan number count s ns s' → Holds V told s.run → Holds V (after by told ns) s'.run
ticking_keep lines V by sent got told plan number count s true ns s' t dumb p k =
    after_quiet V by told ns s'.run.tower s'.run.labels (quiet_as by ns (noted number (now_of s.run.tower) (Some (answers.Refused refusals.ClockSpent))) p.0 (quiet_dumb by number (now_of s.run.tower) (Some (answers.Refused refusals.ClockSpent)) dumb)) (holds_same V told s.run s'.run (ap (λ (x : Stage). x.run) p.1) k)
ticking_keep lines V by sent got told plan number count s false ns s' t dumb p k =
    let r = ticks_keep lines V by sent got told plan number count s p.told s' t p.ticks k in
    after_quiet V by told ns s'.run.tower s'.run.labels (quiet_as by ns (p.told ++ noted number (now_of s'.run.tower) (Some answers.Done)) p.notes (quiet_append by p.told (noted number (now_of s'.run.tower) (Some answers.Done)) r.1 (quiet_dumb by number (now_of s'.run.tower) (Some answers.Done) dumb))) r.0
