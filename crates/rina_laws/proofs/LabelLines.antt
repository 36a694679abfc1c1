-- Lines keep that labels tell the journals of their ends, and so does a run.
use Rattle.std.proofs.Common.{arith, ◌≡◌, ◌∙◌, ℕ, ◌+◌, ◌-◌, nat_lt, List, [], ◌∷◌, ◌++◌, length, length-append, slice_get, Option, Some, None, Result, Ok, Err, refl, sym, ap, subst, append_assoc}
use Rattle.std.specs.List.{flat_map}
use Rattle.std.proofs.lemmas.List.{append-nil}
use Rattle.std.proofs.lemmas.List.Concat.{flat_map-append}
use Rattle.rina_law.specs.declared.entry.Entry.{Entry}
use Rattle.rina_iface.specs.declared.ends.End.{End}
use Rattle.rina_policy.specs.Slots.{count_of}
use Rattle.rina_report.specs.declared.note.Note.{Note}
use Rattle.rina_report.specs.declared.answer.Answer.{Answer}
use Rattle.rina_report.specs.declared.answer.Answer.TheVariants as answers
use Rattle.rina_report.specs.declared.refusal.Refusal.TheVariants as refusals
use Rattle.rina_schedule.specs.declared.error.LineError.{LineError}
use Rattle.rina_schedule.specs.declared.event.Event.{Event}
use Rattle.rina_schedule.specs.declared.event.Event.TheVariants as events
use Rattle.rina_stack.specs.declared.plan.Plan.{Plan}
use Rattle.rina_stack.specs.Names.{place_in}
use Rattle.rina_tower.specs.Ranks.{now_of}
use Rattle.rina_tower.specs.Stands.{IsTower}
use Rattle.rina_notes.specs.declared.facility.RankedFac.{RankedFac}
use Rattle.rina_notes.specs.declared.site.Site.{Site}
use Rattle.rina_words.specs.declared.run.Run.{Run}
use Rattle.rina_schedule.specs.Line.{line_at}
use Rattle.rina_notes.specs.Look.{ends_at, noted, state_notes}
use Rattle.rina_run.specs.Run.{LineDoes, Runs}
use Rattle.rina_notes.specs.Sites.{dif_site_at, fac_named, port_in, site_at}
use Rattle.rina_words.specs.Step.{Accounting, Acts, ActsOnRun, Showing, ShowingRib, Stage, Steps, journal_notes, ledger_notes, number_below, retire_answer, rib_notes, rounds_after, wire_of}
use Rattle.rina_laws.specs.Labels.{event_by}
use Rattle.rina_laws.proofs.LabelKeeps.{keeps_looked, keeps_same}
use Rattle.rina_laws.proofs.LabelNotes.{IsDumb, IsQuiet, IsTelling, after, after_quiet, quiet_as, quiet_dumb, quiet_journal, quiet_ledger, quiet_rib, quiet_states}
use Rattle.rina_laws.proofs.LabelReads.{read_at, send_at, ticking_keep}
use Rattle.rina_laws.proofs.LabelWords.{Holds, holds_same, keeps_accept, keeps_allocate, keeps_cdap, keeps_clock, keeps_cut, keeps_enrol, keeps_free, keeps_hold, keeps_in, keeps_lose, keeps_member, keeps_mend, keeps_once, keeps_out, keeps_publish, keeps_register, keeps_repeat, keeps_rounds, keeps_state, keeps_unregister}

-- a word that is none of these tells nothing
quiet_says : {X : Type 0} (V : End → List X) (by : List ℕ → Note → List X) (told : List ℕ → List X) (number : ℕ) (says : Option Answer) (ns : List Note) (w : Run) → IsDumb by number → ns ≡ noted number (now_of w.tower) says → Holds V told w → Holds V (after by told ns) w
quiet_says V by told number says ns w dumb is k = after_quiet V by told ns w.tower w.labels (quiet_as by ns (noted number (now_of w.tower) says) is (quiet_dumb by number (now_of w.tower) says dumb)) k

showing_keep : {X : Type 0} (V : End → List X) (by : List ℕ → Note → List X) (told : List ℕ → List X) (plan : Plan) (number : ℕ) (found : Option RankedFac) (w : Run) (ns : List Note) (w' : Run) → IsDumb by number → Showing plan number found w ns w' → Holds V told w → Holds V (after by told ns) w'
showing_keep V by told plan number None w ns w' dumb d k = after_quiet V by told ns w'.tower w'.labels (quiet_as by ns (noted number (now_of w.tower) (Some (answers.Refused (refusals.Unknown 1)))) d.0 (quiet_dumb by number (now_of w.tower) (Some (answers.Refused (refusals.Unknown 1))) dumb)) (holds_same V told w w' d.1 k)
showing_keep V by told plan number (Some f) w ns w' dumb d k = after_quiet V by told ns w'.tower w'.labels (quiet_as by ns (journal_notes plan f.rank number (now_of w.tower) (ends_at w.tower f.rank f.fac)) d.notes (quiet_journal by plan f.rank number (now_of w.tower) (ends_at w.tower f.rank f.fac) dumb)) (holds_same V told w w' d.run k)

accounting_keep : {X : Type 0} (V : End → List X) (by : List ℕ → Note → List X) (told : List ℕ → List X) (plan : Plan) (number : ℕ) (found : Result Site ℕ) (w : Run) (ns : List Note) (w' : Run) → IsDumb by number → Accounting plan number found w ns w' → Holds V told w → Holds V (after by told ns) w'
accounting_keep V by told plan number (Err field) w ns w' dumb d k = after_quiet V by told ns w'.tower w'.labels (quiet_as by ns (noted number (now_of w.tower) (Some (answers.Refused (refusals.Unknown field)))) d.0 (quiet_dumb by number (now_of w.tower) (Some (answers.Refused (refusals.Unknown field))) dumb)) (holds_same V told w w' d.1 k)
accounting_keep V by told plan number (Ok site) w ns w' dumb d k = after_quiet V by told ns w'.tower w'.labels (quiet_as by ns (ledger_notes plan site.rank number (now_of w.tower) d.offs) d.notes (quiet_ledger by plan site.rank number (now_of w.tower) d.offs dumb)) (holds_same V told w w' d.run k)

rib_keep : {X : Type 0} (V : End → List X) (by : List ℕ → Note → List X) (told : List ℕ → List X) (number : ℕ) (path : Option (List ℕ)) (found : Result Site ℕ) (w : Run) (ns : List Note) (w' : Run) → IsDumb by number → ShowingRib number path found w ns w' → Holds V told w → Holds V (after by told ns) w'
rib_keep V by told number path (Err field) w ns w' dumb d k = after_quiet V by told ns w'.tower w'.labels (quiet_as by ns (noted number (now_of w.tower) (Some (answers.Refused (refusals.Unknown field)))) d.0 (quiet_dumb by number (now_of w.tower) (Some (answers.Refused (refusals.Unknown field))) dumb)) (holds_same V told w w' d.1 k)
rib_keep V by told number path (Ok site) w ns w' dumb d k = after_quiet V by told ns w'.tower w'.labels (quiet_as by ns (rib_notes number (now_of w.tower) d.found) d.notes (quiet_rib by number (now_of w.tower) d.found dumb)) (holds_same V told w w' d.run k)

words_keep : {X : Type 0} (lines : List (List ℕ)) (V : End → List X) (by : List ℕ → Note → List X) (sent got : Entry → List X) (told : List ℕ → List X) (plan : Plan) (number : ℕ) (event : Event) (w : Run) (ns : List Note) (w' : Run)
    → IsTelling lines V by sent got → event_by lines number ≡ Some event → IsTower w.tower → ActsOnRun plan number event w ns w' → Holds V told w → Holds V (after by told ns) w'
words_keep lines V by sent got told plan number (events.Register fac node app) w ns w' t is v a k = quiet_says V by told number a.says ns w' (t.others number (events.Register fac node app) is tt) a.notes (keeps_register V told app w (site_at plan 1 fac node) a.says w' t.view v a.does k)
words_keep lines V by sent got told plan number (events.Alloc label fac node app to want) w ns w' t is v a k = quiet_says V by told number a.says ns w' (t.others number (events.Alloc label fac node app to want) is tt) a.notes (keeps_allocate V told plan label fac node app to want w (site_at plan 2 fac node) a.says w' t.view v a.does k)
words_keep lines V by sent got told plan number (events.Accept label fac node app) w ns w' t is v a k = quiet_says V by told number a.says ns w' (t.others number (events.Accept label fac node app) is tt) a.notes (keeps_accept V told plan label app w (site_at plan 2 fac node) a.says w' t.view v a.does k)
words_keep lines V by sent got told plan number (events.Send label bytes) w ns w' t is v a k = subst (λ ms. Holds V (after by told ms) w') (sym a.notes) (send_at lines V by sent got told plan number label bytes w (port_in w.labels label) a.says w' t is v refl a.does k)
words_keep lines V by sent got told plan number (events.Read label) w ns w' t is v a k = read_at lines V by sent got told number label w (port_in w.labels label) ns w' t is refl a k
words_keep lines V by sent got told plan number (events.Lose wire frame) w ns w' t is v a k = quiet_says V by told number a.says ns w' (t.others number (events.Lose wire frame) is tt) a.notes (keeps_lose V told frame w (wire_of plan wire) a.says w' t.view a.does k)
words_keep lines V by sent got told plan number (events.Repeat wire frame at) w ns w' t is v a k = quiet_says V by told number a.says ns w' (t.others number (events.Repeat wire frame at) is tt) a.notes (keeps_repeat V told frame at w (wire_of plan wire) a.says w' t.view a.does k)
words_keep lines V by sent got told plan number (events.Hold wire frame at) w ns w' t is v a k = quiet_says V by told number a.says ns w' (t.others number (events.Hold wire frame at) is tt) a.notes (keeps_hold V told frame at w (wire_of plan wire) a.says w' t.view a.does k)
words_keep lines V by sent got told plan number (events.Cut wire) w ns w' t is v a k = quiet_says V by told number a.says ns w' (t.others number (events.Cut wire) is tt) a.notes (keeps_cut V told w (wire_of plan wire) a.says w' t.view a.does k)
words_keep lines V by sent got told plan number (events.Mend wire) w ns w' t is v a k = quiet_says V by told number a.says ns w' (t.others number (events.Mend wire) is tt) a.notes (keeps_mend V told w (wire_of plan wire) a.says w' t.view a.does k)
words_keep lines V by sent got told plan number (events.Unregister fac node app) w ns w' t is v a k = quiet_says V by told number a.says ns w' (t.others number (events.Unregister fac node app) is tt) a.notes (keeps_unregister V told app w (site_at plan 1 fac node) a.says w' t.view v a.does k)
words_keep lines V by sent got told plan number (events.Free label) w ns w' t is v a k = quiet_says V by told number a.says ns w' (t.others number (events.Free label) is tt) a.notes (keeps_free V told w (port_in w.labels label) a.says w' t.view v a.does k)
words_keep lines V by sent got told plan number (events.State label) w ns w' t is v a k = quiet_says V by told number a.says ns w' (t.others number (events.State label) is tt) a.notes (keeps_state V told plan w (port_in w.labels label) a.says w' a.does k)
words_keep lines V by sent got told plan number (events.In dif node link) w ns w' t is v a k = quiet_says V by told number a.says ns w' (t.others number (events.In dif node link) is tt) a.notes (keeps_in V told plan link w (dif_site_at plan dif node) a.says w' t.view a.does k)
words_keep lines V by sent got told plan number (events.Clock dif node) w ns w' t is v a k = quiet_says V by told number a.says ns w' (t.others number (events.Clock dif node) is tt) a.notes (keeps_clock V told plan w (dif_site_at plan dif node) a.says w' t.view a.does k)
words_keep lines V by sent got told plan number (events.Journal fac) w ns w' t is v a k = showing_keep V by told plan number (fac_named plan fac) w ns w' (t.others number (events.Journal fac) is tt) a k
words_keep lines V by sent got told plan number (events.Ledger dif node) w ns w' t is v a k = accounting_keep V by told plan number (dif_site_at plan dif node) w ns w' (t.others number (events.Ledger dif node) is tt) a k
words_keep lines V by sent got told plan number (events.Cdap dif node bytes) w ns w' t is v a k = quiet_says V by told number a.says ns w' (t.others number (events.Cdap dif node bytes) is tt) a.notes (keeps_cdap V told bytes w (dif_site_at plan dif node) a.says w' t.view a.does k)
words_keep lines V by sent got told plan number (events.Rib dif node path) w ns w' t is v a k = rib_keep V by told number path (dif_site_at plan dif node) w ns w' (t.others number (events.Rib dif node path) is tt) a k
words_keep lines V by sent got told plan number (events.Publish dif node fac) w ns w' t is v a k =
    quiet_says V by told number a.says ns w' (t.others number (events.Publish dif node fac) is tt) a.notes (keeps_publish V told (λ (site : Site). number_below site.rank (fac_named plan fac)) w (dif_site_at plan dif node) a.says w' t.view v a.does k)
words_keep lines V by sent got told plan number (events.Enrol dif node fac peer) w ns w' t is v a k =
    let kept = keeps_enrol V told fac node (λ (site : Site). number_below site.rank (fac_named plan fac)) (place_in plan.nodes peer) w (dif_site_at plan dif node) a.says w' t.view v a.does k in
    quiet_says V by told number a.says ns w' (t.others number (events.Enrol dif node fac peer) is tt) a.notes kept
words_keep lines V by sent got told plan number (events.Member dif node) w ns w' t is v a k = quiet_says V by told number a.says ns w' (t.others number (events.Member dif node) is tt) a.notes (keeps_member V told w (dif_site_at plan dif node) a.says w' a.does k)
words_keep lines V by sent got told plan number event w ns w' t is v a k = absurd a.does

acts_keep : {X : Type 0} (lines : List (List ℕ)) (V : End → List X) (by : List ℕ → Note → List X) (sent got : Entry → List X) (told : List ℕ → List X) (plan : Plan) (number : ℕ) (event : Event) (s : Stage) (ns : List Note) (s' : Stage)
    → IsTelling lines V by sent got → event_by lines number ≡ Some event → IsTower s.run.tower → Acts plan number event s ns s' → Holds V told s.run → Holds V (after by told ns) s'.run
acts_keep lines V by sent got told plan number (events.Retire policy) s ns s' t is v a k =
    holds_same V (after by told ns) s.run s'.run a.run (quiet_says V by told number (retire_answer (count_of policy s.shelf)) ns s.run (t.others number (events.Retire policy) is tt) a.notes k)
acts_keep lines V by sent got told plan number (events.Tick count) s ns s' t is v a k = ticking_keep lines V by sent got told plan number count s (nat_lt 10000000 (now_of s.run.tower + count)) ns s' t (t.others number (events.Tick count) is tt) a k
acts_keep lines V by sent got told plan number (events.Out dif node link) s ns s' t is v a k = quiet_says V by told number a.says ns s'.run (t.others number (events.Out dif node link) is tt) a.notes (keeps_out V told plan link s (dif_site_at plan dif node) a.says s' t.view a.does k)
acts_keep lines V by sent got told plan number events.Round s ns s' t is v a k = quiet_says V by told number (Some answers.Done) ns s'.run (t.others number events.Round is tt) a.notes (keeps_once V told number s ns s' t.view a k)
acts_keep lines V by sent got told plan number event s ns s' t is v a k = words_keep lines V by sent got told plan number event s.run ns s'.run t is v a.0 k

-- ---- lines

steps_keep : {X : Type 0} (lines : List (List ℕ)) (V : End → List X) (by : List ℕ → Note → List X) (sent got : Entry → List X) (told : List ℕ → List X) (plan : Plan) (number : ℕ) (event : Event) (s : Stage) (ns : List Note) (s' : Stage)
    → IsTelling lines V by sent got → event_by lines number ≡ Some event → IsTower s.run.tower → Steps plan number event s ns s' → Holds V told s.run → Holds V (after by told ns) s'.run
steps_keep lines V by sent got told plan number event s ns s' t is v h k =
    let acted = acts_keep lines V by sent got told plan number event s h.answer h.mid t is v h.acts k in
    let round = keeps_rounds V (after by told h.answer) (rounds_after plan.rounds event) h.mid.shelf h.mid.run.tower s'.shelf s'.run.tower h.mid.run.labels t.view h.rounds acted in
    let kept = keeps_looked V (after by told h.answer) s'.run.tower h.mid.run.labels s'.run.labels h.labels round in
    let quiet : IsQuiet by (state_notes plan number s'.run.tower h.mid.run.labels) = quiet_states by plan number s'.run.tower h.mid.run.labels (λ n label st. t.state n number (now_of s'.run.tower) label st) in
    let same : (name : List ℕ) → after by told ns name ≡ after by told h.answer name = λ name. ap (λ ys. told name ++ ys) (ap (flat_map (by name)) h.notes ∙ flat_map-append (by name) h.answer (state_notes plan number s'.run.tower h.mid.run.labels) ∙ ap (λ ys. flat_map (by name) h.answer ++ ys) (quiet name) ∙ append-nil (flat_map (by name) h.answer)) in
    keeps_same V (after by told h.answer) (after by told ns) s'.run.tower s'.run.labels same kept

-- what is kept of a stage: the tower stands too
pub record Stays {X : Type 0} (V : End → List X) (told : List ℕ → List X) (s : Stage) : Type 0 where
  pub stands : IsTower s.run.tower
  pub holds : Holds V told s.run

line_stays : {X : Type 0} (lines : List (List ℕ)) (V : End → List X) (by : List ℕ → Note → List X) (sent got : Entry → List X) (told : List ℕ → List X) (plan : Plan) (number : ℕ) (line : List ℕ) (read : Result (Option Event) LineError) (s : Stage) (ns : List Note) (s' : Stage)
    → IsTelling lines V by sent got → slice_get lines (number - 1) ≡ Some line → line_at line ≡ read → LineDoes plan number read s ns s' → Stays V told s → Stays V (after by told ns) s'
line_stays lines V by sent got told plan number line (Ok None) s ns s' t stands is d k =
    subst (Stays V (after by told ns)) (sym d.1) (record { stands = k.stands; holds = after_quiet V by told ns s.run.tower s.run.labels (λ name. ap (flat_map (by name)) d.0) k.holds })
line_stays lines V by sent got told plan number line (Ok (Some event)) s ns s' t stands is d k = record { stands = d.stands; holds = steps_keep lines V by sent got told plan number event s ns s' t (rw (stands, is) refl) k.stands d k.holds }
line_stays lines V by sent got told plan number line (Err e) s ns s' t stands is d k = absurd d

-- what stands behind some lines
middle : (xs ys : List (List ℕ)) (y : List ℕ) → slice_get (xs ++ y ∷ ys) (length xs) ≡ Some y
middle [] ys y = refl
middle (x ∷ xs) ys y = middle xs ys y

pub runs_keep : {X : Type 0} (lines : List (List ℕ)) (V : End → List X) (by : List ℕ → Note → List X) (sent got : Entry → List X) (told : List ℕ → List X) (plan : Plan) (number : ℕ) (done ls : List (List ℕ)) (s : Stage) (ns : List Note) (s' : Stage)
    → IsTelling lines V by sent got → lines ≡ done ++ ls → number ≡ length done + 1 → Runs plan number s ls ns s' → Stays V told s → Stays V (after by told ns) s'
runs_keep lines V by sent got told plan number done [] s ns s' t all at r k =
    subst (Stays V (after by told ns)) (sym r.1) (record { stands = k.stands; holds = after_quiet V by told ns s.run.tower s.run.labels (λ name. ap (flat_map (by name)) r.0) k.holds })
runs_keep lines V by sent got told plan number done (l ∷ ls) s ns s' t all at (mid, first, rest, does, others, is) k =
    let place : number - 1 ≡ length done = omega (arith, at) in
    let stands : slice_get lines (number - 1) ≡ Some l = rw (all, place) (middle done ls l) in
    let one = line_stays lines V by sent got told plan number l (line_at l) s first mid t stands refl does k in
    let all' : lines ≡ (done ++ l ∷ []) ++ ls = all ∙ sym (append_assoc done (l ∷ []) ls) in
    let at' : number + 1 ≡ length (done ++ l ∷ []) + 1 = omega (arith, at, length-append done (l ∷ [])) in
    let rest' = runs_keep lines V by sent got (after by told first) plan (number + 1) (done ++ l ∷ []) ls mid rest s' t all' at' others one in
    let same : (name : List ℕ) → after by told ns name ≡ after by (after by told first) rest name = λ name. ap (λ ys. told name ++ ys) (ap (flat_map (by name)) is ∙ flat_map-append (by name) first rest) ∙ sym (append_assoc (told name) (flat_map (by name) first) (flat_map (by name) rest)) in
    record { stands = rest'.stands; holds = keeps_same V (after by (after by told first) rest) (after by told ns) s'.run.tower s'.run.labels same rest'.holds }
