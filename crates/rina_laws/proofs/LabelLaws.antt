-- The notes of a run tell for each label the journal of its end.
use Rattle.std.proofs.Common.{arith, cond, ◌≡◌, ◌≢◌, ◌∙◌, ℕ, ◌+◌, ◌≤◌, Bool, true, false, List, [], ◌∷◌, ◌++◌, get_or, length, map, take, slice_get, Some, None, refl, sym, ap, subst}
use Rattle.std.specs.Str.{bytes_eq}
use Rattle.std.proofs.lemmas.List.{append-nil, map-append, take-append-le, take_more}
use Rattle.std.proofs.lemmas.Option.{get_or_from_slice_get, slice_get_within}
use Rattle.std.proofs.lemmas.Slice.Eq.{bytes_eq-Decides}
use Rattle.rina_law.specs.declared.entry.Entry.{Entry}
use Rattle.rina_iface.specs.declared.ends.End.{End}
use Rattle.rina_iface.specs.Ends.{with_passed, with_sent}
use Rattle.rina_iface.specs.Seen.{Fac}
use Rattle.rina_report.specs.declared.note.Note.TheVariants as notes
use Rattle.rina_report.specs.declared.answer.Answer.{Answer}
use Rattle.rina_report.specs.declared.answer.Answer.TheVariants as answers
use Rattle.rina_schedule.specs.declared.event.Event.{Event}
use Rattle.rina_schedule.specs.declared.event.Event.TheVariants as events
use Rattle.rina_wire.proofs.Kept.{is_mapped}
use Rattle.rina_tower.specs.Bystanders.{IsIpc, is_ipc}
use Rattle.rina_tower.specs.Ranks.{rank_of, seen_of}
use Rattle.rina_laws.specs.Labels.{GotIsTold, SentIsTold, event_by, entry_of, got_by, reads_at, sdu_of, sends_at, sent_by}
use Rattle.rina_laws.proofs.LabelEnds.{HavePorts, Holds, end_stands}
use Rattle.rina_laws.proofs.LabelLines.{runs_keep}
use Rattle.rina_laws.proofs.LabelMoves.{IsView}
use Rattle.rina_laws.proofs.LabelNotes.{IsOther, IsTelling}
use Rattle.rina_laws.proofs.LabelRanks.{facs_of}
use Rattle.rina_laws.proofs.LabelRests.{IsStill}
use Rattle.rina_laws.proofs.LabelStart.{start_stays}

-- ---- a view shows nothing of an IPC process

abbrev veiled : {X : Type 0} → (End → List X) → End → List X
veiled W e = cond (is_ipc e.app) [] (W e)

unveiled : {X : Type 0} (W : End → List X) (e : End) → is_ipc e.app ≡ false → veiled W e ≡ W e
unveiled W e plain = ap (λ (b : Bool). cond b [] (W e)) plain

hides : {X : Type 0} (W : End → List X) (e : End) → IsIpc e.app → veiled W e ≡ []
hides W e ipc = ap (λ (b : Bool). cond b [] (W e)) ipc

empty_by : {X : Type 0} (b : Bool) (xs : List X) → xs ≡ [] → cond b [] xs ≡ []
empty_by true xs none = refl
empty_by false xs none = none

still_by : {X : Type 0} (W : End → List X) (e e' : End) (b : Bool) → is_ipc e.app ≡ b → e'.app ≡ e.app → (is_ipc e.app ≡ false → W e' ≡ W e) → veiled W e' ≡ veiled W e
still_by W e e' true is app same = hides W e' (ap is_ipc app ∙ is) ∙ sym (hides W e is)
still_by W e e' false is app same = unveiled W e' (ap is_ipc app ∙ is) ∙ (same is ∙ sym (unveiled W e is))

veils : {X : Type 0} (W : End → List X) → ((e : End) → e.sent ≡ [] → e.taken ≡ 0 → W e ≡ []) → ((e e' : End) → IsStill e e' → e.taken ≤ length e.got → W e' ≡ W e) → IsView (veiled W)
veils W fresh still = record {
  hidden = λ e ipc. hides W e ipc;
  fresh = λ e sent taken. empty_by (is_ipc e.app) (W e) (fresh e sent taken);
  still = λ e e' app s fits. still_by W e e' (is_ipc e.app) refl app (λ plain. still e e' s (fits plain));
}

-- what is behind the view of an application's end
goes_on : {X : Type 0} (W : End → List X) (e e' : End) (xs : List X) → e'.app ≡ e.app → is_ipc e.app ≡ false → W e' ≡ W e ++ xs → veiled W e' ≡ veiled W e ++ xs
goes_on W e e' xs app plain is = unveiled W e' (ap is_ipc app ∙ plain) ∙ (is ∙ ap (λ ys. ys ++ xs) (sym (unveiled W e plain)))

differs : (a b : List ℕ) (t : Bool) → bytes_eq a b ≡ t → a ≢ b → bytes_eq a b ≡ false
differs a b true is ne = absurd (ne ((bytes_eq-Decides a b).0 is))
differs a b false is ne = is

-- ---- what was sent

abbrev sent_view : End → List Entry
sent_view e = e.sent

-- a line that sends nothing tells nothing of that
sent_dumb : (lines : List (List ℕ)) (number : ℕ) (name : List ℕ) (tick : ℕ) (what : Answer) → sends_at name (event_by lines number) ≡ None → sent_by lines name (notes.Line number tick what) ≡ []
sent_dumb lines number name tick (answers.Sent num) none = ap (entry_of tick num) none
sent_dumb lines number name tick what none = refl

sends_none : (name : List ℕ) (event : Event) → IsOther event → sends_at name (Some event) ≡ None
sends_none name (events.Send label bytes) other = absurd other
sends_none name event other = refl

sends_same : (label : List ℕ) (bytes : List ℕ) → sends_at label (Some (events.Send label bytes)) ≡ Some bytes
sends_same label bytes = rw ((bytes_eq-Decides label label).1 refl) refl

sends_other : (label bytes other : List ℕ) → label ≢ other → sends_at other (Some (events.Send label bytes)) ≡ None
sends_other label bytes other ne = rw (differs label other (bytes_eq label other) refl ne) refl

sent_telling : (lines : List (List ℕ)) → IsTelling lines (veiled sent_view) (sent_by lines) (λ x. x ∷ []) (λ x. [])
sent_telling lines = record {
  view = veils sent_view (λ e sent taken. sent) (λ e e' s fits. s.sent);
  state = λ name number tick label s. refl;
  refused = λ name number tick why. refl;
  nothing = λ name number tick. refl;
  others = λ number event is other name tick what. sent_dumb lines number name tick what (rw is (sends_none name event other));
  sent_view = λ e x plain. goes_on sent_view e (with_sent e x) (x ∷ []) refl plain refl;
  sent_same = λ number label bytes is tick num. ap (entry_of tick num) (ap (sends_at label) is ∙ sends_same label bytes);
  sent_other = λ number label bytes is other ne tick num. ap (entry_of tick num) (ap (sends_at other) is ∙ sends_other label bytes other ne);
  got_view = λ e x plain h. goes_on sent_view e (with_passed e) [] refl plain (sym (append-nil e.sent));
  got_same = λ number label is tick x. refl;
  got_other = λ number label is other ne tick x. refl;
}

pub sent_is_told : SentIsTold
sent_is_told plan shelf start lines ns s p o runs k l is =
    let telling = sent_telling lines in
    let kept = runs_keep lines (veiled sent_view) (sent_by lines) (λ x. x ∷ []) (λ x. []) (λ name. []) plan 1 [] lines start ns s telling refl (omega arith) runs (start_stays (veiled sent_view) plan shelf start telling.view p o) in
    let h = kept.holds.tells.stands k l is in
    let m = is_mapped facs_of (rank_of s.run.tower l.rank) h.holds.facs h.holds.is_rank in
    let ports = subst HavePorts (sym m.2) (kept.holds.ports.of l.rank h.holds.facs h.holds.is_rank) in
    let there = subst (λ (fs : List Fac). Holds fs l.port.fac h.place h.end) (sym m.2) h.holds.holds in
    record { tower = m.0; is_rank = m.1; end = h.end; stands = end_stands (seen_of m.0) h.place h.end l.port ports there h.its; sent = sym (unveiled sent_view h.end h.plain) ∙ h.view }

-- ---- what was read

abbrev got_view : End → List (ℕ × List ℕ)
got_view e = map sdu_of (take e.taken e.got)

got_dumb : (lines : List (List ℕ)) (number : ℕ) (name : List ℕ) (tick : ℕ) (what : Answer) → ((at : ℕ) (bytes : List ℕ) → reads_at name at bytes (event_by lines number) ≡ []) → got_by lines name (notes.Line number tick what) ≡ []
got_dumb lines number name tick (answers.Got at bytes) none = none at bytes
got_dumb lines number name tick what none = refl

reads_none : (name : List ℕ) (at : ℕ) (bytes : List ℕ) (event : Event) → IsOther event → reads_at name at bytes (Some event) ≡ []
reads_none name at bytes (events.Read label) other = absurd other
reads_none name at bytes event other = refl

reads_same : (label : List ℕ) (at : ℕ) (bytes : List ℕ) → reads_at label at bytes (Some (events.Read label)) ≡ (at, bytes) ∷ []
reads_same label at bytes = rw ((bytes_eq-Decides label label).1 refl) refl

reads_other : (label other : List ℕ) (at : ℕ) (bytes : List ℕ) → label ≢ other → reads_at other at bytes (Some (events.Read label)) ≡ []
reads_other label other at bytes ne = rw (differs label other (bytes_eq label other) refl ne) refl

-- one more was passed
got_more : (e : End) (x : Entry) → slice_get e.got e.taken ≡ Some x → map sdu_of (take (e.taken + 1) e.got) ≡ map sdu_of (take e.taken e.got) ++ sdu_of x ∷ []
got_more e x h =
    let one : take (e.taken + 1) e.got ≡ take e.taken e.got ++ get_or e.got e.taken x ∷ [] = take_more e.got e.taken x (slice_get_within e.got e.taken x h) in
    let is : get_or e.got e.taken x ≡ x = get_or_from_slice_get e.got e.taken x x h in
    ap (map sdu_of) (one ∙ ap (λ y. take e.taken e.got ++ y ∷ []) is) ∙ map-append sdu_of (take e.taken e.got) (x ∷ [])

got_fresh : (e : End) → e.taken ≡ 0 → map sdu_of (take e.taken e.got) ≡ []
got_fresh e none = ap (λ (n : ℕ). map sdu_of (take n e.got)) none

got_still : (e e' : End) → IsStill e e' → e.taken ≤ length e.got → map sdu_of (take e'.taken e'.got) ≡ map sdu_of (take e.taken e.got)
got_still e e' s fits = ap (map sdu_of) (ap (λ (n : ℕ). take n e'.got) s.taken ∙ (ap (take e.taken) s.got ∙ take-append-le e.taken e.got s.more fits))

got_telling : (lines : List (List ℕ)) → IsTelling lines (veiled got_view) (got_by lines) (λ x. []) (λ x. sdu_of x ∷ [])
got_telling lines = record {
  view = veils got_view (λ e sent taken. got_fresh e taken) got_still;
  state = λ name number tick label s. refl;
  refused = λ name number tick why. refl;
  nothing = λ name number tick. refl;
  others = λ number event is other name tick what. got_dumb lines number name tick what (λ at bytes. rw is (reads_none name at bytes event other));
  sent_view = λ e x plain. goes_on got_view e (with_sent e x) [] refl plain (sym (append-nil (map sdu_of (take e.taken e.got))));
  sent_same = λ number label bytes is tick num. refl;
  sent_other = λ number label bytes is other ne tick num. refl;
  got_view = λ e x plain h. goes_on got_view e (with_passed e) (sdu_of x ∷ []) refl plain (got_more e x h);
  got_same = λ number label is tick x. ap (reads_at label x.tick x.bytes) is ∙ reads_same label x.tick x.bytes;
  got_other = λ number label is other ne tick x. ap (reads_at other x.tick x.bytes) is ∙ reads_other label other x.tick x.bytes ne;
}

pub got_is_told : GotIsTold
got_is_told plan shelf start lines ns s p o runs k l is =
    let telling = got_telling lines in
    let kept = runs_keep lines (veiled got_view) (got_by lines) (λ x. []) (λ x. sdu_of x ∷ []) (λ name. []) plan 1 [] lines start ns s telling refl (omega arith) runs (start_stays (veiled got_view) plan shelf start telling.view p o) in
    let h = kept.holds.tells.stands k l is in
    let m = is_mapped facs_of (rank_of s.run.tower l.rank) h.holds.facs h.holds.is_rank in
    let ports = subst HavePorts (sym m.2) (kept.holds.ports.of l.rank h.holds.facs h.holds.is_rank) in
    let there = subst (λ (fs : List Fac). Holds fs l.port.fac h.place h.end) (sym m.2) h.holds.holds in
    record { tower = m.0; is_rank = m.1; end = h.end; stands = end_stands (seen_of m.0) h.place h.end l.port ports there h.its; passed = sym (unveiled got_view h.end h.plain) ∙ h.view }
