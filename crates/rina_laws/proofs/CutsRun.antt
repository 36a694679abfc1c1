-- Why flows of wires fail, in whole runs.
use Rattle.std.proofs.Common.{◌≡◌, ℕ, suc, ◌+◌, List, [], ◌∷◌, ◌++◌, map, slice_get, Some, None, Option, option_map, Result, Ok, Err, Contains, refl, sym, ◌∙◌, ap, subst, inl, inr, ◌⊎◌, arith}
use Rattle.std.proofs.lemmas.List.Elements.{Contains-append_left, Contains-append_right, Contains-push}
use Rattle.std.proofs.lemmas.Option.{slice_get-map}
use Rattle.rina_iface.specs.declared.state.Fail.{Fail}
use Rattle.rina_iface.specs.declared.state.Fail.TheVariants.{Cut}
use Rattle.rina_iface.specs.declared.state.PortState.TheVariants.{Allocated, Failed}
use Rattle.rina_report.specs.declared.answer.Answer.TheVariants.{Done}
use Rattle.rina_report.specs.declared.note.Note.{Note}
use Rattle.rina_report.specs.declared.note.Note.TheVariants as notes
use Rattle.rina_schedule.specs.declared.error.LineError.{LineError}
use Rattle.rina_schedule.specs.declared.event.Event.{Event}
use Rattle.rina_schedule.specs.declared.event.Event.TheVariants as events
use Rattle.rina_stack.specs.declared.plan.Plan.{Plan}
use Rattle.rina_tower.specs.Ranks.{now_of}
use Rattle.rina_wire.specs.declared.event.WireError.{WireError}
use Rattle.rina_wire.specs.declared.flight.Flight.{Flight}
use Rattle.rina_wire.specs.Air.{Air, Line, fac_of, wire_at}
use Rattle.rina_wire.specs.Cut.{CutsOn, cut_line}
use Rattle.rina_wire.specs.Disturb.{copy_place, first_copy, held, lost, moved, moved_at, repeated, with_copy, without_copy}
use Rattle.rina_wire.specs.Sound.{IsSound}
use Rattle.rina_wire.proofs.SoundCut.{sound_cuts}
use Rattle.rina_notes.specs.Look.{noted, state_notes}
use Rattle.rina_notes.specs.Sites.{port_in, site_at}
use Rattle.rina_notes.specs.Told.{answer_told, wire_told}
use Rattle.rina_schedule.specs.Line.{line_at}
use Rattle.rina_words.specs.Step.{Acts, Stage, rounds_after, wire_of}
use Rattle.rina_run.specs.Run.{LineDoes, Runs}
use Rattle.rina_laws.specs.Cuts.{FailuresAreCuts, IsByCut}
use Rattle.rina_laws.specs.Frames.{wires_of}
use Rattle.rina_laws.proofs.CutsOpening.{AreOpen, built_open}
use Rattle.rina_laws.proofs.CutsLine.{Explains, HasFailed, back_cut, back_freed, explains}
use Rattle.rina_laws.proofs.WiresAt.{Holds, rounds_by}
use Rattle.rina_laws.proofs.WiresCalls.{HasWire, OnWire, carry_wire, keeps_registers, keeps_wire}
use Rattle.rina_laws.proofs.WiresFreed.{Never, free_clocks, never_after, never_word}
use Rattle.rina_laws.proofs.WiresEvents.{keeps_free, keeps_hold, keeps_lose, keeps_repeat}
use Rattle.rina_laws.proofs.WiresOf.{wires_now, wires_sound}
use Rattle.rina_laws.proofs.WiresWords.{Special, acts, cutting, freeing, holding, losing, publishing, registering, repeating}

-- an end of this wire has failed so
record FailedOn (fac : ℕ) (fail : Fail) (a : Air) : Type 0 where
  line : Line
  wire : wire_at a fac ≡ Some line
  has : HasFailed fail line.ends

-- the line of this number asks for this, which cuts the wire now, and its `ok` is told
record IsHere (plan : Plan) (fac : ℕ) (fail : Fail) (number : ℕ) (asked : Result (Option Event) LineError) (ns : List Note) : Type 0 where
  at : ℕ
  wire : List ℕ
  asks : asked ≡ Ok (Some (events.Cut wire))
  names : wire_of plan wire ≡ Some fac
  is : fail ≡ Cut at
  told : Contains ns (notes.Line number at Done)

-- ---- what each event does

same_ends : (fail : Fail) (Why : Type 0) (now : ℕ) (l l' : Line) → l'.ends ≡ l.ends → Explains fail Why now l → Explains fail Why now l'
same_ends fail Why now l l' is why h = why (subst (HasFailed fail) is h)

lost_ends : (l : Line) (o : Option ℕ) → (without_copy l o).ends ≡ l.ends
lost_ends l None = refl
lost_ends l (Some place) = refl

held_ends : (at : ℕ) (l : Line) (o : Option ℕ) → (moved at l o).ends ≡ l.ends
held_ends at l None = refl
held_ends at l (Some place) = elim (slice_get l.flights place) as (λ o. (moved_at at l place o).ends ≡ l.ends) [ None ↦ refl | Some f ↦ refl ]

repeated_ends : (at : ℕ) (l : Line) (o : Option Flight) → (with_copy at l o).ends ≡ l.ends
repeated_ends at l None = refl
repeated_ends at l (Some f) = refl

-- a cut that succeeds is why
cuts : (fail : Fail) (Why : Type 0) (fac : ℕ) (a : Air) (n : ℕ) (r : Result (Unit {0}) WireError) (a' : Air) → ((done : Unit {0}) → r ≡ Ok done → n ≡ fac → fail ≡ Cut a.now → Why) → HasWire (Explains fail Why) fac a → CutsOn a n r a' → HasWire (Explains fail Why) fac a'
cuts fail Why fac a n (Ok done) a' here c g = record {
  sound = sound_cuts a n (Ok done) a' c.sound g;
  holds = subst (OnWire (Explains fail Why) fac) (sym g.air) (carry_wire (Explains fail Why) fac a n (cut_line a.now) c.holds (λ l same h why has. elim (back_cut fail a.now l has) [
    | inl was ↦ why was
    | inr now ↦ here done refl same now
  ]));
}
cuts fail Why fac a n (Err e) a' here c g = record { sound = sound_cuts a n (Err e) a' c.sound g; holds = subst (OnWire (Explains fail Why) fac) (sym g.air) c.holds }

-- the clock stands still in a cut
stands_still : (now : ℕ) (a : Air) (n : ℕ) (r : Result (Unit {0}) WireError) (a' : Air) → a.now ≡ now → CutsOn a n r a' → a'.now ≡ now
stands_still now a n (Ok done) a' is g = ap (λ (z : Air). z.now) g.air ∙ is
stands_still now a n (Err e) a' is g = ap (λ (z : Air). z.now) g.air ∙ is

-- ---- a word

-- what a word leaves unexplained was so before it, or the word cut the wire
special : (plan : Plan) (fac : ℕ) (fail : Fail) (Why : Type 0) (line : ℕ) (event : Event) (s : Stage) (ns : List Note) (s' : Stage) → (IsHere plan fac fail line (Ok (Some event)) ns → Why) → Holds (HasWire (Explains fail Why) fac) s.run.tower → Acts plan line event s ns s' → Special (HasWire (Explains fail Why) fac) event s'.run
special plan fac fail Why line (events.Lose wire frame) s ns s' here h d = losing (HasWire (Explains fail Why) fac) (wire_of plan wire) frame s.run d.0.says s'.run h d.0.does (λ n r a' is told c g. keeps_lose (Explains fail Why) (λ now k l why. same_ends fail Why now l (lost k l) (lost_ends l (copy_place k l.flights)) why) fac (wires_of s.run.tower) n frame r a' c g)
special plan fac fail Why line (events.Repeat wire frame at) s ns s' here h d = repeating (HasWire (Explains fail Why) fac) (wire_of plan wire) frame at s.run d.0.says s'.run h d.0.does (λ n r a' is told c g. keeps_repeat (Explains fail Why) (λ now k tick l why. same_ends fail Why now l (repeated k tick l) (repeated_ends tick l (first_copy k l.flights)) why) fac (wires_of s.run.tower) n frame at r a' c g)
special plan fac fail Why line (events.Hold wire frame at) s ns s' here h d = holding (HasWire (Explains fail Why) fac) (wire_of plan wire) frame at s.run d.0.says s'.run h d.0.does (λ n r a' is told c g. keeps_hold (Explains fail Why) (λ now k tick l why. same_ends fail Why now l (held k tick l) (held_ends tick l (copy_place k l.flights)) why) fac (wires_of s.run.tower) n frame at r a' c g)
special plan fac fail Why line (events.Cut wire) s ns s' here h d =
    let now = (wires_of s.run.tower).now in
    let still : (wires_of s'.run.tower).now ≡ now = cutting (λ (a : Air). a.now ≡ now) (wire_of plan wire) s.run d.0.says s'.run refl d.0.does (λ n r a' is told c g. stands_still now (wires_of s.run.tower) n r a' c g) in
    let same : now_of s'.run.tower ≡ now = sym (wires_now s'.run.tower) ∙ still in
    cutting (HasWire (Explains fail Why) fac) (wire_of plan wire) s.run d.0.says s'.run h d.0.does (λ n r a' is told c g. cuts fail Why fac (wires_of s.run.tower) n r a' (λ done ok named cut.
    let says : d.0.says ≡ Some Done = told ∙ ap (answer_told (λ (x : Unit {0}). Some Done) wire_told) ok in
    let noted_is : ns ≡ notes.Line line now Done ∷ [] = d.0.notes ∙ ap (noted line (now_of s'.run.tower)) says ∙ ap (λ (m : ℕ). notes.Line line m Done ∷ []) same in
    here (record { at = now; wire = wire; asks = refl; names = is ∙ ap (λ (m : ℕ). Some m) named; is = cut; told = subst (λ (xs : List Note). Contains xs (notes.Line line now Done)) (sym noted_is) (Contains-push [] (notes.Line line now Done)) })) c g)
special plan fac fail Why line (events.Free label) s ns s' here h d = freeing (HasWire (Explains fail Why) fac) (port_in s.run.labels label) s.run d.0.says s'.run h d.0.does (λ rank port r a' is low c g. keeps_free (Explains fail Why) (λ now l i e there why has. why (back_freed fail l i e has)) fac (wires_of s.run.tower) port r a' c g)
special plan fac fail Why line (events.Register name node app) s ns s' here h d = registering (HasWire (Explains fail Why) fac) app (site_at plan 1 name node) s.run d.0.says s'.run h d.0.does (λ site x a' is low told c g. keeps_registers (Explains fail Why) fac (wires_of s.run.tower) site.fac site.node app x a' (λ same done l why has. why has) c g)
special plan fac fail Why line (events.Publish dif node fac_name) s ns s' here h d = publishing (HasWire (Explains fail Why) fac) plan dif node fac_name s.run d.0.says s'.run h d.0.does (λ n place name x a' ipc c g. keeps_registers (Explains fail Why) fac (wires_of s.run.tower) n place name x a' (λ same done l why has. why has) c g)
special plan fac fail Why line event s ns s' here h d = tt

-- ---- a line

-- a failure before the line, or its cause in it
abbrev Blames : Plan → ℕ → Fail → ℕ → Result (Option Event) LineError → List Note → Stage → Type 0
Blames plan fac fail number asked ns s = FailedOn fac fail (wires_of s.run.tower) ⊎ IsHere plan fac fail number asked ns

begins : (plan : Plan) (fac : ℕ) (fail : Fail) (number : ℕ) (asked : Result (Option Event) LineError) (ns : List Note) (s : Stage) → IsSound (wires_of s.run.tower) → Holds (HasWire (Explains fail (Blames plan fac fail number asked ns s)) fac) s.run.tower
begins plan fac fail number asked ns s sound = record { sound = sound; holds = λ l wire has. inl (record { line = l; wire = wire; has = has }) }

here_in : (plan : Plan) (fac : ℕ) (fail : Fail) (number : ℕ) (asked : Result (Option Event) LineError) (ns more : List Note) → IsHere plan fac fail number asked ns → IsHere plan fac fail number asked (ns ++ more)
here_in plan fac fail number asked ns more h = record { at = h.at; wire = h.wire; asks = h.asks; names = h.names; is = h.is; told = Contains-append_left ns more _ h.told }

line_does : (plan : Plan) (fac : ℕ) (fail : Fail) (number : ℕ) (r : Result (Option Event) LineError) (s : Stage) (ns : List Note) (s' : Stage) → IsSound (wires_of s.run.tower) → LineDoes plan number r s ns s' → Holds (HasWire (Explains fail (Blames plan fac fail number r ns s)) fac) s'.run.tower
line_does plan fac fail number (Ok None) s ns s' sound d = subst (λ (v : Stage). Holds (HasWire (Explains fail (Blames plan fac fail number (Ok None) ns s)) fac) v.run.tower) (sym d.1) (begins plan fac fail number (Ok None) ns s sound)
line_does plan fac fail number (Ok (Some event)) s ns s' sound d =
    let Why = Blames plan fac fail number (Ok (Some event)) ns s in
    let P = HasWire (Explains fail Why) fac in
    let h = begins plan fac fail number (Ok (Some event)) ns s sound in
    let told = state_notes plan number s'.run.tower d.mid.run.labels in
    let here : IsHere plan fac fail number (Ok (Some event)) d.answer → Why = λ x. inr (subst (IsHere plan fac fail number (Ok (Some event))) (sym d.notes) (here_in plan fac fail number (Ok (Some event)) d.answer told x)) in
    let all = keeps_wire (Explains fail Why) (explains fail Why) fac in
    let clock = free_clocks P all (keeps_free (Explains fail Why) (λ now l i e there why has. why (back_freed fail l i e has)) fac) in
    let acted = acts P all Never clock plan number event s d.answer d.mid (special plan fac fail Why number event s d.answer d.mid here h d.acts) d.acts (never_word plan number event s d.answer d.mid d.acts) h in
    let rounds = rounds_after plan.rounds event in
    rounds_by P all Never clock rounds d.mid.shelf s'.shelf d.mid.run.tower s'.run.tower d.rounds (never_after rounds d.mid.shelf d.mid.run.tower s'.shelf s'.run.tower d.rounds) acted
line_does plan fac fail number (Err e) s ns s' sound d = absurd d

-- ---- lines

-- one of the lines, of which the first has this number, cut the wire
record IsAmong (plan : Plan) (fac : ℕ) (fail : Fail) (number : ℕ) (lines : List (List ℕ)) (ns : List Note) : Type 0 where
  before : ℕ
  line : List ℕ
  stands : slice_get lines before ≡ Some line
  here : IsHere plan fac fail (number + before) (line_at line) ns

runs : (plan : Plan) (fac : ℕ) (fail : Fail) (number : ℕ) (s : Stage) (ls : List (List ℕ)) (ns : List Note) (s' : Stage) → IsSound (wires_of s.run.tower) → Runs plan number s ls ns s' → FailedOn fac fail (wires_of s'.run.tower) → FailedOn fac fail (wires_of s.run.tower) ⊎ IsAmong plan fac fail number ls ns
runs plan fac fail number s [] ns s' sound d failed = inl (subst (λ (v : Stage). FailedOn fac fail (wires_of v.run.tower)) d.1 failed)
runs plan fac fail number s (l ∷ ls) ns s' sound (mid, first, rest, does, others, is) failed =
    let h = line_does plan fac fail number (line_at l) s first mid sound does in
    elim (runs plan fac fail (number + 1) mid ls rest s' h.sound others failed) [
      | inl was ↦ elim (h.holds was.line was.wire was.has) [
        | inl old ↦ inl old
        | inr here ↦
            let same : number ≡ number + 0 = omega arith in
            let all = here_in plan fac fail number (line_at l) first rest here in
            let there : IsHere plan fac fail (number + 0) (line_at l) ns = subst (λ (n : ℕ). IsHere plan fac fail n (line_at l) ns) same (subst (IsHere plan fac fail number (line_at l)) (sym is) all) in
            inr (record { before = 0; line = l; stands = refl; here = there })
      ]
      | inr later ↦
          let same : (number + 1) + later.before ≡ number + suc later.before = omega arith in
          let h' = later.here in
          let all : IsHere plan fac fail ((number + 1) + later.before) (line_at later.line) ns = record { at = h'.at; wire = h'.wire; asks = h'.asks; names = h'.names; is = h'.is; told = subst (λ (xs : List Note). Contains xs (notes.Line ((number + 1) + later.before) h'.at Done)) (sym is) (Contains-append_right first rest _ h'.told) } in
          inr (record { before = suc later.before; line = later.line; stands = later.stands; here = subst (λ (n : ℕ). IsHere plan fac fail n (line_at later.line) ns) same all })
    ]

-- ---- the opening

-- the cause of a failure, as the schedule has it
by_cut : (plan : Plan) (fac : ℕ) (fail : Fail) (lines : List (List ℕ)) (ns : List Note) → IsAmong plan fac fail 1 lines ns → IsByCut plan fac lines ns fail
by_cut plan fac fail lines ns a =
    let h = a.here in
    let same : 1 + a.before ≡ a.before + 1 = omega arith in
    subst (IsByCut plan fac lines ns) (sym h.is) (record {
      before = a.before;
      line = a.line;
      wire = h.wire;
      stands = a.stands;
      asks = h.asks;
      names = h.names;
      told = subst (λ (n : ℕ). Contains ns (notes.Line n h.at Done)) same h.told;
    })

-- no end of a wire has failed where a run begins
none_failed : (fac : ℕ) (fail : Fail) (a : Air) → AreOpen (map fac_of a.wires) → FailedOn fac fail a → ⊥
none_failed fac fail a opened f =
    let shown : slice_get (map fac_of a.wires) fac ≡ Some (fac_of f.line) = slice_get-map fac_of a.wires fac ∙ ap (option_map fac_of) f.wire in
    let clash : Allocated ≡ Failed fail = sym (opened fac (fac_of f.line) f.has.place f.has.end shown f.has.stands) ∙ f.has.failed in
    cc

pub failures_are_cuts : FailuresAreCuts
failures_are_cuts plan shelf start lines ns s o d fac l wire i e at fail failed =
    elim (runs plan fac fail 1 start lines ns s (wires_sound start.run.tower o.stands) d (record { line = l; wire = wire; has = record { place = i; end = e; stands = at; failed = failed } })) [
      | inl old ↦ absurd (none_failed fac fail (wires_of start.run.tower) (built_open plan start.run.tower o.built) old)
      | inr among ↦ by_cut plan fac fail lines ns among
    ]
