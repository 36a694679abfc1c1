-- Each word of a schedule keeps a frame of the wires carried, unless it touches it.
use Rattle.std.proofs.Common.{◌≡◌, ◌≢◌, ℕ, List, [], ◌∷◌, Some, Option, option_and_then, option_map, Result, Ok, Err, refl, sym, ◌∙◌, ap, subst}
use Rattle.rina_base.specs.declared.number.Num.{Num}
use Rattle.rina_base.specs.declared.number.Port.{Port}
use Rattle.rina_data.specs.declared.step.ClockStep.{ClockStep}
use Rattle.rina_data.specs.declared.step.ClockStep.TheVariants.{GaveUp}
use Rattle.rina_data.specs.declared.step.StepError.{StepError}
use Rattle.rina_iface.specs.declared.ends.End.{End}
use Rattle.rina_iface.specs.declared.error.FreeError.TheVariants as freeing
use Rattle.rina_iface.specs.Seen.{state_of}
use Rattle.rina_iface.specs.declared.state.PortState.TheVariants.{Allocated}
use Rattle.rina_report.specs.declared.note.Note.{Note}
use Rattle.rina_schedule.specs.declared.event.Event.{Event}
use Rattle.rina_schedule.specs.declared.event.Event.TheVariants as events
use Rattle.rina_stack.specs.declared.plan.Plan.{Plan}
use Rattle.rina_tower.specs.declared.tower.Tower.{Tower}
use Rattle.rina_tower.specs.Ranks.{seen_of}
use Rattle.rina_tower.specs.Steps.{ClocksAt}
use Rattle.rina_wire.specs.declared.flight.Flight.{Flight}
use Rattle.rina_wire.specs.Air.{Air, Line, seen_of as seen_of_wires, wire_at}
use Rattle.rina_wire.specs.Free.{FreesOn}
use Rattle.rina_wire.proofs.Carried.{end_is}
use Rattle.rina_wire.proofs.SoundFree.{sound_frees}
use Rattle.rina_notes.specs.Look.{state_at}
use Rattle.rina_notes.specs.Sites.{port_in, site_at}
use Rattle.rina_words.specs.Step.{Acts, Stage, wire_of}
use Rattle.rina_laws.specs.Frames.{AreAsked, GivesUpOn, IsInFlight, IsOpenPort, Touches, copies_of, wires_of}
use Rattle.rina_laws.specs.SomeStep.{SomeOfWord}
use Rattle.rina_laws.proofs.FramesCalls.{IsCarrying, carry_named, frame_line}
use Rattle.rina_laws.proofs.FramesEvents.{NoneWith, keeps_cuts, keeps_frees, keeps_holds, keeps_loses, keeps_repeats}
use Rattle.rina_laws.proofs.FramesKept.{Carries}
use Rattle.rina_laws.proofs.WiresAsked.{asked_end, asked_was}
use Rattle.rina_laws.proofs.WiresAt.{Holds, Keeps, KeepsClocks, clocks_at}
use Rattle.rina_laws.proofs.WiresCalls.{OnWire, keeps_registers, keeps_wire}
use Rattle.rina_laws.proofs.WiresOf.{wires_rank}
use Rattle.rina_laws.proofs.WiresWords.{Special, acts, cutting, freeing, holding, losing, publishing, registering, repeating}

-- each call keeps the frame
pub frame_keeps : (fac k : ℕ) → Keeps (IsCarrying fac k)
frame_keeps fac k = keeps_wire (Carries k) (frame_line k) fac

-- ---- what may touch a frame

-- a list that is not other than empty is empty
is_empty : (fs : List Flight) → (fs ≢ [] → ⊥) → fs ≡ []
is_empty [] h = refl
is_empty (f ∷ fs) h = absurd (h (λ same. cc))

-- no copy is in flight on the wires
none_flies : (fac k : ℕ) (t : Tower) (l : Line) → (IsInFlight t fac k → ⊥) → wire_at (wires_of t) fac ≡ Some l → copies_of k l.flights ≡ []
none_flies fac k t l none at = is_empty (copies_of k l.flights) (λ flies. none (record { line = l; wire = at; flies = flies }))

-- a flow of wires that is freed had no copy in flight
none_with : (fac k : ℕ) (t : Tower) (o : Option (ℕ × Port)) (rank : ℕ) (port : Port) → o ≡ Some (rank, port) → rank ≡ 0 → (IsOpenPort o fac t × IsInFlight t fac k → ⊥) → NoneWith fac k (wires_of t) port
none_with fac k t o rank port is low spared l same state at =
    let open_there : state_at t 0 port ≡ Some Allocated = ap (option_and_then (λ (v : Tower). state_of (seen_of v) port)) (wires_rank t) ∙ state in
    let opened : IsOpenPort o fac t = subst (λ (x : Option (ℕ × Port)). IsOpenPort x fac t) (sym is) (low, same, open_there) in
    none_flies fac k t l (λ flies. spared (opened, flies)) at

-- the number of the wire that is named
named : (o : Option ℕ) (n fac : ℕ) → o ≡ Some n → n ≡ fac → o ≡ Some fac
named o n fac is same = is ∙ ap (λ (m : ℕ). Some m) same

spares : (fac k : ℕ) (plan : Plan) (line : ℕ) (event : Event) (s : Stage) (ns : List Note) (s' : Stage) → (Touches plan fac k s.run event → ⊥) → Holds (IsCarrying fac k) s.run.tower → Acts plan line event s ns s' → Special (IsCarrying fac k) event s'.run
spares fac k plan line (events.Lose wire frame) s ns s' spared h d = losing (IsCarrying fac k) (wire_of plan wire) frame s.run d.0.says s'.run h d.0.does (λ n r a' is told g e. keeps_loses fac k (wires_of s.run.tower) n frame r a' (λ same frame_is. spared (named (wire_of plan wire) n fac is same, frame_is)) g e)
spares fac k plan line (events.Repeat wire frame at) s ns s' spared h d = repeating (IsCarrying fac k) (wire_of plan wire) frame at s.run d.0.says s'.run h d.0.does (λ n r a' is told g e. keeps_repeats fac k (wires_of s.run.tower) n frame at r a' (λ same frame_is. spared (named (wire_of plan wire) n fac is same, frame_is)) g e)
spares fac k plan line (events.Hold wire frame at) s ns s' spared h d = holding (IsCarrying fac k) (wire_of plan wire) frame at s.run d.0.says s'.run h d.0.does (λ n r a' is told g e. keeps_holds fac k (wires_of s.run.tower) n frame at r a' (λ same frame_is. spared (named (wire_of plan wire) n fac is same, frame_is)) g e)
spares fac k plan line (events.Cut wire) s ns s' spared h d = cutting (IsCarrying fac k) (wire_of plan wire) s.run d.0.says s'.run h d.0.does (λ n r a' is told g e. keeps_cuts fac k (wires_of s.run.tower) n r a' (λ l same at. none_flies fac k s.run.tower l (λ flies. spared (named (wire_of plan wire) n fac is same, flies)) at) g e)
spares fac k plan line (events.Free label) s ns s' spared h d = freeing (IsCarrying fac k) (port_in s.run.labels label) s.run d.0.says s'.run h d.0.does (λ rank port r a' is low g e. keeps_frees fac k (wires_of s.run.tower) port r a' (none_with fac k s.run.tower (port_in s.run.labels label) rank port is low spared) g e)
spares fac k plan line (events.Register name node app) s ns s' spared h d = registering (IsCarrying fac k) app (site_at plan 1 name node) s.run d.0.says s'.run h d.0.does (λ site x a' is low told g e. keeps_registers (Carries k) fac (wires_of s.run.tower) site.fac site.node app x a' (λ same done l. carry_named k (wires_of s.run.tower).now site.node app l) g e)
spares fac k plan line (events.Publish dif node fac_name) s ns s' spared h d = publishing (IsCarrying fac k) plan dif node fac_name s.run d.0.says s'.run h d.0.does (λ n place name x a' ipc g e. keeps_registers (Carries k) fac (wires_of s.run.tower) n place name x a' (λ same done l. carry_named k (wires_of s.run.tower).now place name l) g e)
spares fac k plan line event s ns s' spared h d = tt

-- ---- a step that may take a frame away

-- without memory no flow is freed
not_freed : (fac k : ℕ) (a : Air) (port : Port) (a' : Air) → IsCarrying fac k a → FreesOn a port (Err freeing.Memory) a' → IsCarrying fac k a'
not_freed fac k a port a' c g = record { sound = sound_frees a port (Err freeing.Memory) a' c.sound g; holds = subst (OnWire (Carries k) fac) (sym g) c.holds }

-- the port is allocated before the wires were asked, if it is after
was_open : (t : Tower) (asked : Air) (port : Port) → AreAsked (wires_of t) asked → state_of (seen_of_wires asked) port ≡ Some Allocated → state_at t 0 port ≡ Some Allocated
was_open t asked port asks state =
    let a : Air = wires_of t in
    let same : state_of (seen_of_wires asked) port ≡ state_of (seen_of_wires a) port = ap (option_map (λ (e : End). e.state)) (end_is asked port ∙ asked_end a asked asks port ∙ sym (end_is a port)) in
    ap (option_and_then (λ (v : Tower). state_of (seen_of v) port)) (wires_rank t) ∙ sym same ∙ state

-- a management connection gives a number up, and the frame is not in flight on the wire of its link
gives_up : (fac k r dif node : ℕ) (x : Result ClockStep StepError) (t t' : Tower) (asked : Air) (num : Num) (port : Port) → (GivesUpOn fac k t t' → ⊥) → ClocksAt r dif node x t t' → r ≡ 1 → AreAsked (wires_of t) asked → x ≡ Ok (GaveUp num) → num.cep ≡ 0 → FreesOn asked port (Ok tt) (wires_of t') → NoneWith fac k asked port
gives_up fac k r dif node x t t' asked num port unspoilt d low asks is cep frees l same state at =
    let was = asked_was (wires_of t) asked asks fac l at in
    let none : copies_of k was.line.flights ≡ [] = none_flies fac k t was.line (λ flies. unspoilt (record {
      dif = dif;
      node = node;
      num = num;
      management = cep;
      does = subst (λ (n : ℕ). ClocksAt n dif node (Ok (GaveUp num)) t t') low (subst (λ (y : Result ClockStep StepError). ClocksAt r dif node y t t') is d);
      port = port;
      its_wire = same;
      allocated = was_open t asked port asks state;
      asked = asked;
      asks = asks;
      frees = frees;
      flies = flies;
    })) was.wire in
    ap (copies_of k) was.flights ∙ none

pub frame_clocks : (fac k : ℕ) → KeepsClocks (IsCarrying fac k) (GivesUpOn fac k)
frame_clocks fac k r dif node x t t' unspoilt h d = clocks_at (IsCarrying fac k) (frame_keeps fac k) r dif node x t t' h d (λ low. record {
  told = λ asked num port asks held is cep f. keeps_frees fac k asked port (Ok tt) (wires_of t') (gives_up fac k r dif node x t t' asked num port unspoilt d low asks is cep f) held f;
  failed = λ asked port held f. not_freed fac k asked port (wires_of t') held f;
})

pub frame_acts : (fac k : ℕ) (plan : Plan) (line : ℕ) (event : Event) (s : Stage) (ns : List Note) (s' : Stage) → (Touches plan fac k s.run event → ⊥) → (d : Acts plan line event s ns s') → (SomeOfWord (GivesUpOn fac k) plan line event s ns s' d → ⊥) → Holds (IsCarrying fac k) s.run.tower → Holds (IsCarrying fac k) s'.run.tower
frame_acts fac k plan line event s ns s' spared d unspoilt h = acts (IsCarrying fac k) (frame_keeps fac k) (GivesUpOn fac k) (frame_clocks fac k) plan line event s ns s' (spares fac k plan line event s ns s' spared h d) d unspoilt h
