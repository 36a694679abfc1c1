-- Each event of a wire, and the end of a flow, keeps a frame carried, unless it touches it.
use Rattle.std.proofs.Common.{◌≡◌, ◌≢◌, ℕ, ◌==◌, cond, get_or, true, false, List, [], map, slice_get, Some, None, Option, option_and_then, option_map, Result, Ok, Err, refl, sym, ◌∙◌, ap, subst, arith}
use Rattle.std.proofs.lemmas.Option.{same_Some, slice_get-get_or, slice_get_within}
use Rattle.rina_base.specs.declared.number.Port.{Port}
use Rattle.rina_iface.specs.declared.ends.End.{End}
use Rattle.rina_iface.specs.declared.error.FreeError.{FreeError}
use Rattle.rina_iface.specs.declared.error.FreeError.TheVariants as frees
use Rattle.rina_iface.specs.declared.state.PortState.{PortState}
use Rattle.rina_iface.specs.declared.state.PortState.TheVariants.{Pending, Allocated, Refused, Failed, Closed}
use Rattle.rina_iface.specs.Ends.{place_in}
use Rattle.rina_iface.specs.Journal.{At}
use Rattle.rina_iface.specs.Seen.{end_of, state_of}
use Rattle.rina_iface.specs.State.{cut_off}
use Rattle.rina_wire.specs.declared.event.WireError.{WireError}
use Rattle.rina_wire.specs.declared.event.WireError.TheVariants as wires
use Rattle.rina_wire.specs.declared.flight.Flight.{Flight}
use Rattle.rina_wire.specs.Air.{Air, Line, seen_of, wire_at}
use Rattle.rina_wire.specs.Allocate.{is_allocated}
use Rattle.rina_wire.specs.Cut.{CutsOn, cut_line}
use Rattle.rina_wire.specs.Disturb.{HoldsOn, LosesOn, RepeatsOn, copy_place, due_at, held, lost, moved, repeated, with_copy, without_copy}
use Rattle.rina_wire.specs.Free.{FreesOn, closed_both, freed_at}
use Rattle.rina_wire.specs.Sound.{IsSound, KeepsFlows}
use Rattle.rina_wire.proofs.Carried.{end_is}
use Rattle.rina_wire.proofs.SoundDisturb.{sound_holds, sound_loses, sound_repeats}
use Rattle.rina_wire.proofs.SoundCut.{OnlyStates, cut_states, sound_cuts}
use Rattle.rina_wire.proofs.SoundFree.{freed_states, sound_frees}
use Rattle.rina_wire.proofs.SoundSend.{stands_at}
use Rattle.rina_laws.specs.Frames.{copies_of}
use Rattle.rina_laws.proofs.FramesKept.{Carries, alike_ends, carry_on}
use Rattle.rina_laws.proofs.FramesLists.{differ, first_at, push_no, remove_no, set_no}
use Rattle.rina_laws.proofs.FramesCalls.{IsCarrying}
use Rattle.rina_laws.proofs.WiresCalls.{OnWire, carry_end, carry_wire}

-- ---- events of wires

-- other copies of the frame than before, of which none is another's
copies_alike : (k now : ℕ) (l : Line) (fs : List Flight) → copies_of k fs ≡ copies_of k l.flights → Carries k now l → Carries k now (record l { flights = fs })
copies_alike k now l fs same c = carry_on k now l (record l { flights = fs }) (alike_ends k l (record l { flights = fs }) refl refl refl same) c

carry_lost : (k now frame : ℕ) (l : Line) (o : Option ℕ) → frame ≢ k → copy_place frame l.flights ≡ o → Carries k now l → Carries k now (without_copy l o)
carry_lost k now frame l None ne h c = c
carry_lost k now frame l (Some place) ne h c =
    let first = first_at frame l.flights place h in
    copies_alike k now l _ (remove_no (λ (f : Flight). f.frame == k) l.flights place first.copy first.stands (differ first.copy.frame k (λ same. ne (sym first.its ∙ same)))) c

carry_loses : (fac k : ℕ) (a : Air) (wire frame : ℕ) (r : Result (Unit {0}) WireError) (a' : Air) → (wire ≡ fac → frame ≢ k) → OnWire (Carries k) fac a → LosesOn a wire frame r a' → OnWire (Carries k) fac a'
carry_loses fac k a wire frame (Ok done) a' ne c g = subst (OnWire (Carries k) fac) (sym g.air) (carry_wire (Carries k) fac a wire (lost frame) c (λ l same h d. carry_lost k a.now frame l (copy_place frame l.flights) (ne same) refl d))
carry_loses fac k a wire frame (Err e) a' ne c g = subst (OnWire (Carries k) fac) (sym g.air) c

pub keeps_loses : (fac k : ℕ) (a : Air) (wire frame : ℕ) (r : Result (Unit {0}) WireError) (a' : Air) → (wire ≡ fac → frame ≢ k) → IsCarrying fac k a → LosesOn a wire frame r a' → IsCarrying fac k a'
keeps_loses fac k a wire frame r a' ne c g = record { sound = sound_loses a wire frame r a' c.sound g; holds = carry_loses fac k a wire frame r a' ne c.holds g }

carry_held : (k now frame at : ℕ) (l : Line) (o : Option ℕ) → frame ≢ k → copy_place frame l.flights ≡ o → Carries k now l → Carries k now (moved at l o)
carry_held k now frame at l None ne h c = c
carry_held k now frame at l (Some place) ne h c =
    let first = first_at frame l.flights place h in
    let other : (first.copy.frame == k) ≡ false = differ first.copy.frame k (λ same. ne (sym first.its ∙ same)) in
    rw first.stands (copies_alike k now l _ (set_no (λ (f : Flight). f.frame == k) l.flights place first.copy (due_at at first.copy) first.stands other other) c)

carry_holds : (fac k : ℕ) (a : Air) (wire frame at : ℕ) (r : Result (Unit {0}) WireError) (a' : Air) → (wire ≡ fac → frame ≢ k) → OnWire (Carries k) fac a → HoldsOn a wire frame at r a' → OnWire (Carries k) fac a'
carry_holds fac k a wire frame at (Ok done) a' ne c g = subst (OnWire (Carries k) fac) (sym g.air) (carry_wire (Carries k) fac a wire (held frame at) c (λ l same h d. carry_held k a.now frame at l (copy_place frame l.flights) (ne same) refl d))
carry_holds fac k a wire frame at (Err e) a' ne c g = subst (OnWire (Carries k) fac) (sym g.air) c

pub keeps_holds : (fac k : ℕ) (a : Air) (wire frame at : ℕ) (r : Result (Unit {0}) WireError) (a' : Air) → (wire ≡ fac → frame ≢ k) → IsCarrying fac k a → HoldsOn a wire frame at r a' → IsCarrying fac k a'
keeps_holds fac k a wire frame at r a' ne c g = record { sound = sound_holds a wire frame at r a' c.sound g; holds = carry_holds fac k a wire frame at r a' ne c.holds g }

carry_repeated : (k now frame at : ℕ) (l : Line) (o : Option ℕ) → frame ≢ k → copy_place frame l.flights ≡ o → Carries k now l → Carries k now (with_copy at l (option_and_then (λ i. slice_get l.flights i) o))
carry_repeated k now frame at l None ne h c = c
carry_repeated k now frame at l (Some place) ne h c =
    let first = first_at frame l.flights place h in
    rw first.stands (copies_alike k now l _ (push_no (λ (f : Flight). f.frame == k) l.flights (due_at at first.copy) (differ first.copy.frame k (λ same. ne (sym first.its ∙ same)))) c)

carry_repeats : (fac k : ℕ) (a : Air) (wire frame at : ℕ) (r : Result (Unit {0}) WireError) (a' : Air) → (wire ≡ fac → frame ≢ k) → OnWire (Carries k) fac a → RepeatsOn a wire frame at r a' → OnWire (Carries k) fac a'
carry_repeats fac k a wire frame at (Ok done) a' ne c g = subst (OnWire (Carries k) fac) (sym g.air) (carry_wire (Carries k) fac a wire (repeated frame at) c (λ l same h d. carry_repeated k a.now frame at l (copy_place frame l.flights) (ne same) refl d))
carry_repeats fac k a wire frame at (Err wires.Memory) a' ne c g = subst (OnWire (Carries k) fac) (sym g) c
carry_repeats fac k a wire frame at (Err wires.NoWire) a' ne c g = subst (OnWire (Carries k) fac) (sym g.air) c
carry_repeats fac k a wire frame at (Err (wires.NoFrame n)) a' ne c g = subst (OnWire (Carries k) fac) (sym g.air) c
carry_repeats fac k a wire frame at (Err (wires.EarlyHold now)) a' ne c g = subst (OnWire (Carries k) fac) (sym g.air) c
carry_repeats fac k a wire frame at (Err (wires.LateHold last)) a' ne c g = subst (OnWire (Carries k) fac) (sym g.air) c

pub keeps_repeats : (fac k : ℕ) (a : Air) (wire frame at : ℕ) (r : Result (Unit {0}) WireError) (a' : Air) → (wire ≡ fac → frame ≢ k) → IsCarrying fac k a → RepeatsOn a wire frame at r a' → IsCarrying fac k a'
keeps_repeats fac k a wire frame at r a' ne c g = record { sound = sound_repeats a wire frame at r a' c.sound g; holds = carry_repeats fac k a wire frame at r a' ne c.holds g }

-- ---- cut

-- only states changed, and no copy of the frame was in flight or is
states_alike : (k now : ℕ) (l l' : Line) → l'.delay ≡ l.delay → l'.storm ≡ l.storm → OnlyStates l l' → copies_of k l'.flights ≡ copies_of k l.flights → Carries k now l → Carries k now l'
states_alike k now l l' delay storm states copies c = carry_on k now l l' (record {
  delay = delay;
  storm = storm;
  back = λ i j e x h is n.
      let w = states.was i e h in
      record { end = w.0; stands = w.1; place = j; is = subst (λ (z : End). slice_get z.sent j ≡ Some x) w.2 is };
  on = λ i e h.
      let there : At l'.ends i (get_or l'.ends i e) = slice_get-get_or l'.ends i e (let size = states.size in omega (arith, size, slice_get_within l.ends i e h)) in
      let w = states.was i (get_or l'.ends i e) there in
      let same : w.0 ≡ e = same_Some w.0 e (sym w.1 ∙ h) in
      record { end = get_or l'.ends i e; stands = there; its = ap (λ (z : End). z.got) w.2 ∙ ap (λ (z : End). z.got) same };
  copies = copies;
}) c

cut_delay : (now : ℕ) (l : Line) → (cut_line now l).delay ≡ l.delay
cut_delay now l = elim l.cut as (λ b. (cond b l (record l { ends = map (cut_off now) l.ends; flights = []; cut = true })).delay ≡ l.delay) [ true ↦ refl | false ↦ refl ]

cut_storm : (now : ℕ) (l : Line) → (cut_line now l).storm ≡ l.storm
cut_storm now l = elim l.cut as (λ b. (cond b l (record l { ends = map (cut_off now) l.ends; flights = []; cut = true })).storm ≡ l.storm) [ true ↦ refl | false ↦ refl ]

cut_copies : (k now : ℕ) (l : Line) → copies_of k l.flights ≡ [] → copies_of k (cut_line now l).flights ≡ copies_of k l.flights
cut_copies k now l none = elim l.cut as (λ b. copies_of k (cond b l (record l { ends = map (cut_off now) l.ends; flights = []; cut = true })).flights ≡ copies_of k l.flights) [ true ↦ refl | false ↦ sym none ]

carry_cut : (k now : ℕ) (l : Line) → copies_of k l.flights ≡ [] → Carries k now l → Carries k now (cut_line now l)
carry_cut k now l none c = states_alike k now l (cut_line now l) (cut_delay now l) (cut_storm now l) (cut_states now l) (cut_copies k now l none) c

carry_cuts : (fac k : ℕ) (a : Air) (wire : ℕ) (r : Result (Unit {0}) WireError) (a' : Air) → ((l : Line) → wire ≡ fac → wire_at a fac ≡ Some l → copies_of k l.flights ≡ []) → OnWire (Carries k) fac a → CutsOn a wire r a' → OnWire (Carries k) fac a'
carry_cuts fac k a wire (Ok done) a' none c g = subst (OnWire (Carries k) fac) (sym g.air) (carry_wire (Carries k) fac a wire (cut_line a.now) c (λ l same h d. carry_cut k a.now l (none l same (rw (← same) h)) d))
carry_cuts fac k a wire (Err e) a' none c g = subst (OnWire (Carries k) fac) (sym g.air) c

pub keeps_cuts : (fac k : ℕ) (a : Air) (wire : ℕ) (r : Result (Unit {0}) WireError) (a' : Air) → ((l : Line) → wire ≡ fac → wire_at a fac ≡ Some l → copies_of k l.flights ≡ []) → IsCarrying fac k a → CutsOn a wire r a' → IsCarrying fac k a'
keeps_cuts fac k a wire r a' none c g = record { sound = sound_cuts a wire r a' c.sound g; holds = carry_cuts fac k a wire r a' none c.holds g }

-- ---- free

allocated_by : (s : PortState) → is_allocated s ≡ true → s ≡ Allocated
allocated_by Pending h = cc
allocated_by Allocated h = refl
allocated_by (Refused why) h = cc
allocated_by (Failed fail) h = cc
allocated_by Closed h = cc

freed_delay : (l : Line) (i : ℕ) (e : End) → (freed_at l i e).delay ≡ l.delay
freed_delay l i e = elim (is_allocated e.state) as (λ b. (cond b (record l { ends = closed_both l.ends i; flights = [] }) l).delay ≡ l.delay) [ true ↦ refl | false ↦ refl ]

freed_storm : (l : Line) (i : ℕ) (e : End) → (freed_at l i e).storm ≡ l.storm
freed_storm l i e = elim (is_allocated e.state) as (λ b. (cond b (record l { ends = closed_both l.ends i; flights = [] }) l).storm ≡ l.storm) [ true ↦ refl | false ↦ refl ]

freed_copies : (k : ℕ) (l : Line) (i : ℕ) (e : End) → (is_allocated e.state ≡ true → copies_of k l.flights ≡ []) → copies_of k (freed_at l i e).flights ≡ copies_of k l.flights
freed_copies k l i e none = elim (is_allocated e.state) as (λ b. (b ≡ true → copies_of k l.flights ≡ []) → copies_of k (cond b (record l { ends = closed_both l.ends i; flights = [] }) l).flights ≡ copies_of k l.flights) [ true ↦ λ n. sym (n refl) | false ↦ λ n. refl ] none

-- a port that is allocated has no copy of the frame in flight with it
abbrev pub NoneWith : ℕ → ℕ → Air → Port → Type 0
NoneWith fac k a port = (l : Line) → port.fac ≡ fac → state_of (seen_of a) port ≡ Some Allocated → wire_at a fac ≡ Some l → copies_of k l.flights ≡ []

carry_freed : (fac k : ℕ) (a : Air) (port : Port) (l : Line) (i : ℕ) (e : End) → NoneWith fac k a port → port.fac ≡ fac → wire_at a port.fac ≡ Some l → place_in port l.ends ≡ Some i → slice_get l.ends i ≡ Some e → KeepsFlows a.now a.failed port.fac l → Carries k a.now l → Carries k a.now (freed_at l i e)
carry_freed fac k a port l i e none same h place at flows c =
    let states = freed_states a.now a.failed port.fac l i e flows at in
    states_alike k a.now l (freed_at l i e) (freed_delay l i e) (freed_storm l i e) states (freed_copies k l i e (λ is_open.
    let is : end_of (seen_of a) port ≡ Some e = end_is a port ∙ stands_at a port l i e h place at in
    let state : state_of (seen_of a) port ≡ Some Allocated = ap (option_map (λ (z : End). z.state)) is ∙ ap (λ s. Some s) (allocated_by e.state is_open) in
    none l same state (rw (← same) h))) c

carry_frees : (fac k : ℕ) (a : Air) (port : Port) (r : Result (Unit {0}) FreeError) (a' : Air) → NoneWith fac k a port → IsSound a → OnWire (Carries k) fac a → FreesOn a port r a' → OnWire (Carries k) fac a'
carry_frees fac k a port (Ok done) a' none s c g = subst (OnWire (Carries k) fac) (sym g.air) (carry_end (Carries k) fac a port freed_at c (λ l i e same h place at d. carry_freed fac k a port l i e none same h place at (s.flows port.fac l h) d))
carry_frees fac k a port (Err frees.Memory) a' none s c g = subst (OnWire (Carries k) fac) (sym g) c
carry_frees fac k a port (Err frees.NoPort) a' none s c g = subst (OnWire (Carries k) fac) (sym g.air) c

pub keeps_frees : (fac k : ℕ) (a : Air) (port : Port) (r : Result (Unit {0}) FreeError) (a' : Air) → NoneWith fac k a port → IsCarrying fac k a → FreesOn a port r a' → IsCarrying fac k a'
keeps_frees fac k a port r a' none c g = record { sound = sound_frees a port r a' c.sound g; holds = carry_frees fac k a port r a' none c.sound c.holds g }
