-- Each wire stays as it was laid.
use Rattle.std.proofs.Common.{◌≡◌, ℕ, true, false, cond, List, [], map, slice_get, Some, None, Option, option_map, sym, ◌∙◌, ap}
use Rattle.std.proofs.lemmas.Option.{same_Some, slice_get-map}
use Rattle.rina_base.specs.declared.storm.Storm.{Storm}
use Rattle.rina_iface.specs.declared.ends.End.{End}
use Rattle.rina_iface.specs.State.{cut_off}
use Rattle.rina_iface.proofs.Changed.{all_at}
use Rattle.rina_policy.specs.Slots.{Slot}
use Rattle.rina_stack.specs.declared.plan.Plan.{Plan}
use Rattle.rina_stack.specs.declared.plan.WirePlan.{WirePlan}
use Rattle.rina_wire.specs.declared.flight.Flight.{Flight}
use Rattle.rina_wire.specs.Air.{Air, Line, wire_at}
use Rattle.rina_wire.specs.Allocate.{is_allocated}
use Rattle.rina_wire.specs.Claim.{without}
use Rattle.rina_wire.specs.Cut.{cut_line}
use Rattle.rina_wire.specs.Disturb.{copy_place, first_copy, moved, moved_at, with_copy, without_copy}
use Rattle.rina_wire.specs.Free.{closed_both, freed_at}
use Rattle.rina_wire.specs.Plan.{line_of}
use Rattle.rina_wire.specs.Sound.{IsSound, IsSoundLine}
use Rattle.rina_wire.specs.Storm.{draws_at}
use Rattle.rina_words.specs.Step.{Stage}
use Rattle.rina_run.specs.Opening.{IsOpening}
use Rattle.rina_laws.specs.Frames.{wires_of}
use Rattle.rina_laws.specs.Starts.{without_flows}
use Rattle.rina_laws.specs.WiresPlanned.{IsAsLaid, WiresDrawByFrames, WiresStayAsPlanned}
use Rattle.rina_laws.proofs.StartsAt.{wires_start}
use Rattle.rina_laws.proofs.WiresAt.{Holds}
use Rattle.rina_laws.proofs.WiresCalls.{HasWire, KeepsLine}
use Rattle.rina_laws.proofs.WiresOf.{wires_sound}
use Rattle.rina_laws.proofs.WiresRun.{KeepsEvents, runs_keep}

-- at every tick
abbrev Laid : WirePlan → ℕ → Line → Type 0
Laid w now l = IsAsLaid w l

claimed : (w : WirePlan) (now : ℕ) (l : Line) (o : Option ℕ) → IsAsLaid w l → IsAsLaid w (without l o)
claimed w now l None h = h
claimed w now l (Some at) h = h

calls : (w : WirePlan) → KeepsLine (Laid w)
calls w = record {
  unnamed = λ now node app l h. h;
  flow = λ now ask l free h. h;
  claimed = claimed w;
  sent = λ now failed fac bytes l i e line flows alive at h. h;
  passed = λ now l i e at h. h;
  ticked = λ before failed fac l alive flows h. h;
  mended = λ now l h. h;
}

without_one : (w : WirePlan) (l : Line) (o : Option ℕ) → IsAsLaid w l → IsAsLaid w (without_copy l o)
without_one w l None h = h
without_one w l (Some place) h = h

moved_one : (w : WirePlan) (at : ℕ) (l : Line) (o : Option ℕ) → IsAsLaid w l → IsAsLaid w (moved at l o)
moved_one w at l None h = h
moved_one w at l (Some place) h = elim (slice_get l.flights place) as (λ o. IsAsLaid w (moved_at at l place o)) [ None ↦ h | Some f ↦ h ]

with_one : (w : WirePlan) (at : ℕ) (l : Line) (o : Option Flight) → IsAsLaid w l → IsAsLaid w (with_copy at l o)
with_one w at l None h = h
with_one w at l (Some f) h = h

freed_one : (w : WirePlan) (l : Line) (i : ℕ) (e : End) → IsAsLaid w l → IsAsLaid w (freed_at l i e)
freed_one w l i e h = elim (is_allocated e.state) as (λ b. IsAsLaid w (cond b (record l { ends = closed_both l.ends i; flights = [] }) l)) [ true ↦ h | false ↦ h ]

cut_one : (w : WirePlan) (now : ℕ) (l : Line) → IsAsLaid w l → IsAsLaid w (cut_line now l)
cut_one w now l h = elim l.cut as (λ b. IsAsLaid w (cond b l (record l { ends = map (cut_off now) l.ends; flights = []; cut = true }))) [ true ↦ h | false ↦ h ]

happens : (w : WirePlan) → KeepsEvents (Laid w)
happens w = record {
  lost = λ now frame l h. without_one w l (copy_place frame l.flights) h;
  held = λ now frame at l h. moved_one w at l (copy_place frame l.flights) h;
  repeated = λ now frame at l h. with_one w at l (first_copy frame l.flights) h;
  freed = λ now l i e at h. freed_one w l i e h;
  cut = cut_one w;
}

-- where a run begins
laid_at : (plan : Plan) (shelf : List Slot) (start : Stage) (fac : ℕ) (w : WirePlan) → IsOpening plan shelf start → slice_get plan.wires fac ≡ Some w → (l : Line) → wire_at (wires_of start.run.tower) fac ≡ Some l → IsAsLaid w l
laid_at plan shelf start fac w o planned l wire =
    let a = wires_of start.run.tower in
    let lines : map without_flows a.wires ≡ map line_of plan.wires = ap (λ (z : Air). z.wires) (wires_start plan shelf start o) in
    let there : slice_get (map without_flows a.wires) fac ≡ Some (without_flows l) = slice_get-map without_flows a.wires fac ∙ ap (option_map without_flows) wire in
    let wanted : slice_get (map line_of plan.wires) fac ≡ Some (line_of w) = slice_get-map line_of plan.wires fac ∙ ap (option_map line_of) planned in
    let same : without_flows l ≡ line_of w = same_Some (without_flows l) (line_of w) (sym there ∙ ap (λ (ls : List Line). slice_get ls fac) lines ∙ wanted) in
    (ap (λ (x : Line). x.a) same, ap (λ (x : Line). x.b) same, ap (λ (x : Line). x.delay) same, ap (λ (x : Line). x.life) same, ap (λ (x : Line). x.largest) same, ap (λ (x : Line). x.storm) same)

pub wires_stay : WiresStayAsPlanned
wires_stay plan shelf start lines ns s o d fac w l planned wire =
    let begins : Holds (HasWire (Laid w) fac) start.run.tower = record { sound = wires_sound start.run.tower o.stands; holds = laid_at plan shelf start fac w o planned } in
    (runs_keep (Laid w) (calls w) (λ now node app l h. h) (happens w) fac plan 1 start lines ns s d begins).holds l wire

pub wires_draw : WiresDrawByFrames
wires_draw plan shelf start lines ns s o d fac w l planned wire =
    let begins : Holds (HasWire (Laid w) fac) start.run.tower = record { sound = wires_sound start.run.tower o.stands; holds = laid_at plan shelf start fac w o planned } in
    let sound : IsSound (wires_of s.run.tower) = (runs_keep (Laid w) (calls w) (λ now node app l h. h) (happens w) fac plan 1 start lines ns s d begins).sound in
    let line : IsSoundLine l = all_at IsSoundLine (wires_of s.run.tower).wires fac l sound.lines wire in
    line.draws ∙ ap (λ (x : Option Storm). draws_at x l.frames) (wires_stay plan shelf start lines ns s o d fac w l planned wire).5
