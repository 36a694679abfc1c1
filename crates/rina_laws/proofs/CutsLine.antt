-- No call on wires but `cut` fails an end of a wire.
use Rattle.std.proofs.Common.{◌≡◌, ℕ, ◌+◌, true, false, cond, List, [], ◌∷◌, ◌++◌, fold, map, slice_get, slice_set, Some, None, Option, refl, sym, ◌∙◌, ap, subst, inl, inr, ◌⊎◌}
use Rattle.rina_iface.specs.declared.ask.Ask.{Ask}
use Rattle.rina_iface.specs.declared.ends.End.{End}
use Rattle.rina_iface.specs.declared.state.Fail.{Fail}
use Rattle.rina_iface.specs.declared.state.Fail.TheVariants.{Cut}
use Rattle.rina_iface.specs.declared.state.PortState.{PortState}
use Rattle.rina_iface.specs.declared.state.PortState.TheVariants.{Pending, Allocated, Refused, Failed, Closed}
use Rattle.rina_iface.specs.Allocate.{asker_end, far_end}
use Rattle.rina_iface.specs.Ends.{with_got, with_passed, with_sent}
use Rattle.rina_iface.specs.Journal.{At}
use Rattle.rina_iface.specs.State.{cut_off, cut_state, with_state}
use Rattle.rina_iface.proofs.Changed.{set_at}
use Rattle.rina_dif_law.proofs.Own.{map_at}
use Rattle.rina_wire.specs.declared.flight.Flight.{Flight}
use Rattle.rina_wire.specs.Air.{Line}
use Rattle.rina_wire.specs.Allocate.{flow_made, flow_on, is_allocated, other_node, port_on}
use Rattle.rina_wire.specs.Claim.{without}
use Rattle.rina_wire.specs.Cut.{cut_line}
use Rattle.rina_wire.specs.Free.{closed_at, closed_both, closed_in, freed_at}
use Rattle.rina_wire.specs.Send.{mate}
use Rattle.rina_wire.specs.Tick.{arrival, looked_at}
use Rattle.rina_wire.proofs.Arrivals.{looks}
use Rattle.rina_laws.proofs.LabelGrown.{two_at}
use Rattle.rina_laws.proofs.WiresCalls.{KeepsLine}

-- one of these ends has failed so
pub record HasFailed (fail : Fail) (ends : List End) : Type 0 where
  pub place : ℕ
  pub end : End
  pub stands : At ends place end
  pub failed : end.state ≡ Failed fail

-- an end of a wire that has failed so is told by this
abbrev pub Explains : Fail → Type 0 → ℕ → Line → Type 0
Explains fail Why now l = HasFailed fail l.ends → Why

-- one end changed, and did not fail by it
back_set : (fail : Fail) (ends : List End) (p : ℕ) (old new : End) → At ends p old → (new.state ≡ Failed fail → old.state ≡ Failed fail) → HasFailed fail (slice_set ends p new) → HasFailed fail ends
back_set fail ends p old new there back h = elim (set_at ends p h.place old new h.end there h.stands) [
  | inl t ↦ record { place = p; end = old; stands = there; failed = back (ap (λ (z : End). z.state) (sym t.1) ∙ h.failed) }
  | inr f ↦ record { place = h.place; end = h.end; stands = f.1; failed = h.failed }
]

-- two ends were added, which had not failed
back_two : (fail : Fail) (ends : List End) (x y : End) → x.state ≡ Allocated → y.state ≡ Allocated → HasFailed fail (ends ++ x ∷ y ∷ []) → HasFailed fail ends
back_two fail ends x y first second h = elim (two_at ends x y h.place h.end h.stands) [
  | inl o ↦ record { place = h.place; end = h.end; stands = o; failed = h.failed }
  | inr n ↦ elim n [
    | inl t ↦ let clash : Allocated ≡ Failed fail = sym first ∙ ap (λ (z : End). z.state) (sym t.1) ∙ h.failed in cc
    | inr t ↦ let clash : Allocated ≡ Failed fail = sym second ∙ ap (λ (z : End). z.state) (sym t.1) ∙ h.failed in cc
  ]
]

-- ---- ticks

back_looked : (fail : Fail) (now : ℕ) (ends : List End) (f : Flight) → HasFailed fail (looked_at now ends f) → HasFailed fail ends
back_looked fail now ends f h = elim (looks now ends f) [
  | inl same ↦ subst (HasFailed fail) same h
  | inr a ↦ back_set fail ends f.to a.end (with_got a.end (arrival now f)) a.stands (λ failed. failed) (subst (HasFailed fail) a.is h)
]

back_fold : (fail : Fail) (now : ℕ) (ends : List End) (fs : List Flight) → HasFailed fail (fold (looked_at now) ends fs) → HasFailed fail ends
back_fold fail now ends [] h = h
back_fold fail now ends (f ∷ fs) h = back_looked fail now ends f (back_fold fail now (looked_at now ends f) fs h)

-- ---- the end of a flow

back_closed_in : (fail : Fail) (ends : List End) (place : ℕ) (o : Option End) → slice_get ends place ≡ o → HasFailed fail (closed_in ends place o) → HasFailed fail ends
back_closed_in fail ends place None is h = h
back_closed_in fail ends place (Some e) is h = back_set fail ends place e (with_state e Closed) is (λ failed. cc) h

back_closed : (fail : Fail) (ends : List End) (place : ℕ) → HasFailed fail (closed_both ends place) → HasFailed fail ends
back_closed fail ends place h =
    let once = closed_at ends place in
    back_closed_in fail ends place (slice_get ends place) refl (back_closed_in fail once (mate place) (slice_get once (mate place)) refl h)

pub back_freed : (fail : Fail) (l : Line) (i : ℕ) (e : End) → HasFailed fail (freed_at l i e).ends → HasFailed fail l.ends
back_freed fail l i e = elim (is_allocated e.state) as (λ b. HasFailed fail (cond b (record l { ends = closed_both l.ends i; flights = [] }) l).ends → HasFailed fail l.ends) [
  | true ↦ back_closed fail l.ends i
  | false ↦ λ h. h
]

-- ---- cut

-- an end that its wire's cut failed, did so at this tick
failed_now : (fail : Fail) (now : ℕ) (s : PortState) → cut_state now s ≡ Failed fail → (s ≡ Failed fail) ⊎ (fail ≡ Cut now)
failed_now fail now Pending h = cc
failed_now fail now Allocated h = inr cc
failed_now fail now (Refused why) h = cc
failed_now fail now (Failed other) h = inl h
failed_now fail now Closed h = cc

cut_all : (fail : Fail) (now : ℕ) (ends : List End) → HasFailed fail (map (cut_off now) ends) → HasFailed fail ends ⊎ (fail ≡ Cut now)
cut_all fail now ends h =
    let m = map_at (cut_off now) ends h.place h.end h.stands in
    let state : cut_state now m.0.state ≡ Failed fail = ap (λ (z : End). z.state) (sym m.2) ∙ h.failed in
    elim (failed_now fail now m.0.state state) [
      | inl was ↦ inl (record { place = h.place; end = m.0; stands = m.1; failed = was })
      | inr is ↦ inr is
    ]

pub back_cut : (fail : Fail) (now : ℕ) (l : Line) → HasFailed fail (cut_line now l).ends → HasFailed fail l.ends ⊎ (fail ≡ Cut now)
back_cut fail now l = elim l.cut as (λ b. HasFailed fail (cond b l (record l { ends = map (cut_off now) l.ends; flights = []; cut = true })).ends → HasFailed fail l.ends ⊎ (fail ≡ Cut now)) [
  | true ↦ λ h. inl h
  | false ↦ cut_all fail now l.ends
]

-- ---- all other calls

back_flow : (fail : Fail) (now : ℕ) (ask : Ask) (l : Line) → HasFailed fail (flow_made now ask l).ends → HasFailed fail l.ends
back_flow fail now ask l h =
    let flow = flow_on l now ask.node in
    back_two fail l.ends (asker_end flow (port_on l ask.fac ask.node) ask 0 Allocated) (far_end flow (port_on l ask.fac (other_node l ask.node)) ask 0) refl refl h

claimed : (fail : Fail) (Why : Type 0) (now : ℕ) (l : Line) (o : Option ℕ) → Explains fail Why now l → Explains fail Why now (without l o)
claimed fail Why now l None why h = why h
claimed fail Why now l (Some at) why h = why h

pub explains : (fail : Fail) (Why : Type 0) → KeepsLine (Explains fail Why)
explains fail Why = record {
  unnamed = λ now node app l why h. why h;
  flow = λ now ask l free why h. why (back_flow fail now ask l h);
  claimed = claimed fail Why;
  sent = λ now failed fac bytes l i e line flows alive at why h. why (back_set fail l.ends i e (with_sent e _) at (λ state. state) h);
  passed = λ now l i e at why h. why (back_set fail l.ends i e (with_passed e) at (λ state. state) h);
  ticked = λ before failed fac l alive flows why h. why (back_fold fail (before + 1) l.ends l.flights h);
  mended = λ now l why h. why h;
}
