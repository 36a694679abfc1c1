-- Each call on wires keeps a frame carried.
use Rattle.std.proofs.Common.{◌≡◌, ℕ, ◌+◌, ◌==◌, Bool, false, List, [], ◌∷◌, Some, None, Option, refl, ◌∙◌}
use Rattle.rina_iface.specs.declared.ask.Ask.{Ask}
use Rattle.rina_iface.specs.declared.ends.End.{End}
use Rattle.rina_iface.specs.declared.state.PortState.TheVariants.{Allocated}
use Rattle.rina_iface.specs.Allocate.{asker_end, far_end}
use Rattle.rina_iface.specs.Ends.{with_passed}
use Rattle.rina_iface.specs.Journal.{At}
use Rattle.rina_iface.proofs.Grown.{still_at}
use Rattle.rina_wire.specs.declared.flight.Flight.{Flight}
use Rattle.rina_wire.specs.Air.{Air, Line}
use Rattle.rina_wire.specs.Allocate.{flow_made, flow_on, other_node, port_on}
use Rattle.rina_wire.specs.Claim.{without}
use Rattle.rina_wire.specs.Cut.{mended}
use Rattle.rina_wire.specs.Register.{named}
use Rattle.rina_wire.specs.Send.{mate, passed_at}
use Rattle.rina_wire.specs.Sound.{IsCopy, KeepsFlows}
use Rattle.rina_wire.specs.Unregister.{unnamed}
use Rattle.rina_wire.proofs.FlowMade.{sent_before}
use Rattle.rina_wire.proofs.Mates.{mate_mate}
use Rattle.rina_laws.proofs.FramesKept.{Carries, alike_ends, carry_on, carry_sent, set_back, set_on}
use Rattle.rina_laws.proofs.FramesLists.{holds_of}
use Rattle.rina_laws.proofs.FramesTick.{GoesOpen, carry_ticked}
use Rattle.rina_laws.proofs.WiresCalls.{HasWire, KeepsLine}

-- the wires are sound, and frame k of wire `fac` is carried
abbrev pub IsCarrying : ℕ → ℕ → Air → Type 0
IsCarrying fac k = HasWire (Carries k) fac

carry_flow : (k now : ℕ) (ask : Ask) (l : Line) → Carries k now l → Carries k now (flow_made now ask l)
carry_flow k now ask l c =
    let flow = flow_on l now ask.node in
    let x = asker_end flow (port_on l ask.fac ask.node) ask 0 Allocated in
    let y = far_end flow (port_on l ask.fac (other_node l ask.node)) ask 0 in
    carry_on k now l (flow_made now ask l) (record {
      delay = refl;
      storm = refl;
      back = λ i j e z h is n. let old = sent_before l.ends x y i j e z refl refl h is in record { end = e; stands = old; place = j; is = is };
      on = λ i e h. record { end = e; stands = still_at l.ends (x ∷ y ∷ []) i e h; its = refl };
      copies = refl;
    }) c

carry_without : (k now : ℕ) (l : Line) (o : Option ℕ) → Carries k now l → Carries k now (without l o)
carry_without k now l None c = c
carry_without k now l (Some at) c = carry_on k now l (without l (Some at)) (alike_ends k l (without l (Some at)) refl refl refl refl) c

carry_pass : (k now : ℕ) (l : Line) (i : ℕ) (e : End) → At l.ends i e → Carries k now l → Carries k now (passed_at l i e)
carry_pass k now l i e there c = carry_on k now l (passed_at l i e) (record {
  delay = refl;
  storm = refl;
  back = λ p j d x h is n. set_back l.ends i e (with_passed e) k p j d x there refl h is;
  on = λ p d h. set_on l.ends i e (with_passed e) p d there refl h;
  copies = refl;
}) c

opens : (k now : ℕ) (failed : Bool) (fac : ℕ) (l : Line) → failed ≡ false → KeepsFlows now failed fac l → GoesOpen k l
opens k now failed fac l alive flows c other one stands =
    let copy : IsCopy l.life now l.ends c = holds_of (λ (f : Flight). f.frame == k) (IsCopy l.life now l.ends) l.flights c (flows.copies alive) one in
    (flows.sound.mates (mate c.to) copy.sender other copy.stands (rw (mate_mate c.to) stands)).state ∙ copy.allocated

pub carry_named : (k now node : ℕ) (app : List ℕ) (l : Line) → Carries k now l → Carries k now (named node app l)
carry_named k now node app l c = carry_on k now l (named node app l) (alike_ends k l (named node app l) refl refl refl refl) c

pub frame_line : (k : ℕ) → KeepsLine (Carries k)
frame_line k = record {
  unnamed = λ now node app l c. carry_on k now l (unnamed node app l) (alike_ends k l (unnamed node app l) refl refl refl refl) c;
  flow = λ now ask l free c. carry_flow k now ask l c;
  claimed = carry_without k;
  sent = carry_sent k;
  passed = carry_pass k;
  ticked = λ before failed fac l alive flows c. carry_ticked k before (before + 1) l refl (opens k before failed fac l alive flows) c;
  mended = λ now l c. carry_on k now l (mended l) (alike_ends k l (mended l) refl refl refl refl) c;
}
