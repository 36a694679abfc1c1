use Rattle.std.proofs.Common.{◌≡◌, ◌∙◌, ℕ, None, Ok, Option, Some, ap, subst, sym}
use Rattle.std.proofs.lemmas.Result.{err_from_is_err_and}
use Rattle.rina_iface.specs.Free.{FreesAsSeen}
use Rattle.rina_iface.specs.Seen.{Seen}
use Rattle.rina_data.specs.declared.step.ClockStep.{ClockStep}
use Rattle.rina_dif.specs.declared.dif.Dif.{Dif}
use Rattle.rina_dif.specs.Clocking.{ServesHere}
use Rattle.rina_dif.specs.Holding.{Holds, Stands}
use Rattle.rina_dif.specs.Messaging.{OffersAmong}
use Rattle.rina_dif.proofs.KeptAsks.{none_keeps}
use Rattle.rina_dif.proofs.MessageSteps.{idle_below, idle_same, manages_none, message_manages, message_serves, none_serves, serves_more, serves_none, stays_none, tell_short}
use Rattle.rina_dif.proofs.dif.Dif.serve_any.Goals as goal

pub offer_message-requires-clause-stands : goal.offer_message-requires-clause-stands
offer_message-requires-clause-stands g c =
    let d = c.args.self.now in
    let b1 = c.serve_next.new.below in
    let same : c.serve_next.new.self ≡ d = idle_same c.in_ok-done.done (c.serve_next.new.self ≡ d) c.in-Idle.is c.in_ok-done.ensures.idle in
    let low : b1 ≡ c.args.below.now = idle_below (b1 ≡ c.args.below.now) (FreesAsSeen g.F.Facility.seen g.F.Facility.frees_both g.F.Facility.does_free c.args.below.now b1) c.in_ok-done.done c.in-Idle.is c.in_ok-done.ensures.lower in
    subst (λ (z : Dif). Stands z (g.F.Facility.seen b1)) (sym same) (subst (λ (s : Seen). Stands d s) (sym (ap g.F.Facility.seen low)) c.requires.stands)

pub offer_message-requires-clause-tell : goal.offer_message-requires-clause-tell
offer_message-requires-clause-tell g c =
    let d = c.args.self.now in
    let below = g.F.Facility.seen c.args.below.now in
    let same : c.serve_next.new.self ≡ d = idle_same c.in_ok-done.done (c.serve_next.new.self ≡ d) c.in-Idle.is c.in_ok-done.ensures.idle in
    tell_short c.serve_next.new.self below (subst (λ (z : Dif). Stands z below) (sym same) c.requires.stands)

pub returns-in-Some-clause-does : goal.returns-in-Some-clause-does
returns-in-Some-clause-does g c = λ lines h.
    let d = c.args.self.now in
    let d1 = c.serve_next.new.self in
    let b1 = c.serve_next.new.below in
    let below = g.F.Facility.seen c.args.below.now in
    let same : d1 ≡ d = idle_same c.in_ok-done.done (d1 ≡ d) c.in-Idle.is c.in_ok-done.ensures.idle in
    let low : b1 ≡ c.args.below.now = idle_below (b1 ≡ c.args.below.now) (FreesAsSeen g.F.Facility.seen g.F.Facility.frees_both g.F.Facility.does_free c.args.below.now b1) c.in_ok-done.done c.in-Idle.is c.in_ok-done.ensures.lower in
    let seen : g.F.Facility.seen b1 ≡ below = ap g.F.Facility.seen low in
    let idle = subst (λ (z : ClockStep). ServesHere d lines below c.args.node (Ok z) d1 (g.F.Facility.seen b1)) c.in-Idle.is (c.in_ok-done.ensures.does lines h) in
    let there = c.in_ok-link-in-Idle.ensures.does lines (subst (λ (s : Seen). Holds d1 lines s) (sym seen) (subst (λ (z : Dif). Holds z lines below) (sym same) h)) in
    let offers = subst (λ (s : Seen). OffersAmong d1 lines s c.args.at (Ok (Some c.in-Some.link)) c.offer_message.new.self) seen (subst (λ (o : Option ℕ). OffersAmong d1 lines (g.F.Facility.seen b1) c.args.at (Ok o) c.offer_message.new.self) c.in-Some.is there) in
    message_serves d lines below (g.F.Facility.seen b1) c.args.at c.args.node c.in-Some.link d1 c.offer_message.new.self c.requires.home same seen c.in_ok-link-in-Idle.ensures.whole h idle offers

pub returns-in-Some-clause-lower : goal.returns-in-Some-clause-lower
returns-in-Some-clause-lower g c =
    let b1 = c.serve_next.new.below in
    idle_below (b1 ≡ c.args.below.now) (FreesAsSeen g.F.Facility.seen g.F.Facility.frees_both g.F.Facility.does_free c.args.below.now b1) c.in_ok-done.done c.in-Idle.is c.in_ok-done.ensures.lower

pub returns-in-Some-clause-manages : goal.returns-in-Some-clause-manages
returns-in-Some-clause-manages g c =
    let d = c.args.self.now in
    let d1 = c.serve_next.new.self in
    let b1 = c.serve_next.new.below in
    let below = g.F.Facility.seen c.args.below.now in
    let st = c.requires.stands in
    let same : d1 ≡ d = idle_same c.in_ok-done.done (d1 ≡ d) c.in-Idle.is c.in_ok-done.ensures.idle in
    let low : b1 ≡ c.args.below.now = idle_below (b1 ≡ c.args.below.now) (FreesAsSeen g.F.Facility.seen g.F.Facility.frees_both g.F.Facility.does_free c.args.below.now b1) c.in_ok-done.done c.in-Idle.is c.in_ok-done.ensures.lower in
    let seen : g.F.Facility.seen b1 ≡ below = ap g.F.Facility.seen low in
    let there = c.in_ok-link-in-Idle.ensures.does st.0 (subst (λ (s : Seen). Holds d1 st.0 s) (sym seen) (subst (λ (z : Dif). Holds z st.0 below) (sym same) st.1)) in
    let offers = subst (λ (s : Seen). OffersAmong d1 st.0 s c.args.at (Ok (Some c.in-Some.link)) c.offer_message.new.self) seen (subst (λ (o : Option ℕ). OffersAmong d1 st.0 (g.F.Facility.seen b1) c.args.at (Ok o) c.offer_message.new.self) c.in-Some.is there) in
    message_manages d st.0 below c.args.at c.args.node c.in-Some.link d1 c.offer_message.new.self same st.1 offers

pub returns-in-None-clause-does : goal.returns-in-None-clause-does
returns-in-None-clause-does g c = λ lines h.
    let d = c.args.self.now in
    let d1 = c.serve_next.new.self in
    let b1 = c.serve_next.new.below in
    let below = g.F.Facility.seen c.args.below.now in
    let same : d1 ≡ d = idle_same c.in_ok-done.done (d1 ≡ d) c.in-Idle.is c.in_ok-done.ensures.idle in
    let low : b1 ≡ c.args.below.now = idle_below (b1 ≡ c.args.below.now) (FreesAsSeen g.F.Facility.seen g.F.Facility.frees_both g.F.Facility.does_free c.args.below.now b1) c.in_ok-done.done c.in-Idle.is c.in_ok-done.ensures.lower in
    let seen : g.F.Facility.seen b1 ≡ below = ap g.F.Facility.seen low in
    let idle = subst (λ (z : ClockStep). ServesHere d lines below c.args.node (Ok z) d1 (g.F.Facility.seen b1)) c.in-Idle.is (c.in_ok-done.ensures.does lines h) in
    let there = c.in_ok-link-in-Idle.ensures.does lines (subst (λ (s : Seen). Holds d1 lines s) (sym seen) (subst (λ (z : Dif). Holds z lines below) (sym same) h)) in
    let offers = subst (λ (s : Seen). OffersAmong d1 lines s c.args.at (Ok None) c.offer_message.new.self) seen (subst (λ (o : Option ℕ). OffersAmong d1 lines (g.F.Facility.seen b1) c.args.at (Ok o) c.offer_message.new.self) c.in-None.is there) in
    none_serves d lines below (g.F.Facility.seen b1) c.args.at c.args.node d1 c.offer_message.new.self c.requires.home same idle offers

pub returns-in-None-clause-lower : goal.returns-in-None-clause-lower
returns-in-None-clause-lower g c =
    let b1 = c.serve_next.new.below in
    idle_below (b1 ≡ c.args.below.now) (FreesAsSeen g.F.Facility.seen g.F.Facility.frees_both g.F.Facility.does_free c.args.below.now b1) c.in_ok-done.done c.in-Idle.is c.in_ok-done.ensures.lower

pub returns-in-None-clause-manages : goal.returns-in-None-clause-manages
returns-in-None-clause-manages g c =
    let d = c.args.self.now in
    let d1 = c.serve_next.new.self in
    let b1 = c.serve_next.new.below in
    let below = g.F.Facility.seen c.args.below.now in
    let same : d1 ≡ d = idle_same c.in_ok-done.done (d1 ≡ d) c.in-Idle.is c.in_ok-done.ensures.idle in
    let low : b1 ≡ c.args.below.now = idle_below (b1 ≡ c.args.below.now) (FreesAsSeen g.F.Facility.seen g.F.Facility.frees_both g.F.Facility.does_free c.args.below.now b1) c.in_ok-done.done c.in-Idle.is c.in_ok-done.ensures.lower in
    let seen : g.F.Facility.seen b1 ≡ below = ap g.F.Facility.seen low in
    let st = c.requires.stands in
    let there = c.in_ok-link-in-Idle.ensures.does st.0 (subst (λ (s : Seen). Holds d1 st.0 s) (sym seen) (subst (λ (z : Dif). Holds z st.0 below) (sym same) st.1)) in
    let offers = subst (λ (o : Option ℕ). OffersAmong d1 st.0 (g.F.Facility.seen b1) c.args.at (Ok o) c.offer_message.new.self) c.in-None.is there in
    ap (λ (z : Dif). z.managements) (offers.1 ∙ same)

pub returns-in_err-link-in-Idle-clause-does : goal.returns-in_err-link-in-Idle-clause-does
returns-in_err-link-in-Idle-clause-does g c = λ lines h.
    let d = c.args.self.now in
    let d1 = c.serve_next.new.self in
    let b1 = c.serve_next.new.below in
    let below = g.F.Facility.seen c.args.below.now in
    let same : d1 ≡ d = idle_same c.in_ok-done.done (d1 ≡ d) c.in-Idle.is c.in_ok-done.ensures.idle in
    let low : b1 ≡ c.args.below.now = idle_below (b1 ≡ c.args.below.now) (FreesAsSeen g.F.Facility.seen g.F.Facility.frees_both g.F.Facility.does_free c.args.below.now b1) c.in_ok-done.done c.in-Idle.is c.in_ok-done.ensures.lower in
    let seen : g.F.Facility.seen b1 ≡ below = ap g.F.Facility.seen low in
    let err = err_from_is_err_and c.from_residual-in_err-link-in-Idle.result c.from_residual-in_err-link-in-Idle.ensures.1 in
    let stays = c.in_err-link-in-Idle.ensures.does lines (subst (λ (s : Seen). Holds d1 lines s) (sym seen) (subst (λ (z : Dif). Holds z lines below) (sym same) h)) in
    serves_none d lines below (g.F.Facility.seen b1) c.args.node c.from_residual-in_err-link-in-Idle.result err.0 c.offer_message.new.self err.2 err.1 (stays ∙ same) seen h

pub returns-in_err-link-in-Idle-clause-stays : goal.returns-in_err-link-in-Idle-clause-stays
returns-in_err-link-in-Idle-clause-stays g c =
    let d = c.args.self.now in
    let d1 = c.serve_next.new.self in
    let b1 = c.serve_next.new.below in
    let below = g.F.Facility.seen c.args.below.now in
    let same : d1 ≡ d = idle_same c.in_ok-done.done (d1 ≡ d) c.in-Idle.is c.in_ok-done.ensures.idle in
    let low : b1 ≡ c.args.below.now = idle_below (b1 ≡ c.args.below.now) (FreesAsSeen g.F.Facility.seen g.F.Facility.frees_both g.F.Facility.does_free c.args.below.now b1) c.in_ok-done.done c.in-Idle.is c.in_ok-done.ensures.lower in
    let seen : g.F.Facility.seen b1 ≡ below = ap g.F.Facility.seen low in
    let st = c.requires.stands in
    let err = err_from_is_err_and c.from_residual-in_err-link-in-Idle.result c.from_residual-in_err-link-in-Idle.ensures.1 in
    let stays = c.in_err-link-in-Idle.ensures.does st.0 (subst (λ (s : Seen). Holds d1 st.0 s) (sym seen) (subst (λ (z : Dif). Holds z st.0 below) (sym same) st.1)) in
    stays_none d c.offer_message.new.self c.from_residual-in_err-link-in-Idle.result err.0 err.1 (stays ∙ same)

pub returns-in_err-link-in-Idle-clause-manages : goal.returns-in_err-link-in-Idle-clause-manages
returns-in_err-link-in-Idle-clause-manages g c =
    let d = c.args.self.now in
    let d1 = c.serve_next.new.self in
    let b1 = c.serve_next.new.below in
    let below = g.F.Facility.seen c.args.below.now in
    let same : d1 ≡ d = idle_same c.in_ok-done.done (d1 ≡ d) c.in-Idle.is c.in_ok-done.ensures.idle in
    let low : b1 ≡ c.args.below.now = idle_below (b1 ≡ c.args.below.now) (FreesAsSeen g.F.Facility.seen g.F.Facility.frees_both g.F.Facility.does_free c.args.below.now b1) c.in_ok-done.done c.in-Idle.is c.in_ok-done.ensures.lower in
    let seen : g.F.Facility.seen b1 ≡ below = ap g.F.Facility.seen low in
    let st = c.requires.stands in
    let err = err_from_is_err_and c.from_residual-in_err-link-in-Idle.result c.from_residual-in_err-link-in-Idle.ensures.1 in
    let stays = c.in_err-link-in-Idle.ensures.does st.0 (subst (λ (s : Seen). Holds d1 st.0 s) (sym seen) (subst (λ (z : Dif). Holds z st.0 below) (sym same) st.1)) in
    manages_none d c.offer_message.new.self below (Some c.args.at) c.args.node c.from_residual-in_err-link-in-Idle.result err.0 err.1 (stays ∙ same)

pub returns-in-Some-clause-keeps : goal.returns-in-Some-clause-keeps
returns-in-Some-clause-keeps g c =
    let d = c.args.self.now in
    let d1 = c.serve_next.new.self in
    let same : d1 ≡ d = idle_same c.in_ok-done.done (d1 ≡ d) c.in-Idle.is c.in_ok-done.ensures.idle in
    ap (λ (z : Dif). z.asks) c.in_ok-link-in-Idle.ensures.whole ∙ ap (λ (z : Dif). z.asks) same

pub returns-in-None-clause-keeps : goal.returns-in-None-clause-keeps
returns-in-None-clause-keeps g c =
    let d = c.args.self.now in
    let d1 = c.serve_next.new.self in
    let same : d1 ≡ d = idle_same c.in_ok-done.done (d1 ≡ d) c.in-Idle.is c.in_ok-done.ensures.idle in
    ap (λ (z : Dif). z.asks) c.in_ok-link-in-Idle.ensures.whole ∙ ap (λ (z : Dif). z.asks) same

pub returns-in_err-link-in-Idle-clause-keeps : goal.returns-in_err-link-in-Idle-clause-keeps
returns-in_err-link-in-Idle-clause-keeps g c =
    let d = c.args.self.now in
    let d1 = c.serve_next.new.self in
    let same : d1 ≡ d = idle_same c.in_ok-done.done (d1 ≡ d) c.in-Idle.is c.in_ok-done.ensures.idle in
    let err = err_from_is_err_and c.from_residual-in_err-link-in-Idle.result c.from_residual-in_err-link-in-Idle.ensures.1 in
    none_keeps d c.args.node c.from_residual-in_err-link-in-Idle.result err.0 c.offer_message.new.self err.2 err.1 (ap (λ (z : Dif). z.asks) c.in_err-link-in-Idle.ensures.whole ∙ ap (λ (z : Dif). z.asks) same)

pub returns-in_default : goal.returns-in_default
returns-in_default g c =
    let below = g.F.Facility.seen c.args.below.now in
    let s = c.in_ok-done.ensures in
    record {
      valid = s.valid;
      below = s.below;
      later = s.later;
      does = λ lines h. serves_more c.args.self.now lines below c.args.node c.in_ok-done.done c.serve_next.new.self (g.F.Facility.seen c.serve_next.new.below) c.in_default.not-Idle (s.does lines h);
      lower = s.lower;
      same = s.same;
      laid = s.laid;
      whole = s.whole;
      stays = s.stays;
      manages = s.manages;
      keeps = s.keeps;
      leaves = s.leaves;
    }
