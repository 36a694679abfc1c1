-- What is left of a state that is gone is given up, before a piece is received or by the clock.
use Rattle.std.proofs.Common.{◌≡◌, ℕ, List, [], Bool, true, false, cond, refl, sym, ◌∙◌, ap, subst, arith}
use Rattle.std.specs.List.Sorted.{IsStrictlyIncreasing}
use Rattle.rina_base.specs.declared.cause.Cause.{Cause}
use Rattle.rina_base.specs.declared.number.Key.{Key}
use Rattle.rina_conn.specs.declared.conn.Conn.{Conn}
use Rattle.rina_conn.specs.Standing.{AreWaiting}
use Rattle.rina_conn.specs.Waiting.{Waits}
use Rattle.rina_dif_law.specs.Counting.{times}
use Rattle.rina_dif_law.specs.Ids.{Ids}
use Rattle.rina_dif_law.specs.Incoming.{found}
use Rattle.rina_dtp.specs.Receiving.{drops, kept_numbers, present_at}
use Rattle.rina_dtp.proofs.Ahead.{fetched_forward}
use Rattle.rina_dtp.proofs.Came.{kept_none, present_same}
use Rattle.rina_dtp.proofs.Lasting.{stands_forgotten}
use Rattle.rina_law.specs.Constants.{Constants}
use Rattle.rina_law.specs.Direction.{Direction, Forget, happens}
use Rattle.rina_law.specs.Lists.{In}
use Rattle.rina_law.specs.Receiver.{is_present}
use Rattle.rina_flows.specs.Arriving.{IsDrained}
use Rattle.rina_flows.specs.Tied.{IsReceiving}
use Rattle.rina_flows.proofs.KeptOnce.{cause_none}
use Rattle.rina_flows.proofs.Ordered.{rise_none}
use Rattle.rina_flows.proofs.Receives.{kept_drained, none_broken}
use Rattle.rina_flows.proofs.Waiting.{waiting_same}

-- what holds where state stands, and of the direction without what is left of a state that is gone, holds of what a piece
-- finds
pub by_presence : (P : Direction → Type 0) (c : Constants) (line : Direction) → (is_present c line.line.clock line.line.receiver ≡ true → P line) → (is_present c line.line.clock line.line.receiver ≡ false → P (happens c line Forget)) → P (found c line)
by_presence P c line here gone = go (is_present c line.line.clock line.line.receiver) refl
  where
    go : (b : Bool) → is_present c line.line.clock line.line.receiver ≡ b → P (cond b line (happens c line Forget))
    go true e = here e
    go false e = gone e

-- all that was left of a state that is gone was fetched
pub receiving_forgot : (c : Constants) (now : ℕ) (ids : Ids) (conn new : Conn) (line : Direction) (taken : List (Key × Cause)) → IsReceiving c now ids conn line → is_present c now line.line.receiver ≡ false → IsDrained now conn.rx taken new.rx → drops now new.rx ≡ [] → new.plan ≡ conn.plan → new.waiting ≡ conn.waiting → IsReceiving c now ids new (happens c line Forget)
receiving_forgot c now ids conn new line taken h gone drained none plan waiting =
    let st = drained.stands c line.line.receiver line.inbox.joiner h.stands in
    let absent : present_at now new.rx ≡ false = sym (present_same c now line.line.receiver line.inbox.joiner new.rx st) ∙ gone in
    let nothing = kept_none now new.rx st.not_closed absent none in
    record {
      stands = stands_forgotten c now line.line.receiver line.inbox.joiner new.rx st gone;
      plan = plan ∙ h.plan;
      last = h.last;
      whole = drained.whole ∙ h.whole;
      broken = none_broken now new.rx none;
      forward = fetched_forward c now line.line.receiver line.inbox.joiner new.rx st none;
      waiting = subst (λ (w : Waits). AreWaiting c (happens c line Forget) [] w) (sym waiting) (waiting_same c line (happens c line Forget) [] conn.waiting refl refl refl h.waiting);
      early = h.early;
      kept = λ n i. absurd (subst (In n) nothing i);
      once = record { once = λ n. omega arith; only = λ other. refl };
      all = λ n. ap (times n) nothing;
      rising = subst IsStrictlyIncreasing (sym nothing) rise_none;
    }

-- nothing was there to be fetched while state stands
receiving_drained : (c : Constants) (now : ℕ) (ids : Ids) (conn new : Conn) (line : Direction) (taken : List (Key × Cause)) → IsReceiving c now ids conn line → is_present c now line.line.receiver ≡ true → IsDrained now conn.rx taken new.rx → drops now new.rx ≡ [] → new.plan ≡ conn.plan → new.waiting ≡ conn.waiting → IsReceiving c now ids new line
receiving_drained c now ids conn new line taken h stands drained none plan waiting =
    let st = drained.stands c line.line.receiver line.inbox.joiner h.stands in
    let present : present_at now conn.rx ≡ true = sym (present_same c now line.line.receiver line.inbox.joiner conn.rx h.stands) ∙ stands in
    let same : kept_numbers new.rx ≡ kept_numbers conn.rx = drained.kept.all (cause_none now conn.rx h.stands.not_closed present) in
    record {
      stands = st;
      plan = plan ∙ h.plan;
      last = h.last;
      whole = drained.whole ∙ h.whole;
      broken = none_broken now new.rx none;
      forward = fetched_forward c now line.line.receiver line.inbox.joiner new.rx st none;
      waiting = subst (λ (w : Waits). AreWaiting c line [] w) (sym waiting) h.waiting;
      early = h.early;
      kept = kept_drained ids line now conn.rx taken new.rx drained h.kept;
      once = h.once;
      all = λ n. ap (times n) same ∙ h.all n;
      rising = subst IsStrictlyIncreasing (sym same) h.rising;
    }

-- the connection that is to receive a piece stands for what the piece finds
pub receiving_found : (c : Constants) (ids : Ids) (conn new : Conn) (line : Direction) (taken : List (Key × Cause)) → IsReceiving c line.line.clock ids conn line → IsDrained line.line.clock conn.rx taken new.rx → drops line.line.clock new.rx ≡ [] → new.plan ≡ conn.plan → new.waiting ≡ conn.waiting → IsReceiving c line.line.clock ids new (found c line)
receiving_found c ids conn new line taken h drained none plan waiting =
    by_presence (IsReceiving c line.line.clock ids new) c line
    (λ stands. receiving_drained c line.line.clock ids conn new line taken h stands drained none plan waiting)
    (λ gone. receiving_forgot c line.line.clock ids conn new line taken h gone drained none plan waiting)
