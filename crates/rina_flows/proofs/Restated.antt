-- What stays of the tie where a direction, or a connection, stays in what the tie speaks of.
use Rattle.std.proofs.Common.{◌≡◌, ℕ, ◌+◌, ◌-◌, ◌<◌, ◌≤◌, ◌⊎◌, List, [], ◌++◌, Option, Some, sym, ◌∙◌, ap, subst, arith}
use Rattle.std.specs.List.Sorted.{IsStrictlyIncreasing}
use Rattle.rina_conn.specs.declared.conn.Conn.{Conn}
use Rattle.rina_conn.specs.declared.form.Form.{Form}
use Rattle.rina_conn.specs.declared.sending.Sending.{Sending}
use Rattle.rina_conn.specs.Conns.{HasNoLast}
use Rattle.rina_conn.specs.Sending.{IsSender}
use Rattle.rina_conn.specs.Standing.{AreWaiting, IsReceiver}
use Rattle.rina_conn.specs.Waiting.{Waits}
use Rattle.rina_dif_law.specs.Counting.{joiner_numbers, times}
use Rattle.rina_data.specs.Configs.{Config, cube_by}
use Rattle.rina_dif_law.specs.Dif.{constants}
use Rattle.rina_dif_law.specs.Ids.{Ids, flipped}
use Rattle.rina_dtcp.specs.Plans.{Plan, IsPlanOf}
use Rattle.rina_dtp.specs.Joins.{IsForward}
use Rattle.rina_dtp.specs.Receiving.{Receiving, kept_numbers, lost_in}
use Rattle.rina_dtp.specs.Stands.{Stands}
use Rattle.rina_law.specs.Constants.{Constants}
use Rattle.rina_law.specs.Direction.{Direction, Inbox, Pass, happens}
use Rattle.rina_law.specs.Lists.{In}
use Rattle.rina_law.specs.Pieces.{Joiner, Sdu}
use Rattle.rina_law.specs.Receiver.{Receiver, numbers}
use Rattle.rina_flows.specs.Tied.{HoldsOnce, IsKeptBy, IsReceiving, IsSending, ids_by, ids_of, inward, outward}
use Rattle.rina_flows.proofs.Waiting.{waiting_same}

KeptAs : Receiver → Joiner → ℕ → Type 0
KeptAs m j n = ((j.from ≤ n) × (n < j.from + j.count)) ⊎ In n (numbers m.held)

-- the direction stays in what its receiver sees
pub receiving_same : (c : Constants) (now : ℕ) (ids : Ids) (k : Conn) (line line' : Direction) → line'.line.receiver ≡ line.line.receiver → line'.inbox ≡ line.inbox → line'.passed ≡ line.passed → line'.state_from ≡ line.state_from → line'.mark ≡ line.mark → IsReceiving c now ids k line → IsReceiving c now ids k line'
unfolding KeptAs
receiving_same c now ids k line line' er ei ep es em h =
    let ej : line'.inbox.joiner ≡ line.inbox.joiner = ap (λ (i : Inbox). i.joiner) ei in
    let eg : line'.inbox.got ≡ line.inbox.got = ap (λ (i : Inbox). i.got) ei in
    let S : Receiver → Type 0 = λ m. Stands c now m line.inbox.joiner k.rx in
    let T : Joiner → Type 0 = λ j. Stands c now line'.line.receiver j k.rx in
    let K = λ (n : ℕ) (m : Receiver). KeptAs m line.inbox.joiner n in
    let L = λ (n : ℕ) (j : Joiner). KeptAs line'.line.receiver j n in
    let M : Option ℕ → Type 0 = λ mark. IsPlanOf c mark k.plan in
    record {
      stands = subst T (sym ej) (subst S (sym er) h.stands);
      plan = subst M (sym em) h.plan;
      last = subst HasNoLast (sym er) h.last;
      whole = h.whole;
      broken = h.broken;
      forward = h.forward;
      waiting = waiting_same c line line' [] k.waiting eg ep es h.waiting;
      early = (let early = h.early in omega arith);
      kept = λ n i. (let q = h.kept n i in record {
        made = ap (λ (m : Receiver). m.made) er ∙ q.made;
        source = q.source;
        number = subst (L n) (sym ej) (subst (K n) (sym er) q.number);
      });
      once = subst (HoldsOnce c.cube.kind) (sym er) h.once;
      all = λ n.
          let J : Joiner → Type 0 = λ j. times n (kept_numbers k.rx) ≡ times n (joiner_numbers j ++ numbers line'.line.receiver.held) in
          let M : Receiver → Type 0 = λ m. times n (kept_numbers k.rx) ≡ times n (joiner_numbers line.inbox.joiner ++ numbers m.held) in
          subst J (sym ej) (subst M (sym er) (h.all n));
      rising = h.rising;
    }

-- the connection stays in what it receives
pub receiving_conn : (g : Config) (now : ℕ) (k k' : Conn) (line : Direction) → k'.sending.form ≡ k.sending.form → k'.rx ≡ k.rx → k'.plan ≡ k.plan → k'.waiting ≡ k.waiting → IsReceiving (inward g k) now (ids_of k) k line → IsReceiving (inward g k') now (ids_of k') k' line
receiving_conn g now k k' line form rx plan waiting h =
    let c : Form → Constants = λ f. constants g f.cube (flipped (ids_by f.peer f.cube.id)) in
    let ids : Form → Ids = λ f. ids_by f.peer f.cube.id in
    let stands = subst (λ (f : Form). Stands (c f) now line.line.receiver line.inbox.joiner k.rx) (sym form) h.stands in
    let planned = subst (λ (f : Form). IsPlanOf (c f) line.mark k.plan) (sym form) h.plan in
    let kept = λ (n : ℕ) (i : In n (kept_numbers k.rx)). subst (λ (f : Form). IsKeptBy (ids f) line k.rx n) (sym form) (h.kept n i) in
    record {
      stands = subst (λ (r : Receiving). Stands (c k'.sending.form) now line.line.receiver line.inbox.joiner r) (sym rx) stands;
      plan = subst (λ (p : Plan). IsPlanOf (c k'.sending.form) line.mark p) (sym plan) planned;
      last = h.last;
      whole = ap (λ (r : Receiving). r.join.whole) rx ∙ h.whole;
      broken = ap (λ (r : Receiving). lost_in r.join.gaps) rx ∙ h.broken;
      forward = subst (λ (r : Receiving). IsForward r.join.joining.held) (sym rx) h.forward;
      waiting = subst (λ (w : Waits). AreWaiting (c k'.sending.form) line [] w) (sym waiting) (subst (λ (f : Form). AreWaiting (c f) line [] k.waiting) (sym form) h.waiting);
      early = subst (λ (f : Form). line.state_from - line.passed < f.cube.window) (sym form) h.early;
      kept = subst (λ (r : Receiving). (n : ℕ) → In n (kept_numbers r) → IsKeptBy (ids_of k') line r n) (sym rx) kept;
      once = subst (λ (f : Form). HoldsOnce f.cube.kind line.line.receiver) (sym form) h.once;
      all = λ n. ap (λ (r : Receiving). times n (kept_numbers r)) rx ∙ h.all n;
      rising = subst (λ (r : Receiving). IsStrictlyIncreasing (kept_numbers r)) (sym rx) h.rising;
    }

-- the direction stays in what its sender sees
pub sending_same : (g : Config) (now : ℕ) (k : Conn) (line line' : Direction) → line'.line.clock ≡ line.line.clock → line'.line.sender ≡ line.line.sender → IsSending g now k line → IsSending g now k line'
sending_same g now k line line' clock sender h = record {
  cube = h.cube;
  clock = clock ∙ h.clock;
  sender = subst (λ m. IsSender (outward g k) m k.sending) (sym sender) h.sender;
}

-- the connection stays in what it sends
pub sending_conn : (g : Config) (now : ℕ) (k k' : Conn) (line : Direction) → k'.sending ≡ k.sending → IsSending g now k line → IsSending g now k' line
sending_conn g now k k' line e h = record {
  cube = subst (λ (s : Sending). cube_by s.form.cube.id g.cubes ≡ Some s.form.cube) (sym e) h.cube;
  clock = h.clock;
  sender = subst (λ (s : Sending). IsSender (constants g s.form.cube (ids_by s.form.peer s.form.cube.id)) line.line.sender s) (sym e) h.sender;
}

-- an SDU is passed: the plan, and what waits to be passed, change
pub receiving_passed : (c : Constants) (now : ℕ) (ids : Ids) (k k' : Conn) (line : Direction) → k'.rx ≡ k.rx → IsReceiver c (happens c line Pass) k' → IsReceiving c now ids k line → IsReceiving c now ids k' (happens c line Pass)
receiving_passed c now ids k k' line rx is h =
    let kept = λ (n : ℕ) (i : In n (kept_numbers k.rx)). (let q = h.kept n i in let K : IsKeptBy ids (happens c line Pass) k.rx n = record { made = q.made; source = q.source; number = q.number } in K) in
    let whole : k'.rx.join.whole ≡ [] = ap (λ (r : Receiving). r.join.whole) rx ∙ h.whole in
    record {
      stands = subst (λ (r : Receiving). Stands c now line.line.receiver line.inbox.joiner r) (sym rx) h.stands;
      plan = is.plan;
      last = h.last;
      whole = whole;
      broken = ap (λ (r : Receiving). lost_in r.join.gaps) rx ∙ h.broken;
      forward = subst (λ (r : Receiving). IsForward r.join.joining.held) (sym rx) h.forward;
      waiting = subst (λ (ws : List Sdu). AreWaiting c (happens c line Pass) ws k'.waiting) whole is.waiting;
      early = (let early = h.early in omega arith);
      kept = subst (λ (r : Receiving). (n : ℕ) → In n (kept_numbers r) → IsKeptBy ids (happens c line Pass) r n) (sym rx) kept;
      once = h.once;
      all = λ n. ap (λ (r : Receiving). times n (kept_numbers r)) rx ∙ h.all n;
      rising = subst (λ (r : Receiving). IsStrictlyIncreasing (kept_numbers r)) (sym rx) h.rising;
    }
