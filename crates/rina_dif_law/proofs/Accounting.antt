-- The account goes on as an IPC process queues, sends and writes off PDUs.
use Rattle.std.proofs.Common.{◌≡◌, ◌≢◌, ℕ, ◌+◌, ◌-◌, ◌≤◌, Bool, true, false, cond, eqb, List, [], ◌∷◌, ◌++◌, drop, length, map, slice_get, slice_set, Some, None, Option, refl, sym, ◌∙◌, ap, subst, arith, inl, inr}
use Rattle.std.specs.Prelude.{flat_map, sum_by}
use Rattle.std.proofs.lemmas.List.Concat.{flat_map-cons}
use Rattle.std.proofs.lemmas.List.Sums.{sum_by-append, sum_by-cons}
use Rattle.rina_account.specs.Account.{Counts, off_count}
use Rattle.rina_account.specs.declared.ledger.Off.{Off}
use Rattle.rina_base.specs.declared.cause.Cause.{Cause}
use Rattle.rina_base.specs.declared.cause.Cause.TheVariants as causes
use Rattle.rina_base.specs.declared.number.Key.{Key}
use Rattle.rina_base.specs.declared.number.Port.{Port}
use Rattle.rina_base.specs.declared.pdu.Pdu.{Pdu}
use Rattle.rina_base.specs.declared.pdu.PduKind.TheVariants.{Piece, Ack}
use Rattle.rina_base.specs.Pdus.{key_of}
use Rattle.rina_cube.specs.declared.Kind.{Kind}
use Rattle.rina_cube.specs.declared.Kind.TheVariants.{Datagram, Loose, Reliable}
use Rattle.rina_cube.specs.Cubes.{is_reliable}
use Rattle.rina_iface.specs.declared.ends.End.{End}
use Rattle.rina_iface.specs.Ends.{with_passed}
use Rattle.rina_iface.specs.Seen.{Seen, end_of}
use Rattle.rina_iface.proofs.Changed.{set_at}
use Rattle.rina_law.specs.Direction.{Direction, Pass, after_ack, happens, right_of}
use Rattle.rina_law.specs.Line.{again}
use Rattle.rina_law.specs.Receiver.{next_of}
use Rattle.rina_law.specs.Sender.{due_from, if_reliable, piece_again}
use Rattle.rina_queue.specs.declared.queue.Queued.{Queued}
use Rattle.rina_data.specs.declared.link.Link.{Link}
use Rattle.rina_data.specs.declared.link.Route.{Route}
use Rattle.rina_dif_law.specs.Accounted.{IsAccounted, Resends, counts_of, queued_with}
use Rattle.rina_dif_law.specs.Cloud.{IsMine}
use Rattle.rina_data.specs.Configs.{Config, Member, cube_by}
use Rattle.rina_dif_law.specs.Dif.{DifSeen, IsProcess, constants, with_process}
use Rattle.rina_data.specs.Process.{Process, Queue, with_offs, with_put, with_taken}
use Rattle.rina_dif_law.specs.Ids.{Ids, flipped, pdu_of_ack, pdu_of_piece}
use Rattle.rina_dif_law.specs.Losing.{Loses}
use Rattle.rina_data.specs.Losing.{line_down, lines_down, without_items, without_link}
use Rattle.rina_dif_law.specs.Numbered.{IsNumbered}
use Rattle.rina_dif_law.specs.Passing.{IsPassed}
use Rattle.rina_data.specs.Queueing.{line_for}
use Rattle.rina_dif_law.specs.Sending.{home}
use Rattle.rina_dif_law.specs.Standing.{IsConn}
use Rattle.rina_dif_law.specs.Timely.{IsAcknowledged, IsResent, Posts}
use Rattle.rina_dif_law.proofs.Balancing.{AreSame, IsMoved, accounted_on, gone, moved_same}
use Rattle.rina_dif_law.proofs.Ends.{same_some}
use Rattle.rina_dif_law.proofs.Keys.{IsOneKey, offs_append, offs_one, one, one_not, piece_no_ack}
use Rattle.rina_dif_law.proofs.Tallies.{HoldSame, end_changed, hold_set, kept_all_same, kept_same, made_same}
use Rattle.rina_dif_law.proofs.Totals.{sum_set}

-- ---- one IPC process changes

pub resends_on : (d d' : DifSeen) (addr cep : ℕ) → d'.config ≡ d.config → ((i : ℕ) (ids : Ids) → slice_get d.conns i ≡ Some ids → slice_get d'.conns i ≡ Some ids) → Resends d addr cep → Resends d' addr cep
resends_on d d' addr cep config conns r = record { place = r.place; ids = r.ids; stands = conns r.place r.ids r.stands; own = r.own; scep = r.scep; cube = r.cube; is_cube = ap (λ (g : Config). cube_by r.ids.qos g.cubes) config ∙ r.is_cube; reliable = r.reliable }

-- the DIF with other ends, and another IPC process at a place
abbrev pub renewed : DifSeen → List End → ℕ → Process → DifSeen
renewed d ends i new = record d { ends = ends; processes = slice_set d.processes i new }

pub one_process : (d : DifSeen) (lines lines' : List Direction) (below below' : Seen) (ends' : List End) (i : ℕ) (p new : Process) → IsAccounted d lines below → slice_get d.processes i ≡ Some p
    → ((port : Port) (e : End) → end_of below' port ≡ Some e → IsMine d.config.members e.app → e.taken ≤ length e.got)
    → ((j : ℕ) (m : Member) (q : Process) (k : Key) → j ≢ i → IsProcess d j m q → AreSame (counts_of d lines below m q k) (counts_of (renewed d ends' i new) lines' below' m q k))
    → ((m : Member) (k : Key) → IsProcess d i m p → IsMoved m.addr k (Resends d m.addr k.scep) (counts_of d lines below m p k) (counts_of (renewed d ends' i new) lines' below' m new k))
    → IsAccounted (renewed d ends' i new) lines' below'
one_process d lines lines' below below' ends' i p new a is passed others main =
    let d' : DifSeen = renewed d ends' i new in
    accounted_on d d' lines lines' below below' a passed a.apart (λ j m q k h.
    let resends : Resends d m.addr k.scep → Resends d' m.addr k.scep = resends_on d d' m.addr k.scep refl (λ n ids x. x) in
    let back : Resends d' m.addr k.scep → Resends d m.addr k.scep = resends_on d' d m.addr k.scep refl (λ n ids x. x) in
    elim (set_at d.processes i j p new q is h.is_process) [
      | inl t ↦
          let member : slice_get d.config.members i ≡ Some m = subst (λ (n : ℕ). slice_get d.config.members n ≡ Some m) t.0 h.is_member in
          let there : IsProcess d i m p = record { is_member = member; is_process = is } in
          let old = main m k there in
          let moved : IsMoved m.addr k (Resends d' m.addr k.scep) (counts_of d lines below m p k) (counts_of d' lines' below' m new k) = record {
            foreign = old.foreign;
            own = old.own;
            once = λ kind src none. old.once kind src (λ r. none (resends r));
            relayed = old.relayed;
            bounded = old.bounded;
            own_ack = old.own_ack;
          } in
          record {
            process = p;
            is_process = subst (λ (n : ℕ). IsProcess d n m p) (sym t.0) there;
            resends = resends;
            moved = subst (λ (z : Process). IsMoved m.addr k (Resends d' m.addr k.scep) (counts_of d lines below m p k) (counts_of d' lines' below' m z k)) (sym t.1) moved;
          }
      | inr f ↦
          let there : IsProcess d j m q = record { is_member = h.is_member; is_process = f.1 } in
          record { process = q; is_process = there; resends = resends; moved = moved_same m.addr k (Resends d' m.addr k.scep) (counts_of d lines below m q k) (counts_of d' lines' below' m q k) (others j m q k f.0 there) }
    ])

pub same_refl : (n : Counts) → AreSame n n
same_refl n = record { taken = refl; relayed = refl; gone = refl; made = refl; kept = refl }

-- more is out, waits, or was written off, of a key that the IPC process itself makes
pub moved_more : (addr : ℕ) (k : Key) (resends : Type 0) (n n' : Counts) (x : ℕ) → n'.taken ≡ n.taken → n'.relayed ≡ n.relayed → gone n' ≡ gone n + x → n'.made ≡ n.made → n'.kept ≡ n.kept
    → (k.kind ≡ Piece → k.src ≢ addr → x ≡ 0) → (k.kind ≡ Piece → k.src ≡ addr → (resends → ⊥) → x ≡ 0) → (k.kind ≡ Ack → k.src ≢ addr → x ≡ 0) → IsMoved addr k resends n n'
moved_more addr k resends n n' x a b c d e foreign once ack = record {
  foreign = λ kind src. (let z = foreign kind src in omega arith);
  own = λ kind src. omega arith;
  once = λ kind src none. (let z = once kind src none in omega arith);
  relayed = λ kind src. omega arith;
  bounded = λ kind src. (let z = ack kind src in omega arith);
  own_ack = λ kind src. omega arith;
}

-- ---- queues

-- how many PDUs of a key wait or were written off
abbrev pub left_at : Process → Key → ℕ
left_at p k = sum_by (queued_with k) p.queues + off_count p.ledger k

abbrev pub item_one : Key → Queued → ℕ
item_one k item = one k (key_of item.pdu)

pub put_more : (k : Key) (p : Process) (place : ℕ) (q : Queue) (items : List Queued) → slice_get p.queues place ≡ Some q → left_at (with_put p place q items) k ≡ left_at p k + sum_by (item_one k) items
put_more k p place q items is =
    let q' : Queue = record q { items = q.items ++ items } in
    let set = sum_set (queued_with k) p.queues place q q' is in
    let more : queued_with k q' ≡ queued_with k q + sum_by (item_one k) items = sum_by-append (item_one k) q.items items in
    omega (arith, set, more)

first_one : (k : Key) (items : List Queued) (item : Queued) → slice_get items 0 ≡ Some item → sum_by (item_one k) items ≡ item_one k item + sum_by (item_one k) (drop 1 items)
first_one k [] item h = cc
first_one k (x ∷ xs) item h =
    let is : x ≡ item = cc in
    sum_by-cons (item_one k) x xs ∙ ap (λ (z : Queued). item_one k z + sum_by (item_one k) xs) is

pub taken_less : (k : Key) (p : Process) (place : ℕ) (q : Queue) (item : Queued) → slice_get p.queues place ≡ Some q → slice_get q.items 0 ≡ Some item → left_at (with_taken p place q) k + item_one k item ≡ left_at p k
taken_less k p place q item is first =
    let q' : Queue = record q { items = drop 1 q.items } in
    let set = sum_set (queued_with k) p.queues place q q' is in
    let less : queued_with k q ≡ item_one k item + queued_with k q' = first_one k q.items item first in
    omega (arith, set, less)

pub offs_more : (k : Key) (p : Process) (offs : List Off) → left_at (with_offs p offs) k ≡ left_at p k + off_count offs k
offs_more k p offs = (let more = offs_append k p.ledger offs in omega (arith, more))

pub one_off : (k : Key) (p : Process) (off : Off) → left_at (with_offs p (off ∷ [])) k ≡ left_at p k + one k off.key
one_off k p off = (let more = offs_more k p (off ∷ []) in let is = offs_one k off in omega (arith, more, is))

pub put_one : (k : Key) (p : Process) (place : ℕ) (q : Queue) (item : Queued) → slice_get p.queues place ≡ Some q → left_at (with_put p place q (item ∷ [])) k ≡ left_at p k + item_one k item
put_one k p place q item is =
    let more = put_more k p place q (item ∷ []) is in
    let alone : sum_by (item_one k) (item ∷ []) ≡ item_one k item + 0 = sum_by-cons (item_one k) item [] in
    omega (arith, more, alone)

-- ---- a PDU that is made beside a send

pub posted_more : (g : Config) (now mpl : ℕ) (p : Process) (pdu : Pdu) (cause : Option Cause) (p' : Process) (k : Key) → Posts g now mpl p pdu cause p' → left_at p' k ≡ left_at p k + one k (key_of pdu)
posted_more g now mpl p pdu None p' k s = ap (λ (z : Process). left_at z k) s.new_is ∙ put_one k p s.place s.queue (record { pdu = pdu; left = mpl; since = now }) s.is_queue.is_queue
posted_more g now mpl p pdu (Some (causes.NoRoute dst)) p' k s = ap (λ (z : Process). left_at z k) s.2 ∙ one_off k p (line_for pdu (causes.NoRoute dst))
posted_more g now mpl p pdu (Some (causes.QueueFull cap)) p' k s = ap (λ (z : Process). left_at z k) s.2 ∙ one_off k p (line_for pdu (causes.QueueFull cap))
posted_more g now mpl p pdu (Some (causes.Expired left charge)) p' k s = absurd s
posted_more g now mpl p pdu (Some (causes.LinkDown port)) p' k s = absurd s
posted_more g now mpl p pdu (Some (causes.NoConnection cep)) p' k s = absurd s
posted_more g now mpl p pdu (Some (causes.Duplicate num)) p' k s = absurd s
posted_more g now mpl p pdu (Some (causes.Behind highest)) p' k s = absurd s
posted_more g now mpl p pdu (Some (causes.NoState drf)) p' k s = absurd s
posted_more g now mpl p pdu (Some (causes.NoRoom cap)) p' k s = absurd s
posted_more g now mpl p pdu (Some (causes.StateGone last_in)) p' k s = absurd s
posted_more g now mpl p pdu (Some (causes.Broken missing)) p' k s = absurd s

-- the IPC process of an end has the address of its connection
pub home_addr : (d : DifSeen) (below : Seen) (at : ℕ) (e : End) (ids : Ids) (i : ℕ) (m : Member) → IsNumbered d below → IsConn d.ends d.conns at e ids → home e.port.node d.config.members ≡ Some i → slice_get d.config.members i ≡ Some m → ids.own ≡ m.addr
home_addr d below at e ids i m numbered conn at_home member =
    let a = numbered.addressed at e ids conn in
    let place : a.place ≡ i = (let x = a.at_home in let y = at_home in cc) in
    let same : a.member ≡ m = same_some (slice_get d.config.members i) a.member m (subst (λ (n : ℕ). slice_get d.config.members n ≡ Some a.member) place a.stands) member in
    a.addr ∙ ap (λ (z : Member). z.addr) same

pub acknowledged_accounted : (d : DifSeen) (lines : List Direction) (below : Seen) (at : ℕ) (cause : Option Cause) (d' : DifSeen) (lines' : List Direction) → IsNumbered d below → IsAccounted d lines below → IsAcknowledged d lines at cause d' lines' → IsAccounted d' lines' below
acknowledged_accounted d lines below at cause d' lines' numbered a s =
    let c = constants d.config s.cube (flipped s.ids) in
    let pdu : Pdu = pdu_of_ack s.ids (record { ack = next_of s.line.line.receiver - 1; right = right_of c s.line }) in
    let line' : Direction = after_ack true c s.line in
    let hold : (n : ℕ) → HoldSame lines (slice_set lines s.from line') n = λ n. hold_set lines s.from s.line line' n s.inbound.is_line refl in
    let kept : (addr : ℕ) (k : Key) → _ = λ addr k. kept_all_same _ d.conns lines (slice_set lines s.from line') addr k d.ends (hold k.seq) in
    subst (λ (z : DifSeen). IsAccounted z lines' below) (sym s.new_is) (subst (λ (ls : List Direction). IsAccounted (with_process d s.i s.process') ls below) (sym s.lines_are)
    (one_process d lines (slice_set lines s.from line') below below d.ends s.i s.process s.process' a s.is_home.is_process a.passed
    (λ j m q k ne is. record { taken = refl; relayed = refl; gone = refl; made = refl; kept = kept m.addr k })
    (λ m k is.
    let own = home_addr d below at s.end s.ids s.i m numbered s.is_home.is_conn s.is_home.at_home is.is_member in
    let more = posted_more d.config d.clock s.cube.mpl s.process pdu cause s.process' k s.posted in
    let none : (IsOneKey k (key_of pdu) → ⊥) → one k (key_of pdu) ≡ 0 = one_not k (key_of pdu) in
    moved_more m.addr k (Resends d m.addr k.scep) (counts_of d lines below m s.process k) (counts_of (with_process d s.i s.process') (slice_set lines s.from line') below m s.process' k) (one k (key_of pdu)) refl refl (omega (arith, more)) refl (kept m.addr k)
    (λ kind src. none (λ o. piece_no_ack k.kind kind o.kind))
    (λ kind src no. none (λ o. piece_no_ack k.kind kind o.kind))
    (λ kind src. none (λ o. src (o.src ∙ own))))))

is_resending : (kind : Kind) (o : Option ℕ) (n : ℕ) → if_reliable kind o ≡ Some n → is_reliable kind ≡ true
is_resending Reliable o n h = refl
is_resending Datagram o n h = cc
is_resending Loose o n h = cc

pub resent_accounted : (d : DifSeen) (lines : List Direction) (below : Seen) (at : ℕ) (cause : Option Cause) (d' : DifSeen) (lines' : List Direction) → IsNumbered d below → IsAccounted d lines below → IsResent d lines at cause d' lines' → IsAccounted d' lines' below
resent_accounted d lines below at cause d' lines' numbered a s =
    let c = constants d.config s.cube s.ids in
    let pdu : Pdu = pdu_of_piece s.ids (piece_again s.number s.line.line.sender) in
    let line' : Direction = record s.line { line = again c s.number s.line.line } in
    let hold : (n : ℕ) → HoldSame lines (slice_set lines at line') n = λ n. hold_set lines at s.line line' n s.is_line refl in
    let kept : (addr : ℕ) (k : Key) → _ = λ addr k. kept_all_same _ d.conns lines (slice_set lines at line') addr k d.ends (hold k.seq) in
    subst (λ (z : DifSeen). IsAccounted z lines' below) (sym s.new_is) (subst (λ (ls : List Direction). IsAccounted (with_process d s.i s.process') ls below) (sym s.lines_are)
    (one_process d lines (slice_set lines at line') below below d.ends s.i s.process s.process' a s.is_home.is_process a.passed
    (λ j m q k ne is. record { taken = refl; relayed = refl; gone = refl; made = refl; kept = kept m.addr k })
    (λ m k is.
    let own = home_addr d below at s.end s.ids s.i m numbered s.is_home.is_conn s.is_home.at_home is.is_member in
    let more = posted_more d.config d.clock s.cube.mpl s.process pdu cause s.process' k s.posted in
    let none : (IsOneKey k (key_of pdu) → ⊥) → one k (key_of pdu) ≡ 0 = one_not k (key_of pdu) in
    let resends : IsOneKey k (key_of pdu) → Resends d m.addr k.scep = λ o. record { place = at; ids = s.ids; stands = s.is_home.is_conn.ids_are; own = own; scep = sym o.scep; cube = s.cube; is_cube = s.is_home.is_cube; reliable = is_resending s.cube.kind (due_from c s.line.line.clock s.line.line.sender.acked 0 s.line.line.sender.run) s.number s.due } in
    moved_more m.addr k (Resends d m.addr k.scep) (counts_of d lines below m s.process k) (counts_of (with_process d s.i s.process') (slice_set lines at line') below m s.process' k) (one k (key_of pdu)) refl refl (omega (arith, more)) refl (kept m.addr k)
    (λ kind src. none (λ o. src (o.src ∙ own)))
    (λ kind src no. none (λ o. no (resends o)))
    (λ kind src. none (λ o. piece_no_ack k.kind o.kind kind)))))

-- ---- the oldest SDU of an end is taken

pub passed_accounted : (d : DifSeen) (lines : List Direction) (below : Seen) (at : ℕ) (d' : DifSeen) (lines' : List Direction) → IsAccounted d lines below → IsPassed d lines at d' lines' → IsAccounted d' lines' below
passed_accounted d lines below at d' lines' a s =
    let line' : Direction = happens (constants d.config s.cube (flipped s.ids)) s.line Pass in
    let ends' : List End = slice_set d.ends at (with_passed s.end) in
    let new : DifSeen = record d { ends = ends' } in
    let hold : (n : ℕ) → HoldSame lines (slice_set lines s.from line') n = λ n. hold_set lines s.from s.line line' n s.inbound.is_line refl in
    let change = end_changed d.ends at s.end (with_passed s.end) s.is_conn.end refl refl in
    subst (λ (z : DifSeen). IsAccounted z lines' below) (sym s.new_is) (subst (λ (ls : List Direction). IsAccounted new ls below) (sym s.lines_are)
    (accounted_on d new lines (slice_set lines s.from line') below below a a.passed a.apart (λ i m p k is. record {
      process = p;
      is_process = record { is_member = is.is_member; is_process = is.is_process };
      resends = resends_on d new m.addr k.scep refl (λ n ids x. x);
      moved = moved_same m.addr k (Resends new m.addr k.scep) (counts_of d lines below m p k) (counts_of new (slice_set lines s.from line') below m p k) (record {
        taken = refl;
        relayed = refl;
        gone = refl;
        made = made_same _ d.conns m.addr k d.ends ends' at s.end (with_passed s.end) change refl;
        kept = kept_same _ d.conns lines (slice_set lines s.from line') m.addr k d.ends ends' at s.end (with_passed s.end) change refl refl (hold k.seq);
      });
    })))

-- ---- a link is lost

down_items : (k : Key) (port : Port) (items : List Queued) → off_count (map (line_down port) items) k ≡ sum_by (item_one k) items
down_items k port [] = refl
down_items k port (x ∷ xs) =
    let rest = down_items k port xs in
    let old : sum_by (item_one k) (x ∷ xs) ≡ item_one k x + sum_by (item_one k) xs = sum_by-cons (item_one k) x xs in
    let new : off_count (map (line_down port) (x ∷ xs)) k ≡ item_one k x + off_count (map (line_down port) xs) k = sum_by-cons (λ (line : Off). one k line.key) (line_down port x) (map (line_down port) xs) in
    omega (arith, rest, old, new)

down_queue : (k : Key) (link : Link) (q : Queue) → queued_with k (without_items link q) + off_count (lines_down link q) k ≡ queued_with k q
down_queue k link q = go (eqb q.link link.number)
  where
    go : (b : Bool) → queued_with k (cond b (record q { items = [] }) q) + off_count (cond b (map (line_down link.port) q.items) []) k ≡ queued_with k q
    go true = (let all = down_items k link.port q.items in let none : queued_with k (record q { items = [] }) ≡ 0 = refl in omega (arith, all, none))
    go false = (let none : off_count [] k ≡ 0 = refl in omega arith)

down_queues : (k : Key) (link : Link) (qs : List Queue) → sum_by (queued_with k) (map (without_items link) qs) + off_count (flat_map (lines_down link) qs) k ≡ sum_by (queued_with k) qs
down_queues k link [] = refl
down_queues k link (q ∷ qs) =
    let here = down_queue k link q in
    let rest = down_queues k link qs in
    let old = sum_by-cons (queued_with k) q qs in
    let new = sum_by-cons (queued_with k) (without_items link q) (map (without_items link) qs) in
    let offs : off_count (flat_map (lines_down link) (q ∷ qs)) k ≡ off_count (lines_down link q) k + off_count (flat_map (lines_down link) qs) k = ap (λ (ls : List Off). off_count ls k) (flat_map-cons (lines_down link) q qs) ∙ offs_append k (lines_down link q) (flat_map (lines_down link) qs) in
    omega (arith, here, rest, old, new, offs)

lost_left : (k : Key) (place : ℕ) (link : Link) (routes : List Route) (p : Process) → left_at (without_link place link routes p) k ≡ left_at p k
lost_left k place link routes p =
    let queues = down_queues k link p.queues in
    let offs = offs_append k p.ledger (flat_map (lines_down link) p.queues) in
    omega (arith, queues, offs)

pub lost_accounted : (d : DifSeen) (lines : List Direction) (below : Seen) (i number : ℕ) (routes : List Route) (d' : DifSeen) → IsAccounted d lines below → Loses d below i number routes d' → IsAccounted d' lines below
lost_accounted d lines below i number routes d' a s =
    let new : Process = without_link s.place s.link routes s.process in
    subst (λ (z : DifSeen). IsAccounted z lines below) (sym s.new_is)
    (one_process d lines lines below below d.ends i s.process new a s.is_process a.passed
    (λ j m q k ne is. record { taken = refl; relayed = refl; gone = refl; made = refl; kept = refl })
    (λ m k is.
    let left = lost_left k s.place s.link routes s.process in
    moved_same m.addr k (Resends d m.addr k.scep) (counts_of d lines below m s.process k) (counts_of (with_process d i new) lines below m new k) (record { taken = refl; relayed = refl; gone = omega (arith, left); made = refl; kept = refl })))
