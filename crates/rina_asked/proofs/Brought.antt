-- What a link's own piece makes whole was on the link, and what becomes of the link then.
use Rattle.std.proofs.Common.{◌+◌, ◌<◌, sum_by, slice_set, refl, ◌≡◌, ◌∙◌, inl, inr, ⊎_elim, ℕ, zero, suc, ◌-◌, ◌≤◌, List, [], ◌∷◌, ◌++◌, Contains, drop, length, option_map, slice_get, Option, Some, None, sym, ap, subst, arith}
use Rattle.std.proofs.lemmas.List.Sums.{sum_by-cons}
use Rattle.std.proofs.lemmas.Option.{none-some, same_Some, slice_get-map}
use Rattle.rina_account.specs.declared.ledger.Off.{Off}
use Rattle.rina_alloc.specs.declared.message.FlowMessage.{FlowMessage}
use Rattle.rina_alloc.specs.Messages.{IsSpelled}
use Rattle.rina_base.specs.declared.cause.Cause.{Cause}
use Rattle.rina_base.specs.declared.cause.Cause.TheVariants as causes
use Rattle.rina_base.specs.declared.number.Port.{Port}
use Rattle.rina_base.specs.declared.pdu.Pdu.{Pdu}
use Rattle.rina_base.specs.declared.pdu.PduKind.{PduKind}
use Rattle.rina_base.specs.declared.pdu.PduKind.TheVariants.{Piece as APiece, Ack as AnAck}
use Rattle.rina_channel.specs.declared.channel.Channel.{Channel}
use Rattle.rina_channel.specs.Changes.{LeavesLinks}
use Rattle.rina_channel.specs.Channels.{ChannelsSeen}
use Rattle.rina_channel.specs.Coming.{IsTaker, LeavesOff, TakesOnLink, TakesPiece}
use Rattle.rina_channel.specs.Names.{link_config, named}
use Rattle.rina_channel.proofs.Received.{taking_on_links_stands}
use Rattle.rina_data.specs.declared.step.Took.{Took}
use Rattle.rina_data.specs.declared.step.Took.TheVariants as took
use Rattle.rina_data.specs.Configs.{config_of}
use Rattle.rina_data.specs.Hops.{Hop}
use Rattle.rina_dif_law.specs.Ids.{Ids}
use Rattle.rina_flood.specs.Network.{Side, other}
use Rattle.rina_flood.specs.Static.{end_place}
use Rattle.rina_flows.specs.Calls.{AreTied}
use Rattle.rina_flows.specs.Rows.{TakesAt}
use Rattle.rina_flows.specs.Tied.{conns_of}
use Rattle.rina_iface.specs.declared.ends.End.{End}
use Rattle.rina_iface.specs.Journal.{At, AreKept}
use Rattle.rina_iface.specs.Pass.{IsPassed}
use Rattle.rina_iface.specs.Seen.{Seen}
use Rattle.rina_iface.proofs.Changed.{slice_get-set_same}
use Rattle.rina_law.specs.declared.entry.Entry.{Entry}
use Rattle.rina_law.specs.Direction.{Direction}
use Rattle.rina_route.proofs.Lists.{cases, contains_unmap, head, in_none, tail}
use Rattle.rina_dif.specs.declared.dif.Dif.{Dif}
use Rattle.rina_dif.specs.Connected.{AreConnected, ArePaired, CanManage, HasConnection, channels_seen}
use Rattle.rina_dif.specs.Flooding.{handled_at, offered_at, texts_of}
use Rattle.rina_dif.specs.FlowMessages.{AreFlowMessages, BringsMessages, IsReadAs, read_before}
use Rattle.rina_dif.specs.Handling.{IsToldAhead, unpassed_sdus}
use Rattle.rina_dif.specs.Holding.{Holds, LinksStand}
use Rattle.rina_dif.specs.Shown.{seen_of}
use Rattle.rina_dif.specs.Taking.{IsOldest, TakesOwnPiece}
use Rattle.rina_dif.proofs.Ahead.{HasMore, more_unpassed, piece_brings}
use Rattle.rina_dif.proofs.Connected.{taking_connected}
use Rattle.rina_dif.proofs.Flooding.{taken_said}
use Rattle.rina_dif.proofs.Hearing.{side_across}
use Rattle.rina_dif.proofs.NamedByPlace.{taken_named}
use Rattle.rina_dif.proofs.OnLinks.{taker_at}
use Rattle.rina_dif.proofs.Partners.{got_from, paired_with}
use Rattle.rina_asked.specs.Alone.{all_on_links}
use Rattle.rina_asked.specs.Messages.{IsMessage, IsOnLink, on_link}
use Rattle.rina_asked.proofs.Flows.{AllOf}
use Rattle.rina_asked.proofs.Links.{handled_each, handled_length, one_fewer, said_path, set_offers}

-- Places in lists

pub at_contains : {X : Type 0} (xs : List X) (n : ℕ) (x : X) → slice_get xs n ≡ Some x → Contains xs x
at_contains [] n x is = absurd cc
at_contains (y ∷ ys) zero x is = (let same : y ≡ x = cc in subst (λ z. Contains (y ∷ ys) z) same (head y ys))
at_contains (y ∷ ys) (suc n) x is = tail y ys x (at_contains ys n x is)

at_drop : {X : Type 0} (k n : ℕ) (xs : List X) (x : X) → k ≤ n → slice_get xs n ≡ Some x → Contains (drop k xs) x
at_drop zero n xs x le is = at_contains xs n x is
at_drop (suc k) zero xs x le is = absurd (omega (arith, le))
at_drop (suc k) (suc n) [] x le is = absurd cc
at_drop (suc k) (suc n) (y ∷ ys) x le is = at_drop k n ys x (omega (arith, le)) is

contains_at : {X : Type 0} (xs : List X) (x : X) → Contains xs x → (n : ℕ) × (slice_get xs n ≡ Some x)
contains_at [] x h = absurd (in_none x h)
contains_at (y ∷ ys) x h = ⊎_elim (λ same. (zero, ap (λ z. Some z) same)) (λ rest. (let r = contains_at ys x rest in (suc r.0, r.1))) (cases y ys x h)

drop_at : {X : Type 0} (k : ℕ) (xs : List X) (x : X) → Contains (drop k xs) x → (n : ℕ) × (k ≤ n) × (slice_get xs n ≡ Some x)
drop_at zero xs x h = (let r = contains_at xs x h in (r.0, omega arith, r.1))
drop_at (suc k) [] x h = absurd (in_none x h)
drop_at (suc k) (y ∷ ys) x h = (let r = drop_at k ys x h in let le = r.1 in (suc r.0, omega (arith, le), r.2))

-- The messages that are read of texts

read_among : (d : Dif) (sdu : List ℕ) (read : Option FlowMessage) (rest : List FlowMessage) → IsReadAs sdu read → IsOnLink d sdu → AllOf (IsMessage d) rest → AllOf (IsMessage d) (read_before read rest)
read_among d sdu None rest is on all = all
read_among d sdu (Some m) rest is on all = (record { text = sdu; on_way = inr on; is = is }, all)

all_among : (d : Dif) (sdus : List (List ℕ)) (ms : List FlowMessage) → ((sdu : List ℕ) → Contains sdus sdu → IsOnLink d sdu) → AreFlowMessages sdus ms → AllOf (IsMessage d) ms
all_among d [] ms on none = subst (AllOf (IsMessage d)) (sym none) tt
all_among d (sdu ∷ sdus) ms on are = subst (AllOf (IsMessage d)) (sym are.4) (read_among d sdu are.0 are.1 are.2 (on sdu (head sdu sdus)) (all_among d sdus are.1 (λ x has. on x (tail sdu sdus x has)) are.3))

-- no more messages are read than there are texts of them, where a text counts as its message
module _ (F : FlowMessage → ℕ) (G : List ℕ → ℕ) (weighs : (m : FlowMessage) (text : List ℕ) → IsSpelled m text → G text ≡ F m) where
  read_one : (sdu : List ℕ) (read : Option FlowMessage) (rest : List FlowMessage) → IsReadAs sdu read → sum_by F (read_before read rest) ≤ G sdu + sum_by F rest
  read_one sdu None rest is = omega arith
  read_one sdu (Some m) rest is = (let same = weighs m sdu is.spelled in let whole = sum_by-cons F m rest in omega (arith, same, whole))

  read_fewer : (sdus : List (List ℕ)) (ms : List FlowMessage) → AreFlowMessages sdus ms → sum_by F ms ≤ sum_by G sdus
  read_fewer [] ms none = (let path = ap (sum_by F) none in omega (arith, path))
  read_fewer (sdu ∷ sdus) ms are =
      let path = ap (sum_by F) are.4 in
      let here = read_one sdu are.0 are.1 are.2 in
      let rest = read_fewer sdus are.1 are.3 in
      let whole = sum_by-cons G sdu sdus in
      omega (arith, path, here, rest, whole)

-- where one list is of the first texts of another
sum_prefix : (G : List ℕ → ℕ) (k : ℕ) (xs : List Entry) (ys : List (List ℕ)) → ((n : ℕ) (x : Entry) → slice_get xs n ≡ Some x → slice_get ys n ≡ Some x.bytes) → k ≤ length xs → sum_by G (texts_of (drop k xs)) + sum_by G (drop (length xs) ys) ≡ sum_by G (drop k ys)
sum_prefix G zero [] ys pre le = omega arith
sum_prefix G (suc k) [] ys pre le = absurd (omega (arith, le))
sum_prefix G k (x ∷ xs) [] pre le = absurd (none-some x.bytes (pre zero x refl))
sum_prefix G zero (x ∷ xs) (y ∷ ys) pre le =
    let same : G y ≡ G x.bytes = ap G (same_Some y x.bytes (pre zero x refl)) in
    let rest = sum_prefix G zero xs ys (λ n e is. pre (suc n) e is) (omega arith) in
    let whole = sum_by-cons G x.bytes (texts_of xs) in
    let now = sum_by-cons G y ys in
    omega (arith, same, rest, whole, now)
sum_prefix G (suc k) (x ∷ xs) (y ∷ ys) pre le = sum_prefix G k xs ys (λ n e is. pre (suc n) e is) (omega (arith, le))

-- An own piece is taken

no_piece : (k : PduKind) → k ≡ APiece → k ≡ AnAck → ⊥
no_piece k piece ack = absurd cc

module _ (d : Dif) (i since : ℕ) (port : Port) (hop : Hop) (lines : List Direction) (below : Seen) (h : Holds d lines below) (kept : AreKept below) (o : IsOldest (config_of d.settings) below port since hop) (place : ℕ) (its : Pdu) (own : TakesOwnPiece d since port hop place its)
    (told : Took) (dropped : List Off) (taken : Dif) (links' : List Direction) (takes : TakesOnLink (channels_seen (config_of d.settings) d.clock d.connections) h.connected.lines port hop.pdu told dropped (channels_seen (config_of taken.settings) taken.clock taken.connections) links')
    (leaves : LeavesLinks (seen_of d).processes (seen_of taken).processes) where
  abbrev m : ChannelsSeen
  m = channels_seen (config_of d.settings) d.clock d.connections

  abbrev m' : ChannelsSeen
  m' = channels_seen (config_of taken.settings) taken.clock taken.connections

  abbrev taken_by : (channel : Channel) × (its ≡ named channel.partner place hop.pdu) × ((end : End) × (ids : Ids) × IsTaker m port hop.pdu place channel end ids × TakesAt d.connections.flows.journal.ends (conns_of d.connections.flows.conns) its place end ids)
  taken_by = taker_at (config_of d.settings) d.clock d.connections h.connected.lines (seen_of d).processes below h.connected.standing port hop.pdu place its own.taker

  abbrev channel : Channel
  channel = taken_by.0

  abbrev end : End
  end = taken_by.2.0

  on : IsTaker m port hop.pdu place channel end taken_by.2.1
  on = taken_by.2.2

  left_off : (cause : Cause) → LeavesOff m h.connected.lines port hop.pdu cause dropped m' links' → TakesPiece m h.connected.lines port hop.pdu (Some cause) dropped m' links'
  left_off (causes.NoConnection cep) s = absurd (s.1 place channel end taken_by.2.1 on)
  left_off (causes.Expired left charge) s = s
  left_off (causes.NoRoute dst) s = s
  left_off (causes.QueueFull cap) s = s
  left_off (causes.Duplicate num) s = s
  left_off (causes.Behind top) s = s
  left_off (causes.NoState drf) s = s
  left_off (causes.NoRoom cap) s = s
  left_off (causes.StateGone last_in) s = s
  left_off (causes.Broken missing) s = s
  left_off (causes.LinkDown down) s = s

  took_piece : (t : Took) → TakesOnLink m h.connected.lines port hop.pdu t dropped m' links' → (cause : Option Cause) × TakesPiece m h.connected.lines port hop.pdu cause dropped m' links'
  took_piece took.Accepted s = elim s [
    | inl piece ↦ (None, piece)
    | inr ack ↦ absurd (no_piece hop.pdu.kind own.piece ack.0.ack)
  ]
  took_piece took.Relayed s = absurd s
  took_piece (took.Off cause) s = (Some cause, left_off cause s)

  piece : (cause : Option Cause) × TakesPiece m h.connected.lines port hop.pdu cause dropped m' links'
  piece = took_piece told takes

  -- the management connections stand then
  pub still_stand : (below' : Seen) → AreKept below' → IsPassed below port below' → AreTied (link_config (config_of taken.settings) taken.connections.manage) taken.clock taken.connections.flows links' → LinksStand taken below'
  still_stand below' kept' passed tied =
      let in_time : d.clock - o.entry.tick ≤ hop.left = subst (λ (x : ℕ). d.clock - x ≤ hop.left) (sym o.tick) own.for_link.0 in
      let new = piece.1.new_is in
      let c : AreConnected (config_of taken.settings) taken.clock taken.connections (seen_of taken).processes below = record {
        may = subst (λ (z : ChannelsSeen). CanManage z.config z.manage) (sym new) h.connected.may;
        lines = links';
        tied = tied;
        standing = taking_on_links_stands m h.connected.lines (seen_of d).processes (seen_of taken).processes below port o.entry hop told dropped m' links' kept h.connected.standing o.oldest o.opens own.for_link.1 in_time takes leaves;
        paired = subst (λ (z : ChannelsSeen). ArePaired z.channels) (sym new) h.connected.paired;
        named = taken_named m h.connected.lines port hop.pdu dropped m' links' told takes h.connected.named;
        each = λ j n q live. subst (λ (z : ChannelsSeen). HasConnection z.channels j n q) (sym new) (h.connected.each j n q (leaves.live j n q live));
      } in
      taking_connected (config_of taken.settings) taken.clock taken.connections (seen_of taken).processes below port below' kept kept' passed c

  -- what came was on the link
  module _ (below' : Seen) (stand : LinksStand taken below') (bodies : List (List ℕ)) (ahead : IsToldAhead d place its bodies) where
    more : HasMore m.ends m'.ends place bodies end
    more =
        let x = piece_brings d i since port hop lines below h kept o own.for_link place its bodies piece.0 dropped m' links' own.piece own.taker ahead piece.1 in
        subst (λ (e : End). HasMore m.ends m'.ends place bodies e) (same_Some x.0 end (sym x.1 ∙ on.takes.is_conn.end)) x.2

    abbrev its_end : End
    its_end = record end { got = more.got }

    end_there : At m'.ends place its_end
    end_there = ap (λ (es : List End). slice_get es place) more.is ∙ slice_get-set_same m.ends place end its_end on.takes.is_conn.end

    -- its partner
    abbrev side : (l : ℕ) × (side : Side) × (end_place l (other side) ≡ place)
    side = side_across place

    abbrev offered : List (List ℕ)
    offered = offered_at (slice_get m.ends (end_place side.0 side.1))

    -- offered what came, in order
    prefix : (n : ℕ) (x : Entry) → slice_get more.got n ≡ Some x → slice_get offered n ≡ Some x.bytes
    prefix n x is =
        let stands : slice_get m'.channels place ≡ Some channel = ap (λ (z : ChannelsSeen). slice_get z.channels place) piece.1.new_is ∙ on.stands in
        let from = got_from m' stand.lines (seen_of taken).processes below' place channel its_end n x stand.standing stands end_there on.takes.allocated is in
        let partner : channel.partner ≡ end_place side.0 side.1 = paired_with d.connections.channels side.0 side.1 channel h.connected.paired (ap (slice_get d.connections.channels) side.2 ∙ on.stands) in
        let said = taken_said m h.connected.lines (seen_of d).processes below h.connected.standing port hop.pdu dropped m' links' told takes in
        let sent : offered ≡ texts_of from.partner.sent = ap (λ (k : ℕ). offered_at (slice_get m.ends k)) (sym partner) ∙ sym (said.sent channel.partner) ∙ ap offered_at from.is_partner in
        ap (λ (ts : List (List ℕ)). slice_get ts n) sent ∙ slice_get-map (λ (y : Entry). y.bytes) from.partner.sent n ∙ ap (option_map (λ (y : Entry). y.bytes)) from.is_source ∙ ap (λ (t : List ℕ). Some t) (sym from.same)

    passed : end.taken ≤ length end.got
    passed = (h.connected.standing.journal.whole place end on.takes.is_conn.end).taken

    within : end.taken ≤ length more.got
    within = (stand.standing.journal.whole place its_end end_there).taken

    count : length (handled_at (slice_get m.ends (end_place side.0 (other side.1)))) ≡ end.taken
    count = ap (λ (k : ℕ). length (handled_at (slice_get m.ends k))) side.2 ∙ ap (λ (e : Option End). length (handled_at e)) on.takes.is_conn.end ∙ handled_length end passed

    on_it : on_link d side.0 side.1 ≡ drop end.taken offered
    on_it = ap (λ (n : ℕ). drop n offered) count

    came : (sdu : List ℕ) → Contains (unpassed_sdus end ++ bodies) sdu → IsOnLink d sdu
    came sdu has =
        let among : Contains (texts_of (drop end.taken more.got)) sdu = subst (λ (ts : List (List ℕ)). Contains ts sdu) (sym (more_unpassed m.ends m'.ends place bodies end more passed)) has in
        let entry = contains_unmap (λ (x : Entry). x.bytes) (drop end.taken more.got) sdu among in
        let at = drop_at end.taken more.got entry.0 entry.1 in
        let there : slice_get offered at.0 ≡ Some entry.0.bytes = prefix at.0 entry.0 at.2 in
        let text : slice_get offered at.0 ≡ Some sdu = subst (λ (t : List ℕ). slice_get offered at.0 ≡ Some t) entry.2 there in
        record { link = side.0; side = side.1; among = subst (λ (ts : List (List ℕ)). Contains ts sdu) (sym on_it) (at_drop end.taken at.0 offered sdu at.1 text) }

    -- and is on it no more, once it is handled
    module _ (G : List ℕ → ℕ) (handled : Dif) (ends : handled.connections.flows.journal.ends ≡ slice_set m'.ends place (record its_end { taken = length more.got })) where
      abbrev done : End
      done = record its_end { taken = length more.got }

      rest_on : on_link handled side.0 side.1 ≡ drop (length more.got) offered
      rest_on =
          let said = taken_said m h.connected.lines (seen_of d).processes below h.connected.standing port hop.pdu dropped m' links' told takes in
          let sent : offered_at (slice_get handled.connections.flows.journal.ends (end_place side.0 side.1)) ≡ offered = ap (λ (es : List End). offered_at (slice_get es (end_place side.0 side.1))) ends ∙ set_offers m'.ends place its_end done end_there refl (end_place side.0 side.1) ∙ said.sent (end_place side.0 side.1) in
          let got : length (handled_at (slice_get handled.connections.flows.journal.ends (end_place side.0 (other side.1)))) ≡ length more.got =
          ap (λ (es : List End). length (handled_at (slice_get es (end_place side.0 (other side.1))))) ends ∙ ap (λ (k : ℕ). length (handled_at (slice_get (slice_set m'.ends place done) k))) side.2 ∙ ap (λ (o : Option End). length (handled_at o)) (slice_get-set_same m'.ends place its_end done end_there) ∙ handled_length done (omega arith) in
          (λ i. drop (got i) (sent i))

      less_on : sum_by G (on_link handled side.0 side.1) + sum_by G (unpassed_sdus end ++ bodies) ≤ sum_by G (on_link d side.0 side.1)
      less_on =
          let whole = sum_prefix G end.taken more.got offered prefix within in
          let texts = ap (sum_by G) (more_unpassed m.ends m'.ends place bodies end more passed) in
          let before = ap (sum_by G) on_it in
          let after = ap (sum_by G) rest_on in
          omega (arith, whole, texts, before, after)

  pub brought_among : (below' : Seen) → LinksStand taken below' → (ms : List FlowMessage) → BringsMessages d place its ms → AllOf (IsMessage d) ms
  brought_among below' stand ms brings =
      let b = brings end on.takes.is_conn.end in
      all_among d (unpassed_sdus end ++ b.0) ms (came below' stand b.0 b.1) b.2

  -- so was all that the end passes then
  pub all_came : (below' : Seen) → LinksStand taken below' → (ms : List FlowMessage) → BringsMessages d place its ms → (e : End) → At taken.connections.flows.journal.ends place e → (sdu : List ℕ) → Contains (unpassed_sdus e) sdu → IsOnLink d sdu
  all_came below' stand ms brings e is sdu has =
      let b = brings end on.takes.is_conn.end in
      let e_is : e ≡ its_end below' stand b.0 b.1 = same_Some e (its_end below' stand b.0 b.1) (sym is ∙ end_there below' stand b.0 b.1) in
      let texts = more_unpassed m.ends m'.ends place b.0 end (more below' stand b.0 b.1) (passed below' stand b.0 b.1) in
      came below' stand b.0 b.1 sdu (subst (λ (ts : List (List ℕ)). Contains ts sdu) texts (subst (λ (x : End). Contains (unpassed_sdus x) sdu) e_is has))

  -- the links have so much less then
  pub brought_fewer : (below' : Seen) → LinksStand taken below' → (handled : Dif) (e : End) → At taken.connections.flows.journal.ends place e → handled.connections.flows.journal.ends ≡ slice_set taken.connections.flows.journal.ends place (record e { taken = length e.got })
      → (F : FlowMessage → ℕ) (G : List ℕ → ℕ) → ((m : FlowMessage) (text : List ℕ) → IsSpelled m text → G text ≡ F m) → (ms : List FlowMessage) → BringsMessages d place its ms → (links : ℕ) → (side_across place).0 < links → all_on_links G handled links + sum_by F ms ≤ all_on_links G d links
  brought_fewer below' stand handled e is ends F G weighs ms brings links lt =
      let b = brings end on.takes.is_conn.end in
      let e_is : e ≡ its_end below' stand b.0 b.1 = same_Some e (its_end below' stand b.0 b.1) (sym is ∙ end_there below' stand b.0 b.1) in
      let change = subst (λ (x : End). handled.connections.flows.journal.ends ≡ slice_set m'.ends place (record x { taken = length x.got })) e_is ends in
      let less = less_on below' stand b.0 b.1 G handled change in
      let said = taken_said m h.connected.lines (seen_of d).processes below h.connected.standing port hop.pdu dropped m' links' told takes in
      let long = (stand.standing.journal.whole place e is).taken in
      let each : (l : ℕ) (side : Side) → sum_by G (on_link handled l side) ≤ sum_by G (on_link d l side) = λ l side.
      (let path = ap (sum_by G) (said_path d taken said l side) in
      let now = handled_each taken handled place e (record e { taken = length e.got }) is ends refl long (omega arith) long G l side in
      omega (arith, path, now)) in
      let all = one_fewer G d handled each (side_across place).0 (side_across place).1 (sum_by G (unpassed_sdus end ++ b.0)) less links lt in
      let hand = read_fewer F G weighs (unpassed_sdus end ++ b.0) ms b.2 in
      omega (arith, all, hand)
