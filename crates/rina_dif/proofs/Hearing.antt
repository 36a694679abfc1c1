-- A member handles the messages of a link one after the other, as flooding sees it.
use Rattle.std.proofs.Common.{◌≡◌, ◌∙◌, ℕ, zero, suc, ◌+◌, ◌≤◌, false, List, [], ◌∷◌, ◌++◌, drop, length, map, slice_get, slice_set, set-set, take, Option, Some, None, option_map, Ok, refl, sym, ap, subst, inl, inr, arith}
use Rattle.std.proofs.lemmas.Bool.{cases_Bool, true≢false}
use Rattle.std.proofs.lemmas.List.{length-map, length-take-le}
use Rattle.std.proofs.lemmas.Option.{slice_get-map, slice_get_within}
use Rattle.rina_agent.specs.declared.agent.Agent.{Agent}
use Rattle.rina_agent.specs.declared.message.ManagementMessage.{ManagementMessage}
use Rattle.rina_agent.specs.declared.message.ManagementMessage.TheVariants.{ToMember, ToNeighbour}
use Rattle.rina_agent.specs.Rows.{handled}
use Rattle.rina_alloc.specs.declared.message.FlowMessage.{FlowMessage}
use Rattle.rina_alloc.specs.Messages.{IsSpelled as IsFlowText}
use Rattle.rina_data.specs.Configs.{config_of}
use Rattle.rina_enrol.specs.declared.message.LinkMessage.{LinkMessage}
use Rattle.rina_enrol.specs.declared.message.LinkMessage.TheVariants as messages
use Rattle.rina_enrol.specs.Messages.{IsInRange, IsSpelled}
use Rattle.rina_enrol.proofs.Guesses.{one_message}
use Rattle.rina_flood.specs.Journals.{passed_by, offered_by}
use Rattle.rina_flood.specs.Members.{Adds, AreSame, AreTexts, HandlesMessage, IsAgentAt, IsRunOf, MembersSeen, PassesOver}
use Rattle.rina_flood.specs.Network.{Far, Near, Side, There, after_rows, other}
use Rattle.rina_flood.specs.Static.{LinkEnd, end_place}
use Rattle.rina_flood.proofs.Journals.{passes_add}
use Rattle.rina_flood.proofs.Handled.{handles_run, passes_run}
use Rattle.rina_flood.proofs.Members.{texts_first}
use Rattle.rina_flood.proofs.Places.{drop_at}
use Rattle.rina_iface.specs.declared.ends.End.{End}
use Rattle.rina_iface.specs.Seen.{Seen}
use Rattle.rina_iface.proofs.Changed.{slice_get-set_other, slice_get-set_same}
use Rattle.rina_law.specs.declared.entry.Entry.{Entry}
use Rattle.rina_member.specs.declared.management.Management.{Management}
use Rattle.rina_member.specs.Managements.{HandlesSdu, IsSdu, IsSduOf, is_news}
use Rattle.rina_member.proofs.TextsApart.{texts_apart}
use Rattle.rina_dif.specs.declared.dif.Dif.{Dif}
use Rattle.rina_dif.specs.Connected.{channels_seen}
use Rattle.rina_dif.specs.Flooding.{handled_at, link_end, offered_at, texts_of}
use Rattle.rina_dif.specs.Handling.{HandlesInTurn, HandlesOne, or_same}
use Rattle.rina_dif.specs.Holding.{LinksStand}
use Rattle.rina_dif.specs.LinkDue.{IsLinkEnd}
use Rattle.rina_dif.specs.Managing.{agents_of}
use Rattle.rina_dif.specs.Shown.{seen_of}
use Rattle.rina_dif.proofs.Flooding.{side_at}
use Rattle.rina_dif.proofs.Partners.{IsFromPartner, got_from, paired_with}
use Rattle.rina_dif.proofs.LinkEnds.{end_there}

-- One message

-- an item that is no news leaves a member as it is
old_stays : (now number : ℕ) (message : LinkMessage) (a : Agent) → is_news a.items message ≡ false → handled a now number message ≡ Ok a
old_stays now number (messages.Connect invoke joiner member) a old = absurd (true≢false old)
old_stays now number (messages.ConnectR invoke denied) a old = absurd (true≢false old)
old_stays now number (messages.Start invoke address) a old = absurd (true≢false old)
old_stays now number (messages.StartR invoke) a old = absurd (true≢false old)
old_stays now number (messages.Item item) a old = rw old refl
old_stays now number (messages.Stop invoke) a old = absurd (true≢false old)
old_stays now number (messages.StopR invoke) a old = absurd (true≢false old)
old_stays now number (messages.Flood item) a old = rw old refl

by_news : (now number : ℕ) (sdu : List ℕ) (message : LinkMessage) (m : Management) (after : Option Management) → IsInRange message → IsSpelled message sdu → HandlesSdu now number sdu m (Ok after) → handled m.agent now number message ≡ Ok (or_same m after).agent
by_news now number sdu message m (Some m') range spelled h =
    let same : h.0 ≡ message = one_message h.0 message sdu h.1.is_sdu.in_range range h.1.is_sdu.spelled spelled in
    ap (λ (k : LinkMessage). handled m.agent now number k) (sym same) ∙ h.2.handles
by_news now number sdu message m None range spelled none = elim (cases_Bool (is_news m.agent.items message)) [
  | inl news ↦ absurd (none message (record { is_sdu = record { in_range = range; spelled = spelled }; news = news }))
  | inr old ↦ old_stays now number message m.agent old
]

-- an SDU is handled as the message that is written so
pub one_handled : (now number : ℕ) (sdu : List ℕ) (message : LinkMessage) (m m' : Management) → IsInRange message → IsSpelled message sdu → HandlesOne now number sdu m m' → handled m.agent now number message ≡ Ok m'.agent
one_handled now number sdu message m m' range spelled h = by_news now number sdu message m h.after range spelled h.handles ∙ ap (λ (g : Management). Ok g.agent) (sym h.is)

-- an SDU about a flow leaves a member as it is
passed_over : (now number : ℕ) (sdu : List ℕ) (flow : FlowMessage) (m : Management) (after : Option Management) → IsFlowText flow sdu → HandlesSdu now number sdu m (Ok after) → or_same m after ≡ m
passed_over now number sdu flow m None text h = refl
passed_over now number sdu flow m (Some m') text h = absurd (texts_apart sdu h.0 flow h.1.is_sdu text)

pub one_passed : (now number : ℕ) (sdu : List ℕ) (flow : FlowMessage) (m m' : Management) → IsFlowText flow sdu → HandlesOne now number sdu m m' → m' ≡ m
one_passed now number sdu flow m m' text h = h.is ∙ passed_over now number sdu flow m h.after text h.handles

-- Places

-- each place is that at the other end of a side of a link
pub side_across : (k : ℕ) → (l : ℕ) × (side : Side) × (end_place l (other side) ≡ k)
side_across k = turned (side_at k)
  where
    turned : (l : ℕ) × (side : Side) × (end_place l side ≡ k) → (l : ℕ) × (side : Side) × (end_place l (other side) ≡ k)
    turned (l, Near, is) = (l, Far, is)
    turned (l, Far, is) = (l, Near, is)

sides_apart : (l : ℕ) (side : Side) → end_place l side ≡ end_place l (other side) → ⊥
sides_apart l Near is = omega (arith, is)
sides_apart l Far is = omega (arith, is)

-- Texts

told_handled : (o : Option End) → handled_at o ≡ passed_by o
told_handled None = refl
told_handled (Some end) = refl

told_offered : (o : Option End) → offered_at o ≡ offered_by o
told_offered None = refl
told_offered (Some end) = refl

-- One turn after the other

dropped_all : {X : Type 0} (xs : List X) (k : ℕ) → k ≤ length xs → drop k xs ≡ [] → k ≡ length xs
dropped_all [] zero le none = refl
dropped_all [] (suc k) le none = absurd (omega (arith, le))
dropped_all (x ∷ xs) zero le none = absurd cc
dropped_all (x ∷ xs) (suc k) le none = (let rest = dropped_all xs k (omega (arith, le)) none in omega (arith, rest))

dropped_at : {X : Type 0} (xs : List X) (k : ℕ) (x : X) (rest : List X) → drop k xs ≡ x ∷ rest → (slice_get xs k ≡ Some x) × (drop (suc k) xs ≡ rest)
dropped_at [] zero x rest is = absurd cc
dropped_at [] (suc k) x rest is = absurd cc
dropped_at (y ∷ ys) zero x rest is = (let same : y ≡ x = cc in let more : ys ≡ rest = cc in (ap (λ z. Some z) same, more))
dropped_at (y ∷ ys) (suc k) x rest is = dropped_at ys k x rest is

module _ (d : Dif) (i place number : ℕ) (here : IsLinkEnd d i place number) (g : Management) (is_g : slice_get d.managements i ≡ Some g) (below : Seen) (links : LinksStand d below) where
  abbrev end : End
  end = here.end

  abbrev ends_at : ℕ → List End
  ends_at n = slice_set d.connections.flows.journal.ends place (record end { taken = n })

  -- so many SDUs of the end are passed, and the member is this
  abbrev pub turn : ℕ → Management → MembersSeen
  turn n m = record {
    members = d.settings.members;
    agents = slice_set (agents_of d.managements) i m.agent;
    now = d.clock;
    ends = map (link_end d.processes) d.connections.channels;
    sent = λ k. offered_at (slice_get (ends_at n) k);
    got = λ k. handled_at (slice_get (ends_at n) k);
  }

  abbrev pub l : ℕ
  l = (side_across place).0

  abbrev pub side : Side
  side = (side_across place).1

  abbrev pub from_place : ℕ
  from_place = end_place l side

  to_place : end_place l (other side) ≡ place
  to_place = (side_across place).2

  partner_is : here.channel.partner ≡ from_place
  partner_is = paired_with d.connections.channels l side here.channel links.paired (ap (slice_get d.connections.channels) to_place ∙ here.stands)

  apart : from_place ≡ place → ⊥
  apart same = sides_apart l side (same ∙ sym to_place)

  here_at : (n : ℕ) → slice_get (ends_at n) place ≡ Some (record end { taken = n })
  here_at n = slice_get-set_same d.connections.flows.journal.ends place end (record end { taken = n }) here.is_end

  abbrev pub its_end : LinkEnd
  its_end = record { member = i; state = There number }

  there : slice_get (map (link_end d.processes) d.connections.channels) (end_place l (other side)) ≡ Some its_end
  there =
      let numbers = sym here.number_is in
      let end_is : link_end d.processes here.channel ≡ its_end = end_there d.processes here.channel here.live ∙ (λ j. record { member = here.member j; state = There (numbers j) }) in
      ap (slice_get (map (link_end d.processes) d.connections.channels)) to_place ∙ slice_get-map (link_end d.processes) d.connections.channels place ∙ ap (option_map (link_end d.processes)) here.stands ∙ ap (λ (e : LinkEnd). Some e) end_is

  pub agent_at : slice_get (agents_of d.managements) i ≡ Some g.agent
  agent_at = slice_get-map (λ (z : Management). z.agent) d.managements i ∙ ap (option_map (λ (z : Management). z.agent)) is_g

  module _ (n : ℕ) (m m' : Management) (entry : Entry) (is : slice_get end.got n ≡ Some entry) (one : HandlesOne d.clock number entry.bytes m m') (r : IsRunOf d.laid.is_static d.laid.links (turn n m)) where
    from : IsFromPartner d.connections.flows.journal.ends here.channel.partner n entry.bytes
    from = got_from (channels_seen (config_of d.settings) d.clock d.connections) links.lines (seen_of d).processes below place here.channel end n entry links.standing here.stands here.is_end here.allocated is

    -- what the partner offered
    partner_sent : (turn n m).sent from_place ≡ texts_of from.partner.sent
    partner_sent = ap offered_at (slice_get-set_other d.connections.flows.journal.ends place from_place (record end { taken = n }) apart ∙ ap (slice_get d.connections.flows.journal.ends) (sym partner_is) ∙ from.is_partner)

    -- so many were handled
    count : length ((turn n m).got (end_place l (other side))) ≡ n
    count =
        let within = slice_get_within end.got n entry is in
        let texts : (turn n m).got (end_place l (other side)) ≡ texts_of (take n end.got) = ap (λ (k : ℕ). handled_at (slice_get (ends_at n) k)) to_place ∙ ap handled_at (here_at n) in
        let long = length-map (take n end.got) (λ (x : Entry). x.bytes) in
        ap (λ (ts : List (List ℕ)). length ts) texts ∙ long ∙ length-take-le n end.got (omega (arith, within))

    pub next : slice_get ((turn n m).sent from_place) (length ((turn n m).got (end_place l (other side)))) ≡ Some entry.bytes
    next =
        ap (slice_get ((turn n m).sent from_place)) count ∙ ap (λ (ts : List (List ℕ)). slice_get ts n) partner_sent ∙ slice_get-map (λ (x : Entry). x.bytes) from.partner.sent n ∙ ap (option_map (λ (x : Entry). x.bytes)) from.is_source ∙ ap (λ (t : List ℕ). Some t) (sym from.same)

    -- it is the bytes of a message
    pub heard : (message : ManagementMessage) × IsSduOf message entry.bytes
    heard =
        let rest : List (List ℕ) = drop (suc (length ((turn n m).got (end_place l (other side))))) ((turn n m).sent from_place) in
        let texts = r.is.sent l side in
        let first = texts_first ((after_rows r.start r.rows).sent l side) entry.bytes rest (subst (λ (ts : List (List ℕ)). AreTexts ((after_rows r.start r.rows).sent l side) ts) (drop_at ((turn n m).sent from_place) (length ((turn n m).got (end_place l (other side)))) entry.bytes next) texts) in
        (first.0, first.3)

    -- the journal after it
    abbrev twice : List End
    twice = slice_set (ends_at n) place (record end { taken = n + 1 })

    same_ends : twice ≡ ends_at (n + 1)
    same_ends = set-set d.connections.flows.journal.ends place (record end { taken = n }) (record end { taken = n + 1 })

    got_more : Adds (end_place l (other side)) entry.bytes (turn n m).got (turn (n + 1) m').got
    got_more =
        let a = (passes_add (ends_at n) place (record end { taken = n }) entry (here_at n) is).passed in
        let old : (k : ℕ) → (turn n m).got k ≡ passed_by (slice_get (ends_at n) k) = λ k. told_handled (slice_get (ends_at n) k) in
        let new : (k : ℕ) → (turn (n + 1) m').got k ≡ passed_by (slice_get twice k) = λ k. told_handled (slice_get (ends_at (n + 1)) k) ∙ ap (λ (es : List End). passed_by (slice_get es k)) (sym same_ends) in
        let more : Adds place entry.bytes (turn n m).got (turn (n + 1) m').got = record {
          here = new place ∙ a.here ∙ ap (λ (ts : List (List ℕ)). ts ++ entry.bytes ∷ []) (sym (old place));
          elsewhere = λ k other_place. new k ∙ a.elsewhere k other_place ∙ sym (old k);
        } in
        subst (λ (k : ℕ). Adds k entry.bytes (turn n m).got (turn (n + 1) m').got) (sym to_place) more

    sent_same : AreSame (turn n m).sent (turn (n + 1) m').sent
    sent_same k =
        let a = (passes_add (ends_at n) place (record end { taken = n }) entry (here_at n) is).offered in
        ap (λ (es : List End). offered_at (slice_get es k)) (sym same_ends) ∙ told_offered (slice_get twice k) ∙ a k ∙ sym (told_offered (slice_get (ends_at n) k))

    pub turn_at : IsAgentAt (turn n m) l (other side) its_end m.agent
    turn_at = record { is_end = there; is_agent = slice_get-set_same (agents_of d.managements) i g.agent m.agent agent_at }

    handled_event : (word : LinkMessage) → IsSdu word entry.bytes → HandlesMessage (turn n m) (turn (n + 1) m')
    handled_event word is_sdu = record {
      link = l;
      side = side;
      end = its_end;
      agent = m.agent;
      at = turn_at;
      number = number;
      there = refl;
      text = entry.bytes;
      next = next;
      message = word;
      written = is_sdu;
      after = m'.agent;
      handles = one_handled d.clock number entry.bytes word m m' is_sdu.in_range is_sdu.spelled one;
      stays = record { members = refl; ends = refl };
      now = refl;
      agents = sym (set-set (agents_of d.managements) i m.agent m'.agent);
      sent = sent_same;
      got = got_more;
    }

    passed_event : (flow : FlowMessage) → IsFlowText flow entry.bytes → PassesOver (turn n m) (turn (n + 1) m')
    passed_event flow text = record {
      link = l;
      side = side;
      end = its_end;
      agent = m.agent;
      at = turn_at;
      number = number;
      there = refl;
      text = entry.bytes;
      next = next;
      none = λ word is_sdu. texts_apart entry.bytes word flow is_sdu text;
      stays = record { members = refl; ends = refl };
      now = refl;
      agents = ap (λ (z : Management). slice_set (agents_of d.managements) i z.agent) (one_passed d.clock number entry.bytes flow m m' text one);
      sent = sent_same;
      got = got_more;
    }

    -- either way
    heard_run : (message : ManagementMessage) → IsSduOf message entry.bytes → IsRunOf d.laid.is_static d.laid.links (turn (n + 1) m')
    heard_run (ToNeighbour word) is_sdu = handles_run d.laid.is_static d.laid.links (turn n m) (turn (n + 1) m') r (handled_event word is_sdu)
    heard_run (ToMember flow) text = passes_run d.laid.is_static d.laid.links (turn n m) (turn (n + 1) m') r (passed_event flow text)

    pub turn_run : IsRunOf d.laid.is_static d.laid.links (turn (n + 1) m')
    turn_run = heard_run heard.0 heard.1

  -- what holds of the member goes on to hold, where it does at each turn
  module _ (Holds' : Management → Type 0) (keeps : (n : ℕ) (m m' : Management) (entry : Entry) → slice_get end.got n ≡ Some entry → HandlesOne d.clock number entry.bytes m m' → IsRunOf d.laid.is_static d.laid.links (turn n m) → Holds' m → Holds' m') where
    pub all_turns : (rest : List Entry) (n : ℕ) (m m' : Management) → n ≤ length end.got → drop n end.got ≡ rest → HandlesInTurn d.clock number (texts_of rest) m m' → Holds' m → IsRunOf d.laid.is_static d.laid.links (turn n m) → Holds' m' × IsRunOf d.laid.is_static d.laid.links (turn (length end.got) m')
    all_turns [] n m m' le is same holds r =
        let all : n ≡ length end.got = dropped_all end.got n le is in
        (subst Holds' (sym same) holds, subst (λ (k : ℕ). IsRunOf d.laid.is_static d.laid.links (turn k m')) all (subst (λ (x : Management). IsRunOf d.laid.is_static d.laid.links (turn n x)) (sym same) r))
    all_turns (entry ∷ rest) n m m' le is h holds r =
        let first = dropped_at end.got n entry rest is in
        let within = slice_get_within end.got n entry first.0 in
        let one_more : suc n ≡ n + 1 = omega arith in
        all_turns rest (n + 1) h.0 m' (omega (arith, within)) (ap (λ (k : ℕ). drop k end.got) (sym one_more) ∙ first.1) h.2 (keeps n m h.0 entry first.0 h.1 r holds) (turn_run n m h.0 entry first.0 h.1 r)
