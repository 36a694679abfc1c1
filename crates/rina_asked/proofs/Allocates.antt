-- A flow is asked for: its request is that of the end that is made.
use Rattle.std.proofs.Common.{◌≡◌, ◌∙◌, ◌⊎◌, inl, inr, ℕ, ◌+◌, ◌*◌, ◌^◌, ◌<◌, ◌≤◌, Bool, true, false, cond, List, [], ◌∷◌, ◌++◌, length, option_map, slice_get, Option, Some, None, option_and_then, Result, Ok, Err, refl, sym, ap, subst, arith}
use Rattle.std.proofs.lemmas.Option.{same_Some, slice_get-map, slice_get_within}
use Rattle.rina_base.specs.declared.number.FlowName.{FlowName}
use Rattle.rina_base.specs.declared.number.Port.{Port}
use Rattle.rina_alloc.specs.declared.message.FlowAsk.{FlowAsk}
use Rattle.rina_alloc.specs.declared.message.FlowMessage.{FlowMessage}
use Rattle.rina_alloc.specs.declared.message.FlowWord.{FlowWord}
use Rattle.rina_alloc.specs.declared.message.FlowWord.TheVariants as words
use Rattle.rina_alloc.specs.Messages.{IsInRange, IsProper, IsSpelled}
use Rattle.rina_alloc.proofs.Guesses.{one_message}
use Rattle.rina_agent.specs.declared.agent.Agent.{Agent}
use Rattle.rina_agent.specs.declared.message.ManagementMessage.{ManagementMessage}
use Rattle.rina_agent.specs.declared.message.ManagementMessage.TheVariants.{ToMember}
use Rattle.rina_agent.specs.declared.message.Waiting.{Waiting}
use Rattle.rina_cube.specs.declared.Cube.{Cube}
use Rattle.rina_data.specs.Configs.{Member as Shown, config_of, member_of}
use Rattle.rina_dir.specs.Directory.{found}
use Rattle.rina_conn.specs.declared.conn.Conn.{Conn}
use Rattle.rina_dif_law.specs.Asking.{end_asked, ids_asked}
use Rattle.rina_dif_law.specs.Dif.{DifSeen, fac_of}
use Rattle.rina_dif_law.specs.Ids.{Ids}
use Rattle.rina_dif_law.specs.Numbered.{asked_at}
use Rattle.rina_flood.specs.Network.{with_invoke}
use Rattle.rina_flows.specs.Tied.{conns_of, ids_of}
use Rattle.rina_ids.specs.Ids.{free_id}
use Rattle.rina_ids.specs.Members.{CepIds, DrawsAt}
use Rattle.rina_iface.specs.declared.ask.Ask.{Ask}
use Rattle.rina_iface.specs.declared.ends.End.{End}
use Rattle.rina_iface.specs.declared.error.AllocateError.{AllocateError}
use Rattle.rina_iface.specs.declared.error.AllocateError.TheVariants as allocate
use Rattle.rina_iface.specs.Allocate.{refused_in, unless_offered}
use Rattle.rina_iface.specs.Seen.{Offer, Seen, is_member, offered}
use Rattle.rina_iface.proofs.Grown.{last_at}
use Rattle.rina_law.specs.Direction.{Direction}
use Rattle.rina_member.specs.declared.management.Management.{Management}
use Rattle.rina_member.specs.Managements.{IsSduOf}
use Rattle.rina_member.specs.Short.{IsShort}
use Rattle.rina_pci.specs.Spelling.{IsWidth}
use Rattle.rina_dif.specs.declared.asked_flow.AskedFlow.{AskedFlow}
use Rattle.rina_dif.specs.declared.dif.Dif.{Dif}
use Rattle.rina_dif.specs.Allocating.{allocate_refusal, member_refusal, way}
use Rattle.rina_dif.specs.Elsewhere.{enrolled_home, home_of}
use Rattle.rina_dif.specs.Facade.{GoesOn}
use Rattle.rina_dif.specs.FlowMessages.{IsTextOf}
use Rattle.rina_dif.specs.Holding.{Holds}
use Rattle.rina_dif.specs.Posting.{posts}
use Rattle.rina_dif.specs.Requesting.{AsksAt, AsksTo, Requests, RequestsAs, request_of, with_invoke_at}
use Rattle.rina_dif.specs.Shown.{seen_of}
use Rattle.rina_dif.specs.Whole.{IsDif}
use Rattle.rina_dif.proofs.Bare.{map_at}
use Rattle.rina_dif.proofs.FarAdded.{unspent}
use Rattle.rina_dif.proofs.MessageSteps.{tell_short}
use Rattle.rina_dif.proofs.Requested.{asked_few, free_member, one_left}
use Rattle.rina_asked.specs.Alone.{AreAlone, IsName, all_waiting, asks, is_asker, is_far, is_of, one, text_asks}
use Rattle.rina_asked.specs.Ends.{HaveEnds, HasEnd, IsAskersEnd}
use Rattle.rina_asked.specs.Calls.{AllocateKeeps}
use Rattle.rina_asked.proofs.Askers.{KeepAskers, askers_go_on, names_more, names_seen}
use Rattle.rina_asked.proofs.Drawn.{KeepsIds, more_drawn}
use Rattle.rina_asked.proofs.Fewer.{one_end}
use Rattle.rina_asked.proofs.Names.{bytes_name}
use Rattle.rina_asked.proofs.Keeps.{asked_by, stays}
use Rattle.rina_asked.proofs.Quiet.{IsQuiet, LastsSame, alone_lasts, ends_last, ends_seen, lasts_same, quiet_by}
use Rattle.rina_asked.proofs.Links.{links_same}
use Rattle.rina_asked.proofs.Texts.{same_operation, IsAskedText, other_asked, same_cube}
use Rattle.rina_asked.proofs.Waiting.{agenda_same, Adds, HasWaiting, IsOther, added_on, changed_adds, posted_adds, posted_once, same_added}

-- What nothing refuses

pub none_refused : (d : Dif) (ask : Ask) (own : Option AllocateError) → refused_in (Some (fac_of (seen_of d))) ask own ≡ None → own ≡ None
none_refused d ask own none = go (is_member (fac_of (seen_of d)).members ask.node) (offered (fac_of (seen_of d)).cubes ask.want) none
  where
    go : (b : Bool) (o : Option Offer) → cond b (unless_offered o own) (Some allocate.NoMember) ≡ None → own ≡ None
    go true (Some cube) h = h
    go true None h = absurd cc
    go false o h = absurd cc

pub here_home : (d : Dif) (node place : ℕ) → enrolled_home d node ≡ Some place → home_of d node ≡ Some place
here_home d node place = go (is_member d.enrolled node) (home_of d node)
  where
    go : (b : Bool) (o : Option ℕ) → cond b o None ≡ Some place → o ≡ Some place
    go true o h = h
    go false o h = absurd cc

same_draw : (held : List CepIds) (now a b x y : ℕ) → a ≡ b → DrawsAt held now a x → DrawsAt held now b y → x ≡ y
same_draw held now a b x y same draws other =
    let ids : draws.ids ≡ other.ids = same_Some draws.ids other.ids (sym draws.are_ids ∙ ap (slice_get held) same ∙ other.are_ids) in
    same_Some x y (sym draws.least ∙ ap (λ (z : CepIds). free_id z.0 now z.1) ids ∙ other.least)

power_small : (w : ℕ) → IsWidth w → 2 ^ (8 * w) ≤ 4294967296
power_small w (inl e) = rw e (omega arith)
power_small w (inr (inl e)) = rw e (omega arith)
power_small w (inr (inr e)) = rw e (omega arith)

pub fits_four : (w n : ℕ) → IsWidth w → n < 2 ^ (8 * w) → n < 4294967296
fits_four w n is fits = (let small = power_small w is in omega (arith, fits, small))

-- a member draws one invoke id
pub drawn_one : (a : Agent) → KeepsIds a (with_invoke a)
drawn_one a = more_drawn a (with_invoke a) refl (omega arith)

-- The request, and the end that is made

module _ (d d' : Dif) (ask : Ask) (port : Port) (is : IsDif d) (lines : List Direction) (below : Seen) (h : Holds d lines below) (a : AsksAt d lines below ask port d') (r : Requests d ask port d') (free : allocate_refusal d ask ≡ None) where
  abbrev flow : AskedFlow
  flow = r.flow

  abbrev invoke : ℕ
  invoke = r.wanted.management.agent.last_invoke + 1

  abbrev request : FlowMessage
  request = request_of flow ask invoke

  abbrev its_ask : FlowAsk
  its_ask = record { flow = flow.flow; cube = flow.cube.id; scep = flow.near.cep; destination = ask.to; source = ask.app }

  -- what both say is the same
  place_is : a.asked.place ≡ flow.near.place
  place_is = same_Some a.asked.place flow.near.place (sym a.asked.at_home ∙ here_home d ask.node flow.near.place r.wanted.here)

  member_is : a.asked.member ≡ member_of r.wanted.draws.member
  member_is = same_Some a.asked.member (member_of r.wanted.draws.member) (sym a.asked.stands ∙ ap (slice_get (config_of d.settings).members) place_is ∙ slice_get-map member_of d.settings.members flow.near.place ∙ ap (option_map member_of) r.wanted.draws.stands)

  addr_is : a.asked.member.addr ≡ flow.near.addr
  addr_is = ap (λ (z : Shown). z.addr) member_is ∙ sym r.wanted.draws.addr

  pub cep_is : a.asked.cep ≡ flow.near.cep
  cep_is = same_draw d.ids d.clock a.asked.place flow.near.place a.asked.cep flow.near.cep place_is a.asked.draws r.wanted.draws.cep

  cube_is : a.cube ≡ flow.cube
  cube_is = same_Some a.cube flow.cube (sym a.meets ∙ r.wanted.cube)

  peer_is : a.peer ≡ flow.far
  peer_is =
      let place : a.known.place ≡ flow.near.place = same_Some a.known.place flow.near.place (sym a.known.here ∙ r.wanted.here) in
      let management : a.known.management ≡ r.wanted.management = same_Some a.known.management r.wanted.management (sym a.known.is_management ∙ ap (slice_get d.managements) place ∙ r.wanted.is_management) in
      same_Some a.peer flow.far (sym a.known.finds ∙ ap (λ (m : Management). found m.agent.items ask.to) management ∙ r.wanted.finds)

  -- where the end stands, and its connection
  abbrev place : ℕ
  place = length d.flows.journal.ends

  abbrev pub end : End
  end = end_asked (seen_of d) (record { node = ask.node; app = ask.app; to = ask.to; cube = a.cube.id; peer = a.peer }) a.asked.member

  abbrev pub names : Ids
  names = ids_asked (record { node = ask.node; app = ask.app; to = ask.to; cube = a.cube.id; peer = a.peer }) a.asked.member a.asked.cep

  pub end_there : slice_get d'.flows.journal.ends place ≡ Some end
  end_there = ap (λ (z : DifSeen). slice_get z.ends place) a.asked.new_is ∙ last_at d.flows.journal.ends end

  pub names_there : slice_get (conns_of d'.flows.conns) place ≡ Some names
  names_there = ap (λ (z : DifSeen). slice_get z.conns place) a.asked.new_is ∙ ap (λ (k : ℕ). slice_get (conns_of d.flows.conns ++ names ∷ []) k) (sym h.standing.own.alike) ∙ last_at (conns_of d.flows.conns) names

  abbrev pub conn : (conn : Conn) × (slice_get d'.flows.conns place ≡ Some conn) × (ids_of conn ≡ names)
  conn = map_at ids_of d'.flows.conns place names names_there

  abbrev named_by : ℕ → FlowName
  named_by x = record { src = x; tick = d.clock; count = asked_at ask.node d.flows.journal.ends }

  pub name_is : end.flow ≡ flow.flow
  name_is = ap named_by addr_is ∙ sym r.wanted.name

  asker : IsAskersEnd d' place flow.far flow.near.addr its_ask
  asker = record {
    end = end;
    conn = conn.0;
    is_at = record { end_is = end_there; conn_is = conn.1 };
    asks = record { asks = refl; flow = name_is; cube = ap (λ (c : Cube). c.id) cube_is; app = refl; peer = refl };
    leads = record { asker = ap (λ (z : Ids). z.own) conn.2 ∙ addr_is; asked = ap (λ (z : Ids). z.far) conn.2 ∙ peer_is; its_cep = ap (λ (z : Ids). z.scep) conn.2 ∙ cep_is };
  }

  -- its numbers
  pub addr_fits : flow.near.addr < 4294967296
  addr_fits = subst (λ (n : ℕ). n < 4294967296) addr_is (fits_four d.settings.widths.addr a.asked.member.addr h.standing.config.widths.addr (h.numbered.members.fit a.asked.place a.asked.member a.asked.stands))

  far_fits : flow.far < 4294967296
  far_fits = subst (λ (n : ℕ). n < 4294967296) peer_is (fits_four d.settings.widths.addr a.peer h.standing.config.widths.addr a.asked.peer_fits)

  cep_fits : flow.near.cep < 4294967296
  cep_fits = subst (λ (n : ℕ). n < 4294967296) cep_is (fits_four d.settings.widths.cep a.asked.cep h.standing.config.widths.cep a.asked.cep_fits)

  refused : member_refusal d flow.near.place ask.node ask.to r.wanted.management ≡ None
  refused =
      let at : Option ℕ → Option AllocateError = λ o. option_and_then (λ k. option_and_then (member_refusal d k ask.node ask.to) (slice_get d.managements k)) o in
      sym (ap at r.wanted.here ∙ ap (λ (o : Option Management). option_and_then (member_refusal d flow.near.place ask.node ask.to) o) r.wanted.is_management) ∙ free

  count_fits : asked_at ask.node d.flows.journal.ends < 4294967295
  count_fits =
      let room = (free_member d flow.near.place ask.node ask.to r.wanted.management flow.far r.wanted.finds refused).room in
      let within = slice_get_within d.settings.members flow.near.place r.wanted.draws.member r.wanted.draws.stands in
      asked_few d flow.near.place ask.node (asked_at ask.node d.flows.journal.ends) (unspent d is flow.near.place ask.node within room) refl

  in_range : flow.cube.id < 256 → IsInRange request
  in_range cube =
      let clock = is.clock in
      record {
        to = far_fits;
        from = addr_fits;
        word = (
          one_left r.wanted.management.agent.last_invoke r.wanted.left,
          record {
            src = subst (λ (f : FlowName). f.src < 4294967296) (sym r.wanted.name) addr_fits;
            tick = subst (λ (f : FlowName). f.tick < 4294967296) (sym r.wanted.name) (omega (arith, clock));
            count = subst (λ (f : FlowName). f.count < 4294967296) (sym r.wanted.name) (omega (arith, count_fits));
            cube = cube;
            scep = cep_fits;
          },
        );
      }

  -- the message of a text of the request is the request
  pub is_request : (m : FlowMessage) (text : List ℕ) → IsTextOf m text → IsSpelled request text → IsProper request.word → request ≡ m
  is_request m text of spelled proper = by_word m.to m.from m.word of
    where
      by_word : (to from : ℕ) (word : FlowWord) → IsTextOf (record { to = to; from = from; word = word }) text → request ≡ record { to = to; from = from; word = word }
      by_word to from (words.Ask number other) of =
          let cube : other.cube ≡ flow.cube.id = same_cube to from number flow.far flow.near.addr invoke other its_ask text of.spelled spelled in
          let range = in_range (subst (λ (n : ℕ). n < 256) cube of.in_range.word.1.cube) in
          one_message request (record { to = to; from = from; word = words.Ask number other }) text range of.in_range proper of.proper spelled of.spelled
      by_word to from (words.Answer number answer) of = absurd (let wrong = same_operation request (record { to = to; from = from; word = words.Answer number answer }) text spelled of.spelled in cc)
      by_word to from (words.Delete dcep scep) of = absurd (let wrong = same_operation request (record { to = to; from = from; word = words.Delete dcep scep }) text spelled of.spelled in cc)

  -- where it waits its names are names
  pub is_proper : (w : Waiting) → HasWaiting d'.managements w → w.message ≡ ToMember request → IsProper request.word
  is_proper w has same = (let short = (tell_short d' below (a.lines', a.holds) has.place has.management has.is_management).waiting w has.waits in subst IsShort same short)

  abbrev pub IsNew : ManagementMessage → Type 0
  IsNew x = IsOther x ⊎ (x ≡ ToMember request)

  pub adds : Adds IsNew d.managements d'.managements
  adds =
      let mid : List Management = posts d flow.near.place request d.managements in
      subst (Adds IsNew d.managements) (sym r.managed) (added_on IsNew d.managements mid (with_invoke_at flow.near.place mid) (posted_adds IsNew flow.near.place (way d flow.near.place request.to) request d.managements (inr refl)) (changed_adds IsNew flow.near.place (λ m. record m { agent = with_invoke m.agent }) mid (λ m. agenda_same IsNew m (record m { agent = with_invoke m.agent }) refl (drawn_one m.agent))))

  new_asked : (w : Waiting) (text : List ℕ) → HasWaiting d'.managements w → IsNew w.message → IsSduOf w.message text → IsAskedText d' text
  new_asked w text has (inl other) sdu = other_asked d' w.message text other sdu
  new_asked w text has (inr same) sdu =
      let spelled : IsSpelled request text = subst (λ (x : ManagementMessage). IsSduOf x text) same sdu in
      λ m of. subst (λ (z : FlowMessage). HasEnd d' z.to z.from z.word) (is_request m text of spelled (is_proper w has same)) (place, asker)

  pub ends_keep : GoesOn d d' → KeepAskers d d'
  ends_keep goes = askers_go_on d d' goes (names_more (conns_of d.flows.conns) (conns_of d'.flows.conns) (names ∷ []) (ap (λ (z : DifSeen). z.conns) a.asked.new_is))

  pub asked_for : GoesOn d d' → d'.connections ≡ d.connections → HaveEnds d → HaveEnds d'
  asked_for goes connections = asked_by IsNew d d' (ends_keep goes) adds new_asked (λ text on. inr ((links_same d d' connections).more text on))

  -- of its flow there are one ask and one asker's end more
  its_name : IsName its_ask.flow
  its_name =
      let clock = is.clock in
      record {
        src = subst (λ (f : FlowName). f.src < 4294967296) (sym r.wanted.name) addr_fits;
        tick = subst (λ (f : FlowName). f.tick < 4294967296) (sym r.wanted.name) (omega (arith, clock));
        count = subst (λ (f : FlowName). f.count < 4294967296) (sym r.wanted.name) (omega (arith, count_fits));
      }

  pub one_asked : (F : ManagementMessage → ℕ) → all_waiting F d'.managements ≤ all_waiting F d.managements + F (ToMember request)
  one_asked F =
      let mid : List Management = posts d flow.near.place request d.managements in
      let put = posted_once F flow.near.place (way d flow.near.place request.to) request d.managements in
      let drawn = (changed_adds (λ x. ⊥) flow.near.place (λ m. record m { agent = with_invoke m.agent }) mid (λ m. agenda_same (λ x. ⊥) m (record m { agent = with_invoke m.agent }) refl (drawn_one m.agent))).fewer F (λ x no. absurd no) in
      let path = ap (all_waiting F) r.managed in
      omega (arith, put, drawn, path)

  pub alone_for : GoesOn d d' → d'.connections ≡ d.connections → AreAlone d → AreAlone d'
  alone_for goes connections alone f links of =
      let before = alone f links of in
      let waits = one_asked (λ x. one (asks f x)) in
      let on = (links_same d d' connections).fewer (λ t. one (text_asks f t)) links in
      let ends : d'.flows.journal.ends ≡ d.flows.journal.ends ++ end ∷ [] = ap (λ (z : DifSeen). z.ends) a.asked.new_is in
      let fars = one_end (λ e. one (is_far f e.role e.flow)) d.flows.journal.ends d'.flows.journal.ends end ends in
      let its = one_end (λ e. one (is_asker f e.role e.flow)) d.flows.journal.ends d'.flows.journal.ends end ends in
      let more = bytes_name f its_ask.flow of its_name in
      let path : one (is_of f end.flow) ≡ one (is_of f its_ask.flow) = ap (λ (n : FlowName). one (is_of f n)) name_is in
      omega (arith, before, waits, on, fars, its, more, path)

-- By the answer

refused_quiet : (d d' : Dif) → GoesOn d d' → seen_of d' ≡ seen_of d → d'.managements ≡ d.managements → d'.connections ≡ d.connections → IsQuiet d d'
refused_quiet d d' goes seen managements connections = quiet_by d d' (askers_go_on d d' goes (names_seen d d' seen)) (ends_seen d d' seen) (same_added IsOther d.managements d'.managements managements) (links_same d d' connections)

-- what such an ask keeps
abbrev pub AsksKeep : (Dif → Type 0) → Type 0
AsksKeep P = (d d' : Dif) (ask : Ask) (port : Port) → IsDif d → (lines : List Direction) (below : Seen) → Holds d lines below → AsksAt d lines below ask port d' → Requests d ask port d' → allocate_refusal d ask ≡ None → GoesOn d d' → d'.connections ≡ d.connections → P d → P d'

by_answer : (P : Dif → Type 0) → LastsSame P → AsksKeep P → (d d' : Dif) (ask : Ask) (result : Result Port AllocateError) → IsDif d → (lines : List Direction) (below : Seen) → Holds d lines below → AsksTo d lines below ask result d' → RequestsAs result d ask d' → GoesOn d d' → d'.connections ≡ d.connections → (result ≡ Err allocate.Memory → ⊥) → P d → P d'
by_answer P lasts asks d d' ask (Ok port) is lines below h a r goes connections some = asks d d' ask port is lines below h a.1 r (none_refused d ask (allocate_refusal d ask) a.0) goes connections
by_answer P lasts asks d d' ask (Err allocate.Memory) is lines below h a r goes connections some = absurd (some refl)
by_answer P lasts asks d d' ask (Err allocate.NoMember) is lines below h a r goes connections some = lasts d d' (refused_quiet d d' goes a.1 r.0 connections) r.1
by_answer P lasts asks d d' ask (Err allocate.NoCube) is lines below h a r goes connections some = lasts d d' (refused_quiet d d' goes a.1 r.0 connections) r.1
by_answer P lasts asks d d' ask (Err allocate.NoSuchApp) is lines below h a r goes connections some = lasts d d' (refused_quiet d d' goes a.1 r.0 connections) r.1
by_answer P lasts asks d d' ask (Err allocate.SameSystem) is lines below h a r goes connections some = lasts d d' (refused_quiet d d' goes a.1 r.0 connections) r.1
by_answer P lasts asks d d' ask (Err (allocate.NoIds used)) is lines below h a r goes connections some = lasts d d' (refused_quiet d d' goes a.1 r.0 connections) r.1
by_answer P lasts asks d d' ask (Err (allocate.NoRoute dst)) is lines below h a r goes connections some = lasts d d' (refused_quiet d d' goes a.1 r.0 connections) r.1
by_answer P lasts asks d d' ask (Err (allocate.Busy other)) is lines below h a r goes connections some = lasts d d' (refused_quiet d d' goes a.1 r.0 connections) r.1
by_answer P lasts asks d d' ask (Err (allocate.CountSpent need left)) is lines below h a r goes connections some = lasts d d' (refused_quiet d d' goes a.1 r.0 connections) r.1

pub allocate_keeps : (P : Dif → Type 0) → LastsSame P → AsksKeep P → AllocateKeeps P
allocate_keeps P lasts asks d d' ask result is does requests goes whole notes = stays P d d' result (Err allocate.Memory) notes (λ some.
    by_answer P lasts asks d d' ask result is is.stands.0 is.below is.stands.1 (does is.stands.0 is.below is.stands.1) requests goes (ap (λ (z : Dif). z.connections) whole) some)

pub allocate_keeps_ends : AllocateKeeps HaveEnds
allocate_keeps_ends = allocate_keeps HaveEnds (lasts_same HaveEnds ends_last) asked_for

pub allocate_keeps_alone : AllocateKeeps AreAlone
allocate_keeps_alone = allocate_keeps AreAlone (lasts_same AreAlone alone_lasts) alone_for
