-- What comes on a link, and is of a link, is awaited by the channel of that link.
use Rattle.std.proofs.Common.{◌≡◌, ℕ, ◌+◌, ◌-◌, ◌≤◌, List, slice_get, Some, None, Option, option_map, refl, sym, ◌∙◌, ap, subst, arith, inr}
use Rattle.rina_base.specs.declared.number.Port.{Port}
use Rattle.rina_cube.specs.declared.Kind.{Kind}
use Rattle.rina_iface.specs.declared.ends.End.{End}
use Rattle.rina_iface.specs.Journal.{AreKept, KeepsBy}
use Rattle.rina_iface.specs.Seen.{Fac, Offer, Seen, Stands, cube_at, cube_in, end_of, promise_at, unpassed}
use Rattle.rina_iface.proofs.Found.{found}
use Rattle.rina_law.specs.declared.entry.Entry.{Entry}
use Rattle.rina_law.specs.Direction.{Direction}
use Rattle.rina_law.specs.Journal.{Born, IsBorn}
use Rattle.rina_data.specs.Configs.{Config}
use Rattle.rina_data.specs.Hops.{Hop, opened}
use Rattle.rina_data.specs.Process.{Process}
use Rattle.rina_dif_law.proofs.Finding.{oldest_at}
use Rattle.rina_dif_law.specs.Ids.{IsOfLink}
use Rattle.rina_channel.specs.declared.channel.Attachment.{Attachment}
use Rattle.rina_channel.specs.declared.channel.Channel.{Channel}
use Rattle.rina_channel.specs.Changes.{IsAwaited}
use Rattle.rina_channel.specs.Channels.{AreChannels, ChannelsSeen, IsFlowBelow, IsJoined, IsOnPort}
use Rattle.rina_channel.specs.LinkCloud.{LinkCloud}
use Rattle.rina_channel.specs.Names.{named}
use Rattle.rina_channel.specs.Standing.{IsStanding}
use Rattle.rina_channel.proofs.Below.{end_by, ends_same, on_link, other_end}

born_by : (kind : Option Kind) (promise : ℕ) (sent got : List Entry) → KeepsBy kind promise sent got → Born promise sent got
born_by None promise sent got k = k
born_by (Some kind) promise sent got k = k.born

cube_stands : (s : Seen) (port : Port) (f : Fac) (i : ℕ) (e : End) → Stands s port f i e → cube_at s port ≡ cube_in f.cubes e.cube
cube_stands s port f i e st = rw (st.facility, st.place, st.is) refl

promise_there : (s : Seen) (port : Port) (f : Fac) (i : ℕ) (e : End) (id : ℕ) (cube : Offer) → Stands s port f i e → e.cube ≡ id → cube_in f.cubes id ≡ Some cube → promise_at s port ≡ Some cube.promise
promise_there s port f i e id cube st same offer =
    ap (option_map (λ (c : Offer). c.promise)) (cube_stands s port f i e st ∙ ap (cube_in f.cubes) same ∙ offer)

facs_same : (o : Option Fac) (a b : Fac) → o ≡ Some a → o ≡ Some b → a ≡ b
facs_same o a b h g = cc

-- an entry that the near end of a flow below got is born of what the far end sent
record IsMetAt (g : Config) (s : Seen) (near far : Port) (f : IsFlowBelow g s near far) (x : Entry) : Type 0 where
  promise : ℕ
  its_promise : promise_at s far ≡ Some promise
  born : IsBorn promise f.far_end.sent x

met_at : (g : Config) (s : Seen) (near far : Port) (i : ℕ) (x : Entry) → AreKept s → (f : IsFlowBelow g s near far) → slice_get f.near_end.got i ≡ Some x → IsMetAt g s near far f x
met_at g s near far i x kept f h =
    let a = found s near f.near_end f.is_near in
    let b = found s far f.far_end f.is_far in
    let same : b.facility ≡ a.facility = facs_same (slice_get s.facs near.fac) b.facility a.facility (ap (slice_get s.facs) (sym f.facility) ∙ b.stands.facility) a.stands.facility in
    let there : slice_get a.facility.ends b.place ≡ Some f.far_end = subst (λ (z : Fac). slice_get z.ends b.place ≡ Some f.far_end) same b.stands.is in
    let k = kept.kept near.fac a.facility a.stands.facility in
    let cube = k.keeps a.place b.place f.near_end f.far_end a.stands.is there f.partners in
    let named = k.named a.place b.place f.near_end f.far_end a.stands.is there f.partners in
    record {
      promise = cube.cube.promise;
      its_promise = promise_there s far b.facility b.place f.far_end f.near_end.cube cube.cube b.stands named.cube (subst (λ (z : Fac). cube_in z.cubes f.near_end.cube ≡ Some cube.cube) (sym same) cube.offer);
      born = born_by cube.cube.kind cube.cube.promise f.far_end.sent f.near_end.got cube.keeps i x h;
    }

-- both ends have links: what came was sent on the far one
covered_by : (m : ChannelsSeen) (ps : List Process) (below : Seen) (k : ℕ) (channel : Channel) (near : Port) (end : End) (i : ℕ) (entry : Entry) (hop : Hop) (far : Attachment) (j : IsJoined m below k channel) → AreKept below → IsOnPort channel near → j.partner.link ≡ Some far → end_of below near ≡ Some end → slice_get end.got i ≡ Some entry → opened m.config.widths entry.bytes ≡ Some hop → IsOfLink hop.pdu → (older : ℕ) × (entry.tick + hop.left ≤ older) × LinkCloud m.config m.channels ps below older (named channel.partner k hop.pdu)
covered_by m ps below k channel near end i entry hop far j kept on far_is here got opens of_link =
    let f = j.flow near far.port on (on_link j.partner far far_is) in
    let same : end ≡ f.near_end = ends_same (end_of below near) end f.near_end here f.is_near in
    let met = met_at m.config below near far.port i entry kept f (subst (λ (e : End). slice_get e.got i ≡ Some entry) same got) in
    let source = met.born.source in
    let time : entry.tick ≤ source.tick + met.promise = met.born.in_time in (
      source.tick + met.promise + hop.left,
      omega arith,
      record {
        place = channel.partner;
        channel = j.partner;
        stands = j.stands;
        plain = hop.pdu;
        of_link = of_link;
        here = record {
          link = far;
          link_is = far_is;
          here = inr (record {
            port = far.port;
            within = refl;
            end = f.far_end;
            here = f.is_far;
            mine = f.its_mine;
            promise = met.promise;
            promised = met.its_promise;
            at = met.born.place;
            entry = source;
            is_entry = met.born.is_place.is_source.stands;
            hop = hop;
            opens = subst (λ (bytes : List ℕ). opened m.config.widths bytes ≡ Some hop) met.born.bytes opens;
            dies = refl;
            is = refl;
          });
        };
        is = ap (λ (n : ℕ). named channel.partner n hop.pdu) (sym j.back);
      },
    )

-- the partner has no link yet: nothing of a link comes
none_comes : (m : ChannelsSeen) (ps : List Process) (below : Seen) (k : ℕ) (channel : Channel) (near : Port) (end : End) (i : ℕ) (entry : Entry) (hop : Hop) (j : IsJoined m below k channel) → AreKept below → AreChannels m ps below → slice_get m.channels k ≡ Some channel → IsOnPort channel near → j.partner.link ≡ None → end_of below near ≡ Some end → slice_get end.got i ≡ Some entry → opened m.config.widths entry.bytes ≡ Some hop → IsOfLink hop.pdu → ⊥
none_comes m ps below k channel near end i entry hop j kept a stands on none here got opens of_link =
    let b = j.alone near on none in
    let same : end ≡ b.end = ends_same (end_of below near) end b.end here b.here in
    let got' : slice_get b.end.got i ≡ Some entry = subst (λ (e : End). slice_get e.got i ≡ Some entry) same got in
    let other = other_end m.config below near b i entry kept got' in
    let f : IsFlowBelow m.config below near other.0 = other.1 in
    let got_f : slice_get f.near_end.got i ≡ Some entry = subst (λ (e : End). slice_get e.got i ≡ Some entry) (ends_same (end_of below near) b.end f.near_end b.here f.is_near) got' in
    let met = met_at m.config below near other.0 i entry kept f got_f in
    let silent = a.unclaimed other.0 (record { place = k; channel = channel; stands = stands; near = near; on_port = on; partner = j.partner; is_partner = j.stands; none = none; flow = f }) in
    silent.unsent f.far_end f.is_far met.born.place met.born.source hop met.born.is_place.is_source.stands (subst (λ (bytes : List ℕ). opened m.config.widths bytes ≡ Some hop) met.born.bytes opens) of_link

pub coming_is_covered : (m : ChannelsSeen) (lines : List Direction) (ps : List Process) (below : Seen) (k : ℕ) (channel : Channel) (port : Port) (end : End) (i : ℕ) (entry : Entry) (hop : Hop) → AreKept below → IsStanding m lines ps below → slice_get m.channels k ≡ Some channel → IsOnPort channel port → end_of below port ≡ Some end → slice_get end.got i ≡ Some entry → opened m.config.widths entry.bytes ≡ Some hop → IsOfLink hop.pdu → (older : ℕ) × (entry.tick + hop.left ≤ older) × LinkCloud m.config m.channels ps below older (named channel.partner k hop.pdu)
coming_is_covered m lines ps below k channel port end i entry hop kept st stands on here got opens of_link =
    let j = st.channels.joined k channel stands in
    elim (j.partner.link) as (λ o. j.partner.link ≡ o → (older : ℕ) × (entry.tick + hop.left ≤ older) × LinkCloud m.config m.channels ps below older (named channel.partner k hop.pdu)) [
      | Some far ↦ λ is. covered_by m ps below k channel port end i entry hop far j kept on is here got opens of_link
      | None ↦ λ none. absurd (none_comes m ps below k channel port end i entry hop j kept st.channels stands on none here got opens of_link)
    ] refl

pub coming_is_awaited : (m : ChannelsSeen) (lines : List Direction) (ps : List Process) (below : Seen) (k : ℕ) (channel : Channel) (port : Port) (entry : Entry) (hop : Hop) → AreKept below → IsStanding m lines ps below → slice_get m.channels k ≡ Some channel → IsOnPort channel port → unpassed below port ≡ Some entry → opened m.config.widths entry.bytes ≡ Some hop → IsOfLink hop.pdu → m.clock - entry.tick ≤ hop.left → IsAwaited m ps below (named channel.partner k hop.pdu)
coming_is_awaited m lines ps below k channel port entry hop kept st stands on waits opens of_link in_time =
    let e = end_by m below k channel port (st.channels.joined k channel stands) on in
    let at = oldest_at below port e.0 entry e.1 waits in
    let c = coming_is_covered m lines ps below k channel port e.0 e.0.taken entry hop kept st stands on e.1 at opens of_link in
    let later = c.1 in
    record { death = c.0; here = c.2; alive = omega arith }
