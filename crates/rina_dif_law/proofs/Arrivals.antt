-- What is known of the PDU that waits at a link.
use Rattle.std.proofs.Common.{◌≡◌, ℕ, ◌+◌, ◌≤◌, List, slice_get, Some, refl, sym, subst, arith, inl}
use Rattle.rina_base.specs.declared.number.Port.{Port}
use Rattle.rina_iface.specs.declared.ends.End.{End}
use Rattle.rina_iface.specs.Journal.{AreKept, IsWhole}
use Rattle.rina_iface.specs.Seen.{Seen, end_of, unpassed}
use Rattle.rina_iface.proofs.Found.{found}
use Rattle.rina_law.specs.declared.entry.Entry.{Entry}
use Rattle.rina_law.specs.Direction.{Direction}
use Rattle.rina_dif_law.specs.Cloud.{Everywhere, IsCome, IsMine, IsOnWay}
use Rattle.rina_data.specs.Hops.{Hop, opened}
use Rattle.rina_data.specs.declared.link.Link.{Link}
use Rattle.rina_dif_law.specs.Dif.{DifSeen, IsProcess}
use Rattle.rina_data.specs.Configs.{Member}
use Rattle.rina_data.specs.Process.{Process, link_by}
use Rattle.rina_dif_law.specs.Standing.{IsStanding}
use Rattle.rina_dif_law.proofs.Clouds.{come_covered}
use Rattle.rina_dif_law.proofs.Finding.{live_link, oldest_at}
use Rattle.rina_dif_law.proofs.Partnered.{met}
use Rattle.rina_dif_law.proofs.Spelled.{IsHopOf, spelled_hop}

-- a flow between members has a member at each end
pub closed : (d : DifSeen) (lines : List Direction) (below : Seen) → IsStanding d lines below → (port : Port) (e : End) → end_of below port ≡ Some e → IsMine d.config.members e.app → IsMine d.config.members e.peer
closed d lines below st port e h mine = (st.inside port e h (inl mine)).peer

-- it may be sent on, came at a tick of the past, and is covered by what was sent below
pub record IsArrival (d : DifSeen) (below : Seen) (member : Member) (port : Port) (entry : Entry) (hop : Hop) : Type 0 where
  pub end : End
  pub here : end_of below port ≡ Some end
  pub app : end.app ≡ member.name
  pub oldest : slice_get end.got end.taken ≡ Some entry
  pub fit : IsHopOf d.config hop
  pub past : entry.tick ≤ d.clock
  pub older : ℕ
  pub later : entry.tick + hop.left ≤ older
  pub on_way : IsOnWay Everywhere d.config below older hop.pdu

whole_at : (s : Seen) (port : Port) (e : End) → AreKept s → end_of s port ≡ Some e → IsWhole s.now e
whole_at s port e kept h = (let f = found s port e h in (kept.kept port.fac f.facility f.stands.facility).whole f.place e f.stands.is)

pub arrival : (d : DifSeen) (lines : List Direction) (below : Seen) (i n : ℕ) (member : Member) (process : Process) (link : Link) (entry : Entry) (hop : Hop) → IsStanding d lines below → AreKept below → IsProcess d i member process → link_by n process.links ≡ Some link → unpassed below link.port ≡ Some entry → opened d.config.widths entry.bytes ≡ Some hop → IsArrival d below member link.port entry hop
arrival d lines below i n member process link entry hop st kept is_process is_link waits opens =
    let l = st.linked i member link is_process.is_member (live_link d.processes i n process link is_process.is_process is_link) in
    let e = l.end in
    let at = oldest_at below link.port e entry l.here waits in
    let mine : IsMine d.config.members e.app = record { addr = member.addr; member = record { place = i; member = member; stands = is_process.is_member; addr_is = refl; name_is = sym l.app } } in
    let past = (whole_at below link.port e kept l.here).got.past e.taken entry at in
    let m = met below link.port e e.taken entry kept l.here at in
    let peer = subst (IsMine d.config.members) m.named.peer (closed d lines below st link.port e l.here mine) in
    let spelled = st.spelled m.its_port m.other m.born.place m.born.source m.here peer m.born.is_place.is_source.stands in
    let again : opened d.config.widths m.born.source.bytes ≡ Some hop = subst (λ (bytes : List ℕ). opened d.config.widths bytes ≡ Some hop) m.born.bytes opens in
    let come : IsCome d.config below (entry.tick + hop.left) hop.pdu = record { port = link.port; end = e; here = l.here; mine = mine; at = e.taken; waits = omega arith; entry = entry; is_entry = at; hop = hop; opens = opens; dies = refl; is = refl } in
    let covered = come_covered d.config below (entry.tick + hop.left) hop.pdu kept (closed d lines below st) come in
    let clock = st.clock in
    record {
      end = e;
      here = l.here;
      app = l.app;
      oldest = at;
      fit = spelled_hop d.config m.born.source.bytes hop st.config spelled again;
      past = omega arith;
      older = covered.0;
      later = covered.1;
      on_way = covered.2;
    }
