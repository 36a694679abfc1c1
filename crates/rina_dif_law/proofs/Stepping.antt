-- What stands is ready for a step.
use Rattle.std.proofs.Common.{◌≡◌, ℕ, List, slice_get, Some, refl, sym, inl}
use Rattle.rina_iface.specs.Seen.{Seen}
use Rattle.rina_law.specs.Direction.{Direction}
use Rattle.rina_data.specs.declared.link.Link.{Link}
use Rattle.rina_dif_law.specs.Cloud.{IsMine}
use Rattle.rina_dif_law.specs.Dif.{DifSeen}
use Rattle.rina_data.specs.Process.{Process, link_by}
use Rattle.rina_data.specs.Leaving.{CanGo, IsRoomy}
use Rattle.rina_dif_law.specs.Standing.{IsStanding}
use Rattle.rina_dif_law.proofs.Finding.{beside, live_link}

-- a live link of an IPC process takes a whole PDU
link_roomy : (d : DifSeen) (lines : List Direction) (below : Seen) (i n : ℕ) (process : Process) (link : Link) → IsStanding d lines below → slice_get d.processes i ≡ Some process → link_by n process.links ≡ Some link → IsRoomy below link.port d.config.pdu
link_roomy d lines below i n process link st is is_link =
    let member = beside d.processes d.config.members i process (sym st.aligned) is in
    let linked = st.linked i member.0 link member.1 (live_link d.processes i n process link is is_link) in
    let mine : IsMine d.config.members linked.end.app = record { addr = member.0.addr; member = record { place = i; member = member.0; stands = member.1; addr_is = refl; name_is = sym linked.app } } in
    let inside = st.inside link.port linked.end linked.here (inl mine) in
    record { largest = inside.largest; is_largest = inside.is_largest; within = inside.whole }

pub can_go : (d : DifSeen) (lines : List Direction) (below : Seen) (i n : ℕ) (process : Process) → IsStanding d lines below → slice_get d.processes i ≡ Some process → CanGo d.config d.clock process below n
can_go d lines below i n process st is = record {
  widths = st.config.widths;
  clock = st.clock;
  roomy = λ link is_link. link_roomy d lines below i n process link st is is_link;
  fit = λ k j queue item at of_link there. (st.items i n item (record { process = process; is_process = is; place = k; queue = queue; is_queue = at; link = of_link; at = j; is_item = there })).fit;
}
