-- What of the channels a call keeps whatever it does.
use Rattle.std.proofs.Common.{◌≡◌, ℕ, ◌-◌, ◌≤◌, List, [], length, map, Some, None, refl, sym, ◌∙◌, ap, subst, arith, cond, eqb, Bool, true, false}
use Rattle.rina_base.specs.declared.number.Num.{Num}
use Rattle.rina_base.specs.declared.number.Port.{Port}
use Rattle.rina_cube.specs.declared.Cube.{Cube}
use Rattle.rina_cube.specs.Cubes.{IsCube}
use Rattle.rina_iface.specs.declared.ends.End.{End}
use Rattle.rina_iface.specs.Journal.{AreKept}
use Rattle.rina_iface.specs.Later.{IsLater}
use Rattle.rina_iface.specs.Pass.{IsPassed as PassesBelow}
use Rattle.rina_iface.specs.Seen.{Seen, end_of}
use Rattle.rina_iface.specs.Send.{IsSent}
use Rattle.rina_iface.proofs.LaterCalls.{later_passes}
use Rattle.rina_law.specs.Direction.{Direction}
use Rattle.rina_data.specs.Configs.{Config, cube_by}
use Rattle.rina_data.specs.Process.{Process}
use Rattle.rina_dif_law.specs.Cloud.{IsMine}
use Rattle.rina_dif_law.specs.Lifting.{IsLifted, ticked}
use Rattle.rina_dif_law.proofs.After.{IsAfter, NoMore, after_lifted, after_none, after_passed, after_sent, no_more_of_others}
use Rattle.rina_dif_law.proofs.Journals.{journal_later}
use Rattle.rina_dif_law.proofs.Own.{own_ticked}
use Rattle.rina_channel.specs.Changes.{LeavesLinks}
use Rattle.rina_channel.specs.Channels.{AreChannels, ChannelsSeen, HasLive, IsSilent, IsUnclaimed}
use Rattle.rina_channel.specs.LinkCloud.{LinkCloud}
use Rattle.rina_channel.specs.Names.{link_config}
use Rattle.rina_channel.specs.Standing.{IsManaged, IsStanding}
use Rattle.rina_channel.proofs.Below.{EndsGoOn, GoesOn, between_later, end_by, ends_go_on, ends_same, ends_stay, flow_before, flow_later, goes_on}
use Rattle.rina_channel.proofs.LinkClouds.{LiveBefore, leaves_refl, link_covers}
use Rattle.rina_channel.proofs.Rows.{Holds, holds_covered}

-- ---- the channels

-- what no partner claimed before is not claimed later, and stays silent
unclaimed_kept : (m : ChannelsSeen) (now : ℕ) (ends : List End) (ps ps' : List Process) (below below' : Seen) → LiveBefore ps ps' → GoesOn m.config ps below below' → AreChannels m ps below → (port : Port) → IsUnclaimed (record m { clock = now; ends = ends }) below' port → IsSilent (record m { clock = now; ends = ends }) ps' below' port
unclaimed_kept m now ends ps ps' below below' live go a port u =
    let near_end = end_by m below u.place u.channel u.near (a.joined u.place u.channel u.stands) u.on_port in
    let old : (e : End) → end_of below port ≡ Some e → IsSilent m ps below port = λ e h.
    a.unclaimed port (record { place = u.place; channel = u.channel; stands = u.stands; near = u.near; on_port = u.on_port; partner = u.partner; is_partner = u.is_partner; none = u.none; flow = flow_before m.config below below' u.near port near_end.0 e go.ends near_end.1 h u.flow }) in
    let no_link : (i n : ℕ) → HasLive ps i n port → ⊥ = λ i n l. (let e = a.based i n port l in (old e.0 e.1).no_link i n l) in
    record {
      no_channel = λ k c is on. (let e = end_by m below k c port (a.joined k c is) on in (old e.0 e.1).no_channel k c is on);
      no_link = λ i n l. no_link i n (live i n port l);
      unsent = λ e here.
          let mine = subst (λ (z : End). IsMine m.config.members z.app) (ends_same (end_of below' port) u.flow.far_end e u.flow.is_far here) u.flow.its_mine in
          go.unsent port e here mine (λ was h. (old was h).unsent was h) no_link;
    }

pub channels_kept : (m : ChannelsSeen) (now : ℕ) (ends : List End) (ps ps' : List Process) (below below' : Seen) → length ends ≡ length m.ends → LiveBefore ps ps' → GoesOn m.config ps below below' → AreChannels m ps below → AreChannels (record m { clock = now; ends = ends }) ps' below'
channels_kept m now ends ps ps' below below' same live go a = record {
  alike = a.alike ∙ sym same;
  names = a.names;
  joined = λ k channel is.
      let j = a.joined k channel is in
      record {
        partner = j.partner;
        stands = j.stands;
        back = j.back;
        flow = λ near far x y. flow_later m.config below below' near far go.ends (j.flow near far x y);
        alone = λ near x none. between_later m.config below below' near go.ends (j.alone near x none);
      };
  apart = a.apart;
  numbered = λ i n p q x y. a.numbered i n p q (live i n p x) (live i n q y);
  based = λ i n port x. (let e = a.based i n port (live i n port x) in let l = go.ends port e.0 e.1 in (l.end, l.here));
  matched = λ i n k channel link is link_is x. a.matched i n k channel link is link_is (live i n link.port x);
  unclaimed = unclaimed_kept m now ends ps ps' below below' live go a;
}

-- ---- the cube

one_by : (manage cube : Cube) (b : Bool) → cond b (Some manage) None ≡ Some cube → cube ≡ manage
one_by manage cube true h = cc
one_by manage cube false h = cc

-- the connections of links have one cube
pub one_cube : (g : Config) (manage cube : Cube) (id : ℕ) → cube_by id (link_config g manage).cubes ≡ Some cube → cube ≡ manage
one_cube g manage cube id h = one_by manage cube (eqb manage.id id) h

pub link_limits : (g : Config) (manage : Cube) → IsManaged g manage → (id : ℕ) (cube : Cube) → cube_by id (link_config g manage).cubes ≡ Some cube → IsCube cube
link_limits g manage managed id cube h = subst IsCube (sym (one_cube g manage cube id h)) managed.cube

-- ---- standing

-- of the connections of links
abbrev pub HoldsOver : ChannelsSeen → ℕ → List End → List Direction → List Process → Seen → Type 0
HoldsOver m now ends lines ps below = Holds (link_config m.config m.manage) now (LinkCloud m.config m.channels ps below) ends m.ids lines

pub held : (m : ChannelsSeen) (lines : List Direction) (ps : List Process) (below : Seen) → IsStanding m lines ps below → HoldsOver m m.clock m.ends lines ps below
held m lines ps below st = record { journal = st.journal; own = st.own }

pub stands_with : (m : ChannelsSeen) (lines lines' : List Direction) (now : ℕ) (ends : List End) (ps ps' : List Process) (below below' : Seen) → IsStanding m lines ps below → now ≡ below'.now → length ends ≡ length m.ends → LiveBefore ps ps' → GoesOn m.config ps below below' → HoldsOver m now ends lines' ps' below' → IsStanding (record m { clock = now; ends = ends }) lines' ps' below'
stands_with m lines lines' now ends ps ps' below below' st clock same live go holds = record {
  managed = st.managed;
  clock = clock;
  channels = channels_kept m now ends ps ps' below below' same live go st.channels;
  journal = holds.journal;
  own = holds.own;
}

-- the IPC processes leave links alone, and nothing of the DIF is sent below
pub still_stands : (m : ChannelsSeen) (lines : List Direction) (ps ps' : List Process) (below below' : Seen) → IsStanding m lines ps below → LeavesLinks ps ps' → IsAfter m.config NoMore below below' → EndsGoOn below below' → below'.now ≡ below.now → IsStanding m lines ps' below'
still_stands m lines ps ps' below below' st leaves after go clock =
    stands_with m lines lines m.clock m.ends ps ps' below below' st (st.clock ∙ sym clock) refl leaves.live (goes_on m.config ps below below' go after)
    (holds_covered (link_config m.config m.manage) m.clock (LinkCloud m.config m.channels ps below) (LinkCloud m.config m.channels ps' below') m.ends m.ids lines (link_limits m.config m.manage st.managed) (held m lines ps below st) (link_covers m.config m.channels m.clock ps ps' below below' leaves after))

pub beside_stands : (m : ChannelsSeen) (lines : List Direction) (ps : List Process) (below below' : Seen) → AreKept below' → IsStanding m lines ps below → IsLifted m.config below below' → below'.now ≡ below.now → IsStanding m lines ps below'
beside_stands m lines ps below below' kept st lifted clock = still_stands m lines ps ps below below' st (leaves_refl ps) (after_lifted m.config below below' kept lifted) (ends_go_on below below' lifted.later kept) clock

pub other_pdus_stand : (m : ChannelsSeen) (lines : List Direction) (ps ps' : List Process) (below : Seen) → IsStanding m lines ps below → LeavesLinks ps ps' → IsStanding m lines ps' below
other_pdus_stand m lines ps ps' below st leaves = still_stands m lines ps ps' below below st leaves (after_none m.config below) (ends_stay below) refl

pub taking_stands : (m : ChannelsSeen) (lines : List Direction) (ps : List Process) (below : Seen) (port : Port) (below' : Seen) → AreKept below → AreKept below' → IsStanding m lines ps below → PassesBelow below port below' → IsStanding m lines ps below'
taking_stands m lines ps below port below' kept kept' st w =
    let later = later_passes below port below' w in
    still_stands m lines ps ps below below' st (leaves_refl ps) (after_passed m.config below port below' kept kept' later w) (ends_go_on below below' later kept') (ap (λ (s : Seen). s.now) w.new_is)

pub time_stands : (m : ChannelsSeen) (lines : List Direction) (ps : List Process) (below below' : Seen) → AreKept below' → IsStanding m lines ps below → IsLifted m.config below below' → IsStanding (record m { clock = below'.now }) (map (ticked (below'.now - m.clock)) lines) ps below'
time_stands m lines ps below below' kept st lifted =
    let clock = st.clock in
    let rises = lifted.later.clock in
    let le : m.clock ≤ below'.now = omega (arith, clock, rises) in
    let after = after_lifted m.config below below' kept lifted in
    let covers = link_covers m.config m.channels below'.now ps ps below below' (leaves_refl ps) after in
    stands_with m lines (map (ticked (below'.now - m.clock)) lines) below'.now m.ends ps ps below below' st refl refl (λ i n port l. l) (goes_on m.config ps below below' (ends_go_on below below' lifted.later kept) after)
    (record {
      journal = journal_later m.clock below'.now m.ends le st.journal;
      own = own_ticked (link_config m.config m.manage) m.clock below'.now (LinkCloud m.config m.channels ps below) (LinkCloud m.config m.channels ps below') [] m.ends m.ids lines le covers st.own;
    })

pub sends_of_others_stand : (m : ChannelsSeen) (lines : List Direction) (ps : List Process) (below : Seen) (port : Port) (bytes : List ℕ) (num : Num) (below' : Seen) → AreKept below → AreKept below' → IsLater below below' → IsStanding m lines ps below → ((e : End) → end_of below port ≡ Some e → IsMine m.config.members e.app → ⊥) → IsSent below port bytes num below' → IsStanding m lines ps below'
sends_of_others_stand m lines ps below port bytes num below' kept kept' later st others w =
    let after = no_more_of_others m.config port (record { tick = below.now; num = num; bytes = bytes }) below below' others (after_sent m.config below port bytes num below' kept kept' later w) in
    still_stands m lines ps ps below below' st (leaves_refl ps) after (ends_go_on below below' later kept') (ap (λ (s : Seen). s.now) w.new_is)
