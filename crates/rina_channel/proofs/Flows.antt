-- The flows of a DIF stand whatever the management connections of its links do.
use Rattle.std.proofs.Common.{◌≡◌, ℕ, ◌+◌, ◌^◌, Bool, List, [], ◌∷◌, length-set, slice_get, slice_set, Some, None, Option, refl, sym, ◌∙◌, ap, subst, arith, inl, inr}
use Rattle.std.specs.Prelude.{sum_by}
use Rattle.std.proofs.lemmas.Bool.Decides.{eqb_tells}
use Rattle.std.proofs.lemmas.List.Sums.{sum_by-cons}
use Rattle.rina_base.specs.declared.number.Key.{Key}
use Rattle.rina_base.specs.declared.pdu.Pdu.{Pdu}
use Rattle.rina_cube.specs.declared.Cube.{Cube}
use Rattle.rina_iface.specs.declared.ends.End.{End}
use Rattle.rina_iface.specs.Journal.{AreKept}
use Rattle.rina_iface.specs.Pass.{IsPassed as PassesBelow}
use Rattle.rina_iface.specs.Seen.{Seen, end_of, unpassed}
use Rattle.rina_iface.proofs.Changed.{set_at}
use Rattle.rina_iface.proofs.Found.{end_of_stands}
use Rattle.rina_iface.proofs.LaterCalls.{later_passes}
use Rattle.rina_law.specs.declared.entry.Entry.{Entry}
use Rattle.rina_law.specs.Backed.{CoversBut}
use Rattle.rina_law.specs.Direction.{Direction}
use Rattle.rina_law.specs.Lists.{In}
use Rattle.rina_queue.specs.declared.queue.Queued.{Queued}
use Rattle.rina_data.specs.declared.link.Link.{Link}
use Rattle.rina_data.specs.Configs.{Config, Member, cube_by}
use Rattle.rina_data.specs.Hops.{Hop, opened}
use Rattle.rina_data.specs.Process.{Process, link_by, with_offs, with_put}
use Rattle.rina_dif_law.specs.Accounted.{IsAccounted, bears, bears_on, counts_of, over_ends, taken_with}
use Rattle.rina_dif_law.specs.Carried.{IsCarrying}
use Rattle.rina_dif_law.specs.Cloud.{Cloud, Everywhere}
use Rattle.rina_ids.specs.Members.{CepIds}
use Rattle.rina_dif_law.specs.Dif.{DifSeen, IsProcess}
use Rattle.rina_dif_law.specs.Ids.{Ids, IsOfLink}
use Rattle.rina_dif_law.specs.Numbered.{IsNumbered}
use Rattle.rina_dif_law.specs.Standing.{IsOwn}
use Rattle.rina_dif_law.proofs.Accounting.{item_one, left_at, offs_more, put_more}
use Rattle.rina_dif_law.proofs.After.{NoMore, after_none, after_passed}
use Rattle.rina_dif_law.proofs.Arrivals.{arrival}
use Rattle.rina_dif_law.proofs.Balancing.{AreSame}
use Rattle.rina_dif_law.proofs.Carries.{passes_of_others_carry}
use Rattle.rina_dif_law.proofs.Clouds.{cloud_after, covers_less, requeued_none}
use Rattle.rina_dif_law.proofs.Ends.{same_some}
use Rattle.rina_dif_law.proofs.Own.{own_no_flow}
use Rattle.rina_dif_law.proofs.Frame.{stands_with}
use Rattle.rina_dif_law.proofs.Going.{lost_stands}
use Rattle.rina_dif_law.proofs.OfLinks.{NotOfLink, accounted_but, none_noted, not_bears, not_bears_on, not_borne, once_if}
use Rattle.rina_dif_law.proofs.Queues.{JustItems, requeued_put, requeued_same, same_links}
use Rattle.rina_dif_law.proofs.Relaying.{has_taken, link_named, named_at, within_kept}
use Rattle.rina_dif_law.proofs.Taking.{still_stands}
use Rattle.rina_channel.specs.FlowLaws.{FlowsStand, NotesLinks, PutsLinks, ServesLinks}
use Rattle.rina_channel.specs.OwnLaws.{HasNoManagement}

-- ---- the directions

none_some : (o : Option Cube) (cube : Cube) → o ≡ None → o ≡ Some cube → ⊥
none_some o cube n s = cc

-- PDUs of links are of no flow
own_links : (g : Config) (now life : ℕ) (cloud cloud' : ℕ → Pdu → Type 0) (held : List CepIds) (ends : List End) (conns : List Ids) (lines : List Direction) → HasNoManagement g → IsOwn g now cloud held ends conns lines → CoversBut now cloud IsOfLink life cloud' → IsOwn g now cloud' held ends conns lines
own_links g now life cloud cloud' held ends conns lines none own covers = own_no_flow g now cloud held ends conns lines own cloud' IsOfLink life covers (λ pdu of is. elim is [
  | inl other ↦ other of.scep
  | inr cube ↦ none_some (cube_by 0 g.cubes) cube.0 none (subst (λ (q : ℕ). cube_by q g.cubes ≡ Some cube.0) of.qos cube.1)
])

-- ---- the account

none_put : (k : Key) (items : List Queued) → NotOfLink k → ((item : Queued) → In item items → IsOfLink item.pdu) → sum_by (item_one k) items ≡ 0
none_put k [] other all = refl
none_put k (item ∷ items) other all =
    let whole : sum_by (item_one k) (item ∷ items) ≡ item_one k item + sum_by (item_one k) items = sum_by-cons (item_one k) item items in
    let here : item_one k item ≡ 0 = not_borne k item.pdu other (all item (inl refl)) in
    let rest = none_put k items other (λ x one. all x (inr one)) in
    omega (arith, whole, here, rest)

-- ---- one IPC process changes

module _ (d : DifSeen) (flows : List Direction) (below : Seen) (h : FlowsStand d flows below) (i : ℕ) (process new : Process) (is_process : slice_get d.processes i ≡ Some process) where
  abbrev d' : DifSeen
  d' = record d { processes = slice_set d.processes i new }

  left_accounted : ((k : Key) → NotOfLink k → left_at new k ≡ left_at process k) → IsAccounted d' flows below
  left_accounted left = accounted_but d d' flows below below h.zero.members h.accounted h.accounted.passed h.accounted.apart
      (λ addr cep r. record { place = r.place; ids = r.ids; stands = r.stands; own = r.own; scep = r.scep; cube = r.cube; is_cube = r.is_cube; reliable = r.reliable })
      (λ j m p' k is other. elim (set_at d.processes i j process new p' is_process is.is_process) [
        | inl t ↦
            let same = left k other in
            let there : slice_get d.processes j ≡ Some process = ap (slice_get d.processes) t.0 ∙ is_process in
            (process, record { is_member = is.is_member; is_process = there }, subst (λ (p : Process). AreSame (counts_of d flows below m process k) (counts_of d' flows below m p k)) (sym t.1) (record { taken = refl; relayed = refl; gone = omega (arith, same); made = refl; kept = refl }))
        | inr f ↦ (p', record { is_member = is.is_member; is_process = f.1 }, record { taken = refl; relayed = refl; gone = refl; made = refl; kept = refl })
      ])

  carried : IsCarrying d' flows below
  carried = record {
    entries = h.carrying.entries;
    holding = λ j from e ids line conn inbound. h.carrying.holding j from e ids line conn (record { partner = inbound.partner; is_partner = inbound.is_partner; partners = inbound.partners; is_line = inbound.is_line });
  }

puts_leave : (d : DifSeen) (flows : List Direction) (below : Seen) (i : ℕ) (ps' : List Process) → FlowsStand d flows below → PutsLinks d.config d.clock d.processes i ps' → FlowsStand (record d { processes = ps' }) flows below
puts_leave d flows below i ps' h s =
    let g : Config = d.config in
    let new : Process = with_put s.process s.place s.queue s.items in
    let new_ps : List Process = slice_set d.processes i new in
    let cloud : ℕ → Pdu → Type 0 = Cloud Everywhere g d.processes below in
    let cloud' : ℕ → Pdu → Type 0 = Cloud Everywhere g new_ps below in
    let moved = requeued_put d.processes i s.place s.process s.queue s.items s.is_process s.is_queue in
    let covers : CoversBut d.clock cloud IsOfLink (d.clock + 2 ^ 32) cloud' = λ death pdu x alive. elim (cloud_after Everywhere g (JustItems i s.queue.link s.items) NoMore d.processes new_ps below below death pdu moved (after_none g below) x) [
      | inl o ↦ inl (death, omega arith, o)
      | inr (inl put) ↦
          let of = s.of_links put.item put.new.2 in
          let past = of.0.past in
          let left = of.0.left in
          let dies : death ≡ put.item.since + put.item.left = put.dies in
          inr (subst IsOfLink put.is of.1, omega arith)
      | inr (inr none) ↦ absurd none.new
    ] in
    let numbered : IsNumbered (record d { processes = new_ps }) below = record {
      members = h.numbered.members;
      addressed = h.numbered.addressed;
      counted = h.numbered.counted;
      drawn = h.numbered.drawn;
      named = λ death pdu x. elim (cloud_after Everywhere g (JustItems i s.queue.link s.items) NoMore d.processes new_ps below below death pdu moved (after_none g below) x) [
        | inl o ↦ h.numbered.named death pdu o
        | inr (inl put) ↦ inl (subst IsOfLink put.is (s.of_links put.item put.new.2).1).scep
        | inr (inr none) ↦ absurd none.new
      ];
    } in
    subst (λ (ps : List Process). FlowsStand (record d { processes = ps }) flows below) (sym s.new_is) (record {
      zero = h.zero;
      stands = stands_with d flows flows NoMore (JustItems i s.queue.link s.items) below below d.clock new_ps d.ends h.stands (after_none g below) h.stands.clock (omega arith) (length-set d.processes i new) moved (same_links d.processes i s.process new s.is_process refl)
          (λ port x none. absurd none) (λ j n item one. (s.of_links item one.2).0) h.stands.journal h.stands.ports
          (own_links g d.clock (d.clock + 2 ^ 32) cloud cloud' d.ids d.ends d.conns flows h.zero.cubes h.stands.own covers);
      numbered = numbered;
      carrying = carried d flows below h i s.process new s.is_process;
      accounted = left_accounted d flows below h i s.process new s.is_process (λ k other.
          let all = put_more k s.process s.place s.queue s.items s.is_queue in
          let none = none_put k s.items other (λ item one. (s.of_links item one).1) in
          omega (arith, all, none));
    })

notes_leave : (d : DifSeen) (flows : List Direction) (below : Seen) (i : ℕ) (ps' : List Process) → FlowsStand d flows below → NotesLinks d.processes i ps' → FlowsStand (record d { processes = ps' }) flows below
notes_leave d flows below i ps' h s =
    let new : Process = with_offs s.process s.offs in
    let new_ps : List Process = slice_set d.processes i new in
    let moved = requeued_same d.processes i s.process new s.is_process refl in
    let covers = covers_less Everywhere d.config 0 d.processes new_ps below below moved (after_none d.config below) in
    subst (λ (ps : List Process). FlowsStand (record d { processes = ps }) flows below) (sym s.new_is) (record {
      zero = h.zero;
      stands = lost_stands d flows below below i s.process new h.stands (after_none d.config below) refl s.is_process refl moved;
      numbered = record { members = h.numbered.members; addressed = h.numbered.addressed; counted = h.numbered.counted; drawn = h.numbered.drawn; named = λ death pdu x. (let o = covers death pdu x (omega arith) in h.numbered.named o.0 pdu o.2) };
      carrying = carried d flows below h i s.process new s.is_process;
      accounted = left_accounted d flows below h i s.process new s.is_process (λ k other.
          let all = offs_more k s.process s.offs in
          let none = none_noted k s.offs other s.of_links in
          omega (arith, all, none));
    })

pub links_leave_flows : (d : DifSeen) (flows : List Direction) (below : Seen) (ps' : List Process) → FlowsStand d flows below → ServesLinks d.config d.clock d.processes ps' → FlowsStand (record d { processes = ps' }) flows below
links_leave_flows d flows below ps' h s = elim (s.1) [
  | inl put ↦ puts_leave d flows below s.0 ps' h put
  | inr noted ↦ notes_leave d flows below s.0 ps' h noted
]

-- ---- a PDU of a link is taken

pub taking_leaves_flows : (d : DifSeen) (flows : List Direction) (below : Seen) (i n : ℕ) (member : Member) (process : Process) (link : Link) (entry : Entry) (hop : Hop) (below' : Seen) → AreKept below → AreKept below' → FlowsStand d flows below → IsProcess d i member process → link_by n process.links ≡ Some link → unpassed below link.port ≡ Some entry → opened d.config.widths entry.bytes ≡ Some hop → IsOfLink hop.pdu → PassesBelow below link.port below' → FlowsStand d flows below'
taking_leaves_flows d flows below i n member process link entry hop below' kept kept' h is is_link oldest opens of w =
    let later = later_passes below link.port below' w in
    let after = after_passed d.config below link.port below' kept kept' later w in
    let covers = covers_less Everywhere d.config 0 d.processes d.processes below below' (requeued_none d.processes) after in
    let a = arrival d flows below i n member process link entry hop h.stands kept is is_link oldest opens in
    let w_here = end_of_stands below link.port w.facility w.place w.end w.stands in
    let same : w.end ≡ a.end = same_some (end_of below link.port) w.end a.end w_here a.here in
    let at : slice_get w.end.got w.end.taken ≡ Some entry = subst (λ (e : End). slice_get e.got e.taken ≡ Some entry) (sym same) a.oldest in
    let has = has_taken d.config.widths below link.port entry below' w at in
    let app = link_named d flows below i n member process link w.end h.stands is is_link w_here in
    let named = named_at d flows below i process h.stands h.numbered is.is_process in
    let named_is : named.member ≡ member = same_some (slice_get d.config.members i) named.member member named.is_process.is_member is.is_member in
    let taken_same : (j : ℕ) (m : Member) (q : Process) (test : Option Hop → Bool) → IsProcess d j m q → once_if (test (Some hop)) ≡ 0 → over_ends m.name (taken_with test d.config.widths) below' ≡ over_ends m.name (taken_with test d.config.widths) below = λ j m q test there none. elim (eqb_tells j i) [
      | inl t ↦
          let m_is : m ≡ member = same_some (slice_get d.config.members i) m member (subst (λ (z : ℕ). slice_get d.config.members z ≡ Some m) t.1 there.is_member) is.is_member in
          let own = has.own m.name test (app ∙ ap (λ (z : Member). z.name) (sym m_is)) in
          let opened_is : once_if (test (opened d.config.widths entry.bytes)) ≡ 0 = ap (λ (o : Option Hop). once_if (test o)) opens ∙ none in
          omega (arith, own, opened_is)
      | inr f ↦ has.others m.name test (λ x. named.others j m q f.1 there (ap (λ (z : Member). z.name) named_is ∙ sym app ∙ x))
    ] in
    record {
      zero = h.zero;
      stands = still_stands d flows below below' h.stands after (ap (λ (s : Seen). s.now) w.new_is);
      numbered = record { members = h.numbered.members; addressed = h.numbered.addressed; counted = h.numbered.counted; drawn = h.numbered.drawn; named = λ death pdu x. (let o = covers death pdu x (omega arith) in h.numbered.named o.0 pdu o.2) };
      carrying = passes_of_others_carry d flows below link.port below' kept kept' later h.carrying w;
      accounted = accounted_but d d flows below below' h.zero.members h.accounted (λ port e here mine. within_kept below' kept' port e here) h.accounted.apart (λ addr cep r. r)
          (λ j m q k there other. (
            q,
            there,
            record {
              taken = taken_same j m q (bears k) there (not_bears k hop other of);
              relayed = taken_same j m q (bears_on m.addr k) there (not_bears_on m.addr k hop other of);
              gone = (let sent = has.sent m.name (bears k) in omega (arith, sent));
              made = refl;
              kept = refl;
            },
          ));
    }
