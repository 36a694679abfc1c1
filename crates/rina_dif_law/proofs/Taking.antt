-- An SDU that is taken from an end of the DIF, time, and what goes on below without it keep standing.
use Rattle.std.proofs.Common.{◌≡◌, ℕ, ◌-◌, List, map, slice_set, Some, refl, sym, ◌∙◌, subst, arith, inl}
use Rattle.rina_base.specs.declared.pdu.Pdu.{Pdu}
use Rattle.rina_base.specs.declared.number.Port.{Port}
use Rattle.rina_iface.specs.declared.ends.End.{End}
use Rattle.rina_iface.specs.Ends.{with_passed}
use Rattle.rina_iface.specs.Journal.{AreKept, HasPartner, IsWhole}
use Rattle.rina_iface.specs.Seen.{Seen, end_of}
use Rattle.rina_law.specs.Backed.{Covers}
use Rattle.rina_law.specs.Constants.{Constants}
use Rattle.rina_law.specs.Direction.{Direction, Pass, happens}
use Rattle.rina_dif_law.specs.Cloud.{Cloud, Everywhere, IsMine, WholeCloud}
use Rattle.rina_dif_law.specs.Dif.{DifSeen, fac_of, constants}
use Rattle.rina_dif_law.specs.Ids.{flipped}
use Rattle.rina_dif_law.specs.Lifting.{IsLifted, ticked}
use Rattle.rina_dif_law.specs.Passing.{IsPassed, IsTicked}
use Rattle.rina_dif_law.specs.Standing.{IsStanding}
use Rattle.rina_dif_law.proofs.After.{IsAfter, NoMore, after_lifted, after_none}
use Rattle.rina_dif_law.proofs.Clouds.{NoItem, covers_less, requeued_none, whole_covered}
use Rattle.rina_dif_law.proofs.Finding.{cube_limits}
use Rattle.rina_dif_law.proofs.Frame.{inside_kept, stands_with}
use Rattle.rina_dif_law.proofs.Journals.{IsConst, journal_later, journal_set, ports_set}
use Rattle.rina_dif_law.proofs.Own.{own_covered, own_ticked, partner_back}
use Rattle.rina_dif_law.proofs.OwnRows.{own_passed}

same_cloud : (now : ℕ) (cloud : ℕ → Pdu → Type 0) → Covers now cloud cloud
same_cloud now cloud death pdu x alive = (death, omega arith, x)

pub passed_stands : (d : DifSeen) (lines : List Direction) (below : Seen) (at : ℕ) (d' : DifSeen) (lines' : List Direction) → IsStanding d lines below → IsPassed d lines at d' lines' → IsStanding d' lines' below
passed_stands d lines below at d' lines' st s =
    let k : Constants = constants d.config s.cube (flipped s.ids) in
    let line' : Direction = happens k s.line Pass in
    let end' : End = with_passed s.end in
    let cloud : ℕ → Pdu → Type 0 = Cloud Everywhere d.config d.processes below in
    let is_end = s.is_conn.end in
    let partner = s.inbound.partner in
    let has_partner : HasPartner d.ends s.end = record { place = s.from; other = partner; stands = s.inbound.is_partner; partner = partner_back partner s.end s.inbound.partners } in
    let const : IsConst s.end end' = record { flow = refl; role = refl; port = refl; app = refl; peer = refl; cube = refl } in
    let was = st.journal.whole at s.end is_end in
    let waits = s.waits in
    let whole : IsWhole d.clock end' = record { sent = was.sent; got = was.got; taken = omega arith } in
    let limits = cube_limits d.config s.ids.qos s.cube st.config s.is_cube in
    let own = own_passed d.config d.clock cloud cloud d.ids d.ends d.conns lines st.own st.journal at s.end s.ids s.cube s.is_conn s.is_cube limits s.from partner s.inbound.is_partner s.inbound.partners s.line s.inbound.is_line waits (same_cloud d.clock cloud) in
    subst (λ (z : DifSeen). IsStanding z lines' below) (sym s.new_is) (subst (λ (ls : List Direction). IsStanding (record d { ends = slice_set d.ends at end' }) ls below) (sym s.lines_are)
    (stands_with d lines (slice_set lines s.from line') NoMore NoItem below below d.clock d.processes (slice_set d.ends at end') st (after_none d.config below) st.clock (omega arith) refl
    (requeued_none d.processes) (λ j l h. h) (λ port y none. absurd none) (λ j m item none. absurd none)
    (journal_set d.ends at s.end end' is_end const d.clock st.journal whole (λ state. has_partner) (λ j x h. has_partner))
    (ports_set d.ends at s.end end' is_end const d.config.fac (fac_of d) (fac_of (record d { ends = slice_set d.ends at end' })) refl refl st.ports)
    own))

-- the lift: the rank below went on, and the clock with it
pub lifted_stands : (d : DifSeen) (lines : List Direction) (below below' : Seen) (d' : DifSeen) (lines' : List Direction) → AreKept below' → IsStanding d lines below → IsLifted d.config below below' → IsTicked d lines below'.now d' lines' → IsStanding d' lines' below'
lifted_stands d lines below below' d' lines' kept st lifted s =
    let after = after_lifted d.config below below' kept lifted in
    let covers = covers_less Everywhere d.config below'.now d.processes d.processes below below' (requeued_none d.processes) after in
    let own = own_ticked d.config d.clock below'.now (Cloud Everywhere d.config d.processes below) (Cloud Everywhere d.config d.processes below') d.ids d.ends d.conns lines s.later covers st.own in
    subst (λ (z : DifSeen). IsStanding z lines' below') (sym s.new_is) (subst (λ (ls : List Direction). IsStanding (record d { clock = below'.now }) ls below') (sym s.lines_are)
    (stands_with d lines (map (ticked (below'.now - d.clock)) lines) NoMore NoItem below below' below'.now d.processes d.ends st after refl s.later refl
    (requeued_none d.processes) (λ j l h. h) (λ port y none. absurd none) (λ j m item none. absurd none)
    (journal_later d.clock below'.now d.ends s.later st.journal) st.ports own))

-- each flow of the members runs inside the DIF later, too
closed_later : (d : DifSeen) (lines : List Direction) (below below' : Seen) → AreKept below' → IsStanding d lines below → IsLifted d.config below below' → (port : Port) (e : End) → end_of below' port ≡ Some e → IsMine d.config.members e.app → IsMine d.config.members e.peer
closed_later d lines below below' kept st lifted port e h mine = (inside_kept d lines NoMore below below' st (after_lifted d.config below below' kept lifted) port e h (inl mine)).peer

-- the whole cloud at a later tick is covered by the whole cloud before
pub cloud_lifted : (d : DifSeen) (lines : List Direction) (below below' : Seen) → AreKept below' → IsStanding d lines below → IsLifted d.config below below' → Covers below'.now (WholeCloud d.config d.processes below) (WholeCloud d.config d.processes below')
cloud_lifted d lines below below' kept st lifted death pdu x alive =
    let after = after_lifted d.config below below' kept lifted in
    let o = whole_covered d.config below'.now d.processes below' kept (closed_later d lines below below' kept st lifted) death pdu x alive in
    let le = o.1 in
    let w = covers_less Everywhere d.config below'.now d.processes d.processes below below' (requeued_none d.processes) after o.0 pdu o.2 (omega arith) in
    let le' = w.1 in
    (w.0, omega arith, inl w.2)

-- without the DIF: the clock stays, and nothing of its members changes
pub still_stands : (d : DifSeen) (lines : List Direction) (below below' : Seen) → IsStanding d lines below → IsAfter d.config NoMore below below' → below'.now ≡ below.now → IsStanding d lines below'
still_stands d lines below below' st after clock =
    let own = own_covered d.config d.clock (Cloud Everywhere d.config d.processes below) (Cloud Everywhere d.config d.processes below') d.ids d.ends d.conns lines st.own (covers_less Everywhere d.config d.clock d.processes d.processes below below' (requeued_none d.processes) after) in
    stands_with d lines lines NoMore NoItem below below' d.clock d.processes d.ends st after (st.clock ∙ sym clock) (omega arith) refl (requeued_none d.processes) (λ j l h. h) (λ port y none. absurd none) (λ j m item none. absurd none) st.journal st.ports own
