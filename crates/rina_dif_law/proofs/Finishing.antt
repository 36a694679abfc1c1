-- A flow that ends at one of its ends keeps standing.
use Rattle.std.proofs.Common.{◌≡◌, ℕ, List, length-set, slice_get, slice_set, refl, sym, ◌∙◌, ap, subst, arith, inl, inr}
use Rattle.rina_base.specs.declared.pdu.Pdu.{Pdu}
use Rattle.rina_iface.specs.declared.ends.End.{End}
use Rattle.rina_iface.specs.declared.state.PortState.{PortState}
use Rattle.rina_iface.specs.Journal.{At, IsWhole}
use Rattle.rina_iface.specs.Later.{Moves}
use Rattle.rina_iface.specs.Seen.{Seen}
use Rattle.rina_iface.proofs.Changed.{set_at}
use Rattle.rina_iface.proofs.Later.{end_restated, ends_set}
use Rattle.rina_law.specs.Direction.{Direction}
use Rattle.rina_ids.specs.Members.{CepIds}
use Rattle.rina_rest.specs.Naming.{Naming}
use Rattle.rina_dif_law.specs.Carried.{IsCarrying}
use Rattle.rina_dif_law.specs.Cloud.{Cloud, Everywhere}
use Rattle.rina_dif_law.specs.Dif.{DifSeen, fac_of}
use Rattle.rina_data.specs.Process.{Process, with_offs}
use Rattle.rina_dif_law.specs.Ending.{IsEnded}
use Rattle.rina_dif_law.specs.Ids.{Ids}
use Rattle.rina_dif_law.specs.Numbered.{IsNumbered}
use Rattle.rina_dif_law.specs.Standing.{IsOfFlow, IsStanding}
use Rattle.rina_dif_law.specs.Upward.{IsSilent}
use Rattle.rina_dif_law.proofs.After.{NoMore, after_none}
use Rattle.rina_dif_law.proofs.Carrying.{carrying_same, end_set, line_was}
use Rattle.rina_dif_law.proofs.Clouds.{NoItem, covers_less}
use Rattle.rina_dif_law.proofs.FarEnds.{none_fresh}
use Rattle.rina_dif_law.proofs.Frame.{stands_held}
use Rattle.rina_dif_law.proofs.HeldIds.{ended_held}
use Rattle.rina_dif_law.proofs.Journals.{IsConst, journal_set, ports_set}
use Rattle.rina_dif_law.proofs.Own.{own_covered}
use Rattle.rina_dif_law.proofs.OwnEnds.{ends_down, own_ended}
use Rattle.rina_dif_law.proofs.Placed.{is_up}
use Rattle.rina_dif_law.proofs.Queues.{requeued_same, same_links}

pub ended_stands : (d : DifSeen) (lines : List Direction) (below : Seen) (at : ℕ) (state : PortState) (d' : DifSeen) → IsStanding d lines below → IsNumbered d below → IsEnded d lines at state d' → IsStanding d' lines below
ended_stands d lines below at state d' st n s =
    let end' : End = record s.end { state = state } in
    let process' : Process = with_offs s.process s.dropped in
    let processes' : List Process = slice_set d.processes s.i process' in
    let cloud : ℕ → Pdu → Type 0 = Cloud Everywhere d.config d.processes below in
    let cloud' : ℕ → Pdu → Type 0 = Cloud Everywhere d.config processes' below in
    let is_end = s.is_conn.end in
    let const : IsConst s.end end' = record { flow = refl; role = refl; port = refl; app = refl; peer = refl; cube = refl } in
    let moved = requeued_same d.processes s.i s.process process' s.is_process refl in
    let covers = covers_less Everywhere d.config d.clock d.processes processes' below below moved (after_none d.config below) in
    let was = st.journal.whole at s.end is_end in
    let whole : IsWhole d.clock end' = record { sent = was.sent; got = was.got; taken = was.taken } in
    let partner = st.journal.allocated at s.end is_end s.allocated in
    let ended = own_ended d.config d.clock cloud d.ids d.ends d.conns lines st.own at s.end s.ids s.is_conn (is_up s.end s.allocated) state (ends_down s.end.state state s.allocated s.moves s.ends)
    s.held (ended_held d below (Naming (IsOfFlow d.config) cloud) st.own.flows at s.end s.ids s.held n s.is_conn s.gives_back st.own.ledger st.own.kept) in
    let own = own_covered d.config d.clock cloud cloud' s.held (slice_set d.ends at end') d.conns lines ended covers in
    subst (λ (z : DifSeen). IsStanding z lines below) (sym s.new_is)
    (stands_held d lines lines NoMore NoItem below below d.clock processes' (slice_set d.ends at end') s.held st (after_none d.config below) st.clock (omega arith) (length-set d.processes s.i process') moved (same_links d.processes s.i s.process process' s.is_process refl)
    (λ port x none. absurd none) (λ j n item none. absurd none)
    (journal_set d.ends at s.end end' is_end const d.clock st.journal whole (λ is. partner) (λ j x h. partner))
    (ports_set d.ends at s.end end' is_end const d.config.fac (fac_of d) (fac_of (record d { ends = slice_set d.ends at end'; processes = processes' })) refl refl st.ports)
    own)

pub ended_carries : (d : DifSeen) (lines : List Direction) (below : Seen) (at : ℕ) (state : PortState) (d' : DifSeen) → IsCarrying d lines below → IsEnded d lines at state d' → IsCarrying d' lines below
ended_carries d lines below at state d' c s =
    let end' : End = record s.end { state = state } in
    let d'' : DifSeen = record d { ends = slice_set d.ends at end'; processes = slice_set d.processes s.i (with_offs s.process s.dropped); ids = s.held } in
    subst (λ (z : DifSeen). IsCarrying z lines below) (sym s.new_is)
    (carrying_same d d'' lines lines NoMore below below c (after_none d.config below) refl refl (omega arith)
    (end_set d.ends at s.end end' s.is_conn.end (record { flow = refl; role = refl; port = refl; app = refl; peer = refl; cube = refl }) refl) (line_was lines))

-- an end moves on, and nothing else of the journal changes
pub restated_silent : (d : DifSeen) (at : ℕ) (e : End) (state : PortState) (conns : List Ids) (processes : List Process) (held : List CepIds) → At d.ends at e → Moves e.state state → IsSilent d (record d { ends = slice_set d.ends at (record e { state = state }); conns = conns; processes = processes; ids = held })
restated_silent d at e state conns processes held is moves =
    let e' : End = record e { state = state } in
    record {
      later = record { ends = ends_set d.clock d.clock d.ends at e e' is (end_restated d.clock d.clock e state moves); cubes = refl };
      fresh = none_fresh d.ends _ (length-set d.ends at e');
      same = λ j a a' x y. elim (set_at d.ends at j e e' a' is y) [
        | inl t ↦
            let there : At d.ends j e = ap (slice_get d.ends) t.0 ∙ is in
            let one : e ≡ a = cc in
            (ap (λ (z : End). z.sent) t.1 ∙ ap (λ (z : End). z.sent) one, ap (λ (z : End). z.taken) t.1 ∙ ap (λ (z : End). z.taken) one)
        | inr f ↦ (let was = f.1 in let one : a' ≡ a = cc in (ap (λ (z : End). z.sent) one, ap (λ (z : End). z.taken) one))
      ];
    }

pub ended_silent : (d : DifSeen) (lines : List Direction) (at : ℕ) (state : PortState) (d' : DifSeen) → IsEnded d lines at state d' → IsSilent d d'
ended_silent d lines at state d' s = subst (IsSilent d) (sym s.new_is) (restated_silent d at s.end state d.conns (slice_set d.processes s.i (with_offs s.process s.dropped)) s.held s.is_conn.end s.moves)
