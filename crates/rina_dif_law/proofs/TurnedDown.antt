-- A DIF that stands goes on to stand as an asker's end ends while it waits.
use Rattle.std.proofs.Common.{◌≡◌, ◌≢◌, List, length-set, slice_set, ℕ, refl, sym, ◌∙◌, subst, arith}
use Rattle.rina_iface.specs.declared.ends.End.{End}
use Rattle.rina_iface.specs.declared.state.PortState.{PortState}
use Rattle.rina_iface.specs.declared.state.PortState.TheVariants.{Allocated, Pending}
use Rattle.rina_iface.specs.Journal.{IsWhole}
use Rattle.rina_iface.specs.Later.{Moves}
use Rattle.rina_iface.specs.Seen.{Seen}
use Rattle.rina_law.specs.Direction.{Direction}
use Rattle.rina_rest.specs.Naming.{Naming}
use Rattle.rina_dif_law.specs.Accounted.{IsAccounted}
use Rattle.rina_dif_law.specs.Answering.{IsTurnedDown}
use Rattle.rina_dif_law.specs.Carried.{IsCarrying}
use Rattle.rina_dif_law.specs.Cloud.{Cloud, Everywhere}
use Rattle.rina_dif_law.specs.Dif.{DifSeen, fac_of}
use Rattle.rina_dif_law.specs.Numbered.{IsNumbered}
use Rattle.rina_dif_law.specs.Places.{IsUp}
use Rattle.rina_dif_law.specs.Standing.{IsConn, IsOfFlow, IsOwn, IsStanding}
use Rattle.rina_dif_law.specs.Upward.{IsSilent}
use Rattle.rina_dif_law.proofs.After.{NoMore, after_none}
use Rattle.rina_dif_law.proofs.Carrying.{carrying_same, end_set, line_was}
use Rattle.rina_dif_law.proofs.Finding.{beside}
use Rattle.rina_dif_law.proofs.Finishing.{restated_silent}
use Rattle.rina_dif_law.proofs.Frame.{stands_own}
use Rattle.rina_dif_law.proofs.HeldIds.{ended_held}
use Rattle.rina_dif_law.proofs.Journals.{IsConst, journal_set, ports_set}
use Rattle.rina_dif_law.proofs.Numbering.{numbered_with, rested_numbered}
use Rattle.rina_dif_law.proofs.OwnEnds.{own_ended}
use Rattle.rina_dif_law.proofs.Receiving.{reheld_accounted, restated_accounted}

module _ (d : DifSeen) (lines : List Direction) (below : Seen) (st : IsStanding d lines below) (n : IsNumbered d below) (at : ℕ) (state : PortState) (d' : DifSeen) (s : IsTurnedDown d at state d') where
  abbrev e : End
  e = s.end

  abbrev e' : End
  e' = record e { state = state }

  abbrev ends' : List End
  ends' = slice_set d.ends at e'

  abbrev new : DifSeen
  new = record d { ends = ends'; ids = s.held }

  const : IsConst e e'
  const = record { flow = refl; role = refl; port = refl; app = refl; peer = refl; cube = refl }

  not_allocated : e.state ≢ Allocated
  not_allocated is = (let waits = s.waits in let clash : Pending ≡ Allocated = sym waits ∙ is in cc)

  not_then : state ≢ Allocated
  not_then is = s.ends (subst IsUp (sym is) tt)

  down_own : IsOwn d.config d.clock (Cloud Everywhere d.config d.processes below) s.held ends' d.conns lines
  down_own =
      let c = beside d.ends d.conns at e st.own.alike s.is_end in
      let conn : IsConn d.ends d.conns at e c.0 = record { end = s.is_end; ids_are = c.1 } in
      own_ended d.config d.clock (Cloud Everywhere d.config d.processes below) d.ids d.ends d.conns lines st.own at e c.0 conn (subst IsUp (sym s.waits) tt) state s.ends
      s.held (ended_held d below (Naming (IsOfFlow d.config) (Cloud Everywhere d.config d.processes below)) st.own.flows at e c.0 s.held n conn s.gives_back st.own.ledger st.own.kept)

  down_standing : IsStanding new lines below
  down_standing =
      let was = st.journal.whole at e s.is_end in
      let whole : IsWhole d.clock e' = record { sent = was.sent; got = was.got; taken = was.taken } in
      stands_own d lines lines below ends' d.conns s.held d.waiting d.names st
      (journal_set d.ends at e e' s.is_end const d.clock st.journal whole (λ is. absurd (not_then is)) (λ j x h. st.journal.met at j e x s.is_end h))
      (ports_set d.ends at e e' s.is_end const d.config.fac (fac_of d) (fac_of (record d { ends = ends' })) refl refl st.ports)
      down_own

  pub down_stands : IsStanding d' lines below
  down_stands = rw s.new_is down_standing

  pub down_carries : IsCarrying d lines below → IsCarrying d' lines below
  down_carries c = rw s.new_is (carrying_same d new lines lines NoMore below below c (after_none d.config below) refl refl (omega arith) (end_set d.ends at e e' s.is_end const refl) (line_was lines))

  pub down_accounted : IsAccounted d lines below → IsAccounted d' lines below
  down_accounted a = rw s.new_is (reheld_accounted (record d { ends = ends' }) lines below s.held (restated_accounted d lines below at e state a s.is_end not_allocated not_then))

pub down_silent : (d : DifSeen) (at : ℕ) (state : PortState) (d' : DifSeen) → IsTurnedDown d at state d' → IsSilent d d'
down_silent d at state d' s = subst (IsSilent d) (sym s.new_is) (restated_silent d at s.end state d.conns d.processes s.held s.is_end (subst (λ (z : PortState). Moves z state) (sym s.waits) tt))

pub down_numbers : (d : DifSeen) (below : Seen) (at : ℕ) (state : PortState) (d' : DifSeen) → IsNumbered d below → IsTurnedDown d at state d' → IsNumbered d' below
down_numbers d below at state d' n s =
    let silent = restated_silent d at s.end state d.conns d.processes d.ids s.is_end (subst (λ (z : PortState). Moves z state) (sym s.waits) tt) in
    let held : DifSeen = record d { ids = s.held } in
    let n' : IsNumbered held below = rested_numbered d below at s.end s.held n s.gives_back in
    rw s.new_is (numbered_with held d.clock d.processes (slice_set d.ends at (record s.end { state = state })) below below n' silent.later.ends (length-set d.ends at (record s.end { state = state })) n'.named)
