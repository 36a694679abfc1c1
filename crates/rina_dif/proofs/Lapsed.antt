-- What comes with time to a DIF.
use Rattle.std.proofs.Common.{◌≡◌, ◌∙◌, ℕ, ◌+◌, ◌<◌, Bool, true, false, List, length, get_or, slice_get, slice_set, Option, Some, None, Result, Ok, Err, refl, sym, ap, subst, arith}
use Rattle.std.proofs.lemmas.Option.{slice_get_read, slice_get_within}
use Rattle.rina_account.specs.declared.ledger.Off.{Off}
use Rattle.rina_base.specs.declared.memory.Memory.{Memory}
use Rattle.rina_base.specs.declared.number.Num.{Num}
use Rattle.rina_iface.specs.declared.ends.End.{End}
use Rattle.rina_iface.specs.declared.ends.Journal.{Journal}
use Rattle.rina_iface.specs.Seen.{Seen}
use Rattle.rina_iface.proofs.Changed.{slice_set-same}
use Rattle.rina_law.specs.Direction.{Direction}
use Rattle.rina_data.specs.declared.process.IpcProcess.{IpcProcess}
use Rattle.rina_data.specs.Configs.{config_of}
use Rattle.rina_data.specs.Deciding.{process_of}
use Rattle.rina_data.specs.Process.{with_offs}
use Rattle.rina_dif_law.specs.Ending.{IsGivenUp}
use Rattle.rina_dif_law.specs.Sending.{home}
use Rattle.rina_dif_law.proofs.Carries.{forgotten_carries}
use Rattle.rina_dif_law.proofs.Finishing.{ended_carries, ended_stands}
use Rattle.rina_dif_law.proofs.Numbering.{ended_numbered, forgotten_numbered}
use Rattle.rina_dif_law.proofs.Receiving.{ended_accounted, forgotten_accounted}
use Rattle.rina_dif_law.proofs.Rows.{forgotten_stands}
use Rattle.rina_dif_law.proofs.Warranted.{ended_written, forgotten_written}
use Rattle.rina_flows.specs.declared.flows.Flows.{Flows}
use Rattle.rina_flows.specs.Delivering.{ForgetsIn}
use Rattle.rina_flows.specs.Timely.{GivesUpIn}
use Rattle.rina_flows.proofs.Gone.{is_ended, is_forgotten}
use Rattle.rina_dif.specs.declared.dif.Dif.{Dif}
use Rattle.rina_dif.specs.declared.release.IdRest.{IdRest}
use Rattle.rina_ids.specs.Members.{CepIds, with_rest}
use Rattle.rina_dif.specs.Freeing.{RestsAt}
use Rattle.rina_dif.proofs.GivenBack.{gives_back}
use Rattle.rina_dif_law.specs.Dif.{DifSeen}
use Rattle.rina_dif.specs.Holding.{Holds, Stands}
use Rattle.rina_dif.specs.Shown.{seen_of}
use Rattle.rina_dif.specs.Timely.{ForgetsAs, GivesUpAs, IsHomeEnd, WithLedger}
use Rattle.rina_dif.proofs.Causing.{given_up_caused, process_caused}
use Rattle.rina_dif.proofs.Keeping.{AreHome, home_set, kept_house}
use Rattle.rina_dif.proofs.Leaves.{has_process, shown_at}
use Rattle.rina_dif.proofs.Owning.{arrived_seen}
use Rattle.rina_channel.proofs.Leaving.{ending_leaves, forgetting_leaves}
use Rattle.rina_dif.proofs.Connected.{kept_by}
use Rattle.rina_dif.proofs.LinkEnds.{live_floods}

same_some : {X : Type 0} (o : Option X) (a b : X) → o ≡ Some a → o ≡ Some b → a ≡ b
same_some o a b h g = cc

pub ledger_one : (R : Flows → List Off → Flows → List Off → Type 0) (at : ℕ) (flows flows' : Flows) (ps : List IpcProcess) (x : IpcProcess) (ledger : List Off) → at < length ps → x ≡ get_or ps at x → R flows x.ledger flows' ledger → WithLedger R at flows ps flows' (slice_set ps at (record x { ledger = ledger }))
ledger_one R at flows flows' ps x ledger lt read does p is =
    let here : slice_get ps at ≡ Some x = slice_get_read ps (length ps) at x refl lt read in
    let same : x ≡ p = same_some (slice_get ps at) x p here is in
    (ledger, subst (λ (z : IpcProcess). R flows z.ledger flows' ledger) same does, ap (λ (z : IpcProcess). slice_set ps at (record z { ledger = ledger })) same)

-- what the calls need stands
pub process_there : (d : Dif) (below : Seen) (at : ℕ) → Stands d below → at < length d.settings.members → at < length d.processes
process_there d below at st lt = (let p = has_process d below at st lt in slice_get_within d.processes at p.0 p.1)

pub end_there : (d : Dif) (i at : ℕ) → IsHomeEnd d i at → at < length d.flows.journal.ends
end_there d i at here = slice_get_within d.flows.journal.ends at here.end here.is_end

pub conn_there : (d : Dif) (below : Seen) (i at : ℕ) → Stands d below → IsHomeEnd d i at → at < length d.flows.conns
conn_there d below i at st here = (let lt = end_there d i at here in let same = st.1.tied.alike in omega (arith, lt, same))

-- nothing changed
unchanged : (d : Dif) (i : ℕ) (p : IpcProcess) (flows : Flows) (ps : List IpcProcess) (ledger : List Off) → slice_get d.processes i ≡ Some p → flows ≡ d.flows → ledger ≡ p.ledger → ps ≡ slice_set d.processes i (record p { ledger = ledger }) → record d { flows = flows; processes = ps } ≡ d
unchanged d i p flows ps ledger is same lines new =
    let all : ps ≡ d.processes = new ∙ ap (λ (z : List Off). slice_set d.processes i (record p { ledger = z })) lines ∙ slice_set-same d.processes i p is in
    ap (λ (z : Flows). record d { flows = z; processes = ps }) same ∙ ap (λ (z : List IpcProcess). record d { processes = z }) all

home_on : (d : Dif) (i : ℕ) (p : IpcProcess) (ps : List IpcProcess) (ledger : List Off) (lines : List Direction) (below : Seen) → Holds d lines below → slice_get d.processes i ≡ Some p → ps ≡ slice_set d.processes i (record p { ledger = ledger }) → AreHome d ps
home_on d i p ps ledger lines below h is new = home_set d lines below i p (record p { ledger = ledger }) ps h is refl (kept_house _ _ refl refl refl) new

-- the same end is at home
at_home : (d : Dif) (i at : ℕ) (end : End) → (here : IsHomeEnd d i at) → slice_get d.flows.journal.ends at ≡ Some end → home end.port.node (config_of d.settings).members ≡ Some i
at_home d i at end here is = subst (λ (e : End). home e.port.node (config_of d.settings).members ≡ Some i) (same_some (slice_get d.flows.journal.ends at) here.end end here.is_end is) here.at_home

pub forgets : (d : Dif) (i at : ℕ) (r : Result Bool Memory) (flows : Flows) (ps : List IpcProcess) → i < length d.settings.members → IsHomeEnd d i at → WithLedger (λ f l f' l'. ForgetsIn d.clock at f l r f' l') i d.flows d.processes flows ps → (lines : List Direction) (below : Seen) → Holds d lines below → ForgetsAs d lines below at r (record d { flows = flows; processes = ps })
forgets d i at (Ok true) flows ps lt here does lines below h =
    let d' : Dif = record d { flows = flows; processes = ps } in
    let p = has_process d below i (lines, h) lt in
    let x = does p.0 p.1 in
    let f = x.1.1 (config_of d.settings) lines here.end h.standing.journal h.tied here.is_end here.allocated in
    let seen = arrived_seen d i p.0 f.offs x.0 flows ps refl f.ids f.ledger_is x.2 ∙ ap (λ (j : Journal). record (seen_of d) { ends = j.ends; processes = slice_set (seen_of d).processes i (with_offs (process_of p.0) f.offs) }) f.same in
    let house = home_on d i p.0 ps x.0 lines below h p.1 x.2 in
    let forgotten = is_forgotten (seen_of d) lines at i (process_of p.0) f.offs f.lines' (seen_of d') f.forgets (at_home d i at f.forgets.end here f.forgets.place.is_conn.end) (shown_at d i p.0 p.1) seen in (
      record {
        lines' = f.lines';
        forgotten = forgotten;
        holds = record {
          tied = f.tied;
          standing = forgotten_stands (seen_of d) lines below at (seen_of d') f.lines' h.standing forgotten;
          carrying = forgotten_carries (seen_of d) lines below at (seen_of d') f.lines' h.carrying forgotten;
          numbered = forgotten_numbered (seen_of d) lines below at (seen_of d') f.lines' h.numbered forgotten;
          accounted = forgotten_accounted (seen_of d) lines below at (seen_of d') f.lines' h.standing h.numbered h.accounted forgotten;
          caused = process_caused (seen_of d) (seen_of d') below forgotten.i _ forgotten.new_is h.caused;
          written_off = forgotten_written (seen_of d) lines below at (seen_of d') f.lines' h.standing h.numbered h.written_off forgotten;
          housed = house.housed;
          managed = house.managed;
          enrolled = h.enrolled;
          connected = kept_by (config_of d.settings) d.clock d.connections (seen_of d).processes (seen_of d').processes below (λ may. forgetting_leaves (seen_of d) lines at (seen_of d') f.lines' forgotten) h.connected;
          flooded = λ alive. live_floods d ps house.live (h.flooded alive);
        };
      },
      x.1.0,
    )
forgets d i at (Ok false) flows ps lt here does lines below h =
    let p = has_process d below i (lines, h) lt in
    let x = does p.0 p.1 in
    (x.1.0, unchanged d i p.0 flows ps x.0 p.1 x.1.1 x.1.2 x.2)
forgets d i at (Err e) flows ps lt here does lines below h =
    let p = has_process d below i (lines, h) lt in
    let x = does p.0 p.1 in
    unchanged d i p.0 flows ps x.0 p.1 x.1.0 x.1.1 x.2

-- the id of an end that fails was given back; where none fails nothing was
abbrev pub GaveUpThere : Dif → ℕ → IdRest → Result (Option Num) Memory → List CepIds → Type 0
GaveUpThere d i rest (Ok (Some num)) held = (ids : CepIds) → slice_get d.ids i ≡ Some ids → held ≡ with_rest i ids rest.cep (d.clock + rest.ticks) d.ids
GaveUpThere d i rest (Ok None) held = held ≡ d.ids
GaveUpThere d i rest (Err e) held = held ≡ d.ids

pub gives_up : (d : Dif) (i at : ℕ) (r : Result (Option Num) Memory) (flows : Flows) (ps : List IpcProcess) → i < length d.settings.members → IsHomeEnd d i at → WithLedger (λ f l f' l'. GivesUpIn d.clock at f l r f' l') i d.flows d.processes flows ps → (rest : IdRest) (held : List CepIds) → RestsAt d at rest → GaveUpThere d i rest r held → (lines : List Direction) (below : Seen) → Holds d lines below → GivesUpAs d lines below at r (record d { flows = flows; processes = ps; ids = held })
gives_up d i at (Ok (Some num)) flows ps lt here does rest held rests gave lines below h =
    let d' : Dif = record d { flows = flows; processes = ps; ids = held } in
    let p = has_process d below i (lines, h) lt in
    let x = does p.0 p.1 in
    let f = x.1 (config_of d.settings) lines here.end h.standing.journal h.tied here.is_end here.allocated in
    let g = f.gives_up in
    let seen = ap (λ (z : DifSeen). record z { ids = held }) (arrived_seen d i p.0 f.offs x.0 flows ps refl f.ids f.ledger_is x.2) in
    let its_home = at_home d i at g.ended.end here g.ended.is_conn.end in
    let ended = is_ended (seen_of d) lines at i _ (process_of p.0) f.offs flows.journal.ends held (seen_of d') g.ended its_home (shown_at d i p.0 p.1) (gives_back d lines below h i at g.ended.end rest held g.ended.is_conn.end its_home rests gave) seen in
    let house = home_on d i p.0 ps x.0 lines below h p.1 x.2 in
    let given : IsGivenUp (seen_of d) lines at num.seq (seen_of d') = record { line = g.line; is_line = g.is_line; ids = g.its_ids; ids_are = g.ids_are; cube = g.cube; is_cube = g.is_cube; late = g.late; ended = ended } in
    record {
      given_up = given;
      cep = f.num_is;
      holds = record {
        tied = f.tied;
        standing = ended_stands (seen_of d) lines below at _ (seen_of d') h.standing h.numbered ended;
        carrying = ended_carries (seen_of d) lines below at _ (seen_of d') h.carrying ended;
        numbered = ended_numbered (seen_of d) lines below at _ (seen_of d') h.numbered ended;
        accounted = ended_accounted (seen_of d) lines below at _ (seen_of d') h.standing h.numbered h.accounted ended;
        caused = given_up_caused (seen_of d) lines below at num.seq (seen_of d') h.standing given h.caused;
        written_off = ended_written (seen_of d) lines below at _ (seen_of d') h.standing h.numbered h.written_off ended;
        housed = house.housed;
        managed = house.managed;
        enrolled = h.enrolled;
        connected = kept_by (config_of d.settings) d.clock d.connections (seen_of d).processes (seen_of d').processes below (λ may. ending_leaves (seen_of d) lines at _ (seen_of d') ended) h.connected;
        flooded = λ alive. live_floods d ps house.live (h.flooded alive);
      };
    }
gives_up d i at (Ok None) flows ps lt here does rest held rests gave lines below h =
    let p = has_process d below i (lines, h) lt in
    let x = does p.0 p.1 in
    (x.1.0 (config_of d.settings) lines h.tied, ap (λ (hs : List CepIds). record d { flows = flows; processes = ps; ids = hs }) gave ∙ unchanged d i p.0 flows ps x.0 p.1 x.1.1 x.1.2 x.2)
gives_up d i at (Err e) flows ps lt here does rest held rests gave lines below h =
    let p = has_process d below i (lines, h) lt in
    let x = does p.0 p.1 in
    let same : record d { flows = flows; processes = ps; ids = held } ≡ d = ap (λ (hs : List CepIds). record d { flows = flows; processes = ps; ids = hs }) gave ∙ unchanged d i p.0 flows ps x.0 p.1 x.1.0 x.1.1 x.2 in
    (ap seen_of same, subst (λ (z : Dif). Holds z lines below) (sym same) h)

-- without memory none is, and nothing changes
pub gives_up_not : (d : Dif) (below : Seen) (i at : ℕ) (e : Memory) (flows : Flows) (ps : List IpcProcess) → Stands d below → i < length d.settings.members → WithLedger (λ f l f' l'. GivesUpIn d.clock at f l (Err e) f' l') i d.flows d.processes flows ps → record d { flows = flows; processes = ps } ≡ d
gives_up_not d below i at e flows ps st lt does =
    let p = has_process d below i st lt in
    let x = does p.0 p.1 in
    unchanged d i p.0 flows ps x.0 p.1 x.1.0 x.1.1 x.2
