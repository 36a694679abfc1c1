-- An SDU is taken from a DIF.
use Rattle.std.proofs.Common.{◌≡◌, ◌∙◌, ℕ, ◌<◌, List, length, map, slice_set, ap, arith}
use Rattle.rina_iface.specs.declared.ends.End.{End}
use Rattle.rina_iface.specs.Ends.{with_passed}
use Rattle.rina_iface.specs.Seen.{Seen}
use Rattle.rina_law.specs.Direction.{Direction}
use Rattle.rina_data.specs.Configs.{config_of}
use Rattle.rina_data.specs.Deciding.{process_of}
use Rattle.rina_dif_law.specs.Dif.{DifSeen}
use Rattle.rina_dif_law.specs.Ids.{Ids}
use Rattle.rina_dif_law.specs.Incoming.{IsInbound}
use Rattle.rina_dif_law.specs.Passing.{IsPassed}
use Rattle.rina_dif_law.proofs.Accounting.{passed_accounted}
use Rattle.rina_dif_law.proofs.Carries.{passed_carries}
use Rattle.rina_dif_law.proofs.Numbering.{passed_numbered}
use Rattle.rina_dif_law.proofs.Taking.{passed_stands}
use Rattle.rina_dif_law.proofs.Warranted.{passed_written}
use Rattle.rina_flows.specs.declared.flows.Flows.{Flows}
use Rattle.rina_flows.specs.Calls.{PassesOne, SameIds}
use Rattle.rina_flows.specs.Tied.{IsInboundAt}
use Rattle.rina_dif.specs.declared.dif.Dif.{Dif}
use Rattle.rina_dif.specs.Holding.{Holds, Passes, Stands}
use Rattle.rina_dif.specs.Shown.{seen_of}
use Rattle.rina_dif.proofs.Causing.{passed_caused}

-- the DIF with other flows of the same names
pub seen_flows : (d : Dif) (flows : Flows) (ends : List End) → flows.journal.ends ≡ ends → SameIds d.flows flows → seen_of (record d { flows = flows }) ≡ record (seen_of d) { ends = ends }
seen_flows d flows ends is same = ap (λ (ids : List Ids). record (seen_of d) { ends = flows.journal.ends; conns = ids }) same ∙ ap (λ (es : List End). record (seen_of d) { ends = es }) is

pub inbound_there : (d : DifSeen) (lines : List Direction) (end : End) (from : ℕ) (line : Direction) → IsInboundAt d.ends lines end from line → IsInbound d lines end from line
inbound_there d lines end from line i = record { partner = i.partner; is_partner = i.is_partner; partners = i.partners; is_line = i.is_line }

-- each end has a connection
pub has_conn : (d : Dif) (below : Seen) (at : ℕ) → Stands d below → at < length d.flows.journal.ends → at < length d.flows.conns
has_conn d below at st lt = (let e = st.1.tied.alike in omega (arith, e, lt))

pub passes : (d : Dif) (at : ℕ) (flows : Flows) → PassesOne d.clock at d.flows flows → (lines : List Direction) (below : Seen) → Holds d lines below → Passes d lines at (record d { flows = flows }) below
passes d at flows p lines below h =
    let d' : Dif = record d { flows = flows } in
    let o = p (config_of d.settings) lines (map process_of d.processes) below d.ids h.standing.journal h.standing.own h.tied in
    let q = o.passed in
    let seen = seen_flows d flows (slice_set d.flows.journal.ends at (with_passed q.end)) q.ends_are o.ids in
    let passed : IsPassed (seen_of d) lines at (seen_of d') o.lines' = record {
      end = q.end;
      ids = q.its_ids;
      is_conn = q.place.is_conn;
      waits = q.waits;
      from = q.from;
      line = q.line;
      inbound = inbound_there (seen_of d) lines q.end q.from q.line q.inbound;
      cube = q.cube;
      is_cube = q.place.is_cube;
      lines_are = q.lines_are;
      new_is = seen;
    } in
    record {
      lines' = o.lines';
      passed = passed;
      holds = record {
        tied = o.tied;
        standing = passed_stands (seen_of d) lines below at (seen_of d') o.lines' h.standing passed;
        carrying = passed_carries (seen_of d) lines below at (seen_of d') o.lines' h.carrying passed;
        numbered = passed_numbered (seen_of d) lines below at (seen_of d') o.lines' h.numbered passed;
        accounted = passed_accounted (seen_of d) lines below at (seen_of d') o.lines' h.accounted passed;
        caused = passed_caused (seen_of d) lines below at (seen_of d') o.lines' passed h.caused;
        written_off = passed_written (seen_of d) lines at (seen_of d') o.lines' h.written_off passed;
        housed = h.housed;
        managed = h.managed;
        enrolled = h.enrolled;
        connected = h.connected;
        flooded = h.flooded;
      };
    }
