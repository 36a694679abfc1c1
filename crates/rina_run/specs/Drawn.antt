-- What `gen` does: the input that is drawn from a number is run, and its counts are told.
use Rattle.std.specs.Prelude.{◌≡◌, ℕ, ◌+◌, ◌≤◌, ◌&&◌, not, Bool, true, false, List, [], length, count_by, Option, Some, None, option_map, ◌⊎◌}
use Rattle.std.specs.List.{sum_by}
use Rattle.rina_iface.specs.declared.ends.End.{End}
use Rattle.rina_iface.specs.declared.state.PortState.{PortState}
use Rattle.rina_iface.specs.declared.state.PortState.TheVariants.{Failed}
use Rattle.rina_iface.specs.Seen.{Fac}
use Rattle.rina_data.specs.declared.process.IpcProcess.{IpcProcess}
use Rattle.rina_dif.specs.declared.dif.Dif.{Dif}
use Rattle.rina_gen.specs.Input.{input}
use Rattle.rina_gen.specs.Text.{input_text}
use Rattle.rina_report.specs.declared.answer.Answer.TheVariants as answers
use Rattle.rina_report.specs.declared.note.Fault.{Fault}
use Rattle.rina_report.specs.declared.note.Note.{Note}
use Rattle.rina_report.specs.declared.note.Note.TheVariants as notes
use Rattle.rina_tower.specs.declared.tower.Tower.{Tower, Wires, Rank'}
use Rattle.rina_tower.specs.Bystanders.{is_ipc}
use Rattle.rina_tower.specs.Ranks.{now_of, seen_of}
use Rattle.rina_run.specs.declared.outcome.Status.{Status}
use Rattle.rina_run.specs.declared.outcome.Status.TheVariants as statuses
use Rattle.rina_run.specs.Script.{Script, script_in}
use Rattle.rina_run.specs.Top.{ClosedBy, status_of}

-- What is counted

-- an SDU was accepted
unfoldable pub is_sent : Note → Bool
is_sent (notes.Line line tick (answers.Sent num)) = true
is_sent note = false

-- an SDU was read
unfoldable pub is_got : Note → Bool
is_got (notes.Line line tick (answers.Got at bytes)) = true
is_got note = false

-- a line was refused
unfoldable pub is_refused : Note → Bool
is_refused (notes.Line line tick (answers.Refused why)) = true
is_refused note = false

-- the PDUs that the IPC processes of a DIF have written off
unfoldable pub dif_offs : Dif → ℕ
dif_offs d = sum_by (λ (p : IpcProcess). length p.ledger) d.processes

-- and those of the DIFs of all ranks
abbrev pub offs_in : Tower → ℕ
offs_in (Wires a) = 0
offs_in (Rank' p difs below) = offs_in below + sum_by dif_offs difs

abbrev pub has_failed : PortState → Bool
has_failed (Failed fail) = true
has_failed state = false

-- an end of an application has failed; an IPC process is no application
abbrev pub is_failed_app : End → Bool
is_failed_app e = has_failed e.state && not (is_ipc e.app)

-- such ends of a facility
abbrev pub fac_failures : Fac → ℕ
fac_failures f = count_by is_failed_app f.ends

-- and those of the facilities of all ranks, wires among them
abbrev pub failures_in : Tower → ℕ
failures_in (Wires a) = sum_by fac_failures (seen_of (Wires a)).facs
failures_in (Rank' p difs below) = failures_in below + sum_by fac_failures (seen_of (Rank' p difs below)).facs

-- some rank has more facilities than are looked at: 65,535 or more
abbrev pub HasManyFacilities : Tower → Type 0
HasManyFacilities (Wires a) = 65535 ≤ length (seen_of (Wires a)).facs
HasManyFacilities (Rank' p difs below) = HasManyFacilities below ⊎ 65535 ≤ length (seen_of (Rank' p difs below)).facs

-- how many lines the schedule of a text has
abbrev pub line_total : List ℕ → Option ℕ
line_total text = option_map (λ (s : Script). length s.lines) (script_in true text)

-- What is told

-- the summary of a run of that input: these notes, and this tower
pub record IsSummary (n : ℕ) (unwritten : List Note) (tower : Tower) (note : Note) : Type 0 where
  pub lines : ℕ
  pub total : line_total (input_text (input n)) ≡ Some lines
  pub is : note ≡ notes.Gen n lines (now_of tower) (count_by is_sent unwritten) (count_by is_got unwritten) (count_by is_refused unwritten) (offs_in tower) (failures_in tower)

-- without memory nothing is told
pub record TellsNothing (status : Status) (trace : List Note) : Type 0 where
  pub memory : status ≡ statuses.Memory
  pub none : trace ≡ []

-- a run of all lines is told by its summary
abbrev pub SumsUp : ℕ → List Note → Option Tower → Status → List Note → Type 0
SumsUp n unwritten None status trace = ⊥
SumsUp n unwritten (Some t) status trace = (note : Note) × IsSummary n unwritten t note × ClosedBy statuses.Done note [] status trace

-- a run that ended by a fault is told by that fault
abbrev pub TellsFault : Status → Status → List Note → Type 0
TellsFault ended status trace = (fault : Fault) × (status_of fault ≡ ended) × ClosedBy ended (notes.Fault fault) [] status trace

-- what is told of a run of that input, by how that ended
abbrev pub Tells : ℕ → Status → List Note → Option Tower → Status → List Note → Type 0
Tells n statuses.Done unwritten tower status trace = TellsNothing status trace ⊎ SumsUp n unwritten tower status trace
Tells n statuses.Memory unwritten tower status trace = TellsNothing status trace
Tells n statuses.ReadFault unwritten tower status trace = ⊥
Tells n statuses.WriteFault unwritten tower status trace = ⊥
Tells n ended unwritten tower status trace = TellsFault ended status trace
