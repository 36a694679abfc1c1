-- Names on wires: each was registered by a line of the schedule, and so was each application for which a flow of a wire was asked.
use Rattle.std.specs.Prelude.{◌≡◌, ℕ, Bool, true, false, List, slice_get, Option, Some, None, option_and_then}
use Rattle.rina_iface.specs.declared.ends.End.{End}
use Rattle.rina_iface.specs.declared.state.Role.TheVariants.{Asker}
use Rattle.rina_iface.specs.Journal.{At}
use Rattle.rina_iface.specs.Seen.{is_registered}
use Rattle.rina_policy.specs.Slots.{Slot}
use Rattle.rina_report.specs.declared.note.Note.{Note}
use Rattle.rina_stack.specs.declared.plan.Plan.{Plan}
use Rattle.rina_wire.specs.Air.{Line, wire_at}
use Rattle.rina_wire.specs.Allocate.{other_node}
use Rattle.rina_tower.specs.Bystanders.{is_ipc}
use Rattle.rina_tower.specs.Ranks.{now_of}
use Rattle.rina_words.specs.Step.{Stage}
use Rattle.rina_run.specs.Opening.{IsOpening}
use Rattle.rina_run.specs.Run.{Runs}
use Rattle.rina_laws.specs.Frames.{wires_of}
use Rattle.rina_laws.specs.Named.{IsRegistration}

-- whether an application is registered at a node of a wire
abbrev pub wire_has_name : Option Line → ℕ → List ℕ → Bool
wire_has_name None node app = false
wire_has_name (Some l) node app = is_registered l.names node app

-- the end at a place of the journal of a wire; none where there is none
abbrev pub wire_end_at : Option Line → ℕ → Option End
wire_end_at o i = option_and_then (λ (l : Line). slice_get l.ends i) o

-- in every run of a stack, each name of each wire that is no IPC process's, and that was not there at the opening, was registered by a line
abbrev pub WireNamesAreRegistered : Type 0
WireNamesAreRegistered =
    (plan : Plan) (shelf : List Slot) (start : Stage) (lines : List (List ℕ)) (ns : List Note) (s : Stage) → IsOpening plan shelf start → Runs plan 1 start lines ns s
    → (fac : ℕ) (l : Line) → wire_at (wires_of s.run.tower) fac ≡ Some l → (node : ℕ) (app : List ℕ) → is_ipc app ≡ false
    → wire_has_name (wire_at (wires_of start.run.tower) fac) node app ≡ false → is_registered l.names node app ≡ true → IsRegistration plan 0 fac node app (now_of s.run.tower) lines ns

-- in every run of a stack, each asker's end of each wire that was not there at the opening asks for an application that a line registered at the other node of the wire, no
-- later than the tick of the flow's name; but where it asks for an IPC process, or the name was there at the opening
abbrev pub WireFlowsAreToNames : Type 0
WireFlowsAreToNames =
    (plan : Plan) (shelf : List Slot) (start : Stage) (lines : List (List ℕ)) (ns : List Note) (s : Stage) → IsOpening plan shelf start → Runs plan 1 start lines ns s
    → (fac : ℕ) (l : Line) → wire_at (wires_of s.run.tower) fac ≡ Some l → (i : ℕ) (e : End) → At l.ends i e → e.role ≡ Asker → wire_end_at (wire_at (wires_of start.run.tower) fac) i ≡ None
    → is_ipc e.peer ≡ false → wire_has_name (wire_at (wires_of start.run.tower) fac) (other_node l e.port.node) e.peer ≡ false
    → IsRegistration plan 0 fac (other_node l e.port.node) e.peer e.flow.tick lines ns
