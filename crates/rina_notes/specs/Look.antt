-- The states of labelled ports: which changed since they were told last.
use Rattle.std.specs.Prelude.{◌≡◌, ℕ, ◌++◌, ◌==◌, ◌&&◌, Bool, true, false, List, [], ◌∷◌, map, take, drop, Option, Some, None, option_and_then, option_map, slice_get, if◌then◌else◌}
use Rattle.std.specs.List.{flat_map}
use Rattle.rina_base.specs.declared.number.Port.{Port}
use Rattle.rina_base.specs.declared.number.Num.{Num}
use Rattle.rina_iface.specs.declared.state.PortState.{PortState}
use Rattle.rina_iface.specs.declared.state.PortState.TheVariants as states
use Rattle.rina_iface.specs.declared.state.Why.{Why}
use Rattle.rina_iface.specs.declared.state.Why.TheVariants as whys
use Rattle.rina_iface.specs.declared.state.Fail.{Fail}
use Rattle.rina_iface.specs.declared.state.Fail.TheVariants as fails
use Rattle.rina_report.specs.declared.note.Note.{Note}
use Rattle.rina_report.specs.declared.note.Note.TheVariants as notes
use Rattle.rina_report.specs.declared.answer.Answer.{Answer}
use Rattle.rina_report.specs.declared.answer.Answer.TheVariants as answers
use Rattle.rina_stack.specs.declared.plan.Plan.{Plan}
use Rattle.rina_iface.specs.declared.ends.End.{End}
use Rattle.rina_iface.specs.Seen.{Fac, state_of}
use Rattle.rina_tower.specs.declared.tower.Tower.{Tower}
use Rattle.rina_tower.specs.Ranks.{now_of, rank_of, seen_of}
use Rattle.rina_notes.specs.declared.label.Label.{Label}
use Rattle.rina_notes.specs.Told.{drawn_told}

abbrev pub same_num : Num → Num → Bool
same_num a b = (a.cep == b.cep) && (a.seq == b.seq)

abbrev pub same_port : Port → Port → Bool
same_port a b = (a.fac == b.fac) && (a.node == b.node) && (a.n == b.n)

abbrev pub same_why : Why → Why → Bool
same_why (whys.Denied a) (whys.Denied b) = a == b
same_why whys.NotHere whys.NotHere = true
same_why (whys.NoIds a) (whys.NoIds b) = a == b
same_why (whys.Timeout a b) (whys.Timeout c d) = (a == c) && (b == d)
same_why whys.Withdrawn whys.Withdrawn = true
same_why a b = false

abbrev pub same_fail : Fail → Fail → Bool
same_fail (fails.GaveUp a b c) (fails.GaveUp d e f) = same_num a d && (b == e) && (c == f)
same_fail (fails.Below a) (fails.Below b) = same_port a b
same_fail (fails.Cut a) (fails.Cut b) = a == b
same_fail a b = false

abbrev pub same_state : PortState → PortState → Bool
same_state states.Pending states.Pending = true
same_state states.Allocated states.Allocated = true
same_state (states.Refused a) (states.Refused b) = same_why a b
same_state (states.Failed a) (states.Failed b) = same_fail a b
same_state states.Closed states.Closed = true
same_state a b = false

abbrev pub same_drawn : Option PortState → Option PortState → Bool
same_drawn None None = true
same_drawn (Some a) (Some b) = same_state a b
same_drawn a b = false

abbrev pub or_no_ends : Option (List End) → List End
or_no_ends None = []
or_no_ends (Some ends) = ends

-- the ends of a facility of a rank; none where there is no such facility
abbrev pub ends_at : Tower → ℕ → ℕ → List End
ends_at t rank fac = or_no_ends (option_and_then (λ (u : Tower). option_map (λ (f : Fac). f.ends) (slice_get (seen_of u).facs fac)) (rank_of t rank))

-- the state of a port of a rank
abbrev pub state_at : Tower → ℕ → Port → Option PortState
state_at t rank port = option_and_then (λ u. state_of (seen_of u) port) (rank_of t rank)

-- the note of what a line answers at a tick, if it answers anything
abbrev pub noted : ℕ → ℕ → Option Answer → List Note
noted line tick None = []
noted line tick (Some what) = notes.Line line tick what ∷ []

-- what a label tells: its port's state, where that is not the one that was told last
unfoldable pub label_notes : Plan → ℕ → Tower → Label → List Note
label_notes plan line t l = if same_drawn (state_at t l.rank l.port) l.shown then [] else noted line (now_of t) (option_map (answers.Label l.name) (drawn_told plan l.rank (state_at t l.rank l.port)))

-- what all labels tell, in their order
abbrev pub state_notes : Plan → ℕ → Tower → List Label → List Note
state_notes plan line t labels = flat_map (label_notes plan line t) labels

-- the end at a place is that of a label's port, and has the state that was told last
pub record IsShownAt (ends : List End) (place : ℕ) (l : Label) : Type 0 where
  pub end : End
  pub stands : slice_get ends place ≡ Some end
  pub port : end.port ≡ l.port
  pub state : same_drawn (Some end.state) l.shown ≡ true

-- a label's port is of a facility of a rank, and its end stands among these and has the state that was told last
pub record IsShownIn (rank fac : ℕ) (ends : List End) (l : Label) : Type 0 where
  pub its_rank : l.rank ≡ rank
  pub its_fac : l.port.fac ≡ fac
  pub place : ℕ
  pub shown : IsShownAt ends place l

abbrev pub shown_now : Tower → Label → Label
shown_now t l = record l { shown = state_at t l.rank l.port }

-- the labels after they have told their states
abbrev pub looked : Tower → List Label → List Label
looked t labels = map (shown_now t) labels

-- of these labels the first so many have told their states, behind what the trace began with
pub record HaveTold (plan : Plan) (line : ℕ) (t : Tower) (ls : List Label) (start : List Note) (count : ℕ) (now : List Label) (trace : List Note) : Type 0 where
  pub labels : now ≡ looked t (take count ls) ++ drop count ls
  pub notes : trace ≡ start ++ state_notes plan line t (take count ls)

-- the trace went on with notes of which this holds
pub record Leads (P : List Note → Type 0) (old new : List Note) : Type 0 where
  pub notes : List Note
  pub trace : new ≡ old ++ notes
  pub holds : P notes

-- the trace went on
pub record Extends (old new : List Note) : Type 0 where
  pub notes : List Note
  pub trace : new ≡ old ++ notes
