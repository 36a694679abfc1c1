-- Printed refusals.
use Rattle.std.specs.Prelude.{ℕ, Bool, true, false, List, [], ◌∷◌, codes, Option, Some, None}
use Rattle.std.specs.Fmt.{decimal}
use Rattle.rina_report.specs.declared.state.StateNote.{StateNote}
use Rattle.rina_report.specs.declared.refusal.Refusal.{Refusal}
use Rattle.rina_report.specs.declared.refusal.Refusal.TheVariants as refusals
use Rattle.rina_report.specs.Values.{port_text}
use Rattle.rina_report.specs.States.{state_fields, fail_fields}

-- a state, or none
unfoldable pub state_or_none : Option StateNote → List (List ℕ)
state_or_none None = codes "none" ∷ []
state_or_none (Some state) = state_fields state

-- the name of a refusal
unfoldable pub refusal_word : Refusal → List ℕ
refusal_word (refusals.Unknown _) = codes "Unknown"
refusal_word refusals.NoWire = codes "NoWire"
refusal_word refusals.NoPolicy = codes "NoPolicy"
refusal_word refusals.LabelUsed = codes "LabelUsed"
refusal_word refusals.ClockSpent = codes "ClockSpent"
refusal_word refusals.NoIpc = codes "NoIpc"
refusal_word refusals.Already = codes "Already"
refusal_word refusals.NoMember = codes "NoMember"
refusal_word (refusals.CountSpent _ _) = codes "CountSpent"
refusal_word refusals.NotThere = codes "NotThere"
refusal_word refusals.NoCube = codes "NoCube"
refusal_word refusals.NoSuchApp = codes "NoSuchApp"
refusal_word refusals.SameSystem = codes "SameSystem"
refusal_word (refusals.NoIds _) = codes "NoIds"
refusal_word (refusals.NoRoute _) = codes "NoRoute"
refusal_word (refusals.Busy _) = codes "Busy"
refusal_word (refusals.NotAllocated _) = codes "NotAllocated"
refusal_word (refusals.Failed _) = codes "Failed"
refusal_word (refusals.TooLong _ _) = codes "TooLong"
refusal_word (refusals.WindowShut _ _) = codes "WindowShut"
refusal_word (refusals.QueueFull _ _) = codes "QueueFull"
refusal_word (refusals.NumbersSpent _) = codes "NumbersSpent"
refusal_word refusals.NoPort = codes "NoPort"
refusal_word (refusals.NoFrame _) = codes "NoFrame"
refusal_word (refusals.EarlyHold _) = codes "EarlyHold"
refusal_word (refusals.LateHold _) = codes "LateHold"
refusal_word refusals.NoLink = codes "NoLink"
refusal_word (refusals.Enrolling _) = codes "Enrolling"
refusal_word (refusals.LinksFull _) = codes "LinksFull"
refusal_word (refusals.Short _) = codes "Short"
refusal_word (refusals.BadTag _) = codes "BadTag"
refusal_word (refusals.BadOp _) = codes "BadOp"
refusal_word (refusals.Twice _) = codes "Twice"
refusal_word (refusals.Missing _) = codes "Missing"
refusal_word (refusals.BadValue _) = codes "BadValue"
refusal_word refusals.NoRank = codes "NoRank"
refusal_word refusals.NotYours = codes "NotYours"

-- the refusal is for bytes that are no CDAP message
abbrev pub is_of_message : Refusal → Bool
is_of_message (refusals.Short _) = true
is_of_message (refusals.BadTag _) = true
is_of_message (refusals.BadOp _) = true
is_of_message (refusals.Twice _) = true
is_of_message (refusals.Missing _) = true
is_of_message (refusals.BadValue _) = true
is_of_message _ = false

-- the refusal has other fields than one number
abbrev pub has_shape : Refusal → Bool
has_shape (refusals.CountSpent _ _) = true
has_shape (refusals.Busy _) = true
has_shape (refusals.NotAllocated _) = true
has_shape (refusals.Failed _) = true
has_shape (refusals.TooLong _ _) = true
has_shape (refusals.WindowShut _ _) = true
has_shape (refusals.QueueFull _ _) = true
has_shape _ = false

-- the fields of a refusal
unfoldable pub refusal_values : Refusal → List (List ℕ)
refusal_values (refusals.Unknown field) = decimal field ∷ []
refusal_values (refusals.CountSpent need left) = decimal need ∷ decimal left ∷ []
refusal_values (refusals.NoIds used) = decimal used ∷ []
refusal_values (refusals.NoRoute dst) = decimal dst ∷ []
refusal_values (refusals.Busy port) = port_text port ∷ []
refusal_values (refusals.NotAllocated state) = state_or_none state
refusal_values (refusals.Failed fail) = fail_fields fail
refusal_values (refusals.TooLong len max) = decimal len ∷ decimal max ∷ []
refusal_values (refusals.WindowShut need room) = decimal need ∷ decimal room ∷ []
refusal_values (refusals.QueueFull need room) = decimal need ∷ decimal room ∷ []
refusal_values (refusals.NumbersSpent until) = decimal until ∷ []
refusal_values (refusals.NoFrame frame) = decimal frame ∷ []
refusal_values (refusals.EarlyHold now) = decimal now ∷ []
refusal_values (refusals.LateHold last) = decimal last ∷ []
refusal_values (refusals.Enrolling link) = decimal link ∷ []
refusal_values (refusals.LinksFull max) = decimal max ∷ []
refusal_values (refusals.Short at) = decimal at ∷ []
refusal_values (refusals.BadTag at) = decimal at ∷ []
refusal_values (refusals.BadOp op) = decimal op ∷ []
refusal_values (refusals.Twice tag) = decimal tag ∷ []
refusal_values (refusals.Missing tag) = decimal tag ∷ []
refusal_values (refusals.BadValue tag) = decimal tag ∷ []
refusal_values _ = []

-- NAME FIELDS
abbrev pub refusal_fields : Refusal → List (List ℕ)
refusal_fields r = refusal_word r ∷ refusal_values r
