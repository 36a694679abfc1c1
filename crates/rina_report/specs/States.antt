-- Printed states of ports and members.
use Rattle.std.specs.Prelude.{ℕ, List, [], ◌∷◌, codes}
use Rattle.std.specs.Fmt.{decimal}
use Rattle.rina_iface.specs.declared.state.Why.{Why}
use Rattle.rina_iface.specs.declared.state.Why.TheVariants as whys
use Rattle.rina_report.specs.declared.state.FailNote.{FailNote}
use Rattle.rina_report.specs.declared.state.FailNote.TheVariants as fails
use Rattle.rina_report.specs.declared.state.StateNote.{StateNote}
use Rattle.rina_report.specs.declared.state.StateNote.TheVariants as states
use Rattle.rina_report.specs.declared.state.MemberNote.{MemberNote}
use Rattle.rina_report.specs.declared.state.MemberNote.TheVariants as members
use Rattle.rina_report.specs.Values.{num_text, port_text}

-- why a flow was refused
unfoldable pub why_fields : Why → List (List ℕ)
why_fields (whys.Denied rule) = codes "Denied" ∷ decimal rule ∷ []
why_fields whys.NotHere = codes "NotHere" ∷ []
why_fields (whys.NoIds used) = codes "NoIds" ∷ decimal used ∷ []
why_fields (whys.Timeout asked now) = codes "Timeout" ∷ decimal asked ∷ decimal now ∷ []
why_fields whys.Withdrawn = codes "Withdrawn" ∷ []

-- why a flow failed
unfoldable pub fail_fields : FailNote → List (List ℕ)
fail_fields (fails.GaveUp num first now) = codes "GaveUp" ∷ num_text num ∷ decimal first ∷ decimal now ∷ []
fail_fields (fails.Below port) = codes "Below" ∷ port_text port ∷ []
fail_fields (fails.Cut at) = codes "Cut" ∷ decimal at ∷ []

-- the state of a port
unfoldable pub state_fields : StateNote → List (List ℕ)
state_fields states.Pending = codes "pending" ∷ []
state_fields states.Allocated = codes "allocated" ∷ []
state_fields states.Closed = codes "closed" ∷ []
state_fields (states.Refused why) = codes "refused" ∷ why_fields why
state_fields (states.Failed fail) = codes "failed" ∷ fail_fields fail

-- the state of a member
unfoldable pub member_fields : MemberNote → List (List ℕ)
member_fields members.Outside = codes "outside" ∷ []
member_fields (members.Joining link) = codes "joining" ∷ decimal link ∷ []
member_fields members.Enrolled = codes "enrolled" ∷ []
member_fields (members.Denied rule) = codes "denied" ∷ decimal rule ∷ []
