-- Printed causes of write-offs.
use Rattle.std.specs.Prelude.{ℕ, List, [], ◌∷◌, codes}
use Rattle.std.specs.Fmt.{decimal}
use Rattle.rina_report.specs.declared.cause.CauseNote.{CauseNote}
use Rattle.rina_report.specs.declared.cause.CauseNote.TheVariants as causes
use Rattle.rina_report.specs.Values.{num_text, port_text, truth_text}

-- the name of a cause
unfoldable pub cause_word : CauseNote → List ℕ
cause_word (causes.Expired _ _) = codes "Expired"
cause_word (causes.NoRoute _) = codes "NoRoute"
cause_word (causes.QueueFull _) = codes "QueueFull"
cause_word (causes.NoConnection _) = codes "NoConnection"
cause_word (causes.Duplicate _) = codes "Duplicate"
cause_word (causes.Behind _) = codes "Behind"
cause_word (causes.NoState _) = codes "NoState"
cause_word (causes.NoRoom _) = codes "NoRoom"
cause_word (causes.StateGone _) = codes "StateGone"
cause_word (causes.Broken _) = codes "Broken"
cause_word (causes.LinkDown _) = codes "LinkDown"

-- the fields of a cause
unfoldable pub cause_values : CauseNote → List (List ℕ)
cause_values (causes.Expired left charge) = decimal left ∷ decimal charge ∷ []
cause_values (causes.NoRoute dst) = decimal dst ∷ []
cause_values (causes.QueueFull cap) = decimal cap ∷ []
cause_values (causes.NoConnection cep) = decimal cep ∷ []
cause_values (causes.Duplicate num) = num_text num ∷ []
cause_values (causes.Behind highest) = decimal highest ∷ []
cause_values (causes.NoState drf) = truth_text drf ∷ []
cause_values (causes.NoRoom cap) = decimal cap ∷ []
cause_values (causes.StateGone last_in) = decimal last_in ∷ []
cause_values (causes.Broken missing) = decimal missing ∷ []
cause_values (causes.LinkDown port) = port_text port ∷ []

-- NAME FIELDS
abbrev pub cause_fields : CauseNote → List (List ℕ)
cause_fields cause = cause_word cause ∷ cause_values cause
