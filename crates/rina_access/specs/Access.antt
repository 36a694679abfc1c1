-- What an ordered list of rules decides.
use Rattle.std.specs.Prelude.{ℕ, ◌+◌, Bool, true, false, ◌&&◌, List, Option, Some, None, position, slice_get}
use Rattle.std.specs.Str.{bytes_eq}
use Rattle.rina_access.specs.declared.rules.Act.{Act}
use Rattle.rina_access.specs.declared.rules.Act.TheVariants.{Allocate, Enrol}
use Rattle.rina_access.specs.declared.rules.Subject.{Subject}
use Rattle.rina_access.specs.declared.rules.Subject.TheVariants.{All, App}
use Rattle.rina_access.specs.declared.rules.Rule.{Rule}
use Rattle.rina_access.specs.declared.rules.Decision.{Decision}

abbrev pub is_act : Act → Act → Bool
is_act Allocate Allocate = true
is_act Enrol Enrol = true
is_act _ _ = false

-- a name is one of those that a rule speaks of
abbrev pub is_subject : List ℕ → Subject → Bool
is_subject name All = true
is_subject name (App other) = bytes_eq other name

-- a rule speaks of this act of this name
unfoldable pub matches_rule : List ℕ → Act → Rule → Bool
matches_rule name act rule = is_subject name rule.subject && is_act rule.act act

-- the decision of the rule at a place, which has the number after it
abbrev pub decision_at : Option Rule → ℕ → Decision
decision_at (Some r) at = record { allow = r.allow; rule = at + 1 }
decision_at None at = record { allow = false; rule = 0 }

abbrev pub decision_of : List Rule → Bool → Option ℕ → Decision
decision_of rules default (Some at) = decision_at (slice_get rules at) at
decision_of rules default None = record { allow = default; rule = 0 }

-- the first rule that speaks of this act of this name, or the default
unfoldable pub decided : List Rule → Bool → List ℕ → Act → Decision
decided rules default name act = decision_of rules default (position (matches_rule name act) rules)
