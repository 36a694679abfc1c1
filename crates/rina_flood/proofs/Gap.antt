-- The item that is made in the gap.
use Rattle.std.proofs.Common.{◌≡◌, Some, refl, inl, inr}
use Rattle.std.specs.Prelude.{codes}
use Rattle.std.proofs.lemmas.Option.{none-some}
use Rattle.rina_access.specs.declared.rules.Rules.{Rules}
use Rattle.rina_newest.specs.Newest.{kept_at, taken}
use Rattle.rina_flood.specs.Network.{Near}
use Rattle.rina_flood.specs.Laws.{Owes}
use Rattle.rina_flood.specs.Sample.{sample_item}
use Rattle.rina_flood.specs.Gap.{after_gap, GapBreaks}
use Rattle.rina_flood.proofs.Places.{nothing_in}

kept : (rules : Rules) → kept_at ((after_gap rules).agents 1).items (codes "/dir/echo") ≡ Some sample_item
unfolding taken
kept rules = refl

broken : (rules : Rules) → Owes (after_gap rules) 0 Near → ⊥
broken rules owes = elim (owes (codes "/dir/echo") sample_item (kept rules)) [
  | inl a ↦ none-some a.item a.kept
  | inr c ↦ nothing_in c.item c.among
]

pub gap_breaks : (rules : Rules) → GapBreaks rules
gap_breaks rules = record { run = (refl, tt); up = refl; broken = broken rules }
