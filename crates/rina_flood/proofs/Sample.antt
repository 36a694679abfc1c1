-- The run of two members.
use Rattle.std.proofs.Common.{◌≡◌, ℕ, ◌<◌, ◌^◌, [], ◌∷◌, Some, refl, sym, ◌∙◌, arith, inl}
use Rattle.std.specs.Prelude.{codes}
use Rattle.rina_access.specs.declared.rules.Rules.{Rules}
use Rattle.rina_newest.specs.Newest.{kept_at, taken}
use Rattle.rina_flood.specs.Network.{Side, Near, Far, There, IsRun, after_rows, IsStart}
use Rattle.rina_flood.specs.Laws.{IsQuietWalk}
use Rattle.rina_flood.specs.Sample.{sample, sample_end, sample_entry, sample_item, sample_rows, SampleSettles}
use Rattle.rina_flood.proofs.Places.{nothing_in}
use Rattle.rina_flood.proofs.States.{there_is}

same_link : (l k number : ℕ) → There l ≡ There number → There k ≡ There number → l ≡ k
same_link l k number a b = there_is l number a ∙ sym (there_is k number b)

laid : (l : ℕ) (d : Side) (k : ℕ) (e : Side) (number : ℕ) → sample_end l d ≡ sample_end k e → There l ≡ There number → There k ≡ There number → (l ≡ k) × (d ≡ e)
laid l Near k Near number a b c = (same_link l k number b c, refl)
laid l Near k Far number a b c = absurd (omega (arith, a))
laid l Far k Near number a b c = absurd (omega (arith, a))
laid l Far k Far number a b c = (same_link l k number b c, refl)

fits : (l : ℕ) (d : Side) → sample_end l d < 2 ^ 32
fits l Near = omega arith
fits l Far = omega arith

start : (rules : Rules) → IsStart (sample rules) []
start rules = record {
  addresses = λ i. refl;
  knows = λ i. inl (refl, refl);
  both = λ l d up. (refl, refl);
  agendas = λ i. refl;
  sent = λ l d. refl;
  made = refl;
  one = λ x y a b k v. absurd (nothing_in x a);
  past = λ x e. absurd (nothing_in x e);
  counted = λ x e. absurd (nothing_in x e);
  apart = λ i. (refl, tt);
  laid = laid;
  fit = fits;
}

run : (rules : Rules) → IsRun (sample rules) sample_rows
run rules = (record { both = λ l d up first. refl; one = λ y e k v. absurd (nothing_in y e); past = omega arith; counted = omega arith }, (refl, ((refl, refl), ((refl, refl), tt))))

quiet : (rules : Rules) → IsQuietWalk (after_rows (sample rules) sample_rows) 1 ((0, Near) ∷ []) 2
unfolding taken
quiet rules = (refl, refl, refl, refl, refl)

kept : (rules : Rules) → kept_at ((after_rows (sample rules) sample_rows).agents 2).items (codes "/dir/echo") ≡ Some sample_item
unfolding taken
kept rules = refl

knows : (rules : Rules) → kept_at ((after_rows (sample rules) sample_rows).agents 2).items (codes "/dir/sink") ≡ Some sample_entry
unfolding taken
knows rules = refl

pub settles : (rules : Rules) → SampleSettles rules
settles rules = record { start = start rules; run = run rules; quiet = quiet rules; kept = kept rules; knows = knows rules }
