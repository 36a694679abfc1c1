-- Once an allocation has failed.
use Rattle.std.proofs.Common.{◌≡◌, ◌∙◌, ℕ, ◌+◌, zero, suc, Bool, true, false, List, [], ◌∷◌, slice_get, slice_set, Some, Result, Ok, Err, refl, ap, subst}
use Rattle.std.specs.Prelude.{◌||◌, OnErr}
use Rattle.rina_wire.specs.Air.{Air, failed_air}
use Rattle.rina_wire.specs.Tick.{TornBy}
use Rattle.rina_dif.specs.declared.dif.Dif.{Dif}
use Rattle.rina_tower.specs.declared.tower.Tower.{Tower, Rank'}
use Rattle.rina_tower.specs.Bystanders.{Anyone}
use Rattle.rina_tower.specs.MemoryFailure.{has_failed, have_failed}
use Rattle.rina_tower.specs.Rounds.{Follows}
use Rattle.rina_tower.specs.Stands.{IsRank, IsTower}
use Rattle.rina_tower.proofs.Serving.{beside_alone, rank_quiet}

-- what holds anyway holds after an error
pub on_err : {T E : Type 0} (r : Result T E) (X : Type 0) → X → OnErr r X
on_err (Ok x) X h = tt
on_err (Err e) X h = h

or_first : (a b : Bool) → a ≡ true → a || b ≡ true
or_first true b h = refl
or_first false b h = cc

or_second : (a b : Bool) → b ≡ true → a || b ≡ true
or_second true b h = refl
or_second false b h = h

-- the allocation failed in the DIF that was written
set_failed : (n : ℕ) (items : List Dif) (x d : Dif) → slice_get items n ≡ Some x → d.failed ≡ true → have_failed (slice_set items n d) ≡ true
set_failed n [] x d at h = cc
set_failed zero (y ∷ ys) x d at h = or_first d.failed (have_failed ys) h
set_failed (suc n) (y ∷ ys) x d at h = or_second y.failed (have_failed (slice_set ys n d)) (set_failed n ys x d at h)

pub failed_at : (n : ℕ) (difs items : List Dif) (x d : Dif) → items ≡ difs → slice_get difs n ≡ Some x → d.failed ≡ true → have_failed (slice_set items n d) ≡ true
failed_at n difs items x d is at h = set_failed n items x d (ap (λ (ds : List Dif). slice_get ds n) is ∙ at) h

-- then one of the tower did
pub rank_failed : (difs : List Dif) (below : Tower) → have_failed difs ≡ true → have_failed difs || has_failed below ≡ true
rank_failed difs below h = or_first (have_failed difs) (has_failed below) h

pub below_failed : (difs : List Dif) (below : Tower) → has_failed below ≡ true → have_failed difs || has_failed below ≡ true
below_failed difs below h = or_second (have_failed difs) (has_failed below) h

-- Wires that note it, as a call did whose answer said so

pub wires_failed : {R : Type 0} (On : R → Type 0) (r m : R) (a a' : Air) → On r → r ≡ m → (On m → a' ≡ failed_air a) → a'.failed ≡ true
wires_failed On r m a a' g h is = ap (λ (x : Air). x.failed) (is (subst On h g))

pub torn_failed : (a a' : Air) (f : Bool) → a.failed ≡ f → TornBy f a a' → a'.failed ≡ true
torn_failed a a' true h t = ap (λ (x : Air). x.failed) t ∙ h
torn_failed a a' false h t = t.failed

-- what follows below follows of a rank over it
pub rank_follows : (p : _) (p' : _) (difs : List Dif) (below below' : Tower) → IsRank difs below → IsTower below → Follows below below' → Follows (Rank' p difs below) (Rank' p' difs below')
rank_follows p p' difs below below' rank v f = record {
  valid = (rank_quiet difs below below' rank v f.valid f.height f.quiet, f.valid);
  quiet = beside_alone Anyone difs below below' f.quiet;
  height = ap (λ (n : ℕ). n + 1) f.height;
}
