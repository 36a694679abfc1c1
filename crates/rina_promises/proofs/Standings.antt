-- A DIF of a rank, and the tower that the rank stands on.
use Rattle.std.proofs.Common.{◌≡◌, ◌∙◌, ℕ, Option, Some, None, option_and_then, ap, subst}
use Rattle.std.specs.Prelude.{IfSome, MatchOption}
use Rattle.std.proofs.lemmas.Option.{same_Some}
use Rattle.rina_tower.specs.declared.tower.Tower.{Tower, Rank', Wires}
use Rattle.rina_tower.specs.Ledgers.{dif_at, dif_of}
use Rattle.rina_tower.specs.Ranks.{below_of, rank_of}
use Rattle.rina_tower.specs.Stands.{IsTower}
use Rattle.rina_tower.proofs.Owned.{rank_valid}
use Rattle.rina_promises.specs.declared.standing.Standing.{Standing}
use Rattle.rina_promises.specs.Promises.{IsOwn, IsStanding}

-- a DIF of the top rank of a rank is a DIF of that rank
pub own_there : (t : Tower) (r n : ℕ) (u : Tower) → rank_of t r ≡ Some u → dif_at t r n ≡ dif_of u n
own_there t r n u at = ap (λ (o : Option Tower). option_and_then (λ (v : Tower). dif_of v n) o) at

pub standing_there : (t : Tower) (r n : ℕ) (u : Tower) (o : Option Standing) → rank_of t r ≡ Some u → MatchOption o (dif_of u n ≡ None) (λ s. IsOwn u n s.dif.now s.below.now) → MatchOption o (dif_at t r n ≡ None) (λ s. IsStanding t r n s.dif.now s.below.now)
standing_there t r n u None at h = own_there t r n u at ∙ h
standing_there t r n u (Some s) at h = record {
  is_dif = own_there t r n u at ∙ h.is_dif;
  is_below = ap (λ (o : Option Tower). option_and_then below_of o) at ∙ h.is_below;
}

below_valid : (u b : Tower) → IsTower u → below_of u ≡ Some b → IsTower b
below_valid (Wires a) b v h = cc
below_valid (Rank' p difs below) b v h = subst IsTower (same_Some below b h) v.1

pub standing_valid : (t : Tower) (r n : ℕ) (u : Tower) (o : Option Standing) → IsTower t → rank_of t r ≡ Some u → MatchOption o (dif_of u n ≡ None) (λ s. IsOwn u n s.dif.now s.below.now) → IfSome o (λ s. IsTower s.below.now)
standing_valid t r n u None v at h = tt
standing_valid t r n u (Some s) v at h = below_valid u s.below.now (rank_valid t r u v at) h.is_below
