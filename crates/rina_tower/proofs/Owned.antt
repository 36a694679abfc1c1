-- What holds of a rank of a tower, and of a DIF of it.
use Rattle.std.proofs.Common.{◌≡◌, ℕ, ◌+◌, Option, Some, None, option_and_then, ap, subst, inl, inr, ◌∙◌}
use Rattle.std.specs.Prelude.{MatchOption}
use Rattle.std.proofs.lemmas.Bool.Decides.{eqb_tells}
use Rattle.std.proofs.lemmas.Option.{same_Some}
use Rattle.rina_data.specs.Configs.{config_of}
use Rattle.rina_dif_law.specs.Sending.{home}
use Rattle.rina_dif.specs.declared.dif.Dif.{Dif}
use Rattle.rina_dif.specs.Whole.{IsDif}
use Rattle.rina_tower.specs.declared.tower.Tower.{Tower, Rank', Wires}
use Rattle.rina_tower.specs.Ledgers.{dif_at, dif_of, member_at}
use Rattle.rina_tower.specs.Ranks.{height_of, rank_of}
use Rattle.rina_tower.specs.Stands.{IsTower}
use Rattle.rina_tower.proofs.Serving.{rank_difs}

-- the tower up to a rank is one
pub rank_valid : (t : Tower) (r : ℕ) (u : Tower) → IsTower t → rank_of t r ≡ Some u → IsTower u
rank_valid (Wires a) r u v at = elim (eqb_tells r 0) [
  | inl h ↦ subst IsTower (same_Some (Wires a) u (rw h.0 at at)) v
  | inr f ↦ let no : None ≡ Some u = rw f.0 at at in cc
]
rank_valid (Rank' p difs below) r u v at = elim (eqb_tells r (height_of below + 1)) [
  | inl h ↦ subst IsTower (same_Some (Rank' p difs below) u (rw h.0 at at)) v
  | inr f ↦ rank_valid below r u v.1 (rw f.0 at at)
]

none_some : (d : Dif) → None ≡ Some d → ⊥
none_some d h = cc

-- a DIF of the top rank is one
pub own_valid : (t : Tower) (n : ℕ) (d : Dif) → IsTower t → dif_of t n ≡ Some d → IsDif d
own_valid (Wires a) n d v at = absurd (none_some d at)
own_valid (Rank' p difs below) n d v at = rank_difs difs below v.0 n d at

-- a DIF of the top rank of a rank is a DIF of that rank
pub dif_there : (t : Tower) (r n : ℕ) (u : Tower) (d : Dif) → rank_of t r ≡ Some u → dif_of u n ≡ Some d → dif_at t r n ≡ Some d
dif_there t r n u d at own = ap (λ (o : Option Tower). option_and_then (λ (u : Tower). dif_of u n) o) at ∙ own

-- and so are its members
pub member_there : (t : Tower) (r n node : ℕ) (d : Dif) → dif_at t r n ≡ Some d → member_at t r n node ≡ home node (config_of d.settings).members
member_there t r n node d at = ap (λ (o : Option Dif). option_and_then (λ (d : Dif). home node (config_of d.settings).members) o) at

pub match_by : {A : Type 0} (o : Option A) (P P' : Type 0) (Q Q' : A → Type 0) → (P → P') → ((a : A) → Q a → Q' a) → MatchOption o P Q → MatchOption o P' Q'
match_by None P P' Q Q' f g h = f h
match_by (Some a) P P' Q Q' f g h = g a h
