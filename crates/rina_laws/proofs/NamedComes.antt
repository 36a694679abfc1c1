-- How what holds of the DIFs of a tower comes to hold: whatever holds of one after held before, or came to hold for a reason.
use Rattle.std.proofs.Common.{◌≡◌, ◌∙◌, ◌⊎◌, ℕ, ◌+◌, ◌==◌, true, false, List, slice_get, Option, Some, None, option_and_then, refl, sym, ap, subst, inl, inr}
use Rattle.std.proofs.lemmas.Bool.Decides.{eqb_tells}
use Rattle.rina_iface.proofs.Changed.{set_at}
use Rattle.rina_dif.specs.declared.dif.Dif.{Dif}
use Rattle.rina_wire.specs.Air.{Air}
use Rattle.rina_tower.specs.declared.tower.Tower.{Tower, Wires, Rank'}
use Rattle.rina_tower.specs.Ledgers.{dif_at, dif_of}
use Rattle.rina_tower.specs.Levels.{AtDif, AtRank, AtWires, IsAtDif}
use Rattle.rina_tower.specs.Ranks.{below_of, height_of, rank_of}
use Rattle.rina_tower.specs.Stands.{IsTower}

-- what may hold of a DIF
abbrev pub Fact : Type 1
Fact = Dif → Type 0

-- why it may come to hold of the DIF of a place at a rank, over the rank below, as both were before
abbrev pub Reason : Type 1
Reason = ℕ → ℕ → Dif → Tower → Type 0

-- there is none
abbrev pub Never : Reason
Never r n d below = ⊥

-- it holds of the DIF of place n at rank r
pub record HoldsAt (F : Fact) (r n : ℕ) (t : Tower) : Type 0 where
  pub dif : Dif
  pub is_dif : dif_at t r n ≡ Some dif
  pub holds : F dif

-- it came to hold there, for this reason
pub record CameAt (W : Reason) (r n : ℕ) (t : Tower) : Type 0 where
  pub rank : Tower
  pub is_rank : rank_of t r ≡ Some rank
  pub below : Tower
  pub is_below : below_of rank ≡ Some below
  pub dif : Dif
  pub is_dif : dif_of rank n ≡ Some dif
  pub why : W r n dif below

-- ---- the DIFs of a rank

abbrev pub RankComes : Fact → Reason → List Dif → Tower → List Dif → Type 0
RankComes F W difs below difs' = (n : ℕ) (d' : Dif) → slice_get difs' n ≡ Some d' → (d : Dif) × (slice_get difs n ≡ Some d) × (F d' → F d ⊎ W (height_of below + 1) n d below)

pub rank_same : (F : Fact) (W : Reason) (difs : List Dif) (below : Tower) → RankComes F W difs below difs
rank_same F W difs below n d at = (d, at, λ h. inl h)

pub one_comes : (F : Fact) (W : Reason) (does : Dif → Dif → Type 0) (n : ℕ) (difs difs' : List Dif) (below : Tower) → ((d d' : Dif) → slice_get difs n ≡ Some d → does d d' → F d' → F d ⊎ W (height_of below + 1) n d below) → IsAtDif does n difs difs' → RankComes F W difs below difs'
one_comes F W does n difs difs' below each h k x at = elim (set_at difs n k h.dif h.dif' x h.is_dif (subst (λ (ds : List Dif). slice_get ds k ≡ Some x) h.new_is at)) [
  | inl s ↦ (
    h.dif,
    subst (λ (m : ℕ). slice_get difs m ≡ Some h.dif) (sym s.0) h.is_dif,
    subst (λ (m : ℕ). F x → F h.dif ⊎ W (height_of below + 1) m h.dif below) (sym s.0) (subst (λ (z : Dif). F z → F h.dif ⊎ W (height_of below + 1) n h.dif below) (sym s.1) (each h.dif h.dif' h.is_dif h.done)),
  )
  | inr o ↦ (x, o.1, λ f. inl f)
]

pub any_comes : (F : Fact) (W : Reason) (does : Dif → Dif → Type 0) (n : ℕ) (none : Type 0) (difs difs' : List Dif) (below : Tower) → ((d d' : Dif) → slice_get difs n ≡ Some d → does d d' → F d' → F d ⊎ W (height_of below + 1) n d below) → AtDif n does none difs difs' → RankComes F W difs below difs'
any_comes F W does n none difs difs' below each a = elim a [
  | inl h ↦ one_comes F W does n difs difs' below each h
  | inr h ↦ subst (RankComes F W difs below) (sym h.2) (rank_same F W difs below)
]

-- where it never comes to hold
pub any_stays : (F : Fact) (does : Dif → Dif → Type 0) (n : ℕ) (none : Type 0) (difs difs' : List Dif) (below : Tower) → ((d d' : Dif) → slice_get difs n ≡ Some d → does d d' → F d' → F d) → AtDif n does none difs difs' → RankComes F Never difs below difs'
any_stays F does n none difs difs' below each a = any_comes F Never does n none difs difs' below (λ d d' at s f. inl (each d d' at s f)) a

-- ---- a tower

abbrev pub Comes : Fact → Reason → Tower → Tower → Type 0
Comes F W (Wires a) (Wires a') = Unit {0}
Comes F W (Rank' p difs below) (Rank' p' difs' below') = RankComes F W difs below difs' × Comes F W below below'
Comes F W t t' = ⊥

pub comes_same : (F : Fact) (W : Reason) (t : Tower) → Comes F W t t
comes_same F W (Wires a) = tt
comes_same F W (Rank' p difs below) = (rank_same F W difs below, comes_same F W below)

pub comes_is : (F : Fact) (W : Reason) (t t' : Tower) → t' ≡ t → Comes F W t t'
comes_is F W t t' is = subst (Comes F W t) (sym is) (comes_same F W t)

-- what never comes to hold does so for any reason
pub never_more : (F : Fact) (W : Reason) (t t' : Tower) → Comes F Never t t' → Comes F W t t'
never_more F W (Wires a) (Wires a') c = tt
never_more F W (Rank' p difs below) (Rank' p' difs' below') c = ((λ n d' at. (let x = c.0 n d' at in (x.0, x.1, λ h. elim (x.2 h) [ inl f ↦ inl f | inr never ↦ absurd never ]))), never_more F W below below' c.1)
never_more F W (Wires a) (Rank' p difs below) c = absurd c
never_more F W (Rank' p difs below) (Wires a) c = absurd c

-- where it never does, one change after another
pub never_on : (F : Fact) (t u v : Tower) → Comes F Never t u → Comes F Never u v → Comes F Never t v
never_on F (Wires a) (Wires b) (Wires c) g h = tt
never_on F (Rank' p ds below) (Rank' q es mid) (Rank' r fs under) g h = (
  λ n f at. (let e = h.0 n f at in let d = g.0 n e.0 e.1 in (d.0, d.1, λ x. elim (e.2 x) [ inl y ↦ elim (d.2 y) [ inl z ↦ inl z | inr never ↦ absurd never ] | inr never ↦ absurd never ])),
  never_on F below mid under g.1 h.1,
)
never_on F (Wires a) (Wires b) (Rank' r fs under) g h = absurd h
never_on F (Wires a) (Rank' q es mid) v g h = absurd g
never_on F (Rank' p ds below) (Wires b) v g h = absurd g
never_on F (Rank' p ds below) (Rank' q es mid) (Wires c) g h = absurd h

pub height_comes : (F : Fact) (W : Reason) (t t' : Tower) → Comes F W t t' → height_of t' ≡ height_of t
height_comes F W (Wires a) (Wires a') c = refl
height_comes F W (Rank' p difs below) (Rank' p' difs' below') c = ap (λ (n : ℕ). n + 1) (height_comes F W below below' c.1)
height_comes F W (Wires a) (Rank' p difs below) c = absurd c
height_comes F W (Rank' p difs below) (Wires a) c = absurd c

-- ---- the DIF of a place at a rank

own_rank : (p : _) (difs : List Dif) (below : Tower) (r : ℕ) → (r == height_of below + 1) ≡ true → rank_of (Rank' p difs below) r ≡ Some (Rank' p difs below)
own_rank p difs below r test = rw test refl

low_rank : (p : _) (difs : List Dif) (below : Tower) (r : ℕ) → (r == height_of below + 1) ≡ false → rank_of (Rank' p difs below) r ≡ rank_of below r
low_rank p difs below r test = rw test refl

-- by the tower up to its rank
abbrev dif_by : ℕ → Option Tower → Option Dif
dif_by n o = option_and_then (λ (u : Tower). dif_of u n) o

pub own_dif : (p : _) (difs : List Dif) (below : Tower) (r n : ℕ) → (r == height_of below + 1) ≡ true → dif_at (Rank' p difs below) r n ≡ slice_get difs n
own_dif p difs below r n test = ap (dif_by n) (own_rank p difs below r test)

pub low_dif : (p : _) (difs : List Dif) (below : Tower) (r n : ℕ) → (r == height_of below + 1) ≡ false → dif_at (Rank' p difs below) r n ≡ dif_at below r n
low_dif p difs below r n test = ap (dif_by n) (low_rank p difs below r test)

wires_rank : (a : Air) (r : ℕ) → (rank_of (Wires a) r ≡ None) ⊎ (rank_of (Wires a) r ≡ Some (Wires a))
wires_rank a r = elim (eqb_tells r 0) [
  | inl t ↦ inr (rw t.0 refl)
  | inr f ↦ inl (rw f.0 refl)
]

pub no_dif : (a : Air) (r n : ℕ) (d : Dif) → dif_at (Wires a) r n ≡ Some d → ⊥
no_dif a r n d h = elim (wires_rank a r) [
  | inl o ↦ (let no : None ≡ Some d = sym (ap (dif_by n) o) ∙ h in cc)
  | inr o ↦ (let no : None ≡ Some d = sym (ap (dif_by n) o) ∙ h in cc)
]

-- whatever holds there held before, or came to hold
pub came_at : (F : Fact) (W : Reason) (t t' : Tower) (r n : ℕ) → Comes F W t t' → HoldsAt F r n t' → HoldsAt F r n t ⊎ CameAt W r n t
came_at F W (Wires a) (Wires a') r n c h = absurd (no_dif a' r n h.dif h.is_dif)
came_at F W (Rank' p difs below) (Rank' p' difs' below') r n c h =
    let high : height_of below' ≡ height_of below = height_comes F W below below' c.1 in
    elim (eqb_tells r (height_of below + 1)) [
      | inl e ↦
          let test : (r == height_of below' + 1) ≡ true = subst (λ (m : ℕ). (r == m + 1) ≡ true) (sym high) e.0 in
          let x = c.0 n h.dif (sym (own_dif p' difs' below' r n test) ∙ h.is_dif) in
          elim (x.2 h.holds) [
            | inl f ↦ inl (record { dif = x.0; is_dif = own_dif p difs below r n e.0 ∙ x.1; holds = f })
            | inr w ↦ inr (record { rank = Rank' p difs below; is_rank = own_rank p difs below r e.0; below = below; is_below = refl; dif = x.0; is_dif = x.1; why = subst (λ (m : ℕ). W m n x.0 below) (sym e.1) w })
          ]
      | inr f ↦
          let test : (r == height_of below' + 1) ≡ false = subst (λ (m : ℕ). (r == m + 1) ≡ false) (sym high) f.0 in
          elim (came_at F W below below' r n c.1 (record { dif = h.dif; is_dif = sym (low_dif p' difs' below' r n test) ∙ h.is_dif; holds = h.holds })) [
            | inl o ↦ inl (record { dif = o.dif; is_dif = low_dif p difs below r n f.0 ∙ o.is_dif; holds = o.holds })
            | inr w ↦ inr (record { rank = w.rank; is_rank = low_rank p difs below r f.0 ∙ w.is_rank; below = w.below; is_below = w.is_below; dif = w.dif; is_dif = w.is_dif; why = w.why })
          ]
    ]
came_at F W (Wires a) (Rank' p difs below) r n c h = absurd c
came_at F W (Rank' p difs below) (Wires a) r n c h = absurd c

-- where it never comes to hold, it held before
pub never_at : (F : Fact) (t t' : Tower) (r n : ℕ) → Comes F Never t t' → HoldsAt F r n t' → HoldsAt F r n t
never_at F t t' r n c h = elim (came_at F Never t t' r n c h) [ inl o ↦ o | inr never ↦ absurd never.why ]

-- ---- at a rank

-- a rank on a tower that does not change itself
pub above : (F : Fact) (W : Reason) (p p' : _) (difs difs' : List Dif) (below below' : Tower) → difs' ≡ difs → Comes F W below below' → Comes F W (Rank' p difs below) (Rank' p' difs' below')
above F W p p' difs difs' below below' same c = (subst (RankComes F W difs below) (sym same) (rank_same F W difs below), c)

pub at_rank : (F : Fact) (W : Reason) (r : ℕ) (does : Tower → Tower → Type 0) (none : Type 0) (t t' : Tower) → IsTower t → ((u u' : Tower) → height_of u ≡ r → IsTower u → does u u' → Comes F W u u') → AtRank r does none t t' → Comes F W t t'
at_rank F W r does none (Wires a) (Wires a') v next d = tt
at_rank F W r does none (Rank' p difs below) (Rank' p' difs' below') v next (inl d) = next (Rank' p difs below) (Rank' p' difs' below') (sym d.0) v d.1
at_rank F W r does none (Rank' p difs below) (Rank' p' difs' below') v next (inr d) = above F W p p' difs difs' below below' d.1 (at_rank F W r does none below below' v.1 next d.2)
at_rank F W r does none (Wires a) (Rank' p difs below) v next d = absurd d
at_rank F W r does none (Rank' p difs below) (Wires a) v next d = absurd d

-- at the wires nothing is done to a DIF
pub at_wires : (F : Fact) (does : Air → Air → Type 0) (t t' : Tower) → AtWires does t t' → Comes F Never t t'
at_wires F does (Wires a) (Wires a') d = tt
at_wires F does (Rank' p difs below) (Rank' p' difs' below') d = above F Never p p' difs difs' below below' d.0 (at_wires F does below below' d.1)
at_wires F does (Wires a) (Rank' p difs below) d = absurd d
at_wires F does (Rank' p difs below) (Wires a) d = absurd d
