-- What is done to the facilities of all ranks of a tower.
use Rattle.std.proofs.Common.{arith, ◌≡◌, ◌≢◌, ◌∙◌, ℕ, ◌+◌, ◌==◌, Bool, true, false, cond, List, map, Option, Some, None, option_map, refl, sym, ap, subst, inl, inr}
use Rattle.std.proofs.lemmas.Bool.Decides.{eqb_tells}
use Rattle.std.proofs.lemmas.Option.{same_Some}
use Rattle.rina_iface.specs.Seen.{Fac}
use Rattle.rina_dif.specs.declared.dif.Dif.{Dif}
use Rattle.rina_wire.specs.Air.{Air}
use Rattle.rina_wire.proofs.Kept.{is_mapped}
use Rattle.rina_tower.specs.declared.tower.Tower.{Tower, Rank', Wires}
use Rattle.rina_tower.specs.Ranks.{fac_of_dif, height_of, now_of, rank_of, seen_of}
use Rattle.rina_tower.specs.Stands.{IsTower, kept_of}
use Rattle.rina_tower.specs.Levels.{AtRank, AtWires, SameBelow}
use Rattle.rina_laws.proofs.LabelEnds.{HavePorts, ports_kept}

-- the facilities of each rank
abbrev pub Shown : Type 0
Shown = ℕ → Option (List Fac)

abbrev pub facs_of : Tower → List Fac
facs_of t = (seen_of t).facs

abbrev pub shown : Tower → ℕ → Option (List Fac)
shown t r = option_map facs_of (rank_of t r)

-- this is done at a rank, where it is there
abbrev pub Both : (List Fac → List Fac → Type 0) → Option (List Fac) → Option (List Fac) → Type 0
Both P None None = Unit {0}
Both P (Some fs) (Some fs') = P fs fs'
Both P a b = ⊥

-- and so at all ranks
pub record AtAll (P : ℕ → List Fac → List Fac → Type 0) (g g' : Shown) : Type 0 where
  pub rank : (r : ℕ) → Both (P r) (g r) (g' r)

pub both_on : (P : List Fac → List Fac → Type 0) (o o' : Option (List Fac)) (fs : List Fac) → Both P o o' → o ≡ Some fs → (fs' : List Fac) × (o' ≡ Some fs') × P fs fs'
both_on P None None fs b h = cc
both_on P (Some x) (Some y) fs b h = (y, refl, subst (λ (z : List Fac). P z y) (same_Some x fs h) b)
both_on P None (Some y) fs b h = absurd b
both_on P (Some x) None fs b h = absurd b

pub both_from : (P : List Fac → List Fac → Type 0) (o o' : Option (List Fac)) (fs' : List Fac) → Both P o o' → o' ≡ Some fs' → (fs : List Fac) × (o ≡ Some fs) × P fs fs'
both_from P None None fs b h = cc
both_from P (Some x) (Some y) fs b h = (x, refl, subst (λ (z : List Fac). P x z) (same_Some y fs h) b)
both_from P None (Some y) fs b h = absurd b
both_from P (Some x) None fs b h = absurd b

pub both_as : (P Q : List Fac → List Fac → Type 0) (o o' : Option (List Fac)) → ((fs fs' : List Fac) → P fs fs' → Q fs fs') → Both P o o' → Both Q o o'
both_as P Q None None f b = tt
both_as P Q (Some x) (Some y) f b = f x y b
both_as P Q None (Some y) f b = absurd b
both_as P Q (Some x) None f b = absurd b

both_same : (P : List Fac → List Fac → Type 0) (o o' : Option (List Fac)) → o' ≡ o → ((fs fs' : List Fac) → fs' ≡ fs → P fs fs') → Both P o o'
both_same P None None is same = tt
both_same P (Some x) (Some y) is same = same x y (same_Some y x is)
both_same P None (Some y) is same = cc
both_same P (Some x) None is same = cc

-- ---- one rank more

-- at a number that is that of the rank, or not
both_by : (P : List Fac → List Fac → Type 0) (b b' : Bool) (u u' : Tower) (o o' : Option Tower) → b' ≡ b → (b ≡ true → P (facs_of u) (facs_of u')) → (b ≡ false → Both P (option_map facs_of o) (option_map facs_of o'))
    → Both P (option_map facs_of (cond b (Some u) o)) (option_map facs_of (cond b' (Some u') o'))
both_by P true true u u' o o' same here else = here refl
both_by P false false u u' o o' same here else = else refl
both_by P true false u u' o o' same here else = cc
both_by P false true u u' o o' same here else = cc

equal_tells : (m n : ℕ) → m == n ≡ true → m ≡ n
equal_tells m n h = elim (eqb_tells m n) [ inl t ↦ t.1 | inr f ↦ let no : true ≡ false = sym h ∙ f.0 in cc ]

apart_tells : (m n : ℕ) → m == n ≡ false → m ≢ n
apart_tells m n h = elim (eqb_tells m n) [ inl t ↦ let no : true ≡ false = sym t.0 ∙ h in cc | inr f ↦ f.1 ]

-- on ranks that are as high
pub at_rank_more : (P : ℕ → List Fac → List Fac → Type 0) (p p' : _) (difs difs' : List Dif) (below below' : Tower) → height_of below' ≡ height_of below → P (height_of below + 1) (map fac_of_dif difs) (map fac_of_dif difs')
    → ((r : ℕ) → r ≢ height_of below + 1 → Both (P r) (shown below r) (shown below' r)) → AtAll P (shown (Rank' p difs below)) (shown (Rank' p' difs' below'))
at_rank_more P p p' difs difs' below below' level here deep = record {
  rank = λ r. both_by (P r) (r == height_of below + 1) (r == height_of below' + 1) (Rank' p difs below) (Rank' p' difs' below') (rank_of below r) (rank_of below' r) (ap (λ n. r == n + 1) level)
      (λ is. subst (λ k. P k (map fac_of_dif difs) (map fac_of_dif difs')) (sym (equal_tells r (height_of below + 1) is)) here)
      (λ not. deep r (apart_tells r (height_of below + 1) not));
}

-- wires alone
pub at_wires : (P : ℕ → List Fac → List Fac → Type 0) (a a' : Air) → P 0 (facs_of (Wires a)) (facs_of (Wires a')) → AtAll P (shown (Wires a)) (shown (Wires a'))
at_wires P a a' here = record {
  rank = λ r. both_by (P r) (r == 0) (r == 0) (Wires a) (Wires a') None None refl (λ is. subst (λ k. P k (facs_of (Wires a)) (facs_of (Wires a'))) (sym (equal_tells r 0 is)) here) (λ not. tt);
}

-- what is the same but at one rank
abbrev pub IsIdle : (ℕ → List Fac → List Fac → Type 0) → ℕ → Type 0
IsIdle P r = (k : ℕ) → k ≢ r → (fs fs' : List Fac) → fs' ≡ fs → P k fs fs'

-- ---- at one rank of a tower

-- nothing of the ranks below the own one changed
abbrev pub IsAlone : Tower → Tower → Type 0
IsAlone (Wires a) (Wires a') = Unit {0}
IsAlone (Rank' p difs below) (Rank' p' difs' below') = below' ≡ below
IsAlone t t' = ⊥

pub alone_refl : (t : Tower) → IsAlone t t
alone_refl (Wires a) = tt
alone_refl (Rank' p difs below) = refl

pub is_alone : (t t' : Tower) → SameBelow t t' → IsAlone t t'
is_alone (Wires a) (Wires a') h = tt
is_alone (Rank' p difs below) (Rank' p' difs' below') h = h.1
is_alone (Wires a) (Rank' p difs below) h = absurd h
is_alone (Rank' p difs below) (Wires a) h = absurd h

pub level : (t t' : Tower) → IsAlone t t' → height_of t' ≡ height_of t
level (Wires a) (Wires a') h = refl
level (Rank' p difs below) (Rank' p' difs' below') h = ap (λ (u : Tower). height_of u + 1) h
level (Wires a) (Rank' p difs below) h = absurd h
level (Rank' p difs below) (Wires a) h = absurd h

-- only the own rank changes
pub at_top : (P : ℕ → List Fac → List Fac → Type 0) (t t' : Tower) → IsAlone t t' → P (height_of t) (facs_of t) (facs_of t') → IsIdle P (height_of t) → AtAll P (shown t) (shown t')
at_top P (Wires a) (Wires a') same here idle = at_wires P a a' here
at_top P (Rank' p difs below) (Rank' p' difs' below') same here idle = at_rank_more P p p' difs difs' below below' (ap height_of same) here (λ r ne. both_same (P r) (shown below r) (shown below' r) (ap (λ (u : Tower). shown u r) same) (idle r ne))
at_top P (Wires a) (Rank' p difs below) same here idle = absurd same
at_top P (Rank' p difs below) (Wires a) same here idle = absurd same

-- what is done at rank r does so much, as high as it is
pub record DoesAll (P : ℕ → List Fac → List Fac → Type 0) (u u' : Tower) : Type 0 where
  pub level : height_of u' ≡ height_of u
  pub all : AtAll P (shown u) (shown u')

pub own_rank : (t : Tower) → rank_of t (height_of t) ≡ Some t
own_rank (Wires a) = refl
own_rank (Rank' p difs below) = elim (eqb_tells (height_of below + 1) (height_of below + 1)) [ inl t ↦ rw t.0 refl | inr f ↦ absurd (f.1 refl) ]

pub rank_below : (p : _) (difs : List Dif) (below : Tower) (r : ℕ) → r ≢ height_of below + 1 → rank_of (Rank' p difs below) r ≡ rank_of below r
rank_below p difs below r ne = elim (eqb_tells r (height_of below + 1)) [ inl t ↦ absurd (ne t.1) | inr f ↦ rw f.0 refl ]

-- told what stands at that rank
pub at_rank : (P : ℕ → List Fac → List Fac → Type 0) (r : ℕ) (does : Tower → Tower → Type 0) (none : Type 0) (t t' : Tower) (o : Option Tower) → rank_of t r ≡ o
    → ((u u' : Tower) → o ≡ Some u → r ≡ height_of u → does u u' → DoesAll P u u') → IsIdle P r → AtRank r does none t t' → DoesAll P t t'
at_rank P r does none (Wires a) (Wires a') o is own idle d = elim d [
  | inl h ↦ own (Wires a) (Wires a') (sym is ∙ ap (rank_of (Wires a)) h.0) h.0 h.1
  | inr h ↦ record { level = refl; all = at_wires P a a' (idle 0 (λ is. h.0 (sym is)) (facs_of (Wires a)) (facs_of (Wires a')) (ap (λ (x : Air). facs_of (Wires x)) h.2)) }
]
at_rank P r does none (Rank' p difs below) (Rank' p' difs' below') o is own idle d = elim d [
  | inl h ↦ own (Rank' p difs below) (Rank' p' difs' below') (sym is ∙ ap (rank_of (Rank' p difs below)) h.0 ∙ own_rank (Rank' p difs below)) h.0 h.1
  | inr h ↦
      let deep = at_rank P r does none below below' o (sym (rank_below p difs below r h.0) ∙ is) own idle h.2 in
      record {
        level = ap (λ n. n + 1) deep.level;
        all = at_rank_more P p p' difs difs' below below' deep.level (idle (height_of below + 1) (λ is. h.0 (sym is)) (map fac_of_dif difs) (map fac_of_dif difs') (ap (map fac_of_dif) h.1)) (λ k ne. deep.all.rank k);
      }
]
at_rank P r does none (Wires a) (Rank' p difs below) o is own idle d = absurd d
at_rank P r does none (Rank' p difs below) (Wires a) o is own idle d = absurd d

-- where something is done at a rank, it is there
pub has_rank : (r : ℕ) (does : Tower → Tower → Type 0) (none : Type 0) (t t' : Tower) → (none → ⊥) → AtRank r does none t t' → (u : Tower) × (rank_of t r ≡ Some u)
has_rank r does none (Wires a) (Wires a') never d = elim d [ inl h ↦ (Wires a, ap (rank_of (Wires a)) h.0) | inr h ↦ absurd (never h.1) ]
has_rank r does none (Rank' p difs below) (Rank' p' difs' below') never d = elim d [
  | inl h ↦ (Rank' p difs below, ap (rank_of (Rank' p difs below)) h.0 ∙ own_rank (Rank' p difs below))
  | inr h ↦ let deep = has_rank r does none below below' never h.2 in (deep.0, rank_below p difs below r h.0 ∙ deep.1)
]
has_rank r does none (Wires a) (Rank' p difs below) never d = absurd d
has_rank r does none (Rank' p difs below) (Wires a) never d = absurd d

-- the clock stays
pub rank_clock : (r : ℕ) (does : Tower → Tower → Type 0) (none : Type 0) (t t' : Tower) → ((u u' : Tower) → does u u' → now_of u' ≡ now_of u) → AtRank r does none t t' → now_of t' ≡ now_of t
rank_clock r does none (Wires a) (Wires a') own d = elim d [ inl h ↦ own (Wires a) (Wires a') h.1 | inr h ↦ ap (λ (x : Air). x.now) h.2 ]
rank_clock r does none (Rank' p difs below) (Rank' p' difs' below') own d = elim d [ inl h ↦ own (Rank' p difs below) (Rank' p' difs' below') h.1 | inr h ↦ rank_clock r does none below below' own h.2 ]
rank_clock r does none (Wires a) (Rank' p difs below) own d = absurd d
rank_clock r does none (Rank' p difs below) (Wires a) own d = absurd d

-- at the wires
pub at_air : (P : ℕ → List Fac → List Fac → Type 0) (does : Air → Air → Type 0) (t t' : Tower) → ((a a' : Air) → does a a' → P 0 (facs_of (Wires a)) (facs_of (Wires a'))) → IsIdle P 0 → AtWires does t t' → DoesAll P t t'
at_air P does (Wires a) (Wires a') own idle d = record { level = refl; all = at_wires P a a' (own a a' d) }
at_air P does (Rank' p difs below) (Rank' p' difs' below') own idle d =
    let deep = at_air P does below below' own idle d.1 in
    record {
      level = ap (λ n. n + 1) deep.level;
      all = at_rank_more P p p' difs difs' below below' deep.level (idle (height_of below + 1) (λ is. omega (arith, is)) (map fac_of_dif difs) (map fac_of_dif difs') (ap (map fac_of_dif) d.0)) (λ k ne. deep.all.rank k);
    }
at_air P does (Wires a) (Rank' p difs below) own idle d = absurd d
at_air P does (Rank' p difs below) (Wires a) own idle d = absurd d

-- ---- a tower that stands

pub by_test : (Q : Tower → Type 0) (b : Bool) (x : Tower) (o : Option Tower) (u : Tower) → cond b (Some x) o ≡ Some u → Q x → (o ≡ Some u → Q u) → Q u
by_test Q true x o u h v else = subst Q (same_Some x u h) v
by_test Q false x o u h v else = else h

pub rank_kept : (t : Tower) (r : ℕ) (u : Tower) → IsTower t → rank_of t r ≡ Some u → IsTower u
rank_kept (Wires a) r u v h = by_test IsTower (r == 0) (Wires a) None u h v (λ no. cc)
rank_kept (Rank' p difs below) r u v h = by_test IsTower (r == height_of below + 1) (Rank' p difs below) (rank_of below r) u h v (λ deep. rank_kept below r u v.1 deep)

pub rank_now : (t : Tower) (r : ℕ) (u : Tower) → rank_of t r ≡ Some u → now_of u ≡ now_of t
rank_now (Wires a) r u h = by_test (λ (x : Tower). now_of x ≡ a.now) (r == 0) (Wires a) None u h refl (λ no. cc)
rank_now (Rank' p difs below) r u h = by_test (λ (x : Tower). now_of x ≡ now_of below) (r == height_of below + 1) (Rank' p difs below) (rank_of below r) u h refl (λ deep. rank_now below r u deep)

-- the ports of each rank
pub record AllPorts (g : Shown) : Type 0 where
  pub of : (r : ℕ) (fs : List Fac) → g r ≡ Some fs → HavePorts fs

pub ports_of : (t : Tower) → IsTower t → AllPorts (shown t)
ports_of t v = record { of = λ r fs h. (let w = is_mapped facs_of (rank_of t r) fs h in subst HavePorts w.2 (ports_kept (seen_of w.0) (kept_of w.0 (rank_kept t r w.0 v w.1)))) }
