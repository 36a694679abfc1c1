-- In a tower that was just built no end sent or got anything, and no far end waits.
use Rattle.std.proofs.Common.{◌≡◌, ◌∙◌, ◌==◌, ◌+◌, ℕ, zero, suc, List, [], ◌∷◌, ◌++◌, map, slice_get, Some, None, refl, sym, ap, subst, inl, inr}
use Rattle.std.proofs.lemmas.Option.{same_Some}
use Rattle.rina_base.specs.declared.number.Port.{Port}
use Rattle.rina_iface.specs.declared.ask.Fixed.{Fixed}
use Rattle.rina_iface.specs.declared.ends.End.{End}
use Rattle.rina_iface.specs.Bind.{IsBound, bound}
use Rattle.rina_iface.specs.Seen.{Fac, Seen}
use Rattle.rina_iface.proofs.Changed.{set_at}
use Rattle.rina_dif_law.proofs.Own.{map_at}
use Rattle.rina_stack.specs.declared.plan.Plan.{Plan}
use Rattle.rina_dif.specs.declared.dif.Dif.{Dif}
use Rattle.rina_dif.specs.Laying.{BindsAll}
use Rattle.rina_wire.specs.Air.{fac_of, seen_of as seen_of_wires}
use Rattle.rina_wire.specs.Plan.{air_of, line_of}
use Rattle.rina_tower.specs.declared.tower.Tower.{Tower, Wires, Rank'}
use Rattle.rina_tower.specs.Built.{AreMade, IsBuilt, IsBuiltFrom}
use Rattle.rina_tower.specs.Ranks.{fac_of_dif, height_of, rank_of}
use Rattle.rina_laws.proofs.LabelGrown.{two_at}
use Rattle.rina_laws.proofs.LabelRanks.{by_test, facs_of}

-- the facility's ends sent and got nothing, and none waits
pub record IsBlankFac (f : Fac) : Type 0 where
  pub ends : (i : ℕ) (e : End) → slice_get f.ends i ≡ Some e → (e.sent ≡ []) × (e.got ≡ [])
  pub waiting : f.waiting ≡ []

pub record IsBlank (fs : List Fac) : Type 0 where
  pub of : (n : ℕ) (f : Fac) → slice_get fs n ≡ Some f → IsBlankFac f

no_ends : (f : Fac) → f.ends ≡ [] → f.waiting ≡ [] → IsBlankFac f
no_ends f ends waiting = record {
  ends = λ i e h. (let none : slice_get [] i ≡ Some e = subst (λ (es : List End). slice_get es i ≡ Some e) ends h in cc);
  waiting = waiting;
}

-- ---- binds

two_ends : (xs : List End) (a b : End) → ((i : ℕ) (e : End) → slice_get xs i ≡ Some e → (e.sent ≡ []) × (e.got ≡ [])) → (a.sent ≡ []) × (a.got ≡ []) → (b.sent ≡ []) × (b.got ≡ []) → (i : ℕ) (e : End) → slice_get (xs ++ a ∷ b ∷ []) i ≡ Some e → (e.sent ≡ []) × (e.got ≡ [])
two_ends xs a b old first second i e h = elim (two_at xs a b i e h) [
  | inl o ↦ old i e o
  | inr o ↦ elim o [ inl p ↦ subst (λ (z : End). (z.sent ≡ []) × (z.got ≡ [])) (sym p.1) first | inr p ↦ subst (λ (z : End). (z.sent ≡ []) × (z.got ≡ [])) (sym p.1) second ]
]

bound_blank : (s s' : Seen) (x : Fixed) (p q : Port) → IsBound s x p q s' → IsBlank s.facs → IsBlank s'.facs
bound_blank s s' x p q b blank =
    let f = bound b.facility x b.flow in
    let was = blank.of x.fac b.facility b.stands in
    subst (λ (z : Seen). IsBlank z.facs) (sym b.new_is) (record {
      of = λ n g h. elim (set_at s.facs x.fac n b.facility (bound b.facility x b.flow) g b.stands h) [
        | inl t ↦ subst IsBlankFac (sym t.1) (record { ends = two_ends b.facility.ends _ _ was.ends (refl, refl) (refl, refl); waiting = was.waiting })
        | inr o ↦ blank.of n g o.1
      ];
    })

binds_blank : (s : Seen) (xs : List Fixed) (ps : List (Port × Port)) (s' : Seen) → BindsAll s xs ps s' → IsBlank s.facs → IsBlank s'.facs
binds_blank s [] [] s' b blank = subst (λ (z : Seen). IsBlank z.facs) (sym b) blank
binds_blank s [] (p ∷ ps) s' b blank = absurd b
binds_blank s (x ∷ xs) [] s' b blank = absurd b
binds_blank s (x ∷ xs) (p ∷ ps) s' b blank = binds_blank b.0 xs ps s' b.2 (bound_blank s b.0 x p.0 p.1 b.1 blank)

-- ---- before anything was bound

-- a DIF without flows
record IsEmpty (d : Dif) : Type 0 where
  ends : d.flows.journal.ends ≡ []
  waiting : d.waiting.items ≡ []

made_empty : (plan : Plan) (is : List ℕ) (old : Seen) (ds : List Dif) (new : Seen) → AreMade plan is old ds new → (n : ℕ) (d : Dif) → slice_get ds n ≡ Some d → IsEmpty d
made_empty plan [] old [] new m n d h = cc
made_empty plan [] old (x ∷ ds) new m n d h = absurd m
made_empty plan (i ∷ is) old [] new m n d h = absurd m
made_empty plan (i ∷ is) old (x ∷ ds) new m zero d h = subst IsEmpty (same_Some x d h) (record { ends = m.1.ends; waiting = m.1.waiting })
made_empty plan (i ∷ is) old (x ∷ ds) new m (suc n) d h = made_empty plan is m.0 ds new m.2 n d h

difs_blank : (ds : List Dif) → ((n : ℕ) (d : Dif) → slice_get ds n ≡ Some d → IsEmpty d) → IsBlank (map fac_of_dif ds)
difs_blank ds each = record { of = λ n f h. (let m = map_at fac_of_dif ds n f h in let e = each n m.0 m.1 in subst IsBlankFac (sym m.2) (no_ends (fac_of_dif m.0) e.ends e.waiting)) }

wires_blank : (plan : Plan) → IsBlank (map fac_of (air_of plan).wires)
wires_blank plan = record {
  of = λ n f h.
      let m = map_at fac_of (map line_of plan.wires) n f h in
      let w = map_at line_of plan.wires n m.0 m.1 in
      let is : f ≡ fac_of (line_of w.0) = m.2 ∙ ap fac_of w.2 in
      subst IsBlankFac (sym is) (no_ends (fac_of (line_of w.0)) refl refl);
}

-- ---- each rank of a tower that was built

blank_from : (plan : Plan) (t : Tower) (fresh : Seen) (r : ℕ) (u : Tower) → IsBuiltFrom plan t fresh → rank_of t r ≡ Some u → IsBlank (facs_of u)
blank_from plan (Wires a) fresh r u b h =
    let first = subst (λ (z : Seen). IsBlank z.facs) (sym b.0) (wires_blank plan) in
    by_test (λ (z : Tower). IsBlank (facs_of z)) (r == 0) (Wires a) None u h (binds_blank fresh _ b.1.ports (seen_of_wires a) b.1.bound first) (λ never. cc)
blank_from plan (Rank' p difs below) fresh r u b h =
    let first = subst (λ (z : Seen). IsBlank z.facs) (sym b.2.shows) (difs_blank b.2.difs (made_empty plan _ b.0 b.2.difs b.2.below b.2.made)) in
    by_test (λ (z : Tower). IsBlank (facs_of z)) (r == height_of below + 1) (Rank' p difs below) (rank_of below r) u h (binds_blank fresh _ b.3.ports _ b.3.bound first) (λ deep. blank_from plan below b.0 r u b.1 deep)

pub built_blank : (plan : Plan) (t : Tower) (r : ℕ) (u : Tower) → IsBuilt plan t → rank_of t r ≡ Some u → IsBlank (facs_of u)
built_blank plan t r u b h = blank_from plan t b.0 r u b.1 h
