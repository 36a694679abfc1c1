-- Where a run begins, no end of a wire has failed.
use Rattle.std.proofs.Common.{◌≡◌, ◌∙◌, ℕ, List, [], ◌∷◌, ◌++◌, map, slice_get, Some, refl, sym, ap, subst, inl, inr}
use Rattle.rina_base.specs.declared.number.Port.{Port}
use Rattle.rina_iface.specs.declared.ask.Fixed.{Fixed}
use Rattle.rina_iface.specs.declared.ends.End.{End}
use Rattle.rina_iface.specs.declared.state.PortState.TheVariants.{Allocated}
use Rattle.rina_iface.specs.Bind.{IsBound, bound}
use Rattle.rina_iface.specs.Seen.{Fac, Seen}
use Rattle.rina_iface.proofs.Changed.{set_at}
use Rattle.rina_dif_law.proofs.Own.{map_at}
use Rattle.rina_stack.specs.declared.plan.Plan.{Plan}
use Rattle.rina_dif.specs.Laying.{BindsAll}
use Rattle.rina_wire.specs.Air.{fac_of, seen_of as seen_of_wires}
use Rattle.rina_wire.specs.Plan.{air_of, line_of}
use Rattle.rina_tower.specs.declared.tower.Tower.{Tower, Wires, Rank'}
use Rattle.rina_tower.specs.Built.{IsBuilt, IsBuiltFrom}
use Rattle.rina_laws.specs.Frames.{wires_of}
use Rattle.rina_laws.proofs.LabelGrown.{two_at}

-- all ends of the facilities are allocated
abbrev pub AreOpen : List Fac → Type 0
AreOpen fs = (n : ℕ) (f : Fac) (i : ℕ) (e : End) → slice_get fs n ≡ Some f → slice_get f.ends i ≡ Some e → e.state ≡ Allocated

two_open : (xs : List End) (a b : End) → ((i : ℕ) (e : End) → slice_get xs i ≡ Some e → e.state ≡ Allocated) → a.state ≡ Allocated → b.state ≡ Allocated → (i : ℕ) (e : End) → slice_get (xs ++ a ∷ b ∷ []) i ≡ Some e → e.state ≡ Allocated
two_open xs a b old first second i e h = elim (two_at xs a b i e h) [
  | inl o ↦ old i e o
  | inr o ↦ elim o [ inl p ↦ ap (λ (z : End). z.state) p.1 ∙ first | inr p ↦ ap (λ (z : End). z.state) p.1 ∙ second ]
]

bound_open : (s s' : Seen) (x : Fixed) (p q : Port) → IsBound s x p q s' → AreOpen s.facs → AreOpen s'.facs
bound_open s s' x p q b opened = subst (λ (z : Seen). AreOpen z.facs) (sym b.new_is) (λ n g i e h at. elim (set_at s.facs x.fac n b.facility (bound b.facility x b.flow) g b.stands h) [
  | inl t ↦ two_open b.facility.ends _ _ (λ j d there. opened x.fac b.facility j d b.stands there) refl refl i e (subst (λ (f : Fac). slice_get f.ends i ≡ Some e) t.1 at)
  | inr o ↦ opened n g i e o.1 at
])

binds_open : (s : Seen) (xs : List Fixed) (ps : List (Port × Port)) (s' : Seen) → BindsAll s xs ps s' → AreOpen s.facs → AreOpen s'.facs
binds_open s [] [] s' b opened = subst (λ (z : Seen). AreOpen z.facs) (sym b) opened
binds_open s [] (p ∷ ps) s' b opened = absurd b
binds_open s (x ∷ xs) [] s' b opened = absurd b
binds_open s (x ∷ xs) (p ∷ ps) s' b opened = binds_open b.0 xs ps s' b.2 (bound_open s b.0 x p.0 p.1 b.1 opened)

-- wires without a flow
wires_open : (plan : Plan) → AreOpen (map fac_of (air_of plan).wires)
wires_open plan n f i e h at =
    let m = map_at fac_of (map line_of plan.wires) n f h in
    let w = map_at line_of plan.wires n m.0 m.1 in
    let is : f ≡ fac_of (line_of w.0) = m.2 ∙ ap fac_of w.2 in
    let none : slice_get [] i ≡ Some e = subst (λ (g : Fac). slice_get g.ends i ≡ Some e) is at in
    cc

open_from : (plan : Plan) (t : Tower) (fresh : Seen) → IsBuiltFrom plan t fresh → AreOpen (map fac_of (wires_of t).wires)
open_from plan (Wires a) fresh b = binds_open fresh _ b.1.ports (seen_of_wires a) b.1.bound (subst (λ (z : Seen). AreOpen z.facs) (sym b.0) (wires_open plan))
open_from plan (Rank' p difs below) fresh b = open_from plan below b.0 b.1

pub built_open : (plan : Plan) (t : Tower) → IsBuilt plan t → AreOpen (map fac_of (wires_of t).wires)
built_open plan t b = open_from plan t b.0 b.1
