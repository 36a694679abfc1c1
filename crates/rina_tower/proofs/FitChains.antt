-- Binds one after the other, in parts.
use Rattle.std.proofs.Common.{◌≡◌, ◌∙◌, List, [], ◌∷◌, ◌++◌, slice_get, Some, inl, inr, refl, sym, ap, subst}
use Rattle.rina_base.specs.declared.number.Port.{Port}
use Rattle.rina_iface.proofs.Changed.{set_at}
use Rattle.rina_iface.specs.declared.ask.Fixed.{Fixed}
use Rattle.rina_iface.specs.Bind.{IsBound, bound}
use Rattle.rina_iface.specs.Seen.{Fac, Seen, with_fac}
use Rattle.rina_dif.specs.Laying.{BindsAll, CanBindAll}
use Rattle.rina_tower.specs.Rooms.{OffersStay}

pub rest_can : (s : Seen) (xs ys : List Fixed) (ps : List (Port × Port)) (s' : Seen) → CanBindAll s (xs ++ ys) → BindsAll s xs ps s' → CanBindAll s' ys
rest_can s [] ys [] s' can b = subst (λ (t : Seen). CanBindAll t ys) (sym b) can
rest_can s [] ys (p ∷ ps) s' can b = absurd b
rest_can s (x ∷ xs) ys [] s' can b = absurd b
rest_can s (x ∷ xs) ys (p ∷ ps) s' can b = rest_can b.0 xs ys ps s' (can.1 p.0 p.1 b.0 b.1) b.2

pub front_can : (s : Seen) (xs ys : List Fixed) → CanBindAll s (xs ++ ys) → CanBindAll s xs
front_can s [] ys can = tt
front_can s (x ∷ xs) ys can = (can.0, λ a b s' h. front_can s' xs ys (can.1 a b s' h))

pub stay_refl : (s : Seen) → OffersStay s s
stay_refl s n f' h = (f', h, refl)

pub stay_trans : (s t u : Seen) → OffersStay s t → OffersStay t u → OffersStay s u
stay_trans s t u p q n f' h = let b = q n f' h in let a = p n b.0 b.1 in (a.0, a.1, b.2 ∙ a.2)

stay_bound : (s : Seen) (x : Fixed) (p q : Port) (s' : Seen) → IsBound s x p q s' → OffersStay s s'
stay_bound s x p q s' b n f' h =
    let h' : slice_get (with_fac s x.fac (bound b.facility x b.flow)).facs n ≡ Some f' = subst (λ (t : Seen). slice_get t.facs n ≡ Some f') b.new_is h in
    elim (set_at s.facs x.fac n b.facility (bound b.facility x b.flow) f' b.stands h') [
      | inl t ↦ (b.facility, ap (slice_get s.facs) t.0 ∙ b.stands, ap (λ (g : Fac). g.cubes) t.1)
      | inr u ↦ (f', u.1, refl)
    ]

pub stay_all : (s : Seen) (xs : List Fixed) (ps : List (Port × Port)) (s' : Seen) → BindsAll s xs ps s' → OffersStay s s'
stay_all s [] [] s' b = subst (OffersStay s) (sym b) (stay_refl s)
stay_all s [] (p ∷ ps) s' b = absurd b
stay_all s (x ∷ xs) [] s' b = absurd b
stay_all s (x ∷ xs) (p ∷ ps) s' b = stay_trans s b.0 s' (stay_bound s x p.0 p.1 b.0 b.1) (stay_all b.0 xs ps s' b.2)
