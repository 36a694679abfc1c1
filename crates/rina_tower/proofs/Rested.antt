-- A tower that rests, at later ticks.
use Rattle.std.proofs.Common.{◌≡◌, ◌∙◌, ℕ, suc, ◌+◌, ◌-◌, ◌<◌, ◌≤◌, List, [], ◌∷◌, get_or, length, map, slice_get, Some, Ok, refl, sym, ap, subst, arith, inl, inr}
use Rattle.std.proofs.lemmas.Bool.{cases_lt}
use Rattle.std.proofs.lemmas.List.{length-map}
use Rattle.std.proofs.lemmas.Option.{same_Some, slice_get_within}
use Rattle.rina_iface.specs.Claim.{AreClaimed}
use Rattle.rina_iface.specs.Seen.{Fac, Seen}
use Rattle.rina_iface.proofs.Later.{fac_refl}
use Rattle.rina_dif_law.specs.Lifting.{ticked}
use Rattle.rina_dif_law.proofs.Own.{map_at}
use Rattle.rina_dif.specs.declared.dif.Dif.{Dif}
use Rattle.rina_dif.specs.Holding.{Holds}
use Rattle.rina_dif.specs.Resting.{RestsUntil as DifRests}
use Rattle.rina_dif.proofs.Moves.{holds_later}
use Rattle.rina_dif.proofs.Rested.{rests_later}
use Rattle.rina_wire.specs.Air.{Air}
use Rattle.rina_wire.specs.Resting.{RestsUntil as WiresRest, at_tick as wires_at}
use Rattle.rina_wire.specs.Tick.{TicksOn}
use Rattle.rina_wire.proofs.Rested.{rested_sound, rests_sooner as air_sooner, tick_rests}
use Rattle.rina_tower.specs.declared.tower.Tower.{Tower, Rank', Wires}
use Rattle.rina_tower.specs.Bystanders.{Anyone, Leaves, LeavesEnds}
use Rattle.rina_tower.specs.ClockTick.{AreClocked, Ticks}
use Rattle.rina_tower.specs.Ranks.{fac_of_dif, height_of, now_of, seen_now, seen_of, seen_of_difs}
use Rattle.rina_tower.specs.Resting.{AreDifsClaimed, AreResting, IsAtTick, RestsUntil, WiresRestUntil, dif_at}
use Rattle.rina_tower.specs.Stands.{AreStanding, At, IsRank, IsTower}
use Rattle.rina_tower.proofs.Alone.{ends_alone}
use Rattle.rina_tower.proofs.Timing.{at_index, is_clocked, rank_ticked}

-- What is seen at another tick

pub now_at : (now : ℕ) (t t' : Tower) → IsAtTick now t t' → now_of t' ≡ now
now_at now (Wires a) (Wires a') at = ap (λ (b : Air). b.now) at
now_at now (Rank' p difs below) (Rank' p' difs' below') at = now_at now below below' at.1
now_at now (Wires a) (Rank' p' difs' below') at = absurd at
now_at now (Rank' p difs below) (Wires a') at = absurd at

pub height_at : (now : ℕ) (t t' : Tower) → IsAtTick now t t' → height_of t' ≡ height_of t
height_at now (Wires a) (Wires a') at = refl
height_at now (Rank' p difs below) (Rank' p' difs' below') at = ap (λ n. n + 1) (height_at now below below' at.1)
height_at now (Wires a) (Rank' p' difs' below') at = absurd at
height_at now (Rank' p difs below) (Wires a') at = absurd at

same_facs : (now : ℕ) (difs : List Dif) → map fac_of_dif (map (dif_at now) difs) ≡ map fac_of_dif difs
same_facs now [] = refl
same_facs now (d ∷ ds) = ap (λ (fs : List Fac). fac_of_dif d ∷ fs) (same_facs now ds)

pub facs_at : (now : ℕ) (t t' : Tower) → IsAtTick now t t' → (seen_of t').facs ≡ (seen_of t).facs
facs_at now (Wires a) (Wires a') at = ap (λ (b : Air). (seen_of (Wires b)).facs) at
facs_at now (Rank' p difs below) (Rank' p' difs' below') at = ap (λ (ds : List Dif). map fac_of_dif ds) at.0 ∙ same_facs now difs
facs_at now (Wires a) (Rank' p' difs' below') at = absurd at
facs_at now (Rank' p difs below) (Wires a') at = absurd at

-- and that is all
pub seen_at : (now : ℕ) (t t' : Tower) → IsAtTick now t t' → seen_of t' ≡ record (seen_of t) { now = now }
seen_at now t t' at = ap (λ (n : ℕ). record (seen_of t') { now = n }) (seen_now t' ∙ now_at now t t' at) ∙ ap (λ (fs : List Fac). record (seen_of t') { now = now; facs = fs }) (facs_at now t t' at)

-- nobody sends or passes anything as time goes by
alone_later : (s s' : Seen) → s'.facs ≡ s.facs → s.now ≤ s'.now → Leaves Anyone s s'
alone_later s s' same le = record {
  later = record { clock = le; number = ap length same; facs = λ n f at. (f, ap (λ (fs : List Fac). slice_get fs n) same ∙ at, fac_refl s.now s'.now f) };
  ends = λ n f f' x y.
      let is : f' ≡ f = same_Some f' f (sym y ∙ ap (λ (fs : List Fac). slice_get fs n) same ∙ x) in
      subst (λ (g : Fac). LeavesEnds Anyone f.ends g.ends) (sym is) (ends_alone Anyone f.ends);
}

-- The clocks of a rank

module _ (now : ℕ) (difs : List Dif) where
  clocks_at : (difs' : List Dif) → difs' ≡ map (dif_at now) difs → ((n : ℕ) (d : Dif) → At difs n d → d.clock ≤ now) → AreClocked now difs difs'
  clocks_at difs' is before = record {
    number = ap length is ∙ length-map difs (dif_at now);
    each = λ n d d' x y.
        let m = map_at (dif_at now) difs n d' (ap (λ (ds : List Dif). slice_get ds n) (sym is) ∙ y) in
        let same : m.0 ≡ d = same_Some m.0 d (sym m.1 ∙ x) in
        let whole : d' ≡ record d { clock = now } = m.2 ∙ ap (dif_at now) same in
        is_clocked d d' now whole (λ lines below below' kept up clock h. subst (λ (e : Dif). Holds e (map (ticked (now - d.clock)) lines) below') (sym whole) (holds_later d now lines below below' (before n d x) kept up clock h));
  }

-- no clock is ahead of that of the rank below
clocks_past : (p : _) (difs : List Dif) (below : Tower) (now : ℕ) → IsTower (Rank' p difs below) → now_of below ≤ now → (n : ℕ) (d : Dif) → At difs n d → d.clock ≤ now
clocks_past p difs below now v le n d at =
    let clock = (v.0.standing.stand n d at).1.standing.clock in
    let is = seen_now below in
    omega (arith, clock, is, le)

clocked_is : (now : ℕ) (difs difs' : List Dif) → AreClocked now difs difs' → difs' ≡ map (dif_at now) difs
clocked_is now [] [] c = refl
clocked_is now [] (d' ∷ ds') c = absurd (let number = c.number in cc)
clocked_is now (d ∷ ds) [] c = absurd (let number = c.number in cc)
clocked_is now (d ∷ ds) (d' ∷ ds') c =
    let more : AreClocked now ds ds' = record { number = (let number = c.number in omega (arith, number)); each = λ n x x' a b. c.each (suc n) x x' a b } in
    ap (λ (e : Dif). e ∷ ds') (c.each 0 d d' refl refl).rest ∙ ap (λ (es : List Dif). dif_at now d ∷ es) (clocked_is now ds ds' more)

-- The tower stands at that tick

pub tower_at : (now : ℕ) (t t' : Tower) → IsTower t → now_of t ≤ now → now ≤ 10000000 → WiresRestUntil (now + 1) t → IsAtTick now t t' → IsTower t'
tower_at now (Wires a) (Wires a') v later le rest at = rested_sound now a a' v later le rest at
tower_at now (Rank' p difs below) (Rank' p' difs' below') v later le rest at =
    let under = tower_at now below below' v.1 later le rest at.1 in
    let is = now_at now below below' at.1 in
    let clocked = subst (λ n. AreClocked n difs difs') (sym is) (clocks_at now difs difs' at.0 (clocks_past p difs below now v later)) in
    let a = seen_now below in
    let b = seen_now below' in
    (rank_ticked difs difs' below below' v.0 v.1 under (height_at now below below' at.1) (alone_later (seen_of below) (seen_of below') (facs_at now below below' at.1) (omega (arith, a, b, is, later))) clocked, under)
tower_at now (Wires a) (Rank' p' difs' below') v later le rest at = absurd at
tower_at now (Rank' p difs below) (Wires a') v later le rest at = absurd at

-- a rank whose clocks were set over a tower that is at that tick
pub rank_at : (now : ℕ) (difs difs' : List Dif) (below below' : Tower) → IsRank difs below × IsTower below → now_of below ≤ now → AreClocked now difs difs' → IsTower below' → IsAtTick now below below' → (IsRank difs' below' × IsTower below') × ((difs' ≡ map (dif_at now) difs) × IsAtTick now below below')
rank_at now difs difs' below below' v later clocked under at =
    let is = now_at now below below' at in
    let there = subst (λ n. AreClocked n difs difs') (sym is) clocked in
    let a = seen_now below in
    let b = seen_now below' in
    ((rank_ticked difs difs' below below' v.0 v.1 under (height_at now below below' at) (alone_later (seen_of below) (seen_of below') (facs_at now below below' at) (omega (arith, a, b, is, later))) there, under), (clocked_is now difs difs' clocked, at))

-- One tick

pub ticks_at : (t t' : Tower) → IsTower t → now_of t < 10000000 → WiresRestUntil (now_of t + 2) t → IsAtTick (now_of t + 1) t t' → Ticks (Ok tt) t t'
ticks_at (Wires a) (Wires a') v lt rest at = subst (λ (b : Air). TicksOn a (Ok tt) b) (sym at) (tick_rests a lt rest)
ticks_at (Rank' p difs below) (Rank' p' difs' below') v lt rest at =
    let is = now_at (now_of below + 1) below below' at.1 in
    (subst (λ n. AreClocked n difs difs') (sym is) (clocks_at (now_of below + 1) difs difs' at.0 (clocks_past p difs below (now_of below + 1) v (omega arith))), ticks_at below below' v.1 lt rest at.1)
ticks_at (Wires a) (Rank' p' difs' below') v lt rest at = absurd at
ticks_at (Rank' p difs below) (Wires a') v lt rest at = absurd at

-- It rests on

pub wires_of : (until : ℕ) (t : Tower) → RestsUntil until t → WiresRestUntil until t
wires_of until (Wires a) rest = rest
wires_of until (Rank' p difs below) rest = wires_of until below rest.2

pub wires_sooner : (until until' : ℕ) (t : Tower) → until' ≤ until → WiresRestUntil until t → WiresRestUntil until' t
wires_sooner until until' (Wires a) le rest = air_sooner until until' a le rest
wires_sooner until until' (Rank' p difs below) le rest = wires_sooner until until' below le rest

pub wires_on : (until now : ℕ) (t t' : Tower) → IsAtTick now t t' → WiresRestUntil until t → WiresRestUntil until t'
wires_on until now (Wires a) (Wires a') at rest = subst (λ (b : Air). WiresRest until b) (sym at) (record { alive = rest.alive; quiet = rest.quiet })
wires_on until now (Rank' p difs below) (Rank' p' difs' below') at rest = wires_on until now below below' at.1 rest
wires_on until now (Wires a) (Rank' p' difs' below') at rest = absurd at
wires_on until now (Rank' p difs below) (Wires a') at rest = absurd at

difs_on : (until now : ℕ) (difs difs' : List Dif) (below below' : Seen) → difs' ≡ map (dif_at now) difs → below' ≡ record below { now = now } → AreResting until difs below → AreResting until difs' below'
difs_on until now difs difs' below below' is seen rest = λ n d' at.
    let m = map_at (dif_at now) difs n d' (ap (λ (ds : List Dif). slice_get ds n) (sym is) ∙ at) in
    subst (λ (s : Seen). DifRests until d' s) (sym seen) (subst (λ (d : Dif). DifRests until d (record below { now = now })) (sym m.2) (rests_later until now now m.0 below (rest n m.0 m.1)))

pub rests_on : (until now : ℕ) (t t' : Tower) → IsAtTick now t t' → RestsUntil until t → RestsUntil until t'
rests_on until now (Wires a) (Wires a') at rest = subst (λ (b : Air). WiresRest until b) (sym at) (record { alive = rest.alive; quiet = rest.quiet })
rests_on until now (Rank' p difs below) (Rank' p' difs' below') at rest = (
  difs_on until now difs difs' (seen_of below) (seen_of below') at.0 (seen_at now below below' at.1) rest.0,
  (λ n f is. rest.1 n f (ap (λ (fs : List Fac). slice_get fs n) (sym (facs_at now below below' at.1)) ∙ is)),
  rests_on until now below below' at.1 rest.2,
)
rests_on until now (Wires a) (Rank' p' difs' below') at rest = absurd at
rests_on until now (Rank' p difs below) (Wires a') at rest = absurd at

-- Ticks in between

-- the tower with every clock at a tick
abbrev pub tower_with : ℕ → Tower → Tower
tower_with now (Wires a) = Wires (wires_at now a)
tower_with now (Rank' p difs below) = Rank' p (map (dif_at now) difs) (tower_with now below)

pub is_with : (now : ℕ) (t : Tower) → IsAtTick now t (tower_with now t)
is_with now (Wires a) = refl
is_with now (Rank' p difs below) = (refl, is_with now below)

twice : (n m : ℕ) (difs : List Dif) → map (dif_at m) (map (dif_at n) difs) ≡ map (dif_at m) difs
twice n m [] = refl
twice n m (d ∷ ds) = ap (λ (es : List Dif). dif_at m d ∷ es) (twice n m ds)

-- what was set before does not matter
pub at_again : (n m : ℕ) (t u v : Tower) → IsAtTick n t u → IsAtTick m t v → IsAtTick m u v
at_again n m (Wires a) (Wires b) (Wires c) x y = y ∙ ap (λ (z : Air). wires_at m z) (sym x)
at_again n m (Rank' p difs below) (Rank' p' difs' below') (Rank' p'' difs'' below'') x y = (y.0 ∙ sym (ap (λ (ds : List Dif). map (dif_at m) ds) x.0 ∙ twice n m difs), at_again n m below below' below'' x.1 y.1)
at_again n m (Wires a) (Wires b) (Rank' p difs below) x y = absurd y
at_again n m (Wires a) (Rank' p difs below) v x y = absurd x
at_again n m (Rank' p difs below) (Wires b) v x y = absurd x
at_again n m (Rank' p difs below) (Rank' p' difs' below') (Wires c) x y = absurd y

dif_sooner : (until until' : ℕ) (d : Dif) (below : Seen) → until' ≤ until → DifRests until d below → DifRests until' d below
dif_sooner until until' d below le r = record { alive = r.alive; processes = r.processes; messages = r.messages; flows = λ now lt. r.flows now (omega (arith, le, lt)); links = λ now lt. r.links now (omega (arith, le, lt)); asks = λ now node lt. r.asks now node (omega (arith, le, lt)) }

pub rests_sooner : (until until' : ℕ) (t : Tower) → until' ≤ until → RestsUntil until t → RestsUntil until' t
rests_sooner until until' (Wires a) le rest = air_sooner until until' a le rest
rests_sooner until until' (Rank' p difs below) le rest = (λ n d at. dif_sooner until until' d (seen_of below) le (rest.0 n d at), rest.1, rests_sooner until until' below le rest.2)

-- The DIFs of a rank, one after the other

pub difs_sooner : (until until' : ℕ) (difs : List Dif) (below : Seen) → until' ≤ until → AreResting until difs below → AreResting until' difs below
difs_sooner until until' difs below le rest = λ n d at. dif_sooner until until' d below le (rest n d at)

-- of the first of them, where the tick is after the clock
abbrev pub RestSoFar : ℕ → List Dif → Seen → ℕ → Type 0
RestSoFar until difs below count = (n : ℕ) (d : Dif) → n < count → At difs n d → below.now < until → DifRests until d below

pub next_rests : (difs : List Dif) (count until quiet until' : ℕ) (here : Dif) (below : Seen) → AreStanding difs below → count < length difs → here ≡ get_or difs count here → until' ≤ until → until' ≤ quiet → (here.clock < quiet → DifRests quiet here below) → RestSoFar until difs below count → RestSoFar until' difs below (count + 1)
next_rests difs count until quiet until' here below stand within is le le' rests before n d lt at after = elim (cases_lt n count) [
  | inl l ↦ dif_sooner until until' d below le (before n d l at (omega (arith, le, after)))
  | inr ge ↦
      let e : n ≡ count = omega (arith, lt, ge) in
      let there : At difs count here = at_index difs count here here within is in
      let same : here ≡ d = same_Some here d (sym there ∙ subst (λ k. slice_get difs k ≡ Some d) e at) in
      let clock = (stand.stand count here there).1.standing.clock in
      subst (λ (x : Dif). DifRests until' x below) same (dif_sooner quiet until' here below le' (rests (omega (arith, clock, le', after))))
]

pub all_rest : (difs : List Dif) (count until : ℕ) (below : Seen) → length difs ≤ count → RestSoFar until difs below count → below.now < until → AreResting until difs below
all_rest difs count until below le before after = λ n d at. (let within = slice_get_within difs n d at in before n d (omega (arith, within, le)) at after)

-- A rank over a tower that rests

pub rank_rests : (difs : List Dif) (below : Tower) (until quiet least : ℕ) → least ≤ until → least ≤ quiet → (now_of below < until → RestsUntil until below) → ((seen_of below).now < quiet → AreResting quiet difs (seen_of below)) → AreClaimed (seen_of below) → now_of below < least → AreResting least difs (seen_of below) × AreClaimed (seen_of below) × RestsUntil least below
rank_rests difs below until quiet least le le' rest own none after =
    let now = seen_now below in
    (difs_sooner quiet least difs (seen_of below) le' (own (omega (arith, le', after, now))), none, rests_sooner until least below le (rest (omega (arith, le, after))))

-- Nothing waits to be claimed

pub difs_claimed : (now : ℕ) (difs : List Dif) → AreDifsClaimed difs → AreClaimed (seen_of_difs now difs)
difs_claimed now difs none n f is = (let d = map_at fac_of_dif difs n f is in ap (λ (g : Fac). g.waiting) d.2 ∙ none n d.0 d.1)
