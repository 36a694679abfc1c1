-- A port that is drawn was no end's port before.
use Rattle.std.proofs.Common.{◌≡◌, ◌≢◌, ℕ, ◌+◌, ◌≤◌, ◌∙◌, ap, arith, subst}
use Rattle.std.proofs.Common.{Bool, Some, ◌≤◌, true, false, cond, List, [], ◌∷◌, refl}
use Rattle.std.specs.Prelude.{find}
use Rattle.std.proofs.lemmas.Bool.Decides.{nat_tests}
use Rattle.std.proofs.lemmas.Option.{same_Some}
use Rattle.rina_cube.specs.declared.Want.{Want}
use Rattle.rina_base.specs.declared.number.Port.{Port}
use Rattle.rina_iface.specs.declared.ends.End.{End}
use Rattle.rina_iface.specs.declared.ask.Ask.{Ask}
use Rattle.rina_iface.specs.Allocate.{IsAsked, next_port}
use Rattle.rina_iface.specs.Ends.{drawn_at}
use Rattle.rina_iface.specs.Journal.{AreKept, At, HasPorts}
use Rattle.rina_iface.specs.Seen.{Fac, Offer, Seen, meets}

-- a number above those that were drawn
above : (fac node : ℕ) (f : Fac) (e : End) → e.port.n ≤ drawn_at e.port.node f.ends → e.port ≢ next_port f fac node
above fac node f e drawn is =
    let at : e.port.node ≡ node = ap (λ (p : Port). p.node) is in
    let number : e.port.n ≡ drawn_at node f.ends + 1 = ap (λ (p : Port). p.n) is in
    let drawn' = subst (λ (k : ℕ). e.port.n ≤ drawn_at k f.ends) at drawn in
    omega (arith, number, drawn')

pub fresh_port : (n fac node : ℕ) (f : Fac) (i : ℕ) (e : End) → HasPorts n f → At f.ends i e → e.port ≢ next_port f fac node
fresh_port n fac node f i e ports at = above fac node f e (ports.drawn i e at)

-- the port that `allocate` answers was no end's port before
pub fresh_asked : (s : Seen) (ask : Ask) (port : Port) (s' : Seen) (a : IsAsked s ask port s') (i : ℕ) (e : End) → AreKept s → At a.facility.ends i e → e.port ≢ port
fresh_asked s ask port s' a i e kept at is = fresh_port ask.fac ask.fac ask.node a.facility i e (kept.ports ask.fac a.facility a.stands) at (is ∙ a.fresh)

find_passes : {X : Type 0} (p : X → Bool) (xs : List X) (x : X) → find p xs ≡ Some x → p x ≡ true
find_passes p [] x h = cc
find_passes p (y ∷ xs) x h = elim (p y) as (λ b. p y ≡ b → cond b (Some y) (find p xs) ≡ Some x → p x ≡ true) [
  | true ↦ λ is g. rw (← same_Some y x g) is
  | false ↦ λ is g. find_passes p xs x g
] refl h

fits : (want : Want) (cube : Offer) → meets want cube ≡ true → want.size ≤ cube.largest
unfolding meets
fits want cube h = grind (arith, nat_tests)

-- the cube of a new flow takes SDUs as large as was asked
pub asked_fits : (s : Seen) (ask : Ask) (port : Port) (s' : Seen) (a : IsAsked s ask port s') → ask.want.size ≤ a.cube.largest
asked_fits s ask port s' a = fits ask.want a.cube (find_passes (meets ask.want) a.facility.cubes a.cube a.offer)
