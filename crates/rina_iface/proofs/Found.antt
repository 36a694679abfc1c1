-- The end of a port, by its place, now and later.
use Rattle.std.proofs.Common.{◌≡◌, ℕ, zero, suc, Bool, true, false, cond, List, [], ◌∷◌, get_or, length, slice_get, Some, None, Option, option_and_then, option_map, refl, sym, ◌∙◌, ap, subst, arith}
use Rattle.std.specs.Prelude.{find, position}
use Rattle.std.specs.List.{position_or_len}
use Rattle.std.proofs.lemmas.Bool.{lt-ltb}
use Rattle.std.proofs.lemmas.List.Folds.{find_at}
use Rattle.std.proofs.lemmas.List.Quantifiers.{position-Some}
use Rattle.std.proofs.lemmas.Option.{get_or_from_slice_get, slice_get_within}
use Rattle.rina_base.specs.declared.number.Port.{Port}
use Rattle.rina_iface.specs.declared.ends.End.{End}
use Rattle.rina_iface.specs.Ends.{end_in, has_port}
use Rattle.rina_iface.specs.Journal.{AreKept, At, HasPorts}
use Rattle.rina_iface.specs.Later.{IsLater, IsLaterEnd}
use Rattle.rina_iface.specs.Seen.{Fac, Offer, Seen, Stands, cube_at, cube_in, end_of, largest_at, promise_at}
use Rattle.rina_iface.proofs.Changed.{end_has_place}

-- the first that does, where it alone does
find_only : {X : Type 0} (p : X → Bool) (xs : List X) (k : ℕ) (x : X) → slice_get xs k ≡ Some x → p x ≡ true → ((j : ℕ) (y : X) → slice_get xs j ≡ Some y → p y ≡ true → j ≡ k) → find p xs ≡ Some x
find_only p [] k x h t only = cc
find_only p (y ∷ xs) zero x h t only = let is : y ≡ x = cc in rw (is, t) refl
find_only p (y ∷ xs) (suc k) x h t only = elim (p y) as (λ v. p y ≡ v → cond v (Some y) (find p xs) ≡ Some x) [
  | true ↦ λ v. absurd (omega (arith, only zero y refl v))
  | false ↦ λ v. find_only p xs k x h t (λ j z g s. let o : suc j ≡ suc k = only (suc j) z g s in omega (arith, o))
] refl

position_only : {X : Type 0} (p : X → Bool) (xs : List X) (k : ℕ) (x : X) → slice_get xs k ≡ Some x → p x ≡ true → ((j : ℕ) (y : X) → slice_get xs j ≡ Some y → p y ≡ true → j ≡ k) → position p xs ≡ Some k
position_only p xs k x h t only =
    let n : ℕ = position_or_len p xs in
    let at : slice_get xs n ≡ Some x = sym (find_at p xs) ∙ find_only p xs k x h t only in
    let within = slice_get_within xs n x at in
    let place : position p xs ≡ Some n = rw (lt-ltb n (length xs) within) refl in
    place ∙ ap (λ (m : ℕ). Some m) (only n x at t)

port_of : (port : Port) (e : End) → has_port port e ≡ true → e.port ≡ port
port_of port e h = grind arith

has_own : (e : End) → has_port e.port e ≡ true
has_own e = grind arith

-- the end that stands at a port has it
pub its_port : (s : Seen) (port : Port) (f : Fac) (i : ℕ) (e : End) → Stands s port f i e → e.port ≡ port
its_port s port f i e st =
    let at : get_or f.ends i e ≡ e = get_or_from_slice_get f.ends i e e st.is in
    port_of port e (rw at at ((position-Some (has_port port) f.ends i e st.place).1))

-- an end stands at its port
pub stands_there : (s : Seen) (n : ℕ) (f : Fac) (i : ℕ) (e : End) → slice_get s.facs n ≡ Some f → HasPorts n f → At f.ends i e → Stands s e.port f i e
stands_there s n f i e facility ports at = record {
  facility = ap (slice_get s.facs) (ports.own i e at) ∙ facility;
  place = position_only (has_port e.port) f.ends i e at (has_own e) (λ j a g t. ports.apart j i a e g at (port_of e.port a t));
  is = at;
}

-- the end of a port, with its facility and its place
pub record IsFound (s : Seen) (port : Port) (e : End) : Type 0 where
  pub facility : Fac
  pub place : ℕ
  pub stands : Stands s port facility place e

found_in : (s : Seen) (port : Port) (e : End) (o : Option Fac) → slice_get s.facs port.fac ≡ o → option_and_then (λ (f : Fac). end_in port f.ends) o ≡ Some e → IsFound s port e
found_in s port e None h is = cc
found_in s port e (Some f) h is = let at = end_has_place port f.ends e is in record { facility = f; place = at.place; stands = record { facility = h; place = at.found; is = at.is } }

pub found : (s : Seen) (port : Port) (e : End) → end_of s port ≡ Some e → IsFound s port e
found s port e h = found_in s port e (slice_get s.facs port.fac) refl h

pub end_of_stands : (s : Seen) (port : Port) (f : Fac) (i : ℕ) (e : End) → Stands s port f i e → end_of s port ≡ Some e
end_of_stands s port f i e st = rw (st.facility, st.place) st.is

-- ---- later

-- the end that stands at a port stands there later
pub record StandsLater (s s' : Seen) (port : Port) (f : Fac) (i : ℕ) (e : End) : Type 0 where
  pub facility : Fac
  pub end : End
  pub stands : Stands s' port facility i end
  pub cubes : facility.cubes ≡ f.cubes
  pub later : IsLaterEnd s.now s'.now e end

pub stands_later : (s s' : Seen) (port : Port) (f : Fac) (i : ℕ) (e : End) → IsLater s s' → AreKept s' → Stands s port f i e → StandsLater s s' port f i e
stands_later s s' port f i e later kept st =
    let g = later.facs port.fac f st.facility in
    let k = g.2.ends i e st.is in
    let port_is : k.0.port ≡ port = k.2.port ∙ its_port s port f i e st in
    let there = stands_there s' port.fac g.0 i k.0 g.1 (kept.ports port.fac g.0 g.1) k.1 in
    record { facility = g.0; end = k.0; stands = subst (λ (p : Port). Stands s' p g.0 i k.0) port_is there; cubes = g.2.cubes; later = k.2 }

cube_stands : (s : Seen) (port : Port) (f : Fac) (i : ℕ) (e : End) → Stands s port f i e → cube_at s port ≡ cube_in f.cubes e.cube
cube_stands s port f i e st = rw (st.facility, st.place, st.is) refl

-- the cube of a port never changes
pub cube_stays : (s s' : Seen) (port : Port) (e : End) → IsLater s s' → AreKept s' → end_of s port ≡ Some e → cube_at s' port ≡ cube_at s port
cube_stays s s' port e later kept h =
    let a = found s port e h in
    let b = stands_later s s' port a.facility a.place e later kept a.stands in
    let same : cube_in b.facility.cubes b.end.cube ≡ cube_in a.facility.cubes e.cube = rw (b.cubes, b.later.cube) refl in
    cube_stands s' port b.facility a.place b.end b.stands ∙ same ∙ sym (cube_stands s port a.facility a.place e a.stands)

-- nor does its promise, or the largest SDU
pub promise_stays : (s s' : Seen) (port : Port) (e : End) → IsLater s s' → AreKept s' → end_of s port ≡ Some e → promise_at s' port ≡ promise_at s port
promise_stays s s' port e later kept h = ap (option_map (λ (c : Offer). c.promise)) (cube_stays s s' port e later kept h)

pub largest_stays : (s s' : Seen) (port : Port) (e : End) → IsLater s s' → AreKept s' → end_of s port ≡ Some e → largest_at s' port ≡ largest_at s port
largest_stays s s' port e later kept h = ap (option_map (λ (c : Offer). c.largest)) (cube_stays s s' port e later kept h)
