-- The index of ends by their ports, after an end was added, changed, or taken out again.
use Rattle.std.proofs.Common.{◌≡◌, ◌∙◌, ℕ, suc, ◌<◌, ◌&&◌, ◌==◌, cond, Bool, true, false, List, [], ◌∷◌, ◌++◌, get_or, length, length-set, length-append, map, slice_get, slice_set, Option, Some, None, refl, sym, ap, subst, arith, ◌⊎◌, inl, inr}
use Rattle.std.proofs.lemmas.Bool.Decides.{nat_tests}
use Rattle.std.proofs.lemmas.Grind.{common_steps}
use Rattle.std.proofs.lemmas.List.Folds.{position_or_len-set, position_or_len_push}
use Rattle.std.proofs.lemmas.List.Sums.{prefix_len-le-length}
use Rattle.std.proofs.lemmas.Option.{get_or_from_slice_get, slice_get-get_or}
use Rattle.std.specs.BTreeMap.{BTreeMap, get_by, Updates, UpdatesBy}
use Rattle.std.specs.List.{position_or_len}
use Rattle.std.specs.declared.cmp.Ordering.{Ordering}
use Rattle.std.specs.Ordering.{is_eq, nat_cmp, ordering_then}
use Rattle.rina_base.specs.declared.number.Port.{Port}
use Rattle.rina_iface.specs.declared.ends.End.{End}
use Rattle.rina_iface.specs.Ends.{has_port, place_in}
use Rattle.rina_iface.specs.Index.{IsIndex, port_cmp}

by_test : (b : Bool) → (b ≡ true) ⊎ (b ≡ false)
by_test true = inl refl
by_test false = inr refl

by_option : (o : Option ℕ) → (o ≡ None) ⊎ ((n : ℕ) × (o ≡ Some n))
by_option None = inl refl
by_option (Some n) = inr (n, refl)

-- Ends were changed, but not their ports

place_set : (port : Port) (ends : List End) (at : ℕ) (e e' : End) → slice_get ends at ≡ Some e → e'.port ≡ e.port → place_in port (slice_set ends at e') ≡ place_in port ends
place_set port ends at e e' is same =
    let here : has_port port e' ≡ has_port port (get_or ends at e) = ap (λ (p : Port). (p.fac == port.fac) && (p.node == port.node) && (p.n == port.n)) same ∙ sym (ap (has_port port) (get_or_from_slice_get ends at e e is)) in
    let first = position_or_len-set (has_port port) ends at e' e here in
    let size = length-set ends at e' in
    rw (first, size) refl

pub index_set : (places : BTreeMap (ℕ × ℕ × ℕ) ℕ) (ends ends' : List End) (at : ℕ) (f : End → End) → ((e : End) → (f e).port ≡ e.port) → at < length ends → IsIndex places ends → ((e : End) → slice_get ends at ≡ Some e → ends' ≡ slice_set ends at (f e)) → IsIndex places ends'
index_set places [] ends' at f same lt is set = absurd (omega (arith, lt))
index_set places (x ∷ xs) ends' at f same lt is set = λ port.
    let ends = x ∷ xs in
    let e = get_or ends at x in
    let here = slice_get-get_or ends at x lt in
    is port ∙ sym (ap (place_in port) (set e here) ∙ place_set port ends at e (f e) here (same e))

first_map : (test : End → Bool) (f : End → End) → ((e : End) → test (f e) ≡ test e) → (ends : List End) → (position_or_len test (map f ends) ≡ position_or_len test ends) × (length (map f ends) ≡ length ends)
first_map test f same [] = (refl, refl)
first_map test f same (e ∷ es) = (let rest = first_map test f same es in (rw (same e, rest.0) refl, ap suc rest.1))

pub index_map : (places : BTreeMap (ℕ × ℕ × ℕ) ℕ) (ends ends' : List End) (f : End → End) → ((e : End) → (f e).port ≡ e.port) → IsIndex places ends → ends' ≡ map f ends → IsIndex places ends'
index_map places ends ends' f same is new = λ port.
    let first = first_map (has_port port) f (λ e. ap (λ (p : Port). (p.fac == port.fac) && (p.node == port.node) && (p.n == port.n)) (same e)) ends in
    let mapped : place_in port (map f ends) ≡ place_in port ends = rw (first.0, first.1) refl in
    is port ∙ sym (ap (place_in port) new ∙ mapped)

-- An end more

-- a port that stands somewhere stays there
stays : (port : Port) (ends : List End) (e : End) (at : ℕ) → place_in port ends ≡ Some at → place_in port (ends ++ e ∷ []) ≡ Some at
stays port ends e at is = grind (arith, nat_tests, position_or_len_push (has_port port) ends e, length-append ends (e ∷ []), prefix_len-le-length)

-- a port that stood nowhere stands last, if it is the port of that end
last : (port : Port) (ends : List End) (e : End) → place_in port ends ≡ None → place_in port (ends ++ e ∷ []) ≡ cond (has_port port e) (Some (length ends)) None
last port ends e none = grind (arith, nat_tests, position_or_len_push (has_port port) ends e, length-append ends (e ∷ []), prefix_len-le-length)

-- another port stays where it stands, or has no end
other : (port : Port) (ends : List End) (e : End) → has_port port e ≡ false → place_in port (ends ++ e ∷ []) ≡ place_in port ends
other port ends e lacks = grind (arith, nat_tests, position_or_len_push (has_port port) ends e, length-append ends (e ∷ []), prefix_len-le-length)

-- a port that stands last stood nowhere before
only : (port : Port) (ends : List End) (e : End) → place_in port (ends ++ e ∷ []) ≡ Some (length ends) → place_in port ends ≡ None
only port ends e at = grind (arith, nat_tests, position_or_len_push (has_port port) ends e, length-append ends (e ∷ []), prefix_len-le-length)

-- a port that does not stand last stands where it stood
before : (port : Port) (ends : List End) (e : End) → has_port port e ≡ true → (place_in port (ends ++ e ∷ []) ≡ Some (length ends) → ⊥) → place_in port (ends ++ e ∷ []) ≡ place_in port ends
before port ends e has not = elim (by_option (place_in port ends)) [
  | inl none ↦ absurd (not (last port ends e none ∙ rw has refl))
  | inr at ↦ stays port ends e at.0 at.1 ∙ sym at.1
]

has_own : (e : End) → has_port e.port e ≡ true
has_own e = grind (arith, nat_tests)

-- a key is that of a port exactly where its three numbers are the same
tested : (a b c x y z : ℕ) → is_eq (ordering_then (ordering_then (nat_cmp a x) (nat_cmp b y)) (nat_cmp c z)) ≡ (a == x) && (b == y) && (c == z)
tested a b c x y z = grind (arith, nat_tests, common_steps)

abbrev key_cmp : ℕ × ℕ × ℕ → ℕ × ℕ × ℕ → Ordering
key_cmp x y = ordering_then (ordering_then (nat_cmp x.0 y.0) (nat_cmp x.1 y.1)) (nat_cmp x.2 y.2)

same_port : (p q : Port) → (q.fac == p.fac) && (q.node == p.node) && (q.n == p.n) ≡ true → p ≡ q
same_port p q is =
    let fac : p.fac ≡ q.fac = grind (arith, nat_tests, is) in
    let node : p.node ≡ q.node = grind (arith, nat_tests, is) in
    let n : p.n ≡ q.n = grind (arith, nat_tests, is) in
    ap (λ x. record p { fac = x }) fac ∙ ap (λ x. record p { fac = q.fac; node = x }) node ∙ ap (λ x. record p { fac = q.fac; node = q.node; n = x }) n

-- the index at a port after an entry was put or taken at the key of another
at_port : (places places' : BTreeMap (ℕ × ℕ × ℕ) ℕ) (p : Port) (key : ℕ × ℕ × ℕ) (value : Option ℕ) → key ≡ (p.fac, p.node, p.n) → UpdatesBy key_cmp (key_cmp key) places places' value → (port : Port) → get_by (port_cmp port) places' ≡ cond ((p.fac == port.fac) && (p.node == port.node) && (p.n == port.n)) value (get_by (port_cmp port) places)
at_port places places' p key value is updates port =
    let found = (subst (λ (k : ℕ × ℕ × ℕ). UpdatesBy key_cmp (key_cmp k) places places' value) is updates).0 (port.fac, port.node, port.n) in
    found ∙ ap (λ b. cond b value (get_by (port_cmp port) places)) (tested p.fac p.node p.n port.fac port.node port.n)

module _ (places places' : BTreeMap (ℕ × ℕ × ℕ) ℕ) (ends : List End) (e : End) where
  -- the first end of a port
  pub index_more : (key : ℕ × ℕ × ℕ) (place : ℕ) → IsIndex places ends → get_by (port_cmp e.port) places ≡ None → key ≡ (e.port.fac, e.port.node, e.port.n) → place ≡ length ends → Updates key_cmp places places' key (Some place) → IsIndex places' (ends ++ e ∷ [])
  index_more key place is none its_key its_place updates port =
      let found = at_port places places' e.port key (Some place) its_key updates port in
      elim (by_test (has_port port e)) [
        | inl has ↦
            let same = same_port port e.port has in
            let gone : place_in port ends ≡ None = sym (is port) ∙ ap (λ (p : Port). get_by (port_cmp p) places) same ∙ none in
            rw (found, has, its_place) (sym (rw has at (last port ends e gone)))
        | inr lacks ↦ rw (found, lacks) (is port ∙ sym (other port ends e lacks))
      ]

  -- an end that was the first of its port
  pub index_less : (key : ℕ × ℕ × ℕ) → IsIndex places (ends ++ e ∷ []) → get_by (port_cmp e.port) places ≡ Some (length ends) → key ≡ (e.port.fac, e.port.node, e.port.n) → UpdatesBy key_cmp (key_cmp key) places places' None → IsIndex places' ends
  index_less key is at its_key updates port =
      let found = at_port places places' e.port key None its_key updates port in
      elim (by_test (has_port port e)) [
        | inl has ↦ rw (found, has) (sym (ap (λ (p : Port). place_in p ends) (same_port port e.port has) ∙ only e.port ends e (sym (is e.port) ∙ at)))
        | inr lacks ↦ rw (found, lacks) (is port ∙ other port ends e lacks)
      ]

-- one before it has its port
pub index_same : (places : BTreeMap (ℕ × ℕ × ℕ) ℕ) (ends : List End) (e : End) → IsIndex places (ends ++ e ∷ []) → (get_by (port_cmp e.port) places ≡ Some (length ends) → ⊥) → IsIndex places ends
index_same places ends e is not = λ port. elim (by_test (has_port port e)) [
  | inl has ↦
      let same = same_port port e.port has in
      is port ∙ ap (λ (p : Port). place_in p (ends ++ e ∷ [])) same ∙ before e.port ends e (has_own e) (λ h. not (is e.port ∙ h)) ∙ sym (ap (λ (p : Port). place_in p ends) same)
  | inr lacks ↦ is port ∙ other port ends e lacks
]
