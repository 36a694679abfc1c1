-- Where no rule finds a fault, the DIFs keep what the rules mean.
use Rattle.std.proofs.Common.{◌≡◌, ◌≢◌, ◌==◌, ◌||◌, ◌&&◌, ◌⊎◌, inl, inr, ℕ, zero, suc, ◌+◌, ◌*◌, ◌-◌, ◌^◌, ◌<◌, ◌≤◌, nat_lt, nat_le, Bool, true, false, not, List, [], ◌∷◌, length, map, get_or, Option, Some, None, refl, sym, ap, ◌∙◌, subst, arith}
use Rattle.std.specs.Prelude.{All, Contains, slice_get}
use Rattle.std.specs.List.{list_any}
use Rattle.std.proofs.lemmas.Bool.{or_parts, or_cases, and_parts, eqb-true}
use Rattle.std.proofs.lemmas.Bool.Decides.{nat_tests}
use Rattle.std.proofs.lemmas.List.{nil_from_length}
use Rattle.std.proofs.lemmas.Option.{get_or_from_slice_get, slice_get_within}
use Rattle.rina_base.specs.declared.pdu.PduKind.TheVariants.{Ack}
use Rattle.rina_cube.specs.declared.Cube.{Cube}
use Rattle.rina_cube.specs.declared.Kind.{Kind}
use Rattle.rina_cube.specs.declared.Kind.TheVariants.{Datagram, Loose, Reliable}
use Rattle.rina_pci.specs.Spelling.{pci_size, IsWidth}
use Rattle.rina_plan.specs.declared.dif.MemberPlan.{MemberPlan}
use Rattle.rina_plan.specs.declared.dif.Lower.{Lower}
use Rattle.rina_plan.specs.declared.dif.Lower.TheVariants.{Wire, Dif}
use Rattle.rina_plan.specs.declared.dif.LinkPlan.{LinkPlan}
use Rattle.rina_plan.specs.declared.dif.DifPlan.{DifPlan}
use Rattle.rina_plan.specs.declared.dif.WireEnds.{WireEnds}
use Rattle.rina_plan.specs.Difs.{lacks_lower, has_twice, lacks_cubes, greatest_of, is_misaddressed, is_misplaced, head_of, has_unfit_pdu, piece_of, is_over, is_oversized_by, is_oversized, has_oversized}
use Rattle.rina_plan.specs.Links.{is_dynamic_in, is_dynamic, rank_in, rank_of, is_member, has_member, has_end, is_there, wire_carries, dif_carries, carries, is_misused, is_unfit_link, has_unfit_link, is_uncarried}
use Rattle.rina_plan.specs.Kept.{HasLower, AreApart, HasCubes, HasMembers, HasRoomyPdu, FitsBy, HasFitSdus, IsStatic, IsStanding, StandsOn, IsAt, IsFitLink, Takes}
use Rattle.rina_plan.proofs.Places.{none_pass}

-- ---- tests

some_passes : {X : Type 0} (p : X → Bool) (xs : List X) → list_any p xs ≡ true → (x : X) × Contains xs x × (p x ≡ true)
some_passes p [] h = cc
some_passes {X} p (x ∷ xs) h =
    elim (or_cases (p x) (list_any p xs) h) as (λ _. (y : X) × Contains (x ∷ xs) y × (p y ≡ true)) [
      | inl here ↦ (x, (0, omega arith, refl), here)
      | inr there ↦ let (y, at, passes) = some_passes p xs there in (y, (suc at.0, omega (arith, at.1), at.2), passes)
    ]

at_most : (a b : ℕ) → nat_lt a b ≡ false → b ≤ a
at_most a b h = grind (arith, nat_tests)

above : (a b : ℕ) → nat_le a b ≡ false → b < a
above a b h = grind (arith, nat_tests)

below : (a b : ℕ) → nat_le a b ≡ true → a ≤ b
below a b h = grind (arith, nat_tests)

is_above : (a b : ℕ) → a < b → nat_lt a b ≡ true
is_above a b h = grind (arith, nat_tests)

differ : (m n : ℕ) → (m == n) ≡ false → m ≢ n
differ m n h = grind (arith, nat_tests)

not_false : (b : Bool) → not b ≡ false → b ≡ true
not_false true h = refl
not_false false h = cc

not_none : (n : ℕ) → (n == 0) ≡ false → 1 ≤ n
not_none n h = grind (arith, nat_tests)

none_left : (n : ℕ) → nat_lt 0 n ≡ false → n ≡ 0
none_left n h = grind (arith, nat_tests)

-- ---- a DIF of the rank below

implied : (a b : Bool) → (a && not b) ≡ false → a ≡ true → b ≡ true
implied true true h t = refl
implied true false h t = cc
implied false b h t = cc

pub has_lower : (difs : List DifPlan) (d : DifPlan) → lacks_lower difs d ≡ false → HasLower difs d
unfolding lacks_lower
has_lower difs d h = λ high.
    let there : list_any (λ (e : DifPlan). e.rank + 1 == d.rank) difs ≡ true = implied (nat_lt 1 d.rank) (list_any (λ (e : DifPlan). e.rank + 1 == d.rank) difs) h (is_above 1 d.rank high) in
    let (e, among, is) = some_passes (λ (e : DifPlan). e.rank + 1 == d.rank) difs there in
    (e, among, eqb-true (e.rank + 1) d.rank is)

-- ---- cubes and members

apart_at : (xs : List ℕ) (i j d : ℕ) → has_twice xs ≡ false → i < j → j < length xs → get_or xs i d ≢ get_or xs j d
unfolding has_twice
apart_at [] i j d h lt within = absurd (omega arith)
apart_at (x ∷ xs) i zero d h lt within = absurd (omega arith)
apart_at (x ∷ xs) zero (suc j) d h lt within =
    let (first, _) = or_parts (list_any (λ y. y == x) xs) (has_twice xs) h in
    let other : get_or xs j d ≢ x = differ (get_or xs j d) x (none_pass (λ y. y == x) xs first j d (omega arith)) in
    λ same. other (sym same)
apart_at (x ∷ xs) (suc i) (suc j) d h lt within =
    let (_, rest) = or_parts (list_any (λ y. y == x) xs) (has_twice xs) h in
    apart_at xs i j d rest (omega arith) (omega arith)

apart : (xs : List ℕ) → has_twice xs ≡ false → AreApart xs
apart xs h = λ i j d lt within. apart_at xs i j d h lt within

pub has_cubes : (d : DifPlan) → lacks_cubes d ≡ false → HasCubes d
unfolding lacks_cubes
has_cubes d h =
    let (some, ids) = or_parts (length d.cubes == 0) (has_twice (map (λ (c : Cube). c.id) d.cubes)) h in
    record { some = not_none (length d.cubes) some; ids = apart (map (λ (c : Cube). c.id) d.cubes) ids }

-- a number that is not above the greatest of its width fits it
fits_width : (w n : ℕ) → IsWidth w → nat_lt (greatest_of w) n ≡ false → n < 2 ^ (8 * w)
unfolding greatest_of
fits_width w n (inl is) h = (let le : n ≤ 255 = at_most 255 n (rw is at h) in subst (λ (v : ℕ). n < 2 ^ (8 * v)) (sym is) (omega (arith, le)))
fits_width w n (inr (inl is)) h = (let le : n ≤ 65535 = at_most 65535 n (rw is at h) in subst (λ (v : ℕ). n < 2 ^ (8 * v)) (sym is) (omega (arith, le)))
fits_width w n (inr (inr is)) h = (let le : n ≤ 4294967295 = at_most 4294967295 n (rw is at h) in subst (λ (v : ℕ). n < 2 ^ (8 * v)) (sym is) (omega (arith, le)))

addressed : (width : ℕ) (m : MemberPlan) → IsWidth width → is_misaddressed width m ≡ false → (1 ≤ m.addr) × (m.addr < 2 ^ (8 * width))
unfolding is_misaddressed
addressed width m is h =
    let (some, narrow) = or_parts (m.addr == 0) (nat_lt (greatest_of width) m.addr) h in
    (not_none m.addr some, fits_width width m.addr is narrow)

four_parts : (a b c e : Bool) → (a || b || c || e) ≡ false → (a ≡ false) × (b ≡ false) × (c ≡ false) × (e ≡ false)
four_parts false false false false h = (refl, refl, refl, refl)
four_parts false false false true h = cc
four_parts false false true e h = cc
four_parts false true c e h = cc
four_parts true b c e h = cc

pub has_members : (d : DifPlan) → IsWidth d.widths.addr → is_misplaced d ≡ false → HasMembers d
unfolding is_misplaced
has_members d is h =
    let nodes = map (λ (m : MemberPlan). m.node) d.members in
    let addresses = map (λ (m : MemberPlan). m.addr) d.members in
    let (some, one, other, fit) = four_parts (length d.members == 0) (has_twice nodes) (has_twice addresses) (list_any (is_misaddressed d.widths.addr) d.members) h in
    record {
      some = not_none (length d.members) some;
      nodes = apart nodes one;
      addresses = apart addresses other;
      fit = λ k e within. addressed d.widths.addr (get_or d.members k e) is (none_pass (is_misaddressed d.widths.addr) d.members fit k e within);
    }

-- ---- sizes

pub has_roomy_pdu : (d : DifPlan) → IsWidth d.widths.len → has_unfit_pdu d ≡ false → HasRoomyPdu d
unfolding has_unfit_pdu
has_roomy_pdu d is h =
    let (first, ack) = or_parts (nat_lt (greatest_of d.widths.len) d.pdu || nat_le d.pdu (head_of d)) (nat_lt d.pdu (4 + pci_size Ack d.widths)) h in
    let (long, piece) = or_parts (nat_lt (greatest_of d.widths.len) d.pdu) (nat_le d.pdu (head_of d)) first in
    record { fits = fits_width d.widths.len d.pdu is long; piece = above d.pdu (head_of d) piece; ack = at_most d.pdu (4 + pci_size Ack d.widths) ack }

in_pieces : (piece queue : ℕ) (c : Cube) → (is_over piece c.window c.largest || is_over piece queue c.largest) ≡ false → (c.largest ≤ c.window * piece) × (c.largest ≤ queue * piece)
in_pieces piece queue c h =
    let (window, room) = or_parts (is_over piece c.window c.largest) (is_over piece queue c.largest) h in
    (at_most (c.window * piece) c.largest window, at_most (queue * piece) c.largest room)

fits_by : (k : Kind) (piece queue : ℕ) (c : Cube) → is_oversized_by k piece queue c ≡ false → FitsBy k piece queue c
fits_by Datagram piece queue c h = at_most piece c.largest h
fits_by Loose piece queue c h = in_pieces piece queue c h
fits_by Reliable piece queue c h = in_pieces piece queue c h

fits : (piece queue : ℕ) (c : Cube) → is_oversized piece queue c ≡ false → FitsBy c.kind piece queue c
unfolding is_oversized
fits piece queue c h = fits_by c.kind piece queue c h

pub has_fit_sdus : (d : DifPlan) → has_oversized d ≡ false → HasFitSdus d
unfolding has_oversized
has_fit_sdus d h =
    let (manage, cubes) = or_parts (is_oversized (piece_of d) d.queue d.manage) (list_any (is_oversized (piece_of d) d.queue) d.cubes) h in
    record {
      manage = fits (piece_of d) d.queue d.manage manage;
      cubes = λ k e within. fits (piece_of d) d.queue (get_or d.cubes k e) (none_pass (is_oversized (piece_of d) d.queue) d.cubes cubes k e within);
    }

-- ---- links

link_parts : (r e m n s t : Bool) → (not r || e || not (m && n && s && t)) ≡ false → (r ≡ true) × (e ≡ false) × (m ≡ true) × (n ≡ true) × (s ≡ true) × (t ≡ true)
link_parts false e m n s t h = cc
link_parts true true m n s t h = cc
link_parts true false false n s t h = cc
link_parts true false true false s t h = cc
link_parts true false true true false t h = cc
link_parts true false true true true false h = cc
link_parts true false true true true true h = (refl, refl, refl, refl, refl, refl)

among : (node : ℕ) (ms : List MemberPlan) → list_any (λ (m : MemberPlan). m.node == node) ms ≡ true → Contains (map (λ (m : MemberPlan). m.node) ms) node
among node [] h = cc
among node (m ∷ ms) h =
    elim (or_cases (m.node == node) (list_any (λ (x : MemberPlan). x.node == node) ms) h) as (λ _. Contains (m.node ∷ map (λ (x : MemberPlan). x.node) ms) node) [
      | inl here ↦ (0, omega arith, eqb-true m.node node here)
      | inr there ↦ let at = among node ms there in (suc at.0, omega (arith, at.1), at.2)
    ]

end_of : (node : ℕ) (o : Option WireEnds) → has_end node o ≡ true → (w : WireEnds) × (o ≡ Some w) × ((w.a ≡ node) ⊎ (w.b ≡ node))
end_of node None h = cc
end_of node (Some w) h = (
  w,
  refl,
  elim (or_cases (w.a == node) (w.b == node) h) as (λ _. (w.a ≡ node) ⊎ (w.b ≡ node)) [ inl a ↦ inl (eqb-true w.a node a) | inr b ↦ inr (eqb-true w.b node b) ],
)

member_of : (node : ℕ) (o : Option DifPlan) → has_member node o ≡ true → (e : DifPlan) × (o ≡ Some e) × StandsOn e node
member_of node None h = cc
member_of node (Some e) h = (e, refl, among node e.members h)

at : (wires : List WireEnds) (difs : List DifPlan) (node : ℕ) (on : Lower) → is_there wires difs node on ≡ true → IsAt wires difs node on
at wires difs node (Wire i) h = end_of node (slice_get wires i) h
at wires difs node (Dif i) h = member_of node (slice_get difs i) h

fit_link : (wires : List WireEnds) (difs : List DifPlan) (d : DifPlan) (l : LinkPlan) → is_unfit_link wires difs d l ≡ false → IsFitLink wires difs d l
unfolding is_unfit_link
fit_link wires difs d l h =
    let (rank, same, a, b, a_below, b_below) = link_parts (rank_of difs l.on + 1 == d.rank) (l.a == l.b) (is_member l.a d) (is_member l.b d) (is_there wires difs l.a l.on) (is_there wires difs l.b l.on) h in
    record {
      rank = eqb-true (rank_of difs l.on + 1) d.rank rank;
      apart = differ l.a l.b same;
      a = among l.a d.members a;
      b = among l.b d.members b;
      a_below = at wires difs l.a l.on a_below;
      b_below = at wires difs l.b l.on b_below;
    }

pub fit_links : (wires : List WireEnds) (difs : List DifPlan) (d : DifPlan) → has_unfit_link wires difs d ≡ false → All (IsFitLink wires difs d) d.links
unfolding has_unfit_link
fit_links wires difs d h = λ k e within. fit_link wires difs d (get_or d.links k e) (none_pass (is_unfit_link wires difs d) d.links h k e within)

wire_takes : (pdu cube : ℕ) (o : Option WireEnds) → wire_carries pdu cube o ≡ true → (w : WireEnds) × (o ≡ Some w) × (cube ≡ 0) × (pdu ≤ w.largest)
wire_takes pdu cube None h = cc
wire_takes pdu cube (Some w) h =
    let (zeroth, room) = and_parts (cube == 0) (nat_le pdu w.largest) h in
    (w, refl, eqb-true cube 0 zeroth, below pdu w.largest room)

dif_takes : (pdu cube : ℕ) (o : Option DifPlan) → dif_carries pdu cube o ≡ true → (e : DifPlan) × (o ≡ Some e) × ((c : Cube) × Contains e.cubes c × (c.id ≡ cube) × (pdu ≤ c.largest))
dif_takes pdu cube None h = cc
dif_takes pdu cube (Some e) h =
    let (c, there, passes) = some_passes (λ (c : Cube). (c.id == cube) && nat_le pdu c.largest) e.cubes h in
    let (same, room) = and_parts (c.id == cube) (nat_le pdu c.largest) passes in
    (e, refl, (c, there, eqb-true c.id cube same, below pdu c.largest room))

takes : (wires : List WireEnds) (difs : List DifPlan) (pdu cube : ℕ) (on : Lower) → carries wires difs pdu cube on ≡ true → Takes wires difs pdu cube on
takes wires difs pdu cube (Wire i) h = wire_takes pdu cube (slice_get wires i) h
takes wires difs pdu cube (Dif i) h = dif_takes pdu cube (slice_get difs i) h

pub are_taken : (wires : List WireEnds) (difs : List DifPlan) (d : DifPlan) → is_uncarried wires difs d ≡ false → All (λ (l : LinkPlan). Takes wires difs d.pdu l.cube l.on) d.links
unfolding is_uncarried
are_taken wires difs d h = λ k e within.
    let l = get_or d.links k e in
    takes wires difs d.pdu l.cube l.on (not_false (carries wires difs d.pdu l.cube l.on) (none_pass (λ (x : LinkPlan). not (carries wires difs d.pdu x.cube x.on)) d.links h k e within))

-- ---- static DIFs

bare_of : (s l f rest : Bool) → ((not s && (l || f)) || rest) ≡ false → s ≡ false → (l ≡ false) × (f ≡ false)
bare_of true l f rest h is = cc
bare_of false true f rest h is = cc
bare_of false false true rest h is = cc
bare_of false false false rest h is = (refl, refl)

none_dynamic : (s r any first : Bool) → (first || (s && r && any)) ≡ false → s ≡ true → r ≡ true → any ≡ false
none_dynamic false r any first h is high = cc
none_dynamic true false any first h is high = cc
none_dynamic true true false first h is high = refl
none_dynamic true true true true h is high = cc
none_dynamic true true true false h is high = cc

static_on : (difs : List DifPlan) (rank : ℕ) (on : Lower) → All (λ (e : DifPlan). 1 ≤ e.rank) difs → rank_of difs on + 1 ≡ rank → (1 < rank → is_dynamic difs on ≡ false) → IsStatic difs on
static_on difs rank (Wire i) ranked is none = tt
static_on difs rank (Dif i) ranked is none = λ e found.
    let least : 1 ≤ e.rank = subst (λ (x : DifPlan). 1 ≤ x.rank) (get_or_from_slice_get difs i e e found) (ranked i e (slice_get_within difs i e found)) in
    let lower : rank_in (slice_get difs i) ≡ e.rank = ap rank_in found in
    let still : is_dynamic_in (slice_get difs i) ≡ false = none (omega (arith, least, lower, is)) in
    not_false e.is_static (ap is_dynamic_in (sym found) ∙ still)

pub is_standing : (wires : List WireEnds) (difs : List DifPlan) (d : DifPlan) → All (λ (e : DifPlan). 1 ≤ e.rank) difs → has_unfit_link wires difs d ≡ false → is_misused difs d ≡ false → IsStanding difs d
unfolding is_misused
is_standing wires difs d ranked fit h =
    let on_dynamic = list_any (λ (l : LinkPlan). is_dynamic difs l.on) d.links in
    let some_links = nat_lt 0 (length d.links) in
    let some_flows = nat_lt 0 (length d.flows) in
    record {
      bare = λ is.
          let (links, flows) = bare_of d.is_static some_links some_flows (d.is_static && nat_lt 1 d.rank && on_dynamic) h is in
          (nil_from_length d.links (none_left (length d.links) links), nil_from_length d.flows (none_left (length d.flows) flows));
      below = λ is k e within.
          let l = get_or d.links k e in
          let link = fit_links wires difs d fit k e within in
          static_on difs d.rank l.on ranked link.rank (λ high.
          let none = none_dynamic d.is_static (nat_lt 1 d.rank) on_dynamic (not d.is_static && (some_links || some_flows)) h is (is_above 1 d.rank high) in
          none_pass (λ (x : LinkPlan). is_dynamic difs x.on) d.links none k e within);
    }
