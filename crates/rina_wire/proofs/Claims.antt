-- What the exact clause of `incoming` says of the facilities that the wires are.
use Rattle.std.proofs.Common.{◌≡◌, ℕ, true, List, [], get_or, slice_get, Some, None, Option, option_and_then, option_map, refl, sym, ap, ◌∙◌, subst}
use Rattle.std.proofs.lemmas.Option.{same_Some, slice_get-get_or}
use Rattle.std.proofs.lemmas.List.Quantifiers.{position-Some}
use Rattle.rina_base.specs.declared.number.Port.{Port}
use Rattle.rina_iface.specs.declared.ends.End.{End}
use Rattle.rina_iface.specs.Seen.{Fac, is_of, oldest_in}
use Rattle.rina_iface.specs.Claim.{AreClaimed, Claims, IsClaimed}
use Rattle.rina_wire.specs.Air.{Air, Line, fac_of, seen_of, wire_at}
use Rattle.rina_wire.specs.Claim.{ClaimsOn, claim_in, claimed, waiting_end, without}
use Rattle.rina_wire.specs.Resting.{NoneWaits}
use Rattle.rina_iface.proofs.Changed.{slice_set-same}
use Rattle.rina_wire.proofs.Seen.{fac_at, seen_on_wire}

-- the end that waits at that place
record Waits (l : Line) (at : ℕ) : Type 0 where
  place : ℕ
  end : End
  stands : slice_get l.waiting at ≡ Some place
  is : slice_get l.ends place ≡ Some end

has_end : (node : ℕ) (app : List ℕ) (o : Option End) → is_of node app o ≡ true → (e : End) × (o ≡ Some e)
has_end node app None h = cc
has_end node app (Some e) h = (e, refl)

waits_at : (l : Line) (node : ℕ) (app : List ℕ) (at : ℕ) → oldest_in l.ends l.waiting node app ≡ Some at → Waits l at
waits_at l node app at h =
    let p = position-Some (λ i. is_of node app (slice_get l.ends i)) l.waiting at 0 h in
    let (e, is) = has_end node app (slice_get l.ends (get_or l.waiting at 0)) p.1 in
    record { place = get_or l.waiting at 0; end = e; stands = slice_get-get_or l.waiting at 0 p.0; is = is }

-- no end waits to be claimed, and nothing changed
claims_none : (a : Air) (fac node : ℕ) (app : List ℕ) (l : Line) → wire_at a fac ≡ Some l → oldest_in l.ends l.waiting node app ≡ None → Claims (seen_of a) fac node app None (seen_of a)
claims_none a fac node app l h o = (rw (fac_at a fac, h) o, refl)

claims_some : (a : Air) (fac node : ℕ) (app : List ℕ) (l : Line) (at : ℕ) (w : Waits l at) → wire_at a fac ≡ Some l → oldest_in l.ends l.waiting node app ≡ Some at → IsClaimed (seen_of a) fac node app w.end.port (seen_of (claimed a fac node app))
claims_some a fac node app l at w h o = record {
  facility = fac_of l;
  stands = fac_at a fac ∙ ap (option_map fac_of) h;
  at = at;
  oldest = o;
  place = w.place;
  waits = w.stands;
  end = w.end;
  is = w.is;
  its_port = refl;
  new_is = seen_on_wire a fac (λ (k : Line). without k (oldest_in k.ends k.waiting node app)) l h ∙ rw o refl;
}

claims_end : (a : Air) (fac node : ℕ) (app : List ℕ) (r : Option Port) (l : Line) (k : Option ℕ) → wire_at a fac ≡ Some l → oldest_in l.ends l.waiting node app ≡ k → r ≡ option_map (λ (e : End). e.port) (option_and_then (λ at. waiting_end l at) k) → Claims (seen_of a) fac node app r (seen_of (claimed a fac node app))
claims_end a fac node app r l None h o is =
    let unchanged : claimed a fac node app ≡ a = rw (h, o, slice_set-same a.wires fac l h) refl in
    rw is (subst (λ (x : Air). Claims (seen_of a) fac node app None (seen_of x)) (sym unchanged) (claims_none a fac node app l h o))
claims_end a fac node app r l (Some at) h o is =
    let w = waits_at l node app at o in
    let port : r ≡ Some w.end.port = is ∙ rw (w.stands, w.is) refl in
    rw port (claims_some a fac node app l at w h o)

claims_wire : (a : Air) (fac node : ℕ) (app : List ℕ) (r : Option Port) (o : Option Line) → wire_at a fac ≡ o → r ≡ option_map (λ (e : End). e.port) (option_and_then (λ l. claim_in l node app) o) → Claims (seen_of a) fac node app r (seen_of (claimed a fac node app))
claims_wire a fac node app r None h is =
    let unchanged : claimed a fac node app ≡ a = rw h refl in
    let none : Claims (seen_of a) fac node app None (seen_of a) = (rw (fac_at a fac, h) tt, refl) in
    rw is (subst (λ (x : Air). Claims (seen_of a) fac node app None (seen_of x)) (sym unchanged) none)
claims_wire a fac node app r (Some l) h is = claims_end a fac node app r l (oldest_in l.ends l.waiting node app) h refl is

pub seen_claims : (a : Air) (fac node : ℕ) (app : List ℕ) (r : Option Port) (a' : Air) → ClaimsOn a fac node app r a' → Claims (seen_of a) fac node app r (seen_of a')
seen_claims a fac node app r a' g = rw g.air (claims_wire a fac node app r (wire_at a fac) refl g.answers)

-- where none waits at any wire, none waits at any of the facilities
claimed_at : (o : Option Line) (f : Fac) → option_map fac_of o ≡ Some f → ((l : Line) → o ≡ Some l → l.waiting ≡ []) → f.waiting ≡ []
claimed_at None f is none = cc
claimed_at (Some l) f is none = subst (λ (g : Fac). g.waiting ≡ []) (same_Some _ _ is) (none l refl)

pub seen_claimed : (a : Air) → NoneWaits a.wires → AreClaimed (seen_of a)
seen_claimed a none n f is = claimed_at (wire_at a n) f (sym (fac_at a n) ∙ is) (none n)
