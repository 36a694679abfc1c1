-- What a claim of an application does to the facilities of all ranks.
use Rattle.std.proofs.Common.{◌≡◌, ◌∙◌, ◌==◌, ℕ, Bool, true, false, List, map, get_or, slice_get, Option, Some, None, refl, sym, ap, inl, inr}
use Rattle.std.specs.Prelude.{◌&&◌}
use Rattle.std.specs.Str.{bytes_eq}
use Rattle.std.proofs.lemmas.Option.{get_or_from_slice_get}
use Rattle.std.proofs.lemmas.List.Quantifiers.{position-Some}
use Rattle.std.proofs.lemmas.Slice.Eq.{bytes_eq-Decides}
use Rattle.rina_base.specs.declared.number.Port.{Port}
use Rattle.rina_iface.specs.declared.ends.End.{End}
use Rattle.rina_iface.specs.Claim.{Claims, IsClaimed}
use Rattle.rina_iface.specs.Seen.{Seen, is_of}
use Rattle.rina_wire.proofs.Claims.{seen_claims}
use Rattle.rina_tower.specs.declared.tower.Tower.{Tower, Rank', Wires}
use Rattle.rina_tower.specs.Applications.{AppClaims, ClaimsFor}
use Rattle.rina_tower.specs.Bystanders.{is_ipc}
use Rattle.rina_tower.specs.Calls.{ClaimsAtTop}
use Rattle.rina_tower.specs.Ranks.{fac_of_dif, seen_of, seen_of_difs}
use Rattle.rina_tower.specs.Stands.{IsTower}
use Rattle.rina_laws.proofs.LabelCalls.{AllRest, RestsHere, call_rests, rests_nothing, served}
use Rattle.rina_laws.proofs.LabelClaimed.{IsTaken, TakenAt}
use Rattle.rina_laws.proofs.LabelFlows.{done_at}
use Rattle.rina_laws.proofs.LabelRanks.{facs_of, shown}
use Rattle.rina_laws.proofs.LabelRests.{rest_same}
use Rattle.rina_laws.proofs.LabelSends.{DoesHere}

-- ---- the far end of an application

right_true : (a b : Bool) → a && b ≡ true → b ≡ true
right_true true b h = h
right_true false b h = let no : false ≡ true = h in cc

its_app : (node : ℕ) (app : List ℕ) (e : End) → is_of node app (Some e) ≡ true → e.app ≡ app
its_app node app e h = (bytes_eq-Decides e.app app).0 (right_true (e.port.node == node) (bytes_eq e.app app) h)

claimed_app : (s : Seen) (fac node : ℕ) (app : List ℕ) (port : Port) (s' : Seen) → (c : IsClaimed s fac node app port s') → c.end.app ≡ app
claimed_app s fac node app port s' c =
    let found = (position-Some (λ i. is_of node app (slice_get c.facility.ends i)) c.facility.waiting c.at 0 c.oldest).1 in
    let is : get_or c.facility.waiting c.at 0 ≡ c.place = get_or_from_slice_get c.facility.waiting c.at c.place 0 c.waits in
    its_app node app c.end (sym (ap (is_of node app) (ap (slice_get c.facility.ends) is ∙ c.is)) ∙ found)

taken_of : (s : Seen) (fac node : ℕ) (app : List ℕ) (port : Port) (s' : Seen) → is_ipc app ≡ false → IsClaimed s fac node app port s' → IsTaken s.facs fac port s'.facs
taken_of s fac node app port s' plain c = record {
  facility = c.facility;
  stands = c.stands;
  at = c.at;
  place = c.place;
  waits = c.waits;
  end = c.end;
  is = c.is;
  plain = ap is_ipc (claimed_app s fac node app port s' c) ∙ plain;
  its_port = c.its_port;
  new_is = ap (λ (z : Seen). z.facs) c.new_is;
}

-- ---- at the own rank

takes_here : (fac node : ℕ) (app : List ℕ) (port : Port) (u u' : Tower) → is_ipc app ≡ false → ClaimsAtTop fac node app (Some port) u u' → DoesHere (λ fs fs'. IsTaken fs fac port fs') u u'
takes_here fac node app port (Wires a) (Wires a') plain w = record { below = tt; done = taken_of (seen_of (Wires a)) fac node app port (seen_of (Wires a')) plain (seen_claims a fac node app (Some port) a' w) }
takes_here fac node app port (Rank' p difs below) (Rank' p' difs' below') plain w = record {
  below = w.1;
  done = elim w.0 [
    | inl h ↦ taken_of (seen_of_difs h.dif.clock difs) fac node app port (seen_of_difs h.dif.clock difs') plain (served (λ s s'. Claims s fac node app (Some port) s') fac h.dif h.dif' difs difs' h.is_dif h.new_is h.done)
    | inr h ↦ (let clash : Some port ≡ None = h.1 in cc)
  ];
}
takes_here fac node app port (Wires a) (Rank' p difs below) plain w = absurd w
takes_here fac node app port (Rank' p difs below) (Wires a) plain w = absurd w

rests_here : (fac node : ℕ) (app : List ℕ) (u u' : Tower) → ClaimsAtTop fac node app None u u' → RestsHere u u'
rests_here fac node app (Wires a) (Wires a') w = record { below = tt; rests = (let c = seen_claims a fac node app None a' w in rest_same (facs_of (Wires a)) (facs_of (Wires a')) (ap (λ (z : Seen). z.facs) c.1)) }
rests_here fac node app (Rank' p difs below) (Rank' p' difs' below') w = record {
  below = w.1;
  rests = elim w.0 [
    | inl h ↦
        let c = served (λ s s'. Claims s fac node app None s') fac h.dif h.dif' difs difs' h.is_dif h.new_is h.done in
        rest_same (map fac_of_dif difs) (map fac_of_dif difs') (ap (λ (z : Seen). z.facs) c.1)
    | inr h ↦ rest_same (map fac_of_dif difs) (map fac_of_dif difs') (ap (map fac_of_dif) h.2)
  ];
}
rests_here fac node app (Wires a) (Rank' p difs below) w = absurd w
rests_here fac node app (Rank' p difs below) (Wires a) w = absurd w

-- ---- by an application

abbrev ClaimsThere : ℕ → ℕ → List ℕ → Option Port → Tower → Tower → Type 0
ClaimsThere fac node app r u u' = ClaimsFor (is_ipc app) (λ x. ClaimsAtTop fac node app x u u') (u' ≡ u) r

takes_for : (fac node : ℕ) (app : List ℕ) (port : Port) (ipc : Bool) (u u' : Tower) → is_ipc app ≡ ipc → ClaimsFor ipc (λ x. ClaimsAtTop fac node app x u u') (u' ≡ u) (Some port) → DoesHere (λ fs fs'. IsTaken fs fac port fs') u u'
takes_for fac node app port true u u' is w = (let clash : Some port ≡ None = w.0 in cc)
takes_for fac node app port false u u' is w = takes_here fac node app port u u' is w

rests_for : (fac node : ℕ) (app : List ℕ) (ipc : Bool) (u u' : Tower) → ClaimsFor ipc (λ x. ClaimsAtTop fac node app x u u') (u' ≡ u) None → RestsHere u u'
rests_for fac node app true u u' w = rests_nothing u u' w.1
rests_for fac node app false u u' w = rests_here fac node app u u' w

some_none : (port : Port) → Some port ≡ None → ⊥
some_none port clash = cc

pub app_claims : (r fac node : ℕ) (app : List ℕ) (port : Port) (t t' : Tower) → AppClaims r fac node app (Some port) t t' → TakenAt (shown t) r fac port (shown t')
app_claims r fac node app port t t' d =
    let n = done_at r (λ fs fs'. IsTaken fs fac port fs') (ClaimsThere fac node app (Some port)) _ t t' (λ u u' is w. takes_for fac node app port (is_ipc app) u u' refl w) (some_none port) d in
    record { facs = n.facs; is_rank = n.is_rank; facs' = n.facs'; is_rank' = n.is_rank'; taken = n.done; others = n.others }

pub app_claims_none : (r fac node : ℕ) (app : List ℕ) (t t' : Tower) → IsTower t → AppClaims r fac node app None t t' → AllRest t t'
app_claims_none r fac node app t t' v d = call_rests r (ClaimsThere fac node app None) _ t t' v (λ u u' k w. rests_for fac node app (is_ipc app) u u' w) d
