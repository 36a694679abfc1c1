-- Sound wires are kept.
use Rattle.std.proofs.Common.{◌≡◌, ℕ, ◌*◌, ◌/◌, ◌≤◌, Bool, List, [], length, get_or, slice_get, Some, None, Option, option_map, All, refl, sym, ◌∙◌, ap, subst, inl, inr, arith}
use Rattle.std.proofs.lemmas.List.Elements.{All-cons, All-nil}
use Rattle.std.proofs.lemmas.Option.{same_Some, slice_get-get_or, slice_get_within}
use Rattle.rina_base.specs.declared.number.FlowName.{FlowName}
use Rattle.rina_base.specs.declared.number.Port.{Port}
use Rattle.rina_iface.specs.declared.ends.End.{End}
use Rattle.rina_iface.specs.Ends.{drawn_at}
use Rattle.rina_iface.specs.Journal.{At, HasPartner, HasPorts, IsKept, IsPartner, KeepsCube, Promises}
use Rattle.rina_iface.specs.Seen.{Fac, Offer}
use Rattle.rina_iface.proofs.Changed.{all_at}
use Rattle.rina_wire.specs.Air.{Air, Line, fac_of, offer_of, seen_of, wire_at}
use Rattle.rina_wire.specs.Send.{mate}
use Rattle.rina_wire.specs.Sound.{AreSound, KeepsFlows, IsSound, IsSoundLine, Site, role_at, site_of}
use Rattle.rina_wire.proofs.Asked.{drawn_here}
use Rattle.rina_wire.proofs.Mates.{mate_mate, mate_within, one_flow, role_apart}
use Rattle.rina_wire.proofs.Seen.{fac_at}

-- partners are mates
mate_of : (s : Site) (now frames : ℕ) (ends : List End) (i k : ℕ) (e other : End) → AreSound s now frames ends → At ends i e → At ends k other → IsPartner e other → k ≡ mate i
mate_of s now frames ends i k e other sound he ho p =
    let x = sound.each i e he in
    let y = sound.each k other ho in
    let counts : i / 2 ≡ k / 2 = sym x.flow ∙ ap (λ (f : FlowName). f.count) (sym p.same_flow) ∙ y.flow in
    elim (one_flow i k counts) [
      | inl same ↦ absurd (p.other_role (y.role ∙ ap role_at same ∙ sym x.role))
      | inr m ↦ m
    ]

-- mates are partners
pub partners : (s : Site) (now frames : ℕ) (ends : List End) (i : ℕ) (e other : End) → AreSound s now frames ends → At ends i e → At ends (mate i) other → IsPartner e other
partners s now frames ends i e other sound he ho = record {
  same_flow = (sound.mates i e other he ho).flow;
  other_role = λ h. role_apart i (sym (sound.each (mate i) other ho).role ∙ h ∙ (sound.each i e he).role);
}

-- each end has a partner
has_partner : (s : Site) (now frames flows : ℕ) (ends : List End) (i : ℕ) (e : End) → length ends ≡ 2 * flows → AreSound s now frames ends → At ends i e → HasPartner ends e
has_partner s now frames flows ends i e pairs sound he =
    let within = mate_within i (length ends) flows pairs (slice_get_within ends i e he) in
    let ho = slice_get-get_or ends (mate i) e within in
    record { place = mate i; other = get_or ends (mate i) e; stands = ho; partner = partners s now frames ends i e (get_or ends (mate i) e) sound he ho }

-- an end keeps what its wire promises
keeps_cube : (now fac : ℕ) (l : Line) (i k : ℕ) (e other : End) → IsSoundLine l → AreSound (site_of fac l) now l.frames l.ends → At l.ends i e → At l.ends k other → IsPartner e other → KeepsCube (fac_of l) e other
keeps_cube now fac l i k e other line sound he ho p =
    let place = mate_of (site_of fac l) now l.frames l.ends i k e other sound he ho p in
    let there : At l.ends (mate i) other = rw (← place) ho in
    let cube : e.cube ≡ 0 = all_at (λ (x : End). x.cube ≡ 0) l.ends i e line.cubes he in
    record { cube = offer_of l; offer = rw cube refl; keeps = (sound.mates i e other he there).born }

kept_line : (now : ℕ) (failed : Bool) (fac : ℕ) (l : Line) → IsSoundLine l → KeepsFlows now failed fac l → IsKept now (fac_of l)
kept_line now failed fac l line c =
    let sound = c.sound in
    let s = site_of fac l in
    let cube = λ (i : ℕ) (e : End) (h : At l.ends i e). all_at (λ (x : End). x.cube ≡ 0) l.ends i e line.cubes h in
    record {
      distinct = λ i k a b ha hb flow role.
          let counts : i / 2 ≡ k / 2 = sym (sound.each i a ha).flow ∙ ap (λ (f : FlowName). f.count) flow ∙ (sound.each k b hb).flow in
          elim (one_flow i k counts) [
            | inl same ↦ sym same
            | inr m ↦ absurd (role_apart i (ap role_at (sym m) ∙ sym (sound.each k b hb).role ∙ sym role ∙ (sound.each i a ha).role))
          ];
      far = λ i e h far. has_partner s now l.frames l.flows l.ends i e c.pairs sound h;
      keeps = λ i k e other he ho p. keeps_cube now fac l i k e other line sound he ho p;
      named = λ i k e other he ho p.
          let there : At l.ends (mate i) other = rw (← mate_of s now l.frames l.ends i k e other sound he ho p) ho in
          let there' : At l.ends (mate (mate i)) e = rw (mate_mate i) he in
          record {
            peer = (sound.mates (mate i) other e there there').peer;
            its_peer = (sound.mates i e other he there).peer;
            cube = cube k other ho ∙ sym (cube i e he);
          };
      alone = λ i e h none. absurd (none (has_partner s now l.frames l.flows l.ends i e c.pairs sound h));
      whole = λ i e h. (sound.each i e h).whole;
    }

has_ports : (now : ℕ) (failed : Bool) (fac : ℕ) (l : Line) → IsSoundLine l → KeepsFlows now failed fac l → HasPorts fac (fac_of l)
has_ports now failed fac l line c =
    let sound = c.sound in
    record {
      own = λ i e h. (sound.each i e h).facility;
      apart = λ i k a b ha hb port.
          let number = ap (λ (p : Port). p.n) port in
          let x = (sound.each i a ha).number in
          let y = (sound.each k b hb).number in
          elim (one_flow i k (omega (arith, number, x, y))) [
            | inl same ↦ sym same
            | inr m ↦
                let there : At l.ends (mate i) b = rw (← m) hb in
                absurd ((sound.mates i a b ha there).node (ap (λ (p : Port). p.node) (sym port)))
          ];
      drawn = λ i e h.
          let x = sound.each i e h in
          let drawn : drawn_at e.port.node l.ends ≡ l.flows = drawn_here l e.port.node line x.node in
          let within = slice_get_within l.ends i e h in
          omega (arith, x.number, drawn, within, c.pairs);
    }

promises : (l : Line) → IsSoundLine l → Promises (fac_of l)
promises l line =
    let P : Offer → Type 0 = λ (o : Offer). o.promise ≤ 2000000 in
    All-cons P (offer_of l) [] (omega (arith, line.life)) (All-nil P)

-- what is there after a change was there before
pub is_mapped : {X Y : Type 0} (f : X → Y) (o : Option X) (y : Y) → option_map f o ≡ Some y → (x : X) × (o ≡ Some x) × (f x ≡ y)
is_mapped f None y h = cc
is_mapped f (Some x) y h = (x, refl, same_Some (f x) y h)

-- what is seen at a number is a wire
wire_of : (a : Air) (n : ℕ) (f : Fac) → slice_get (seen_of a).facs n ≡ Some f → (l : Line) × (wire_at a n ≡ Some l) × (fac_of l ≡ f)
wire_of a n f h = is_mapped fac_of (wire_at a n) f (sym (fac_at a n) ∙ h)

-- what holds of each wire holds of what is seen
pub sound_of : (a : Air) → a.now ≤ 10000000 → All IsSoundLine a.wires → ((fac : ℕ) (l : Line) → wire_at a fac ≡ Some l → KeepsFlows a.now a.failed fac l) → IsSound a
sound_of a clock lines flows =
    let line = λ (n : ℕ) (l : Line) (h : wire_at a n ≡ Some l). all_at IsSoundLine a.wires n l lines h in
    record {
      clock = clock;
      lines = lines;
      flows = flows;
      kept = record {
        kept = λ n f h. let w = wire_of a n f h in subst (IsKept a.now) w.2 (kept_line a.now a.failed n w.0 (line n w.0 w.1) (flows n w.0 w.1));
        ports = λ n f h. let w = wire_of a n f h in subst (HasPorts n) w.2 (has_ports a.now a.failed n w.0 (line n w.0 w.1) (flows n w.0 w.1));
        promises = λ n f h. let w = wire_of a n f h in subst Promises w.2 (promises w.0 (line n w.0 w.1));
      };
    }
