-- What the claim of a flow below is to a DIF: it holds on over the rank below, and the far end that was claimed is one of the member for which it
-- was.
use Rattle.std.proofs.Common.{◌≡◌, ◌∙◌, ℕ, ◌≤◌, true, List, length, slice_get, Option, Some, None, option_and_then, option_map, refl, sym, ap, subst, arith, inl, inr}
use Rattle.std.specs.Prelude.{remove}
use Rattle.std.proofs.lemmas.Bool.Decides.{eqb_tells}
use Rattle.std.proofs.lemmas.List.{length-set}
use Rattle.std.proofs.lemmas.Option.{slice_get-map}
use Rattle.std.proofs.lemmas.Slice.Eq.{bytes_eq-Decides}
use Rattle.rina_base.specs.declared.number.Port.{Port}
use Rattle.rina_queue.proofs.Places.{first_passes}
use Rattle.rina_data.specs.declared.settings.Member.{Member}
use Rattle.rina_data.specs.Configs.{Config, config_of, member_of}
use Rattle.rina_dif_law.specs.Cloud.{IsMine}
use Rattle.rina_dif_law.specs.Lifting.{IsLifted}
use Rattle.rina_dif_law.specs.Standing.{IsLinked}
use Rattle.rina_iface.specs.declared.ends.End.{End}
use Rattle.rina_iface.specs.Claim.{IsClaimed}
use Rattle.rina_iface.specs.Ends.{end_in}
use Rattle.rina_iface.specs.Journal.{AreKept, HasPorts, IsKept, Promises}
use Rattle.rina_iface.specs.Later.{IsLater, IsLaterFac}
use Rattle.rina_iface.specs.Seen.{Fac, Seen, end_of, is_of, with_fac}
use Rattle.rina_iface.proofs.Changed.{set_at, slice_get-set_other, slice_get-set_same}
use Rattle.rina_iface.proofs.Found.{end_of_stands, stands_there}
use Rattle.rina_iface.proofs.Later.{ends_refl, later_fac}
use Rattle.rina_law.specs.Direction.{Direction}
use Rattle.rina_dif.specs.declared.dif.Dif.{Dif}
use Rattle.rina_dif.specs.Claiming.{ClaimsFirst}
use Rattle.rina_dif.specs.Holding.{Holds}
use Rattle.rina_dif.proofs.FreedBelow.{holds_lifted}

same_some : {X : Type 0} (o : Option X) (a b : X) → o ≡ Some a → o ≡ Some b → a ≡ b
same_some o a b h g = cc

none_some : {X : Type 0} (o : Option X) (e : X) → o ≡ None → o ≡ Some e → ⊥
none_some o e h g = cc

-- an end of an application at a node is one of that application
its_app : (node : ℕ) (app : List ℕ) (e : End) → is_of node app (Some e) ≡ true → e.app ≡ app
its_app node app e is = (let d = bytes_eq-Decides e.app app in grind (arith, d, is))

-- The rank below

module _ (old : Seen) (fac node : ℕ) (app : List ℕ) (port : Port) (new : Seen) (c : IsClaimed old fac node app port new) where
  abbrev after : Fac
  after = record c.facility { waiting = remove c.facility.waiting c.at }

  -- it goes on
  pub claimed_later : IsLater old new
  claimed_later = subst (IsLater old) (sym c.new_is) (later_fac old fac c.facility after c.stands (record { ends = ends_refl old.now old.now c.facility.ends; cubes = refl }))

  pub claimed_clock : new.now ≡ old.now
  claimed_clock = ap (λ (z : Seen). z.now) c.new_is

  -- no end changes
  end_same : (p : Port) → end_of (with_fac old fac after) p ≡ end_of old p
  end_same p = elim (eqb_tells p.fac fac) [
    | inl t ↦
        (let set : slice_get (with_fac old fac after).facs p.fac ≡ Some after = ap (slice_get (with_fac old fac after).facs) t.1 ∙ slice_get-set_same old.facs fac c.facility after c.stands in
        let was : slice_get old.facs p.fac ≡ Some c.facility = ap (slice_get old.facs) t.1 ∙ c.stands in
        ap (option_and_then (λ (f : Fac). end_in p f.ends)) set ∙ sym (ap (option_and_then (λ (f : Fac). end_in p f.ends)) was))
    | inr u ↦ ap (option_and_then (λ (f : Fac). end_in p f.ends)) (slice_get-set_other old.facs fac p.fac after u.1)
  ]

  claimed_ends : (p : Port) → end_of new p ≡ end_of old p
  claimed_ends p = ap (λ (z : Seen). end_of z p) c.new_is ∙ end_same p

  claimed_lifted : (g : Config) → IsLifted g old new
  claimed_lifted g = record {
    later = claimed_later;
    stays = λ p e e' here here' own. (let same : e' ≡ e = same_some (end_of old p) e' e (sym (claimed_ends p) ∙ here') here in (ap (λ (z : End). z.sent) same, ap (λ (z : End). z.taken) same));
    fresh = λ p e' here' none own. absurd (none_some (end_of old p) e' none (sym (claimed_ends p) ∙ here'));
    unread = λ p e' here' none own. absurd (none_some (end_of old p) e' none (sym (claimed_ends p) ∙ here'));
  }

  -- the end that was claimed is one of the application
  pub claimed_end : AreKept old → IsLinked new app port
  claimed_end kept =
      let there = stands_there old fac c.facility c.place c.end c.stands (kept.ports fac c.facility c.stands) c.is in
      let own : end_of old c.end.port ≡ Some c.end = end_of_stands old c.end.port c.facility c.place c.end there in
      let x = first_passes (λ (k : ℕ). is_of node app (slice_get c.facility.ends k)) c.facility.waiting c.at c.oldest in
      let same : x.0 ≡ c.place = same_some (slice_get c.facility.waiting c.at) x.0 c.place x.1.stands c.waits in
      let passes : is_of node app (slice_get c.facility.ends c.place) ≡ true = subst (λ (k : ℕ). is_of node app (slice_get c.facility.ends k) ≡ true) same x.1.passes in
      record {
        end = c.end;
        here = claimed_ends port ∙ ap (end_of old) c.its_port ∙ own;
        app = its_app node app c.end (ap (is_of node app) (sym c.is) ∙ passes);
      }

-- The facilities keep their laws

-- what waits is no part of them
still_kept : (now : ℕ) (before : Fac) (waiting : List ℕ) → IsKept now before → IsKept now (record before { waiting = waiting })
still_kept now before waiting k = record { distinct = k.distinct; far = k.far; keeps = λ i j e other at there partner. (let x = k.keeps i j e other at there partner in record { cube = x.cube; offer = x.offer; keeps = x.keeps }); named = k.named; alone = k.alone; whole = k.whole }

still_ports : (n : ℕ) (before : Fac) (waiting : List ℕ) → HasPorts n before → HasPorts n (record before { waiting = waiting })
still_ports n before waiting p = record { own = p.own; apart = p.apart; drawn = p.drawn }

module _ (old : Seen) (fac node : ℕ) (app : List ℕ) (port : Port) (new : Seen) (c : IsClaimed old fac node app port new) where
  -- each facility is as it was, but for what waits
  record Same (n : ℕ) (f : Fac) : Type 0 where
    before : Fac
    stands : slice_get old.facs n ≡ Some before
    waiting : List ℕ
    is : f ≡ record before { waiting = waiting }

  was : (n : ℕ) (f : Fac) → slice_get new.facs n ≡ Some f → Same n f
  was n f is =
      let next = after old fac node app port new c in
      let set : slice_get (with_fac old fac next).facs n ≡ Some f = ap (λ (z : Seen). slice_get z.facs n) (sym c.new_is) ∙ is in
      elim (set_at old.facs fac n c.facility next f c.stands set) [
        | inl t ↦ record { before = c.facility; stands = ap (slice_get old.facs) t.0 ∙ c.stands; waiting = next.waiting; is = t.1 }
        | inr u ↦ record { before = f; stands = u.1; waiting = f.waiting; is = refl }
      ]

  pub claimed_kept : AreKept old → AreKept new
  claimed_kept k =
      let clock = sym (claimed_clock old fac node app port new c) in
      record {
        kept = λ n f is. (let s = was n f is in subst (IsKept new.now) (sym s.is) (subst (λ (now : ℕ). IsKept now (record s.before { waiting = s.waiting })) clock (still_kept old.now s.before s.waiting (k.kept n s.before s.stands))));
        ports = λ n f is. (let s = was n f is in subst (HasPorts n) (sym s.is) (still_ports n s.before s.waiting (k.ports n s.before s.stands)));
        promises = λ n f is. (let s = was n f is in subst Promises (sym s.is) (k.promises n s.before s.stands));
      }

  -- what is later than the rank before it is later than the rank after it
  pub later_after : (last : Seen) → IsLater old last → IsLater new last
  later_after last l =
      let clock = sym (claimed_clock old fac node app port new c) in
      record {
        clock = subst (λ (now : ℕ). now ≤ last.now) clock l.clock;
        number = l.number ∙ sym (ap (λ (z : Seen). length z.facs) c.new_is ∙ length-set old.facs fac (after old fac node app port new c));
        facs = λ n f is.
            let s = was n f is in
            let g = l.facs n s.before s.stands in
            let same : IsLaterFac new.now last.now (record s.before { waiting = s.waiting }) g.0 = subst (λ (now : ℕ). IsLaterFac now last.now (record s.before { waiting = s.waiting }) g.0) clock (record { ends = g.2.ends; cubes = g.2.cubes }) in
            (g.0, g.1, subst (λ (z : Fac). IsLaterFac new.now last.now z g.0) (sym s.is) same);
      }

-- A DIF over it

-- the end is a member's, where it waited for one
pub claimed_mine : (d : Dif) (i : ℕ) (member : Member) (below below' : Seen) (node : ℕ) (port : Port) → slice_get d.settings.members i ≡ Some member → AreKept below → ClaimsFirst below node member.name port below' → (e : End) → end_of below' port ≡ Some e → IsMine (config_of d.settings).members e.app
claimed_mine d i member below below' node port is kept c e here =
    let x = claimed_end below c.fac node member.name port below' c.claimed kept in
    let name : member.name ≡ e.app = sym x.app ∙ ap (λ (z : End). z.app) (same_some (end_of below' port) x.end e x.here here) in
    record { addr = member.addr; member = record { place = i; member = member_of member; stands = slice_get-map member_of d.settings.members i ∙ ap (option_map member_of) is; addr_is = refl; name_is = name } }

-- the DIF holds on
pub holds_claimed : (d : Dif) (lines : List Direction) (below below' : Seen) (node : ℕ) (app : List ℕ) (port : Port) → AreKept below' → ClaimsFirst below node app port below' → Holds d lines below → Holds d lines below'
holds_claimed d lines below below' node app port kept' c h = holds_lifted d lines below below' kept' (claimed_lifted below c.fac node app port below' c.claimed (config_of d.settings)) (claimed_clock below c.fac node app port below' c.claimed) h
