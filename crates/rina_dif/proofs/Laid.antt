-- What is laid on the rank below.
use Rattle.std.proofs.Common.{◌≡◌, ◌∙◌, ◌⊎◌, List, Option, option_map, slice_get, subst, Some, None, Ok, refl, sym, ap, inl, inr}
use Rattle.rina_base.specs.declared.number.Port.{Port}
use Rattle.rina_iface.specs.declared.ask.Fixed.{Fixed}
use Rattle.rina_iface.specs.declared.ends.End.{End}
use Rattle.rina_iface.specs.Bind.{CanBind, IsBound}
use Rattle.rina_iface.specs.Journal.{AreKept}
use Rattle.rina_iface.specs.Seen.{Fac, Offer, Seen, cube_at, cube_in, end_of}
use Rattle.rina_iface.proofs.Found.{found, largest_stays}
use Rattle.rina_iface.proofs.Later.{later_refl}
use Rattle.rina_iface.proofs.LaterCalls.{later_binds}
use Rattle.rina_iface.proofs.LaterOn.{later_on}
use Rattle.rina_dif_law.specs.Cloud.{IsMine}
use Rattle.rina_data.specs.Configs.{Config, Member}
use Rattle.rina_dif_law.specs.Standing.{IsInside}
use Rattle.rina_dif.specs.Laying.{IsLaid, IsLaidIn, IsNewEnd, Takes}
use Rattle.rina_dif.proofs.Below.{one_of, stays}

none_and_some : (s : Seen) (members : List Member) (port : Port) (e : End) → end_of s port ≡ Some e → end_of s port ≡ None → IsNewEnd members e
none_and_some s members port e is none = absurd (let same : Some e ≡ None = sym is ∙ none in cc)

-- nothing was laid yet
pub laid_none : (members : List Member) (s : Seen) → IsLaid members s s
laid_none members s = record { clock = refl; later = later_refl s; stays = λ port e is. is; fresh = none_and_some s members }

-- The links of a DIF

pub laid_in_none : (g : Config) (s : Seen) → IsLaidIn g s s
laid_in_none g s = record { laid = laid_none g.members s; inside = λ port e is none. absurd (let same : Some e ≡ None = sym is ∙ none in cc) }

-- an end stood there, or it did not
pub stood_there : (s : Seen) (port : Port) (P : Type 0) → ((e : End) → end_of s port ≡ Some e → P) → (end_of s port ≡ None → P) → P
stood_there s port P some none = by (end_of s port) refl
  where
    by : (o : Option End) → end_of s port ≡ o → P
    by None is = none is
    by (Some e) is = some e is

pub same_end : (s : Seen) (port : Port) (e e' : End) → end_of s port ≡ Some e → end_of s port ≡ Some e' → e ≡ e'
same_end s port e e' is is' = (let both : Some e ≡ Some e' = sym is ∙ is' in cc)

-- one after the other
pub laid_on : (g : Config) (a b c : Seen) → AreKept c → IsLaidIn g a b → IsLaidIn g b c → IsLaidIn g a c
laid_on g a b c kept x y = record {
  laid = record {
    clock = y.laid.clock ∙ x.laid.clock;
    later = later_on a b c x.laid.later y.laid.later;
    stays = λ port e is. y.laid.stays port e (x.laid.stays port e is);
    fresh = λ port e is none. stood_there b port (IsNewEnd g.members e) (λ e0 at. let same = same_end c port e0 e (y.laid.stays port e0 at) is in x.laid.fresh port e (at ∙ ap (λ (z : End). Some z) same) none) (λ at. y.laid.fresh port e is at);
  };
  inside = λ port e is none. stood_there b port (IsInside g c port e) (λ e0 at.
      let same = same_end c port e0 e (y.laid.stays port e0 at) is in
      let before = x.inside port e (at ∙ ap (λ (z : End). Some z) same) none in
      record { app = before.app; peer = before.peer; largest = before.largest; is_largest = largest_stays b c port e0 y.laid.later kept at ∙ before.is_largest; whole = before.whole }) (λ at. y.inside port e is at);
}

-- One bind

-- the cube of an end that was found
cube_there : (s : Seen) (port : Port) (e : End) (f : Fac) → end_of s port ≡ Some e → slice_get s.facs port.fac ≡ Some f → cube_at s port ≡ cube_in f.cubes e.cube
cube_there s port e f is at =
    let there = found s port e is in
    let same : there.facility ≡ f = (let both : Some there.facility ≡ Some f = sym there.stands.facility ∙ at in cc) in
    rw (there.stands.facility, there.stands.place, there.stands.is, same) refl

abbrev new_app : (f : Fixed) (e : End) → Type 0
new_app f e = ((e.app ≡ f.a_app) × (e.peer ≡ f.b_app)) ⊎ ((e.app ≡ f.b_app) × (e.peer ≡ f.a_app))

pub bind_laid : (g : Config) (s : Seen) (f : Fixed) (p q : Port) (new : Seen) → CanBind s f → IsBound s f p q new → AreKept s → AreKept new → IsMine g.members f.a_app → IsMine g.members f.b_app → Takes s g.pdu f → IsLaidIn g s new
bind_laid g s f p q new can b kept kept' a_mine b_mine takes = record {
  laid = record {
    clock = ap (λ (z : Seen). z.now) b.new_is;
    later = later_binds s f (Ok (p, q)) new b;
    stays = stays s f p q new b kept';
    fresh = λ port e is none. elim ((one_of s f p q new b kept port e is none).1) [
      | inl asker ↦ record { app = subst (IsMine g.members) (sym (ap (λ (z : End). z.app) asker)) a_mine; peer = subst (IsMine g.members) (sym (ap (λ (z : End). z.peer) asker)) b_mine; sent = ap (λ (z : End). z.sent) asker; taken = ap (λ (z : End). z.taken) asker }
      | inr far ↦ record { app = subst (IsMine g.members) (sym (ap (λ (z : End). z.app) far)) b_mine; peer = subst (IsMine g.members) (sym (ap (λ (z : End). z.peer) far)) a_mine; sent = ap (λ (z : End). z.sent) far; taken = ap (λ (z : End). z.taken) far }
    ];
  };
  inside = λ port e is none.
      let one = one_of s f p q new b kept port e is none in
      let same : can.facility ≡ b.facility = (let both : Some can.facility ≡ Some b.facility = sym can.stands ∙ b.stands in cc) in
      let cube_is : e.cube ≡ f.cube = elim (one.1) [ inl asker ↦ ap (λ (z : End). z.cube) asker | inr far ↦ ap (λ (z : End). z.cube) far ] in
      let cubes : cube_in b.facility.cubes e.cube ≡ Some can.cube = ap (cube_in b.facility.cubes) cube_is ∙ ap (λ (z : Fac). cube_in z.cubes f.cube) (sym same) ∙ can.offer in
      let fresh : IsNewEnd g.members e = elim (one.1) [
        | inl asker ↦ record { app = subst (IsMine g.members) (sym (ap (λ (z : End). z.app) asker)) a_mine; peer = subst (IsMine g.members) (sym (ap (λ (z : End). z.peer) asker)) b_mine; sent = ap (λ (z : End). z.sent) asker; taken = ap (λ (z : End). z.taken) asker }
        | inr far ↦ record { app = subst (IsMine g.members) (sym (ap (λ (z : End). z.app) far)) b_mine; peer = subst (IsMine g.members) (sym (ap (λ (z : End). z.peer) far)) a_mine; sent = ap (λ (z : End). z.sent) far; taken = ap (λ (z : End). z.taken) far }
      ] in
      record { app = fresh.app; peer = fresh.peer; largest = can.cube.largest; is_largest = ap (option_map (λ (c : Offer). c.largest)) (cube_there new port e _ is one.0 ∙ cubes); whole = takes can.facility can.cube can.stands can.offer };
}
