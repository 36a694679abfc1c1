-- What a call does to the ends below, as far as a DIF looks at them.
use Rattle.std.proofs.Common.{◌≡◌, ℕ, ◌≤◌, List, [], slice_get, Some, None, Option, refl, sym, subst, arith, inl, inr, ◌⊎◌}
use Rattle.rina_base.specs.declared.number.Num.{Num}
use Rattle.rina_base.specs.declared.number.Port.{Port}
use Rattle.rina_iface.specs.declared.ends.End.{End}
use Rattle.rina_iface.specs.Ends.{with_passed, with_sent}
use Rattle.rina_iface.specs.Journal.{AreKept}
use Rattle.rina_iface.specs.Later.{IsLater}
use Rattle.rina_iface.specs.Pass.{IsPassed}
use Rattle.rina_iface.specs.Seen.{Fac, Seen, Stands, end_of, largest_at, promise_at, with_end, with_fac}
use Rattle.rina_iface.specs.Send.{IsSent}
use Rattle.rina_iface.proofs.Found.{end_of_stands, found, largest_stays, promise_stays, stands_later}
use Rattle.rina_iface.proofs.Grown.{pushed_at, still_at}
use Rattle.rina_law.specs.declared.entry.Entry.{Entry}
use Rattle.rina_dif_law.specs.Cloud.{IsMine}
use Rattle.rina_data.specs.Configs.{Config}
use Rattle.rina_dif_law.specs.Lifting.{IsLifted}
use Rattle.rina_dif_law.specs.Standing.{IsInside}
use Rattle.rina_dif_law.proofs.Ends.{IsEndAt, at_end, changed_cases, end_at, same_some, stands_end}

-- an end after a call: what was got stays, and what was passed is passed
pub record IsKin (old new : Seen) (port : Port) (e e' : End) : Type 0 where
  pub app : e'.app ≡ e.app
  pub peer : e'.peer ≡ e.peer
  pub promise : promise_at new port ≡ promise_at old port
  pub largest : largest_at new port ≡ largest_at old port
  pub got : (k : ℕ) (x : Entry) → slice_get e.got k ≡ Some x → slice_get e'.got k ≡ Some x
  pub taken : e.taken ≤ e'.taken

-- the ends below after a call. Those of members sent in it what `more` says, and no more
pub record IsAfter (g : Config) (more : Port → Entry → Type 0) (old new : Seen) : Type 0 where
  pub forth : (port : Port) (e : End) → end_of old port ≡ Some e → (e' : End) × (end_of new port ≡ Some e') × IsKin old new port e e'
  pub sent : (port : Port) (e e' : End) (j : ℕ) (x : Entry) → end_of old port ≡ Some e → end_of new port ≡ Some e' → IsMine g.members e'.app → slice_get e'.sent j ≡ Some x → (slice_get e.sent j ≡ Some x) ⊎ more port x
  pub fresh : (port : Port) (e' : End) → end_of new port ≡ Some e' → end_of old port ≡ None → IsMine g.members e'.app ⊎ IsMine g.members e'.peer → (e'.sent ≡ []) × IsInside g new port e'

-- an end after a call was there before, or its port was never drawn
pub back : (g : Config) (more : Port → Entry → Type 0) (old new : Seen) → IsAfter g more old new → (port : Port) (e' : End) → end_of new port ≡ Some e' → ((e : End) × (end_of old port ≡ Some e) × IsKin old new port e e') ⊎ (end_of old port ≡ None)
back g more old new after port e' h = elim (end_of old port) as (λ o. end_of old port ≡ o → ((e : End) × (end_of old port ≡ Some e) × IsKin old new port e e') ⊎ (end_of old port ≡ None)) [
  | None ↦ λ was. inr was
  | Some e ↦ λ was.
      let f = after.forth port e was in
      let is : f.0 ≡ e' = same_some (end_of new port) f.0 e' f.1 h in
      inl (e, was, subst (λ (x : End). IsKin old new port e x) is f.2)
] refl

abbrev pub NoMore : Port → Entry → Type 0
NoMore port x = ⊥

abbrev pub Just : Port → Entry → Port → Entry → Type 0
Just port x p y = (p ≡ port) × (y ≡ x)

kin_refl : (s : Seen) (port : Port) (e : End) → IsKin s s port e e
kin_refl s port e = record { app = refl; peer = refl; promise = refl; largest = refl; got = λ k x h. h; taken = omega arith }

none_some : {X : Type 0} (o : Option X) (x : X) → o ≡ Some x → o ≡ None → ⊥
none_some o x h g = cc

-- nothing was done below
pub after_none : (g : Config) (s : Seen) → IsAfter g NoMore s s
after_none g s = record {
  forth = λ port e h. (e, h, kin_refl s port e);
  sent = λ port e e' j x h h' mine is. inl (subst (λ (a : End). slice_get a.sent j ≡ Some x) (same_some (end_of s port) e' e h' h) is);
  fresh = λ port e' h none mine. absurd (none_some (end_of s port) e' h none);
}

-- an end that was there is there later
kin_later : (old new : Seen) (port : Port) (e : End) → IsLater old new → AreKept new → end_of old port ≡ Some e → (e' : End) × (end_of new port ≡ Some e') × IsKin old new port e e'
kin_later old new port e later kept h =
    let f = found old port e h in
    let l = stands_later old new port f.facility f.place e later kept f.stands in (
      l.end,
      end_of_stands new port l.facility f.place l.end l.stands,
      record {
        app = l.later.app;
        peer = l.later.peer;
        promise = promise_stays old new port e later kept h;
        largest = largest_stays old new port e later kept h;
        got = λ k x at. subst (λ (xs : List Entry). slice_get xs k ≡ Some x) (sym l.later.got.is) (still_at e.got l.later.got.more k x at);
        taken = l.later.taken;
      },
    )

-- one end changed, and sent at most what `more` says
changed : (g : Config) (more : Port → Entry → Type 0) (s : Seen) (port : Port) (f : Fac) (i : ℕ) (e e' : End) (s' : Seen) → AreKept s → AreKept s' → IsLater s s' → Stands s port f i e → e'.port ≡ e.port → s' ≡ with_fac s port.fac (with_end f i e') → ((j : ℕ) (x : Entry) → slice_get e'.sent j ≡ Some x → (slice_get e.sent j ≡ Some x) ⊎ more port x) → IsAfter g more s s'
changed g more s port f i e e' s' kept kept' later st same is sent =
    let there = stands_end s port f i e st in
    let cases : (p : Port) (a : End) → end_of s' p ≡ Some a → ((p ≡ port) × (a ≡ e')) ⊎ IsEndAt s p a = λ p a h. changed_cases s port f i e e' p a st same (subst (λ (z : Seen). IsEndAt z p a) is (end_at s' p a h)) in
    record {
      forth = λ p a h. kin_later s s' p a later kept' h;
      sent = λ p a a' j x h h' mine at. elim (cases p a' h') [
        | inl t ↦
            let was : end_of s p ≡ Some e = subst (λ (q : Port). end_of s q ≡ Some e) (sym t.0) (at_end s port e kept there) in
            let a_is : a ≡ e = same_some (end_of s p) a e h was in
            elim (sent j x (subst (λ (z : End). slice_get z.sent j ≡ Some x) t.1 at)) [
              | inl o ↦ inl (subst (λ (z : End). slice_get z.sent j ≡ Some x) (sym a_is) o)
              | inr n ↦ inr (subst (λ (q : Port). more q x) (sym t.0) n)
            ]
        | inr t ↦ inl (subst (λ (z : End). slice_get z.sent j ≡ Some x) (same_some (end_of s p) a' a (at_end s p a' kept t) h) at)
      ];
      fresh = λ p a' h' none mine. elim (cases p a' h') [
        | inl t ↦ absurd (none_some (end_of s port) e (at_end s port e kept there) (subst (λ (q : Port). end_of s q ≡ None) t.0 none))
        | inr t ↦ absurd (none_some (end_of s p) a' (at_end s p a' kept t) none)
      ];
    }

-- an SDU was passed
pub after_passed : (g : Config) (s : Seen) (port : Port) (s' : Seen) → AreKept s → AreKept s' → IsLater s s' → IsPassed s port s' → IsAfter g NoMore s s'
after_passed g s port s' kept kept' later w = changed g NoMore s port w.facility w.place w.end (with_passed w.end) s' kept kept' later w.stands refl w.new_is (λ j x h. inl h)

-- an SDU was sent
pub after_sent : (g : Config) (s : Seen) (port : Port) (bytes : List ℕ) (num : Num) (s' : Seen) → AreKept s → AreKept s' → IsLater s s' → IsSent s port bytes num s' → IsAfter g (Just port (record { tick = s.now; num = num; bytes = bytes })) s s'
after_sent g s port bytes num s' kept kept' later w =
    let x : Entry = record { tick = s.now; num = num; bytes = bytes } in
    changed g (Just port x) s port w.facility w.place w.end (with_sent w.end x) s' kept kept' later w.stands refl w.new_is (λ j y h. elim (pushed_at w.end.sent x j y h) [
      | inl o ↦ inl o
      | inr n ↦ inr (refl, n.1)
    ])

-- the rank below went on without the DIF
pub after_lifted : (g : Config) (s s' : Seen) → AreKept s' → IsLifted g s s' → IsAfter g NoMore s s'
after_lifted g s s' kept lifted = record {
  forth = λ port e h. kin_later s s' port e lifted.later kept h;
  sent = λ port e e' j x h h' mine at. inl (subst (λ (xs : List Entry). slice_get xs j ≡ Some x) ((lifted.stays port e e' h h' mine).0) at);
  fresh = lifted.fresh;
}

-- what was sent at one end of a member is sent, as long as the DIF looks: an IPC process of none of its members sent
pub no_more_of_others : (g : Config) (port : Port) (x : Entry) (s s' : Seen) → ((e : End) → end_of s port ≡ Some e → IsMine g.members e.app → ⊥) → IsAfter g (Just port x) s s' → IsAfter g NoMore s s'
no_more_of_others g port x s s' others after = record {
  forth = after.forth;
  sent = λ p e e' j y h h' mine at. elim (after.sent p e e' j y h h' mine at) [
    | inl o ↦ inl o
    | inr n ↦
        let f = after.forth p e h in
        let is : f.0 ≡ e' = same_some (end_of s' p) f.0 e' f.1 h' in
        let app : e'.app ≡ e.app = subst (λ (z : End). z.app ≡ e.app) is f.2.app in
        absurd (others e (subst (λ (q : Port). end_of s q ≡ Some e) n.0 h) (subst (IsMine g.members) app mine))
  ];
  fresh = after.fresh;
}
