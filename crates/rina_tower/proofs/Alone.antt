-- What a call leaves alone.
use Rattle.std.proofs.Common.{◌≡◌, ◌∙◌, ℕ, zero, suc, ◌≤◌, List, [], ◌∷◌, ◌++◌, length, slice_get, slice_set, Some, None, option_map, refl, sym, ap, subst, arith, inl, inr, ◌⊎◌}
use Rattle.std.proofs.lemmas.Bool.{cases_lt}
use Rattle.std.proofs.lemmas.Option.{same_Some, slice_get_within}
use Rattle.rina_base.specs.declared.number.Port.{Port}
use Rattle.rina_iface.specs.declared.ends.End.{End}
use Rattle.rina_iface.specs.Journal.{AreKept, At}
use Rattle.rina_iface.specs.Later.{AreLater, IsLater, IsLaterEnd}
use Rattle.rina_iface.specs.Seen.{Fac, Offer, Seen, Stands, cube_in, end_of, largest_at, with_fac}
use Rattle.rina_iface.proofs.Changed.{set_at}
use Rattle.rina_iface.proofs.FarEnds.{answers_old, answers_on}
use Rattle.rina_iface.proofs.Found.{end_of_stands, found, its_port, stands_later, stands_there}
use Rattle.rina_iface.proofs.Later.{later_refl}
use Rattle.rina_iface.proofs.LaterOn.{later_on}
use Rattle.rina_dif_law.specs.Cloud.{IsMine}
use Rattle.rina_data.specs.Configs.{Config}
use Rattle.rina_dif_law.specs.Lifting.{IsLifted}
use Rattle.rina_dif_law.specs.Standing.{IsInside}
use Rattle.rina_data.proofs.Finding.{there}
use Rattle.rina_tower.specs.Bystanders.{Leaves, LeavesEnds, LeavesNow}

-- The ends of one facility

-- where no new end is one of theirs
pub others_new : (who : List ℕ → Type 0) (es es' : List End) → ((i : ℕ) (e e' : End) → At es i e → At es' i e' → who e'.app → (e'.sent ≡ e.sent) × (e'.taken ≡ e.taken)) → ((i : ℕ) (e' : End) → At es' i e' → length es ≤ i → (who e'.app → ⊥) × (who e'.peer → ⊥)) → LeavesEnds who es es'
others_new who es es' stays others = record {
  stays = stays;
  fresh = λ i e' y past mine. (let o = others i e' y past in absurd (elim mine [ inl m ↦ o.0 m | inr m ↦ o.1 m ]));
  unsent = λ i e' y past mine. absurd ((others i e' y past).0 mine);
}

pub ends_alone : (who : List ℕ → Type 0) (es : List End) → LeavesEnds who es es
ends_alone who es = others_new who es es
    (λ i e e' x y mine. let same : e' ≡ e = same_Some e' e (sym y ∙ x) in (ap (λ (z : End). z.sent) same, ap (λ (z : End). z.taken) same))
    (λ i e' y past. absurd (let within = slice_get_within es i e' y in omega (arith, within, past)))

-- one end was changed
pub end_alone : (who : List ℕ → Type 0) (es : List End) (at : ℕ) (x x' : End) → At es at x → (who x'.app → (x'.sent ≡ x.sent) × (x'.taken ≡ x.taken)) → LeavesEnds who es (slice_set es at x')
end_alone who es at x x' is quiet = others_new who es (slice_set es at x')
    (λ i e e' old new mine. elim (set_at es at i x x' e' is new) [
      | inl s ↦
          let was : e ≡ x = same_Some e x (sym (subst (λ (k : ℕ). slice_get es k ≡ Some e) s.0 old) ∙ is) in
          let now : who x'.app = subst (λ (z : End). who z.app) s.1 mine in
          let q = quiet now in
          (ap (λ (z : End). z.sent) s.1 ∙ q.0 ∙ sym (ap (λ (z : End). z.sent) was), ap (λ (z : End). z.taken) s.1 ∙ q.1 ∙ sym (ap (λ (z : End). z.taken) was))
      | inr o ↦
          let same : e' ≡ e = same_Some e' e (sym o.1 ∙ old) in
          (ap (λ (z : End). z.sent) same, ap (λ (z : End). z.taken) same)
    ])
    (λ i e' new past. absurd (beyond i e' new past))
  where
    beyond : (i : ℕ) (e' : End) → slice_get (slice_set es at x') i ≡ Some e' → length es ≤ i → ⊥
    beyond i e' new past = elim (set_at es at i x x' e' is new) [
      | inl s ↦ (let within = slice_get_within es at x is in omega (arith, within, past, s.0))
      | inr o ↦ (let within = slice_get_within es i e' o.1 in omega (arith, within, past))
    ]

at_old : {X : Type 0} (xs ys : List X) (i : ℕ) (x : X) → slice_get xs i ≡ Some x → slice_get (xs ++ ys) i ≡ Some x
at_old [] ys i x h = cc
at_old (z ∷ xs) ys zero x h = h
at_old (z ∷ xs) ys (suc i) x h = at_old xs ys i x h

at_new : {X : Type 0} (xs ys : List X) (i : ℕ) (y : X) → slice_get (xs ++ ys) i ≡ Some y → length xs ≤ i → (k : ℕ) × (slice_get ys k ≡ Some y)
at_new [] ys i y h past = (i, h)
at_new (z ∷ xs) ys zero y h past = absurd (omega (arith, past))
at_new (z ∷ xs) ys (suc i) y h past = at_new xs ys i y h (omega (arith, past))

-- ends were added
pub more_alone : (who : List ℕ → Type 0) (es more : List End) → ((k : ℕ) (e : End) → slice_get more k ≡ Some e → (who e.app → ⊥) × (who e.peer → ⊥)) → LeavesEnds who es (es ++ more)
more_alone who es more others = others_new who es (es ++ more)
    (λ i e e' old new mine.
    let same : e' ≡ e = same_Some e' e (sym new ∙ at_old es more i e old) in
    (ap (λ (z : End). z.sent) same, ap (λ (z : End). z.taken) same))
    (λ i e' new past. (let n = at_new es more i e' new past in others n.0 e' n.1))

-- A rank

pub all_alone : (who : List ℕ → Type 0) (s : Seen) → LeavesNow who s s
all_alone who s = record {
  leaves = record { later = later_refl s; ends = λ n f f' x y. (let same : f' ≡ f = same_Some f' f (sym y ∙ x) in subst (λ (g : Fac). LeavesEnds who f.ends g.ends) (sym same) (ends_alone who f.ends)) };
  clock = refl;
}

pub same_alone : (who : List ℕ → Type 0) (s s' : Seen) → s' ≡ s → LeavesNow who s s'
same_alone who s s' is = subst (λ (z : Seen). LeavesNow who s z) (sym is) (all_alone who s)

-- one facility was changed
pub fac_alone : (who : List ℕ → Type 0) (s : Seen) (n : ℕ) (f f' : Fac) → slice_get s.facs n ≡ Some f → IsLater s (with_fac s n f') → LeavesEnds who f.ends f'.ends → LeavesNow who s (with_fac s n f')
fac_alone who s n f f' is later ends = record {
  leaves = record {
    later = later;
    ends = λ k g g' x y. elim (set_at s.facs n k f f' g' is y) [
      | inl h ↦
          let was : g ≡ f = same_Some g f (sym (subst (λ (m : ℕ). slice_get s.facs m ≡ Some g) h.0 x) ∙ is) in
          subst (λ (z : Fac). LeavesEnds who z.ends g'.ends) (sym was) (subst (λ (z : Fac). LeavesEnds who f.ends z.ends) (sym h.1) ends)
      | inr o ↦
          let same : g' ≡ g = same_Some g' g (sym o.1 ∙ x) in
          subst (λ (z : Fac). LeavesEnds who g.ends z.ends) (sym same) (ends_alone who g.ends)
    ];
  };
  clock = refl;
}

-- fewer are left alone than more
ends_fewer : (who some : List ℕ → Type 0) (es es' : List End) → ((name : List ℕ) → some name → who name) → LeavesEnds who es es' → LeavesEnds some es es'
ends_fewer who some es es' all l = record {
  stays = λ i e e' x y mine. l.stays i e e' x y (all e'.app mine);
  fresh = λ i e' y past mine. l.fresh i e' y past (elim mine [ inl m ↦ inl (all e'.app m) | inr m ↦ inr (all e'.peer m) ]);
  unsent = λ i e' y past mine. l.unsent i e' y past (all e'.app mine);
}

pub fewer : (who some : List ℕ → Type 0) (s s' : Seen) → ((name : List ℕ) → some name → who name) → Leaves who s s' → Leaves some s s'
fewer who some s s' all l = record { later = l.later; ends = λ n f f' x y. ends_fewer who some f.ends f'.ends all (l.ends n f f' x y) }

pub fewer_now : (who some : List ℕ → Type 0) (s s' : Seen) → ((name : List ℕ) → some name → who name) → LeavesNow who s s' → LeavesNow some s s'
fewer_now who some s s' all l = record { leaves = fewer who some s s' all l.leaves; clock = l.clock }

-- For a DIF above

-- the end of a port of the later rank whose place is that of an old end was there
was_there : (s s' : Seen) (port : Port) (e' : End) → AreKept s → IsLater s s' → (n i : ℕ) (f f' : Fac) (e : End) → slice_get s.facs n ≡ Some f → slice_get s'.facs n ≡ Some f' → At f.ends i e → At f'.ends i e' → e'.port ≡ port → end_of s port ≡ Some e
was_there s s' port e' kept later n i f f' e x x' at at' is =
    let g = later.facs n f x in
    let fac : f' ≡ g.0 = same_Some f' g.0 (sym x' ∙ g.1) in
    let k = g.2.ends i e at in
    let end : e' ≡ k.0 = same_Some e' k.0 (sym at' ∙ subst (λ (z : Fac). At z.ends i k.0) (sym fac) k.1) in
    let here : e.port ≡ port = sym k.2.port ∙ sym (ap (λ (z : End). z.port) end) ∙ is in
    subst (λ (q : Port). end_of s q ≡ Some e) here (end_of_stands s e.port f i e (stands_there s n f i e x (kept.ports n f x) at))

-- the largest SDU at an end is that of its cube
its_largest : (s : Seen) (port : Port) (f : Fac) (i : ℕ) (e : End) → Stands s port f i e → largest_at s port ≡ option_map (λ (c : Offer). c.largest) (cube_in f.cubes e.cube)
its_largest s port f i e st = rw (st.facility, st.place, st.is) refl

-- an end that was not there stands behind those that were
record IsNewEnd (who : List ℕ → Type 0) (s s' : Seen) (port : Port) (e' : End) : Type 0 where
  old : Fac
  was : slice_get s.facs port.fac ≡ Some old
  facility : Fac
  place : ℕ
  stands : Stands s' port facility place e'
  ends : LeavesEnds who old.ends facility.ends
  past : length old.ends ≤ place

new_end : (who : List ℕ → Type 0) (s s' : Seen) → AreKept s → Leaves who s s' → (port : Port) (e' : End) → end_of s' port ≡ Some e' → end_of s port ≡ None → IsNewEnd who s s' port e'
new_end who s s' kept l port e' x' none =
    let a = found s' port e' x' in
    let within = slice_get_within s'.facs port.fac a.facility a.stands.facility in
    let number = l.later.number in
    let old = there s.facs port.fac (omega (arith, within, number)) in
    record {
      old = old.0;
      was = old.1;
      facility = a.facility;
      place = a.place;
      stands = a.stands;
      ends = l.ends port.fac old.0 a.facility old.1 a.stands.facility;
      past = elim (cases_lt a.place (length old.0.ends)) [
        | inl before ↦
            let was = there old.0.ends a.place before in
            let here : end_of s port ≡ Some was.0 = was_there s s' port e' kept l.later port.fac a.place old.0 a.facility was.0 old.1 a.stands.facility was.1 a.stands.is (its_port s' port a.facility a.place e' a.stands) in
            absurd (let clash : None ≡ Some was.0 = sym none ∙ here in cc)
        | inr after ↦ after
      ];
    }

-- no end of its members does anything, and a far end that is new is of a flow inside it, as the asker's end is
pub lifted : (g : Config) (who : List ℕ → Type 0) (s s' : Seen) → AreKept s → AreKept s' → ((name : List ℕ) → IsMine g.members name → who name) → ((port : Port) (e : End) → end_of s port ≡ Some e → IsMine g.members e.app ⊎ IsMine g.members e.peer → IsInside g s port e) → Leaves who s s' → IsLifted g s s'
lifted g who s s' kept kept' mine inside l = record {
  later = l.later;
  stays = λ port e e' x x' my.
      let a = found s port e x in
      let b = stands_later s s' port a.facility a.place e l.later kept' a.stands in
      let same : e' ≡ b.end = same_Some e' b.end (sym x' ∙ end_of_stands s' port b.facility a.place b.end b.stands) in
      let q = (l.ends port.fac a.facility b.facility a.stands.facility b.stands.facility).stays a.place e b.end a.stands.is b.stands.is (mine b.end.app (subst (λ (z : End). IsMine g.members z.app) same my)) in
      (ap (λ (z : End). z.sent) same ∙ q.0, ap (λ (z : End). z.taken) same ∙ q.1);
  fresh = λ port e' x' none my.
      let n = new_end who s s' kept l port e' x' none in
      let inner = far_inside port e' n my in
      ((n.ends.unsent n.place e' n.stands.is n.past (mine e'.app inner.app)).0, inner);
  unread = λ port e' x' none my. (let n = new_end who s s' kept l port e' x' none in (n.ends.unsent n.place e' n.stands.is n.past (mine e'.app my)).1);
}
  where
    far_inside : (port : Port) (e' : End) → IsNewEnd who s s' port e' → IsMine g.members e'.app ⊎ IsMine g.members e'.peer → IsInside g s' port e'
    far_inside port e' n my =
        let f = n.ends.fresh n.place e' n.stands.is n.past (elim my [ inl m ↦ inl (mine e'.app m) | inr m ↦ inr (mine e'.peer m) ]) in
        let there : Stands s f.asker.port n.old f.place f.asker = stands_there s port.fac n.old f.place f.asker n.was (kept.ports port.fac n.old n.was) f.stands in
        let here : end_of s f.asker.port ≡ Some f.asker = end_of_stands s f.asker.port n.old f.place f.asker there in
        let its : IsMine g.members f.asker.app ⊎ IsMine g.members f.asker.peer = elim my [ inl m ↦ inr (subst (IsMine g.members) (sym f.named.its_peer) m) | inr m ↦ inl (subst (IsMine g.members) f.named.peer m) ] in
        let i = inside f.asker.port f.asker here its in
        let later = l.later.facs port.fac n.old n.was in
        let fac : n.facility ≡ later.0 = same_Some n.facility later.0 (sym n.stands.facility ∙ later.1) in
        let cubes : n.facility.cubes ≡ n.old.cubes = ap (λ (z : Fac). z.cubes) fac ∙ later.2.cubes in
        let cube : cube_in n.facility.cubes e'.cube ≡ cube_in n.old.cubes f.asker.cube = ap (λ (cs : List Offer). cube_in cs e'.cube) cubes ∙ ap (cube_in n.old.cubes) (sym f.named.cube) in
        record {
          app = subst (IsMine g.members) f.named.its_peer i.peer;
          peer = subst (IsMine g.members) (sym f.named.peer) i.app;
          largest = i.largest;
          is_largest = its_largest s' port n.facility n.place e' n.stands ∙ ap (option_map (λ (c : Offer). c.largest)) cube ∙ sym (its_largest s f.asker.port n.old f.place f.asker there) ∙ i.is_largest;
          whole = i.whole;
        }

-- One after the other

pub ends_on : (who : List ℕ → Type 0) (b n b' n' : ℕ) (xs ys zs : List End) → AreLater b n xs ys → AreLater b' n' ys zs → LeavesEnds who xs ys → LeavesEnds who ys zs → LeavesEnds who xs zs
ends_on who b n b' n' xs ys zs first second l k = record {
  stays = λ i e e' x z mine.
      let m = first i e x in
      let o = second i m.0 m.1 in
      let same : e' ≡ o.0 = same_Some e' o.0 (sym z ∙ o.1) in
      let its : who o.0.app = subst (λ (y : End). who y.app) same mine in
      let a = l.stays i e m.0 x m.1 (subst who o.2.app its) in
      let c = k.stays i m.0 o.0 m.1 o.1 its in
      (ap (λ (y : End). y.sent) same ∙ c.0 ∙ a.0, ap (λ (y : End). y.taken) same ∙ c.1 ∙ a.1);
  fresh = λ i e' z past mine. elim (cases_lt i (length ys)) [
    | inl within ↦
        let m = there ys i within in
        let o = second i m.0 m.1 in
        let same : e' ≡ o.0 = same_Some e' o.0 (sym z ∙ o.1) in
        let later : IsLaterEnd b' n' m.0 e' = subst (IsLaterEnd b' n' m.0) (sym same) o.2 in
        answers_on b' n' xs m.0 e' later (l.fresh i m.0 m.1 past (elim mine [ inl w ↦ inl (subst who later.app w) | inr w ↦ inr (subst who later.peer w) ]))
    | inr after ↦
        let f = k.fresh i e' z after mine in
        answers_old b n xs ys e' first f (λ past. l.fresh f.place f.asker f.stands past (elim mine [ inl m ↦ inr (subst who (sym f.named.its_peer) m) | inr m ↦ inl (subst who f.named.peer m) ]))
  ];
  unsent = λ i e' z past mine. elim (cases_lt i (length ys)) [
    | inl within ↦
        let m = there ys i within in
        let o = second i m.0 m.1 in
        let same : e' ≡ o.0 = same_Some e' o.0 (sym z ∙ o.1) in
        let later : IsLaterEnd b' n' m.0 e' = subst (IsLaterEnd b' n' m.0) (sym same) o.2 in
        let a = l.unsent i m.0 m.1 past (subst who later.app mine) in
        let c = k.stays i m.0 e' m.1 z mine in
        (c.0 ∙ a.0, c.1 ∙ a.1)
    | inr after ↦ k.unsent i e' z after mine
  ];
}

pub leaves_on : (who : List ℕ → Type 0) (x y z : Seen) → Leaves who x y → Leaves who y z → Leaves who x z
leaves_on who x y z l k = record {
  later = later_on x y z l.later k.later;
  ends = λ n f f' at at'.
      let m = l.later.facs n f at in
      let o = k.later.facs n m.0 m.1 in
      let same : f' ≡ o.0 = same_Some f' o.0 (sym at' ∙ o.1) in
      let through = ends_on who x.now y.now y.now z.now f.ends m.0.ends o.0.ends m.2.ends o.2.ends (l.ends n f m.0 at m.1) (k.ends n m.0 o.0 m.1 o.1) in
      subst (λ (g : Fac). LeavesEnds who f.ends g.ends) (sym same) through;
}

pub now_on : (who : List ℕ → Type 0) (x y z : Seen) → LeavesNow who x y → LeavesNow who y z → LeavesNow who x z
now_on who x y z l k = record { leaves = leaves_on who x y z l.leaves k.leaves; clock = k.clock ∙ l.clock }
