-- One tick keeps a frame carried: its copy arrives where it is due, and nothing else changes for it.
use Rattle.std.proofs.Common.{◌≡◌, ℕ, suc, ◌+◌, ◌<◌, ◌≤◌, ◌==◌, true, false, List, [], ◌∷◌, ◌++◌, filter, fold, nat_lt, slice_set, refl, sym, ◌∙◌, ap, subst, inl, inr, arith}
use Rattle.std.proofs.lemmas.Bool.{le-leb}
use Rattle.std.proofs.lemmas.Bool.Decides.{eqb_tells, leb_tells}
use Rattle.std.proofs.lemmas.Option.{same_Some}
use Rattle.rina_law.specs.declared.entry.Entry.{Entry}
use Rattle.rina_iface.specs.declared.ends.End.{End}
use Rattle.rina_iface.specs.declared.state.PortState.{PortState}
use Rattle.rina_iface.specs.declared.state.PortState.TheVariants.{Allocated}
use Rattle.rina_iface.specs.Ends.{with_got}
use Rattle.rina_iface.specs.Journal.{At}
use Rattle.rina_iface.proofs.Changed.{slice_get-set_other, slice_get-set_same}
use Rattle.rina_wire.specs.declared.flight.Flight.{Flight}
use Rattle.rina_wire.specs.Air.{Line}
use Rattle.rina_wire.specs.Send.{frame_number, mate}
use Rattle.rina_wire.specs.Tick.{arrival, line_ticked, looked_at}
use Rattle.rina_wire.proofs.Arrivals.{looks}
use Rattle.rina_wire.proofs.Keeps.{was_sent}
use Rattle.rina_laws.specs.Frames.{IsCarried, copies_of, of_number}
use Rattle.rina_notes.specs.Look.{same_num}
use Rattle.rina_laws.proofs.FramesKept.{Carries, IsOn}
use Rattle.rina_laws.proofs.FramesLists.{bool_tells, filter_swap, no, push_no, push_yes, yes}

-- what the ends sent stays

sent_looked : (now : ℕ) (es : List End) (f : Flight) (k : ℕ) (x : End) → At (looked_at now es f) k x → (was : End) × At es k was × (was.sent ≡ x.sent)
sent_looked now es f k x h = elim (looks now es f) [
  | inl same ↦ (x, subst (λ (ds : List End). At ds k x) same h, refl)
  | inr a ↦ was_sent es f.to a.end (with_got a.end (arrival now f)) k x a.stands refl (subst (λ (ds : List End). At ds k x) a.is h)
]

sent_fold : (now : ℕ) (es : List End) (fs : List Flight) (k : ℕ) (x : End) → At (fold (looked_at now) es fs) k x → (was : End) × At es k was × (was.sent ≡ x.sent)
sent_fold now es [] k x h = (x, h, refl)
sent_fold now es (f ∷ fs) k x h =
    let u = sent_fold now (looked_at now es f) fs k x h in
    let v = sent_looked now es f k u.0 u.1 in
    (v.0, v.1, v.2 ∙ u.2)

-- the end at this place has this state, and these are the entries of frame k that it got
record IsThere (k p : ℕ) (es : List End) (state : PortState) (entries : List Entry) : Type 0 where
  end : End
  stands : At es p end
  state_is : end.state ≡ state
  got : of_number (frame_number k) end.got ≡ entries

-- a copy of another frame changes nothing for frame k
other_frame : (now k p : ℕ) (es : List End) (f : Flight) (state : PortState) (entries : List Entry) → (f.frame == k) ≡ false → IsThere k p es state entries → IsThere k p (looked_at now es f) state entries
other_frame now k p es f state entries other t = elim (looks now es f) [
  | inl same ↦ subst (λ (ds : List End). IsThere k p ds state entries) (sym same) t
  | inr a ↦ subst (λ (ds : List End). IsThere k p ds state entries) (sym a.is) (elim (eqb_tells p f.to) [
    | inl y ↦
        let here : At es f.to t.end = rw y.1 at t.stands in
        let same : a.end ≡ t.end = same_Some a.end t.end (sym a.stands ∙ here) in
        record {
          end = with_got a.end (arrival now f);
          stands = rw y.1 (slice_get-set_same es f.to a.end (with_got a.end (arrival now f)) a.stands);
          state_is = ap (λ (z : End). z.state) same ∙ t.state_is;
          got = push_no (λ (x : Entry). same_num x.num (frame_number k)) a.end.got (arrival now f) other ∙ ap (λ (z : End). of_number (frame_number k) z.got) same ∙ t.got;
        }
    | inr n ↦ record { end = t.end; stands = slice_get-set_other es f.to p (with_got a.end (arrival now f)) n.1 ∙ t.stands; state_is = t.state_is; got = t.got }
  ])
]

-- no copy of frame k is in flight
none_flies : (now k p : ℕ) (es : List End) (fs : List Flight) (state : PortState) (entries : List Entry) → copies_of k fs ≡ [] → IsThere k p es state entries → IsThere k p (fold (looked_at now) es fs) state entries
none_flies now k p es [] state entries none t = t
none_flies now k p es (f ∷ fs) state entries none t = elim (bool_tells (f.frame == k)) [
  | inl y ↦ let clash : f ∷ copies_of k fs ≡ [] = sym (yes (λ (g : Flight). g.frame == k) f fs y) ∙ none in cc
  | inr n ↦ none_flies now k p (looked_at now es f) fs state entries (sym (no (λ (g : Flight). g.frame == k) f fs n) ∙ none) (other_frame now k p es f state entries n t)
]

-- the first of what passes, and the others
one_first : (f c : Flight) (fs : List Flight) → f ∷ fs ≡ c ∷ [] → (f ≡ c) × (fs ≡ [])
one_first f c fs h = (cc, cc)

stays_unless : (now : ℕ) (es : List End) (f : Flight) → now < f.due → looked_at now es f ≡ es
stays_unless now es f lt = elim (leb_tells f.due now) [ inl t ↦ absurd (omega (arith, t.1, lt)) | inr n ↦ rw n.0 refl ]

arrives_now : (now : ℕ) (es : List End) (f : Flight) (e : End) → f.due ≤ now → At es f.to e → e.state ≡ Allocated → looked_at now es f ≡ slice_set es f.to (with_got e (arrival now f))
arrives_now now es f e due at state = rw (le-leb f.due now due, at, state) refl

-- the one copy of frame k is not due yet
one_waits : (now k p : ℕ) (es : List End) (fs : List Flight) (c : Flight) (state : PortState) (entries : List Entry) → copies_of k fs ≡ c ∷ [] → now < c.due → IsThere k p es state entries → IsThere k p (fold (looked_at now) es fs) state entries
one_waits now k p es [] c state entries one lt t = t
one_waits now k p es (f ∷ fs) c state entries one lt t = elim (bool_tells (f.frame == k)) [
  | inl y ↦
      let first = one_first f c (copies_of k fs) (sym (yes (λ (g : Flight). g.frame == k) f fs y) ∙ one) in
      let stays : looked_at now es f ≡ es = stays_unless now es f (rw first.0 lt) in
      none_flies now k p (looked_at now es f) fs state entries first.1 (subst (λ (ds : List End). IsThere k p ds state entries) (sym stays) t)
  | inr n ↦ one_waits now k p (looked_at now es f) fs c state entries (sym (no (λ (g : Flight). g.frame == k) f fs n) ∙ one) lt (other_frame now k p es f state entries n t)
]

-- a copy of frame k arrives at the end
own_frame : (now k : ℕ) (es : List End) (f : Flight) (entries : List Entry) → (f.frame == k) ≡ true → f.due ≤ now → IsThere k f.to es Allocated entries → IsThere k f.to (looked_at now es f) Allocated (entries ++ arrival now f ∷ [])
own_frame now k es f entries own due t = subst (λ (ds : List End). IsThere k f.to ds Allocated (entries ++ arrival now f ∷ [])) (sym (arrives_now now es f t.end due t.stands t.state_is)) (record {
  end = with_got t.end (arrival now f);
  stands = slice_get-set_same es f.to t.end (with_got t.end (arrival now f)) t.stands;
  state_is = t.state_is;
  got = push_yes (λ (x : Entry). same_num x.num (frame_number k)) t.end.got (arrival now f) own ∙ ap (λ (xs : List Entry). xs ++ arrival now f ∷ []) t.got;
})

-- the one copy of frame k is due
one_comes : (now k p : ℕ) (es : List End) (fs : List Flight) (c : Flight) (entries : List Entry) → copies_of k fs ≡ c ∷ [] → c.due ≤ now → c.to ≡ p → IsThere k p es Allocated entries → IsThere k p (fold (looked_at now) es fs) Allocated (entries ++ arrival now c ∷ [])
one_comes now k p es [] c entries one due to t = cc
one_comes now k p es (f ∷ fs) c entries one due to t = elim (bool_tells (f.frame == k)) [
  | inl y ↦
      let first = one_first f c (copies_of k fs) (sym (yes (λ (g : Flight). g.frame == k) f fs y) ∙ one) in
      let place : f.to ≡ p = ap (λ (g : Flight). g.to) first.0 ∙ to in
      let here : IsThere k f.to es Allocated entries = subst (λ (q : ℕ). IsThere k q es Allocated entries) (sym place) t in
      let arrived : IsThere k f.to (looked_at now es f) Allocated (entries ++ arrival now f ∷ []) = own_frame now k es f entries y (rw first.0 due) here in
      let moved : IsThere k p (looked_at now es f) Allocated (entries ++ arrival now f ∷ []) = subst (λ (q : ℕ). IsThere k q (looked_at now es f) Allocated (entries ++ arrival now f ∷ [])) place arrived in
      let all = none_flies now k p (looked_at now es f) fs Allocated (entries ++ arrival now f ∷ []) first.1 moved in
      subst (λ (g : Flight). IsThere k p (fold (looked_at now) (looked_at now es f) fs) Allocated (entries ++ arrival now g ∷ [])) first.0 all
  | inr n ↦ one_comes now k p (looked_at now es f) fs c entries (sym (no (λ (g : Flight). g.frame == k) f fs n) ∙ one) due to (other_frame now k p es f Allocated entries n t)
]

-- ---- what stays in flight

left_of : (now k : ℕ) (fs gs : List Flight) → copies_of k fs ≡ gs → copies_of k (filter (λ (f : Flight). nat_lt now f.due) fs) ≡ filter (λ (f : Flight). nat_lt now f.due) gs
left_of now k fs gs is = filter_swap (λ (f : Flight). f.frame == k) (λ (f : Flight). nat_lt now f.due) fs ∙ ap (filter (λ (f : Flight). nat_lt now f.due)) is

left_one : (now : ℕ) (c : Flight) → now < c.due → filter (λ (f : Flight). nat_lt now f.due) (c ∷ []) ≡ c ∷ []
left_one now c lt = elim (leb_tells (suc now) c.due) [ inl t ↦ yes (λ (f : Flight). nat_lt now f.due) c [] t.0 | inr n ↦ absurd (omega (arith, n.1, lt)) ]

left_none : (now : ℕ) (c : Flight) → c.due ≤ now → filter (λ (f : Flight). nat_lt now f.due) (c ∷ []) ≡ []
left_none now c le = elim (leb_tells (suc now) c.due) [ inl t ↦ absurd (omega (arith, t.1, le)) | inr n ↦ no (λ (f : Flight). nat_lt now f.due) c [] n.0 ]

-- ---- the whole tick

-- one tick before, and the frame with its number
record IsNext (k after before now : ℕ) (l : Line) (i : ℕ) (x : Entry) : Type 0 where
  next : now ≡ before + 1
  seq : x.num.seq ≡ k
  on : IsOn k after before l i x
  -- the end to which the one copy in flight goes is allocated
  reaches : (c : Flight) (other : End) → copies_of k l.flights ≡ c ∷ [] → At l.ends (mate i) other → c.to ≡ mate i → other.state ≡ Allocated

-- the copy of the frame
abbrev copy_of : ℕ → ℕ → Entry → Flight
copy_of after to x = record { to = to; frame = x.num.seq; sent = x.tick; due = x.tick + after; bytes = x.bytes }

-- what the other end got of it
there_now : (k after before now : ℕ) (l : Line) (i : ℕ) (x : Entry) (n : IsNext k after before now l i x) (entries : List Entry) → of_number x.num n.on.carried.other.got ≡ entries → IsThere k (mate i) l.ends n.on.carried.other.state entries
there_now k after before now l i x n entries h = record { end = n.on.carried.other; stands = n.on.carried.stands; state_is = refl; got = ap (λ m. of_number m n.on.carried.other.got) (sym n.on.number) ∙ h }

got_then : (k p : ℕ) (es : List End) (state : PortState) (entries : List Entry) (x : Entry) (t : IsThere k p es state entries) → x.num ≡ frame_number k → of_number x.num t.end.got ≡ entries
got_then k p es state entries x t number = ap (λ m. of_number m t.end.got) number ∙ t.got

-- it had come before
ticked_landed : (k after before now : ℕ) (l : Line) (i : ℕ) (x : Entry) → IsNext k after before now l i x → x.tick + after ≤ before → IsCarried after now (line_ticked now l) i x
ticked_landed k after before now l i x n le =
    let c = n.on.carried in
    let next = n.next in
    let none : copies_of k l.flights ≡ [] = rw (← n.seq) (c.landed le) in
    let entries : List Entry = record { tick = x.tick + after; num = x.num; bytes = x.bytes } ∷ [] in
    let t = none_flies now k (mate i) l.ends l.flights c.other.state entries none (there_now k after before now l i x n entries (c.came le)) in
    record {
      other = t.end;
      stands = t.stands;
      came = λ h. got_then k (mate i) _ c.other.state entries x t n.on.number;
      landed = λ h. rw n.seq (left_of now k l.flights [] none);
      flies = λ lt. absurd (omega (arith, le, lt, next));
      not_come = λ lt. absurd (omega (arith, le, lt, next));
    }

-- it comes now
ticked_comes : (k after before now : ℕ) (l : Line) (i : ℕ) (x : Entry) → IsNext k after before now l i x → before < x.tick + after → x.tick + after ≤ now → IsCarried after now (line_ticked now l) i x
ticked_comes k after before now l i x n lt le =
    let c = n.on.carried in
    let next = n.next in
    let f : Flight = copy_of after (mate i) x in
    let one : copies_of k l.flights ≡ f ∷ [] = subst (λ (m : ℕ). copies_of m l.flights ≡ f ∷ []) n.seq (c.flies lt) in
    let there : IsThere k (mate i) l.ends c.other.state [] = there_now k after before now l i x n [] (c.not_come lt) in
    let there_open : IsThere k (mate i) l.ends Allocated [] = subst (λ (s : PortState). IsThere k (mate i) l.ends s []) (n.reaches f c.other one c.stands refl) there in
    let t = one_comes now k (mate i) l.ends l.flights f [] one le refl there_open in
    let at_due : now ≡ x.tick + after = omega (arith, next, lt, le) in
    let number : frame_number x.num.seq ≡ x.num = ap frame_number n.seq ∙ sym n.on.number in
    let is : arrival now f ≡ record { tick = x.tick + after; num = x.num; bytes = x.bytes } = ap (λ (m : ℕ). record { tick = m; num = frame_number x.num.seq; bytes = x.bytes }) at_due ∙ ap (λ m. record { tick = x.tick + after; num = m; bytes = x.bytes }) number in
    record {
      other = t.end;
      stands = t.stands;
      came = λ h. got_then k (mate i) _ Allocated (arrival now f ∷ []) x t n.on.number ∙ ap (λ (y : Entry). y ∷ []) is;
      landed = λ h. rw n.seq (left_of now k l.flights (f ∷ []) one ∙ left_none now f le);
      flies = λ h. absurd (omega (arith, le, h));
      not_come = λ h. absurd (omega (arith, le, h));
    }

-- it is in flight still
ticked_flies : (k after before now : ℕ) (l : Line) (i : ℕ) (x : Entry) → IsNext k after before now l i x → now < x.tick + after → IsCarried after now (line_ticked now l) i x
ticked_flies k after before now l i x n lt =
    let c = n.on.carried in
    let next = n.next in
    let earlier : before < x.tick + after = omega (arith, next, lt) in
    let f : Flight = copy_of after (mate i) x in
    let one : copies_of k l.flights ≡ f ∷ [] = subst (λ (m : ℕ). copies_of m l.flights ≡ f ∷ []) n.seq (c.flies earlier) in
    let t = one_waits now k (mate i) l.ends l.flights f c.other.state [] one lt (there_now k after before now l i x n [] (c.not_come earlier)) in
    record {
      other = t.end;
      stands = t.stands;
      came = λ h. absurd (omega (arith, lt, h));
      landed = λ h. absurd (omega (arith, lt, h));
      flies = λ h. subst (λ (m : ℕ). copies_of m (line_ticked now l).flights ≡ f ∷ []) (sym n.seq) (left_of now k l.flights (f ∷ []) one ∙ left_one now f lt);
      not_come = λ h. got_then k (mate i) _ c.other.state [] x t n.on.number;
    }

carried_ticked : (k after before now : ℕ) (l : Line) (i : ℕ) (x : Entry) → IsNext k after before now l i x → IsCarried after now (line_ticked now l) i x
carried_ticked k after before now l i x n = elim (leb_tells (x.tick + after) before) [
  | inl t ↦ ticked_landed k after before now l i x n t.1
  | inr u ↦ elim (leb_tells (x.tick + after) now) [
    | inl t ↦ ticked_comes k after before now l i x n (omega (arith, u.1)) t.1
    | inr v ↦ ticked_flies k after before now l i x n (omega (arith, v.1))
  ]
]

-- a copy of a frame goes to an end that is allocated
abbrev pub GoesOpen : ℕ → Line → Type 0
GoesOpen k l = (c : Flight) (other : End) → copies_of k l.flights ≡ c ∷ [] → At l.ends c.to other → other.state ≡ Allocated

pub carry_ticked : (k before now : ℕ) (l : Line) → now ≡ before + 1 → GoesOpen k l → Carries k before l → Carries k now (line_ticked now l)
carry_ticked k before now l next goes c late fate i j e x h is n =
    let u = sent_fold now l.ends l.flights i e h in
    let on = c late fate i j u.0 x u.1 (rw u.2 is) n in
    record {
      number = on.number;
      carried = carried_ticked k (l.delay + late) before now l i x (record { next = next; seq = n; on = on; reaches = λ f other one stands to. goes f other one (rw to stands) });
    }
