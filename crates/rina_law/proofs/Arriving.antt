-- A piece that arrives keeps what holds of a line.
use Rattle.std.proofs.Common.{◌≡◌, ℕ, ◌+◌, ◌<◌, ◌≤◌, List, ◌∷◌, length, Bool, true, false, cond, refl, sym, ◌∙◌, subst, arith, inl, inr, ◌⊎◌}
use Rattle.std.proofs.lemmas.Bool.{eqb-true, ltb-true, cases_lt}
use Rattle.rina_cube.specs.declared.Kind.{Kind}
use Rattle.rina_cube.specs.declared.Kind.TheVariants.{Datagram, Loose, Reliable}
use Rattle.rina_cube.specs.Cubes.{IsCube}
use Rattle.rina_law.specs.Constants.{Constants}
use Rattle.rina_law.specs.Line.{InFlight, Line, done_after}
use Rattle.rina_law.specs.LineHolds.{IsOfRun, Knows, IsDone, DoneHolds, below, IsShaped, LineHolds}
use Rattle.rina_law.specs.Lists.{In, highest}
use Rattle.rina_law.specs.Receiver.{Piece, Receiver, is_present, next_of, numbers, Verdict, Accepted, Held, Duplicate, Behind, NoState, NoRoom, verdict_by_state, with_room, with_accepted, receiver_after}
use Rattle.rina_law.specs.Sender.{Sender, member}
use Rattle.rina_law.proofs.Lists.{has-not, in-below, with_held-in, with_held-below}
use Rattle.rina_law.proofs.Standing.{absent_after}

-- What a verdict says

pub room_accepted : (room : Bool) (v : Verdict) → with_room room v ≡ Accepted → v ≡ Accepted
room_accepted true v e = e
room_accepted false Accepted e = refl
room_accepted false Held e = cc
room_accepted false Duplicate e = e
room_accepted false Behind e = e
room_accepted false NoState e = e
room_accepted false NoRoom e = e

accepted_datagram : (a b : Bool) → cond a Behind (cond b Duplicate Accepted) ≡ Accepted → b ≡ false
accepted_datagram true b e = cc
accepted_datagram false true e = cc
accepted_datagram false false e = refl

accepted_loose : (a : Bool) → cond a Accepted Behind ≡ Accepted → a ≡ true
accepted_loose true e = refl
accepted_loose false e = cc

accepted_reliable : (a b : Bool) → cond a Duplicate (cond b Accepted Held) ≡ Accepted → b ≡ true
accepted_reliable true b e = cc
accepted_reliable false true e = refl
accepted_reliable false false e = cc

pub accepted_absent : (drf : Bool) → cond drf Accepted NoState ≡ Accepted → drf ≡ true
accepted_absent true e = refl
accepted_absent false e = cc

-- a copy of a number that was accepted, or one sent no later, does not come where no state stands
old_number : (c : Constants) (now : ℕ) (tx : Sender) (rx : Receiver) (p : InFlight Piece) (n : ℕ) → IsCube c.cube → IsOfRun c tx p → now ≤ p.death → IsDone c now tx rx n → (member tx.run p.pdu.number).first ≤ (member tx.run n).first → is_present c now rx ≡ false → ⊥
old_number c now tx rx p n cube is alive done le absent =
    let q = absent_after c now rx absent done.made in
    let lives = cube.least_mpl in
    let first = done.first in
    let death = is.in_time in
    omega arith

-- nor where the state does not know it
unknown_number : (c : Constants) (now : ℕ) (tx : Sender) (rx : Receiver) (p : InFlight Piece) (n : ℕ) → IsOfRun c tx p → now ≤ p.death → IsDone c now tx rx n → (member tx.run p.pdu.number).first ≤ (member tx.run n).first → (Knows c.cube.kind rx n → ⊥) → ⊥
unknown_number c now tx rx p n is alive done le unknown = elim done.known [
  | inl k ↦ unknown k
  | inr dead ↦ (let death = is.in_time in omega arith)
]

-- what an accepted number is: new, greater than all, or the next one
abbrev pub IsNew : Kind → ℕ → List ℕ → Type 0
IsNew Datagram n done = In n done → ⊥
IsNew Loose n done = (k : ℕ) → In k done → k < n
IsNew Reliable n done = n ≡ length done

pub accepted_new : (c : Constants) (line : Line) (p : InFlight Piece) (kind : Kind) (b : Bool) → IsCube c.cube → LineHolds c line → IsOfRun c line.sender p → line.clock ≤ p.death → c.cube.kind ≡ kind → is_present c line.clock line.receiver ≡ b → verdict_by_state kind b line.receiver p.pdu ≡ Accepted → IsNew kind p.pdu.number line.done
accepted_new c line p Datagram true cube h is alive kind b v = λ i.
    unknown_number c line.clock line.sender line.receiver p p.pdu.number is alive (h.done p.pdu.number i) (omega arith)
    (λ knows. let P : Kind → Type 0 = λ k. Knows k line.receiver p.pdu.number in has-not p.pdu.number line.receiver.accepted (accepted_datagram _ _ v) (subst P kind knows))
accepted_new c line p Datagram false cube h is alive kind b v = λ i. old_number c line.clock line.sender line.receiver p p.pdu.number cube is alive (h.done p.pdu.number i) (omega arith) b
accepted_new c line p Loose true cube h is alive kind b v = λ k i. elim (cases_lt k p.pdu.number) [
  | inl lt ↦ lt
  | inr ge ↦
      (let x = h.done k i in
      absurd (unknown_number c line.clock line.sender line.receiver p k is alive x (h.sender.rising p.pdu.number k ge x.within)
      (λ knows. let P : Kind → Type 0 = λ z. Knows z line.receiver k in let le : k ≤ highest line.receiver.accepted = subst P kind knows in let lt = ltb-true (highest line.receiver.accepted) p.pdu.number (accepted_loose _ v) in omega arith)))
]
accepted_new c line p Loose false cube h is alive kind b v = λ k i. elim (cases_lt k p.pdu.number) [
  | inl lt ↦ lt
  | inr ge ↦ (let x = h.done k i in absurd (old_number c line.clock line.sender line.receiver p k cube is alive x (h.sender.rising p.pdu.number k ge x.within) b))
]
accepted_new c line p Reliable true cube h is alive kind b v = eqb-true p.pdu.number (next_of line.receiver) (accepted_reliable _ _ v) ∙ (h.gapless kind).next b
accepted_new c line p Reliable false cube h is alive kind b v =
    let g = h.gapless kind in
    let le = g.drf p.pdu.number is.within (sym is.drf ∙ accepted_absent p.pdu.drf v) in
    elim (cases_lt p.pdu.number (length line.done)) [
      | inl lt ↦
          (let P : Kind → Type 0 = λ k. IsShaped k line.done in
          let s : line.done ≡ below (length line.done) = subst P kind h.shape in
          let i : In p.pdu.number line.done = rw s (in-below (length line.done) p.pdu.number lt) in
          absurd (old_number c line.clock line.sender line.receiver p p.pdu.number cube is alive (h.done p.pdu.number i) (omega arith) b))
      | inr ge ↦ omega arith
    ]

-- The numbers of the run with the new one

shape_new : (kind : Kind) (n : ℕ) (done : List ℕ) → IsNew kind n done → IsShaped kind done → IsShaped kind (n ∷ done)
shape_new Datagram n done new s = (new, s)
shape_new Loose n done new s = (new, s)
shape_new Reliable n done new s = (let e : below (length done) ≡ done = sym s in rw (new, e) refl)

shape_accepted : (kind : Kind) (n : ℕ) (held done : List ℕ) → IsNew kind n done → IsShaped kind done → IsShaped kind (with_accepted kind held n done)
shape_accepted Datagram n held done new s = (new, s)
shape_accepted Loose n held done new s = (new, s)
shape_accepted Reliable n held done new s = with_held-below (highest held) (n + 1) held (n ∷ done) (shape_new Reliable n done new s) (omega arith)

pub shape_after : (kind : Kind) (v : Verdict) (b : Bool) (n : ℕ) (rx : Receiver) (done : List ℕ) → (v ≡ Accepted → IsNew kind n done) → IsShaped kind done → IsShaped kind (done_after v kind b n rx done)
shape_after kind Accepted true n rx done new s = shape_accepted kind n (numbers rx.held) done (new refl) s
shape_after kind Accepted false n rx done new s = shape_new kind n done (new refl) s
shape_after kind Held b n rx done new s = s
shape_after kind Duplicate b n rx done new s = s
shape_after kind Behind b n rx done new s = s
shape_after kind NoState b n rx done new s = s
shape_after kind NoRoom b n rx done new s = s

accepted_in : (kind : Kind) (held : List ℕ) (n : ℕ) (list : List ℕ) (k : ℕ) → In k (with_accepted kind held n list) → (k ≡ n) ⊎ (((kind ≡ Reliable) × In k held) ⊎ In k list)
accepted_in Datagram held n list k (inl e) = inl e
accepted_in Datagram held n list k (inr i) = inr (inr i)
accepted_in Loose held n list k (inl e) = inl e
accepted_in Loose held n list k (inr i) = inr (inr i)
accepted_in Reliable held n list k i = elim (with_held-in (highest held) (n + 1) held (n ∷ list) k i) [ inl j ↦ inr (inl (refl, j)) | inr (inl e) ↦ inl e | inr (inr j) ↦ inr (inr j) ]

-- what is new in `done` came now or was held
done_in : (kind : Kind) (v : Verdict) (b : Bool) (n : ℕ) (rx : Receiver) (done : List ℕ) (k : ℕ) → In k (done_after v kind b n rx done) → ((v ≡ Accepted) × (k ≡ n)) ⊎ (((v ≡ Accepted) × (b ≡ true) × (kind ≡ Reliable) × In k (numbers rx.held)) ⊎ In k done)
done_in kind Accepted true n rx done k i = elim (accepted_in kind (numbers rx.held) n done k i) [ inl e ↦ inl (refl, e) | inr (inl j) ↦ inr (inl (refl, refl, j.0, j.1)) | inr (inr j) ↦ inr (inr j) ]
done_in kind Accepted false n rx done k (inl e) = inl (refl, e)
done_in kind Accepted false n rx done k (inr i) = inr (inr i)
done_in kind Held b n rx done k i = inr (inr i)
done_in kind Duplicate b n rx done k i = inr (inr i)
done_in kind Behind b n rx done k i = inr (inr i)
done_in kind NoState b n rx done k i = inr (inr i)
done_in kind NoRoom b n rx done k i = inr (inr i)

-- The receiver's ticks

pub record Ticks (now : ℕ) (rx new : Receiver) : Type 0 where
  pub le : rx.last_in ≤ new.last_in
  pub past : new.last_in ≤ now
  pub made : rx.made ≡ true → new.made ≡ true
  pub same : ((new.last_in ≡ rx.last_in) × (new.made ≡ rx.made)) ⊎ (new.last_in ≡ now)

ticks_now : (now : ℕ) (rx new : Receiver) → rx.last_in ≤ now → new.last_in ≡ now → (rx.made ≡ true → new.made ≡ true) → Ticks now rx new
ticks_now now rx new past is made = record { le = omega arith; past = omega arith; made = made; same = inr is }

pub ticks : (v : Verdict) (kind : Kind) (b : Bool) (now : ℕ) (p : Piece) (rx : Receiver) → rx.last_in ≤ now → Ticks now rx (receiver_after v kind b now p rx)
ticks Accepted kind true now p rx past = ticks_now now rx _ past refl (λ m. refl)
ticks Accepted kind false now p rx past = ticks_now now rx _ past refl (λ m. refl)
ticks Held kind b now p rx past = ticks_now now rx _ past refl (λ m. m)
ticks Duplicate kind b now p rx past = ticks_now now rx _ past refl (λ m. m)
ticks Behind kind b now p rx past = ticks_now now rx _ past refl (λ m. m)
ticks NoState kind b now p rx past = record { le = omega arith; past = past; made = λ m. m; same = inl (refl, refl) }
ticks NoRoom kind b now p rx past = record { le = omega arith; past = past; made = λ m. m; same = inl (refl, refl) }

accepted_ticks : (v : Verdict) (kind : Kind) (b : Bool) (now : ℕ) (p : Piece) (rx : Receiver) → v ≡ Accepted → ((receiver_after v kind b now p rx).last_in ≡ now) × ((receiver_after v kind b now p rx).made ≡ true)
accepted_ticks Accepted kind true now p rx e = (refl, refl)
accepted_ticks Accepted kind false now p rx e = (refl, refl)
accepted_ticks Held kind b now p rx e = (refl, cc)
accepted_ticks Duplicate kind b now p rx e = (refl, cc)
accepted_ticks Behind kind b now p rx e = (refl, cc)
accepted_ticks NoState kind b now p rx e = cc
accepted_ticks NoRoom kind b now p rx e = cc

-- What the state knows

knows_new : (kind : Kind) (v : Verdict) (b : Bool) (now : ℕ) (p : Piece) (rx : Receiver) → v ≡ Accepted → Knows kind (receiver_after v kind b now p rx) p.number
knows_new Datagram Accepted true now p rx e = inl refl
knows_new Datagram Accepted false now p rx e = inl refl
knows_new Loose Accepted true now p rx e = omega arith
knows_new Loose Accepted false now p rx e = omega arith
knows_new Reliable Accepted b now p rx e = tt
knows_new kind Held b now p rx e = cc
knows_new kind Duplicate b now p rx e = cc
knows_new kind Behind b now p rx e = cc
knows_new kind NoState b now p rx e = cc
knows_new kind NoRoom b now p rx e = cc

pub knows_same : (kind : Kind) (rx new : Receiver) (k : ℕ) → new.accepted ≡ rx.accepted → Knows kind rx k → Knows kind new k
knows_same Datagram rx new k e h = rw e h
knows_same Loose rx new k e h = rw e h
knows_same Reliable rx new k e h = tt

knows_accepted : (kind : Kind) (now : ℕ) (p : Piece) (rx : Receiver) (k : ℕ) → Knows kind rx k → Knows kind (receiver_after Accepted kind true now p rx) k
knows_accepted Datagram now p rx k h = inr h
knows_accepted Loose now p rx k h = omega arith
knows_accepted Reliable now p rx k h = tt

knows_still : (kind : Kind) (v : Verdict) (now : ℕ) (p : Piece) (rx : Receiver) (k : ℕ) → Knows kind rx k → Knows kind (receiver_after v kind true now p rx) k
knows_still kind Accepted now p rx k h = knows_accepted kind now p rx k h
knows_still kind Held now p rx k h = knows_same kind rx _ k refl h
knows_still kind Duplicate now p rx k h = knows_same kind rx _ k refl h
knows_still kind Behind now p rx k h = knows_same kind rx _ k refl h
knows_still kind NoState now p rx k h = h
knows_still kind NoRoom now p rx k h = h

-- a state that is gone knows nothing, and then all copies are dead
known_after : (c : Constants) (now : ℕ) (p : Piece) (k : ℕ) (tx : Sender) (rx : Receiver) (v : Verdict) (b : Bool) → IsCube c.cube → is_present c now rx ≡ b → IsDone c now tx rx k → Knows c.cube.kind (receiver_after v c.cube.kind b now p rx) k ⊎ ((member tx.run k).first + c.cube.r + c.cube.mpl < now)
known_after c now p k tx rx v true cube b h = elim h.known [ inl x ↦ inl (knows_still c.cube.kind v now p rx k x) | inr x ↦ inr x ]
known_after c now p k tx rx v false cube b h = inr (let q = absent_after c now rx b h.made in let first = h.first in let lives = cube.least_mpl in omega arith)

pub done_arrive : (c : Constants) (line : Line) (p : InFlight Piece) (v : Verdict) (b : Bool) → IsCube c.cube → LineHolds c line → IsOfRun c line.sender p → is_present c line.clock line.receiver ≡ b → DoneHolds c line.clock line.sender (receiver_after v c.cube.kind b line.clock p.pdu line.receiver) (done_after v c.cube.kind b p.pdu.number line.receiver line.done)
done_arrive c line p v b cube h is present k i =
    let t = ticks v c.cube.kind b line.clock p.pdu line.receiver h.receiver.past in
    let le = t.le in
    elim (done_in c.cube.kind v b p.pdu.number line.receiver line.done k i) [
      | inl x ↦ rw (x.1) (
          let a = accepted_ticks v c.cube.kind b line.clock p.pdu line.receiver x.0 in
          let first = h.sender.firsts p.pdu.number is.within in
          let out = h.sender.out in
          record {
            within = is.within;
            first = omega (arith, a.0);
            made = a.1;
            known = inl (knows_new c.cube.kind v b line.clock p.pdu line.receiver x.0);
          })
      | inr (inl x) ↦
          (let a = accepted_ticks v c.cube.kind b line.clock p.pdu line.receiver x.0 in
          let g = (h.gapless x.2).held (present ∙ x.1) k x.3 in
          let P : Kind → Type 0 = λ z. Knows z (receiver_after v c.cube.kind b line.clock p.pdu line.receiver) k in
          record {
            within = g.0;
            first = omega (arith, g.1);
            made = a.1;
            known = inl (subst P (sym x.2) tt);
          })
      | inr (inr j) ↦
          (let x = h.done k j in
          record {
            within = x.within;
            first = omega (arith, x.first);
            made = t.made x.made;
            known = known_after c line.clock p.pdu k line.sender line.receiver v b cube present x;
          })
    ]
