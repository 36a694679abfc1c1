-- What it says of a PDU that it was refused: by its verdict, and by the next hops.
use Rattle.std.proofs.Common.{◌≡◌, ℕ, suc, ◌+◌, ◌-◌, ◌%◌, ◌^◌, ◌<◌, List, [], ◌∷◌, length, map, get_or, zero, Bool, true, false, cond, ◌||◌, eqb, ltb, leb, Some, None, refl, sym, ◌∙◌, ap, arith, inl, inr}
use Rattle.std.specs.Prelude.{Contains}
use Rattle.std.proofs.lemmas.Bool.{eq-eqb, leb-true, ltb-false, ltb-true, or_cases}
use Rattle.rina_account.specs.Causes.{missing_at}
use Rattle.rina_cube.specs.declared.Kind.{Kind}
use Rattle.rina_cube.specs.declared.Kind.TheVariants.{Datagram, Loose, Reliable}
use Rattle.rina_law.specs.Lists.{In, has, highest}
use Rattle.rina_law.specs.Pieces.{Joiner}
use Rattle.rina_law.specs.Receiver.{Accepted, Behind, Duplicate, Held, NoRoom, NoState, Piece, Receiver, Verdict, next_of, numbers, verdict, verdict_by_state, with_room}
use Rattle.rina_law.proofs.Lists.{has-in}
use Rattle.rina_data.specs.declared.link.Route.{Route}
use Rattle.rina_data.specs.Process.{next_hop}
use Rattle.rina_dif_law.specs.Incoming.{missing_for}
use Rattle.rina_dif_law.specs.WriteOffs.{IsKnown, IsTooOld, last_joined}

-- ---- lists

contains_in : (xs : List ℕ) (n : ℕ) → In n xs → Contains xs n
contains_in [] n i = absurd i
contains_in (x ∷ xs) n (inl e) = (0, omega arith, sym e)
contains_in (x ∷ xs) n (inr i) = (let c = contains_in xs n i in let lt = c.1 in (suc c.0, omega (arith, lt), c.2))

contains_has : (xs : List ℕ) (n : ℕ) → has n xs ≡ true → Contains xs n
contains_has xs n h = contains_in xs n (has-in n xs h)

-- the row of an address is found
row_found : (r : Route) (rs : List Route) (dst : ℕ) → r.dst ≡ dst → next_hop dst (r ∷ rs) ≡ Some r.link
row_found r rs dst is = (let t : eqb r.dst dst ≡ true = eq-eqb r.dst dst is in rw t refl)

row_other : (b : Bool) (r : Route) (rs : List Route) (dst : ℕ) → eqb r.dst dst ≡ b → next_hop dst (r ∷ rs) ≡ None → next_hop dst rs ≡ None
row_other true r rs dst t none = (let e : next_hop dst (r ∷ rs) ≡ Some r.link = rw t refl in let h : Some r.link ≡ None = sym e ∙ none in absurd cc)
row_other false r rs dst t none = (let e : next_hop dst (r ∷ rs) ≡ next_hop dst rs = rw t refl in sym e ∙ none)

-- an address without a next hop has no row
unrouted_at : (rs : List Route) (dst k : ℕ) → next_hop dst rs ≡ None → k < length (map (λ (r : Route). r.dst) rs) → get_or (map (λ (r : Route). r.dst) rs) k dst ≡ dst → ⊥
unrouted_at [] dst k none low is = absurd (omega (arith, low))
unrouted_at (r ∷ rs) dst zero none low is = (let f = row_found r rs dst is in absurd cc)
unrouted_at (r ∷ rs) dst (suc k) none low is = unrouted_at rs dst k (row_other (eqb r.dst dst) r rs dst refl none) (omega (arith, low)) is

pub unrouted : (rs : List Route) (dst : ℕ) → next_hop dst rs ≡ None → Contains (map (λ (r : Route). r.dst) rs) dst → ⊥
unrouted rs dst none c = unrouted_at rs dst c.0 none c.1 c.2

-- ---- verdicts

-- where there is no room, a verdict that is no other than this was that before
kept_verdict : (room : Bool) (v w : Verdict) → (NoRoom ≡ w → ⊥) → with_room room v ≡ w → v ≡ w
kept_verdict true v w other h = h
kept_verdict false Accepted w other h = absurd (other h)
kept_verdict false Held w other h = absurd (other h)
kept_verdict false Duplicate w other h = h
kept_verdict false Behind w other h = h
kept_verdict false NoState w other h = h
kept_verdict false NoRoom w other h = h

not_duplicate : NoRoom ≡ Duplicate → ⊥
not_duplicate h = absurd cc

not_behind : NoRoom ≡ Behind → ⊥
not_behind h = absurd cc

not_stateless : NoRoom ≡ NoState → ⊥
not_stateless h = absurd cc

-- the receiver knows a duplicate

known_datagram : (b c : Bool) → cond b Behind (cond c Duplicate Accepted) ≡ Duplicate → c ≡ true
known_datagram true c h = absurd cc
known_datagram false true h = refl
known_datagram false false h = absurd cc

known_reliable : (b c : Bool) → cond b Duplicate (cond c Accepted Held) ≡ Duplicate → b ≡ true
known_reliable true c h = refl
known_reliable false true h = absurd cc
known_reliable false false h = absurd cc

known_loose : (b : Bool) → cond b Accepted Behind ≡ Duplicate → ⊥
known_loose true h = absurd cc
known_loose false h = absurd cc

known_absent : (b : Bool) → cond b Accepted NoState ≡ Duplicate → ⊥
known_absent true h = absurd cc
known_absent false h = absurd cc

known_fresh : Accepted ≡ Duplicate → ⊥
known_fresh h = absurd cc

known : (kind : Kind) (present : Bool) (rx : Receiver) (p : Piece) → verdict_by_state kind present rx p ≡ Duplicate → IsKnown kind rx p.number
known Datagram true rx p h = inl (contains_has rx.accepted p.number (known_datagram (leb (p.number + 4096) (highest rx.accepted)) (has p.number rx.accepted) h))
known Loose true rx p h = known_loose (ltb (highest rx.accepted) p.number) h
known Reliable true rx p h =
    elim (or_cases (ltb p.number (next_of rx)) (has p.number (numbers rx.held)) (known_reliable (ltb p.number (next_of rx) || has p.number (numbers rx.held)) (eqb p.number (next_of rx)) h)) [
      | inl t ↦ inr (inr (ltb-true p.number (next_of rx) t))
      | inr t ↦ inr (inl (contains_has (numbers rx.held) p.number t))
    ]
known Datagram false rx p h = absurd (known_fresh h)
known Loose false rx p h = known_fresh h
known Reliable false rx p h = absurd (known_absent p.drf h)

pub duplicate_known : (kind : Kind) (present : Bool) (rx : Receiver) (p : Piece) (room : Bool) → verdict kind present rx p room ≡ Duplicate → IsKnown kind rx p.number
duplicate_known kind present rx p room h = known kind present rx p (kept_verdict room (verdict_by_state kind present rx p) Duplicate not_duplicate h)

-- one that is behind is too old

old_datagram : (b c : Bool) → cond b Behind (cond c Duplicate Accepted) ≡ Behind → b ≡ true
old_datagram true c h = refl
old_datagram false true h = absurd cc
old_datagram false false h = absurd cc

old_loose : (b : Bool) → cond b Accepted Behind ≡ Behind → b ≡ false
old_loose false h = refl
old_loose true h = absurd cc

old_reliable : (b c : Bool) → cond b Duplicate (cond c Accepted Held) ≡ Behind → ⊥
old_reliable true c h = absurd cc
old_reliable false true h = absurd cc
old_reliable false false h = absurd cc

old_absent : (b : Bool) → cond b Accepted NoState ≡ Behind → ⊥
old_absent true h = absurd cc
old_absent false h = absurd cc

old_fresh : Accepted ≡ Behind → ⊥
old_fresh h = absurd cc

old : (kind : Kind) (present : Bool) (rx : Receiver) (p : Piece) → verdict_by_state kind present rx p ≡ Behind → IsTooOld kind (highest rx.accepted) p.number
old Datagram true rx p h = leb-true (p.number + 4096) (highest rx.accepted) (old_datagram (leb (p.number + 4096) (highest rx.accepted)) (has p.number rx.accepted) h)
old Loose true rx p h = ltb-false (highest rx.accepted) p.number (old_loose (ltb (highest rx.accepted) p.number) h)
old Reliable true rx p h = old_reliable (ltb p.number (next_of rx) || has p.number (numbers rx.held)) (eqb p.number (next_of rx)) h
old Datagram false rx p h = absurd (old_fresh h)
old Loose false rx p h = absurd (old_fresh h)
old Reliable false rx p h = old_absent p.drf h

pub behind_old : (kind : Kind) (present : Bool) (rx : Receiver) (p : Piece) (room : Bool) → verdict kind present rx p room ≡ Behind → IsTooOld kind (highest rx.accepted) p.number
behind_old kind present rx p room h = old kind present rx p (kept_verdict room (verdict_by_state kind present rx p) Behind not_behind h)

-- one for which there is no state begins no run, on a reliable flow

stateless_reliable : (b c : Bool) → cond b Duplicate (cond c Accepted Held) ≡ NoState → ⊥
stateless_reliable true c h = absurd cc
stateless_reliable false true h = absurd cc
stateless_reliable false false h = absurd cc

stateless_datagram : (b c : Bool) → cond b Behind (cond c Duplicate Accepted) ≡ NoState → ⊥
stateless_datagram true c h = absurd cc
stateless_datagram false true h = absurd cc
stateless_datagram false false h = absurd cc

stateless_loose : (b : Bool) → cond b Accepted Behind ≡ NoState → ⊥
stateless_loose true h = absurd cc
stateless_loose false h = absurd cc

stateless_absent : (b : Bool) → cond b Accepted NoState ≡ NoState → b ≡ false
stateless_absent false h = refl
stateless_absent true h = absurd cc

stateless_fresh : Accepted ≡ NoState → ⊥
stateless_fresh h = absurd cc

stateless_by : (kind : Kind) (present : Bool) (rx : Receiver) (p : Piece) → verdict_by_state kind present rx p ≡ NoState → (kind ≡ Reliable) × (present ≡ false) × (p.drf ≡ false)
stateless_by Reliable false rx p h = (refl, refl, stateless_absent p.drf h)
stateless_by Datagram false rx p h = absurd (stateless_fresh h)
stateless_by Loose false rx p h = absurd (stateless_fresh h)
stateless_by Datagram true rx p h = absurd (stateless_datagram (leb (p.number + 4096) (highest rx.accepted)) (has p.number rx.accepted) h)
stateless_by Loose true rx p h = absurd (stateless_loose (ltb (highest rx.accepted) p.number) h)
stateless_by Reliable true rx p h = absurd (stateless_reliable (ltb p.number (next_of rx) || has p.number (numbers rx.held)) (eqb p.number (next_of rx)) h)

pub stateless : (kind : Kind) (present : Bool) (rx : Receiver) (p : Piece) (room : Bool) → verdict kind present rx p room ≡ NoState → (kind ≡ Reliable) × (present ≡ false) × (p.drf ≡ false)
stateless kind present rx p room h = stateless_by kind present rx p (kept_verdict room (verdict_by_state kind present rx p) NoState not_stateless h)

-- no state refuses for want of room

room_datagram : (b c : Bool) → cond b Behind (cond c Duplicate Accepted) ≡ NoRoom → ⊥
room_datagram true c h = absurd cc
room_datagram false true h = absurd cc
room_datagram false false h = absurd cc

room_reliable : (b c : Bool) → cond b Duplicate (cond c Accepted Held) ≡ NoRoom → ⊥
room_reliable true c h = absurd cc
room_reliable false true h = absurd cc
room_reliable false false h = absurd cc

room_loose : (b : Bool) → cond b Accepted Behind ≡ NoRoom → ⊥
room_loose true h = absurd cc
room_loose false h = absurd cc

room_absent : (b : Bool) → cond b Accepted NoState ≡ NoRoom → ⊥
room_absent true h = absurd cc
room_absent false h = absurd cc

room_fresh : Accepted ≡ NoRoom → ⊥
room_fresh h = absurd cc

never_roomless : (kind : Kind) (present : Bool) (rx : Receiver) (p : Piece) → verdict_by_state kind present rx p ≡ NoRoom → ⊥
never_roomless Datagram true rx p h = room_datagram (leb (p.number + 4096) (highest rx.accepted)) (has p.number rx.accepted) h
never_roomless Loose true rx p h = room_loose (ltb (highest rx.accepted) p.number) h
never_roomless Reliable true rx p h = room_reliable (ltb p.number (next_of rx) || has p.number (numbers rx.held)) (eqb p.number (next_of rx)) h
never_roomless Datagram false rx p h = room_fresh h
never_roomless Loose false rx p h = room_fresh h
never_roomless Reliable false rx p h = room_absent p.drf h

pub roomless : (kind : Kind) (present : Bool) (rx : Receiver) (p : Piece) (room : Bool) → verdict kind present rx p room ≡ NoRoom → room ≡ false
roomless kind present rx p true h = absurd (never_roomless kind present rx p h)
roomless kind present rx p false h = refl

-- ---- the number that is missing

pub missing_same : (p : Piece) (j : Joiner) → missing_for p j ≡ missing_at (last_joined j) p.number
missing_same p j = go (ltb 0 j.count) refl
  where
    go : (b : Bool) → ltb 0 j.count ≡ b → cond b ((j.from + j.count) % 2 ^ 32) ((p.number + 2 ^ 32 - 1) % 2 ^ 32) ≡ missing_at (cond b (Some (j.from + j.count - 1)) None) p.number
    go true e = (let some : 0 < j.count = ltb-true 0 j.count e in let same : j.from + j.count ≡ j.from + j.count - 1 + 1 = omega (arith, some) in ap (λ (k : ℕ). k % 2 ^ 32) same)
    go false e = refl
