-- What the rows make: the pieces of an SDU in flight, and the sender after them; and when numbers are spent.
use Rattle.std.proofs.Common.{◌≡◌, ℕ, ◌+◌, ◌*◌, ◌<◌, ◌≤◌, List, [], ◌∷◌, length, Bool, true, false, cond, ◌&&◌, ltb, refl, sym, arith, inl, inr, Option, Some, None}
use Rattle.std.proofs.lemmas.Bool.{ltb-true}
use Rattle.rina_cube.specs.Cubes.{is_reliable}
use Rattle.rina_law.specs.Constants.{Constants, delta}
use Rattle.rina_law.specs.Direction.{Direction, offer_refusal}
use Rattle.rina_law.specs.Line.{InFlight, Line, put_all, begun, offer}
use Rattle.rina_law.specs.Lists.{In}
use Rattle.rina_law.specs.Pieces.{Part, join}
use Rattle.rina_law.specs.Receiver.{Piece}
use Rattle.rina_law.specs.Sender.{Sender, is_absent, started, Refusal, TooLong, WindowShut, NumbersSpent, room_of, refusal, sender_with_all, pieces_for}

-- the clock stays, and what was in flight is

clock_put_all : (c : Constants) (parts : List Part) (line : Line) → (put_all c parts line).clock ≡ line.clock
clock_put_all c [] line = refl
clock_put_all c (part ∷ parts) line = clock_put_all c parts _

acks_put_all : (c : Constants) (parts : List Part) (line : Line) → (put_all c parts line).acks ≡ line.acks
acks_put_all c [] line = refl
acks_put_all c (part ∷ parts) line = acks_put_all c parts _

still_in_flight : (c : Constants) (parts : List Part) (line : Line) (p : InFlight Piece) → In p line.pieces → In p (put_all c parts line).pieces
still_in_flight c [] line p i = i
still_in_flight c (part ∷ parts) line p i = still_in_flight c parts _ p (inr i)

-- the sender is that of the machine's row, and each piece of it is in flight for `mpl` ticks

sender_put_all : (c : Constants) (parts : List Part) (line : Line) → (put_all c parts line).sender ≡ sender_with_all c line.clock parts line.sender
sender_put_all c [] line = refl
sender_put_all c (part ∷ parts) line = sender_put_all c parts _

made_in_flight : (c : Constants) (parts : List Part) (line : Line) (p : Piece) → In p (pieces_for c line.clock parts line.sender) → In (record { pdu = p; death = line.clock + c.cube.mpl }) (put_all c parts line).pieces
made_in_flight c [] line p i = absurd i
made_in_flight c (part ∷ parts) line p (inl e) = rw e (still_in_flight c parts _ _ (inl refl))
made_in_flight c (part ∷ parts) line p (inr i) = made_in_flight c parts _ p i

-- the same of an offer that begins a run, or goes on with one

offered_from : (b : Bool) (c : Constants) (parts : List Part) (line : Line) → (put_all c parts (begun b c line)).sender ≡ sender_with_all c line.clock parts (started b c line.sender)
offered_from true c parts line = sender_put_all c parts _
offered_from false c parts line = sender_put_all c parts _

pub offered_sender : (c : Constants) (parts : List Part) (line : Line) → (offer c parts line).sender ≡ sender_with_all c line.clock parts (started (is_absent c line.clock line.sender) c line.sender)
offered_sender c parts line = offered_from (is_absent c line.clock line.sender) c parts line

clock_from : (b : Bool) (c : Constants) (parts : List Part) (line : Line) → (put_all c parts (begun b c line)).clock ≡ line.clock
clock_from true c parts line = clock_put_all c parts _
clock_from false c parts line = clock_put_all c parts _

pub offered_clock : (c : Constants) (parts : List Part) (line : Line) → (offer c parts line).clock ≡ line.clock
offered_clock c parts line = clock_from (is_absent c line.clock line.sender) c parts line

acks_from : (b : Bool) (c : Constants) (parts : List Part) (line : Line) → (put_all c parts (begun b c line)).acks ≡ line.acks
acks_from true c parts line = acks_put_all c parts _
acks_from false c parts line = acks_put_all c parts _

pub offered_acks : (c : Constants) (parts : List Part) (line : Line) → (offer c parts line).acks ≡ line.acks
offered_acks c parts line = acks_from (is_absent c line.clock line.sender) c parts line

flying_from : (b : Bool) (c : Constants) (parts : List Part) (line : Line) (p : InFlight Piece) → In p line.pieces → In p (put_all c parts (begun b c line)).pieces
flying_from true c parts line p i = still_in_flight c parts _ p i
flying_from false c parts line p i = still_in_flight c parts _ p i

pub offered_still : (c : Constants) (parts : List Part) (line : Line) (p : InFlight Piece) → In p line.pieces → In p (offer c parts line).pieces
offered_still c parts line p i = flying_from (is_absent c line.clock line.sender) c parts line p i

made_from : (b : Bool) (c : Constants) (parts : List Part) (line : Line) (p : Piece) → In p (pieces_for c line.clock parts (started b c line.sender)) → In (record { pdu = p; death = line.clock + c.cube.mpl }) (put_all c parts (begun b c line)).pieces
made_from true c parts line p i = made_in_flight c parts _ p i
made_from false c parts line p i = made_in_flight c parts _ p i

pub offered_made : (c : Constants) (parts : List Part) (line : Line) (p : Piece) → In p (pieces_for c line.clock parts (started (is_absent c line.clock line.sender) c line.sender)) → In (record { pdu = p; death = line.clock + c.cube.mpl }) (offer c parts line).pieces
offered_made c parts line p i = made_from (is_absent c line.clock line.sender) c parts line p i

-- numbers are spent only for a sender that has state

spent_last : (b : Bool) (until u : ℕ) → cond b (Some (NumbersSpent u)) None ≡ Some (NumbersSpent until) → (b ≡ true) × (u ≡ until)
spent_last true until u e = (refl, cc)
spent_last false until u e = cc

not_shut : (b : Bool) (need room until : ℕ) (y : Option Refusal) → cond b (Some (WindowShut need room)) y ≡ Some (NumbersSpent until) → y ≡ Some (NumbersSpent until)
not_shut true need room until y e = cc
not_shut false need room until y e = e

not_long : (b : Bool) (len most until : ℕ) (y : Option Refusal) → cond b (Some (TooLong len most)) y ≡ Some (NumbersSpent until) → y ≡ Some (NumbersSpent until)
not_long true len most until y e = cc
not_long false len most until y e = e

spent : (c : Constants) (tx : Sender) (parts : List Part) (until : ℕ) → refusal c tx parts ≡ Some (NumbersSpent until) → (c.max + 1 < length tx.run + length parts) × (tx.last_out + 3 * delta c ≡ until)
spent c tx parts until e =
    let fits = not_long (ltb c.cube.largest (length (join parts))) _ _ until _ e in
    let open_ = not_shut (is_reliable c.cube.kind && ltb (room_of tx) (length parts)) _ _ until _ fits in
    let x = spent_last (ltb (c.max + 1) (length tx.run + length parts)) until (tx.last_out + 3 * delta c) open_ in
    (ltb-true (c.max + 1) (length tx.run + length parts) x.0, x.1)

spent_from : (c : Constants) (tx : Sender) (parts : List Part) (until : ℕ) (b : Bool) → length parts ≤ c.max + 1 → refusal c (started b c tx) parts ≡ Some (NumbersSpent until) → (b ≡ false) × (until ≡ tx.last_out + 3 * delta c)
spent_from c tx parts until true le e = (let x = (spent c (started true c tx) parts until e).0 in absurd (omega arith))
spent_from c tx parts until false le e = (refl, sym ((spent c tx parts until e).1))

pub spent_present : (c : Constants) (d : Direction) (parts : List Part) (until : ℕ) → length parts ≤ c.max + 1 → offer_refusal c d parts ≡ Some (NumbersSpent until) → (is_absent c d.line.clock d.line.sender ≡ false) × (until ≡ d.line.sender.last_out + 3 * delta c)
spent_present c d parts until le e = spent_from c d.line.sender parts until (is_absent c d.line.clock d.line.sender) le e
