-- A direction that holds is lawful, and means what its words say.
use Rattle.std.proofs.Common.{◌≡◌, ℕ, zero, suc, ◌+◌, ◌*◌, ◌<◌, ◌≤◌, ◌⊎◌, List, [], ◌∷◌, length, Bool, true, false, cond, ◌&&◌, ◌||◌, ltb, leb, refl, sym, ◌∙◌, ap, subst, arith, inl, inr, Some}
use Rattle.std.proofs.lemmas.Bool.{or_cases, and_parts, and_from, false≢true, leb-true, le-leb, lt-ltb, cases_lt}
use Rattle.std.proofs.lemmas.Option.{slice_get-get_or}
use Rattle.rina_cube.specs.declared.Kind.{Kind}
use Rattle.rina_cube.specs.declared.Kind.TheVariants.{Datagram, Loose, Reliable}
use Rattle.rina_cube.specs.Cubes.{IsCube}
use Rattle.rina_law.specs.Constants.{Constants, delta}
use Rattle.rina_law.specs.Direction.{place_of, no_entry, entry, Direction}
use Rattle.rina_law.specs.DirectionHolds.{part_at, reached, RunHolds, DirectionHolds}
use Rattle.rina_law.specs.Lawful.{IsAlive, IsLawful, OldDies, IsWelcome, IsAcknowledged, IsAbsentByClock, IsGivenUp}
use Rattle.rina_law.specs.Line.{InFlight, Line}
use Rattle.rina_law.specs.LineHolds.{IsOfRun, below, IsShaped, LineHolds}
use Rattle.rina_law.specs.Lists.{In}
use Rattle.rina_law.specs.Pieces.{Part}
use Rattle.rina_law.specs.Receiver.{Piece}
use Rattle.rina_law.specs.Sender.{Member, Sender, is_empty, is_idle, given_up}
use Rattle.rina_law.proofs.Agreeing.{done_le}
use Rattle.rina_law.proofs.Coming.{arrival_room}
use Rattle.rina_law.proofs.Cuts.{place_within, sent_piece}
use Rattle.rina_law.proofs.Due.{late_given_up}
use Rattle.rina_law.proofs.Lists.{below-in, in-below}
use Rattle.rina_law.proofs.Beginning.{all_reached}
use Rattle.rina_law.proofs.Quiet.{quiet_from}
use Rattle.rina_law.proofs.Runs.{place_lt, reached_ends, start_le}
use Rattle.rina_law.proofs.Standing.{present_made, present_before_end}

-- on a reliable flow the accepted numbers are those below their count

done_below : (c : Constants) (line : Line) → LineHolds c line → c.cube.kind ≡ Reliable → line.done ≡ below (length line.done)
done_below c line h e = subst (λ (z : Kind). IsShaped z line.done) e h.shape

pub done_in : (c : Constants) (line : Line) → LineHolds c line → c.cube.kind ≡ Reliable → (n : ℕ) → n < length line.done → In n line.done
done_in c line h e n lt = rw (done_below c line h e) (in-below (length line.done) n lt)

done_lt : (c : Constants) (line : Line) → LineHolds c line → c.cube.kind ≡ Reliable → (n : ℕ) → In n line.done → n < length line.done
done_lt c line h e n i = (let P : List ℕ → Type 0 = λ xs. In n xs in below-in (length line.done) n (subst P (done_below c line h e) i))

-- old pieces

old_dies : (c : Constants) (d : Direction) (p : InFlight Piece) (kind : Kind) → c.cube.kind ≡ kind → IsCube c.cube → LineHolds c d.line → IsOfRun c d.line.sender p → OldDies kind c d p
old_dies c d p Datagram e cube h is = λ i. (let x = (h.done p.pdu.number i).first in let death = is.in_time in let lives = cube.least_mpl in omega arith)
old_dies c d p Loose e cube h is = λ k i le. (let y = h.done k i in let x = y.first in let r = h.sender.rising p.pdu.number k le y.within in let death = is.in_time in let lives = cube.least_mpl in omega arith)
old_dies c d p Reliable e cube h is = λ drf.
    (let le = (h.gapless e).drf p.pdu.number is.within (sym is.drf ∙ drf) in (
      λ k lt. done_in c d.line h e k (omega arith),
      λ i. (let x = (h.done p.pdu.number i).first in let death = is.in_time in let lives = cube.least_mpl in omega arith),
    ))

pub lawful_from : (c : Constants) (d : Direction) → IsCube c.cube → DirectionHolds c d → IsLawful c d
lawful_from c d cube h =
    let k = h.core in
    record {
      pieces = λ p alive. sent_piece c d p h (k.line.pieces p alive.0 alive.1);
      last_in = λ b. k.line.receiver.out (present_made c d.line.clock d.line.receiver b);
      acks = λ a alive. (let x = k.line.acks a alive.0 alive.1 in record {
        reliable = x.reliable;
        accepted = λ n le. done_in c d.line k.line x.reliable n (let lt = x.ack in omega arith);
        edge = x.edge;
        ack_fits = (let lt = x.ack in let le = done_le c d.line k.line x.reliable in let numbers = k.run.numbers in omega arith);
        right_fits = x.fits;
        in_time = x.out;
      });
      told = λ e. (let g = k.line.gapless e in record {
        accepted = λ n lt. done_in c d.line k.line e n (let le = g.acked in omega arith);
        edge = g.right;
      });
      old = λ p alive. old_dies c d p c.cube.kind refl cube k.line (k.line.pieces p alive.0 alive.1);
      gapless = λ e. record {
        below = λ n. (λ i. done_lt c d.line k.line e n i, λ lt. done_in c d.line k.line e n lt);
        next = λ b. (k.line.gapless e).next b;
        whole = sym k.got.size ∙ k.count e;
      };
    }

pub welcome_from : (c : Constants) (d : Direction) (p : InFlight Piece) → IsCube c.cube → DirectionHolds c d → IsAlive d.line d.line.pieces p → IsWelcome c d p.pdu
welcome_from c d p cube h alive =
    let k = h.core in
    let is = k.line.pieces p alive.0 alive.1 in
    let within = is.within in
    let numbers = k.run.numbers in
    let window = λ (e : c.cube.kind ≡ Reliable). (let g = k.line.gapless e in let w = g.window in let r = g.right in let lt : p.pdu.number < length d.line.done + c.cube.window = omega arith in lt) in
    record {
      body = (let sized = k.run.sized p.pdu.number within in let fits = sized.fits in let same = ap (λ (z : Part). length z.body) is.part in omega arith);
      number = omega arith;
      window = window;
      held = λ e b. (let lt = window e in let next = (k.line.gapless e).next b in omega arith);
      joiner = arrival_room c d p cube h alive.0 alive.1;
    }

-- acknowledgements

reached_lt : (c : Constants) (run : List Member) (base n m : ℕ) → RunHolds c run → n < m → m ≤ length run → (part_at run n).ends ≡ true → place_of run base n < reached run base m
reached_lt c run base n zero h lt le e = absurd (omega arith)
reached_lt c run base n (suc m) h lt le e = elim (cases_lt n m) [
  | inl less ↦ (let p = place_lt c run base n m h less le e in go (part_at run m).ends (omega arith))
  | inr ge ↦ (let is : n ≡ m = omega arith in let P : ℕ → Type 0 = λ i. place_of run base n < reached run base (suc i) in subst P is (let r = reached_ends run base n e in omega arith))
]
  where
    go : (b : Bool) → place_of run base n < place_of run base m → place_of run base n < cond b (suc (place_of run base m)) (place_of run base m)
    go true x = omega arith
    go false x = x

pub acknowledged_from : (c : Constants) (d : Direction) → DirectionHolds c d → c.cube.kind ≡ Reliable → IsAcknowledged c d
acknowledged_from c d h e =
    let k = h.core in
    let g = k.line.gapless e in
    let acked = g.acked in
    let size = k.got.size in
    let count = k.count e in
    let le = done_le c d.line k.line e in
    record {
      each = λ n lt. record {
        accepted = done_in c d.line k.line e n (omega arith);
        got = λ ends. (let r = reached_lt c d.line.sender.run d.base n (length d.line.done) k.run (omega arith) le ends in omega arith);
      };
      all = λ idle.
          (let P : Kind → Type 0 = λ z. is_idle z d.line.sender ≡ true in
          let all : length d.line.sender.run ≤ d.line.sender.acked = leb-true (length d.line.sender.run) d.line.sender.acked (subst P e idle) in
          let done : length d.line.done ≡ length d.line.sender.run = omega arith in
          sym size ∙ count ∙ all_reached c d h (length d.line.done) done);
    }

-- absence

empty_is : (run : List Member) → is_empty run ≡ true → run ≡ []
empty_is [] e = refl
empty_is (m ∷ run) e = absurd (false≢true e)

absent_iff : (c : Constants) (now : ℕ) (tx : Sender) (idle : Bool) → (is_empty tx.run || (idle && leb (tx.last_out + 3 * delta c) now)) ≡ true → (tx.run ≡ []) ⊎ ((idle ≡ true) × (tx.last_out + 3 * delta c ≤ now))
absent_iff c now tx idle e = elim (or_cases (is_empty tx.run) (idle && leb (tx.last_out + 3 * delta c) now) e) [
  | inl none ↦ inl (empty_is tx.run none)
  | inr rest ↦ (let p = and_parts idle (leb (tx.last_out + 3 * delta c) now) rest in inr (p.0, leb-true (tx.last_out + 3 * delta c) now p.1))
]

or_right : (a b : Bool) → b ≡ true → (a || b) ≡ true
or_right true b e = refl
or_right false b e = e

absent_back : (c : Constants) (now : ℕ) (tx : Sender) (idle : Bool) → (tx.run ≡ []) ⊎ ((idle ≡ true) × (tx.last_out + 3 * delta c ≤ now)) → (is_empty tx.run || (idle && leb (tx.last_out + 3 * delta c) now)) ≡ true
absent_back c now tx idle (inl none) = rw none refl
absent_back c now tx idle (inr x) = or_right (is_empty tx.run) (idle && leb (tx.last_out + 3 * delta c) now) (and_from idle (leb (tx.last_out + 3 * delta c) now) x.0 (le-leb (tx.last_out + 3 * delta c) now x.1))

pub absent_by_clock : (c : Constants) (d : Direction) → IsCube c.cube → DirectionHolds c d → IsAbsentByClock c d
absent_by_clock c d cube h =
    let rx = d.line.receiver in
    let quiet = quiet_from c d.line cube h.core.line in
    record {
      receiver = (λ b. (present_made c d.line.clock rx b, present_before_end c d.line.clock rx b), λ x. and_from rx.made (ltb d.line.clock (rx.last_in + 2 * delta c)) x.0 (lt-ltb d.line.clock (rx.last_in + 2 * delta c) x.1));
      sender = (absent_iff c d.line.clock d.line.sender (is_idle c.cube.kind d.line.sender), absent_back c d.line.clock d.line.sender (is_idle c.cube.kind d.line.sender));
      both = λ b. (quiet b).absent;
      pieces = λ b p alive. (quiet b).pieces p alive.0 alive.1;
      acks = λ b k alive. (quiet b).acks k alive.0 alive.1;
    }

-- giving up

pub given_up_from : (c : Constants) (d : Direction) (n : ℕ) → DirectionHolds c d → given_up c d.line.clock d.line.sender ≡ Some n → IsGivenUp c d n
given_up_from c d n h e =
    let k = h.core in
    let x = late_given_up c d.line.clock d.line.sender n e in
    let run = d.line.sender.run in
    let tick = k.sent.tick n x.within in
    let num = k.sent.num n x.within in
    let le = start_le run n in
    record {
      reliable = x.reliable;
      unacked = x.unacked;
      place = place_of run d.base n;
      source = entry d.sent (place_of run d.base n);
      stands = slice_get-get_or d.sent (place_of run d.base n) no_entry (place_within c run d.base d.sent k.sent n x.within);
      from = omega arith;
      late = omega (arith, x.late);
    }
