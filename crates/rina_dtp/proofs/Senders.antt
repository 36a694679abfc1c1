-- What is kept of a sender's numbers is what the machine says.
use Rattle.std.proofs.Common.{◌≡◌, ℕ, ◌+◌, ◌*◌, ◌≤◌, List, [], ◌∷◌, length, Bool, true, false, cond, eqb, ltb, ◌&&◌, Option, Some, None, Result, Ok, Err, refl, sym, ◌∙◌, ap, subst, arith}
use Rattle.std.proofs.lemmas.Bool.{le-ltb, lt-ltb, ne_eqb}
use Rattle.rina_cube.specs.declared.Kind.{Kind}
use Rattle.rina_cube.specs.declared.Kind.TheVariants.{Datagram, Loose, Reliable}
use Rattle.rina_cube.specs.Cubes.{is_reliable}
use Rattle.rina_dtp.specs.declared.numbers.Numbers.{Numbers}
use Rattle.rina_dtp.specs.declared.numbers.NumbersSpent.{NumbersSpent}
use Rattle.rina_dtp.specs.Numbers.{Counts, is_absent, next_from, IsTaken, IsOffer, TakesNumbers, NotesAgain, IsNextNumber}
use Rattle.rina_law.specs.Constants.{Constants, delta}
use Rattle.rina_law.specs.Line.{HasRoom}
use Rattle.rina_law.specs.Pieces.{Part, join}
use Rattle.rina_law.specs.Sender as law
use Rattle.rina_law.specs.Sender.{Member, Sender, is_empty, is_idle, refusal, room_of, started, member_for, sender_with, sender_with_all}
use Rattle.rina_law.proofs.Lists.{length-push, resent-length}

empty_run : (run : List Member) → is_empty run ≡ eqb (length run) 0
empty_run [] = refl
empty_run (m ∷ ms) = sym (ne_eqb (length (m ∷ ms)) 0 (λ e. absurd (omega arith)))

-- the sender has no state exactly where its numbers say so
pub same_absent : (c : Constants) (now d : ℕ) (idle : Bool) (tx : Sender) (n : Numbers) → delta c ≡ d → is_idle c.cube.kind tx ≡ idle → Counts tx n → law.is_absent c now tx ≡ is_absent now idle d n
unfolding is_absent
same_absent c now d idle tx n e i k =
    let a : is_empty tx.run ≡ eqb n.next 0 = empty_run tx.run ∙ ap (λ x. eqb x 0) k.next in
    rw (a, i, k.last_out, e) refl

-- the sender that has begun has the number that is taken next
begun_length : (c : Constants) (absent : Bool) (tx : Sender) (n : Numbers) → Counts tx n → length (started absent c tx).run ≡ next_from absent n
begun_length c true tx n k = refl
begun_length c false tx n k = k.next

begun_out : (c : Constants) (absent : Bool) (tx : Sender) → (started absent c tx).last_out ≡ tx.last_out
begun_out c true tx = refl
begun_out c false tx = refl

all_length : (c : Constants) (now : ℕ) (parts : List Part) (tx : Sender) → length (sender_with_all c now parts tx).run ≡ length tx.run + length parts
all_length c now [] tx = omega arith
all_length c now (p ∷ ps) tx = omega (arith, all_length c now ps (sender_with c now p tx), length-push tx.run (member_for c now p tx))

all_out : (c : Constants) (now : ℕ) (parts : List Part) (tx : Sender) → tx.last_out ≡ now → (sender_with_all c now parts tx).last_out ≡ now
all_out c now [] tx e = e
all_out c now (p ∷ ps) tx e = all_out c now ps (sender_with c now p tx) refl

some_out : (c : Constants) (now : ℕ) (parts : List Part) (tx : Sender) → 1 ≤ length parts → (sender_with_all c now parts tx).last_out ≡ now
some_out c now [] tx h = absurd (omega arith)
some_out c now (p ∷ ps) tx h = all_out c now ps (sender_with c now p tx) refl

-- the window has room
no_window : (kind : Kind) (room need : ℕ) → (kind ≡ Reliable → need ≤ room) → (is_reliable kind && ltb room need) ≡ false
no_window Datagram room need h = refl
no_window Loose room need h = refl
no_window Reliable room need h = le-ltb room need (h refl)

-- with the refusals that come first left out, the numbers decide
only_numbers : (c : Constants) (tx : Sender) (parts : List Part) → length (join parts) ≤ c.cube.largest → HasRoom c tx (length parts) → refusal c tx parts ≡ cond (ltb (c.max + 1) (length tx.run + length parts)) (Some (law.NumbersSpent (tx.last_out + 3 * delta c))) None
only_numbers c tx parts fits room =
    let a : ltb c.cube.largest (length (join parts)) ≡ false = le-ltb c.cube.largest (length (join parts)) fits in
    let b : (is_reliable c.cube.kind && ltb (room_of tx) (length parts)) ≡ false = no_window c.cube.kind (room_of tx) (length parts) (λ e. (let h = room e in omega arith)) in
    rw (a, b) refl

taken_so : (c : Constants) (now count until first : ℕ) (parts : List Part) (tx : Sender) (old : Numbers) (result : Result ℕ NumbersSpent) (new : Numbers) → c.max ≡ old.max → length parts ≡ count → 1 ≤ count → length tx.run ≡ first → tx.last_out + 3 * delta c ≡ until → IsTaken now count until first old result new → IsOffer c now parts tx old result new
taken_so c now count until first parts tx old (Ok n) new max size some begin out t =
    let spent : ltb (c.max + 1) (length tx.run + length parts) ≡ false = le-ltb (c.max + 1) (length tx.run + length parts) (let fits = t.1 in omega arith) in
    record {
      refused = λ fits room. only_numbers c tx parts fits room ∙ ap (λ b. cond b (Some (law.NumbersSpent (tx.last_out + 3 * delta c))) None) spent;
      after = (
        t.0 ∙ sym begin,
        t.2.max_is,
        record {
          next = (let e = all_length c now parts tx in let is = t.2.next_is in omega arith);
          last_out = some_out c now parts tx (omega arith) ∙ sym t.2.last_out_is;
        },
      );
    }
taken_so c now count until first parts tx old (Err e) new max size some begin out t =
    let spent : ltb (c.max + 1) (length tx.run + length parts) ≡ true = lt-ltb (c.max + 1) (length tx.run + length parts) (let over = t.1 in omega arith) in
    record {
      refused = λ fits room. only_numbers c tx parts fits room ∙ ap (λ b. cond b (Some (law.NumbersSpent (tx.last_out + 3 * delta c))) None) spent ∙ ap (λ x. Some (law.NumbersSpent x)) (out ∙ sym t.0);
      after = t.2;
    }

pub takes : (now count : ℕ) (idle : Bool) (d : ℕ) (old : Numbers) (result : Result ℕ NumbersSpent) (new : Numbers) → 1 ≤ count → IsTaken now count (old.last_out + 3 * d) (next_from (is_absent now idle d old) old) old result new → TakesNumbers now count idle d old result new
takes now count idle d old result new some t c tx parts max e i size k =
    let same = same_absent c now d idle tx old e i k in
    let P : Bool → Type 0 = λ b. IsOffer c now parts (started b c tx) old result new in
    let b = is_absent now idle d old in
    subst P (sym same) (taken_so c now count (old.last_out + 3 * d) (next_from b old) parts (started b c tx) old result new max size some (begun_length c b tx old k) (let out = begun_out c b tx in let last = k.last_out in omega (arith, out, last, e)) t)

pub notes_again : (now : ℕ) (old new : Numbers) → new.max ≡ old.max → new.next ≡ old.next → new.last_out ≡ now → NotesAgain now old new
notes_again now old new max next out = (max, λ tx n k. record { next = resent-length n now tx.run ∙ k.next ∙ sym next; last_out = sym out })

pub is_next : (now : ℕ) (idle : Bool) (d : ℕ) (n : Numbers) (result : Option ℕ) → result ≡ cond (is_absent now idle d n) None (Some n.next) → IsNextNumber now idle d n result
is_next now idle d n result r c tx e i k =
    let same = same_absent c now d idle tx n e i k in
    rw (same, k.next) r
