-- The journals of a direction keep their cube.
use Rattle.std.proofs.Common.{◌≡◌, ℕ, ◌+◌, ◌<◌, List, length, Some, slice_get, refl, sym, ◌∙◌, ap, subst, arith, inl, inr}
use Rattle.std.proofs.lemmas.Bool.{cases_lt}
use Rattle.std.proofs.lemmas.Option.{slice_get-get_or, slice_get_within, get_or_from_slice_get}
use Rattle.rina_base.specs.declared.number.Num.{Num}
use Rattle.rina_cube.specs.declared.Cube.{Cube}
use Rattle.rina_cube.specs.declared.Kind.{Kind}
use Rattle.rina_cube.specs.declared.Kind.TheVariants.{Datagram, Loose, Reliable}
use Rattle.rina_cube.specs.Cubes.{IsCube, IsTimed, promise_by, promise_of}
use Rattle.rina_law.specs.declared.entry.Entry.{Entry}
use Rattle.rina_law.specs.Constants.{Constants}
use Rattle.rina_law.specs.Direction.{no_entry, entry, Direction}
use Rattle.rina_law.specs.DirectionHolds.{nth, ArePlaces, DirectionHolds}
use Rattle.rina_law.specs.Journal.{IsPlace, KeepsOrder, Keeps}

pub entry_is : (es : List Entry) (i : ℕ) (e : Entry) → slice_get es i ≡ Some e → entry es i ≡ e
entry_is es i e is = get_or_from_slice_get es i e no_entry is

num_is : (a b : Num) → a.cep ≡ b.cep → a.seq ≡ b.seq → a ≡ b
num_is a b cep seq = λ i. record { cep = cep i; seq = seq i }

-- an entry that was got, with its place
place_from : (c : Constants) (d : Direction) (i : ℕ) → DirectionHolds c d → i < length d.inbox.got → IsPlace d.sent (entry d.inbox.got i) (nth d.inbox.places i) (entry d.sent (nth d.inbox.places i))
place_from c d i h lt =
    let k = h.core in
    let g = k.got.is i lt in
    record {
      is_source = record {
        stands = slice_get-get_or d.sent (nth d.inbox.places i) no_entry g.stands;
        same = num_is ((entry d.sent (nth d.inbox.places i)).num) ((entry d.inbox.got i).num) (k.sent.cep (nth d.inbox.places i) g.stands ∙ sym g.cep) g.num;
        before = g.before;
      };
      greatest = λ j s source.
          (let is = entry_is d.sent j s source.stands in
          let lt_j = slice_get_within d.sent j s source.stands in
          let tick = ap (λ (e : Entry). e.tick) is in
          let before = source.before in
          g.greatest j lt_j (ap (λ (e : Entry). e.num.seq) is ∙ ap (λ (n : Num). n.seq) source.same) (omega arith));
    }

same_place : (sent : List Entry) (e : Entry) (j k : ℕ) (s t : Entry) → IsPlace sent e j s → IsPlace sent e k t → j ≡ k
same_place sent e j k s t x y = (let a = x.greatest k t y.is_source in let b = y.greatest j s x.is_source in omega arith)

place_at : (c : Constants) (d : Direction) (i j : ℕ) (e s : Entry) → DirectionHolds c d → slice_get d.inbox.got i ≡ Some e → IsPlace d.sent e j s → j ≡ nth d.inbox.places i
place_at c d i j e s h is place =
    let lt = slice_get_within d.inbox.got i e is in
    let P : Entry → Type 0 = λ x. IsPlace d.sent x (nth d.inbox.places i) (entry d.sent (nth d.inbox.places i)) in
    same_place d.sent e j (nth d.inbox.places i) s (entry d.sent (nth d.inbox.places i)) place (subst P (entry_is d.inbox.got i e is) (place_from c d i h lt))

-- each entry has a place
place_of_got : (c : Constants) (d : Direction) (i : ℕ) (e : Entry) → DirectionHolds c d → slice_get d.inbox.got i ≡ Some e → IsPlace d.sent e (nth d.inbox.places i) (entry d.sent (nth d.inbox.places i))
place_of_got c d i e h is =
    let P : Entry → Type 0 = λ x. IsPlace d.sent x (nth d.inbox.places i) (entry d.sent (nth d.inbox.places i)) in
    subst P (entry_is d.inbox.got i e is) (place_from c d i h (slice_get_within d.inbox.got i e is))

order_kept : (c : Constants) (d : Direction) (kind : Kind) → c.cube.kind ≡ kind → DirectionHolds c d → KeepsOrder kind d.sent d.inbox.got
order_kept c d Datagram kind h = λ i k j e f s e_is f_is p q.
    (let apart : ArePlaces Datagram d.inbox.places = subst (λ (z : Kind). ArePlaces z d.inbox.places) kind h.core.got.shape in
    let size = h.core.got.size in
    let li = slice_get_within d.inbox.got i e e_is in
    let lk = slice_get_within d.inbox.got k f f_is in
    let a = place_at c d i j e s h e_is p in
    let b = place_at c d k j f s h f_is q in
    elim (cases_lt i k) [
      | inl lt ↦ absurd (apart i k lt (omega arith) (sym a ∙ b))
      | inr ge ↦ elim (cases_lt k i) [ inl lt ↦ absurd (apart k i lt (omega arith) (sym b ∙ a)) | inr ge' ↦ omega arith ]
    ])
order_kept c d Loose kind h = λ i k p q e f s t e_is f_is x y lt.
    (let rising : ArePlaces Loose d.inbox.places = subst (λ (z : Kind). ArePlaces z d.inbox.places) kind h.core.got.shape in
    let size = h.core.got.size in
    let lk = slice_get_within d.inbox.got k f f_is in
    let a = place_at c d i p e s h e_is x in
    let b = place_at c d k q f t h f_is y in
    let r : nth d.inbox.places i < nth d.inbox.places k = rising i k lt (omega arith) in
    omega arith)
order_kept c d Reliable kind h = λ i e is.
    (let all : ArePlaces Reliable d.inbox.places = subst (λ (z : Kind). ArePlaces z d.inbox.places) kind h.core.got.shape in
    let size = h.core.got.size in
    let li = slice_get_within d.inbox.got i e is in
    let at : nth d.inbox.places i ≡ i = all i (omega arith) in
    let P : ℕ → Type 0 = λ j. (s : Entry) × IsPlace d.sent e j s in
    subst P at (entry d.sent (nth d.inbox.places i), place_of_got c d i e h is))

-- without resending, `r` is 0
promise_is : (c : Cube) (kind : Kind) → IsTimed kind c → promise_by kind c ≡ c.r + c.mpl
promise_is c Datagram times = (let r = times.0 in omega arith)
promise_is c Loose times = (let r = times.0 in omega arith)
promise_is c Reliable times = refl

pub keeps_from : (c : Constants) (d : Direction) → IsCube c.cube → DirectionHolds c d → Keeps c.cube.kind (promise_of c.cube) d.sent d.inbox.got
keeps_from c d cube h = record {
  born = λ i e is.
      (let lt = slice_get_within d.inbox.got i e is in
      let g = h.core.got.is i lt in
      let same = entry_is d.inbox.got i e is in
      let tick = ap (λ (x : Entry). x.tick) same in
      let promise = promise_is c.cube c.cube.kind cube.times in
      record {
        place = nth d.inbox.places i;
        source = entry d.sent (nth d.inbox.places i);
        is_place = place_of_got c d i e h is;
        bytes = ap (λ (x : Entry). x.bytes) (sym same) ∙ g.bytes;
        in_time = omega (arith, g.in_time);
      });
  order = order_kept c d c.cube.kind refl h;
}
