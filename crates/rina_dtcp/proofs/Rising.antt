-- Pieces of which none is due before an earlier one.
use Rattle.std.proofs.Common.{◌≡◌, ℕ, zero, suc, ◌+◌, ◌-◌, ◌*◌, ◌^◌, ◌<◌, ◌≤◌, min, Bool, true, false, cond, ◌&&◌, ◌||◌, leb, List, [], ◌∷◌, ◌++◌, length, drop, get_or, slice_get, Some, refl, sym, ◌∙◌, ap, subst, arith, ◌⊎◌, inl, inr}
use Rattle.std.proofs.lemmas.Bool.{and_parts, cases_lt, false_from_ne_true, false≢true, le-leb, leb-true, or_from}
use Rattle.std.proofs.lemmas.Option.{slice_get-get_or, slice_get_within}
use Rattle.rina_base.specs.declared.pdu.Pdu.{Pdu}
use Rattle.rina_cube.specs.declared.Cube.{Cube}
use Rattle.rina_dtcp.specs.declared.sent.Sent.{Sent}
use Rattle.rina_dtcp.specs.Senders.{sents_from}
use Rattle.rina_dtcp.specs.Sents.{IsDueFrom, IsNoSooner, IsSomeDueFrom, IsStillUntil, RiseFrom, RiseTo, is_due, is_late, touched}
use Rattle.rina_dtcp.proofs.Still.{still_earlier}

-- The tick at which a piece is due

pub tick_before : (cube : Cube) (tick : ℕ) (s : Sent) → (s.last + cube.retry ≤ s.first + cube.r → tick ≤ s.last + cube.retry) → (s.first + cube.r < s.last + cube.retry → tick ≤ s.first + cube.r + cube.a + 2 * cube.mpl) → IsStillUntil tick cube s
unfolding is_due is_late
tick_before cube tick s again late = record {
  again = λ t lt. false_from_ne_true (leb (s.last + cube.retry) t && leb t (s.first + cube.r)) (λ met.
      let both = and_parts (leb (s.last + cube.retry) t) (leb t (s.first + cube.r)) met in
      let from = leb-true (s.last + cube.retry) t both.0 in
      let to = leb-true t (s.first + cube.r) both.1 in
      let most = again (omega (arith, from, to)) in
      absurd (omega (arith, lt, from, most)));
  given_up = λ t lt. false_from_ne_true (leb (s.first + cube.r + cube.a + 2 * cube.mpl) t) (λ met.
      let from = leb-true (s.first + cube.r + cube.a + 2 * cube.mpl) t met in
      elim (cases_lt (s.first + cube.r) (s.last + cube.retry)) [
        | inl lt' ↦ (let most = late lt' in absurd (omega (arith, lt, from, most)))
        | inr ge ↦ (let most = again ge in absurd (omega (arith, lt, from, most, ge)))
      ]);
}

either_true : (b : Bool) → (b || true) ≡ true
either_true true = refl
either_true false = refl

pub tick_from : (cube : Cube) (tick : ℕ) (s : Sent) → (tick < 2 ^ 32 - 1 → s.last + cube.retry ≤ s.first + cube.r → tick ≡ s.last + cube.retry) → (tick < 2 ^ 32 - 1 → s.first + cube.r < s.last + cube.retry → tick ≡ s.first + cube.r + cube.a + 2 * cube.mpl) → IsDueFrom tick cube s
unfolding is_due is_late
tick_from cube tick s again late low = elim (cases_lt (s.first + cube.r) (s.last + cube.retry)) [
  | inl lt ↦
      (let is = late low lt in
      let met : leb (s.first + cube.r + cube.a + 2 * cube.mpl) tick ≡ true = le-leb (s.first + cube.r + cube.a + 2 * cube.mpl) tick (omega (arith, is)) in
      ap (λ b. (leb (s.last + cube.retry) tick && leb tick (s.first + cube.r)) || b) met ∙ either_true (leb (s.last + cube.retry) tick && leb tick (s.first + cube.r)))
  | inr ge ↦
      (let is = again low ge in
      let from : leb (s.last + cube.retry) tick ≡ true = le-leb (s.last + cube.retry) tick (omega (arith, is)) in
      let to : leb tick (s.first + cube.r) ≡ true = le-leb tick (s.first + cube.r) (omega (arith, is, ge)) in
      ap (λ b. (b && leb tick (s.first + cube.r)) || is_late cube tick s) from ∙ ap (λ b. b || is_late cube tick s) to)
]

-- Of two pieces

pub linked : (cube : Cube) (a b : Sent) (p q : ℕ) → IsDueFrom p cube a → IsStillUntil q cube b → p ≤ q → IsNoSooner cube a b
linked cube a b p q due still le = λ t low before. elim (cases_lt p t) [
  | inl lt ↦ absurd (false≢true (sym (or_from (is_due cube p a) (is_late cube p a) (before.again p lt) (before.given_up p lt)) ∙ due (omega (arith, low, lt))))
  | inr ge ↦ still_earlier q t cube b still (omega (arith, ge, le))
]

same_due : (cube : Cube) (t : ℕ) (a b : Sent) → a.first ≡ b.first → a.last ≡ b.last → is_due cube t b ≡ is_due cube t a
unfolding is_due
same_due cube t a b first last = ap (λ n. leb (n + cube.retry) t && leb t (b.first + cube.r)) (sym last) ∙ ap (λ n. leb (a.last + cube.retry) t && leb t (n + cube.r)) (sym first)

same_late : (cube : Cube) (t : ℕ) (a b : Sent) → a.first ≡ b.first → is_late cube t b ≡ is_late cube t a
unfolding is_late
same_late cube t a b first = ap (λ n. leb (n + cube.r + cube.a + 2 * cube.mpl) t) (sym first)

same_made : (cube : Cube) (a b : Sent) → a.first ≡ b.first → a.last ≡ b.last → IsNoSooner cube a b
same_made cube a b first last = λ t low still. record {
  again = λ u lt. same_due cube u a b first last ∙ still.again u lt;
  given_up = λ u lt. same_late cube u a b first ∙ still.given_up u lt;
}

-- From which place on they rise

pub rise_past : (cube : Cube) (n : ℕ) (ss : List Sent) → length ss ≤ n → RiseFrom n cube ss
rise_past cube n ss past = λ i j a b low le at_i at_j. absurd (let within = slice_get_within ss i a at_i in omega (arith, low, within, past))

pub rise_to_past : (cube : Cube) (now n : ℕ) (ss : List Sent) → length ss ≤ n → RiseTo now n cube ss
rise_to_past cube now n ss past = λ i a s low at first last. absurd (let within = slice_get_within ss i a at in omega (arith, low, within, past))

pub rise_to_end : (cube : Cube) (now mixed p q n : ℕ) (ss : List Sent) (end : Sent) → RiseFrom mixed cube ss → length ss ≤ n + 1 → slice_get ss n ≡ Some end → IsDueFrom p cube end → ((s : Sent) → s.first ≡ now → s.last ≡ now → IsStillUntil q cube s) → p ≤ q → RiseTo now mixed cube ss
rise_to_end cube now mixed p q n ss end rises past is_end due still le = λ i a s low at first last t below before.
    let within = slice_get_within ss i a at in
    linked cube end s p q due (still s first last) le t below (rises i n a end low (omega (arith, within, past)) at is_end t below before)

-- where pieces are added that are made now
place_of : (xs ys : List Sent) (i : ℕ) (a : Sent) → slice_get (xs ++ ys) i ≡ Some a → (slice_get xs i ≡ Some a) ⊎ ((length xs ≤ i) × (slice_get ys (i - length xs) ≡ Some a))
place_of [] ys i a at = inr (omega arith, (let e : i - 0 ≡ i = omega arith in ap (λ n. slice_get ys n) e ∙ at))
place_of (x ∷ xs) ys zero a at = inl at
place_of (x ∷ xs) ys (suc i) a at = elim (place_of xs ys i a at) [
  | inl h ↦ inl h
  | inr h ↦ inr ((let le = h.0 in omega (arith, le)), (let e : suc i - suc (length xs) ≡ i - length xs = omega arith in ap (λ n. slice_get ys n) e ∙ h.1))
]

pub rise_added : (cube : Cube) (now m : ℕ) (xs ys : List Sent) → RiseFrom m cube xs → RiseTo now m cube xs → ((j : ℕ) (s : Sent) → slice_get ys j ≡ Some s → (s.first ≡ now) × (s.last ≡ now)) → RiseFrom m cube (xs ++ ys)
rise_added cube now m xs ys rises to made = λ i j a b low le at_i at_j. elim (place_of xs ys i a at_i) [
  | inl here ↦ elim (place_of xs ys j b at_j) [
    | inl there ↦ rises i j a b low le here there
    | inr new ↦ (let is = made (j - length xs) b new.1 in to i a b low here is.0 is.1)
  ]
  | inr new ↦ elim (place_of xs ys j b at_j) [
    | inl there ↦ absurd (let within = slice_get_within xs j b there in let past = new.0 in omega (arith, within, past, le))
    | inr new' ↦ (let one = made (i - length xs) a new.1 in let two = made (j - length xs) b new'.1 in same_made cube a b (one.0 ∙ sym two.0) (one.1 ∙ sym two.1))
  ]
]

pub made_all : (least now seq : ℕ) (pdus : List Pdu) (j : ℕ) (s : Sent) → slice_get (sents_from least now seq pdus) j ≡ Some s → (s.first ≡ now) × (s.last ≡ now)
made_all least now seq [] j s at = absurd cc
made_all least now seq (pdu ∷ pdus) j s at = by_test (leb least seq) j (λ k there. made_all least now (seq + 1) pdus k s there) at
  where
    by_test : (b : Bool) (j : ℕ) → ((k : ℕ) → slice_get (sents_from least now (seq + 1) pdus) k ≡ Some s → (s.first ≡ now) × (s.last ≡ now)) → slice_get (cond b (record { first = now; last = now; pdu = pdu } ∷ sents_from least now (seq + 1) pdus) (sents_from least now (seq + 1) pdus)) j ≡ Some s → (s.first ≡ now) × (s.last ≡ now)
    by_test true zero rest at = (let is : record { first = now; last = now; pdu = pdu } ≡ s = cc in (ap (λ (x : Sent). x.first) (sym is), ap (λ (x : Sent). x.last) (sym is)))
    by_test true (suc j) rest at = rest j at
    by_test false j rest at = rest j at

pub made_one : (now : ℕ) (pdu : Pdu) (j : ℕ) (s : Sent) → slice_get (record { first = now; last = now; pdu = pdu } ∷ []) j ≡ Some s → (s.first ≡ now) × (s.last ≡ now)
made_one now pdu zero s at = (let is : record { first = now; last = now; pdu = pdu } ≡ s = cc in (ap (λ (x : Sent). x.first) (sym is), ap (λ (x : Sent). x.last) (sym is)))
made_one now pdu (suc j) s at = absurd cc

-- where one is made again
touched_beyond : (xs : List Sent) (at now i : ℕ) → at < i → slice_get (touched at now xs) i ≡ slice_get xs i
touched_beyond [] at now i lt = refl
touched_beyond (x ∷ xs) at now zero lt = absurd (omega arith)
touched_beyond (x ∷ xs) zero now (suc i) lt = refl
touched_beyond (x ∷ xs) (suc at) now (suc i) lt = touched_beyond xs at now i (omega arith)

pub rise_touched : (cube : Cube) (m m' at now : ℕ) (ss : List Sent) → RiseFrom m cube ss → m ≤ m' → at < m' → RiseFrom m' cube (touched at now ss)
rise_touched cube m m' at now ss rises le lt = λ i j a b low le' at_i at_j.
    rises i j a b (omega (arith, le, low)) le' (sym (touched_beyond ss at now i (omega (arith, lt, low))) ∙ at_i) (sym (touched_beyond ss at now j (omega (arith, lt, low, le'))) ∙ at_j)

-- where the first are taken away
get_drop : (c : ℕ) (xs : List Sent) (i : ℕ) → slice_get (drop c xs) i ≡ slice_get xs (c + i)
get_drop zero xs i = (let e : 0 + i ≡ i = omega arith in ap (λ n. slice_get xs n) (sym e))
get_drop (suc c) [] i = refl
get_drop (suc c) (x ∷ xs) i = (let e : suc c + i ≡ suc (c + i) = omega arith in get_drop c xs i ∙ ap (λ n. slice_get (x ∷ xs) n) (sym e))

pub rise_dropped : (cube : Cube) (m m' c : ℕ) (ss : List Sent) → RiseFrom m cube ss → m ≤ m' + c → RiseFrom m' cube (drop c ss)
rise_dropped cube m m' c ss rises le = λ i j a b low le' at_i at_j.
    rises (c + i) (c + j) a b (omega (arith, le, low)) (omega (arith, le')) (sym (get_drop c ss i) ∙ at_i) (sym (get_drop c ss j) ∙ at_j)

-- The first tick at which one of them is due

at_or_before : (i n : ℕ) → i < n + 1 → (i < n) ⊎ (i ≡ n)
at_or_before i n lt = elim (cases_lt i n) [ inl l ↦ inl l | inr g ↦ inr (omega (arith, lt, g)) ]

pub next_still : (cube : Cube) (ss : List Sent) (place until tick : ℕ) (here : Sent) → slice_get ss place ≡ Some here → IsStillUntil tick cube here → ((k : ℕ) (s : Sent) → k < place → slice_get ss k ≡ Some s → IsStillUntil until cube s) → (k : ℕ) (s : Sent) → k < place + 1 → slice_get ss k ≡ Some s → IsStillUntil (min until tick) cube s
next_still cube ss place until tick here is still before k s lt at = elim (at_or_before k place lt) [
  | inl l ↦ still_earlier until (min until tick) cube s (before k s l at) (omega arith)
  | inr e ↦
      let same : Some here ≡ Some s = sym is ∙ ap (λ n. slice_get ss n) (sym e) ∙ at in
      let one : here ≡ s = cc in
      subst (λ (x : Sent). IsStillUntil (min until tick) cube x) one (still_earlier tick (min until tick) cube here still (omega arith))
]

pub next_from : (cube : Cube) (ss : List Sent) (place until tick : ℕ) (here : Sent) → slice_get ss place ≡ Some here → IsDueFrom tick cube here → IsSomeDueFrom until cube ss → IsSomeDueFrom (min until tick) cube ss
next_from cube ss place until tick here is due some = elim (cases_lt tick until) [
  | inl lt ↦ (let e : min until tick ≡ tick = omega (arith, lt) in subst (λ n. IsSomeDueFrom n cube ss) (sym e) (λ low. (place, here, is, due low)))
  | inr ge ↦ (let e : min until tick ≡ until = omega (arith, ge) in subst (λ n. IsSomeDueFrom n cube ss) (sym e) some)
]

pub all_still : (cube : Cube) (mixed until end : ℕ) (ss : List Sent) → RiseFrom mixed cube ss → until < 2 ^ 32 → (end < length ss → mixed + 1 ≤ end) → ((k : ℕ) (s : Sent) → k < end → slice_get ss k ≡ Some s → IsStillUntil until cube s) → (k : ℕ) (s : Sent) → slice_get ss k ≡ Some s → IsStillUntil until cube s
all_still cube mixed until end ss rises low few still k s at = elim (cases_lt k end) [
  | inl lt ↦ still k s lt at
  | inr ge ↦
      let within = slice_get_within ss k s at in
      let some = few (omega (arith, within, ge)) in
      let there = slice_get-get_or ss (end - 1) s (omega (arith, within, ge, some)) in
      let last = get_or ss (end - 1) s in
      rises (end - 1) k last s (omega (arith, some)) (omega (arith, ge, some)) there at until low (still (end - 1) last (omega (arith, some)) there)
]
