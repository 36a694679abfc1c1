-- What an accepted piece makes of the joiner, and of the journal of what was got.
use Rattle.std.proofs.Common.{◌≡◌, ℕ, zero, suc, ◌+◌, ◌<◌, List, [], ◌∷◌, ◌++◌, map, Bool, true, false, cond, ◌&&◌, eqb, ltb, refl, sym, ◌∙◌, ap, arith, inl, inr, append_assoc}
use Rattle.std.proofs.lemmas.Bool.{and_parts, and_cases, eqb-true, eqb-false, ltb-true, ltb-false}
use Rattle.std.proofs.lemmas.List.{append-nil, map-append}
use Rattle.rina_law.specs.declared.entry.Entry.{Entry}
use Rattle.rina_law.specs.Constants.{Constants}
use Rattle.rina_law.specs.Direction.{start_of, place_of, Inbox, entry_for, delivered}
use Rattle.rina_law.specs.DirectionHolds.{part_at, bytes_of, JoinHolds}
use Rattle.rina_law.specs.Pieces.{Part, Joiner, empty_joiner, goes_on, with_part, Sdu, Joined, finished, joined_with}
use Rattle.rina_law.specs.Sender.{Member}
use Rattle.rina_law.proofs.Runs.{start_begins, start_on, bytes_begins, bytes_on}

-- the inbox with one more piece

abbrev pub sdu_of : Joiner → Sdu
sdu_of j = record { first = j.from; pieces = j.count; bytes = j.bytes }

abbrev pub took_by : Bool → Constants → ℕ → ℕ → Joiner → Inbox → Inbox
took_by true c now place j o = record { joiner = empty_joiner; got = o.got ++ entry_for c now (sdu_of j) ∷ []; places = o.places ++ place ∷ [] }
took_by false c now place j o = record { joiner = j; got = o.got; places = o.places }

abbrev pub is_whole : ℕ → Part → Joiner → Bool
is_whole n part j = part.ends && ltb 0 (with_part n part j).count

abbrev pub took : Constants → ℕ → List Member → ℕ → ℕ → Part → Inbox → Inbox
took c now run base n part o = took_by (is_whole n part o.joiner) c now (place_of run base (with_part n part o.joiner).from) (with_part n part o.joiner) o

-- what was joined is delivered piece by piece

map-push : {X Y : Type 0} → (f : X → Y) (ys : List Y) (xs : List X) (x : X) → ys ++ map f (xs ++ x ∷ []) ≡ (ys ++ map f xs) ++ f x ∷ []
map-push f ys xs x = ap (λ zs. ys ++ zs) (map-append f xs (x ∷ [])) ∙ sym (append_assoc ys (map f xs) (f x ∷ []))

inbox_is : (j : Joiner) (got got' : List Entry) (places places' : List ℕ) → got ≡ got' → places ≡ places' → (let a : Inbox = record { joiner = j; got = got; places = places } in a) ≡ record { joiner = j; got = got'; places = places' }
inbox_is j got got' places places' e e' = cc

pub delivered_next : (c : Constants) (now : ℕ) (run : List Member) (base n : ℕ) (part : Part) (j : Joined) (o : Inbox) → delivered c now run base (joined_with n part j) o ≡ took c now run base n part (delivered c now run base j o)
delivered_next c now run base n part j o = go (is_whole n part j.joiner)
  where
    go : (b : Bool) → delivered c now run base (finished b (with_part n part j.joiner) j.whole) o ≡ took_by b c now (place_of run base (with_part n part j.joiner).from) (with_part n part j.joiner) (delivered c now run base j o)
    go true = inbox_is empty_joiner _ _ _ _ (map-push (entry_for c now) o.got j.whole (sdu_of (with_part n part j.joiner))) (map-push (λ (sdu : Sdu). place_of run base sdu.first) o.places j.whole (sdu_of (with_part n part j.joiner)))
    go false = refl

pub delivered_none : (c : Constants) (now : ℕ) (run : List Member) (base : ℕ) (j : Joiner) (o : Inbox) → delivered c now run base (record { joiner = j; whole = [] }) o ≡ record o { joiner = j }
delivered_none c now run base j o = inbox_is j _ _ _ _ (append-nil o.got) (append-nil o.places)

-- the joiner has the pieces of the SDU of n up to n
pub record Fits (run : List Member) (n : ℕ) (j : Joiner) : Type 0 where
  pub start : start_of run n ≡ j.from
  pub bytes : j.bytes ≡ bytes_of run n
  pub is : j.from + j.count ≡ suc n

fits_begins : (run : List Member) (n : ℕ) → (part_at run n).begins ≡ true → Fits run n (record { from = n; count = 1; bytes = (part_at run n).body })
fits_begins run n b = record { start = start_begins run n b; bytes = sym (bytes_begins run n b); is = omega arith }

fits_on : (run : List Member) (n : ℕ) (j : Joiner) → JoinHolds run j → (part_at run n).begins ≡ false → 0 < j.count → j.from + j.count ≡ n → Fits run n (record { from = j.from; count = j.count + 1; bytes = j.bytes ++ (part_at run n).body })
fits_on run zero j h b some is = absurd (omega arith)
fits_on run (suc m) j h b some is =
    let (last, x) = h some in
    let same : last ≡ m = (let e = x.is in omega arith) in
    let start : start_of run m ≡ j.from = rw same at x.begins in
    let bytes : j.bytes ≡ bytes_of run m = rw same at x.bytes in
    record {
      start = start_on run m b ∙ start;
      bytes = ap (λ (xs : List ℕ). xs ++ (part_at run (suc m)).body) bytes ∙ sym (bytes_on run m b);
      is = omega arith;
    }

pub fits_with : (run : List Member) (n : ℕ) (j : Joiner) → JoinHolds run j → 0 < (with_part n (part_at run n) j).count → Fits run n (with_part n (part_at run n) j)
fits_with run n j h = go (part_at run n).begins (goes_on n j) refl refl
  where
    go : (b t : Bool) → (part_at run n).begins ≡ b → goes_on n j ≡ t →
        0 < (cond b (record { from = n; count = 1; bytes = (part_at run n).body }) (cond t (record { from = j.from; count = j.count + 1; bytes = j.bytes ++ (part_at run n).body }) empty_joiner)).count →
        Fits run n (cond b (record { from = n; count = 1; bytes = (part_at run n).body }) (cond t (record { from = j.from; count = j.count + 1; bytes = j.bytes ++ (part_at run n).body }) empty_joiner))
    go true t b_is t_is some = fits_begins run n b_is
    go false true b_is t_is some = (let p = and_parts (ltb 0 j.count) (eqb (j.from + j.count) n) t_is in fits_on run n j h b_is (ltb-true 0 j.count p.0) (eqb-true (j.from + j.count) n p.1))
    go false false b_is t_is some = absurd (omega arith)

-- where all pieces before it have come, the joiner is not left empty
pub not_empty : (n : ℕ) (part : Part) (j : Joiner) → (part.begins ≡ false → (0 < j.count) × (j.from + j.count ≡ n)) → 0 < (with_part n part j).count
not_empty n part j ready = go part.begins (goes_on n j) refl refl
  where
    go : (b t : Bool) → part.begins ≡ b → goes_on n j ≡ t →
        0 < (cond b (record { from = n; count = 1; bytes = part.body }) (cond t (record { from = j.from; count = j.count + 1; bytes = j.bytes ++ part.body }) empty_joiner)).count
    go true t b_is t_is = omega arith
    go false true b_is t_is = omega arith
    go false false b_is t_is =
        (let r = ready b_is in
        elim (and_cases (ltb 0 j.count) (eqb (j.from + j.count) n) t_is) [
          | inl f ↦ (let g = ltb-false 0 j.count f in absurd (omega (arith, r.0)))
          | inr f ↦ absurd (eqb-false (j.from + j.count) n f r.1)
        ])
