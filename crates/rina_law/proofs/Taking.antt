-- An accepted number goes to the joiner, and the journals keep what they promise.
use Rattle.std.proofs.Common.{◌≡◌, ◌≢◌, ℕ, suc, ◌+◌, ◌-◌, ◌<◌, ◌≤◌, List, [], ◌∷◌, ◌++◌, length, Bool, true, false, ltb, refl, sym, ◌∙◌, ap, subst, arith, inl, inr, ◌⊎◌}
use Rattle.std.proofs.lemmas.Bool.{and_parts, and_cases, false≢true, ltb-true, ltb-false, cases_lt}
use Rattle.rina_cube.specs.declared.Kind.{Kind}
use Rattle.rina_cube.specs.declared.Kind.TheVariants.{Datagram, Loose, Reliable}
use Rattle.rina_law.specs.declared.entry.Entry.{Entry}
use Rattle.rina_law.specs.Constants.{Constants}
use Rattle.rina_law.specs.Direction.{place_of, no_entry, entry, entry_for, Inbox}
use Rattle.rina_law.specs.DirectionHolds.{part_at, reached, RunHolds, SentHolds, JoinHolds, IsGot, nth, ArePlaces, GotHolds}
use Rattle.rina_law.specs.Lists.{In}
use Rattle.rina_law.specs.Pieces.{Joiner, with_part}
use Rattle.rina_law.specs.Sender.{Member, member}
use Rattle.rina_law.proofs.Lists.{length-push, old_at, new_at}
use Rattle.rina_law.proofs.Arriving.{IsNew}
use Rattle.rina_law.proofs.Joining.{sdu_of, took_by, is_whole, took, Fits, fits_with, not_empty}
use Rattle.rina_law.proofs.Runs.{place_le, place_base, place_reached, place_lt, place_start, reached_ends, reached_not, start_le}

-- the places with a new one

abbrev pub IsNewPlace : Kind → List ℕ → ℕ → Type 0
IsNewPlace Datagram qs q = (i : ℕ) → i < length qs → nth qs i ≢ q
IsNewPlace Loose qs q = (i : ℕ) → i < length qs → nth qs i < q
IsNewPlace Reliable qs q = q ≡ length qs

places_new : (kind : Kind) (qs : List ℕ) (q : ℕ) → ArePlaces kind qs → IsNewPlace kind qs q → ArePlaces kind (qs ++ q ∷ [])
places_new Datagram qs q h new = λ i k ik lt. (let longer = length-push qs q in elim (cases_lt k (length qs)) [
  | inl old ↦ (λ e. h i k ik old (sym (old_at qs q 0 i (omega arith)) ∙ e ∙ old_at qs q 0 k old))
  | inr ge ↦ (λ e. new i (omega arith) (sym (old_at qs q 0 i (omega arith)) ∙ e ∙ new_at qs q 0 k (omega arith)))
])
places_new Loose qs q h new = λ i k ik lt. (let longer = length-push qs q in elim (cases_lt k (length qs)) [
  | inl old ↦ (let a = h i k ik old in let x : nth (qs ++ q ∷ []) i ≡ nth qs i = old_at qs q 0 i (omega arith) in let y = old_at qs q 0 k old in omega arith)
  | inr ge ↦ (let a : nth qs i < q = new i (omega arith) in let x : nth (qs ++ q ∷ []) i ≡ nth qs i = old_at qs q 0 i (omega arith) in let y : nth (qs ++ q ∷ []) k ≡ q = new_at qs q 0 k (omega arith) in omega arith)
])
places_new Reliable qs q h new = λ i lt. (let longer = length-push qs q in elim (cases_lt i (length qs)) [
  | inl old ↦ (let a = h i old in let x = old_at qs q 0 i old in omega arith)
  | inr ge ↦ (let e : i ≡ length qs = omega arith in let y = new_at qs q 0 i e in omega arith)
])

-- what an accepted number needs, and what it leaves
pub record Taking (c : Constants) (now : ℕ) (run : List Member) (base since : ℕ) (sent : List Entry) (done : List ℕ) (o : Inbox) (n : ℕ) : Type 0 where
  pub parts : RunHolds c run
  pub source : SentHolds c run base sent
  pub within : n < length run
  pub numbers : (k : ℕ) → In k done → k < length run
  pub young : now ≤ (member run n).first + c.cube.r + c.cube.mpl
  pub past : (member run n).first ≤ now
  pub new : IsNew c.cube.kind n done
  pub join : JoinHolds run o.joiner
  pub got : GotHolds c run base since sent done o
  pub count : c.cube.kind ≡ Reliable → length o.places ≡ reached run base (length done)
  pub ready : c.cube.kind ≡ Reliable → (part_at run n).begins ≡ false → (0 < o.joiner.count) × (o.joiner.from + o.joiner.count ≡ n)

pub record Taken (c : Constants) (now : ℕ) (run : List Member) (base since : ℕ) (sent : List Entry) (done : List ℕ) (o new : Inbox) (n : ℕ) : Type 0 where
  pub join : JoinHolds run new.joiner
  pub got : GotHolds c run base since sent (n ∷ done) new
  pub count : c.cube.kind ≡ Reliable → length new.places ≡ reached run base (suc n)
  pub waits : c.cube.kind ≡ Reliable → (part_at run n).ends ≡ false → 0 < new.joiner.count
  pub ticks : (i : ℕ) → i < length new.got → ((i < length o.got) × (entry new.got i ≡ entry o.got i)) ⊎ (((entry new.got i).tick ≡ now) × ((entry new.got i).num.seq ≤ n))
  pub fits : 0 < new.joiner.count → new.joiner.from + new.joiner.count ≡ suc n

known_more : (run : List Member) (base q n : ℕ) (done : List ℕ) → (q < base) ⊎ ((k : ℕ) × In k done × ((part_at run k).ends ≡ true) × (place_of run base k ≡ q)) → (q < base) ⊎ ((k : ℕ) × In k (n ∷ done) × ((part_at run k).ends ≡ true) × (place_of run base k ≡ q))
known_more run base q n done (inl h) = inl h
known_more run base q n done (inr h) = inr (h.0, inr h.1, h.2, h.3)

-- the places of what came are others than that of n, by kind
place_apart : (c : Constants) (now : ℕ) (run : List Member) (base since : ℕ) (sent : List Entry) (done : List ℕ) (o : Inbox) (n i : ℕ) → Taking c now run base since sent done o n → (part_at run n).ends ≡ true → i < length o.places → (In n done → ⊥) → nth o.places i ≢ place_of run base n
place_apart c now run base since sent done o n i t ends lt new e =
    let size = t.got.size in
    let b = place_base run base n in
    elim (t.got.known i (omega arith)) [
      | inl below ↦ omega arith
      | inr k ↦ elim (cases_lt (k.0) n) [
        | inl less ↦ (let p = place_lt c run base (k.0) n t.parts less t.within k.2 in let same = k.3 in omega arith)
        | inr ge ↦ elim (cases_lt n (k.0)) [
          | inl more ↦ (let p = place_lt c run base n (k.0) t.parts more (t.numbers k.0 k.1) ends in let same = k.3 in omega arith)
          | inr le ↦ (let is : k.0 ≡ n = omega arith in new (rw is at k.1))
        ]
      ]
    ]

place_above : (c : Constants) (now : ℕ) (run : List Member) (base since : ℕ) (sent : List Entry) (done : List ℕ) (o : Inbox) (n i : ℕ) → Taking c now run base since sent done o n → i < length o.places → ((k : ℕ) → In k done → k < n) → nth o.places i < place_of run base n
place_above c now run base since sent done o n i t lt new =
    let size = t.got.size in
    let b = place_base run base n in
    elim (t.got.known i (omega arith)) [
      | inl below ↦ omega arith
      | inr k ↦ (let p = place_lt c run base (k.0) n t.parts (new k.0 k.1) t.within k.2 in let same = k.3 in omega arith)
    ]

count_here : (c : Constants) (now : ℕ) (run : List Member) (base since : ℕ) (sent : List Entry) (done : List ℕ) (o : Inbox) (n : ℕ) → Taking c now run base since sent done o n → c.cube.kind ≡ Reliable → length o.places ≡ place_of run base n
count_here c now run base since sent done o n t e =
    let P : Kind → Type 0 = λ k. IsNew k n done in
    let is : n ≡ length done = subst P e t.new in
    let r : reached run base n ≡ place_of run base n = place_reached c run base n t.parts t.within in
    t.count e ∙ ap (reached run base) (sym is) ∙ r

new_place : (c : Constants) (now : ℕ) (run : List Member) (base since : ℕ) (sent : List Entry) (done : List ℕ) (o : Inbox) (n : ℕ) (kind : Kind) → c.cube.kind ≡ kind → Taking c now run base since sent done o n → (part_at run n).ends ≡ true → IsNewPlace kind o.places (place_of run base n)
new_place c now run base since sent done o n Datagram e t ends = λ i lt. place_apart c now run base since sent done o n i t ends lt (let P : Kind → Type 0 = λ k. IsNew k n done in subst P e t.new)
new_place c now run base since sent done o n Loose e t ends = λ i lt. place_above c now run base since sent done o n i t lt (let P : Kind → Type 0 = λ k. IsNew k n done in subst P e t.new)
new_place c now run base since sent done o n Reliable e t ends = sym (count_here c now run base since sent done o n t e)

-- the piece was put to others, or dropped
taken_waits : (c : Constants) (now : ℕ) (run : List Member) (base since : ℕ) (sent : List Entry) (done : List ℕ) (o : Inbox) (n : ℕ) (j : Joiner) → Taking c now run base since sent done o n → (0 < j.count → Fits run n j) → (c.cube.kind ≡ Reliable → 0 < j.count) → (((part_at run n).ends ≡ false) ⊎ (j.count ≤ 0)) → Taken c now run base since sent done o (record { joiner = j; got = o.got; places = o.places }) n
taken_waits c now run base since sent done o n j t f some why =
    let ends = λ (s : 0 < j.count). (let r : (part_at run n).ends ≡ false = elim why [ inl x ↦ x | inr x ↦ absurd (omega arith) ] in r) in
    record {
      join = λ s. (n, (let x = f s in record { is = x.is; within = t.within; waits = ends s; begins = x.start; bytes = x.bytes }));
      got = record { size = t.got.size; is = t.got.is; age = t.got.age; known = λ i lt. known_more run base (nth o.places i) n done (t.got.known i lt); shape = t.got.shape };
      count = λ e. count_here c now run base since sent done o n t e ∙ sym (reached_not run base n (ends (some e)));
      waits = λ e w. some e;
      ticks = λ i lt. inl (lt, refl);
      fits = λ s. (f s).is;
    }

-- the entry of the SDU that n makes whole has the place of n
got_whole : (c : Constants) (now : ℕ) (run : List Member) (base since : ℕ) (sent : List Entry) (done : List ℕ) (o : Inbox) (n : ℕ) (j : Joiner) → Taking c now run base since sent done o n → Fits run n j → (part_at run n).ends ≡ true → IsGot c sent (entry_for c now (sdu_of j)) (place_of run base n)
got_whole c now run base since sent done o n j t f ends =
    let within = t.within in
    let num = t.source.num n within in
    let tick = t.source.tick n within in
    let bytes = t.source.bytes n within ends in
    let below = place_base run base n in
    let last : suc (length run - 1) ≡ length run = omega arith in
    let total = t.source.size (length run - 1) last in
    let most : place_of run base n ≤ place_of run base (length run - 1) = place_le run base n (length run - 1) (omega arith) in
    let past = t.past in
    let young = t.young in
    record {
      stands = omega arith;
      num = num ∙ f.start;
      cep = refl;
      before = omega arith;
      bytes = f.bytes ∙ sym bytes;
      in_time = omega arith;
      greatest = λ k lt same le. elim (cases_lt (place_of run base n) k) [
        | inl more ↦ (let r = t.source.rising (place_of run base n) k below more lt in let start = f.start in absurd (omega arith))
        | inr ok ↦ ok
      ];
    }

-- the SDU is whole
taken_whole : (c : Constants) (now : ℕ) (run : List Member) (base since : ℕ) (sent : List Entry) (done : List ℕ) (o : Inbox) (n : ℕ) (j : Joiner) → Taking c now run base since sent done o n → Fits run n j → (part_at run n).ends ≡ true →
    Taken c now run base since sent done o (took_by true c now (place_of run base n) j o) n
taken_whole c now run base since sent done o n j t f ends =
    let g : Entry = entry_for c now (sdu_of j) in
    let q = place_of run base n in
    let longer = length-push o.got g in
    let longer_places = length-push o.places q in
    let size = t.got.size in
    let within = t.within in
    let start = f.start in
    let new = got_whole c now run base since sent done o n j t f ends in
    record {
      join = λ s. absurd (omega arith);
      got = record {
        size = omega arith;
        is = λ i lt. elim (cases_lt i (length o.got)) [
          | inl old ↦ (let x = t.got.is i old in rw (old_at o.got g no_entry i old, old_at o.places q 0 i (omega arith)) x)
          | inr ge ↦
              (let a : entry (o.got ++ g ∷ []) i ≡ g = new_at o.got g no_entry i (omega arith) in
              let b : nth (o.places ++ q ∷ []) i ≡ q = new_at o.places q 0 i (omega arith) in
              rw (a, b) new)
        ];
        age = λ i lt. elim (cases_lt i (length o.got)) [
          | inl old ↦ rw (old_at o.got g no_entry i old) (t.got.age i old)
          | inr ge ↦
              (let a : entry (o.got ++ g ∷ []) i ≡ g = new_at o.got g no_entry i (omega arith) in
              let le = start_le run n in
              inl (rw a (omega arith)))
        ];
        known = λ i lt. elim (cases_lt i (length o.got)) [
          | inl old ↦ rw (old_at o.places q 0 i (omega arith)) (known_more run base (nth o.places i) n done (t.got.known i old))
          | inr ge ↦ inr (n, inl refl, ends, sym (new_at o.places q 0 i (omega arith)))
        ];
        shape = places_new c.cube.kind o.places q t.got.shape (new_place c now run base since sent done o n c.cube.kind refl t ends);
      };
      count = λ e. (let h = count_here c now run base since sent done o n t e in let r = reached_ends run base n ends in omega arith);
      waits = λ e w. absurd (false≢true (sym w ∙ ends));
      ticks = λ i lt. elim (cases_lt i (length o.got)) [
        | inl old ↦ inl (old, old_at o.got g no_entry i old)
        | inr ge ↦
            (let a : entry (o.got ++ g ∷ []) i ≡ g = new_at o.got g no_entry i (omega arith) in
            let at = ap (λ (e : Entry). e.num.seq) a in
            let le = start_le run n in
            inr (ap (λ (e : Entry). e.tick) a, omega arith))
      ];
      fits = λ s. absurd (omega arith);
    }

pub taken_holds : (c : Constants) (now : ℕ) (run : List Member) (base since : ℕ) (sent : List Entry) (done : List ℕ) (o : Inbox) (n : ℕ) → Taking c now run base since sent done o n → Taken c now run base since sent done o (took c now run base n (part_at run n) o) n
taken_holds c now run base since sent done o n t = go (is_whole n (part_at run n) o.joiner) refl
  where
    go : (b : Bool) → is_whole n (part_at run n) o.joiner ≡ b → Taken c now run base since sent done o (took_by b c now (place_of run base (with_part n (part_at run n) o.joiner).from) (with_part n (part_at run n) o.joiner) o) n
    go true e =
        let j = with_part n (part_at run n) o.joiner in
        let p = and_parts (part_at run n).ends (ltb 0 j.count) e in
        let f = fits_with run n o.joiner t.join (ltb-true 0 j.count p.1) in
        let is : place_of run base n ≡ place_of run base j.from = sym (place_start run base n) ∙ ap (place_of run base) f.start in
        let P : ℕ → Type 0 = λ q. Taken c now run base since sent done o (took_by true c now q j o) n in
        subst P is (taken_whole c now run base since sent done o n j t f p.0)
    go false e =
        let j = with_part n (part_at run n) o.joiner in
        taken_waits c now run base since sent done o n j t (fits_with run n o.joiner t.join) (λ k. not_empty n (part_at run n) o.joiner (t.ready k))
        (elim (and_cases (part_at run n).ends (ltb 0 j.count) e) [ inl f ↦ inl f | inr f ↦ inr (ltb-false 0 j.count f) ])
