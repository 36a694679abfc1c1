-- A run with one more piece of an SDU: the first piece, and each further one.
use Rattle.std.proofs.Common.{◌≡◌, ℕ, zero, suc, ◌+◌, ◌-◌, ◌<◌, ◌≤◌, List, [], ◌∷◌, ◌++◌, length, true, false, refl, sym, ◌∙◌, ap, subst, arith, inl, inr, append_assoc, length-append}
use Rattle.std.proofs.lemmas.Bool.{false≢true, cases_lt}
use Rattle.std.proofs.lemmas.List.{append-nil}
use Rattle.rina_cube.specs.declared.Kind.TheVariants.{Reliable}
use Rattle.rina_law.specs.declared.entry.Entry.{Entry}
use Rattle.rina_law.specs.Constants.{Constants}
use Rattle.rina_law.specs.Direction.{place_of, start_of, no_entry, entry}
use Rattle.rina_law.specs.DirectionHolds.{part_at, bytes_of, RunHolds, IsClosed, SentHolds}
use Rattle.rina_law.specs.Pieces.{Part, IsSized}
use Rattle.rina_law.specs.Sender.{Member, member}
use Rattle.rina_law.proofs.Lists.{length-push, old_at, new_at}
use Rattle.rina_law.proofs.Runs.{place_agree, start_agree, bytes_agree, place_le, start_begins, start_on, bytes_begins, bytes_on, pushed}

-- the run goes on, and its new member fits
pub record IsNext (c : Constants) (run : List Member) (s : Member) : Type 0 where
  pub drf : (n : ℕ) → n < length run → (member (run ++ s ∷ []) n).drf ≡ (member run n).drf
  pub sized : IsSized c.piece s.part
  pub numbers : length run + 1 ≤ c.max + 1

sized_new : (c : Constants) (run : List Member) (s : Member) → RunHolds c run → IsNext c run s → (n : ℕ) → n < length (run ++ s ∷ []) → IsSized c.piece (part_at (run ++ s ∷ []) n)
sized_new c run s h next n lt =
    let u = pushed run s in
    let longer = u.length_is in
    let P : Part → Type 0 = λ p. IsSized c.piece p in
    elim (cases_lt n (length run)) [
      | inl old ↦ subst P (sym (u.agree.part n old)) (h.sized n old)
      | inr ge ↦ subst P (sym (ap (λ (z : Member). z.part) (u.new n (omega arith)))) next.sized
    ]

fits_new : (c : Constants) (run : List Member) (s : Member) → RunHolds c run → length (bytes_of (run ++ s ∷ []) (length run)) ≤ c.cube.largest → (n : ℕ) → n < length (run ++ s ∷ []) → length (bytes_of (run ++ s ∷ []) n) ≤ c.cube.largest
fits_new c run s h new n lt =
    let u = pushed run s in
    let longer = u.length_is in
    elim (cases_lt n (length run)) [
      | inl old ↦ (let x = h.fits n old in let e = ap (λ (xs : List ℕ). length xs) (bytes_agree run (run ++ s ∷ []) n u.agree old) in omega arith)
      | inr ge ↦ (let is : n ≡ length run = omega arith in rw is new)
    ]

-- The first piece of an SDU

place_first : (c : Constants) (run : List Member) (s : Member) (base : ℕ) (sent : List Entry) → SentHolds c run base sent → s.part.begins ≡ true → (n : ℕ) → n ≡ length run → place_of (run ++ s ∷ []) base n ≡ length sent
place_first c run s base sent h b zero e = sym (h.none (sym e))
place_first c run s base sent h b (suc n) e =
    let u = pushed run s in
    let x : (member (run ++ s ∷ []) (suc n)).part.begins ≡ true = ap (λ (m : Member). m.part.begins) (u.new (suc n) e) ∙ b in
    let p : place_of (run ++ s ∷ []) base n ≡ place_of run base n = place_agree run (run ++ s ∷ []) base n u.agree (omega arith) in
    rw (x, p) (sym (h.size n e))

bytes_first : (run : List Member) (s : Member) → s.part.begins ≡ true → bytes_of (run ++ s ∷ []) (length run) ≡ s.part.body
bytes_first run s b =
    let u = pushed run s in
    let part : part_at (run ++ s ∷ []) (length run) ≡ s.part = ap (λ (m : Member). m.part) (u.new (length run) refl) in
    bytes_begins (run ++ s ∷ []) (length run) (ap (λ (p : Part). p.begins) part ∙ b) ∙ ap (λ (p : Part). p.body) part

pub run_first : (c : Constants) (run : List Member) (s : Member) → RunHolds c run → IsClosed run → s.part.begins ≡ true → IsNext c run s → length s.part.body ≤ c.cube.largest → RunHolds c (run ++ s ∷ [])
run_first c run s h closed b next fits =
    let u = pushed run s in
    let l = u.length_is in
    let at = λ (n : ℕ) (e : n ≡ length run). (ap (λ (m : Member). m.part.begins) (u.new n e) ∙ b) in
    let body = ap (λ (xs : List ℕ). length xs) (bytes_first run s b) in
    record {
      begins = λ lt. elim (cases_lt 0 (length run)) [
        | inl old ↦ ap (λ (p : Part). p.begins) (u.agree.part 0 old) ∙ h.begins old
        | inr ge ↦ at 0 (omega arith)
      ];
      goes_on = λ n lt. elim (cases_lt (suc n) (length run)) [
        | inl old ↦ ap (λ (p : Part). p.begins) (u.agree.part (suc n) old) ∙ h.goes_on n old ∙ sym (ap (λ (p : Part). p.ends) (u.agree.part n (omega arith)))
        | inr ge ↦ at (suc n) (omega arith) ∙ sym (ap (λ (p : Part). p.ends) (u.agree.part n (omega arith)) ∙ closed n (omega arith))
      ];
      first = λ n lt no. elim (cases_lt (suc n) (length run)) [
        | inl old ↦ u.agree.first (suc n) old ∙ h.first n old (sym (ap (λ (p : Part). p.begins) (u.agree.part (suc n) old)) ∙ no) ∙ sym (u.agree.first n (omega arith))
        | inr ge ↦ absurd (false≢true (sym no ∙ at (suc n) (omega arith)))
      ];
      drf = λ e n lt t. elim (cases_lt n (length run)) [
        | inl old ↦ ap (λ (p : Part). p.begins) (u.agree.part n old) ∙ h.drf e n old (sym (next.drf n old) ∙ t)
        | inr ge ↦ at n (omega arith)
      ];
      sized = sized_new c run s h next;
      fits = fits_new c run s h (omega arith);
      numbers = (let x = next.numbers in omega arith);
    }

-- the last SDU still lacks these bytes
abbrev pub Owes : List Member → ℕ → List Entry → List ℕ → Type 0
Owes run base sent rest = (n : ℕ) → suc n ≡ length run → bytes_of run n ++ rest ≡ (entry sent (place_of run base n)).bytes

pub sent_first : (c : Constants) (run : List Member) (s : Member) (base : ℕ) (sent : List Entry) (e : Entry) (rest : List ℕ) → SentHolds c run base sent → base ≤ length sent → s.part.begins ≡ true → e.num.seq ≡ length run → e.num.cep ≡ c.cep → e.tick ≡ s.first → e.bytes ≡ s.part.body ++ rest → (s.part.ends ≡ true → rest ≡ []) → SentHolds c (run ++ s ∷ []) base (sent ++ e ∷ [])
sent_first c run s base sent e rest h base_le b num cep tick bytes end =
    let u = pushed run s in
    let l = u.length_is in
    let m = length-push sent e in
    let place = place_first c run s base sent h b in
    let within = λ (n : ℕ) (lt : n < length run). (let r : place_of run base n < length sent = (let last : suc (length run - 1) ≡ length run = omega arith in let t = h.size (length run - 1) last in let p : place_of run base n ≤ place_of run base (length run - 1) = place_le run base n (length run - 1) (omega arith) in omega arith) in r) in
    let old = λ (n : ℕ) (lt : n < length run). (let p : place_of (run ++ s ∷ []) base n ≡ place_of run base n = place_agree run (run ++ s ∷ []) base n u.agree lt in let r : entry (sent ++ e ∷ []) (place_of (run ++ s ∷ []) base n) ≡ entry sent (place_of run base n) = rw p (old_at sent e no_entry (place_of run base n) (within n lt)) in r) in
    let new = λ (n : ℕ) (is : n ≡ length run). (let p : place_of (run ++ s ∷ []) base n ≡ length sent = place n is in let r : entry (sent ++ e ∷ []) (place_of (run ++ s ∷ []) base n) ≡ e = rw p (new_at sent e no_entry (length sent) refl) in r) in
    let part = λ (n : ℕ) (is : n ≡ length run). (let r : part_at (run ++ s ∷ []) n ≡ s.part = ap (λ (x : Member). x.part) (u.new n is) in r) in
    record {
      none = λ z. absurd (omega arith);
      size = λ n is. (let p = place n (omega arith) in omega arith);
      num = λ n lt. elim (cases_lt n (length run)) [
        | inl o ↦ ap (λ (x : Entry). x.num.seq) (old n o) ∙ h.num n o ∙ sym (start_agree run (run ++ s ∷ []) n u.agree o)
        | inr ge ↦ (let is : n ≡ length run = omega arith in ap (λ (x : Entry). x.num.seq) (new n is) ∙ num ∙ sym is ∙ sym (start_begins (run ++ s ∷ []) n (ap (λ (p : Part). p.begins) (part n is) ∙ b)))
      ];
      tick = λ n lt. elim (cases_lt n (length run)) [
        | inl o ↦ ap (λ (x : Entry). x.tick) (old n o) ∙ h.tick n o ∙ sym (u.agree.first n o)
        | inr ge ↦ (let is : n ≡ length run = omega arith in ap (λ (x : Entry). x.tick) (new n is) ∙ tick ∙ sym (ap (λ (x : Member). x.first) (u.new n is)))
      ];
      bytes = λ n lt t. elim (cases_lt n (length run)) [
        | inl o ↦ ap (λ (x : Entry). x.bytes) (old n o) ∙ h.bytes n o (sym (ap (λ (p : Part). p.ends) (u.agree.part n o)) ∙ t) ∙ sym (bytes_agree run (run ++ s ∷ []) n u.agree o)
        | inr ge ↦
            (let is : n ≡ length run = omega arith in
            let none : rest ≡ [] = end (sym (ap (λ (p : Part). p.ends) (part n is)) ∙ t) in
            ap (λ (x : Entry). x.bytes) (new n is) ∙ bytes ∙ ap (λ xs. s.part.body ++ xs) none ∙ append-nil s.part.body ∙ sym (bytes_begins (run ++ s ∷ []) n (ap (λ (p : Part). p.begins) (part n is) ∙ b) ∙ ap (λ (p : Part). p.body) (part n is)))
      ];
      cep = λ j lt. elim (cases_lt j (length sent)) [
        | inl o ↦ ap (λ (x : Entry). x.num.cep) (old_at sent e no_entry j o) ∙ h.cep j o
        | inr ge ↦ ap (λ (x : Entry). x.num.cep) (new_at sent e no_entry j (omega arith)) ∙ cep
      ];
      below = λ j low lt. elim (cases_lt j (length sent)) [
        | inl o ↦ (let x = ap (λ (x : Entry). x.num.seq) (old_at sent e no_entry j o) in let y = h.below j low o in omega arith)
        | inr ge ↦ (let x : entry (sent ++ e ∷ []) j ≡ e = new_at sent e no_entry j (omega arith) in let y = ap (λ (x : Entry). x.num.seq) x in omega arith)
      ];
      rising = λ j k low jk lt. elim (cases_lt k (length sent)) [
        | inl o ↦
            (let x = ap (λ (x : Entry). x.num.seq) (old_at sent e no_entry k o) in
            let y : (entry (sent ++ e ∷ []) j).num.seq ≡ (entry sent j).num.seq = ap (λ (x : Entry). x.num.seq) (old_at sent e no_entry j (omega arith)) in
            let r = h.rising j k low jk o in omega arith)
        | inr ge ↦
            (let x : entry (sent ++ e ∷ []) k ≡ e = new_at sent e no_entry k (omega arith) in
            let z = ap (λ (x : Entry). x.num.seq) x in
            let y : (entry (sent ++ e ∷ []) j).num.seq ≡ (entry sent j).num.seq = ap (λ (x : Entry). x.num.seq) (old_at sent e no_entry j (omega arith)) in
            let r = h.below j low (omega arith) in omega arith)
      ];
    }

pub owes_first : (c : Constants) (run : List Member) (s : Member) (base : ℕ) (sent : List Entry) (e : Entry) (rest : List ℕ) → SentHolds c run base sent → s.part.begins ≡ true → e.bytes ≡ s.part.body ++ rest → Owes (run ++ s ∷ []) base (sent ++ e ∷ []) rest
owes_first c run s base sent e rest h b bytes n is =
    let u = pushed run s in
    let l = u.length_is in
    let n_is : n ≡ length run = omega arith in
    let p : place_of (run ++ s ∷ []) base n ≡ length sent = place_first c run s base sent h b n n_is in
    let r : entry (sent ++ e ∷ []) (place_of (run ++ s ∷ []) base n) ≡ e = rw p (new_at sent e no_entry (length sent) refl) in
    let body : bytes_of (run ++ s ∷ []) n ≡ s.part.body = rw n_is (bytes_first run s b) in
    ap (λ xs. xs ++ rest) body ∙ sym bytes ∙ sym (ap (λ (x : Entry). x.bytes) r)

pub bytes_pushed : (run : List Member) (s : Member) → s.part.begins ≡ true → length (bytes_of (run ++ s ∷ []) (length run)) ≡ length s.part.body
bytes_pushed run s b = ap (λ (xs : List ℕ). length xs) (bytes_first run s b)

-- A further piece of an SDU

-- of the new member: it goes on with the SDU of the last one
pub record Goes (run : List Member) (s : Member) (base m n : ℕ) : Type 0 where
  pub place : place_of (run ++ s ∷ []) base n ≡ place_of run base m
  pub start : start_of (run ++ s ∷ []) n ≡ start_of run m
  pub bytes : bytes_of (run ++ s ∷ []) n ≡ bytes_of run m ++ s.part.body

goes_suc : (run : List Member) (s : Member) (base m : ℕ) → suc m ≡ length run → s.part.begins ≡ false → Goes run s base m (suc m)
goes_suc run s base m is b =
    let u = pushed run s in
    let part : part_at (run ++ s ∷ []) (suc m) ≡ s.part = ap (λ (x : Member). x.part) (u.new (suc m) is) in
    let no_begin : (part_at (run ++ s ∷ []) (suc m)).begins ≡ false = ap (λ (x : Part). x.begins) part ∙ b in
    let lt : m < length run = omega arith in
    let p : place_of (run ++ s ∷ []) base m ≡ place_of run base m = place_agree run (run ++ s ∷ []) base m u.agree lt in
    record {
      place = rw (no_begin, p) refl;
      start = start_on (run ++ s ∷ []) m no_begin ∙ start_agree run (run ++ s ∷ []) m u.agree lt;
      bytes = bytes_on (run ++ s ∷ []) m no_begin ∙ ap (λ xs. xs ++ (part_at (run ++ s ∷ []) (suc m)).body) (bytes_agree run (run ++ s ∷ []) m u.agree lt) ∙ ap (λ (x : Part). bytes_of run m ++ x.body) part;
    }

pub goes : (run : List Member) (s : Member) (base m : ℕ) → suc m ≡ length run → s.part.begins ≡ false → Goes run s base m (length run)
goes run s base m is b = (let P : ℕ → Type 0 = λ n. Goes run s base m n in subst P is (goes_suc run s base m is b))

pub bytes_gone_on : (run : List Member) (s : Member) (m : ℕ) → suc m ≡ length run → s.part.begins ≡ false → length (bytes_of (run ++ s ∷ []) (length run)) ≡ length (bytes_of run m) + length s.part.body
bytes_gone_on run s m is b = ap (λ (xs : List ℕ). length xs) ((goes run s 0 m is b).bytes) ∙ length-append (bytes_of run m) s.part.body

pub run_next : (c : Constants) (run : List Member) (s : Member) (m : ℕ) → suc m ≡ length run → RunHolds c run → (part_at run m).ends ≡ false → s.part.begins ≡ false → s.first ≡ (member run m).first → (c.cube.kind ≡ Reliable → s.drf ≡ true → ⊥) → IsNext c run s → length (bytes_of run m) + length s.part.body ≤ c.cube.largest → RunHolds c (run ++ s ∷ [])
run_next c run s m m_is h ends b first without next fits =
    let u = pushed run s in
    let l = u.length_is in
    let at = λ (n : ℕ) (e : n ≡ length run). (ap (λ (x : Member). x.part.begins) (u.new n e) ∙ b) in
    let last = λ (n : ℕ) (e : n ≡ m). (let r : (part_at run n).ends ≡ false = rw e ends in r) in
    let body = bytes_gone_on run s m m_is b in
    record {
      begins = λ lt. ap (λ (p : Part). p.begins) (u.agree.part 0 (omega arith)) ∙ h.begins (omega arith);
      goes_on = λ n lt. elim (cases_lt (suc n) (length run)) [
        | inl old ↦ ap (λ (p : Part). p.begins) (u.agree.part (suc n) old) ∙ h.goes_on n old ∙ sym (ap (λ (p : Part). p.ends) (u.agree.part n (omega arith)))
        | inr ge ↦ at (suc n) (omega arith) ∙ sym (ap (λ (p : Part). p.ends) (u.agree.part n (omega arith)) ∙ last n (omega arith))
      ];
      first = λ n lt t. elim (cases_lt (suc n) (length run)) [
        | inl old ↦ u.agree.first (suc n) old ∙ h.first n old (sym (ap (λ (p : Part). p.begins) (u.agree.part (suc n) old)) ∙ t) ∙ sym (u.agree.first n (omega arith))
        | inr ge ↦ (let n_is : n ≡ m = omega arith in ap (λ (x : Member). x.first) (u.new (suc n) (omega arith)) ∙ first ∙ ap (λ k. (member run k).first) (sym n_is) ∙ sym (u.agree.first n (omega arith)))
      ];
      drf = λ e n lt t. elim (cases_lt n (length run)) [
        | inl old ↦ ap (λ (p : Part). p.begins) (u.agree.part n old) ∙ h.drf e n old (sym (next.drf n old) ∙ t)
        | inr ge ↦ absurd (without e (sym (ap (λ (x : Member). x.drf) (u.new n (omega arith))) ∙ t))
      ];
      sized = sized_new c run s h next;
      fits = fits_new c run s h (omega arith);
      numbers = (let x = next.numbers in omega arith);
    }

pub sent_next : (c : Constants) (run : List Member) (s : Member) (base m : ℕ) (sent : List Entry) (rest : List ℕ) → suc m ≡ length run → SentHolds c run base sent → Owes run base sent (s.part.body ++ rest) → s.part.begins ≡ false → s.first ≡ (member run m).first → (s.part.ends ≡ true → rest ≡ []) → SentHolds c (run ++ s ∷ []) base sent
sent_next c run s base m sent rest m_is h owes b first end =
    let u = pushed run s in
    let l = u.length_is in
    let old = λ (n : ℕ) (lt : n < length run). (let r : place_of (run ++ s ∷ []) base n ≡ place_of run base n = place_agree run (run ++ s ∷ []) base n u.agree lt in r) in
    let g = goes run s base m m_is b in
    let place : place_of (run ++ s ∷ []) base (length run) ≡ place_of run base m = g.place in
    let start : start_of (run ++ s ∷ []) (length run) ≡ start_of run m = g.start in
    let bytes : bytes_of (run ++ s ∷ []) (length run) ≡ bytes_of run m ++ s.part.body = g.bytes in
    let lt_m : m < length run = omega arith in
    record {
      none = λ z. absurd (omega arith);
      size = λ n is. (let n_is : n ≡ length run = omega arith in let z = h.size m m_is in let p : place_of (run ++ s ∷ []) base n ≡ place_of run base m = rw n_is place in omega arith);
      num = λ n lt. elim (cases_lt n (length run)) [
        | inl o ↦ ap (λ j. (entry sent j).num.seq) (old n o) ∙ h.num n o ∙ sym (start_agree run (run ++ s ∷ []) n u.agree o)
        | inr ge ↦ (let is : n ≡ length run = omega arith in rw is (ap (λ j. (entry sent j).num.seq) place ∙ h.num m lt_m ∙ sym start))
      ];
      tick = λ n lt. elim (cases_lt n (length run)) [
        | inl o ↦ ap (λ j. (entry sent j).tick) (old n o) ∙ h.tick n o ∙ sym (u.agree.first n o)
        | inr ge ↦ (let is : n ≡ length run = omega arith in rw is (ap (λ j. (entry sent j).tick) place ∙ h.tick m lt_m ∙ sym first ∙ sym (ap (λ (x : Member). x.first) (u.new (length run) refl))))
      ];
      bytes = λ n lt t. elim (cases_lt n (length run)) [
        | inl o ↦ ap (λ j. (entry sent j).bytes) (old n o) ∙ h.bytes n o (sym (ap (λ (p : Part). p.ends) (u.agree.part n o)) ∙ t) ∙ sym (bytes_agree run (run ++ s ∷ []) n u.agree o)
        | inr ge ↦
            (let is : n ≡ length run = omega arith in
            let none : rest ≡ [] = end (sym (ap (λ (x : Member). x.part.ends) (u.new n is)) ∙ t) in
            let o : bytes_of run m ++ (s.part.body ++ []) ≡ (entry sent (place_of run base m)).bytes = rw none at (owes m m_is) in
            rw is (ap (λ j. (entry sent j).bytes) place ∙ sym o ∙ ap (λ xs. bytes_of run m ++ xs) (append-nil s.part.body) ∙ sym bytes))
      ];
      cep = h.cep;
      below = λ j low lt. (let x = h.below j low lt in omega arith);
      rising = h.rising;
    }

pub owes_next : (run : List Member) (s : Member) (base m : ℕ) (sent : List Entry) (rest : List ℕ) → suc m ≡ length run → Owes run base sent (s.part.body ++ rest) → s.part.begins ≡ false → Owes (run ++ s ∷ []) base sent rest
owes_next run s base m sent rest m_is owes b n is =
    let u = pushed run s in
    let l = u.length_is in
    let n_is : n ≡ length run = omega arith in
    let g = goes run s base m m_is b in
    let place : place_of (run ++ s ∷ []) base (length run) ≡ place_of run base m = g.place in
    let bytes : bytes_of (run ++ s ∷ []) (length run) ≡ bytes_of run m ++ s.part.body = g.bytes in
    rw n_is (ap (λ xs. xs ++ rest) bytes ∙ append_assoc (bytes_of run m) s.part.body rest ∙ owes m m_is ∙ sym (ap (λ j. (entry sent j).bytes) place))
