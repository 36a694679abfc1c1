-- Accepted numbers, one after the other, through the joiner.
use Rattle.std.proofs.Common.{◌≡◌, ℕ, zero, suc, ◌+◌, ◌<◌, ◌≤◌, List, [], ◌∷◌, ◌++◌, length, Bool, true, false, cond, ltb, eqb, refl, sym, ◌∙◌, ap, subst, arith, inl, inr}
use Rattle.std.proofs.lemmas.Bool.{eqb-true, eqb-false, false≢true, ltb-true, ltb-false}
use Rattle.rina_cube.specs.declared.Kind.{Kind}
use Rattle.rina_cube.specs.declared.Kind.TheVariants.{Datagram, Loose, Reliable}
use Rattle.rina_law.specs.declared.entry.Entry.{Entry}
use Rattle.rina_law.specs.Constants.{Constants}
use Rattle.rina_law.specs.Direction.{entry, Inbox, delivered}
use Rattle.rina_law.specs.DirectionHolds.{part_at, reached, RunHolds, SentHolds, JoinHolds, GotHolds}
use Rattle.rina_law.specs.Lists.{In, has, highest}
use Rattle.rina_law.specs.Pieces.{Part, Joiner, empty_joiner, goes_on, with_part, Joined, joined_with, HasRoomFor}
use Rattle.rina_law.specs.Receiver.{Piece, numbers, part_in, with_held, with_accepted, joined_held, joined_on, HeldHaveRoom, FollowersHaveRoom}
use Rattle.rina_law.specs.Sender.{Member, member}
use Rattle.rina_law.proofs.Arriving.{IsNew}
use Rattle.rina_law.proofs.Joining.{took, delivered_next, fits_with}
use Rattle.rina_law.proofs.Lists.{has-in}
use Rattle.rina_law.proofs.Taking.{Taking, taken_holds}

-- the pieces before n have come, so that n finds them in the joiner or begins
pub ready_from : (c : Constants) (run : List Member) (j : Joiner) (n : ℕ) → RunHolds c run → n < length run → ((m : ℕ) → n ≡ suc m → (part_at run m).ends ≡ false → (0 < j.count) × (j.from + j.count ≡ n)) → (part_at run n).begins ≡ false → (0 < j.count) × (j.from + j.count ≡ n)
ready_from c run j zero h lt waits b = absurd (false≢true (sym b ∙ h.begins lt))
ready_from c run j (suc m) h lt waits b = waits m refl (sym (h.goes_on m lt) ∙ b)

-- what holds between two accepted numbers
pub record Walking (c : Constants) (from now : ℕ) (run : List Member) (base since : ℕ) (sent : List Entry) (done : List ℕ) (o : Inbox) : Type 0 where
  pub numbers : (k : ℕ) → In k done → k < length run
  pub join : JoinHolds run o.joiner
  pub got : GotHolds c run base since sent done o
  pub count : c.cube.kind ≡ Reliable → length o.places ≡ reached run base (length done)
  pub waits : c.cube.kind ≡ Reliable → (m : ℕ) → length done ≡ suc m → (part_at run m).ends ≡ false → 0 < o.joiner.count
  pub ticks : (i : ℕ) → i < length o.got → (entry o.got i).tick ≤ now
  pub mine : c.cube.kind ≡ Reliable → (i : ℕ) → from ≤ i → i < length o.got → (entry o.got i).num.seq < length done
  pub joined : c.cube.kind ≡ Reliable → 0 < o.joiner.count → o.joiner.from + o.joiner.count ≡ length done

-- and before the first one
pub record Start (c : Constants) (from now : ℕ) (run : List Member) (base since : ℕ) (sent : List Entry) (done : List ℕ) (o : Inbox) : Type 0 where
  pub numbers : (k : ℕ) → In k done → k < length run
  pub join : JoinHolds run o.joiner
  pub got : GotHolds c run base since sent done o
  pub count : c.cube.kind ≡ Reliable → length o.places ≡ reached run base (length done)
  pub ticks : (i : ℕ) → i < length o.got → (entry o.got i).tick ≤ now
  pub mine : c.cube.kind ≡ Reliable → (i : ℕ) → from ≤ i → i < length o.got → (entry o.got i).num.seq < length done

start_walking : (c : Constants) (from now : ℕ) (run : List Member) (base since : ℕ) (sent : List Entry) (done : List ℕ) (o : Inbox) → Walking c from now run base since sent done o → Start c from now run base since sent done o
start_walking c from now run base since sent done o w = record { numbers = w.numbers; join = w.join; got = w.got; count = w.count; ticks = w.ticks; mine = w.mine }

pub shelf_from : (run : List Member) (hs : List Piece) → ((q : Piece) → In q hs → q.part ≡ part_at run q.number) → (h : ℕ) → In h (numbers hs) → part_in h hs ≡ part_at run h
shelf_from run [] f h i = absurd i
shelf_from run (p ∷ ps) f h i = go (eqb h p.number) refl (shelf_from run ps (λ q j. f q (inr j)) h) i
  where
    go : (b : Bool) → eqb h p.number ≡ b → (In h (numbers ps) → part_in h ps ≡ part_at run h) → In h (numbers (p ∷ ps)) → cond b p.part (part_in h ps) ≡ part_at run h
    go true e g j = f p (inl refl) ∙ ap (part_at run) (sym (eqb-true h p.number e))
    go false e g (inl x) = absurd (eqb-false h p.number e x)
    go false e g (inr j) = g j

-- what does not change on the way, from the number `lo` on
pub record Ground (c : Constants) (now : ℕ) (run : List Member) (base : ℕ) (sent : List Entry) (lo : ℕ) (held : List Piece) : Type 0 where
  pub parts : RunHolds c run
  pub source : SentHolds c run base sent
  pub young : (k : ℕ) → lo ≤ k → k < length run → now ≤ (member run k).first + c.cube.r + c.cube.mpl
  pub past : (k : ℕ) → k < length run → (member run k).first ≤ now
  pub shelf : c.cube.kind ≡ Reliable → (h : ℕ) → In h (numbers held) → (h < length run) × (part_in h held ≡ part_at run h)

pub step_taken : (c : Constants) (from now : ℕ) (run : List Member) (base since : ℕ) (sent : List Entry) (lo : ℕ) (held : List Piece) (done : List ℕ) (o : Inbox) (n : ℕ) (part : Part) → Ground c now run base sent lo held → Start c from now run base since sent done o → n < length run → lo ≤ n → part ≡ part_at run n → IsNew c.cube.kind n done → (c.cube.kind ≡ Reliable → (part_at run n).begins ≡ false → (0 < o.joiner.count) × (o.joiner.from + o.joiner.count ≡ n)) → Walking c from now run base since sent (n ∷ done) (took c now run base n part o)
step_taken c from now run base since sent lo held done o n part g w within low part_is new ready =
    let t : Taking c now run base since sent done o n = record {
      parts = g.parts;
      source = g.source;
      within = within;
      numbers = w.numbers;
      young = g.young n low within;
      past = g.past n within;
      new = new;
      join = w.join;
      got = w.got;
      count = w.count;
      ready = ready;
    } in
    let x = taken_holds c now run base since sent done o n t in
    let number = λ (e : c.cube.kind ≡ Reliable). (let P : Kind → Type 0 = λ k. IsNew k n done in let r : n ≡ length done = subst P e new in r) in
    rw part_is (record {
      numbers = λ k i. elim i [ inl e ↦ rw e within | inr j ↦ w.numbers k j ];
      join = x.join;
      got = x.got;
      count = λ e. (let is = number e in x.count e ∙ ap (λ k. reached run base (suc k)) is);
      waits = λ e m is ends. (let m_is : n ≡ m = (let z = number e in omega arith) in let P : ℕ → Type 0 = λ k. (part_at run k).ends ≡ false → 0 < (took c now run base n (part_at run n) o).joiner.count in (subst P m_is (x.waits e)) ends);
      ticks = λ i lt. elim (x.ticks i lt) [
        | inl old ↦ (let e = ap (λ (z : Entry). z.tick) old.1 in let le = w.ticks i old.0 in omega arith)
        | inr e ↦ (let t = e.0 in omega arith)
      ];
      mine = λ k i low lt. (let is = number k in elim (x.ticks i lt) [
        | inl old ↦ (let e = ap (λ (z : Entry). z.num.seq) old.1 in let le = w.mine k i low old.0 in omega arith)
        | inr e ↦ (let t = e.1 in omega arith)
      ]);
      joined = λ k some. (let is = number k in let y = x.fits some in omega arith);
    })

-- a piece of the run finds room in the joiner, since the SDU as far as it goes does
pub room_with : (c : Constants) (run : List Member) (n : ℕ) (part : Part) (j : Joiner) → RunHolds c run → n < length run → part ≡ part_at run n → JoinHolds run j → HasRoomFor c.cube.largest n part j
room_with c run n part j h lt is join = rw is (go (ltb 0 (with_part n (part_at run n) j).count) refl)
  where
    go : (b : Bool) → ltb 0 (with_part n (part_at run n) j).count ≡ b → length (with_part n (part_at run n) j).bytes ≤ c.cube.largest
    go true e = (let f = fits_with run n j join (ltb-true 0 (with_part n (part_at run n) j).count e) in let same = ap (λ (xs : List ℕ). length xs) f.bytes in let fits = h.fits n lt in omega arith)
    go false e = empty (part_at run n).begins (goes_on n j) e
      where
        empty : (b t : Bool) →
            ltb 0 (cond b (record { from = n; count = 1; bytes = (part_at run n).body }) (cond t (record { from = j.from; count = j.count + 1; bytes = j.bytes ++ (part_at run n).body }) empty_joiner)).count ≡ false →
            length (cond b (record { from = n; count = 1; bytes = (part_at run n).body }) (cond t (record { from = j.from; count = j.count + 1; bytes = j.bytes ++ (part_at run n).body }) empty_joiner)).bytes ≤ c.cube.largest
        empty true t e = absurd (false≢true (sym e ∙ refl))
        empty false true e = absurd (omega (arith, ltb-false 0 (j.count + 1) e))
        empty false false e = omega arith

-- the held numbers that follow, given to the joiner

walk_holds : (c : Constants) (from now : ℕ) (run : List Member) (base since : ℕ) (sent : List Entry) (lo : ℕ) (held : List Piece) (o : Inbox) → c.cube.kind ≡ Reliable → Ground c now run base sent lo held → (steps n : ℕ) (done : List ℕ) (j : Joined) → lo ≤ n → n ≡ length done → Walking c from now run base since sent done (delivered c now run base j o) →
    Walking c from now run base since sent (with_held steps n (numbers held) done) (delivered c now run base (joined_held steps n held j) o) × HeldHaveRoom c.cube.largest steps n held j
walk_holds c from now run base since sent lo held o e g zero n done j low is w = (w, tt)
walk_holds c from now run base since sent lo held o e g (suc steps) n done j low is w =
    let next = λ (i : In n (numbers held)).
    (let x = g.shelf e n i in
    let P : Kind → Type 0 = λ k. IsNew k n done in
    let Q : Inbox → Type 0 = λ b. Walking c from now run base since sent (n ∷ done) b in
    let taken = step_taken c from now run base since sent lo held done (delivered c now run base j o) n (part_in n held) g (start_walking c from now run base since sent done (delivered c now run base j o) w) x.0 low x.1 (subst P (sym e) is)
    (λ k b. ready_from c run j.joiner n g.parts x.0 (λ m n_is ends. (let some = w.waits e m (sym is ∙ n_is) ends in (some, w.joined e some ∙ sym is))) b) in
    let rest = walk_holds c from now run base since sent lo held o e g steps (n + 1) (n ∷ done) (joined_with n (part_in n held) j) (omega arith) (omega arith) (subst Q (sym (delivered_next c now run base n (part_in n held) j o)) taken) in
    let room = room_with c run n (part_in n held) j.joiner g.parts x.0 x.1 w.join in
    let r : (Walking c from now run base since sent (with_held steps (n + 1) (numbers held) (n ∷ done)) (delivered c now run base (joined_held steps (n + 1) held (joined_with n (part_in n held) j)) o)) × (HasRoomFor c.cube.largest n (part_in n held) j.joiner × HeldHaveRoom c.cube.largest steps (n + 1) held (joined_with n (part_in n held) j)) = (rest.0, (room, rest.1)) in r) in
    go (has n (numbers held)) refl next
  where
    go : (b : Bool) → has n (numbers held) ≡ b →
        (In n (numbers held) → (Walking c from now run base since sent (with_held steps (n + 1) (numbers held) (n ∷ done)) (delivered c now run base (joined_held steps (n + 1) held (joined_with n (part_in n held) j)) o)) × (HasRoomFor c.cube.largest n (part_in n held) j.joiner × HeldHaveRoom c.cube.largest steps (n + 1) held (joined_with n (part_in n held) j))) →
        Walking c from now run base since sent (cond b (with_held steps (n + 1) (numbers held) (n ∷ done)) done) (delivered c now run base (cond b (joined_held steps (n + 1) held (joined_with n (part_in n held) j)) j) o) × (b ≡ true → HasRoomFor c.cube.largest n (part_in n held) j.joiner × HeldHaveRoom c.cube.largest steps (n + 1) held (joined_with n (part_in n held) j))
    go true t next = (let x = next (has-in n (numbers held) t) in (x.0, λ is. x.1))
    go false t next = (w, λ is. absurd (false≢true is))

pub accepted_walk : (c : Constants) (from now : ℕ) (run : List Member) (base since : ℕ) (sent : List Entry) (held : List Piece) (o : Inbox) (done : List ℕ) (n : ℕ) (j : Joined) (kind : Kind) → c.cube.kind ≡ kind → Ground c now run base sent n held → IsNew c.cube.kind n done → Walking c from now run base since sent (n ∷ done) (delivered c now run base j o) →
    Walking c from now run base since sent (with_accepted kind (numbers held) n done) (delivered c now run base (joined_on kind n held j) o) × FollowersHaveRoom c.cube.largest kind n held j
accepted_walk c from now run base since sent held o done n j Datagram e g new w = (w, tt)
accepted_walk c from now run base since sent held o done n j Loose e g new w = (w, tt)
accepted_walk c from now run base since sent held o done n j Reliable e g new w =
    let P : Kind → Type 0 = λ k. IsNew k n done in
    let is : n ≡ length done = subst P e new in
    walk_holds c from now run base since sent n held o e g (highest (numbers held)) (n + 1) (n ∷ done) j (omega arith) (omega arith) w
