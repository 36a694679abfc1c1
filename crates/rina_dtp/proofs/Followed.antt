-- The held pieces that follow are joined as the machine joins them.
use Rattle.std.proofs.Common.{◌≡◌, ◌≢◌, ℕ, zero, suc, ◌+◌, ◌-◌, ◌^◌, ◌<◌, ◌≤◌, List, [], ◌∷◌, ◌++◌, length, Bool, true, false, cond, not, ◌&&◌, eqb, Option, Some, None, refl, sym, ◌∙◌, ap, subst, arith, append_assoc}
use Rattle.std.proofs.lemmas.Bool.{eqb-false, ne_eqb, and_parts, false≢true}
use Rattle.std.proofs.lemmas.List.{append-nil}
use Rattle.rina_delim.specs.Joining.{Joining, piece, answer, joined, HasRoom}
use Rattle.rina_dtp.specs.declared.gap.Gap.{Gap}
use Rattle.rina_dtp.specs.Accepted.{gap_given, FollowsOne, FollowsMany}
use Rattle.rina_dtp.specs.Joins.{Joins, gap_if, missing_in, is_cut_off, taken}
use Rattle.rina_dtp.specs.declared.gap.Lost.{Lost}
use Rattle.rina_dtp.specs.Lost.{missing_before, is_broken, lost_with, given_up, itself, lost_held}
use Rattle.rina_dtp.specs.Receiving.{numbers_to, lost_in}
use Rattle.rina_dtp.specs.Shelf.{Place, Shelved, place_at, holds, part_at, without}
use Rattle.rina_dtp.specs.Stands.{IsJoiner}
use Rattle.rina_dtp.proofs.Growing.{joined-largest}
use Rattle.rina_dtp.proofs.JoinedAs.{JoinsAs, joins_as, room_as}
use Rattle.rina_dtp.proofs.Placed.{held_number, holds_without, part_without, length-without}
use Rattle.rina_law.specs.Lists.{has, highest}
use Rattle.rina_law.specs.Pieces.{Part, Joined, joined_with, HasRoomFor}
use Rattle.rina_law.proofs.Lists.{highest-in, has-in}
use Rattle.rina_law.specs.Receiver.{Piece, numbers, part_in, with_held, joined_held, HeldHaveRoom}

-- Gaps

pub lost_in-append : (gs hs : List Gap) → lost_in (gs ++ hs) ≡ lost_in gs ++ lost_in hs
lost_in-append [] hs = refl
lost_in-append (g ∷ gs) hs = ap (λ (ls : List Lost). lost_with g.missing (numbers_to g.from g.last) ++ ls) (lost_in-append gs hs) ∙ sym (append_assoc (lost_with g.missing (numbers_to g.from g.last)) (lost_in gs) (lost_in hs))

one_lost : (n missing : ℕ) → lost_in (record { from = n; last = n; missing = missing } ∷ []) ≡ record { number = n; missing = missing } ∷ []
one_lost n missing = (let none : n - n ≡ 0 = omega arith in rw none refl)

-- the gaps after a held piece was joined
given_lost : (b : Bool) (n missing : ℕ) (j : Joins) → lost_in (gap_given (cond b (Some missing) None) n j).gaps ≡ lost_in j.gaps ++ cond b (record { number = n; missing = missing } ∷ []) []
given_lost true n missing j = lost_in-append j.gaps (record { from = n; last = n; missing = missing } ∷ []) ∙ ap (λ (ls : List Lost). lost_in j.gaps ++ ls) (one_lost n missing)
given_lost false n missing j = sym (append-nil (lost_in j.gaps))

given_joining : (m : Option ℕ) (n : ℕ) (j : Joins) → (gap_given m n j).joining ≡ j.joining
given_joining None n j = refl
given_joining (Some x) n j = refl

given_whole : (m : Option ℕ) (n : ℕ) (j : Joins) → (gap_given m n j).whole ≡ j.whole
given_whole None n j = refl
given_whole (Some x) n j = refl

-- between two held pieces: the places have the machine's held pieces from the next number on, below a bound, and the
-- joiner is the machine's
pub record Between (bound largest : ℕ) (held : List Piece) (o : Joined) (s : Shelved) (j : Joins) : Type 0 where
  pub some : 1 ≤ length s.places
  pub same : (k : ℕ) → s.next ≤ k → has k (numbers held) ≡ holds s.places k
  pub parts : (k : ℕ) → holds s.places k ≡ true → part_in k held ≡ part_at s.places k
  pub within : (k : ℕ) → holds s.places k ≡ true → (s.next ≤ k) × (k < bound) × (k < 2 ^ 32)
  pub joiner : IsJoiner o.joiner j.joining
  pub reach : 0 < o.joiner.count → o.joiner.from + o.joiner.count ≤ s.next
  pub whole : j.whole ≡ o.whole
  pub size : j.joining.largest ≡ largest

-- what one held piece makes of it
record Once (bound largest : ℕ) (held : List Piece) (n places : ℕ) (o : Joined) (j : Joins) (t : Shelved) (u : Joins) : Type 0 where
  there : has n (numbers held) ≡ true
  after : Between bound largest held (joined_with n (part_in n held) o) t u
  next : t.next ≡ n + 1
  count : length t.places ≡ places
  lost : lost_in u.gaps ≡ lost_in j.gaps ++ given_up n (part_in n held) o.joiner ++ itself n (part_in n held) o.joiner

not_same : (k n : ℕ) → n + 1 ≤ k → not (eqb k n) ≡ true
not_same k n h = ap not (ne_eqb k n (λ e. omega arith))

-- the places without the next number
without_same : (s : Shelved) (k : ℕ) → 1 ≤ length s.places → holds s.places s.next ≡ true → s.next + 1 ≤ k → holds (without s.next s.places) k ≡ holds s.places k
without_same s k some there h = holds_without s.places s.next k some there ∙ ap (λ b. b && holds s.places k) (not_same k s.next h)

without_held : (s : Shelved) (k : ℕ) → 1 ≤ length s.places → holds s.places s.next ≡ true → holds (without s.next s.places) k ≡ true → (k ≢ s.next) × (holds s.places k ≡ true)
without_held s k some there h =
    let both = and_parts (not (eqb k s.next)) (holds s.places k) (sym (holds_without s.places s.next k some there) ∙ h) in
    (λ e. (let x : not (eqb k s.next) ≡ false = rw e (self s.next) in false≢true (sym x ∙ both.0)), both.1)
  where
    self : (n : ℕ) → not (eqb n n) ≡ false
    self n = omega_self n (eqb n n) refl
      where
        omega_self : (n : ℕ) (b : Bool) → eqb n n ≡ b → not b ≡ false
        omega_self n true e = refl
        omega_self n false e = absurd (eqb-false n n e refl)

-- the joiner's side of it, at a part
record JoinedOnce (largest n : ℕ) (part : Part) (o : Joined) (j u : Joins) : Type 0 where
  joiner : IsJoiner (joined_with n part o).joiner u.joining
  reach : 0 < (joined_with n part o).joiner.count → (joined_with n part o).joiner.from + (joined_with n part o).joiner.count ≡ n + 1
  whole : u.whole ≡ (joined_with n part o).whole
  size : u.joining.largest ≡ largest
  lost : lost_in u.gaps ≡ lost_in j.gaps ++ given_up n part o.joiner ++ itself n part o.joiner

joined_once : (largest n : ℕ) (part : Part) (o : Joined) (j u : Joins) → IsJoiner o.joiner j.joining → n < 2 ^ 32 → (n ≡ 0 → 0 < o.joiner.count → o.joiner.from + o.joiner.count < 2 ^ 32) → j.whole ≡ o.whole → j.joining.largest ≡ largest
    → (missing : Option ℕ) → missing ≡ missing_in (answer j.joining (piece n part.begins part.ends part.body)) → u ≡ gap_given missing n (taken (piece n part.begins part.ends part.body) j) → JoinedOnce largest n part o j u
joined_once largest n part o j u h small no_wrap same size missing m given =
    let p = piece n part.begins part.ends part.body in
    let x : JoinsAs n part o.joiner o.whole j.joining = joins_as n part o.joiner o.whole j.joining h small no_wrap in
    let is : missing ≡ cond (is_broken n part o.joiner) (Some (missing_before n o.joiner)) None = m ∙ x.missing in
    let joining : u.joining ≡ joined j.joining p = ap (λ (y : Joins). y.joining) given ∙ given_joining missing n (taken p j) in
    record {
      joiner = rw joining x.joiner;
      reach = x.reach;
      whole = ap (λ (y : Joins). y.whole) given ∙ given_whole missing n (taken p j) ∙ (rw same (sym x.made));
      size = ap (λ (y : Joining). y.largest) joining ∙ joined-largest j.joining p ∙ size;
      lost =
          (let gaps : lost_in u.gaps ≡ lost_in (gap_given (cond (is_broken n part o.joiner) (Some (missing_before n o.joiner)) None) n (taken p j)).gaps = ap (λ (y : Joins). lost_in y.gaps) given ∙ ap (λ (y : Option ℕ). lost_in (gap_given y n (taken p j)).gaps) is in
          let one = given_lost (is_broken n part o.joiner) n (missing_before n o.joiner) (taken p j) in
          let two : lost_in (taken p j).gaps ≡ lost_in j.gaps ++ given_up n part o.joiner = lost_in-append j.gaps (gap_if (is_cut_off (answer j.joining p) part.begins) j.joining.held) ∙ ap (λ (ls : List Lost). lost_in j.gaps ++ ls) x.gaps in
          gaps ∙ one ∙ ap (λ (ls : List Lost). ls ++ itself n part o.joiner) two);
    }

room_at : (held : List Piece) (n largest : ℕ) (s : Shelved) (o : Joined) (k : Joining) → part_in n held ≡ part_at s.places n → IsJoiner o.joiner k → n < 2 ^ 32 → (n ≡ 0 → 0 < o.joiner.count → o.joiner.from + o.joiner.count < 2 ^ 32) → k.largest ≡ largest → HasRoomFor largest n (part_in n held) o.joiner → HasRoom k n (place_at s.places n).first (length (place_at s.places n).body)
room_at held n largest s o k part h small no_wrap size room =
    let P : Part → Type 0 = λ x. HasRoomFor largest n x o.joiner in
    room_as n largest (part_at s.places n) o.joiner k h small no_wrap size (subst P part room)

once : (bound largest : ℕ) (held : List Piece) (o : Joined) (s : Shelved) (j : Joins) (t : Shelved) (u : Joins) → Between bound largest held o s j → FollowsOne s j t u → (has s.next (numbers held) ≡ true → HasRoomFor largest s.next (part_in s.next held) o.joiner) → Once bound largest held s.next (length s.places) o j t u
once bound largest held o s j t u b f room =
    let n = s.next in
    let p = place_at s.places n in
    let there : has n (numbers held) ≡ true = b.same n (omega arith) ∙ f.there in
    let low = b.within n f.there in
    let reach = b.reach in
    let no_wrap : n ≡ 0 → 0 < o.joiner.count → o.joiner.from + o.joiner.count < 2 ^ 32 = λ z some. (let r = reach some in let (a, c, d) = low in omega arith) in
    let part : part_in n held ≡ part_at s.places n = b.parts n f.there in
    let number : p.number ≡ n = held_number s.places n f.there in
    let given = f.given in
    let R : ℕ → Type 0 = λ x. HasRoom j.joining x p.first (length p.body) in
    let told = given.joined (subst R (sym number) (room_at held n largest s o j.joining part b.joiner low.2 no_wrap b.size (room there))) in
    let M : ℕ → Type 0 = λ x. (given.missing ≡ missing_in (answer j.joining (piece x p.first p.last p.body))) × (u ≡ gap_given given.missing x (taken (piece x p.first p.last p.body) j)) in
    let at : M n = subst M number (told.0, given.given ∙ ap (gap_given given.missing p.number) told.1) in
    let J : Part → Type 0 = λ x. JoinedOnce largest n x o j u in
    let x : JoinedOnce largest n (part_in n held) o j u = subst J (sym part) (joined_once largest n (part_at s.places n) o j u b.joiner low.2 no_wrap b.whole b.size given.missing at.0 at.1) in
    let places : t.places ≡ without n s.places = ap (λ (y : Shelved). y.places) f.shelf in
    let next : t.next ≡ n + 1 = ap (λ (y : Shelved). y.next) f.shelf in
    let same_count : length t.places ≡ length s.places = ap (λ (y : List Place). length y) places ∙ length-without s.places n in
    record {
      there = there;
      after = record {
        some = (let some = b.some in omega arith);
        same = λ k h. b.same k (omega arith) ∙ sym (without_same s k b.some f.there (omega arith)) ∙ ap (λ (y : List Place). holds y k) (sym places);
        parts = λ k h.
            (let old = without_held s k b.some f.there (ap (λ (y : List Place). holds y k) (sym places) ∙ h) in
            b.parts k old.1 ∙ sym (part_without s.places n k b.some) ∙ ap (λ (y : List Place). part_at y k) (sym places));
        within = λ k h.
            (let old = without_held s k b.some f.there (ap (λ (y : List Place). holds y k) (sym places) ∙ h) in
            let (from, to, fits) = b.within k old.1 in
            let ne : k ≢ n = old.0 in
            (omega arith, to, fits));
        joiner = x.joiner;
        reach = λ some. (let r = x.reach some in omega arith);
        whole = x.whole;
        size = x.size;
      };
      next = next;
      count = same_count;
      lost = x.lost;
    }

-- All that follow

-- after so many held pieces: what the machine still does, from where it is
pub record Walked (largest : ℕ) (held : List Piece) (n : ℕ) (o : Joined) (list : List ℕ) (k : ℕ) (p : Joined) (now : List ℕ) (lost : List Lost) : Type 0 where
  pub fits : k ≤ highest (numbers held)
  pub joins : joined_held (highest (numbers held)) n held o ≡ joined_held (highest (numbers held) - k) (n + k) held p
  pub lists : with_held (highest (numbers held)) n (numbers held) list ≡ with_held (highest (numbers held) - k) (n + k) (numbers held) now
  pub losts : lost_held (highest (numbers held)) n held o ≡ lost ++ lost_held (highest (numbers held) - k) (n + k) held p
  pub size : length now ≡ length list + k
  pub room : HeldHaveRoom largest (highest (numbers held) - k) (n + k) held p

walked_none : (largest : ℕ) (held : List Piece) (n : ℕ) (o : Joined) (list : List ℕ) → HeldHaveRoom largest (highest (numbers held)) n held o → Walked largest held n o list 0 o list []
walked_none largest held n o list room =
    let all : highest (numbers held) - 0 ≡ highest (numbers held) = omega arith in
    let here : n + 0 ≡ n = omega arith in
    record {
      fits = omega arith;
      joins = rw (all, here) refl;
      lists = rw (all, here) refl;
      losts = rw (all, here) refl;
      size = omega arith;
      room = rw (all, here) room;
    }

walked_more : (largest : ℕ) (held : List Piece) (n : ℕ) (o : Joined) (list : List ℕ) (k : ℕ) (p : Joined) (now : List ℕ) (lost : List Lost) → 1 ≤ n → Walked largest held n o list k p now lost → has (n + k) (numbers held) ≡ true →
    Walked largest held n o list (suc k) (joined_with (n + k) (part_in (n + k) held) p) ((n + k) ∷ now) (lost ++ (given_up (n + k) (part_in (n + k) held) p.joiner ++ itself (n + k) (part_in (n + k) held) p.joiner))
walked_more largest held n o list k p now lost least w there =
    let top : n + k ≤ highest (numbers held) = highest-in (n + k) (numbers held) (has-in (n + k) (numbers held) there) in
    let fuel : highest (numbers held) - k ≡ suc (highest (numbers held) - suc k) = omega arith in
    let on : n + suc k ≡ n + k + 1 = omega arith in
    let g = given_up (n + k) (part_in (n + k) held) p.joiner in
    let i = itself (n + k) (part_in (n + k) held) p.joiner in
    record {
      fits = omega arith;
      joins = w.joins ∙ (rw (fuel, on, there) refl);
      lists = w.lists ∙ (rw (fuel, on, there) refl);
      losts = w.losts ∙ (rw (fuel, on, there) (sym (append_assoc lost (g ++ i) (lost_held (highest (numbers held) - suc k) (n + k + 1) held (joined_with (n + k) (part_in (n + k) held) p)))));
      size = (let e = w.size in omega arith);
      room = (let P : ℕ → Type 0 = λ f. HeldHaveRoom largest f (n + k) held p in let r = subst P fuel w.room in rw on ((r there).1));
    }

-- where the places and the joiner are after so many held pieces
pub record Arrived (bound largest : ℕ) (held : List Piece) (n places : ℕ) (o : Joined) (list : List ℕ) (k : ℕ) (j : Joins) (t : Shelved) (u : Joins) : Type 0 where
  pub joined : Joined
  pub accepted : List ℕ
  pub lost : List Lost
  pub walked : Walked largest held n o list k joined accepted lost
  pub between : Between bound largest held joined t u
  pub next : t.next ≡ n + k
  pub count : length t.places ≡ places
  pub gaps : lost_in u.gaps ≡ lost_in j.gaps ++ lost

arrive_more : (bound largest : ℕ) (held : List Piece) (n places : ℕ) (o : Joined) (list : List ℕ) (k : ℕ) (j : Joins) (s : Shelved) (i : Joins) (t : Shelved) (u : Joins) → 1 ≤ n → Arrived bound largest held n places o list k j s i → FollowsOne s i t u → Arrived bound largest held n places o list (suc k) j t u
arrive_more bound largest held n places o list k j s i t u least a f =
    let b = a.between in
    let there : has (n + k) (numbers held) ≡ true = ap (λ x. has x (numbers held)) (sym a.next) ∙ b.same s.next (omega arith) ∙ f.there in
    let room : has s.next (numbers held) ≡ true → HasRoomFor largest s.next (part_in s.next held) a.joined.joiner = λ yes.
    (let P : ℕ → Type 0 = λ x. HasRoomFor largest x (part_in x held) a.joined.joiner in
    let top : n + k ≤ highest (numbers held) = highest-in (n + k) (numbers held) (has-in (n + k) (numbers held) there) in
    let fuel : highest (numbers held) - k ≡ suc (highest (numbers held) - suc k) = omega arith in
    let H : ℕ → Type 0 = λ x. HeldHaveRoom largest x (n + k) held a.joined in
    let r = subst H fuel a.walked.room in
    subst P (sym a.next) ((r there).0)) in
    let x = once bound largest held a.joined s i t u b f room in
    let L : ℕ → Type 0 = λ m. lost_in u.gaps ≡ lost_in i.gaps ++ given_up m (part_in m held) a.joined.joiner ++ itself m (part_in m held) a.joined.joiner in
    let B : ℕ → Type 0 = λ m. Between bound largest held (joined_with m (part_in m held) a.joined) t u in
    let g = given_up (n + k) (part_in (n + k) held) a.joined.joiner in
    let w = itself (n + k) (part_in (n + k) held) a.joined.joiner in
    record {
      joined = joined_with (n + k) (part_in (n + k) held) a.joined;
      accepted = (n + k) ∷ a.accepted;
      lost = a.lost ++ (g ++ w);
      walked = walked_more largest held n o list k a.joined a.accepted a.lost least a.walked there;
      between = subst B a.next x.after;
      next = (let e = x.next in let z = a.next in omega arith);
      count = x.count ∙ a.count;
      gaps = subst L a.next x.lost ∙ append_assoc (lost_in i.gaps) g w ∙ ap (λ (ls : List Lost). ls ++ (g ++ w)) a.gaps ∙ append_assoc (lost_in j.gaps) a.lost (g ++ w);
    }

pub arrive : (bound largest : ℕ) (held : List Piece) (n places : ℕ) (o : Joined) (list : List ℕ) (k : ℕ) (s : Shelved) (j : Joins) (t : Shelved) (u : Joins) → 1 ≤ n → s.next ≡ n → length s.places ≡ places → HeldHaveRoom largest (highest (numbers held)) n held o → Between bound largest held o s j → FollowsMany k s j t u → Arrived bound largest held n places o list k j t u
arrive bound largest held n places o list zero s j t u least next count room b f =
    let P : Shelved → Joins → Type 0 = λ x y. Arrived bound largest held n places o list 0 j x y in
    let here : Arrived bound largest held n places o list 0 j s j = record {
      joined = o;
      accepted = list;
      lost = [];
      walked = walked_none largest held n o list room;
      between = b;
      next = omega arith;
      count = count;
      gaps = sym (append-nil (lost_in j.gaps));
    } in
    let S : Shelved → Type 0 = λ x. Arrived bound largest held n places o list 0 j x j in
    let J : Joins → Type 0 = λ y. Arrived bound largest held n places o list 0 j t y in
    subst J (sym f.1) (subst S (sym f.0) here)
arrive bound largest held n places o list (suc k) s j t u least next count room b f =
    arrive_more bound largest held n places o list k j (f.0) (f.1) t u least (arrive bound largest held n places o list k s j (f.0) (f.1) least next count room b (f.2)) f.3

-- Where the next number is not held

stop_joined : (fuel n : ℕ) (held : List Piece) (o : Joined) → has n (numbers held) ≡ false → joined_held fuel n held o ≡ o
stop_joined zero n held o e = refl
stop_joined (suc fuel) n held o e = rw e refl

stop_list : (fuel n : ℕ) (held list : List ℕ) → has n held ≡ false → with_held fuel n held list ≡ list
stop_list zero n held list e = refl
stop_list (suc fuel) n held list e = rw e refl

stop_lost : (fuel n : ℕ) (held : List Piece) (o : Joined) → has n (numbers held) ≡ false → lost_held fuel n held o ≡ []
stop_lost zero n held o e = refl
stop_lost (suc fuel) n held o e = rw e refl

-- all that follow were joined
pub record Done (bound largest : ℕ) (held : List Piece) (n places : ℕ) (o : Joined) (list : List ℕ) (j : Joins) (t : Shelved) (u : Joins) : Type 0 where
  pub between : Between bound largest held (joined_held (highest (numbers held)) n held o) t u
  pub next : t.next + length list ≡ n + length (with_held (highest (numbers held)) n (numbers held) list)
  pub later : n ≤ t.next
  pub count : length t.places ≡ places
  pub gaps : lost_in u.gaps ≡ lost_in j.gaps ++ lost_held (highest (numbers held)) n held o
  pub stop : holds t.places t.next ≡ false

pub done : (bound largest : ℕ) (held : List Piece) (n places : ℕ) (o : Joined) (list : List ℕ) (k : ℕ) (j : Joins) (t : Shelved) (u : Joins) → Arrived bound largest held n places o list k j t u → holds t.places t.next ≡ false → Done bound largest held n places o list j t u
done bound largest held n places o list k j t u a stop =
    let b = a.between in
    let none : has (n + k) (numbers held) ≡ false = ap (λ x. has x (numbers held)) (sym a.next) ∙ b.same t.next (omega arith) ∙ stop in
    let f = highest (numbers held) - k in
    let joins : joined_held (highest (numbers held)) n held o ≡ a.joined = a.walked.joins ∙ stop_joined f (n + k) held a.joined none in
    let lists : with_held (highest (numbers held)) n (numbers held) list ≡ a.accepted = a.walked.lists ∙ stop_list f (n + k) (numbers held) a.accepted none in
    let losts : lost_held (highest (numbers held)) n held o ≡ a.lost = a.walked.losts ∙ ap (λ (ls : List Lost). a.lost ++ ls) (stop_lost f (n + k) held a.joined none) ∙ append-nil a.lost in
    let B : Joined → Type 0 = λ x. Between bound largest held x t u in
    record {
      between = subst B (sym joins) b;
      next = (let size = a.walked.size in let e = ap (λ (x : List ℕ). length x) lists in let at = a.next in omega arith);
      later = (let at = a.next in omega arith);
      count = a.count;
      gaps = a.gaps ∙ ap (λ (ls : List Lost). lost_in j.gaps ++ ls) (sym losts);
      stop = stop;
    }
