-- What an accepted piece leaves is what the machine's row leaves, by kind.
use Rattle.std.proofs.Common.{◌≡◌, ℕ, zero, suc, ◌+◌, ◌^◌, ◌%◌, ◌<◌, ◌≤◌, List, [], ◌∷◌, ◌++◌, length, All, Bool, true, false, cond, ◌&&◌, ◌||◌, eqb, Option, Some, None, refl, sym, ◌∙◌, ap, subst, arith, inl, inr, ◌⊎◌}
use Rattle.std.proofs.lemmas.Bool.{false≢true, false_from_ne_true}
use Rattle.std.proofs.lemmas.Nat.{mod_below}
use Rattle.std.proofs.lemmas.List.{append-nil}
use Rattle.rina_cube.specs.declared.Kind.{Kind}
use Rattle.rina_cube.specs.declared.Kind.TheVariants as kinds
use Rattle.rina_delim.specs.Joining.{Joining, piece, joined}
use Rattle.rina_dtp.specs.declared.accepted.Accepted.{Accepted}
use Rattle.rina_dtp.specs.declared.accepted.Accepted.TheVariants.{Datagram, Loose, Reliable}
use Rattle.rina_dtp.specs.Accepted.{kind_of, IsCounted, FollowsMany, FollowsAll, Follows}
use Rattle.rina_dtp.specs.Joins.{Joins, IsJoined}
use Rattle.rina_dtp.specs.declared.gap.Lost.{Lost}
use Rattle.rina_dtp.specs.Lost.{missing_before, is_broken, given_up, lost_after, joiner_for, lost_held}
use Rattle.rina_dtp.specs.Receiving.{lost_in}
use Rattle.rina_dtp.specs.Ring.{Recent}
use Rattle.rina_dtp.specs.Shelf.{Place, Shelved, no_place, place_at, holds, IsUnused, Holds}
use Rattle.rina_dtp.specs.Stands.{HasPlacesFor, IsJoiner, Knows, reach_of}
use Rattle.rina_dtp.proofs.Followed.{Between, arrive, Done, done}
use Rattle.rina_dtp.proofs.Growing.{joined-largest}
use Rattle.rina_dtp.proofs.JoinedAs.{JoinsAs, joins_as, room_as}
use Rattle.rina_dtp.proofs.Recalling.{recalls_added, recalls_alone}
use Rattle.rina_dtp.proofs.Shelved.{begin_between, end_holds}
use Rattle.rina_law.specs.Constants.{Constants}
use Rattle.rina_law.specs.Lists.{highest}
use Rattle.rina_law.specs.Pieces.{Part, Joiner, empty_joiner, Joined, joined_with, HasRoomFor}
use Rattle.rina_law.specs.Receiver as law
use Rattle.rina_law.specs.Receiver.{Piece, Receiver, next_of, numbers, from_on, receiver_after, joined_held, joined_after, AllHaveRoom, HeldHaveRoom}

-- The piece itself, joined

pub record First (largest n : ℕ) (part : Part) (j : Joiner) (missing : Option ℕ) (u : Joins) : Type 0 where
  pub joiner : IsJoiner (joined_with n part (record { joiner = j; whole = [] })).joiner u.joining
  pub reach : 0 < (joined_with n part (record { joiner = j; whole = [] })).joiner.count → (joined_with n part (record { joiner = j; whole = [] })).joiner.from + (joined_with n part (record { joiner = j; whole = [] })).joiner.count ≡ n + 1
  pub whole : u.whole ≡ (joined_with n part (record { joiner = j; whole = [] })).whole
  pub size : u.joining.largest ≡ largest
  pub gaps : lost_in u.gaps ≡ given_up n part j
  pub missing_is : missing ≡ cond (is_broken n part j) (Some (missing_before n j)) None

pub first : (largest n : ℕ) (part : Part) (j : Joiner) (i : Joins) (missing : Option ℕ) (u : Joins) → IsJoiner j i.joining → n < 2 ^ 32 → (n ≡ 0 → 0 < j.count → j.from + j.count < 2 ^ 32) → i.joining.largest ≡ largest → i.whole ≡ [] → i.gaps ≡ []
    → HasRoomFor largest n part j → IsJoined (piece n part.begins part.ends part.body) i missing u → First largest n part j missing u
first largest n part j i missing u h small no_wrap size whole gaps room told =
    let p = piece n part.begins part.ends part.body in
    let t = told (room_as n largest part j i.joining h small no_wrap size room) in
    let x : JoinsAs n part j [] i.joining = joins_as n part j [] i.joining h small no_wrap in
    let joining : u.joining ≡ joined i.joining p = ap (λ (y : Joins). y.joining) t.1 in
    record {
      joiner = rw joining x.joiner;
      reach = x.reach;
      whole = ap (λ (y : Joins). y.whole) t.1 ∙ (rw whole (sym x.made));
      size = ap (λ (y : Joining). y.largest) joining ∙ joined-largest i.joining p ∙ size;
      gaps = ap (λ (y : Joins). lost_in y.gaps) t.1 ∙ (rw gaps x.gaps);
      missing_is = t.0 ∙ x.missing;
    }

-- a joiner that holds nothing gives nothing up
pub given_none : (n : ℕ) (part : Part) → given_up n part empty_joiner ≡ []
given_none n part = by_begins part.begins
  where
    by_begins : (b : Bool) → cond {A = List Lost} (b || true) [] [] ≡ []
    by_begins true = refl
    by_begins false = refl

-- What is left

pub record Settled (c : Constants) (kind : Kind) (present : Bool) (now : ℕ) (m : Receiver) (j : Joiner) (p : Piece) (a : Accepted) (u : Joins) : Type 0 where
  pub kind_is : kind ≡ kind_of a
  pub places : HasPlacesFor c a
  pub known : Knows a (receiver_after law.Accepted kind present now p m)
  pub joiner : IsJoiner (joined_after law.Accepted kind present p m.held j).joiner u.joining
  pub reach : 0 < (joined_after law.Accepted kind present p m.held j).joiner.count → (joined_after law.Accepted kind present p m.held j).joiner.from + (joined_after law.Accepted kind present p m.held j).joiner.count ≤ reach_of a
  pub whole : u.whole ≡ (joined_after law.Accepted kind present p m.held j).whole
  pub size : u.joining.largest ≡ c.cube.largest
  pub gaps : lost_in u.gaps ≡ lost_after law.Accepted kind present p m.held j

-- on a datagram flow
settle_datagram : (c : Constants) (b : Bool) (now : ℕ) (m : Receiver) (j : Joiner) (p : Piece) (r s : Recent) (missing : Option ℕ) (u : Joins) → (b ≡ true → Knows (Datagram r) m) → IsCounted b p.number (Datagram r) (Datagram s) → First c.cube.largest p.number p.part (joiner_for b j) missing u → Settled c kinds.Datagram b now m j p (Datagram s) u
settle_datagram c true now m j p r s missing u known counted f = record {
  kind_is = refl;
  places = tt;
  known = recalls_added m.accepted p.number r s (known refl) counted;
  joiner = f.joiner;
  reach = λ some. (let e = f.reach some in let top = counted.top in omega arith);
  whole = f.whole;
  size = f.size;
  gaps = f.gaps ∙ sym (append-nil (given_up p.number p.part j));
}
settle_datagram c false now m j p r s missing u known counted f = record {
  kind_is = refl;
  places = tt;
  known = recalls_alone p.number s counted;
  joiner = f.joiner;
  reach = λ some. (let e = f.reach some in let top = counted.top in omega arith);
  whole = f.whole;
  size = f.size;
  gaps = f.gaps ∙ given_none p.number p.part;
}

-- on a loose flow
settle_loose : (c : Constants) (b : Bool) (now : ℕ) (m : Receiver) (j : Joiner) (p : Piece) (h k : ℕ) (missing : Option ℕ) (u : Joins) → (b ≡ true → Knows (Loose h) m × (h < p.number)) → k ≡ p.number → First c.cube.largest p.number p.part (joiner_for b j) missing u → Settled c kinds.Loose b now m j p (Loose k) u
settle_loose c true now m j p h k missing u known is f = record {
  kind_is = refl;
  places = tt;
  known = (let (top, above) = known refl in omega arith);
  joiner = f.joiner;
  reach = λ some. (let e = f.reach some in omega arith);
  whole = f.whole;
  size = f.size;
  gaps = f.gaps ∙ sym (append-nil (given_up p.number p.part j));
}
settle_loose c false now m j p h k missing u known is f = record {
  kind_is = refl;
  places = tt;
  known = omega arith;
  joiner = f.joiner;
  reach = λ some. (let e = f.reach some in omega arith);
  whole = f.whole;
  size = f.size;
  gaps = f.gaps ∙ given_none p.number p.part;
}

-- on a reliable flow: all that follow are joined, which are fewer than there are places
many_piece : (k : ℕ) (s : Shelved) (j : Joins) (t : Shelved) (u : Joins) → FollowsMany k s j t u → t.piece ≡ s.piece
many_piece zero s j t u f = ap (λ (x : Shelved). x.piece) f.0
many_piece (suc k) s j t u f = ap (λ (x : Shelved). x.piece) (f.3).shelf ∙ many_piece k s j (f.0) (f.1) f.2

stops : (bound largest places n k : ℕ) (held : List Piece) (o : Joined) (t : Shelved) (u : Joins) → Between bound largest held o t u → bound ≡ n + places → t.next ≡ n + 1 + k → ((holds t.places t.next ≡ false) ⊎ (k + 1 ≡ places)) → holds t.places t.next ≡ false
stops bound largest places n k held o t u b is next (inl e) = e
stops bound largest places n k held o t u b is next (inr e) = false_from_ne_true (holds t.places t.next) (λ yes. (let (low, high, fits) = b.within t.next yes in omega arith))

finish : (c : Constants) (held : List Piece) (n w : ℕ) (o : Joined) (list : List ℕ) (s : Shelved) (i : Joins) (t : Shelved) (u : Joins) → s.next ≡ n + 1 → length s.places ≡ w → HeldHaveRoom c.cube.largest (highest (numbers held)) (n + 1) held o → Between (n + w) c.cube.largest held o s i → FollowsAll s i t u → Done (n + w) c.cube.largest held (n + 1) w o list i t u
finish c held n w o list s i t u next count room b f =
    let a = arrive (n + w) c.cube.largest held (n + 1) w o list f.steps s i t u (omega arith) next count room b f.many in
    done (n + w) c.cube.largest held (n + 1) w o list f.steps i t u a (stops (n + w) c.cube.largest w n f.steps held a.joined t u a.between refl a.next (let P : ℕ → Type 0 = λ x. (holds t.places t.next ≡ false) ⊎ (f.steps + 1 ≡ x) in subst P count f.no_more))

settle_present : (c : Constants) (now : ℕ) (m : Receiver) (j : Joiner) (p : Piece) (s r t : Shelved) (missing : Option ℕ) (i u : Joins) → 1 ≤ c.cube.window → HasPlacesFor c (Reliable s) → Knows (Reliable s) m → p.number ≡ s.next → r ≡ record s { next = s.next + 1 } → HeldHaveRoom c.cube.largest (highest (numbers m.held)) (p.number + 1) m.held (joined_with p.number p.part (record { joiner = j; whole = [] }))
    → First c.cube.largest p.number p.part j missing i → FollowsAll r i t u → Settled c kinds.Reliable true now m j p (Reliable t) u
settle_present c now m j p s r t missing i u some places known is counted room f all =
    let n = p.number in
    let o = joined_with n p.part (record { joiner = j; whole = [] }) in
    let next : r.next ≡ s.next + 1 = ap (λ (x : Shelved). x.next) counted in
    let same : r.places ≡ s.places = ap (λ (x : Shelved). x.places) counted in
    let count : length r.places ≡ c.cube.window = ap (λ (x : List Place). length x) same ∙ places.0 in
    let b = begin_between m.held s r n c.cube.window c.cube.largest o i some places.0 known.1 is next same f.joiner f.reach f.whole f.size in
    let d = finish c m.held n c.cube.window o (n ∷ m.accepted) r i t u (omega arith) count room b all in
    let after = next_of (receiver_after law.Accepted kinds.Reliable true now p m) in
    let at : after ≡ t.next = (let e = d.next in let k = known.0 in omega arith) in
    let H : ℕ → Type 0 = λ x. Holds (from_on x m.held) t in
    record {
      kind_is = refl;
      places = (d.count, many_piece all.steps r i t u all.many ∙ ap (λ (x : Shelved). x.piece) counted ∙ places.1);
      known = (at, subst H (sym at) (end_holds (n + c.cube.window) c.cube.largest m.held (joined_held (highest (numbers m.held)) (n + 1) m.held o) t u d.between (let later = d.later in let size = d.count in omega arith) d.stop));
      joiner = d.between.joiner;
      reach = d.between.reach;
      whole = d.between.whole;
      size = d.between.size;
      gaps = d.gaps ∙ ap (λ (ls : List Lost). ls ++ lost_held (highest (numbers m.held)) (n + 1) m.held o) f.gaps;
    }

pub unused_not_held : (places : List Place) (k : ℕ) → 1 ≤ length places → All IsUnused places → holds places k ≡ false
unused_not_held places k some h = ap (λ b. b && eqb (place_at places k).number k) (h (k % length places) no_place (mod_below k (length places) some))

settle_absent : (c : Constants) (now : ℕ) (m : Receiver) (j : Joiner) (p : Piece) (s r t : Shelved) (missing : Option ℕ) (i u : Joins) → 1 ≤ c.cube.window → HasPlacesFor c (Reliable s) → IsCounted false p.number (Reliable s) (Reliable r)
    → First c.cube.largest p.number p.part empty_joiner missing i → FollowsAll r i t u → Settled c kinds.Reliable false now m j p (Reliable t) u
settle_absent c now m j p s r t missing i u some places counted f all =
    let n = p.number in
    let o = joined_with n p.part (record { joiner = empty_joiner; whole = [] }) in
    let (next, same_piece, same_count, unused) = counted in
    let count : length r.places ≡ c.cube.window = counted.2 ∙ places.0 in
    let none = λ (k : ℕ). unused_not_held r.places k (omega arith) counted.3 in
    let b : Between (n + c.cube.window) c.cube.largest [] o r i = record {
      some = omega arith;
      same = λ k le. sym (none k);
      parts = λ k there. absurd (false≢true (sym (none k) ∙ there));
      within = λ k there. absurd (false≢true (sym (none k) ∙ there));
      joiner = f.joiner;
      reach = λ x. (let e = f.reach x in omega arith);
      whole = f.whole;
      size = f.size;
    } in
    let d = finish c [] n c.cube.window o [] r i t u (counted.0) count tt b all in
    record {
      kind_is = refl;
      places = (d.count, many_piece all.steps r i t u all.many ∙ counted.1 ∙ places.1);
      known = ((let e = d.next in omega arith), end_holds (n + c.cube.window) c.cube.largest [] o t u d.between (let later = d.later in let size = d.count in omega arith) d.stop);
      joiner = d.between.joiner;
      reach = d.between.reach;
      whole = d.between.whole;
      size = d.between.size;
      gaps = d.gaps ∙ append-nil (lost_in i.gaps) ∙ f.gaps ∙ given_none n p.part;
    }

-- Of any kind

-- a piece that is accepted where state stands
abbrev pub IsNext : Accepted → ℕ → Type 0
IsNext (Datagram r) n = r.top < n + 4096
IsNext (Loose h) n = h < n
IsNext (Reliable s) n = n ≡ s.next

pub settle : (c : Constants) (b : Bool) (now : ℕ) (m : Receiver) (j : Joiner) (p : Piece) (a a1 a2 : Accepted) (missing : Option ℕ) (i u : Joins) → 1 ≤ c.cube.window → HasPlacesFor c a → (b ≡ true → Knows a m × IsNext a p.number) → IsCounted b p.number a a1 → Follows a1 i a2 u → First c.cube.largest p.number p.part (joiner_for b j) missing i
    → AllHaveRoom c.cube.largest law.Accepted (kind_of a) b p m.held j → Settled c (kind_of a) b now m j p a2 u
settle c b now m j p (Datagram r) (Datagram s) (Datagram t) missing i u some places known counted follows f room =
    let T : Recent → Type 0 = λ x. Settled c kinds.Datagram b now m j p (Datagram x) u in
    let U : Joins → Type 0 = λ x. Settled c kinds.Datagram b now m j p (Datagram s) x in
    subst T (sym follows.0) (subst U (sym follows.1) (settle_datagram c b now m j p r s missing i (λ e. (known e).0) counted f))
settle c b now m j p (Datagram r) (Datagram s) (Loose t) missing i u some places known counted follows f room = absurd follows
settle c b now m j p (Datagram r) (Datagram s) (Reliable t) missing i u some places known counted follows f room = absurd follows
settle c true now m j p (Datagram r) (Loose s) a2 missing i u some places known counted follows f room = absurd counted
settle c false now m j p (Datagram r) (Loose s) a2 missing i u some places known counted follows f room = absurd counted
settle c true now m j p (Datagram r) (Reliable s) a2 missing i u some places known counted follows f room = absurd counted
settle c false now m j p (Datagram r) (Reliable s) a2 missing i u some places known counted follows f room = absurd counted
settle c true now m j p (Loose r) (Datagram s) a2 missing i u some places known counted follows f room = absurd counted
settle c false now m j p (Loose r) (Datagram s) a2 missing i u some places known counted follows f room = absurd counted
settle c b now m j p (Loose r) (Loose s) (Datagram t) missing i u some places known counted follows f room = absurd follows
settle c b now m j p (Loose r) (Loose s) (Loose t) missing i u some places known counted follows f room =
    let T : ℕ → Type 0 = λ x. Settled c kinds.Loose b now m j p (Loose x) u in
    let U : Joins → Type 0 = λ x. Settled c kinds.Loose b now m j p (Loose s) x in
    let is : s ≡ p.number = counted_loose b p.number r s counted in
    subst T (sym follows.0) (subst U (sym follows.1) (settle_loose c b now m j p r s missing i known is f))
  where
    counted_loose : (b : Bool) (n r s : ℕ) → IsCounted b n (Loose r) (Loose s) → s ≡ n
    counted_loose true n r s e = e
    counted_loose false n r s e = e
settle c b now m j p (Loose r) (Loose s) (Reliable t) missing i u some places known counted follows f room = absurd follows
settle c true now m j p (Loose r) (Reliable s) a2 missing i u some places known counted follows f room = absurd counted
settle c false now m j p (Loose r) (Reliable s) a2 missing i u some places known counted follows f room = absurd counted
settle c true now m j p (Reliable r) (Datagram s) a2 missing i u some places known counted follows f room = absurd counted
settle c false now m j p (Reliable r) (Datagram s) a2 missing i u some places known counted follows f room = absurd counted
settle c true now m j p (Reliable r) (Loose s) a2 missing i u some places known counted follows f room = absurd counted
settle c false now m j p (Reliable r) (Loose s) a2 missing i u some places known counted follows f room = absurd counted
settle c b now m j p (Reliable r) (Reliable s) (Datagram t) missing i u some places known counted follows f room = absurd follows
settle c b now m j p (Reliable r) (Reliable s) (Loose t) missing i u some places known counted follows f room = absurd follows
settle c true now m j p (Reliable r) (Reliable s) (Reliable t) missing i u some places known counted follows f room =
    (let (knows, next) = known refl in settle_present c now m j p r s t missing i u some places (known refl).0 (known refl).1 counted (room.1) f follows)
settle c false now m j p (Reliable r) (Reliable s) (Reliable t) missing i u some places known counted follows f room =
    settle_absent c now m j p r s t missing i u some places counted f follows
