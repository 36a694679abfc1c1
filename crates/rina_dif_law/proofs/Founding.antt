-- The account begins, and goes on as flows are made and as they fail.
use Rattle.std.proofs.Common.{◌≡◌, ◌≢◌, ℕ, zero, suc, ◌+◌, ◌<◌, ◌≤◌, ◌&&◌, cond, not, Bool, true, false, eqb, ltb, List, [], ◌∷◌, ◌++◌, length, length-append, slice_get, take, Some, None, Option, option_and_then, refl, sym, ◌∙◌, ap, subst, arith, inl, inr, ◌⊎◌}
use Rattle.std.specs.Prelude.{position, sum_by}
use Rattle.std.specs.List.{position_or_len}
use Rattle.std.specs.Str.{bytes_eq}
use Rattle.std.proofs.lemmas.Bool.{cases_lt, eq-eqb, le-ltb, lt-ltb}
use Rattle.std.proofs.lemmas.Bool.Decides.{eqb_tells}
use Rattle.std.proofs.lemmas.List.Folds.{prefix_len-append}
use Rattle.std.proofs.lemmas.List.Sums.{prefix_len-le-length, sum_by-cons}
use Rattle.std.proofs.lemmas.Slice.Eq.{bytes_eq-Decides}
use Rattle.rina_account.specs.Account.{Counts, off_count}
use Rattle.rina_account.specs.declared.ledger.Off.{Off}
use Rattle.rina_base.specs.declared.number.Key.{Key}
use Rattle.rina_base.specs.declared.number.Port.{Port}
use Rattle.rina_iface.specs.declared.ask.Fixed.{Fixed}
use Rattle.rina_iface.specs.declared.ends.End.{End}
use Rattle.rina_iface.specs.declared.state.Fail.TheVariants.{Below}
use Rattle.rina_iface.specs.declared.state.PortState.{PortState}
use Rattle.rina_iface.specs.declared.state.PortState.TheVariants.{Allocated, Closed, Failed, Pending, Refused}
use Rattle.rina_iface.specs.Bind.{with_name_once}
use Rattle.rina_iface.specs.Journal.{AreKept, At, IsPartner}
use Rattle.rina_iface.specs.Seen.{Fac, Seen}
use Rattle.rina_iface.proofs.Found.{end_of_stands, stands_there}
use Rattle.rina_iface.proofs.Grown.{still_at}
use Rattle.rina_law.specs.declared.entry.Entry.{Entry}
use Rattle.rina_law.specs.Direction.{Direction}
use Rattle.rina_pci.specs.declared.widths.Widths.{Widths}
use Rattle.rina_queue.specs.declared.queue.Queued.{Queued}
use Rattle.rina_dif_law.specs.Accounted.{IsAccounted, IsBalanced, Resends, bears, bears_on, counts_of, entries_with, held_by, held_in, inbound_of, is_other, journal_numbers, kept_by, made_by, over_ends, queued_with, sent_with, share, taken_with, total}
use Rattle.rina_dif_law.specs.AccountLaws.{IsUnused}
use Rattle.rina_dif_law.specs.Binding.{IsBound, asker_next, far_next, ids_next}
use Rattle.rina_data.specs.Hops.{Hop}
use Rattle.rina_dif_law.specs.Cloud.{IsMine}
use Rattle.rina_dif_law.specs.Counting.{held_numbers, times}
use Rattle.rina_ids.specs.Members.{with_drawn}
use Rattle.rina_dif_law.specs.Dif.{DifSeen}
use Rattle.rina_data.specs.Configs.{Member, piece_size}
use Rattle.rina_data.specs.Process.{Process}
use Rattle.rina_dif_law.specs.Ids.{Ids, flipped}
use Rattle.rina_dif_law.specs.Losing.{FailAll}
use Rattle.rina_dif_law.specs.Numbered.{IsNumbered}
use Rattle.rina_dif_law.specs.Standing.{IsStanding}
use Rattle.rina_dif_law.specs.Start.{IsFresh, IsStart}
use Rattle.rina_dif_law.proofs.Accounting.{resends_on}
use Rattle.rina_dif_law.proofs.Balancing.{accounted_on, moved_same}
use Rattle.rina_dif_law.proofs.Binding.{addrs_apart, bound_stands}
use Rattle.rina_dif_law.proofs.Pairs.{two_at}
use Rattle.rina_data.proofs.Finding.{there}
use Rattle.rina_dif_law.proofs.Finishing.{ended_stands}
use Rattle.rina_dif_law.proofs.Linkless.{first_stay}
use Rattle.rina_dif_law.proofs.Numbering.{ended_numbered}
use Rattle.rina_dif_law.proofs.Own.{partner_back}
use Rattle.rina_dif_law.proofs.Starting.{no_end}
use Rattle.rina_dif_law.proofs.Receiving.{ended_accounted}
use Rattle.rina_dif_law.proofs.Tallies.{inbound_at, kept_in, made_in}
use Rattle.rina_dif_law.proofs.Totals.{total_same}

-- ---- sums of nothing

sum_none : {X : Type 0} (f : X → ℕ) (xs : List X) → ((i : ℕ) (x : X) → slice_get xs i ≡ Some x → f x ≡ 0) → sum_by f xs ≡ 0
sum_none f [] none = refl
sum_none f (x ∷ xs) none =
    let here = none zero x refl in
    let rest = sum_none f xs (λ i y h. none (suc i) y h) in
    let all = sum_by-cons f x xs in
    omega arith

total_none : (n : ℕ) (f : ℕ → ℕ) → ((i : ℕ) → f i ≡ 0) → total n f ≡ 0
total_none zero f none = refl
total_none (suc n) f none = (let here = none n in let rest = total_none n f none in omega arith)

held_nothing : (state : PortState) (count : ℕ) → count ≡ 0 → held_by state count ≡ 0
held_nothing Allocated count none = none
held_nothing Pending count none = refl
held_nothing (Refused why) count none = refl
held_nothing (Failed fail) count none = refl
held_nothing Closed count none = refl

pub either_none : (b : Bool) (n : ℕ) → n ≡ 0 → cond b n 0 ≡ 0
either_none true n none = none
either_none false n none = refl

-- an end that sent nothing made nothing
pub nothing_made : (size addr : ℕ) (k : Key) (e : End) (o : Option Ids) → e.sent ≡ [] → made_by size addr k (Some e) o ≡ 0
nothing_made size addr k e None none = refl
nothing_made size addr k e (Some c) none = either_none _ (times k.seq (journal_numbers size e.sent)) (ap (λ (xs : List Entry). times k.seq (journal_numbers size xs)) none)

-- one that got nothing, in a direction that holds nothing, keeps nothing
pub nothing_kept : (size : ℕ) (ends : List End) (lines : List Direction) (addr : ℕ) (k : Key) (e : End) (o : Option Ids) → e.got ≡ [] → held_in (inbound_of ends lines e) k.seq ≡ 0 → kept_by size ends lines addr k (Some e) o ≡ 0
nothing_kept size ends lines addr k e None none held = refl
nothing_kept size ends lines addr k e (Some c) none held =
    let got : times k.seq (journal_numbers size e.got) ≡ 0 = ap (λ (xs : List Entry). times k.seq (journal_numbers size xs)) none in
    let by = held_nothing e.state (held_in (inbound_of ends lines e) k.seq) held in
    either_none _ (times k.seq (journal_numbers size e.got) + held_by e.state (held_in (inbound_of ends lines e) k.seq)) (omega (arith, got, by))

-- ---- the start

module _ (d : DifSeen) (lines : List Direction) (below : Seen) (kept : AreKept below) (s : IsStart d lines below) (u : IsUnused d below) where
  none_below : (i : ℕ) (m : Member) (count : End → ℕ) → slice_get d.config.members i ≡ Some m → ((e : End) → e.sent ≡ [] → e.taken ≡ 0 → count e ≡ 0) → over_ends m.name count below ≡ 0
  none_below i m count is zero_count = sum_none (λ (f : Fac). sum_by (share m.name count) f.ends) below.facs (λ n f at. sum_none (share m.name count) f.ends (λ j e there. go n f at j e there (bytes_eq e.app m.name) refl))
    where
      go : (n : ℕ) (f : Fac) → slice_get below.facs n ≡ Some f → (j : ℕ) (e : End) → At f.ends j e → (b : Bool) → bytes_eq e.app m.name ≡ b → cond b (count e) 0 ≡ 0
      go n f at j e there true t =
          let app : e.app ≡ m.name = (bytes_eq-Decides e.app m.name).0 t in
          let mine : IsMine d.config.members e.app = record { addr = m.addr; member = record { place = i; member = m; stands = is; addr_is = refl; name_is = sym app } } in
          let here = end_of_stands below e.port f j e (stands_there below n f j e at (kept.ports n f at) there) in
          zero_count e (s.silent e.port e here mine) (u.unread e.port e here mine)
      go n f at j e there false t = refl

  none_taken : (test : Option Hop → Bool) (w : Widths) (e : End) → e.sent ≡ [] → e.taken ≡ 0 → taken_with test w e ≡ 0
  none_taken test w e sent taken = ap (λ (n : ℕ). entries_with test w (take n e.got)) taken

  none_sent : (test : Option Hop → Bool) (w : Widths) (e : End) → e.sent ≡ [] → e.taken ≡ 0 → sent_with test w e ≡ 0
  none_sent test w e sent taken = ap (entries_with test w) sent

  none_queued : (i : ℕ) (p : Process) (k : Key) → slice_get d.processes i ≡ Some p → sum_by (queued_with k) p.queues ≡ 0
  none_queued i p k is = sum_none (queued_with k) p.queues (λ j q at. empty q.items (λ n item there. s.idle i q.link item (record { process = p; is_process = is; place = j; queue = q; is_queue = at; link = refl; at = n; is_item = there })))
    where
      empty : (items : List Queued) → ((n : ℕ) (item : Queued) → slice_get items n ≡ Some item → ⊥) → queued_with k (record { link = 0; qos = 0; items = items }) ≡ 0
      empty [] none = refl
      empty (x ∷ xs) none = absurd (none zero x refl)

  none_made : (addr : ℕ) (k : Key) (j : ℕ) → made_in (piece_size d.config) d.conns addr k d.ends j ≡ 0
  none_made addr k j = go (slice_get d.ends j) refl
    where
      go : (o : Option End) → slice_get d.ends j ≡ o → made_by (piece_size d.config) addr k o (slice_get d.conns j) ≡ 0
      go None is = refl
      go (Some e) is = absurd (no_end d.ends j e s.no_ends is)

  none_kept : (addr : ℕ) (k : Key) (j : ℕ) → kept_in (piece_size d.config) d.conns lines addr k d.ends j ≡ 0
  none_kept addr k j = go (slice_get d.ends j) refl
    where
      go : (o : Option End) → slice_get d.ends j ≡ o → kept_by (piece_size d.config) d.ends lines addr k o (slice_get d.conns j) ≡ 0
      go None is = refl
      go (Some e) is = absurd (no_end d.ends j e s.no_ends is)

  pub start_accounted : IsAccounted d lines below
  start_accounted = record {
    passed = λ port e h mine. (let none = u.unread port e h mine in omega arith);
    apart = λ i ids is. absurd (no_conn d.conns i ids s.no_conns is);
    balanced = λ i m p k is.
        let w = d.config.widths in
        let taken = none_below i m (taken_with (bears k) w) is.is_member (none_taken (bears k) w) in
        let relayed = none_below i m (taken_with (bears_on m.addr k) w) is.is_member (none_taken (bears_on m.addr k) w) in
        let sent = none_below i m (sent_with (bears k) w) is.is_member (none_sent (bears k) w) in
        let queued = none_queued i p k is.is_process in
        let off : off_count p.ledger k ≡ 0 = ap (λ (ls : List Off). off_count ls k) (u.clean i p is.is_process) in
        let made = total_none (length d.ends) (made_in (piece_size d.config) d.conns m.addr k d.ends) (none_made m.addr k) in
        let keeps = total_none (length d.ends) (kept_in (piece_size d.config) d.conns lines m.addr k d.ends) (none_kept m.addr k) in
        balanced_zero m.addr k (Resends d m.addr k.scep) (counts_of d lines below m p k) taken relayed sent queued off made keeps;
  }
    where
      no_conn : (conns : List Ids) (i : ℕ) (ids : Ids) → conns ≡ [] → slice_get conns i ≡ Some ids → ⊥
      no_conn [] i ids none is = cc
      no_conn (c ∷ cs) i ids none is = absurd (cc)

      balanced_zero : (addr : ℕ) (k : Key) (r : Type 0) (n : Counts) → n.taken ≡ 0 → n.relayed ≡ 0 → n.sent ≡ 0 → n.queued ≡ 0 → n.off ≡ 0 → n.made ≡ 0 → n.kept ≡ 0 → IsBalanced addr k r n
      balanced_zero addr k r n a b c d e f g = record {
        foreign = λ x y z. omega arith;
        own = λ x y. omega arith;
        once = λ x y z. omega arith;
        foreign_ack = λ x y z. ((omega arith), (omega arith));
        own_ack = λ x y. omega arith;
      }

-- ---- flows fail

-- what the ending of an end needs, and keeps
record IsKeptOn (lines : List Direction) (below : Seen) (d : DifSeen) : Type 0 where
  standing : IsStanding d lines below
  numbered : IsNumbered d below
  accounted : IsAccounted d lines below

pub failed_accounted : (d : DifSeen) (lines : List Direction) (below : Seen) (node : ℕ) (port : Port) (d' : DifSeen) → IsStanding d lines below → IsNumbered d below → IsAccounted d lines below → FailAll lines node port d d' → IsAccounted d' lines below
failed_accounted d lines below node port d' st n a f =
    let start : IsKeptOn lines below d = record { standing = st; numbered = n; accounted = a } in
    (first_stay (IsKeptOn lines below) lines node (Below port) (λ at x y h e. record {
      standing = ended_stands x lines below at (Failed (Below port)) y h.standing h.numbered e;
      numbered = ended_numbered x lines below at (Failed (Below port)) y h.numbered e;
      accounted = ended_accounted x lines below at (Failed (Below port)) y h.standing h.numbered h.accounted e;
    }) (length d.ends) d d' start f).accounted

-- ---- both ends of a flow are made

-- where a test of a longer list holds first
record IsFoundBefore {X : Type 0} (p : X → Bool) (xs ys : List X) : Type 0 where
  place : ℕ
  short : position p xs ≡ Some place
  long : position p (xs ++ ys) ≡ Some place
  within : place < length xs

record IsFoundBehind {X : Type 0} (p : X → Bool) (xs ys : List X) : Type 0 where
  short : position p xs ≡ None
  long : (i : ℕ) → position p (xs ++ ys) ≡ Some i → length xs ≤ i

some_place : (b : Bool) (n i : ℕ) → cond b (Some n) None ≡ Some i → n ≡ i
some_place true n i h = cc
some_place false n i h = cc

longer : {X : Type 0} (p : X → Bool) (xs ys : List X) → IsFoundBefore p xs ys ⊎ IsFoundBehind p xs ys
longer p xs ys =
    let n : ℕ = position_or_len p xs in
    let m : ℕ = position_or_len p (xs ++ ys) in
    let all : length (xs ++ ys) ≡ length xs + length ys = length-append xs ys in
    let append : m ≡ cond (eqb n (length xs)) (length xs + position_or_len p ys) n = prefix_len-append (λ x. not (p x)) xs ys in
    elim (cases_lt n (length xs)) [
      | inl low ↦
          let other : eqb n (length xs) ≡ false = unequal n (length xs) low in
          let same : m ≡ n = append ∙ ap (λ (b : Bool). cond b (length xs + position_or_len p ys) n) other in
          let a : ltb n (length xs) ≡ true = lt-ltb n (length xs) low in
          let b : ltb m (length (xs ++ ys)) ≡ true = lt-ltb m (length (xs ++ ys)) (omega arith) in
          inl (record {
            place = n;
            short = ap (λ (z : Bool). cond z (Some n) None) a;
            long = ap (λ (z : Bool). cond z (Some m) None) b ∙ ap (λ (z : ℕ). Some z) same;
            within = low;
          })
      | inr high ↦
          let most : n ≤ length xs = prefix_len-le-length (λ x. not (p x)) xs in
          let is : eqb n (length xs) ≡ true = eq-eqb n (length xs) (omega arith) in
          let past : m ≡ length xs + position_or_len p ys = append ∙ ap (λ (b : Bool). cond b (length xs + position_or_len p ys) n) is in
          inr (record {
            short = ap (λ (z : Bool). cond z (Some n) None) (le-ltb n (length xs) high);
            long = λ i h. (let at = some_place (ltb m (length (xs ++ ys))) m i h in omega arith);
          })
    ]
  where
    unequal : (a b : ℕ) → a < b → eqb a b ≡ false
    unequal a b low = elim (eqb_tells a b) [
      | inl t ↦ absurd (omega (arith, t.1))
      | inr f ↦ f.0
    ]

past_at : {X : Type 0} (xs ys : List X) (i : ℕ) (x : X) → length xs ≤ i → slice_get (xs ++ ys) i ≡ Some x → (k : ℕ) × (slice_get ys k ≡ Some x)
past_at [] ys i x past h = (i, h)
past_at (z ∷ xs) ys zero x past h = absurd (omega arith)
past_at (z ∷ xs) ys (suc i) x past h = past_at xs ys i x (omega arith) h

first_new : {X : Type 0} (xs : List X) (y z : X) → slice_get (xs ++ y ∷ z ∷ []) (length xs) ≡ Some y
first_new [] y z = refl
first_new (x ∷ xs) y z = first_new xs y z

second_new : {X : Type 0} (xs : List X) (y z : X) → slice_get (xs ++ y ∷ z ∷ []) (suc (length xs)) ≡ Some z
second_new [] y z = refl
second_new (x ∷ xs) y z = second_new xs y z

pub old_at : {X : Type 0} (xs ys : List X) (i : ℕ) → i < length xs → slice_get (xs ++ ys) i ≡ slice_get xs i
old_at xs ys i low = (let t = there xs i low in still_at xs ys i t.0 t.1 ∙ sym t.1)

-- directions that hold nothing are added
held_more : (ends more : List End) (lines news : List Direction) (e : End) (n : ℕ) → length lines ≡ length ends → ((i : ℕ) (l : Direction) → slice_get news i ≡ Some l → times n (held_numbers l) ≡ 0) → held_in (inbound_of (ends ++ more) (lines ++ news) e) n ≡ held_in (inbound_of ends lines e) n
held_more ends more lines news e n alike none = elim (longer (is_other e) ends more) [
  | inl t ↦
      let within = t.within in
      let old : held_in (inbound_of ends lines e) n ≡ held_in (slice_get lines t.place) n = ap (λ (o : Option ℕ). held_in (option_and_then (λ i. slice_get lines i) o) n) t.short in
      let new : held_in (inbound_of (ends ++ more) (lines ++ news) e) n ≡ held_in (slice_get (lines ++ news) t.place) n = ap (λ (o : Option ℕ). held_in (option_and_then (λ i. slice_get (lines ++ news) i) o) n) t.long in
      new ∙ ap (λ (o : Option Direction). held_in o n) (old_at lines news t.place (omega arith)) ∙ sym old
  | inr t ↦
      let old : held_in (inbound_of ends lines e) n ≡ 0 = ap (λ (o : Option ℕ). held_in (option_and_then (λ i. slice_get lines i) o) n) t.short in
      behind (position (is_other e) (ends ++ more)) (λ i h. t.long i h) ∙ sym old
]
  where
    at : (i : ℕ) (o : Option Direction) → slice_get (lines ++ news) i ≡ o → length ends ≤ i → held_in o n ≡ 0
    at i None is past = refl
    at i (Some l) is past = (let k = past_at lines news i l (omega arith) is in none k.0 l k.1)

    behind : (o : Option ℕ) → ((i : ℕ) → o ≡ Some i → length ends ≤ i) → held_in (option_and_then (λ i. slice_get (lines ++ news) i) o) n ≡ 0
    behind None past = refl
    behind (Some i) past = at i (slice_get (lines ++ news) i) refl (past i refl)

-- two ends are added that count nothing
total_more : {X : Type 0} (xs : List X) (y z : X) (f g : ℕ → ℕ) → ((i : ℕ) → i < length xs → g i ≡ f i) → g (length xs) ≡ 0 → g (suc (length xs)) ≡ 0 → total (length (xs ++ y ∷ z ∷ [])) g ≡ total (length xs) f
total_more xs y z f g same a b =
    let all = length-append xs (y ∷ z ∷ []) in
    let number : length (xs ++ y ∷ z ∷ []) ≡ suc (suc (length xs)) = omega arith in
    let old = total_same (length xs) g f same in
    let sums : total (length (xs ++ y ∷ z ∷ [])) g ≡ total (length xs) g + g (length xs) + g (suc (length xs)) = ap (λ (m : ℕ). total m g) number in
    omega (arith, sums, old, a, b)

pub fresh_empty : (d : DifSeen) (ids : Ids) (line : Direction) (n : ℕ) → IsFresh d ids line → times n (held_numbers line) ≡ 0
fresh_empty d ids line n fresh = ap (λ (l : Direction). times n (held_numbers l)) fresh.is

-- what an end that was there kept stays the same
pub kept_longer : (size : ℕ) (ends more : List End) (lines news : List Direction) (addr : ℕ) (k : Key) (o : Option End) (i : Option Ids) → length lines ≡ length ends → ((i : ℕ) (l : Direction) → slice_get news i ≡ Some l → times k.seq (held_numbers l) ≡ 0) → kept_by size (ends ++ more) (lines ++ news) addr k o i ≡ kept_by size ends lines addr k o i
kept_longer size ends more lines news addr k None i alike none = refl
kept_longer size ends more lines news addr k (Some e) None alike none = refl
kept_longer size ends more lines news addr k (Some e) (Some c) alike none = ap (λ (n : ℕ). cond ((eqb c.own addr && eqb c.far k.src) && eqb c.dcep k.scep) (times k.seq (journal_numbers size e.got) + held_by e.state n) 0) (held_more ends more lines news e k.seq alike none)

pub bound_accounted : (d : DifSeen) (lines : List Direction) (below : Seen) (fixed : Fixed) (d' : DifSeen) (lines' : List Direction) → IsStanding d lines below → IsNumbered d below → IsAccounted d lines below → IsBound d lines fixed d' lines' → IsAccounted d' lines' below
bound_accounted d lines below fixed d' lines' st numbered a s =
    let ids : Ids = ids_next fixed s.of_a s.of_b s.scep s.dcep in
    let asker : End = asker_next d fixed s.of_a in
    let far : End = far_next d fixed s.of_a in
    let ends' : List End = d.ends ++ asker ∷ far ∷ [] in
    let two : List Ids = ids ∷ flipped ids ∷ [] in
    let conns' : List Ids = d.conns ++ two in
    let lines'' : List Direction = lines ++ s.line ∷ s.back ∷ [] in
    let new : DifSeen = record d { ends = ends'; conns = conns'; ids = with_drawn s.at_b.place s.draws_b.ids s.dcep (with_drawn s.at_a.place s.draws_a.ids s.scep d.ids); names = with_name_once d.names fixed.b fixed.b_app } in
    let size : ℕ = piece_size d.config in
    let last : ℕ = length d.ends in
    let standing : IsStanding new lines' below = subst (λ (z : DifSeen). IsStanding z lines' below) s.new_is (bound_stands d lines below fixed d' lines' st numbered s) in
    let apart : s.of_a.addr ≢ s.of_b.addr = addrs_apart d lines below st numbered fixed s.of_a s.of_b s.at_a s.at_b s.apart s.scep s.dcep s.draws_a s.draws_b in
    let line_a : slice_get lines'' last ≡ Some s.line = ap (slice_get lines'') (sym st.own.lines_alike) ∙ first_new lines s.line s.back in
    let line_b : slice_get lines'' (suc last) ≡ Some s.back = ap (λ (n : ℕ). slice_get lines'' (suc n)) (sym st.own.lines_alike) ∙ second_new lines s.line s.back in
    let news : (n : ℕ) (i : ℕ) (l : Direction) → slice_get (s.line ∷ s.back ∷ []) i ≡ Some l → times n (held_numbers l) ≡ 0 = λ n i l at. new_held s.line s.back n (fresh_empty d ids s.line n s.fresh) (fresh_empty d (flipped ids) s.back n s.fresh_back) i l at in
    let partners : IsPartner asker far = record { same_flow = refl; other_role = λ is. cc } in
    let held_a : (n : ℕ) → held_in (inbound_of ends' lines'' asker) n ≡ 0 = λ n. ap (λ (o : Option Direction). held_in o n) (inbound_at d.clock ends' standing.journal (suc last) far asker (second_new d.ends asker far) (partner_back asker far partners) lines'' s.back line_b) ∙ fresh_empty d (flipped ids) s.back n s.fresh_back in
    let held_b : (n : ℕ) → held_in (inbound_of ends' lines'' far) n ≡ 0 = λ n. ap (λ (o : Option Direction). held_in o n) (inbound_at d.clock ends' standing.journal last asker far (first_new d.ends asker far) partners lines'' s.line line_a) ∙ fresh_empty d ids s.line n s.fresh in
    subst (λ (z : DifSeen). IsAccounted z lines' below) (sym s.new_is) (subst (λ (ls : List Direction). IsAccounted new ls below) (sym s.lines_are)
    (accounted_on d new lines lines'' below below a a.passed
    (λ i c at. elim (two_at d.conns ids (flipped ids) i c at) [
      | inl o ↦ a.apart i c o
      | inr (inl t) ↦ λ same. apart (ap (λ (z : Ids). z.own) (sym t.1) ∙ same ∙ ap (λ (z : Ids). z.far) t.1)
      | inr (inr t) ↦ λ same. apart (sym (ap (λ (z : Ids). z.own) (sym t.1) ∙ same ∙ ap (λ (z : Ids). z.far) t.1))
    ])
    (λ i m p k is. record {
      process = p;
      is_process = record { is_member = is.is_member; is_process = is.is_process };
      resends = resends_on d new m.addr k.scep refl (λ n c x. still_at d.conns two n c x);
      moved = moved_same m.addr k (Resends new m.addr k.scep) (counts_of d lines below m p k) (counts_of new lines'' below m p k) (record {
        taken = refl;
        relayed = refl;
        gone = refl;
        made = total_more d.ends asker far (made_in size d.conns m.addr k d.ends) (made_in size conns' m.addr k ends')
            (λ j low. ap (λ (o : Option End). made_by size m.addr k o (slice_get conns' j)) (old_at d.ends (asker ∷ far ∷ []) j low) ∙ ap (made_by size m.addr k (slice_get d.ends j)) (old_at d.conns two j (let x = st.own.alike in omega arith)))
            (ap (λ (o : Option End). made_by size m.addr k o (slice_get conns' last)) (first_new d.ends asker far) ∙ nothing_made size m.addr k asker (slice_get conns' last) refl)
            (ap (λ (o : Option End). made_by size m.addr k o (slice_get conns' (suc last))) (second_new d.ends asker far) ∙ nothing_made size m.addr k far (slice_get conns' (suc last)) refl);
        kept = total_more d.ends asker far (kept_in size d.conns lines m.addr k d.ends) (kept_in size conns' lines'' m.addr k ends')
            (λ j low. ap (λ (o : Option End). kept_by size ends' lines'' m.addr k o (slice_get conns' j)) (old_at d.ends (asker ∷ far ∷ []) j low) ∙ ap (kept_by size ends' lines'' m.addr k (slice_get d.ends j)) (old_at d.conns two j (let x = st.own.alike in omega arith))
            ∙ kept_longer size d.ends (asker ∷ far ∷ []) lines (s.line ∷ s.back ∷ []) m.addr k (slice_get d.ends j) (slice_get d.conns j) st.own.lines_alike (news k.seq))
            (ap (λ (o : Option End). kept_by size ends' lines'' m.addr k o (slice_get conns' last)) (first_new d.ends asker far) ∙ nothing_kept size ends' lines'' m.addr k asker (slice_get conns' last) refl (held_a k.seq))
            (ap (λ (o : Option End). kept_by size ends' lines'' m.addr k o (slice_get conns' (suc last))) (second_new d.ends asker far) ∙ nothing_kept size ends' lines'' m.addr k far (slice_get conns' (suc last)) refl (held_b k.seq));
      });
    })))
  where
    new_held : (line back : Direction) (n : ℕ) → times n (held_numbers line) ≡ 0 → times n (held_numbers back) ≡ 0 → (i : ℕ) (l : Direction) → slice_get (line ∷ back ∷ []) i ≡ Some l → times n (held_numbers l) ≡ 0
    new_held line back n a b zero l at = (let is : line ≡ l = cc in ap (λ (z : Direction). times n (held_numbers z)) (sym is) ∙ a)
    new_held line back n a b (suc zero) l at = (let is : back ≡ l = cc in ap (λ (z : Direction). times n (held_numbers z)) (sym is) ∙ b)
    new_held line back n a b (suc (suc i)) l at = cc
