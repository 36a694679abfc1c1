-- What the ends below count for an IPC process, as one of them changes and as the rank below goes on.
use Rattle.std.proofs.Common.{◌≡◌, ℕ, zero, suc, ◌+◌, Bool, true, false, cond, List, [], ◌∷◌, get_or, length, slice_get, Some, None, Option, refl, sym, ◌∙◌, ap, subst, arith, inl}
use Rattle.std.specs.Prelude.{find, position, sum_by}
use Rattle.std.specs.List.{position_or_len}
use Rattle.std.specs.Str.{bytes_eq}
use Rattle.std.proofs.lemmas.Bool.{lt-ltb}
use Rattle.std.proofs.lemmas.List.Folds.{find_at}
use Rattle.std.proofs.lemmas.List.Sums.{sum_by_more, sum_by_push}
use Rattle.std.proofs.lemmas.Option.{get_or_from_slice_get, slice_get_within}
use Rattle.std.proofs.lemmas.Slice.Eq.{bytes_eq-Decides}
use Rattle.rina_base.specs.declared.number.Port.{Port}
use Rattle.rina_iface.specs.declared.ends.End.{End}
use Rattle.rina_iface.specs.Ends.{has_port, with_passed, with_sent}
use Rattle.rina_iface.specs.Journal.{AreKept, At}
use Rattle.rina_iface.specs.Later.{IsLater, IsLaterEnd}
use Rattle.rina_iface.specs.Seen.{Fac, Seen, Stands, end_of, with_end, with_fac}
use Rattle.rina_iface.proofs.Found.{end_of_stands, stands_there}
use Rattle.rina_law.specs.declared.entry.Entry.{Entry}
use Rattle.rina_pci.specs.declared.widths.Widths.{Widths}
use Rattle.rina_dif_law.specs.Accounted.{over_ends, sent_with, share, taken_with}
use Rattle.rina_data.specs.Hops.{Hop, opened}
use Rattle.rina_dif_law.specs.Cloud.{IsMine}
use Rattle.rina_data.specs.Configs.{Config}
use Rattle.rina_dif_law.specs.Lifting.{IsLifted}
use Rattle.rina_dif_law.proofs.Ends.{end_at, same_some}
use Rattle.rina_data.proofs.Finding.{there as there_is}
use Rattle.rina_dif_law.proofs.Totals.{sum_lists, sum_set}

-- An end's share

pub share_own : (name : List ℕ) (count : End → ℕ) (e : End) → e.app ≡ name → share name count e ≡ count e
share_own name count e is = ap (λ (b : Bool). cond b (count e) 0) ((bytes_eq-Decides e.app name).1 is)

pub share_other : (name : List ℕ) (count : End → ℕ) (e : End) → (e.app ≡ name → ⊥) → share name count e ≡ 0
share_other name count e other = go (bytes_eq e.app name) refl
  where
    go : (b : Bool) → bytes_eq e.app name ≡ b → cond b (count e) 0 ≡ 0
    go true is = absurd (other ((bytes_eq-Decides e.app name).0 is))
    go false is = refl

-- One end changes

pub ends_set : (name : List ℕ) (count : End → ℕ) (s : Seen) (port : Port) (f : Fac) (i : ℕ) (e e' : End) → Stands s port f i e → over_ends name count (with_fac s port.fac (with_end f i e')) + share name count e ≡ over_ends name count s + share name count e'
ends_set name count s port f i e e' st =
    let sums : Fac → ℕ = λ g. sum_by (share name count) g.ends in
    let outer = sum_set sums s.facs port.fac f (with_end f i e') st.facility in
    let inner = sum_set (share name count) f.ends i e e' st.is in
    let a : ℕ = sums f in
    let b : ℕ = sums (with_end f i e') in
    let outer' : over_ends name count (with_fac s port.fac (with_end f i e')) + a ≡ over_ends name count s + b = outer in
    let inner' : b + share name count e ≡ a + share name count e' = inner in
    omega (arith, outer', inner')

-- the end of another application
pub ends_other : (name : List ℕ) (count : End → ℕ) (s : Seen) (port : Port) (f : Fac) (i : ℕ) (e e' : End) → Stands s port f i e → e'.app ≡ e.app → (e.app ≡ name → ⊥) → over_ends name count (with_fac s port.fac (with_end f i e')) ≡ over_ends name count s
ends_other name count s port f i e e' st app other =
    let all = ends_set name count s port f i e e' st in
    let old = share_other name count e other in
    let new = share_other name count e' (λ is. other (sym app ∙ is)) in
    omega (arith, all, old, new)

-- an own one
pub ends_own : (name : List ℕ) (count : End → ℕ) (s : Seen) (port : Port) (f : Fac) (i : ℕ) (e e' : End) → Stands s port f i e → e'.app ≡ e.app → e.app ≡ name → over_ends name count (with_fac s port.fac (with_end f i e')) + count e ≡ over_ends name count s + count e'
ends_own name count s port f i e e' st app own =
    let all = ends_set name count s port f i e e' st in
    let old = share_own name count e own in
    let new = share_own name count e' (app ∙ own) in
    omega (arith, all, old, new)

-- one that counts the same
pub ends_same : (name : List ℕ) (count : End → ℕ) (s : Seen) (port : Port) (f : Fac) (i : ℕ) (e e' : End) → Stands s port f i e → e'.app ≡ e.app → count e' ≡ count e → over_ends name count (with_fac s port.fac (with_end f i e')) ≡ over_ends name count s
ends_same name count s port f i e e' st app same =
    let all = ends_set name count s port f i e e' st in
    let shares : share name count e' ≡ share name count e = ap (λ (a : List ℕ). cond (bytes_eq a name) (count e') 0) app ∙ ap (λ (n : ℕ). cond (bytes_eq e.app name) n 0) same in
    omega (arith, all, shares)

-- Entries

-- how much one entry is
abbrev pub entry_with : (Option Hop → Bool) → Widths → Entry → ℕ
entry_with test w x = cond (test (opened w x.bytes)) 1 0

pub sent_more : (test : Option Hop → Bool) (w : Widths) (e : End) (x : Entry) → sent_with test w (with_sent e x) ≡ sent_with test w e + entry_with test w x
sent_more test w e x = sum_by_push (entry_with test w) e.sent x

pub passed_more : (test : Option Hop → Bool) (w : Widths) (e : End) (x : Entry) → slice_get e.got e.taken ≡ Some x → taken_with test w (with_passed e) ≡ taken_with test w e + entry_with test w x
passed_more test w e x at =
    let within = slice_get_within e.got e.taken x at in
    let is : get_or e.got e.taken x ≡ x = get_or_from_slice_get e.got e.taken x x at in
    sum_by_more (entry_with test w) e.got e.taken x within ∙ ap (λ (y : Entry). taken_with test w e + entry_with test w y) is

-- ---- the rank below goes on without the DIF

find_only : {X : Type 0} (p : X → Bool) (xs : List X) (k : ℕ) (x : X) → slice_get xs k ≡ Some x → p x ≡ true → ((j : ℕ) (y : X) → slice_get xs j ≡ Some y → p y ≡ true → j ≡ k) → find p xs ≡ Some x
find_only p [] k x h t only = cc
find_only p (y ∷ xs) zero x h t only = let is : y ≡ x = cc in rw (is, t) refl
find_only p (y ∷ xs) (suc k) x h t only = elim (p y) as (λ v. p y ≡ v → cond v (Some y) (find p xs) ≡ Some x) [
  | true ↦ λ v. absurd (omega (arith, only zero y refl v))
  | false ↦ λ v. find_only p xs k x h t (λ j z g s. let o : suc j ≡ suc k = only (suc j) z g s in omega (arith, o))
] refl

-- the place of the one that passes
pub position_only : {X : Type 0} (p : X → Bool) (xs : List X) (k : ℕ) (x : X) → slice_get xs k ≡ Some x → p x ≡ true → ((j : ℕ) (y : X) → slice_get xs j ≡ Some y → p y ≡ true → j ≡ k) → position p xs ≡ Some k
position_only p xs k x h t only =
    let n : ℕ = position_or_len p xs in
    let at : slice_get xs n ≡ Some x = sym (find_at p xs) ∙ find_only p xs k x h t only in
    let within = slice_get_within xs n x at in
    let place : position p xs ≡ Some n = rw (lt-ltb n (length xs) within) refl in
    place ∙ ap (λ (m : ℕ). Some m) (only n x at t)

port_of : (port : Port) (e : End) → has_port port e ≡ true → e.port ≡ port
port_of port e h = grind arith

has_own : (e : End) → has_port e.port e ≡ true
has_own e = grind arith

-- an end of before stands at its port, as it does later
stands_before : (old new : Seen) (n : ℕ) (f : Fac) (i : ℕ) (e : End) → IsLater old new → AreKept new → slice_get old.facs n ≡ Some f → At f.ends i e → Stands old e.port f i e
stands_before old new n f i e later kept facility at =
    let g = later.facs n f facility in
    let ports = kept.ports n g.0 g.1 in
    let k = g.2.ends i e at in
    let own : e.port.fac ≡ n = ap (λ (p : Port). p.fac) (sym k.2.port) ∙ ports.own i k.0 k.1 in
    record {
      facility = ap (slice_get old.facs) own ∙ facility;
      place = position_only (has_port e.port) f.ends i e at (has_own e) (λ j a there t.
          let l = g.2.ends j a there in
          ports.apart j i l.0 k.0 l.1 k.1 (l.2.port ∙ port_of e.port a t ∙ sym k.2.port));
      is = at;
    }

-- an end of a member counts what it did, and one that is new counts nothing
pub record CountsOn (g : Config) (old new : Seen) (count : End → ℕ) : Type 0 where
  pub stays : (e e' : End) → end_of old e.port ≡ Some e → IsMine g.members e.app → e'.sent ≡ e.sent → e'.taken ≡ e.taken → IsLaterEnd old.now new.now e e' → count e' ≡ count e
  pub fresh : (e' : End) → e'.sent ≡ [] → e'.taken ≡ 0 → count e' ≡ 0

none_some : {X : Type 0} (o : Option X) (x : X) → o ≡ Some x → o ≡ None → ⊥
none_some o x h g = cc

module _ (g : Config) (old new : Seen) (name : List ℕ) (count : End → ℕ) (kept : AreKept new) (lifted : IsLifted g old new) (mine : IsMine g.members name) (counts : CountsOn g old new count) where
  share_stays : (n : ℕ) (f f' : Fac) (i : ℕ) (e e' : End) → slice_get old.facs n ≡ Some f → slice_get new.facs n ≡ Some f' → At f.ends i e → At f'.ends i e' → IsLaterEnd old.now new.now e e' → share name count e' ≡ share name count e
  share_stays n f f' i e e' is is' at at' end = go (bytes_eq e.app name) refl
    where
      here : end_of old e.port ≡ Some e
      here = end_of_stands old e.port f i e (stands_before old new n f i e lifted.later kept is at)

      there : end_of new e'.port ≡ Some e'
      there = end_of_stands new e'.port f' i e' (stands_there new n f' i e' is' (kept.ports n f' is') at')

      there_too : end_of new e.port ≡ Some e'
      there_too = ap (end_of new) (sym end.port) ∙ there

      go : (b : Bool) → bytes_eq e.app name ≡ b → share name count e' ≡ share name count e
      go true t =
          let own : e.app ≡ name = (bytes_eq-Decides e.app name).0 t in
          let my : IsMine g.members e.app = subst (IsMine g.members) (sym own) mine in
          let my' : IsMine g.members e'.app = subst (IsMine g.members) (sym end.app) my in
          let same = lifted.stays e.port e e' here there_too my' in
          share_own name count e' (end.app ∙ own) ∙ counts.stays e e' here my same.0 same.1 end ∙ sym (share_own name count e own)
      go false t =
          let other : e.app ≡ name → ⊥ = λ is. absurd (false_true (sym t ∙ (bytes_eq-Decides e.app name).1 is)) in
          share_other name count e' (λ is. other (sym end.app ∙ is)) ∙ sym (share_other name count e other)
        where
          false_true : false ≡ true → ⊥
          false_true h = cc

  -- an end that is new
  unborn : (n : ℕ) (f f' : Fac) (i : ℕ) (e' : End) → slice_get old.facs n ≡ Some f → slice_get new.facs n ≡ Some f' → At f'.ends i e' → slice_get f.ends i ≡ None → end_of old e'.port ≡ None
  unborn n f f' i e' is is' at' past = elim (end_of old e'.port) as (λ o. end_of old e'.port ≡ o → o ≡ None) [
    | None ↦ λ was. refl
    | Some e ↦ λ was.
        let there = end_at old e'.port e was in
        let ports = kept.ports n f' is' in
        let fac : e'.port.fac ≡ n = ports.own i e' at' in
        let f_is : there.facility ≡ f = same_some (slice_get old.facs n) there.facility f (subst (λ (m : ℕ). slice_get old.facs m ≡ Some there.facility) fac there.is_facility) is in
        let stood : At f.ends there.place e = subst (λ (h : Fac). At h.ends there.place e) f_is there.stands in
        let g = lifted.later.facs n f is in
        let k = g.2.ends there.place e stood in
        let g_is : g.0 ≡ f' = same_some (slice_get new.facs n) g.0 f' g.1 is' in
        let k_at : At f'.ends there.place k.0 = subst (λ (h : Fac). At h.ends there.place k.0) g_is k.1 in
        let here = ports.apart there.place i k.0 e' k_at at' (k.2.port ∙ there.port_is) in
        absurd (none_some (slice_get f.ends i) e (subst (λ (m : ℕ). slice_get f.ends m ≡ Some e) here stood) past)
  ] refl

  share_fresh : (n : ℕ) (f f' : Fac) (i : ℕ) (e' : End) → slice_get old.facs n ≡ Some f → slice_get new.facs n ≡ Some f' → At f'.ends i e' → slice_get f.ends i ≡ None → share name count e' ≡ 0
  share_fresh n f f' i e' is is' at' past = go (bytes_eq e'.app name) refl
    where
      none : end_of old e'.port ≡ None
      none = unborn n f f' i e' is is' at' past

      there : end_of new e'.port ≡ Some e'
      there = end_of_stands new e'.port f' i e' (stands_there new n f' i e' is' (kept.ports n f' is') at')

      go : (b : Bool) → bytes_eq e'.app name ≡ b → cond b (count e') 0 ≡ 0
      go true t =
          let my : IsMine g.members e'.app = subst (IsMine g.members) (sym ((bytes_eq-Decides e'.app name).0 t)) mine in
          let fresh = lifted.fresh e'.port e' there none (inl my) in
          counts.fresh e' fresh.0 (lifted.unread e'.port e' there none my)
      go false t = refl

  pub ends_lifted : over_ends name count new ≡ over_ends name count old
  ends_lifted = sum_lists (λ (f : Fac). sum_by (share name count) f.ends) (λ (f : Fac). sum_by (share name count) f.ends) old.facs new.facs
      (λ n f is.
      let h = lifted.later.facs n f is in
      let inner : sum_by (share name count) h.0.ends ≡ sum_by (share name count) f.ends = sum_lists (share name count) (share name count) f.ends h.0.ends
      (λ i e at. let k = h.2.ends i e at in (k.0, k.1, share_stays n f h.0 i e k.0 is h.1 at k.1 k.2))
      (λ i e' at' past. share_fresh n f h.0 i e' is h.1 at' past) in
      (h.0, h.1, inner))
      (λ n f' is' none.
      let within = slice_get_within new.facs n f' is' in
      let number = lifted.later.number in
      let there = there_is old.facs n (omega arith) in
      absurd (none_some (slice_get old.facs n) there.0 there.1 none))
