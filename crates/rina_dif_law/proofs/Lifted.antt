-- The account goes on as the rank below does, and it begins.
use Rattle.std.proofs.Common.{◌≡◌, ℕ, ◌-◌, ◌≤◌, Bool, List, ◌++◌, length, map, slice_get, take, Some, None, Option, option_map, refl, sym, ◌∙◌, ap, subst, arith}
use Rattle.std.proofs.lemmas.List.{take-append-le}
use Rattle.std.proofs.lemmas.Option.{slice_get-map}
use Rattle.rina_base.specs.declared.number.Num.{Num}
use Rattle.rina_base.specs.declared.number.Port.{Port}
use Rattle.rina_iface.specs.declared.ends.End.{End}
use Rattle.rina_iface.specs.Journal.{AreKept}
use Rattle.rina_iface.specs.Pass.{IsPassed as PassesBelow}
use Rattle.rina_iface.specs.Seen.{Seen, end_of}
use Rattle.rina_iface.specs.Send.{IsSent}
use Rattle.rina_iface.proofs.Found.{end_of_stands}
use Rattle.rina_law.specs.declared.entry.Entry.{Entry}
use Rattle.rina_law.specs.Direction.{Direction}
use Rattle.rina_pci.specs.declared.widths.Widths.{Widths}
use Rattle.rina_dif_law.specs.Accounted.{IsAccounted, Resends, bears, bears_on, counts_of, entries_with, held_in, over_ends, sent_with, taken_with}
use Rattle.rina_data.specs.Hops.{Hop}
use Rattle.rina_dif_law.specs.Cloud.{IsMine}
use Rattle.rina_data.specs.Configs.{Config, Member, piece_size}
use Rattle.rina_dif_law.specs.Dif.{DifSeen}
use Rattle.rina_dif_law.specs.Lifting.{IsLifted, ticked}
use Rattle.rina_dif_law.specs.Passing.{IsTicked}
use Rattle.rina_dif_law.proofs.Accounting.{resends_on}
use Rattle.rina_dif_law.proofs.Balancing.{accounted_on, moved_same}
use Rattle.rina_dif_law.proofs.Relaying.{within_kept}
use Rattle.rina_dif_law.proofs.Shares.{CountsOn, ends_lifted, ends_other}
use Rattle.rina_dif_law.proofs.Tallies.{HoldSame, kept_all_same}

-- ---- the rank below goes on without the DIF

sent_on : (g : Config) (old new : Seen) (test : Option Hop → Bool) (w : Widths) → CountsOn g old new (sent_with test w)
sent_on g old new test w = record {
  stays = λ e e' here mine sent taken later. ap (entries_with test w) sent;
  fresh = λ e' sent taken. ap (entries_with test w) sent;
}

taken_on : (g : Config) (old new : Seen) (test : Option Hop → Bool) (w : Widths) → ((port : Port) (e : End) → end_of old port ≡ Some e → IsMine g.members e.app → e.taken ≤ length e.got) → CountsOn g old new (taken_with test w)
taken_on g old new test w passed = record {
  stays = λ e e' here mine sent taken later.
      let within = passed e.port e here mine in
      let got : e'.got ≡ e.got ++ later.got.more = later.got.is in
      ap (λ (n : ℕ). entries_with test w (take n e'.got)) taken ∙ ap (λ (xs : List Entry). entries_with test w (take e.taken xs)) got ∙ ap (entries_with test w) (take-append-le e.taken e.got later.got.more within);
  fresh = λ e' sent taken. ap (λ (n : ℕ). entries_with test w (take n e'.got)) taken;
}

is_mine : (d : DifSeen) (i : ℕ) (m : Member) → slice_get d.config.members i ≡ Some m → IsMine d.config.members m.name
is_mine d i m is = record { addr = m.addr; member = record { place = i; member = m; stands = is; addr_is = refl; name_is = refl } }

-- neither the IPC processes nor what they made and keep change, and below no count does
still_accounted : (d : DifSeen) (clock : ℕ) (lines lines' : List Direction) (below below' : Seen) → IsAccounted d lines below → ((port : Port) (e : End) → end_of below' port ≡ Some e → IsMine d.config.members e.app → e.taken ≤ length e.got) → ((n : ℕ) → HoldSame lines lines' n)
    → ((name : List ℕ) (test : Option Hop → Bool) → IsMine d.config.members name → (over_ends name (taken_with test d.config.widths) below' ≡ over_ends name (taken_with test d.config.widths) below) × (over_ends name (sent_with test d.config.widths) below' ≡ over_ends name (sent_with test d.config.widths) below))
    → IsAccounted (record d { clock = clock }) lines' below'
still_accounted d clock lines lines' below below' a passed hold same =
    let d' : DifSeen = record d { clock = clock } in
    accounted_on d d' lines lines' below below' a passed a.apart (λ i m p k is.
    let x = same m.name (bears k) (is_mine d i m is.is_member) in
    let y = same m.name (bears_on m.addr k) (is_mine d i m is.is_member) in
    let out = x.1 in
    record {
      process = p;
      is_process = record { is_member = is.is_member; is_process = is.is_process };
      resends = resends_on d d' m.addr k.scep refl (λ n ids z. z);
      moved = moved_same m.addr k (Resends d' m.addr k.scep) (counts_of d lines below m p k) (counts_of d' lines' below' m p k) (record {
        taken = x.0;
        relayed = y.0;
        gone = omega (arith, out);
        made = refl;
        kept = kept_all_same (piece_size d.config) d.conns lines lines' m.addr k d.ends (hold k.seq);
      });
    })

lifted_same : (d : DifSeen) (lines : List Direction) (below below' : Seen) → AreKept below' → IsAccounted d lines below → IsLifted d.config below below' → (name : List ℕ) (test : Option Hop → Bool) → IsMine d.config.members name → (over_ends name (taken_with test d.config.widths) below' ≡ over_ends name (taken_with test d.config.widths) below) × (over_ends name (sent_with test d.config.widths) below' ≡ over_ends name (sent_with test d.config.widths) below)
lifted_same d lines below below' kept a lifted name test mine = (
  ends_lifted d.config below below' name (taken_with test d.config.widths) kept lifted mine (taken_on d.config below below' test d.config.widths a.passed),
  ends_lifted d.config below below' name (sent_with test d.config.widths) kept lifted mine (sent_on d.config below below' test d.config.widths),
)

pub beside_accounted : (d : DifSeen) (lines : List Direction) (below below' : Seen) → AreKept below' → IsAccounted d lines below → IsLifted d.config below below' → IsAccounted d lines below'
beside_accounted d lines below below' kept a lifted = still_accounted d d.clock lines lines below below' a (λ port e h mine. within_kept below' kept port e h) (λ n i. refl) (lifted_same d lines below below' kept a lifted)

ticked_hold : (ticks : ℕ) (lines : List Direction) (n : ℕ) → HoldSame lines (map (ticked ticks) lines) n
ticked_hold ticks lines n i = ap (λ (o : Option Direction). held_in o n) (slice_get-map (ticked ticks) lines i) ∙ go (slice_get lines i)
  where
    go : (o : Option Direction) → held_in (option_map (ticked ticks) o) n ≡ held_in o n
    go None = refl
    go (Some line) = refl

pub time_accounted : (d : DifSeen) (lines : List Direction) (below below' : Seen) (d' : DifSeen) (lines' : List Direction) → AreKept below' → IsAccounted d lines below → IsLifted d.config below below' → IsTicked d lines below'.now d' lines' → IsAccounted d' lines' below'
time_accounted d lines below below' d' lines' kept a lifted s =
    let ticks : ℕ = below'.now - d.clock in
    subst (λ (z : DifSeen). IsAccounted z lines' below') (sym s.new_is) (subst (λ (ls : List Direction). IsAccounted (record d { clock = below'.now }) ls below') (sym s.lines_are)
    (still_accounted d below'.now lines (map (ticked ticks) lines) below below' a (λ port e h mine. within_kept below' kept port e h) (λ n. ticked_hold ticks lines n) (lifted_same d lines below below' kept a lifted)))

-- an application that is no IPC process of the DIF sends or takes

other_name : (d : DifSeen) (below : Seen) (port : Port) (e : End) (name : List ℕ) → ((a : End) → end_of below port ≡ Some a → IsMine d.config.members a.app → ⊥) → end_of below port ≡ Some e → IsMine d.config.members name → e.app ≡ name → ⊥
other_name d below port e name others here mine same = others e here (subst (IsMine d.config.members) (sym same) mine)

pub sends_of_others_account : (d : DifSeen) (lines : List Direction) (below : Seen) (port : Port) (bytes : List ℕ) (num : Num) (below' : Seen) → AreKept below' → IsAccounted d lines below → ((e : End) → end_of below port ≡ Some e → IsMine d.config.members e.app → ⊥) → IsSent below port bytes num below' → IsAccounted d lines below'
sends_of_others_account d lines below port bytes num below' kept a others s =
    let here = end_of_stands below port s.facility s.place s.end s.stands in
    still_accounted d d.clock lines lines below below' a (λ p e h mine. within_kept below' kept p e h) (λ n i. refl) (λ name test mine.
    let other = other_name d below port s.end name others here mine in (
      ap (over_ends name (taken_with test d.config.widths)) s.new_is ∙ ends_other name (taken_with test d.config.widths) below port s.facility s.place s.end _ s.stands refl other,
      ap (over_ends name (sent_with test d.config.widths)) s.new_is ∙ ends_other name (sent_with test d.config.widths) below port s.facility s.place s.end _ s.stands refl other,
    ))

pub passes_of_others_account : (d : DifSeen) (lines : List Direction) (below : Seen) (port : Port) (below' : Seen) → AreKept below' → IsAccounted d lines below → ((e : End) → end_of below port ≡ Some e → IsMine d.config.members e.app → ⊥) → PassesBelow below port below' → IsAccounted d lines below'
passes_of_others_account d lines below port below' kept a others s =
    let here = end_of_stands below port s.facility s.place s.end s.stands in
    still_accounted d d.clock lines lines below below' a (λ p e h mine. within_kept below' kept p e h) (λ n i. refl) (λ name test mine.
    let other = other_name d below port s.end name others here mine in (
      ap (over_ends name (taken_with test d.config.widths)) s.new_is ∙ ends_other name (taken_with test d.config.widths) below port s.facility s.place s.end _ s.stands refl other,
      ap (over_ends name (sent_with test d.config.widths)) s.new_is ∙ ends_other name (sent_with test d.config.widths) below port s.facility s.place s.end _ s.stands refl other,
    ))
