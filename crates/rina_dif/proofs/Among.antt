-- At which of the links of an IPC process a management message is due.
use Rattle.std.proofs.Common.{◌≡◌, ◌∙◌, ◌↔◌, ℕ, ◌+◌, ◌<◌, ◌≤◌, ◌⊎◌, Bool, IsTrue, true, false, ltb-true, lt-ltb, nat_lt, List, [], ◌∷◌, length, slice_get, Option, Some, None, Result, Ok, Err, refl, sym, ap, subst, arith, inl, inr}
use Rattle.std.proofs.lemmas.Bool.{cases_lt, false≢true}
use Rattle.rina_base.specs.declared.memory.Memory.{Memory}
use Rattle.rina_iface.specs.Seen.{Seen}
use Rattle.rina_law.specs.Direction.{Direction}
use Rattle.rina_agent.specs.declared.message.Waiting.{Waiting}
use Rattle.rina_agent.specs.Agenda.{first_on}
use Rattle.rina_member.specs.declared.management.Management.{Management}
use Rattle.rina_data.specs.declared.process.IpcProcess.{IpcProcess}
use Rattle.rina_data.specs.Deciding.{process_of}
use Rattle.rina_data.specs.Process.{Process}
use Rattle.rina_data.proofs.Finding.{there}
use Rattle.rina_dif.specs.declared.dif.Dif.{Dif}
use Rattle.rina_dif.specs.Holding.{Holds, LinksStand}
use Rattle.rina_dif.specs.Managing.{AreBounded}
use Rattle.rina_dif.specs.Messaging.{IsMessageDue, OffersAmong, OffersAt}
use Rattle.rina_dif.specs.Shown.{seen_of}
use Rattle.rina_dif.proofs.Leaves.{shown_at}
use Rattle.rina_dif.proofs.Managed.{its_agent}

same_some : {X : Type 0} (o : Option X) (a b : X) → o ≡ Some a → o ≡ Some b → a ≡ b
same_some o a b h g = cc

-- Their numbers

-- the links of the IPC process of a place have the first numbers
numbers_of : (d : Dif) (lines : List Direction) (below : Seen) (i : ℕ) (p : IpcProcess) → Holds d lines below → i < length d.settings.members → slice_get d.processes i ≡ Some p → AreBounded p.links
numbers_of d lines below i p h lt is =
    let m = there d.settings.members i lt in
    let g = its_agent d.settings.members d.managements i m.0 h.managed.aligned m.1 in
    (h.managed.each i m.0 p g.0 m.1 is g.1).bounded

-- a message is due at one of them
due_within : (d : Dif) (lines : List Direction) (below : Seen) (links : List Direction) (i : ℕ) (p : IpcProcess) (place number : ℕ) → Holds d lines below → i < length d.settings.members → slice_get d.processes i ≡ Some p → IsMessageDue d below links i place number → number < 16
due_within d lines below links i p place number h lt is due =
    let here = due.open_end.here in
    let live = here.live.live in
    let same = same_some (slice_get (seen_of d).processes here.channel.member) live.process (process_of p) live.is_process (ap (slice_get (seen_of d).processes) here.member ∙ shown_at d i p is) in
    let stands : slice_get p.links live.place ≡ Some live.link = ap (λ (z : Process). slice_get z.links live.place) (sym same) ∙ live.stands in
    let bounded = numbers_of d lines below i p h lt is live.place live.link stands in
    let number_is = here.number_is in
    let live_is = live.number_is in
    omega (arith, bounded, number_is, live_is)

-- none is due at the links of lesser numbers, and nothing has changed
pub record NoneBefore (d d' : Dif) (below : Seen) (i n : ℕ) : Type 0 where
  pub same : d' ≡ d
  pub none : (links : LinksStand d below) (place number : ℕ) → number < n → IsMessageDue d below links.lines i place number → ⊥

pub none_before : (d : Dif) (below : Seen) (i : ℕ) → NoneBefore d d below i 0
none_before d below i = record { same = refl; none = λ links place number lt due. absurd (omega (arith, lt)) }

-- nor at this one
pub none_here : (d d' d'' : Dif) (lines : List Direction) (below : Seen) (i n : ℕ) → Holds d lines below → NoneBefore d d' below i n → ((lines : List Direction) → Holds d' lines below → OffersAt d' lines below i n (Ok false) d'') → NoneBefore d d'' below i (n + 1)
none_here d d' d'' lines below i n h before offers =
    let at = offers lines (subst (λ (z : Dif). Holds z lines below) (sym before.same) h) in
    record {
      same = at.1 ∙ before.same;
      none = λ links place its lt due. elim (cases_lt its n) [
        | inl less ↦ before.none links place its less due
        | inr ge ↦
            let same : its ≡ n = omega (arith, lt, ge) in
            none_of d d' lines below i n before.same offers h links place (subst (λ (k : ℕ). IsMessageDue d below links.lines i place k) same due)
      ];
    }
  where
    none_of : (d d' : Dif) (lines : List Direction) (below : Seen) (i n : ℕ) → d' ≡ d → ((lines : List Direction) → Holds d' lines below → OffersAt d' lines below i n (Ok false) d'') → Holds d lines below → (links : LinksStand d below) (place : ℕ) → IsMessageDue d below links.lines i place n → ⊥
    none_of d d' lines below i n same offers h = subst (λ (z : Dif). (links : LinksStand z below) (place : ℕ) → IsMessageDue z below links.lines i place n → ⊥) same (offers lines (subst (λ (z : Dif). Holds z lines below) (sym same) h)).0

-- Where no message waits

-- whether one does is told by how many do
pub waits_told : (d : Dif) (i : ℕ) (m : Management) (count : ℕ) → slice_get d.managements i ≡ Some m → count ≡ length m.agent.agenda → (g : Management) → slice_get d.managements i ≡ Some g → IsTrue (nat_lt 0 count) ↔ (0 < length g.agent.agenda)
waits_told d i m count is counts g its =
    let same : length m.agent.agenda ≡ length g.agent.agenda = ap (λ (z : Management). length z.agent.agenda) (same_some (slice_get d.managements i) m g is its) in
    (λ e. (let lt = ltb-true 0 count e in omega (arith, lt, counts, same)), λ lt. lt-ltb 0 count (omega (arith, lt, counts, same)))

some_waits : (number : ℕ) (agenda : List Waiting) (w : Waiting) → first_on number agenda ≡ Some w → 0 < length agenda
some_waits number [] w is = absurd cc
some_waits number (x ∷ agenda) w is = omega arith

-- none waits at the member, so none is due at its links
pub none_waits : (d : Dif) (below : Seen) (links : List Direction) (i place number : ℕ) (told : Bool) → ((m : Management) → slice_get d.managements i ≡ Some m → IsTrue told ↔ (0 < length m.agent.agenda)) → told ≡ false → IsMessageDue d below links i place number → ⊥
none_waits d below links i place number told tells silent due =
    let f = due.first in
    false≢true (sym silent ∙ (tells f.management f.is_management).1 (some_waits number f.management.agent.agenda f.waiting f.first))

-- The answer

pub none_among : (d d' : Dif) (lines : List Direction) (below : Seen) (i n : ℕ) (p : IpcProcess) → Holds d lines below → i < length d.settings.members → slice_get d.processes i ≡ Some p → 16 ≤ n → NoneBefore d d' below i n → OffersAmong d lines below i (Ok None) d'
none_among d d' lines below i n p h lt is most before = (
  λ links place number due. (let within = due_within d lines below links.lines i p place number h lt is due in before.none links place number (omega (arith, most, within)) due),
  before.same,
)

pub one_among : (d d' d'' : Dif) (lines : List Direction) (below : Seen) (i n : ℕ) → Holds d lines below → NoneBefore d d' below i n → ((lines : List Direction) → Holds d' lines below → OffersAt d' lines below i n (Ok true) d'') → OffersAmong d lines below i (Ok (Some n)) d''
one_among d d' d'' lines below i n h before offers =
    let at : OffersAt d lines below i n (Ok true) d'' = subst (λ (z : Dif). OffersAt z lines below i n (Ok true) d'') before.same (offers lines (subst (λ (z : Dif). Holds z lines below) (sym before.same) h)) in (
      λ links. (let x = at.0 links in record { place = x.0; offers = x.1; least = λ other its due. least links other its due (cases_lt its n) }),
      at.1,
    )
  where
    least : (links : LinksStand d below) (other its : ℕ) → IsMessageDue d below links.lines i other its → (its < n) ⊎ (n ≤ its) → n ≤ its
    least links other its due (inl lt) = absurd (before.none links other its lt due)
    least links other its due (inr le) = le

pub err_among : (d d' d'' : Dif) (lines : List Direction) (below : Seen) (i n : ℕ) (r : Result (Option ℕ) Memory) (e e' : Memory) → r ≡ Err e → Holds d lines below → NoneBefore d d' below i n → ((lines : List Direction) → Holds d' lines below → OffersAt d' lines below i n (Err e') d'') → OffersAmong d lines below i r d''
err_among d d' d'' lines below i n r e e' is h before offers = subst (λ (z : Result (Option ℕ) Memory). OffersAmong d lines below i z d'') (sym is) (offers lines (subst (λ (z : Dif). Holds z lines below) (sym before.same) h) ∙ before.same)
