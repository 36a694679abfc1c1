-- What a step leaves of the shelf that it asks.
use Rattle.std.proofs.Common.{◌≡◌, ◌∙◌, ℕ, List, get_or, map, option_map, Option, Some, None, Result, Ok, Err, refl, sym, ap}
use Rattle.std.specs.Str.{bytes_eq}
use Rattle.std.proofs.Math.Seq.{map-set_same}
use Rattle.std.proofs.lemmas.List.Quantifiers.{position-Some}
use Rattle.std.proofs.lemmas.Slice.Eq.{bytes_eq-Decides}
use Rattle.rina_iface.specs.declared.error.SendError.{SendError}
use Rattle.rina_policy.specs.declared.count.Count.{Count}
use Rattle.rina_policy.specs.declared.policy.Head.{Head}
use Rattle.rina_policy.specs.Count.{counted}
use Rattle.rina_policy.specs.Slots.{Slot, asked, count_of, place_of, put_at, slot}
use Rattle.rina_queue.specs.declared.queue.Queue.{Queue}
use Rattle.rina_queue.specs.declared.queue.Queued.{Queued}
use Rattle.rina_data.specs.declared.step.OutStep.{OutStep}
use Rattle.rina_data.specs.declared.step.OutStep.TheVariants as out
use Rattle.rina_data.specs.declared.step.StepError.{StepError}
use Rattle.rina_data.specs.declared.step.StepError.TheVariants.{CountSpent, Memory, NoIpc, NoLink}
use Rattle.rina_data.specs.Process.{Process}
use Rattle.rina_data.specs.Leaving.{Asks, IsAsked}

abbrev names : List Slot → List (List ℕ)
names slots = map (λ (x : Slot). x.name) slots

put_names : (name : List ℕ) (live : Option Count) (slots : List Slot) (place : Option ℕ) → place_of name slots ≡ place → names (put_at place name live slots) ≡ names slots
put_names name live slots None h = refl
put_names name live slots (Some k) h =
    let there = position-Some (λ (s : Slot). bytes_eq s.name name) slots k (slot name live) h in
    map-set_same (λ (x : Slot). x.name) slots k (slot name live) (slot name live) (sym ((bytes_eq-Decides (get_or slots k (slot name live)).name name).0 there.1))

-- a policy that was asked keeps its name
pub names_asked : (name : List ℕ) (pick : ℕ) (slots : List Slot) → names (asked name pick slots) ≡ names slots
names_asked name pick slots = put_names name (option_map (λ c. counted c pick) (count_of name slots)) slots (place_of name slots) refl

once : (may : List Head → ℕ → Type 0) (held : Queued → SendError → Type 0) (policy : List ℕ) (queues : List Queue) (n : ℕ) (slots slots' : List Slot) (p : Process) (r : Result OutStep StepError) (p' : Process) → IsAsked may held policy queues n slots slots' p r p' → names slots' ≡ names slots
once may held policy queues n slots slots' p r p' a = ap names a.once ∙ names_asked policy a.pick slots

-- whatever a step answers, the shelf keeps its names
pub names_stay : (may : List Head → ℕ → Type 0) (held : Queued → SendError → Type 0) (policy : List ℕ) (queues : List Queue) (n : ℕ) (slots slots' : List Slot) (p : Process) (r : Result OutStep StepError) (p' : Process) → Asks (slots' ≡ slots) (IsAsked may held policy queues n slots slots' p r p') r → names slots' ≡ names slots
names_stay may held policy queues n slots slots' p (Ok out.Idle) p' a = ap names a
names_stay may held policy queues n slots slots' p (Ok (out.Sent key)) p' a = once may held policy queues n slots slots' p (Ok (out.Sent key)) p' a
names_stay may held policy queues n slots slots' p (Ok (out.Off key cause)) p' a = once may held policy queues n slots slots' p (Ok (out.Off key cause)) p' a
names_stay may held policy queues n slots slots' p (Ok (out.Held why)) p' a = once may held policy queues n slots slots' p (Ok (out.Held why)) p' a
names_stay may held policy queues n slots slots' p (Err NoLink) p' a = ap names a
names_stay may held policy queues n slots slots' p (Err (CountSpent need left)) p' a = absurd a
names_stay may held policy queues n slots slots' p (Err NoIpc) p' a = absurd a
names_stay may held policy queues n slots slots' p (Err Memory) p' a = once may held policy queues n slots slots' p (Err Memory) p' a
