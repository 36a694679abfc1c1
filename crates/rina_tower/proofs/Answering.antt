-- What is done where a shelf may answer any place.
use Rattle.std.proofs.Common.{◌≡◌, ℕ, List, Option, Some, None, Result, Ok, Err, inl, inr}
use Rattle.rina_base.specs.declared.number.Port.{Port}
use Rattle.rina_iface.specs.declared.error.SendError.{SendError}
use Rattle.rina_iface.specs.Seen.{Seen}
use Rattle.rina_policy.specs.declared.policy.Head.{Head}
use Rattle.rina_policy.specs.Slots.{Slot}
use Rattle.rina_queue.specs.declared.queue.Queue.{Queue}
use Rattle.rina_queue.specs.declared.queue.Queued.{Queued}
use Rattle.rina_data.specs.declared.process.IpcProcess.{IpcProcess}
use Rattle.rina_data.specs.declared.settings.Settings.{Settings}
use Rattle.rina_data.specs.declared.step.OutStep.{OutStep}
use Rattle.rina_data.specs.declared.step.OutStep.TheVariants as out
use Rattle.rina_data.specs.declared.step.StepError.{StepError}
use Rattle.rina_data.specs.declared.step.StepError.TheVariants.{CountSpent, Memory, NoIpc, NoLink}
use Rattle.rina_data.specs.Configs.{config_of}
use Rattle.rina_data.specs.Deciding.{process_of}
use Rattle.rina_data.specs.Process.{Process}
use Rattle.rina_data.specs.Leaving.{Asks, IsAsked}
use Rattle.rina_data.specs.Outgoing.{IsHeld}
use Rattle.rina_dif_law.specs.Sending.{home}
use Rattle.rina_dif.specs.declared.dif.Dif.{Dif}
use Rattle.rina_dif.specs.Steps.{AsksAt, AsksHome, AtHome}
use Rattle.rina_tower.specs.declared.tower.Tower.{Tower, Rank', Wires}
use Rattle.rina_tower.specs.Ranks.{seen_of}
use Rattle.rina_tower.specs.Refusals.{refuses_send}
use Rattle.rina_tower.specs.Rounds.{Anything}
use Rattle.rina_tower.specs.Steps.{OutStepsAtTop, OutSteps, SendsOne}
use Rattle.rina_tower.specs.Levels.{AtDif, AtRank}

asked_any : (may : List Head → ℕ → Type 0) (held : Queued → SendError → Type 0) (name policy : List ℕ) (who : ℕ) (queues : List Queue) (n : ℕ) (slots slots' : List Slot) (p : Process) (r : Result OutStep StepError) (p' : Process) → IsAsked may held policy queues n slots slots' p r p' → IsAsked (Anything name who) held policy queues n slots slots' p r p'
asked_any may held name policy who queues n slots slots' p r p' a = record { pick = a.pick; lawful = tt; once = a.once; dead = a.dead; item = a.item; served = a.served; dealt = a.dealt }

asks_any : (quiet asks asks' : Type 0) (r : Result OutStep StepError) → (asks → asks') → Asks quiet asks r → Asks quiet asks' r
asks_any quiet asks asks' (Ok out.Idle) f a = a
asks_any quiet asks asks' (Ok (out.Sent key)) f a = f a
asks_any quiet asks asks' (Ok (out.Off key cause)) f a = f a
asks_any quiet asks asks' (Ok (out.Held why)) f a = f a
asks_any quiet asks asks' (Err NoLink) f a = a
asks_any quiet asks asks' (Err (CountSpent need left)) f a = a
asks_any quiet asks asks' (Err NoIpc) f a = a
asks_any quiet asks asks' (Err Memory) f a = f a

at_any : (may : ℕ → List Head → ℕ → Type 0) (held : Process → Queued → SendError → Type 0) (name : List ℕ) (settings : Settings) (n at : ℕ) (slots slots' : List Slot) (old : List IpcProcess) (r : Result OutStep StepError) (new : List IpcProcess) → AsksAt may held settings n at slots slots' old r new → AsksAt (Anything name) held settings n at slots slots' old r new
at_any may held name settings n at slots slots' old r new a = λ member p p' x y z.
    asks_any (slots' ≡ slots) (IsAsked (may member.number) (held (process_of p)) settings.policy p.queues.queues.items n slots slots' (process_of p) r (process_of p')) (IsAsked (Anything name member.number) (held (process_of p)) settings.policy p.queues.queues.items n slots slots' (process_of p) r (process_of p')) r
    (asked_any (may member.number) (held (process_of p)) name settings.policy member.number p.queues.queues.items n slots slots' (process_of p) r (process_of p')) (a member p p' x y z)

home_any : (does does' : ℕ → Type 0) (refuses : Type 0) (o : Option ℕ) → ((i : ℕ) → does i → does' i) → AtHome o does refuses → AtHome o does' refuses
home_any does does' refuses (Some i) f a = f i a
home_any does does' refuses None f a = a

asks_home_any : (may : ℕ → List Head → ℕ → Type 0) (held : Process → Queued → SendError → Type 0) (name : List ℕ) (settings : Settings) (node n : ℕ) (slots slots' : List Slot) (old : List IpcProcess) (r : Result OutStep StepError) (new : List IpcProcess) → AsksHome may held settings node n slots slots' old r new → AsksHome (Anything name) held settings node n slots slots' old r new
asks_home_any may held name settings node n slots slots' old r new a =
    home_any (λ at. AsksAt may held settings n at slots slots' old r new) (λ at. AsksAt (Anything name) held settings n at slots slots' old r new) (slots' ≡ slots) (home node (config_of settings).members) (λ at. at_any may held name settings n at slots slots' old r new) a

sends_any : (refuses : Port → ℕ → Option SendError) (may : List ℕ → ℕ → List Head → ℕ → Type 0) (slots slots' : List Slot) (below : Seen) (node link : ℕ) (r : Result OutStep StepError) (below' : Seen) (d d' : Dif) → SendsOne refuses may slots slots' below node link r below' d d' → SendsOne refuses Anything slots slots' below node link r below' d d'
sends_any refuses may slots slots' below node link r below' d d' s = record {
  does = s.does;
  after = s.after;
  shelf = λ alive. asks_home_any (may d.settings.policy) (IsHeld refuses (config_of d.settings) d.clock below link) d.settings.policy d.settings node link slots slots' d.processes r d'.processes (s.shelf alive);
  notes = s.notes;
  rest = s.rest;
  leaves = s.leaves;
}

-- Walks

at_dif : (does does' : Dif → Dif → Type 0) (n : ℕ) (none : Type 0) (difs difs' : List Dif) → ((d d' : Dif) → does d d' → does' d d') → AtDif n does none difs difs' → AtDif n does' none difs difs'
at_dif does does' n none difs difs' f a = elim a [
  | inl h ↦ inl (record { dif = h.dif; dif' = h.dif'; is_dif = h.is_dif; done = f h.dif h.dif' h.done; new_is = h.new_is })
  | inr h ↦ inr h
]

pub at_rank : (r : ℕ) (does does' : Tower → Tower → Type 0) (none : Type 0) (t t' : Tower) → ((u u' : Tower) → does u u' → does' u u') → AtRank r does none t t' → AtRank r does' none t t'
at_rank r does does' none (Wires a) (Wires a') f x = elim x [ inl h ↦ inl (h.0, f (Wires a) (Wires a') h.1) | inr h ↦ inr h ]
at_rank r does does' none (Rank' p difs below) (Rank' p' difs' below') f x = elim x [
  | inl h ↦ inl (h.0, f (Rank' p difs below) (Rank' p' difs' below') h.1)
  | inr h ↦ inr (h.0, h.1, at_rank r does does' none below below' f h.2)
]
at_rank r does does' none (Wires a) (Rank' p' difs' below') f x = absurd x
at_rank r does does' none (Rank' p difs below) (Wires a') f x = absurd x

here_any : (may : List ℕ → ℕ → List Head → ℕ → Type 0) (slots slots' : List Slot) (dif node link : ℕ) (r : Result OutStep StepError) (t t' : Tower) → OutStepsAtTop may slots slots' dif node link r t t' → OutStepsAtTop Anything slots slots' dif node link r t t'
here_any may slots slots' dif node link r (Wires a) (Wires a') x = x
here_any may slots slots' dif node link r (Rank' p difs below) (Rank' p' difs' below') x =
    (at_dif (SendsOne (refuses_send below) may slots slots' (seen_of below) node link r (seen_of below')) (SendsOne (refuses_send below) Anything slots slots' (seen_of below) node link r (seen_of below')) dif ((r ≡ Err NoIpc) × (slots' ≡ slots) × (below' ≡ below)) difs difs' (sends_any (refuses_send below) may slots slots' (seen_of below) node link r (seen_of below')) x.0, x.1, x.2)
here_any may slots slots' dif node link r (Wires a) (Rank' p' difs' below') x = absurd x
here_any may slots slots' dif node link r (Rank' p difs below) (Wires a') x = absurd x

-- what a step does where the policies may answer this, it does where they may answer anything
pub any_place : (may : List ℕ → ℕ → List Head → ℕ → Type 0) (slots slots' : List Slot) (r dif node link : ℕ) (result : Result OutStep StepError) (t t' : Tower) → OutSteps may slots slots' r dif node link result t t' → OutSteps Anything slots slots' r dif node link result t t'
any_place may slots slots' r dif node link result t t' x =
    at_rank r (OutStepsAtTop may slots slots' dif node link result) (OutStepsAtTop Anything slots slots' dif node link result) ((result ≡ Err NoIpc) × (slots' ≡ slots)) t t' (here_any may slots slots' dif node link result) x
