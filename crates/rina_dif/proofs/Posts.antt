-- A message about a flow waits at a member for the next hop to its address, or is dropped: the DIF holds on.
use Rattle.std.proofs.Common.{◌≡◌, ℕ, ◌<◌, List, length, slice_get, Option, Some, None, Result, Ok, Err, refl, sym, ap, subst, ◌∙◌}
use Rattle.std.specs.Prelude.{OnErr, OnOk, option_and_then}
use Rattle.rina_base.specs.declared.memory.Memory.{Memory}
use Rattle.rina_iface.specs.Seen.{Seen}
use Rattle.rina_law.specs.Direction.{Direction}
use Rattle.rina_alloc.specs.declared.message.FlowMessage.{FlowMessage}
use Rattle.rina_alloc.specs.Messages.{IsProper}
use Rattle.rina_data.specs.declared.process.IpcProcess.{IpcProcess}
use Rattle.rina_data.specs.Process.{next_hop}
use Rattle.rina_data.proofs.Finding.{there}
use Rattle.rina_member.specs.declared.management.Management.{Management}
use Rattle.rina_dif.specs.declared.dif.Dif.{Dif}
use Rattle.rina_dif.specs.Allocating.{way}
use Rattle.rina_dif.specs.Changing.{changed_if}
use Rattle.rina_dif.specs.Holding.{Holds}
use Rattle.rina_dif.specs.Posting.{posted, posts, with_message}
use Rattle.rina_dif.proofs.FlowPosts.{hop_linked, posted_holds}
use Rattle.rina_dif.proofs.Leaves.{has_process}
use Rattle.rina_dif.proofs.Unlinked.{has_agent}

-- it waits for the next hop
posted_there : (d : Dif) (lines : List Direction) (below : Seen) (at : ℕ) (number : ℕ) (message : FlowMessage) (p : IpcProcess) → slice_get d.processes at ≡ Some p → next_hop message.to p.routes ≡ Some number → at < length d.settings.members → IsProper message.word → Holds d lines below → Holds (record d { managements = posted at (Some number) message d.managements }) lines below
posted_there d lines below at number message p is_p hop lt proper h =
    let m = there d.settings.members at lt in
    let g = has_agent d lines below at lt h in
    let one = h.managed.each at m.0 p g.0 m.1 is_p g.1 in
    let linked = hop_linked d.clock m.0 p.links g.0.agent d.settings.members p.routes message.to number one.knows one.routes hop in
    subst (λ (ms : List Management). Holds (record d { managements = ms }) lines below) (sym (ap (λ (o : Option Management). changed_if o at (λ (z : Management). with_message z number message) d.managements) g.1)) (posted_holds d lines below h at g.0 g.1 one.tells number message proper linked)

-- so wherever the message is for
pub posts_hold : (d : Dif) (lines : List Direction) (below : Seen) (at : ℕ) (message : FlowMessage) → at < length d.settings.members → IsProper message.word → Holds d lines below → Holds (record d { managements = posts d at message d.managements }) lines below
posts_hold d lines below at message lt proper h =
    let p = has_process d below at (lines, h) lt in
    subst (λ (o : Option ℕ). Holds (record d { managements = posted at o message d.managements }) lines below) (sym (way_is p.0 p.1)) (go p.0 p.1 (next_hop message.to p.0.routes) refl)
  where
    way_is : (p : IpcProcess) → slice_get d.processes at ≡ Some p → way d at message.to ≡ next_hop message.to p.routes
    way_is p is = ap (λ (o : Option IpcProcess). option_and_then (λ (z : IpcProcess). next_hop message.to z.routes) o) is

    go : (p : IpcProcess) → slice_get d.processes at ≡ Some p → (o : Option ℕ) → next_hop message.to p.routes ≡ o → Holds (record d { managements = posted at o message d.managements }) lines below
    go p is (Some number) hop = posted_there d lines below at number message p is hop lt proper h
    go p is None hop = h

-- where the link is found, and without memory
pub sent_holds : (d : Dif) (lines : List Direction) (below : Seen) (at link : ℕ) (message : FlowMessage) (r : Result (Unit {0}) Memory) (ms : List Management) → at < length d.settings.members → IsProper message.word → way d at message.to ≡ Some link → OnOk r (ms ≡ posted at (Some link) message d.managements) → OnErr r (ms ≡ d.managements) → Holds d lines below → Holds (record d { managements = ms }) lines below
sent_holds d lines below at link message (Ok done) ms lt proper hop posts same h = subst (λ (xs : List Management). Holds (record d { managements = xs }) lines below) (ap (λ (o : Option ℕ). posted at o message d.managements) hop ∙ sym posts) (posts_hold d lines below at message lt proper h)
sent_holds d lines below at link message (Err e) ms lt proper hop posts same h = subst (λ (xs : List Management). Holds (record d { managements = xs }) lines below) (sym same) h
