-- An item that a member keeps was made no later than now.
use Rattle.std.proofs.Common.{◌≡◌, ◌∙◌, ℕ, ◌<◌, ◌≤◌, false, List, Contains, length, option_map, slice_get, Some, sym, ap, subst, arith, ⊎_elim}
use Rattle.std.proofs.lemmas.Option.{slice_get-map, slice_get_within}
use Rattle.rina_newest.specs.declared.item.Item.{Item}
use Rattle.rina_agent.specs.declared.agent.Agent.{Agent}
use Rattle.rina_data.proofs.Finding.{there}
use Rattle.rina_flood.specs.Network.{Network, after_rows}
use Rattle.rina_flood.proofs.All.{run_holds}
use Rattle.rina_iface.specs.Seen.{Seen}
use Rattle.rina_law.specs.Direction.{Direction}
use Rattle.rina_route.proofs.Lists.{in_none}
use Rattle.rina_member.specs.declared.management.Management.{Management}
use Rattle.rina_member.proofs.Items.{from_all}
use Rattle.rina_dif.specs.declared.dif.Dif.{Dif}
use Rattle.rina_dif.specs.Holding.{Holds}
use Rattle.rina_dif.specs.Managing.{agents_of}

pub kept_past : (d : Dif) (lines : List Direction) (below : Seen) (place : ℕ) (m : Management) (item : Item) → Holds d lines below → d.failed ≡ false → slice_get d.managements place ≡ Some m → Contains m.agent.items item → item.version.tick ≤ d.clock
kept_past d lines below place m item h alive is has =
    let r = h.flooded alive in
    let n : Network = after_rows r.start r.rows in
    let noted = (run_holds r.start _ r.rows r.starts r.run).noted in
    let within = slice_get_within d.managements place m is in
    let aligned = h.managed.aligned in
    let lt : place < length d.settings.members = omega (arith, within, aligned) in
    let member = there d.settings.members place lt in
    let agent : slice_get (agents_of d.managements) place ≡ Some m.agent = slice_get-map (λ (z : Management). z.agent) d.managements place ∙ ap (option_map (λ (z : Management). z.agent)) is in
    let its = r.is.agents place member.0 m.agent member.1 agent in
    let items : m.agent.items ≡ _ = sym (ap (λ (a : Agent). a.items) its) ∙ noted.knows member.0.addr in
    let offered : Contains (n.offered member.0.addr) item = ⊎_elim (λ none. absurd (in_none item none)) (λ some. some) (from_all _ (n.offered member.0.addr) item (subst (λ (xs : List Item). Contains xs item) items has)) in
    let past = noted.past item (noted.offered member.0.addr item offered) in
    let now = r.is.now in
    omega (arith, past, now)
