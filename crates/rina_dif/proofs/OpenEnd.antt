-- The open end of the management connection of a link, by the link's number.
use Rattle.std.proofs.Common.{◌≡◌, ◌∙◌, ℕ, true, List, slice_get, Option, Some, None, refl, sym, ap, subst, arith}
use Rattle.std.specs.Prelude.{IsSome, position, option_and_then}
use Rattle.std.proofs.lemmas.Bool.{false≢true}
use Rattle.rina_base.specs.declared.number.Port.{Port}
use Rattle.rina_iface.specs.declared.state.PortState.TheVariants.{Allocated}
use Rattle.rina_iface.specs.Seen.{Seen, state_of}
use Rattle.rina_queue.proofs.Places.{first_passes}
use Rattle.rina_data.specs.declared.link.Link.{Link}
use Rattle.rina_data.specs.declared.process.IpcProcess.{IpcProcess}
use Rattle.rina_data.specs.Deciding.{process_of}
use Rattle.rina_data.specs.Process.{Process, is_link, link_by}
use Rattle.rina_channel.specs.Channels.{HasLive, IsOnPort, has_port}
use Rattle.rina_channel.proofs.Going.{live_by}
use Rattle.rina_dif.specs.declared.dif.Dif.{Dif}
use Rattle.rina_dif.specs.Closing.{FindsOpen, IsOpenOn, NoneOpenOn}
use Rattle.rina_dif.specs.Holding.{LinksStand}
use Rattle.rina_dif.specs.Messaging.{FindsOpenEnd, IsOpenEnd}
use Rattle.rina_dif.specs.Shown.{seen_of}
use Rattle.rina_dif.proofs.Leaves.{shown_at}
use Rattle.rina_dif.proofs.Linked.{passes_some}
use Rattle.rina_dif.proofs.OnLinks.{channel_port, has_its_port}

same_some : {X : Type 0} (o : Option X) (a b : X) → o ≡ Some a → o ≡ Some b → a ≡ b
same_some o a b h g = cc

some_of : (o : Option ℕ) → IsSome o → (k : ℕ) × (o ≡ Some k)
some_of None some = absurd (false≢true some)
some_of (Some k) some = (k, refl)

is_link_by : (number : ℕ) (l : Link) → l.live ≡ true → l.number ≡ number → is_link number l ≡ true
unfolding is_link
is_link_by number l live is = grind arith

-- where a link of a number is live, one is found
none_by : (number : ℕ) (links : List Link) (k : ℕ) (l : Link) → slice_get links k ≡ Some l → l.live ≡ true → l.number ≡ number → link_by number links ≡ None → ⊥
none_by number links k l stands live is none =
    let found = some_of (position (is_link number) links) (passes_some (is_link number) links k l stands (is_link_by number l live is)) in
    let x = first_passes (is_link number) links found.0 found.1 in
    let there : link_by number links ≡ Some x.0 = ap (λ (o : Option ℕ). option_and_then (λ i. slice_get links i) o) found.1 ∙ x.1.stands in
    let no : Some x.0 ≡ None = sym there ∙ none in
    absurd cc

-- the live link of an open end is one of the IPC process
its_live_at : (d : Dif) (below : Seen) (i number place : ℕ) (e : IsOpenEnd d below i place number) → HasLive (seen_of d).processes i number e.here.live.link.port
its_live_at d below i number place e = record {
  process = e.here.live.live.process;
  is_process = ap (slice_get (seen_of d).processes) (sym e.here.member) ∙ e.here.live.live.is_process;
  place = e.here.live.live.place;
  link = e.here.live.live.link;
  stands = e.here.live.live.stands;
  live = e.here.live.live.live;
  number_is = e.here.live.live.number_is ∙ sym e.here.number_is;
  port_is = e.here.live.live.port_is;
}

-- its channel has its port
its_on : (d : Dif) (below : Seen) (i number place : ℕ) (e : IsOpenEnd d below i place number) (port : Port) → e.here.live.link.port ≡ port → IsOnPort e.here.channel port
its_on d below i number place e port same = record { link = e.here.live.link; link_is = e.here.live.link_is; port_is = same }

module _ (d : Dif) (below : Seen) (i number : ℕ) (p : IpcProcess) (is : slice_get d.processes i ≡ Some p) (links : LinksStand d below) where
  -- none is live
  pub no_link : link_by number p.links ≡ None → (place : ℕ) → IsOpenEnd d below i place number → ⊥
  no_link none place e =
      let live = its_live_at d below i number place e in
      let same : live.process ≡ process_of p = same_some (slice_get (seen_of d).processes i) live.process (process_of p) live.is_process (shown_at d i p is) in
      none_by number p.links live.place live.link (ap (λ (z : Process). slice_get z.links live.place) (sym same) ∙ live.stands) live.live live.number_is none

  module _ (link : Link) (found : link_by number p.links ≡ Some link) where
    abbrev its_live : HasLive (seen_of d).processes i number link.port
    its_live = live_by (seen_of d).processes i number (process_of p) link (shown_at d i p is) found

    its_port : (place : ℕ) (e : IsOpenEnd d below i place number) → e.here.live.link.port ≡ link.port
    its_port place e = links.standing.channels.numbered i number e.here.live.link.port link.port (its_live_at d below i number place e) its_live

    -- the flow below is not allocated
    pub shut_below : (state_of below link.port ≡ Some Allocated → ⊥) → (place : ℕ) → IsOpenEnd d below i place number → ⊥
    shut_below shut place e = shut (ap (state_of below) (sym (its_port place e)) ∙ e.open_below)

    -- no end is open
    none_open : NoneOpenOn d.connections link.port → (place : ℕ) → IsOpenEnd d below i place number → ⊥
    none_open none place e =
        let c = e.here.channel in
        let on = its_on d below i number place e link.port (its_port place e) in
        let passes = has_its_port link.port c on in
        let first = some_of (position (has_port link.port) d.connections.channels) (passes_some (has_port link.port) d.connections.channels place c e.here.stands passes) in
        let x = first_passes (has_port link.port) d.connections.channels first.0 first.1 in
        let same : first.0 ≡ place = links.standing.channels.apart first.0 place x.0 c link.port x.1.stands e.here.stands (channel_port link.port x.0 x.1.passes) on in
        none place (record { found = first.1 ∙ ap (λ (n : ℕ). Some n) same; end = e.here.end; is_end = e.here.is_end; allocated = e.here.allocated })

    one_open : (place : ℕ) → state_of below link.port ≡ Some Allocated → IsOpenOn d.connections link.port place → IsOpenEnd d below i place number
    one_open place state opens =
        let x = first_passes (has_port link.port) d.connections.channels place opens.found in
        let on = channel_port link.port x.0 x.1.passes in
        let live : HasLive (seen_of d).processes i number on.link.port = subst (λ (q : Port). HasLive (seen_of d).processes i number q) (sym on.port_is) its_live in
        let m = links.standing.channels.matched i number place x.0 on.link x.1.stands on.link_is live in
        record {
          here = record {
            channel = x.0;
            stands = x.1.stands;
            member = m.0;
            live = record {
              link = on.link;
              link_is = on.link_is;
              live = record {
                process = live.process;
                is_process = ap (slice_get (seen_of d).processes) m.0 ∙ live.is_process;
                place = live.place;
                link = live.link;
                stands = live.stands;
                live = live.live;
                number_is = live.number_is ∙ sym m.1;
                port_is = live.port_is;
              };
            };
            number_is = sym m.1;
            end = opens.end;
            is_end = opens.is_end;
            allocated = opens.allocated;
          };
          open_below = ap (state_of below) on.port_is ∙ state;
        }

    pub open_found : (place : Option ℕ) → state_of below link.port ≡ Some Allocated → FindsOpen d.connections link.port place → FindsOpenEnd d below i number place
    open_found (Some place) state opens = one_open place state opens
    open_found None state none = none_open none

-- there is one such end
pub one_place : (d : Dif) (below : Seen) → LinksStand d below → (i number place other : ℕ) → IsOpenEnd d below i place number → IsOpenEnd d below i other number → other ≡ place
one_place d below links i number place other e f =
    let port : Port = e.here.live.link.port in
    let near : HasLive (seen_of d).processes i number port = its_live_at d below i number place e in
    let far : HasLive (seen_of d).processes i number f.here.live.link.port = its_live_at d below i number other f in
    links.standing.channels.apart other place f.here.channel e.here.channel port f.here.stands e.here.stands (its_on d below i number other f port (links.standing.channels.numbered i number f.here.live.link.port port far near)) (its_on d below i number place e port refl)
