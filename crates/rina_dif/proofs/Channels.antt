-- The link with a port is found.
use Rattle.std.proofs.Common.{◌≡◌, ◌∙◌, ℕ, zero, suc, ◌+◌, ◌<◌, ◌^◌, ◌==◌, Bool, true, false, cond, List, [], ◌∷◌, ◌++◌, filter, length, slice_get, slice_index_or, Option, Some, None, Result, Ok, Err, refl, sym, ap, subst, arith}
use Rattle.std.specs.Prelude.{IsSome, OnOk, position}
use Rattle.std.proofs.lemmas.Bool.{false≢true}
use Rattle.std.proofs.lemmas.Option.{get_or_from_slice_get, slice_get_within}
use Rattle.rina_base.specs.declared.memory.Memory.{Memory}
use Rattle.rina_base.specs.declared.number.Port.{Port}
use Rattle.rina_channel.specs.declared.channel.Channel.{Channel}
use Rattle.rina_conn.specs.declared.form.Peer.{Peer}
use Rattle.rina_iface.specs.declared.ends.End.{End}
use Rattle.rina_iface.specs.declared.state.PortState.TheVariants.{Allocated}
use Rattle.rina_iface.specs.declared.state.Role.TheVariants.{Asker, Far}
use Rattle.rina_iface.specs.Allocate.{new_end}
use Rattle.rina_iface.specs.Seen.{Seen}
use Rattle.rina_queue.proofs.Places.{first_passes}
use Rattle.rina_data.specs.declared.link.Link.{Link}
use Rattle.rina_data.specs.declared.process.IpcProcess.{IpcProcess}
use Rattle.rina_data.specs.declared.settings.Member.{Member as Kept}
use Rattle.rina_data.specs.declared.settings.Settings.{Settings}
use Rattle.rina_data.specs.Configs.{config_of, greatest, piece_size}
use Rattle.rina_data.proofs.Finding.{there}
use Rattle.rina_flows.specs.declared.flows.Flows.{Flows}
use Rattle.rina_flows.specs.Adding.{Adds}
use Rattle.rina_dif.specs.declared.connections.Connections.{Connections}
use Rattle.rina_dif.specs.Laying.{IsHome, ends_of, links_from, ports_at}
use Rattle.rina_dif.specs.Linking.{AreLinks, Connects, HasChannel, IsChannelOf, is_on, name_at}
use Rattle.rina_dif.proofs.Linked.{passes_some}

-- A link has the port

on_fields : (port : Port) (l : Link) → is_on port l ≡ true → (l.port.fac ≡ port.fac) × (l.port.node ≡ port.node) × (l.port.n ≡ port.n)
unfolding is_on
on_fields port l h = grind arith

on_is : (port : Port) (l : Link) → is_on port l ≡ true → l.port ≡ port
on_is port l h = (let e = on_fields port l h in λ j. record { fac = e.0 j; node = e.1 j; n = e.2 j })

on_self : (l : Link) → is_on l.port l ≡ true
unfolding is_on
on_self l = grind arith

none_some : (o : Option ℕ) → o ≡ None → IsSome o → ⊥
none_some None is some = false≢true some
none_some (Some k) is some = cc

same_some : {X : Type 0} (o : Option X) (a b : X) → o ≡ Some a → o ≡ Some b → a ≡ b
same_some o a b h g = cc

-- where a member is found, the IPC process there has the link
pub never_off : (s : Settings) (ps : List IpcProcess) (port : Port) (member : ℕ) (p : IpcProcess) (links : List Link) → HasChannel s ps port → position (λ (m : Kept). m.node == port.node) s.members ≡ Some member → slice_get ps member ≡ Some p → links ≡ p.links → position (is_on port) links ≡ None → ⊥
never_off s ps port member p links has home is same none =
    let of = has.1 in
    let at : has.0.member ≡ member = same_some (position (λ (m : Kept). m.node == port.node) s.members) has.0.member member of.home home in
    let process : of.process ≡ p = same_some (slice_get ps member) of.process p (ap (slice_get ps) (sym at) ∙ of.is_process) is in
    let stands : slice_get links of.place ≡ Some of.link = ap (λ (ls : List Link). slice_get ls of.place) (same ∙ ap (λ (z : IpcProcess). z.links) (sym process)) ∙ of.stands in
    let on : is_on port of.link ≡ true = subst (λ (q : Port). is_on q of.link ≡ true) of.on_port (on_self of.link) in
    none_some (position (is_on port) links) none (passes_some (is_on port) links of.place of.link stands on)

pub is_channel : (s : Settings) (ps : List IpcProcess) (port : Port) (partner member : ℕ) (p : IpcProcess) (links : List Link) (at : ℕ) (d : Link) → position (λ (m : Kept). m.node == port.node) s.members ≡ Some member → slice_get ps member ≡ Some p → links ≡ p.links → position (is_on port) links ≡ Some at → IsChannelOf s ps port partner (record { member = member; link = Some (record { number = (slice_index_or links at d).number; port = port }); partner = partner })
is_channel s ps port partner member p links at d home is same found =
    let first = first_passes (is_on port) links at found in
    record {
      home = home;
      process = p;
      is_process = is;
      place = at;
      link = first.0;
      stands = ap (λ (ls : List Link). slice_get ls at) (sym same) ∙ first.1.stands;
      on_port = on_is port first.0 first.1.passes;
      attached = ap (λ (l : Link). Some (record { number = l.number; port = port })) (get_or_from_slice_get links at first.0 d first.1.stands);
      partner_is = refl;
    }

-- Each port that was laid has a link

some_of : (o : Option ℕ) → IsSome o → (k : ℕ) × (o ≡ Some k)
some_of None some = absurd (false≢true some)
some_of (Some k) some = (k, refl)

linked_at : (n : ℕ) (ports : List Port) (k : ℕ) (p : Port) → slice_get ports k ≡ Some p → (l : Link) × (slice_get (links_from n ports) k ≡ Some l) × (l.port ≡ p)
linked_at n [] k p is = absurd cc
linked_at n (q ∷ ports) zero p is = (let same : q ≡ p = cc in (record { port = q; number = n; live = true }, refl, same))
linked_at n (q ∷ ports) (suc k) p is = linked_at (n + 1) ports k p is

filtered_by : (f : Port → Bool) (x : Port) (xs : List Port) (b : Bool) (k : ℕ) (p : Port) → slice_get (filter f xs) k ≡ Some p → (j : ℕ) × (slice_get (cond b (x ∷ filter f xs) (filter f xs)) j ≡ Some p)
filtered_by f x xs true k p is = (suc k, is)
filtered_by f x xs false k p is = (k, is)

filtered_here : (f : Port → Bool) (x : Port) (xs : List Port) (b : Bool) → b ≡ true → (j : ℕ) × (slice_get (cond b (x ∷ filter f xs) (filter f xs)) j ≡ Some x)
filtered_here f x xs true is = (zero, refl)
filtered_here f x xs false is = absurd cc

filtered : (f : Port → Bool) (xs : List Port) (k : ℕ) (p : Port) → slice_get xs k ≡ Some p → f p ≡ true → (j : ℕ) × (slice_get (filter f xs) j ≡ Some p)
filtered f [] k p is passes = absurd cc
filtered f (x ∷ xs) zero p is passes = (let same : x ≡ p = cc in subst (λ (z : Port). (j : ℕ) × (slice_get (cond (f x) (x ∷ filter f xs) (filter f xs)) j ≡ Some z)) same (filtered_here f x xs (f x) (ap f same ∙ passes)))
filtered f (x ∷ xs) (suc k) p is passes = (let rest = filtered f xs k p is passes in filtered_by f x xs (f x) rest.0 p rest.1)

node_of : (node : ℕ) (m : Kept) → (m.node == node) ≡ true → m.node ≡ node
node_of node m h = grind arith

at_node : (node : ℕ) (p : Port) → p.node ≡ node → (p.node == node) ≡ true
at_node node p h = grind arith

channel_on : (s : Settings) (clock : ℕ) (ports : List (Port × Port)) (ps : List IpcProcess) (below : Seen) (k : ℕ) (port : Port) → AreLinks s clock ports ps below → IsHome s port → slice_get (ends_of ports) k ≡ Some port → HasChannel s ps port
channel_on s clock ports ps below k port links home is =
    let at = some_of (position (λ (m : Kept). m.node == port.node) s.members) home in
    let m = first_passes (λ (m : Kept). m.node == port.node) s.members at.0 at.1 in
    let p = there ps at.0 (let within = slice_get_within s.members at.0 m.0 m.1.stands in let alike = links.up.aligned in omega (arith, within, alike)) in
    let its = (links.up.each at.0 m.0 p.0 m.1.stands p.1).links in
    let j = filtered (λ (z : Port). z.node == m.0.node) (ends_of ports) k port is (at_node m.0.node port (sym (node_of port.node m.0 m.1.passes))) in
    let l = linked_at 0 (ports_at m.0.node (ends_of ports)) j.0 port j.1 in (
      record { member = at.0; link = Some (record { number = l.0.number; port = port }); partner = 0 },
      record {
        home = at.1;
        process = p.0;
        is_process = p.1;
        place = j.0;
        link = l.0;
        stands = ap (λ (ls : List Link). slice_get ls j.0) its ∙ l.1;
        on_port = l.2;
        attached = refl;
        partner_is = refl;
      },
    )

first_end : (ports : List (Port × Port)) (i : ℕ) (pair : Port × Port) → slice_get ports i ≡ Some pair → (k : ℕ) × (slice_get (ends_of ports) k ≡ Some pair.0)
first_end [] i pair is = absurd cc
first_end (p ∷ ps) zero pair is = (let same : p ≡ pair = cc in (zero, ap (λ (z : Port × Port). Some z.0) same))
first_end (p ∷ ps) (suc i) pair is = (let k = first_end ps i pair is in (suc (suc k.0), k.1))

second_end : (ports : List (Port × Port)) (i : ℕ) (pair : Port × Port) → slice_get ports i ≡ Some pair → (k : ℕ) × (slice_get (ends_of ports) k ≡ Some pair.1)
second_end [] i pair is = absurd cc
second_end (p ∷ ps) zero pair is = (let same : p ≡ pair = cc in (suc zero, ap (λ (z : Port × Port). Some z.1) same))
second_end (p ∷ ps) (suc i) pair is = (let k = second_end ps i pair is in (suc (suc k.0), k.1))

pub near_channel : (s : Settings) (clock : ℕ) (ports : List (Port × Port)) (ps : List IpcProcess) (below : Seen) (i : ℕ) (pair : Port × Port) → AreLinks s clock ports ps below → slice_get ports i ≡ Some pair → HasChannel s ps pair.0
near_channel s clock ports ps below i pair links is = (let k = first_end ports i pair is in channel_on s clock ports ps below k.0 pair.0 links (links.flows i pair is).home k.1)

pub far_channel : (s : Settings) (clock : ℕ) (ports : List (Port × Port)) (ps : List IpcProcess) (below : Seen) (i : ℕ) (pair : Port × Port) → AreLinks s clock ports ps below → slice_get ports i ≡ Some pair → HasChannel s ps pair.1
far_channel s clock ports ps below i pair links is = (let k = second_end ports i pair is in channel_on s clock ports ps below k.0 pair.1 links (links.flows i pair is).far_home k.1)

-- Both ends are made

push_two : (xs : List Channel) (x y : Channel) → (xs ++ x ∷ []) ++ y ∷ [] ≡ xs ++ x ∷ y ∷ []
push_two [] x y = refl
push_two (z ∷ xs) x y = ap (λ (zs : List Channel). z ∷ zs) (push_two xs x y)

pub connects : (s : Settings) (ps : List IpcProcess) (clock : ℕ) (pair : Port × Port) (c : Connections) (place partner : ℕ) (near far : Channel) (a b : Kept) (asker end : End) (piece max : ℕ) (peer : Peer) (channels : List Channel) (flows : Flows) (r : Result (Unit {0}) Memory) → place ≡ length c.channels → partner ≡ suc (length c.channels) → partner < 2 ^ 32 → IsChannelOf s ps pair.0 partner near → IsChannelOf s ps pair.1 place far
    → asker ≡ new_end (name_at clock place) Asker pair.0 a.name b.name 0 Allocated → end ≡ new_end (name_at clock place) Far pair.1 b.name a.name 0 Allocated → piece ≡ piece_size (config_of s) → max ≡ greatest (config_of s) → peer ≡ record { own = place; far = partner; scep = 0; dcep = 0 } → channels ≡ (c.channels ++ near ∷ []) ++ far ∷ []
    → OnOk r (flows.journal.ends ≡ c.flows.journal.ends ++ asker ∷ end ∷ []) → OnOk r (Adds c.manage piece max peer asker end c.flows flows) → OnOk r (Connects s ps clock pair c (record { manage = c.manage; channels = channels; flows = flows }))
connects s ps clock pair c place partner near far a b asker end piece max peer channels flows (Err e) place_is partner_is room is_near is_far asker_is end_is piece_is max_is peer_is channels_are ends adds = tt
connects s ps clock pair c place partner near far a b asker end piece max peer channels flows (Ok u) place_is partner_is room is_near is_far asker_is end_is piece_is max_is peer_is channels_are ends adds =
    let next : partner ≡ suc place = partner_is ∙ sym (ap suc place_is) in
    let peer' : peer ≡ record { own = place; far = suc place; scep = 0; dcep = 0 } = peer_is ∙ ap (λ (n : ℕ). record { own = place; far = n; scep = 0; dcep = 0 }) next in
    record {
      place = place;
      place_is = place_is;
      room = subst (λ (n : ℕ). n < 2 ^ 32) next room;
      near = near;
      far = far;
      is_near = subst (λ (n : ℕ). IsChannelOf s ps pair.0 n near) next is_near;
      is_far = is_far;
      near_member = a;
      far_member = b;
      asker = asker;
      asker_is = asker_is;
      end = end;
      end_is = end_is;
      manage_is = refl;
      channels_are = channels_are ∙ push_two c.channels near far;
      ends_are = ends;
      adds = subst (λ (q : Peer). Adds c.manage (piece_size (config_of s)) (greatest (config_of s)) q asker end c.flows flows) peer' (subst (λ (n : ℕ). Adds c.manage (piece_size (config_of s)) n peer asker end c.flows flows) max_is (subst (λ (n : ℕ). Adds c.manage n max peer asker end c.flows flows) piece_is adds));
    }
