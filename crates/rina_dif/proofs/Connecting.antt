-- The links of a DIF that was made get their management connections.
use Rattle.std.proofs.Common.{◌≡◌, ◌∙◌, ◌⊎◌, ℕ, zero, suc, ◌+◌, ◌==◌, Bool, true, false, cond, List, [], ◌∷◌, filter, map, slice_get, option_map, Option, Some, refl, sym, ap, arith, inl, inr}
use Rattle.std.proofs.lemmas.Option.{slice_get_within}
use Rattle.rina_base.specs.declared.number.Port.{Port}
use Rattle.rina_base.specs.declared.pdu.Pdu.{Pdu}
use Rattle.rina_channel.specs.declared.channel.Attachment.{Attachment}
use Rattle.rina_channel.specs.declared.channel.Channel.{Channel}
use Rattle.rina_channel.specs.Channels.{HasLive}
use Rattle.rina_channel.specs.LinkCloud.{IsOn}
use Rattle.rina_iface.specs.declared.ends.End.{End}
use Rattle.rina_iface.specs.Seen.{Seen, end_of}
use Rattle.rina_data.specs.declared.link.Link.{Link}
use Rattle.rina_data.specs.declared.process.IpcProcess.{IpcProcess}
use Rattle.rina_data.specs.declared.settings.Member.{Member as Kept}
use Rattle.rina_data.specs.declared.settings.Settings.{Settings}
use Rattle.rina_data.specs.Configs.{config_of}
use Rattle.rina_data.specs.Deciding.{process_of}
use Rattle.rina_data.specs.Process.{Process}
use Rattle.rina_data.proofs.Finding.{there}
use Rattle.rina_queue.proofs.Places.{first_passes, kept_at}
use Rattle.rina_dif.specs.Laying.{AreApart, AreLinkedUp, ends_of, links_from, ports_at}
use Rattle.rina_dif.specs.Linking.{AreLinks, IsChannelOf}
use Rattle.rina_dif.proofs.Bare.{map_at}
use Rattle.rina_dif.proofs.Made.{idle, is_node, link_on}
use Rattle.rina_dif.proofs.Wiring.{one_member}

-- Links are numbered by their places

link_number : (n : ℕ) (ports : List Port) (k : ℕ) (link : Link) → slice_get (links_from n ports) k ≡ Some link → link.number ≡ n + k
link_number n [] k link is = absurd cc
link_number n (p ∷ ps) zero link is =
    let e : Some n ≡ Some link.number = ap (option_map (λ (l : Link). l.number)) is in
    let same : n ≡ link.number = cc in
    omega (arith, same)
link_number n (p ∷ ps) (suc k) link is = (let rest = link_number (n + 1) ps k link is in omega (arith, rest))

same_some : {X : Type 0} (o : Option X) (a b : X) → o ≡ Some a → o ≡ Some b → a ≡ b
same_some o a b h g = cc

none_in : {X : Type 0} (xs : List X) (i : ℕ) (x : X) → xs ≡ [] → slice_get xs i ≡ Some x → ⊥
none_in xs i x e h = cc

-- Distinct ports

filter_if : (f : Port → Bool) (x : Port) (xs : List Port) (b : Bool) → AreApart (x ∷ xs) → AreApart (filter f xs) → AreApart (cond b (x ∷ filter f xs) (filter f xs))
filter_if f x xs false all rest = rest
filter_if f x xs true all rest = here
  where
    first : (k : ℕ) (p : Port) → x ≡ p → slice_get (filter f xs) k ≡ Some p → ⊥
    first k p same at =
        let was = kept_at f xs k p at in
        let clash = all 0 (suc was.0) p (ap (λ (z : Port). Some z) same) was.1.stands in
        omega (arith, clash)

    here : AreApart (x ∷ filter f xs)
    here zero zero p a b = refl
    here zero (suc k) p a b = (let same : x ≡ p = cc in absurd (first k p same b))
    here (suc j) zero p a b = (let same : x ≡ p = cc in absurd (first j p same a))
    here (suc j) (suc k) p a b = ap suc (rest j k p a b)

filter_apart : (f : Port → Bool) (xs : List Port) → AreApart xs → AreApart (filter f xs)
filter_apart f [] all = λ j k p a b. absurd cc
filter_apart f (x ∷ xs) all = filter_if f x xs (f x) all (filter_apart f xs (λ j k p a b. (let e = all (suc j) (suc k) p a b in omega (arith, e))))

-- One link has a port

module _ (s : Settings) (clock : ℕ) (ports : List (Port × Port)) (ps : List IpcProcess) (below : Seen) (links : AreLinks s clock ports ps below) where
  abbrev all : List Port
  all = ends_of ports

  -- the live link with the port of a channel is the link of the channel
  pub channel_link : (port : Port) (partner : ℕ) (c : Channel) (of : IsChannelOf s ps port partner c) (i n : ℕ) → HasLive (map process_of ps) i n port → (c.member ≡ i) × (of.link.number ≡ n)
  channel_link port partner c of i n x =
      let p = map_at process_of ps i x.process x.is_process in
      let m = there s.members i (let within = slice_get_within ps i p.0 p.1 in let alike = links.up.aligned in omega (arith, within, alike)) in
      let here = ports_at m.0.node all in
      let its = (links.up.each i m.0 p.0 m.1 p.1).links in
      let live : slice_get (links_from 0 here) x.place ≡ Some x.link = ap (λ (ls : List Link). slice_get ls x.place) (sym its ∙ ap (λ (z : Process). z.links) p.2) ∙ x.stands in
      let on = link_on 0 here x.place x.link live in
      let port_is : x.link.port ≡ port = x.port_is in
      let at = kept_at (λ (z : Port). z.node == m.0.node) all x.place x.link.port on in
      let node : port.node ≡ m.0.node = ap (λ (z : Port). z.node) (sym port_is) ∙ is_node m.0.node x.link.port at.1.passes in
      let home = first_passes (λ (z : Kept). z.node == port.node) s.members c.member of.home in
      let its_node : home.0.node ≡ port.node = is_kept port.node home.0 home.1.passes in
      let member : c.member ≡ i = one_member s c.member i home.0 m.0 links.members home.1.stands m.1 (its_node ∙ node) in
      let same : of.process ≡ p.0 = same_some (slice_get ps i) of.process p.0 (ap (slice_get ps) (sym member) ∙ of.is_process) p.1 in
      let own : slice_get (links_from 0 here) of.place ≡ Some of.link = ap (λ (ls : List Link). slice_get ls of.place) (sym its ∙ ap (λ (z : IpcProcess). z.links) (sym same)) ∙ of.stands in
      let first : slice_get here of.place ≡ Some port = link_on 0 here of.place of.link own ∙ ap (λ (z : Port). Some z) of.on_port in
      let second : slice_get here x.place ≡ Some port = on ∙ ap (λ (z : Port). Some z) port_is in
      let place : of.place ≡ x.place = filter_apart (λ (z : Port). z.node == m.0.node) all links.apart of.place x.place port first second in
      let link = same_some (slice_get (links_from 0 here) x.place) of.link x.link (ap (slice_get (links_from 0 here)) (sym place) ∙ own) live in
      (member, ap (λ (z : Link). z.number) link ∙ x.number_is)
    where
      is_kept : (node : ℕ) (z : Kept) → (z.node == node) ≡ true → z.node ≡ node
      is_kept node z h = grind arith

  -- nothing waits for it, and nothing was sent on it
  pub silent : (c : Channel) (link : Attachment) (e : End) → c.link ≡ Some link → end_of below link.port ≡ Some e → e.sent ≡ [] → (death : ℕ) (pdu : Pdu) → IsOn (config_of s) (map process_of ps) below c death pdu → ⊥
  silent c link e link_is here unsent death pdu x = elim (x.here) [
    | inl waits ↦ idle s all ps waits.1.process waits.1.link waits.1.item links.up waits.1.waits
    | inr way ↦
        let its : x.link ≡ link = same_some c.link x.link link x.link_is link_is in
        let port_is : way.port ≡ link.port = way.within ∙ ap (λ (a : Attachment). a.port) its in
        let same : way.end ≡ e = same_some (end_of below link.port) way.end e (ap (end_of below) (sym port_is) ∙ way.here) here in
        none_in e.sent way.at way.entry unsent (ap (λ (z : End). slice_get z.sent way.at) (sym same) ∙ way.is_entry)
  ]

-- live links of one number have one port
pub numbered_up : (s : Settings) (ports : List Port) (ps : List IpcProcess) → AreLinkedUp s ports ps → (i n : ℕ) (p q : Port) → HasLive (map process_of ps) i n p → HasLive (map process_of ps) i n q → p ≡ q
numbered_up s ports ps up i n p q x y =
    let a = map_at process_of ps i x.process x.is_process in
    let m = there s.members i (let within = slice_get_within ps i a.0 a.1 in let alike = up.aligned in omega (arith, within, alike)) in
    let links = (up.each i m.0 a.0 m.1 a.1).links in
    let of : List Link = links_from 0 (ports_at m.0.node ports) in
    let xs : x.process.links ≡ of = ap (λ (z : Process). z.links) (sym a.2) ∙ links in
    let both : x.process ≡ y.process = same_some (slice_get (map process_of ps) i) x.process y.process x.is_process y.is_process in
    let ys : y.process.links ≡ of = ap (λ (z : Process). z.links) (sym both) ∙ xs in
    let at_x : slice_get of x.place ≡ Some x.link = ap (λ (ls : List Link). slice_get ls x.place) (sym xs) ∙ x.stands in
    let at_y : slice_get of y.place ≡ Some y.link = ap (λ (ls : List Link). slice_get ls y.place) (sym ys) ∙ y.stands in
    let number_x = link_number 0 (ports_at m.0.node ports) x.place x.link at_x in
    let number_y = link_number 0 (ports_at m.0.node ports) y.place y.link at_y in
    let is_x = x.number_is in
    let is_y = y.number_is in
    let place : y.place ≡ x.place = omega (arith, number_x, number_y, is_x, is_y) in
    let same = same_some (slice_get of x.place) x.link y.link at_x (ap (slice_get of) (sym place) ∙ at_y) in
    sym x.port_is ∙ ap (λ (l : Link). l.port) same ∙ y.port_is

-- each port is that of one end of a link
of_pair : (ports : List (Port × Port)) (k : ℕ) (p : Port) → slice_get (ends_of ports) k ≡ Some p → (i : ℕ) × (pair : Port × Port) × (slice_get ports i ≡ Some pair) × ((pair.0 ≡ p) ⊎ (pair.1 ≡ p))
of_pair [] k p is = absurd cc
of_pair (pair ∷ ports) zero p is = (0, pair, refl, inl (same_some (Some p) pair.0 p (sym is) refl))
of_pair (pair ∷ ports) (suc zero) p is = (0, pair, refl, inr (same_some (Some p) pair.1 p (sym is) refl))
of_pair (pair ∷ ports) (suc (suc k)) p is = (let rest = of_pair ports k p is in (suc rest.0, rest.1, rest.2, rest.3))

-- a live link has the port of an end below
pub based_up : (s : Settings) (clock : ℕ) (ports : List (Port × Port)) (ps : List IpcProcess) (below : Seen) → AreLinks s clock ports ps below → (i n : ℕ) (port : Port) → HasLive (map process_of ps) i n port → (end : End) × (end_of below port ≡ Some end)
based_up s clock ports ps below links i n port x =
    let a = map_at process_of ps i x.process x.is_process in
    let m = there s.members i (let within = slice_get_within ps i a.0 a.1 in let alike = links.up.aligned in omega (arith, within, alike)) in
    let its = (links.up.each i m.0 a.0 m.1 a.1).links in
    let here : List Port = ports_at m.0.node (ends_of ports) in
    let stands : slice_get (links_from 0 here) x.place ≡ Some x.link = ap (λ (ls : List Link). slice_get ls x.place) (sym its ∙ ap (λ (z : Process). z.links) a.2) ∙ x.stands in
    let at = kept_at (λ (z : Port). z.node == m.0.node) (ends_of ports) x.place x.link.port (link_on 0 here x.place x.link stands) in
    let of = of_pair ports at.0 x.link.port at.1.stands in
    let flow = (links.flows of.0 of.1 of.2).flow in
    elim (of.3) [
      | inl same ↦ (flow.near_end, ap (end_of below) (sym (same ∙ x.port_is)) ∙ flow.is_near)
      | inr same ↦ (flow.far_end, ap (end_of below) (sym (same ∙ x.port_is)) ∙ flow.is_far)
    ]
