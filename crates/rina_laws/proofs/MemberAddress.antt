-- At one node alone stands a member of an address.
use Rattle.std.proofs.Common.{◌≡◌, ◌∙◌, ℕ, List, slice_get, Option, Some, None, option_and_then, option_map, refl, sym, ap}
use Rattle.std.proofs.lemmas.Option.{none-some, same_Some, slice_get-map}
use Rattle.rina_data.specs.declared.settings.Member.{Member}
use Rattle.rina_data.specs.Configs.{config_of, member_of}
use Rattle.rina_law.specs.Direction.{Direction}
use Rattle.rina_iface.specs.Seen.{Seen}
use Rattle.rina_dif_law.proofs.Binding.{test_passes}
use Rattle.rina_dif.specs.declared.dif.Dif.{Dif}
use Rattle.rina_dif.specs.Elsewhere.{home_of}
use Rattle.rina_dif.specs.Holding.{Holds}
use Rattle.rina_known.specs.Calls.{address_at}

-- the member at a node, of an address
record IsThere (d : Dif) (node address : ℕ) : Type 0 where
  place : ℕ
  member : Member
  at_home : home_of d node ≡ Some place
  stands : slice_get d.settings.members place ≡ Some member
  addr : member.addr ≡ address

member_there : (d : Dif) (node address : ℕ) → address_at d node ≡ Some address → IsThere d node address
member_there d node address is = at_place (home_of d node) refl is
  where
    of_member : (i : ℕ) (o : Option Member) → home_of d node ≡ Some i → slice_get d.settings.members i ≡ o → option_map (λ (m : Member). m.addr) o ≡ Some address → IsThere d node address
    of_member i None home at given = absurd (none-some address given)
    of_member i (Some m) home at given = record { place = i; member = m; at_home = home; stands = at; addr = same_Some m.addr address given }

    at_place : (o : Option ℕ) → home_of d node ≡ o → option_map (λ (m : Member). m.addr) (option_and_then (slice_get d.settings.members) o) ≡ Some address → IsThere d node address
    at_place None home given = absurd (none-some address given)
    at_place (Some i) home given = of_member i (slice_get d.settings.members i) home refl given

in_config : (d : Dif) (node address : ℕ) (x : IsThere d node address) → slice_get (config_of d.settings).members x.place ≡ Some (member_of x.member)
in_config d node address x = slice_get-map member_of d.settings.members x.place ∙ ap (option_map member_of) x.stands

pub one_node : (d : Dif) (lines : List Direction) (below : Seen) (a b address : ℕ) → Holds d lines below → address_at d a ≡ Some address → address_at d b ≡ Some address → a ≡ b
one_node d lines below a b address h at_a at_b =
    let x = member_there d a address at_a in
    let y = member_there d b address at_b in
    let in_x = in_config d a address x in
    let in_y = in_config d b address y in
    let place : x.place ≡ y.place = h.numbered.members.addrs x.place y.place (member_of x.member) (member_of y.member) in_x in_y (x.addr ∙ sym y.addr) in
    let member : x.member ≡ y.member = same_Some x.member y.member (sym x.stands ∙ ap (slice_get d.settings.members) place ∙ y.stands) in
    let node_a = test_passes (config_of d.settings).members a x.place (member_of x.member) x.at_home in_x in
    let node_b = test_passes (config_of d.settings).members b y.place (member_of y.member) y.at_home in_y in
    sym node_a ∙ ap (λ (m : Member). m.node) member ∙ node_b
