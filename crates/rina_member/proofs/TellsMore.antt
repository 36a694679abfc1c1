-- A member that tells short messages alone goes on to do so where it gets a link, and where a message more waits.
use Rattle.std.proofs.Common.{◌≡◌, ⊎_elim, ℕ, ◌+◌, ◌<◌, ◌^◌, List, [], ◌∷◌, ◌++◌, length, length-append, Contains, Option, None, Ok, refl, sym, subst, arith}
use Rattle.std.proofs.lemmas.List.Elements.{Contains-push_cases}
use Rattle.rina_base.specs.Names.{app_at}
use Rattle.rina_cdap.specs.Messages.{IfThere}
use Rattle.rina_alloc.specs.declared.message.FlowMessage.{FlowMessage}
use Rattle.rina_enrol.specs.declared.message.LinkMessage.{LinkMessage}
use Rattle.rina_enrol.specs.declared.message.LinkMessage.TheVariants as messages
use Rattle.rina_agent.specs.declared.agent.Agent.{Agent}
use Rattle.rina_agent.specs.declared.link.Link.{Link}
use Rattle.rina_agent.specs.declared.message.ManagementMessage.TheVariants.{ToMember}
use Rattle.rina_agent.specs.declared.message.Waiting.{Waiting}
use Rattle.rina_agent.specs.Agenda.{near}
use Rattle.rina_agent.specs.Counts.{next_of}
use Rattle.rina_agent.specs.Rows
use Rattle.rina_member.specs.Managements.{claimed}
use Rattle.rina_member.specs.Short.{IsLinkInRange, IsShort, TellsShort}
use Rattle.rina_member.proofs.Tells.{both_short, one_waits}

-- A new link

-- of no known neighbour, and of weight 1
new_ranged : (l : Link) → l.peer ≡ None → l.weight ≡ 1 → IsLinkInRange l
new_ranged l nobody one = record { peer = subst (λ (o : Option ℕ). IfThere o (2 ^ 32)) (sym nobody) tt; least = omega (arith, one); weight = omega (arith, one) }

pub added_ranged : (links : List Link) (l : Link) → ((z : Link) → Contains links z → IsLinkInRange z) → l.peer ≡ None → l.weight ≡ 1 → (z : Link) → Contains (links ++ l ∷ []) z → IsLinkInRange z
added_ranged links l ranges nobody one z has = ⊎_elim
    (λ old. ranges z old)
    (λ same. subst (λ (x : Link). IsLinkInRange x) same (new_ranged l nobody one))
    (Contains-push_cases links l z has)

pub joins_short : (number : ℕ) (member node : List ℕ) (g : Agent) → app_at member ≡ Ok member → length g.links < 16 → TellsShort g → TellsShort (Rows.joining g number member node)
joins_short number member node g name fewer h =
    let l : Link = Rows.joining_link number (next_of g.last_invoke) node in
    let connect : LinkMessage = messages.Connect (next_of g.last_invoke) g.name member in
    let more = length-append g.links (l ∷ []) in
    record {
      address = h.address;
      name = h.name;
      node = h.node;
      items = h.items;
      few = omega (arith, fewer, more);
      ranges = added_ranged g.links l h.ranges refl refl;
      waiting = both_short g.agenda (near number connect ∷ []) h.waiting (one_waits (near number connect) ((h.name, name), tt));
    }

pub claims_short : (number : ℕ) (g : Agent) → length g.links < 16 → TellsShort g → TellsShort (claimed g number)
claims_short number g fewer h =
    let l : Link = Rows.joined_link number in
    let more = length-append g.links (l ∷ []) in
    record {
      address = h.address;
      name = h.name;
      node = h.node;
      items = h.items;
      few = omega (arith, fewer, more);
      ranges = added_ranged g.links l h.ranges refl refl;
      waiting = h.waiting;
    }

-- Messages for other members

pub posts_short : (number : ℕ) (message : FlowMessage) (g : Agent) → IsShort (ToMember message) → TellsShort g → TellsShort (record g { agenda = g.agenda ++ record { link = number; message = ToMember message } ∷ [] })
posts_short number message g short h =
    let w : Waiting = record { link = number; message = ToMember message } in
    record {
      address = h.address;
      name = h.name;
      node = h.node;
      items = h.items;
      few = h.few;
      ranges = h.ranges;
      waiting = both_short g.agenda (w ∷ []) h.waiting (one_waits w short);
    }

pub draws_short : (g : Agent) → TellsShort g → TellsShort (record g { last_invoke = g.last_invoke + 1 })
draws_short g h = record {
  address = h.address;
  name = h.name;
  node = h.node;
  items = h.items;
  few = h.few;
  ranges = h.ranges;
  waiting = h.waiting;
}
