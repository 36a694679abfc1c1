-- A new link of a member, as flooding sees it: its number is unused, and the ends of the other links stay.
use Rattle.std.proofs.Common.{◌≡◌, ◌∙◌, ℕ, ◌||◌, Bool, true, false, cond, Contains, List, [], ◌∷◌, ◌++◌, map, slice_get, slice_set, Option, Some, None, option_map, refl, sym, ap, subst, arith, inl, inr}
use Rattle.std.specs.Prelude.{find}
use Rattle.std.specs.List.{list_any}
use Rattle.std.proofs.lemmas.Bool.{cases_Bool}
use Rattle.std.proofs.lemmas.Bool.Decides.{eqb_tells}
use Rattle.std.proofs.lemmas.List.Folds.{list_any-append}
use Rattle.std.proofs.lemmas.Option.{slice_get-map}
use Rattle.rina_agent.specs.declared.link.Link.{Link as Managed}
use Rattle.rina_agent.specs.Enrolments.{is_numbered}
use Rattle.rina_channel.specs.declared.channel.Attachment.{Attachment}
use Rattle.rina_channel.specs.declared.channel.Channel.{Channel}
use Rattle.rina_channel.specs.Channels.{IsOnPort}
use Rattle.rina_data.specs.declared.process.IpcProcess.{IpcProcess}
use Rattle.rina_data.specs.declared.settings.Member.{Member}
use Rattle.rina_flood.specs.Members.{IsUnused}
use Rattle.rina_flood.specs.Network.{Gone, There}
use Rattle.rina_flood.specs.Static.{LinkEnd}
use Rattle.rina_flood.proofs.States.{there_is}
use Rattle.rina_member.specs.declared.management.Management.{Management}
use Rattle.rina_data.specs.declared.link.Link.{Link}
use Rattle.rina_member.specs.Knowing.{HasLiveLink, IsFreeNumber, live_numbers, managed_numbers}
use Rattle.rina_member.specs.Routing.{live_of}
use Rattle.rina_member.proofs.Lists.{at_place, found}
use Rattle.rina_route.proofs.Lists.{contains_filter, contains_map, contains_unmap}
use Rattle.rina_dif.specs.declared.dif.Dif.{Dif}
use Rattle.rina_dif.specs.Flooding.{is_live_at, link_end, links_of, members_seen, state_by}
use Rattle.rina_dif.specs.Managing.{AreManaged}
use Rattle.rina_dif.proofs.Bare.{map_at}
use Rattle.rina_dif.specs.LinkDue.{is_link_of}
use Rattle.rina_dif.proofs.LinkEnds.{is_its_link, link_among, links_beside, links_here, same_all}

-- A number that no live link has

-- an end that is there is one of a live link
there_lives : (ps : List IpcProcess) (place number : ℕ) (o : Option Attachment) → state_by ps place o ≡ There number → (a : Attachment) × (a.number ≡ number) × (is_live_at ps place a ≡ true)
there_lives ps place number None is = absurd cc
there_lives ps place number (Some a) is = decided (is_live_at ps place a) refl is
  where
    decided : (b : Bool) → is_live_at ps place a ≡ b → cond b (There a.number) Gone ≡ There number → (x : Attachment) × (x.number ≡ number) × (is_live_at ps place x ≡ true)
    decided true live there = (a, there_is a.number number there, live)
    decided false live there = absurd cc

-- so none that is there has the number
none_there : (ps : List IpcProcess) (place number : ℕ) (p : IpcProcess) → slice_get ps place ≡ Some p → IsFreeNumber p.links number → (o : Option Attachment) → state_by ps place o ≡ There number → ⊥
none_there ps place number p is free o there =
    let a = there_lives ps place number o there in
    let l = link_among a.0 (links_of (slice_get ps place)) a.2 in
    let its = is_its_link a.0 l.1 l.3 in
    free l.0 l.1 (ap (λ (x : Option IpcProcess). slice_get (links_of x) l.0) (sym is) ∙ l.2) its.0 (its.1 ∙ a.1)

-- each link of its agent is a live one
link_lives : (links : List Link) (ls : List Managed) (l : Managed) → managed_numbers ls ≡ live_numbers links → Contains ls l → HasLiveLink links l.number
link_lives links ls l numbers has =
    let n = subst (λ (ns : List ℕ). Contains ns l.number) numbers (contains_map (λ (z : Managed). z.number) ls l has) in
    let u = contains_unmap (λ (z : Link). z.number) (live_of links) l.number n in
    let s = contains_filter (λ (z : Link). z.live) links u.0 u.1 in
    record { place = s.0.0; link = u.0; stands = at_place links u.0 s.0; live = s.1; is_number = u.2 }

pub is_unused : (d : Dif) (place number : ℕ) (m : Member) (p : IpcProcess) (g : Management) → AreManaged d → slice_get d.settings.members place ≡ Some m → slice_get d.processes place ≡ Some p → slice_get d.managements place ≡ Some g → IsFreeNumber p.links number → IsUnused (members_seen d) place g.agent number
is_unused d place number m p g managed is_m is_p is_g free = record {
  is_agent = slice_get-map (λ (z : Management). z.agent) d.managements place ∙ ap (option_map (λ (z : Management). z.agent)) is_g;
  ends = λ k e is member there.
      let x = map_at (link_end d.processes) d.connections.channels k e is in
      let at : x.0.member ≡ place = ap (λ (z : LinkEnd). z.member) x.2 ∙ member in
      none_there d.processes place number p is_p free x.0.link (ap (λ (j : ℕ). state_by d.processes j x.0.link) (sym at) ∙ ap (λ (z : LinkEnd). z.state) x.2 ∙ there);
  links = no_link (find (is_numbered number) g.agent.links) refl;
}
  where
    no_link : (o : Option Managed) → find (is_numbered number) g.agent.links ≡ o → find (is_numbered number) g.agent.links ≡ None
    no_link None none = none
    no_link (Some l) some =
        let f = found (is_numbered number) g.agent.links l some in
        let live = link_lives p.links g.agent.links l (managed.each place m p g is_m is_p is_g).knows.numbers f.0 in
        let same : l.number ≡ number = (let test = f.1 in grind (arith, test)) in
        absurd (free live.place live.link live.stands live.live (live.is_number ∙ same))

-- The other ends

-- an IPC process has one link more, and is another then
pub record AddsOne (ps : List IpcProcess) (at : ℕ) (p p' : IpcProcess) (link : Link) : Type 0 where
  pub is : slice_get ps at ≡ Some p
  pub links_are : p'.links ≡ p.links ++ link ∷ []

or_false : (b : Bool) → (b || (false || false)) ≡ b
or_false true = refl
or_false false = refl

-- all others are as live as they were
pub others_as_live : (ps : List IpcProcess) (at : ℕ) (p p' : IpcProcess) (link : Link) → AddsOne ps at p p' link → (place : ℕ) (a : Attachment) → is_link_of a link ≡ false → is_live_at (slice_set ps at p') place a ≡ is_live_at ps place a
others_as_live ps at p p' link l place a other = elim (eqb_tells place at) [
  | inl t ↦
      (let more : list_any (is_link_of a) (p.links ++ link ∷ []) ≡ list_any (is_link_of a) p.links = list_any-append (is_link_of a) p.links (link ∷ []) ∙ ap (λ (b : Bool). list_any (is_link_of a) p.links || (b || false)) other ∙ or_false (list_any (is_link_of a) p.links) in
      let there : list_any (is_link_of a) (links_of (slice_get (slice_set ps at p') at)) ≡ list_any (is_link_of a) (links_of (slice_get ps at)) =
      ap (list_any (is_link_of a)) (links_here ps at p p' l.is ∙ l.links_are) ∙ more ∙ ap (λ (o : Option IpcProcess). list_any (is_link_of a) (links_of o)) (sym l.is) in
      subst (λ (k : ℕ). is_live_at (slice_set ps at p') k a ≡ is_live_at ps k a) (sym t.1) there)
  | inr u ↦ ap (list_any (is_link_of a)) (links_beside ps at p' place u.1)
]

-- where no channel has the port of the link, all ends that are shown stay
module _ (channels : List Channel) (ps : List IpcProcess) (at : ℕ) (p p' : IpcProcess) (link : Link) (adds : AddsOne ps at p p' link) (silent : (k : ℕ) (channel : Channel) → slice_get channels k ≡ Some channel → IsOnPort channel link.port → ⊥) where
  not_its : (k : ℕ) (x : Channel) (a : Attachment) → slice_get channels k ≡ Some x → x.link ≡ Some a → is_link_of a link ≡ false
  not_its k x a is attached = elim (cases_Bool (is_link_of a link)) [
    | inl same ↦ absurd (silent k x is (record { link = a; link_is = attached; port_is = sym (is_its_link a link same).2 }))
    | inr differs ↦ differs
  ]

  same_state : (k : ℕ) (x : Channel) (o : Option Attachment) → slice_get channels k ≡ Some x → x.link ≡ o → state_by (slice_set ps at p') x.member o ≡ state_by ps x.member o
  same_state k x None is attached = refl
  same_state k x (Some a) is attached = ap (λ (b : Bool). cond b (There a.number) Gone) (others_as_live ps at p p' link adds x.member a (not_its k x a is attached))

  pub added_ends : map (link_end (slice_set ps at p')) channels ≡ map (link_end ps) channels
  added_ends = same_all (link_end ps) (link_end (slice_set ps at p')) channels (λ k x is. (let state = same_state k x x.link is refl in λ i. record { member = x.member; state = state i }))
