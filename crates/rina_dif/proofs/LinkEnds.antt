-- The ends of the links of a DIF, as flooding sees them.
use Rattle.std.proofs.Common.{◌≡◌, ◌∙◌, ℕ, zero, suc, ◌||◌, Bool, true, false, cond, List, [], ◌∷◌, map, slice_get, slice_set, Option, Some, None, refl, sym, ap, subst, arith, inl, inr}
use Rattle.std.specs.List.{list_any}
use Rattle.std.proofs.lemmas.Bool.{cases_Bool, false≢true}
use Rattle.std.proofs.lemmas.Bool.Decides.{eqb_tells}
use Rattle.std.proofs.lemmas.List.Folds.{list_any_at}
use Rattle.std.proofs.lemmas.Option.{get_or_from_slice_get, slice_get_within}
use Rattle.rina_channel.specs.declared.channel.Attachment.{Attachment}
use Rattle.rina_channel.specs.declared.channel.Channel.{Channel}
use Rattle.rina_channel.specs.Channels.{HasLive, IsLive}
use Rattle.rina_data.specs.declared.link.Link.{Link}
use Rattle.rina_data.specs.declared.process.IpcProcess.{IpcProcess}
use Rattle.rina_data.specs.Deciding.{process_of}
use Rattle.rina_data.specs.Process.{Process}
use Rattle.rina_flood.specs.Members.{IsRunOf}
use Rattle.rina_flood.specs.Network.{Gone, There}
use Rattle.rina_flood.specs.Static.{LinkEnd}
use Rattle.rina_iface.proofs.Changed.{set_at, slice_get-set_other, slice_get-set_same}
use Rattle.rina_member.specs.Knowing.{HaveOwnNumbers}
use Rattle.rina_dif.specs.declared.dif.Dif.{Dif}
use Rattle.rina_dif.specs.Flooding.{AreFlooding, is_live_at, link_end, links_of, members_seen, state_by}
use Rattle.rina_dif.specs.LinkDue.{is_link_of}

-- Which link an attachment is of

pub is_its_link : (c : Attachment) (l : Link) → is_link_of c l ≡ true → (l.live ≡ true) × (l.number ≡ c.number) × (l.port ≡ c.port)
unfolding is_link_of
is_its_link c l h = grind arith

pub is_link_by : (c : Attachment) (l : Link) → l.live ≡ true → l.number ≡ c.number → l.port ≡ c.port → is_link_of c l ≡ true
unfolding is_link_of
is_link_by c l live number port = grind arith

-- a link is found among those of an IPC process where one is live
abbrev pub IsAmong : Attachment → List Link → Type 0
IsAmong c links = (place : ℕ) × (l : Link) × (slice_get links place ≡ Some l) × (is_link_of c l ≡ true)

among_one : (c : Attachment) (l : Link) (links : List Link) (b : Bool) → is_link_of c l ≡ b → (list_any (is_link_of c) links ≡ true → IsAmong c links) → (b || list_any (is_link_of c) links) ≡ true → IsAmong c (l ∷ links)
among_one c l links true is rest any = (0, l, refl, is)
among_one c l links false is rest any = (let r = rest any in (suc r.0, r.1, r.2, r.3))

pub link_among : (c : Attachment) (links : List Link) → list_any (is_link_of c) links ≡ true → IsAmong c links
link_among c [] h = absurd cc
link_among c (l ∷ links) h = among_one c l links (is_link_of c l) refl (λ any. link_among c links any) h

-- Live links stay

-- where the link of an attachment was live it still is, and no other is
abbrev pub StayLive : List IpcProcess → List IpcProcess → Type 0
StayLive old new = (place : ℕ) (attached : Attachment) → is_live_at new place attached ≡ is_live_at old place attached

state_stays : (old new : List IpcProcess) → StayLive old new → (place : ℕ) (o : Option Attachment) → state_by new place o ≡ state_by old place o
state_stays old new stay place None = refl
state_stays old new stay place (Some a) = ap (λ (b : Bool). cond b (There a.number) Gone) (stay place a)

-- then the ends are those that they were
pub ends_stay : (old new : List IpcProcess) → StayLive old new → (channels : List Channel) → map (link_end new) channels ≡ map (link_end old) channels
ends_stay old new stay channels = (λ i. map (λ (c : Channel). record { member = c.member; state = state_stays old new stay c.member c.link i }) channels)

-- and the members are the network that they were
pub live_floods : (d : Dif) (ps : List IpcProcess) → StayLive d.processes ps → AreFlooding d → AreFlooding (record d { processes = ps })
live_floods d ps stay r = subst (λ (ends : List LinkEnd). IsRunOf d.laid.is_static d.laid.links (record (members_seen d) { ends = ends })) (sym (ends_stay d.processes ps stay d.connections.channels)) r

-- the links of each IPC process but one are those that they were
pub links_beside : (ps : List IpcProcess) (at : ℕ) (p' : IpcProcess) (place : ℕ) → (place ≡ at → ⊥) → links_of (slice_get (slice_set ps at p') place) ≡ links_of (slice_get ps place)
links_beside ps at p' place other = ap links_of (slice_get-set_other ps at place p' other)

pub links_here : (ps : List IpcProcess) (at : ℕ) (p p' : IpcProcess) → slice_get ps at ≡ Some p → links_of (slice_get (slice_set ps at p') at) ≡ p'.links
links_here ps at p p' is = ap links_of (slice_get-set_same ps at p p' is)

-- one with the same links stands in the place of an IPC process
pub set_stays : (ps : List IpcProcess) (at : ℕ) (p p' : IpcProcess) → slice_get ps at ≡ Some p → p'.links ≡ p.links → StayLive ps (slice_set ps at p')
set_stays ps at p p' is same place a = elim (eqb_tells place at) [
  | inl t ↦
      (let there : links_of (slice_get (slice_set ps at p') at) ≡ links_of (slice_get ps at) = links_here ps at p p' is ∙ same ∙ ap links_of (sym is) in
      subst (λ (k : ℕ). is_live_at (slice_set ps at p') k a ≡ is_live_at ps k a) (sym t.1) (ap (list_any (is_link_of a)) there))
  | inr u ↦ ap (list_any (is_link_of a)) (links_beside ps at p' place u.1)
]

-- The end of a live link

shown_links : (ps : List IpcProcess) (place : ℕ) (x : Process) → slice_get (map process_of ps) place ≡ Some x → links_of (slice_get ps place) ≡ x.links
shown_links [] place x is = absurd cc
shown_links (p ∷ ps) zero x is = ap (λ (z : Process). z.links) (let same : process_of p ≡ x = cc in same)
shown_links (p ∷ ps) (suc place) x is = shown_links ps place x is

pub live_there : (ps : List IpcProcess) (place : ℕ) (a : Attachment) → HasLive (map process_of ps) place a.number a.port → is_live_at ps place a ≡ true
live_there ps place a live =
    let links = shown_links ps place live.process live.is_process in
    let there : list_any (is_link_of a) live.process.links ≡ true = list_any_at (is_link_of a) live.process.links live.place live.link (slice_get_within live.process.links live.place live.link live.stands) (ap (is_link_of a) (get_or_from_slice_get live.process.links live.place live.link live.link live.stands) ∙ is_link_by a live.link live.live live.number_is live.port_is) in
    ap (list_any (is_link_of a)) links ∙ there

-- it is there, with its number
pub state_there : (ps : List IpcProcess) (place : ℕ) (a : Attachment) → HasLive (map process_of ps) place a.number a.port → state_by ps place (Some a) ≡ There a.number
state_there ps place a live = ap (λ (b : Bool). cond b (There a.number) Gone) (live_there ps place a live)

pub end_there : (ps : List IpcProcess) (c : Channel) (live : IsLive (map process_of ps) c) → link_end ps c ≡ record { member = c.member; state = There live.link.number }
end_there ps c live =
    let state : state_by ps c.member c.link ≡ There live.link.number = ap (state_by ps c.member) live.link_is ∙ state_there ps c.member live.link live.live in
    (λ i. record { member = c.member; state = state i })

-- One link is lost

-- a test is passed as before where one element stands in the place of another that it judges alike
any_but : {X : Type 0} (test : X → Bool) (xs : List X) (place : ℕ) (x y : X) → slice_get xs place ≡ Some x → test y ≡ test x → list_any test (slice_set xs place y) ≡ list_any test xs
any_but test [] place x y is same = absurd cc
any_but test (z ∷ xs) zero x y is same = (let it : z ≡ x = cc in ap (λ (b : Bool). b || list_any test xs) (same ∙ ap test (sym it)))
any_but test (z ∷ xs) (suc place) x y is same = ap (λ (b : Bool). test z || b) (any_but test xs place x y is same)

not_live : (a : Attachment) (l : Link) → is_link_of a (record l { live = false }) ≡ false
not_live a l = elim (cases_Bool (is_link_of a (record l { live = false }))) [
  | inl same ↦ absurd (false≢true (is_its_link a (record l { live = false }) same).0)
  | inr differs ↦ differs
]

-- an IPC process with links of different numbers loses a live one of them, and is another then
pub record LosesOne (ps : List IpcProcess) (at : ℕ) (p p' : IpcProcess) (link : Link) : Type 0 where
  pub is : slice_get ps at ≡ Some p
  pub place : ℕ
  pub stands : slice_get p.links place ≡ Some link
  pub live : link.live ≡ true
  pub numbers : HaveOwnNumbers p.links
  pub links_are : p'.links ≡ slice_set p.links place (record link { live = false })

-- all other links stay
pub others_live : (ps : List IpcProcess) (at : ℕ) (p p' : IpcProcess) (link : Link) → LosesOne ps at p p' link → (place : ℕ) (a : Attachment) → is_link_of a link ≡ false → is_live_at (slice_set ps at p') place a ≡ is_live_at ps place a
others_live ps at p p' link l place a other = elim (eqb_tells place at) [
  | inl t ↦
      (let there : list_any (is_link_of a) (links_of (slice_get (slice_set ps at p') at)) ≡ list_any (is_link_of a) (links_of (slice_get ps at)) =
      ap (list_any (is_link_of a)) (links_here ps at p p' l.is ∙ l.links_are) ∙ any_but (is_link_of a) p.links l.place link (record link { live = false }) l.stands (not_live a link ∙ sym other) ∙ ap (λ (o : Option IpcProcess). list_any (is_link_of a) (links_of o)) (sym l.is) in
      subst (λ (k : ℕ). is_live_at (slice_set ps at p') k a ≡ is_live_at ps k a) (sym t.1) there)
  | inr u ↦ ap (list_any (is_link_of a)) (links_beside ps at p' place u.1)
]

-- and the link is none any more
none_left : (links : List Link) (place : ℕ) (link : Link) (a : Attachment) → slice_get links place ≡ Some link → link.live ≡ true → HaveOwnNumbers links → link.number ≡ a.number → list_any (is_link_of a) (slice_set links place (record link { live = false })) ≡ false
none_left links place link a stands live numbers number_is = elim (cases_Bool (list_any (is_link_of a) (slice_set links place (record link { live = false })))) [
  | inl any ↦
      (let l = link_among a (slice_set links place (record link { live = false })) any in
      let its = is_its_link a l.1 l.3 in
      elim (set_at links place l.0 link (record link { live = false }) l.1 stands l.2) [
        | inl t ↦ absurd (false≢true (ap (λ (z : Link). z.live) (sym t.1) ∙ its.0))
        | inr u ↦ absurd (u.0 (numbers l.0 place l.1 link u.1 stands its.0 live (its.1 ∙ sym number_is)))
      ])
  | inr none ↦ none
]

pub lost_not_live : (ps : List IpcProcess) (at : ℕ) (p p' : IpcProcess) (link : Link) → LosesOne ps at p p' link → (a : Attachment) → link.number ≡ a.number → is_live_at (slice_set ps at p') at a ≡ false
lost_not_live ps at p p' link l a number_is = ap (list_any (is_link_of a)) (links_here ps at p p' l.is ∙ l.links_are) ∙ none_left p.links l.place link a l.stands l.live l.numbers number_is

-- lists that two functions make of one agree where the functions do
pub same_all : {X Y : Type 0} (f g : X → Y) (xs : List X) → ((k : ℕ) (x : X) → slice_get xs k ≡ Some x → g x ≡ f x) → map g xs ≡ map f xs
same_all f g [] same = refl
same_all f g (x ∷ xs) same = (let here = same 0 x refl in let rest = same_all f g xs (λ k y is. same (suc k) y is) in λ i. here i ∷ rest i)

pub same_but_one : {X Y : Type 0} (f g : X → Y) (xs : List X) (place : ℕ) (x : X) → slice_get xs place ≡ Some x → ((k : ℕ) (y : X) → slice_get xs k ≡ Some y → (k ≡ place → ⊥) → g y ≡ f y) → map g xs ≡ slice_set (map f xs) place (g x)
same_but_one f g [] place x is same = absurd cc
same_but_one f g (y ∷ xs) zero x is same =
    let it : y ≡ x = cc in
    let rest = same_all f g xs (λ k z is'. same (suc k) z is' (λ e. absurd cc)) in
    (λ i. g (it i) ∷ rest i)
same_but_one f g (y ∷ xs) (suc place) x is same =
    let here = same 0 y refl (λ e. absurd cc) in
    let rest = same_but_one f g xs place x is (λ k z is' other. same (suc k) z is' (λ e. other (let less : k ≡ place = cc in less))) in
    (λ i. here i ∷ rest i)
