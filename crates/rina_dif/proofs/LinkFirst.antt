-- The first item that is due at the management connections of an IPC process.
use Rattle.std.proofs.Common.{◌≡◌, ◌∙◌, ℕ, ◌+◌, ◌<◌, ◌≤◌, ◌⊎◌, Bool, true, false, cond, leb, leb-true, leb-false, List, length, get_or, slice_get, slice_index_or, Option, Some, None, refl, sym, ap, subst, arith, inl, inr}
use Rattle.std.proofs.lemmas.Bool.{cases_lt, false≢true}
use Rattle.std.proofs.lemmas.List.{get_or_default}
use Rattle.std.specs.List.{list_any}
use Rattle.std.proofs.lemmas.List.Folds.{list_any_at}
use Rattle.std.proofs.lemmas.Option.{get_or_from_slice_get, slice_get_within}
use Rattle.rina_channel.specs.declared.channel.Attachment.{Attachment}
use Rattle.rina_channel.specs.declared.channel.Channel.{Channel}
use Rattle.rina_flows.specs.declared.due.Item.{Item}
use Rattle.rina_flows.specs.declared.due.Item.TheVariants.{Ack, Again, GiveUp, Gone}
use Rattle.rina_flows.specs.Quiet.{IsBeside}
use Rattle.rina_flows.specs.Timely.{DueIn}
use Rattle.rina_flows.specs.Watching.{NoneDueBeside}
use Rattle.rina_channel.specs.Names.{link_config}
use Rattle.rina_iface.specs.declared.state.PortState.TheVariants.{Allocated}
use Rattle.rina_iface.specs.declared.ends.End.{End}
use Rattle.rina_iface.specs.Seen.{Seen}
use Rattle.rina_law.specs.Direction.{Direction}
use Rattle.rina_data.specs.Configs.{config_of}
use Rattle.rina_dif.specs.declared.dif.Dif.{Dif}
use Rattle.rina_dif.specs.declared.links_due.LinkTurn.{LinkTurn}
use Rattle.rina_dif.specs.Clocking.{FindsLinkFirst, IsIdle, IsLinkFirst, IsTurn, NoneBefore, NoneDue}
use Rattle.rina_channel.specs.Channels.{IsLive}
use Rattle.rina_data.specs.declared.link.Link.{Link}
use Rattle.rina_data.specs.declared.process.IpcProcess.{IpcProcess}
use Rattle.rina_data.specs.Deciding.{process_of}
use Rattle.rina_data.specs.Process.{Process}
use Rattle.rina_dif.proofs.Leaves.{shown_at}
use Rattle.rina_dif.proofs.LinkEnds.{is_its_link, is_link_by, link_among}
use Rattle.rina_dif.specs.LinkDue.{is_link_of, FindsFirstLink, IsLinkDue, IsLinkTurn, NoLinkBefore, NoLinkDue, NoLinkUpTo, TellsLinkDue, lesser_link, rank_of}
use Rattle.rina_dif.specs.Holding.{LinksStand}
use Rattle.rina_dif.specs.Shown.{seen_of}

same_some : {X : Type 0} (o : Option X) (a b : X) → o ≡ Some a → o ≡ Some b → a ≡ b
same_some o a b h g = cc

-- Whether the item is due at one place

none_its : (c : Attachment) (links : List Link) (place : ℕ) (l : Link) → list_any (is_link_of c) links ≡ false → slice_get links place ≡ Some l → is_link_of c l ≡ true → ⊥
none_its c links place l none at is = false≢true (sym none ∙ list_any_at (is_link_of c) links place l (slice_get_within links place l at) (ap (is_link_of c) (get_or_from_slice_get links place l l at) ∙ is))

-- the link of a channel is a live one of this IPC process
pub live_link : (d : Dif) (i : ℕ) (p : IpcProcess) (c : Channel) (a : Attachment) → slice_get d.processes i ≡ Some p → c.member ≡ i → c.link ≡ Some a → list_any (is_link_of a) p.links ≡ true → IsLive (seen_of d).processes c
live_link d i p c a is member attached any =
    let l = link_among a p.links any in
    let its = is_its_link a l.1 l.3 in
    record {
      link = a;
      link_is = attached;
      live = record {
        process = process_of p;
        is_process = ap (slice_get (seen_of d).processes) member ∙ shown_at d i p is;
        place = l.0;
        link = l.1;
        stands = l.2;
        live = its.0;
        number_is = its.1;
        port_is = its.2;
      };
    }

-- it is none
pub no_live_link : (d : Dif) (i : ℕ) (p : IpcProcess) (c : Channel) (a : Attachment) → slice_get d.processes i ≡ Some p → c.member ≡ i → c.link ≡ Some a → list_any (is_link_of a) p.links ≡ false → IsLive (seen_of d).processes c → ⊥
no_live_link d i p c a is member attached none its =
    let live = its.live in
    let same : live.process ≡ process_of p = same_some (slice_get (seen_of d).processes c.member) live.process (process_of p) live.is_process (ap (slice_get (seen_of d).processes) member ∙ shown_at d i p is) in
    let on : its.link ≡ a = same_some c.link its.link a its.link_is attached in
    none_its a p.links live.place live.link none (ap (λ (z : Process). slice_get z.links live.place) (sym same) ∙ live.stands) (is_link_by a live.link live.live (live.number_is ∙ ap (λ (z : Attachment). z.number) on) (live.port_is ∙ ap (λ (z : Attachment). z.port) on))

-- Of the places that were looked at the one of the least number

pub record IsLeast (Due : ℕ → ℕ → Type 0) (Looked : ℕ → Type 0) (turn : LinkTurn) : Type 0 where
  pub due : Due turn.place turn.number
  pub least : (other its : ℕ) → Looked other → Due other its → turn.number ≤ its

abbrev pub FindsOf : (ℕ → ℕ → Type 0) → (ℕ → Type 0) → Option LinkTurn → Type 0
FindsOf Due Looked (Some turn) = IsLeast Due Looked turn
FindsOf Due Looked None = (place number : ℕ) → Looked place → Due place number → ⊥

-- a link has one number
abbrev HasOne : (ℕ → ℕ → Type 0) → ℕ → ℕ → Type 0
HasOne Due place number = (its : ℕ) → Due place its → its ≡ number

-- the places that were looked at before, and this one
abbrev WithOne : (ℕ → Type 0) → (ℕ → Type 0) → ℕ → Type 0
WithOne Old New n = (other : ℕ) → New other → Old other ⊎ (other ≡ n)

lesser_of : (Due : ℕ → ℕ → Type 0) (Old New : ℕ → Type 0) (first turn : LinkTurn) (b : Bool) → WithOne Old New turn.place → leb first.number turn.number ≡ b → IsLeast Due Old first → Due turn.place turn.number → HasOne Due turn.place turn.number → IsLeast Due New (cond b first turn)
lesser_of Due Old New first turn true one e f due own =
    let le : first.number ≤ turn.number = leb-true first.number turn.number e in
    record {
      due = f.due;
      least = λ other its before is_due. elim (one other before) [
        | inl l ↦ f.least other its l is_due
        | inr same ↦ (let is = own its (subst (λ (n : ℕ). Due n its) same is_due) in omega (arith, le, is))
      ];
    }
lesser_of Due Old New first turn false one e f due own =
    let gt : turn.number < first.number = leb-false first.number turn.number e in
    record {
      due = due;
      least = λ other its before is_due. elim (one other before) [
        | inl l ↦ (let least = f.least other its l is_due in omega (arith, gt, least))
        | inr same ↦ (let is = own its (subst (λ (n : ℕ). Due n its) same is_due) in omega (arith, is))
      ];
    }

with_one : (Due : ℕ → ℕ → Type 0) (Old New : ℕ → Type 0) (first : Option LinkTurn) (turn : LinkTurn) → WithOne Old New turn.place → FindsOf Due Old first → Due turn.place turn.number → HasOne Due turn.place turn.number → FindsOf Due New (Some (lesser_link first turn))
with_one Due Old New (Some first) turn one f due own = lesser_of Due Old New first turn (leb first.number turn.number) one refl f due own
with_one Due Old New None turn one f due own = record {
  due = due;
  least = λ other its before is_due. elim (one other before) [
    | inl l ↦ absurd (f other its l is_due)
    | inr same ↦ (let is = own its (subst (λ (n : ℕ). Due n its) same is_due) in omega (arith, is))
  ];
}

without_one : (Due : ℕ → ℕ → Type 0) (Old New : ℕ → Type 0) (first : Option LinkTurn) (n : ℕ) → WithOne Old New n → FindsOf Due Old first → ((number : ℕ) → Due n number → ⊥) → FindsOf Due New first
without_one Due Old New None n one f none = λ place number looked due. elim (one place looked) [ inl l ↦ f place number l due | inr same ↦ none number (subst (λ (k : ℕ). Due k number) same due) ]
without_one Due Old New (Some turn) n one f none = record {
  due = f.due;
  least = λ other its looked is_due. elim (one other looked) [ inl l ↦ f.least other its l is_due | inr same ↦ absurd (none its (subst (λ (k : ℕ). Due k its) same is_due)) ];
}

-- whatever directions stand behind the connections
abbrev pub FoundOf : Item → Dif → ℕ → (ℕ → Type 0) → Option LinkTurn → Type 0
FoundOf item d i Looked first = (below : Seen) (links : LinksStand d below) → FindsOf (IsLinkDue item d links.lines i) Looked first

abbrev pub Tells : Item → Dif → ℕ → ℕ → Option ℕ → Type 0
Tells item d i place told = (below : Seen) (links : LinksStand d below) → TellsLinkDue item d links.lines i place told

one_number : (item : Item) (d : Dif) (links : List Direction) (i place number : ℕ) → IsLinkDue item d links i place number → HasOne (IsLinkDue item d links i) place number
one_number item d links i place number due its other =
    let same = same_some (slice_get d.connections.channels place) other.here.channel due.here.channel other.here.stands due.here.stands in
    let attached : other.here.live.link ≡ due.here.live.link = same_some due.here.channel.link other.here.live.link due.here.live.link (ap (λ (c : Channel). c.link) (sym same) ∙ other.here.live.link_is) due.here.live.link_is in
    other.here.number_is ∙ ap (λ (a : Attachment). a.number) attached ∙ sym due.here.number_is

found_one : (item : Item) (d : Dif) (i : ℕ) (Old New : ℕ → Type 0) (first : Option LinkTurn) (place number : ℕ) → WithOne Old New place → FoundOf item d i Old first → Tells item d i place (Some number) → FoundOf item d i New (Some (lesser_link first (record { place = place; number = number })))
found_one item d i Old New first place number one f tells below links =
    let due = tells below links in
    with_one (IsLinkDue item d links.lines i) Old New first (record { place = place; number = number }) one (f below links) due (one_number item d links.lines i place number due)

found_none : (item : Item) (d : Dif) (i : ℕ) (Old New : ℕ → Type 0) (first : Option LinkTurn) (place : ℕ) → WithOne Old New place → FoundOf item d i Old first → Tells item d i place None → FoundOf item d i New first
found_none item d i Old New first place one f tells below links = without_one (IsLinkDue item d links.lines i) Old New first place one (f below links) (tells below links)

pub due_within : (item : Item) (d : Dif) (below : Seen) (links : LinksStand d below) (i place number : ℕ) → IsLinkDue item d links.lines i place number → place < length d.connections.flows.conns
due_within item d below links i place number due =
    let lt = slice_get_within d.connections.flows.journal.ends place due.here.end due.here.is_end in
    let same = links.tied.alike in
    omega (arith, lt, same)

-- At one place

-- its link is not a live one of the IPC process
pub tells_not_live : (item : Item) (d : Dif) (i place : ℕ) (p : IpcProcess) (c : Channel) (a : Attachment) → slice_get d.connections.channels place ≡ Some c → slice_get d.processes i ≡ Some p → c.member ≡ i → c.link ≡ Some a → list_any (is_link_of a) p.links ≡ false → Tells item d i place None
tells_not_live item d i place p c a stands is member attached none below links number due =
    let same : due.here.channel ≡ c = same_some (slice_get d.connections.channels place) due.here.channel c due.here.stands stands in
    no_live_link d i p c a is member attached none (subst (λ (z : Channel). IsLive (seen_of d).processes z) same due.here.live)

-- it has no link
pub tells_unlinked : (item : Item) (d : Dif) (i place : ℕ) (c : Channel) → slice_get d.connections.channels place ≡ Some c → c.link ≡ None → Tells item d i place None
tells_unlinked item d i place c stands none below links number due =
    let same : due.here.channel ≡ c = same_some (slice_get d.connections.channels place) due.here.channel c due.here.stands stands in
    let is : Some due.here.live.link ≡ None = sym due.here.live.link_is ∙ ap (λ (z : Channel). z.link) same ∙ none in
    absurd cc

-- it has no connection
pub tells_no_conn : (item : Item) (d : Dif) (i place : ℕ) → length d.connections.flows.conns ≤ place → Tells item d i place None
tells_no_conn item d i place le below links number due = (let lt = due_within item d below links i place number due in absurd (omega (arith, lt, le)))

pub tells_due : (item : Item) (d : Dif) (i place : ℕ) (p : IpcProcess) (c : Channel) (a : Attachment) (end : End) (r : Bool) → slice_get d.connections.channels place ≡ Some c → slice_get d.connections.flows.journal.ends place ≡ Some end → end.state ≡ Allocated → slice_get d.processes i ≡ Some p → c.member ≡ i → c.link ≡ Some a → list_any (is_link_of a) p.links ≡ true → DueIn item d.clock place d.connections.flows r → r ≡ true → Tells item d i place (Some a.number)
unfolding live_link
tells_due item d i place p c a end r stands is_end allocated is member attached any tells due below links = record {
  here = record { channel = c; stands = stands; member = member; live = live_link d i p c a is member attached any; number_is = refl; end = end; is_end = is_end; allocated = allocated };
  due = (tells (link_config (config_of d.settings) d.connections.manage) links.lines end links.standing.journal links.tied is_end allocated).0 due;
}

-- The places before n

abbrev pub Before : ℕ → ℕ → Type 0
Before n at = at < n

before_or_at : (other n : ℕ) → other < n + 1 → (other < n) ⊎ (other ≡ n)
before_or_at other n lt = elim (cases_lt other n) [ inl l ↦ inl l | inr g ↦ inr (omega (arith, lt, g)) ]

pub none_before : (item : Item) (d : Dif) (i : ℕ) → FoundOf item d i (Before 0) None
none_before item d i below links place number lt due = absurd (omega (arith, lt))

pub before_here : (item : Item) (d : Dif) (i n number : ℕ) (first : Option LinkTurn) → FoundOf item d i (Before n) first → Tells item d i n (Some number) → FoundOf item d i (Before (n + 1)) (Some (lesser_link first (record { place = n; number = number })))
before_here item d i n number first f tells = found_one item d i (Before n) (Before (n + 1)) first n number (λ other b. before_or_at other n b) f tells

pub before_not : (item : Item) (d : Dif) (i n : ℕ) (first : Option LinkTurn) → FoundOf item d i (Before n) first → Tells item d i n None → FoundOf item d i (Before (n + 1)) first
before_not item d i n first f tells = found_none item d i (Before n) (Before (n + 1)) first n (λ other b. before_or_at other n b) f tells

pub before_all : (item : Item) (d : Dif) (i n : ℕ) (first : Option LinkTurn) → length d.connections.flows.conns ≤ n → FoundOf item d i (Before n) first → (below : Seen) (links : LinksStand d below) → FindsFirstLink item d links.lines i first
before_all item d i n None le f below links = λ place number due. (let lt = due_within item d below links i place number due in f below links place number (omega (arith, lt, le)) due)
before_all item d i n (Some turn) le f below links =
    let x = f below links in
    record {
      due = x.due;
      least = λ other its due. (let lt = due_within item d below links i other its due in x.least other its (omega (arith, lt, le)) due);
    }

-- The first n of some places

abbrev pub Among : List ℕ → ℕ → ℕ → Type 0
Among places n at = (k : ℕ) × (k < n) × (slice_index_or places k at ≡ at)

among_or_at : (places : List ℕ) (n place : ℕ) → n < length places → place ≡ get_or places n 0 → WithOne (Among places n) (Among places (n + 1)) place
among_or_at places n place lt is other (k, before, same) = elim (before_or_at k n before) [
  | inl l ↦ inl (k, l, same)
  | inr e ↦
      (let there' : slice_index_or places n other ≡ other = subst (λ i. slice_index_or places i other ≡ other) e same in
      inr (sym there' ∙ get_or_default places n other 0 lt ∙ sym is))
]

pub none_among : (item : Item) (d : Dif) (i : ℕ) (places : List ℕ) → FoundOf item d i (Among places 0) None
none_among item d i places below links place number (k, lt, is) due = absurd (omega (arith, lt))

pub among_here : (item : Item) (d : Dif) (i n place number : ℕ) (places : List ℕ) (first : Option LinkTurn) → n < length places → place ≡ get_or places n 0 → FoundOf item d i (Among places n) first → Tells item d i place (Some number) → FoundOf item d i (Among places (n + 1)) (Some (lesser_link first (record { place = place; number = number })))
among_here item d i n place number places first lt is f tells = found_one item d i (Among places n) (Among places (n + 1)) first place number (among_or_at places n place lt is) f tells

pub among_not : (item : Item) (d : Dif) (i n place : ℕ) (places : List ℕ) (first : Option LinkTurn) → n < length places → place ≡ get_or places n 0 → FoundOf item d i (Among places n) first → Tells item d i place None → FoundOf item d i (Among places (n + 1)) first
among_not item d i n place places first lt is f tells = found_none item d i (Among places n) (Among places (n + 1)) first place (among_or_at places n place lt is) f tells

none_beside : (item : Item) (d : Dif) (below : Seen) (links : LinksStand d below) (i place number : ℕ) (places : List ℕ) → NoneDueBeside d.clock places d.connections.flows → IsBeside places place → IsLinkDue item d links.lines i place number → ⊥
none_beside item d below links i place number places none beside due = false≢true ((none place beside item _ links.lines due.here.end links.standing.journal links.tied due.here.is_end due.here.allocated).1 due.due)

pub among_all : (item : Item) (d : Dif) (i n : ℕ) (places : List ℕ) (first : Option LinkTurn) → NoneDueBeside d.clock places d.connections.flows → n ≡ length places → FoundOf item d i (Among places n) first → (below : Seen) (links : LinksStand d below) → FindsFirstLink item d links.lines i first
among_all item d i n places None none all f below links = λ place number due.
    none_beside item d below links i place number places none (λ c. f below links place number (c.0, subst (λ m. c.0 < m) (sym all) c.1, c.2) due) due
among_all item d i n places (Some turn) none all f below links =
    let x = f below links in
    record {
      due = x.due;
      least = λ other its due. elim (cases_lt its turn.number) [
        | inl lt ↦ absurd (none_beside item d below links i other its places none (λ c. (let le = x.least other its (c.0, subst (λ m. c.0 < m) (sym all) c.1, c.2) due in absurd (omega (arith, lt, le)))) due)
        | inr ge ↦ ge
      ];
    }

-- The first item of the links

pub no_link : (d : Dif) (links : List Direction) (i : ℕ) → NoLinkDue Gone d links i → NoLinkDue GiveUp d links i → NoLinkDue Ack d links i → NoLinkDue Again d links i → NoLinkUpTo Again d links i
no_link d links i gone give_up ack again = ((gone, give_up, ack), again)

-- Nothing is due

-- at the end of a place
abbrev pub IsQuietAt : Dif → ℕ → Type 0
IsQuietAt d place = (item : Item) (i : ℕ) → Tells item d i place None

pub quiet_without : (d : Dif) (place : ℕ) → length d.connections.flows.conns ≤ place → IsQuietAt d place
quiet_without d place le item i = tells_no_conn item d i place le

not_due : (item : Item) (d : Dif) (i place : ℕ) (told : Bool) → DueIn item d.clock place d.connections.flows told → told ≡ false → Tells item d i place None
not_due item d i place told tells fails below links number due = false≢true (sym fails ∙ (tells _ links.lines due.here.end links.standing.journal links.tied due.here.is_end due.here.allocated).1 due.due)

-- each item was looked at
pub quiet_at : (d : Dif) (place : ℕ) (a b c e : Bool) → DueIn Gone d.clock place d.connections.flows a → DueIn GiveUp d.clock place d.connections.flows b → DueIn Ack d.clock place d.connections.flows c → DueIn Again d.clock place d.connections.flows e → a ≡ false → b ≡ false → c ≡ false → e ≡ false → (item : Item) (i : ℕ) → Tells item d i place None
quiet_at d place a b c e ta tb tc te na nb nc ne Gone i = not_due Gone d i place a ta na
quiet_at d place a b c e ta tb tc te na nb nc ne GiveUp i = not_due GiveUp d i place b tb nb
quiet_at d place a b c e ta tb tc te na nb nc ne Ack i = not_due Ack d i place c tc nc
quiet_at d place a b c e ta tb tc te na nb nc ne Again i = not_due Again d i place e te ne

-- at the first n of these places
abbrev pub QuietAmong : Dif → List ℕ → ℕ → Type 0
QuietAmong d places n = (item : Item) (i : ℕ) → FoundOf item d i (Among places n) None

pub quiet_none : (d : Dif) (places : List ℕ) → QuietAmong d places 0
quiet_none d places item i = none_among item d i places

pub quiet_next : (d : Dif) (n place : ℕ) (places : List ℕ) → n < length places → place ≡ get_or places n 0 → QuietAmong d places n → IsQuietAt d place → QuietAmong d places (n + 1)
quiet_next d n place places lt is f quiet item i = among_not item d i n place places None lt is (f item i) (quiet item i)

-- all places were looked at beside which nothing is due
pub quiet_all : (d : Dif) (n : ℕ) (places : List ℕ) → NoneDueBeside d.clock places d.connections.flows → n ≡ length places → QuietAmong d places n → (i : ℕ) (below : Seen) (links : LinksStand d below) → NoLinkUpTo Again d links.lines i
quiet_all d n places none all f i below links = no_link d links.lines i
    (among_all Gone d i n places None none all (f Gone i) below links)
    (among_all GiveUp d i n places None none all (f GiveUp i) below links)
    (among_all Ack d i n places None none all (f Ack i) below links)
    (among_all Again d i n places None none all (f Again i) below links)

-- Links before flows

before_rank : (a b : Item) (d : Dif) (lines : List Direction) (node : ℕ) → NoneBefore b d lines node → rank_of a < rank_of b → NoneDue a d lines node
before_rank Gone Gone d lines node none lt = absurd (omega (arith, lt))
before_rank Gone GiveUp d lines node none lt = none
before_rank Gone Ack d lines node none lt = none.0
before_rank Gone Again d lines node none lt = none.0
before_rank GiveUp Gone d lines node none lt = absurd (omega (arith, lt))
before_rank GiveUp GiveUp d lines node none lt = absurd (omega (arith, lt))
before_rank GiveUp Ack d lines node none lt = none.1
before_rank GiveUp Again d lines node none lt = none.1
before_rank Ack Gone d lines node none lt = absurd (omega (arith, lt))
before_rank Ack GiveUp d lines node none lt = absurd (omega (arith, lt))
before_rank Ack Ack d lines node none lt = absurd (omega (arith, lt))
before_rank Ack Again d lines node none lt = none.2
before_rank Again Gone d lines node none lt = absurd (omega (arith, lt))
before_rank Again GiveUp d lines node none lt = absurd (omega (arith, lt))
before_rank Again Ack d lines node none lt = absurd (omega (arith, lt))
before_rank Again Again d lines node none lt = absurd (omega (arith, lt))

-- one item alone has its turn
turn_rank : (a b : Item) (d : Dif) (lines : List Direction) (node at cep at' cep' : ℕ) → IsTurn a d lines node at cep → IsTurn b d lines node at' cep' → rank_of a ≤ rank_of b
turn_rank a b d lines node at cep at' cep' s t = elim (cases_lt (rank_of b) (rank_of a)) [
  | inl lt ↦ absurd (before_rank b a d lines node s.before lt at' t.first.due)
  | inr ge ↦ ge
]

none_ranked : (a b : Item) (d : Dif) (lines : List Direction) (node : ℕ) → NoneBefore b d lines node → rank_of a ≤ rank_of b → NoneBefore a d lines node
none_ranked Gone b d lines node none le = tt
none_ranked GiveUp b d lines node none le = before_rank Gone b d lines node none (omega (arith, le))
none_ranked Ack b d lines node none le = (before_rank Gone b d lines node none (omega (arith, le)), before_rank GiveUp b d lines node none (omega (arith, le)))
none_ranked Again b d lines node none le = (before_rank Gone b d lines node none (omega (arith, le)), before_rank GiveUp b d lines node none (omega (arith, le)), before_rank Ack b d lines node none (omega (arith, le)))

idle_before : (a : Item) (d : Dif) (lines : List Direction) (node : ℕ) → IsIdle d lines node → NoneBefore a d lines node
idle_before Gone d lines node idle = tt
idle_before GiveUp d lines node idle = idle.gone
idle_before Ack d lines node idle = (idle.gone, idle.give_up)
idle_before Again d lines node idle = (idle.gone, idle.give_up, idle.ack)

links_up_to : (a b : Item) (d : Dif) (links : List Direction) (i : ℕ) → NoLinkBefore b d links i → rank_of a < rank_of b → NoLinkUpTo a d links i
links_up_to Gone Gone d links i none lt = absurd (omega (arith, lt))
links_up_to Gone GiveUp d links i none lt = (tt, none)
links_up_to Gone Ack d links i none lt = (tt, none.0)
links_up_to Gone Again d links i none lt = (tt, none.0)
links_up_to GiveUp Gone d links i none lt = absurd (omega (arith, lt))
links_up_to GiveUp GiveUp d links i none lt = absurd (omega (arith, lt))
links_up_to GiveUp Ack d links i none lt = (none.0, none.1)
links_up_to GiveUp Again d links i none lt = (none.0, none.1)
links_up_to Ack Gone d links i none lt = absurd (omega (arith, lt))
links_up_to Ack GiveUp d links i none lt = absurd (omega (arith, lt))
links_up_to Ack Ack d links i none lt = absurd (omega (arith, lt))
links_up_to Ack Again d links i none lt = ((none.0, none.1), none.2)
links_up_to Again Gone d links i none lt = absurd (omega (arith, lt))
links_up_to Again GiveUp d links i none lt = absurd (omega (arith, lt))
links_up_to Again Ack d links i none lt = absurd (omega (arith, lt))
links_up_to Again Again d links i none lt = absurd (omega (arith, lt))

pub all_up_to : (a : Item) (d : Dif) (links : List Direction) (i : ℕ) → NoLinkUpTo Again d links i → NoLinkUpTo a d links i
all_up_to Gone d links i none = (tt, none.0.0)
all_up_to GiveUp d links i none = (none.0.0, none.0.1)
all_up_to Ack d links i none = ((none.0.0, none.0.1), none.0.2)
all_up_to Again d links i none = none

-- no link is due
pub flows_alone : (d : Dif) (lines links : List Direction) (i node : ℕ) → NoLinkUpTo Again d links i → FindsLinkFirst d lines links i node None
flows_alone d lines links i node none (Some flow) finds = all_up_to flow.item d links i none
flows_alone d lines links i node none None finds = none

never_idle : (a : Item) (d : Dif) (lines : List Direction) (node at cep : ℕ) → IsTurn a d lines node at cep → IsIdle d lines node → ⊥
never_idle Gone d lines node at cep turn idle = idle.gone at turn.first.due
never_idle GiveUp d lines node at cep turn idle = idle.give_up at turn.first.due
never_idle Ack d lines node at cep turn idle = idle.ack at turn.first.due
never_idle Again d lines node at cep turn idle = idle.again at turn.first.due

-- a flow's item comes before that of each link
pub flow_before : (a b : Item) (d : Dif) (lines links : List Direction) (i node at cep : ℕ) → IsTurn a d lines node at cep → NoLinkBefore b d links i → rank_of a < rank_of b → FindsLinkFirst d lines links i node None
flow_before a b d lines links i node at cep turn none lt (Some flow) finds = (let le = turn_rank flow.item a d lines node flow.turn.place flow.turn.cep at cep finds turn in links_up_to flow.item b d links i none (omega (arith, lt, le)))
flow_before a b d lines links i node at cep turn none lt None finds = absurd (never_idle a d lines node at cep turn finds)

-- it does not
pub link_before : (a b : Item) (d : Dif) (lines links : List Direction) (i node at cep place number : ℕ) → IsTurn a d lines node at cep → IsLinkTurn b d links i place number → rank_of b ≤ rank_of a → IsLinkFirst b d lines links i node place number
link_before a b d lines links i node at cep place number turn link le = record { turn = link; flows = none_ranked b a d lines node turn.before le }

pub link_alone : (b : Item) (d : Dif) (lines links : List Direction) (i node place number : ℕ) → IsIdle d lines node → IsLinkTurn b d links i place number → IsLinkFirst b d lines links i node place number
link_alone b d lines links i node place number idle link = record { turn = link; flows = idle_before b d lines node idle }
