-- A member that tells short messages alone goes on to do so, whatever short message it handles.
use Rattle.std.proofs.Common.{◌≡◌, ◌∙◌, ◌⊎◌, inl, inr, ⊎_elim, ℕ, ◌+◌, ◌-◌, ◌*◌, ◌^◌, ◌<◌, ◌≤◌, ◌==◌, ◌&&◌, zero, suc, Bool, true, false, cond, List, [], ◌∷◌, ◌++◌, Option, Some, None, Result, Ok, Err, Contains, length, map, filter, take, drop, slice_set, refl, sym, ap, subst, arith, append_assoc, length-append}
use Rattle.std.specs.Prelude.{IfSome, codes, nat_le, nat_lt, remove, option_map, insert}
use Rattle.std.specs.Fmt.{decimal}
use Rattle.std.specs.List.{fold}
use Rattle.std.proofs.lemmas.Bool.{and_from, and_parts, le-leb, lt-ltb, or_right}
use Rattle.std.proofs.lemmas.Bool.Decides.{nat_tests}
use Rattle.std.proofs.lemmas.Fmt.{decimal_nonempty, length-decimal-le}
use Rattle.std.proofs.lemmas.List.{length-drop, length-map, length-take}
use Rattle.std.proofs.lemmas.List.Elements.{Contains-append_cases}
use Rattle.std.proofs.lemmas.Option.{same_Some}
use Rattle.rina_base.specs.Decimals.{decimal_from, is_digit}
use Rattle.rina_base.specs.Names.{app_at, is_name_byte, name_at}
use Rattle.rina_base.specs.ObjectNames.{IsObjectName, are_parts, is_object_byte, is_object_name}
use Rattle.rina_base.proofs.Decimals.{decimal_back, decimal_inside}
use Rattle.rina_base.proofs.Lengths.{app_short, name_short}
use Rattle.rina_cdap.specs.Messages.{IfThere}
use Rattle.rina_dir.specs.Directory.{key_byte, key_of}
use Rattle.rina_dir.proofs.Apart.{key_named}
use Rattle.rina_newest.specs.declared.item.Item.{Item}
use Rattle.rina_newest.specs.declared.item.Version.{Version}
use Rattle.rina_newest.specs.Newest.{is_newer, item_of, kept_at, taken}
use Rattle.rina_enrol.specs.Items.{AreInRange, neighbours_text}
use Rattle.rina_enrol.specs.Items.{Neighbour as Written, neighbour_text as written_text}
use Rattle.rina_route.specs.Written.{claim_text, claims_text}
use Rattle.rina_route.proofs.Lists.{cases, contains_filter, contains_unmap, head, in_none, tail}
use Rattle.rina_agent.specs.declared.agent.Agent.{Agent}
use Rattle.rina_agent.specs.declared.link.Link.{Link}
use Rattle.rina_agent.specs.declared.message.Waiting.{Waiting}
use Rattle.rina_agent.specs.declared.neighbours.Neighbour.{Neighbour}
use Rattle.rina_agent.specs.declared.state.AgentError.{AgentError}
use Rattle.rina_agent.specs.Agenda.{flood_on, floods, is_flooded, item_on, without_at, without_first}
use Rattle.rina_agent.specs.Counts.{spent, unless}
use Rattle.rina_agent.specs.Enrolments.{place_of}
use Rattle.rina_agent.specs.Items.{made, own_item, own_version, stated, took}
use Rattle.rina_agent.specs.Neighbours.{link_key, link_state, member_key, neighbour, neighbour_of, neighbours, with_any, with_link}
use Rattle.rina_agent.specs.Rows
use Rattle.rina_member.specs.Managements.{entry_of, takes_item}
use Rattle.rina_member.specs.Start.{first_version}
use Rattle.rina_member.specs.Short.{AreShort, IsLinkInRange, IsShort, IsShortItem, TellsShort}
use Rattle.rina_member.proofs.Items.{from_taken}
use Rattle.rina_member.proofs.Lists.{made_of}
use Rattle.rina_member.proofs.States.{edge_by, joined_text, rises_from}

-- Lists

pub set_cases : {A : Type 0} (xs : List A) (at : ℕ) (y x : A) → Contains (slice_set xs at y) x → Contains xs x ⊎ (y ≡ x)
set_cases [] at y x h = inl h
set_cases (z ∷ xs) zero y x h = ⊎_elim (λ same. inr same) (λ rest. inl (tail z xs x rest)) (cases y xs x h)
set_cases (z ∷ xs) (suc at) y x h = ⊎_elim
    (λ same. inl (subst (λ w. Contains (z ∷ xs) w) same (head z xs)))
    (λ rest. ⊎_elim (λ old. inl (tail z xs x old)) (λ new. inr new) (set_cases xs at y x rest))
    (cases z (slice_set xs at y) x h)

from_removed : {A : Type 0} (xs : List A) (at : ℕ) (x : A) → Contains (remove xs at) x → Contains xs x
from_removed [] zero x h = h
from_removed [] (suc at) x h = h
from_removed (z ∷ xs) zero x h = tail z xs x h
from_removed (z ∷ xs) (suc at) x h = ⊎_elim (λ same. subst (λ w. Contains (z ∷ xs) w) same (head z xs)) (λ rest. tail z xs x (from_removed xs at x rest)) (cases z (remove xs at) x h)

removed_few : {A : Type 0} (xs : List A) (at : ℕ) → length (remove xs at) ≤ length xs
removed_few [] zero = omega arith
removed_few [] (suc at) = omega arith
removed_few (z ∷ xs) zero = omega arith
removed_few (z ∷ xs) (suc at) = (let few = removed_few xs at in omega (arith, few))

pub from_without : {A : Type 0} (place : Option ℕ) (xs : List A) (x : A) → Contains (without_at place xs) x → Contains xs x
from_without None xs x h = h
from_without (Some at) xs x h = from_removed xs at x h

without_few : {A : Type 0} (place : Option ℕ) (xs : List A) → length (without_at place xs) ≤ length xs
without_few None xs = omega arith
without_few (Some at) xs = removed_few xs at

-- Keys

digit_apart : (b : ℕ) → is_digit b ≡ true → (b == 47) ≡ false
unfolding is_digit
digit_apart b h = grind (arith, nat_tests, h)

digit_good : (b : ℕ) → is_digit b ≡ true → is_object_byte b ≡ true
unfolding is_digit is_object_byte is_name_byte
digit_good b h = grind (arith, nat_tests, h)

digits_parts : (max m before : ℕ) (text : List ℕ) (n : ℕ) → decimal_from max m text ≡ Some n → 0 < before + length text → before + length text ≤ 130 → are_parts before text ≡ true
unfolding decimal_from are_parts
digits_parts max m before [] n e some short = le-leb 1 before (omega (arith, some))
digits_parts max m before (b ∷ text) n e some short =
    by_test (λ again. digits_parts max (m * 10 + (b - 48)) (before + 1) text n again (omega arith) (omega (arith, short))) (is_digit b && nat_le (m * 10 + (b - 48)) max) refl e
  where
    by_test : (decimal_from max (m * 10 + (b - 48)) text ≡ Some n → are_parts (before + 1) text ≡ true) → (c : Bool) → (is_digit b && nat_le (m * 10 + (b - 48)) max) ≡ c → cond c (decimal_from max (m * 10 + (b - 48)) text) None ≡ Some n → are_parts before (b ∷ text) ≡ true
    by_test next true t e =
        let digit : is_digit b ≡ true = (and_parts (is_digit b) (nat_le (m * 10 + (b - 48)) max) t).0 in
        let fits : nat_lt before 130 ≡ true = lt-ltb before 130 (omega (arith, short)) in
        let rest : are_parts (before + 1) text ≡ true = next e in
        rw (digit_apart b digit) (and_from (is_object_byte b && nat_lt before 130) (are_parts (before + 1) text) (and_from (is_object_byte b) (nat_lt before 130) (digit_good b digit) fits) rest)
    by_test next false t e = absurd cc

address_short : (a : ℕ) → a < 2 ^ 32 → length (decimal a) ≤ 10
address_short a small = length-decimal-le 10 a (omega arith) (omega arith) (omega arith)

address_parts : (a : ℕ) → a < 2 ^ 32 → are_parts 0 (decimal a) ≡ true
address_parts a small =
    let some = decimal_nonempty a (omega arith) in
    let short = address_short a small in
    digits_parts (2 ^ 32 - 1) 0 0 (decimal a) a (decimal_inside (2 ^ 32 - 1) (decimal a) a (decimal_back (2 ^ 32 - 1) a (omega arith) (omega arith))) (omega (arith, some)) (omega (arith, short))

link_parts : (parts : List ℕ) → are_parts 0 parts ≡ true → are_parts 0 (108 ∷ 105 ∷ 110 ∷ 107 ∷ 47 ∷ parts) ≡ true
unfolding are_parts is_object_byte is_name_byte
link_parts parts h = h

link_named : (parts : List ℕ) → are_parts 0 parts ≡ true → IsObjectName (codes "/link/" ++ parts)
unfolding is_object_name
link_named parts h = or_right (length (108 ∷ 105 ∷ 110 ∷ 107 ∷ 47 ∷ parts) == 0) (are_parts 0 (108 ∷ 105 ∷ 110 ∷ 107 ∷ 47 ∷ parts)) (link_parts parts h)

member_parts : (parts : List ℕ) → are_parts 0 parts ≡ true → are_parts 0 (109 ∷ 101 ∷ 109 ∷ 98 ∷ 101 ∷ 114 ∷ 47 ∷ parts) ≡ true
unfolding are_parts is_object_byte is_name_byte
member_parts parts h = h

member_named : (parts : List ℕ) → are_parts 0 parts ≡ true → IsObjectName (codes "/member/" ++ parts)
unfolding is_object_name
member_named parts h = or_right (length (109 ∷ 101 ∷ 109 ∷ 98 ∷ 101 ∷ 114 ∷ 47 ∷ parts) == 0) (are_parts 0 (109 ∷ 101 ∷ 109 ∷ 98 ∷ 101 ∷ 114 ∷ 47 ∷ parts)) (member_parts parts h)

-- Link states

abbrev written : Neighbour → Written
written n = record { address = n.address; weight = n.weight }

one_text : (own : ℕ) (n : Neighbour) → written_text (written n) ≡ claim_text (edge_by own n)
one_text own n = append_assoc (decimal n.address) (codes ":") (decimal n.weight)

all_text : (own : ℕ) (ns : List Neighbour) → neighbours_text (map written ns) ≡ claims_text (map (edge_by own) ns)
all_text own [] = refl
all_text own (n ∷ []) = one_text own n
all_text own (n ∷ m ∷ others) =
    append_assoc (written_text (written n)) (codes ",") (neighbours_text (map written (m ∷ others)))
    ∙ ap (λ (text : List ℕ). text ++ 44 ∷ neighbours_text (map written (m ∷ others))) (one_text own n)
    ∙ ap (λ (text : List ℕ). claim_text (edge_by own n) ++ 44 ∷ text) (all_text own (m ∷ others))

one_short : (n : Written) → n.address < 2 ^ 32 → n.weight < 2 ^ 16 → length (written_text n) ≤ 16
one_short n address weight =
    omega (
      arith,
      address_short n.address address,
      length-decimal-le 5 n.weight (omega arith) (omega arith) (omega arith),
      length-append (decimal n.address ++ codes ":") (decimal n.weight),
      length-append (decimal n.address) (codes ":"),
    )

all_short : (ns : List Written) → AreInRange ns → length (neighbours_text ns) ≤ 17 * length ns
all_short [] h = omega arith
all_short (n ∷ []) h = omega (arith, one_short n h.0 h.1)
all_short (n ∷ m ∷ others) h =
    omega (arith, one_short n h.0 h.1, all_short (m ∷ others) h.2, length-append (written_text n ++ codes ",") (neighbours_text (m ∷ others)), length-append (written_text n) (codes ","))

inserted_few : (ns : List Neighbour) (at : ℕ) (a : Neighbour) → length (insert ns at a) ≤ length ns + 1
inserted_few ns at a = omega (arith, length-append (take at ns) (a ∷ drop at ns), length-take at ns, length-drop at ns)

any_few : (ns : List Neighbour) (o : Option Neighbour) → length (with_any ns o) ≤ length ns + 1
any_few ns None = omega arith
any_few ns (Some a) = inserted_few ns _ a

few_from : (out : Option ℕ) (ns : List Neighbour) (links : List Link) → length (fold (with_link out) ns links) ≤ length ns + length links
few_from out ns [] = omega arith
few_from out ns (l ∷ links) = (let one = any_few ns (neighbour_of out l) in let rest = few_from out (with_any ns (neighbour_of out l)) links in omega (arith, one, rest))

peer_ranged : (weight : ℕ) (peer : Option ℕ) (z : Neighbour) → IfThere peer (2 ^ 32) → weight < 2 ^ 16 → option_map (neighbour weight) peer ≡ Some z → (z.address < 2 ^ 32) × (z.weight < 2 ^ 16)
peer_ranged weight None z small light is = absurd cc
peer_ranged weight (Some address) z small light is = subst (λ (n : Neighbour). (n.address < 2 ^ 32) × (n.weight < 2 ^ 16)) (same_Some (neighbour weight address) z is) (small, light)

flooded_ranged : (b : Bool) (l : Link) (z : Neighbour) → IsLinkInRange l → cond b (option_map (neighbour l.weight) l.peer) None ≡ Some z → (z.address < 2 ^ 32) × (z.weight < 2 ^ 16)
flooded_ranged true l z h is = (let fits = h.weight in peer_ranged l.weight l.peer z h.peer (omega (arith, fits)) is)
flooded_ranged false l z h is = absurd cc

neighbour_ranged : (out : Option ℕ) (l : Link) (z : Neighbour) → IsLinkInRange l → neighbour_of out l ≡ Some z → (z.address < 2 ^ 32) × (z.weight < 2 ^ 16)
unfolding neighbour_of
neighbour_ranged out l z h is = flooded_ranged (is_flooded out l) l z h is

all_ranged : (ns : List Neighbour) → ((z : Neighbour) → Contains ns z → (z.address < 2 ^ 32) × (z.weight < 2 ^ 16)) → AreInRange (map written ns)
all_ranged [] h = tt
all_ranged (n ∷ ns) h = (let one = h n (head n ns) in (one.0, one.1, all_ranged ns (λ z among. h z (tail n ns z among))))

module _ (out : Option ℕ) (links : List Link) (few : length links ≤ 16) (ranges : (l : Link) → Contains links l → IsLinkInRange l) where
  ranged : AreInRange (map written (neighbours out links))
  ranged = all_ranged (neighbours out links) (λ z among. ⊎_elim
      (λ none. absurd (in_none z none))
      (λ from. (let r = made_of (neighbour_of out) links z from in neighbour_ranged out r.0 z (ranges r.0 r.1) r.2))
      (rises_from out [] links z among))

  few_written : length (map written (neighbours out links)) ≤ 16
  few_written = (let same = length-map (neighbours out links) written in let fits = few_from out [] links in omega (arith, same, fits, few))

  state_text : link_state out links ≡ neighbours_text (map written (neighbours out links))
  state_text = joined_text 0 (neighbours out links) ∙ sym (all_text 0 (neighbours out links))

  pub state_short : (a : ℕ) (v : Version) → a < 2 ^ 32 → IsShortItem (item_of (link_key a) v (Some (link_state out links)))
  state_short a v small =
      let key = address_short a small in
      let long = length-append (codes "/link/") (decimal a) in
      let text = all_short (map written (neighbours out links)) ranged in
      let size = ap (λ (bytes : List ℕ). length bytes) state_text in
      let fits = few_written in (
        (link_named (decimal a) (address_parts a small), omega (arith, key, long), omega (arith, text, size, fits)),
        inl (record { address = a; neighbours = map written (neighbours out links); small = small; few = few_written; ranges = ranged; key = refl; value = state_text }),
      )

pub member_short : (a : ℕ) (v : Version) (node : List ℕ) → a < 2 ^ 32 → name_at node ≡ Ok node → IsShortItem (item_of (member_key a) v (Some node))
member_short a v node small name =
    let key = address_short a small in
    let long = length-append (codes "/member/") (decimal a) in
    let text = name_short node node name in (
      (member_named (decimal a) (address_parts a small), omega (arith, key, long), omega (arith, text)),
      inr (inl (record { address = a; node = node; small = small; name = name; key = refl; value = refl })),
    )

pub key_shown : (app : List ℕ) → key_of app ≡ codes "/dir/" ++ map (λ b. cond (b == 47) 33 b) app
unfolding key_of key_byte
key_shown app = refl

pub key_short : (app : List ℕ) → app_at app ≡ Ok app → length (key_of app) ≤ 134
unfolding key_of
key_short app name = omega (arith, length-append (codes "/dir/") (map key_byte app), length-map app key_byte, app_short app app name)

-- with an address, in any version
pub address_entry_short : (app : List ℕ) (v : Version) (address : ℕ) → app_at app ≡ Ok app → address < 2 ^ 32 → IsShortItem (item_of (key_of app) v (Some (decimal address)))
address_entry_short app v address name small =
    let key = key_short app name in
    let text = address_short address small in (
      (key_named app name, omega (arith, key), omega (arith, text)),
      inr (inr (record { app = app; address = address; small = small; name = name; key = key_shown app; value = refl })),
    )

-- a deletion
no_entry_short : (app : List ℕ) (v : Version) → app_at app ≡ Ok app → IsShortItem (item_of (key_of app) v None)
no_entry_short app v name =
    let key = key_short app name in (
      (key_named app name, omega (arith, key), omega arith),
      inr (inr (record { app = app; address = 0; small = omega arith; name = name; key = key_shown app; value = tt })),
    )

own_entry_short : (app : List ℕ) (v : Version) (address : ℕ) (value : Option (List ℕ)) → app_at app ≡ Ok app → address < 2 ^ 32 → IfSome value (λ text. text ≡ decimal address) → IsShortItem (item_of (key_of app) v value)
own_entry_short app v address None name small is = no_entry_short app v name
own_entry_short app v address (Some text) name small is = subst (λ (t : List ℕ). IsShortItem (item_of (key_of app) v (Some t))) (sym is) (address_entry_short app v address name small)

pub entry_short : (app : List ℕ) (address : ℕ) → app_at app ≡ Ok app → address < 2 ^ 32 → IsShortItem (entry_of app address)
entry_short app address name small = address_entry_short app (first_version address) address name small

-- Messages that wait

pub none_short : AreShort []
none_short w has = absurd (in_none w has)

pub both_short : (agenda more : List Waiting) → AreShort agenda → AreShort more → AreShort (agenda ++ more)
both_short agenda more old new w has = ⊎_elim (λ front. old w front) (λ back. new w back) (Contains-append_cases agenda more w has)

pub one_waits : (w : Waiting) → IsShort w.message → AreShort (w ∷ [])
one_waits w short z has = ⊎_elim (λ same. subst (λ (x : Waiting). IsShort x.message) same short) (λ none. absurd (in_none z none)) (cases w [] z has)

floods_short : (out : Option ℕ) (item : Item) (links : List Link) → IsShortItem item → AreShort (floods out item links)
floods_short out item links short w has =
    let r = contains_unmap (flood_on item) (filter (is_flooded out) links) w has in
    subst (λ (x : Waiting). IsShort x.message) r.2 short

pub all_on_short : (link : ℕ) (items : List Item) → ((item : Item) → Contains items item → IsShortItem item) → AreShort (map (item_on link) items)
all_on_short link items short w has =
    let r = contains_unmap (item_on link) items w has in
    subst (λ (x : Waiting). IsShort x.message) r.2 (short r.0 r.1)

taken_short : (items : List Item) (item : Item) → ((z : Item) → Contains items z → IsShortItem z) → IsShortItem item → (z : Item) → Contains (taken items item) z → IsShortItem z
taken_short items item old short z has = ⊎_elim (λ was. old z was) (λ same. subst (λ (x : Item). IsShortItem x) same short) (from_taken items item z has)

-- Items that are taken and made

takes_short : (out : Option ℕ) (g : Agent) (item : Item) (last : ℕ) → TellsShort g → IsShortItem item → TellsShort (record g { items = taken g.items item; last_count = last; agenda = g.agenda ++ floods out item g.links })
takes_short out g item last h short = record {
  address = h.address;
  name = h.name;
  node = h.node;
  items = taken_short g.items item h.items short;
  few = h.few;
  ranges = h.ranges;
  waiting = both_short g.agenda (floods out item g.links) h.waiting (floods_short out item g.links short);
}

took_by : (b : Bool) (link : ℕ) (g : Agent) (item : Item) → TellsShort g → IsShortItem item → TellsShort (cond b (record g { items = taken g.items item; agenda = g.agenda ++ floods (Some link) item g.links }) g)
took_by true link g item h short = takes_short (Some link) g item g.last_count h short
took_by false link g item h short = h

-- of a neighbour
pub took_short : (link : ℕ) (g : Agent) (item : Item) → TellsShort g → IsShortItem item → TellsShort (took link g item)
took_short link g item h short = took_by (is_newer item.version (kept_at g.items item.key)) link g item h short

-- of its own
pub made_short : (out : Option ℕ) (g : Agent) (now : ℕ) (key : List ℕ) (value : Option (List ℕ)) → TellsShort g → IsShortItem (own_item g now key value) → TellsShort (made out g now key value)
made_short out g now key value h short = takes_short out g (own_item g now key value) _ h short

pub stated_short : (out : Option ℕ) (g : Agent) (now : ℕ) → TellsShort g → TellsShort (stated out g now)
stated_short out g now h = made_short out g now (link_key g.address) (Some (link_state out g.links)) h (state_short out g.links h.few h.ranges g.address (own_version g now) h.address)

-- a directory entry of its own
pub makes_short : (g : Agent) (now : ℕ) (app : List ℕ) (value : Option (List ℕ)) → TellsShort g → app_at app ≡ Ok app → IfSome value (λ text. text ≡ decimal g.address) → TellsShort (made None g now (key_of app) value)
makes_short g now app value h name is = made_short None g now (key_of app) value h (own_entry_short app (own_version g now) g.address value name h.address is)

-- of the start
pub enters_short : (g : Agent) (app : List ℕ) (address : ℕ) → TellsShort g → app_at app ≡ Ok app → address < 2 ^ 32 → TellsShort (takes_item g (entry_of app address))
enters_short g app address h name small = record {
  address = h.address;
  name = h.name;
  node = h.node;
  items = taken_short g.items (entry_of app address) h.items (entry_short app address name small);
  few = h.few;
  ranges = h.ranges;
  waiting = h.waiting;
}

-- Links

pub dropped_short : (g : Agent) (link : ℕ) → TellsShort g → TellsShort (Rows.dropped g link)
dropped_short g link h =
    let fewer = without_few (place_of link g.links) g.links in
    let few = h.few in
    record {
      address = h.address;
      name = h.name;
      node = h.node;
      items = h.items;
      few = omega (arith, fewer, few);
      ranges = λ l has. h.ranges l (from_without (place_of link g.links) g.links l has);
      waiting = λ w has. h.waiting w (contains_filter _ g.agenda w has).0;
    }

abbrev pub ShortOr : Result Agent AgentError → Type 0
ShortOr (Ok g) = TellsShort g
ShortOr (Err e) = Unit {0}

pub unless_short : (o : Option AgentError) (g : Agent) → TellsShort g → ShortOr (unless o g)
unless_short None g h = h
unless_short (Some e) g h = tt

lost_by : (b : Bool) (o : Option AgentError) (g : Agent) (now link : ℕ) → TellsShort g → ShortOr (cond b (unless o (Rows.dropped (stated (Some link) g now) link)) (Ok (Rows.dropped g link)))
lost_by true o g now link h = unless_short o (Rows.dropped (stated (Some link) g now) link) (dropped_short (stated (Some link) g now) link (stated_short (Some link) g now h))
lost_by false o g now link h = dropped_short g link h

pub lost_short : (g g' : Agent) (now link : ℕ) → TellsShort g → Rows.lost g now link ≡ Ok g' → TellsShort g'
lost_short g g' now link h is = subst (λ (r : Result Agent AgentError). ShortOr r) is (lost_by _ (spent 1 g.last_count) g now link h)

pub sent_short : (g : Agent) (link : ℕ) → TellsShort g → TellsShort (record g { agenda = without_first link g.agenda })
sent_short g link h = record {
  address = h.address;
  name = h.name;
  node = h.node;
  items = h.items;
  few = h.few;
  ranges = h.ranges;
  waiting = λ w has. h.waiting w (from_without _ g.agenda w has);
}
