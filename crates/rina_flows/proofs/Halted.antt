-- The allocated ends of a node end one after the other.
use Rattle.std.proofs.Common.{◌≡◌, ◌≢◌, ◌∙◌, ℕ, ◌+◌, ◌<◌, ◌≤◌, ◌==◌, ◌&&◌, Bool, true, false, cond, zero, suc, List, [], ◌∷◌, ◌++◌, length, length-append, length-set, slice_get, slice_set, Option, Some, refl, sym, ap, subst, arith, inl, inr}
use Rattle.std.proofs.lemmas.Bool.{cases_lt, false≢true}
use Rattle.std.proofs.lemmas.Bool.Decides.{nat_tests}
use Rattle.rina_account.specs.declared.ledger.Off.{Off}
use Rattle.rina_base.specs.declared.cause.Cause.{Cause}
use Rattle.rina_base.specs.declared.number.Key.{Key}
use Rattle.rina_conn.specs.declared.conn.Conn.{Conn}
use Rattle.rina_data.specs.Configs.{Config}
use Rattle.rina_dif_law.specs.Losing.{IsAllocatedAt}
use Rattle.rina_dif_law.specs.Standing.{IsJournal}
use Rattle.rina_data.proofs.Finding.{there}
use Rattle.rina_dif_law.proofs.Journals.{IsConst, journal_set}
use Rattle.rina_dtp.specs.Receiving.{drops, kept_numbers}
use Rattle.rina_iface.specs.declared.ends.End.{End}
use Rattle.rina_iface.specs.declared.state.PortState.{PortState}
use Rattle.rina_iface.specs.declared.state.PortState.TheVariants.{Allocated, Closed, Failed, Pending, Refused}
use Rattle.rina_iface.specs.Journal.{At, IsWhole}
use Rattle.rina_iface.specs.Later.{Moves}
use Rattle.rina_iface.proofs.Changed.{slice_get-set_other}
use Rattle.rina_law.specs.Direction.{Direction}
use Rattle.rina_flows.specs.declared.flows.Flows.{Flows}
use Rattle.rina_flows.specs.Arriving.{offs_of}
use Rattle.rina_flows.specs.Calls.{AreTied, Becomes}
use Rattle.rina_flows.specs.Delivering.{GivesUpAll, HasStoppedWithin, StopsWithin, closed}
use Rattle.rina_flows.specs.Ending.{EndsAt}
use Rattle.rina_flows.specs.Stopping.{StopFirst, StopsAll, held_before, held_by, is_allocated, is_here}
use Rattle.rina_flows.specs.Tied.{IsAt, IsTied, conns_of, ids_of}
use Rattle.rina_flows.proofs.Framed.{same_ids}
use Rattle.rina_flows.proofs.Given.{drained_all}
use Rattle.rina_flows.proofs.Gone.{ends_at}
use Rattle.rina_flows.proofs.Kept.{drops_count}
use Rattle.rina_flows.specs.Elsewhere.{ChangesAt}
use Rattle.rina_flows.proofs.Offered.{flows_of}
use Rattle.rina_flows.proofs.Stopped.{reached}

same_some : {X : Type 0} (o : Option X) (a b : X) → o ≡ Some a → o ≡ Some b → a ≡ b
same_some o a b h g = cc

-- Who is at a node

and_left : (a b : Bool) → (a && b) ≡ true → a ≡ true
and_left true b h = refl
and_left false b h = absurd (false≢true h)

and_right : (a b : Bool) → (a && b) ≡ true → b ≡ true
and_right true b h = h
and_right false b h = absurd (false≢true h)

allocated_is : (s : PortState) → is_allocated s ≡ true → s ≡ Allocated
allocated_is Pending h = absurd (false≢true h)
allocated_is Allocated h = refl
allocated_is (Refused why) h = absurd (false≢true h)
allocated_is (Failed fail) h = absurd (false≢true h)
allocated_is Closed h = absurd (false≢true h)

same_node : (a b : ℕ) → (a == b) ≡ true → a ≡ b
same_node a b h = grind (arith, nat_tests, h)

node_same : (a b : ℕ) → a ≡ b → (a == b) ≡ true
node_same a b h = grind (arith, nat_tests, h)

here_is : (node n : ℕ) (ends : List End) (e : End) → slice_get ends n ≡ Some e → is_here node e ≡ true → IsAllocatedAt ends node n
here_is node n ends e is here = record { end = e; is_end = is; allocated = allocated_is e.state (and_left (is_allocated e.state) (e.port.node == node) here); node_is = same_node e.port.node node (and_right (is_allocated e.state) (e.port.node == node) here) }

is_there : (node : ℕ) (e : End) → e.state ≡ Allocated → e.port.node ≡ node → is_here node e ≡ true
is_there node e state at = ap (λ (s : PortState). is_allocated s && (e.port.node == node)) state ∙ node_same e.port.node node at

not_here : (node n : ℕ) (ends : List End) (e : End) → slice_get ends n ≡ Some e → is_here node e ≡ false → IsAllocatedAt ends node n → ⊥
not_here node n ends e is none a =
    let same : a.end ≡ e = same_some (slice_get ends n) a.end e a.is_end is in
    false≢true (sym none ∙ ap (is_here node) (sym same) ∙ is_there node a.end a.allocated a.node_is)

-- How many pieces they hold

held_if : (node : ℕ) (e : End) (k : Conn) (b : Bool) → is_here node e ≡ b → held_by node (Some e) (Some k) ≡ cond b (length (kept_numbers k.rx)) 0
held_if node e k b is = ap (λ (c : Bool). cond c (length (kept_numbers k.rx)) 0) is

held_le : (node : ℕ) (ends : List End) (conns : List Conn) (n m : ℕ) → n ≤ m → held_before node ends conns n ≤ held_before node ends conns m
held_le node ends conns n zero le = (let none : n ≡ 0 = omega (arith, le) in subst (λ (k : ℕ). held_before node ends conns k ≤ held_before node ends conns zero) (sym none) (omega arith))
held_le node ends conns n (suc m) le = elim (cases_lt n (suc m)) [
  | inl lt ↦
      (let rest = held_le node ends conns n m (omega (arith, lt)) in
      let more = held_by node (slice_get ends m) (slice_get conns m) in
      let whole : held_before node ends conns (suc m) ≡ held_before node ends conns m + more = refl in
      omega (arith, rest, whole))
  | inr ge ↦ (let same : n ≡ suc m = omega (arith, le, ge) in subst (λ (k : ℕ). held_before node ends conns k ≤ held_before node ends conns (suc m)) (sym same) (omega arith))
]

length_offs : (ds : List (Key × Cause)) → length (offs_of ds) ≡ length ds
length_offs [] = refl
length_offs (d ∷ ds) = (let rest = length_offs ds in omega (arith, rest))

-- One end

one_stopped : (now at : ℕ) (state : PortState) (ends ends' : List End) (conns conns' : List Conn) (lines lines' : List Off) (room : ℕ) (seen : Conn) (g : Config) (ls : List Direction) (end : End) → slice_get conns at ≡ Some seen → length lines + length (kept_numbers seen.rx) ≤ room → Becomes (GivesUpAll now closed lines room lines') at conns conns' → ends' ≡ slice_set ends at (record end { state = state })
    → IsJournal now ends → IsTied g now ends conns ls → At ends at end → end.state ≡ Allocated → Moves end.state state → state ≢ Allocated → HasStoppedWithin g now at state (flows_of ends conns) lines ls (flows_of ends' conns') lines' (length (kept_numbers seen.rx))
one_stopped now at state ends ends' conns conns' lines lines' room seen g ls end here fits become ends_are journal t is allocated moves other =
    let b = become seen here in
    let new : Conn = b.0 in
    let G = b.1 in
    let r = reached g now at ends conns ls end journal t is allocated in
    let is_at : IsAt ends conns at end seen = record { end_is = is; conn_is = here } in
    let h = t.receives at r.from end seen r.line is_at allocated r.inbound in
    let all : drops now (closed seen.rx) ≡ G.writes.taken = drained_all now (closed seen.rx) G.writes.taken new.rx G.writes.drained G.writes.none in
    let H = ends_at g now ends conns ls at r.from end seen new r.line state G.writes.taken journal t is_at allocated moves other r.inbound all (ap (λ (x : Conn). x.sending) G.new_is) in
    let most = drops_count now (closed seen.rx) h.broken in
    let taken : length G.writes.taken ≤ length (kept_numbers seen.rx) = (let e = ap (λ (ds : List (Key × Cause)). length ds) all in omega arith) in
    let noted : lines' ≡ lines ++ offs_of G.writes.taken = G.writes.noted (omega arith) in
    let count : length lines' ≡ length lines + length (offs_of G.writes.taken) = ap (λ (xs : List Off). length xs) noted ∙ length-append lines (offs_of G.writes.taken) in
    let offs = length_offs G.writes.taken in
    record {
      stopped = record {
        offs = offs_of G.writes.taken;
        stops = subst (λ (xs : List End). EndsAt ends (conns_of conns) ls at state (offs_of G.writes.taken) xs) (sym ends_are) H.stops;
        ledger_is = noted;
        tied = subst (λ (ks : List Conn). IsTied g now ends' ks ls) (sym b.2) (subst (λ (xs : List End). IsTied g now xs (slice_set conns at new) ls) (sym ends_are) H.tied);
        ids = ap conns_of b.2 ∙ same_ids conns at seen new here (ap (λ (x : Conn). ids_of x) G.new_is);
      };
      few = omega (arith, count, offs, taken);
    }

pub stops_within : (now at : ℕ) (state : PortState) (ends ends' : List End) (conns conns' : List Conn) (lines lines' : List Off) (room : ℕ) → Becomes (GivesUpAll now closed lines room lines') at conns conns' → ((e : End) → slice_get ends at ≡ Some e → ends' ≡ slice_set ends at (record e { state = state })) → StopsWithin now at state (flows_of ends conns) lines room (flows_of ends' conns') lines'
stops_within now at state ends ends' conns conns' lines lines' room become set g ls end conn journal t is allocated moves other here fits = one_stopped now at state ends ends' conns conns' lines lines' room conn g ls end here fits become (set end is) journal t is allocated moves other

-- All of them

pub record AreStopped (g : Config) (now node : ℕ) (state : PortState) (ls : List Direction) (n : ℕ) (old : Flows) (l0 : List Off) (new : Flows) (l : List Off) : Type 0 where
  pub chain : StopFirst g now node state ls n old l0 new l
  pub journal : IsJournal now new.journal.ends
  pub tied : AreTied g now new ls
  pub few : length l ≤ length l0 + held_before node old.journal.ends old.conns n

pub record AreStopping (now node : ℕ) (state : PortState) (n : ℕ) (old : Flows) (l0 : List Off) (room0 : ℕ) (new : Flows) (l : List Off) (room : ℕ) : Type 0 where
  pub wider : room0 ≤ room
  pub ends_count : length new.journal.ends ≡ length old.journal.ends
  pub conns_count : length new.conns ≡ length old.conns
  pub ends_after : (k : ℕ) → n ≤ k → slice_get new.journal.ends k ≡ slice_get old.journal.ends k
  pub conns_after : (k : ℕ) → n ≤ k → slice_get new.conns k ≡ slice_get old.conns k
  pub others : ChangesAt (IsAllocatedAt old.journal.ends node) old new
  pub stops : (g : Config) (ls : List Direction) → IsJournal now old.journal.ends → AreTied g now old ls → Moves Allocated state → state ≢ Allocated → length l0 + held_before node old.journal.ends old.conns (length old.conns) ≤ room0 → AreStopped g now node state ls n old l0 new l

pub none_stopped : (now node : ℕ) (state : PortState) (old : Flows) (l : List Off) (room : ℕ) → AreStopping now node state 0 old l room old l room
none_stopped now node state old l room = record {
  wider = omega arith;
  ends_count = refl;
  conns_count = refl;
  ends_after = λ k le. refl;
  conns_after = λ k le. refl;
  others = (λ k other. refl, λ k other. refl);
  stops = λ g ls journal tied moves other fits. record { chain = (refl, refl); journal = journal; tied = tied; few = omega arith };
}

after_one : (n k : ℕ) → n + 1 ≤ k → k ≢ n
after_one n k le same = omega (arith, le, same)

suc_is : (P : ℕ → Type 0) (n : ℕ) → P (suc n) → P (n + 1)
suc_is P n p = (let same : suc n ≡ n + 1 = omega arith in subst P same p)

pub one_stops : (now node : ℕ) (state : PortState) (n : ℕ) (old mid : Flows) (l0 l l' : List Off) (room0 room room' : ℕ) (e : End) (ends' : List End) (conns' : List Conn) → AreStopping now node state n old l0 room0 mid l room → n < length old.conns → slice_get mid.journal.ends n ≡ Some e → is_here node e ≡ true → room ≤ room' → Becomes (GivesUpAll now closed l room l') n mid.conns conns' → ends' ≡ slice_set mid.journal.ends n (record e { state = state })
    → AreStopping now node state (n + 1) old l0 room0 (flows_of ends' conns') l' room'
one_stops now node state n old mid l0 l l' room0 room room' e ends' conns' s lt is here wide become ends_are =
    let e' : End = record e { state = state } in
    let conns_count = s.conns_count in
    let k = there mid.conns n (omega (arith, lt, conns_count)) in
    let b = become k.0 k.1 in
    let at = here_is node n mid.journal.ends e is here in
    let alloc : e.state ≡ Allocated = ap (λ (z : End). z.state) (same_some (slice_get mid.journal.ends n) e at.end is at.is_end) ∙ at.allocated in
    let wider = s.wider in
    let was : IsAllocatedAt old.journal.ends node n = record { end = at.end; is_end = sym (s.ends_after n (omega arith)) ∙ at.is_end; allocated = at.allocated; node_is = at.node_is } in
    let not_this : (j : ℕ) → (IsAllocatedAt old.journal.ends node j → ⊥) → j ≢ n = λ j other same. other (subst (IsAllocatedAt old.journal.ends node) (sym same) was) in
    record {
      wider = omega (arith, wider, wide);
      ends_count = ap (λ (xs : List End). length xs) ends_are ∙ length-set mid.journal.ends n e' ∙ s.ends_count;
      conns_count = ap (λ (xs : List Conn). length xs) b.2 ∙ length-set mid.conns n b.0 ∙ s.conns_count;
      ends_after = λ j le. ap (λ (xs : List End). slice_get xs j) ends_are ∙ slice_get-set_other mid.journal.ends n j e' (after_one n j le) ∙ s.ends_after j (omega (arith, le));
      conns_after = λ j le. ap (λ (xs : List Conn). slice_get xs j) b.2 ∙ slice_get-set_other mid.conns n j b.0 (after_one n j le) ∙ s.conns_after j (omega (arith, le));
      others = (
        λ j other. (let o = s.others.0 j other in ap (λ (xs : List End). slice_get xs j) ends_are ∙ slice_get-set_other mid.journal.ends n j e' (not_this j other) ∙ o),
        λ j other. (let o = s.others.1 j other in ap (λ (xs : List Conn). slice_get xs j) b.2 ∙ slice_get-set_other mid.conns n j b.0 (not_this j other) ∙ o),
      );
      stops = λ g ls journal tied moves other fits. suc_is (λ (m : ℕ). AreStopped g now node state ls m old l0 (flows_of ends' conns') l') n (
          let w = s.stops g ls journal tied moves other fits in
          let end_was : slice_get old.journal.ends n ≡ Some e = sym (s.ends_after n (omega arith)) ∙ is in
          let conn_was : slice_get old.conns n ≡ Some k.0 = sym (s.conns_after n (omega arith)) ∙ k.1 in
          let held : held_by node (slice_get old.journal.ends n) (slice_get old.conns n) ≡ length (kept_numbers k.0.rx) = ap (λ (o : Option End). held_by node o (slice_get old.conns n)) end_was ∙ ap (held_by node (Some e)) conn_was ∙ held_if node e k.0 true here in
          let whole : held_before node old.journal.ends old.conns (suc n) ≡ held_before node old.journal.ends old.conns n + held_by node (slice_get old.journal.ends n) (slice_get old.conns n) = refl in
          let within = held_le node old.journal.ends old.conns (suc n) (length old.conns) (omega (arith, lt)) in
          let few = w.few in
          let fit : length l + length (kept_numbers k.0.rx) ≤ room = omega (arith, held, whole, within, few, fits, wider) in
          let one = one_stopped now n state mid.journal.ends ends' mid.conns conns' l l' room k.0 g ls e k.1 fit become ends_are w.journal w.tied is alloc (subst (λ (z : PortState). Moves z state) (sym alloc) moves) other in
          let more = one.few in
          let partner = w.journal.allocated n e is alloc in
          let const : IsConst e e' = record { flow = refl; role = refl; port = refl; app = refl; peer = refl; cube = refl } in
          let was = w.journal.whole n e is in
          let is_whole : IsWhole now e' = record { sent = was.sent; got = was.got; taken = was.taken } in
          record {
            chain = (mid, l, w.chain, inl (at, one.stopped));
            journal = subst (IsJournal now) (sym ends_are) (journal_set mid.journal.ends n e e' is const now w.journal is_whole (λ none. partner) (λ j x h. partner));
            tied = one.stopped.tied;
            few = omega (arith, more, few, held, whole);
          });
    }

pub none_stops : (now node : ℕ) (state : PortState) (n : ℕ) (old mid : Flows) (l0 l : List Off) (room0 room : ℕ) (e : End) → AreStopping now node state n old l0 room0 mid l room → slice_get mid.journal.ends n ≡ Some e → is_here node e ≡ false → AreStopping now node state (n + 1) old l0 room0 mid l room
none_stops now node state n old mid l0 l room0 room e s is none = record {
  wider = s.wider;
  ends_count = s.ends_count;
  conns_count = s.conns_count;
  ends_after = λ j le. s.ends_after j (omega (arith, le));
  conns_after = λ j le. s.conns_after j (omega (arith, le));
  others = s.others;
  stops = λ g ls journal tied moves other fits. suc_is (λ (m : ℕ). AreStopped g now node state ls m old l0 mid l) n (
      let w = s.stops g ls journal tied moves other fits in
      let few = w.few in
      let whole : held_before node old.journal.ends old.conns (suc n) ≡ held_before node old.journal.ends old.conns n + held_by node (slice_get old.journal.ends n) (slice_get old.conns n) = refl in
      record { chain = (mid, l, w.chain, inr (not_here node n mid.journal.ends e is none, refl, refl)); journal = w.journal; tied = w.tied; few = omega (arith, few, whole) });
}

pub all_stopped : (now node : ℕ) (state : PortState) (n : ℕ) (old new : Flows) (l0 l : List Off) (room0 room : ℕ) → n ≡ length old.journal.ends → AreStopping now node state n old l0 room0 new l room → StopsAll now node state old l0 room0 new l
all_stopped now node state n old new l0 l room0 room end s g ls journal tied moves other fits = (let w = s.stops g ls journal tied moves other fits in (subst (λ (m : ℕ). StopFirst g now node state ls m old l0 new l) end w.chain, w.tied))
