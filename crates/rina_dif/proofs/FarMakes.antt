-- What the making of a far end leaves.
use Rattle.std.proofs.Common.{◌≡◌, ◌∙◌, ℕ, ◌≤◌, List, [], ◌∷◌, ◌++◌, length, Some, Result, Ok, Err, refl, sym, ap, subst}
use Rattle.std.specs.Global.{Vec}
use Rattle.std.specs.Prelude.{option_and_then}
use Rattle.rina_alloc.specs.declared.message.FlowAsk.{FlowAsk}
use Rattle.rina_base.specs.declared.memory.Memory.{Memory}
use Rattle.rina_conn.specs.declared.form.Peer.{Peer}
use Rattle.rina_ids.specs.Ids.{free_id}
use Rattle.rina_ids.specs.Members.{CepIds}
use Rattle.rina_iface.specs.declared.ends.End.{End}
use Rattle.rina_iface.specs.declared.state.PortState.TheVariants.{Allocated}
use Rattle.rina_iface.specs.declared.state.Role.TheVariants.{Far}
use Rattle.rina_iface.specs.Allocate.{new_end, next_port}
use Rattle.rina_iface.specs.Seen.{Seen}
use Rattle.rina_law.specs.Direction.{Direction}
use Rattle.rina_dif_law.specs.Dif.{fac_of}
use Rattle.rina_member.specs.declared.management.Management.{Management}
use Rattle.rina_member.specs.Managements.{with_flow}
use Rattle.rina_dif.specs.declared.dif.Dif.{Dif}
use Rattle.rina_dif.specs.Changing.{with_flow_at}
use Rattle.rina_dif.specs.FarMaking.{AddsFarEnd, CanMakeFar, DrawsFarEnd, HasMadeFar, MakesFar}
use Rattle.rina_dif.specs.Freeing.{IsKept}
use Rattle.rina_dif.specs.Holding.{Holds, Stands}
use Rattle.rina_dif.specs.Managing.{agents_of}
use Rattle.rina_dif.specs.Shown.{seen_of}
use Rattle.rina_dif.specs.Whole.{IsDif}
use Rattle.rina_dif.proofs.Claimed.{holds_claimed, with_waiting}
use Rattle.rina_dif.proofs.FarEnds.{lines_made, made, made_cep, made_holds}
use Rattle.rina_dif.proofs.Managed.{changed_agents}
use Rattle.rina_dif.proofs.Showing.{holds_shown}

-- nothing is seen to change
pub kept_same : (d : Dif) (lines : List Direction) (below : Seen) → Holds d lines below → IsKept d lines below d
kept_same d lines below h = record { same = refl; holds = h }

-- nor does it where there is room for one more that waits
pub kept_waiting : (d : Dif) (waiting : Vec ℕ) (lines : List Direction) (below : Seen) → waiting.items ≡ d.waiting.items → Holds d lines below → IsKept d lines below (record d { waiting = waiting })
kept_waiting d waiting lines below same h = record { same = (λ i. record (seen_of d) { waiting = same i }); holds = holds_claimed d waiting lines below h }

pub shown_agents : (at cep : ℕ) (old new : List Management) → new ≡ with_flow_at at cep old → agents_of new ≡ agents_of old
shown_agents at cep old new is = ap agents_of is ∙ changed_agents at (λ m. with_flow m cep) old (λ m. refl)

-- nor where a member shows the flow
pub kept_shown : (d : Dif) (waiting : Vec ℕ) (at cep : ℕ) (ms : List Management) (lines : List Direction) (below : Seen) → waiting.items ≡ d.waiting.items → ms ≡ with_flow_at at cep d.managements → Holds d lines below → IsKept d lines below (record d { waiting = waiting; managements = ms })
kept_shown d waiting at cep ms lines below same shown h = record {
  same = (λ i. record (seen_of d) { waiting = same i });
  holds = holds_shown (with_waiting d waiting) lines below ms (shown_agents at cep d.managements ms shown) (holds_claimed d waiting lines below h);
}

-- the member may do so whatever it shows
abbrev still_can : (d : Dif) (ms : List Management) (at place from : ℕ) (ask : FlowAsk) → CanMakeFar d at place from ask → CanMakeFar (record d { managements = ms }) at place from ask
still_can d ms at place from ask can = record {
  member = can.member;
  stands = can.stands;
  enrolled = can.enrolled;
  cube = can.cube;
  is_cube = can.is_cube;
  young = can.young;
  room = can.room;
  fits = can.fits;
  asker = record { end = can.asker.end; conn = can.asker.conn; is_at = can.asker.is_at; asks = can.asker.asks; leads = can.asker.leads; alone = can.asker.alone };
}

pub makes_far : (d : Dif) (at place from : ℕ) (ask : FlowAsk) (can : CanMakeFar d at place from ask) (cep own : ℕ) (end : End) (w1 w2 : Vec ℕ) (ms : List Management) (d2 : Dif) → own ≡ can.member.addr → end ≡ new_end ask.flow Far (next_port (fac_of (seen_of d)) d.settings.fac can.member.node) ask.destination ask.source ask.cube Allocated
    → w2.items ≡ d.waiting.items ++ length d.flows.journal.ends ∷ [] → ms ≡ with_flow_at at cep d.managements → DrawsFarEnd at (record { own = own; far = from; scep = cep; dcep = ask.scep }) end (record d { waiting = w1; managements = ms }) d2
    → (lines : List Direction) (below : Seen) → Holds d lines below → HasMadeFar d lines below at place (record d2 { waiting = w2 })
makes_far d at place from ask can cep own end w1 w2 ms d2 own_is end_is waits shown drew lines below h =
    let dm : Dif = record d { managements = ms } in
    let hm = holds_shown d lines below ms (shown_agents at cep d.managements ms shown) h in
    let can' = still_can d ms at place from ask can in
    let the_peer : ℕ → Peer = λ a. record { own = a; far = from; scep = cep; dcep = ask.scep } in
    let the_end : End = new_end ask.flow Far (next_port (fac_of (seen_of d)) d.settings.fac can.member.node) ask.destination ask.source ask.cube Allocated in
    let added : AddsFarEnd d.settings (the_peer can.member.addr) the_end d.flows d2.flows = subst (λ (e : End). AddsFarEnd d.settings (the_peer can.member.addr) e d.flows d2.flows) end_is (subst (λ (a : ℕ). AddsFarEnd d.settings (the_peer a) end d.flows d2.flows) own_is drew.adds) in
    let row = made dm lines below hm at place from ask can' cep d2.flows d2.ids w2 added drew.draws drew.ids waits in
    let holds = made_holds dm lines below hm at place from ask can' cep d2.flows d2.ids w2 added drew.draws drew.ids waits in
    let whole : record d2 { waiting = w2 } ≡ record d { flows = d2.flows; ids = d2.ids; waiting = w2; managements = ms } = ap (λ (z : Dif). record z { waiting = w2 }) drew.whole in
    subst (λ (z : Dif). HasMadeFar d lines below at place z) (sym whole) (record {
      member = can.member;
      stands = can.stands;
      lines' = lines_made dm lines below hm at place from ask can' cep d2.flows d2.ids w2 added drew.draws drew.ids waits;
      makes = row;
      cep_is = ap (option_and_then (λ (z : CepIds). free_id z.0 d.clock z.1)) drew.draws.are_ids ∙ drew.draws.least ∙ ap (λ (n : ℕ). Some n) (sym (made_cep dm lines below hm at place from ask can' cep d2.flows d2.ids w2 added drew.draws drew.ids waits));
      managed = shown ∙ ap (λ (n : ℕ). with_flow_at at n d.managements) (sym (made_cep dm lines below hm at place from ask can' cep d2.flows d2.ids w2 added drew.draws drew.ids waits));
      holds = holds;
    })

-- it is a DIF after it
pub makes_valid : (d d' : Dif) (at place : ℕ) (r : Result (Unit {0}) Memory) → IsDif d → ((lines : List Direction) (below : Seen) → Holds d lines below → MakesFar d lines below at place r d') → d'.clock ≡ d.clock → IsDif d'
makes_valid d d' at place r is does clock = record {
  below = is.below;
  stands = go r (does is.stands.0 is.below is.stands.1);
  clock = subst (λ (n : ℕ). n ≤ 10000000) (sym clock) is.clock;
}
  where
    go : (r : Result (Unit {0}) Memory) → MakesFar d is.stands.0 is.below at place r d' → Stands d' is.below
    go (Ok done) m = (m.lines', m.holds)
    go (Err e) m = (is.stands.0, m.holds)

-- What an error leaves

pub kept_makes : (d d' : Dif) (lines : List Direction) (below : Seen) (at place : ℕ) (r : Result (Unit {0}) Memory) (e : Memory) → r ≡ Err e → IsKept d lines below d' → MakesFar d lines below at place r d'
kept_makes d d' lines below at place r e is kept = subst (λ (z : Result (Unit {0}) Memory). MakesFar d lines below at place z d') (sym is) kept

-- the member shows what it showed
pub kept_unshown : (d : Dif) (waiting : Vec ℕ) (ms : List Management) (lines : List Direction) (below : Seen) → waiting.items ≡ d.waiting.items → ms ≡ d.managements → Holds d lines below → IsKept d lines below (record d { waiting = waiting; managements = ms })
kept_unshown d waiting ms lines below same are h = subst (λ (zs : List Management). IsKept d lines below (record d { waiting = waiting; managements = zs })) (sym are) (kept_waiting d waiting lines below same h)

-- nothing was drawn
pub kept_undrawn : (d d1 d2 : Dif) (lines : List Direction) (below : Seen) → d2 ≡ d1 → IsKept d lines below d1 → IsKept d lines below d2
kept_undrawn d d1 d2 lines below is kept = subst (IsKept d lines below) (sym is) kept
