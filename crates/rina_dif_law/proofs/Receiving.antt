-- The account goes on as an end gets, gives up or holds less of what came to it.
use Rattle.std.proofs.Common.{◌≡◌, ◌≢◌, ℕ, ◌+◌, ◌≤◌, List, length, slice_get, slice_set, Some, Option, refl, sym, ◌∙◌, ap, subst, arith, inl, inr, ◌⊎◌}
use Rattle.std.proofs.lemmas.Bool.Decides.{eqb_tells}
use Rattle.rina_account.specs.Account.{Counts, off_count}
use Rattle.rina_account.specs.declared.ledger.Off.{Off}
use Rattle.rina_base.specs.declared.number.Key.{Key}
use Rattle.rina_base.specs.declared.number.Port.{Port}
use Rattle.rina_base.specs.declared.pdu.PduKind.TheVariants.{Piece, Ack}
use Rattle.rina_iface.specs.declared.ends.End.{End}
use Rattle.rina_iface.specs.declared.state.PortState.{PortState}
use Rattle.rina_iface.specs.declared.state.PortState.TheVariants.{Allocated, Closed, Failed, Pending, Refused}
use Rattle.rina_iface.specs.Seen.{Seen, end_of}
use Rattle.rina_iface.proofs.Changed.{slice_get-set_same}
use Rattle.rina_law.specs.Direction.{Direction, Forget, happens}
use Rattle.rina_dif_law.specs.Accounted.{IsAccounted, Resends, bears, bears_on, counts_of, held_by, held_in, inbound_of, journal_numbers, kept_by, over_ends, sent_with, taken_with, total}
use Rattle.rina_dif_law.specs.Cloud.{IsMine}
use Rattle.rina_dif_law.specs.Counting.{held_numbers, off_numbers, times}
use Rattle.rina_ids.specs.Members.{CepIds}
use Rattle.rina_dif_law.specs.Dif.{DifSeen, IsProcess, constants}
use Rattle.rina_data.specs.Configs.{Member, piece_size}
use Rattle.rina_data.specs.Process.{Process, with_offs}
use Rattle.rina_dif_law.specs.Ending.{IsEnded}
use Rattle.rina_dif_law.specs.Ids.{Ids, flipped}
use Rattle.rina_dif_law.specs.Incoming.{IsInbound}
use Rattle.rina_dif_law.specs.Numbered.{IsNumbered}
use Rattle.rina_dif_law.specs.Standing.{IsStanding}
use Rattle.rina_dif_law.specs.Timely.{IsForgotten}
use Rattle.rina_dif_law.proofs.Accounting.{home_addr, resends_on, offs_more, one_process, renewed}
use Rattle.rina_dif_law.proofs.Balancing.{accounted_on, gone, moved_same}
use Rattle.rina_dif_law.proofs.Finding.{beside}
use Rattle.rina_dif_law.proofs.Keys.{AreOf, offs_of, offs_others, piece_no_ack}
use Rattle.rina_dif_law.proofs.Own.{partner_back}
use Rattle.rina_dif_law.proofs.Tallies.{HoldElsewhere, IsEndChanged, end_changed, end_stays, hold_elsewhere, inbound_at, inbound_changed, kept_change, kept_in, kept_not, kept_own, kept_restated, made_same}

-- what came to an IPC process from below, by keys, and to no other
pub record HaveCome (d : DifSeen) (below below' : Seen) (i : ℕ) (came : Key → ℕ) : Type 0 where
  pub taken : (m : Member) (p : Process) (k : Key) → IsProcess d i m p → over_ends m.name (taken_with (bears k) d.config.widths) below' ≡ over_ends m.name (taken_with (bears k) d.config.widths) below + came k
  pub relayed : (m : Member) (p : Process) (k : Key) → IsProcess d i m p → over_ends m.name (taken_with (bears_on m.addr k) d.config.widths) below' ≡ over_ends m.name (taken_with (bears_on m.addr k) d.config.widths) below
  pub sent : (name : List ℕ) (k : Key) → over_ends name (sent_with (bears k) d.config.widths) below' ≡ over_ends name (sent_with (bears k) d.config.widths) below
  pub others : (j : ℕ) (m : Member) (q : Process) (k : Key) → j ≢ i → IsProcess d j m q → (over_ends m.name (taken_with (bears k) d.config.widths) below' ≡ over_ends m.name (taken_with (bears k) d.config.widths) below) × (over_ends m.name (taken_with (bears_on m.addr k) d.config.widths) below' ≡ over_ends m.name (taken_with (bears_on m.addr k) d.config.widths) below)

pub none_came : (d : DifSeen) (below : Seen) (i : ℕ) → HaveCome d below below i (λ k. 0)
none_came d below i = record { taken = λ m p k is. omega arith; relayed = λ m p k is. refl; sent = λ name k. refl; others = λ j m q k ne is. (refl, refl) }

-- a key is that of a piece which comes to the end with these ids
abbrev pub IsComing : Ids → Key → Type 0
IsComing ids k = (k.kind ≡ Piece) × (ids.far ≡ k.src) × (ids.dcep ≡ k.scep)

coming_cases : (ids : Ids) (k : Key) → k.kind ≡ Piece → IsComing ids k ⊎ (IsComing ids k → ⊥)
coming_cases ids k kind = elim (eqb_tells ids.far k.src) [
  | inl a ↦ elim (eqb_tells ids.dcep k.scep) [
    | inl b ↦ inl (kind, a.1, b.1)
    | inr b ↦ inr (λ h. b.1 h.2)
  ]
  | inr a ↦ inr (λ h. a.1 h.1)
]

-- what an end counts of the pieces of a key: those it got, and those that its receiver holds
abbrev pub keeps_of : DifSeen → List Direction → End → ℕ → ℕ
keeps_of d lines e n = times n (journal_numbers (piece_size d.config) e.got) + held_by e.state (held_in (inbound_of d.ends lines e) n)

moved_kept : (n n' : Counts) (came offs old new : ℕ) → n'.taken ≡ n.taken + came → gone n' ≡ gone n + offs → n'.kept + old ≡ n.kept + new → came + old ≡ offs + new → n'.taken + (gone n + n.kept) ≡ n.taken + (gone n' + n'.kept)
moved_kept n n' came offs old new a b c d = omega arith

moved_apart : (n n' : Counts) (came offs : ℕ) → n'.taken ≡ n.taken + came → gone n' ≡ gone n + offs → came ≡ 0 → offs ≡ 0 → n'.kept ≡ n.kept → n'.taken + (gone n + n.kept) ≡ n.taken + (gone n' + n'.kept)
moved_apart n n' came offs a b c d e = omega arith

still_le : (n n' : Counts) (came offs : ℕ) → n'.taken ≡ n.taken + came → gone n' ≡ gone n + offs → n'.made ≡ n.made → came ≡ 0 → offs ≡ 0 → (n'.made + n'.taken) + gone n ≤ (n.made + n.taken) + gone n'
still_le n n' came offs a b c d e = omega arith

still_same : (n n' : Counts) (came offs : ℕ) → n'.taken ≡ n.taken + came → gone n' ≡ gone n + offs → n'.made ≡ n.made → came ≡ 0 → offs ≡ 0 → (n'.made + n'.taken) + gone n ≡ (n.made + n.taken) + gone n'
still_same n n' came offs a b c d e = omega arith

still_relayed : (n n' : Counts) (offs : ℕ) → n'.relayed ≡ n.relayed → gone n' ≡ gone n + offs → offs ≡ 0 → n'.relayed + gone n ≤ n.relayed + gone n'
still_relayed n n' offs a b c = omega arith

still_bounded : (n n' : Counts) (came offs : ℕ) → n'.taken ≡ n.taken + came → gone n' ≡ gone n + offs → came ≡ 0 → offs ≡ 0 → gone n' + n.taken ≤ gone n + n'.taken
still_bounded n n' came offs a b c d = omega arith

still_ack : (n n' : Counts) (came offs : ℕ) → n'.taken ≡ n.taken + came → gone n' ≡ gone n + offs → came ≡ 0 → offs ≡ 0 → n'.taken + gone n ≤ n.taken + gone n'
still_ack n n' came offs a b c d = omega arith

module _ (d : DifSeen) (lines lines' : List Direction) (below below' : Seen) (ends' : List End) (i : ℕ) (process : Process) (at : ℕ) (e e' : End) (ids : Ids) (offs : List Off) (came : Key → ℕ)
    (change : IsEndChanged d.ends ends' at e e') (conn : slice_get d.conns at ≡ Some ids) (sent : e'.sent ≡ e.sent) (hold : (n : ℕ) → HoldElsewhere d.ends lines lines' at n) (of : AreOf ids.far ids.dcep offs) (have : HaveCome d below below' i came)
    (nothing : (k : Key) → (IsComing ids k → ⊥) → came k ≡ 0) (settled : (k : Key) → IsComing ids k → came k + keeps_of d lines e k.seq ≡ times k.seq (off_numbers offs) + keeps_of d lines' e' k.seq) where
  kept_apart : (addr : ℕ) (k : Key) → (ids.own ≡ addr → ids.far ≡ k.src → ids.dcep ≡ k.scep → ⊥) → total (length ends') (kept_in (piece_size d.config) d.conns lines' addr k ends') ≡ total (length d.ends) (kept_in (piece_size d.config) d.conns lines addr k d.ends)
  kept_apart addr k none =
      let all = kept_change (piece_size d.config) d.conns lines lines' addr k d.ends ends' at e e' ids change conn (hold k.seq) in
      let old = kept_not (piece_size d.config) d.ends lines addr k e ids none in
      let new = kept_not (piece_size d.config) ends' lines' addr k e' ids none in
      omega (arith, all, old, new)

  pub received : IsAccounted d lines below → slice_get d.processes i ≡ Some process → ((port : Port) (a : End) → end_of below' port ≡ Some a → IsMine d.config.members a.app → a.taken ≤ length a.got)
      → ((m : Member) → slice_get d.config.members i ≡ Some m → ids.own ≡ m.addr) → ((j : ℕ) (m : Member) → j ≢ i → slice_get d.config.members j ≡ Some m → ids.own ≢ m.addr)
      → IsAccounted (renewed d ends' i (with_offs process offs)) lines' below'
  received a is_process passed own_addr other_addr = one_process d lines lines' below below' ends' i process (with_offs process offs) a is_process passed
      (λ j m q k ne is.
      let o = have.others j m q k ne is in
      let s = have.sent m.name k in
      record {
        taken = o.0;
        relayed = o.1;
        gone = omega (arith, s);
        made = made_same (piece_size d.config) d.conns m.addr k d.ends ends' at e e' change sent;
        kept = kept_apart m.addr k (λ own far dcep. other_addr j m ne is.is_member own);
      })
      (λ m k is.
      let own = own_addr m is.is_member in
      let n = counts_of d lines below m process k in
      let n' = counts_of (renewed d ends' i (with_offs process offs)) lines' below' m (with_offs process offs) k in
      let taken : n'.taken ≡ n.taken + came k = have.taken m process k is in
      let relayed : n'.relayed ≡ n.relayed = have.relayed m process k is in
      let out = have.sent m.name k in
      let left = offs_more k process offs in
      let more : gone n' ≡ gone n + off_count offs k = omega (arith, out, left) in
      let made : n'.made ≡ n.made = made_same (piece_size d.config) d.conns m.addr k d.ends ends' at e e' change sent in
      let none_of : (IsComing ids k → ⊥) → off_count offs k ≡ 0 = λ none. offs_others k ids.far ids.dcep offs of (λ kind src scep. none (kind, sym src, sym scep)) in
      let not_own : k.src ≡ m.addr → IsComing ids k → ⊥ = λ src h. a.apart at ids conn (own ∙ sym src ∙ sym h.1) in
      let not_ack : k.kind ≡ Ack → IsComing ids k → ⊥ = λ kind h. piece_no_ack k.kind h.0 kind in
      let apart : k.kind ≡ Piece → (IsComing ids k → ⊥) → n'.kept ≡ n.kept = λ kind none. kept_apart m.addr k (λ x far dcep. none (kind, far, dcep)) in
      record {
        foreign = λ kind src. elim (coming_cases ids k kind) [
          | inl h ↦
              let all : n'.kept + kept_by (piece_size d.config) d.ends lines m.addr k (Some e) (Some ids) ≡ n.kept + kept_by (piece_size d.config) ends' lines' m.addr k (Some e') (Some ids) = kept_change (piece_size d.config) d.conns lines lines' m.addr k d.ends ends' at e e' ids change conn (hold k.seq) in
              let old : kept_by (piece_size d.config) d.ends lines m.addr k (Some e) (Some ids) ≡ keeps_of d lines e k.seq = kept_own (piece_size d.config) d.ends lines m.addr k e ids own h.1 h.2 in
              let new : kept_by (piece_size d.config) ends' lines' m.addr k (Some e') (Some ids) ≡ keeps_of d lines' e' k.seq = kept_own (piece_size d.config) ends' lines' m.addr k e' ids own h.1 h.2 ∙ ap (λ (o : Option Direction). times k.seq (journal_numbers (piece_size d.config) e'.got) + held_by e'.state (held_in o k.seq)) (inbound_changed d.ends ends' at e e' lines' e' change) in
              let balance = settled k h in
              let offs_are = offs_of k ids.far ids.dcep offs of kind (sym h.1) (sym h.2) in
              moved_kept n n' (came k) (off_count offs k) (keeps_of d lines e k.seq) (keeps_of d lines' e' k.seq) taken more (ap (λ (x : ℕ). n'.kept + x) (sym old) ∙ all ∙ ap (λ (x : ℕ). n.kept + x) new) (balance ∙ ap (λ (x : ℕ). x + keeps_of d lines' e' k.seq) (sym offs_are))
          | inr none ↦ moved_apart n n' (came k) (off_count offs k) taken more (nothing k none) (none_of none) (apart kind none)
        ];
        own = λ kind src. (let none = not_own src in let x = nothing k none in let y = none_of none in still_le n n' (came k) (off_count offs k) taken more made x y);
        once = λ kind src no. (let none = not_own src in let x = nothing k none in let y = none_of none in still_same n n' (came k) (off_count offs k) taken more made x y);
        relayed = λ kind src. (let none = not_ack kind in let y = none_of none in still_relayed n n' (off_count offs k) relayed more y);
        bounded = λ kind src. (let none = not_ack kind in let x = nothing k none in let y = none_of none in still_bounded n n' (came k) (off_count offs k) taken more x y);
        own_ack = λ kind src. (let none = not_ack kind in let x = nothing k none in let y = none_of none in still_ack n n' (came k) (off_count offs k) taken more x y);
      })

-- ---- a receiver gives up what it holds

-- the IPC processes that are not that of an end have other addresses
pub others_addr : (d : DifSeen) (below : Seen) (i : ℕ) (mine : Member) (ids : Ids) → IsNumbered d below → slice_get d.config.members i ≡ Some mine → ids.own ≡ mine.addr → (j : ℕ) (m : Member) → j ≢ i → slice_get d.config.members j ≡ Some m → ids.own ≢ m.addr
others_addr d below i mine ids numbered is own j m ne at same = ne (sym (numbered.members.addrs i j mine m is at (sym own ∙ same)))

pub member_at : (d : DifSeen) (lines : List Direction) (below : Seen) (i : ℕ) (p : Process) → IsStanding d lines below → slice_get d.processes i ≡ Some p → (m : Member) × (slice_get d.config.members i ≡ Some m)
member_at d lines below i p st is = beside d.processes d.config.members i p (sym st.aligned) is

pub forgotten_accounted : (d : DifSeen) (lines : List Direction) (below : Seen) (at : ℕ) (d' : DifSeen) (lines' : List Direction) → IsStanding d lines below → IsNumbered d below → IsAccounted d lines below → IsForgotten d lines at d' lines' → IsAccounted d' lines' below
forgotten_accounted d lines below at d' lines' st numbered a s =
    let line' : Direction = happens (constants d.config s.cube (flipped s.ids)) s.line Forget in
    let lines'' : List Direction = slice_set lines s.from line' in
    let conn = s.is_home.is_conn in
    let partner = s.inbound.partner in
    let m = member_at d lines below s.i s.process st s.is_home.is_process in
    let own : (m : Member) → slice_get d.config.members s.i ≡ Some m → s.ids.own ≡ m.addr = λ m is. home_addr d below at s.end s.ids s.i m numbered conn s.is_home.at_home is in
    let of : AreOf s.ids.far s.ids.dcep s.dropped = record { each = λ off one. (let h = s.all_dropped off one in (h.0, h.1, h.2)) } in
    let old : inbound_of d.ends lines s.end ≡ Some s.line = inbound_at d.clock d.ends st.journal s.from partner s.end s.inbound.is_partner s.inbound.partners lines s.line s.inbound.is_line in
    let new : inbound_of d.ends lines'' s.end ≡ Some line' = inbound_at d.clock d.ends st.journal s.from partner s.end s.inbound.is_partner s.inbound.partners lines'' line' (slice_get-set_same lines s.from s.line line' s.inbound.is_line) in
    subst (λ (z : DifSeen). IsAccounted z lines' below) (sym s.new_is) (subst (λ (ls : List Direction). IsAccounted (renewed d d.ends s.i (with_offs s.process s.dropped)) ls below) (sym s.lines_are)
    (received d lines lines'' below below d.ends s.i s.process at s.end s.end s.ids s.dropped (λ k. 0) (end_stays d.ends at s.end conn.end) conn.ids_are refl
    (λ n. hold_elsewhere d.clock d.ends st.journal s.from partner s.end s.inbound.is_partner s.inbound.partners at lines line' n conn.end) of (none_came d below s.i) (λ k none. refl)
    (λ k h.
    let before : held_by s.end.state (held_in (inbound_of d.ends lines s.end) k.seq) ≡ times k.seq (held_numbers s.line) = ap (λ (z : PortState). held_by z (held_in (inbound_of d.ends lines s.end) k.seq)) s.is_home.allocated ∙ ap (λ (o : Option Direction). held_in o k.seq) old in
    let after : held_by s.end.state (held_in (inbound_of d.ends lines'' s.end) k.seq) ≡ 0 = ap (λ (z : PortState). held_by z (held_in (inbound_of d.ends lines'' s.end) k.seq)) s.is_home.allocated ∙ ap (λ (o : Option Direction). held_in o k.seq) new in
    let all = s.all k.seq in
    omega (arith, before, after, all))
    a s.is_home.is_process a.passed own (others_addr d below s.i m.0 s.ids numbered m.1 (own m.0 m.1))))

-- ---- an end is allocated no more

pub held_none : (state : PortState) (n : ℕ) → state ≢ Allocated → held_by state n ≡ 0
held_none Pending n other = refl
held_none Allocated n other = absurd (other refl)
held_none (Refused why) n other = refl
held_none (Failed fail) n other = refl
held_none Closed n other = refl

-- the account is the same whatever CEP-ids the members hold
pub reheld_accounted : (d : DifSeen) (lines : List Direction) (below : Seen) (held : List CepIds) → IsAccounted d lines below → IsAccounted (record d { ids = held }) lines below
reheld_accounted d lines below held a =
    let d' : DifSeen = record d { ids = held } in
    accounted_on d d' lines lines below below a a.passed a.apart (λ i m p k here. record {
      process = p;
      is_process = record { is_member = here.is_member; is_process = here.is_process };
      resends = resends_on d d' m.addr k.scep refl (λ n ids x. x);
      moved = moved_same m.addr k (Resends d' m.addr k.scep) (counts_of d lines below m p k) (counts_of d' lines below m p k) (record { taken = refl; relayed = refl; gone = refl; made = refl; kept = refl });
    })

pub ended_accounted : (d : DifSeen) (lines : List Direction) (below : Seen) (at : ℕ) (state : PortState) (d' : DifSeen) → IsStanding d lines below → IsNumbered d below → IsAccounted d lines below → IsEnded d lines at state d' → IsAccounted d' lines below
ended_accounted d lines below at state d' st numbered a s =
    let e' : End = record s.end { state = state } in
    let ends' : List End = slice_set d.ends at e' in
    let conn = s.is_conn in
    let p = st.journal.allocated at s.end conn.end s.allocated in
    let l = beside d.ends lines p.place p.other st.own.lines_alike p.stands in
    let inbound : IsInbound d lines s.end p.place l.0 = record { partner = p.other; is_partner = p.stands; partners = partner_back s.end p.other p.partner; is_line = l.1 } in
    let m = member_at d lines below s.i s.process st s.is_process in
    let own : (m : Member) → slice_get d.config.members s.i ≡ Some m → s.ids.own ≡ m.addr = λ m is. home_addr d below at s.end s.ids s.i m numbered conn s.at_home is in
    let of : AreOf s.ids.far s.ids.dcep s.dropped = record { each = λ off one. (let h = s.all_dropped off p.place l.0 one inbound in (h.0, h.1, h.2)) } in
    let is : inbound_of d.ends lines s.end ≡ Some l.0 = inbound_at d.clock d.ends st.journal p.place p.other s.end p.stands inbound.partners lines l.0 l.1 in
    subst (λ (z : DifSeen). IsAccounted z lines below) (sym s.new_is)
    (reheld_accounted (record d { ends = ends'; processes = slice_set d.processes s.i (with_offs s.process s.dropped) }) lines below s.held (received d lines lines below below ends' s.i s.process at s.end e' s.ids s.dropped (λ k. 0) (end_changed d.ends at s.end e' conn.end refl refl) conn.ids_are refl
    (λ n j c ne there. refl) of (none_came d below s.i) (λ k none. refl)
    (λ k h.
    let before : held_by s.end.state (held_in (inbound_of d.ends lines s.end) k.seq) ≡ times k.seq (held_numbers l.0) = ap (λ (z : PortState). held_by z (held_in (inbound_of d.ends lines s.end) k.seq)) s.allocated ∙ ap (λ (o : Option Direction). held_in o k.seq) is in
    let after : held_by state (held_in (inbound_of d.ends lines s.end) k.seq) ≡ 0 = held_none state (held_in (inbound_of d.ends lines s.end) k.seq) s.ends in
    let all = s.all p.place l.0 inbound k.seq in
    omega (arith, before, after, all))
    a s.is_process a.passed own (others_addr d below s.i m.0 s.ids numbered m.1 (own m.0 m.1))))

-- an end that is not allocated moves on

pub restated_accounted : (d : DifSeen) (lines : List Direction) (below : Seen) (at : ℕ) (end : End) (state : PortState) → IsAccounted d lines below → slice_get d.ends at ≡ Some end → end.state ≢ Allocated → state ≢ Allocated → IsAccounted (record d { ends = slice_set d.ends at (record end { state = state }) }) lines below
restated_accounted d lines below at end state a is old new =
    let end' : End = record end { state = state } in
    let ends' : List End = slice_set d.ends at end' in
    let d' : DifSeen = record d { ends = ends' } in
    let change = end_changed d.ends at end end' is refl refl in
    accounted_on d d' lines lines below below a a.passed a.apart (λ i m p k here. record {
      process = p;
      is_process = record { is_member = here.is_member; is_process = here.is_process };
      resends = resends_on d d' m.addr k.scep refl (λ n ids x. x);
      moved = moved_same m.addr k (Resends d' m.addr k.scep) (counts_of d lines below m p k) (counts_of d' lines below m p k) (record {
        taken = refl;
        relayed = refl;
        gone = refl;
        made = made_same (piece_size d.config) d.conns m.addr k d.ends ends' at end end' change refl;
        kept = kept_restated (piece_size d.config) d.conns lines m.addr k d.ends ends' at end end' change refl (λ n. held_none end.state n old ∙ sym (held_none state n new));
      });
    })
