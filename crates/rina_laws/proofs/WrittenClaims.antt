-- A clock step asks the facilities below for a flow that came in, before it frees a port there: the claims write nothing, and what the free writes might have been
-- written before them.
use Rattle.std.proofs.Common.{◌≡◌, ◌∙◌, ℕ, zero, suc, true, false, List, slice_get, Option, Some, None, Result, Ok, Err, refl, sym, ap, subst, inl, inr}
use Rattle.std.specs.Global.{Vec}
use Rattle.rina_account.specs.declared.ledger.Off.{Off}
use Rattle.rina_base.specs.declared.cause.Cause.{Cause}
use Rattle.rina_base.specs.declared.cause.Cause.TheVariants as causes
use Rattle.rina_base.specs.declared.number.Key.{Key}
use Rattle.rina_base.specs.declared.number.Port.{Port}
use Rattle.rina_cube.specs.declared.Cube.{Cube}
use Rattle.rina_iface.specs.declared.error.FreeError.{FreeError}
use Rattle.rina_iface.specs.declared.error.FreeError.TheVariants as freeing
use Rattle.rina_iface.specs.Free.{FreesAsSeen}
use Rattle.rina_iface.specs.Seen.{Seen}
use Rattle.rina_iface.proofs.Changed.{set_at}
use Rattle.rina_law.specs.Direction.{Direction}
use Rattle.rina_data.specs.declared.step.ClockStep.{ClockStep}
use Rattle.rina_data.specs.declared.step.ClockStep.TheVariants as clocks
use Rattle.rina_data.specs.declared.step.StepError.{StepError}
use Rattle.rina_data.specs.declared.step.StepError.TheVariants.{CountSpent, Memory, NoIpc, NoLink}
use Rattle.rina_data.specs.Process.{Process}
use Rattle.rina_data.specs.Configs.{Member}
use Rattle.rina_dif_law.specs.Accounted.{Resends, counts_of}
use Rattle.rina_dif_law.specs.Dif.{DifSeen, IsProcess}
use Rattle.rina_dif_law.specs.Ids.{Ids}
use Rattle.rina_dif_law.specs.WriteOffs.{MayBy, MayWriteOff, NoPort, SomeReceiver}
use Rattle.rina_dif_law.proofs.Accounting.{resends_on, same_refl}
use Rattle.rina_dif_law.proofs.Balancing.{IsBefore, accounted_on, moved_same}
use Rattle.rina_dif.specs.declared.dif.Dif.{Dif}
use Rattle.rina_dif.specs.Lower.{ClaimsInTurn, ClocksBelow, FindsNone, FreesAs, FreesNone, HasAsked, HasClaimed}
use Rattle.rina_dif.specs.Shown.{seen_of as seen_of_dif}
use Rattle.rina_dif.specs.Holding.{Holds}
use Rattle.rina_dif.proofs.Claimed.{with_waiting}
use Rattle.rina_tower.specs.declared.tower.Tower.{Tower, Wires, Rank'}
use Rattle.rina_tower.specs.Calls.{ClaimsAtTop, FreesWhole, Serves}
use Rattle.rina_tower.specs.Levels.{AtDif}
use Rattle.rina_tower.specs.MemoryFailure.{has_failed}
use Rattle.rina_tower.specs.Ranks.{seen_of}
use Rattle.rina_tower.specs.Refusals.{frees_both}
use Rattle.rina_tower.specs.Stands.{IsTower}
use Rattle.rina_tower.specs.Unchanged.{ChangesClaims}
use Rattle.rina_laws.specs.Written.{MayWrite, line_of}
use Rattle.rina_laws.proofs.WrittenCalls.{MayFree, Stood, claims, frees_stood, may_free, stood_same}
use Rattle.rina_laws.proofs.WrittenGrows.{DifGrows, Grows, Never, grows_more}

-- ---- what may be written off does not hang on the far ends that wait

-- the DIF with other far ends that wait
abbrev waits_as : DifSeen → List ℕ → DifSeen
waits_as d ws = record d { waiting = ws }

module _ (d : DifSeen) (ws : List ℕ) (lines : List Direction) (below : Seen) (down : Port → Type 0) (addr : ℕ) (process : Process) (key : Key) where
  receiver_before : (holds : Ids → Cube → Direction → Type 0) → SomeReceiver (waits_as d ws) lines addr key holds → SomeReceiver d lines addr key holds
  receiver_before holds (ids, cube, line, r, h) = (
    ids,
    cube,
    line,
    record {
      piece = r.piece;
      place = r.place;
      end = r.end;
      is_conn = r.is_conn;
      allocated = r.allocated;
      own = r.own;
      far = r.far;
      cep = r.cep;
      is_cube = r.is_cube;
      from = r.from;
      inbound = record { partner = r.inbound.partner; is_partner = r.inbound.is_partner; partners = r.inbound.partners; is_line = r.inbound.is_line };
    },
    h,
  )

  by_before : (cause : Cause) → MayBy (waits_as d ws) lines below down addr process key cause → MayBy d lines below down addr process key cause
  by_before (causes.Expired left charge) (much, inl m) = (
    much,
    inl (record {
      number = m.number;
      link = m.link;
      place = m.place;
      queue = m.queue;
      item = m.item;
      head = m.head;
      key_is = m.key_is;
      promise = m.promise;
      promised = m.promised;
      left_is = m.left_is;
      charge_is = m.charge_is;
    }),
  )
  by_before (causes.Expired left charge) (much, inr m) = (
    much,
    inr (record {
      number = m.number;
      link = m.link;
      is_link = m.is_link;
      entry = m.entry;
      oldest = m.oldest;
      hop = m.hop;
      opens = m.opens;
      key_is = m.key_is;
      left_is = m.left_is;
      charge_is = m.charge_is;
    }),
  )
  by_before (causes.NoRoute dst) m = m
  by_before (causes.QueueFull most) m = m
  by_before (causes.NoConnection cep) (inl m) = inl (record {
    pdu = m.pdu;
    key_is = m.key_is;
    cep_is = m.cep_is;
    dst = m.dst;
    none = λ k end ids t. m.none k end ids (record { is_conn = t.is_conn; allocated = t.allocated; names = t.names });
  })
  by_before (causes.NoConnection cep) (inr m) = inr (receiver_before _ m)
  by_before (causes.Duplicate num) m = (m.0, receiver_before _ m.1)
  by_before (causes.Behind top) m = receiver_before _ m
  by_before (causes.NoState drf) m = receiver_before _ m
  by_before (causes.NoRoom most) m = receiver_before _ m
  by_before (causes.StateGone last_in) m = receiver_before _ m
  by_before (causes.Broken missing) m = receiver_before _ m
  by_before (causes.LinkDown port) m = m

off_before : (d : DifSeen) (ws : List ℕ) (lines : List Direction) (below : Seen) (down : Port → Type 0) (i : ℕ) (off : Off) → MayWriteOff (waits_as d ws) lines below down i off → MayWriteOff d lines below down i off
off_before d ws lines below down i off m = record {
  member = m.member;
  process = m.process;
  is_process = record { is_member = m.is_process.is_member; is_process = m.is_process.is_process };
  may = elim (m.may) [
    | inl may ↦ inl (by_before d ws lines below down m.member.addr m.process off.key off.cause may)
    | inr link ↦ inr link
  ];
}

-- the account counts none of them
counts_before : (d : Dif) (waiting : Vec ℕ) (lines : List Direction) (below : Seen) (i : ℕ) (m : Member) (p : Process) (k : Key) → IsProcess (seen_of_dif (with_waiting d waiting)) i m p → IsBefore (seen_of_dif d) (seen_of_dif (with_waiting d waiting)) lines lines below below i m p k
counts_before d waiting lines below i m p k is = record {
  process = p;
  is_process = record { is_member = is.is_member; is_process = is.is_process };
  resends = resends_on (seen_of_dif d) (seen_of_dif (with_waiting d waiting)) m.addr k.scep refl (λ n ids x. x);
  moved = moved_same m.addr k (Resends (seen_of_dif (with_waiting d waiting)) m.addr k.scep) (counts_of (seen_of_dif d) lines below m p k) (counts_of (seen_of_dif (with_waiting d waiting)) lines below m p k) (same_refl (counts_of (seen_of_dif d) lines below m p k));
}

-- the same directions stand behind the flows, whichever far ends wait
holds_so : (d : Dif) (waiting : Vec ℕ) (lines : List Direction) (below : Seen) → Holds d lines below → Holds (with_waiting d waiting) lines below
holds_so d waiting lines below h = (let st = h.standing in record {
  tied = h.tied;
  standing = record {
    config = st.config;
    clock = st.clock;
    aligned = st.aligned;
    linked = st.linked;
    inside = st.inside;
    spelled = st.spelled;
    items = st.items;
    journal = st.journal;
    ports = record { own = st.ports.own; apart = st.ports.apart; drawn = st.ports.drawn };
    own = st.own;
  };
  carrying = record { entries = h.carrying.entries; holding = λ i from e ids line conn inbound. h.carrying.holding i from e ids line conn (record { partner = inbound.partner; is_partner = inbound.is_partner; partners = inbound.partners; is_line = inbound.is_line }) };
  numbered = (let n = h.numbered in record { members = n.members; addressed = n.addressed; counted = n.counted; drawn = n.drawn; named = n.named });
  accounted = accounted_on (seen_of_dif d) (seen_of_dif (with_waiting d waiting)) lines lines below below h.accounted h.accounted.passed h.accounted.apart (λ i m p k is. counts_before d waiting lines below i m p k is);
  caused = h.caused;
  written_off = λ i m p off is. h.written_off i m p off (record { is_member = is.is_member; is_process = is.is_process });
  housed = h.housed;
  managed = h.managed;
  enrolled = h.enrolled;
  connected = h.connected;
  flooded = h.flooded;
})

-- what a free may write behind a claim, it might before
free_before : (d e : Dif) (below : Tower) (i : ℕ) (off : Off) → ChangesClaims d e → MayFree e below i off → MayWrite d below i off
free_before d e below i off changes = subst (λ (z : Dif). MayFree z below i off → MayWrite d below i off) (sym changes) (λ m. may_free d below i off (record {
  lines = m.lines;
  holds = holds_so (with_waiting d e.waiting) d.waiting m.lines (seen_of below) m.holds;
  may = off_before (seen_of_dif d) e.waiting.items m.lines (seen_of below) NoPort i off m.may;
}))

-- ---- claims

-- the DIFs of a rank are what they were but for the far ends that wait
abbrev RankWaits : List Dif → List Dif → Type 0
RankWaits difs difs' = (n : ℕ) (e : Dif) → slice_get difs' n ≡ Some e → (d : Dif) × (slice_get difs n ≡ Some d) × ChangesClaims d e

-- and so is the tower, whose other ranks are what they were
abbrev Waits : Tower → Tower → Type 0
Waits (Wires a) (Wires a') = Unit {0}
Waits (Rank' p difs below) (Rank' p' difs' below') = RankWaits difs difs' × (below' ≡ below)
Waits t t' = ⊥

one_waits : (call : Seen → Seen → Type 0) (n : ℕ) (none : Type 0) (difs difs' : List Dif) → AtDif n (Serves call ChangesClaims n) none difs difs' → RankWaits difs difs'
one_waits call n none difs difs' a k e at = elim a [
  | inl h ↦ elim (set_at difs n k h.dif h.dif' e h.is_dif (subst (λ (ds : List Dif). slice_get ds k ≡ Some e) h.new_is at)) [
    | inl s ↦ (h.dif, subst (λ (m : ℕ). slice_get difs m ≡ Some h.dif) (sym s.0) h.is_dif, subst (ChangesClaims h.dif) (sym s.1) h.done.rest)
    | inr o ↦ (e, o.1, refl)
  ]
  | inr h ↦ (e, subst (λ (ds : List Dif). slice_get ds k ≡ Some e) h.2 at, refl)
]

same_waits : (t t' : Tower) → t' ≡ t → Waits t t'
same_waits t t' is = subst (Waits t) (sym is) (refl_waits t)
  where
    refl_waits : (u : Tower) → Waits u u
    refl_waits (Wires a) = tt
    refl_waits (Rank' p difs below) = (λ k e at. (e, at, refl), refl)

waits_on : (t u v : Tower) → Waits t u → Waits u v → Waits t v
waits_on (Wires a) (Wires b) (Wires c) g h = tt
waits_on (Rank' p ds below) (Rank' q es mid) (Rank' r fs under) g h = (
  λ k f at. (let e = h.0 k f at in let d = g.0 k e.0 e.1 in (d.0, d.1, e.2 ∙ ap (λ (z : Dif). record z { waiting = f.waiting }) d.2)),
  h.1 ∙ g.1,
)
waits_on (Wires a) (Wires b) (Rank' r fs under) g h = absurd h
waits_on (Wires a) (Rank' q es mid) v g h = absurd g
waits_on (Rank' p ds below) (Wires b) v g h = absurd g
waits_on (Rank' p ds below) (Rank' q es mid) (Wires c) g h = absurd h

claims_waits : (fac node : ℕ) (app : List ℕ) (x : Option Port) (t t' : Tower) → ClaimsAtTop fac node app x t t' → Waits t t'
claims_waits fac node app x (Wires a) (Wires a') d = tt
claims_waits fac node app x (Rank' p difs below) (Rank' p' difs' below') d = (one_waits _ fac _ difs difs' d.0, d.1)
claims_waits fac node app x (Wires a) (Rank' p difs below) d = absurd d
claims_waits fac node app x (Rank' p difs below) (Wires a) d = absurd d

-- what claims leave: the tower stands, and nothing has changed but the far ends that wait
record Claimed (t t' : Tower) : Type 0 where
  valid : IsTower t'
  waits : Waits t t'

-- the question to one facility
abbrev ClaimsBy : ℕ → List ℕ → Tower → ℕ → Option Port → Tower → Type 0
ClaimsBy node app t fac answer t' = ClaimsAtTop fac node app answer t t'

module _ (node : ℕ) (app : List ℕ) where
  one_claims : (fac : ℕ) (x : Option Port) (t t' : Tower) → IsTower t → ClaimsBy node app t fac x t' → Claimed t t'
  one_claims fac x t t' v d = record { valid = (claims Never fac node app x t t' v d).valid; waits = claims_waits fac node app x t t' d }

  then_claims : (fac : ℕ) (x : Option Port) (t u v : Tower) → Claimed t u → ClaimsBy node app u fac x v → Claimed t v
  then_claims fac x t u v c d = (let k = one_claims fac x u v c.valid d in record { valid = k.valid; waits = waits_on t u v c.waits k.waits })

  finds_none : (n : ℕ) (t t' : Tower) → IsTower t → FindsNone (ClaimsBy node app) n t t' → Claimed t t'
  finds_none zero t t' v d = record { valid = subst IsTower (sym d) v; waits = same_waits t t' d }
  finds_none (suc n) t t' v (mid, before, last) = then_claims n None t mid t' (finds_none n t mid v before) last

  in_turn : (x : Option Port) (t t' : Tower) → IsTower t → ClaimsInTurn (ClaimsBy node app) t x t' → Claimed t t'
  in_turn (Some port) t t' v (fac, mid, before, last) = then_claims fac (Some port) t mid t' (finds_none fac t mid v before) last
  in_turn None t t' v (n, before) = finds_none n t t' v before

  has_asked : (t t' : Tower) → IsTower t → HasAsked (ClaimsBy node app) t t' → Claimed t t'
  has_asked t t' v d = in_turn d.0 t t' v d.1

  has_claimed : (t t' : Tower) → IsTower t → HasClaimed (ClaimsBy node app) t t' → Claimed t t'
  has_claimed t t' v d = in_turn (Some d.0) t t' v d.1

-- ---- a free behind them

dif_behind : (below : Tower) (d e f : Dif) → ChangesClaims d e → DifGrows MayFree below e f → DifGrows MayWrite below d f
dif_behind below d e f changes g i k off h =
    let before : line_of d.processes i k ≡ line_of e.processes i k = ap (λ (z : Dif). line_of z.processes i k) (sym changes) in
    elim (g i k off h) [ inl o ↦ inl (before ∙ o) | inr w ↦ inr (before ∙ w.0, free_before d e below i off changes w.1) ]

grows_behind : (t u v : Tower) → Waits t u → Grows MayFree u v → Grows MayWrite t v
grows_behind (Wires a) (Wires b) (Wires c) w g = tt
grows_behind (Rank' p ds below) (Rank' q es mid) (Rank' r fs under) w g = (
  λ n f at. (let e = g.0 n f at in let d = w.0 n e.0 e.1 in (d.0, d.1, dif_behind below d.0 e.0 f d.2 (subst (λ (z : Tower). DifGrows MayFree z e.0 f) w.1 e.2))),
  grows_more MayFree MayWrite below under may_free (subst (λ (z : Tower). Grows MayFree z under) w.1 g.1),
)
grows_behind (Wires a) (Wires b) (Rank' r fs under) w g = absurd g
grows_behind (Wires a) (Rank' q es mid) v w g = absurd w
grows_behind (Rank' p ds below) (Wires b) v w g = absurd w
grows_behind (Rank' p ds below) (Rank' q es mid) (Wires c) w g = absurd g

stood_behind : (t u v : Tower) → Claimed t u → Stood MayFree u v → Stood MayWrite t v
stood_behind t u v c s = record { valid = s.valid; grows = grows_behind t u v c.waits s.grows }

claims_alone : (t t' : Tower) → Claimed t t' → Stood MayWrite t t'
claims_alone t t' c = stood_behind t t' t' c (stood_same MayFree t' t' c.valid refl)

-- what freeing a port did
abbrev FreesBy : Tower → Tower → Port → Result (Unit {0}) FreeError → Type 0
FreesBy = FreesAsSeen seen_of frees_both FreesWhole

freed_there : (port : Port) (r : Result (Unit {0}) FreeError) (b b' : Tower) → IsTower b → FreesBy b b' port r → Stood MayFree b b'
freed_there port r b b' v d = elim (has_failed b) as (λ z. has_failed b ≡ z → Stood MayFree b b') [
  | true ↦ λ is. stood_same MayFree b b' v (d.1.1 is).1
  | false ↦ λ is. frees_stood port r b b' v (d.1.0 is)
] refl

freed_as : (done : ClockStep) (b b' : Tower) → IsTower b → FreesAs (b' ≡ b) (FreesBy b b') done → Stood MayFree b b'
freed_as (clocks.GaveUp num) b b' v (inl d) = stood_same MayFree b b' v d.1
freed_as (clocks.GaveUp num) b b' v (inr d) = freed_there d.1 (Ok tt) b b' v d.2
freed_as clocks.Idle b b' v d = stood_same MayFree b b' v d
freed_as (clocks.Gone cep) b b' v d = stood_same MayFree b b' v d
freed_as (clocks.Ack cep) b b' v d = stood_same MayFree b b' v d
freed_as (clocks.Again num) b b' v d = stood_same MayFree b b' v d
freed_as (clocks.LinkLost link) b b' v d = stood_same MayFree b b' v d
freed_as (clocks.LinkNew link) b b' v d = stood_same MayFree b b' v d
freed_as (clocks.Timeout port) b b' v d = stood_same MayFree b b' v d
freed_as (clocks.Message link) b b' v d = stood_same MayFree b b' v d

freed_none : (b b' : Tower) → IsTower b → FreesNone (b' ≡ b) (FreesBy b b') → Stood MayFree b b'
freed_none b b' v (inl d) = stood_same MayFree b b' v d
freed_none b b' v (inr d) = freed_there d.0 (Err freeing.Memory) b b' v d.1

module _ (node : ℕ) (app : List ℕ) (b b' : Tower) (v : IsTower b) where
  asked_then : (mid : Tower) → HasAsked (ClaimsBy node app) b mid → (IsTower mid → Stood MayFree mid b') → Stood MayWrite b b'
  asked_then mid asked next = (let c = has_asked node app b mid v asked in stood_behind b mid b' c (next c.valid))

  pub clocked_below : (x : Result ClockStep StepError) → ClocksBelow (ClaimsBy node app) FreesBy b x b' → Stood MayWrite b b'
  clocked_below (Ok (clocks.LinkLost link)) d = stood_same MayWrite b b' v d
  clocked_below (Ok (clocks.LinkNew link)) d = claims_alone b b' (has_claimed node app b b' v d)
  clocked_below (Ok clocks.Idle) d = asked_then d.mid d.asked (λ w. freed_as clocks.Idle d.mid b' w d.does)
  clocked_below (Ok (clocks.Gone cep)) d = asked_then d.mid d.asked (λ w. freed_as (clocks.Gone cep) d.mid b' w d.does)
  clocked_below (Ok (clocks.GaveUp num)) d = asked_then d.mid d.asked (λ w. freed_as (clocks.GaveUp num) d.mid b' w d.does)
  clocked_below (Ok (clocks.Ack cep)) d = asked_then d.mid d.asked (λ w. freed_as (clocks.Ack cep) d.mid b' w d.does)
  clocked_below (Ok (clocks.Again num)) d = asked_then d.mid d.asked (λ w. freed_as (clocks.Again num) d.mid b' w d.does)
  clocked_below (Ok (clocks.Timeout port)) d = asked_then d.mid d.asked (λ w. freed_as (clocks.Timeout port) d.mid b' w d.does)
  clocked_below (Ok (clocks.Message link)) d = asked_then d.mid d.asked (λ w. freed_as (clocks.Message link) d.mid b' w d.does)
  clocked_below (Err Memory) d = asked_then d.mid d.asked (λ w. freed_none d.mid b' w d.does)
  clocked_below (Err NoIpc) d = stood_same MayWrite b b' v d
  clocked_below (Err NoLink) d = stood_same MayWrite b b' v d
  clocked_below (Err (CountSpent need left)) d = stood_same MayWrite b b' v d
