-- What a connection makes of a piece that comes is what the machine makes of it.
use Rattle.std.proofs.Common.{◌≡◌, ℕ, ◌+◌, ◌-◌, ◌%◌, ◌^◌, ◌≤◌, List, [], ◌++◌, length, map, Bool, true, false, not, cond, ◌&&◌, ltb, Option, Some, None, append-nil, refl, sym, ◌∙◌, ap, subst, arith, inl}
use Rattle.rina_account.specs.declared.ledger.Off.{Off}
use Rattle.rina_base.specs.declared.cause.Cause.{Cause}
use Rattle.rina_base.specs.declared.cause.Cause.TheVariants as causes
use Rattle.rina_base.specs.declared.number.Key.{Key}
use Rattle.rina_base.specs.declared.pdu.Pdu.{Pdu}
use Rattle.rina_cube.specs.declared.Kind.{Kind}
use Rattle.rina_cube.specs.declared.Kind.TheVariants as kinds
use Rattle.rina_dif_law.specs.Ids.{Ids, IsFrom, flipped}
use Rattle.rina_dif_law.specs.Incoming.{GivesUp, IsDropped, by_joiner, cause_by, cause_for, landed, missing_for}
use Rattle.rina_dtp.specs.declared.gap.Lost.{Lost}
use Rattle.rina_dtp.specs.declared.verdict.Verdict.{Verdict}
use Rattle.rina_dtp.specs.Lost.{given_up, joiner_for, lost_after, missing_before, told, told_accepted}
use Rattle.rina_dtp.specs.Receiving.{Receiving, broken_with, drops, end_cause, ended_with, kept_numbers, lost_in, present_at}
use Rattle.rina_dtp.specs.Source.{key_at, source_of}
use Rattle.rina_dtp.specs.Stands.{Came, IsFetched, IsRow, Stands}
use Rattle.rina_dtp.proofs.Came.{drops_standing, present_same}
use Rattle.rina_law.specs.Constants.{Constants}
use Rattle.rina_law.specs.Direction.{Direction, entry_for, has_room}
use Rattle.rina_law.specs.Line.{arrival_verdict}
use Rattle.rina_law.specs.Lists.{In}
use Rattle.rina_law.specs.Pdus.{piece_in}
use Rattle.rina_law.specs.Pieces.{Joiner, Sdu, empty_joiner, goes_on}
use Rattle.rina_law.specs.Receiver as law
use Rattle.rina_law.specs.Receiver.{Piece, is_present}
use Rattle.rina_flows.specs.Arriving.{IsComing, cause_of, offs_of}
use Rattle.rina_flows.specs.Tied.{IsKeptBy}
use Rattle.rina_flows.proofs.Given.{broken_in, broken_with-length, ended_in, given_up_in}
use Rattle.rina_flows.proofs.Kept.{drops_count, drops_ended, given_up_within}
use Rattle.rina_flows.proofs.Unbroken.{none_lost}
use Rattle.rina_flows.proofs.Welcome.{verdict_is, welcome}

-- the row of the machine at the direction
pub came_of : (c : Constants) (ids : Ids) (line : Direction) (pdu : Pdu) (unpassed : ℕ) (old : Receiving) (result : Verdict) (new : Receiving) → IsComing c ids line pdu → ltb unpassed c.cube.window ≡ has_room c line → Stands c line.line.clock line.line.receiver line.inbox.joiner old → IsFetched line.line.clock old → IsRow line.line.clock pdu unpassed old result new →
    Came c line.line.clock (is_present c line.line.clock line.line.receiver) line.line.receiver line.inbox.joiner (arrival_verdict c line.line (piece_in pdu) (has_room c line)) pdu old result new
came_of c ids line pdu unpassed old result new coming room st fetched row =
    let C : law.Verdict → Type 0 = λ v. Came c line.line.clock (is_present c line.line.clock line.line.receiver) line.line.receiver line.inbox.joiner v pdu old result new in
    subst C (verdict_is c line (piece_in pdu) unpassed room) (row c line.line.receiver line.inbox.joiner st fetched (welcome c ids line pdu unpassed coming room))

-- Why it is written off

missing_same : (p : Piece) (j : Joiner) → missing_before p.number j ≡ missing_for p j
missing_same p j = (let e : p.number + (2 ^ 32 - 1) ≡ p.number + 2 ^ 32 - 1 = omega arith in ap (λ k. cond (ltb 0 j.count) ((j.from + j.count) % 2 ^ 32) (k % 2 ^ 32)) e)

told_joined : (b t : Bool) (before missing whole : ℕ) → before ≡ missing → cause_of (told_accepted (not b && not t) before whole) ≡ cond b None (cond t None (Some (causes.Broken missing)))
told_joined true t before missing whole e = refl
told_joined false true before missing whole e = refl
told_joined false false before missing whole e = ap (λ n. Some (causes.Broken n)) e

joiner_same : (b : Bool) (j : Joiner) → joiner_for b j ≡ cond b j empty_joiner
joiner_same true j = refl
joiner_same false j = refl

told_cause : (v : law.Verdict) (c : Constants) (line : Direction) (pdu : Pdu) (whole : List Sdu) → pdu.scep ≡ c.cep → cause_of (told v c.cube.window pdu line.line.receiver (joiner_for (is_present c line.line.clock line.line.receiver) line.inbox.joiner) whole) ≡ cause_by v c (piece_in pdu) line
told_cause law.Accepted c line pdu whole cep =
    let j = joiner_for (is_present c line.line.clock line.line.receiver) line.inbox.joiner in
    told_joined pdu.first (goes_on pdu.seq j) (missing_before pdu.seq j) (missing_for (piece_in pdu) j) (length whole) (missing_same (piece_in pdu) j)
    ∙ ap (by_joiner (piece_in pdu)) (joiner_same (is_present c line.line.clock line.line.receiver) line.inbox.joiner)
told_cause law.Held c line pdu whole cep = refl
told_cause law.Duplicate c line pdu whole cep = ap (λ n. Some (causes.Duplicate (record { cep = n; seq = pdu.seq }))) cep
told_cause law.Behind c line pdu whole cep = refl
told_cause law.NoState c line pdu whole cep = refl
told_cause law.NoRoom c line pdu whole cep = refl

module _ (c : Constants) (ids : Ids) (line : Direction) (pdu : Pdu) (coming : IsComing c ids line pdu) (old : Receiving) (result : Verdict) (new : Receiving) (came : Came c line.line.clock (is_present c line.line.clock line.line.receiver) line.line.receiver line.inbox.joiner (arrival_verdict c line.line (piece_in pdu) (has_room c line)) pdu old result new) where
  pub came_cause : cause_of result ≡ cause_for c (piece_in pdu) line
  came_cause = ap cause_of came.told_is ∙ told_cause (arrival_verdict c line.line (piece_in pdu) (has_room c line)) c line pdu _ (coming.names.scep ∙ sym coming.cep)

  -- what is delivered
  pub came_got : (landed c (piece_in pdu) line).inbox.got ≡ line.inbox.got ++ map (entry_for c line.line.clock) new.join.whole
  came_got = ap (λ (ws : List Sdu). line.inbox.got ++ map (entry_for c line.line.clock) ws) (sym came.whole)

-- The pieces that are given up

-- by the state that is gone, before the piece is received
pub gone_dropped : (c : Constants) (ids : Ids) (line : Direction) (p : Piece) (r : Receiving) → Stands c line.line.clock line.line.receiver line.inbox.joiner r → lost_in r.join.gaps ≡ [] → ((n : ℕ) → In n (kept_numbers r) → IsKeptBy ids line r n) → (off : Off) → In off (offs_of (drops line.line.clock r)) → IsDropped c p line ids off
gone_dropped c ids line p r st broken kept off i = go (is_present c line.line.clock line.line.receiver) refl
  where
    go : (b : Bool) → is_present c line.line.clock line.line.receiver ≡ b → IsDropped c p line ids off
    go true present =
        let standing = drops_standing line.line.clock r st.not_closed (sym (present_same c line.line.clock line.line.receiver line.inbox.joiner r st) ∙ present) in
        let none : drops line.line.clock r ≡ [] = standing ∙ ap (broken_with r.source) broken in
        absurd (subst (λ (ds : List (Key × Cause)). In off (offs_of ds)) none i)
    go false gone =
        let absent : present_at line.line.clock r ≡ false = sym (present_same c line.line.clock line.line.receiver line.inbox.joiner r st) ∙ gone in
        let why : end_cause line.line.clock r ≡ Some (causes.StateGone r.last_in) = (let E : end_cause line.line.clock r ≡ cond false (Some (causes.NoConnection r.source.dcep)) (cond false None (Some (causes.StateGone r.last_in))) = rw (st.not_closed, absent) refl in E) in
        let all : drops line.line.clock r ≡ ended_with r.source (Some (causes.StateGone r.last_in)) (kept_numbers r) = drops_ended line.line.clock r broken ∙ ap (λ (o : Option Cause). ended_with r.source o (kept_numbers r)) why in
        let f = ended_in r.source (causes.StateGone r.last_in) (kept_numbers r) off (subst (λ (ds : List (Key × Cause)). In off (offs_of ds)) all i) in
        let k = kept f.0 f.1 in
        let G : Bool → Type 0 = λ b. GivesUp c p line b (causes.StateGone r.last_in) in
        let is : IsDropped c p line ids (record { key = key_at r.source f.0; cause = causes.StateGone r.last_in }) = record {
          kind = refl;
          src = ap (λ s. s.src) k.source;
          scep = ap (λ s. s.scep) k.source;
          held = k.number;
          why = subst G (sym gone) (k.made, sym st.last_in);
        } in
        subst (IsDropped c p line ids) (sym f.2) is

-- by the piece itself, which breaks an SDU
lost_is : (c : Constants) (ids : Ids) (line : Direction) (pdu : Pdu) (off : Off) (l : Lost) → IsFrom (flipped ids) pdu → is_present c line.line.clock line.line.receiver ≡ true → In l (given_up pdu.seq (piece_in pdu).part line.inbox.joiner) → off ≡ record { key = key_at (source_of pdu) l.number; cause = causes.Broken l.missing } → IsDropped c (piece_in pdu) line ids off
lost_is c ids line pdu off l names present i is =
    let at = given_up_in pdu.seq (piece_in pdu).part line.inbox.joiner l i in
    let G : Bool → Type 0 = λ b. GivesUp c (piece_in pdu) line b (causes.Broken l.missing) in
    let x : IsDropped c (piece_in pdu) line ids (record { key = key_at (source_of pdu) l.number; cause = causes.Broken l.missing }) = record {
      kind = refl;
      src = names.src;
      scep = names.scep;
      held = inl (at.0, at.1);
      why = subst G (sym present) (at.2 ∙ missing_same (piece_in pdu) line.inbox.joiner);
    } in
    subst (IsDropped c (piece_in pdu) line ids) (sym is) x

-- what an arrival gives up was in the joiner
lost_joined : (c : Constants) (ids : Ids) (line : Direction) (pdu : Pdu) (v : law.Verdict) (kind : Kind) (b : Bool) (l : Lost) → IsComing c ids line pdu → c.cube.kind ≡ kind → is_present c line.line.clock line.line.receiver ≡ b → arrival_verdict c line.line (piece_in pdu) (has_room c line) ≡ v → In l (lost_after v kind b (piece_in pdu) line.line.receiver.held line.inbox.joiner) → (b ≡ true) × In l (given_up pdu.seq (piece_in pdu).part line.inbox.joiner)
lost_joined c ids line pdu law.Accepted kinds.Datagram true l coming k b v i = (refl, subst (In l) (append-nil (given_up pdu.seq (piece_in pdu).part line.inbox.joiner)) i)
lost_joined c ids line pdu law.Accepted kinds.Loose true l coming k b v i = (refl, subst (In l) (append-nil (given_up pdu.seq (piece_in pdu).part line.inbox.joiner)) i)
lost_joined c ids line pdu law.Accepted kinds.Reliable true l coming k b v i =
    let V : Piece → Type 0 = λ p. arrival_verdict c line.line p (has_room c line) ≡ law.Accepted in
    let L : Piece → Type 0 = λ p. lost_after law.Accepted kinds.Reliable true p line.line.receiver.held line.inbox.joiner ≡ [] in
    let none = subst L coming.copy_is (none_lost c line coming.copy coming.limits coming.holds coming.flies coming.alive k b (subst V (sym coming.copy_is) v)) in
    absurd (subst (In l) none i)
lost_joined c ids line pdu law.Accepted kind false l coming k b v i = absurd i
lost_joined c ids line pdu law.Held kind b l coming k p v i = absurd i
lost_joined c ids line pdu law.Duplicate kind b l coming k p v i = absurd i
lost_joined c ids line pdu law.Behind kind b l coming k p v i = absurd i
lost_joined c ids line pdu law.NoState kind b l coming k p v i = absurd i
lost_joined c ids line pdu law.NoRoom kind b l coming k p v i = absurd i

pub came_dropped : (c : Constants) (ids : Ids) (line : Direction) (pdu : Pdu) (old : Receiving) (result : Verdict) (new : Receiving) → IsComing c ids line pdu →
    Came c line.line.clock (is_present c line.line.clock line.line.receiver) line.line.receiver line.inbox.joiner (arrival_verdict c line.line (piece_in pdu) (has_room c line)) pdu old result new → (off : Off) → In off (offs_of (drops line.line.clock new)) → IsDropped c (piece_in pdu) line ids off
came_dropped c ids line pdu old result new coming came off i =
    let v = arrival_verdict c line.line (piece_in pdu) (has_room c line) in
    let b = is_present c line.line.clock line.line.receiver in
    let f = broken_in (source_of pdu) (lost_after v c.cube.kind b (piece_in pdu) line.line.receiver.held line.inbox.joiner) off (subst (λ (ds : List (Key × Cause)). In off (offs_of ds)) came.dropped i) in
    let x = lost_joined c ids line pdu v c.cube.kind b f.0 coming refl refl refl f.1 in
    lost_is c ids line pdu off f.0 coming.names x.0 x.1 f.2

-- how many they are at most
lost_count : (c : Constants) (ids : Ids) (line : Direction) (pdu : Pdu) (v : law.Verdict) (kind : Kind) (b : Bool) (r : Receiving) → IsComing c ids line pdu → c.cube.kind ≡ kind → is_present c line.line.clock line.line.receiver ≡ b → arrival_verdict c line.line (piece_in pdu) (has_room c line) ≡ v → Stands c line.line.clock line.line.receiver line.inbox.joiner r → length (lost_after v kind b (piece_in pdu) line.line.receiver.held line.inbox.joiner) ≤ cond b (length (kept_numbers r)) 0
lost_count c ids line pdu law.Accepted kinds.Datagram true r coming k b v st =
    let le = given_up_within c line.line.clock line.line.receiver line.inbox.joiner r pdu.seq (piece_in pdu).part st b in
    let same = ap (λ (ls : List Lost). length ls) (append-nil (given_up pdu.seq (piece_in pdu).part line.inbox.joiner)) in
    omega arith
lost_count c ids line pdu law.Accepted kinds.Loose true r coming k b v st =
    let le = given_up_within c line.line.clock line.line.receiver line.inbox.joiner r pdu.seq (piece_in pdu).part st b in
    let same = ap (λ (ls : List Lost). length ls) (append-nil (given_up pdu.seq (piece_in pdu).part line.inbox.joiner)) in
    omega arith
lost_count c ids line pdu law.Accepted kinds.Reliable true r coming k b v st =
    let V : Piece → Type 0 = λ p. arrival_verdict c line.line p (has_room c line) ≡ law.Accepted in
    let L : Piece → Type 0 = λ p. lost_after law.Accepted kinds.Reliable true p line.line.receiver.held line.inbox.joiner ≡ [] in
    let none = subst L coming.copy_is (none_lost c line coming.copy coming.limits coming.holds coming.flies coming.alive k b (subst V (sym coming.copy_is) v)) in
    let same = ap (λ (ls : List Lost). length ls) none in
    omega arith
lost_count c ids line pdu law.Accepted kind false r coming k b v st = omega arith
lost_count c ids line pdu law.Held kind b r coming k p v st = omega arith
lost_count c ids line pdu law.Duplicate kind b r coming k p v st = omega arith
lost_count c ids line pdu law.Behind kind b r coming k p v st = omega arith
lost_count c ids line pdu law.NoState kind b r coming k p v st = omega arith
lost_count c ids line pdu law.NoRoom kind b r coming k p v st = omega arith

-- those of the state and those of the piece are no more than what was kept, since the one come where state is gone,
-- and the other where it stands
pub drops_within : (c : Constants) (ids : Ids) (line : Direction) (pdu : Pdu) (r old : Receiving) (result : Verdict) (new : Receiving) → IsComing c ids line pdu → Stands c line.line.clock line.line.receiver line.inbox.joiner r → lost_in r.join.gaps ≡ [] →
    Came c line.line.clock (is_present c line.line.clock line.line.receiver) line.line.receiver line.inbox.joiner (arrival_verdict c line.line (piece_in pdu) (has_room c line)) pdu old result new → length (drops line.line.clock r) + length (drops line.line.clock new) ≤ length (kept_numbers r)
drops_within c ids line pdu r old result new coming st broken came =
    let v = arrival_verdict c line.line (piece_in pdu) (has_room c line) in
    let lost = lost_after v c.cube.kind (is_present c line.line.clock line.line.receiver) (piece_in pdu) line.line.receiver.held line.inbox.joiner in
    let le = lost_count c ids line pdu v c.cube.kind (is_present c line.line.clock line.line.receiver) r coming refl refl refl st in
    let same : length (drops line.line.clock new) ≡ length lost = ap (λ (ds : List (Key × Cause)). length ds) came.dropped ∙ broken_with-length (source_of pdu) lost in
    go (is_present c line.line.clock line.line.receiver) refl (let x : length (drops line.line.clock new) ≤ cond (is_present c line.line.clock line.line.receiver) (length (kept_numbers r)) 0 = omega arith in x)
  where
    go : (b : Bool) → is_present c line.line.clock line.line.receiver ≡ b → length (drops line.line.clock new) ≤ cond b (length (kept_numbers r)) 0 → length (drops line.line.clock r) + length (drops line.line.clock new) ≤ length (kept_numbers r)
    go true present le =
        let standing = drops_standing line.line.clock r st.not_closed (sym (present_same c line.line.clock line.line.receiver line.inbox.joiner r st) ∙ present) in
        let none : drops line.line.clock r ≡ [] = standing ∙ ap (broken_with r.source) broken in
        let zero = ap (λ (ds : List (Key × Cause)). length ds) none in
        omega arith
    go false gone le = (let most = drops_count line.line.clock r broken in omega arith)
