-- What a copy of a receiver makes of a piece is what the receiver would make of it.
use Rattle.std.proofs.Common.{◌≡◌, ℕ, ◌+◌, ◌<◌, ◌^◌, suc, zero, ltb, List, [], ◌∷◌, ◌++◌, map, Bool, true, false, Option, Some, None, refl, sym, ◌∙◌, ap, subst, arith}
use Rattle.rina_base.specs.declared.pdu.Pdu.{Pdu}
use Rattle.rina_cube.specs.declared.Kind.{Kind}
use Rattle.rina_cube.specs.declared.Kind.TheVariants as kinds
use Rattle.rina_delim.specs.declared.joiner.Run.{Run}
use Rattle.rina_dtp.specs.declared.accepted.Accepted.{Accepted}
use Rattle.rina_dtp.specs.declared.accepted.Accepted.TheVariants.{Datagram, Loose, Reliable}
use Rattle.rina_dtp.specs.declared.verdict.Verdict.{Verdict}
use Rattle.rina_dtp.specs.Accepted.{kind_of, number_verdict, is_held, is_accepted}
use Rattle.rina_dtp.specs.Joins.{IsForward, sdu_in, bytes_of}
use Rattle.rina_dtp.specs.Receiving.{Receiving, present_at, run_numbers, held_numbers, cleared, drops, Steps}
use Rattle.rina_dtp.specs.Slots.{Waiting}
use Rattle.rina_dtp.specs.Stands.{IsRun, Knows, Stands, verdict_of, joined_by, IsAhead}
use Rattle.rina_dtp.proofs.Came.{present_same, verdict_same, append_left, append_right, kept_none, stands_cleared, whole_from}
use Rattle.rina_law.specs.Constants.{Constants}
use Rattle.rina_law.specs.Lists.{has, highest}
use Rattle.rina_law.specs.Pdus.{piece_in}
use Rattle.rina_law.specs.Pieces.{Joiner, Joined, joined_with}
use Rattle.rina_law.specs.Receiver as law
use Rattle.rina_law.specs.Receiver.{Piece, Receiver, is_present, numbers, with_room, joined_held, joined_on}

pub bytes_in : (ws : List Waiting) → bytes_of (map sdu_in ws) ≡ map (λ (w : Waiting). w.bytes) ws
bytes_in [] = refl
bytes_in (w ∷ ws) = ap (λ (bs : List (List ℕ)). w.bytes ∷ bs) (bytes_in ws)

run_forward : (j : Joiner) (held : Option Run) → IsRun j held → IsForward held
run_forward j None h = tt
run_forward j (Some run) h = (let (some, from, end, low) = h in omega arith)

none_forward : (held : Option Run) → run_numbers held ≡ [] → IsForward held
none_forward None e = tt
none_forward (Some run) e = absurd cc

forward_by : (c : Constants) (now : ℕ) (m : Receiver) (j : Joiner) (r : Receiving) (b : Bool) → Stands c now m j r → drops now r ≡ [] → is_present c now m ≡ b → IsForward r.join.joining.held
forward_by c now m j r true st f e = run_forward j r.join.joining.held (st.joiner e).run
forward_by c now m j r false st f e =
    let gone : present_at now r ≡ false = sym (present_same c now m j r st) ∙ e in
    let none = kept_none now r st.not_closed gone f in
    none_forward r.join.joining.held (append_right (run_numbers r.going) (run_numbers r.join.joining.held) (append_left (run_numbers r.going ++ run_numbers r.join.joining.held) (held_numbers r.accepted) none))

-- where all that was given up is fetched, the joiner's numbers rise
pub fetched_forward : (c : Constants) (now : ℕ) (m : Receiver) (j : Joiner) (r : Receiving) → Stands c now m j r → drops now r ≡ [] → IsForward r.join.joining.held
fetched_forward c now m j r st f = forward_by c now m j r (is_present c now m) st f refl

pub is_ahead : (now : ℕ) (pdu : Pdu) (unpassed : ℕ) (old copy : Receiving) (told : Verdict) (new : Receiving) (bodies : List (List ℕ)) → pdu.seq < 2 ^ 32 → (IsForward old.join.joining.held → copy ≡ cleared old) → Steps now pdu unpassed copy told new → bodies ≡ bytes_of new.join.whole → IsAhead now pdu unpassed old bodies
is_ahead now pdu unpassed old copy told new bodies small same steps is c m j st forward w =
    let S : Receiving → Type 0 = λ x. Steps now pdu unpassed x told new in
    let on = subst S (same forward) steps in
    is ∙ ap bytes_of (whole_from now pdu unpassed (cleared old) told new small on c m j (stands_cleared c now m j old st) w)

-- ---- without a copy

accepted_is : (v : law.Verdict) → is_accepted v ≡ true → v ≡ law.Accepted
accepted_is law.Accepted e = refl
accepted_is law.Held e = absurd cc
accepted_is law.Duplicate e = absurd cc
accepted_is law.Behind e = absurd cc
accepted_is law.NoState e = absurd cc
accepted_is law.NoRoom e = absurd cc

-- the machine's verdict is the one that is told of what is kept
told_same : (c : Constants) (now : ℕ) (pdu : Pdu) (unpassed : ℕ) (m : Receiver) (j : Joiner) (r : Receiving) → Stands c now m j r →
    verdict_of c now unpassed m (piece_in pdu) ≡ with_room (ltb unpassed r.window) (number_verdict (present_at now r) r.accepted pdu.seq pdu.drf)
told_same c now pdu unpassed m j r st =
    verdict_same c now unpassed m j r (piece_in pdu) st ∙ ap (λ b. with_room (ltb unpassed r.window) (number_verdict b r.accepted pdu.seq pdu.drf)) (present_same c now m j r st)

none_by : (c : Constants) (b : Bool) (m : Receiver) (j : Joiner) (v : law.Verdict) (p : Piece) → is_accepted v ≡ false → [] ≡ bytes_of (joined_by c b m j v p).whole
none_by c b m j law.Accepted p e = absurd cc
none_by c b m j law.Held p e = refl
none_by c b m j law.Duplicate p e = refl
none_by c b m j law.Behind p e = refl
none_by c b m j law.NoState p e = refl
none_by c b m j law.NoRoom p e = refl

-- a piece that is not accepted makes no SDU whole
pub none_ahead : (now : ℕ) (pdu : Pdu) (unpassed : ℕ) (r : Receiving) → is_accepted (with_room (ltb unpassed r.window) (number_verdict (present_at now r) r.accepted pdu.seq pdu.drf)) ≡ false → IsAhead now pdu unpassed r []
none_ahead now pdu unpassed r fails c m j st forward w =
    none_by c (is_present c now m) m j (verdict_of c now unpassed m (piece_in pdu)) (piece_in pdu) (ap is_accepted (told_same c now pdu unpassed m j r st) ∙ fails)

-- a whole SDU is joined to what waits
joined_alone : (n : ℕ) (body : List ℕ) (j : Joiner) → bytes_of (joined_with n (record { begins = true; ends = true; body = body }) (record { joiner = j; whole = [] })).whole ≡ body ∷ []
joined_alone n body j = refl

none_follow : (steps n : ℕ) (held : List Piece) (j : Joined) → has n (numbers held) ≡ false → joined_held steps n held j ≡ j
none_follow zero n held j e = refl
none_follow (suc steps) n held j e = rw e refl

alone_on : (k : Kind) (n : ℕ) (held : List Piece) (j : Joined) → (k ≡ kinds.Reliable → has (n + 1) (numbers held) ≡ false) → joined_on k n held j ≡ j
alone_on kinds.Datagram n held j fails = refl
alone_on kinds.Loose n held j fails = refl
alone_on kinds.Reliable n held j fails = none_follow (highest (numbers held)) (n + 1) held j (fails refl)

one_by : (c : Constants) (b : Bool) (m : Receiver) (j : Joiner) (n : ℕ) (drf : Bool) (body : List ℕ) → (b ≡ true → c.cube.kind ≡ kinds.Reliable → has (n + 1) (numbers m.held) ≡ false) →
    body ∷ [] ≡ bytes_of (joined_by c b m j law.Accepted (record { number = n; drf = drf; part = record { begins = true; ends = true; body = body } })).whole
one_by c true m j n drf body fails =
    let alone : Joined = joined_with n (record { begins = true; ends = true; body = body }) (record { joiner = j; whole = [] }) in
    sym (ap (λ (k : Joined). bytes_of k.whole) (alone_on c.cube.kind n m.held alone (fails refl)) ∙ joined_alone n body j)
one_by c false m j n drf body fails = refl

none_held : (a : Accepted) (m : Receiver) (k : ℕ) → Knows a m → kind_of a ≡ kinds.Reliable → is_held a k ≡ false → has k (numbers m.held) ≡ false
none_held (Datagram r) m k knows kind e = absurd cc
none_held (Loose h) m k knows kind e = absurd cc
none_held (Reliable s) m k knows kind e = knows.1.same k ∙ e

-- a piece that is an SDU by itself makes it whole, and no other where no held piece follows
pub one_ahead : (now : ℕ) (pdu : Pdu) (unpassed : ℕ) (r : Receiving) → pdu.first ≡ true → pdu.last ≡ true → is_held r.accepted (pdu.seq + 1) ≡ false → is_accepted (with_room (ltb unpassed r.window) (number_verdict (present_at now r) r.accepted pdu.seq pdu.drf)) ≡ true → IsAhead now pdu unpassed r (pdu.body ∷ [])
one_ahead now pdu unpassed r first last fails accepted c m j st forward w =
    let b = is_present c now m in
    let v : verdict_of c now unpassed m (piece_in pdu) ≡ law.Accepted = accepted_is (verdict_of c now unpassed m (piece_in pdu)) (ap is_accepted (told_same c now pdu unpassed m j r st) ∙ accepted) in
    let free : b ≡ true → c.cube.kind ≡ kinds.Reliable → has (pdu.seq + 1) (numbers m.held) ≡ false =
    λ is kind. none_held r.accepted m (pdu.seq + 1) (st.known is) (sym st.of.kind ∙ kind) fails in
    let whole : pdu.body ∷ [] ≡ bytes_of (joined_by c b m j law.Accepted (record { number = pdu.seq; drf = pdu.drf; part = record { begins = true; ends = true; body = pdu.body } })).whole = one_by c b m j pdu.seq pdu.drf pdu.body free in
    let part : bytes_of (joined_by c b m j law.Accepted (record { number = pdu.seq; drf = pdu.drf; part = record { begins = true; ends = true; body = pdu.body } })).whole ≡ bytes_of (joined_by c b m j law.Accepted (piece_in pdu)).whole = rw (first, last) refl in
    whole ∙ part ∙ ap (λ y. bytes_of (joined_by c b m j y (piece_in pdu)).whole) (sym v)
