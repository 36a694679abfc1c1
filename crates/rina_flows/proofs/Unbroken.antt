-- On a reliable flow each piece of the run finds those before it, so that none is given up.
use Rattle.std.proofs.Common.{◌≡◌, ℕ, zero, suc, ◌+◌, ◌<◌, ◌≤◌, List, [], ◌∷◌, ◌++◌, length, Bool, true, false, not, cond, ◌&&◌, ◌||◌, ltb, eqb, refl, sym, ◌∙◌, ap, subst, arith, inl, inr}
use Rattle.std.proofs.lemmas.Bool.{and_from, cases_lt, eq-eqb, false≢true, lt-ltb, ltb-false}
use Rattle.rina_cube.specs.declared.Kind.{Kind}
use Rattle.rina_cube.specs.declared.Kind.TheVariants.{Reliable}
use Rattle.rina_cube.specs.Cubes.{IsCube}
use Rattle.rina_dtp.specs.declared.gap.Lost.{Lost}
use Rattle.rina_dtp.specs.Lost.{given_up, itself, lost_after, lost_held, lost_with, missing_before, numbers_from}
use Rattle.rina_law.specs.Constants.{Constants}
use Rattle.rina_law.specs.Direction.{Direction, has_room}
use Rattle.rina_law.specs.DirectionHolds.{DirectionHolds, RunHolds, part_at}
use Rattle.rina_law.specs.Line.{InFlight, arrival_verdict}
use Rattle.rina_law.specs.Lists.{In, has, highest}
use Rattle.rina_law.specs.Pieces.{Joined, Joiner, Part, empty_joiner, finished, goes_on, joined_with, with_part}
use Rattle.rina_law.specs.Receiver.{Accepted, Piece, is_present, numbers, part_in, verdict_by_state}
use Rattle.rina_law.specs.Sender.{Member}
use Rattle.rina_law.proofs.Arriving.{accepted_new, room_accepted}
use Rattle.rina_law.proofs.Joining.{not_empty}
use Rattle.rina_law.proofs.Lists.{has-in}
use Rattle.rina_law.proofs.Walking.{ready_from, shelf_from}

-- the joiner after the numbers below n of a run, of which none is missing
record IsUpTo (run : List Member) (n : ℕ) (j : Joiner) : Type 0 where
  follows : 0 < j.count → j.from + j.count ≡ n
  waits : (m : ℕ) → n ≡ suc m → (part_at run m).ends ≡ false → 0 < j.count
  goes : (m : ℕ) → n ≡ suc m → 0 < j.count → (part_at run m).ends ≡ false

begins_empty : (c : Constants) (run : List Member) (n : ℕ) (j : Joiner) → RunHolds c run → n < length run → IsUpTo run n j → (part_at run n).begins ≡ true → j.count ≡ 0
begins_empty c run zero j h lt u b = elim (cases_lt 0 j.count) [
  | inl some ↦ (let f = u.follows some in absurd (omega arith))
  | inr none ↦ omega arith
]
begins_empty c run (suc m) j h lt u b = elim (cases_lt 0 j.count) [
  | inl some ↦ absurd (false≢true (sym (u.goes m refl some) ∙ sym (h.goes_on m lt) ∙ b))
  | inr none ↦ omega arith
]

ready : (c : Constants) (run : List Member) (n : ℕ) (j : Joiner) → RunHolds c run → n < length run → IsUpTo run n j → (part_at run n).begins ≡ false → (0 < j.count) × (j.from + j.count ≡ n)
ready c run n j h lt u b = ready_from c run j n h lt (λ m is ends. (let some = u.waits m is ends in (some, u.follows some))) b

on_from : (n : ℕ) (j : Joiner) → (0 < j.count) × (j.from + j.count ≡ n) → goes_on n j ≡ true
on_from n j r = and_from (ltb 0 j.count) (eqb (j.from + j.count) n) (lt-ltb 0 j.count r.0) (eq-eqb (j.from + j.count) n r.1)

-- a piece that finds those before it gives up none, and is not given up
none_given : (n : ℕ) (part : Part) (j : Joiner) → (part.begins ≡ true → j.count ≡ 0) → (part.begins ≡ false → goes_on n j ≡ true) → (given_up n part j ≡ []) × (itself n part j ≡ [])
none_given n part j empty on = go part.begins (goes_on n j) refl refl
  where
    go : (b t : Bool) → part.begins ≡ b → goes_on n j ≡ t → (cond (b || not t) (lost_with (missing_before n j) (numbers_from j.from j.count)) [] ≡ []) × (cond {A = List Lost} (not b && not t) (record { number = n; missing = missing_before n j } ∷ []) [] ≡ [])
    go true t b_is t_is = (ap (λ k. lost_with (missing_before n j) (numbers_from j.from k)) (empty b_is), refl)
    go false true b_is t_is = (refl, refl)
    go false false b_is t_is = absurd (false≢true (sym t_is ∙ on b_is))

-- the joiner with one more piece

with_end : (n : ℕ) (part : Part) (j : Joiner) → (part.begins ≡ false → (0 < j.count) × (j.from + j.count ≡ n)) → (with_part n part j).from + (with_part n part j).count ≡ n + 1
with_end n part j r = go part.begins (goes_on n j) refl refl
  where
    go : (b t : Bool) → part.begins ≡ b → goes_on n j ≡ t →
        (cond b (record { from = n; count = 1; bytes = part.body }) (cond t (record { from = j.from; count = j.count + 1; bytes = j.bytes ++ part.body }) empty_joiner)).from + (cond b (record { from = n; count = 1; bytes = part.body }) (cond t (record { from = j.from; count = j.count + 1; bytes = j.bytes ++ part.body }) empty_joiner)).count ≡ n + 1
    go true t b_is t_is = refl
    go false true b_is t_is = (let x = r b_is in omega (arith, x.1))
    go false false b_is t_is = absurd (false≢true (sym t_is ∙ on_from n j (r b_is)))

up_to_by : (run : List Member) (n : ℕ) (w : Joiner) (j : Joined) (e t : Bool) → (part_at run n).ends ≡ e → ltb 0 w.count ≡ t → 0 < w.count → w.from + w.count ≡ n + 1 → IsUpTo run (n + 1) (finished (e && t) w j.whole).joiner
up_to_by run n w j true true e_is t_is some at = record {
  follows = λ s. absurd (omega arith);
  waits = λ m is ends. (let same : n ≡ m = omega arith in absurd (false≢true (sym ends ∙ ap (λ k. (part_at run k).ends) (sym same) ∙ e_is)));
  goes = λ m is s. absurd (omega arith);
}
up_to_by run n w j true false e_is t_is some at = absurd (omega (arith, ltb-false 0 w.count t_is))
up_to_by run n w j false t e_is t_is some at = record {
  follows = λ s. at;
  waits = λ m is ends. some;
  goes = λ m is s. (let same : m ≡ n = omega arith in ap (λ k. (part_at run k).ends) same ∙ e_is);
}

up_to_next : (c : Constants) (run : List Member) (n : ℕ) (part : Part) (j : Joined) → RunHolds c run → n < length run → part ≡ part_at run n → IsUpTo run n j.joiner → IsUpTo run (n + 1) (joined_with n part j).joiner
up_to_next c run n part j h lt is u =
    let r = ready c run n j.joiner h lt u in
    let some = not_empty n (part_at run n) j.joiner r in
    let at = with_end n (part_at run n) j.joiner r in
    let P : Part → Type 0 = λ x. IsUpTo run (n + 1) (joined_with n x j).joiner in
    subst P (sym is) (up_to_by run n (with_part n (part_at run n) j.joiner) j (part_at run n).ends (ltb 0 (with_part n (part_at run n) j.joiner).count) refl refl some at)

none_given_of : (c : Constants) (run : List Member) (n : ℕ) (part : Part) (j : Joiner) → RunHolds c run → n < length run → part ≡ part_at run n → IsUpTo run n j → (given_up n part j ≡ []) × (itself n part j ≡ [])
none_given_of c run n part j h lt is u =
    let begins : part.begins ≡ (part_at run n).begins = ap (λ (x : Part). x.begins) is in
    none_given n part j (λ b. begins_empty c run n j h lt u (sym begins ∙ b)) (λ b. on_from n j (ready c run n j h lt u (sym begins ∙ b)))

-- nor do the held pieces that follow
none_held : (c : Constants) (run : List Member) (held : List Piece) → RunHolds c run → ((h : ℕ) → In h (numbers held) → (h < length run) × (part_in h held ≡ part_at run h)) → (steps n : ℕ) (j : Joined) → IsUpTo run n j.joiner → lost_held steps n held j ≡ []
none_held c run held h shelf zero n j u = refl
none_held c run held h shelf (suc steps) n j u =
    let next = λ (i : In n (numbers held)).
    (let x = shelf n i in
    let none = none_given_of c run n (part_in n held) j.joiner h x.0 x.1 u in
    let rest = none_held c run held h shelf steps (n + 1) (joined_with n (part_in n held) j) (up_to_next c run n (part_in n held) j h x.0 x.1 u) in
    let r : given_up n (part_in n held) j.joiner ++ itself n (part_in n held) j.joiner ++ lost_held steps (n + 1) held (joined_with n (part_in n held) j) ≡ [] = rw (none.0, none.1, rest) refl in r) in
    go (has n (numbers held)) refl next
  where
    go : (b : Bool) → has n (numbers held) ≡ b → (In n (numbers held) → given_up n (part_in n held) j.joiner ++ itself n (part_in n held) j.joiner ++ lost_held steps (n + 1) held (joined_with n (part_in n held) j) ≡ []) → cond b (given_up n (part_in n held) j.joiner ++ itself n (part_in n held) j.joiner ++ lost_held steps (n + 1) held (joined_with n (part_in n held) j)) [] ≡ []
    go true e next = next (has-in n (numbers held) e)
    go false e next = refl

-- what a reliable receiver holds of an SDU, while its state stands
joined_up_to : (c : Constants) (d : Direction) → DirectionHolds c d → c.cube.kind ≡ Reliable → is_present c d.line.clock d.line.receiver ≡ true → IsUpTo d.line.sender.run (length d.line.done) d.inbox.joiner
joined_up_to c d h e b =
    let reach = h.core.reach e b in
    record {
      follows = reach.joined;
      waits = reach.waits;
      goes = λ m is some. (let (last, x) = h.core.join b some in let at = reach.joined some in let same : m ≡ last = (let y = x.is in omega arith) in ap (λ k. (part_at d.line.sender.run k).ends) same ∙ x.waits);
    }

-- a piece that is accepted gives up none
pub none_lost : (c : Constants) (d : Direction) (p : InFlight Piece) → IsCube c.cube → DirectionHolds c d → In p d.line.pieces → d.line.clock ≤ p.death → c.cube.kind ≡ Reliable → is_present c d.line.clock d.line.receiver ≡ true → arrival_verdict c d.line p.pdu (has_room c d) ≡ Accepted →
    lost_after Accepted Reliable true p.pdu d.line.receiver.held d.inbox.joiner ≡ []
none_lost c d p cube h i alive e b v =
    let k = h.core in
    let is = k.line.pieces p i alive in
    let V : Kind → Bool → Type 0 = λ kind present. verdict_by_state kind present d.line.receiver p.pdu ≡ Accepted in
    let known : V Reliable true = subst (λ (present : Bool). V Reliable present) b (subst (λ (kind : Kind). V kind (is_present c d.line.clock d.line.receiver)) e (room_accepted (has_room c d) _ v)) in
    let number : p.pdu.number ≡ length d.line.done = accepted_new c d.line p Reliable true cube k.line is alive e b known in
    let U : ℕ → Type 0 = λ n. IsUpTo d.line.sender.run n d.inbox.joiner in
    let up = subst U (sym number) (joined_up_to c d h e b) in
    let g = k.line.gapless e in
    let none = none_given_of c d.line.sender.run p.pdu.number p.pdu.part d.inbox.joiner k.run is.within is.part up in
    let start : Joined = record { joiner = d.inbox.joiner; whole = [] } in
    let rest = none_held c d.line.sender.run d.line.receiver.held k.run (λ x j. ((g.held b x j).0, shelf_from d.line.sender.run d.line.receiver.held (k.reach e b).held_is x j)) (highest (numbers d.line.receiver.held)) (p.pdu.number + 1) (joined_with p.pdu.number p.pdu.part start) (up_to_next c d.line.sender.run p.pdu.number p.pdu.part start k.run is.within is.part up) in
    rw (none.0, rest) refl
