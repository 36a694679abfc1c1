-- Each run of a counterexample may come, and breaks what is promised.
use Rattle.std.proofs.Common.{◌≡◌, ℕ, zero, suc, ◌+◌, ◌-◌, ◌*◌, ◌≤◌, true, List, [], ◌∷◌, Option, Some, None, refl, sym, ◌∙◌, ap, subst, arith, inl}
use Rattle.std.proofs.lemmas.Bool.{false≢true}
use Rattle.std.proofs.lemmas.Option.{none-some, same_Some}
use Rattle.rina_cube.specs.Cubes.{IsCube}
use Rattle.rina_law.specs.Constants.{Constants, delta}
use Rattle.rina_law.specs.Counterexamples.{sdu, piece, slow, old_rows}
use Rattle.rina_law.specs.Direction.{Direction, Row as DirectionRow, Time, Offer, Arrive, start, IsRun, after}
use Rattle.rina_law.specs.DirectionHolds.{DirectionHolds}
use Rattle.rina_law.specs.Line.{InFlight}
use Rattle.rina_law.specs.Pieces.{IsCut}
use Rattle.rina_law.specs.Sender.{Ack}
use Rattle.rina_law.proofs.Suffices.{start_holds, run_holds}
use Rattle.rina_rest.specs.Counterexamples.{end_of_2, flow_of, left, two_rows, OwnIdIsNoKey, closed, late_rows, OldAskBreaks, freed, short_rows, ShortRestBreaks}
use Rattle.rina_rest.specs.Flows.{Endpoint, HasRested, Side, Asker, Far, Flow, end_at, IsFree}
use Rattle.rina_rest.specs.Ledger.{empty, ended_asker, IsHistory}
use Rattle.rina_rest.specs.Still.{DrawnIsStill}

-- Free ids, flow by flow

abbrev FarIsFree : ℕ → ℕ → Option Endpoint → ℕ → ℕ → Type 0
FarIsFree rest now None a c = Unit {0}
FarIsFree rest now (Some e) a c = e.addr ≡ a → e.cep ≡ c → HasRested rest now e

far_free : (rest now : ℕ) (o : Option Endpoint) (a c : ℕ) (e : Endpoint) → FarIsFree rest now o a c → o ≡ Some e → e.addr ≡ a → e.cep ≡ c → HasRested rest now e
far_free rest now None a c e free same x y = absurd (none-some e same)
far_free rest now (Some k) a c e free same x y =
    let is = same_Some k e same in
    let P : Endpoint → Type 0 = λ z. HasRested rest now z in
    subst P is (free (ap (λ (z : Endpoint). z.addr) is ∙ x) (ap (λ (z : Endpoint). z.cep) is ∙ y))

end_free : (now : ℕ) (f : Flow) (a c : ℕ) → (f.asker.addr ≡ a → f.asker.cep ≡ c → HasRested f.rest now f.asker) → FarIsFree f.rest now f.far a c → (side : Side) (e : Endpoint) → end_at side f ≡ Some e → e.addr ≡ a → e.cep ≡ c → HasRested f.rest now e
end_free now f a c asker far Asker e same x y =
    let is = same_Some f.asker e same in
    let P : Endpoint → Type 0 = λ z. HasRested f.rest now z in
    subst P is (asker (ap (λ (z : Endpoint). z.addr) is ∙ x) (ap (λ (z : Endpoint). z.cep) is ∙ y))
end_free now f a c asker far Far e same x y = far_free f.rest now f.far a c e far same x y

free_none : (now a c : ℕ) → IsFree now [] a c
free_none now a c i f side e at is x y = absurd (none-some f at)

free_more : (now : ℕ) (f : Flow) (flows : List Flow) (a c : ℕ) → (f.asker.addr ≡ a → f.asker.cep ≡ c → HasRested f.rest now f.asker) → FarIsFree f.rest now f.far a c → IsFree now flows a c → IsFree now (f ∷ flows) a c
free_more now f flows a c asker far others zero g side e at is x y =
    let P : Flow → Type 0 = λ z. end_at side z ≡ Some e in
    let Q : Flow → Type 0 = λ z. HasRested z.rest now e in
    let one = same_Some f g at in
    subst Q one (end_free now f a c asker far side e (subst P (sym one) is) x y)
free_more now f flows a c asker far others (suc i) g side e at is x y = others i g side e at is x y

-- The own address and CEP-id are no key

far_asker : Far ≡ Asker → ⊥
far_asker e =
    let P : Side → Type 0 = λ s. elim s [ Asker ↦ ⊥ | Far ↦ Unit {0} ] in
    subst P e tt

two_run : IsHistory empty two_rows
two_run = (
  (omega arith, (λ e. absurd (omega (arith, e))), free_none 0 1 7),
  (
    (refl, refl, omega arith, free_more 0 (flow_of 0 6) [] 2 5 (λ e. absurd (omega (arith, e))) tt (free_none 0 2 5)),
    (
      (refl, refl),
      (
        tt,
        (
          (omega arith, (λ e. absurd (omega (arith, e))), free_more 6 left [] 1 7 (λ a c. omega arith) (λ e. absurd (omega (arith, e))) (free_none 6 1 7)),
          (
            (refl, refl, omega arith, free_more 6 left (flow_of 6 6 ∷ []) 2 6 (λ e. absurd (omega (arith, e))) (λ a c. absurd (omega (arith, c))) (free_more 6 (flow_of 6 6) [] 2 6 (λ e. absurd (omega (arith, e))) tt (free_none 6 2 6))),
            (
              (refl, refl, refl, λ none. none-some (end_of_2 6) (sym none)),
              (
                (refl, refl, refl, (refl, refl, refl, refl), (λ e. absurd (far_asker e)), omega arith),
                tt,
              ),
            ),
          ),
        ),
      ),
    ),
  ),
)

pub own_id_is_no_key : OwnIdIsNoKey
own_id_is_no_key = record {
  run = two_run;
  f_stands = refl;
  g_stands = refl;
  apart = λ e. absurd (omega (arith, e));
  f_used = record { far = end_of_2 5; known = refl; unrested = λ r q. q };
  g_used = record { far = end_of_2 6; known = refl; unrested = λ r q. q };
  same = (refl, refl);
  stands = refl;
  comes = (inl refl, omega arith);
  goes = (refl, refl, refl, refl);
}

-- An ask that is too old

abbrev late_flow : Flow
late_flow = ended_asker 0 (flow_of 0 6)

abbrev closed_end : Endpoint
closed_end = record (end_of_2 5) { ended = Some 6 }

late_run : IsHistory empty late_rows
late_run = (
  (omega arith, (λ e. absurd (omega (arith, e))), free_none 0 1 7),
  (
    (refl, refl),
    (
      tt,
      (
        (omega arith, (λ e. absurd (omega (arith, e))), free_more 6 late_flow [] 1 7 (λ a c. omega arith) tt (free_none 6 1 7)),
        (
          (refl, refl, omega arith, free_more 6 late_flow (flow_of 6 6 ∷ []) 2 5 (λ e. absurd (omega (arith, e))) tt (free_more 6 (flow_of 6 6) [] 2 5 (λ e. absurd (omega (arith, e))) tt (free_none 6 2 5))),
          (
            (refl, refl, refl, λ none. none-some (end_of_2 5) (sym none)),
            (
              (refl, refl, refl),
              (
                tt,
                (
                  (refl, refl, refl, (refl, refl, refl, refl), (λ e. refl), omega arith),
                  tt,
                ),
              ),
            ),
          ),
        ),
      ),
    ),
  ),
)

pub old_ask_breaks : OldAskBreaks
old_ask_breaks = record {
  run = late_run;
  stands = refl;
  none = refl;
  old = omega arith;
  free = free_more 12 late_flow (closed ∷ []) 2 5 (λ e. absurd (omega (arith, e))) tt (free_more 12 closed [] 2 5 (λ e. absurd (omega (arith, e))) (λ a c. omega arith) (free_none 12 2 5));
  made_stands = refl;
  g_stands = refl;
  apart = λ e. absurd (omega (arith, e));
  f_used = record { far = end_of_2 5; known = refl; unrested = λ r q. q };
  g_used = record { far = closed_end; known = refl; unrested = λ r q. r };
  same = inl ((refl, refl), (refl, refl));
  comes = (inl refl, omega arith);
  goes = (refl, refl, refl, refl);
  mixed = (refl, refl, refl, refl);
}

-- Ids that rest too short

slow_is_cube : IsCube slow.cube
slow_is_cube = record { least_mpl = omega arith; mpl = omega arith; r = omega arith; a = omega arith; retry = omega arith; least_window = omega arith; window = omega arith; least_largest = omega arith; largest = omega arith; times = (omega arith, omega arith) }

cut : (byte : ℕ) → IsCut 1 true (sdu byte)
cut byte = (refl, refl, record { fits = omega arith; full = λ e. refl; some = λ e f. omega arith })

abbrev old : Direction
old = after slow (start slow) old_rows

old_run : IsRun slow (start slow) old_rows
old_run = (cut 65, (tt, ((inl refl, omega arith), (tt, (tt, (tt, tt))))))

old_holds : DirectionHolds slow old
old_holds = run_holds slow (start slow) old_rows slow_is_cube (start_holds slow slow_is_cube) old_run

abbrev late_ack : InFlight Ack
late_ack = record { pdu = record { ack = 0; right = 3 }; death = 131 }

freed_at : (t : ℕ) → Some 0 ≡ Some t → 0 ≤ t
freed_at t e = omega arith

-- the id is free after so many ticks, where they are at most 131
freed_free : (rest : ℕ) → rest ≤ 131 → IsFree 131 (freed rest ∷ []) 1 7
freed_free rest le = free_more 131 (freed rest) [] 1 7 (λ a c. omega arith) (λ e. absurd (omega (arith, e))) (free_none 131 1 7)

short_run : (rest : ℕ) → 41 ≤ rest → IsHistory empty (short_rows rest)
short_run rest some = (
  (omega arith, (λ e. absurd (omega (arith, e))), free_none 0 1 7),
  (
    (refl, refl, omega arith, free_more 0 (flow_of 0 rest) [] 2 5 (λ e. absurd (omega (arith, e))) tt (free_none 0 2 5)),
    (
      (refl, refl, refl, λ none. none-some (end_of_2 5) (sym none)),
      (
        (refl, refl, refl, (refl, refl, refl, refl), (λ e. refl), omega arith),
        (
          (refl, refl),
          (
            tt,
            (
              (refl, refl, refl, (refl, refl, refl, refl), (λ e. absurd (far_asker e)), omega arith),
              (tt, tt),
            ),
          ),
        ),
      ),
    ),
  ),
)

still_breaks : (rest : Constants → ℕ) → rest slow ≤ 131 → DrawnIsStill rest → ⊥
still_breaks rest le all = (all slow old (freed (rest slow) ∷ []) 0 (freed (rest slow)) Asker (freed (rest slow)).asker slow_is_cube old_holds refl refl refl freed_at (freed_free (rest slow) le)).acks late_ack (inl refl, omega arith)

short_breaks : (rest : Constants → ℕ) → 41 ≤ rest slow → rest slow ≤ 131 → ShortRestBreaks rest
short_breaks rest some le = record {
  cube = slow_is_cube;
  run = old_run;
  history_is = short_run (rest slow) some;
  clock = refl;
  stands = refl;
  rests = refl;
  ended = freed_at;
  drawn = (omega arith, (λ e. absurd (omega (arith, e))), freed_free (rest slow) le);
  alive = (inl refl, omega arith);
  comes = (inl refl, omega arith);
  same = refl;
  to = (refl, refl);
  insufficient = still_breaks rest le;
}

-- one tick before the receiver's state ends

abbrev state_rows : List DirectionRow
state_rows = Offer (sdu 65) ∷ Time 40 ∷ Arrive (piece 0 65 40) ∷ Time 101 ∷ []

abbrev standing : Direction
standing = after slow (start slow) state_rows

standing_holds : DirectionHolds slow standing
standing_holds = run_holds slow (start slow) state_rows slow_is_cube (start_holds slow slow_is_cube) (cut 65, (tt, ((inl refl, omega arith), (tt, tt))))

pub state_stands : DrawnIsStill (λ c. 2 * delta c + c.cube.mpl - 1) → ⊥
state_stands all =
    let free : IsFree 141 (freed 141 ∷ []) 1 7 = free_more 141 (freed 141) [] 1 7 (λ a c. omega arith) (λ e. absurd (omega (arith, e))) (free_none 141 1 7) in
    false≢true (sym (all slow standing (freed 141 ∷ []) 0 (freed 141) Asker (freed 141).asker slow_is_cube standing_holds refl refl refl freed_at free).receiver)

pub short_rest : ShortRestBreaks (λ c. 2 * delta c)
short_rest = short_breaks (λ c. 2 * delta c) (omega arith) (omega arith)

pub short_rest_last : ShortRestBreaks (λ c. 2 * c.cube.mpl + delta c)
short_rest_last = short_breaks (λ c. 2 * c.cube.mpl + delta c) (omega arith) (omega arith)
