-- A run of a reliable direction: an SDU of three pieces, two of them sent again, the last one held, and an
-- acknowledgement. It shows that the laws' premises can be met.
use Rattle.std.proofs.Common.{◌≡◌, Bool, true, false, [], ◌∷◌, List, ℕ, refl, arith, inl, inr, Some, None}
use Rattle.rina_cube.specs.declared.Cube.{Cube}
use Rattle.rina_cube.specs.declared.Kind.TheVariants.{Reliable}
use Rattle.rina_cube.specs.Cubes.{IsCube}
use Rattle.rina_law.specs.Constants.{Constants}
use Rattle.rina_law.specs.Direction.{Direction, start, Row, Time, Offer, Again, Arrive, Acknowledge, Control, Pass, offer_refusal, IsRun, after}
use Rattle.rina_law.specs.Laws.{IsReached}
use Rattle.rina_law.specs.Line.{InFlight}
use Rattle.rina_law.specs.Pieces.{Part, IsSized}
use Rattle.rina_law.specs.Receiver.{Piece}
use Rattle.rina_law.specs.Sender.{WindowShut, TooLong}

abbrev pub sample_cube : Cube
sample_cube = record { id = 1; kind = Reliable; mpl = 5; r = 3; a = 1; retry = 1; window = 4; largest = 5 }

abbrev pub sample : Constants
sample = record { cube = sample_cube; piece = 1; max = 255; cep = 9 }

sample_is_cube : IsCube sample_cube
sample_is_cube = record {
  least_mpl = omega arith;
  mpl = omega arith;
  r = omega arith;
  a = omega arith;
  retry = omega arith;
  least_window = omega arith;
  window = omega arith;
  least_largest = omega arith;
  largest = omega arith;
  times = (omega arith, omega arith);
}

abbrev pub one : Part
one = record { begins = true; ends = false; body = 7 ∷ [] }

abbrev pub two : Part
two = record { begins = false; ends = false; body = 8 ∷ [] }

abbrev pub three : Part
three = record { begins = false; ends = true; body = 9 ∷ [] }

abbrev pub only : Part
only = record { begins = true; ends = true; body = [] }

abbrev pub piece : ℕ → Bool → Part → ℕ → InFlight Piece
piece n drf part death = record { pdu = record { number = n; drf = drf; part = part }; death = death }

abbrev pub sample_rows : List Row
sample_rows =
    Offer (one ∷ two ∷ three ∷ []) ∷ Time 1 ∷ Again ∷ Again ∷
    Arrive (piece 0 true one 5) ∷ Arrive (piece 2 false three 5) ∷ Arrive (piece 1 false two 6) ∷ Arrive (piece 1 false two 5) ∷
    Time 1 ∷ Acknowledge ∷ Control (record { pdu = record { ack = 2; right = 3 }; death = 7 }) ∷ Pass ∷ []

abbrev pub sample_end : Direction
sample_end = after sample (start sample) sample_rows

pub sample_got : sample_end.inbox.got ≡ record { tick = 1; num = record { cep = 9; seq = 0 }; bytes = 7 ∷ 8 ∷ 9 ∷ [] } ∷ []
sample_got = refl

pub sample_acked : sample_end.line.sender.acked ≡ 3
sample_acked = refl

pub sample_done : sample_end.line.done ≡ 2 ∷ 1 ∷ 0 ∷ []
sample_done = refl

-- the window has room for one more; the SDU of six bytes is too long
pub sample_shut : offer_refusal sample sample_end (one ∷ three ∷ []) ≡ Some (WindowShut 2 1)
sample_shut = refl

pub sample_open : offer_refusal sample sample_end (only ∷ []) ≡ None
sample_open = refl

pub sample_long : offer_refusal sample sample_end (one ∷ two ∷ two ∷ two ∷ two ∷ three ∷ []) ≡ Some (TooLong 6 5)
sample_long = refl

sized_one : IsSized 1 one
sized_one = record { fits = omega arith; full = λ e. refl; some = λ e f. omega arith }

sized_two : IsSized 1 two
sized_two = record { fits = omega arith; full = λ e. refl; some = λ e f. omega arith }

sized_three : IsSized 1 three
sized_three = record { fits = omega arith; full = λ e. refl; some = λ e f. omega arith }

pub sample_run : IsRun sample (start sample) sample_rows
sample_run = (
  (refl, refl, sized_one, (refl, refl, sized_two, (refl, refl, sized_three))),
  (
    tt,
    (
      tt,
      (
        tt,
        (
          (inr (inr (inr (inr (inl refl)))), omega arith),
          (
            (inr (inr (inl refl)), omega arith),
            (
              (inl refl, omega arith),
              (
                (inr (inr (inr (inl refl))), omega arith),
                (
                  tt,
                  (
                    tt,
                    (
                      (inl refl, omega arith),
                      (omega arith, tt),
                    ),
                  ),
                ),
              ),
            ),
          ),
        ),
      ),
    ),
  ),
)

pub sample_reached : IsReached sample sample_end
sample_reached = record { cube = sample_is_cube; rows = sample_rows; run = sample_run; is = refl }
