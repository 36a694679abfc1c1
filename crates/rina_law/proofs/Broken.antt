-- Each list of a counterexample may come, makes its two journals, and these break the promise.
use Rattle.std.proofs.Common.{◌≡◌, ◌≢◌, true, ℕ, zero, suc, ◌+◌, ◌-◌, ◌*◌, ◌<◌, ◌≤◌, List, [], ◌∷◌, refl, sym, ◌∙◌, ap, arith, inl, Some, None, slice_get}
use Rattle.std.proofs.lemmas.Option.{same_Some, none-some}
use Rattle.rina_cube.specs.Cubes.{IsCube}
use Rattle.rina_law.specs.declared.entry.Entry.{Entry}
use Rattle.rina_law.specs.Constants.{delta}
use Rattle.rina_law.specs.Counterexamples.{state_stands, begins_after, sent_again_for, acknowledged_for, sdu, entry_of, patient, hasty, slow, twice_rows, twice_sent, twice_got, EarlyEndBreaks, skipped_rows, skipped_sent, skipped_got, EarlyBeginningBreaks, late_rows, late_sent, late_got, LateResendingBreaks, mistaken_rows, mistaken_sent, mistaken_got, LateAckBreaks, old_rows, new_rows, new_sent, new_got, ShortRestBreaks, flag_sent, flag_got, FalseFlagBreaks}
use Rattle.rina_law.specs.Direction.{Direction, start, IsRun, after, IsRunBy}
use Rattle.rina_law.specs.Journal.{Keeps}
use Rattle.rina_law.specs.Laws.{IsReached}
use Rattle.rina_law.specs.Pieces.{IsCut}
use Rattle.rina_law.specs.Suffices.{reused}
use Rattle.rina_cube.specs.declared.Kind.TheVariants.{Reliable}

-- journals that are no prefix, and one that came too late

-- another number was sent at the place of what was got
other_breaks : (sent got : List Entry) (i promise : ℕ) (e f : Entry) → slice_get got i ≡ Some e → slice_get sent i ≡ Some f → f.num.seq ≢ e.num.seq → Keeps Reliable promise sent got → ⊥
other_breaks sent got i promise e f here there other keeps =
    let p = keeps.order i e here in
    other (ap (λ n. n.seq) (ap (λ x. x.num) (same_Some f p.0 (sym there ∙ p.1.is_source.stands)) ∙ p.1.is_source.same))

-- more was got than sent
more_breaks : (sent got : List Entry) (i promise : ℕ) (e : Entry) → slice_get got i ≡ Some e → slice_get sent i ≡ None → Keeps Reliable promise sent got → ⊥
more_breaks sent got i promise e here there keeps =
    let p = keeps.order i e here in
    none-some p.0 (sym there ∙ p.1.is_source.stands)

only : (x s : Entry) (j : ℕ) → slice_get (x ∷ []) j ≡ Some s → x ≡ s
only x s zero e = same_Some x s e
only x s (suc j) e = absurd (none-some s e)

-- what was got came later than the promise
late_breaks : (promise : ℕ) (x e : Entry) → x.tick + promise < e.tick → Keeps Reliable promise (x ∷ []) (e ∷ []) → ⊥
late_breaks promise x e late keeps =
    let b = keeps.born 0 e refl in
    let same : x.tick ≡ b.source.tick = ap (λ s. s.tick) (only x b.source b.place b.is_place.is_source.stands) in
    let in_time : e.tick ≤ b.source.tick + promise = b.in_time in
    omega arith

-- the cubes, and an SDU of one piece

patient_is_cube : IsCube patient.cube
patient_is_cube = record { least_mpl = omega arith; mpl = omega arith; r = omega arith; a = omega arith; retry = omega arith; least_window = omega arith; window = omega arith; least_largest = omega arith; largest = omega arith; times = (omega arith, omega arith) }

hasty_is_cube : IsCube hasty.cube
hasty_is_cube = record { least_mpl = omega arith; mpl = omega arith; r = omega arith; a = omega arith; retry = omega arith; least_window = omega arith; window = omega arith; least_largest = omega arith; largest = omega arith; times = (omega arith, omega arith) }

slow_is_cube : IsCube slow.cube
slow_is_cube = record { least_mpl = omega arith; mpl = omega arith; r = omega arith; a = omega arith; retry = omega arith; least_window = omega arith; window = omega arith; least_largest = omega arith; largest = omega arith; times = (omega arith, omega arith) }

cut : (byte : ℕ) → IsCut 1 true (sdu byte)
cut byte = (refl, refl, record { fits = omega arith; full = λ e. refl; some = λ e f. omega arith })

-- Of each list: its rows may come, its journals are these, and they break the promise

-- an SDU is delivered twice

twice_broken : Keeps Reliable 50 twice_sent twice_got → ⊥
twice_broken = more_breaks twice_sent twice_got 1 50 (entry_of 50 0 65) refl refl

pub early_end : EarlyEndBreaks (λ c. c.cube.mpl)
early_end =
    let run : IsRunBy (state_stands (λ c. c.cube.mpl) patient) patient (start patient) twice_rows = (cut 65, ((inl refl, omega arith), (tt, (tt, (tt, (tt, ((inl refl, omega arith), tt))))))) in
    record { cube = patient_is_cube; run = run; sent_is = refl; got_is = refl; broken = twice_broken; insufficient = λ all. twice_broken (all patient twice_rows patient_is_cube run) }

pub early_end_last : EarlyEndBreaks (λ c. c.cube.r + c.cube.mpl)
early_end_last =
    let run : IsRunBy (state_stands (λ c. c.cube.r + c.cube.mpl) patient) patient (start patient) twice_rows = (cut 65, ((inl refl, omega arith), (tt, (tt, (tt, (tt, ((inl refl, omega arith), tt))))))) in
    record { cube = patient_is_cube; run = run; sent_is = refl; got_is = refl; broken = twice_broken; insufficient = λ all. twice_broken (all patient twice_rows patient_is_cube run) }

-- an SDU is passed over

skipped_broken : Keeps Reliable 50 skipped_sent skipped_got → ⊥
skipped_broken = other_breaks skipped_sent skipped_got 1 50 (entry_of 109 1 67) (entry_of 109 0 66) refl refl (λ e. omega arith)

pub early_beginning : EarlyBeginningBreaks (λ c. 2 * delta c)
early_beginning =
    let run : IsRunBy (begins_after (λ c. 2 * delta c) patient) patient (start patient) skipped_rows =
    (cut 65, (tt, ((inl refl, omega arith), (tt, ((inl refl, omega arith), (tt, (cut 66, ((inl refl, omega arith), (tt, ((inl refl, omega arith), (cut 67, ((inl refl, omega arith), tt)))))))))))) in
    record { cube = patient_is_cube; run = run; sent_is = refl; got_is = refl; broken = skipped_broken; insufficient = λ all. skipped_broken (all patient skipped_rows patient_is_cube run) }

pub early_beginning_last : EarlyBeginningBreaks (λ c. 2 * delta c + c.cube.mpl - 1)
early_beginning_last =
    let run : IsRunBy (begins_after (λ c. 2 * delta c + c.cube.mpl - 1) patient) patient (start patient) skipped_rows =
    (cut 65, (tt, ((inl refl, omega arith), (tt, ((inl refl, omega arith), (tt, (cut 66, ((inl refl, omega arith), (tt, ((inl refl, omega arith), (cut 67, ((inl refl, omega arith), tt)))))))))))) in
    record { cube = patient_is_cube; run = run; sent_is = refl; got_is = refl; broken = skipped_broken; insufficient = λ all. skipped_broken (all patient skipped_rows patient_is_cube run) }

-- an SDU comes too late

late_broken : Keeps Reliable 50 late_sent late_got → ⊥
late_broken = late_breaks 50 (entry_of 0 0 65) (entry_of 51 0 65) (omega arith)

pub late_resending : LateResendingBreaks (λ c. c.cube.r + 1)
late_resending =
    let run : IsRunBy (sent_again_for (λ c. c.cube.r + 1) hasty) hasty (start hasty) late_rows = (cut 65, (tt, (tt, (tt, ((inl refl, omega arith), tt))))) in
    record { cube = hasty_is_cube; run = run; sent_is = refl; got_is = refl; broken = late_broken; insufficient = λ all. late_broken (all hasty late_rows hasty_is_cube run) }

pub late_resending_long : LateResendingBreaks (λ c. c.cube.r + c.cube.mpl)
late_resending_long =
    let run : IsRunBy (sent_again_for (λ c. c.cube.r + c.cube.mpl) hasty) hasty (start hasty) late_rows = (cut 65, (tt, (tt, (tt, ((inl refl, omega arith), tt))))) in
    record { cube = hasty_is_cube; run = run; sent_is = refl; got_is = refl; broken = late_broken; insufficient = λ all. late_broken (all hasty late_rows hasty_is_cube run) }

-- an SDU counts as acknowledged by an acknowledgement of the run before

mistaken_broken : Keeps Reliable 50 mistaken_sent mistaken_got → ⊥
mistaken_broken = other_breaks mistaken_sent mistaken_got 1 50 (entry_of 153 1 67) (entry_of 153 0 66) refl refl (λ e. omega arith)

pub late_ack : LateAckBreaks (λ c. 2 * delta c)
late_ack =
    let run : IsRunBy (acknowledged_for (λ c. 2 * delta c) slow) slow (start slow) mistaken_rows =
    (cut 65, (tt, ((inl refl, omega arith), (tt, (tt, (tt, ((inl refl, omega arith), (tt, (omega arith, (tt, (tt, (tt, (cut 66, ((inl refl, omega arith), (cut 67, ((inl refl, omega arith), tt)))))))))))))))) in
    record { cube = slow_is_cube; run = run; sent_is = refl; got_is = refl; broken = mistaken_broken; insufficient = λ all. mistaken_broken (all slow mistaken_rows slow_is_cube run) }

pub late_ack_first : LateAckBreaks (λ c. c.cube.mpl + 3 * (c.cube.r + c.cube.a))
late_ack_first =
    let run : IsRunBy (acknowledged_for (λ c. c.cube.mpl + 3 * (c.cube.r + c.cube.a)) slow) slow (start slow) mistaken_rows =
    (cut 65, (tt, ((inl refl, omega arith), (tt, (tt, (tt, ((inl refl, omega arith), (tt, (omega arith, (tt, (tt, (tt, (cut 66, ((inl refl, omega arith), (cut 67, ((inl refl, omega arith), tt)))))))))))))))) in
    record { cube = slow_is_cube; run = run; sent_is = refl; got_is = refl; broken = mistaken_broken; insufficient = λ all. mistaken_broken (all slow mistaken_rows slow_is_cube run) }

-- and by one of the connection before

abbrev pub old : Direction
old = after slow (start slow) old_rows

old_run : IsRun slow (start slow) old_rows
old_run = (cut 65, (tt, ((inl refl, omega arith), (tt, (tt, (tt, tt))))))

old_reached : IsReached slow old
old_reached = record { cube = slow_is_cube; rows = old_rows; run = old_run; is = refl }

new_run : IsRun slow (reused slow old) new_rows
new_run = (cut 66, ((inl refl, omega arith), (cut 67, ((inl refl, omega arith), tt))))

new_broken : Keeps Reliable 50 new_sent new_got → ⊥
new_broken = other_breaks new_sent new_got 0 50 (entry_of 131 1 67) (entry_of 131 0 66) refl refl (λ e. omega arith)

pub short_rest : ShortRestBreaks (λ c. 2 * delta c)
short_rest =
    let rested : old.line.sender.last_out + 2 * delta slow ≤ old.line.clock = omega arith in
    record { cube = slow_is_cube; old_run = old_run; rested = rested; run = new_run; sent_is = refl; got_is = refl; broken = new_broken; insufficient = λ all. new_broken (all slow slow old new_rows old_reached rested slow_is_cube new_run) }

pub short_rest_last : ShortRestBreaks (λ c. 2 * c.cube.mpl + delta c)
short_rest_last =
    let rested : old.line.sender.last_out + (2 * slow.cube.mpl + delta slow) ≤ old.line.clock = omega arith in
    record { cube = slow_is_cube; old_run = old_run; rested = rested; run = new_run; sent_is = refl; got_is = refl; broken = new_broken; insufficient = λ all. new_broken (all slow slow old new_rows old_reached rested slow_is_cube new_run) }

-- an SDU is passed over by a piece with a false flag

pub false_flag : FalseFlagBreaks
false_flag = record {
  cube = patient_is_cube;
  run = (cut 65, (cut 66, (tt, tt)));
  stands = inl refl;
  is_flagged = refl;
  may = (inl refl, omega arith);
  sent_is = refl;
  got_is = refl;
  broken = other_breaks flag_sent flag_got 0 50 (entry_of 1 1 66) (entry_of 0 0 65) refl refl (λ e. omega arith);
}
