-- How much a piece adds to what waits to be fetched.
use Rattle.std.proofs.Common.{◌≡◌, ℕ, ◌≤◌, length, Bool, true, false, Option, Some, None, refl, arith, length-append}
use Rattle.rina_delim.specs.declared.joiner.Run.{Run}
use Rattle.rina_delim.specs.declared.joiner.Joined.{Joined}
use Rattle.rina_delim.specs.declared.joiner.Joined.TheVariants.{More, Whole, Broken}
use Rattle.rina_delim.specs.Joining.{Piece, Joining, missing_before, answer, joined, joined_for}
use Rattle.rina_dtp.specs.Joins.{Joins, gap_if, is_cut_off, whole_by, made_by, taken, Grows}
use Rattle.rina_dtp.specs.Slots.{Waiting}

pub joined-largest : (j : Joining) (p : Piece) → (joined j p).largest ≡ j.largest
unfolding joined
joined-largest j p = by_missing (missing_before j p)
  where
    by_missing : (m : Option ℕ) → (joined_for m j p).largest ≡ j.largest
    by_missing None = refl
    by_missing (Some n) = refl

one_whole : (a : Joined) (w : Waiting) → length (whole_by a w) ≤ 1
one_whole More w = omega arith
one_whole Whole w = omega arith
one_whole (Broken n) w = omega arith

one_gap : (b : Bool) (held : Option Run) → length (gap_if b held) ≤ 1
one_gap true None = omega arith
one_gap true (Some run) = omega arith
one_gap false held = omega arith

pub grows_taken : (p : Piece) (s : Joins) → Grows 1 s (taken p s)
grows_taken p s = record {
  slots = refl;
  largest = joined-largest s.joining p;
  filled = omega (arith, one_whole (answer s.joining p) (made_by 0 p s.joining));
  gaps_by = omega (arith, one_gap (is_cut_off (answer s.joining p) p.first) s.joining.held, length-append s.gaps (gap_if (is_cut_off (answer s.joining p) p.first) s.joining.held));
}
