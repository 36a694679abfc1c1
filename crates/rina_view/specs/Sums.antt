-- The sum of the rows of an end of a flow.
use Rattle.std.specs.Prelude.{ℕ, ◌-◌, ◌^◌, ◌&&◌, Bool, List, [], ◌∷◌, length, min, max, count_by, is_some, is_none, Option, Some, None}
use Rattle.std.specs.List.{sum_by}
use Rattle.rina_view.specs.declared.row.Row.{Row}
use Rattle.rina_view.specs.declared.sum.Sum.{Sum}

abbrev pub delay_to : Option ℕ → ℕ → ℕ
delay_to None at = 0
delay_to (Some tick) at = tick - at

-- the ticks from the sending of an SDU until it was got
unfoldable pub delay : Row → ℕ
delay r = delay_to r.got r.sent.at

-- an SDU that was got; one that was not, a PDU of which was written off; and one of which neither is shown
unfoldable pub is_got : Row → Bool
is_got r = is_some r.got

unfoldable pub is_off : Row → Bool
is_off r = is_none r.got && is_some r.off

unfoldable pub is_unseen : Row → Bool
is_unseen r = is_none r.got && is_none r.off

-- the greatest delay, 0 where nothing was got
abbrev pub greatest : List Row → ℕ
greatest [] = 0
greatest (r ∷ rs) = max (delay r) (greatest rs)

-- how many SDUs were sent, got, written off and neither; the sum of their delays, at most 2^64 - 1, and the greatest delay
abbrev pub sum_of : List Row → Sum
sum_of rows = record {
  sent = length rows;
  got = count_by is_got rows;
  off = count_by is_off rows;
  unseen = count_by is_unseen rows;
  total = min (sum_by delay rows) (2 ^ 64 - 1);
  greatest = greatest rows;
}
