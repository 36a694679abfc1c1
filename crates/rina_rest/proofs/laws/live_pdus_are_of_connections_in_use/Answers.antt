use Rattle.rina_rest.proofs.Fresh.{live_in_use, fours_apart, fours_tell_sides, arrival_own, standing_alone}
use Rattle.rina_rest.proofs.Rows.{row_holds, runs_hold}
use Rattle.rina_rest.proofs.laws.live_pdus_are_of_connections_in_use.Goals as goal

pub returns : goal.returns
returns c = record { rows = row_holds; histories = runs_hold; live = live_in_use; arrival = arrival_own; apart = fours_apart; sides = fours_tell_sides; standing = standing_alone }
