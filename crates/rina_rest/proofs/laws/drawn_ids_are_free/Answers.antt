use Rattle.rina_rest.proofs.Keeping.{rows_keep_slots}
use Rattle.rina_rest.proofs.Slots.{drawn_free, drawn_some, none_kept}
use Rattle.rina_rest.proofs.laws.drawn_ids_are_free.Goals as goal

pub returns : goal.returns
returns c = record { drawn = drawn_free; some = drawn_some; rows = rows_keep_slots; none = none_kept }
