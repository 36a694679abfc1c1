use Rattle.rina_alloc.proofs.Runs.{late, freed}
use Rattle.rina_alloc.proofs.laws.an_ask_that_is_over_is_never_bound.Goals as goal

pub returns : goal.returns
returns c = record { late = late; freed = freed }
