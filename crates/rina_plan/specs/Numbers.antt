-- The numbers of facilities in their ranks.
use Rattle.std.specs.Prelude.{ℕ, ◌==◌, ◌<◌, List, count_by, take}
use Rattle.rina_plan.specs.declared.dif.DifPlan.{DifPlan}
use Rattle.rina_plan.specs.declared.dif.Lower.{Lower}
use Rattle.rina_plan.specs.declared.dif.Lower.TheVariants.{Wire, Dif}
use Rattle.rina_plan.specs.Links.{rank_of}

-- among so many wires and DIFs, a link is on one that is there
abbrev pub IsLower : ℕ → ℕ → Lower → Type 0
IsLower wires difs (Wire i) = i < wires
IsLower wires difs (Dif i) = i < difs

-- the number of the i-th DIF of the stack among those of its rank: how many before it have that rank
abbrev pub number_in_rank : List DifPlan → ℕ → ℕ
number_in_rank difs i = count_by (λ (d : DifPlan). d.rank == rank_of difs (Dif i)) (take i difs)

-- the number of a facility in its rank; wires stand in stack order
abbrev pub facility_number : List DifPlan → Lower → ℕ
facility_number difs (Wire i) = i
facility_number difs (Dif i) = number_in_rank difs i
