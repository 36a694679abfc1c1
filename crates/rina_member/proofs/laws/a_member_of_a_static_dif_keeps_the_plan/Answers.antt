use Rattle.rina_member.proofs.Planned.{claims_planned, handles_planned, joins_planned, laid_alone, loses_planned, planned_hops, starts_planned}
use Rattle.rina_member.proofs.laws.a_member_of_a_static_dif_keeps_the_plan.Goals as goal

pub returns-clause-starts : goal.returns-clause-starts
returns-clause-starts c = λ members plans rules m links among numbered count. starts_planned members plans m rules links among numbered count

pub returns-clause-joins : goal.returns-clause-joins
returns-clause-joins c = joins_planned

pub returns-clause-claims : goal.returns-clause-claims
returns-clause-claims c = claims_planned

pub returns-clause-loses : goal.returns-clause-loses
returns-clause-loses c = loses_planned

pub returns-clause-handles : goal.returns-clause-handles
returns-clause-handles c = λ members plans now number m links message old new h handles. handles_planned members plans m links now number message old new handles h

pub returns-clause-up : goal.returns-clause-up
returns-clause-up c = planned_hops

pub returns-clause-alone : goal.returns-clause-alone
returns-clause-alone c = laid_alone
