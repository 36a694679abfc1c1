use Rattle.std.proofs.Common.{◌≡◌, Err, ap}
use Rattle.rina_data.specs.declared.step.StepError.TheVariants.{NoIpc}
use Rattle.rina_tower.specs.Steps.{TakesOne}
use Rattle.rina_tower.proofs.Stepped.{is_stepped}
use Rattle.rina_tower.proofs.difs.Difs.in_step.Goals as goal

pub returns-clause-stand : goal.returns-clause-stand
returns-clause-stand g c = (is_stepped c.args.dif (TakesOne (g.F.Facility.seen c.args.below.now) c.args.node c.args.link c.dif_in_step.result (g.F.Facility.seen c.dif_in_step.new.below)) ((c.dif_in_step.result ≡ Err NoIpc) × (c.dif_in_step.new.below ≡ c.args.below.now)) c.args.self.now c.dif_in_step.new.self (g.F.Facility.seen c.args.below.now) (g.F.Facility.seen c.dif_in_step.new.below) (λ d d' x. x.after) (λ x. ap g.F.Facility.seen x.1) c.requires.stand c.dif_in_step.ensures.does).stand

pub returns-clause-clock : goal.returns-clause-clock
returns-clause-clock g c = (is_stepped c.args.dif (TakesOne (g.F.Facility.seen c.args.below.now) c.args.node c.args.link c.dif_in_step.result (g.F.Facility.seen c.dif_in_step.new.below)) ((c.dif_in_step.result ≡ Err NoIpc) × (c.dif_in_step.new.below ≡ c.args.below.now)) c.args.self.now c.dif_in_step.new.self (g.F.Facility.seen c.args.below.now) (g.F.Facility.seen c.dif_in_step.new.below) (λ d d' x. x.after) (λ x. ap g.F.Facility.seen x.1) c.requires.stand c.dif_in_step.ensures.does).clock

pub returns-clause-quiet : goal.returns-clause-quiet
returns-clause-quiet g c = (is_stepped c.args.dif (TakesOne (g.F.Facility.seen c.args.below.now) c.args.node c.args.link c.dif_in_step.result (g.F.Facility.seen c.dif_in_step.new.below)) ((c.dif_in_step.result ≡ Err NoIpc) × (c.dif_in_step.new.below ≡ c.args.below.now)) c.args.self.now c.dif_in_step.new.self (g.F.Facility.seen c.args.below.now) (g.F.Facility.seen c.dif_in_step.new.below) (λ d d' x. x.after) (λ x. ap g.F.Facility.seen x.1) c.requires.stand c.dif_in_step.ensures.does).quiet
