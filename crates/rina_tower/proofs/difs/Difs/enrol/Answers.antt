use Rattle.std.proofs.Common.{ap}
use Rattle.rina_tower.proofs.Stepped.{is_enrolled}
use Rattle.rina_tower.proofs.difs.Difs.enrol.Goals as goal

pub returns-clause-stand : goal.returns-clause-stand
returns-clause-stand g c = (is_enrolled c.args.dif c.args.self.now c.dif_enrol.new.self (g.F.Facility.seen c.args.below.now) (g.F.Facility.seen c.dif_enrol.new.below) (λ x. ap g.F.Facility.seen x.1) c.requires.stand c.dif_enrol.ensures.does).stand

pub returns-clause-clock : goal.returns-clause-clock
returns-clause-clock g c = (is_enrolled c.args.dif c.args.self.now c.dif_enrol.new.self (g.F.Facility.seen c.args.below.now) (g.F.Facility.seen c.dif_enrol.new.below) (λ x. ap g.F.Facility.seen x.1) c.requires.stand c.dif_enrol.ensures.does).clock

pub returns-clause-quiet : goal.returns-clause-quiet
returns-clause-quiet g c = (is_enrolled c.args.dif c.args.self.now c.dif_enrol.new.self (g.F.Facility.seen c.args.below.now) (g.F.Facility.seen c.dif_enrol.new.below) (λ x. ap g.F.Facility.seen x.1) c.requires.stand c.dif_enrol.ensures.does).quiet
