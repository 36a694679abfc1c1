use Rattle.std.proofs.Common.{◌≡◌, Err, ap}
use Rattle.rina_data.specs.declared.step.StepError.TheVariants.{NoIpc}
use Rattle.rina_tower.specs.Steps.{SendsOne}
use Rattle.rina_tower.proofs.Stepped.{is_stepped}
use Rattle.rina_tower.proofs.difs.Difs.out_step.Goals as goal

pub returns-clause-stand : goal.returns-clause-stand
returns-clause-stand g c = (is_stepped c.args.dif (SendsOne (g.F.Facility.refuses_send c.args.below.now) (g.S.Picks.may_answer c.args.shelf.now) (g.S.Picks.slots c.args.shelf.now) (g.S.Picks.slots c.dif_out_step.new.shelf) (g.F.Facility.seen c.args.below.now) c.args.node c.args.link c.dif_out_step.result (g.F.Facility.seen c.dif_out_step.new.below)) ((c.dif_out_step.result ≡ Err NoIpc) × (g.S.Picks.slots c.dif_out_step.new.shelf ≡ g.S.Picks.slots c.args.shelf.now) × (c.dif_out_step.new.below ≡ c.args.below.now)) c.args.self.now c.dif_out_step.new.self (g.F.Facility.seen c.args.below.now) (g.F.Facility.seen c.dif_out_step.new.below) (λ d d' x. x.after) (λ x. ap g.F.Facility.seen x.2) c.requires.stand c.dif_out_step.ensures.does).stand

pub returns-clause-clock : goal.returns-clause-clock
returns-clause-clock g c = (is_stepped c.args.dif (SendsOne (g.F.Facility.refuses_send c.args.below.now) (g.S.Picks.may_answer c.args.shelf.now) (g.S.Picks.slots c.args.shelf.now) (g.S.Picks.slots c.dif_out_step.new.shelf) (g.F.Facility.seen c.args.below.now) c.args.node c.args.link c.dif_out_step.result (g.F.Facility.seen c.dif_out_step.new.below)) ((c.dif_out_step.result ≡ Err NoIpc) × (g.S.Picks.slots c.dif_out_step.new.shelf ≡ g.S.Picks.slots c.args.shelf.now) × (c.dif_out_step.new.below ≡ c.args.below.now)) c.args.self.now c.dif_out_step.new.self (g.F.Facility.seen c.args.below.now) (g.F.Facility.seen c.dif_out_step.new.below) (λ d d' x. x.after) (λ x. ap g.F.Facility.seen x.2) c.requires.stand c.dif_out_step.ensures.does).clock

pub returns-clause-quiet : goal.returns-clause-quiet
returns-clause-quiet g c = (is_stepped c.args.dif (SendsOne (g.F.Facility.refuses_send c.args.below.now) (g.S.Picks.may_answer c.args.shelf.now) (g.S.Picks.slots c.args.shelf.now) (g.S.Picks.slots c.dif_out_step.new.shelf) (g.F.Facility.seen c.args.below.now) c.args.node c.args.link c.dif_out_step.result (g.F.Facility.seen c.dif_out_step.new.below)) ((c.dif_out_step.result ≡ Err NoIpc) × (g.S.Picks.slots c.dif_out_step.new.shelf ≡ g.S.Picks.slots c.args.shelf.now) × (c.dif_out_step.new.below ≡ c.args.below.now)) c.args.self.now c.dif_out_step.new.self (g.F.Facility.seen c.args.below.now) (g.F.Facility.seen c.dif_out_step.new.below) (λ d d' x. x.after) (λ x. ap g.F.Facility.seen x.2) c.requires.stand c.dif_out_step.ensures.does).quiet
