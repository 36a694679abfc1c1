use Rattle.rina_dif.proofs.Asked.{kept_goes_on, kept_stands, kept_valid, noted, noted_asks, noted_keeps}
use Rattle.rina_dif.proofs.Facing.{same_goes_on}
use Rattle.rina_dif.specs.Asking.{answer_of}
use Rattle.std.proofs.Common.{refl}
use Rattle.rina_dif.proofs.dif.Dif.cdap.Goals as goal

pub returns-then-self-clause-goes_on : goal.returns-then-self-clause-goes_on
returns-then-self-clause-goes_on c = same_goes_on c.args.self.now c.args.self.now c.requires refl

pub returns-clause-valid : goal.returns-clause-valid
returns-clause-valid c = kept_valid c.args.self.now (noted c.ask-result.new.self _) c.requires (noted_keeps c.args.self.now c.ask-result.new.self _ c.if-self.false c.ask-result.ensures.same)

pub returns-clause-does : goal.returns-clause-does
returns-clause-does c = noted_asks c.args.self.now c.ask-result.new.self c.args.node c.args.bytes.now (answer_of c.ask-result.result) _ c.ask-result.ensures.does

pub returns-clause-same : goal.returns-clause-same
returns-clause-same c = noted_keeps c.args.self.now c.ask-result.new.self _ c.if-self.false c.ask-result.ensures.same

pub returns-clause-goes_on : goal.returns-clause-goes_on
returns-clause-goes_on c = kept_goes_on c.args.self.now (noted c.ask-result.new.self _) c.requires (noted_keeps c.args.self.now c.ask-result.new.self _ c.if-self.false c.ask-result.ensures.same)

pub returns-clause-stands : goal.returns-clause-stands
returns-clause-stands c = kept_stands c.args.self.now (noted c.ask-result.new.self _) (noted_keeps c.args.self.now c.ask-result.new.self _ c.if-self.false c.ask-result.ensures.same)
