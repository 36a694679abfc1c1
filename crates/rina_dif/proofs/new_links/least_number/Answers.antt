use Rattle.std.specs.Prelude.{is_some}
use Rattle.rina_dif.proofs.LinkNumbers.{found_has, never, none_has, one_more}
use Rattle.std.proofs.Common.{◌∙◌, arith, sym, ap}
use Rattle.rina_dif.proofs.new_links.least_number.Goals as goal

pub loop-number-init : goal.loop-number-init
loop-number-init c = λ n lt. absurd (omega (arith, lt))

pub returns-then-is_none : goal.returns-then-is_none
returns-then-is_none c = record { unused = none_has c.loop-number.number c.args.links.now (ap is_some (sym c.live_link.ensures) ∙ c.if-is_none.ensures); least = c.loop-number.invariant }

pub loop-number-preserved : goal.loop-number-preserved
loop-number-preserved c = one_more c.loop-number.number c.args.links.now c.loop-number.invariant (found_has c.loop-number.number c.args.links.now (ap is_some (sym c.live_link.ensures) ∙ c.if-is_none.ensures))

pub unreachable-requires : goal.unreachable-requires
unreachable-requires c = never c.loop-number.number c.args.links.now c.requires c.loop-number.invariant (omega (arith, c.loop-number-test.false))
