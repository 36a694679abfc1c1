use Rattle.std.proofs.Common.{◌≡◌, ◌∙◌, false, rules}
use Rattle.rina_tower.specs.MemoryFailure.{has_failed}
use Rattle.rina_words.proofs.Alive.{alive, answered}
use Rattle.rina_words.proofs.Clocks.{never_spent, tick_goes}
use Rattle.rina_words.proofs.Leading.{on_ok}
use Rattle.rina_words.proofs.line.tick_once.Goals as goal

pub returns-clause-clock : goal.returns-clause-clock
returns-clause-clock g c = on_ok _ c.tell_labels.result (c.go_round.ensures.clock ∙ tick_goes c.args.run.now.tower c.tick.new.self (c.in-Ok.ensures.does (alive _ c.in-Ok.ensures.failed (λ h. answered _ _ h.0))))

pub returns-clause-does : goal.returns-clause-does
returns-clause-does g c = let up : has_failed c.args.run.now.tower ≡ false = alive _ c.in-Ok.ensures.failed (λ h. answered _ _ h.0) in search rules

pub unreachable-requires : goal.unreachable-requires
unreachable-requires g c = never_spent c.args.run.now.tower c.tick.new.self c.in-Err-ClockSpent.field-0 c.in-Err-ClockSpent.field-0-is c.in-Err-ClockSpent.ensures.does c.in-Err-ClockSpent.ensures.failed c.requires.clock
