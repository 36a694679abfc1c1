use Rattle.std.proofs.Common.{◌≡◌, arith, false, rules}
use Rattle.rina_tower.specs.MemoryFailure.{has_failed}
use Rattle.rina_words.proofs.Alive.{alive}
use Rattle.rina_words.proofs.member.call_enrol.Goals as goal

pub returns-in_ok-tell_enrol-in-Err-clause-does : goal.returns-in_ok-tell_enrol-in-Err-clause-does
returns-in_ok-tell_enrol-in-Err-clause-does c =
    let up : has_failed c.args.run.now.tower ≡ false = alive _ c.in-Err.ensures.failed (λ h. first_of (search rules, grind arith)) in
    let does = c.in-Err.ensures.does up in
    search rules
