use Rattle.std.proofs.Common.{◌≡◌, rules, replicate}
use Rattle.rina_timers.proofs.Written.{none_chained, none_low}
use Rattle.rina_timers.proofs.chains.Chains.new.Goals as goal

pub invariant_of-result : goal.invariant_of-result
invariant_of-result c =
    let chain : c.in_ok-chain.chain.items ≡ replicate c.args.ids 0 = search rules in
    rw (chain, c.in_ok-next.ensures, c.in_ok-prev.ensures, c.in_ok-first.ensures) (record { links = none_chained c.args.ids; least = none_low c.args.ids 514 })
