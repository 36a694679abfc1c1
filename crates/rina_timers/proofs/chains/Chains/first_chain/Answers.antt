use Rattle.rina_timers.proofs.Written.{first_chain_told, no_chain_told, least_told}
use Rattle.rina_timers.proofs.chains.Chains.first_chain.Goals as goal
use Rattle.rina_timers.proofs.chains.Chains.first_chain.Goals.{then-self-lt-CHAINS, else-self-lt-CHAINS}

pub invariant_of-self : goal.invariant_of-self
invariant_of-self c =
    let is = rw c.deref.ensures.value at c.first_some-self-inside.ensures in
    record { links = c.self.invariant.links; least = least_told _ _ _ _ c.self.inside.low c.first_some-self-inside.result c.self.invariant is }

pub returns-clause-chain : goal.returns-clause-chain
returns-clause-chain c =
    let is = rw c.deref.ensures.value at c.first_some-self-inside.ensures in
    rw (← c.self.view_is) (elim c.if-self-lt-CHAINS.branch [
      | then-self-lt-CHAINS w ↦ rw w.result-is (first_chain_told _ _ _ _ c.self.inside.low c.first_some-self-inside.result c.self.invariant is w.if-self-lt-CHAINS.true)
      | else-self-lt-CHAINS w ↦ rw w.result-is (no_chain_told _ _ _ _ c.self.inside.low c.first_some-self-inside.result c.self.invariant is w.if-self-lt-CHAINS.false)
    ])
