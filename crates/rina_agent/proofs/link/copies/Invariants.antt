-- The links so far were copied.
use Rattle.std.proofs.Common.{◌≡◌, take}
use Rattle.rina_agent.proofs.link.copies.Given as goal

abbrev pub invariant-loop-link : goal.invariant-loop-link
invariant-loop-link l = l.copied ≡ take l.link-index l.links
