-- So far the names have the form of one.
use Rattle.std.proofs.Common.{◌≡◌, Ok}
use Rattle.rina_base.specs.Names.{app_at}
use Rattle.rina_data.specs.declared.settings.Member.{Member}
use Rattle.rina_dif.proofs.Rested.{SoFar}
use Rattle.rina_dif.proofs.names.are_named.Given as goal

abbrev pub invariant-loop-at : goal.invariant-loop-at
invariant-loop-at l = SoFar (λ (m : Member). app_at m.name ≡ Ok m.name) l.members l.at
