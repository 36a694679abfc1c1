use Rattle.std.proofs.Common.{◌≡◌, ◌++◌, drop}
use Rattle.std.specs.List.{flat_map}
use Rattle.rina_way.specs.Words.{charge_text}
use Rattle.rina_way.proofs.words.all_charges.Given as goal

abbrev pub invariant-hops : goal.invariant-hops
invariant-hops l = l.text ++ flat_map charge_text (drop l.one-index l.hops) ≡ l.initial.text ++ flat_map charge_text l.hops
