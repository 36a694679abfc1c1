use Rattle.std.proofs.Common.{◌≡◌, drop}
use Rattle.std.specs.List.{position_from}
use Rattle.rina_plan.specs.declared.nets.Net.{Net}
use Rattle.rina_plan.specs.Nets.{difs_of}
use Rattle.rina_plan.specs.Walks.{is_unjoined}
use Rattle.rina_plan.proofs.joined.first_of.Given as goal

abbrev pub invariant-nets : goal.invariant-nets
invariant-nets l = record {
  place : l.at ≡ l.net-index;
  read : position_from (λ (n : Net). is_unjoined (difs_of l.nets) n.dif.now) l.at (drop l.net-index l.nets) ≡ position_from (λ (n : Net). is_unjoined (difs_of l.nets) n.dif.now) 0 l.nets;
}
