use Rattle.std.proofs.Common.{arith}
use Rattle.rina_plan.specs.declared.nets.Net.{Net}
use Rattle.rina_plan.specs.Nets.{difs_of}
use Rattle.rina_plan.specs.Walks.{is_unjoined}
use Rattle.rina_plan.proofs.Places.{place_found, place_later, no_place}
use Rattle.rina_plan.proofs.joined.first_of.Goals as goal

pub returns-then-is_unjoined-clause-place : goal.returns-then-is_unjoined-clause-place
returns-then-is_unjoined-clause-place c = place_found (λ (n : Net). is_unjoined (difs_of c.args.nets.now) n.dif.now) c.args.nets.now c.nets.net-index c.nets.at c.net-item.result c.is_unjoined.result (omega arith) c.net-item.is c.is_unjoined.ensures c.if-is_unjoined.true c.nets.invariant.read

pub nets-preserved : goal.nets-preserved
nets-preserved c = record {
  place = omega arith;
  read = place_later (λ (n : Net). is_unjoined (difs_of c.args.nets.now) n.dif.now) c.args.nets.now c.nets.net-index c.nets.at c.net-item.result c.is_unjoined.result (omega arith) c.net-item.is c.is_unjoined.ensures c.if-is_unjoined.false c.nets.invariant.read;
}

pub returns-clause-place : goal.returns-clause-place
returns-clause-place c = no_place (λ (n : Net). is_unjoined (difs_of c.args.nets.now) n.dif.now) c.args.nets.now c.nets.net-index c.nets.at (omega arith) c.nets.invariant.read
