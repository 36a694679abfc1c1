use Rattle.std.proofs.Common.{◌-◌, Some, arith}
use Rattle.std.proofs.lemmas.Map.Text.{btree_map_updates_str}
use Rattle.rina_table.proofs.Indexing.{index_step}
use Rattle.rina_table.proofs.scope.index_of.Goals as goal

pub loop-at-preserved : goal.loop-at-preserved
loop-at-preserved c = record {
  place = omega arith;
  found = λ q. index_step c.args.texts.now (c.loop-at.at - 1) c.loop-at.at _ q _ _ (omega arith) (omega arith) (c.loop-at.invariant.found q) (btree_map_updates_str _ c.loop-at.index c.insert.new.self (Some (c.loop-at.at - 1)) c.in_ok-insert.ensures.updates q);
}
