use Rattle.std.proofs.Common.{Some, sym, ap, ◌∙◌, arith}
use Rattle.std.specs.Prelude.{is_some}
use Rattle.std.proofs.lemmas.Map.Text.{btree_map_updates_str}
use Rattle.rina_stack.proofs.Seen.{seen_step}
use Rattle.rina_stack.proofs.DuplicateSteps.{duplicate_found, duplicate_goes_on, no_duplicate}
use Rattle.rina_stack.proofs.duplicates.first_duplicate.Goals as goal

pub returns-then-is_some-clause-place : goal.returns-then-is_some-clause-place
returns-then-is_some-clause-place c =
    duplicate_found c.args.texts.now c.texts.text-index c.texts.at _ c.in_ok-insert.field-0 _ c.texts.invariant.place c.texts-test.true (ap is_some c.in_ok-insert.ensures.old ∙ c.texts.invariant.known _) (sym c.is_some.ensures ∙ c.if-is_some.true) c.texts.invariant.read

pub texts-preserved : goal.texts-preserved
texts-preserved c = record {
  place = omega arith;
  known = λ q. seen_step c.args.texts.now c.texts.text-index c.texts.at _ q _ _ c.texts-test.true (c.texts.invariant.known q) (btree_map_updates_str _ c.texts.seen c.insert.new.self (Some c.texts.at) c.in_ok-insert.ensures.updates q);
  read = duplicate_goes_on c.args.texts.now c.texts.text-index c.texts.at _ c.in_ok-insert.field-0 _ c.texts.invariant.place c.texts-test.true (ap is_some c.in_ok-insert.ensures.old ∙ c.texts.invariant.known _) (sym c.is_some.ensures ∙ c.if-is_some.false) c.texts.invariant.read;
}

pub returns-clause-place : goal.returns-clause-place
returns-clause-place c = no_duplicate c.args.texts.now c.texts.text-index _ c.texts-test.false c.texts.invariant.read
