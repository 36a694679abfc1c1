use Rattle.std.proofs.Common.{◌∙◌, ap, subst, ℕ, List}
use Rattle.rina_queue.specs.Queues.{AreIds}
use Rattle.rina_dif.specs.Building.{queue_ids}
use Rattle.rina_dif.proofs.start.bare.Goals as goal

pub returns : goal.returns
returns c = record {
  links = c.new.ensures;
  routes = c.new-2.ensures;
  queues = c.in_ok-new.ensures.empty;
  room = c.in_ok-new.ensures.cap;
  ids = subst (λ (ids : List ℕ). AreIds ids c.in_ok-new.field-0.cubes) (c.as_slice-2.ensures.value ∙ c.in_ok-ids.ensures ∙ ap queue_ids c.as_slice.ensures) c.in_ok-new.ensures.cubes;
  ledger = c.new-4.ensures;
}
