-- The objects that the member shows, each flow with its numbers of now.
use Rattle.std.proofs.Common.{◌∙◌, ap}
use Rattle.rina_rib.specs.Rows.{Tree}
use Rattle.rina_dif.specs.Objects.{flows_at, rib_of}
use Rattle.rina_dif.proofs.dif.Dif.rib_at.Goals as goal

pub returns : goal.returns
returns c =
    let management = c.in-Some-Some.management.now in
    record {
      member = c.in-Some-Some.member.now;
      is_member = c.in-Some-Some.ensures;
      management = management;
      is_management = c.in-Some-Some.ensures';
      flows = c.in_ok-states.states.items;
      are_flows = c.in_ok-states.ensures;
      is = c.in_ok-tell_open.ensures ∙ ap (λ (t : Tree). rib_of t c.deref-2.result.now) c.in_ok-rib.ensures
          ∙ ap (rib_of management.objects) (c.deref-2.ensures.value ∙ c.in_ok-flows.ensures ∙ ap (flows_at c.in-Some-Some.member.now.node) c.deref.ensures.value);
    }
