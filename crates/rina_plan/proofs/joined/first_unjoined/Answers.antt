use Rattle.std.proofs.Common.{◌≡◌, List, sym, ap, ◌∙◌}
use Rattle.std.specs.List.{position}
use Rattle.rina_plan.specs.declared.dif.DifPlan.{DifPlan}
use Rattle.rina_plan.specs.declared.nets.Net.{Net}
use Rattle.rina_plan.specs.Nets.{difs_of}
use Rattle.rina_plan.specs.Walks.{is_unjoined}
use Rattle.rina_plan.proofs.Places.{position_map}
use Rattle.rina_plan.proofs.joined.first_unjoined.Goals as goal

pub returns : goal.returns
returns c =
    let nets = c.as_slice.result.now in
    let are : difs_of nets ≡ c.args.difs.now = ap difs_of c.as_slice.ensures.value ∙ c.in_ok-nets.ensures in
    c.first_of.ensures.place ∙ sym (position_map (is_unjoined (difs_of nets)) (λ (n : Net). n.dif.now) nets) ∙ ap (λ (ds : List DifPlan). position (is_unjoined ds) ds) are
