use Rattle.std.proofs.Common.{◌≡◌, Ok, arith}
use Rattle.rina_base.specs.Names.{app_at}
use Rattle.rina_data.specs.declared.settings.Member.{Member}
use Rattle.rina_member.proofs.Lists.{at_place}
use Rattle.rina_dif.proofs.Rested.{all_so_far}
use Rattle.rina_dif.proofs.names.are_named.Goals as goal

pub returns : goal.returns
returns c = λ m among.
    let after = c.loop-at-test.false in
    all_so_far (λ (x : Member). app_at x.name ≡ Ok x.name) c.args.members.now c.loop-at.at (omega (arith, after)) c.loop-at.invariant among.0 m (at_place c.args.members.now m among)
