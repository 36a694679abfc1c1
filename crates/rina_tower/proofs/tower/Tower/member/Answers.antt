use Rattle.std.proofs.Common.{◌≡◌, ◌∙◌, None}
use Rattle.rina_data.specs.Configs.{config_of}
use Rattle.rina_dif_law.specs.Sending.{home}
use Rattle.rina_dif.specs.Facade.{IsStateAt}
use Rattle.rina_tower.specs.Ledgers.{member_at}
use Rattle.rina_tower.specs.Members.{IsMemberState}
use Rattle.rina_tower.proofs.Owned.{dif_there, match_by, member_there, own_valid, rank_valid}
use Rattle.rina_tower.proofs.tower.Tower.member.Goals as goal

pub member-requires : goal.member-requires
member-requires c =
    let t = c.in_ok-rank.rank.now in
    own_valid t c.args.dif c.in_ok-dif.dif.now (rank_valid c.args.self.now c.args.r t c.requires c.in_ok-rank.ensures) c.in_ok-dif.ensures

pub returns : goal.returns
returns c =
    let d = c.in_ok-dif.dif.now in
    let there = dif_there c.args.self.now c.args.r c.args.dif c.in_ok-rank.rank.now d c.in_ok-rank.ensures c.in_ok-dif.ensures in
    let member = member_there c.args.self.now c.args.r c.args.dif c.args.node d there in
    match_by c.member.result (home c.args.node (config_of d.settings).members ≡ None) (member_at c.args.self.now c.args.r c.args.dif c.args.node ≡ None)
    (IsStateAt d c.args.node) (IsMemberState c.args.self.now c.args.r c.args.dif c.args.node)
    (λ none. member ∙ none) (λ state is. record { dif = d; is_dif = there; its = is }) c.member.ensures
