use Rattle.std.proofs.Common.{◌≡◌, ◌∙◌, None}
use Rattle.rina_data.specs.Configs.{config_of}
use Rattle.rina_dif_law.specs.Sending.{home}
use Rattle.rina_dif.specs.Facade.{IsLedger}
use Rattle.rina_tower.specs.Ledgers.{IsLedgerAt, member_at}
use Rattle.rina_tower.proofs.Owned.{dif_there, match_by, member_there, own_valid, rank_valid}
use Rattle.rina_tower.proofs.tower.Tower.ledger.Goals as goal

pub ledger-requires : goal.ledger-requires
ledger-requires c =
    let t = c.in_ok-rank.rank.now in
    own_valid t c.args.dif c.in_ok-dif.dif.now (rank_valid c.args.self.now c.args.r t c.requires c.in_ok-rank.ensures) c.in_ok-dif.ensures

pub returns : goal.returns
returns c =
    let d = c.in_ok-dif.dif.now in
    let there = dif_there c.args.self.now c.args.r c.args.dif c.in_ok-rank.rank.now d c.in_ok-rank.ensures c.in_ok-dif.ensures in
    let member = member_there c.args.self.now c.args.r c.args.dif c.args.node d there in
    match_by c.ledger.result (home c.args.node (config_of d.settings).members ≡ None) (member_at c.args.self.now c.args.r c.args.dif c.args.node ≡ None)
    (λ offs. IsLedger d c.args.node offs.now) (λ offs. IsLedgerAt c.args.self.now c.args.r c.args.dif c.args.node offs.now)
    (λ none. member ∙ none) (λ offs is. record { dif = d; is_dif = there; ledger = is }) c.ledger.ensures
