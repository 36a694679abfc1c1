use Rattle.std.proofs.Common.{ap, ◌+◌, ◌/◌, ℕ}
use Rattle.rina_flows.proofs.Counted.{cut_count}
use Rattle.rina_flows.proofs.flows.pieces.Goals as goal

pub returns : goal.returns
returns c = λ parts cut long. cut_count c.args.form.now.piece c.args.len (c.saturating_sub.result / c.args.form.now.piece + 1) parts c.args.form.now.least_piece (ap (λ (n : ℕ). n / c.args.form.now.piece + 1) c.saturating_sub.ensures) cut long
