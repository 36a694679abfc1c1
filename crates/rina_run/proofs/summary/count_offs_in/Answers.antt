use Rattle.std.proofs.Common.{◌≡◌, ◌≤◌, ◌^◌, List, length, IfSome, subst}
use Rattle.std.specs.List.{sum_by}
use Rattle.rina_data.specs.declared.process.IpcProcess.{IpcProcess}
use Rattle.rina_run.specs.Drawn.{dif_offs}
use Rattle.rina_run.proofs.summary.count_offs_in.Goals as goal

pub returns-clause-some : goal.returns-clause-some
unfolding dif_offs
returns-clause-some c = subst (λ (ps : List IpcProcess). IfSome c.count_lines.result (λ n. n ≡ sum_by (λ (p : IpcProcess). length p.ledger) ps)) c.processes.ensures c.count_lines.ensures.some

pub returns-clause-none : goal.returns-clause-none
unfolding dif_offs
returns-clause-none c = λ none. subst (λ (ps : List IpcProcess). 2 ^ 64 ≤ sum_by (λ (p : IpcProcess). length p.ledger) ps) c.processes.ensures (c.count_lines.ensures.none none)
