use Rattle.std.proofs.Common.{ℕ, ◌≤◌, List, subst, sym}
use Rattle.std.specs.Vec.{vec_capacity}
use Rattle.rina_account.specs.declared.ledger.Off.{Off}
use Rattle.rina_data.specs.Deciding.{process_of}
use Rattle.rina_flows.specs.Stopping.{StopsAll}
use Rattle.rina_dif.specs.Unlinking.{LosesThenCloses}
use Rattle.rina_dif.proofs.processes.lose_last_link.Goals as goal

pub returns-clause-does : goal.returns-clause-does
returns-clause-does c =
    let lines = c.in_ok-lines.lines in
    let l0 = c.args.links.now in
    let P : ℕ → Type 0 = λ n. (l : LosesThenCloses c.args.loss n l0 (process_of c.args.process.now) c.lose_with_room.new.links (record (process_of c.lose_with_room.new.process) { ledger = lines.items })) × (l.room ≤ vec_capacity lines) in
    let ok = subst P c.in-Some.ensures c.in_ok-lines.ensures.ok in
    record {
      ledger = lines.items;
      loses = ok.0;
      room = vec_capacity lines;
      wide = ok.1;
      stops = subst (λ (l : List Off). StopsAll c.args.loss.now c.args.node c.args.state c.args.flows.now lines.items (vec_capacity lines) c.stop_all.new.self l) (sym c.put.ensures) c.stop_all.ensures.stops;
    }
