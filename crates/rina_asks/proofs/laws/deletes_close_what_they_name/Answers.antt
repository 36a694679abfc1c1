use Rattle.rina_asks.proofs.Closing.{closed_named, closed_one, used_own, delete_finds_far, delete_finds_asker}
use Rattle.rina_asks.proofs.laws.deletes_close_what_they_name.Goals as goal

pub returns : goal.returns
returns c = record { named = closed_named; one = closed_one; own = used_own; far = delete_finds_far; asker = delete_finds_asker }
