use Rattle.rina_known.specs.Entries.{IsKnown}
use Rattle.rina_known.proofs.Calls.{out_keeps, time_keeps}
use Rattle.rina_known.proofs.Clocks.{clock_keeps}
use Rattle.rina_known.proofs.Comes.{in_keeps}
use Rattle.rina_known.proofs.Keeping.{own_known}
use Rattle.rina_known.proofs.laws.steps_keep_known_names.Goals as goal

pub returns : goal.returns
returns c = record {
  coming = λ names. in_keeps (IsKnown names) (own_known names);
  going = λ names. out_keeps (IsKnown names) (own_known names);
  clock = λ names. clock_keeps (IsKnown names) (own_known names);
  time = λ names. time_keeps (IsKnown names) (own_known names);
}
