use Rattle.std.proofs.Common.{◌∙◌}
use Rattle.rina_tower.specs.Bystanders.{IsIpc}
use Rattle.rina_words.proofs.Clocks.{clock_stays}
use Rattle.rina_words.proofs.Reading.{partly_more}
use Rattle.rina_words.proofs.read.read_all.Goals as goal

pub entries-preserved : goal.entries-preserved
entries-preserved c = record {
  sound = c.app_pass.ensures.valid;
  read = partly_more _ _ _ _ c.entries.run _ _ _ c.in-Some.ensures.entry c.tick_of.result _ _ _ c.entries.invariant.read c.in-Some.ensures.oldest c.in-Some.ensures.its_tick (c.in_ok-bytes.ensures ∙ c.in-Some.ensures.its_bytes) c.tick_of.ensures c.in_ok-tell.ensures.ok c.app_pass.ensures.does (clock_stays IsIpc c.entries.run.tower c.app_pass.new.self c.app_pass.ensures.beside);
  told = c.len-told-in-entries.ensures;
}
