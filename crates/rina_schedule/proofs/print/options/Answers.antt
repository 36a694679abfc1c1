use Rattle.rina_schedule.specs.Printed.{want_fields}
use Rattle.rina_schedule.proofs.Spaced.{adds_more}
use Rattle.rina_schedule.proofs.print.options.Goals as goal

pub returns : goal.returns
unfolding want_fields
returns c = adds_more _ _ _ _ _ _ c.in_ok-flag.ensures (adds_more _ _ _ _ _ _ c.in_ok-flag-2.ensures (adds_more _ _ _ _ _ _ c.in_ok-setting.ensures c.setting-2.ensures))
