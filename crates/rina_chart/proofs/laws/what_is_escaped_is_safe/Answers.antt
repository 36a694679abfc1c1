use Rattle.rina_chart.proofs.EscapesLaw.{escaped_safe}
use Rattle.rina_chart.proofs.laws.what_is_escaped_is_safe.Goals as goal

pub returns : goal.returns
returns c = escaped_safe
