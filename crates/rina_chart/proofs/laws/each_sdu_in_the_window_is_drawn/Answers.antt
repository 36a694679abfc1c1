use Rattle.rina_chart.proofs.Drawn.{arrows_drawn, crosses_drawn}
use Rattle.rina_chart.proofs.laws.each_sdu_in_the_window_is_drawn.Goals as goal

pub returns-clause-arrows : goal.returns-clause-arrows
returns-clause-arrows c = arrows_drawn

pub returns-clause-crosses : goal.returns-clause-crosses
returns-clause-crosses c = crosses_drawn
