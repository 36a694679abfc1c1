use Rattle.std.proofs.Common.{sym, ◌∙◌}
use Rattle.rina_chart.proofs.Writing.{looks_bad, looks_chart, looks_table}
use Rattle.rina_chart.proofs.program.look.Goals as goal

pub returns-in-Table : goal.returns-in-Table
returns-in-Table g c = looks_table _ _ _ _ _ _ _ (sym c.asked_of.ensures ∙ c.in-Table.is) c.view.ensures

pub returns-in-Chart : goal.returns-in-Chart
returns-in-Chart g c = looks_chart _ _ c.in-Chart.format _ c.in-Chart.window _ _ _ _ _ (sym c.asked_of.ensures ∙ c.in-Chart.is) c.facility_of.ensures c.chart.ensures

pub returns-in-Bad : goal.returns-in-Bad
returns-in-Bad g c = looks_bad _ c.in-Bad.word _ _ _ _ _ (sym c.asked_of.ensures ∙ c.in-Bad.is) c.refuse.ensures
