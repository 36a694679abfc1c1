use Rattle.rina_chart.proofs.EachRow.{got_rows, not_got_rows}
use Rattle.rina_chart.proofs.laws.each_sdu_in_the_window_has_its_row.Goals as goal

pub returns-clause-arrows : goal.returns-clause-arrows
returns-clause-arrows c = got_rows

pub returns-clause-crosses : goal.returns-clause-crosses
returns-clause-crosses c = not_got_rows
