use Rattle.std.proofs.Common.{ap, ◌∙◌}
use Rattle.rina_report.specs.ReadNotes.{note_at}
use Rattle.rina_report.proofs.Whole.{text_back, text_is}
use Rattle.rina_report.proofs.laws.what_is_read_is_printed.Goals as goal

pub returns : goal.returns
returns c = λ text n. (λ e. (let p = text_is text n e in (p.1, p.0)), λ h. ap note_at h.1 ∙ text_back n h.0)
