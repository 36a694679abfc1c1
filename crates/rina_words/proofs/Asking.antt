-- The word `alloc`, whose parts are found first.
use Rattle.std.proofs.Common.{◌≡◌, ℕ, List, Option, Some, None, Result, Ok, Err, IfOk, is_some, false, sym}
use Rattle.rina_base.specs.declared.memory.Memory.{Memory}
use Rattle.rina_cube.specs.declared.Want.{Want}
use Rattle.rina_iface.specs.declared.ask.Ask.{Ask}
use Rattle.rina_report.specs.declared.answer.Answer.{Answer}
use Rattle.rina_stack.specs.declared.plan.Plan.{Plan}
use Rattle.rina_notes.specs.declared.label.Label.{Label}
use Rattle.rina_notes.specs.declared.site.Site.{Site}
use Rattle.rina_words.specs.declared.run.Run.{Run}
use Rattle.rina_notes.specs.Sites.{site_at, label_in}
use Rattle.rina_words.specs.Step.{Allocating, AtSite, Unlabelled, CallsAllocate, asked}

at_site : (plan : Plan) (label fac node app to : List ℕ) (want : Want) (w : Run) (found : Result Site ℕ) (site : Site) (used : Option Label) (ask : Ask) (says : Option Answer) (w' : Run)
    → found ≡ Ok site → is_some used ≡ false → ask ≡ asked site app to want → CallsAllocate plan label fac node site.rank w ask says w'
    → AtSite found (λ s. Unlabelled used (CallsAllocate plan label fac node s.rank w (asked s app to want)) w) w says w'
at_site plan label fac node app to want w found site None ask says w' at free is calls = rw at (rw (sym is) calls)
at_site plan label fac node app to want w found site (Some l) ask says w' at free is calls = cc

pub allocating_from : (plan : Plan) (label fac node app to : List ℕ) (want : Want) (w : Run) (site : Site) (ask : Ask) (r : Result (Option Answer) Memory) (w' : Run)
    → Ok site ≡ site_at plan 2 fac node → is_some (label_in w.labels label) ≡ false → ask ≡ asked site app to want
    → IfOk r (λ says. CallsAllocate plan label fac node site.rank w ask says w') → IfOk r (λ says. Allocating plan label fac node app to want w says w')
allocating_from plan label fac node app to want w site ask (Ok says) w' at free is calls = at_site plan label fac node app to want w (site_at plan 2 fac node) site (label_in w.labels label) ask says w' (sym at) free is calls
allocating_from plan label fac node app to want w site ask (Err e) w' at free is calls = tt
