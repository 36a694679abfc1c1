use Rattle.std.proofs.Common.{◌≡◌, List, arith, inl, inr, subst}
use Rattle.std.specs.Prelude.{count_by}
use Rattle.rina_iface.specs.declared.ends.End.{End}
use Rattle.rina_tower.specs.Ranks.{seen_of}
use Rattle.rina_run.specs.Drawn.{is_failed_app}
use Rattle.rina_run.proofs.Drawing.{facility_there, failures_beyond, failures_more}
use Rattle.rina_run.proofs.summary.count_failures_at_top.Goals as goal

pub facilities-preserved : goal.facilities-preserved
facilities-preserved c =
    let found = subst (λ (es : List End). c.count_failed.result ≡ count_by is_failed_app es) c.as_slice.ensures c.count_failed.ensures in
    let facs = (seen_of c.args.tower.now).facs in (
      failures_more facs c.facilities.fac c.facilities.count c.count_failed.result c.in_ok-count.count c.in-Some.journal.now.ends c.facilities.invariant.0 c.in-Some.ensures found c.in_ok-count.ensures.1,
      facility_there facs c.facilities.fac c.in-Some.journal.now.ends c.in-Some.ensures,
    )

pub returns-in_err-count-clause-none : goal.returns-in_err-count-clause-none
returns-in_err-count-clause-none c = λ none.
    let found = subst (λ (es : List End). c.count_failed.result ≡ count_by is_failed_app es) c.as_slice.ensures c.count_failed.ensures in
    inl (failures_beyond (seen_of c.args.tower.now).facs c.facilities.fac c.facilities.count c.count_failed.result c.in-Some.journal.now.ends c.facilities.invariant.0 c.in-Some.ensures found (let no = c.in_err-count.ensures in grind (arith, no)))

pub returns-clause-none : goal.returns-clause-none
returns-clause-none c = λ none. inr (let end = c.facilities-test.false in let fit = c.facilities.invariant.1 in omega (arith, end, fit))
