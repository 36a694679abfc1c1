use Rattle.std.proofs.Common.{arith, refl, sym, ◌∙◌}
use Rattle.std.proofs.lemmas.Bool.{eqb-false}
use Rattle.std.proofs.lemmas.Result.{err_from_is_err_and}
use Rattle.rina_cdap.specs.Reading.{drafted}
use Rattle.rina_cdap.proofs.Drafts.{kept_on, shorter, fault_here}
use Rattle.rina_cdap.proofs.reading.read_fields.Goals as goal

pub fields-init : goal.fields-init
unfolding drafted
fields-init c = record { rises = tt; parts = refl; ends = refl }

pub returns-in_err-taken : goal.returns-in_err-taken
returns-in_err-taken c =
    let p = err_from_is_err_and c.from_residual.result c.from_residual.ensures.1 in
    let some = eqb-false _ 0 (sym c.is_empty.ensures ∙ c.fields-test.true) in
    rw (p.1, p.2) (fault_here c.fields.draft c.args.bytes.now c.fields.rest.now _ c.fields.last c.in_err-taken.field-0.0 c.fields.invariant (omega (arith, some)) refl c.in_err-taken.ensures.err)

pub fields-smaller : goal.fields-smaller
fields-smaller c = shorter c.fields.rest.now _ _ c.in_ok-taken.ensures.ok.parts

pub fields-preserved : goal.fields-preserved
fields-preserved c = kept_on c.fields.draft c.read_field.new.draft c.args.bytes.now c.fields.rest.now _ c.fields.last _ _ c.fields.invariant c.in_ok-taken.ensures.ok c.in_ok-taken.ensures.put
