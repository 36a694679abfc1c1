-- A field without a fault is lawful.
use Rattle.std.proofs.Common.{arith, inl}
use Rattle.std.proofs.lemmas.Result.{err_from_is_err_and}
use Rattle.rina_cdap.specs.Messages.{field}
use Rattle.rina_cdap.proofs.Fields.{fine_lawful, field_takes}
use Rattle.rina_cdap.proofs.reading.read_field.Goals as goal

pub put-requires-clause-tag : goal.put-requires-clause-tag
put-requires-clause-tag c =
    let t = c.in_ok-taken.taken in
    let h = fine_lawful c.args.at c.args.last (field t.tag t.content.now) c.in_ok-taken.ensures.ok.1 in
    (omega (arith, h.above), h.known)

pub put-requires-clause-form : goal.put-requires-clause-form
put-requires-clause-form c =
    let t = c.in_ok-taken.taken in
    (fine_lawful c.args.at c.args.last (field t.tag t.content.now) c.in_ok-taken.ensures.ok.1).form

pub returns-in_err-put-clause-err : goal.returns-in_err-put-clause-err
returns-in_err-put-clause-err c =
    let p = err_from_is_err_and c.from_residual-in_err-put.result c.from_residual-in_err-put.ensures.1 in
    let t = c.in_ok-taken.taken in
    let front = field_takes c.args.rest.now (field t.tag t.content.now) t.rest.now (λ i. omega (arith, c.type_inv.rest i)) c.in_ok-taken.ensures.ok.0 in
    let lawful = fine_lawful c.args.at c.args.last (field t.tag t.content.now) c.in_ok-taken.ensures.ok.1 in
    rw (p.1, p.2) (inl (c.in_err-put.ensures.err.0, record { front = field t.tag t.content.now; rest = t.rest.now; next = record { parts = front.parts; lawful = lawful }; copied = c.in_err-put.ensures.err.1 }))

pub returns-clause-ok : goal.returns-clause-ok
returns-clause-ok c =
    let t = c.in_ok-taken.taken in
    let front = field_takes c.args.rest.now (field t.tag t.content.now) t.rest.now (λ i. omega (arith, c.type_inv.rest i)) c.in_ok-taken.ensures.ok.0 in
    record { parts = front.parts; lawful = fine_lawful c.args.at c.args.last (field t.tag t.content.now) c.in_ok-taken.ensures.ok.1 }
