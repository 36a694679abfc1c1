use Rattle.std.proofs.Common.{refl, sym, ◌∙◌}
use Rattle.rina_conn.specs.Carrying.{carry}
use Rattle.rina_conn.proofs.sending.Sending.new.Goals as goal

pub returns : goal.returns
returns c = record {
  form_is = refl;
  stands = (λ d of. record {
    cube = of.cube;
    piece = of.piece;
    max = c.new.ensures.max ∙ of.max_is;
    cep = of.cep;
    tx = c.in_ok-new.ensures d (carry c.args.form.peer c.args.form.cube.id) (sym of.cube);
    numbers = record { next = sym c.new.ensures.next; last_out = sym c.new.ensures.last_out };
  });
}
