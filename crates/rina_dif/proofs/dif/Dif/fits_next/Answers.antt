use Rattle.std.proofs.Common.{◌∙◌, arith}
use Rattle.rina_dif.proofs.Accepting.{fits_none, fits_not, fits_so, next_is}
use Rattle.rina_dif.proofs.dif.Dif.fits_next.Goals as goal

pub returns-in_default : goal.returns-in_default
returns-in_default c = fits_none c.args.self.now c.args.at (next_is c.args.self.now c.args.at c.free.result c.requires.at c.free.ensures ∙ c.in_default.is)

pub returns-then-cep-most : goal.returns-then-cep-most
returns-then-cep-most c = fits_not c.args.self.now c.args.at c.in-Some.cep c.greatest_cep-most.result (next_is c.args.self.now c.args.at c.free.result c.requires.at c.free.ensures ∙ c.in-Some.is) c.greatest_cep-most.ensures (omega arith)

pub returns : goal.returns
returns c = fits_so c.args.self.now c.args.at c.in-Some.cep c.greatest_cep-most.result (next_is c.args.self.now c.args.at c.free.result c.requires.at c.free.ensures ∙ c.in-Some.is) c.greatest_cep-most.ensures (omega arith)
