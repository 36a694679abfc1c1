use Rattle.std.proofs.Common.{List, ◌∙◌, subst, sym}
use Rattle.rina_data.specs.declared.link.Link.{Link}
use Rattle.rina_dif.specs.Enrolling.{IsLeastNumber}
use Rattle.rina_dif.proofs.dif.Dif.joining_at.Goals as goal

pub returns-clause-ok : goal.returns-clause-ok
returns-clause-ok c = λ port. record {
  process = c.in-Some-Some-Some.process.now;
  is_process = c.in-Some-Some-Some.ensures;
  least = subst (λ (links : List Link). IsLeastNumber links c.least_number-number.result) c.as_slice.ensures c.least_number-number.ensures;
  management = c.in-Some-Some-Some.management.now;
  is_management = c.in-Some-Some-Some.ensures';
  may = sym c.refused_joiner.ensures ∙ c.in_default-refused_joiner.is;
  member = c.in-Some-Some-Some.member.now;
  is_member = c.in-Some-Some-Some.ensures'';
  name = c.is_formed.ensures;
  after_is = c.in_ok-after.ensures.1;
}
