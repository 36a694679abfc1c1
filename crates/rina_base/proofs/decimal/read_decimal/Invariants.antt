-- What is still to be read behind the number so far is the whole.
use Rattle.std.proofs.Common.{◌≡◌, ◌≤◌, drop}
use Rattle.rina_base.specs.Decimals.{decimal_from}
use Rattle.rina_base.proofs.decimal.read_decimal.Given as goal

abbrev pub invariant-digits : goal.invariant-digits
invariant-digits l = record {
  fits : l.n ≤ l.max;
  read : decimal_from l.max l.n (drop l.b-index l.text) ≡ decimal_from l.max 0 l.text;
}
