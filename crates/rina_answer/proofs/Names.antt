-- A name that was read is the text.
use Rattle.std.proofs.Common.{◌≡◌, ℕ, List, Result, Ok, Err}
use Rattle.rina_base.specs.declared.name.NameError.{NameError}
use Rattle.rina_base.specs.Traverse.{◌>>=◌}
use Rattle.rina_base.specs.Names.{length_at, bytes_at, name_at}

then_same : (r s : Result (Unit {0}) NameError) (text n : List ℕ) → (r >>= λ _. s >>= λ _. Ok text) ≡ Ok n → n ≡ text
then_same (Ok _) (Ok _) text n e = cc
then_same (Ok _) (Err _) text n e = absurd cc
then_same (Err _) s text n e = absurd cc

pub name_same : (text n : List ℕ) → name_at text ≡ Ok n → n ≡ text
unfolding name_at
name_same text n e = then_same (length_at text) (bytes_at 0 text) text n e
