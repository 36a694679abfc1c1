-- A text that is a name is that name.
use Rattle.std.proofs.Common.{◌≡◌, ℕ, List, Result, Ok, Err}
use Rattle.rina_base.specs.Names.{name_at, length_at, bytes_at}
use Rattle.rina_base.specs.Traverse.{◌>>=◌}
use Rattle.rina_base.specs.declared.name.NameError.{NameError}

ends_alike : (a b : Result (Unit {0}) NameError) (text n : List ℕ) → (a >>= λ _. b >>= λ _. Ok text) ≡ Ok n → n ≡ text
ends_alike (Ok _) (Ok _) text n h = cc
ends_alike (Ok _) (Err _) text n h = cc
ends_alike (Err _) b text n h = cc

pub name_is : (text n : List ℕ) → name_at text ≡ Ok n → n ≡ text
unfolding name_at
name_is text n h = ends_alike (length_at text) (bytes_at 0 text) text n h
