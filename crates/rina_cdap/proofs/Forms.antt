-- What a name that was read is.
use Rattle.std.proofs.Common.{◌≡◌, ℕ, ◌+◌, List, take, drop, Option, Some, None, Result, Ok, Err}
use Rattle.rina_base.specs.declared.name.NameError.{NameError}
use Rattle.rina_base.specs.Traverse.{◌>>=◌}
use Rattle.rina_base.specs.Names.{length_at, bytes_at, name_at, ipc_at, slash_in, app_cut, app_at}

then_same : (r : Result (Unit {0}) NameError) (text n : List ℕ) → (r >>= λ _. Ok text) ≡ Ok n → n ≡ text
then_same (Ok _) text n e = cc
then_same (Err _) text n e = absurd cc

bind_same : (r : Result (Unit {0}) NameError) (f : Unit {0} → Result (List ℕ) NameError) (text n : List ℕ) → ((u : Unit {0}) → f u ≡ Ok n → n ≡ text) → (r >>= f) ≡ Ok n → n ≡ text
bind_same (Ok u) f text n h e = h u e
bind_same (Err _) f text n h e = absurd cc

pub name_same : (text n : List ℕ) → name_at text ≡ Ok n → n ≡ text
unfolding name_at
name_same text n e = bind_same (length_at text) (λ _. bytes_at 0 text >>= λ _. Ok text) text n (λ _ e. then_same (bytes_at 0 text) text n e) e

cut_same : (o : Option ℕ) (text n : List ℕ) → app_cut o text ≡ Ok n → n ≡ text
cut_same None text n e = name_same text n e
cut_same (Some k) text n e = then_same (ipc_at (take k text) (drop (k + 1) text)) text n e

pub app_same : (text n : List ℕ) → app_at text ≡ Ok n → n ≡ text
unfolding app_at
app_same text n e = cut_same (slash_in text) text n e
