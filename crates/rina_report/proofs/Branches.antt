-- What holds of whatever a reader gives, by the word that it meets.
use Rattle.std.proofs.Common.{◌≡◌, ℕ, Bool, true, false, cond, List, ◌∷◌, Option, Some, None, Result, Ok, Err, refl, subst}
use Rattle.std.specs.Str.{bytes_eq}
use Rattle.std.specs.Prelude.{IfOk, IfSome}
use Rattle.rina_base.specs.Traverse.{◌>>=◌}
use Rattle.rina_schedule.specs.declared.error.LineError.{LineError}
use Rattle.std.proofs.lemmas.Option.{same_Some}
use Rattle.rina_report.proofs.Readers.{word_is}

-- what holds of the value, if there is one
pub record Holds {B : Type 0} (P : B → Type 0) (r : Result B LineError) : Type 0 where
  pub is : IfOk r P

-- a test of the word of a line
pub word_then : {B : Type 0} {P : B → Type 0} (word other : List ℕ) (x y : Result B LineError) → (word ≡ other → IfOk x P) → Holds P y → Holds P (cond (bytes_eq word other) x y)
word_then {P = P} word other x y h g = by_word (bytes_eq word other) refl
  where
    by_word : (c : Bool) → bytes_eq word other ≡ c → Holds P (cond c x y)
    by_word true e = record { is = h (word_is word other e) }
    by_word false e = g

pub failed : {B : Type 0} {P : B → Type 0} {d : LineError} → Holds P (Err d)
failed = record { is = tt }

pub step : {A B : Type 0} (P : B → Type 0) (r : Result A LineError) (f : A → B) (Q : A → Type 0) → IfOk r Q → ((x : A) → Q x → P (f x)) → IfOk (r >>= λ x. Ok (f x)) P
step P (Ok x) f Q h g = g x h
step P (Err d) f Q h g = tt

pub weaken : {A : Type 0} (r : Result A LineError) (Q P : A → Type 0) → IfOk r Q → ((x : A) → Q x → P x) → IfOk r P
weaken (Ok x) Q P h g = g x h
weaken (Err d) Q P h g = tt

pub cons : {w v : List ℕ} {fs gs : List (List ℕ)} → w ≡ v → fs ≡ gs → w ∷ fs ≡ v ∷ gs
cons e d = cc

-- what holds of the value, if there is one
pub record HoldsSome {A : Type 0} (P : A → Type 0) (o : Option A) : Type 0 where
  pub is : IfSome o P

pub word_some : {A : Type 0} {P : A → Type 0} (word other : List ℕ) (x y : Option A) → (word ≡ other → IfSome x P) → HoldsSome P y → HoldsSome P (cond (bytes_eq word other) x y)
word_some {P = P} word other x y h g = by_word (bytes_eq word other) refl
  where
    by_word : (c : Bool) → bytes_eq word other ≡ c → HoldsSome P (cond c x y)
    by_word true e = record { is = h (word_is word other e) }
    by_word false e = g

pub none : {A : Type 0} {P : A → Type 0} → HoldsSome P None
none = record { is = tt }

pub some_at : {A : Type 0} (o : Option A) (P : A → Type 0) → HoldsSome P o → (x : A) → o ≡ Some x → P x
some_at (Some y) P h x e = subst P (same_Some y x e) h.is
some_at None P h x e = absurd cc
