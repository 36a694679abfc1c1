-- What stands behind the slash in the name of an IPC process is a name.
use Rattle.std.proofs.Common.{◌≡◌, ◌∙◌, ℕ, ◌+◌, ◌==◌, List, length, drop, take, Option, Some, None, Result, Ok, Err, refl, sym, ap, subst}
use Rattle.std.specs.Prelude.{position}
use Rattle.rina_base.specs.declared.name.NameError.{NameError}
use Rattle.rina_base.specs.declared.name.NameError.TheVariants.{BadByte, BadLength}
use Rattle.rina_base.specs.Names.{Gives, app_at, app_cut, bad_at, bytes_at, ipc_at, length_at, name_at, slash_in, unless_bad}
use Rattle.rina_base.specs.Traverse.{◌>>=◌}
use Rattle.rina_member.specs.Start.{behind}

part : (a b c : Result (Unit {0}) NameError) (o : Option ℕ) (n : ℕ) (node name : List ℕ) → ((a >>= λ _. b >>= λ _. c >>= λ _. unless_bad n o) >>= λ _. Ok name) ≡ Ok name → (b >>= λ _. unless_bad 0 o >>= λ _. Ok node) ≡ Ok node
part (Err e) b c o n node name h = absurd cc
part (Ok x) (Err e) c o n node name h = absurd cc
part (Ok x) (Ok y) (Err e) o n node name h = absurd cc
part (Ok x) (Ok y) (Ok z) None n node name h = refl
part (Ok x) (Ok y) (Ok z) (Some at) n node name h = absurd cc

cut : (o : Option ℕ) (name : List ℕ) → app_cut o name ≡ Ok name → name_at (behind o name) ≡ Ok (behind o name)
unfolding name_at ipc_at bytes_at
cut None name h = h
cut (Some k) name h =
    part (length_at (take k name)) (length_at (drop (k + 1) name)) (bytes_at 0 (take k name)) (bad_at (drop (k + 1) name)) (length (take k name) + 1) (drop (k + 1) name) name h

pub behind_named : (name : List ℕ) → app_at name ≡ Ok name → name_at (behind (position (λ b. b == 47) name) name) ≡ Ok (behind (position (λ b. b == 47) name) name)
unfolding app_at slash_in
behind_named name h = cut (position (λ b. b == 47) name) name h

module _ (name bytes text : List ℕ) (form : app_at name ≡ Ok name) (same : bytes ≡ name) (is : text ≡ behind (position (λ b. b == 47) bytes) bytes) where
  read : name_at text ≡ Ok (behind (position (λ b. b == 47) name) name)
  read = ap name_at (is ∙ ap (λ (bs : List ℕ). behind (position (λ b. b == 47) bs) bs) same) ∙ behind_named name form

  pub read_is : (x : List ℕ) → name_at text ≡ Ok x → x ≡ behind (position (λ b. b == 47) name) name
  read_is x h = (let both = sym h ∙ read in cc)

  never : (e : NameError) → name_at text ≡ Err e → ⊥
  never e h = (let both = sym h ∙ read in absurd cc)

  pub never_short : (r : Result (List ℕ) NameError) (e : NameError) (n : ℕ) → r ≡ Err e → e ≡ BadLength n → Gives (λ t. t) r (name_at text) → ⊥
  never_short r e n at same h = never (BadLength n) (subst (λ (x : Result (List ℕ) NameError). Gives (λ t. t) x (name_at text)) (at ∙ ap (λ (x : NameError). Err x) same) h)

  pub never_bad : (r : Result (List ℕ) NameError) (e : NameError) (n : ℕ) → r ≡ Err e → e ≡ BadByte n → Gives (λ t. t) r (name_at text) → ⊥
  never_bad r e n at same h = never (BadByte n) (subst (λ (x : Result (List ℕ) NameError). Gives (λ t. t) x (name_at text)) (at ∙ ap (λ (x : NameError). Err x) same) h)
