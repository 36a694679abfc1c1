use Rattle.std.proofs.Common.{◌≡◌, ◌+◌, ◌-◌, ◌≤◌, arith, List, ℕ, map, take, drop, Result, Ok, Err, IfOk, sym, ◌∙◌, ap, subst}
use Rattle.std.proofs.lemmas.List.{drop-take}
use Rattle.rina_base.specs.declared.memory.Memory.{Memory}
use Rattle.rina_dtp.specs.Joins.{Joins, sdus_in, bytes_of}
use Rattle.rina_dtp.specs.Slots.{Waiting}
use Rattle.rina_dtp.proofs.Ahead.{bytes_in}
use Rattle.rina_dtp.proofs.join.Join.bodies.Goals as goal

by_range : (r : Result (List (List ℕ)) Memory) (slots : List Waiting) (a b : ℕ) (v : Joins) → a ≤ b → IfOk r (λ x. x ≡ map (λ (w : Waiting). w.bytes) (take (b - a) (drop a slots))) → v.whole ≡ sdus_in a b slots → IfOk r (λ x. x ≡ bytes_of v.whole)
by_range (Ok x) slots a b v le h e =
    let all : a + (b - a) ≡ b = omega arith in
    let same : take (b - a) (drop a slots) ≡ drop a (take b slots) = sym (drop-take a (b - a) slots) ∙ ap (λ k. drop a (take k slots)) all in
    h ∙ ap (map (λ (w : Waiting). w.bytes)) same ∙ sym (bytes_in (drop a (take b slots))) ∙ ap bytes_of (sym e)
by_range (Err e) slots a b v le h w = h

pub returns : goal.returns
returns c =
    let s = c.self.inside in
    let P : List Waiting → Type 0 = λ xs. IfOk c.bodies_of.result (λ x. x ≡ map (λ (w : Waiting). w.bytes) (take (s.filled - s.fetched) (drop s.fetched xs))) in
    by_range c.bodies_of.result s.slots.items s.fetched s.filled c.args.self.now (c.self.invariant.2) (subst P c.deref.ensures.value c.bodies_of.ensures) (ap (λ (j : Joins). j.whole) (sym c.self.view_is))
