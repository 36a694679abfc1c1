-- SDUs that are lent.
use Rattle.std.specs.Prelude.{◌≡◌, ◌-◌, ◌^◌, min, List, [], ◌∷◌, drop, Option, Some, None, ⊤}
use Rattle.std.specs.Borrow.{Fml, MutBor, follows_so}
use mathlib.Core.Option.{none}
use Rattle.rina_dtp.specs.declared.sdu.Sdu as lent
use Rattle.rina_dtp.specs.contracts.join.Join as join
use Rattle.rina_dtp.specs.contracts.rx.Rx as rx
use Rattle.rina_dtp.specs.Joins.{Joins}
use Rattle.rina_dtp.specs.Receiving.{Receiving}
use Rattle.rina_law.specs.Pieces.{Sdu}

-- the first of the SDUs that wait is lent, and None where none waits
abbrev pub IsFirst : Option lent.Sdu → List Sdu → Type 0
IsFirst None [] = Unit {0}
IsFirst (Some sdu) (w ∷ ws) = (sdu.first ≡ w.first) × (sdu.pieces ≡ min w.pieces (2 ^ 32 - 1)) × (sdu.bytes.now ≡ w.bytes)
IsFirst _ _ = ⊥

-- without the first
abbrev pub fetched : Joins → Joins
fetched j = record j { whole = drop 1 j.whole }

-- once the loan has ended, the others wait
abbrev pub LendsOfJoin : MutBor Joins → Fml
LendsOfJoin j = follows_so join.the_row join.the_row j.ghost_name none (λ _ _. ⊤) (λ last. last ≡ fetched j.now)

abbrev pub LendsWhole : MutBor Receiving → Fml
LendsWhole r = follows_so rx.the_row rx.the_row r.ghost_name none (λ _ _. ⊤) (λ last. last ≡ record r.now { join = fetched r.now.join })
