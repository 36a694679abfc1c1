-- The lines of a management connection get the names of its link.
use Rattle.std.proofs.Common.{◌≡◌, ◌∙◌, ℕ, ◌+◌, List, [], ◌∷◌, ◌++◌, length, map, refl, ap, arith, length-append}
use Rattle.std.proofs.lemmas.List.{length-map}
use Rattle.rina_account.specs.declared.ledger.Off.{Off}
use Rattle.rina_iface.specs.declared.state.PortState.{PortState}
use Rattle.rina_flows.specs.declared.flows.Flows.{Flows}
use Rattle.rina_flows.specs.Delivering.{StopsWithin}
use Rattle.rina_channel.specs.Ledgers.{StopsOn, unnamed_from, unnamed_line}

-- the lines that were there before stay
after_all : (xs ys : List Off) → unnamed_from (length xs) (xs ++ ys) ≡ xs ++ map unnamed_line ys
after_all [] ys = refl
after_all (x ∷ xs) ys = ap (λ (zs : List Off). x ∷ zs) (after_all xs ys)

pub stops_on : (now at : ℕ) (state : PortState) (old new : Flows) (ledger between ledger' : List Off) (from room : ℕ) → from ≡ length ledger → ledger' ≡ unnamed_from from between → StopsWithin now at state old ledger room new between → StopsOn now at state old ledger room new ledger'
stops_on now at state old new ledger between ledger' from room count is stops g lines end conn journal tied is_end allocated moves other is_conn fits =
    let s = stops g lines end conn journal tied is_end allocated moves other is_conn fits in
    let offs = s.stopped.offs in
    let ledger_is : ledger' ≡ ledger ++ map unnamed_line offs = is ∙ ap (λ (n : ℕ). unnamed_from n between) count ∙ ap (unnamed_from (length ledger)) s.stopped.ledger_is ∙ after_all ledger offs in
    let more : length between ≡ length ledger + length offs = ap (λ (xs : List Off). length xs) s.stopped.ledger_is ∙ length-append ledger offs in
    let whole : length ledger' ≡ length ledger + length (map unnamed_line offs) = ap (λ (xs : List Off). length xs) ledger_is ∙ length-append ledger (map unnamed_line offs) in
    let same = length-map offs unnamed_line in
    let few = s.few in
    record { offs = offs; stops = s.stopped.stops; ledger_is = ledger_is; few = omega (arith, few, more, whole, same); tied = s.stopped.tied; ids = s.stopped.ids }
