-- What a sender is once the PDU that it lent is given back.
use Rattle.std.specs.Prelude.{ℕ, ⊤, Option, option_copied}
use Rattle.std.specs.Borrow.{follows_so, MutBor, Bor, Fml}
use mathlib.Core.Option.{none}
use Rattle.rina_base.specs.declared.pdu.Pdu.{Pdu}
use Rattle.rina_dtcp.specs.Senders.{Kept}
use Rattle.rina_dtcp.specs.Rows.{LendsAgain}
use Rattle.rina_dtcp.specs.contracts.tx.Tx.{the_row}

abbrev pub LendsDue : ℕ → MutBor Kept → Option (Bor Pdu) → Fml
LendsDue now tx lent = follows_so the_row the_row tx.ghost_name none (λ _ _. ⊤) (λ last. LendsAgain now tx.now (option_copied lent) last)
