-- What a connection, or its sending half, is once what it lent is given back.
use Rattle.std.specs.Prelude.{◌≡◌, ℕ, Option, option_copied, ⊤}
use Rattle.std.specs.Borrow.{follows_so, MutBor, Bor, Fml}
use mathlib.Core.Option.{none}
use Rattle.rina_base.specs.declared.pdu.Pdu.{Pdu}
use Rattle.rina_dtp.specs.Lending.{fetched}
use Rattle.rina_conn.specs.declared.conn.Conn.{Conn}
use Rattle.rina_conn.specs.declared.sending.Sending.{Sending}
use Rattle.rina_conn.specs.Conns.{notes_next}
use Rattle.rina_conn.specs.Sending.{IsResent}
use Rattle.rina_conn.specs.contracts.conn.Conn as conn
use Rattle.rina_conn.specs.contracts.sending.Sending as sending

-- the first SDU was fetched, and waits to be passed
abbrev pub LendsWhole : MutBor Conn → Fml
LendsWhole k = follows_so conn.the_row conn.the_row k.ghost_name none (λ _ _. ⊤) (λ last. last ≡ record (notes_next k.now) { rx = record k.now.rx { join = fetched k.now.rx.join } })

-- the number whose PDU is lent was sent again
abbrev pub LendsAgain : ℕ → MutBor Sending → Option (Bor Pdu) → Fml
LendsAgain now s lent = follows_so sending.the_row sending.the_row s.ghost_name none (λ _ _. ⊤) (λ last. IsResent now s.now (option_copied lent) last)
