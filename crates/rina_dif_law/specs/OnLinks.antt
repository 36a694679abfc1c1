-- The lines that the management connections of links have in the ledgers of their IPC processes.
use Rattle.std.specs.Prelude.{◌≡◌, ℕ, ◌^◌, ◌<◌, false}
use Rattle.rina_account.specs.Causes.{IsGone}
use Rattle.rina_account.specs.declared.ledger.Off.{Off}
use Rattle.rina_base.specs.declared.cause.Cause.{Cause}
use Rattle.rina_base.specs.declared.cause.Cause.TheVariants as causes
use Rattle.rina_base.specs.declared.number.Key.{Key}
use Rattle.rina_base.specs.declared.pdu.PduKind.TheVariants.{Piece as APiece}
use Rattle.rina_cube.specs.declared.Cube.{Cube}
use Rattle.rina_cube.specs.Cubes.{delta_of}

-- why a PDU with this key is written off at a link, whose management connection is a reliable one of this cube: a piece by
-- what the connection made of it, and any PDU where no connection is allocated
abbrev pub IsLinkCause : Cube → ℕ → Key → Cause → Type 0
IsLinkCause manage now key (causes.NoConnection cep) = cep ≡ 0
IsLinkCause manage now key (causes.Duplicate num) = (key.kind ≡ APiece) × (num ≡ record { cep = key.scep; seq = key.seq })
IsLinkCause manage now key (causes.NoState drf) = (key.kind ≡ APiece) × (drf ≡ false)
IsLinkCause manage now key (causes.NoRoom cap) = (key.kind ≡ APiece) × (cap ≡ manage.window)
IsLinkCause manage now key (causes.StateGone last_in) = (key.kind ≡ APiece) × IsGone now (delta_of manage) last_in
IsLinkCause manage now key (causes.Broken missing) = (key.kind ≡ APiece) × (missing < 2 ^ 32)
IsLinkCause manage now key cause = ⊥

-- the line is of a PDU of a link, and has such a cause
pub record IsLinkLine (manage : Cube) (now : ℕ) (off : Off) : Type 0 where
  pub src : off.key.src ≡ 0
  pub scep : off.key.scep ≡ 0
  pub why : IsLinkCause manage now off.key off.cause
