-- What a call leaves alone at a rank.
use Rattle.std.specs.Prelude.{◌≡◌, ℕ, ◌≤◌, ◌⊎◌, Bool, true, List, [], length, slice_get, is_some, Some}
use Rattle.rina_base.specs.Names.{slash_in}
use Rattle.rina_iface.specs.declared.ends.End.{End}
use Rattle.rina_iface.specs.Journal.{At}
use Rattle.rina_iface.specs.Later.{AnswersOne, IsLater}
use Rattle.rina_iface.specs.Seen.{Fac, Seen}

-- an IPC process has this name: one with a slash
abbrev pub is_ipc : List ℕ → Bool
is_ipc name = is_some (slash_in name)

abbrev pub IsIpc : List ℕ → Type 0
IsIpc name = is_ipc name ≡ true

-- whoever it may be
abbrev pub Anyone : List ℕ → Type 0
Anyone name = Unit {0}

-- no end of these applications sent or passed anything, and a new end of one of them, or with one of them as its peer, is the far end of
-- a flow whose asker stood there
pub record LeavesEnds (who : List ℕ → Type 0) (old new : List End) : Type 0 where
  pub stays : (i : ℕ) (e e' : End) → At old i e → At new i e' → who e'.app → (e'.sent ≡ e.sent) × (e'.taken ≡ e.taken)
  pub fresh : (i : ℕ) (e' : End) → At new i e' → length old ≤ i → who e'.app ⊎ who e'.peer → AnswersOne old e'
  pub unsent : (i : ℕ) (e' : End) → At new i e' → length old ≤ i → who e'.app → (e'.sent ≡ []) × (e'.taken ≡ 0)

-- and so at each facility of a rank, whose journals are later
pub record Leaves (who : List ℕ → Type 0) (old new : Seen) : Type 0 where
  pub later : IsLater old new
  pub ends : (n : ℕ) (f f' : Fac) → slice_get old.facs n ≡ Some f → slice_get new.facs n ≡ Some f' → LeavesEnds who f.ends f'.ends

-- the same within a tick
pub record LeavesNow (who : List ℕ → Type 0) (old new : Seen) : Type 0 where
  pub leaves : Leaves who old new
  pub clock : new.now ≡ old.now
