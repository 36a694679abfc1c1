-- What the members of a DIF tell over their links.
use Rattle.std.specs.Prelude.{◌≡◌, ℕ, List, slice_get, Some}
use Rattle.rina_member.specs.declared.management.Management.{Management}
use Rattle.rina_member.specs.Short.{TellsShort}

-- the messages of all members are short
abbrev pub TellShort : List Management → Type 0
TellShort managements = (k : ℕ) (g : Management) → slice_get managements k ≡ Some g → TellsShort g.agent
