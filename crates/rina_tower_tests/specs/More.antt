-- When one flow more may be made at a DIF of the top rank.
use Rattle.rina_iface.specs.declared.ask.Fixed.{Fixed}
use Rattle.rina_tower.specs.declared.tower.Tower.{Tower, Wires, Rank'}
use Rattle.rina_tower.specs.Calls.{MayBind}

-- the top rank is one of DIFs, and that of the flow may make it
abbrev pub MayBindAtTop : Tower → Fixed → Type 0
MayBindAtTop (Wires a) fixed = ⊥
MayBindAtTop (Rank' p difs below) fixed = MayBind difs fixed
