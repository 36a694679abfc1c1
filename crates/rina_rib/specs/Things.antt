-- Objects.
use Rattle.std.specs.Prelude.{ℕ, Bool, true, false, List, codes, if◌then◌else◌}
use Rattle.rina_base.specs.declared.class.Class.{Class}
use Rattle.rina_rib.specs.declared.object.Object.{Object}
use Rattle.rina_base.specs.Classes.{is_service}

-- an object
pub record Thing : Type 0 where
  pub class : Class
  pub instance : ℕ
  pub value : List ℕ

abbrev pub thing : Class → ℕ → List ℕ → Thing
thing class instance value = record { class = class; instance = instance; value = value }

abbrev pub on_or_off : Bool → List ℕ
on_or_off true = codes "on"
on_or_off false = codes "off"

-- the value that an object shows: that of a service tells whether it runs
abbrev pub shown : Class → Bool → List ℕ → List ℕ
shown class on value = if is_service class then on_or_off on else value

-- the value of an object that was just made
abbrev pub made_value : Class → List ℕ → List ℕ
made_value class value = shown class false value

-- a service that was started or stopped
abbrev pub switched : Thing → Bool → Thing
switched t on = record t { value = shown t.class on t.value }

-- an object that is no service with another value
abbrev pub with_value : Thing → List ℕ → Thing
with_value t value = if is_service t.class then t else record t { value = value }

-- the object that is lent
abbrev pub thing_of : Object → Thing
thing_of o = thing o.class o.instance o.value.now
