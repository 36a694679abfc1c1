-- Names, and what a name refers to.
use Rattle.std.specs.Prelude.{ℕ, List, Option, Some, None, if◌then◌else◌, option_map, position}
use Rattle.std.specs.Str.{bytes_eq}
use Rattle.std.specs.Result.{result_ok}
use Rattle.std.specs.Prelude.{codes}
use Rattle.rina_access.specs.declared.rules.Subject.{Subject}
use Rattle.rina_access.specs.declared.rules.Subject.TheVariants.{All, App}
use Rattle.rina_base.specs.Names.{name_at, app_at}
use Rattle.rina_plan.specs.declared.dif.Lower.{Lower}
use Rattle.rina_plan.specs.declared.dif.Lower.TheVariants.{Wire, Dif}

-- the place of a text
abbrev pub place_in : List (List ℕ) → List ℕ → Option ℕ
place_in ts t = position (λ u. bytes_eq u t) ts

-- the name that a text is
abbrev pub as_name : List ℕ → Option (List ℕ)
as_name text = result_ok (name_at text)

-- the subject of an access rule: everyone, or an application or IPC process
unfoldable pub as_subject : List ℕ → Option Subject
as_subject text = if bytes_eq text (codes "*") then Some All else option_map App (result_ok (app_at text))

abbrev pub lower_or : Option ℕ → Option ℕ → Option Lower
lower_or (Some i) _ = Some (Wire i)
lower_or None j = option_map Dif j

-- the wire or the DIF of that name
unfoldable pub lower_named : List (List ℕ) → List (List ℕ) → List ℕ → Option Lower
lower_named wires difs t = lower_or (place_in wires t) (place_in difs t)
