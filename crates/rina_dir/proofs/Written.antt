-- An address that is written in decimal is read back.
use Rattle.std.proofs.Common.{◌≡◌, ◌∙◌, ℕ, ◌-◌, ◌<◌, ◌^◌, List, Option, Some, option_and_then, ap, arith}
use Rattle.std.specs.Fmt.{decimal}
use Rattle.rina_base.specs.Decimals.{number_of}
use Rattle.rina_base.proofs.Decimals.{decimal_back}
use Rattle.rina_newest.specs.declared.item.Item.{Item}
use Rattle.rina_newest.specs.Newest.{value_at}
use Rattle.rina_dir.specs.Directory.{found, key_of}

pub written_found : (items : List Item) (app : List ℕ) (address : ℕ) → address < 2 ^ 32 → value_at items (key_of app) ≡ Some (decimal address) → found items app ≡ Some address
unfolding found
written_found items app address small at =
    ap (λ (value : Option (List ℕ)). option_and_then number_of value) at ∙ decimal_back (2 ^ 32 - 1) address (omega (arith, small)) (omega (arith, small))
