-- Messages with no field that may be left out.
use Rattle.std.specs.Prelude.{ℕ, None}
use Rattle.rina_cdap.specs.declared.message.Message.{Message}

abbrev pub plain : ℕ → ℕ → Message
plain operation invoke = record { operation = operation; invoke = invoke; class = None; name = None; instance = None; value = None; result = None; reason = None; source_name = None; destination_name = None; destination_address = None; source_address = None }
