-- Any other error than `Memory` tells that there is no message, or that a message has no bytes.
use Rattle.std.proofs.Common.{◌≡◌, ℕ, false, List, Ok, Err}
use Rattle.rina_cdap.specs.declared.error.CdapError.{CdapError}
use Rattle.rina_cdap.specs.declared.error.CdapError.TheVariants.{Memory, Short, BadTag, BadOp, Twice, Missing, BadValue}
use Rattle.rina_cdap.specs.declared.message.Message.{Message}
use Rattle.rina_cdap.specs.Faults.{is_memory}
use Rattle.rina_cdap.specs.Reading.{Gives}
use Rattle.rina_cdap.specs.Writing.{Makes}

pub no_message : (e : CdapError) (m : Message) → is_memory e ≡ false → Gives {X = Message} (Err e) (Ok m) → ⊥
no_message Memory m other h = absurd cc
no_message (Short at) m other h = absurd cc
no_message (BadTag at) m other h = absurd cc
no_message (BadOp n) m other h = absurd cc
no_message (Twice tag) m other h = absurd cc
no_message (Missing tag) m other h = absurd cc
no_message (BadValue tag) m other h = absurd cc

pub no_bytes : (e : CdapError) (bytes : List ℕ) → is_memory e ≡ false → Makes (Err e) (Ok bytes) → ⊥
no_bytes Memory bytes other h = absurd cc
no_bytes (Short at) bytes other h = absurd cc
no_bytes (BadTag at) bytes other h = absurd cc
no_bytes (BadOp n) bytes other h = absurd cc
no_bytes (Twice tag) bytes other h = absurd cc
no_bytes (Missing tag) bytes other h = absurd cc
no_bytes (BadValue tag) bytes other h = absurd cc
