-- `Memory` among the errors.
use Rattle.std.specs.Prelude.{Bool, true, false}
use Rattle.rina_cdap.specs.declared.error.CdapError.{CdapError}
use Rattle.rina_cdap.specs.declared.error.CdapError.TheVariants.{Memory}

abbrev pub is_memory : CdapError → Bool
is_memory Memory = true
is_memory e = false
