-- What a name refers to.
pub use Rattle.rina_table.specs.Names.{place_in}
