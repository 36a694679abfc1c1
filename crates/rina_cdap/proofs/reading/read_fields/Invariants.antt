-- The fields that were read are a row, and the bytes are theirs and those that are left.
use Rattle.std.proofs.Common.{length}
use Rattle.rina_cdap.proofs.Drafts.{Kept}
use Rattle.rina_cdap.proofs.reading.read_fields.Given as goal

abbrev pub invariant-fields : goal.invariant-fields
invariant-fields l = Kept l.draft l.bytes l.rest l.last

abbrev pub decreases-fields : goal.decreases-fields
decreases-fields l = length l.rest
