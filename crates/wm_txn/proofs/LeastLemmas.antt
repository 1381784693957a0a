-- The lesser of two windows, where there are any.
use Rattle.std.proofs.Common.{Option, Some, None}
use Rattle.wm_base.specs.declared.ids.ConId.{ConId}
use Rattle.wm_txn.specs.Commits.{lesser}

abbrev pub least_of : Option ConId → Option ConId → Option ConId
least_of None other = other
least_of (Some v) other = lesser v other
