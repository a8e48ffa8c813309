use Rattle.std.proofs.Common.{subst}
use Rattle.pool_index.specs.Index.{Index}
use Rattle.pool_changes.specs.Kept.{slots_of}
use Rattle.pool_changes.specs.Listed.{item_of, index_of}
use Rattle.pool_changes.specs.Written.{LeadsIndex}
use Rattle.pool_changes.proofs.writing.write_index.Goals as goal

pub returns : goal.returns
returns c =
    subst (λ (index : Index). LeadsIndex c.args.in_one_file (index_of (slots_of c.args.names.now)) index c.in_ok-changes.changes)
    (λ i id. item_of id (c.in_ok-over.ensures.changed id i)) c.in_ok-changes.ensures
