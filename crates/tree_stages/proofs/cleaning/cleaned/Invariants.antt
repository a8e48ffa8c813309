use Rattle.std.proofs.Common.{◌≡◌}
use Rattle.office_model.specs.Pool.{byte_cmp, cleaned}
use Rattle.office_model.specs.events.Clean.{is_protected, in_bucket}
use Rattle.tree_parts.specs.CopyLaws.{refilled}
use Rattle.tree_stages.proofs.cleaning.cleaned.Given as goal

-- what was kept, and what is still to be cleaned
abbrev pub invariant-loop-content : goal.invariant-loop-content
invariant-loop-content g l = refilled byte_cmp l.new.entries (cleaned (in_bucket g.N.Namer.digest_of l.bucket) (is_protected l.hosts l.dumps l.restores l.readers) l.content-iterator)
    ≡ cleaned (in_bucket g.N.Namer.digest_of l.bucket) (is_protected l.hosts l.dumps l.restores l.readers) l.pool.entries
