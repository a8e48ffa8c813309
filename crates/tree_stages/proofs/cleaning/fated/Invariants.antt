use Rattle.std.proofs.Common.{◌≡◌, ◌+◌, ◌<◌, ◌^◌}
use Rattle.office_model.specs.Pool.{fated}
use Rattle.office_model.specs.events.Clean.{is_protected, in_bucket}
use Rattle.tree_stages.proofs.cleaning.fated.Given as goal

-- those counted, and those still to be; they have room
abbrev pub invariant-loop-content : goal.invariant-loop-content
invariant-loop-content g l =
    (l.count + fated (in_bucket g.N.Namer.digest_of l.bucket) (is_protected l.hosts l.dumps l.restores l.readers) l.wanted l.content-iterator
    ≡ fated (in_bucket g.N.Namer.digest_of l.bucket) (is_protected l.hosts l.dumps l.restores l.readers) l.wanted l.pool.entries)
    × (fated (in_bucket g.N.Namer.digest_of l.bucket) (is_protected l.hosts l.dumps l.restores l.readers) l.wanted l.pool.entries < 2 ^ 64)
