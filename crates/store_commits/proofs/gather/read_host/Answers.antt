-- The partial is read behind the table.
use Rattle.std.proofs.Common.{inl}
use Rattle.store_commits.specs.GatherLaws.{fold_heeds}
use Rattle.store_commits.proofs.gather.read_host.Goals as goal

pub returns-in-Err-clause-kind : goal.returns-in-Err-clause-kind
returns-in-Err-clause-kind g c = inl c.in-Err.ensures.kind

pub returns-in-Err-clause-called : goal.returns-in-Err-clause-called
returns-in-Err-clause-called g c = fold_heeds _ c.args.lines.file c.args.head c.args.lines.dropped c.in-Err.refusal c.in-Err.ensures.kind
