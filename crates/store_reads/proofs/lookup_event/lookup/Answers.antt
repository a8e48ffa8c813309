use Rattle.std.proofs.Common.{refl, sym, ap, ◌∙◌}
use Rattle.std.specs.Option.{option_copied}
use Rattle.backup_views.specs.Kept.{rows_of}
use Rattle.tree_frames.specs.declared.nodes.Node.{Node}
use Rattle.store_reads.specs.Shown.{node_told}
use Rattle.store_reads.specs.Told.{ReadsTree, HasDamagedTable, SaysNode}
use Rattle.store_reads.proofs.Answering.{not_failed}
use Rattle.store_reads.specs.ToldLaws.{refused_reply, answer_reply}
use Rattle.store_reads.proofs.Reading.{lookup_refused, lookup_ok, lookup_err}
use Rattle.store_reads.proofs.lookup_event.lookup.Goals as goal

pub returns-in-Err-clause-runs : goal.returns-in-Err-clause-runs
returns-in-Err-clause-runs g c =
    lookup_refused c.args.parts.now c.load_backup.new.parts c.args.host.now c.args.number c.args.path.now c.in-Err.ensures.reads
    c.in-Err.refusal c.in-Err.ensures.refusal c.in-Err.ensures.counted

pub returns-in-Ok-node_at-clause-runs : goal.returns-in-Ok-node_at-clause-runs
returns-in-Ok-node_at-clause-runs g c =
    lookup_ok c.args.parts.now c.load_backup.new.parts c.args.host.now c.args.number c.args.path.now c.in-Ok.ensures.reads _
    c.in-Ok.ensures.loaded _ c.find.ensures c.in-Ok-node_at.node c.in-Ok-node_at.ensures c.in-Ok.ensures.counted (not_failed _)

pub returns-in-Err-node_at-clause-runs : goal.returns-in-Err-node_at-clause-runs
returns-in-Err-node_at-clause-runs g c =
    lookup_err c.args.parts.now c.load_backup.new.parts c.args.host.now c.args.number c.args.path.now c.in-Ok.ensures.reads _
    c.in-Ok.ensures.loaded _ c.find.ensures c.in-Err-node_at.refusal c.in-Err-node_at.ensures c.in-Ok.ensures.counted (not_failed _)

pub returns-in-Err-clause-read : goal.returns-in-Err-clause-read
returns-in-Err-clause-read g c =
    refused_reply c.args.parts.now c.args.host.now c.args.number (ReadsTree c.args.parts.now c.args.host.now c.args.number)
    (SaysNode c.args.path.now) c.in-Err.refusal c.in-Err.ensures.damaged

pub returns-in-Ok-node_at-clause-read : goal.returns-in-Ok-node_at-clause-read
returns-in-Ok-node_at-clause-read g c = (
  rows_of c.load_backup.new.parts.views.kept,
  c.in-Ok.ensures.read,
  (c.in-Ok-node_at.node, ap node_told (sym c.find.ensures) ∙ c.in-Ok-node_at.ensures, refl),
)

pub returns-in-Err-node_at-clause-read : goal.returns-in-Err-node_at-clause-read
returns-in-Err-node_at-clause-read g c =
    answer_reply (ReadsTree c.args.parts.now c.args.host.now c.args.number) (HasDamagedTable c.args.parts.now c.args.host.now c.args.number)
    {A = Node} (SaysNode c.args.path.now) (node_told (option_copied c.find.result)) c.in-Err-node_at.refusal c.in-Err-node_at.ensures
