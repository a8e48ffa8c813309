use Rattle.std.proofs.Common.{◌≡◌, ◌<◌, Option, Some, true, sym, ap, ◌∙◌, arith, if◌then◌else◌}
use Rattle.disk_trait.specs.declared.ids.PoolId.{PoolId}
use Rattle.attr_tables.specs.declared.records.StoredFile.{StoredFile}
use Rattle.attr_tables.specs.declared.records.Record.{Record}
use Rattle.attr_tables.specs.declared.records.Record.TheVariants.{File}
use Rattle.attr_tables.specs.RecordLaws.{id_itself}
use Rattle.stored_trees.specs.Occurrences.{is_content}
use Rattle.pool_changes.specs.Slots.{Slots, is_given}
use Rattle.pool_changes.specs.Kept.{slots_of}
use Rattle.open_sessions.specs.SessionLaws.{node_occurrences}
use Rattle.store_dumps.specs.Claims.{Gains}
use Rattle.store_dumps.specs.ClaimLaws.{one_of, gains_alike}
use Rattle.store_dumps.proofs.claims.claim_node.Goals as goal

gained : (old new : Slots) (node : Record) (file : StoredFile) (id : PoolId) → node ≡ File file → file.content ≡ Some id
    → (is_given (old id) ≡ true → Gains (one_of id) old new)
    → ((other : PoolId) → 0 < node_occurrences other node → is_given (old other) ≡ true)
    → Gains (λ other. node_occurrences other node) old new
gained old new node file id is has gains given = gains_alike old new (one_of id) (λ other. node_occurrences other node) same
    (gains (given id some))
  where
    same : (other : PoolId) → one_of id other ≡ node_occurrences other node
    same other = sym (ap (node_occurrences other) is ∙ ap (λ (content : Option PoolId). if is_content other content then 1 else 0) has)

    some : 0 < node_occurrences id node
    some = let one : one_of id id ≡ 1 = ap (λ b. if b then 1 else 0) (id_itself id) in omega (arith, one, same id)

pub returns-in-Some-clause-gains : goal.returns-in-Some-clause-gains
returns-in-Some-clause-gains g c =
    gained (slots_of c.args.pool.now.names)
    (slots_of c.claim_id.new.pool.names) c.args.node.now c.in-File.file c.in-Some.id c.in-File.is c.in-Some.is
    c.claim_id.ensures.gains
