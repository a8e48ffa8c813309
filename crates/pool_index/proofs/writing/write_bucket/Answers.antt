-- The header, the items, and the seal.
use Rattle.std.proofs.Common.{◌≡◌, ◌∙◌, ap, length, rules}
use Rattle.std.specs.Int.{w64}
use Rattle.wire_bytes.specs.Layout.{IsNumber}
use Rattle.wire_bytes.specs.Seal.{sealed}
use Rattle.pool_index.proofs.Laying.{laid, index_of_items}
use Rattle.pool_index.proofs.writing.write_bucket.Goals as goal

pub returns-clause-file : goal.returns-clause-file
returns-clause-file c =
    c.in_ok-file.ensures ∙ ap sealed
    (laid c.args.byte c.args.items.now _ _ _ _ _ c.new-out.ensures.items c.in_ok-put_bytes.ensures.ok c.in_ok-put_bytes-2.ensures.ok c.in_ok-put_u64.ensures.ok c.in_ok-put_items.ensures.ok)

pub returns-clause-are : goal.returns-clause-are
returns-clause-are c =
    let count : IsNumber w64 (length c.args.items.now) = search rules in
    index_of_items c.args.byte c.args.items.now c.requires.some count c.requires.rising c.requires.under c.requires.sized c.in_ok-put_items.ensures.range
