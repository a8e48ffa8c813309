-- The header, the items, and the seal.
use Rattle.std.proofs.Common.{◌∙◌, ap, sym, subst, length, rules}
use Rattle.std.specs.Int.{w64}
use Rattle.wire_bytes.specs.Layout.{IsNumber}
use Rattle.wire_bytes.specs.Seal.{sealed}
use Rattle.ref_counts.specs.Numbers.{Items, AreCounts}
use Rattle.ref_counts.specs.Layout.{IsCounts}
use Rattle.ref_counts.specs.CountsFile.{counts_file, fits_counts}
use Rattle.ref_counts.proofs.Laying.{laid}
use Rattle.ref_counts.proofs.writing.write_counts.Goals as goal

pub returns-clause-file : goal.returns-clause-file
returns-clause-file c =
    c.in_ok-file.ensures
    ∙ ap sealed (laid c.args.host c.items-all.result.now _ _ _ _ _ c.new-out.ensures.items c.in_ok-put_bytes.ensures.ok c.in_ok-put_u32.ensures.ok
    c.in_ok-put_u64.ensures.ok c.in_ok-put_items.ensures.ok)
    ∙ ap (counts_file c.args.host) c.items-all.ensures.items

pub returns-clause-are : goal.returns-clause-are
returns-clause-are c =
    let count : IsNumber w64 (length c.items-all.result.now) = search rules in
    subst (λ (items : Items). IsCounts items) c.items-all.ensures.items
    (fits_counts c.items-all.result.now (subst (λ (items : Items). AreCounts items) (sym c.items-all.ensures.items) c.items-all.ensures.are) count c.in_ok-put_items.ensures.range)
