-- One piece behind the other.
use Rattle.std.proofs.Common.{◌++◌, sym, ap, ◌∙◌, append_assoc}
use Rattle.wire_bytes.specs.Breaks.{items_bytes}
use Rattle.wire_bytes.specs.ItemLaws.{items_bytes-append}
use Rattle.backup_rules.specs.Layout.{line_bytes, IsLine}
use Rattle.backup_index.proofs.ItemWrites.{each_append}
use Rattle.backup_index.proofs.index_writing.put_pieces.Goals as goal

pub returns-clause-ok : goal.returns-clause-ok
returns-clause-ok c =
    let lines = c.args.lines.now in
    let more = c.args.more.now in
    c.in_ok-put_lines-2.ensures.ok ∙ ap (λ bytes. bytes ++ items_bytes line_bytes more) c.in_ok-put_lines.ensures.ok
    ∙ append_assoc c.args.out.now.items (items_bytes line_bytes lines) (items_bytes line_bytes more)
    ∙ ap (λ bytes. c.args.out.now.items ++ bytes) (sym (items_bytes-append line_bytes lines more))

pub returns-clause-fits : goal.returns-clause-fits
returns-clause-fits c = each_append IsLine c.args.lines.now c.args.more.now c.in_ok-put_lines.ensures.fits c.in_ok-put_lines-2.ensures.fits
