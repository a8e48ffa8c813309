-- A name is short enough to be counted in one byte; the parts, one behind another.
use Rattle.std.proofs.Common.{[], ◌++◌, sym, ap, ◌∙◌}
use Rattle.std.specs.Int.{w8, w32}
use Rattle.wire_bytes.specs.Layout.{number_bytes, text_bytes}
use Rattle.wire_bytes.specs.Breaks.{items_bytes}
use Rattle.wire_bytes.specs.Seal.{sealed}
use Rattle.attr_records.specs.Names.{is_host_name}
use Rattle.backup_rules.specs.declared.layouts.RulesLayout.TheVariants as rules_in
use Rattle.backup_rules.specs.Layout.{rules_grammar, line_bytes}
use Rattle.backup_index.specs.declared.layouts.IndexLayout.TheVariants.{Third}
use Rattle.backup_index.specs.NameLaws.{counted_name}
use Rattle.backup_index.specs.Index.{index_magic}
use Rattle.backup_index.specs.Stored.{index_of_parts}
use Rattle.backup_index.proofs.IndexPrint.{receipts_bytes, numbers_bytes, index_print, seven}
use Rattle.backup_index.proofs.index_writing.write_host_index.Goals as goal

pub put_text8-requires : goal.put_text8-requires
put_text8-requires c = counted_name _ (ap is_host_name c.as_slice.ensures.value ∙ c.as_slice.ensures.valid)

pub returns-clause-file : goal.returns-clause-file
returns-clause-file c =
    let i = index_of_parts c.args.parts.now in
    let body = seven [] c.put_bytes.new.out.items c.put_u32.new.out.items c.put_text8.new.out.items c.put_rules.new.out.items c.put_receipts.new.out.items c.put_numbers.new.out.items c.put_pieces.new.out.items
    (index_magic Third) (number_bytes w32 i.host) (text_bytes w8 i.name) ((rules_grammar rules_in.Second).print i.rules) (receipts_bytes i) (numbers_bytes i) (items_bytes line_bytes i.lines)
    (c.in_ok-put_bytes.ensures.ok ∙ ap (λ l. l ++ index_magic Third) c.new-body.ensures.items) c.in_ok-put_u32.ensures.ok
    (c.in_ok-put_text8.ensures.ok ∙ ap (λ name. c.put_u32.new.out.items ++ text_bytes w8 name) c.as_slice.ensures.value)
    c.in_ok-put_rules.ensures.ok c.in_ok-put_receipts.ensures.ok c.in_ok-put_numbers.ensures.ok c.in_ok-put_pieces.ensures.ok in
    c.from_vec.ensures ∙ c.in_ok-seal.ensures ∙ ap sealed (body ∙ sym (index_print i))
