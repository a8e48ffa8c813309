-- A name is short enough to be counted in one byte; one name more.
use Rattle.std.proofs.Common.{◌++◌, ap, ◌∙◌}
use Rattle.std.specs.Int.{w8}
use Rattle.wire_bytes.specs.Layout.{text_bytes}
use Rattle.wire_bytes.specs.ItemLaws.{items_put_more}
use Rattle.attr_records.specs.Names.{is_host_name}
use Rattle.backup_index.specs.Names.{IsHostName}
use Rattle.backup_index.specs.NameLaws.{counted_name}
use Rattle.backup_index.proofs.ItemWrites.{one_fits}
use Rattle.backup_index.proofs.head_writing.put_names.Goals as goal

pub put_text8-requires : goal.put_text8-requires
put_text8-requires c = counted_name _ (ap is_host_name c.as_slice.ensures.value ∙ c.as_slice.ensures.valid)

pub loop-name-preserved : goal.loop-name-preserved
loop-name-preserved c = record {
  written = items_put_more (text_bytes w8) c.args.names.now c.loop-name.name-index c.name-item.result c.name-item.result _ _ _ c.loop-name-test.true c.name-item.is c.loop-name.invariant.written
      (c.in_ok-put_text8.ensures.ok ∙ ap (λ name. c.loop-name.out.items ++ text_bytes w8 name) c.as_slice.ensures.value);
  fits = one_fits IsHostName c.args.names.now c.loop-name.name-index c.name-item.result c.name-item.result c.loop-name-test.true c.name-item.is c.loop-name.invariant.fits c.as_slice.ensures.valid;
}
