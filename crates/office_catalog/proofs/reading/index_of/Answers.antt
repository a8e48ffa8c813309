use Rattle.std.proofs.Common.{refl, inl, inr, ap}
use Rattle.backup_index.specs.Faults.{offset_of}
use Rattle.office_catalog.proofs.Opens.{index_read, no_index, if_called_ok, if_called_err}
use Rattle.office_catalog.proofs.reading.index_of.Goals as goal

pub returns-in-Ok : goal.returns-in-Ok
returns-in-Ok c =
    let holds = index_read c.in-Ok.stored c.args.bytes _ c.as_slice.ensures c.in-Ok.ensures.found in
    record {
      ok = if_called_ok c.args.host c.args.name.now c.args.bytes c.in-Ok.stored.1 c.if_called.result holds c.if_called.ensures.ok;
      err = if_called_err c.args.host c.args.name.now c.args.bytes c.in-Ok.stored.1 c.if_called.result holds c.if_called.ensures.err;
    }

pub returns-in-Err-BadIndex : goal.returns-in-Err-BadIndex
returns-in-Err-BadIndex c = record {
  ok = tt;
  err = inr (
    refl,
    inr (inl (no_index c.args.bytes _ c.in-Err-BadIndex.field-0-0 (offset_of c.in-Err-BadIndex.field-0) c.as_slice.ensures (ap offset_of c.in-Err-BadIndex.field-0-is) c.in-Err-BadIndex.ensures.back)),
  );
}
