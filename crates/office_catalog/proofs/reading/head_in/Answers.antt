use Rattle.std.proofs.Common.{refl, inr, ap}
use Rattle.backup_index.specs.Faults.{offset_of}
use Rattle.office_catalog.proofs.Opens.{head_read, no_head}
use Rattle.office_catalog.proofs.reading.head_in.Goals as goal

pub returns-in-Ok : goal.returns-in-Ok
returns-in-Ok c = record { ok = head_read c.in-Ok.head c.args.bytes _ c.as_slice.ensures c.in-Ok.ensures.found; err = tt }

pub returns-in-Err-BadIndex : goal.returns-in-Err-BadIndex
returns-in-Err-BadIndex c = record {
  ok = tt;
  err = inr (
    refl,
    no_head c.args.bytes _ c.in-Err-BadIndex.field-0-0 (offset_of c.in-Err-BadIndex.field-0) c.as_slice.ensures (ap offset_of c.in-Err-BadIndex.field-0-is) c.in-Err-BadIndex.ensures.back,
  );
}
