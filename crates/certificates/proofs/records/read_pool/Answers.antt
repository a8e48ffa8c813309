-- A further one, where there is none, and all of them.
use Rattle.std.proofs.Common.{◌≡◌, [], ◌∷◌, ◌++◌, Some, refl, ap, sym, subst, ◌∙◌}
use Rattle.wire_bytes.specs.Reading.{Reading, Passes}
use Rattle.wire_bytes.specs.Breaks.{items_bytes}
use Rattle.wire_bytes.specs.Grammar.{items_of}
use Rattle.wire_bytes.specs.GrammarLaws.{field_finds, field_refuses, then_finds, then_refuses, first_refuses, seen_finds, seen_refuses}
use Rattle.wire_bytes.specs.ItemLaws.{items_read_none, items_read_more, items_refuse, items_find}
use Rattle.certificates.specs.Layout.{IsNextFile, file_bytes}
use Rattle.certificates.specs.SizeLaws.{cut_files}
use Rattle.certificates.proofs.Next.{last_key-snoc}
use Rattle.certificates.proofs.records.read_pool.Goals as goal

pub returns-in-Err : goal.returns-in-Err
returns-in-Err c = seen_refuses _ (first_refuses (items_of IsNextFile file_bytes) (field_refuses c.in-Err.ensures.field.reads c.in-Err.ensures.here))

pub loop-i-init : goal.loop-i-init
loop-i-init c = record { items = []; last = refl; read = items_read_none }

pub returns-in-Err-read_next_file : goal.returns-in-Err-read_next_file
returns-in-Err-read_next_file c = seen_refuses _ (then_refuses (items_of IsNextFile file_bytes) (field_finds c.in-Ok.ensures.field.reads)
    (items_refuse c.loop-i-test.true c.loop-i.invariant.read (c.in-Err-read_next_file.ensures _ c.loop-i.invariant.last)))

pub loop-i-preserved : goal.loop-i-preserved
loop-i-preserved c = record {
  items = c.loop-i.invariant.items ++ (c.in-Ok-read_next_file.ensures _ c.loop-i.invariant.last).value ∷ [];
  last = ap Some ((c.in-Ok-read_next_file.ensures _ c.loop-i.invariant.last).tells) ∙ sym (last_key-snoc (λ file. file.id) c.loop-i.invariant.items (c.in-Ok-read_next_file.ensures _ c.loop-i.invariant.last).value);
  read = items_read_more c.loop-i-test.true c.loop-i.invariant.read (c.in-Ok-read_next_file.ensures _ c.loop-i.invariant.last).finds;
}

pub returns : goal.returns
returns c =
    let read = c.loop-i.invariant.read in
    let bytes : c.passed.result.now ≡ items_bytes file_bytes c.loop-i.invariant.items =
    c.passed.ensures (items_bytes file_bytes c.loop-i.invariant.items)
    (subst (λ (r : Reading). Passes r c.loop-i.reader (items_bytes file_bytes c.loop-i.invariant.items)) (sym c.copy-start.ensures) read.passed) in
    record {
      value = c.loop-i.invariant.items;
      tells = c.as_chunks.ensures.front ∙ cut_files c.loop-i.invariant.items c.passed.result.now read.are bytes;
      finds = seen_finds _ (then_finds (items_of IsNextFile file_bytes) (field_finds c.in-Ok.ensures.field.reads) (items_find c.loop-i-test.false c.loop-i.auto._i-end read));
    }
