-- The number, and the bytes of so many ids.
use Rattle.std.proofs.Common.{◌≡◌, ℕ, ◌*◌, ◌/◌, ◌++◌, List, length, Some, refl, ap, sym, subst, ◌∙◌, append_assoc, arith}
use Rattle.std.specs.Simd.{first_chunks}
use Rattle.wire_bytes.specs.Breaks.{items_bytes}
use Rattle.wire_bytes.specs.Layout.{number_bytes}
use Rattle.std.specs.Int.{w32}
use Rattle.wire_bytes.specs.Grammar.{field}
use Rattle.wire_bytes.specs.GrammarReading.{Finds}
use Rattle.wire_bytes.specs.GrammarLaws.{none_refuses, field_finds}
use Rattle.certificates.specs.Layout.{one_id_bytes, AreIds, ids_bytes}
use Rattle.certificates.specs.ChunkLaws.{length_all}
use Rattle.certificates.proofs.Ids.{ids_found}
use Rattle.certificates.proofs.tables.read_ids.Goals as goal

pub returns-in-Err : goal.returns-in-Err
returns-in-Err c = none_refuses ids_bytes
    (λ value rest fits e. c.in-Err.ensures.field.reads.back (length value) (items_bytes one_id_bytes value ++ rest) fits.count
    (e ∙ append_assoc (number_bytes w32 (length value)) (items_bytes one_id_bytes value) rest))
    (ap Some c.offset-start.ensures.value)

pub returns-in-Err-read_bytes : goal.returns-in-Err-read_bytes
returns-in-Err-read_bytes c = none_refuses ids_bytes
    (λ value rest fits e.
    let front = c.in-Ok.ensures.field.reads.back (length value) (items_bytes one_id_bytes value ++ rest) fits.count
    (e ∙ append_assoc (number_bytes w32 (length value)) (items_bytes one_id_bytes value) rest) in
    c.in-Err-read_bytes.ensures.field.reads.back (items_bytes one_id_bytes value) rest
    (length_all one_id_bytes 18 value fits.each ∙ ap (λ (k : ℕ). k * 18) (sym front.0)) front.1)
    (ap Some c.offset-start.ensures.value)

pub returns-in-Ok-read_bytes : goal.returns-in-Ok-read_bytes
returns-in-Ok-read_bytes c =
    let len : length c.in-Ok-read_bytes.bytes.now ≡ c.in-Ok.count * 18 = c.in-Ok-read_bytes.ensures.len in
    let many : length c.in-Ok-read_bytes.bytes.now / 18 ≡ c.in-Ok.count = omega (arith, len) in
    let is : first_chunks 18 c.in-Ok.count c.in-Ok-read_bytes.bytes.now ≡ c.as_chunks.result.0.now =
    ap (λ (k : ℕ). first_chunks 18 k c.in-Ok-read_bytes.bytes.now) (sym many) ∙ sym c.as_chunks.ensures.front in
    let found = ids_found _ _ _ c.in-Ok.count c.in-Ok-read_bytes.bytes.now (field_finds c.in-Ok.ensures.field.reads) (field_finds c.in-Ok-read_bytes.ensures.field.reads) in
    record { value = c.as_chunks.result.0.now; tells = refl; finds = subst (λ (ids : List (List ℕ)). Finds (field AreIds ids_bytes) c.args.reader.now ids c.read_bytes.new.self) is found }
