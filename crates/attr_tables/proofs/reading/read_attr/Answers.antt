-- Five fields, one after the other, are the attributes.
use Rattle.std.proofs.Common.{◌≡◌, ℕ, ℤ, ◌≤◌, List, ◌++◌, Ok, FitsSigned, sym, ap, ◌∙◌, subst, append_assoc}
use Rattle.std.specs.Int.{w32, w64}
use Rattle.std.proofs.lemmas.Int.{to_z-of_z}
use Rattle.wire_bytes.specs.Reading.{Reading, left, Passes}
use Rattle.wire_bytes.specs.ReadingLaws.{passes_both}
use Rattle.wire_bytes.specs.Layout.{number_bytes, signed_bytes, IsNumber}
use Rattle.wire_bytes.specs.Kind.{Reads}
use Rattle.wire_bytes.specs.declared.fault.FieldFault.{FieldFault}
use Rattle.attr_records.specs.Attributes.{Attributes}
use Rattle.attr_tables.specs.declared.layouts.TableLayout.{TableLayout}
use Rattle.attr_tables.specs.Layout.{nanos_bytes, attr_bytes, IsNanos, IsAttr}
use Rattle.attr_tables.proofs.reading.read_attr.Goals as goal

module _ (layout : TableLayout) (old a b c d new : Reading) (mode uid gid : ℕ) (mtime : ℤ) (nanos : ℕ)
    (modes : Reads {E = FieldFault} (λ n. n) (λ n. n ≤ 4095) (number_bytes w32) old (Ok mode) a)
    (uids : Reads {E = FieldFault} (λ n. n) (IsNumber w32) (number_bytes w32) a (Ok uid) b)
    (gids : Reads {E = FieldFault} (λ n. n) (IsNumber w32) (number_bytes w32) b (Ok gid) c)
    (mtimes : Reads {E = FieldFault} (λ z. z) (FitsSigned w64) (signed_bytes w64) c (Ok mtime) d)
    (nanoses : Reads {E = FieldFault} (λ n. n) (IsNanos layout) (nanos_bytes layout) d (Ok nanos) new) where
  made : Attributes
  made = record { mode = mode; uid = uid; gid = gid; mtime = mtime; nanos = nanos }

  passed : Passes old new (attr_bytes layout made)
  unfolding made attr_bytes
  passed =
      passes_both old a new _ _ modes.found.1 (passes_both a b new _ _ uids.found.1 (passes_both b c new _ _ gids.found.1
      (passes_both c d new _ _ mtimes.found.1 nanoses.found.1)))

  back : (w : Attributes) (more : List ℕ) → IsAttr layout w → left old ≡ attr_bytes layout w ++ more → (made ≡ w) × (left new ≡ more)
  unfolding made attr_bytes
  back w more fits is =
      let tail : List ℕ = signed_bytes w64 w.mtime ++ nanos_bytes layout w.nanos in
      let after_mode = modes.back w.mode ((number_bytes w32 w.uid ++ (number_bytes w32 w.gid ++ tail)) ++ more) fits.mode
      (is ∙ append_assoc (number_bytes w32 w.mode) _ more) in
      let after_uid = uids.back w.uid ((number_bytes w32 w.gid ++ tail) ++ more) fits.uid
      (after_mode.1 ∙ append_assoc (number_bytes w32 w.uid) _ more) in
      let after_gid = gids.back w.gid (tail ++ more) fits.gid (after_uid.1 ∙ append_assoc (number_bytes w32 w.gid) _ more) in
      let after_mtime = mtimes.back w.mtime (nanos_bytes layout w.nanos ++ more) fits.mtime
      (after_gid.1 ∙ append_assoc (signed_bytes w64 w.mtime) _ more) in
      let after_nanos = nanoses.back w.nanos more fits.nanos after_mtime.1 in (
        (λ i. record { mode = after_mode.0 i; uid = after_uid.0 i; gid = after_gid.0 i; mtime = after_mtime.0 i; nanos = after_nanos.0 i }),
        after_nanos.1,
      )

  read : (given : Attributes) → given ≡ record { mode = mode; uid = uid; gid = gid; mtime = mtime; nanos = nanos }
      → Reads {E = FieldFault} (λ attr. attr) (IsAttr layout) (attr_bytes layout) old (Ok given) new
  unfolding made
  read given is =
      let whole : Reads {E = FieldFault} (λ attr. attr) (IsAttr layout) (attr_bytes layout) old (Ok made) new =
      record {
        found = (
          record {
            mode = modes.found.0;
            uid = uids.found.0;
            gid = gids.found.0;
            mtime = mtimes.found.0;
            nanos =
                nanoses.found.0;
          },
          passed,
        );
        back = back;
      } in
      subst (λ attr. Reads {E = FieldFault} (λ attr. attr) (IsAttr layout) (attr_bytes layout) old (Ok attr) new) (sym is) whole

pub returns : goal.returns
returns c =
    read _ _ _ _ _ _ _ _ _ _ _ _ c.in_ok-mode.ensures c.in_ok-uid.ensures.field.reads c.in_ok-gid.ensures.field.reads
    c.in_ok-mtime.ensures.field.reads c.in_ok-nanos.ensures _
    (c.new.ensures ∙ ap (λ z. record {
      mode = c.in_ok-mode.mode;
      uid = c.in_ok-uid.uid;
      gid = c.in_ok-gid.gid;
      mtime = z;
      nanos =
          c.in_ok-nanos.nanos;
    })
    (to_z-of_z w64 c.in_ok-mtime.mtime c.in_ok-mtime.ensures.field.reads.found.0))
