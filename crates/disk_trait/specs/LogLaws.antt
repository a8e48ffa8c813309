-- Laws of specs/Log.
use Rattle.std.specs.Prelude.{◌≡◌, ℕ, ◌≤◌, List, [], ◌∷◌, take, Some}
use Rattle.std.proofs.Common.{refl, ap, ◌∙◌, arith}
use Rattle.std.specs.Coded.{×_prop, Unit-prop, le_prop, Coded-set, coded_option, coded_list, coded_ℕ}
use Rattle.std.proofs.Math.Seq.{take-length}
use Rattle.std.proofs.lemmas.List.{take_all}
use Rattle.disk_trait.specs.declared.log.Entry.{Entry}
use Rattle.disk_trait.specs.declared.log.Entry.TheVariants as E
use Rattle.disk_trait.specs.declared.log.Log.{Log}
use Rattle.disk_trait.specs.Files.{Files}
use Rattle.disk_trait.specs.Images.{FileSet, IsImage, MayLeave}
use Rattle.disk_trait.specs.Log.{AreKept, IsKept, IsWhole, log_calls, log_files, log_left, log_moment, log_uncertain}

IsKept-prop : (count : ℕ) (entry : Entry) → IsProp (IsKept count entry)
IsKept-prop count (E.Written file span) = le_prop
IsKept-prop count (E.Extended file span) = le_prop
IsKept-prop count (E.Removed file) = Unit-prop
IsKept-prop count (E.Missed file) = Unit-prop
IsKept-prop count E.Synced = Unit-prop

AreKept-prop : (count : ℕ) (entries : List Entry) → IsProp (AreKept count entries)
AreKept-prop count [] = Unit-prop
AreKept-prop count (entry ∷ later) = ×_prop (IsKept-prop count entry) (AreKept-prop count later)

pub IsWhole-prop : (log : Log) → IsProp (IsWhole log)
IsWhole-prop log = hlevel (AreKept-prop, le_prop, Coded-set (coded_option (coded_list coded_ℕ)))

image_is : (files : Files) (uncertain : FileSet) (image : Files) → MayLeave (Some files) uncertain image → IsImage files uncertain image
image_is files uncertain image may =
    let one : may.all ≡ files = cc (may.is) in
    record { each = λ asked out. may.image_of.each asked out ∙ ap (λ (x : Files). x asked) one }

pub log_counts : (log : Log) (t : ℕ) (image : Files) → t ≤ log_moment log → MayLeave (Some (log_files log)) (log_uncertain log) image → log_left log t image
log_counts log t image le may = record {
  at = log_moment log;
  from = le;
  within = omega arith;
  image_of = rw (take-length (log_calls log)) (image_is (log_files log) (log_uncertain log) image may);
}

pub log_only : (log : Log) (image : Files) → log_left log (log_moment log) image → MayLeave (Some (log_files log)) (log_uncertain log) image
log_only log image left =
    let last : take left.at (log_calls log) ≡ log_calls log = take_all left.at (log_calls log) left.from in
    record { all = log_files log; is = refl; image_of = rw last at left.image_of }
