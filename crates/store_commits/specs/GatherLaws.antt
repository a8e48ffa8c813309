-- A fault of reading the former newest's table or the host's partial, or of counting.
--     read_gathers, counts_gather      it is one of gathering
--     parked_reads      a fault of the second reading is one of both
--     fold_heeds, parked_heeds, both_there      what is said of the files that are called for
--     parked_before      what was read of the partial, by what the files told before
use Rattle.std.specs.Prelude.{◌≡◌, ℕ, List, Option, Some, None, slice_get}
use Rattle.std.proofs.Common.{refl, sym, ap, ◌∙◌, subst, inl, inr}
use Rattle.disk_trait.specs.declared.ids.FileId.{FileId}
use Rattle.disk_trait.specs.declared.ids.FileId.TheVariants.{Partial as PartialOf}
use Rattle.disk_trait.specs.Files.{Files}
use Rattle.backup_rules.specs.declared.lines.Line.{Line}
use Rattle.backup_views.specs.Stored.{IsTableFile}
use Rattle.merge_view.specs.Views.{Rows}
use Rattle.ref_counts.specs.Numbers.{Items}
use Rattle.partial_files.specs.declared.partial.PartialFile.{PartialFile}
use Rattle.host_partials.specs.declared.held.PartialHead.{PartialHead}
use Rattle.host_partials.specs.Held.{HasPartial}
use Rattle.office_model.specs.declared.refusal.Refusal.{Refusal}
use Rattle.office_model.specs.declared.refusal.Refusal.TheVariants as R
use Rattle.store_parts.specs.Parked.{HoldsNone, IsParkedFault}
use Rattle.store_commits.specs.declared.former.Folding.{Folding}
use Rattle.store_commits.specs.Former.{IsFolded, IsFoldFaultOf}
use Rattle.store_commits.specs.Parked.{AreParked}
use Rattle.store_commits.specs.Planned.{IsReadFault, IsGatherFault}
use Rattle.store_commits.specs.Tables.{AreThere, IsHeededBy, IsTableOf, IsKnownOf}

module _ (told : Option Files) (counts : List Items) (place host : ℕ) where
  fold_gathers : (head : Option PartialHead) (dropped : Option Line) (refusal : Refusal) → IsFoldFaultOf told host dropped refusal
      → IsGatherFault told counts place host head dropped refusal
  fold_gathers head None refusal fault all e is = absurd fault
  fold_gathers head (Some line) R.DiskFault fault all e is = inl refl
  fold_gathers head (Some line) R.Memory fault all e is = inr refl
  fold_gathers head (Some line) (R.Damaged file found) fault all e is =
      let w = is.table line refl in
      absurd (fault.1.none w.0 (subst (IsTableFile w.0) (sym (fault.1.there all e ∙ ap all fault.0)) w.1))
  fold_gathers head (Some line) (R.Broken rule) fault all e is = absurd fault
  fold_gathers head (Some line) R.Halted fault all e is = absurd fault

  parked_gathers : (head : Option PartialHead) (dropped : Option Line) (refusal : Refusal) → IsParkedFault told head host refusal
      → IsGatherFault told counts place host head dropped refusal
  parked_gathers None dropped refusal fault all e is = absurd fault
  parked_gathers (Some head) dropped R.DiskFault fault all e is = inl refl
  parked_gathers (Some head) dropped R.Memory fault all e is = inr refl
  parked_gathers (Some head) dropped (R.Damaged file found) fault all e is =
      let w = is.parked head refl in
      absurd (subst (HoldsNone host) (fault.is all e ∙ ap all fault.is_file ∙ w.1.1) fault.none w.0 w.1.0 refl)
  parked_gathers (Some head) dropped (R.Broken rule) fault all e is = absurd fault
  parked_gathers (Some head) dropped R.Halted fault all e is = absurd fault

  pub read_gathers : (head : Option PartialHead) (dropped : Option Line) (refusal : Refusal) → IsReadFault told host head dropped refusal
      → IsGatherFault told counts place host head dropped refusal
  read_gathers head dropped refusal (inl fault) = fold_gathers head dropped refusal fault
  read_gathers head dropped refusal (inr fault) = parked_gathers head dropped refusal fault

  -- the host's counts aren't in memory
  pub counts_gather : (head : Option PartialHead) (dropped : Option Line) (refusal : Refusal) → None ≡ slice_get counts place
      → IsGatherFault told counts place host head dropped refusal
  counts_gather head dropped refusal none all e is = absurd (apart (none ∙ is.has))
    where
      apart : None ≡ Some is.items → ⊥
      apart e = cc

module _ (told : Option Files) (host : ℕ) (head : Option PartialHead) (dropped : Option Line) where
  pub fold_heeds : (refusal : Refusal) → IsFoldFaultOf told host dropped refusal
      → IsHeededBy told (IsTableOf host dropped) (IsKnownOf host head) refusal
  fold_heeds = step dropped
    where
      step : (dropped : Option Line) (refusal : Refusal) → IsFoldFaultOf told host dropped refusal
          → IsHeededBy told (IsTableOf host dropped) (IsKnownOf host head) refusal
      step None refusal fault = absurd fault
      step (Some line) R.DiskFault fault = tt
      step (Some line) R.Memory fault = tt
      step (Some line) (R.Damaged file found) fault = inl fault
      step (Some line) (R.Broken rule) fault = absurd fault
      step (Some line) R.Halted fault = absurd fault

  -- read behind the table, so that the files tell the same
  pub parked_reads : (before : Option Files) → told ≡ before → (refusal : Refusal) → IsParkedFault told head host refusal
      → IsReadFault before host head dropped refusal
  parked_reads before same refusal fault = inr (subst (λ (t : Option Files). IsParkedFault t head host refusal) same fault)

  pub parked_before : (before : Option Files) → told ≡ before → (rows : Option Rows) → AreParked told head host rows
      → AreParked before head host rows
  parked_before before same rows are = subst (λ (t : Option Files). AreParked t head host rows) same are

  pub parked_heeds : (before : Option Files) → told ≡ before → (refusal : Refusal) → IsParkedFault told head host refusal
      → IsHeededBy before (IsTableOf host dropped) (IsKnownOf host head) refusal
  parked_heeds before same refusal fault =
      step head refusal (subst (λ (t : Option Files). IsParkedFault t head host refusal) same fault)
    where
      step : (head : Option PartialHead) (refusal : Refusal) → IsParkedFault before head host refusal
          → IsHeededBy before (IsTableOf host dropped) (IsKnownOf host head) refusal
      step None refusal fault = absurd fault
      step (Some head) R.DiskFault fault = tt
      step (Some head) R.Memory fault = tt
      step (Some head) (R.Damaged file found) fault = inr (host, refl, fault)
      step (Some head) (R.Broken rule) fault = absurd fault
      step (Some head) R.Halted fault = absurd fault

  folded_there : (dropped : Option Line) (rows : Rows) (folding : Option Folding) → IsFolded told host dropped rows folding
      → (all : Files) (file : FileId) → told ≡ Some all → IsTableOf host dropped file → (rows : Rows) × IsTableFile rows (all file)
  folded_there None rows folding folded all file e is = absurd is
  folded_there (Some line) rows None folded all file e is = absurd folded
  folded_there (Some line) rows (Some folding) folded all file e is =
      (folding.rows, subst (λ (f : FileId). IsTableFile folding.rows (all f)) (sym is) (folded.there all e))

  partial_there : (head : Option PartialHead) (rows : Option Rows) → AreParked told head host rows
      → (all : Files) (other : ℕ) → told ≡ Some all → IsKnownOf host head other
      → (file : PartialFile) × HasPartial other (Some file) (all (PartialOf other))
  partial_there None rows are all other e is = absurd is
  partial_there (Some head) None are all other e is = absurd are
  partial_there (Some head) (Some rows) are all other e is =
      (are.file, subst (λ (h : ℕ). HasPartial h (Some are.file) (all (PartialOf h))) (sym is) (are.there all e))

  pub both_there : (rows : Rows) (folding : Option Folding) (parked : Option Rows) → IsFolded told host dropped rows folding
      → AreParked told head host parked → AreThere told (IsTableOf host dropped) (IsKnownOf host head)
  both_there rows folding parked folded are = record {
    tables = folded_there dropped rows folding folded;
    partial = partial_there head parked are;
  }
