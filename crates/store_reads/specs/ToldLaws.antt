-- What is refused, and what is answered, whatever the files hold.
--     refused_reply      a refusal before rows were looked at
--     answer_reply      a refusal of what rows say
--     content_reply      a refusal of a content that rows call for
use Rattle.std.specs.Prelude.{ℕ, List, Option, Err}
use Rattle.std.proofs.Common.{inl, inr}
use Rattle.disk_trait.specs.declared.ids.FileId.{FileId}
use Rattle.disk_trait.specs.declared.disk.Disk.{Ghosts as DiskGhosts}
use Rattle.disk_trait.specs.Files.{Files}
use Rattle.pool_name.specs.declared.namer.Namer.{Ghosts as NamerGhosts}
use Rattle.merge_view.specs.Views.{Rows}
use Rattle.office_model.specs.declared.refusal.Refusal.{Refusal}
use Rattle.office_model.specs.declared.refusal.Refusal.TheVariants.{Broken, Halted, DiskFault, Damaged, Memory}
use Rattle.office_model.specs.Meaning.{Judged, Reply}
use Rattle.store_parts.specs.declared.parts.StoreParts.{StoreParts}
use Rattle.store_reads.specs.Shown.{Answers}
use Rattle.store_reads.specs.Told.{HasDamagedTable, IsBackupFault, IsReadReply, GivesBytes, GivesFile}

module _ (reads : Rows → Type 0) (damaged : FileId → Option (List ℕ) → Type 0) where
  pub answer_reply : {A : Type 0} (says : Rows → Reply → Type 0) (judged : Judged A) (refusal : Refusal)
      → Answers {A = A} judged (Err refusal) → IsReadReply reads damaged says (Err refusal)
  answer_reply says judged (Broken rule) answers = tt
  answer_reply says judged Memory answers = tt
  answer_reply says judged DiskFault answers = tt
  answer_reply says judged Halted answers = tt
  answer_reply says judged (Damaged file found) answers = absurd answers

  pub content_reply : (digest_of : List ℕ → List ℕ) (told : Option Files) (path : List ℕ) (rows : Rows) (refusal : Refusal) → reads rows
      → GivesBytes digest_of told path rows (Err refusal) → IsReadReply reads damaged (GivesFile digest_of told path) (Err refusal)
  content_reply digest_of told path rows (Damaged file found) is gives = inr (rows, is, gives)
  content_reply digest_of told path rows (Broken rule) is gives = tt
  content_reply digest_of told path rows Memory is gives = tt
  content_reply digest_of told path rows DiskFault is gives = tt
  content_reply digest_of told path rows Halted is gives = tt

module _ {D N S : Type 0} {d : DiskGhosts D} {n : NamerGhosts N S} where
  pub refused_reply : (parts : StoreParts D N S d n) (name : List ℕ) (number : ℕ) (reads : Rows → Type 0) (says : Rows → Reply → Type 0)
      (refusal : Refusal) → IsBackupFault parts name number refusal
      → IsReadReply reads (HasDamagedTable parts name number) says (Err refusal)
  refused_reply parts name number reads says (Damaged file found) fault = inl fault
  refused_reply parts name number reads says (Broken rule) fault = tt
  refused_reply parts name number reads says Memory fault = tt
  refused_reply parts name number reads says DiskFault fault = tt
  refused_reply parts name number reads says Halted fault = tt
