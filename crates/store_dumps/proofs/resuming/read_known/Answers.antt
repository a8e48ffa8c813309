use Rattle.std.proofs.Common.{◌≡◌, ℕ, Option, Some, subst}
use Rattle.disk_trait.specs.declared.ids.FileId.TheVariants.{Partial as PartialOf}
use Rattle.disk_trait.specs.Files.{Files}
use Rattle.journal_view.specs.View.{told}
use Rattle.partial_files.specs.declared.partial.PartialFile.{PartialFile}
use Rattle.host_partials.specs.declared.held.PartialHead.{PartialHead}
use Rattle.store_parts.specs.Parked.{IsParkedAs}
use Rattle.store_dumps.specs.Resuming.{TellsPartial}
use Rattle.store_dumps.proofs.Resumes.{resumes_read, parked_fault}
use Rattle.store_dumps.proofs.resuming.read_known.Goals as goal

tells_it : (found : Option Files) (head : PartialHead) (host : ℕ) (parked : Option PartialFile) (file : PartialFile) → parked ≡ Some file
    → ((all : Files) → found ≡ Some all → IsParkedAs (Some head) host parked (all (PartialOf host))) → TellsPartial found host file
tells_it found head host parked file same tells = λ all is.
    subst (λ (p : Option PartialFile). IsParkedAs (Some head) host p (all (PartialOf host))) same (tells all is)

pub returns-in-Ok-Some-clause-tells : goal.returns-in-Ok-Some-clause-tells
returns-in-Ok-Some-clause-tells g c =
    tells_it (told c.args.parts.now.journal) c.args.head c.args.host c.in-Ok-Some.field-0 c.in-Ok-Some.file c.in-Ok-Some.field-0-is
    c.in-Ok-Some.ensures.parked

pub returns-in-Ok-Some-clause-resumes : goal.returns-in-Ok-Some-clause-resumes
returns-in-Ok-Some-clause-resumes g c =
    resumes_read _ c.args.host (told c.args.parts.now.journal) c.in-Ok-Some.file c.in-Ok-Some.ensures.quiet.told_same
    (tells_it (told c.args.parts.now.journal) c.args.head c.args.host c.in-Ok-Some.field-0 c.in-Ok-Some.file c.in-Ok-Some.field-0-is
    c.in-Ok-Some.ensures.parked)

pub returns-in-Err-clause-fault : goal.returns-in-Err-clause-fault
returns-in-Err-clause-fault g c = parked_fault c.args.parts.now c.args.host c.args.head c.requires.known c.in-Err.refusal c.in-Err.ensures.kind
