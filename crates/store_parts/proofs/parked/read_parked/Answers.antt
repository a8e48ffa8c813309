-- The partial that was read is that of the file, and one is known.
use Rattle.std.specs.Prelude.{◌≡◌, Option, Some, None}
use Rattle.std.proofs.Common.{refl, sym, subst}
use Rattle.disk_trait.specs.declared.ids.FileId.TheVariants.{Partial as PartialOf}
use Rattle.journal_view.specs.View.{told}
use Rattle.partial_files.specs.declared.partial.PartialFile.{PartialFile}
use Rattle.host_partials.specs.declared.held.PartialHead.{PartialHead}
use Rattle.host_partials.specs.Held.{HasPartial}
use Rattle.office_model.specs.declared.refusal.Refusal.TheVariants.{Damaged}
use Rattle.store_parts.specs.Parked.{IsParkedAs, IsParkedFault}
use Rattle.store_parts.proofs.parked.read_parked.Goals as goal

pub returns-in-Ok-Some-clause-parked : goal.returns-in-Ok-Some-clause-parked
returns-in-Ok-Some-clause-parked g c = λ all is.
    subst (λ (h : Option PartialHead). IsParkedAs h c.args.host (Some c.in-Ok-Some.file) (all (PartialOf c.args.host))) (sym c.in-Some.is)
    (subst (λ (p : Option PartialFile). HasPartial c.args.host p (all (PartialOf c.args.host))) c.in-Ok-Some.field-0-is
    (c.in-Ok-Some.ensures.told all is))

pub returns-in-Ok-None-clause-kind : goal.returns-in-Ok-None-clause-kind
returns-in-Ok-None-clause-kind g c =
    subst (λ (h : Option PartialHead). IsParkedFault (told c.args.journal.now) h c.args.host (Damaged (PartialOf c.args.host) None)) (sym c.in-Some.is)
    (record {
      is_file = refl;
      is = λ all is.
          sym (subst (λ (p : Option PartialFile). HasPartial c.args.host p (all (PartialOf c.args.host))) c.in-Ok-None.field-0-is
          (c.in-Ok-None.ensures.told all is));
      none = tt;
    })
