use Rattle.std.specs.Prelude.{ℕ, Option, Some}
use Rattle.std.proofs.Common.{sym, subst}
use Rattle.office_model.specs.events.OpenRead.{base_of}
use Rattle.store_reads.specs.Shown.{IsRefusal}
use Rattle.store_restores.specs.Since.{IsBaseLoaded}
use Rattle.store_restores.proofs.Behind.{base_loaded, base_refusal}
use Rattle.store_restores.proofs.bases.read_base.Goals as goal

pub returns-in-Ok-clause-loaded : goal.returns-in-Ok-clause-loaded
returns-in-Ok-clause-loaded g c =
    subst (λ (base : Option ℕ). IsBaseLoaded c.args.parts.now c.args.host.now base (Some c.in-Ok.rows)) (sym c.in-Some.is)
    (base_loaded c.args.parts.now c.args.host.now c.in-Some.number c.in-Ok.rows c.in-Ok.ensures.loaded)

pub returns-in-Err-clause-refusal : goal.returns-in-Err-clause-refusal
returns-in-Err-clause-refusal g c =
    subst (λ (base : Option ℕ). IsRefusal c.args.parts.now (λ office. base_of office.hosts c.args.host.now base) c.in-Err.refusal) (sym c.in-Some.is)
    (base_refusal c.args.parts.now c.args.host.now c.in-Some.number c.in-Err.refusal c.in-Err.ensures.refusal)
