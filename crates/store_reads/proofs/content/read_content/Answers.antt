use Rattle.std.proofs.Common.{Option, Some, Ok, Err, sym, subst}
use Rattle.disk_trait.specs.declared.ids.PoolId.{PoolId}
use Rattle.journal_view.specs.View.{told}
use Rattle.office_model.specs.declared.refusal.Refusal.{Refusal}
use Rattle.store_reads.specs.Shown.{IsContentFault}
use Rattle.store_reads.specs.Told.{IsContentOf}
use Rattle.store_reads.proofs.Contents.{content_fault, content_read, content_damaged}
use Rattle.store_reads.proofs.content.read_content.Goals as goal

pub returns-in-None-clause-content : goal.returns-in-None-clause-content
returns-in-None-clause-content g c =
    subst (λ (content : Option PoolId). IsContentOf g.N.Namer.digest_of (told c.args.parts.now.journal) content (Ok c.new.result))
    (sym c.in-None.is) c.new.ensures

pub returns-in-Ok-clause-content : goal.returns-in-Ok-clause-content
returns-in-Ok-clause-content g c =
    subst (λ (content : Option PoolId). IsContentOf g.N.Namer.digest_of (told c.args.parts.now.journal) content (Ok c.in-Ok.bytes))
    (sym c.in-Some.is)
    (content_read c.args.parts.now c.in-Some.id c.in-Ok.bytes c.in-Ok.ensures.found c.in-Ok.ensures.digest)

pub returns-in-Err-clause-content : goal.returns-in-Err-clause-content
returns-in-Err-clause-content g c =
    subst (λ (content : Option PoolId). IsContentOf g.N.Namer.digest_of (told c.args.parts.now.journal) content (Err c.refusal_of_pool.result))
    (sym c.in-Some.is)
    (subst (λ (refusal : Refusal). IsContentOf g.N.Namer.digest_of (told c.args.parts.now.journal) (Some c.in-Some.id) (Err refusal))
    (sym c.refusal_of_pool.ensures.value)
    (content_damaged c.args.parts.now c.in-Some.id c.in-Err.fault c.in-Err.ensures.damaged c.in-Err.ensures.named c.in-Err.ensures.fault))

pub returns-in-Err-clause-fault : goal.returns-in-Err-clause-fault
returns-in-Err-clause-fault g c =
    subst (λ (content : Option PoolId). IsContentFault c.args.parts.now content c.refusal_of_pool.result) (sym c.in-Some.is)
    (subst (IsContentFault c.args.parts.now (Some c.in-Some.id)) (sym c.refusal_of_pool.ensures.value)
    (content_fault c.args.parts.now c.in-Some.id c.in-Err.fault c.in-Err.ensures.damaged c.in-Err.ensures.named c.in-Err.ensures.fault))
