-- Exit by exit: a full chain, a content that has a name, want of memory, a refusal, and a fresh name.
use Rattle.std.proofs.Common.{◌≡◌, ◌∙◌, sym, ap, subst, true, false, Some, Ok, Err}
use Rattle.std.proofs.lemmas.Bool.{true≢false}
use Rattle.office_model.specs.declared.event.Event.TheVariants.{Put}
use Rattle.office_model.specs.Step.{IsStep}
use Rattle.office_model.specs.events.Put.{is_chain_full}
use Rattle.tree_office.specs.Steps.{content_in}
use Rattle.tree_office.specs.Names.{AreNames, Named, Table, with_name, state_of, names_by}
use Rattle.tree_office.proofs.NameLaws.{IsFresh}
use Rattle.tree_office.proofs.StepLaws.{chain_some, not_spent, named_content, fresh_is, step_put, names_put, names_refused, step_fresh, names_fresh}
use Rattle.tree_office.proofs.tree_office.TreeOffice.put_content.Goals as goal

pub invariant_of-self : goal.invariant_of-self
invariant_of-self g c =
    let chain : true ≡ is_chain_full c.self.inside.office.pool c.self.inside.office.dumps (names_by g.N.Namer.digest_of c.self.inside.table) (content_in c.self.inside.office c.args.item.now) =
    sym c.if-full.true ∙ chain_some g.N.Namer.digest_of c.self.inside.office c.self.inside.table c.self.invariant (content_in c.self.inside.office c.args.item.now) c.args.content.now c.name-digest.result _
    (subst (λ (s : Named). content_in s.office c.args.item.now ≡ Some c.args.content.now) (sym c.self.view_is) c.requires) c.name-digest.ensures c.is_full-full.ensures in
    names_put g.N.Namer.digest_of c.self.inside.office c.self.inside.table c.self.invariant c.args.session c.args.path.now c.args.item.now c.args.token true c.put.result c.put.new.self c.sound.ensures chain
    (λ content at unset. absurd (true≢false unset)) c.put.ensures

pub returns-then-full-clause-step : goal.returns-then-full-clause-step
returns-then-full-clause-step g c =
    let chain : true ≡ is_chain_full c.self.inside.office.pool c.self.inside.office.dumps (names_by g.N.Namer.digest_of c.self.inside.table) (content_in c.self.inside.office c.args.item.now) =
    sym c.if-full.true ∙ chain_some g.N.Namer.digest_of c.self.inside.office c.self.inside.table c.self.invariant (content_in c.self.inside.office c.args.item.now) c.args.content.now c.name-digest.result _
    (subst (λ (s : Named). content_in s.office c.args.item.now ≡ Some c.args.content.now) (sym c.self.view_is) c.requires) c.name-digest.ensures c.is_full-full.ensures in
    subst (λ (s : Named). IsStep (state_of g.N.Namer.digest_of s) (Put c.args.session c.args.path.now c.args.item.now c.args.token) c.put.result
    (state_of g.N.Namer.digest_of (record { office = c.put.new.self; table = c.self.inside.table }))) c.self.view_is
    (step_put g.N.Namer.digest_of c.self.inside.office c.self.inside.table c.self.invariant c.args.session c.args.path.now c.args.item.now c.args.token true c.put.result c.put.new.self chain c.put.ensures)

pub invariant_of-self-then-is_named : goal.invariant_of-self-then-is_named
invariant_of-self-then-is_named g c =
    let chain : false ≡ is_chain_full c.self.inside.office.pool c.self.inside.office.dumps (names_by g.N.Namer.digest_of c.self.inside.table) (content_in c.self.inside.office c.args.item.now) =
    sym c.if-full.false ∙ chain_some g.N.Namer.digest_of c.self.inside.office c.self.inside.table c.self.invariant (content_in c.self.inside.office c.args.item.now) c.args.content.now c.name-digest.result _
    (subst (λ (s : Named). content_in s.office c.args.item.now ≡ Some c.args.content.now) (sym c.self.view_is) c.requires) c.name-digest.ensures c.is_full-full.ensures in
    names_put g.N.Namer.digest_of c.self.inside.office c.self.inside.table c.self.invariant c.args.session c.args.path.now c.args.item.now c.args.token false c.put-then-is_named.result c.put-then-is_named.new.self c.sound.ensures chain
    (λ content at unset. named_content g.N.Namer.digest_of c.self.inside.office c.self.inside.table c.self.invariant (content_in c.self.inside.office c.args.item.now) c.args.content.now _
    (subst (λ (s : Named). content_in s.office c.args.item.now ≡ Some c.args.content.now) (sym c.self.view_is) c.requires) c.is_named.ensures c.if-is_named.true content at) c.put-then-is_named.ensures

pub returns-then-is_named-clause-step : goal.returns-then-is_named-clause-step
returns-then-is_named-clause-step g c =
    let chain : false ≡ is_chain_full c.self.inside.office.pool c.self.inside.office.dumps (names_by g.N.Namer.digest_of c.self.inside.table) (content_in c.self.inside.office c.args.item.now) =
    sym c.if-full.false ∙ chain_some g.N.Namer.digest_of c.self.inside.office c.self.inside.table c.self.invariant (content_in c.self.inside.office c.args.item.now) c.args.content.now c.name-digest.result _
    (subst (λ (s : Named). content_in s.office c.args.item.now ≡ Some c.args.content.now) (sym c.self.view_is) c.requires) c.name-digest.ensures c.is_full-full.ensures in
    subst (λ (s : Named). IsStep (state_of g.N.Namer.digest_of s) (Put c.args.session c.args.path.now c.args.item.now c.args.token) c.put-then-is_named.result
    (state_of g.N.Namer.digest_of (record { office = c.put-then-is_named.new.self; table = c.self.inside.table }))) c.self.view_is
    (step_put g.N.Namer.digest_of c.self.inside.office c.self.inside.table c.self.invariant c.args.session c.args.path.now c.args.item.now c.args.token false c.put-then-is_named.result c.put-then-is_named.new.self chain c.put-then-is_named.ensures)

pub give-requires : goal.give-requires
give-requires g c = not_spent g.N.Namer.digest_of c.self.inside.office c.self.inside.table c.self.invariant c.args.content.now c.name-digest.result _ _
    c.is_full-full.ensures c.if-full.false c.is_named.ensures c.if-is_named.false

pub invariant_of-self-in-Ok : goal.invariant_of-self-in-Ok
invariant_of-self-in-Ok g c =
    let chain : false ≡ is_chain_full c.self.inside.office.pool c.self.inside.office.dumps (names_by g.N.Namer.digest_of c.self.inside.table) (content_in c.self.inside.office c.args.item.now) =
    sym c.if-full.false ∙ chain_some g.N.Namer.digest_of c.self.inside.office c.self.inside.table c.self.invariant (content_in c.self.inside.office c.args.item.now) c.args.content.now c.name-digest.result _
    (subst (λ (s : Named). content_in s.office c.args.item.now ≡ Some c.args.content.now) (sym c.self.view_is) c.requires) c.name-digest.ensures c.is_full-full.ensures in
    let given = c.in_ok-give.ensures.given in
    let fresh : IsFresh g.N.Namer.digest_of c.self.inside.table given.fresh =
    fresh_is g.N.Namer.digest_of c.self.inside.office c.self.inside.table c.self.invariant c.args.content.now c.name-digest.result _ c.give.new.self given
    c.name-digest.ensures c.is_named.ensures c.if-is_named.false in
    let held : content_in c.self.inside.office c.args.item.now ≡ Some given.fresh.content = (subst (λ (s : Named). content_in s.office c.args.item.now ≡ Some c.args.content.now) (sym c.self.view_is) c.requires) ∙ ap Some (sym given.is_free.of_content) in
    subst (AreNames g.N.Namer.digest_of c.put-2.new.self) (sym given.is)
    (names_fresh g.N.Namer.digest_of c.self.inside.office c.self.inside.table c.self.invariant c.args.session c.args.path.now c.args.item.now c.args.token c.in-Ok.answer c.put-2.new.self given.fresh c.sound.ensures chain held fresh c.in-Ok.ensures)

pub returns-in-Ok-clause-step : goal.returns-in-Ok-clause-step
returns-in-Ok-clause-step g c =
    let chain : false ≡ is_chain_full c.self.inside.office.pool c.self.inside.office.dumps (names_by g.N.Namer.digest_of c.self.inside.table) (content_in c.self.inside.office c.args.item.now) =
    sym c.if-full.false ∙ chain_some g.N.Namer.digest_of c.self.inside.office c.self.inside.table c.self.invariant (content_in c.self.inside.office c.args.item.now) c.args.content.now c.name-digest.result _
    (subst (λ (s : Named). content_in s.office c.args.item.now ≡ Some c.args.content.now) (sym c.self.view_is) c.requires) c.name-digest.ensures c.is_full-full.ensures in
    let given = c.in_ok-give.ensures.given in
    let fresh : IsFresh g.N.Namer.digest_of c.self.inside.table given.fresh =
    fresh_is g.N.Namer.digest_of c.self.inside.office c.self.inside.table c.self.invariant c.args.content.now c.name-digest.result _ c.give.new.self given
    c.name-digest.ensures c.is_named.ensures c.if-is_named.false in
    let held : content_in c.self.inside.office c.args.item.now ≡ Some given.fresh.content = (subst (λ (s : Named). content_in s.office c.args.item.now ≡ Some c.args.content.now) (sym c.self.view_is) c.requires) ∙ ap Some (sym given.is_free.of_content) in
    subst (λ (t : Table). IsStep (state_of g.N.Namer.digest_of c.args.self.now) (Put c.args.session c.args.path.now c.args.item.now c.args.token) (Ok c.in-Ok.answer)
    (state_of g.N.Namer.digest_of (record { office = c.put-2.new.self; table = t }))) (sym given.is)
    (subst (λ (s : Named). IsStep (state_of g.N.Namer.digest_of s) (Put c.args.session c.args.path.now c.args.item.now c.args.token) (Ok c.in-Ok.answer)
    (state_of g.N.Namer.digest_of (record { office = c.put-2.new.self; table = with_name c.self.inside.table given.fresh }))) c.self.view_is
    (step_fresh g.N.Namer.digest_of c.self.inside.office c.self.inside.table c.self.invariant c.args.session c.args.path.now c.args.item.now c.args.token c.in-Ok.answer c.put-2.new.self given.fresh chain held fresh c.in-Ok.ensures))

pub invariant_of-self-in-Err : goal.invariant_of-self-in-Err
invariant_of-self-in-Err g c =
    let given = c.in_ok-give.ensures.given in
    let back = c.take_back.ensures c.self.inside.table given.fresh given.is in
    subst (AreNames g.N.Namer.digest_of c.put-2.new.self) (sym back) (names_refused g.N.Namer.digest_of c.self.inside.office c.self.inside.table c.self.invariant _ c.in-Err.refusal c.put-2.new.self c.in-Err.ensures)

pub returns-in-Err-clause-step : goal.returns-in-Err-clause-step
returns-in-Err-clause-step g c =
    let chain : false ≡ is_chain_full c.self.inside.office.pool c.self.inside.office.dumps (names_by g.N.Namer.digest_of c.self.inside.table) (content_in c.self.inside.office c.args.item.now) =
    sym c.if-full.false ∙ chain_some g.N.Namer.digest_of c.self.inside.office c.self.inside.table c.self.invariant (content_in c.self.inside.office c.args.item.now) c.args.content.now c.name-digest.result _
    (subst (λ (s : Named). content_in s.office c.args.item.now ≡ Some c.args.content.now) (sym c.self.view_is) c.requires) c.name-digest.ensures c.is_full-full.ensures in
    let given = c.in_ok-give.ensures.given in
    let back = c.take_back.ensures c.self.inside.table given.fresh given.is in
    subst (λ (t : Table). IsStep (state_of g.N.Namer.digest_of c.args.self.now) (Put c.args.session c.args.path.now c.args.item.now c.args.token) (Err c.in-Err.refusal)
    (state_of g.N.Namer.digest_of (record { office = c.put-2.new.self; table = t }))) (sym back)
    (subst (λ (s : Named). IsStep (state_of g.N.Namer.digest_of s) (Put c.args.session c.args.path.now c.args.item.now c.args.token) (Err c.in-Err.refusal)
    (state_of g.N.Namer.digest_of (record { office = c.put-2.new.self; table = c.self.inside.table }))) c.self.view_is
    (step_put g.N.Namer.digest_of c.self.inside.office c.self.inside.table c.self.invariant c.args.session c.args.path.now c.args.item.now c.args.token false (Err c.in-Err.refusal) c.put-2.new.self chain c.in-Err.ensures))
