-- What the rules name is told by the catalog; a deletion behind that.
use Rattle.std.specs.Prelude.{◌<◌, ◌^◌, ℕ, List, [], length, Ok, Err}
use Rattle.std.proofs.Common.{refl, sym, ◌∙◌, subst, arith}
use Rattle.backup_index.specs.Index.{Index}
use Rattle.office_model.specs.declared.answer.Answer.{Answer}
use Rattle.office_model.specs.declared.answer.Answer.TheVariants.{Expired}
use Rattle.office_model.specs.declared.event.Event.TheVariants.{Expire}
use Rattle.office_model.specs.declared.refusal.BrokenRule.TheVariants.{NoHost}
use Rattle.store_parts.specs.RefusalLaws.{runs_broken_by}
use Rattle.store_parts.specs.RefusedLaws.{runs_no_host, runs_no_memory}
use Rattle.store_deletions.specs.MeaningLaws.{no_host_expire, expiring_none, expiring}
use Rattle.store_deletions.specs.RunLaws.{runs_still}
use Rattle.store_deletions.proofs.Flagging.{few_named}
use Rattle.store_deletions.specs.Shortens.{named_numbers}
use Rattle.store_deletions.proofs.Calling.{said_again, said_broken, said_memory, said_of_host, said_none, hostless_broken, hostless_memory, has_host}
use Rattle.store_deletions.proofs.Lookups.{index_there, none_there, some_there, some_expired}
use Rattle.store_deletions.proofs.expiring.expire.Goals as goal

pub returns-in_err-at-clause-runs : goal.returns-in_err-at-clause-runs
returns-in_err-at-clause-runs g c =
    runs_broken_by c.args.parts.now c.args.parts.now (Expire c.args.host.now c.args.now) c.from_residual.result _ NoHost
    c.from_residual.ensures.1 c.in_err-at.ensures.rule
    (runs_no_host c.args.parts.now (Expire c.args.host.now c.args.now) c.args.host.now c.in_err-at.ensures.none
    (λ office names e. no_host_expire c.args.host.now c.args.now office names e))

pub returns-in_err-numbers-clause-runs : goal.returns-in_err-numbers-clause-runs
returns-in_err-numbers-clause-runs g c =
    runs_no_memory c.args.parts.now (Expire c.args.host.now c.args.now) c.from_residual-in_err-numbers.result
    c.from_residual-in_err-numbers.ensures.1

pub returns-then-is_empty-clause-runs : goal.returns-then-is_empty-clause-runs
returns-then-is_empty-clause-runs g c =
    let there = index_there c.args.parts.now.catalog.hosts c.hosts.result.now c.in_ok-at.at c.index-hosts-at.result c.hosts.ensures.hosts
    c.in_ok-at.ensures.within c.index-hosts-at.is in
    let none = none_there c.as_slice-named.result.now (sym c.is_empty.ensures ∙ c.if-is_empty.true) in
    runs_still c.args.parts.now (Expire c.args.host.now c.args.now) (Expired 0) refl
    (expiring_none c.args.parts.now.catalog c.args.host.now c.in_ok-at.at c.index-hosts-at.result c.in_ok-at.ensures.found there c.args.now
    (sym c.in_ok-numbers.ensures ∙ sym c.as_slice-named.ensures.value ∙ none)) (λ office names. refl) refl

pub overflow_cast-result : goal.overflow_cast-result
overflow_cast-result g c =
    let there = index_there c.args.parts.now.catalog.hosts c.hosts.result.now c.in_ok-at.at c.index-hosts-at.result c.hosts.ensures.hosts
    c.in_ok-at.ensures.within c.index-hosts-at.is in
    let sound = (c.hosts.ensures.are.each c.in_ok-at.at c.index-hosts-at.result there).sound in
    let few = few_named c.index-hosts-at.result.rules c.args.now c.index-hosts-at.result.next c.index-hosts-at.result.lines sound in
    omega (arith, subst (λ (ns : List ℕ). length ns < 2 ^ 32) (sym (c.as_slice-named.ensures.value ∙ c.in_ok-numbers.ensures)) few)

pub returns-in-Ok-clause-runs : goal.returns-in-Ok-clause-runs
returns-in-Ok-clause-runs g c =
    let there = index_there c.args.parts.now.catalog.hosts c.hosts.result.now c.in_ok-at.at c.index-hosts-at.result c.hosts.ensures.hosts
    c.in_ok-at.ensures.within c.index-hosts-at.is in
    c.in-Ok.ensures.runs (Expire c.args.host.now c.args.now) (Expired (length c.as_slice-named.result.now))
    (expiring c.args.parts.now.catalog c.args.host.now c.in_ok-at.at c.index-hosts-at.result c.in_ok-at.ensures.found there c.args.now
    c.as_slice-named.result.now (c.as_slice-named.ensures.value ∙ c.in_ok-numbers.ensures)
    (some_there c.as_slice-named.result.now (sym c.is_empty.ensures ∙ c.if-is_empty.false)))

pub returns-clause-runs : goal.returns-clause-runs
returns-clause-runs g c =
    let there = index_there c.args.parts.now.catalog.hosts c.hosts.result.now c.in_ok-at.at c.index-hosts-at.result c.hosts.ensures.hosts
    c.in_ok-at.ensures.within c.index-hosts-at.is in
    c.in-Err.ensures.runs (Expire c.args.host.now c.args.now) (Expired (length c.as_slice-named.result.now))
    (expiring c.args.parts.now.catalog c.args.host.now c.in_ok-at.at c.index-hosts-at.result c.in_ok-at.ensures.found there c.args.now
    c.as_slice-named.result.now (c.as_slice-named.ensures.value ∙ c.in_ok-numbers.ensures)
    (some_there c.as_slice-named.result.now (sym c.is_empty.ensures ∙ c.if-is_empty.false)))

pub returns-in_err-at-clause-tables : goal.returns-in_err-at-clause-tables
returns-in_err-at-clause-tables g c = λ place index is there.
    said_broken c.args.parts.now c.args.parts.now place (named_numbers index.rules c.args.now index.lines) c.from_residual.result _
    c.from_residual.ensures.1

pub returns-in_err-numbers-clause-tables : goal.returns-in_err-numbers-clause-tables
returns-in_err-numbers-clause-tables g c = λ place index is there.
    said_memory c.args.parts.now c.args.parts.now place (named_numbers index.rules c.args.now index.lines)
    c.from_residual-in_err-numbers.result c.from_residual-in_err-numbers.ensures.1

pub returns-then-is_empty-clause-tables : goal.returns-then-is_empty-clause-tables
returns-then-is_empty-clause-tables g c =
    let there = index_there c.args.parts.now.catalog.hosts c.hosts.result.now c.in_ok-at.at c.index-hosts-at.result c.hosts.ensures.hosts
    c.in_ok-at.ensures.within c.index-hosts-at.is in
    let none = none_there c.as_slice-named.result.now (sym c.is_empty.ensures ∙ c.if-is_empty.true) in
    said_of_host c.args.parts.now c.args.parts.now _ c.in_ok-at.at c.index-hosts-at.result
    (λ (i : Index). named_numbers i.rules c.args.now i.lines) [] (Ok (Expired 0)) c.in_ok-at.ensures.found there
    (sym none ∙ c.as_slice-named.ensures.value ∙ c.in_ok-numbers.ensures) (said_none c.args.parts.now c.args.parts.now c.in_ok-at.at (Expired 0))

pub returns-in-Ok-clause-tables : goal.returns-in-Ok-clause-tables
returns-in-Ok-clause-tables g c =
    let there = index_there c.args.parts.now.catalog.hosts c.hosts.result.now c.in_ok-at.at c.index-hosts-at.result c.hosts.ensures.hosts
    c.in_ok-at.ensures.within c.index-hosts-at.is in
    said_of_host c.args.parts.now c.shorten.new.parts _ c.in_ok-at.at c.index-hosts-at.result
    (λ (i : Index). named_numbers i.rules c.args.now i.lines) c.as_slice-named.result.now
    (Ok (Expired (length c.as_slice-named.result.now))) c.in_ok-at.ensures.found there
    (c.as_slice-named.ensures.value ∙ c.in_ok-numbers.ensures) c.in-Ok.ensures.tables

pub returns-clause-tables : goal.returns-clause-tables
returns-clause-tables g c =
    let there = index_there c.args.parts.now.catalog.hosts c.hosts.result.now c.in_ok-at.at c.index-hosts-at.result c.hosts.ensures.hosts
    c.in_ok-at.ensures.within c.index-hosts-at.is in
    said_of_host {A = Answer} c.args.parts.now c.shorten.new.parts _ c.in_ok-at.at c.index-hosts-at.result
    (λ (i : Index). named_numbers i.rules c.args.now i.lines) c.as_slice-named.result.now
    (Err c.in-Err.refusal) c.in_ok-at.ensures.found there
    (c.as_slice-named.ensures.value ∙ c.in_ok-numbers.ensures)
    (said_again (Unit {0}) Answer c.args.parts.now c.shorten.new.parts c.in_ok-at.at c.as_slice-named.result.now c.in-Err.refusal
    c.in-Err.ensures.tables)

pub returns-in_err-at-clause-host : goal.returns-in_err-at-clause-host
returns-in_err-at-clause-host g c = hostless_broken c.args.parts.now c.args.host.now c.from_residual.result _ c.from_residual.ensures.1

pub returns-in_err-numbers-clause-host : goal.returns-in_err-numbers-clause-host
returns-in_err-numbers-clause-host g c =
    hostless_memory c.args.parts.now c.args.host.now c.from_residual-in_err-numbers.result c.from_residual-in_err-numbers.ensures.1

pub returns-then-is_empty-clause-host : goal.returns-then-is_empty-clause-host
returns-then-is_empty-clause-host g c =
    let there = index_there c.args.parts.now.catalog.hosts c.hosts.result.now c.in_ok-at.at c.index-hosts-at.result c.hosts.ensures.hosts
    c.in_ok-at.ensures.within c.index-hosts-at.is in
    has_host {A = Answer} c.args.parts.now c.args.host.now c.in_ok-at.at c.index-hosts-at.result c.in_ok-at.ensures.found there
    (Ok (Expired 0))

pub returns-in-Ok-clause-host : goal.returns-in-Ok-clause-host
returns-in-Ok-clause-host g c =
    let there = index_there c.args.parts.now.catalog.hosts c.hosts.result.now c.in_ok-at.at c.index-hosts-at.result c.hosts.ensures.hosts
    c.in_ok-at.ensures.within c.index-hosts-at.is in
    has_host {A = Answer} c.args.parts.now c.args.host.now c.in_ok-at.at c.index-hosts-at.result c.in_ok-at.ensures.found there
    (Ok (Expired (length c.as_slice-named.result.now)))

pub returns-clause-host : goal.returns-clause-host
returns-clause-host g c =
    let there = index_there c.args.parts.now.catalog.hosts c.hosts.result.now c.in_ok-at.at c.index-hosts-at.result c.hosts.ensures.hosts
    c.in_ok-at.ensures.within c.index-hosts-at.is in
    has_host {A = Answer} c.args.parts.now c.args.host.now c.in_ok-at.at c.index-hosts-at.result c.in_ok-at.ensures.found there
    (Err c.in-Err.refusal)

pub returns-in-Ok-clause-still : goal.returns-in-Ok-clause-still
returns-in-Ok-clause-still g c = λ is.
    absurd (some_expired c.as_slice-named.result.now _ (sym c.is_empty.ensures ∙ c.if-is_empty.false) refl is)
