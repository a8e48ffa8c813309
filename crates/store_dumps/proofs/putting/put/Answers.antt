use Rattle.std.proofs.Common.{◌<◌, ℕ, List, length, refl, sym, ap, ◌∙◌, subst}
use Rattle.attr_tables.specs.Records.{IsContentOf}
use Rattle.pool_changes.specs.Kept.{slots_of}
use Rattle.pool_store.specs.Pools.{Misses}
use Rattle.store_dumps.specs.Putting.{TakesIn, content_found}
use Rattle.store_parts.specs.RefusalLaws.{runs_broken_by}
use Rattle.store_parts.specs.RefusedLaws.{runs_broken, runs_no_dump}
use Rattle.store_dumps.specs.PutLaws.{runs_same, go_content}
use Rattle.store_dumps.proofs.Puts.{no_dump_put, put_broken, put_full, runs_put_again, runs_put, runs_put_back, runs_missed}
use Rattle.store_parts.specs.UndamagedLaws.{undamaged_broken}
use Rattle.store_dumps.proofs.Undamaged.{undamaged_pool, undamaged_put}
use Rattle.store_dumps.proofs.putting.put.Goals as goal

pub returns-in_err-at-clause-runs : goal.returns-in_err-at-clause-runs
returns-in_err-at-clause-runs g c = runs_broken_by _ _ _ _ _ _ c.from_residual.ensures.1 c.in_err-at.ensures.rule
    (runs_no_dump _ _ _ c.in_err-at.ensures.none (no_dump_put c.args.session c.args.path.now c.args.item.now c.args.token))

pub returns-in-Kept-clause-runs : goal.returns-in-Kept-clause-runs
returns-in-Kept-clause-runs g c = runs_put_again c.args.parts.now c.args.session c.args.path.now c.args.item.now c.args.token c.in_ok-at.at
    c.dump-dump.result.now c.in_ok-at.ensures.found c.dump-dump.ensures (sym c.in-Kept.ensures)

pub returns-in-Full-clause-runs : goal.returns-in-Full-clause-runs
returns-in-Full-clause-runs g c = runs_broken _ _ _
    (put_full c.args.parts.now c.args.session c.args.path.now c.args.item.now c.args.token c.in_ok-at.at c.dump-dump.result.now
    c.in_ok-at.ensures.found c.dump-dump.ensures (sym c.in-Full.ensures))

pub returns-in-Some-clause-runs : goal.returns-in-Some-clause-runs
returns-in-Some-clause-runs g c = runs_broken _ _ _
    (put_broken _ c.args.session c.args.path.now c.args.item.now c.args.token c.in_ok-at.at c.dump-dump.result.now c.in_ok-at.ensures.found
    c.dump-dump.ensures (sym c.in-Fresh.ensures) c.in-Some.rule c.in-Some.ensures)

pub returns-in-Err-clause-runs : goal.returns-in-Err-clause-runs
returns-in-Err-clause-runs g c = runs_same _ _ _ _ _ c.refusal_of_pool.ensures.value
    (runs_missed c.args.parts.now c.args.session c.args.path.now c.args.item.now c.args.token c.in_ok-at.at c.dump-dump.result.now c.in_ok-at.ensures.found
    c.dump-dump.ensures (sym c.in-Fresh.ensures) c.stage.new.journal c.stage.new.pool
    c.in-None.ensures
    c.in-Err.ensures.form c.in-Err.ensures.stays c.in-Err.ensures.certain c.in-Err.ensures.crash c.in-Err.fault
    (subst (λ (b : List ℕ). 0 < length b) c.bytes_of-bytes.ensures c.in-Err.ensures.some)
    (subst (λ (b : List ℕ). Misses g.N.Namer.digest_of (slots_of c.args.parts.now.pool.names) (slots_of c.stage.new.pool.names)
    (g.D.Disk.files c.args.parts.now.journal.disk)
    (g.D.Disk.files c.stage.new.journal.disk) b c.in-Err.fault) c.bytes_of-bytes.ensures c.in-Err.ensures.misses)
    c.in-Err.ensures.undamaged c.in-Err.ensures.kind c.in-Err.ensures.counted)

pub returns-in-Ok-put_item-clause-runs : goal.returns-in-Ok-put_item-clause-runs
returns-in-Ok-put_item-clause-runs g c =
    let there = c.dump-dump.ensures in
    runs_put c.args.parts.now c.args.session c.args.path.now c.args.item.now c.args.token c.in_ok-at.at c.dump-dump.result.now c.in_ok-at.ensures.found
    there (sym c.in-Fresh.ensures) c.stage.new.journal c.stage.new.pool c.in-None.ensures
    c.in-Ok.ensures.form c.in-Ok.ensures.stays c.in-Ok.ensures.certain c.in-Ok.ensures.crash c.in-Ok.content
    (subst (λ (b : List ℕ). IsContentOf (length b) c.in-Ok.content) c.bytes_of-bytes.ensures c.in-Ok.ensures.shape)
    (subst (λ (b : List ℕ). TakesIn g.N.Namer.digest_of (slots_of c.args.parts.now.pool.names) (slots_of c.stage.new.pool.names)
    (g.D.Disk.files c.args.parts.now.journal.disk)
    (g.D.Disk.files c.stage.new.journal.disk) c.in-Ok.content b) c.bytes_of-bytes.ensures c.in-Ok.ensures.takes)
    _ refl refl refl refl refl refl
    (go_content (slots_of c.stage.new.pool.names) (slots_of c.release.new.pool.names) _ _
    (c.content_of-before.ensures ∙ ap content_found (c.find.ensures c.dump-dump.result.now there)) c.release.ensures.go)
    c.release.ensures.form (c.in-Ok-put_item.ensures.put c.dump-dump.result.now there) c.in-Ok-put_item.ensures.only
    c.in-Ok.ensures.counted (λ e. absurd cc)

pub returns-in-Err-put_item-clause-runs : goal.returns-in-Err-put_item-clause-runs
returns-in-Err-put_item-clause-runs g c =
    let there = c.dump-dump.ensures in
    runs_same _ _ _ _ _ c.refused_put.ensures
    (runs_put_back c.args.parts.now c.args.session c.args.path.now c.args.item.now c.args.token c.in_ok-at.at c.dump-dump.result.now c.in_ok-at.ensures.found
    there (sym c.in-Fresh.ensures) c.stage.new.journal c.stage.new.pool c.in-None.ensures
    c.in-Ok.ensures.form c.in-Ok.ensures.stays c.in-Ok.ensures.certain c.in-Ok.ensures.crash c.in-Ok.content
    (subst (λ (b : List ℕ). IsContentOf (length b) c.in-Ok.content) c.bytes_of-bytes.ensures c.in-Ok.ensures.shape)
    (subst (λ (b : List ℕ). TakesIn g.N.Namer.digest_of (slots_of c.args.parts.now.pool.names) (slots_of c.stage.new.pool.names)
    (g.D.Disk.files c.args.parts.now.journal.disk)
    (g.D.Disk.files c.stage.new.journal.disk) c.in-Ok.content b) c.bytes_of-bytes.ensures c.in-Ok.ensures.takes)
    _ c.in-Err-put_item.fault
    (λ broken is tree. c.in-Err-put_item.ensures.rule broken c.dump-dump.result.now is there tree) refl refl refl refl refl refl
    c.release-in-Err-put_item.ensures.go c.release-in-Err-put_item.ensures.form c.in-Err-put_item.ensures.err c.in-Ok.ensures.counted
    (λ e. absurd cc))

pub returns-in_err-at-clause-undamaged : goal.returns-in_err-at-clause-undamaged
returns-in_err-at-clause-undamaged g c = undamaged_broken c.from_residual.result _ c.from_residual.ensures.1

pub returns-in-Err-clause-undamaged : goal.returns-in-Err-clause-undamaged
returns-in-Err-clause-undamaged g c = undamaged_pool c.refusal_of_pool.result c.in-Err.fault c.refusal_of_pool.ensures.value c.in-Err.ensures.kind c.in-Err.ensures.undamaged

pub returns-in-Err-put_item-clause-undamaged : goal.returns-in-Err-put_item-clause-undamaged
returns-in-Err-put_item-clause-undamaged g c = undamaged_put c.refused_put.result c.in-Err-put_item.fault c.refused_put.ensures
