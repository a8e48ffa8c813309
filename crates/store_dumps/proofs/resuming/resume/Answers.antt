use Rattle.std.proofs.Common.{refl, None}
use Rattle.office_model.specs.declared.refusal.BrokenRule.TheVariants.{NoPartial}
use Rattle.store_parts.specs.RefusalLaws.{runs_broken_by}
use Rattle.store_parts.specs.RefusedLaws.{runs_broken, runs_no_host}
use Rattle.store_dumps.proofs.Hosts.{index_read}
use Rattle.store_dumps.proofs.Opens.{not_failed, runs_base_memory, runs_base_fault, opened_since}
use Rattle.store_dumps.proofs.Resumes.{no_host_resume, no_partial, refused_resume, runs_resumed, resume_reply, broken_resume}
use Rattle.store_dumps.proofs.resuming.resume.Goals as goal

pub returns-in_err-at-clause-runs : goal.returns-in_err-at-clause-runs
returns-in_err-at-clause-runs g c = runs_broken_by _ _ _ _ _ _ c.from_residual.ensures.1 c.in_err-at.ensures.rule
    (runs_no_host _ _ _ c.in_err-at.ensures.none (no_host_resume c.args.host.now))

pub returns-in_err-at-clause-base : goal.returns-in_err-at-clause-base
returns-in_err-at-clause-base g c = broken_resume c.args.parts.now c.args.host.now _ _ _ c.from_residual.ensures.1

pub returns-in-None-clause-runs : goal.returns-in-None-clause-runs
returns-in-None-clause-runs g c = runs_broken _ _ NoPartial
    (no_partial c.args.parts.now c.args.host.now c.in_ok-at.at c.in_ok-at.ensures.found c.in-None.ensures)

pub returns-in-Some-further_rule-clause-runs : goal.returns-in-Some-further_rule-clause-runs
returns-in-Some-further_rule-clause-runs g c = runs_broken _ _ c.in-Some-further_rule.rule
    (refused_resume c.args.parts.now c.args.host.now c.in_ok-at.at c.in_ok-at.ensures.found c.index-hosts-at.result
    (index_read _ _ _ _ c.hosts.ensures.hosts c.in_ok-at.ensures.within c.index-hosts-at.is) c.in-Some.head c.in-Some.ensures
    c.in-Some-further_rule.rule c.in-Some-further_rule.ensures)

pub returns-in-Err-clause-runs : goal.returns-in-Err-clause-runs
returns-in-Err-clause-runs g c = runs_base_fault c.args.parts.now c.read_known.new.parts _ c.in-Err.refusal
    c.in-Err.ensures.reads (λ office names. refl) c.in-Err.ensures.counted c.in-Err.ensures.fault

pub returns-in-Ok-open_with-clause-runs : goal.returns-in-Ok-open_with-clause-runs
returns-in-Ok-open_with-clause-runs g c = runs_resumed c.args.parts.now c.read_known.new.parts c.args.host.now
    c.in-Ok.ensures.reads c.in-Ok.ensures.counted (not_failed _) c.in_ok-at.at c.index-hosts-at.result c.in_ok-at.ensures.found
    (index_read _ _ _ _ c.hosts.ensures.hosts c.in_ok-at.ensures.within c.index-hosts-at.is) c.in-None-further_rule.ensures
    c.open_with.new.parts c.in-Ok-open_with.name c.in-Ok.file c.in-Ok.ensures.resumes c.in-Ok-open_with.ensures.ok

pub returns-in-Err-open_with-clause-runs : goal.returns-in-Err-open_with-clause-runs
returns-in-Err-open_with-clause-runs g c = runs_base_memory c.args.parts.now c.read_known.new.parts _
    c.in-Ok.ensures.reads c.in-Ok.ensures.counted (not_failed _) c.open_with.new.parts c.in-Err-open_with.ensures.err

pub returns-in-Err-clause-base : goal.returns-in-Err-clause-base
returns-in-Err-clause-base g c = resume_reply c.args.parts.now c.args.host.now _ c.in_ok-at.at
    c.index-hosts-at.result c.in_ok-at.ensures.found
    (index_read _ _ _ _ c.hosts.ensures.hosts c.in_ok-at.ensures.within c.index-hosts-at.is) c.in-Some.head c.in-Err.refusal
    c.in-Err.ensures.damaged

pub returns-in-Ok-open_with-clause-base : goal.returns-in-Ok-open_with-clause-base
returns-in-Ok-open_with-clause-base g c =
    let index = index_read _ _ _ _ c.hosts.ensures.hosts c.in_ok-at.ensures.within c.index-hosts-at.is in (
      c.in-Ok-open_with.name,
      refl,
      record {
        host = record { place = c.in_ok-at.at; index = c.index-hosts-at.result; is_host = c.in_ok-at.ensures.found; is_index = index };
        file = c.in-Ok.file;
        tells = c.in-Ok.ensures.tells;
        opened = opened_since c.args.parts.now c.read_known.new.parts c.in-Ok.ensures.reads c.in_ok-at.at c.in-Ok.file.kind
            c.in-Ok.file.start None c.in-Ok.file.rows c.in-Ok-open_with.name c.open_with.new.parts.sessions
            c.in-Ok-open_with.ensures.ok.sessions;
      },
    )
