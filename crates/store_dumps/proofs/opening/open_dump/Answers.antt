use Rattle.std.proofs.Common.{refl, sym, inl, inr}
use Rattle.store_parts.specs.RefusalLaws.{runs_broken_by}
use Rattle.store_parts.specs.RefusedLaws.{runs_broken, runs_no_host}
use Rattle.store_dumps.proofs.Hosts.{index_read}
use Rattle.store_dumps.proofs.Opens.{no_host, refused_by, not_failed, runs_repeated, runs_base_opened, runs_base_memory, runs_base_fault, base_reply, broken_base, opened_at, opened_since}
use Rattle.store_dumps.proofs.opening.open_dump.Goals as goal

pub returns-in_err-at-clause-runs : goal.returns-in_err-at-clause-runs
returns-in_err-at-clause-runs g c = runs_broken_by _ _ _ _ _ _ c.from_residual.ensures.1 c.in_err-at.ensures.rule
    (runs_no_host _ _ _ c.in_err-at.ensures.none (no_host c.args.host.now c.args.kind c.args.now c.args.token))

pub returns-in_err-at-clause-base : goal.returns-in_err-at-clause-base
returns-in_err-at-clause-base g c =
    broken_base c.args.parts.now c.args.host.now c.args.kind c.args.now c.args.token _ _ _ c.from_residual.ensures.1

pub returns-in-Some-clause-runs : goal.returns-in-Some-clause-runs
returns-in-Some-clause-runs g c = runs_repeated c.args.parts.now c.args.host.now c.args.kind c.args.now c.args.token c.in_ok-at.at
    c.index-hosts-at.result c.in_ok-at.ensures.found
    (index_read _ _ _ _ c.hosts.ensures.hosts c.in_ok-at.ensures.within c.index-hosts-at.is) c.in-Some.answer (sym c.in-Some.ensures)

pub returns-in-Some-clause-base : goal.returns-in-Some-clause-base
returns-in-Some-clause-base g c =
    let index = index_read _ _ _ _ c.hosts.ensures.hosts c.in_ok-at.ensures.within c.index-hosts-at.is in
    inl (record {
      host = record { place = c.in_ok-at.at; index = c.index-hosts-at.result; is_host = c.in_ok-at.ensures.found; is_index = index };
      is = sym c.in-Some.ensures;
      same = refl;
    })

pub returns-in-Some-broken_rule-clause-runs : goal.returns-in-Some-broken_rule-clause-runs
returns-in-Some-broken_rule-clause-runs g c = runs_broken _ _ c.in-Some-broken_rule.rule
    (refused_by c.args.parts.now c.args.host.now c.args.kind c.args.now c.args.token c.in_ok-at.at c.index-hosts-at.result
    c.in_ok-at.ensures.found
    (index_read _ _ _ _ c.hosts.ensures.hosts c.in_ok-at.ensures.within c.index-hosts-at.is) (sym c.in-None.ensures)
    c.in-Some-broken_rule.rule c.in-Some-broken_rule.ensures)

pub returns-in-Err-clause-runs : goal.returns-in-Err-clause-runs
returns-in-Err-clause-runs g c = runs_base_fault c.args.parts.now c.base_of.new.parts _ c.in-Err.refusal
    c.in-Err.ensures.reads (λ office names. refl) c.in-Err.ensures.counted c.in-Err.ensures.fault

pub returns-in-Ok-open_with-clause-runs : goal.returns-in-Ok-open_with-clause-runs
returns-in-Ok-open_with-clause-runs g c = runs_base_opened c.args.parts.now c.base_of.new.parts c.args.host.now c.args.kind c.args.now
    c.args.token c.in-Ok.ensures.reads c.in-Ok.ensures.counted c.in_ok-at.at c.index-hosts-at.result c.in_ok-at.ensures.found
    (index_read _ _ _ _ c.hosts.ensures.hosts c.in_ok-at.ensures.within c.index-hosts-at.is) (sym c.in-None.ensures)
    c.in-None-broken_rule.ensures (not_failed _) c.open_with.new.parts c.in-Ok-open_with.name c.in-Ok.begun.rows c.in-Ok.ensures.base
    (opened_at c.base_of.new.parts c.open_with.new.parts c.in_ok-at.at c.args.kind c.seconds.result c.args.now c.args.token
    c.in-Ok.begun.rows c.in-Ok-open_with.name c.seconds.ensures.value c.in-Ok-open_with.ensures.ok)

pub returns-in-Err-open_with-clause-runs : goal.returns-in-Err-open_with-clause-runs
returns-in-Err-open_with-clause-runs g c = runs_base_memory c.args.parts.now c.base_of.new.parts _
    c.in-Ok.ensures.reads c.in-Ok.ensures.counted (not_failed _) c.open_with.new.parts c.in-Err-open_with.ensures.err

pub returns-in-Err-clause-base : goal.returns-in-Err-clause-base
returns-in-Err-clause-base g c = base_reply c.args.parts.now c.args.host.now c.args.kind c.args.now c.args.token _ c.in_ok-at.at
    c.index-hosts-at.result c.in_ok-at.ensures.found
    (index_read _ _ _ _ c.hosts.ensures.hosts c.in_ok-at.ensures.within c.index-hosts-at.is) (sym c.in-None.ensures) c.in-Err.refusal
    c.in-Err.ensures.damaged

pub returns-in-Ok-open_with-clause-base : goal.returns-in-Ok-open_with-clause-base
returns-in-Ok-open_with-clause-base g c =
    let index = index_read _ _ _ _ c.hosts.ensures.hosts c.in_ok-at.ensures.within c.index-hosts-at.is in inr (
      c.in-Ok-open_with.name,
      refl,
      record {
        host = record { place = c.in_ok-at.at; index = c.index-hosts-at.result; is_host = c.in_ok-at.ensures.found; is_index = index };
        first = sym c.in-None.ensures;
        rows = c.in-Ok.begun.rows;
        tells = c.in-Ok.ensures.tells c.index-hosts-at.result index;
        opened = opened_since c.args.parts.now c.base_of.new.parts c.in-Ok.ensures.reads c.in_ok-at.at c.args.kind c.args.now c.args.token
            c.in-Ok.begun.rows c.in-Ok-open_with.name c.open_with.new.parts.sessions
            (opened_at c.base_of.new.parts c.open_with.new.parts c.in_ok-at.at c.args.kind c.seconds.result c.args.now c.args.token
            c.in-Ok.begun.rows c.in-Ok-open_with.name c.seconds.ensures.value c.in-Ok-open_with.ensures.ok).sessions;
      },
    )
