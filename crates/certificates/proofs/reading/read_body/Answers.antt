-- `RCK1`, the epoch, the hosts, and the files of the pool.
use Rattle.std.specs.Int.{w64}
use Rattle.wire_bytes.specs.Layout.{IsNumber}
use Rattle.wire_bytes.specs.Grammar.{number, followed_by}
use Rattle.wire_bytes.specs.GrammarLaws.{field_finds, field_refuses, then_finds, then_refuses, first_refuses, seen_finds, seen_refuses}
use Rattle.certificates.specs.Layout.{hosts_grammar, pool_grammar, certificate_grammar, certificate_sees}
use Rattle.certificates.proofs.reading.read_body.Goals as goal

pub returns-in-Err : goal.returns-in-Err
unfolding certificate_grammar
returns-in-Err c = seen_refuses certificate_sees
    (first_refuses (λ _. followed_by (number w64 (IsNumber w64)) (λ _. followed_by hosts_grammar (λ _. pool_grammar)))
    (field_refuses c.in-Err.ensures.field.reads c.in-Err.ensures.here))

pub returns-in-Err-read_u64 : goal.returns-in-Err-read_u64
unfolding certificate_grammar
returns-in-Err-read_u64 c = seen_refuses certificate_sees
    (then_refuses (λ _. followed_by (number w64 (IsNumber w64)) (λ _. followed_by hosts_grammar (λ _. pool_grammar))) (field_finds c.in-Ok.ensures.field.reads)
    (first_refuses (λ _. followed_by hosts_grammar (λ _. pool_grammar)) (field_refuses c.in-Err-read_u64.ensures.field.reads c.in-Err-read_u64.ensures.here)))

pub returns-in-Err-read_hosts : goal.returns-in-Err-read_hosts
unfolding certificate_grammar
returns-in-Err-read_hosts c = seen_refuses certificate_sees
    (then_refuses (λ _. followed_by (number w64 (IsNumber w64)) (λ _. followed_by hosts_grammar (λ _. pool_grammar))) (field_finds c.in-Ok.ensures.field.reads)
    (then_refuses (λ _. followed_by hosts_grammar (λ _. pool_grammar)) (field_finds c.in-Ok-read_u64.ensures.field.reads)
    (first_refuses (λ _. pool_grammar) c.in-Err-read_hosts.ensures)))

pub returns-in-Err-read_pool : goal.returns-in-Err-read_pool
unfolding certificate_grammar
returns-in-Err-read_pool c = seen_refuses certificate_sees
    (then_refuses (λ _. followed_by (number w64 (IsNumber w64)) (λ _. followed_by hosts_grammar (λ _. pool_grammar))) (field_finds c.in-Ok.ensures.field.reads)
    (then_refuses (λ _. followed_by hosts_grammar (λ _. pool_grammar)) (field_finds c.in-Ok-read_u64.ensures.field.reads)
    (then_refuses (λ _. pool_grammar) c.in-Ok-read_hosts.ensures.finds c.in-Err-read_pool.ensures)))

pub returns-in-Ok-read_pool : goal.returns-in-Ok-read_pool
unfolding certificate_grammar
returns-in-Ok-read_pool c = record {
  value = record { epoch = c.in-Ok-read_u64.field-0; hosts = c.in-Ok-read_hosts.ensures.value; pool = c.in-Ok-read_pool.ensures.value };
  tells = record { hosts = c.in-Ok-read_hosts.ensures.tells; pool = c.in-Ok-read_pool.ensures.tells };
  finds = seen_finds certificate_sees
      (then_finds (λ _. followed_by (number w64 (IsNumber w64)) (λ _. followed_by hosts_grammar (λ _. pool_grammar))) (field_finds c.in-Ok.ensures.field.reads)
      (then_finds (λ _. followed_by hosts_grammar (λ _. pool_grammar)) (field_finds c.in-Ok-read_u64.ensures.field.reads)
      (then_finds (λ _. pool_grammar) c.in-Ok-read_hosts.ensures.finds c.in-Ok-read_pool.ensures.finds)));
}
