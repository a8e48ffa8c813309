-- Where no number stands, or one that is too small.
use Rattle.std.proofs.Common.{◌≡◌, ℕ, true, false, Some, ap, sym, ◌∙◌}
use Rattle.std.proofs.lemmas.Bool.{false≢true}
use Rattle.std.specs.Int.{w64}
use Rattle.wire_bytes.specs.Layout.{number_bytes}
use Rattle.wire_bytes.specs.Grammar.{field}
use Rattle.wire_bytes.specs.GrammarLaws.{none_refuses}
use Rattle.pool_index.specs.Layout.{is_enough}
use Rattle.pool_index.proofs.file.read_count.Goals as goal

pub returns-in-Err : goal.returns-in-Err
returns-in-Err c = none_refuses (number_bytes w64) (λ value rest fits e. c.in-Err.ensures.field.reads.back value rest fits.number e) (ap Some c.offset-start.ensures.value)

pub returns-then-not-is_enough : goal.returns-then-not-is_enough
returns-then-not-is_enough c =
    let wrong : false ≡ is_enough c.args.byte c.in-Ok.count = c.if-not-is_enough.ensures in
    none_refuses (number_bytes w64)
    (λ value rest fits e.
    let same : c.in-Ok.count ≡ value = (c.in-Ok.ensures.field.reads.back value rest fits.number e).0 in
    false≢true (wrong ∙ ap (is_enough c.args.byte) same ∙ fits.enough))
    (ap Some c.offset-start.ensures.value)

pub returns : goal.returns
unfolding field
returns c = record {
  fits = record { number = c.in-Ok.ensures.field.reads.found.0; enough = sym c.if-not-is_enough.ensures };
  passed = c.in-Ok.ensures.field.reads.found.1;
  back = λ other rest fits e. c.in-Ok.ensures.field.reads.back other rest fits.number e;
}
