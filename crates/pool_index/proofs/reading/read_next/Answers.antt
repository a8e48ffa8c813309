-- Where no item stands, or one that may not stand there.
use Rattle.std.proofs.Common.{◌≡◌, true, false, Some, ap, sym, ◌∙◌}
use Rattle.std.proofs.lemmas.Bool.{false≢true}
use Rattle.wire_bytes.specs.Grammar.{field}
use Rattle.wire_bytes.specs.GrammarLaws.{none_refuses}
use Rattle.pool_index.specs.declared.item.IndexItem.{IndexItem}
use Rattle.pool_index.specs.Items.{is_next}
use Rattle.pool_index.specs.Layout.{item_bytes}
use Rattle.pool_index.proofs.reading.read_next.Goals as goal

pub returns-in-Err : goal.returns-in-Err
returns-in-Err c = none_refuses item_bytes (λ value rest fits e. c.in-Err.ensures.back value rest fits.is e) (ap Some c.offset-start.ensures.value)

pub returns-then-not-is_next : goal.returns-then-not-is_next
returns-then-not-is_next c =
    let wrong : false ≡ is_next c.args.byte c.args.before.now c.in-Ok.item.id = c.if-not-is_next.ensures in
    none_refuses item_bytes
    (λ value rest fits e.
    let same : c.in-Ok.item ≡ value = (c.in-Ok.ensures.back value rest fits.is e).0 in
    false≢true (wrong ∙ ap (λ (item : IndexItem). is_next c.args.byte c.args.before.now item.id) same ∙ fits.next))
    (ap Some c.offset-start.ensures.value)

pub returns : goal.returns
unfolding field
returns c = record {
  fits = record { is = c.in-Ok.ensures.found.0; next = sym c.if-not-is_next.ensures };
  passed = c.in-Ok.ensures.found.1;
  back = λ other rest fits e. c.in-Ok.ensures.back other rest fits.is e;
}
