-- Where no item stands, or one that may not stand there.
use Rattle.std.proofs.Common.{◌≡◌, ℕ, false, Some, ap, sym, ◌∙◌}
use Rattle.std.proofs.lemmas.Bool.{false≢true}
use Rattle.disk_trait.specs.declared.ids.PoolId.{PoolId}
use Rattle.ordered_lists.specs.Order.{is_after}
use Rattle.wire_bytes.specs.Grammar.{field}
use Rattle.wire_bytes.specs.GrammarLaws.{none_refuses}
use Rattle.pool_index.specs.Items.{id_cmp}
use Rattle.ref_counts.specs.Layout.{item_bytes}
use Rattle.ref_counts.proofs.reading.read_next.Goals as goal

pub returns-in-Err : goal.returns-in-Err
returns-in-Err c = none_refuses item_bytes (λ value rest fits e. c.in-Err.ensures.back value rest fits.0 e) (ap Some c.offset-start.ensures.value)

pub returns-then-not-is_after : goal.returns-then-not-is_after
returns-then-not-is_after c =
    let wrong : false ≡ is_after id_cmp c.args.before.now c.in-Ok.item.0 = c.if-not-is_after.ensures ∙ ap (is_after id_cmp c.args.before.now) c.id.ensures in
    none_refuses item_bytes
    (λ value rest fits e.
    let same : c.in-Ok.item ≡ value = (c.in-Ok.ensures.back value rest fits.0 e).0 in
    false≢true (wrong ∙ ap (λ (item : PoolId × ℕ). is_after id_cmp c.args.before.now item.0) same ∙ fits.1))
    (ap Some c.offset-start.ensures.value)

pub returns : goal.returns
unfolding field
returns c = record {
  fits = (c.in-Ok.ensures.found.0, sym (c.if-not-is_after.ensures ∙ ap (is_after id_cmp c.args.before.now) c.id.ensures));
  passed = c.in-Ok.ensures.found.1;
  back = λ other rest fits e. c.in-Ok.ensures.back other rest fits.0 e;
}
