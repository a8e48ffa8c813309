use Rattle.std.proofs.Common.{ℕ, sym, ap, ◌∙◌, subst, take}
use Rattle.std.proofs.lemmas.Result.{err_from_is_err_and}
use Rattle.merge_view.specs.Tables.{whole}
use Rattle.journal_view.specs.View.{told}
use Rattle.backup_views.specs.StoredLaws.{tree_read}
use Rattle.backup_views.specs.Faults.{SaysOneDamaged}
use Rattle.backup_views.specs.Stored.{AreTableFiles}
use Rattle.backup_views.proofs.tables.read_tree.Goals as goal

pub returns-in_err-tables-clause-damaged : goal.returns-in_err-tables-clause-damaged
returns-in_err-tables-clause-damaged g c =
    let p = err_from_is_err_and c.from_residual.result c.from_residual.ensures.1 in
    rw p.1 (λ file found is.
    subst (λ (n : ℕ). SaysOneDamaged (told c.args.journal.now) c.args.host (take n c.args.lines.now) c.in_err-tables.field-0.0)
    c.depth-count.ensures.value c.in_err-tables.ensures.damaged file found (sym p.2 ∙ is))

pub returns-clause-tree : goal.returns-clause-tree
returns-clause-tree g c = λ all stored is_told are.
    tree_read all c.args.host c.depth-count.result c.args.lines.now stored c.in_ok-tables.tables.items c.in_ok-tree.tree c.depth-count.ensures.value are
    (λ front. c.in_ok-tables.ensures.one all (take c.depth-count.result stored) is_told front)
    (c.in_ok-tree.ensures.value ∙ ap whole (c.deref.ensures.value ∙ c.reverse.ensures.items))

pub returns-clause-tells : goal.returns-clause-tells
returns-clause-tells g c = λ all is_told. record {
  tables = c.in_ok-tables.tables.items;
  files = subst (λ (n : ℕ). AreTableFiles all c.args.host (take n c.args.lines.now) c.in_ok-tables.tables.items)
      c.depth-count.ensures.value (c.in_ok-tables.ensures.there all is_told);
  shown = c.in_ok-tree.ensures.value ∙ ap whole (c.deref.ensures.value ∙ c.reverse.ensures.items);
}
