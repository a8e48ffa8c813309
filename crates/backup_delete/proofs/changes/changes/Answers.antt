-- Behind all backups none stays yet, and nothing has changed.
use Rattle.std.proofs.Common.{◌≡◌, List, [], length, drop, sym, ap, ◌∙◌, arith}
use Rattle.std.proofs.lemmas.List.{drop_all}
use Rattle.backup_rules.specs.declared.lines.Line.{Line}
use Rattle.backup_delete.specs.Trees.{tree_of}
use Rattle.backup_delete.specs.Folds.{next_tree, changes}
use Rattle.backup_delete.proofs.changes.changes.Goals as goal

pub down-init : goal.down-init
down-init c =
    let lines = c.args.lines.now in
    let tables = drop (length lines) c.args.tables.now in
    let none : drop (length lines) lines ≡ [] = drop_all (length lines) lines (omega arith) in
    record {
      within = omega arith;
      walk = record {
        within = omega arith;
        end = omega arith;
        tree = ap (λ (ls : List Line). next_tree c.args.numbers.now ls tables) none ∙ sym (ap (λ (ls : List Line). tree_of ls tables) none);
      };
      stands = c.begun-tower.ensures c.args.tables.now;
      told = c.new-all.ensures.items ∙ sym (ap (λ (ls : List Line). changes c.args.numbers.now ls tables) none);
    }
