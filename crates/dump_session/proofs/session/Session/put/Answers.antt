-- What is left is a dump again, with the node at its path.
use Rattle.std.proofs.Common.{◌≡◌, ◌+◌, ℕ, Bool, false, cond, List, length, None, is_some, sym, ap, ◌∙◌, subst}
use Rattle.std.specs.Arc.{arc_value}
use Rattle.attr_records.specs.Trees.{node_at, with_node, broken_rule}
use Rattle.attr_tables.specs.Records.{is_dir}
use Rattle.attr_tables.specs.declared.records.Record.{Record}
use Rattle.merge_view.specs.Views.{Rows, is_mark}
use Rattle.dump_session.specs.Edits.{AreEdits, edited}
use Rattle.dump_session.proofs.EditLaws.{edited-put}
use Rattle.dump_session.proofs.Sessions.{put_keeps, put_whole}
use Rattle.dump_session.proofs.session.Session.put.Goals as goal

keeps : {X : Type 0} (base : Rows) (removed : List (List ℕ × X)) (puts more tree : Rows) (count next : ℕ) (path : List ℕ) (node made : Record)
    → AreEdits base removed puts count → is_mark node ≡ false → edited base removed puts ≡ tree
    → more ≡ with_node puts path made → made ≡ node → next ≡ cond (is_some (node_at tree path)) (length tree) (length tree + 1)
    → AreEdits base removed more next
keeps base removed puts more tree count next path node made edits clean view put made_is next_is =
    put_keeps base removed puts more count next path node edits clean
    (put ∙ ap (with_node puts path) made_is)
    (next_is ∙ ap (λ t. cond (is_some (node_at t path)) (length t) (length t + 1)) (sym view))

pub invariant_of-self-2 : goal.invariant_of-self-2
invariant_of-self-2 c =
    keeps (arc_value c.self.inside.base) c.self.inside.removed.entries c.self.inside.puts.entries c.put_node.new.puts.entries c.args.self.now c.self.inside.count c.count_with-count.result c.args.path c.args.node c.new.result
    c.self.invariant c.requires.no_mark c.self.view_is c.in_ok-put_node.ensures.ok c.new.ensures c.count_with-count.ensures

pub returns-clause-put : goal.returns-clause-put
returns-clause-put c =
    ap (edited (arc_value c.self.inside.base) c.self.inside.removed.entries) (c.in_ok-put_node.ensures.ok ∙ ap (with_node c.self.inside.puts.entries c.args.path) c.new.ensures)
    ∙ edited-put (arc_value c.self.inside.base) c.self.inside.removed.entries c.self.inside.puts.entries c.self.invariant.base_in_order c.self.invariant.puts_in_order c.args.path c.args.node c.requires.no_mark
    ∙ ap (λ tree. with_node tree c.args.path c.args.node) c.self.view_is

pub returns-clause-whole : goal.returns-clause-whole
returns-clause-whole c = λ was.
    put_whole c.args.self.now _ c.args.path c.args.node c.requires.no_mark
    (ap (λ dir. broken_rule is_dir c.args.self.now c.args.path dir false) (sym c.is_dir.ensures) ∙ sym (c.in-None.ensures.exact was.is_tree))
    (returns-clause-put c) was
