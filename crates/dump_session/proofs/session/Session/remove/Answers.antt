-- What is left is a dump again, with fewer paths.
use Rattle.std.proofs.Common.{◌≡◌, ◌≤◌, ◌-◌, ℕ, List, length, refl, sym, ap, ◌∙◌, arith}
use Rattle.std.specs.Arc.{arc_value}
use Rattle.attr_records.specs.Paths.{path_cmp}
use Rattle.ordered_lists.specs.Order.{IsInOrder}
use Rattle.attr_records.specs.Trees.{without}
use Rattle.merge_view.specs.Views.{Rows}
use Rattle.merge_view.specs.Runs.{within_rows}
use Rattle.dump_session.specs.Removed.{IsApart}
use Rattle.dump_session.specs.Edits.{AreEdits, edited}
use Rattle.dump_session.proofs.Sessions.{remove_keeps, remove_whole, taken-le}
use Rattle.dump_session.proofs.session.Session.remove.Goals as goal

fewer_paths : {X : Type 0} (base slice : Rows) (removed : List (List ℕ × X)) (puts : Rows) (count taken : ℕ) (path : List ℕ)
    → AreEdits base removed puts count → slice ≡ base → taken ≡ length (within_rows path (edited slice removed puts)) → taken ≤ count
fewer_paths base slice removed puts count taken path edits is taken_is =
    let e : taken ≡ length (within_rows path (edited base removed puts)) = taken_is ∙ ap (λ rows. length (within_rows path (edited rows removed puts))) is in
    omega (arith, e, taken-le base removed puts path, edits.count_is)

pub overflow_sub-self : goal.overflow_sub-self
overflow_sub-self c =
    fewer_paths (arc_value c.self.inside.base) c.rows.result.now c.self.inside.removed.entries c.self.inside.puts.entries c.self.inside.count c.in_ok-count.count c.args.path.now c.self.invariant (c.rows.ensures.rows ∙ c.deref.ensures) c.in_ok-count.ensures.count

keeps : {X : Type 0} (base slice : Rows) (removed left : List (List ℕ × X)) (puts fewer : Rows) (count taken : ℕ) (path : List ℕ)
    → AreEdits base removed puts count → slice ≡ base → IsInOrder path_cmp left → IsApart left
    → edited slice left fewer ≡ without (edited slice removed puts) path → fewer ≡ without puts path
    → taken ≡ length (within_rows path (edited slice removed puts)) → AreEdits base left fewer (count - taken)
keeps base slice removed left puts fewer count taken path edits is order apart tree fewer_is taken_is =
    remove_keeps base removed left puts fewer count taken (count - taken) path edits order apart
    (ap (λ rows. edited rows left fewer) (sym is) ∙ tree ∙ ap (λ rows. without (edited rows removed puts) path) is) fewer_is
    (taken_is ∙ ap (λ rows. length (within_rows path (edited rows removed puts))) is) refl

pub invariant_of-self-2 : goal.invariant_of-self-2
invariant_of-self-2 c =
    keeps (arc_value c.self.inside.base) c.rows.result.now c.self.inside.removed.entries c.take_out.new.removed.entries c.self.inside.puts.entries c.take_out.new.puts.entries c.self.inside.count c.in_ok-count.count c.args.path.now c.self.invariant
    (c.rows.ensures.rows ∙ c.deref.ensures) c.in_ok-count.ensures.removed_order c.in_ok-count.ensures.apart c.in_ok-count.ensures.tree c.in_ok-count.ensures.puts c.in_ok-count.ensures.count

pub returns-clause-whole : goal.returns-clause-whole
returns-clause-whole c = λ was.
    let base = c.rows.ensures.rows ∙ c.deref.ensures in
    remove_whole c.args.self.now _ c.args.path.now
    (ap (λ rows. edited rows c.take_out.new.removed.entries c.take_out.new.puts.entries) (sym base) ∙ c.in_ok-count.ensures.tree
    ∙ ap (λ rows. without (edited rows c.self.inside.removed.entries c.self.inside.puts.entries) c.args.path.now) base
    ∙ ap (λ tree. without tree c.args.path.now) c.self.view_is) was
