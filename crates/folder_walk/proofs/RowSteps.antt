-- The step of a walk at a row: its put, and what lies in it.
use Rattle.std.specs.Prelude.{◌≡◌, ℕ, Bool, true, false, cond, List, [], ◌∷◌, ◌++◌, map, reverse, Option, Some, None, Ok, Err, ⊤, is_some, bytes_eq}
use Rattle.std.specs.List.{filter}
use Rattle.std.specs.Option.{option_eq}
use Rattle.std.proofs.Common.{refl, sym, ap, ◌∙◌, subst, append_assoc}
use Rattle.std.proofs.lemmas.Bool.{true≢false}
use Rattle.std.proofs.lemmas.List.{append-nil}
use Rattle.std.proofs.lemmas.Slice.Eq.{bytes_eq-Decides}
use Rattle.attr_records.specs.declared.nodes.Item.{Item}
use Rattle.attr_records.specs.declared.nodes.Item.TheVariants as I
use Rattle.attr_records.specs.Items.{Tree, is_dir}
use Rattle.attr_records.specs.Paths.{parent}
use Rattle.attr_records.specs.PathLaws.{parent-parts}
use Rattle.attr_records.specs.Trees.{node_at, is_dir_found, IsTree}
use Rattle.folder_trait.specs.declared.found.FoundNode.{FoundNode}
use Rattle.folder_trait.specs.Folders.{is_child, found_of}
use Rattle.folder_laws.specs.Walks.{children}
use Rattle.folder_laws.specs.WalkLaws.{node_between}
use Rattle.receipts.specs.declared.session.SessionName.{SessionName}
use Rattle.office_model.specs.Step.{Call}
use Rattle.call_scripts.specs.Scripts.{Begins}
use Rattle.folder_laws.specs.DumpScript.{item_script}
use Rattle.folder_laws.specs.DumpScriptLaws.{begins_put}
use Rattle.folder_walk.specs.declared.rows.Row.{Row}
use Rattle.folder_walk.specs.declared.refusals.DumpRefusal.{DumpRefusal}
use Rattle.folder_walk.specs.declared.refusals.DumpRefusal.TheVariants as D
use Rattle.office_model.specs.declared.event.Event.{Event}
use Rattle.office_model.specs.declared.refusal.Refusal.{Refusal}
use Rattle.folder_walk.specs.Rows.{row_found, rows_found, is_dir_node}
use Rattle.folder_walk.specs.Causes.{IsNoRefusal, IsListFault, IsRowCause}
use Rattle.folder_walk.specs.Puts.{AnsweredOr, IsCallFault, PutsEntry, PutsRow}

is_child-parent : (d q : List ℕ) → is_child (Some d) q ≡ true → parent q ≡ Some d
is_child-parent d q e = step (parent q) e
  where
    step : (above : Option (List ℕ)) → option_eq bytes_eq above (Some d) ≡ true → above ≡ Some d
    step None h = absurd (true≢false (sym h))
    step (Some found) h = ap Some ((bytes_eq-Decides found d).0 h)

-- nothing lies in what is no directory
no_children : (tree : Tree) (path : List ℕ) (item : Item) → IsTree is_dir tree → node_at tree path ≡ Some item → is_dir item ≡ false
    → children tree (Some path) ≡ []
no_children tree path item is_tree at leaf = none [] tree refl
  where
    none : (before rest : Tree) → tree ≡ before ++ rest → filter (λ (row : List ℕ × Item). is_child (Some path) row.0) rest ≡ []
    none before [] split = refl
    none before (row ∷ rest) split =
        step (is_child (Some path) row.0) refl (none (before ++ row ∷ []) rest (split ∙ sym (append_assoc before (row ∷ []) rest)))
      where
        step : (b : Bool) → is_child (Some path) row.0 ≡ b → filter (λ (r : List ℕ × Item). is_child (Some path) r.0) rest ≡ []
            → cond b (row ∷ filter (λ (r : List ℕ × Item). is_child (Some path) r.0) rest) (filter (λ (r : List ℕ × Item). is_child (Some path) r.0) rest) ≡ []
        step false lies more = more
        step true lies more =
            let parts = parent-parts row.0 path (is_child-parent path row.0 lies) in
            let there : node_at tree row.0 ≡ Some row.1 =
            ap (λ t. node_at t row.0) split ∙ node_between before row rest (subst (λ t. IsTree is_dir t) split is_tree).in_order in
            let dir : is_dir_found is_dir (node_at tree path) ≡ true =
            is_tree.parents path parts.0 (ap (λ q. is_some (node_at tree q)) (sym parts.1) ∙ ap is_some there) in
            absurd (true≢false (sym dir ∙ ap (is_dir_found is_dir) at ∙ leaf))

kind_of_found : (item : Item) → is_dir_node (found_of item) ≡ is_dir item
kind_of_found (I.File file) = refl
kind_of_found (I.Dir dir) = refl
kind_of_found (I.Link link) = refl

-- why a listing failed is why its row's step failed
pub row_cause : (told : Option Tree) (node : FoundNode) (fault : DumpRefusal) → IsListFault told fault → IsRowCause told node fault
row_cause told node (D.Refused refusal) cause = absurd cause
row_cause told node (D.BadPath rule) cause = cause
row_cause told node D.BadTarget cause = absurd cause
row_cause told node D.FileTooLarge cause = absurd cause
row_cause told node D.Folder cause = tt
row_cause told node D.Memory cause = tt

-- and so is a refusal of its call
pub call_cause : {P : Type 0} (moves : P → List Call → P → Type 0) (old new : P) (told : Option Tree) (node : FoundNode) (event : Event)
    (fault : DumpRefusal) → IsCallFault moves old new event fault → IsRowCause told node fault
call_cause moves old new told node event (D.Refused refusal) refused = tt
call_cause moves old new told node event (D.BadPath rule) refused = absurd refused
call_cause moves old new told node event D.BadTarget refused = absurd refused
call_cause moves old new told node event D.FileTooLarge refused = absurd refused
call_cause moves old new told node event D.Folder refused = absurd refused
call_cause moves old new told node event D.Memory refused = absurd refused

module _ {P : Type 0} (moves : P → List Call → P → Type 0) (old new : P) (told : Option Tree) (dump : SessionName) (row : Row) where
  pub row_failed : (pending pending' : List Row) (fault : DumpRefusal) → PutsEntry {A = ⊤} moves old new told dump row.path row.node (Err fault)
      → PutsRow moves old new told dump row pending pending' (Err fault)
  row_failed pending pending' fault put = record {
    calls = put.calls;
    moved = put.moved;
    so = put.so;
    of_dump = put.of_dump;
    ends = put.ends;
    grows = λ tree is is_tree item at found. tt;
  }

  pub row_leaf : (pending : List Row) → PutsEntry {A = ⊤} moves old new told dump row.path row.node (Ok tt) → is_dir_node row.node ≡ false
      → PutsRow moves old new told dump row pending pending (Ok tt)
  row_leaf pending put leaf = record {
    calls = put.calls;
    moved = put.moved;
    so = put.so;
    of_dump = put.of_dump;
    ends = put.ends;
    grows = λ tree is is_tree item at found.
        sym (append-nil pending)
        ∙ ap (λ (rows : Tree). pending ++ reverse (map row_found rows))
        (sym (no_children tree row.path item is_tree at (sym (kind_of_found item) ∙ ap is_dir_node (sym found) ∙ leaf)));
  }

  pub row_dir : (pending pending' : List Row) → PutsEntry {A = ⊤} moves old new told dump row.path row.node (Ok tt)
      → ((tree : Tree) → told ≡ Some tree → pending' ≡ pending ++ reverse (rows_found tree (Some row.path)))
      → PutsRow moves old new told dump row pending pending' (Ok tt)
  row_dir pending pending' put pushed = record {
    calls = put.calls;
    moved = put.moved;
    so = put.so;
    of_dump = put.of_dump;
    ends = put.ends;
    grows = λ tree is is_tree item at found. pushed tree is;
  }

  pub row_unlisted : (pending pending' : List Row) (fault : DumpRefusal) → PutsEntry {A = ⊤} moves old new told dump row.path row.node (Ok tt)
      → IsNoRefusal fault → PutsRow moves old new told dump row pending pending' (Err fault)
  row_unlisted pending pending' fault put unrefused = record {
    calls = put.calls;
    moved = put.moved;
    so = subst (λ (r : Option Refusal). AnsweredOr r put.calls) (sym unrefused) put.so;
    of_dump = put.of_dump;
    ends = λ tree is item at found next.
        subst (λ cs. Begins (item_script dump row.path item next) cs) (append-nil put.calls)
        (begins_put dump (row.path, item) put.calls next [] (put.ends tree is item at found) tt);
    grows = λ tree is is_tree item at found. tt;
  }
