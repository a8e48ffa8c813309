-- The steps of a walk: a row is put in each, in the order of the tree.
use Rattle.std.specs.Prelude.{◌≡◌, ℕ, cond, List, [], ◌∷◌, ◌++◌, map, reverse, take, ◌-◌, ◌<◌, length, Option, Some, None, Ok, Err, ⊤}
use Rattle.std.specs.List.{filter}
use Rattle.std.proofs.Common.{refl, sym, ap, ◌∙◌, subst, append_assoc}
use Rattle.std.proofs.lemmas.List.{reverse-append, reverse-reverse, map-append, append-nil}
use Rattle.attr_records.specs.declared.nodes.Item.{Item}
use Rattle.attr_records.specs.Items.{Tree, is_dir}
use Rattle.attr_records.specs.Trees.{node_at, IsTree}
use Rattle.attr_records.specs.declared.nodes.Item.TheVariants as I
use Rattle.attr_records.specs.Names.{is_link_target}
use Rattle.folder_trait.specs.declared.found.FoundNode.{FoundNode}
use Rattle.folder_trait.specs.declared.found.FoundNode.TheVariants as N
use Rattle.folder_trait.specs.declared.found.FoundFile.{FoundFile}
use Rattle.folder_trait.specs.declared.found.FoundLink.{FoundLink}
use Rattle.folder_trait.specs.Folders.{found_of}
use Rattle.call_scripts.specs.Scripts.{Script, Begins, AreAnswered}
use Rattle.call_scripts.specs.ScriptLaws.{AreAnswered-append, EndRefused-append}
use Rattle.folder_laws.specs.CompareLaws.{stands_at}
use Rattle.office_model.specs.declared.refusal.Refusal.{Refusal}
use Rattle.folder_laws.specs.Walks.{children, is_open}
use Rattle.folder_laws.specs.WalkLaws.{first_open, open_more, open_first, node_between}
use Rattle.folder_laws.specs.Calls.{IsPut, ArePuts}
use Rattle.folder_laws.specs.DumpScript.{item_script, puts_script}
use Rattle.folder_laws.specs.DumpScriptLaws.{begins_some_puts, ArePuts-more}
use Rattle.receipts.specs.declared.session.SessionName.{SessionName}
use Rattle.office_model.specs.Step.{Call}
use Rattle.folder_walk.specs.declared.rows.Row.{Row}
use Rattle.folder_walk.specs.declared.refusals.DumpRefusal.{DumpRefusal}
use Rattle.folder_walk.specs.declared.refusals.DumpRefusal.TheVariants as D
use Rattle.folder_walk.specs.Rows.{row_found, rows_found}
use Rattle.folder_walk.specs.Causes.{refusal_of, IsNoRefusal, HasBadTarget, HasLargeFile, IsListFault, IsRowCause, IsCauseIn, IsDumpCause}
use Rattle.folder_walk.specs.Puts.{AnsweredOr, PutEnds, Grows, PutsRow, Walked, PutsSoFar, PutsOf, PutsAll}
use Rattle.folder_walk.proofs.EventLaws.{AreOfDump-append}

link_targets : (a b : FoundLink) → N.Link a ≡ N.Link b → a.target ≡ b.target
link_targets a b e = let same : a ≡ b = cc in ap (λ (l : FoundLink). l.target) same

file_sizes : (a b : FoundFile) → N.File a ≡ N.File b → a.size ≡ b.size
file_sizes a b e = let same : a ≡ b = cc in ap (λ (f : FoundFile). f.size) same

-- the row on top of the stack is the next of the tree
pub record IsNext (done rest : Tree) (front : List Row) (row : Row) : Type 0 where
  pub next : List ℕ × Item
  pub later : Tree
  pub rest_is : rest ≡ next ∷ later
  pub row_is : row ≡ row_found next
  pub front_is : reverse front ≡ map row_found (filter (is_open done) later)

next_of : (done rest : Tree) (front : List Row) (row : Row) → IsTree is_dir (done ++ rest)
    → reverse (front ++ row ∷ []) ≡ map row_found (filter (is_open done) rest) → IsNext done rest front row
next_of done [] front row is_tree stack = let clash : row ∷ reverse front ≡ [] = sym (reverse-append front (row ∷ [])) ∙ stack in absurd (cc)
next_of done (e ∷ rest) front row is_tree stack =
    let here : row ∷ reverse front ≡ row_found e ∷ map row_found (filter (is_open done) rest) =
    sym (reverse-append front (row ∷ [])) ∙ stack
    ∙ ap (λ b. map row_found (cond b (e ∷ filter (is_open done) rest) (filter (is_open done) rest))) (first_open done e rest is_tree) in
    record { next = e; later = rest; rest_is = refl; row_is = (cc); front_is = (cc) }

none_left : (done rest : Tree) → IsTree is_dir (done ++ rest) → reverse {A = Row} [] ≡ map row_found (filter (is_open done) rest) → rest ≡ []
none_left done [] is_tree stack = refl
none_left done (e ∷ rest) is_tree stack =
    let clash : [] ≡ row_found e ∷ map row_found (filter (is_open done) rest) =
    stack ∙ ap (λ b. map row_found (cond b (e ∷ filter (is_open done) rest) (filter (is_open done) rest))) (first_open done e rest is_tree) in
    absurd (cc)

snoc : {X : Type 0} (xs : List X) (x : X) (ys : List X) → xs ++ x ∷ ys ≡ (xs ++ x ∷ []) ++ ys
snoc xs x ys = sym (append_assoc xs (x ∷ []) ys)

module _ (dump : SessionName) (tree : Tree) (is_tree : IsTree is_dir tree) where
  -- the next row, with what the folder says of it
  pub record Next (calls : List Call) (front : List Row) (row : Row) : Type 0 where
    pub done : Tree
    pub next : List ℕ × Item
    pub later : Tree
    pub split : tree ≡ done ++ next ∷ later
    pub asked : ArePuts dump done calls
    pub row_is : row ≡ row_found next
    pub front_is : reverse front ≡ map row_found (filter (is_open done) later)
    pub at : node_at tree row.path ≡ Some next.1
    pub found : row.node ≡ found_of next.1

  pub next_row : (calls : List Call) (front : List Row) (row : Row) → Walked dump tree calls (front ++ row ∷ []) → Next calls front row
  next_row calls front row w =
      let n = next_of w.done w.rest front row (subst (λ t. IsTree is_dir t) w.split is_tree) w.stack in
      let split : tree ≡ w.done ++ n.next ∷ n.later = w.split ∙ ap (λ rows. w.done ++ rows) n.rest_is in
      record {
        done = w.done;
        next = n.next;
        later = n.later;
        split = split;
        asked = w.asked;
        row_is = n.row_is;
        front_is = n.front_is;
        at = ap (λ (r : Row). node_at tree r.path) n.row_is ∙ ap (λ t. node_at t n.next.0) split
            ∙ node_between w.done n.next n.later (subst (λ t. IsTree is_dir t) split is_tree).in_order;
        found = ap (λ (r : Row). r.node) n.row_is;
      }

  -- one more put
  pub walked_more : (calls more : List Call) (front pending : List Row) (row : Row) → Walked dump tree calls (front ++ row ∷ [])
      → ((item : Item) → node_at tree row.path ≡ Some item → row.node ≡ found_of item → PutEnds {A = ⊤} dump (row.path, item) more (Ok tt))
      → ((item : Item) → node_at tree row.path ≡ Some item → row.node ≡ found_of item → Grows tree row.path front pending (Ok tt))
      → Walked dump tree (calls ++ more) pending
  walked_more calls more front pending row w ends grows =
      let n = next_row calls front row w in
      let path_is : row.path ≡ n.next.0 = ap (λ (r : Row). r.path) n.row_is in
      let whole : IsTree is_dir (n.done ++ n.next ∷ n.later) = subst (λ t. IsTree is_dir t) n.split is_tree in
      let put : IsPut dump n.next more = subst (λ p. IsPut dump (p, n.next.1) more) path_is (ends n.next.1 n.at n.found) in
      let grown : pending ≡ front ++ reverse (rows_found tree (Some n.next.0)) =
      grows n.next.1 n.at n.found ∙ ap (λ p. front ++ reverse (rows_found tree (Some p))) path_is in
      record {
        done = n.done ++ n.next ∷ [];
        rest = n.later;
        split = n.split ∙ snoc n.done n.next n.later;
        asked = ArePuts-more dump n.done n.next calls more n.asked put;
        stack = ap reverse grown ∙ reverse-append front (reverse (rows_found tree (Some n.next.0)))
            ∙ (λ i. reverse-reverse (rows_found tree (Some n.next.0)) i ++ n.front_is i)
            ∙ sym (map-append row_found (children tree (Some n.next.0)) (filter (is_open n.done) n.later))
            ∙ ap (λ t. map row_found (children t (Some n.next.0) ++ filter (is_open n.done) n.later)) n.split
            ∙ ap (map row_found) (sym (open_more n.done n.next n.later whole));
      }

  pub walked_first : (pending : List Row) → pending ≡ [] ++ reverse (rows_found tree None) → Walked dump tree [] pending
  walked_first pending are = record {
    done = [];
    rest = tree;
    split = refl;
    asked = refl;
    stack = ap reverse are ∙ reverse-reverse (rows_found tree None) ∙ ap (map row_found) (sym (open_first tree));
  }

  pub walked_all : (calls : List Call) → Walked dump tree calls [] → ArePuts dump tree calls
  walked_all calls w =
      let bare : w.rest ≡ [] = none_left w.done w.rest (subst (λ t. IsTree is_dir t) w.split is_tree) w.stack in
      subst (λ rows. ArePuts dump rows calls) (sym (append-nil w.done) ∙ ap (λ rows. w.done ++ rows) (sym bare) ∙ sym w.split) w.asked

  -- rows were put, and behind them what begins the script of the others
  begun : (calls more : List Call) (done rest : Tree) (next : Script) → ArePuts dump done calls → tree ≡ done ++ rest
      → Begins (puts_script dump rest next) more → Begins (puts_script dump tree next) (calls ++ more)
  begun calls more done rest next asked split begins =
      subst (λ t. Begins (puts_script dump t next) (calls ++ more)) (sym split) (begins_some_puts dump done rest calls next more asked begins)

  pub walked_memory : (calls : List Call) (pending : List Row) → Walked dump tree calls pending → PutsOf dump tree calls (Err D.Memory)
  walked_memory calls pending w next =
      subst (λ cs. Begins (puts_script dump tree next) cs) (append-nil calls) (begun calls [] w.done w.rest next w.asked w.split tt)

  -- the walk ended at a row
  pub walked_failed : (calls more : List Call) (front : List Row) (row : Row) (fault : DumpRefusal) → Walked dump tree calls (front ++ row ∷ [])
      → ((item : Item) → node_at tree row.path ≡ Some item → row.node ≡ found_of item → PutEnds {A = ⊤} dump (row.path, item) more (Err fault))
      → PutsOf dump tree (calls ++ more) (Err fault)
  walked_failed calls more front row fault w ends next =
      let n = next_row calls front row w in
      let path_is : row.path ≡ n.next.0 = ap (λ (r : Row). r.path) n.row_is in
      begun calls more n.done (n.next ∷ n.later) next n.asked n.split
      (subst (λ p. Begins (item_script dump p n.next.1 (puts_script dump n.later next)) more) path_is
      (ends n.next.1 n.at n.found (puts_script dump n.later next)))

-- answered calls come before
pub AnsweredOr-behind : (o : Option Refusal) (xs ys : List Call) → AreAnswered xs → AnsweredOr o ys → AnsweredOr o (xs ++ ys)
AnsweredOr-behind None xs ys a b = AreAnswered-append xs ys a b
AnsweredOr-behind (Some refusal) xs ys a b = EndRefused-append xs ys refusal a b

-- ---- the cause of a failure

-- what a row is refused for, the folder's tree has
pub caused_at : (told : Option Tree) (tree : Tree) (node : FoundNode) (path : List ℕ) (item : Item) (fault : DumpRefusal) → told ≡ Some tree
    → node_at tree path ≡ Some item → node ≡ found_of item → IsRowCause told node fault → IsCauseIn tree fault
caused_at told tree node path item (D.Refused refusal) is at found cause = tt
caused_at told tree node path item (D.BadPath rule) is at found cause = cause tree is
caused_at told tree node path item D.BadTarget is at found cause = step item at (sym cause.1 ∙ found)
  where
    step : (item : Item) → node_at tree path ≡ Some item → N.Link cause.0 ≡ found_of item → HasBadTarget tree
    step (I.File f) at is = absurd (cc)
    step (I.Dir d) at is = absurd (cc)
    step (I.Link l) at is = record {
      path = path;
      link = l;
      stands = stands_at tree path (I.Link l) at;
      broken = ap is_link_target (sym (link_targets cause.0 (record { attr = l.attr; target = l.target }) is)) ∙ cause.2;
    }
caused_at told tree node path item D.FileTooLarge is at found cause = step item at (sym cause.1 ∙ found)
  where
    step : (item : Item) → node_at tree path ≡ Some item → N.File cause.0 ≡ found_of item → HasLargeFile tree
    step (I.File f) at is = record {
      path = path;
      file = f;
      stands = stands_at tree path (I.File f) at;
      large = subst (λ n. 1099511627775 < n) (file_sizes cause.0 (record { attr = f.attr; group = f.group; size = length f.bytes }) is) cause.2;
    }
    step (I.Dir d) at is = absurd (cc)
    step (I.Link l) at is = absurd (cc)
caused_at told tree node path item D.Folder is at found cause = tt
caused_at told tree node path item D.Memory is at found cause = tt

-- what a listing is refused for
pub list_cause : (told : Option Tree) (fault : DumpRefusal) → IsListFault told fault → IsDumpCause told fault
list_cause told (D.Refused refusal) cause = absurd cause
list_cause told (D.BadPath rule) cause = cause
list_cause told D.BadTarget cause = absurd cause
list_cause told D.FileTooLarge cause = absurd cause
list_cause told D.Folder cause = λ tree is. tt
list_cause told D.Memory cause = λ tree is. tt

pub list_unrefused : (told : Option Tree) (fault : DumpRefusal) → IsListFault told fault → IsNoRefusal fault
list_unrefused told (D.Refused refusal) cause = absurd cause
list_unrefused told (D.BadPath rule) cause = refl
list_unrefused told D.BadTarget cause = refl
list_unrefused told D.FileTooLarge cause = refl
list_unrefused told D.Folder cause = refl
list_unrefused told D.Memory cause = refl

-- ---- over a port

module _ {P : Type 0} (moves : P → List Call → P → Type 0) (joined : (p q r : P) (xs ys : List Call) → moves p xs q → moves q ys r → moves p (xs ++ ys) r)
    (none : (p : P) → moves p [] p) (told : Option Tree) (dump : SessionName) where
  pub puts_first : (port : P) (pending : List Row) → ((tree : Tree) → told ≡ Some tree → pending ≡ [] ++ reverse (rows_found tree None))
      → PutsSoFar moves port port told dump pending
  puts_first port pending are = record { calls = []; moved = none port; answered = tt; of_dump = tt; walked = λ tree is is_tree. walked_first dump tree is_tree pending (are tree is) }

  pub puts_more : (old mid new : P) (front pending : List Row) (row : Row) → PutsSoFar moves old mid told dump (front ++ row ∷ [])
      → PutsRow moves mid new told dump row front pending (Ok tt) → PutsSoFar moves old new told dump pending
  puts_more old mid new front pending row so_far put = record {
    calls = so_far.calls ++ put.calls;
    moved = joined old mid new so_far.calls put.calls so_far.moved put.moved;
    answered = AreAnswered-append so_far.calls put.calls so_far.answered put.so;
    of_dump = AreOfDump-append so_far.calls put.calls so_far.of_dump put.of_dump;
    walked = λ tree is is_tree. walked_more dump tree is_tree so_far.calls put.calls front pending row (so_far.walked tree is is_tree) (put.ends tree is) (put.grows tree is is_tree);
  }

  pub puts_all : (old new : P) → PutsSoFar moves old new told dump [] → PutsAll moves old new told dump (Ok tt)
  puts_all old new so_far = record { calls = so_far.calls; moved = so_far.moved; so = so_far.answered; of_dump = so_far.of_dump; puts = λ tree is is_tree. walked_all dump tree is_tree so_far.calls (so_far.walked tree is is_tree) }

  pub puts_memory : (old new : P) (pending : List Row) → PutsSoFar moves old new told dump pending → PutsAll moves old new told dump (Err D.Memory)
  puts_memory old new pending so_far = record { calls = so_far.calls; moved = so_far.moved; so = so_far.answered; of_dump = so_far.of_dump; puts = λ tree is is_tree. walked_memory dump tree is_tree so_far.calls pending (so_far.walked tree is is_tree) }

  pub puts_failed : (old mid new : P) (front pending : List Row) (row : Row) (fault : DumpRefusal) → PutsSoFar moves old mid told dump (front ++ row ∷ [])
      → PutsRow moves mid new told dump row front pending (Err fault) → PutsAll moves old new told dump (Err fault)
  puts_failed old mid new front pending row fault so_far put = record {
    calls = so_far.calls ++ put.calls;
    moved = joined old mid new so_far.calls put.calls so_far.moved put.moved;
    so = AnsweredOr-behind (refusal_of fault) so_far.calls put.calls so_far.answered put.so;
    of_dump = AreOfDump-append so_far.calls put.calls so_far.of_dump put.of_dump;
    puts = λ tree is is_tree. walked_failed dump tree is_tree so_far.calls put.calls front row fault (so_far.walked tree is is_tree) (put.ends tree is);
  }

  -- nothing was listed
  pub puts_nothing : (port : P) (fault : DumpRefusal) → IsNoRefusal fault → PutsAll moves port port told dump (Err fault)
  puts_nothing port fault unrefused = record {
    calls = [];
    moved = none port;
    so = subst (λ (r : Option Refusal). AnsweredOr r []) (sym unrefused) tt;
    of_dump = tt;
    puts = λ tree is is_tree next. tt;
  }

  -- the same as a loop's turn has it: what is told, and the stack before its last row was taken
  pub puts_next : (told' : Option Tree) (old mid new : P) (items front pending : List Row) (row : Row) → told' ≡ told → items ≡ front ++ row ∷ []
      → PutsSoFar moves old mid told dump items → PutsRow moves mid new told' dump row front pending (Ok tt) → PutsSoFar moves old new told dump pending
  puts_next told' old mid new items front pending row same taken so_far put =
      puts_more old mid new front pending row (subst (λ xs. PutsSoFar moves old mid told dump xs) taken so_far)
      (subst (λ t. PutsRow moves mid new t dump row front pending (Ok tt)) same put)

  pub puts_broken : (told' : Option Tree) (old mid new : P) (items front pending : List Row) (row : Row) (fault : DumpRefusal) → told' ≡ told
      → items ≡ front ++ row ∷ [] → PutsSoFar moves old mid told dump items → PutsRow moves mid new told' dump row front pending (Err fault)
      → PutsAll moves old new told dump (Err fault)
  puts_broken told' old mid new items front pending row fault same taken so_far put =
      puts_failed old mid new front pending row fault (subst (λ xs. PutsSoFar moves old mid told dump xs) taken so_far)
      (subst (λ t. PutsRow moves mid new t dump row front pending (Err fault)) same put)

  pub puts_done : (old new : P) (items front : List Row) (len : ℕ) → len ≡ 0 → front ≡ take (len - 1) items → items ≡ front ++ []
      → PutsSoFar moves old new told dump items → PutsAll moves old new told dump (Ok tt)
  puts_done old new items front len empty rest taken so_far =
      let none_before : front ≡ [] = rest ∙ ap (λ n. take (n - 1) items) empty in
      puts_all old new (subst (λ xs. PutsSoFar moves old new told dump xs) (taken ∙ ap (λ xs. xs ++ []) none_before) so_far)

  pub puts_begun : (port : P) (blank pending rows : List Row) → blank ≡ [] → pending ≡ blank ++ reverse rows
      → ((tree : Tree) → told ≡ Some tree → rows ≡ rows_found tree None) → PutsSoFar moves port port told dump pending
  puts_begun port blank pending rows none_yet pushed listed =
      puts_first port pending (λ tree is. pushed ∙ (λ i. none_yet i ++ reverse (listed tree is i)))

  -- the cause of the failure of a loop's turn
  pub cause_of_turn : (told' : Option Tree) (old mid : P) (items front : List Row) (row : Row) (fault : DumpRefusal) → told' ≡ told
      → ((tree : Tree) → told ≡ Some tree → IsTree is_dir tree) → items ≡ front ++ row ∷ []
      → PutsSoFar moves old mid told dump items → IsRowCause told' row.node fault → IsDumpCause told fault
  cause_of_turn told' old mid items front row fault same trees taken so_far cause =
      λ tree is.
      let walked : Walked dump tree so_far.calls (front ++ row ∷ []) =
      subst (λ xs. Walked dump tree so_far.calls xs) taken (so_far.walked tree is (trees tree is)) in
      let n = next_row dump tree (trees tree is) so_far.calls front row walked in
      caused_at told' tree row.node row.path n.next.1 fault (same ∙ is) n.at n.found cause
