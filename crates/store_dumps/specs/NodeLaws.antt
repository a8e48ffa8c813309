-- A node that is put: its item, its record, and the rows with it.
--     content_is      the content of an item is its bytes, if there are some
--     record_claims, found_claims, found_within      how often a record names an id, what was found, and all rows
--     rows_with, dump_with      rows and a dump with a node
use Rattle.std.specs.Prelude.{◌≡◌, ◌≤◌, ℕ, Bool, true, false, cond, List, [], ◌∷◌, length, Option, Some, None}
use Rattle.std.specs.declared.cmp.Ordering.{Ordering}
use Rattle.std.specs.declared.cmp.Ordering.TheVariants.{Less, Equal, Greater}
use Rattle.std.specs.Ordering.{is_eq}
use Rattle.std.specs.FinMap.Entries.{by_order}
use Rattle.std.proofs.Common.{refl, sym, ◌∙◌, arith}
use Rattle.disk_trait.specs.declared.ids.PoolId.{PoolId}
use Rattle.attr_records.specs.declared.nodes.Item.{Item}
use Rattle.attr_records.specs.declared.nodes.Item.TheVariants as I
use Rattle.attr_records.specs.Items.{some_bytes, content_of}
use Rattle.attr_records.specs.Paths.{path_cmp}
use Rattle.attr_records.specs.PathLaws.{path_cmp_total}
use Rattle.attr_records.specs.Trees.{node_at, with_node}
use Rattle.attr_tables.specs.declared.records.Record.{Record}
use Rattle.attr_tables.specs.declared.records.Record.TheVariants.{File, Dir, Link, Deleted}
use Rattle.attr_tables.specs.Records.{IsContentOf}
use Rattle.ordered_lists.specs.OrderLaws.{IsInOrder-put}
use Rattle.merge_view.specs.Views.{Rows, HasNoMarks, is_mark}
use Rattle.stored_trees.specs.Resolved.{bytes_of, resolved_item, IsTold, IsToldContent}
use Rattle.stored_trees.specs.ResolvedLaws.{with_node-resolved}
use Rattle.stored_trees.specs.ValueLaws.{AllValues-put}
use Rattle.stored_trees.specs.Occurrences.{occurrences}
use Rattle.open_sessions.specs.declared.sessions.OpenDump.{OpenDump}
use Rattle.receipts.specs.declared.session.Token.{Token}
use Rattle.open_sessions.specs.Opened.{AreRowsOf, IsDump, edited, keeping_behind, IsFreshFor}
use Rattle.open_sessions.specs.EditLaws.{IsDump-keeping}
use Rattle.open_sessions.specs.SessionLaws.{node_occurrences, found_occurrences}
use Rattle.tree_frames.specs.Frames.{bytes_of as item_bytes}
use Rattle.office_model.specs.Office.{Dump}
use Rattle.office_model.specs.events.Put as PutEvent
use Rattle.store_dumps.specs.Claims.{claims_of_content}
use Rattle.store_dumps.specs.Putting.{record_for, content_found}

-- ---- items and records

pub content_is : (item : Item) → content_of item ≡ some_bytes (item_bytes item)
content_is (I.File file) = refl
content_is (I.Dir dir) = refl
content_is (I.Link link) = refl

pub item_shown : (contents : PoolId → List ℕ) (item : Item) (content : Option PoolId) → bytes_of contents content ≡ item_bytes item
    → item ≡ resolved_item contents (record_for item content)
item_shown contents (I.File file) content e = λ i. I.File (record { attr = file.attr; group = file.group; bytes = sym e i })
item_shown contents (I.Dir dir) content e = refl
item_shown contents (I.Link link) content e = refl

pub record_told : (given : PoolId → Type 0) (contents : PoolId → List ℕ) (item : Item) (content : Option PoolId)
    → IsToldContent given contents (length (item_bytes item)) content → IsTold given contents (record_for item content)
record_told given contents (I.File file) content told = told
record_told given contents (I.Dir dir) content told = tt
record_told given contents (I.Link link) content told = tt

pub record_clean : (item : Item) (content : Option PoolId) → is_mark (record_for item content) ≡ false
record_clean (I.File file) content = refl
record_clean (I.Dir dir) content = refl
record_clean (I.Link link) content = refl

no_claim : (id : PoolId) (content : Option PoolId) → IsContentOf 0 content → 0 ≡ claims_of_content content id
no_claim id None shape = refl
no_claim id (Some other) shape = absurd (omega (arith, shape))

pub record_claims : (id : PoolId) (item : Item) (content : Option PoolId) → IsContentOf (length (item_bytes item)) content
    → node_occurrences id (record_for item content) ≡ claims_of_content content id
record_claims id (I.File file) content shape = refl
record_claims id (I.Dir dir) content shape = no_claim id content shape
record_claims id (I.Link link) content shape = no_claim id content shape

pub found_claims : (id : PoolId) (found : Option Record) → claims_of_content (content_found found) id ≡ found_occurrences id found
found_claims id None = refl
found_claims id (Some (File file)) = refl
found_claims id (Some (Dir dir)) = refl
found_claims id (Some (Link link)) = refl
found_claims id (Some Deleted) = refl

-- ---- rows with a node

pub found_within : (id : PoolId) (rows : Rows) (path : List ℕ) → found_occurrences id (node_at rows path) ≤ occurrences id rows
found_within id [] path = omega arith
found_within id (row ∷ rows) path = step (is_eq (path_cmp path row.0)) (found_within id rows path)
  where
    step : (b : Bool) → found_occurrences id (node_at rows path) ≤ occurrences id rows
        → found_occurrences id (cond b (Some row.1) (node_at rows path)) ≤ occurrences id (row ∷ rows)
    step true rest = omega arith
    step false rest = omega (arith, rest)

clean_with : (rows : Rows) (path : List ℕ) (node : Record) → is_mark node ≡ false → HasNoMarks rows → HasNoMarks (with_node rows path node)
clean_with [] path node clean all = (clean, tt)
clean_with (row ∷ rows) path node clean all = step (path_cmp path row.0) (clean_with rows path node clean all.1)
  where
    step : (r : Ordering) → HasNoMarks (with_node rows path node)
        → HasNoMarks (by_order r ((path, node) ∷ row ∷ rows) ((row.0, node) ∷ rows) (row ∷ with_node rows path node))
    step Less rest = (clean, all)
    step Equal rest = (clean, all.1)
    step Greater rest = (all.0, rest)

pub rows_with : (given : PoolId → Type 0) (contents : PoolId → List ℕ) (rows : Rows) (path : List ℕ) (node : Record) → is_mark node ≡ false
    → IsTold given contents node → AreRowsOf given contents rows → AreRowsOf given contents (with_node rows path node)
rows_with given contents rows path node clean told of = record {
  whole = record {
    in_order = IsInOrder-put path_cmp path_cmp_total path node rows of.whole.in_order;
    no_marks = clean_with rows path node clean of.whole.no_marks;
  };
  told = AllValues-put (IsTold given contents) path_cmp path node rows told of.told;
}

-- a dump with a node, which keeps the token, if there is one
abbrev pub with_record : OpenDump → List ℕ → Record → Option Token → OpenDump
with_record dump path node token = edited dump (with_node dump.tree path node) token

pub dump_with : (given : PoolId → Type 0) (contents : PoolId → List ℕ) (value : Dump) (dump : OpenDump) (path : List ℕ) (item : Item)
    (token : Option Token) (content : Option PoolId) → bytes_of contents content ≡ item_bytes item
    → IsToldContent given contents (length (item_bytes item)) content → IsFreshFor dump.kept token → IsDump given contents value dump
    → IsDump given contents (keeping_behind token (PutEvent.with_item value path item)) (with_record dump path (record_for item content) token)
dump_with given contents value dump path item token content shown told fresh is =
    IsDump-keeping given contents (PutEvent.with_item value path item)
    (record dump { tree = with_node dump.tree path (record_for item content) }) (record {
      name = is.name;
      host = is.host;
      kind = is.kind;
      start = is.start;
      base = is.base;
      base_rows = is.base_rows;
      tree =
          (λ i. with_node (is.tree i) path (item_shown contents item content shown i))
          ∙ sym (with_node-resolved contents dump.tree path (record_for item content));
      tree_rows = rows_with given contents dump.tree path (record_for item content) (record_clean item content)
          (record_told given contents item content told) is.tree_rows;
      token = is.token;
      kept = is.kept;
    }) token fresh
