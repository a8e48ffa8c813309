-- Laws of one node: nodes that are resolved alike are one.
use Rattle.std.specs.Prelude.{◌≡◌, ℕ, ◌==◌, Bool, true, false, ◌&&◌, List, [], length, Option, Some, None, bytes_eq}
use Rattle.std.specs.Cmp.{first_so, second_so}
use Rattle.std.specs.Cmp.Lexicographic.{bytes_decides}
use Rattle.std.proofs.Common.{refl, sym, ap, ◌∙◌, subst, arith}
use borrow.Author.Tests.{eqb-true, eq-eqb}
use Rattle.disk_trait.specs.declared.ids.PoolId.{PoolId}
use Rattle.attr_records.specs.declared.nodes.File.{File as FileItem}
use Rattle.attr_records.specs.declared.nodes.Dir.{Dir as DirItem}
use Rattle.attr_records.specs.declared.nodes.Link.{Link as LinkItem}
use Rattle.attr_records.specs.declared.nodes.Item.{Item}
use Rattle.attr_records.specs.declared.nodes.Item.TheVariants.{File as ItemFile, Dir as ItemDir, Link as ItemLink}
use Rattle.attr_tables.specs.declared.records.StoredFile.{StoredFile}
use Rattle.attr_tables.specs.declared.records.Record.{Record}
use Rattle.attr_tables.specs.declared.records.Record.TheVariants.{File, Dir, Link, Deleted}
use Rattle.attr_tables.specs.Records.{is_same_attr, is_same_link, is_same_record}
use Rattle.attr_tables.specs.RecordLaws.{same_attr, attr_itself, same_record, record_itself}
use Rattle.merge_view.specs.Views.{is_mark}
use Rattle.stored_trees.specs.Resolved.{bytes_of, resolved_file, resolved_item, Entry, resolved_entry, IsTold, IsToldContent, IsOneToOne}
use Rattle.stored_trees.specs.TreeViews.{is_same_item}

same_file : (a b : FileItem) → (is_same_attr a.attr b.attr && ((a.group == b.group) && bytes_eq a.bytes b.bytes)) ≡ true → a ≡ b
same_file a b e =
    let attr = same_attr a.attr b.attr (first_so _ _ e) in
    let rest = second_so (is_same_attr a.attr b.attr) ((a.group == b.group) && bytes_eq a.bytes b.bytes) e in
    let group = eqb-true a.group b.group (first_so _ _ rest) in
    let bytes = (bytes_decides a.bytes b.bytes).0 (second_so (a.group == b.group) (bytes_eq a.bytes b.bytes) rest) in
    λ i. record { attr = attr i; group = group i; bytes = bytes i }

same_dir : (a b : DirItem) → is_same_attr a.attr b.attr ≡ true → a ≡ b
same_dir a b e = let attr = same_attr a.attr b.attr e in λ i. record { attr = attr i }

same_link : (a b : LinkItem) → is_same_link a b ≡ true → a ≡ b
same_link a b e =
    let attr = same_attr a.attr b.attr (first_so _ _ e) in
    let target = (bytes_decides a.target b.target).0 (second_so (is_same_attr a.attr b.attr) (bytes_eq a.target b.target) e) in
    λ i. record { attr = attr i; target = target i }

pub same_item : (a b : Item) → is_same_item a b ≡ true → a ≡ b
same_item (ItemFile a) (ItemFile b) e = ap ItemFile (same_file a b e)
same_item (ItemDir a) (ItemDir b) e = ap ItemDir (same_dir a b e)
same_item (ItemLink a) (ItemLink b) e = ap ItemLink (same_link a b e)
same_item (ItemFile a) (ItemDir b) e = cc
same_item (ItemFile a) (ItemLink b) e = cc
same_item (ItemDir a) (ItemFile b) e = cc
same_item (ItemDir a) (ItemLink b) e = cc
same_item (ItemLink a) (ItemFile b) e = cc
same_item (ItemLink a) (ItemDir b) e = cc

pub item_itself : (a : Item) → is_same_item a a ≡ true
item_itself (ItemFile a) = λ i. attr_itself a.attr i && (eq-eqb a.group a.group refl i && (bytes_decides a.bytes a.bytes).1 refl i)
item_itself (ItemDir a) = attr_itself a.attr
item_itself (ItemLink a) = λ i. attr_itself a.attr i && (bytes_decides a.target a.target).1 refl i

pub alike : (a b : Bool) → (a ≡ true → b ≡ true) → (b ≡ true → a ≡ true) → a ≡ b
alike true b f g = sym (f refl)
alike false true f g = g refl
alike false false f g = refl

-- an entry that is no deletion mark has its node
pub unmarked_entry : (contents : PoolId → List ℕ) (a : Record) → is_mark a ≡ false
    → resolved_entry contents a ≡ Some (resolved_item contents a)
unmarked_entry contents (File file) clean = refl
unmarked_entry contents (Dir dir) clean = refl
unmarked_entry contents (Link link) clean = refl
unmarked_entry contents Deleted clean = cc

module _ (given : PoolId → Type 0) (contents : PoolId → List ℕ) (one : IsOneToOne given contents) where
  pub not_empty : (id : PoolId) → given id → [] ≡ contents id → ⊥
  not_empty id told e = let some = one.some id told in let n : length (contents id) ≡ 0 = ap length (sym e) in absurd (omega arith)

  same_content : (m n : ℕ) (c d : Option PoolId) → IsToldContent given contents m c → IsToldContent given contents n d
      → bytes_of contents c ≡ bytes_of contents d → (m ≡ n) × (c ≡ d)
  same_content m n None None g h e = (g ∙ sym h, refl)
  same_content m n None (Some d) g h e = absurd (not_empty d h.0 e)
  same_content m n (Some c) None g h e = absurd (not_empty c g.0 (sym e))
  same_content m n (Some c) (Some d) g h e = (g.1 ∙ ap length e ∙ sym h.1, ap Some (one.one c d g.0 h.0 e))

  abbrev file_part : (d : FileItem) → Entry → FileItem
  file_part d (Some (ItemFile file)) = file
  file_part d _ = d

  same_stored : (a b : StoredFile) → IsToldContent given contents a.size a.content → IsToldContent given contents b.size b.content
      → resolved_file contents a ≡ resolved_file contents b → a ≡ b
  same_stored a b g h e =
      let content = same_content a.size b.size a.content b.content g h (ap (λ f. f.bytes) e) in
      λ i. record { attr = (e i).attr; group = (e i).group; size = content.0 i; content = content.1 i }

  -- nodes that are resolved alike are one
  pub same_resolved : (a b : Record) → IsTold given contents a → IsTold given contents b
      → resolved_entry contents a ≡ resolved_entry contents b → a ≡ b
  same_resolved (File a) (File b) g h e = ap File (same_stored a b g h (ap (file_part (resolved_file contents a)) e))
  same_resolved (Dir a) (Dir b) g h e = let same : a ≡ b = cc in ap Dir same
  same_resolved (Link a) (Link b) g h e = let same : a ≡ b = cc in ap Link same
  same_resolved Deleted Deleted g h e = refl
  same_resolved (File a) (Dir b) g h e = cc
  same_resolved (File a) (Link b) g h e = cc
  same_resolved (File a) Deleted g h e = cc
  same_resolved (Dir a) (File b) g h e = cc
  same_resolved (Dir a) (Link b) g h e = cc
  same_resolved (Dir a) Deleted g h e = cc
  same_resolved (Link a) (File b) g h e = cc
  same_resolved (Link a) (Dir b) g h e = cc
  same_resolved (Link a) Deleted g h e = cc
  same_resolved Deleted (File b) g h e = cc
  same_resolved Deleted (Dir b) g h e = cc
  same_resolved Deleted (Link b) g h e = cc

  -- two nodes are one exactly if what they are resolved to is one
  pub same_test : (a b : Record) → IsTold given contents a → IsTold given contents b → is_mark a ≡ false → is_mark b ≡ false
      → is_same_record a b ≡ is_same_item (resolved_item contents a) (resolved_item contents b)
  same_test a b g h clean_a clean_b = alike (is_same_record a b) (is_same_item (resolved_item contents a) (resolved_item contents b))
      (λ e. subst (λ x. is_same_item (resolved_item contents a) (resolved_item contents x) ≡ true) (same_record a b e) (item_itself (resolved_item contents a)))
      (λ e. subst (λ x. is_same_record a x ≡ true)
      (same_resolved a b g h (unmarked_entry contents a clean_a ∙ ap Some (same_item (resolved_item contents a) (resolved_item contents b) e) ∙ sym (unmarked_entry contents b clean_b)))
      (record_itself a))
