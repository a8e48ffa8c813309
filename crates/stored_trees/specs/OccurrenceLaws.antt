-- Rows name an id as often as their tree has its content.
use Rattle.std.specs.Prelude.{◌≡◌, ℕ, ◌+◌, ◌<◌, true, List, [], ◌∷◌, length, Option, Some, None, bytes_eq, if◌then◌else◌}
use Rattle.std.specs.List.{cons_option}
use Rattle.std.specs.Cmp.Lexicographic.{bytes_decides}
use Rattle.std.proofs.Common.{refl, sym, ap, ◌∙◌, subst, arith}
use Rattle.disk_trait.specs.declared.ids.PoolId.{PoolId}
use Rattle.attr_records.specs.Items.{some_bytes, contents}
use Rattle.attr_tables.specs.declared.records.Record.{Record}
use Rattle.attr_tables.specs.declared.records.Record.TheVariants.{File, Dir, Link, Deleted}
use Rattle.attr_tables.specs.Records.{is_same_id}
use Rattle.attr_tables.specs.RecordLaws.{same_id, id_itself}
use Rattle.merge_view.specs.Views.{Rows}
use Rattle.stored_trees.specs.Resolved.{bytes_of, resolved_item, resolved, IsTold, IsToldContent, AreTold, IsOneToOne}
use Rattle.stored_trees.specs.Occurrences.{is_content, names, occurrences, times}
use Rattle.stored_trees.specs.NodeLaws.{alike}

nothing_more : (n : ℕ) → n ≡ 0 + n
nothing_more n = omega arith

module _ (given : PoolId → Type 0) (told : PoolId → List ℕ) (one : IsOneToOne given told) where
  -- an id is a content of its own exactly where its bytes are
  same_bytes : (other id : PoolId) → given other → given id → bytes_eq (told other) (told id) ≡ is_same_id other id
  same_bytes other id g h = alike (bytes_eq (told other) (told id)) (is_same_id other id)
      (λ e. subst (λ x. is_same_id other x ≡ true) (one.one other id g h ((bytes_decides (told other) (told id)).0 e)) (id_itself other))
      (λ e. (bytes_decides (told other) (told id)).1 (ap told (same_id other id e)))

  -- a content with its bytes is one more of them
  one_more : (size : ℕ) (content : Option PoolId) (id : PoolId) (others : List (List ℕ)) → given id → IsToldContent given told size content
      → times (told id) (cons_option (some_bytes (bytes_of told content)) others) ≡ (if is_content id content then 1 else 0) + times (told id) others
  one_more size None id others h g = nothing_more (times (told id) others)
  one_more size (Some other) id others h g =
      some (told other) refl ∙ ap (λ b. (if b then 1 else 0) + times (told id) others) (same_bytes other id g.0 h)
    where
      some : (bytes : List ℕ) → told other ≡ bytes
          → times (told id) (cons_option (some_bytes (told other)) others) ≡ (if bytes_eq (told other) (told id) then 1 else 0) + times (told id) others
      some [] e =
          let n : 0 < length (told other) = one.some other g.0 in let none : length (told other) ≡ 0 = ap length e in absurd (omega arith)
      some (byte ∷ bytes) e =
          ap (λ x. times (told id) (cons_option (some_bytes x) others)) e
          ∙ ap (λ x. (if bytes_eq x (told id) then 1 else 0) + times (told id) others) (sym e)

  -- rows name an id as often as their tree has its content
  pub occurrences-resolved : (id : PoolId) (rows : Rows) → given id → AreTold given told rows
      → occurrences id rows ≡ times (told id) (contents (resolved told rows))
  occurrences-resolved id [] h g = refl
  occurrences-resolved id (row ∷ rows) h g =
      ap (λ n. (if names id row.1 then 1 else 0) + n) (occurrences-resolved id rows h g.1) ∙ sym (cases row.1 g.0)
    where
      cases : (node : Record) → IsTold given told node
          → times (told id) (contents ((row.0, resolved_item told node) ∷ resolved told rows)) ≡ (if names id node then 1 else 0) + times (told id) (contents (resolved told rows))
      cases (File file) t = one_more file.size file.content id (contents (resolved told rows)) h t
      cases (Dir dir) t = nothing_more (times (told id) (contents (resolved told rows)))
      cases (Link link) t = nothing_more (times (told id) (contents (resolved told rows)))
      cases Deleted t = nothing_more (times (told id) (contents (resolved told rows)))
