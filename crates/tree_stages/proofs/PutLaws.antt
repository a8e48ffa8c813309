-- A put of a stage's File, as an open dump in memory judges it.
use Rattle.std.specs.Prelude.{◌≡◌, ℕ, Bool, true, false, List, [], Option, Some, None, length, nat_lt, if◌then◌else◌}
use Rattle.std.proofs.Common.{refl, sym, ap, ◌∙◌}
use Rattle.attr_records.specs.declared.nodes.File.{File}
use Rattle.attr_records.specs.declared.nodes.Item.TheVariants.{File as FileItem}
use Rattle.attr_records.specs.declared.trees.PutRule.{PutRule}
use Rattle.attr_records.specs.declared.trees.PutRule.TheVariants.{NoParent, IsDirectory, TooManyEntries, FileTooLarge}
use Rattle.attr_records.specs.Items.{Tree, is_dir, is_large}
use Rattle.attr_records.specs.Trees.{broken_put, broken_rule}
use Rattle.office_model.specs.Office.{content_limit}
use Rattle.office_model.specs.events.Put.{is_over}
use Rattle.tree_stages.specs.Puts.{or_large}

-- too large is judged last
judged_last : (orphan directory many large : Bool)
    → (if orphan then Some NoParent else (if directory then Some IsDirectory else (if many then Some TooManyEntries else (if large then Some FileTooLarge else None))))
    ≡ or_large (if orphan then Some NoParent else (if directory then Some IsDirectory else (if many then Some TooManyEntries else (if false then Some FileTooLarge else None)))) large
judged_last true directory many large = refl
judged_last false true many large = refl
judged_last false false true large = refl
judged_last false false false true = refl
judged_last false false false false = refl

large_last : (tree : Tree) (path : List ℕ) (large : Bool)
    → broken_rule is_dir tree path false large ≡ or_large (broken_rule is_dir tree path false false) large
large_last tree path large = judged_last _ _ _ large

pub staged_rule : (tree : Tree) (path : List ℕ) (file : File) (rule result : Option PutRule)
    → ((small : File) → length small.bytes ≡ 0 → rule ≡ broken_put is_dir is_large tree path (FileItem small))
    → result ≡ or_large rule (nat_lt content_limit (length file.bytes))
    → result ≡ broken_put is_dir is_over tree path (FileItem file)
staged_rule tree path file rule result small e =
    e ∙ ap (λ r. or_large r (nat_lt content_limit (length file.bytes))) (small (record file { bytes = [] }) refl)
    ∙ sym (large_last tree path (nat_lt content_limit (length file.bytes)))
