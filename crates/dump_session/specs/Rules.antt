-- What an open dump says of a put, over a base that is a tree and over any rows.
--     IsReason rows path dir rule      what a refusal says of any rows; of a parent it tells of trees alone
--     HasRoom rows path dir      no other rule is broken
use Rattle.std.specs.Prelude.{◌≡◌, ℕ, nat_le, Bool, true, false, ◌&&◌, not, List, length, is_some}
use Rattle.attr_records.specs.Trees.{node_at, IsTree, is_dir_at}
use Rattle.attr_records.specs.declared.trees.PutRule.{PutRule}
use Rattle.attr_records.specs.declared.trees.PutRule.TheVariants.{NoParent, IsDirectory, TooManyEntries, FileTooLarge}
use Rattle.attr_tables.specs.Records.{is_dir}
use Rattle.merge_view.specs.Views.{Rows, HasNoMarks}

-- rows that are a tree, without deletion marks
pub record IsWholeTree (rows : Rows) : Type 0 where
  pub no_marks : HasNoMarks rows
  pub is_tree : IsTree is_dir rows

-- a Dir is at the path, and the node isn't one
abbrev pub is_over_dir : Rows → List ℕ → Bool → Bool
is_over_dir rows path dir = is_dir_at is_dir rows path && not dir

-- there are 1,048,576 paths, this one not among them
abbrev pub is_full : Rows → List ℕ → Bool
is_full rows path = nat_le 1048576 (length rows) && not (is_some (node_at rows path))

abbrev pub IsReason : Rows → List ℕ → Bool → PutRule → Type 0
IsReason rows path dir NoParent = Unit {0}
IsReason rows path dir IsDirectory = is_over_dir rows path dir ≡ true
IsReason rows path dir TooManyEntries = is_full rows path ≡ true
IsReason rows path dir FileTooLarge = ⊥

pub record HasRoom (rows : Rows) (path : List ℕ) (dir : Bool) : Type 0 where
  pub not_over_dir : is_over_dir rows path dir ≡ false
  pub not_full : is_full rows path ≡ false
