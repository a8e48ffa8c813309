-- Which layout the tables of hosts have. Each table that is written is of the second; the first is read, too.
--     is_first_layout found      a file of the first layout, None standing for an absent one
--     AreSecondBut hosts files      no host but these, by their indexes, has a table of the first layout
--     AreOldHosts hosts files      these are the hosts that have one
--     AreNoTables files      none of these files is a table
--     WriteNoFirst changes      no change writes one
use Rattle.std.specs.Prelude.{◌≡◌, ℕ, ◌==◌, Bool, true, false, List, [], ◌∷◌, take, Option, Some, None, bytes_eq}
use Rattle.std.specs.List.{list_any}
use Rattle.disk_trait.specs.declared.ids.FileId.{FileId}
use Rattle.disk_trait.specs.declared.ids.FileId.TheVariants.{Table}
use Rattle.disk_trait.specs.Files.{Files}
use Rattle.intent_journal.specs.declared.changes.Change.{Change}
use Rattle.attr_tables.specs.declared.layouts.TableLayout.TheVariants.{First}
use Rattle.attr_tables.specs.Layout.{magic_of}

-- it begins with the magic of the first layout
abbrev pub is_first_layout : Option (List ℕ) → Bool
is_first_layout None = false
is_first_layout (Some bytes) = bytes_eq (take 4 bytes) (magic_of First)

abbrev pub is_among : List ℕ → ℕ → Bool
is_among indexes index = list_any (λ i. i == index) indexes

abbrev pub AreSecondBut : List ℕ → Files → Type 0
AreSecondBut hosts files = (host number : ℕ) → is_among hosts host ≡ false → is_first_layout (files (Table host number)) ≡ false

pub record AreOldHosts (hosts : List ℕ) (files : Files) : Type 0 where
  pub each : (host : ℕ) → is_among hosts host ≡ true → (number : ℕ) × (is_first_layout (files (Table host number)) ≡ true)
  pub no_other : AreSecondBut hosts files

abbrev pub is_table : FileId → Bool
is_table (Table host number) = true
is_table file = false

abbrev pub AreNoTables : List FileId → Type 0
AreNoTables [] = Unit {0}
AreNoTables (file ∷ files) = (is_table file ≡ false) × AreNoTables files

-- a table of the first layout
abbrev pub is_first_table : FileId → Option (List ℕ) → Bool
is_first_table (Table host number) found = is_first_layout found
is_first_table file found = false

abbrev pub WriteNoFirst : List Change → Type 0
WriteNoFirst [] = Unit {0}
WriteNoFirst (change ∷ changes) = (is_first_table change.file change.bytes ≡ false) × WriteNoFirst changes
