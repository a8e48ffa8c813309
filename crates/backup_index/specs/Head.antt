-- The head file.
--     IsHead      the epoch is a number, the names are those of hosts, few enough and different
--     head_grammar      `RHD1`, the epoch, the number of hosts, their names
use Rattle.std.specs.Prelude.{ℕ, ◌≤◌, List, [], ◌∷◌, length}
use Rattle.std.specs.Int.{w8, w32, w64}
use Rattle.std.specs.List.{AllByRecursion}
use Rattle.std.proofs.Common.{refl, sym, subst}
use Rattle.wire_bytes.specs.Layout.{text_bytes, IsNumber}
use Rattle.wire_bytes.specs.Grammar.{Grammar, field, number, magic, followed_by, items_of, Sees, seen_as}
use Rattle.backup_index.specs.declared.head.HeadFile.{HeadFile}
use Rattle.backup_index.specs.Names.{AreNames, IsHostName, IsFreshName}
use Rattle.backup_index.specs.NameLaws.{differ_none, names_in_turn, names_differ, names_each}

pub record IsHead (head : HeadFile) : Type 0 where
  pub epoch : IsNumber w64 head.epoch
  pub names : AreNames head.names
  pub each : AllByRecursion IsHostName head.names

-- RHD1
abbrev pub head_magic : List ℕ
head_magic = 82 ∷ 72 ∷ 68 ∷ 49 ∷ []

abbrev pub IsHostCount : ℕ → Type 0
IsHostCount count = count ≤ 1024

-- so many names, each of which is none of those before it
abbrev pub names_grammar : ℕ → Grammar (List (List ℕ))
names_grammar count = items_of IsFreshName (text_bytes w8) count

abbrev pub HeadParts : Type 0
HeadParts = Unit {0} × (ℕ × (ℕ × List (List ℕ)))

abbrev pub head_parts : Grammar HeadParts
head_parts = followed_by (magic head_magic) (λ _. followed_by (number w64 (IsNumber w64)) (λ _. followed_by (number w32 IsHostCount) names_grammar))

abbrev pub parts_of_head : HeadFile → HeadParts
parts_of_head head = (tt, (head.epoch, (length head.names, head.names)))

abbrev pub head_of : HeadParts → HeadFile
head_of parts = record { epoch = parts.1.0; names = parts.1.1.1 }

pub sees_head : Sees head_parts IsHead parts_of_head head_of
unfolding field followed_by items_of
sees_head = record {
  fits = λ head is. (tt, (is.epoch, (is.names.few, (names_in_turn [] head.names is.names.differ is.each, refl))));
  made = λ head is. refl;
  makes = λ parts fits. record {
    epoch = fits.1.0;
    names = record { few = subst IsHostCount (sym fits.1.1.1.1) fits.1.1.0; differ = names_differ [] parts.1.1.1 differ_none fits.1.1.1.0 };
    each = names_each [] parts.1.1.1 fits.1.1.1.0;
  };
  parted = λ parts fits i. (tt, (parts.1.0, (fits.1.1.1.1 i, parts.1.1.1)));
}

abbrev pub head_grammar : Grammar HeadFile
head_grammar = seen_as head_parts IsHead parts_of_head head_of sees_head
