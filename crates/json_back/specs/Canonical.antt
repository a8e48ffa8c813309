-- Values whose compact text is read back as they are: integers of 64 bits, and objects with their keys in order, each once.
use Rattle.std.specs.Prelude.{◌≡◌, ◌≤◌, ◌<◌, ◌^◌, ℕ, pos, negsuc, List, Some, IsUtf8}
use Rattle.std.specs.declared.cmp.Ordering.TheVariants.{Greater}
use Rattle.std.specs.Ordering.{nat_cmp}
use Rattle.std.specs.Cmp.Lexicographic.{slice_cmp}
use Rattle.serde_json.specs.Data.{
  Num,
  unsigned,
  negative,
  float,
  Data,
  null,
  boolean,
  number,
  string,
  array,
  object,
  Items,
  no_items,
  item,
  Members,
  no_members,
  member,
  depth,
}
use Rattle.serde_json.specs.Read.{read, max_depth}
use Rattle.serde_json.specs.Written.{compact_text}
use Rattle.json_back.specs.Reading.{data_of}

-- an integer of 64 bits; one from 0 up is unsigned
abbrev pub IsCanonicalNumber : Num → Type 0
IsCanonicalNumber (unsigned n) = n < 2 ^ 64
IsCanonicalNumber (negative (pos n)) = ⊥
IsCanonicalNumber (negative (negsuc n)) = n < 2 ^ 63
IsCanonicalNumber (float x) = ⊥

-- the key comes after those of the members
abbrev pub IsAfter : Members → List ℕ → Type 0
IsAfter no_members key = Unit {0}
IsAfter (member k d ms) key = (slice_cmp nat_cmp key k ≡ Greater) × IsAfter ms key

-- the members, and one behind them
abbrev pub with_last : Members → List ℕ → Data → Members
with_last no_members key d = member key d no_members
with_last (member k e ms) key d = member k e (with_last ms key d)

abbrev mutual
  -- its numbers are such integers, and the keys of each of its objects rise
  pub IsCanonical : Data → Type 0
  IsCanonical null = Unit {0}
  IsCanonical (boolean b) = Unit {0}
  IsCanonical (number n) = IsCanonicalNumber n
  IsCanonical (string s) = Unit {0}
  IsCanonical (array ds) = AreCanonical ds
  IsCanonical (object ms) = AreMembers no_members ms

  pub AreCanonical : Items → Type 0
  AreCanonical no_items = Unit {0}
  AreCanonical (item d ds) = IsCanonical d × AreCanonical ds

  -- the members that stand behind `found`
  pub AreMembers : Members → Members → Type 0
  AreMembers found no_members = Unit {0}
  AreMembers found (member k d ms) = IsAfter found k × IsCanonical d × AreMembers (with_last found k d) ms

abbrev mutual
  -- its keys and texts are UTF-8
  pub HasTexts : Data → Type 0
  HasTexts null = Unit {0}
  HasTexts (boolean b) = Unit {0}
  HasTexts (number n) = Unit {0}
  HasTexts (string s) = IsUtf8 s
  HasTexts (array ds) = ItemsHaveTexts ds
  HasTexts (object ms) = MembersHaveTexts ms

  pub ItemsHaveTexts : Items → Type 0
  ItemsHaveTexts no_items = Unit {0}
  ItemsHaveTexts (item d ds) = HasTexts d × ItemsHaveTexts ds

  pub MembersHaveTexts : Members → Type 0
  MembersHaveTexts no_members = Unit {0}
  MembersHaveTexts (member k d ms) = IsUtf8 k × HasTexts d × MembersHaveTexts ms

-- the text of such a value is read as that value
abbrev pub TextsReadBack : Type 0
TextsReadBack = (d : Data) → IsCanonical d → depth d ≤ max_depth → read (compact_text d) ≡ Some d

-- and so are its bytes, which are UTF-8 if its texts are
abbrev pub BytesReadBack : Type 0
BytesReadBack = (d : Data) → IsCanonical d → HasTexts d → depth d ≤ max_depth → data_of (compact_text d) ≡ Some d
