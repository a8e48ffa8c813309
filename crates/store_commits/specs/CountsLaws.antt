-- The counts that a commit writes are those of the host's tables afterwards.
--     IsFormerFolding stays last rows folding      what becomes of the former newest's rows
--     AreLeft olds parked backups      without the rows of the partial, the counts are those of the backups' tables
--     left_of      they are, if the partial's rows are the stored ones
--     counts_first      the counts of a first backup
--     counts_further      those of a further one
--     counts_written      their file
use Rattle.std.specs.Prelude.{◌≡◌, ℕ, ◌+◌, ◌-◌, ◌^◌, ◌≤◌, ◌<◌, Bool, true, false, List, [], ◌∷◌, ◌++◌, length}
use Rattle.std.specs.Prelude.{Option, Some, None, if◌then◌else◌}
use Rattle.std.proofs.Common.{refl, sym, ap, ◌∙◌, subst, arith}
use Rattle.disk_trait.specs.declared.ids.PoolId.{PoolId}
use Rattle.merge_view.specs.Views.{Rows, reverse}
use Rattle.stored_trees.specs.Occurrences.{occurrences}
use Rattle.ref_counts.specs.Numbers.{Items, number, total, capped}
use Rattle.ref_counts.specs.NumberLaws.{capped-few, total-append}
use Rattle.ref_counts.specs.Stored.{Backup as StoredBackup, StoredHost, stored, of_partial, counted, with_new, older_tables}
use Rattle.ref_counts.specs.StoredLaws.{total-counted, stored-before, stored-with_new}
use Rattle.ref_counts.specs.Layout.{IsCounts}
use Rattle.ref_counts.specs.CountsFile.{counts_file}
use Rattle.office_files.specs.Layouts.{IsCountsFile}
use Rattle.store_parts.specs.Held.{AreCounts}
use Rattle.store_commits.specs.declared.former.Folding.{Folding}
use Rattle.office_changes.specs.BoundLaws.{few_occurrences}
use Rattle.office_changes.specs.CommitLaws.{backups_alone}
use Rattle.store_commits.specs.HostLaws.{new_stored}
use Rattle.store_commits.specs.Planned.{unparked, counted_of, IsCountedBy}

-- what becomes of the former newest: it stays whole, or its rows are folded against the new ones
abbrev pub IsFormerFolding : Bool → Rows → Rows → Option Folding → Type 0
IsFormerFolding true last rows folding = folding ≡ None
IsFormerFolding false last rows None = ⊥
IsFormerFolding false last rows (Some folding) = (folding.rows ≡ last) × (folding.entries ≡ reverse last rows)

-- ---- numbers

part_fits : (a b : ℕ) → a + b < 2 ^ 64 → b < 2 ^ 64
part_fits a b few = omega (arith, few)

first_number : (new : ℕ) → new < 2 ^ 64 → capped (0 + capped new) ≡ new + 0
first_number new few =
    let inner = capped-few new few in
    let all = capped-few (0 + capped new) (omega (arith, few, inner)) in
    omega (arith, inner, all)

-- tables that stay, and one more
more_number : (old new : ℕ) → old + new < 2 ^ 64 → capped (old + capped new) ≡ old + new
more_number old new few =
    let inner = capped-few new (part_fits old new few) in
    ap (λ n. capped (old + n)) inner ∙ capped-few (old + new) few

-- tables that stay, one that is another, and one more
folded_number : (older less more new : ℕ) → older + less < 2 ^ 64 → (older + more) + new < 2 ^ 64
    → capped (capped (((older + less) - capped less) + capped more) + capped new) ≡ (older + more) + new
folded_number older less more new before after =
    let drop = capped-few less (part_fits older less before) in
    let gain = capped-few more (omega (arith, after)) in
    let rest : (older + less) - less ≡ older = omega arith in
    let most = capped-few (older + more) (omega (arith, after)) in
    ap (λ n. capped (capped (((older + less) - n) + capped more) + capped new)) drop
    ∙ ap (λ n. capped (capped (((older + less) - less) + n) + capped new)) gain
    ∙ ap (λ n. capped (capped (n + more) + capped new)) rest
    ∙ ap (λ n. capped (n + capped new)) most
    ∙ more_number (older + more) new after

sum_none : (a b : ℕ) → a + (b + 0) ≡ a + b
sum_none a b = omega arith

sum_moves : (a b c : ℕ) → a + (b + (c + 0)) ≡ (a + b) + c
sum_moves a b c = omega arith

-- ---- totals

total_before : (id : PoolId) (olds : List StoredBackup) (last : StoredBackup)
    → total id (stored (olds ++ last ∷ [])) ≡ total id (older_tables olds last) + occurrences id last.rows
total_before id olds last =
    ap (total id) (stored-before olds last) ∙ total-append id (older_tables olds last) (last.rows ∷ [])
    ∙ sum_none (total id (older_tables olds last)) (occurrences id last.rows)

total_after : (id : PoolId) (olds : List StoredBackup) (last : StoredBackup) (stays : Bool) (rows kept : Rows)
    → (if stays then last.rows else reverse last.rows rows) ≡ kept
    → total id (stored (with_new olds last stays (new_stored rows)))
    ≡ (total id (older_tables olds last) + occurrences id kept) + occurrences id rows
total_after id olds last stays rows kept is =
    ap (total id) (stored-with_new olds last (new_stored rows) stays)
    ∙ ap (λ (k : Rows). total id (older_tables olds last ++ k ∷ rows ∷ [])) is
    ∙ total-append id (older_tables olds last) (kept ∷ rows ∷ [])
    ∙ sum_moves (total id (older_tables olds last)) (occurrences id kept) (occurrences id rows)

-- ---- one content

further_whole : (id : PoolId) (olds : List StoredBackup) (last : StoredBackup) (rows : Rows) (n : ℕ)
    → n ≡ total id (stored (olds ++ last ∷ []))
    → total id (stored (with_new olds last true (new_stored rows))) < 2 ^ 64
    → counted_of n None rows id ≡ total id (stored (with_new olds last true (new_stored rows)))
further_whole id olds last rows n is few =
    let after = total_after id olds last true rows last.rows refl in
    let before = is ∙ total_before id olds last in
    ap (λ m. capped (m + capped (occurrences id rows))) before
    ∙ more_number (total id (older_tables olds last) + occurrences id last.rows) (occurrences id rows) (subst (λ m. m < 2 ^ 64) after few)
    ∙ sym after

further_folded : (id : PoolId) (olds : List StoredBackup) (last : StoredBackup) (rows : Rows) (folding : Folding) (n : ℕ)
    → folding.rows ≡ last.rows → folding.entries ≡ reverse last.rows rows
    → n ≡ total id (stored (olds ++ last ∷ []))
    → total id (stored (olds ++ last ∷ [])) < 2 ^ 64
    → total id (stored (with_new olds last false (new_stored rows))) < 2 ^ 64
    → counted_of n (Some folding) rows id ≡ total id (stored (with_new olds last false (new_stored rows)))
further_folded id olds last rows folding n whole entries is were few =
    let kept = reverse last.rows rows in
    let after = total_after id olds last false rows kept refl in
    let before = total_before id olds last in
    ap (λ m. counted_of m (Some folding) rows id) (is ∙ before)
    ∙ ap (λ (r : Rows). capped (capped (((total id (older_tables olds last) + occurrences id last.rows) - capped (occurrences id r))
    + capped (occurrences id folding.entries)) + capped (occurrences id rows))) whole
    ∙ ap (λ (r : Rows). capped (capped (((total id (older_tables olds last) + occurrences id last.rows) - capped (occurrences id last.rows))
    + capped (occurrences id r)) + capped (occurrences id rows))) entries
    ∙ folded_number (total id (older_tables olds last)) (occurrences id last.rows) (occurrences id kept) (occurrences id rows)
    (subst (λ m. m < 2 ^ 64) before were) (subst (λ m. m < 2 ^ 64) after few)
    ∙ sym after

further : (id : PoolId) (olds : List StoredBackup) (last : StoredBackup) (rows : Rows) (stays : Bool) (folding : Option Folding) (n : ℕ)
    → IsFormerFolding stays last.rows rows folding
    → n ≡ total id (stored (olds ++ last ∷ []))
    → total id (stored (olds ++ last ∷ [])) < 2 ^ 64
    → total id (stored (with_new olds last stays (new_stored rows))) < 2 ^ 64
    → counted_of n folding rows id ≡ total id (stored (with_new olds last stays (new_stored rows)))
further id olds last rows true folding n former is were few =
    ap (λ (f : Option Folding). counted_of n f rows id) former ∙ further_whole id olds last rows n is few
further id olds last rows false None n former is were few = absurd former
further id olds last rows false (Some folding) n former is were few =
    further_folded id olds last rows folding n former.0 former.1 is were few

-- ---- without the partial

abbrev pub AreLeft : Items → Option Rows → List StoredBackup → Type 0
AreLeft olds parked backups = (id : PoolId) → unparked (number olds id) parked id ≡ total id (stored backups)

-- the rows of a partial that has a file
abbrev pub AreFewParked : Option Rows → Type 0
AreFewParked None = Unit {0}
AreFewParked (Some rows) = length rows < 4294967296

less_number : (rest less : ℕ) → less < 2 ^ 64 → (rest + (less + 0)) - capped less ≡ rest
less_number rest less few =
    let whole = capped-few less few in
    let left : (rest + (less + 0)) - less ≡ rest = omega arith in
    ap (λ n. (rest + (less + 0)) - n) whole ∙ left

left_number : (id : PoolId) (parked : Option Rows) → AreFewParked parked → (n rest : ℕ) → n ≡ rest + total id (of_partial parked)
    → unparked n parked id ≡ rest
left_number id None few n rest is = omega (arith, is)
left_number id (Some rows) few n rest is =
    let size = few_occurrences id rows in
    ap (λ m. m - capped (occurrences id rows)) is ∙ less_number rest (occurrences id rows) (omega (arith, size, few))

pub left_of : (olds : Items) (parked : Option Rows) (of : StoredHost) → AreCounts olds of → parked ≡ of.partial → AreFewParked parked
    → AreLeft olds parked of.backups
left_of olds parked of counted is few = λ id.
    left_number id parked few (number olds id) (total id (stored of.backups))
    (counted id ∙ total-counted id of ∙ ap (λ (p : Option Rows). total id (stored of.backups) + total id (of_partial p)) (sym is))

-- of a host that has none they are those of its backups' tables
alone : (id : PoolId) (backups : List StoredBackup) → total id (stored backups) ≡ total id (counted (backups_alone backups))
alone id backups = sym (total-counted id (backups_alone backups) ∙ nothing_more (total id (stored backups)))
  where
    nothing_more : (n : ℕ) → n + 0 ≡ n
    nothing_more n = omega arith

-- ---- the counts of a host

-- of the first backup of a host
pub counts_first : (items olds : Items) (parked : Option Rows) (rows : Rows) → IsCountedBy olds parked None rows items → AreLeft olds parked []
    → length rows ≤ 1048576 → AreCounts items (backups_alone (new_stored rows ∷ []))
counts_first items olds parked rows are before few = λ id.
    let size = few_occurrences id rows in
    are id ∙ ap (λ n. capped (n + capped (occurrences id rows))) (before id)
    ∙ first_number (occurrences id rows) (omega (arith, size, few)) ∙ alone id (new_stored rows ∷ [])

-- of a further one: by what becomes of the former newest
pub counts_further : (items old_items : Items) (parked : Option Rows) (folding : Option Folding) (rows : Rows) (olds : List StoredBackup)
    (last : StoredBackup) (stays : Bool) → IsCountedBy old_items parked folding rows items → IsFormerFolding stays last.rows rows folding
    → AreLeft old_items parked (olds ++ last ∷ []) → ((id : PoolId) → total id (stored (olds ++ last ∷ [])) < 2 ^ 64)
    → ((id : PoolId) → total id (stored (with_new olds last stays (new_stored rows))) < 2 ^ 64)
    → AreCounts items (backups_alone (with_new olds last stays (new_stored rows)))
counts_further items old_items parked folding rows olds last stays are former before were few = λ id.
    are id ∙ further id olds last rows stays folding (unparked (number old_items id) parked id) former (before id) (were id) (few id)
    ∙ alone id (with_new olds last stays (new_stored rows))

-- and their file
pub counts_written : (host : ℕ) (items : Items) (of : StoredHost) → IsCounts items → AreCounts items of
    → IsCountsFile host (λ id. total id (counted of)) (Some (counts_file host items))
counts_written host items of fits are = record { items = items; fits = fits; each = are; is = refl }
