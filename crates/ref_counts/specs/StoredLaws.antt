-- Laws of stored backups.
--     named_from_total, total_from_named      tables name an id exactly if some backup's tree does
--     held_from_named, named_from_held      the same of the content of a given id
--     total-counted      the counts of a host are those of its backups and of its partial
--     named_in_from_total, total_from_named_in, held_in_from_named, named_in_from_held      the same of a host
--     stored-before, stored-with_new      what a commit changes
use Rattle.std.specs.Prelude.{◌≡◌, ℕ, ◌+◌, ◌<◌, ◌⊎◌, Bool, true, false, cond, List, [], ◌∷◌, ◌++◌, Option, Some, None, IfSome, if◌then◌else◌}
use Rattle.std.specs.declared.cmp.Ordering.{Ordering}
use Rattle.std.specs.declared.cmp.Ordering.TheVariants.{Less, Equal, Greater}
use Rattle.std.specs.Ordering.{is_eq, eq_by_cmp}
use Rattle.std.specs.Cmp.{tied_itself}
use Rattle.std.proofs.Common.{refl, sym, ap, ◌∙◌, subst, inl, inr, arith}
use Rattle.disk_trait.specs.declared.ids.PoolId.{PoolId}
use Rattle.ordered_lists.specs.Order.{IsInOrder}
use Rattle.ordered_lists.specs.OrderLaws.{find_below, below_alike}
use Rattle.attr_records.specs.Paths.{path_cmp}
use Rattle.attr_records.specs.PathLaws.{path_cmp_total}
use Rattle.attr_records.specs.Trees.{node_at}
use Rattle.attr_tables.specs.declared.records.Record.{Record}
use Rattle.attr_tables.specs.declared.records.Record.TheVariants.{Deleted}
use Rattle.attr_tables.specs.Records.{is_same_record}
use Rattle.attr_tables.specs.RecordLaws.{same_record}
use Rattle.merge_view.specs.Views.{Rows, IsWhole, difference, reverse}
use Rattle.merge_view.specs.ViewLaws.{IsInOrder-reverse, node_at-reverse}
use Rattle.stored_trees.specs.Occurrences.{names, occurrences}
use Rattle.stored_trees.specs.OccurrenceLaws.{occurrences-resolved}
use Rattle.stored_trees.specs.Resolved.{IsOneToOne, AreTold}
use Rattle.ref_counts.specs.Numbers.{total}
use Rattle.ref_counts.specs.NumberLaws.{total-append}
use Rattle.ref_counts.specs.Stored.{Backup, StoredHost, stored_before, stored, of_partial, counted, AreWhole, IsNamed, IsHeld, AreAllTold, IsNamedParked, IsNamedIn, IsHeldParked, IsHeldIn, AreAllToldIn, with_new, older_tables}

-- ---- rows that name an id

-- what is at a path names the id
abbrev IsNamedAt : PoolId → Rows → Type 0
IsNamedAt id rows = (path : List ℕ) × (node : Record) × (node_at rows path ≡ Some node) × (names id node ≡ true)

more : (b : Bool) (n : ℕ) → 0 < (if b then 1 else 0) + n → (b ≡ true) ⊎ (0 < n)
more true n h = inl refl
more false n h = inr (omega arith)

one_of : (b : Bool) (n : ℕ) → b ≡ true → 0 < (if b then 1 else 0) + n
one_of true n e = omega arith
one_of false n e = cc

behind : (b : Bool) (n : ℕ) → 0 < n → 0 < (if b then 1 else 0) + n
behind true n h = omega arith
behind false n h = omega arith

named_counted : (id : PoolId) (rows : Rows) → IsNamedAt id rows → 0 < occurrences id rows
named_counted id [] w = cc w.2
named_counted id (row ∷ rows) w = step (eq_by_cmp path_cmp w.0 row.0) refl (λ v. named_counted id rows v)
  where
    step : (b : Bool) → eq_by_cmp path_cmp w.0 row.0 ≡ b → (IsNamedAt id rows → 0 < occurrences id rows)
        → 0 < (if names id row.1 then 1 else 0) + occurrences id rows
    step true e rest =
        let same : Some row.1 ≡ Some w.1 = ap (λ b. cond b (Some row.1) (node_at rows w.0)) (sym e) ∙ w.2 in
        let node : row.1 ≡ w.1 = cc in
        one_of (names id row.1) (occurrences id rows) (ap (names id) node ∙ w.3)
    step false e rest =
        behind (names id row.1) (occurrences id rows)
        (rest (w.0, w.1, ap (λ b. cond b (Some row.1) (node_at rows w.0)) (sym e) ∙ w.2, w.3))

counted_named : (id : PoolId) (rows : Rows) → IsInOrder path_cmp rows → 0 < occurrences id rows → IsNamedAt id rows
counted_named id [] h n = absurd (omega arith)
counted_named id (row ∷ rows) h n = step (more (names id row.1) (occurrences id rows) n) (counted_named id rows h.1)
  where
    later : IsNamedAt id rows → IsNamedAt id (row ∷ rows)
    later w = at (path_cmp w.0 row.0) refl
      where
        at : (r : Ordering) → path_cmp w.0 row.0 ≡ r → IsNamedAt id (row ∷ rows)
        at Less e = (w.0, w.1, ap (λ r. cond (is_eq r) (Some row.1) (node_at rows w.0)) e ∙ w.2, w.3)
        at Greater e = (w.0, w.1, ap (λ r. cond (is_eq r) (Some row.1) (node_at rows w.0)) e ∙ w.2, w.3)
        at Equal e =
            let none = find_below path_cmp path_cmp_total w.0 rows (below_alike path_cmp path_cmp_total w.0 row.0 rows e h.0) in
            let clash : None ≡ Some w.1 = sym none ∙ w.2 in
            cc clash

    step : (names id row.1 ≡ true) ⊎ (0 < occurrences id rows) → (0 < occurrences id rows → IsNamedAt id rows) → IsNamedAt id (row ∷ rows)
    step (inl e) rest = (row.0, row.1, ap (λ r. cond (is_eq r) (Some row.1) (node_at rows row.0)) (tied_itself path_cmp_total row.0), e)
    step (inr m) rest = later (rest m)

-- ---- entries that name an id

-- an entry that names the id is the older's own node
own_node : (id : PoolId) (older newer : Option Record) (node : Record) → difference older newer ≡ Some node → names id node ≡ true
    → older ≡ Some node
own_node id None None node e n = cc
own_node id None (Some newer) node e n =
    let mark : Deleted ≡ node = cc in
    let clash : names id Deleted ≡ true = ap (names id) mark ∙ n in
    cc clash
own_node id (Some older) None node e n = e
own_node id (Some older) (Some newer) node e n = step (is_same_record older newer) e
  where
    step : (b : Bool) → (if b then None else Some older) ≡ Some node → Some older ≡ Some node
    step true e = cc
    step false e = e

-- a node that the older has is an entry, or the newer has it
entry_or_newer : (older : Record) (newer : Option Record) → (difference (Some older) newer ≡ Some older) ⊎ (newer ≡ Some older)
entry_or_newer older None = inl refl
entry_or_newer older (Some newer) = step (is_same_record older newer) refl
  where
    step : (b : Bool) → is_same_record older newer ≡ b → ((if b then None else Some older) ≡ Some older) ⊎ (Some newer ≡ Some older)
    step true e = inr (ap Some (sym (same_record older newer e)))
    step false e = inl refl

-- entries that name the id are those of a tree that does
reverse_counted : (id : PoolId) (older newer : Rows) → IsWhole older → IsWhole newer → 0 < occurrences id (reverse older newer)
    → 0 < occurrences id older
reverse_counted id older newer a b n =
    let w = counted_named id (reverse older newer) (IsInOrder-reverse older newer a.in_order b.in_order) n in
    named_counted id older
    (w.0, w.1, own_node id (node_at older w.0) (node_at newer w.0) w.1 (sym (node_at-reverse older newer a.in_order b.in_order w.0) ∙ w.2) w.3, w.3)

-- where a tree names the id, its entries do, or the newer tree does
counted_reverse : (id : PoolId) (older newer : Rows) → IsWhole older → IsWhole newer → 0 < occurrences id older
    → (0 < occurrences id (reverse older newer)) ⊎ (0 < occurrences id newer)
counted_reverse id older newer a b n = at (counted_named id older a.in_order n)
  where
    at : IsNamedAt id older → (0 < occurrences id (reverse older newer)) ⊎ (0 < occurrences id newer)
    at w = step (entry_or_newer w.1 (node_at newer w.0))
      where
        step : (difference (Some w.1) (node_at newer w.0) ≡ Some w.1) ⊎ (node_at newer w.0 ≡ Some w.1)
            → (0 < occurrences id (reverse older newer)) ⊎ (0 < occurrences id newer)
        step (inl e) =
            inl (named_counted id (reverse older newer)
            (w.0, w.1, node_at-reverse older newer a.in_order b.in_order w.0 ∙ ap (λ o. difference o (node_at newer w.0)) w.2 ∙ e, w.3))
        step (inr e) = inr (named_counted id newer (w.0, w.1, e, w.3))

-- ---- tables that name an id

some_or_more : (m n : ℕ) → 0 < m + n → (0 < m) ⊎ (0 < n)
some_or_more m n h = grind arith

some_first : (m n : ℕ) → 0 < m → 0 < m + n
some_first m n h = omega arith

some_later : (m n : ℕ) → 0 < n → 0 < m + n
some_later m n h = omega arith

stored_counted : (id : PoolId) (backup : Backup) (newer : Rows) → IsWhole backup.rows → IsWhole newer
    → 0 < occurrences id (stored_before backup newer) → 0 < occurrences id backup.rows
stored_counted id backup newer a b n = step backup.filled n
  where
    step : (filled : Bool) → 0 < occurrences id (if filled then backup.rows else reverse backup.rows newer) → 0 < occurrences id backup.rows
    step true n = n
    step false n = reverse_counted id backup.rows newer a b n

counted_stored : (id : PoolId) (backup : Backup) (newer : Rows) → IsWhole backup.rows → IsWhole newer → 0 < occurrences id backup.rows
    → (0 < occurrences id (stored_before backup newer)) ⊎ (0 < occurrences id newer)
counted_stored id backup newer a b n = step backup.filled
  where
    step : (filled : Bool) → (0 < occurrences id (if filled then backup.rows else reverse backup.rows newer)) ⊎ (0 < occurrences id newer)
    step true = inl n
    step false = counted_reverse id backup.rows newer a b n

-- if tables name the id, some backup's tree does
pub named_from_total : (id : PoolId) (backups : List Backup) → AreWhole backups → 0 < total id (stored backups) → IsNamed id backups
named_from_total id [] h n = absurd (omega arith)
named_from_total id (backup ∷ []) h n = inl (omega (arith, n))
named_from_total id (backup ∷ next ∷ backups) h n =
    step (some_or_more (occurrences id (stored_before backup next.rows)) (total id (stored (next ∷ backups))) n)
    (named_from_total id (next ∷ backups) h.1)
  where
    step : (0 < occurrences id (stored_before backup next.rows)) ⊎ (0 < total id (stored (next ∷ backups)))
        → (0 < total id (stored (next ∷ backups)) → IsNamed id (next ∷ backups)) → IsNamed id (backup ∷ next ∷ backups)
    step (inl m) rest = inl (stored_counted id backup next.rows h.0 h.1.0 m)
    step (inr m) rest = inr (rest m)

-- if some backup's tree names the id, tables do
pub total_from_named : (id : PoolId) (backups : List Backup) → AreWhole backups → IsNamed id backups → 0 < total id (stored backups)
total_from_named id [] h w = absurd w
total_from_named id (backup ∷ []) h (inl w) = some_first (occurrences id backup.rows) 0 w
total_from_named id (backup ∷ []) h (inr w) = absurd w
total_from_named id (backup ∷ next ∷ backups) h w = step w (total_from_named id (next ∷ backups) h.1)
  where
    all : ℕ
    all = total id (stored (next ∷ backups))

    step : IsNamed id (backup ∷ next ∷ backups) → (IsNamed id (next ∷ backups) → 0 < total id (stored (next ∷ backups)))
        → 0 < total id (stored (backup ∷ next ∷ backups))
    step (inr v) rest = some_later (occurrences id (stored_before backup next.rows)) (total id (stored (next ∷ backups))) (rest v)
    step (inl v) rest = either (counted_stored id backup next.rows h.0 h.1.0 v)
      where
        either : (0 < occurrences id (stored_before backup next.rows)) ⊎ (0 < occurrences id next.rows)
            → 0 < total id (stored (backup ∷ next ∷ backups))
        either (inl u) = some_first (occurrences id (stored_before backup next.rows)) (total id (stored (next ∷ backups))) u
        either (inr u) = some_later (occurrences id (stored_before backup next.rows)) (total id (stored (next ∷ backups))) (rest (inl u))

-- ---- the same of contents

module _ (given : PoolId → Type 0) (told : PoolId → List ℕ) (one : IsOneToOne given told) where
  pub held_from_named : (id : PoolId) (backups : List Backup) → given id → AreAllTold given told backups → IsNamed id backups
      → IsHeld told (told id) backups
  held_from_named id [] g h w = w
  held_from_named id (backup ∷ backups) g h (inl n) = inl (subst (λ m. 0 < m) (occurrences-resolved given told one id backup.rows g h.0) n)
  held_from_named id (backup ∷ backups) g h (inr w) = inr (held_from_named id backups g h.1 w)

  pub named_from_held : (id : PoolId) (backups : List Backup) → given id → AreAllTold given told backups → IsHeld told (told id) backups
      → IsNamed id backups
  named_from_held id [] g h w = w
  named_from_held id (backup ∷ backups) g h (inl n) = inl (subst (λ m. 0 < m) (sym (occurrences-resolved given told one id backup.rows g h.0)) n)
  named_from_held id (backup ∷ backups) g h (inr w) = inr (named_from_held id backups g h.1 w)

-- ---- a host, with its partial

pub total-counted : (id : PoolId) (host : StoredHost)
    → total id (counted host) ≡ total id (stored host.backups) + total id (of_partial host.partial)
total-counted id host = total-append id (stored host.backups) (of_partial host.partial)

parked_from_total : (id : PoolId) (partial : Option Rows) → 0 < total id (of_partial partial) → IsNamedParked id partial
parked_from_total id None n = absurd (omega (arith, n))
parked_from_total id (Some rows) n = omega (arith, n)

total_from_parked : (id : PoolId) (partial : Option Rows) → IsNamedParked id partial → 0 < total id (of_partial partial)
total_from_parked id None n = absurd n
total_from_parked id (Some rows) n = omega (arith, n)

pub named_in_from_total : (id : PoolId) (host : StoredHost) → AreWhole host.backups → 0 < total id (counted host) → IsNamedIn id host
named_in_from_total id host whole n =
    step (some_or_more (total id (stored host.backups)) (total id (of_partial host.partial)) (subst (λ m. 0 < m) (total-counted id host) n))
  where
    step : (0 < total id (stored host.backups)) ⊎ (0 < total id (of_partial host.partial)) → IsNamedIn id host
    step (inl m) = inl (named_from_total id host.backups whole m)
    step (inr m) = inr (parked_from_total id host.partial m)

pub total_from_named_in : (id : PoolId) (host : StoredHost) → AreWhole host.backups → IsNamedIn id host → 0 < total id (counted host)
total_from_named_in id host whole named = subst (λ m. 0 < m) (sym (total-counted id host)) (step named)
  where
    step : IsNamedIn id host → 0 < total id (stored host.backups) + total id (of_partial host.partial)
    step (inl n) = some_first (total id (stored host.backups)) (total id (of_partial host.partial)) (total_from_named id host.backups whole n)
    step (inr n) = some_later (total id (stored host.backups)) (total id (of_partial host.partial)) (total_from_parked id host.partial n)

module _ (given : PoolId → Type 0) (told : PoolId → List ℕ) (one : IsOneToOne given told) where
  parked_held : (id : PoolId) (partial : Option Rows) → given id → IfSome partial (AreTold given told) → IsNamedParked id partial
      → IsHeldParked told (told id) partial
  parked_held id None g h n = n
  parked_held id (Some rows) g h n = subst (λ m. 0 < m) (occurrences-resolved given told one id rows g h) n

  held_parked : (id : PoolId) (partial : Option Rows) → given id → IfSome partial (AreTold given told)
      → IsHeldParked told (told id) partial
      → IsNamedParked id partial
  held_parked id None g h n = n
  held_parked id (Some rows) g h n = subst (λ m. 0 < m) (sym (occurrences-resolved given told one id rows g h)) n

  pub held_in_from_named : (id : PoolId) (host : StoredHost) → given id → AreAllToldIn given told host → IsNamedIn id host
      → IsHeldIn told (told id) host
  held_in_from_named id host g h (inl n) = inl (held_from_named given told one id host.backups g h.0 n)
  held_in_from_named id host g h (inr n) = inr (parked_held id host.partial g h.1 n)

  pub named_in_from_held : (id : PoolId) (host : StoredHost) → given id → AreAllToldIn given told host → IsHeldIn told (told id) host
      → IsNamedIn id host
  named_in_from_held id host g h (inl n) = inl (named_from_held given told one id host.backups g h.0 n)
  named_in_from_held id host g h (inr n) = inr (held_parked id host.partial g h.1 n)

-- ---- commits

-- what is stored before a commit
pub stored-before : (older : List Backup) (newest : Backup) → stored (older ++ newest ∷ []) ≡ older_tables older newest ++ newest.rows ∷ []
stored-before [] newest = refl
stored-before (backup ∷ []) newest = refl
stored-before (backup ∷ next ∷ backups) newest = ap (λ tables. stored_before backup next.rows ∷ tables) (stored-before (next ∷ backups) newest)

-- and after it: the former newest's table may be another, and there is one more
pub stored-with_new : (older : List Backup) (newest new : Backup) (stays : Bool)
    → stored (with_new older newest stays new)
    ≡ older_tables older newest ++ (if stays then newest.rows else reverse newest.rows new.rows) ∷ new.rows ∷ []
stored-with_new [] newest new stays = refl
stored-with_new (backup ∷ []) newest new stays = refl
stored-with_new (backup ∷ next ∷ backups) newest new stays =
    ap (λ tables. stored_before backup next.rows ∷ tables) (stored-with_new (next ∷ backups) newest new stays)

moved : (a b c d : ℕ) → (a + (c + (d + 0))) + b ≡ (a + (b + 0)) + (c + d)
moved a b c d = omega arith

-- so the totals change by these three tables alone
pub total-with_new : (id : PoolId) (older : List Backup) (newest new : Backup) (stays : Bool)
    → total id (stored (with_new older newest stays new)) + occurrences id newest.rows
    ≡ total id (stored (older ++ newest ∷ []))
    + (occurrences id (if stays then newest.rows else reverse newest.rows new.rows) + occurrences id new.rows)
total-with_new id older newest new stays =
    let kept = if stays then newest.rows else reverse newest.rows new.rows in
    let after = ap (total id) (stored-with_new older newest new stays) ∙ total-append id (older_tables older newest) (kept ∷ new.rows ∷ []) in
    let before = ap (total id) (stored-before older newest) ∙ total-append id (older_tables older newest) (newest.rows ∷ []) in
    ap (λ n. n + occurrences id newest.rows) after
    ∙ moved (total id (older_tables older newest)) (occurrences id newest.rows) (occurrences id kept) (occurrences id new.rows)
    ∙ ap (λ n. n + (occurrences id kept + occurrences id new.rows)) (sym before)
