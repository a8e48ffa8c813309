-- A bucket cleaned, as the code does it.
use Rattle.std.specs.Prelude.{◌≡◌, ◌≤◌, ◌<◌, ◌^◌, ℕ, ◌+◌, Bool, List, [], length, Option, Some, None}
use Rattle.std.specs.Cmp.Lexicographic.{nat_list_cmp_total}
use Rattle.std.specs.List.{cons_option}
use Rattle.std.specs.List.Sorted.{IsStrictlySortedBy}
use Rattle.std.specs.Map.{keys_of}
use Rattle.std.proofs.Common.{refl, ap, arith}
use Rattle.ordered_lists.specs.OrderLaws.{order_from_keys}
use Rattle.pool_fate.specs.declared.fate.Fate.{Fate}
use Rattle.office_model.specs.Pool.{Pool, byte_cmp, fate, kept_as, cleaned, fated, with_kept}
use Rattle.pool_fate.specs.Fates.{is_same_fate}
use Rattle.office_model.specs.laws.CleanLaws.{cleaned_order}
use Rattle.tree_parts.specs.CopyLaws.{refilled, refilled-append}
use Rattle.tree_parts.specs.CountLaws.{how_many-le}

pub kept_step : (pool : Pool) (content : List ℕ) (mark : Option Bool) (rest : Pool)
    → refilled byte_cmp pool (cons_option (kept_as content mark) rest) ≡ refilled byte_cmp (with_kept pool content mark) rest
kept_step pool content None rest = refl
kept_step pool content (Some mark) rest = refl

pub clean_starts : (inside protected : List ℕ → Bool) (new rest pool : Pool) → new ≡ [] → rest ≡ pool
    → IsStrictlySortedBy byte_cmp (keys_of pool)
    → refilled byte_cmp new (cleaned inside protected rest) ≡ cleaned inside protected pool
clean_starts inside protected new rest pool none same order =
    rw (none, same) (refilled-append byte_cmp nat_list_cmp_total [] (cleaned inside protected pool) (cleaned_order inside protected pool (order_from_keys byte_cmp pool order)))

pub count_starts : (inside protected : List ℕ → Bool) (wanted : Fate) (rest pool : Pool) → rest ≡ pool → length pool < 2 ^ 63
    → (0 + fated inside protected wanted rest ≡ fated inside protected wanted pool) × (fated inside protected wanted pool < 2 ^ 64)
count_starts inside protected wanted rest pool same room =
    let most : fated inside protected wanted pool ≤ length pool = how_many-le (λ entry. is_same_fate (fate inside protected entry) wanted) pool in
    let again : fated inside protected wanted rest ≡ fated inside protected wanted pool = ap (fated inside protected wanted) same in
    (omega (arith, again), omega (arith, most, room))
