-- A number for each setting: its runs are in range, and runs in range make it.
--     index_back, setting_back      where a setting stands, and which one stands there
--     run_fits      the runs of numbers in range
--     runs_fit      numbers whose runs are in range
--     runs_joined, first_run .. fourth_run      numbers from their runs, and back
use Rattle.std.specs.Prelude.{◌≡◌, ℕ, zero, suc, ◌+◌, ◌<◌, ◌≤◌, List, [], ◌∷◌, ◌++◌, length, take, drop, get_or}
use Rattle.std.proofs.Common.{refl, sym, ap, subst, ◌∙◌, append_assoc, length-append, arith}
use Rattle.std.proofs.lemmas.List.{append-nil, drop-drop, take-append-drop, get_or-take, get_or-drop, length-take, length-drop, take_all}
use Rattle.std.proofs.Math.Seq.{take-append_seam, drop-append_seam}
use Rattle.wire_bytes.specs.Breaks.{AreItems}
use Rattle.backup_rules.specs.declared.settings.Setting.{Setting}
use Rattle.backup_rules.specs.declared.settings.Setting.TheVariants.{FillCycle, FullPeriod, IncrPeriod, FullKeepCntMin, FullAgeMax, IncrKeepCnt, IncrKeepCntMin, IncrAgeMax, BlackoutGoodCnt, BlackoutBadPingLimit, OldAge, OldIncrKeepCnt}
use Rattle.backup_rules.specs.Settings.{index_of, setting_at}
use Rattle.backup_rules.specs.Values.{number_at}
use Rattle.backup_rules.specs.Ranges.{IsOf, AreNumbers}
use Rattle.backup_rules.specs.Runs.{run, RunFits, IsRun}

-- ---- where settings stand

pub setting_back : (setting : Setting) → setting_at (index_of setting) ≡ setting
setting_back FillCycle = refl
setting_back FullPeriod = refl
setting_back IncrPeriod = refl
setting_back FullKeepCntMin = refl
setting_back FullAgeMax = refl
setting_back IncrKeepCnt = refl
setting_back IncrKeepCntMin = refl
setting_back IncrAgeMax = refl
setting_back BlackoutGoodCnt = refl
setting_back BlackoutBadPingLimit = refl
setting_back OldAge = refl
setting_back OldIncrKeepCnt = refl

index_below : (setting : Setting) → index_of setting < 12
index_below FillCycle = omega arith
index_below FullPeriod = omega arith
index_below IncrPeriod = omega arith
index_below FullKeepCntMin = omega arith
index_below FullAgeMax = omega arith
index_below IncrKeepCnt = omega arith
index_below IncrKeepCntMin = omega arith
index_below IncrAgeMax = omega arith
index_below BlackoutGoodCnt = omega arith
index_below BlackoutBadPingLimit = omega arith
index_below OldAge = omega arith
index_below OldIncrKeepCnt = omega arith

pub index_back : (i : ℕ) → i < 12 → index_of (setting_at i) ≡ i
index_back zero within = refl
index_back (suc zero) within = refl
index_back (suc (suc zero)) within = refl
index_back (suc (suc (suc zero))) within = refl
index_back (suc (suc (suc (suc zero)))) within = refl
index_back (suc (suc (suc (suc (suc zero))))) within = refl
index_back (suc (suc (suc (suc (suc (suc zero)))))) within = refl
index_back (suc (suc (suc (suc (suc (suc (suc zero))))))) within = refl
index_back (suc (suc (suc (suc (suc (suc (suc (suc zero)))))))) within = refl
index_back (suc (suc (suc (suc (suc (suc (suc (suc (suc zero))))))))) within = refl
index_back (suc (suc (suc (suc (suc (suc (suc (suc (suc (suc zero)))))))))) within = refl
index_back (suc (suc (suc (suc (suc (suc (suc (suc (suc (suc (suc zero))))))))))) within = refl
index_back (suc (suc (suc (suc (suc (suc (suc (suc (suc (suc (suc (suc i)))))))))))) within = absurd (omega arith)

-- ---- numbers in range, by their index

abbrev pub EachFits : List ℕ → Type 0
EachFits numbers = (i : ℕ) → i < 12 → IsOf (setting_at i) (get_or numbers i 0)

each_fits : (numbers : List ℕ) → AreNumbers numbers → EachFits numbers
each_fits numbers are i within = subst (λ (k : ℕ). IsOf (setting_at i) (get_or numbers k 0)) (index_back i within) (are.each (setting_at i))

numbers_fit : (numbers : List ℕ) → length numbers ≡ 12 → EachFits numbers → AreNumbers numbers
numbers_fit numbers counted each = record {
  counted = counted;
  each = λ setting. subst (λ (s : Setting). IsOf s (number_at numbers setting)) (setting_back setting) (each (index_of setting) (index_below setting));
}

-- ---- items of a run

at_index : (i k : ℕ) (n : ℕ) → i ≡ k → IsOf (setting_at i) n → IsOf (setting_at k) n
at_index i k n same is = subst (λ (j : ℕ). IsOf (setting_at j) n) same is

run_items : (first : ℕ) (before xs : List ℕ) → ((i : ℕ) → i < length xs → IsOf (setting_at (first + (length before + i))) (get_or xs i 0)) → AreItems (RunFits first) before xs
run_items first before [] each = tt
run_items first before (x ∷ xs) each = (
  at_index (first + (length before + 0)) (first + length before) x (omega arith) (each 0 (omega arith)),
  run_items first (before ++ x ∷ []) xs (λ i within. at_index (first + (length before + suc i)) (first + (length (before ++ x ∷ []) + i)) (get_or xs i 0) (omega (arith, length-append before (x ∷ []))) (each (suc i) (omega arith))),
)

run_each : (first : ℕ) (before xs : List ℕ) → AreItems (RunFits first) before xs → (i : ℕ) → i < length xs → IsOf (setting_at (first + (length before + i))) (get_or xs i 0)
run_each first before [] are i within = absurd (omega arith)
run_each first before (x ∷ xs) are zero within = at_index (first + length before) (first + (length before + 0)) x (omega arith) are.0
run_each first before (x ∷ xs) are (suc i) within =
    at_index (first + (length (before ++ x ∷ []) + i)) (first + (length before + suc i)) (get_or xs i 0) (omega (arith, length-append before (x ∷ []))) (run_each first (before ++ x ∷ []) xs are.1 i (omega arith))

-- a run as the end of a longer one
run_behind : (first : ℕ) (before xs : List ℕ) → length before ≡ first → AreItems (RunFits first) [] xs → AreItems (RunFits 0) before xs
run_behind first before xs counted are =
    run_items 0 before xs (λ i within. at_index (first + (0 + i)) (0 + (length before + i)) (get_or xs i 0) (omega arith) (run_each first [] xs are i within))

run_then : (before xs ys : List ℕ) → AreItems (RunFits 0) before xs → AreItems (RunFits 0) (before ++ xs) ys → AreItems (RunFits 0) before (xs ++ ys)
run_then before [] ys are more = subst (λ (l : List ℕ). AreItems (RunFits 0) l ys) (append-nil before) more
run_then before (x ∷ xs) ys are more = (are.0, run_then (before ++ x ∷ []) xs ys are.1 (subst (λ (l : List ℕ). AreItems (RunFits 0) l ys) (sym (append_assoc before (x ∷ []) xs)) more))

-- ---- the runs of numbers

length_run : (first count : ℕ) (numbers : List ℕ) → length numbers ≡ 12 → first + count ≤ 12 → length (run first count numbers) ≡ count
length_run first count numbers counted within = omega (arith, length-take count (drop first numbers), length-drop first numbers)

pub run_fits : (first count : ℕ) (numbers : List ℕ) → AreNumbers numbers → first + count ≤ 12 → IsRun first count (run first count numbers)
run_fits first count numbers are within =
    let counted = length_run first count numbers are.counted within in (
      run_items first [] (run first count numbers) (λ i inside.
          let there : get_or (run first count numbers) i 0 ≡ get_or numbers (first + i) 0 = get_or-take count (drop first numbers) i 0 (omega arith) ∙ get_or-drop first numbers i 0 in
          subst (IsOf (setting_at (first + (0 + i)))) (sym there) (at_index (first + i) (first + (0 + i)) (get_or numbers (first + i) 0) (omega arith) (each_fits numbers are (first + i) (omega arith)))),
      counted,
    )

-- the numbers whose runs these are
module _ (a b c d : List ℕ) where
  abbrev pub joined : List ℕ
  joined = a ++ (b ++ (c ++ d))

  pub runs_fit : IsRun 0 3 a → IsRun 3 7 b → IsRun 10 1 c → IsRun 11 1 d → AreNumbers joined
  runs_fit is_a is_b is_c is_d =
      let la : length a ≡ 3 = is_a.1 in
      let lb : length b ≡ 7 = is_b.1 in
      let lc : length c ≡ 1 = is_c.1 in
      let ld : length d ≡ 1 = is_d.1 in
      let counted : length joined ≡ 12 = omega (arith, length-append a (b ++ (c ++ d)), length-append b (c ++ d), length-append c d) in
      let at_b : length a ≡ 3 = la in
      let at_c : length (a ++ b) ≡ 10 = omega (arith, length-append a b) in
      let at_d : length ((a ++ b) ++ c) ≡ 11 = omega (arith, length-append (a ++ b) c, length-append a b) in
      let tail = run_then (a ++ b) c d (run_behind 10 (a ++ b) c at_c is_c.0) (run_behind 11 ((a ++ b) ++ c) d at_d is_d.0) in
      let items = run_then [] a (b ++ (c ++ d)) is_a.0 (run_then a b (c ++ d) (run_behind 3 a b at_b is_b.0) tail) in
      numbers_fit joined counted (λ i within. at_index (0 + (0 + i)) i (get_or joined i 0) (omega arith) (run_each 0 [] joined items i (omega arith)))

  pub first_run : length a ≡ 3 → run 0 3 joined ≡ a
  first_run la = ap (λ n. take n joined) (sym la) ∙ take-append_seam a (b ++ (c ++ d))

  pub second_run : length a ≡ 3 → length b ≡ 7 → run 3 7 joined ≡ b
  second_run la lb = ap (take 7) (ap (λ n. drop n joined) (sym la) ∙ drop-append_seam a (b ++ (c ++ d))) ∙ ap (λ n. take n (b ++ (c ++ d))) (sym lb) ∙ take-append_seam b (c ++ d)

  past_two : length a ≡ 3 → length b ≡ 7 → drop 10 joined ≡ c ++ d
  past_two la lb =
      let at : 10 ≡ length (a ++ b) = omega (arith, length-append a b) in
      ap (drop 10) (sym (append_assoc a b (c ++ d))) ∙ ap (λ n. drop n ((a ++ b) ++ (c ++ d))) at ∙ drop-append_seam (a ++ b) (c ++ d)

  pub third_run : length a ≡ 3 → length b ≡ 7 → length c ≡ 1 → run 10 1 joined ≡ c
  third_run la lb lc = ap (take 1) (past_two la lb) ∙ ap (λ n. take n (c ++ d)) (sym lc) ∙ take-append_seam c d

  pub fourth_run : length a ≡ 3 → length b ≡ 7 → length c ≡ 1 → length d ≡ 1 → run 11 1 joined ≡ d
  fourth_run la lb lc ld =
      ap (take 1) (sym (drop-drop 1 10 joined) ∙ ap (drop 1) (past_two la lb) ∙ ap (λ n. drop n (c ++ d)) (sym lc) ∙ drop-append_seam c d) ∙ take_all 1 d (omega arith)

-- numbers are joined from their runs
pub runs_joined : (numbers : List ℕ) → length numbers ≡ 12 → joined (run 0 3 numbers) (run 3 7 numbers) (run 10 1 numbers) (run 11 1 numbers) ≡ numbers
runs_joined numbers counted =
    ap (λ l. run 0 3 numbers ++ (run 3 7 numbers ++ (run 10 1 numbers ++ l))) (take_all 1 (drop 11 numbers) (omega (arith, length-drop 11 numbers)) ∙ sym (drop-drop 1 10 numbers))
    ∙ ap (λ l. run 0 3 numbers ++ (run 3 7 numbers ++ l)) (take-append-drop 1 (drop 10 numbers) ∙ sym (drop-drop 7 3 numbers))
    ∙ ap (λ l. run 0 3 numbers ++ l) (take-append-drop 7 (drop 3 numbers))
    ∙ take-append-drop 3 numbers
