-- Backups that flags name leave a host: those left are the backups of other numbers.
--     flagged_numbers flags lines      the numbers of the lines that are flagged
--     flagged_count      there are as many as flags are set
--     flagged_some, unflagged_none      whether there are any; if none is flagged, all are left
--     expired_left      what the model leaves of backups, some of which are flagged
use Rattle.std.specs.Prelude.{◌≡◌, ◌≢◌, ◌<◌, ℕ, zero, suc, ◌+◌, ◌-◌, ◌==◌, ◌&&◌, ◌||◌, Bool, true, false, cond, List, [], ◌∷◌, ◌++◌, length, get_or, count_by, Some, slice_get, if◌then◌else◌}
use Rattle.std.specs.List.{list_any}
use Rattle.std.proofs.Common.{refl, sym, ap, ◌∙◌, subst, arith, length-append}
use Rattle.std.proofs.lemmas.Bool.{true≢false, eq-eqb, ne_eqb}
use Rattle.std.proofs.lemmas.List.Sums.{sum_by-cons}
use Rattle.backup_rules.specs.declared.lines.Line.{Line}
use Rattle.office_model.specs.Office.{Backup, AreBackups}
use Rattle.office_model.specs.Parts.{lines_of, filled_as}
use Rattle.office_model.specs.events.Expire.{unflagged}
use Rattle.office_model.specs.laws.ExpireLaws.{FlagsFit, unsnoc, last_at}
use Rattle.backup_delete.specs.Trees.{is_gone, are_gone}
use Rattle.office_deletion.specs.DeletionLaws.{left_backups}

-- the numbers of the lines that are flagged
abbrev pub flagged_numbers : List Bool → List Line → List ℕ
flagged_numbers flags [] = []
flagged_numbers [] (line ∷ lines) = []
flagged_numbers (flag ∷ flags) (line ∷ lines) = cond flag (line.number ∷ flagged_numbers flags lines) (flagged_numbers flags lines)

abbrev set_count : List Bool → ℕ
set_count flags = count_by (λ flag. flag) flags

pub flagged_count : (flags : List Bool) (lines : List Line) → length flags ≡ length lines
    → length (flagged_numbers flags lines) ≡ count_by (λ flag. flag) flags
flagged_count [] [] same = refl
flagged_count [] (line ∷ lines) same = absurd (omega (arith, same))
flagged_count (flag ∷ flags) [] same = absurd (omega (arith, same))
flagged_count (flag ∷ flags) (line ∷ lines) same =
    step flag (flagged_count flags lines (omega (arith, same))) ∙ sym (sum_by-cons (λ flag. cond flag 1 0) flag flags)
  where
    step : (flag : Bool) → length (flagged_numbers flags lines) ≡ set_count flags
        → length (cond flag (line.number ∷ flagged_numbers flags lines) (flagged_numbers flags lines)) ≡ cond flag 1 0 + set_count flags
    step true rest = let one : suc (set_count flags) ≡ 1 + set_count flags = omega arith in ap suc rest ∙ one
    step false rest = let none : set_count flags ≡ 0 + set_count flags = omega arith in rest ∙ none

-- none are flagged
pub unflagged_none : {A : Type 0} (flags : List Bool) (xs : List A) → list_any (λ flag. flag) flags ≡ false → unflagged flags xs ≡ xs
unflagged_none flags [] none = refl
unflagged_none [] (x ∷ xs) none = refl
unflagged_none (true ∷ flags) (x ∷ xs) none = absurd (true≢false none)
unflagged_none (false ∷ flags) (x ∷ xs) none = ap (λ ys. x ∷ ys) (unflagged_none flags xs none)

pub flagged_none : (flags : List Bool) (lines : List Line) → length flags ≡ length lines → flagged_numbers flags lines ≡ []
    → list_any (λ flag. flag) flags ≡ false
flagged_none [] lines same none = refl
flagged_none (flag ∷ flags) [] same none = absurd (omega (arith, same))
flagged_none (true ∷ flags) (line ∷ lines) same none = absurd cc
flagged_none (false ∷ flags) (line ∷ lines) same none = flagged_none flags lines (omega (arith, same)) none

pub flagged_some : (flags : List Bool) (lines : List Line) → (flagged_numbers flags lines ≡ [] → ⊥)
    → list_any (λ flag. flag) flags ≡ true
flagged_some flags [] some = absurd (some refl)
flagged_some [] (line ∷ lines) some = absurd (some refl)
flagged_some (true ∷ flags) (line ∷ lines) some = refl
flagged_some (false ∷ flags) (line ∷ lines) some = flagged_some flags lines some

-- ---- numbers that rise

abbrev IsRising : List Backup → Type 0
IsRising all = (i j : ℕ) (a b : Backup) → i < j → slice_get all i ≡ Some a → slice_get all j ≡ Some b → a.line.number < b.line.number

-- the flag of a backup says whether its number is among those
abbrev AreFlagged : List ℕ → List Bool → List Backup → Type 0
AreFlagged numbers flags all = (i : ℕ) (b : Backup) → slice_get all i ≡ Some b → is_gone numbers b.line.number ≡ get_or flags i false

none_flagged : (number : ℕ) (flags : List Bool) (all : List Backup)
    → ((i : ℕ) (b : Backup) → slice_get all i ≡ Some b → b.line.number ≢ number)
    → is_gone (flagged_numbers flags (lines_of all)) number ≡ false
none_flagged number flags [] other = refl
none_flagged number [] (b ∷ all) other = refl
none_flagged number (flag ∷ flags) (b ∷ all) other =
    step flag (ne_eqb b.line.number number (other 0 b refl)) (none_flagged number flags all (λ i x at. other (suc i) x at))
  where
    step : (flag : Bool) → (b.line.number == number) ≡ false → is_gone (flagged_numbers flags (lines_of all)) number ≡ false
        → is_gone (cond flag (b.line.number ∷ flagged_numbers flags (lines_of all)) (flagged_numbers flags (lines_of all))) number ≡ false
    step true not rest = ap (λ t. t || is_gone (flagged_numbers flags (lines_of all)) number) not ∙ rest
    step false not rest = rest

are_flagged : (flags : List Bool) (all : List Backup) → IsRising all → AreFlagged (flagged_numbers flags (lines_of all)) flags all
are_flagged flags [] rise i b at = absurd cc
are_flagged [] (a ∷ all) rise i b at = refl
are_flagged (flag ∷ flags) (a ∷ all) rise zero b at = step flag
  where
    same : a.line.number ≡ b.line.number
    same = let is : a ≡ b = cc in ap (λ (x : Backup). x.line.number) is

    step : (flag : Bool)
        → is_gone (cond flag (a.line.number ∷ flagged_numbers flags (lines_of all)) (flagged_numbers flags (lines_of all))) b.line.number
        ≡ flag
    step true =
        ap (λ t. t || is_gone (flagged_numbers flags (lines_of all)) b.line.number) (eq-eqb a.line.number b.line.number same)
    step false =
        none_flagged b.line.number flags all (λ i x later is. omega (arith, same, is, rise 0 (suc i) a x (omega arith) refl later))
are_flagged (flag ∷ flags) (a ∷ all) rise (suc i) b at =
    step flag (are_flagged flags all (λ m n x y less e f. rise (suc m) (suc n) x y (omega arith) e f) i b at)
  where
    other : (a.line.number == b.line.number) ≡ false
    other = ne_eqb a.line.number b.line.number (λ is. omega (arith, is, rise 0 (suc i) a b (omega arith) refl at))

    step : (flag : Bool) → is_gone (flagged_numbers flags (lines_of all)) b.line.number ≡ get_or flags i false
        → is_gone (cond flag (a.line.number ∷ flagged_numbers flags (lines_of all)) (flagged_numbers flags (lines_of all))) b.line.number
        ≡ get_or flags i false
    step true rest = ap (λ t. t || is_gone (flagged_numbers flags (lines_of all)) b.line.number) other ∙ rest
    step false rest = rest

-- ---- the newest

-- the newest backup stays, and is filled
abbrev NewestStays : List ℕ → List Backup → Type 0
NewestStays numbers [] = Unit {0}
NewestStays numbers (b ∷ []) = (is_gone numbers b.line.number ≡ false) × (b.line.filled ≡ true)
NewestStays numbers (b ∷ c ∷ newer) = NewestStays numbers (c ∷ newer)

stays_behind : (numbers : List ℕ) (older : List Backup) (last : Backup) → is_gone numbers last.line.number ≡ false
    → last.line.filled ≡ true → NewestStays numbers (older ++ last ∷ [])
stays_behind numbers [] last here filled = (here, filled)
stays_behind numbers (b ∷ []) last here filled = (here, filled)
stays_behind numbers (b ∷ c ∷ older) last here filled = stays_behind numbers (c ∷ older) last here filled

rest_stays : (numbers : List ℕ) (b : Backup) (newer : List Backup) → NewestStays numbers (b ∷ newer) → NewestStays numbers newer
rest_stays numbers b [] stays = tt
rest_stays numbers b (c ∷ newer) stays = stays

not_all_gone : (numbers : List ℕ) (c : Backup) (newer : List Backup) → NewestStays numbers (c ∷ newer)
    → are_gone numbers (lines_of (c ∷ newer)) ≡ false
not_all_gone numbers c [] stays = ap (λ t. t && true) stays.0
not_all_gone numbers c (d ∷ newer) stays = step (is_gone numbers c.line.number) (not_all_gone numbers d newer stays)
  where
    step : (gone : Bool) → are_gone numbers (lines_of (d ∷ newer)) ≡ false → (gone && are_gone numbers (lines_of (d ∷ newer))) ≡ false
    step true rest = rest
    step false rest = refl

filled_same : (b : Backup) → b.line.filled ≡ true → filled_as true b ≡ b
filled_same b is = λ i. record b { line = record b.line { filled = sym is i } }

-- where the newest stays, no other backup becomes filled
stays_as : (numbers : List ℕ) (b : Backup) (newer : List Backup) → NewestStays numbers (b ∷ newer)
    → (if are_gone numbers (lines_of newer) then filled_as true b else b) ≡ b
stays_as numbers b [] stays = filled_same b stays.1
stays_as numbers b (c ∷ newer) stays =
    ap (λ (t : Bool). if t then filled_as true b else b) (not_all_gone numbers c newer stays)

unflagged_left : (numbers : List ℕ) (flags : List Bool) (all : List Backup) → length flags ≡ length all → AreFlagged numbers flags all
    → NewestStays numbers all → unflagged flags all ≡ left_backups numbers all
unflagged_left numbers flags [] same are stays = refl
unflagged_left numbers [] (b ∷ newer) same are stays = absurd (omega (arith, same))
unflagged_left numbers (flag ∷ flags) (b ∷ newer) same are stays =
    step flag (is_gone numbers b.line.number) (are 0 b refl)
    (unflagged_left numbers flags newer (omega (arith, same)) (λ i x at. are (suc i) x at) (rest_stays numbers b newer stays))
  where
    step : (flag gone : Bool) → gone ≡ flag → unflagged flags newer ≡ left_backups numbers newer
        → cond flag (unflagged flags newer) (b ∷ unflagged flags newer)
        ≡ (if gone then left_backups numbers newer
        else (if are_gone numbers (lines_of newer) then filled_as true b else b) ∷ left_backups numbers newer)
    step true true is rest = rest
    step false false is rest = λ i. sym (stays_as numbers b newer stays) i ∷ rest i
    step true false is rest = absurd (true≢false (sym is))
    step false true is rest = absurd (true≢false is)

-- ---- the model's expiry

pub expired_left : (next : ℕ) (flags : List Bool) (all : List Backup) → AreBackups next all → FlagsFit flags all
    → unflagged flags all ≡ left_backups (flagged_numbers flags (lines_of all)) all
expired_left next flags all are fit =
    unflagged_left (flagged_numbers flags (lines_of all)) flags all fit.counted flagged (stays all are fit flagged)
  where
    flagged : AreFlagged (flagged_numbers flags (lines_of all)) flags all
    flagged = are_flagged flags all are.numbered.rise

    stays : (all : List Backup) → AreBackups next all → FlagsFit flags all → AreFlagged (flagged_numbers flags (lines_of all)) flags all
        → NewestStays (flagged_numbers flags (lines_of all)) all
    stays [] are fit flagged = tt
    stays (b ∷ newer) are fit flagged = step (unsnoc b newer)
      where
        numbers : List ℕ
        numbers = flagged_numbers flags (lines_of (b ∷ newer))

        step : (older : List Backup) × (last : Backup) × (b ∷ newer ≡ older ++ last ∷ []) → NewestStays numbers (b ∷ newer)
        step w =
            let count : length (w.0 ++ w.1 ∷ []) - 1 ≡ length w.0 = omega (arith, length-append w.0 (w.1 ∷ [])) in
            let at : slice_get (b ∷ newer) (length w.0) ≡ Some w.1 = ap (λ xs. slice_get xs (length w.0)) w.2 ∙ last_at w.0 w.1 in
            let end : length (b ∷ newer) - 1 ≡ length w.0 = ap (λ xs. length xs - 1) w.2 ∙ count in
            subst (NewestStays numbers) (sym w.2)
            (stays_behind numbers w.0 w.1 (flagged (length w.0) w.1 at ∙ fit.newest w.0 w.1 w.2)
            (are.last_filled w.1 (ap (slice_get (b ∷ newer)) end ∙ at)))
