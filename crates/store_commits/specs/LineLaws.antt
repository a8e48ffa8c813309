-- The index of a host after a commit.
--     dropped_none, dropped_newest      what the rules say of the newest backup's line
--     given_receipts      the receipts with the new one are those of the host after the commit, if none has the dump's token
--     index_committed      the index with the new line is that of the host after the commit
use Rattle.std.specs.Prelude.{◌≡◌, ◌≢◌, ◌⊎◌, ℕ, suc, ◌-◌, Bool, true, false, not, ◌||◌, List, [], ◌∷◌, ◌++◌, length, Option, Some, None, is_some, slice_get, if◌then◌else◌}
use Rattle.std.proofs.Common.{refl, sym, ap, ◌∙◌, subst, inl, inr, arith}
use Rattle.receipts.specs.declared.receipt.Receipt.{Receipt}
use Rattle.receipts.specs.declared.session.SessionName.{SessionName}
use Rattle.receipts.specs.declared.session.Token.{Token}
use Rattle.receipts.specs.Receipts.{has_token, with_newest as with_newest_receipt}
use Rattle.receipts.specs.Session.{is_same_token}
use Rattle.backup_rules.specs.declared.lines.Line.{Line}
use Rattle.backup_rules.specs.Fill.{stays_filled}
use Rattle.backup_rules.specs.Values.{RuleSet}
use Rattle.office_catalog.specs.Known.{given_filled, last_filled, with_given, with_line}
use Rattle.office_model.specs.Office.{Host, Backup, Dump, IsUnspent}
use Rattle.office_model.specs.Places.{AtEach}
use Rattle.office_model.specs.laws.RepeatLaws.{same_token}
use Rattle.office_model.specs.Parts.{lines_of, filled_as, with_newest}
use Rattle.office_model.specs.events.Commit.{new_backup, with_receipt, with_commit}
use Rattle.office_files.specs.Hosts.{index_of_host}
use Rattle.office_model.specs.PairsLaws.{last_there, longer}
use Rattle.office_changes.specs.CommitLaws.{with_newest-push}
use Rattle.store_commits.specs.Former.{last_line, if_dropped, dropped_of}
use Rattle.store_commits.specs.HostLaws.{HasLast, ends}
use Rattle.store_commits.specs.Judged.{receipt_by}

lines_both : (xs ys : List Backup) → lines_of (xs ++ ys) ≡ lines_of xs ++ lines_of ys
lines_both [] ys = refl
lines_both (x ∷ xs) ys = ap (λ l. x.line ∷ l) (lines_both xs ys)

length_lines : (xs : List Backup) → length (lines_of xs) ≡ length xs
length_lines [] = refl
length_lines (x ∷ xs) = let rest = length_lines xs in omega (arith, rest)

-- the last line is that of the newest backup
last_newest : (older : List Backup) (newest : Backup) → last_line (lines_of (older ++ newest ∷ [])) ≡ Some newest.line
last_newest older newest =
    ap last_line (lines_both older (newest ∷ []))
    ∙ ap (λ (k : ℕ). slice_get (lines_of older ++ newest.line ∷ []) k) place ∙ last_there (lines_of older) newest.line
  where
    place : length (lines_of older ++ newest.line ∷ []) - 1 ≡ length (lines_of older)
    place = let all = longer (lines_of older) newest.line in omega (arith, all)

pub dropped_newest : (rules : RuleSet) (older : List Backup) (newest : Backup)
    → dropped_of rules (lines_of (older ++ newest ∷ [])) ≡ (if stays_filled rules newest.line then None else Some newest.line)
dropped_newest rules older newest = ap (if_dropped rules) (last_newest older newest)

-- the former newest filled so
filled_push : (filled : Bool) (lines : List Line) (line : Line) → last_filled filled (lines ++ line ∷ []) ≡ lines ++ given_filled filled line ∷ []
filled_push filled [] line = refl
filled_push filled (first ∷ []) line = refl
filled_push filled (first ∷ second ∷ lines) line = ap (λ l. first ∷ l) (filled_push filled (second ∷ lines) line)

not_dropped : (b : Bool) (line : Line) → not (is_some (if b then None else Some line)) ≡ b
not_dropped true line = refl
not_dropped false line = refl

-- a token that no receipt has
not_same : (a b : Token) → a ≢ b → is_same_token a b ≡ false
not_same a b other = step (is_same_token a b) refl
  where
    step : (test : Bool) → is_same_token a b ≡ test → is_same_token a b ≡ false
    step true is = absurd (other (same_token a b is))
    step false is = is

none_has : (receipts : List Receipt) (token : Token) → AtEach (λ (receipt : Receipt). receipt.token ≢ token) receipts
    → has_token receipts token ≡ false
none_has [] token none = refl
none_has (receipt ∷ receipts) token none =
    ap (λ b. b || has_token receipts token) (not_same receipt.token token (none 0 receipt refl))
    ∙ none_has receipts token (λ i r at. none (suc i) r at)

pub given_receipts : (token : Option Token) (name : SessionName) (number : ℕ) (receipts : List Receipt) → IsUnspent receipts token
    → with_given (receipt_by token name number) receipts ≡ with_receipt token name number receipts
given_receipts None name number receipts unspent = refl
given_receipts (Some token) name number receipts unspent =
    ap (λ (b : Bool). if b then receipts else with_newest_receipt receipts (record { token = token; name = name; number = number }))
    (none_has receipts token unspent)

-- the lines of the host with the new backup
module _ (host : Host) (dump : Dump) (line : Line) where
  lines_after : (backups : List Backup) → lines_of (with_newest host.rules backups (new_backup dump line))
      ≡ last_filled (not (is_some (dropped_of host.rules (lines_of backups)))) (lines_of backups) ++ line ∷ []
  lines_after backups = step (ends backups)
    where
      step : (backups ≡ []) ⊎ HasLast backups → lines_of (with_newest host.rules backups (new_backup dump line))
          ≡ last_filled (not (is_some (dropped_of host.rules (lines_of backups)))) (lines_of backups) ++ line ∷ []
      step (inl none) = subst (λ (b : List Backup). lines_of (with_newest host.rules b (new_backup dump line))
          ≡ last_filled (not (is_some (dropped_of host.rules (lines_of b)))) (lines_of b) ++ line ∷ []) (sym none) refl
      step (inr further) = subst (λ (b : List Backup). lines_of (with_newest host.rules b (new_backup dump line))
          ≡ last_filled (not (is_some (dropped_of host.rules (lines_of b)))) (lines_of b) ++ line ∷ []) (sym further.is)
          (pushed further.front further.last)
        where
          pushed : (older : List Backup) (newest : Backup) → lines_of (with_newest host.rules (older ++ newest ∷ []) (new_backup dump line))
              ≡ last_filled (not (is_some (dropped_of host.rules (lines_of (older ++ newest ∷ []))))) (lines_of (older ++ newest ∷ []))
              ++ line ∷ []
          pushed older newest =
              ap lines_of (with_newest-push host.rules older newest (new_backup dump line))
              ∙ lines_both (older ++ filled_as (stays_filled host.rules newest.line) newest ∷ []) (new_backup dump line ∷ [])
              ∙ ap (λ (l : List Line). l ++ line ∷ [])
              (lines_both older (filled_as (stays_filled host.rules newest.line) newest ∷ [])
              ∙ sym (filled_push (stays_filled host.rules newest.line) (lines_of older) newest.line)
              ∙ (λ j. last_filled (sym (ap (λ o. not (is_some o)) (dropped_newest host.rules older newest)
              ∙ not_dropped (stays_filled host.rules newest.line) newest.line) j) (sym (lines_both older (newest ∷ [])) j)))

  pub index_committed : (number : ℕ) → IsUnspent host.receipts dump.token
      → with_line line (not (is_some (dropped_of host.rules (lines_of host.backups))))
      (receipt_by dump.token dump.name line.number) (index_of_host number host)
      ≡ index_of_host number (with_commit host dump line)
  index_committed number unspent = λ j. record (index_of_host number (with_commit host dump line)) {
    receipts = given_receipts dump.token dump.name line.number host.receipts unspent j;
    lines = sym (lines_after host.backups) j;
  }
