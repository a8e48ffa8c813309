-- No event adds a host to those that may have tables of the first layout, and a Migrate takes its host out.
use Rattle.std.specs.Prelude.{◌≡◌, ℕ, ◌==◌, ◌||◌, not, cond, Bool, true, false, List, [], ◌∷◌, Option, Some, None, Ok, Err}
use Rattle.std.specs.List.{list_any, filter}
use Rattle.std.proofs.Common.{refl, sym, ap, subst}
use Rattle.std.proofs.lemmas.Map.Views.{any-filter_same}
use Rattle.office_model.specs.Meaning.{Carried, Judged, Reply, NameChange, Same, Adds, AddsStage, Sweeps, Renews, NextStage, NextReader, Migrates}
use Rattle.office_model.specs.Office.{Office, Names, host_index}
use Rattle.office_model.specs.UsedNames.{IsRenamed, AreHaltedNamesAfter, without_index}
use Rattle.office_model.specs.Step.{Running, Halted, names_of, meaning_of}
use Rattle.office_model.specs.OldTables.{NoneJoins, NoneJoinsLater, MigratedIsNone}

abbrev is_in : List ℕ → ℕ → Bool
is_in indexes host = list_any (λ i. i == host) indexes

both_out : (same rest : Bool) → (same || rest) ≡ false → (same ≡ false) × (rest ≡ false)
both_out false rest e = (refl, e)
both_out true rest e = absurd (cc)

one_fewer : (kept : Bool) (x : ℕ) (rest : List ℕ) (host : ℕ) → (x == host) ≡ false → is_in rest host ≡ false
    → is_in (cond kept (x ∷ rest) rest) host ≡ false
one_fewer true x rest host other out = rw other out
one_fewer false x rest host other out = out

-- what isn't in a list isn't in a part of it
filter_fewer : (keep : ℕ → Bool) (xs : List ℕ) (host : ℕ) → is_in xs host ≡ false → is_in (filter keep xs) host ≡ false
filter_fewer keep [] host out = out
filter_fewer keep (x ∷ xs) host out =
    let both = both_out (x == host) (is_in xs host) out in one_fewer (keep x) x (filter keep xs) host both.0 (filter_fewer keep xs host both.1)

fewer : (index : Option ℕ) (xs : List ℕ) (host : ℕ) → is_in xs host ≡ false → is_in (without_index index xs) host ≡ false
fewer None xs host out = out
fewer (Some index) xs host out = filter_fewer (λ i. not (i == index)) xs host out

without_it : (xs : List ℕ) (host : ℕ) → is_in (without_index (Some host) xs) host ≡ false
without_it xs host = any-filter_same (λ (i : ℕ). i == host) (λ i. not (i == host)) false (λ i same. ap not same) xs

-- ---- by what becomes of the names

module _ (host : ℕ) where
  abbrev IsOut : Names → Type 0
  IsOut names = is_in names.old_hosts host ≡ false

  out_after : (change : NameChange) (office : Office) (names : Names) (judged : Judged Carried) (reply : Reply) (names' : Names)
      → IsRenamed change office names judged reply names' → IsOut names → IsOut names'
  out_after Same office names judged reply names' is out = subst IsOut (sym is) out
  out_after (Adds content) office names judged reply names' is out = subst IsOut (sym is.0) out
  out_after (AddsStage number) office names judged reply names' is out = subst IsOut (sym is.0) out
  out_after Sweeps office names judged (Ok answer) names' is out = subst IsOut (sym is.0) out
  out_after Sweeps office names judged (Err refusal) names' is out = subst IsOut (sym is.0) out
  out_after Renews office names judged (Ok answer) names' is out = subst IsOut (sym is.0) out
  out_after Renews office names judged (Err refusal) names' is out = subst IsOut (sym is) out
  out_after NextStage office names judged (Ok answer) names' is out = subst IsOut (sym is) out
  out_after NextStage office names judged (Err refusal) names' is out = subst IsOut (sym is) out
  out_after NextReader office names judged (Ok answer) names' is out = subst IsOut (sym is) out
  out_after NextReader office names judged (Err refusal) names' is out = subst IsOut (sym is) out
  out_after (Migrates name) office names judged (Ok answer) names' is out =
      subst IsOut (sym is) (fewer (host_index office.hosts name) names.old_hosts host out)
  out_after (Migrates name) office names judged (Err refusal) names' is out = subst IsOut (sym is) out

  out_halted : (names : Names) (change : NameChange) (reply : Reply) (names' : Names) → AreHaltedNamesAfter names change reply names'
      → IsOut names → IsOut names'
  out_halted names Renews (Ok answer) names' is out = subst IsOut (sym is.0) out
  out_halted names change reply names' is out = subst IsOut (sym is) out

-- ---- by steps

pub none_joins : NoneJoins
none_joins (Running office names) event reply new step host out =
    out_after host (meaning_of event).renames office names ((meaning_of event).carried office names) reply (names_of new) step.1 out
none_joins (Halted before next names) event reply new step host out =
    out_halted host names (meaning_of event).renames reply (names_of new) step.1 out

pub none_joins_later : NoneJoinsLater
none_joins_later state faults [] legal host out = out
none_joins_later state faults (entry ∷ entries) legal host out =
    none_joins_later entry.state entry.faults entries legal.1 host (none_joins state entry.event entry.reply entry.state legal.0.step host out)

pub migrated_is_none : MigratedIsNone
migrated_is_none office names name answer new host step at =
    subst (IsOut host) (sym step.1) (subst (λ index. is_in (without_index index names.old_hosts) host ≡ false) (sym at) (without_it names.old_hosts host))
