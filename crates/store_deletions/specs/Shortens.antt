-- Events that take backups out of a host.
--     broken_rule lines number      the first rule that a deletion of one backup breaks, by the lines of the host
--     named_numbers rules now lines      the numbers of the backups that the keeping rules name
--     Shortens event answer office names p numbers      the event breaks no rule, and leaves the host at this place without the
--         backups of these numbers
--     Shortening known event answer p numbers      so with any office of which a catalog knows
--     answered answer result      the reply of such an event
use Rattle.std.specs.Prelude.{◌≡◌, ℕ, false, List, Option, Some, None, Result, Ok, Err, slice_get, slice_set}
use Rattle.std.specs.Option.{option_map_or}
use Rattle.backup_rules.specs.declared.lines.Line.{Line}
use Rattle.backup_rules.specs.Values.{RuleSet}
use Rattle.keep_rules.specs.Flags.{named_flags}
use Rattle.office_catalog.specs.Known.{Known, line_numbered}
use Rattle.office_model.specs.declared.answer.Answer.{Answer}
use Rattle.office_model.specs.declared.event.Event.{Event}
use Rattle.office_model.specs.declared.refusal.BrokenRule.{BrokenRule}
use Rattle.office_model.specs.declared.refusal.BrokenRule.TheVariants.{NoBackup, Kept}
use Rattle.office_model.specs.declared.refusal.Refusal.{Refusal}
use Rattle.office_model.specs.Office.{Office, Host, Names, with_hosts}
use Rattle.office_model.specs.Meaning.{Reply, ReadsAndCommits, breaks}
use Rattle.office_model.specs.Step.{IsAnswerTo, meaning_of}
use Rattle.office_model.specs.UsedNames.{AreSound, AreNamesAfter}
use Rattle.store_parts.specs.KnownOffice.{known_of_office}
use Rattle.office_deletion.specs.ExpiryLaws.{flagged_numbers}
use Rattle.store_deletions.specs.Planned.{left_host}

-- by the place of the backup's line
abbrev pub broken_at : List Line → Option ℕ → Option BrokenRule
broken_at lines None = Some NoBackup
broken_at lines (Some place) = option_map_or (λ line. breaks Kept line.keep) (slice_get lines place) (Some NoBackup)

abbrev pub broken_rule : List Line → ℕ → Option BrokenRule
broken_rule lines number = broken_at lines (line_numbered lines number)

abbrev pub named_numbers : RuleSet → ℕ → List Line → List ℕ
named_numbers rules now lines = flagged_numbers (named_flags rules now lines) lines

-- it reads and commits, and leaves the pool's contents
pub record Shortens (event : Event) (answer : Answer) (office : Office) (names : Names) (p : ℕ) (numbers : List ℕ) : Type 0 where
  pub host : Host
  pub is_host : slice_get office.hosts p ≡ Some host
  pub judged : (meaning_of event).carried office names
      ≡ Ok (record { answer = answer; after = with_hosts office (slice_set office.hosts p (left_host numbers host)) })
  pub touches : (meaning_of event).touches office names ≡ ReadsAndCommits
  pub plain : (meaning_of event).pools ≡ false

-- it does so with any sound office of this catalog; the names stay
pub record Shortening (known : Known) (event : Event) (answer : Answer) (p : ℕ) (numbers : List ℕ) : Type 0 where
  pub each : (office : Office) (names : Names) → known ≡ known_of_office office.durable → AreSound office names
      → Shortens event answer office names p numbers
  pub stay : (office : Office) (names : Names) (reply : Reply) → AreNamesAfter office names (meaning_of event) reply names
  pub in_kind : IsAnswerTo event answer

-- the reply, if nothing is refused
abbrev pub answered : Answer → Result (Unit {0}) Refusal → Reply
answered answer (Ok done) = Ok answer
answered answer (Err refusal) = Err refusal
