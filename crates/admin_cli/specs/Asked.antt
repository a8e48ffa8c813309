-- What a run is asked to do, or why it is refused before a store is opened.
--     IsSettingsFile      the bytes are a settings file
--     IsAsked, IsRefused      the words and the settings were understood; they were refused
--     TellsRefusals      when the statuses 2 and 7 come
use Rattle.std.specs.Prelude.{◌≡◌, ℕ, false, List, IsUtf8, Option, None, Some, IsSome, ◌⊎◌}
use Rattle.toml.specs.Data.{Members}
use Rattle.toml.specs.Parse.{parse_document}
use Rattle.settings_file.specs.declared.read.Settings.{Settings}
use Rattle.settings_file.specs.declared.fault.SettingsFault.{SettingsFault}
use Rattle.settings_file.specs.declared.fault.SettingsFault.TheVariants as F
use Rattle.settings_file.specs.Document.{first_wrong, has_unknowns, IsSettings, IsRefusal}
use Rattle.request_events.specs.declared.defaults.Defaults.{Defaults}
use Rattle.admin_cli.specs.declared.note.Note.{Note}
use Rattle.admin_cli.specs.declared.note.Note.TheVariants.{Usage, NoMemory, BadSettings}
use Rattle.admin_cli.specs.declared.asked.Asked.{Asked}
use Rattle.command_line.specs.Line.{Line, task_of}
use Rattle.admin_cli.specs.Command.{AsksFor}
use Rattle.admin_cli.specs.Statuses.{status_of}

-- TOML, with each value right and no unknown key
pub record IsSettingsFile (bytes : List ℕ) : Type 0 where
  pub utf8 : IsUtf8 bytes
  pub document : Members
  pub parsed : parse_document bytes ≡ Some document
  pub right : first_wrong document ≡ None
  pub known : has_unknowns document ≡ false

-- what the settings add to a request
abbrev pub defaults_of : Settings → Defaults
defaults_of settings = record { rules = settings.rules; zone = settings.zone }

-- what is said of settings that were refused
abbrev pub note_of_settings : SettingsFault → Note
note_of_settings F.NotToml = BadSettings F.NotToml
note_of_settings (F.BadKey key) = BadSettings (F.BadKey key)
note_of_settings F.UnknownKey = BadSettings F.UnknownKey
note_of_settings F.Memory = NoMemory

-- the words ask for this work, and the settings are these
pub record IsAsked (line : Option Line) (settings : List ℕ) (asked : Asked) : Type 0 where
  pub work : AsksFor (task_of asked.work.now) line
  pub settings_are : IsSettings settings asked.settings

-- The words are no command line, or the settings no settings file, for this reason; or there was no memory for them or, after them,
-- for the table of routes.
abbrev pub IsRefused : Option Line → List ℕ → Note → Type 0
IsRefused None settings note = (note ≡ Usage) ⊎ (note ≡ NoMemory)
IsRefused (Some line) settings note = (fault : SettingsFault) × (note ≡ note_of_settings fault) × IsRefusal settings fault

-- 2 comes exactly where the words are no command line, and 7 exactly where they are one and the settings are no settings file; for
-- want of memory 6 may stand in the place of both
pub record TellsRefusals (line : Option Line) (settings : List ℕ) (note : Note) : Type 0 where
  pub usage : status_of note ≡ 2 → line ≡ None
  pub no_line : line ≡ None → (status_of note ≡ 2) ⊎ (status_of note ≡ 6)
  pub refused : status_of note ≡ 7 → IsSome line × (IsSettingsFile settings → ⊥)
  pub no_settings : IsSome line → (IsSettingsFile settings → ⊥) → (status_of note ≡ 7) ⊎ (status_of note ≡ 6)
