-- What the words and the settings let a run say.
--     file_of, refused_for_memory      settings that were read are a settings file, which is refused for want of memory alone
--     refused_line      words that were refused
--     tells_served, tells_night, tells_migration, tells_demo, tells_pull, tells_dump, tells_restore, tells_doors, tells_nobody, tells_refused, tells_unopened      when the statuses 2 and 7 come
use Rattle.std.specs.Prelude.{IsSome, Result, ◌⊎◌}
use Rattle.std.proofs.Common.{◌≡◌, ℕ, Bool, true, false, List, Option, None, Some, Ok, Err, refl, sym, ap, ◌∙◌, subst, inl, inr, arith}
use Rattle.std.proofs.lemmas.Bool.{false≢true}
use Rattle.store_opening.specs.declared.fault.OpenRefusal.{OpenRefusal}
use Rattle.store_opening.specs.declared.fault.OpenRefusal.TheVariants as O
use Rattle.settings_file.specs.declared.read.Settings.{Settings}
use Rattle.settings_file.specs.declared.fault.SettingsFault.{SettingsFault}
use Rattle.settings_file.specs.declared.fault.SettingsFault.TheVariants as F
use Rattle.settings_file.specs.Document.{first_wrong, has_unknowns, IsSettings, IsRefusal}
use Rattle.office_model.specs.declared.refusal.Refusal.{Refusal}
use Rattle.office_model.specs.declared.refusal.Refusal.TheVariants as R
use Rattle.night_work.specs.declared.ends.NightEnd.{NightEnd}
use Rattle.night_work.specs.declared.ends.NightEnd.TheVariants as N
use Rattle.migrate_work.specs.declared.ends.MigrationEnd.{MigrationEnd}
use Rattle.migrate_work.specs.declared.ends.MigrationEnd.TheVariants as G
use Rattle.demo_work.specs.declared.ends.DemoEnd.{DemoEnd}
use Rattle.demo_work.specs.declared.ends.DemoEnd.TheVariants as M
use Rattle.pull_work.specs.declared.ends.PullEnd.{PullEnd}
use Rattle.pull_work.specs.declared.ends.PullEnd.TheVariants as B
use Rattle.folder_walk.specs.declared.refusals.DumpRefusal.{DumpRefusal}
use Rattle.folder_walk.specs.declared.refusals.DumpRefusal.TheVariants as P
use Rattle.folder_restore.specs.declared.refusals.RestoreRefusal.{RestoreRefusal}
use Rattle.folder_restore.specs.declared.refusals.RestoreRefusal.TheVariants as W
use Rattle.browse_http.specs.declared.end.End.{End}
use Rattle.browse_http.specs.declared.end.End.TheVariants.{Ended, Truncated, BadRequest, LinkFault, Memory, Cut}
use Rattle.admin_cli.specs.declared.note.Note.{Note}
use Rattle.admin_cli.specs.declared.note.Note.TheVariants.{Usage, NoMemory, LinkFailed, DiskFailed, Foreign, Refused, BadPath, BadTarget, FileTooLarge, FolderNotEmpty, StoreNotEmpty, FolderFailed, Pulled, PeerRefused, PeerForeign}
use Rattle.admin_cli.specs.Statuses.{status_of}
use Rattle.command_line.specs.declared.line.LineFault.{LineFault}
use Rattle.command_line.specs.declared.line.LineFault.TheVariants as L
use Rattle.command_line.specs.Line.{Line, Task}
use Rattle.admin_cli.specs.Command.{AsksFor}
use Rattle.admin_cli.specs.Asked.{IsSettingsFile, note_of_settings, IsRefused, TellsRefusals}
use Rattle.admin_cli.specs.Folders.{note_of_rule, note_of_call, note_of_dump, note_of_restore}
use Rattle.admin_cli.specs.Migrations.{note_of_migration}
use Rattle.admin_cli.specs.Demos.{note_of_demo}
use Rattle.admin_cli.specs.Pulls.{note_of_pull}
use Rattle.admin_cli.specs.Nights.{note_of_all, note_of_refused, note_of_night}
use Rattle.admin_cli.specs.Run.{note_of, note_of_refusal}
use Rattle.admin_cli.specs.Servers.{note_of_served}

pub none_said : IsSome {T = Line} None → ⊥
none_said said = false≢true said

pub said_task : (line : Option Line) (task : Task) → AsksFor task line → IsSome line
said_task None task asked = let no : ⊥ = cc (asked) in absurd no
said_task (Some line) task asked = refl

pub file_of : (bytes : List ℕ) (read : Settings) → IsSettings bytes read → IsSettingsFile bytes
file_of bytes read is =
    record { utf8 = is.utf8; document = is.document; parsed = is.parsed; right = is.are.right; known = is.are.known }

pub refused_for_memory : (bytes : List ℕ) (fault : SettingsFault) → IsSettingsFile bytes → IsRefusal bytes fault
    → note_of_settings fault ≡ NoMemory
refused_for_memory bytes F.NotToml is refused =
    let none = refused is.utf8 in
    let parsed = is.parsed in
    let no : ⊥ = cc (none, parsed) in
    absurd no
refused_for_memory bytes (F.BadKey key) is refused =
    let parsed = is.parsed in
    let again = refused.parsed in
    let same : is.document ≡ refused.document = cc (parsed, again) in
    let wrong : None ≡ Some key = sym is.right ∙ (ap first_wrong same ∙ refused.is) in
    let no : ⊥ = cc (wrong) in
    absurd no
refused_for_memory bytes F.UnknownKey is refused =
    let parsed = is.parsed in
    let again = refused.parsed in
    let same : is.document ≡ refused.document = cc (parsed, again) in
    absurd (false≢true (sym is.known ∙ (ap has_unknowns same ∙ refused.is.1)))
refused_for_memory bytes F.Memory is refused = refl

pub refused_line : (line : Option Line) (settings : List ℕ) (fault : LineFault) (note : Note) → (fault ≡ L.NoParse → line ≡ None)
    → (fault ≡ L.NoParse → note ≡ Usage) → (fault ≡ L.Memory → note ≡ NoMemory) → IsRefused line settings note
refused_line line settings L.NoParse note none usage memory =
    subst (λ (l : Option Line). IsRefused l settings note) (sym (none refl)) (inl (usage refl))
refused_line None settings L.Memory note none usage memory = inr (memory refl)
refused_line (Some line) settings L.Memory note none usage memory = (F.Memory, memory refl, tt)

-- a note of neither status
abbrev IsOther : Note → Type 0
IsOther note = (status_of note ≡ 2 → ⊥) × (status_of note ≡ 7 → ⊥)

other : (note : Note) (status : ℕ) → status_of note ≡ status → (status ≡ 2 → ⊥) → (status ≡ 7 → ⊥) → IsOther note
other note status is two seven = ((λ e. two (sym is ∙ e)), (λ e. seven (sym is ∙ e)))

served_other : (end : End) (halted : Bool) → IsOther (note_of end halted)
served_other Memory halted = other NoMemory 6 refl (λ e. omega (arith, e)) (λ e. omega (arith, e))
served_other LinkFault halted = other (note_of LinkFault halted) 3 refl (λ e. omega (arith, e)) (λ e. omega (arith, e))
served_other Ended true = other (note_of Ended true) 4 refl (λ e. omega (arith, e)) (λ e. omega (arith, e))
served_other Ended false = other (note_of Ended false) 0 refl (λ e. omega (arith, e)) (λ e. omega (arith, e))
served_other Truncated true = other (note_of Truncated true) 4 refl (λ e. omega (arith, e)) (λ e. omega (arith, e))
served_other Truncated false = other (note_of Truncated false) 1 refl (λ e. omega (arith, e)) (λ e. omega (arith, e))
served_other BadRequest true = other (note_of BadRequest true) 4 refl (λ e. omega (arith, e)) (λ e. omega (arith, e))
served_other BadRequest false = other (note_of BadRequest false) 1 refl (λ e. omega (arith, e)) (λ e. omega (arith, e))
served_other (Cut refusal) true = other (note_of (Cut refusal) true) 4 refl (λ e. omega (arith, e)) (λ e. omega (arith, e))
served_other (Cut refusal) false = other (note_of (Cut refusal) false) 1 refl (λ e. omega (arith, e)) (λ e. omega (arith, e))

all_other : (failed halted : Bool) → IsOther (note_of_all failed halted)
all_other true halted = other (note_of_all true halted) 3 refl (λ e. omega (arith, e)) (λ e. omega (arith, e))
all_other false true = other (note_of_all false true) 4 refl (λ e. omega (arith, e)) (λ e. omega (arith, e))
all_other false false = other (note_of_all false false) 0 refl (λ e. omega (arith, e)) (λ e. omega (arith, e))

refused_other : (refusal : Refusal) (halted : Bool) → IsOther (note_of_refused refusal halted)
refused_other (R.Broken rule) halted = all_other false halted
refused_other R.Halted halted = other (note_of_refused R.Halted halted) 4 refl (λ e. omega (arith, e)) (λ e. omega (arith, e))
refused_other R.DiskFault halted = other (note_of_refused R.DiskFault halted) 4 refl (λ e. omega (arith, e)) (λ e. omega (arith, e))
refused_other (R.Damaged file found) halted =
    other (note_of_refused (R.Damaged file found) halted) 5 refl (λ e. omega (arith, e)) (λ e. omega (arith, e))
refused_other R.Memory halted = other (note_of_refused R.Memory halted) 6 refl (λ e. omega (arith, e)) (λ e. omega (arith, e))

night_other : (end : NightEnd) (failed halted : Bool) → IsOther (note_of_night end failed halted)
night_other (N.Done night) failed halted = all_other failed halted
night_other N.NotNow failed halted = all_other failed halted
night_other (N.Refused refusal) failed halted = refused_other refusal halted
night_other N.Memory failed halted = other NoMemory 6 refl (λ e. omega (arith, e)) (λ e. omega (arith, e))

rule_other : (note : Note) (halted : Bool) → status_of note ≡ 1 → IsOther (note_of_rule note halted)
rule_other note true is = other DiskFailed 4 refl (λ e. omega (arith, e)) (λ e. omega (arith, e))
rule_other note false is = other note 1 is (λ e. omega (arith, e)) (λ e. omega (arith, e))

call_other : (refusal : Refusal) (halted : Bool) → IsOther (note_of_call refusal halted)
call_other (R.Broken rule) halted = rule_other (Refused rule) halted refl
call_other R.Halted halted = other DiskFailed 4 refl (λ e. omega (arith, e)) (λ e. omega (arith, e))
call_other R.DiskFault halted = other DiskFailed 4 refl (λ e. omega (arith, e)) (λ e. omega (arith, e))
call_other (R.Damaged file found) halted = other (Foreign file) 5 refl (λ e. omega (arith, e)) (λ e. omega (arith, e))
call_other R.Memory halted = other NoMemory 6 refl (λ e. omega (arith, e)) (λ e. omega (arith, e))

dump_other : (result : Result ℕ DumpRefusal) (failed halted : Bool) → IsOther (note_of_dump result failed halted)
dump_other (Ok number) failed halted = all_other failed halted
dump_other (Err (P.Refused refusal)) failed halted = call_other refusal halted
dump_other (Err (P.BadPath rule)) failed halted = rule_other BadPath halted refl
dump_other (Err P.BadTarget) failed halted = rule_other BadTarget halted refl
dump_other (Err P.FileTooLarge) failed halted = rule_other FileTooLarge halted refl
dump_other (Err P.Folder) failed halted = other FolderFailed 3 refl (λ e. omega (arith, e)) (λ e. omega (arith, e))
dump_other (Err P.Memory) failed halted = other NoMemory 6 refl (λ e. omega (arith, e)) (λ e. omega (arith, e))

restore_other : (result : Result ℕ RestoreRefusal) (failed halted : Bool) → IsOther (note_of_restore result failed halted)
restore_other (Ok entries) failed halted = all_other failed halted
restore_other (Err (W.Refused refusal)) failed halted = call_other refusal halted
restore_other (Err W.NotEmpty) failed halted = rule_other FolderNotEmpty halted refl
restore_other (Err W.Folder) failed halted = other FolderFailed 3 refl (λ e. omega (arith, e)) (λ e. omega (arith, e))
restore_other (Err W.Memory) failed halted = other NoMemory 6 refl (λ e. omega (arith, e)) (λ e. omega (arith, e))

migration_other : (end : MigrationEnd) (failed halted : Bool) → IsOther (note_of_migration end failed halted)
migration_other (G.Done count) failed halted = all_other failed halted
migration_other (G.Refused refusal) failed halted = call_other refusal halted
migration_other G.Memory failed halted = other NoMemory 6 refl (λ e. omega (arith, e)) (λ e. omega (arith, e))

demo_other : (end : DemoEnd) (failed halted : Bool) → IsOther (note_of_demo end failed halted)
demo_other (M.Done summary) failed halted = all_other failed halted
demo_other M.Occupied failed halted = rule_other StoreNotEmpty halted refl
demo_other (M.Refused refusal) failed halted = call_other refusal halted
demo_other M.Memory failed halted = other NoMemory 6 refl (λ e. omega (arith, e)) (λ e. omega (arith, e))

pulled_other : (host : List ℕ) (count : ℕ) (halted : Bool) → IsOther (note_of_rule (Pulled host count) halted)
pulled_other host count true = other DiskFailed 4 refl (λ e. omega (arith, e)) (λ e. omega (arith, e))
pulled_other host count false = other (Pulled host count) 0 refl (λ e. omega (arith, e)) (λ e. omega (arith, e))

pull_other : (host : List ℕ) (end : PullEnd) (halted : Bool) → IsOther (note_of_pull host end halted)
pull_other host (B.Done count) halted = pulled_other host count halted
pull_other host (B.Refused refusal) halted = call_other refusal halted
pull_other host (B.PeerRefused status) halted = rule_other (PeerRefused status) halted refl
pull_other host B.PeerForeign halted = rule_other PeerForeign halted refl
pull_other host B.LinkFault halted = other LinkFailed 3 refl (λ e. omega (arith, e)) (λ e. omega (arith, e))
pull_other host B.Memory halted = other NoMemory 6 refl (λ e. omega (arith, e)) (λ e. omega (arith, e))

doors_other : (failed halted : Bool) → IsOther (note_of_served failed halted)
doors_other true halted = other (note_of_served true halted) 3 refl (λ e. omega (arith, e)) (λ e. omega (arith, e))
doors_other false true = other (note_of_served false true) 4 refl (λ e. omega (arith, e)) (λ e. omega (arith, e))
doors_other false false = other (note_of_served false false) 0 refl (λ e. omega (arith, e)) (λ e. omega (arith, e))

unopened_other : (refusal : OpenRefusal) → IsOther (note_of_refusal refusal)
unopened_other (O.Foreign file found) = other (note_of_refusal (O.Foreign file found)) 5 refl (λ e. omega (arith, e)) (λ e. omega (arith, e))
unopened_other O.EpochsSpent = other (note_of_refusal O.EpochsSpent) 5 refl (λ e. omega (arith, e)) (λ e. omega (arith, e))
unopened_other O.DiskFault = other (note_of_refusal O.DiskFault) 4 refl (λ e. omega (arith, e)) (λ e. omega (arith, e))
unopened_other O.Memory = other NoMemory 6 refl (λ e. omega (arith, e)) (λ e. omega (arith, e))

-- words and settings that were understood
tells_understood : (line : Option Line) (settings : List ℕ) (note : Note) → IsSome line → IsSettingsFile settings → IsOther note
    → TellsRefusals line settings note
tells_understood None settings note said file is = absurd (none_said said)
tells_understood (Some line) settings note said file is = record {
  usage = λ e. absurd (is.0 e);
  no_line = λ e. let no : ⊥ = cc (e) in absurd no;
  refused = λ e. absurd (is.1 e);
  no_settings = λ _ bad. absurd (bad file);
}

pub tells_served : (line : Option Line) (settings : List ℕ) (read : Settings) (note : Note) (end : End) (halted : Bool)
    → IsSome line → IsSettings settings read → note ≡ note_of end halted → TellsRefusals line settings note
tells_served line settings read note end halted said is note_is =
    tells_understood line settings note said (file_of settings read is) (subst IsOther (sym note_is) (served_other end halted))

pub tells_night : (line : Option Line) (settings : List ℕ) (read : Settings) (note : Note) (end : NightEnd) (failed halted : Bool)
    → IsSome line → IsSettings settings read → note ≡ note_of_night end failed halted → TellsRefusals line settings note
tells_night line settings read note end failed halted said is note_is =
    tells_understood line settings note said (file_of settings read is) (subst IsOther (sym note_is) (night_other end failed halted))

pub tells_dump : (line : Option Line) (settings : List ℕ) (note : Note) (result : Result ℕ DumpRefusal) (failed halted : Bool)
    → IsSome line → IsSettingsFile settings → note ≡ note_of_dump result failed halted → TellsRefusals line settings note
tells_dump line settings note result failed halted said file note_is =
    tells_understood line settings note said file (subst IsOther (sym note_is) (dump_other result failed halted))

pub tells_restore : (line : Option Line) (settings : List ℕ) (note : Note) (result : Result ℕ RestoreRefusal) (failed halted : Bool)
    → IsSome line → IsSettingsFile settings → note ≡ note_of_restore result failed halted → TellsRefusals line settings note
tells_restore line settings note result failed halted said file note_is =
    tells_understood line settings note said file (subst IsOther (sym note_is) (restore_other result failed halted))

pub tells_migration : (line : Option Line) (settings : List ℕ) (note : Note) (end : MigrationEnd) (failed halted : Bool)
    → IsSome line → IsSettingsFile settings → note ≡ note_of_migration end failed halted → TellsRefusals line settings note
tells_migration line settings note end failed halted said file note_is =
    tells_understood line settings note said file (subst IsOther (sym note_is) (migration_other end failed halted))

pub tells_demo : (line : Option Line) (settings : List ℕ) (note : Note) (end : DemoEnd) (failed halted : Bool)
    → IsSome line → IsSettingsFile settings → note ≡ note_of_demo end failed halted → TellsRefusals line settings note
tells_demo line settings note end failed halted said file note_is =
    tells_understood line settings note said file (subst IsOther (sym note_is) (demo_other end failed halted))

pub tells_pull : (line : Option Line) (settings : List ℕ) (read : Settings) (note : Note) (host : List ℕ) (end : PullEnd) (halted : Bool)
    → IsSome line → IsSettings settings read → note ≡ note_of_pull host end halted → TellsRefusals line settings note
tells_pull line settings read note host end halted said is note_is =
    tells_understood line settings note said (file_of settings read is) (subst IsOther (sym note_is) (pull_other host end halted))

pub tells_doors : (line : Option Line) (settings : List ℕ) (read : Settings) (note : Note) (failed halted : Bool)
    → IsSome line → IsSettings settings read → note ≡ note_of_served failed halted → TellsRefusals line settings note
tells_doors line settings read note failed halted said is note_is =
    tells_understood line settings note said (file_of settings read is) (subst IsOther (sym note_is) (doors_other failed halted))

pub tells_nobody : (line : Option Line) (settings : List ℕ) (read : Settings) (note : Note)
    → IsSome line → IsSettings settings read → note ≡ NoMemory → TellsRefusals line settings note
tells_nobody line settings read note said is note_is =
    tells_understood line settings note said (file_of settings read is)
    (subst IsOther (sym note_is) (other NoMemory 6 refl (λ e. omega (arith, e)) (λ e. omega (arith, e))))

pub tells_unopened : (line : Option Line) (settings : List ℕ) (note : Note) (refusal : OpenRefusal)
    → IsSome line → IsSettingsFile settings → note ≡ note_of_refusal refusal → TellsRefusals line settings note
tells_unopened line settings note refusal said file note_is =
    tells_understood line settings note said file (subst IsOther (sym note_is) (unopened_other refusal))

tells_usage : (settings : List ℕ) (note : Note) → (note ≡ Usage) ⊎ (note ≡ NoMemory) → TellsRefusals None settings note
tells_usage settings note (inl is) = record {
  usage = λ _. refl;
  no_line = λ _. inl (ap status_of is);
  refused = λ e. let two : status_of note ≡ 2 = ap status_of is in absurd (omega (arith, two, e));
  no_settings = λ said. absurd (none_said said);
}
tells_usage settings note (inr is) = record {
  usage = λ _. refl;
  no_line = λ _. inr (ap status_of is);
  refused = λ e. let six : status_of note ≡ 6 = ap status_of is in absurd (omega (arith, six, e));
  no_settings = λ said. absurd (none_said said);
}

fault_status : (fault : SettingsFault) → (status_of (note_of_settings fault) ≡ 7) ⊎ (status_of (note_of_settings fault) ≡ 6)
fault_status F.NotToml = inl refl
fault_status (F.BadKey key) = inl refl
fault_status F.UnknownKey = inl refl
fault_status F.Memory = inr refl

not_two : (n : ℕ) → (n ≡ 7) ⊎ (n ≡ 6) → n ≡ 2 → ⊥
not_two n (inl seven) two = omega (arith, seven, two)
not_two n (inr six) two = omega (arith, six, two)

tells_fault : (line : Line) (settings : List ℕ) (fault : SettingsFault) → IsRefusal settings fault
    → TellsRefusals (Some line) settings (note_of_settings fault)
tells_fault line settings fault is = record {
  usage = λ e. absurd (not_two (status_of (note_of_settings fault)) (fault_status fault) e);
  no_line = λ e. let no : ⊥ = cc (e) in absurd no;
  refused = λ e. (
    refl,
    λ file.
        let six : status_of (note_of_settings fault) ≡ 6 = ap status_of (refused_for_memory settings fault file is) in
        omega (arith, six, e),
  );
  no_settings = λ _ _. fault_status fault;
}

pub tells_refused : (line : Option Line) (settings : List ℕ) (note : Note) → IsRefused line settings note → TellsRefusals line settings note
tells_refused None settings note is = tells_usage settings note is
tells_refused (Some line) settings note is =
    subst (TellsRefusals (Some line) settings) (sym is.1) (tells_fault line settings is.0 is.2)
