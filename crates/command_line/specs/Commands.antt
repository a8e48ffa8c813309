-- The program's command as a simple command of clap.
use Rattle.std.specs.Prelude.{◌≡◌, ℕ, pos, List, [], true, false, Some, codes}
use Rattle.clap.specs.Walk.{Rule}
use Rattle.clap.specs.Simple.{App, app_of, new_app, new_rule, new_shape, with_rule, with_subcommand}
use Rattle.clap.specs.declared.builder.action.ArgAction.TheVariants.{SetTrue}
use Rattle.clap.specs.declared.builder.value_parser.ValueParser.TheVariants as parser
use Rattle.clap.specs.declared.builder.command.Command.{Command}
use Rattle.clap.specs.declared.builder.command.Command.TheViews.{out-Command}

-- the command reads as this one, and has no global argument
abbrev pub IsCommandOf : App → Command → Type 0
IsCommandOf app c = (app_of c ≡ app) × ((out-Command c).has_globals ≡ false)

-- `--NAME TEXT`, which may be left out
abbrev pub option_rule : List ℕ → Rule
option_rule name = record (new_rule name) { long = Some name }

-- `--NAME TEXT`, which has to be there
abbrev pub required_rule : List ℕ → Rule
required_rule name = record (new_rule name) { long = Some name; required = true }

-- `--NAME NUMBER`, a number below 2 ^ 32 which may be left out
abbrev pub number_rule : List ℕ → Rule
number_rule name = record (new_rule name) { long = Some name; parser = Some (parser.Signed (pos 0) (pos 4294967295)) }

-- `--NAME NUMBER`, a number below 2 ^ 32 which has to be there
abbrev pub required_number_rule : List ℕ → Rule
required_number_rule name =
    record (new_rule name) { long = Some name; required = true; parser = Some (parser.Signed (pos 0) (pos 4294967295)) }

-- `--NAME`
abbrev pub flag_rule : List ℕ → Rule
flag_rule name = record (new_rule name) { long = Some name; action = Some SetTrue }

-- a word without an option, which has to be there
abbrev pub word_rule : List ℕ → Rule
word_rule name = record (new_rule name) { required = true }

-- a word without an option, a number below 2 ^ 64, which has to be there
abbrev pub number_word_rule : List ℕ → Rule
number_word_rule name = record (new_rule name) { required = true; parser = Some (parser.Unsigned 0 18446744073709551615) }

-- what each subcommand begins with: `--store DIR [--settings FILE]`
abbrev pub common_app : List ℕ → App
common_app name = with_rule (with_rule (new_app name) (required_rule (codes "store"))) (option_rule (codes "settings"))

-- `pipe`
abbrev pub pipe_app : App
pipe_app = common_app (codes "pipe")

-- `serve --listen ADDR [--connections N]`
abbrev pub serve_app : App
serve_app =
    with_rule (with_rule (common_app (codes "serve")) (required_rule (codes "listen"))) (number_rule (codes "connections"))

-- `night [--scheduled]`
abbrev pub night_app : App
night_app = with_rule (common_app (codes "night")) (flag_rule (codes "scheduled"))

-- `migrate`
abbrev pub migrate_app : App
migrate_app = common_app (codes "migrate")

-- what each subcommand of one host has beside them: `--host H`
abbrev pub host_app : List ℕ → App
host_app name = with_rule (common_app name) (required_rule (codes "host"))

-- `dump-folder --host H --kind KIND FOLDER`
abbrev pub dump_folder_app : App
dump_folder_app =
    with_rule (with_rule (host_app (codes "dump-folder")) (required_rule (codes "kind"))) (word_rule (codes "folder"))

-- `restore-folder --host H --number N FOLDER`
abbrev pub restore_folder_app : App
restore_folder_app =
    with_rule (with_rule (host_app (codes "restore-folder")) (required_number_rule (codes "number"))) (word_rule (codes "folder"))

-- `demo NUMBER`
abbrev pub demo_app : App
demo_app = with_rule (common_app (codes "demo")) (number_word_rule (codes "number"))

-- `pull --host H --from ADDR`
abbrev pub pull_app : App
pull_app = with_rule (host_app (codes "pull")) (required_rule (codes "from"))

-- the program's name, with help turned off and a subcommand wanted
abbrev pub top_app : App
top_app = record {
  top = record (new_shape (codes "backup_server")) {
    disable_help_flag = true;
    disable_help_subcommand = true;
    subcommand_required = true;
  };
  subs = [];
}

-- with the subcommands that serve links
abbrev pub links_app : App
links_app = with_subcommand (with_subcommand top_app pipe_app.top) serve_app.top

-- with the night's and the migration's, too
abbrev pub served_app : App
served_app = with_subcommand (with_subcommand links_app night_app.top) migrate_app.top

-- with those of a folder, too
abbrev pub folders_app : App
folders_app = with_subcommand (with_subcommand served_app dump_folder_app.top) restore_folder_app.top

-- the whole command
abbrev pub program_app : App
program_app = with_subcommand (with_subcommand folders_app demo_app.top) pull_app.top
