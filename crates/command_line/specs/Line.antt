-- What the words of a command line say.
--     Line, Task   a line, and what it asks for
--     line_of      the line of some words
--     meaning      the line that the program's own value stands for
use Rattle.std.specs.Prelude.{ℕ, ◌^◌, Bool, List, ◌++◌, Option, Some, None, false, ◌&&◌, nat_lt, length}
use Rattle.std.specs.Prelude.{if◌then◌else◌, bytes_eq, codes, option_map, option_and_then}
use Rattle.std.specs.String.{string_bytes}
use Rattle.std.specs.Option.{option_map_or}
use Rattle.std.specs.List.{list_all}
use Rattle.std.specs.Char.{digit_value}
use Rattle.std.specs.Str.Parse.{digits_value, without_leading_plus}
use Rattle.attr_records.specs.Names.{is_host_name}
use Rattle.backup_rules.specs.declared.lines.Kind.{Kind}
use Rattle.backup_rules.specs.declared.lines.Kind.TheVariants.{Full, Incr}
use Rattle.clap.specs.Walk.{Row, first_of, is_empty, rows_of}
use Rattle.clap.specs.Matches.{found_of}
use Rattle.clap.specs.Faults.{fault_of}
use Rattle.clap.specs.Simple.{subcommand_of}
use Rattle.clap.specs.declared.parser.matches.ArgMatches.{ArgMatches}
use Rattle.command_line.specs.Commands.{program_app}
use Rattle.command_line.specs.declared.line.CommandLine.{CommandLine}
use Rattle.command_line.specs.declared.line.Work.{Work}
use Rattle.command_line.specs.declared.line.Work.TheVariants as work

-- what a line asks for; of Serve, the address and the number of links, of Night, whether only where the schedule says so, of
-- DumpFolder, the host, the backup's kind and the folder, of RestoreFolder, the host, the backup's number and the folder, of Demo,
-- the number that it is drawn from, and of Pull, the host and the other server's address
pub data Task : Type 0 where
  Pipe : Task
  Serve : List ℕ → Option ℕ → Task
  Night : Bool → Task
  Migrate : Task
  DumpFolder : List ℕ → Kind → List ℕ → Task
  RestoreFolder : List ℕ → ℕ → List ℕ → Task
  Demo : ℕ → Task
  Pull : List ℕ → List ℕ → Task

-- a line: the store's folder, the settings' file and what it asks for
pub record Line : Type 0 where
  pub store : List ℕ
  pub settings : Option (List ℕ)
  pub task : Task

-- the flag is among the matches: clap keeps the text `true` for one that was given, and `false` for another
abbrev pub flag_of : List ℕ → List Row → Bool
flag_of id rows = option_map_or (λ text. bytes_eq text (codes "true")) (first_of id rows) false

-- one decimal digit or more, and what they write is below a limit
abbrev pub is_number : (limit : ℕ) → List ℕ → Bool
is_number limit digits =
    nat_lt 0 (length digits) && (list_all (λ byte. nat_lt (digit_value byte) 10) digits && nat_lt (digits_value 10 digits) limit)

-- the number below a limit that a text writes, where a plus may stand first
unfoldable pub number_of : (limit : ℕ) → List ℕ → Option ℕ
number_of limit text =
    let digits = without_leading_plus text in if is_number limit digits then Some (digits_value 10 digits) else None

-- the number below 2 ^ 32 of an option, Some None where that was left out
abbrev pub number_in : List ℕ → List Row → Option (Option ℕ)
number_in id rows =
    option_map_or (λ text. option_map (λ number. Some number) (number_of (2 ^ 32) text)) (first_of id rows) (Some None)

-- the number below a limit of an option or a word that has to be there
abbrev pub needed_number_in : (limit : ℕ) → List ℕ → List Row → Option ℕ
needed_number_in limit id rows = option_and_then (number_of limit) (first_of id rows)

-- the host that a text names
abbrev pub host_of : List ℕ → Option (List ℕ)
host_of text = if is_host_name text then Some text else None

-- the host of the option `--host`
abbrev pub host_in : List Row → Option (List ℕ)
host_in rows = option_and_then host_of (first_of (codes "host") rows)

-- the kind of a backup that a text names
abbrev pub kind_of : List ℕ → Option Kind
kind_of text =
    if bytes_eq text (codes "full") then Some Full
    else (if bytes_eq text (codes "incr") then Some Incr else None)

-- the kind of the option `--kind`
abbrev pub kind_in : List Row → Option Kind
kind_in rows = option_and_then kind_of (first_of (codes "kind") rows)

-- what `serve` asks for with these matches
abbrev pub serve_in : List Row → Option Task
serve_in rows = option_and_then (λ listen. option_map (λ connections. Serve listen connections)
    (number_in (codes "connections") rows)) (first_of (codes "listen") rows)

-- what `dump-folder` asks for with these matches
abbrev pub dump_folder_in : List Row → Option Task
dump_folder_in rows = option_and_then (λ host. option_and_then (λ kind. option_map (λ folder. DumpFolder host kind folder)
    (first_of (codes "folder") rows)) (kind_in rows)) (host_in rows)

-- what `restore-folder` asks for with these matches
abbrev pub restore_folder_in : List Row → Option Task
restore_folder_in rows =
    option_and_then (λ host. option_and_then (λ number. option_map (λ folder. RestoreFolder host number folder)
    (first_of (codes "folder") rows)) (needed_number_in (2 ^ 32) (codes "number") rows)) (host_in rows)

-- what `demo` asks for with these matches
abbrev pub demo_in : List Row → Option Task
demo_in rows = option_map (λ number. Demo number) (needed_number_in (2 ^ 64) (codes "number") rows)

-- what `pull` asks for with these matches
abbrev pub pull_in : List Row → Option Task
pull_in rows = option_and_then (λ host. option_map (λ from. Pull host from) (first_of (codes "from") rows)) (host_in rows)

-- what the subcommand of this name asks for with these matches
abbrev pub task_in : List ℕ → List Row → Option Task
task_in name rows =
    if bytes_eq name (codes "pipe") then Some Pipe
    else (if bytes_eq name (codes "serve") then serve_in rows
    else (if bytes_eq name (codes "night") then Some (Night (flag_of (codes "scheduled") rows))
    else (if bytes_eq name (codes "migrate") then Some Migrate
    else (if bytes_eq name (codes "dump-folder") then dump_folder_in rows
    else (if bytes_eq name (codes "restore-folder") then restore_folder_in rows
    else (if bytes_eq name (codes "demo") then demo_in rows
    else (if bytes_eq name (codes "pull") then pull_in rows else None)))))))

-- the line of a subcommand with its matches
abbrev pub line_in : List ℕ × List Row → Option Line
line_in p = option_and_then (λ task. option_map (λ store. record {
  store = store;
  settings = first_of (codes "settings") p.1;
  task = task;
}) (first_of (codes "store") p.1)) (task_in p.0 p.1)

-- the line of some words, the program's name first: the simple command takes them, and this is what their subcommand says
abbrev pub line_of : List (List ℕ) → Option Line
line_of words =
    if is_empty (fault_of program_app words) then option_and_then line_in (subcommand_of program_app words) else None

-- how the program is called
abbrev pub usage : List ℕ
usage =
    codes "usage: backup_server pipe --store DIR [--settings FILE]\n"
    ++ (codes "       backup_server serve --listen ADDR [--connections N] --store DIR [--settings FILE]\n"
    ++ (codes "       backup_server night [--scheduled] --store DIR [--settings FILE]\n"
    ++ (codes "       backup_server migrate --store DIR [--settings FILE]\n"
    ++ (codes "       backup_server dump-folder --host H --kind full|incr --store DIR [--settings FILE] FOLDER\n"
    ++ (codes "       backup_server restore-folder --host H --number N --store DIR [--settings FILE] FOLDER\n"
    ++ (codes "       backup_server demo --store DIR [--settings FILE] NUMBER\n"
    ++ (codes "       backup_server pull --host H --from ADDR --store DIR [--settings FILE]\n"
    ++ codes "       backup_server push-folder --to ADDR --host H --kind full|incr FOLDER")))))))

-- the matches of a subcommand
abbrev pub rows_in : ArgMatches → List Row
rows_in found = rows_of (found_of found)

-- what the program's own values stand for
abbrev pub task_of : Work → Task
task_of work.Pipe = Pipe
task_of (work.Serve listen connections) = Serve (string_bytes listen) connections
task_of (work.Night scheduled) = Night scheduled
task_of work.Migrate = Migrate
task_of (work.DumpFolder host kind folder) = DumpFolder host kind (string_bytes folder)
task_of (work.RestoreFolder host number folder) = RestoreFolder host number (string_bytes folder)
task_of (work.Demo number) = Demo number
task_of (work.Pull host from) = Pull host (string_bytes from)

abbrev pub meaning : CommandLine → Line
meaning line = record {
  store = string_bytes line.store;
  settings = option_map string_bytes line.settings;
  task = task_of line.work;
}
