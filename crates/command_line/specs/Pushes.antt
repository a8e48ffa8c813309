-- What the words of `push-folder` say, which names no store.
--     PushLine      what they ask for
--     push_of      that of some words
--     is_push      words begin as those of a push do
use Rattle.std.specs.Prelude.{ℕ, Bool, false, List, [], ◌∷◌, Option, Some, None, bytes_eq, codes, option_map, option_and_then, if◌then◌else◌}
use Rattle.std.specs.String.{string_bytes}
use Rattle.backup_rules.specs.declared.lines.Kind.{Kind}
use Rattle.clap.specs.Walk.{Row, first_of, is_empty}
use Rattle.clap.specs.Faults.{fault_of}
use Rattle.clap.specs.Simple.{App, new_app, subcommand_of, with_rule, with_subcommand}
use Rattle.command_line.specs.Commands.{required_rule, word_rule, top_app}
use Rattle.command_line.specs.Line.{host_in, kind_in}
use Rattle.command_line.specs.declared.pushes.Push.{Push}

-- the server's address, and the host, the backup's kind and the folder
pub record PushLine : Type 0 where
  pub to : List ℕ
  pub host : List ℕ
  pub kind : Kind
  pub folder : List ℕ

-- `push-folder --to ADDR --host H --kind KIND FOLDER`
abbrev pub push_folder_app : App
push_folder_app =
    with_rule (with_rule (with_rule (with_rule (new_app (codes "push-folder")) (required_rule (codes "to")))
    (required_rule (codes "host"))) (required_rule (codes "kind"))) (word_rule (codes "folder"))

-- the command of such words
abbrev pub push_app : App
push_app = with_subcommand top_app push_folder_app.top

-- what `push-folder` asks for with these matches
abbrev pub push_in : List Row → Option PushLine
push_in rows = option_and_then (λ host. option_and_then (λ kind. option_and_then (λ to. option_map (λ folder. record {
  to = to;
  host = host;
  kind = kind;
  folder = folder;
}) (first_of (codes "folder") rows)) (first_of (codes "to") rows)) (kind_in rows)) (host_in rows)

-- what some words ask for, the program's name first: the simple command takes them, and this is what their subcommand says
abbrev pub push_of : List (List ℕ) → Option PushLine
push_of words =
    if is_empty (fault_of push_app words) then option_and_then (λ p. push_in p.1) (subcommand_of push_app words) else None

-- the word behind the program's name is `push-folder`
abbrev pub is_push : List (List ℕ) → Bool
is_push (program ∷ word ∷ words) = bytes_eq word (codes "push-folder")
is_push words = false

-- what the program's own value stands for
abbrev pub push_meaning : Push → PushLine
push_meaning push = record { to = string_bytes push.to; host = push.host; kind = push.kind; folder = string_bytes push.folder }
