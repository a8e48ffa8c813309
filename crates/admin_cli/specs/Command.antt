-- What the words of a command line ask a run for.
use Rattle.std.specs.Prelude.{◌≡◌, Option, Some, option_map}
use Rattle.command_line.specs.Line.{Line, Task}

-- the line asks for this
abbrev pub AsksFor : Task → Option Line → Type 0
AsksFor task line = option_map (λ said. said.task) line ≡ Some task
