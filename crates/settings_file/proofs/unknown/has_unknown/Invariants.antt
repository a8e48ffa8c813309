-- The names that are left decide.
use Rattle.std.proofs.Common.{◌≡◌, map}
use Rattle.std.specs.List.{list_any}
use Rattle.std.specs.Prelude.{string_bytes}
use Rattle.toml.specs.View.{table_view}
use Rattle.settings_file.specs.Document.{is_unknown, has_unknown}
use Rattle.settings_file.proofs.unknown.has_unknown.Given as goal

abbrev pub invariant-loop-name : goal.invariant-loop-name
invariant-loop-name l =
    has_unknown (map (λ k. k.now) l.known) (table_view l.table)
    ≡ list_any (is_unknown (map (λ k. k.now) l.known)) (map string_bytes l.name-iterator)
