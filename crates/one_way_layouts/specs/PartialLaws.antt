-- Partial dumps are read in one way.
use Rattle.std.specs.Prelude.{⊤, ℕ}
use Rattle.std.specs.Int.{w32, w64}
use Rattle.wire_bytes.specs.Layout.{number_bytes, IsNumber}
use Rattle.attr_tables.specs.declared.layouts.TableLayout.TheVariants.{Second}
use Rattle.attr_tables.specs.Layout.{row_bytes}
use Rattle.backup_rules.specs.Layout.{kind_bytes}
use Rattle.partial_files.specs.Layout.{partial_magic, IsNext, IsPartial}
use Rattle.partial_files.specs.LayoutLaws.{rows_grammar, dump_grammar, parts_grammar, parts_of, made_of, partial_sees}
use Rattle.partial_files.specs.Partials.{partial_grammar}
use Rattle.one_way_layouts.specs.OneWay.{IsOneWay}
use Rattle.one_way_layouts.specs.OneWayLaws.{narrow_once, field_once, then_once, seen_once, counted_once}
use Rattle.one_way_layouts.specs.Fields.{number_in_once, magic_once}
use Rattle.one_way_layouts.specs.RuleLaws.{kind_once}
use Rattle.one_way_layouts.specs.TableLaws.{row_once}

rows_once : IsOneWay rows_grammar
rows_once = counted_once IsNext (row_bytes Second) (λ before. narrow_once _ (λ row next. next.0.0) (row_once Second)) w32 (IsNumber w32)
    (number_in_once w32 (IsNumber w32) tt (λ n is. is))

dump_once : IsOneWay dump_grammar
dump_once = then_once _ _ (field_once (λ _. ⊤) kind_bytes kind_once)
    (λ kind fits. then_once _ _ (number_in_once w64 (IsNumber w64) tt (λ n is. is)) (λ start fits. rows_once))

pub partial_once : (host : ℕ) → IsOneWay (partial_grammar host)
unfolding partial_grammar
partial_once host = seen_once (parts_grammar host) IsPartial parts_of made_of (partial_sees host)
    (then_once _ _ (magic_once partial_magic) (λ _ fits. then_once _ _ (magic_once (number_bytes w32 host)) (λ _ fits. dump_once)))
