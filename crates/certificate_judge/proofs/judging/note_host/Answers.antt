-- Its tables, its partial and its counts, one behind the other.
use Rattle.std.proofs.Common.{◌≡◌, ℕ, ◌+◌, ◌++◌, List, [], length, sym, ap, subst, ◌∙◌, append_assoc, arith}
use Rattle.std.specs.List.{AllByRecursion}
use Rattle.std.specs.Int.{w8}
use Rattle.wire_bytes.specs.Layout.{text_bytes}
use Rattle.wire_bytes.specs.Breaks.{items_bytes}
use Rattle.wire_bytes.proofs.Texts.{length-text_bytes}
use Rattle.certificates.specs.Certificate.{Id, Item}
use Rattle.certificates.specs.Layout.{table_grammar, IsItem}
use Rattle.certificates.specs.SizeLaws.{all_fit}
use Rattle.certificates.specs.PrintLaws.{AreRising, rising_ids, host_fits, length-host}
use Rattle.certificate_judge.specs.Faults.{is_unknown, is_miscounted, occurrences, wrong, tables_faults, ids_of_items, tables_at, partial_at, items_at}
use Rattle.certificate_judge.specs.Judging.{IsTally, AreKnown, ids_in}
use Rattle.certificate_judge.proofs.Parts.{ids_in-items}
use Rattle.certificate_judge.proofs.judging.note_host.Goals as goal

pub returns : goal.returns
returns c = λ offsets part is fits rising below before.
    let parts = host_fits part fits in
    let each : AllByRecursion IsItem part.items = all_fit IsItem _ _ [] part.items parts.items in
    let pool : List Id = ids_in c.args.pool.now in
    let items : List Id = ids_in c.args.host.now.items.now in
    let ids : items ≡ ids_of_items part.items = ap (λ (l : List (List ℕ)). ids_in l) is.items ∙ ids_in-items part.items each in
    let known : AreKnown (record { items = c.args.host.now.items; pool = c.args.pool }) =
    record { items = subst AreRising (sym ids) (rising_ids IsItem (λ (x : Item). x.id) part.items parts.items); pool = rising } in
    let len = length-host part fits in
    let name : length c.args.host.now.name.now ≡ length part.name = ap length is.name in
    let text : length (text_bytes w8 part.name) ≡ 1 + length part.name = length-text_bytes w8 tt part.name in
    let size : length c.args.host.now.tables.bytes.now ≡ length (items_bytes table_grammar.print part.tables) = ap length is.tables.bytes in
    let many : length c.args.host.now.partial.now ≡ length part.partial = ap length is.partial in
    let t_at : c.saturating_add-tables_at.result ≡ tables_at c.args.at part =
    omega (arith, c.saturating_add.ensures, c.saturating_add-tables_at.ensures, name, text, below, len) in
    let p_at : c.saturating_add-partial_at.result ≡ partial_at c.args.at part =
    omega (arith, c.saturating_add-2.ensures, c.saturating_add-partial_at.ensures, t_at, size, below, len) in
    let c_at : c.saturating_add-counts_at.result ≡ items_at c.args.at part + 18 =
    omega (arith, c.saturating_add-3.ensures, c.saturating_add-counts_at.ensures, p_at, many, below, len) in
    let tables : ℕ → List Id → List ℕ = λ n xs. tables_faults (is_unknown xs pool) n part.tables in
    let partial : ℕ → List Id → List Id → List ℕ = λ n xs l. wrong (is_unknown xs pool) 18 n l in
    let counts : ℕ → List ℕ = λ n. wrong (is_miscounted (occurrences part)) 26 n part.items in
    let first : IsTally (offsets ++ tables (tables_at c.args.at part) items) c.note_tables-first.result =
    subst (λ (n : ℕ). IsTally (offsets ++ tables n items) c.note_tables-first.result) t_at
    (c.note_tables-first.ensures offsets part.tables known is.tables (all_fit _ _ _ [] part.tables parts.tables) (omega (arith, t_at, size, below, len)) before) in
    let second : IsTally ((offsets ++ tables (tables_at c.args.at part) items) ++ partial (partial_at c.args.at part) items part.partial) c.note_ids-second.result =
    subst (λ (l : List Id). IsTally ((offsets ++ tables (tables_at c.args.at part) items) ++ partial (partial_at c.args.at part) items l) c.note_ids-second.result) is.partial
    (subst (λ (n : ℕ). IsTally ((offsets ++ tables (tables_at c.args.at part) items) ++ partial n items c.args.host.now.partial.now) c.note_ids-second.result) p_at
    (c.note_ids-second.ensures (offsets ++ tables (tables_at c.args.at part) items) known (omega (arith, p_at, many, below, len)) first)) in
    let third = subst (λ (n : ℕ). IsTally (((offsets ++ tables (tables_at c.args.at part) items) ++ partial (partial_at c.args.at part) items part.partial) ++ counts n) c.note_counts.result) c_at
    (c.note_counts.ensures ((offsets ++ tables (tables_at c.args.at part) items) ++ partial (partial_at c.args.at part) items part.partial) part is fits
    (omega (arith, c_at, below, len)) (omega (arith, below)) second) in
    subst (λ (xs : List Id). IsTally (offsets ++ (tables (tables_at c.args.at part) xs ++ (partial (partial_at c.args.at part) xs part.partial ++ counts (items_at c.args.at part + 18)))) c.note_counts.result) ids
    (subst (λ (os : List ℕ). IsTally os c.note_counts.result)
    (append_assoc (offsets ++ tables (tables_at c.args.at part) items) (partial (partial_at c.args.at part) items part.partial) (counts (items_at c.args.at part + 18))
    ∙ append_assoc offsets (tables (tables_at c.args.at part) items) (partial (partial_at c.args.at part) items part.partial ++ counts (items_at c.args.at part + 18)))
    third)
