-- One line more, and where there is none.
use Rattle.std.proofs.Common.{◌≡◌, ℕ, ◌+◌, ◌==◌, List, length, sym, ap, ◌∙◌, subst}
use Rattle.wire_bytes.specs.Reading.{Reading}
use Rattle.wire_bytes.specs.Grammar.{field}
use Rattle.wire_bytes.specs.GrammarReading.{Finds, Refuses}
use Rattle.wire_bytes.specs.GrammarLaws.{refused_again}
use Rattle.wire_bytes.specs.ItemLaws.{ItemsRead, items_read_more, items_refuse, items_find}
use Rattle.backup_rules.specs.declared.lines.Line.{Line}
use Rattle.backup_rules.specs.Layout.{line_bytes}
use Rattle.backup_index.specs.declared.fault.IndexFault.{IndexFault}
use Rattle.backup_index.specs.Faults.{offset_of}
use Rattle.backup_index.specs.Lines.{free_number, IsKeptLine, LineFits}
use Rattle.backup_index.specs.LineLaws.{free_number-push}
use Rattle.backup_index.proofs.index_reading.read_lines.Goals as goal

-- what a line is judged by: the least number that may follow, and whether it is the last one
module _ (next count low i : ℕ) (lines : List Line) (is : low ≡ free_number lines) (some : length lines ≡ i) where
  refused_line : (at : Reading) (fault : IndexFault) → Refuses offset_of (field (IsKeptLine low next (i + 1 == count)) line_bytes) at fault → Refuses offset_of (field (LineFits next count lines) line_bytes) at fault
  refused_line at fault refused =
      subst (λ (n : ℕ). Refuses offset_of (field (IsKeptLine (free_number lines) next (n + 1 == count)) line_bytes) at fault) (sym some)
      (subst (λ (l : ℕ). Refuses offset_of (field (IsKeptLine l next (i + 1 == count)) line_bytes) at fault) is refused)

  found_line : (at new : Reading) (line : Line) → Finds (field (IsKeptLine low next (i + 1 == count)) line_bytes) at line new → Finds (field (LineFits next count lines) line_bytes) at line new
  found_line at new line found =
      subst (λ (n : ℕ). Finds (field (IsKeptLine (free_number lines) next (n + 1 == count)) line_bytes) at line new) (sym some)
      (subst (λ (l : ℕ). Finds (field (IsKeptLine l next (i + 1 == count)) line_bytes) at line new) is found)

pub returns-in_err-line : goal.returns-in_err-line
returns-in_err-line c =
    refused_again _ _ _ c.from_residual.ensures.1 (items_refuse c.loop-i-test.true c.loop-i.invariant.read
    (refused_line c.args.next c.args.count _ c.loop-i.i _ c.loop-i.invariant.low c.loop-i.invariant.read.some _ _ c.in_err-line.ensures))

more : (next count : ℕ) (old new : Reading) (lines lines' : List Line) (i : ℕ) → lines' ≡ lines → ItemsRead (LineFits next count) line_bytes old new lines i count → ItemsRead (LineFits next count) line_bytes old new lines' i count
more next count old new lines lines' i is read = subst (λ (ls : List Line). ItemsRead (LineFits next count) line_bytes old new ls i count) (sym is) read

pub loop-i-preserved : goal.loop-i-preserved
loop-i-preserved c = record {
  read = more c.args.next c.args.count _ _ _ _ _ c.in_ok-push.ensures.ok (items_read_more c.loop-i-test.true c.loop-i.invariant.read
      (found_line c.args.next c.args.count _ c.loop-i.i _ c.loop-i.invariant.low c.loop-i.invariant.read.some _ _ _ c.in_ok-line.ensures));
  low = ap (λ n. n + 1) c.from-low.ensures ∙ sym (ap free_number c.in_ok-push.ensures.ok ∙ free_number-push c.loop-i.lines c.in_ok-line.line);
}

pub returns : goal.returns
returns c = items_find c.loop-i-test.false c.loop-i.auto.i-end c.loop-i.invariant.read
