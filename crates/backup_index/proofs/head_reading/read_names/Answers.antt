-- One name more, and where there is none.
use Rattle.std.proofs.Common.{◌≡◌, ℕ, List, sym, subst}
use Rattle.std.specs.Int.{w8}
use Rattle.wire_bytes.specs.Reading.{Reading}
use Rattle.wire_bytes.specs.Layout.{text_bytes}
use Rattle.wire_bytes.specs.Grammar.{field}
use Rattle.wire_bytes.specs.GrammarLaws.{refused_again}
use Rattle.wire_bytes.specs.ItemLaws.{ItemsRead, items_read_more, items_refuse, items_find}
use Rattle.backup_index.specs.Names.{IsFreshName}
use Rattle.backup_index.proofs.head_reading.read_names.Goals as goal

pub returns-in_err-name : goal.returns-in_err-name
returns-in_err-name c = refused_again _ _ _ c.from_residual.ensures.1 (items_refuse c.loop-i-test.true c.loop-i.invariant c.in_err-name.ensures)

more : (old new : Reading) (names names' : List (List ℕ)) (i count : ℕ) → names' ≡ names → ItemsRead IsFreshName (text_bytes w8) old new names i count → ItemsRead IsFreshName (text_bytes w8) old new names' i count
more old new names names' i count is read = subst (λ (ns : List (List ℕ)). ItemsRead IsFreshName (text_bytes w8) old new ns i count) (sym is) read

pub add-requires-clause-fresh : goal.add-requires-clause-fresh
unfolding field
add-requires-clause-fresh c = c.in_ok-name.ensures.fits.fresh

pub loop-i-preserved : goal.loop-i-preserved
loop-i-preserved c = more _ _ _ _ _ _ c.in_ok-add.ensures.ok (items_read_more c.loop-i-test.true c.loop-i.invariant c.in_ok-name.ensures)

pub returns : goal.returns
returns c = items_find c.loop-i-test.false c.loop-i.auto._i-end c.loop-i.invariant
