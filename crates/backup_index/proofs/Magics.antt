-- The four bytes that tell the layout of an index.
use Rattle.std.proofs.Common.{◌≡◌, ℕ, List, ◌++◌, get_or, Some, Result, Ok, Err, refl, sym, ap, ◌∙◌, arith}
use Rattle.std.specs.Prelude.{⊤}
use Rattle.wire_bytes.specs.Reading.{Reading, left}
use Rattle.wire_bytes.specs.Kind.{Reads}
use Rattle.wire_bytes.specs.Grammar.{field}
use Rattle.wire_bytes.specs.GrammarReading.{Finds, Refuses}
use Rattle.wire_bytes.specs.GrammarLaws.{none_refuses}
use Rattle.backup_index.specs.declared.fault.IndexFault.{IndexFault}
use Rattle.backup_index.specs.declared.layouts.IndexLayout.{IndexLayout}
use Rattle.backup_index.specs.declared.layouts.IndexLayout.TheVariants.{First, Second, Third}
use Rattle.backup_index.specs.Faults.{offset_of}
use Rattle.backup_index.specs.Index.{index_magic, layout_grammar}

-- the fourth byte tells them apart
abbrev fourth : IndexLayout → ℕ
fourth First = 49
fourth Second = 50
fourth Third = 51

fourth_of : (layout : IndexLayout) (rest : List ℕ) → get_or (index_magic layout ++ rest) 3 0 ≡ fourth layout
fourth_of First rest = refl
fourth_of Second rest = refl
fourth_of Third rest = refl

by_fourth : (layout other : IndexLayout) → fourth layout ≡ fourth other → layout ≡ other
by_fourth First First e = refl
by_fourth Second Second e = refl
by_fourth Third Third e = refl
by_fourth First Second e = absurd (omega arith)
by_fourth First Third e = absurd (omega arith)
by_fourth Second First e = absurd (omega arith)
by_fourth Second Third e = absurd (omega arith)
by_fourth Third First e = absurd (omega arith)
by_fourth Third Second e = absurd (omega arith)

one_layout : (layout other : IndexLayout) (rest more : List ℕ) → index_magic layout ++ rest ≡ index_magic other ++ more → layout ≡ other
one_layout layout other rest more e = by_fourth layout other (sym (fourth_of layout rest) ∙ ap (λ l. get_or l 3 0) e ∙ fourth_of other more)

module _ {E : Type 0} (old : Reading) where
  abbrev pub ReadsMagic : IndexLayout → Result (Unit {0}) E → Reading → Type 0
  ReadsMagic layout result new = Reads (λ done. done) (λ _. ⊤) (λ _. index_magic layout) old result new

  back : (layout other : IndexLayout) (new : Reading) (rest : List ℕ) → ReadsMagic layout (Ok tt) new → left old ≡ index_magic other ++ rest → (layout ≡ other) × (left new ≡ rest)
  back layout other new rest reads e =
      let same = one_layout layout other (left new) rest (sym reads.found.1.parts ∙ e) in
      (same, (reads.back tt rest tt (e ∙ ap (λ (l : IndexLayout). index_magic l ++ rest) (sym same))).1)

  pub layout_found : (layout : IndexLayout) (new : Reading) → ReadsMagic layout (Ok tt) new → Finds layout_grammar old layout new
  unfolding field
  layout_found layout new reads = record { fits = tt; passed = reads.found.1; back = λ other rest fits e. back layout other new rest reads e }

  none : (e e' e'' : E) (new new' new'' : Reading) → ReadsMagic Third (Err e) new → ReadsMagic Second (Err e') new' → ReadsMagic First (Err e'') new'' → (layout : IndexLayout) (rest : List ℕ) → left old ≡ index_magic layout ++ rest → ⊥
  none e e' e'' new new' new'' third second first First rest is = first.back tt rest tt is
  none e e' e'' new new' new'' third second first Second rest is = second.back tt rest tt is
  none e e' e'' new new' new'' third second first Third rest is = third.back tt rest tt is

  pub layout_refused : (e e' e'' : E) (new new' new'' : Reading) (fault : IndexFault) → ReadsMagic Third (Err e) new → ReadsMagic Second (Err e') new' → ReadsMagic First (Err e'') new''
      → offset_of fault ≡ Some old.offset → Refuses offset_of layout_grammar old fault
  layout_refused e e' e'' new new' new'' fault third second first tells = none_refuses index_magic (λ layout rest fits is. none e e' e'' new new' new'' third second first layout rest is) tells
