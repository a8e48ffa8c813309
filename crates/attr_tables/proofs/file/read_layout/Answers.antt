-- The four bytes of a layout are those of no other.
use Rattle.std.proofs.Common.{◌≡◌, ℕ, List, ◌++◌, ◌<◌, get_or, Result, Ok, Err, Some, refl, sym, ap, subst, ◌∙◌, arith}
use Rattle.std.specs.Prelude.{⊤}
use Rattle.wire_bytes.specs.Reading.{Reading, left}
use Rattle.wire_bytes.specs.Kind.{Reads}
use Rattle.wire_bytes.specs.declared.fault.FieldFault.{FieldFault}
use Rattle.wire_bytes.specs.GrammarLaws.{field_finds, none_refuses, refused_by}
use Rattle.attr_tables.specs.declared.layouts.TableLayout.{TableLayout}
use Rattle.attr_tables.specs.declared.layouts.TableLayout.TheVariants.{First, Second}
use Rattle.attr_tables.specs.Layout.{magic_of}
use Rattle.attr_tables.proofs.file.read_layout.Goals as goal

abbrev ReadsMagic : TableLayout → Reading → Result (Unit {0}) FieldFault → Reading → Type 0
ReadsMagic layout = Reads (λ (done : Unit {0}). done) (λ _. ⊤) (λ _. magic_of layout)

fourth : (a b : List ℕ) → a ≡ b → get_or a 3 0 ≡ get_or b 3 0
fourth a b e = ap (λ (l : List ℕ). get_or l 3 0) e

differ : (m n : ℕ) → m ≡ n → m < n → ⊥
differ m n e less = omega arith

not_both : (bytes a b : List ℕ) → bytes ≡ magic_of First ++ a → bytes ≡ magic_of Second ++ b → ⊥
not_both bytes a b first second = differ 49 50 (fourth _ _ (sym first ∙ second)) (omega arith)

found : (layout : TableLayout) (old new : Reading) → ReadsMagic layout old (Ok tt) new
    → Reads {E = FieldFault} (λ (l : TableLayout). l) (λ _. ⊤) magic_of old (Ok layout) new
found layout old new reads = record { found = (tt, reads.found.1); back = λ other rest fits e. same other layout rest e reads }
  where
    same : (other layout : TableLayout) (rest : List ℕ) → left old ≡ magic_of other ++ rest → ReadsMagic layout old (Ok tt) new
        → (layout ≡ other) × (left new ≡ rest)
    same First First rest e reads = (refl, (reads.back tt rest tt e).1)
    same Second Second rest e reads = (refl, (reads.back tt rest tt e).1)
    same First Second rest e reads = absurd (not_both (left old) rest (left new) e reads.found.1.parts)
    same Second First rest e reads = absurd (not_both (left old) (left new) rest reads.found.1.parts e)

none : (old new new' : Reading) (a b : FieldFault) → ReadsMagic Second old (Err a) new → ReadsMagic First old (Err b) new'
    → (layout : TableLayout) (rest : List ℕ) → ⊤ → left old ≡ magic_of layout ++ rest → ⊥
none old new new' a b second first First rest fits e = first.back tt rest tt e
none old new new' a b second first Second rest fits e = second.back tt rest tt e

pub returns-in-Ok : goal.returns-in-Ok
returns-in-Ok c = field_finds (found Second _ _ c.in-Ok.ensures.field.reads)

pub returns-in_err-read_magic-in-Err : goal.returns-in_err-read_magic-in-Err
returns-in_err-read_magic-in-Err c =
    let same = c.in-Err.ensures.same in
    refused_by _ _ _ c.from_residual.ensures.1
    (λ e told. none_refuses magic_of
    (none _ _ _ _ _ c.in-Err.ensures.field.reads (subst (λ (r : Reading). ReadsMagic First r (Err c.in_err-read_magic-in-Err.field-0.0)
    c.read_magic-in-Err.new.self) same c.in_err-read_magic-in-Err.ensures.field.reads))
    (told ∙ c.in_err-read_magic-in-Err.ensures.here ∙ ap (λ (r : Reading). Some r.offset) same))

pub returns-in_ok-read_magic-in-Err : goal.returns-in_ok-read_magic-in-Err
returns-in_ok-read_magic-in-Err c =
    field_finds (found First _ _ (subst (λ (r : Reading). ReadsMagic First r (Ok tt) c.read_magic-in-Err.new.self) c.in-Err.ensures.same
    c.in_ok-read_magic-in-Err.ensures.field.reads))
