-- The body of Intent: its first four bytes, the number of changes, the changes, and nothing behind them.
use Rattle.std.proofs.Common.{◌≡◌, ℕ, List, [], ◌++◌, length, Result, Ok, Err, refl, sym, ap, ◌∙◌}
use Rattle.std.proofs.lemmas.List.{append-nil}
use Rattle.std.specs.Prelude.{⊤}
use Rattle.std.specs.Int.{w64}
use Rattle.wire_bytes.specs.Reading.{Reading, left, at_front}
use Rattle.wire_bytes.specs.Layout.{number_bytes, IsNumber}
use Rattle.wire_bytes.specs.Kind.{Reads}
use Rattle.wire_bytes.specs.declared.fault.FieldFault.{FieldFault}
use Rattle.intent_journal.specs.declared.changes.Change.{Change}
use Rattle.intent_journal.specs.declared.intent.IntentFault.{IntentFault}
use Rattle.intent_journal.specs.declared.intent.IntentFault.TheVariants.{Memory}
use Rattle.intent_journal.specs.Changes.{AreChanges, AreInRange, IsIntent}
use Rattle.intent_journal.specs.Layout.{magic, changes_bytes, intent_body}

abbrev ReadsMagic : Reading → Result (Unit {0}) FieldFault → Reading → Type 0
ReadsMagic = Reads (λ (done : Unit {0}). done) (λ _. ⊤) (λ _. magic)

abbrev ReadsCount : Reading → Result ℕ FieldFault → Reading → Type 0
ReadsCount = Reads (λ n. n) (IsNumber w64) (number_bytes w64)

body_parts : (changes : List Change) → intent_body changes ≡ magic ++ (number_bytes w64 (length changes) ++ changes_bytes changes)
unfolding intent_body
body_parts changes = refl

pub no_magic : (body : List ℕ) (first new : Reading) (e : FieldFault) → first ≡ at_front body → ReadsMagic first (Err e) new
    → (changes : List Change) → body ≡ intent_body changes → ⊥
no_magic body first new e front reads changes is =
    reads.back tt (number_bytes w64 (length changes) ++ changes_bytes changes) tt (ap left front ∙ is ∙ body_parts changes)

module _ (body : List ℕ) (first behind_magic behind_count : Reading) (count : ℕ) (front : first ≡ at_front body)
    (magics : ReadsMagic first (Ok tt) behind_magic) (counts : ReadsCount behind_magic (Ok count) behind_count) where
  -- where the body is that of changes, the header is followed by them
  follow : (changes : List Change) → IsIntent changes → body ≡ intent_body changes
      → (length changes ≡ count) × (left behind_count ≡ changes_bytes changes ++ [])
  follow changes intent is =
      let one = magics.back tt (number_bytes w64 (length changes) ++ changes_bytes changes) tt (ap left front ∙ is ∙ body_parts changes) in
      let two = counts.back (length changes) (changes_bytes changes) intent.few one.1 in
      (sym two.0, two.1 ∙ sym (append-nil (changes_bytes changes)))

  pub no_list : (fault : IntentFault)
      → ((changes : List Change) (more : List ℕ) → AreChanges changes → AreInRange changes → length changes ≡ count
      → left behind_count ≡ changes_bytes changes ++ more → fault ≡ Memory)
      → (changes : List Change) → IsIntent changes → body ≡ intent_body changes → fault ≡ Memory
  no_list fault back changes intent is =
      let f = follow changes intent is in
      back changes [] intent.are intent.in_range f.0 f.1

  pub no_end : (read : List Change) (new : Reading)
      → (left new ≡ [] → ⊥)
      → ((changes : List Change) (more : List ℕ) → AreChanges changes → AreInRange changes → length changes ≡ count
      → left behind_count ≡ changes_bytes changes ++ more → (read ≡ changes) × (left new ≡ more))
      → (changes : List Change) → IsIntent changes → body ≡ intent_body changes → ⊥
  no_end read new some back changes intent is =
      let f = follow changes intent is in
      some (back changes [] intent.are intent.in_range f.0 f.1).1
