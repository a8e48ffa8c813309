-- Reading one thing after another.
use Rattle.std.specs.Prelude.{ℕ, List, ◌++◌}
use Rattle.std.proofs.Common.{sym, ap, ◌∙◌, append_assoc, length-append, arith}
use Rattle.wire_bytes.specs.Reading.{Reading, left, Passes}

-- past one list of bytes, and then past another
pub passes_both : (old middle new : Reading) (a b : List ℕ) → Passes old middle a → Passes middle new b → Passes old new (a ++ b)
passes_both old middle new a b p q = record {
  whole = q.whole ∙ p.whole;
  offset = omega (arith, p.offset, q.offset, length-append a b);
  parts = p.parts ∙ ap (λ bytes. a ++ bytes) q.parts ∙ sym (append_assoc a b (left new));
}
