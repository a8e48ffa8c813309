use Rattle.std.proofs.Common.{List, ℕ, ap, ◌∙◌, drop, take}
use Rattle.std.specs.Int.{w64, from_be_bytes}
use Rattle.certificate_judge.proofs.Parts.{count_of_item}
use Rattle.certificate_judge.proofs.noting.count_of.Goals as goal

pub returns : goal.returns
returns c = λ it is same.
    c.from_be_bytes.ensures ∙ ap (from_be_bytes w64) c.copy_from_slice.ensures.after
    ∙ ap (λ (bytes : List ℕ). from_be_bytes w64 (take 8 (drop 18 bytes))) same ∙ count_of_item it is
