use Rattle.std.proofs.Common.{List, ℕ, not, ap, ◌∙◌, drop, take}
use Rattle.certificates.specs.Layout.{file_bytes}
use Rattle.certificate_judge.specs.Faults.{is_same}
use Rattle.certificate_judge.proofs.Parts.{digest_of_file, found_in_file}
use Rattle.certificate_judge.proofs.noting.is_misfound.Goals as goal

pub returns : goal.returns
returns c = λ it is same.
    c.ne.ensures ∙ ap (λ (bytes : List ℕ). not (is_same (take 16 bytes) (take 16 (drop 26 bytes)))) same
    ∙ ap (λ (bytes : List ℕ). not (is_same bytes (take 16 (drop 26 (file_bytes it))))) (digest_of_file it is)
    ∙ ap (λ (bytes : List ℕ). not (is_same (take 16 it.id) bytes)) (found_in_file it is)
