use Rattle.std.proofs.Common.{◌≡◌, ℕ, ◌+◌, ◌*◌, ◌<◌, ◌^◌, ◌++◌, List, length, take, map}
use Rattle.std.specs.List.{AllByRecursion}
use Rattle.certificates.specs.Certificate.{PoolFile}
use Rattle.certificates.specs.Layout.{file_bytes, IsFile}
use Rattle.certificate_judge.specs.Faults.{is_misfound, wrong}
use Rattle.certificate_judge.specs.Judging.{IsTally}
use Rattle.certificate_judge.proofs.noting.note_files.Given as goal

abbrev pub invariant-loop-file : goal.invariant-loop-file
invariant-loop-file l = record {
  placed : l.at + 43 * length l.files < 2 ^ 64 → l.here ≡ l.at + l.file-index * 43;
  noted : (offsets : List ℕ) (its : List PoolFile) → l.files ≡ map file_bytes its → AllByRecursion IsFile its
      → l.at + 43 * length its < 2 ^ 64 → IsTally offsets l.fn.tally
      → IsTally (offsets ++ wrong is_misfound 43 (l.at + 26) (take l.file-index its)) l.now;
}
