-- One file more, and all of them.
use Rattle.std.proofs.Common.{◌≡◌, ℕ, ◌+◌, ◌*◌, ◌<◌, ◌++◌, List, [], length, get_or, false, ap, subst, ◌∙◌, arith}
use Rattle.std.proofs.lemmas.List.{length-map, get_or-map, take_all}
use Rattle.certificates.specs.Certificate.{PoolFile}
use Rattle.certificates.specs.Layout.{file_bytes}
use Rattle.certificate_judge.specs.Faults.{is_misfound, wrong}
use Rattle.certificate_judge.specs.Judging.{IsTally}
use Rattle.certificate_judge.proofs.Parts.{at_index}
use Rattle.certificate_judge.proofs.Wrongs.{noted_more}
use Rattle.certificate_judge.proofs.noting.note_files.Goals as goal

none : PoolFile
none = record { id = []; size = 0; found = []; mark = false }

pub loop-file-preserved : goal.loop-file-preserved
loop-file-preserved c = record {
  placed = λ below. let here = c.loop-file.invariant.placed below in omega (arith, here, below, c.loop-file-test.true, c.saturating_add-here.ensures);
  noted = λ offsets its are fits below before.
      let many : length c.args.files.now ≡ length its = ap length are ∙ length-map its file_bytes in
      let within : c.loop-file.file-index < length its = omega (arith, many, c.loop-file-test.true) in
      let here = c.loop-file.invariant.placed (omega (arith, below, many)) in
      let place : c.saturating_add.result ≡ c.args.at + 26 + c.loop-file.file-index * 43 = omega (arith, here, below, within, c.saturating_add.ensures) in
      noted_more is_misfound 43 offsets (c.args.at + 26) c.loop-file.file-index c.saturating_add.result its none c.is_misfound.result c.loop-file.now c.and_if-now.result
      within (λ os is. c.and_if-now.ensures os is)
      (c.is_misfound.ensures (get_or its c.loop-file.file-index none) (at_index _ its c.loop-file.file-index none fits within)
      (ap (λ (l : List (List ℕ)). get_or l c.loop-file.file-index []) are ∙ get_or-map file_bytes its c.loop-file.file-index none [] within))
      place
      (c.loop-file.invariant.noted offsets its are fits below before);
}

pub returns : goal.returns
returns c = λ offsets its are fits below before.
    let many : length c.args.files.now ≡ length its = ap length are ∙ length-map its file_bytes in
    subst (λ (l : List PoolFile). IsTally (offsets ++ wrong is_misfound 43 (c.args.at + 26) l) c.loop-file.now)
    (take_all c.loop-file.file-index its (omega (arith, many, c.loop-file-test.false)))
    (c.loop-file.invariant.noted offsets its are fits below before)
