-- The table that stands there.
use Rattle.std.proofs.Common.{◌≡◌, ℕ, ◌+◌, ◌*◌, ◌++◌, List, length, ap, subst, ◌∙◌, arith}
use Rattle.certificates.specs.Certificate.{Id, Table}
use Rattle.certificates.specs.Layout.{table_grammar}
use Rattle.certificates.specs.PrintLaws.{length-table}
use Rattle.certificate_judge.specs.Faults.{wrong}
use Rattle.certificate_judge.specs.Judging.{IsTally, is_unknown_in}
use Rattle.certificate_judge.proofs.noting.note_next.Goals as goal

pub returns-in-Ok : goal.returns-in-Ok
returns-in-Ok c = λ offsets table rest known fits e below before.
    let one = c.in-Ok.ensures.finds.back table rest fits e in
    let same : c.in-Ok.table.ids.now ≡ table.ids = c.in-Ok.ensures.tells.ids ∙ ap (λ (t : Table). t.ids) one.0 in
    let len : length (table_grammar.print table) ≡ 8 + 18 * length table.ids = length-table table fits in
    let first : c.saturating_add.result ≡ c.args.at + c.args.reader.now.offset = omega (arith, c.saturating_add.ensures, c.offset.ensures.value, below) in
    let at : c.saturating_add-ids_at.result ≡ c.args.at + c.args.reader.now.offset + 8 = omega (arith, c.saturating_add-ids_at.ensures, first, below, len) in
    let many : length c.in-Ok.table.ids.now ≡ length table.ids = ap length same in
    let noted = c.note_ids.ensures offsets known (omega (arith, at, below, len, many)) before in (
      one.1,
      c.in-Ok.ensures.finds.passed.offset ∙ ap (λ (t : Table). c.args.reader.now.offset + length (table_grammar.print t)) one.0,
      subst (λ (ids : List Id). IsTally (offsets ++ wrong (is_unknown_in c.args.known.now) 18 (c.args.at + c.args.reader.now.offset + 8) ids) c.note_ids.result) same
          (subst (λ (n : ℕ). IsTally (offsets ++ wrong (is_unknown_in c.args.known.now) 18 n c.in-Ok.table.ids.now) c.note_ids.result) at noted),
    )
