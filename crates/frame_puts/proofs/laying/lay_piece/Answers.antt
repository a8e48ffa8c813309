use Rattle.std.specs.Prelude.{Some, length, ◌==◌, ◌-◌}
use Rattle.std.proofs.Common.{refl, sym, ap, ◌∙◌, arith}
use Rattle.frame_puts.specs.Steps.{more_step, last_step, piece_step}
use Rattle.frame_puts.specs.StepLaws.{is_wanted_size, piece_more, piece_last, piece_foreign}
use Rattle.frame_puts.proofs.LaySteps.{ends_as}
use Rattle.frame_puts.proofs.laying.lay_piece.Goals as goal

pub returns-then-not-is_wanted : goal.returns-then-not-is_wanted
returns-then-not-is_wanted g c = (
  refl,
  λ stage. piece_foreign c.args.dump c.args.file c.args.bytes
      (ap (λ n. length c.args.bytes == n) (sym c.next_size-size.ensures) ∙ sym c.is_wanted.ensures ∙ c.if-not-is_wanted.true),
)

pub returns-then-size-file : goal.returns-then-size-file
returns-then-size-file g c =
    let fits = ap (λ n. length c.args.bytes == n) (sym c.next_size-size.ensures) ∙ sym c.is_wanted.ensures ∙ c.if-not-is_wanted.false in
    let long = is_wanted_size c.args.bytes c.args.file.left fits in
    ends_as g.P.Port.moves c.args.port.now c.lay_more.new.port (λ stage. Some (more_step c.args.file (c.args.file.left - c.next_size-size.result) c.args.bytes))
    (λ stage. piece_step c.args.dump c.args.file c.args.bytes) c.lay_more.result
    (λ stage. piece_more c.args.dump c.args.file c.args.bytes (c.args.file.left - c.next_size-size.result) long
    (omega (arith, long, c.next_size-size.ensures, c.if-size-file.true))
    (ap (λ n. c.args.file.left - n) (c.next_size-size.ensures ∙ sym long)))
    c.lay_more.ensures

pub returns : goal.returns
returns g c =
    let fits = ap (λ n. length c.args.bytes == n) (sym c.next_size-size.ensures) ∙ sym c.is_wanted.ensures ∙ c.if-not-is_wanted.false in
    let long = is_wanted_size c.args.bytes c.args.file.left fits in
    ends_as g.P.Port.moves c.args.port.now c.lay_last_piece.new.port (λ stage. Some (last_step c.args.dump c.args.file c.args.bytes))
    (λ stage. piece_step c.args.dump c.args.file c.args.bytes) c.lay_last_piece.result
    (λ stage. piece_last c.args.dump c.args.file c.args.bytes long (omega (arith, long, c.next_size-size.ensures, c.if-size-file.false)))
    c.lay_last_piece.ensures
