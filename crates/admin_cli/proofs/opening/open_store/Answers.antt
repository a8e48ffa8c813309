use Rattle.admin_cli.proofs.opening.open_store.Goals as goal

pub returns-in-Err-clause-refused : goal.returns-in-Err-clause-refused
returns-in-Err-clause-refused g c = (
  c.in-Err.refusal,
  c.note_of_refusal-note.ensures,
  record {
    why = c.in-Err.ensures.foreign;
    spent = c.in-Err.ensures.spent;
    counted = c.in-Err.ensures.left_counted;
    left = c.in-Err.ensures.left;
    crash = c.in-Err.ensures.stops;
  },
)

pub returns-in-Ok-clause-opened : goal.returns-in-Ok-clause-opened
returns-in-Ok-clause-opened g c = λ a b is.
    let w = c.in-Ok.ensures.opened a b is in (w.0, w.1, c.in-Ok.ensures.tables a b is)
