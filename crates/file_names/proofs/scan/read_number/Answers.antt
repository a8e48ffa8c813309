use Rattle.std.proofs.Common.{sym, ◌∙◌, arith}
use Rattle.std.proofs.lemmas.Str.{IsUtf8-from_is_utf8}
use Rattle.file_names.proofs.ScanLaws.{number_of_not_plain, number_of_no_text, number_of_refused, number_of_read, number_of_too_large}
use Rattle.file_names.proofs.scan.read_number.Goals as goal

pub returns-then-not-is_plain-clause-value : goal.returns-then-not-is_plain-clause-value
returns-then-not-is_plain-clause-value c = number_of_not_plain c.args.most c.args.text.now (omega arith) (sym c.is_plain.ensures ∙ c.if-not-is_plain.true)

pub returns-in_default-clause-value : goal.returns-in_default-clause-value
returns-in_default-clause-value c =
    number_of_no_text c.args.most c.args.text.now (omega arith) (λ e. c.in_default.ensures.cases.0 (IsUtf8-from_is_utf8 _ e))

pub returns-then-number-most-clause-value : goal.returns-then-number-most-clause-value
returns-then-number-most-clause-value c =
    number_of_read c.args.most c.args.text.now c.in-Ok-parse.number (omega arith) (sym c.is_plain.ensures ∙ c.if-not-is_plain.false)
    (rw c.in-Ok.ensures.cases.0 at c.in-Ok-parse.ensures.value.0) (omega arith)

pub returns-else-number-most-clause-value : goal.returns-else-number-most-clause-value
returns-else-number-most-clause-value c =
    number_of_too_large c.args.most c.args.text.now c.in-Ok-parse.number (omega arith) (sym c.is_plain.ensures ∙ c.if-not-is_plain.false)
    (rw c.in-Ok.ensures.cases.0 at c.in-Ok-parse.ensures.value.0) (omega arith) (omega arith)

pub returns-in-Err-clause-value : goal.returns-in-Err-clause-value
returns-in-Err-clause-value c =
    number_of_refused c.args.most c.args.text.now c.in-Err.field-0 (omega arith) (rw c.in-Ok.ensures.cases.0 at c.in-Err.ensures.value.0)
