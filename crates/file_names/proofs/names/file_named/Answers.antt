use Rattle.std.proofs.Common.{sym, ap, ◌∙◌}
use Rattle.file_names.specs.Names.{file_of}
use Rattle.file_names.proofs.NameLaws.{file_back, named_if}
use Rattle.file_names.proofs.names.file_named.Goals as goal

pub returns-clause-named : goal.returns-clause-named
returns-clause-named c = named_if c.args.name.now c.file_of.result c.file_of.ensures

pub returns-clause-no_other : goal.returns-clause-no_other
returns-clause-no_other c = λ file fits is. c.file_of.ensures ∙ ap file_of (sym is) ∙ file_back file fits
