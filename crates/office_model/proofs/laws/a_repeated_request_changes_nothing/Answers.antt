use Rattle.office_model.specs.laws.TokenLaws.{opening_by_receipt, opening_by_dump, commit_by_receipt, put_by_token, remove_by_token}
use Rattle.office_model.specs.laws.OkLaws.{ok_repeats}
use Rattle.office_model.proofs.laws.a_repeated_request_changes_nothing.Goals as goal

pub returns-clause-by_receipt : goal.returns-clause-by_receipt
returns-clause-by_receipt c = opening_by_receipt

pub returns-clause-by_dump : goal.returns-clause-by_dump
returns-clause-by_dump c = opening_by_dump

pub returns-clause-committed : goal.returns-clause-committed
returns-clause-committed c = commit_by_receipt

pub returns-clause-ok : goal.returns-clause-ok
returns-clause-ok c = ok_repeats

pub returns-clause-put : goal.returns-clause-put
returns-clause-put c = put_by_token

pub returns-clause-removed : goal.returns-clause-removed
returns-clause-removed c = remove_by_token
