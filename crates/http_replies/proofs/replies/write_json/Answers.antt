use Rattle.http_replies.proofs.replies.write_json.Goals as goal

pub returns-clause-all : goal.returns-clause-all
returns-clause-all g c = rw c.as_slice.ensures.value at c.write_text.ensures.all

pub returns-clause-front : goal.returns-clause-front
returns-clause-front g c = rw c.as_slice.ensures.value at c.write_text.ensures.front
