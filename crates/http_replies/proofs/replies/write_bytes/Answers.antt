use Rattle.http_replies.proofs.replies.write_bytes.Goals as goal

pub returns-clause-all : goal.returns-clause-all
returns-clause-all g c = rw c.bytes_status.ensures.value at c.write_response.ensures.all

pub returns-clause-front : goal.returns-clause-front
returns-clause-front g c = rw c.bytes_status.ensures.value at c.write_response.ensures.front
