use Rattle.http_client.proofs.MessageLaws.{message-responds, bytes-respond, no_memory-responds}
use Rattle.http_client.proofs.laws.messages_are_responses.Goals as goal

pub returns-clause-messages : goal.returns-clause-messages
returns-clause-messages c = message-responds

pub returns-clause-bytes : goal.returns-clause-bytes
returns-clause-bytes c = bytes-respond

pub returns-clause-no_memory : goal.returns-clause-no_memory
returns-clause-no_memory c = no_memory-responds
