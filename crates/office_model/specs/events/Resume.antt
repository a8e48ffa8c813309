-- A dump of a host's partial: of its kind and its start, from its tree. The partial stays.
use Rattle.std.specs.Prelude.{ℕ, List, [], ◌∷◌, ◌++◌, Ok, is_some, nat_le}
use Rattle.receipts.specs.declared.session.SessionName.{SessionName}
use Rattle.office_model.specs.declared.answer.Answer.TheVariants.{Dump as Opened}
use Rattle.office_model.specs.declared.answer.AnswerKind.TheVariants.{Dump as OpenedKind}
use Rattle.office_model.specs.declared.refusal.BrokenRule.TheVariants.{NoPartial, SessionOpen, NumbersSpent}
use Rattle.office_model.specs.Office.{Office, Host, Dump, dump_index_of_host, number_limit, last_sequence, with_dumps, numbered}
use Rattle.office_model.specs.Meaning.{Meaning, Carried, Judged, Reads, ◌>>=◌, ◌>>◌, found, breaks, means}
use Rattle.office_model.specs.Parts.{host_at}
use Rattle.office_model.specs.events.OpenDump.{next_session, new_dump}

abbrev pub with_resumed : List ℕ → SessionName → List Host → List Dump → Judged (List Dump)
with_resumed name session hosts dumps = do
  host ← host_at hosts name
  partial ← found NoPartial host.value.partial
  breaks SessionOpen (is_some (dump_index_of_host dumps host.index))
  breaks NumbersSpent (nat_le number_limit host.value.next)
  breaks NumbersSpent (nat_le last_sequence session.sequence)
  Ok (dumps ++ new_dump session host.index partial.kind partial.start partial.tree ∷ [])

abbrev pub carried : List ℕ → Office → Judged Carried
carried name office = do
  dumps ← with_resumed name (next_session office) office.hosts office.dumps
  Ok (record { answer = Opened (next_session office); after = numbered (with_dumps office dumps) })

abbrev pub meaning : List ℕ → Meaning
meaning name = means (carried name) OpenedKind Reads
