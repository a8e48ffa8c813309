-- A pull's codec, and what it serves.
use Rattle.std.proofs.Common.{List, [], ◌∷◌, ◌++◌}
use Rattle.http_client.specs.Requests.{Ask}
use Rattle.peer_talk.specs.Mirror.{AreRequests}
use Rattle.peer_calls.specs.Calls.{Heard, requests_of}
use Rattle.pull_codec.specs.Codec.{may, request_of, at, Says, InRange}
use Rattle.pull_codec.specs.Relations.{AreHeard}
use Rattle.pull_codec.specs.Laws.{PullsAreCoded, AnsweredPullsAreServed, PullsAreServed}
use Rattle.pull_codec.proofs.EventLaws.{asks-read, one-script, requests-are}
use Rattle.pull_codec.proofs.FitLaws.{reply-fits}
use Rattle.pull_codec.proofs.ReadLaws.{reply-is, memory-silent}
use Rattle.pull_codec.proofs.ServedLaws.{answered-served, codec-served}

pub pulls-coded : PullsAreCoded
pulls-coded defaults = record {
  asks = asks-read defaults;
  single = one-script;
  fits = λ event moment reply fits within. reply-fits event reply fits within;
  reads = λ event moment said read fits within heard. reply-is event said read fits within heard;
  silent = memory-silent;
}

pub pulls-answered : AnsweredPullsAreServed
pulls-answered defaults heard later xs said are within answered =
    answered-served may InRange request_of Says at defaults (pulls-coded defaults) heard later xs said are within answered

pub all-requests : (heard : List Heard) (later : List Ask) → AreHeard may Says heard → AreRequests later
    → AreRequests (requests_of request_of heard ++ later)
all-requests [] later said plain = plain
all-requests (h ∷ hs) later said plain = (requests-are h.event said.0.0, all-requests hs later said.1 plain)

pub pulls-served : PullsAreServed
pulls-served defaults heard later xs made end read rest said plain are within between parsed =
    codec-served may InRange request_of Says at defaults (pulls-coded defaults) heard later xs made end read rest said
    (all-requests heard later said plain) are within between parsed
