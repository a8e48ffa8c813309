-- What a push does.
--     Asks      these calls lead from one state of the connection to another
--     Dumps      what was dumped, by how it ended
--     IsBehindWire      a link, and what was seen of a wire over it
--     Pushes      a folder was dumped over a link
use Rattle.std.specs.Prelude.{◌≡◌, ℕ, ◌≤◌, List, length, Option, Some, None, Result, Ok, Err, IfErr, IsErrOf}
use Rattle.fault_counts.specs.Counts.{Counted}
use Rattle.stream_traits.specs.Seen.{LinkSeen}
use Rattle.stream_traits.specs.Told.{before}
use Rattle.attr_records.specs.Items.{Tree}
use Rattle.backup_rules.specs.declared.lines.Kind.{Kind}
use Rattle.office_model.specs.Step.{Call}
use Rattle.folder_trait.specs.declared.folder.Folder.{Ghosts as FolderGhosts}
use Rattle.folder_walk.specs.declared.refusals.DumpRefusal.{DumpRefusal}
use Rattle.folder_walk.specs.declared.refusals.DumpRefusal.TheVariants as D
use Rattle.folder_walk.specs.Causes.{IsDumpCause}
use Rattle.folder_walk.specs.Dumps.{Dumped, Stopped}
use Rattle.remote_port.specs.declared.end.PortEnd.{PortEnd}
use Rattle.remote_port.specs.declared.end.PortEnd.TheVariants as P
use Rattle.remote_port.specs.Speaks.{Connection, Speaks}
use Rattle.push_codec.specs.Codec.{may, request_of, refusal_of, Says}
use Rattle.push_work.specs.declared.ends.PushEnd.{PushEnd}
use Rattle.push_work.specs.Ends.{end_of}

-- these calls lead from one state of the connection to another: their requests were written one after the other, and each reply is what
-- its response says
abbrev pub Asks : Connection → List Call → Connection → Type 0
Asks p calls q = Speaks may request_of refusal_of Says p q calls

-- a connection that hasn't ended
abbrev pub open_at : LinkSeen → Connection
open_at link = record { seen = link; end = None }

-- what was dumped, by how it ended
abbrev pub Dumps : {P : Type 0} → (P → List Call → P → Type 0) → P → P → Option Tree → (moments moments' : Option (List ℕ)) → Kind → List ℕ
    → Result ℕ DumpRefusal → Type 0
Dumps moves old new told moments moments' kind host (Ok number) = Dumped moves old new told moments moments' kind host number
Dumps moves old new told moments moments' kind host (Err refusal) = Stopped moves old new told moments moments' kind host refusal

-- what is seen of a link behind a wire over it, of which some bytes were read ahead
pub record IsBehindWire (wire link : LinkSeen) : Type 0 where
  pub ahead : List ℕ
  pub few : length ahead ≤ 49152
  pub left : wire.left ≡ before ahead link.left
  pub written : link.written ≡ wire.written
  pub sent : link.sent ≡ wire.sent
  pub faults : link.faults ≡ wire.faults

-- A folder was dumped over a link. The calls are the script of a dump of its tree, whole or up to what was refused, where it tells one,
-- and are of events of a dump in any case. They lead over the connection: on it stand their requests alone, and what was taken of its
-- input are their responses. How it ended is what came of them; the link's count rose exactly if the port ended by it. The folder is as
-- it was.
pub record Pushes {F : Type 0} (f : FolderGhosts F) (link link' : LinkSeen) (folder folder' : F) (moments moments' : Option (List ℕ))
    (kind : Kind) (host : List ℕ) (end : PushEnd) : Type 0 where
  pub result : Result ℕ DumpRefusal
  pub port : Option PortEnd
  pub wire : LinkSeen
  pub dumps : Dumps Asks (open_at link) (record { seen = wire; end = port }) (f.tree folder) moments moments' kind host result
  pub behind : IsBehindWire wire link'
  pub why : IfErr result (IsDumpCause (f.tree folder))
  pub same : f.tree folder' ≡ f.tree folder
  pub counted : Counted (f.fault_count folder) (f.fault_count folder') (IsErrOf result D.Folder)
  pub link_counted : Counted link.faults link'.faults (port ≡ Some P.Link)
  pub end_is : end ≡ end_of host result port
