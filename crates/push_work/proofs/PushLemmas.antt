-- A dump over the program's port is one over what is seen of it.
use Rattle.std.specs.Prelude.{Result, IfOk, IfErr, IsErrOf}
use Rattle.std.proofs.Common.{◌≡◌, ℕ, ◌≤◌, List, ◌++◌, length, Option, Some, Ok, Err, refl, sym, subst, ◌∙◌, ap}
use Rattle.fault_counts.specs.Counts.{Counted}
use Rattle.stream_traits.specs.Seen.{LinkSeen}
use Rattle.stream_traits.specs.Told.{before}
use Rattle.attr_records.specs.Items.{Tree}
use Rattle.backup_rules.specs.declared.lines.Kind.{Kind}
use Rattle.office_model.specs.Step.{Call}
use Rattle.folder_trait.specs.declared.folder.Folder.{Ghosts as FolderGhosts}
use Rattle.folder_walk.specs.declared.refusals.DumpRefusal.{DumpRefusal}
use Rattle.folder_walk.specs.declared.refusals.DumpRefusal.TheVariants as D
use Rattle.folder_walk.specs.Causes.{IsDumpCause}
use Rattle.folder_walk.specs.Dumps.{Dumped, Stopped}
use Rattle.remote_port.specs.declared.end.PortEnd.{PortEnd}
use Rattle.remote_port.specs.declared.end.PortEnd.TheVariants as P
use Rattle.remote_port.specs.Speaks.{Connection}
use Rattle.push_work.specs.declared.ends.PushEnd.{PushEnd}
use Rattle.push_work.specs.Ends.{end_of}
use Rattle.push_work.specs.Pushes.{Asks, open_at, Dumps, IsBehindWire, Pushes}

module _ {P Q : Type 0} (moves : P → List Call → P → Type 0) (others : Q → List Call → Q → Type 0) (of : P → Q)
    (told : Option Tree) (moments moments' : Option (List ℕ)) (kind : Kind) (host : List ℕ) where
  -- what was dumped is told of an image of the port
  pub dumps-seen : ((p q : P) (calls : List Call) → moves p calls q → others (of p) calls (of q)) → (old new : P)
      (result : Result ℕ DumpRefusal) → IfOk result (Dumped moves old new told moments moments' kind host)
      → IfErr result (Stopped moves old new told moments moments' kind host)
      → Dumps others (of old) (of new) told moments moments' kind host result
  dumps-seen seen old new (Ok number) d none = record {
    now = d.now;
    later = d.later;
    calls = d.calls;
    clock = d.clock;
    moved = seen old new d.calls d.moved;
    answered = d.answered;
    of_dump = d.of_dump;
    whole = d.whole;
  }
  dumps-seen seen old new (Err fault) none d = record {
    now = d.now;
    later = d.later;
    calls = d.calls;
    aborts = d.aborts;
    clock = d.clock;
    moved = seen old new _ d.moved;
    so = d.so;
    of_dump = d.of_dump;
    aborted = d.aborted;
    begins = d.begins;
  }

abbrev seen : Option (List ℕ) → Option (List ℕ) → Option (List ℕ) → ℕ → LinkSeen
seen left written sent faults = record { left = left; written = written; sent = sent; faults = faults }

pub same_seen : (a b : LinkSeen) → a.left ≡ b.left → a.written ≡ b.written → a.sent ≡ b.sent → a.faults ≡ b.faults → a ≡ b
same_seen a b left written sent faults =
    ap (λ (told : Option (List ℕ)). seen told a.written a.sent a.faults) left
    ∙ (ap (λ (told : Option (List ℕ)). seen b.left told a.sent a.faults) written
    ∙ (ap (λ (told : Option (List ℕ)). seen b.left b.written told a.faults) sent
    ∙ ap (λ (count : ℕ). seen b.left b.written b.sent count) faults))

pub behind_wire : (ahead : List ℕ) (left : Option (List ℕ)) (wire link : LinkSeen) → length ahead ≤ 49152 → wire.left ≡ before ahead left
    → left ≡ link.left → link.written ≡ wire.written → link.sent ≡ wire.sent → link.faults ≡ wire.faults → IsBehindWire wire link
behind_wire ahead left wire link few left_is same written sent faults = record {
  ahead = ahead;
  few = few;
  left = left_is ∙ ap (before ahead) same;
  written = written;
  sent = sent;
  faults = faults;
}

-- ---- the whole push

counted_link : (link : LinkSeen) (q : Connection) (calls : List Call) → Asks (open_at link) calls q
    → Counted link.faults q.seen.faults (q.end ≡ Some P.Link)
counted_link link q calls asks = record {
  later = asks.counted.later;
  rose = λ is. asks.counted.rose (refl, is);
  stays = λ no. asks.counted.stays (λ both. no both.1);
}

counted_dump : (link : LinkSeen) (q : Connection) (told : Option Tree) (moments moments' : Option (List ℕ)) (kind : Kind) (host : List ℕ)
    (result : Result ℕ DumpRefusal) → Dumps Asks (open_at link) q told moments moments' kind host result
    → Counted link.faults q.seen.faults (q.end ≡ Some P.Link)
counted_dump link q told moments moments' kind host (Ok number) d = counted_link link q d.calls d.moved
counted_dump link q told moments moments' kind host (Err fault) d = counted_link link q (d.calls ++ d.aborts) d.moved

pub pushes : {F : Type 0} (f : FolderGhosts F) (link link' wire : LinkSeen) (folder folder' : F) (moments moments' : Option (List ℕ))
    (kind : Kind) (host : List ℕ) (end : PushEnd) (p q : Connection) (result : Result ℕ DumpRefusal) (port : Option PortEnd)
    → p ≡ open_at link → Dumps Asks p q (f.tree folder) moments moments' kind host result → port ≡ q.end → wire ≡ q.seen
    → IsBehindWire wire link' → IfErr result (IsDumpCause (f.tree folder)) → f.tree folder' ≡ f.tree folder
    → Counted (f.fault_count folder) (f.fault_count folder') (IsErrOf result D.Folder) → end ≡ end_of host result port
    → Pushes f link link' folder folder' moments moments' kind host end
pushes f link link' wire folder folder' moments moments' kind host end p q result port first dumps port_is wire_is behind why same counted
    end_is =
    let d : Dumps Asks (open_at link) q (f.tree folder) moments moments' kind host result =
    subst (λ (c : Connection). Dumps Asks c q (f.tree folder) moments moments' kind host result) first dumps in
    let near : IsBehindWire q.seen link' = subst (λ (s : LinkSeen). IsBehindWire s link') wire_is behind in
    record {
      result = result;
      port = q.end;
      wire = q.seen;
      dumps = d;
      behind = near;
      why = why;
      same = same;
      counted = counted;
      link_counted = subst (λ (k : ℕ). Counted link.faults k (q.end ≡ Some P.Link)) (sym near.faults)
          (counted_dump link q (f.tree folder) moments moments' kind host result d);
      end_is = end_is ∙ ap (end_of host result) port_is;
    }
