-- What a restore gave a pull leads from home's newest backup, or from nothing, to the backup that is brought.
use Rattle.std.specs.Prelude.{◌≡◌, ℕ, Bool, true, List, ◌∷◌, ◌++◌, Option, Some, None, IfSome, Ok, slice_get}
use Rattle.std.specs.Option.{option_map, option_and_then}
use Rattle.std.proofs.Common.{sym, ap, ◌∙◌, subst}
use Rattle.attr_records.specs.Items.{Tree, is_dir}
use Rattle.attr_records.specs.Trees.{IsTree}
use Rattle.backup_rules.specs.declared.lines.Line.{Line}
use Rattle.receipts.specs.declared.session.SessionName.{SessionName}
use Rattle.tree_frames.specs.declared.nodes.Frame.{Frame}
use Rattle.tree_frames.specs.Frames.{frames_since}
use Rattle.office_model.specs.UsedNames.{Among}
use Rattle.office_model.specs.Office.{Host, Backup, AreHosts, AreNumbered, host_index}
use Rattle.office_model.specs.Meaning.{Judged}
use Rattle.office_model.specs.Parts.{backup_of, lines_of}
use Rattle.office_model.specs.Step.{Call}
use Rattle.office_model.specs.History.{calls_of}
use Rattle.office_model.specs.events.OpenRead.{base_of as read_base}
use Rattle.office_model.specs.laws.Judging.{bound}
use Rattle.office_model.specs.laws.Lawful.{judged}
use Rattle.restore_histories.specs.Given.{given_in, IsRun, Lists}
use Rattle.adopted_dumps.specs.Adopted.{host_named, base_of}
use Rattle.pull_work.specs.Script.{Job, kind_for}
use Rattle.pull_work.specs.Steps.{Step}
use Rattle.replicas.specs.Replicas.{all_in}
use Rattle.replicas.specs.ListLaws.{map_at}
use Rattle.replicas.specs.HeardLaws.{all_in-append, opened_gives}
use Rattle.replicas.specs.HomeLaws.{one_backup, among_host, IsBase}
use Rattle.replicas.specs.Courses.{Course, listing_call, opening_call, Opened, InJob}

-- ---- a host of a sound office

record StandsThere (hosts : List Host) (host : Host) : Type 0 where
  pub place : ℕ
  pub is_host : slice_get hosts place ≡ Some host

named_there : (hosts : List Host) (name : List ℕ) (host : Host) → host_named hosts name ≡ Some host → StandsThere hosts host
named_there hosts name host e = by (host_index hosts name) e
  where
    by : (place : Option ℕ) → option_and_then (slice_get hosts) place ≡ Some host → StandsThere hosts host
    by None f = absurd (cc)
    by (Some place) f = record { place = place; is_host = f }

pub are_numbered : (hosts : List Host) (name : List ℕ) (host : Host) → AreHosts hosts → host_named hosts name ≡ Some host
    → AreNumbered host.next host.backups
are_numbered hosts name host are e =
    let there = named_there hosts name host e in (are.each there.place host there.is_host).backups.numbered

pub is_tree : (hosts : List Host) (name : List ℕ) (host : Host) (backup : Backup) → AreHosts hosts → host_named hosts name ≡ Some host
    → Among host.backups backup → IsTree is_dir backup.tree
is_tree hosts name host backup are e among = ((are_numbered hosts name host are e).trees among.0 backup among.1).paths

-- ---- the base

listed_at : (backups : List Backup) (lines : List Line) (backup : Backup) (place : ℕ) → lines_of backups ≡ lines
    → slice_get backups place ≡ Some backup → slice_get lines place ≡ Some backup.line
listed_at backups lines backup place are at =
    ap (λ (ls : List Line). slice_get ls place) (sym are) ∙ map_at (λ (b : Backup). b.line) backups place
    ∙ ap (option_map (λ (b : Backup). b.line)) at

base_listed : (base : Option ℕ) (home there : List Backup) (lines : List Line) → lines_of there ≡ lines → IsBase base home there
    → IfSome base (Lists lines)
base_listed None home there lines are base = tt
base_listed (Some number) home there lines are base =
    (base.among.0, base.other.line, listed_at there lines base.other base.among.0 are base.among.1, base.numbered)

none_is : (base : Option Tree) → (let none : Judged (Option Tree) = Ok None in none ≡ Ok base) → base ≡ None
none_is base e = cc

tree_is : (tree : Tree) (base : Option Tree) → judged (Some tree) ≡ judged base → base ≡ Some tree
tree_is tree base e = cc

base_same : (hosts : List Host) (name : List ℕ) (there : Host) (base : Option ℕ) (home : List Backup) (tree : Option Tree) → AreHosts hosts
    → host_named hosts name ≡ Some there → IsBase base home there.backups → read_base hosts name base ≡ Ok tree
    → tree ≡ base_of (kind_for base) home
base_same hosts name there None home tree are is base e = none_is tree e
base_same hosts name there (Some number) home tree are is base e =
    let a = bound (backup_of hosts name number) _ tree e in
    let f = among_host hosts name number there a.0 are is a.1 in
    let same : a.0 ≡ base.other =
    one_backup there.next there.backups a.0 base.other (are_numbered hosts name there are is) f.among base.among (f.numbered ∙ sym base.numbered) in
    tree_is a.0.tree tree a.2 ∙ ap (λ (b : Backup). Some b.tree) same ∙ ap Some (sym base.same)
    ∙ sym (ap (option_map (λ (b : Backup). b.tree)) base.is_newest)

-- ---- the frames

run_from : (from from' : Option Tree) (tree tree' : Tree) (given given' : List Frame) → from ≡ from' → tree ≡ tree' → given ≡ given'
    → IsRun (frames_since from tree) given → IsRun (frames_since from' tree') given'
run_from from from' tree tree' given given' a b c run =
    subst (IsRun (frames_since from' tree')) c
    (subst (λ (t : Tree). IsRun (frames_since from' t) given) b (subst (λ (f : Option Tree). IsRun (frames_since f tree) given) a run))

pub run_of : (p : Course) (there : Host) (job : Job) (restore : SessionName) (frames : List Frame) (steps steps' : List Step) (block : List Call)
    → Opened p there job restore frames steps → (j : InJob p there job block steps')
    → IsRun (frames_since (base_of (kind_for job.base) j.own.backups) j.backup.tree) frames
run_of p there job restore frames steps steps' block o j =
    let host = p.plan.host in
    let are = p.sound_there.office.hosts in
    let asking : Call = listing_call host o.listing in
    let opening : Call = opening_call host job restore in
    let calls_are : calls_of p.entries ≡ (asking ∷ (all_in o.between ++ opening ∷ all_in o.since)) ++ all_in o.rest =
    sym p.calls ∙ ap all_in o.are ∙ all_in-append ((true_of asking) ∷ (o.between ++ (true_of opening) ∷ o.since)) o.rest
    ∙ ap (λ (calls : List Call). (asking ∷ calls) ++ all_in o.rest) (all_in-append o.between ((true_of opening) ∷ o.since)) in
    let at : slice_get o.listing.lines j.here.0 ≡ Some job.line =
    listed_at there.backups o.listing.lines j.backup j.here.0 o.lines_are j.here.1 ∙ ap Some (sym j.line_is) in
    let g = opened_gives p.first p.there host o.listing.lines o.listing.next o.listing.dump j.here.0 job.line job.base restore p.there_faults p.entries
    (all_in o.between) (all_in o.since) (all_in o.rest) p.sound_there p.legal calls_are at
    (base_listed job.base j.own.backups there.backups o.listing.lines o.lines_are j.base) in
    let f = among_host p.first.hosts host job.line.number there g.0.backup are o.is_there g.0.is_backup in
    let same : g.0.backup ≡ j.backup =
    one_backup there.next there.backups g.0.backup j.backup (are_numbered p.first.hosts host there are o.is_there) f.among j.here
    (f.numbered ∙ ap (λ (l : Line). l.number) j.line_is) in
    run_from g.0.base_tree (base_of (kind_for job.base) j.own.backups) g.0.backup.tree j.backup.tree (given_in restore (all_in o.since)) frames
    (base_same p.first.hosts host there job.base j.own.backups g.0.base_tree are o.is_there j.base g.0.is_base)
    (ap (λ (b : Backup). b.tree) same) o.given g.0.run
  where
    true_of : Call → Bool × Call
    true_of call = (true, call)
