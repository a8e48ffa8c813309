-- The put of an entry, and a walk's steps.
use Rattle.std.specs.Prelude.{◌≡◌, ℕ, Bool, true, false, List, [], ◌∷◌, length, take, Option, Some, None, Ok, Err, ⊤}
use Rattle.std.proofs.Common.{refl, sym, ap, ◌∙◌, subst, arith}
use Rattle.std.proofs.lemmas.List.{take_all}
use Rattle.attr_records.specs.declared.nodes.Item.{Item}
use Rattle.attr_records.specs.declared.nodes.Item.TheVariants as I
use Rattle.attr_records.specs.Items.{Tree, is_large}
use Rattle.attr_records.specs.Trees.{node_at}
use Rattle.folder_trait.specs.declared.found.FoundNode.{FoundNode}
use Rattle.folder_trait.specs.declared.found.FoundNode.TheVariants as N
use Rattle.folder_trait.specs.declared.found.FoundFile.{FoundFile}
use Rattle.folder_trait.specs.Folders.{found_of, IsPieceRead}
use Rattle.receipts.specs.declared.session.SessionName.{SessionName}
use Rattle.office_model.specs.declared.event.Event.TheVariants as E
use Rattle.office_model.specs.declared.event.PutItem.TheVariants.{Whole}
use Rattle.office_model.specs.declared.answer.Answer.TheVariants as A
use Rattle.office_model.specs.Step.{Call}
use Rattle.call_scripts.specs.Scripts.{Script, Begins}
use Rattle.folder_laws.specs.Calls.{put_call, file_calls, item_calls}
use Rattle.folder_laws.specs.DumpScript.{file_script, item_script}
use Rattle.folder_walk.specs.declared.refusals.DumpRefusal.{DumpRefusal}
use Rattle.folder_walk.specs.declared.refusals.DumpRefusal.TheVariants as D
use Rattle.office_model.specs.declared.refusal.Refusal.{Refusal}
use Rattle.folder_walk.specs.Rows.{is_large_node}
use Rattle.folder_walk.specs.Causes.{IsNoRefusal}
use Rattle.folder_walk.specs.Puts.{AnsweredOr, IsCallFault, PutsEntry}

pub some_injects : {X : Type 0} {x y : X} → Some x ≡ Some y → x ≡ y
some_injects e = cc

pub found_file : (a b : FoundFile) → N.File a ≡ N.File b → a ≡ b
found_file a b e = cc

-- a file that the folder lists, with the bytes that it gives, is what it has
pub same_file : (tree : Tree) (path : List ℕ) (there : Item) (file : FoundFile) (bytes : List ℕ) → node_at tree path ≡ Some there
    → N.File file ≡ found_of there → IsPieceRead tree path 0 file.size (Some bytes)
    → Some (I.File (record { attr = file.attr; group = file.group; bytes = bytes })) ≡ Some there
same_file tree path (I.File f) file bytes at is reading =
    let same : file ≡ record { attr = f.attr; group = f.group; size = length f.bytes } = found_file file (record { attr = f.attr; group = f.group; size = length f.bytes }) is in
    let all : bytes ≡ f.bytes =
    some_injects (reading.found f at) ∙ ap (λ (x : FoundFile). take x.size f.bytes) same ∙ take_all (length f.bytes) f.bytes (omega arith) in
    λ i. Some (I.File (record { attr = (same i).attr; group = (same i).group; bytes = all i }))
same_file tree path (I.Dir d) file bytes at is reading = absurd (cc)
same_file tree path (I.Link l) file bytes at is reading = absurd (cc)

-- a file that the folder lists hasn't gone
pub file_there : (tree : Tree) (path : List ℕ) (there : Item) (file : FoundFile) → node_at tree path ≡ Some there
    → N.File file ≡ found_of there → IsPieceRead tree path 0 file.size None → None ≡ Some there
file_there tree path (I.File f) file at is reading = let clash : None ≡ Some (take file.size f.bytes) = reading.found f at in absurd (cc)
file_there tree path (I.Dir d) file at is reading = absurd (cc)
file_there tree path (I.Link l) file at is reading = absurd (cc)

-- what was found is what the tree has
abbrev pub IsItemThere : Option Tree → List ℕ → FoundNode → Option Item → Type 0
IsItemThere told path node item =
    (tree : Tree) → told ≡ Some tree → (there : Item) → node_at tree path ≡ Some there → node ≡ found_of there → item ≡ Some there

found_large : (item : Item) → is_large_node (found_of item) ≡ is_large item
found_large (I.File file) = refl
found_large (I.Dir dir) = refl
found_large (I.Link link) = refl

-- an item that isn't large has one call
small_calls : (dump : SessionName) (path : List ℕ) (item : Item) → is_large item ≡ false → put_call dump path item ∷ [] ≡ item_calls dump path item 0
small_calls dump path (I.File file) small = ap (λ large. file_calls large dump path file 0) (sym small)
small_calls dump path (I.Dir dir) small = refl
small_calls dump path (I.Link link) small = refl

small_script : (dump : SessionName) (path : List ℕ) (item : Item) (refusal : Refusal) (next : Script) → is_large item ≡ false
    → Begins (item_script dump path item next) ((E.Put dump path (Whole item) None, Err refusal) ∷ [])
small_script dump path (I.File file) refusal next small =
    subst (λ large. Begins (file_script large dump path file next) ((E.Put dump path (Whole (I.File file)) None, Err refusal) ∷ [])) (sym small) (refl, tt)
small_script dump path (I.Dir dir) refusal next small = (refl, tt)
small_script dump path (I.Link link) refusal next small = (refl, tt)

module _ {P : Type 0} (moves : P → List Call → P → Type 0) (none : (p : P) → moves p [] p) (old new : P) (told : Option Tree)
    (dump : SessionName) (path : List ℕ) (node : FoundNode) where
  -- nothing was called
  pub puts_none : (fault : DumpRefusal) → IsNoRefusal fault → PutsEntry {A = Bool} moves old old told dump path node (Err fault)
  puts_none fault unrefused = record {
    calls = [];
    moved = none old;
    so = subst (λ (r : Option Refusal). AnsweredOr r []) (sym unrefused) tt;
    of_dump = tt;
    ends = λ tree is item at found next. tt;
  }

  -- it has gone
  pub puts_gone : IsItemThere told path node None → PutsEntry moves old old told dump path node (Ok false)
  puts_gone gone = record {
    calls = [];
    moved = none old;
    so = tt;
    of_dump = tt;
    ends = λ tree is item at found. let clash : None ≡ Some item = gone tree is item at found in absurd (cc);
  }

  module _ (small : is_large_node node ≡ false) where
    small_item : (item : Item) → node ≡ found_of item → is_large item ≡ false
    small_item item found = sym (found_large item) ∙ ap is_large_node (sym found) ∙ small

    -- it was put
    pub puts_one : (item : Item) → moves old ((E.Put dump path (Whole item) None, Ok A.Done) ∷ []) new → IsItemThere told path node (Some item)
        → PutsEntry moves old new told dump path node (Ok true)
    puts_one item moved there = record {
      calls = (E.Put dump path (Whole item) None, Ok A.Done) ∷ [];
      moved = moved;
      so = tt;
      of_dump = (tt, tt);
      ends = λ tree is other at found.
          (0, ap (λ x. put_call dump path x ∷ []) (some_injects (there tree is other at found)) ∙ small_calls dump path other (small_item other found));
    }

    -- it was refused
    pub puts_refused : (item : Item) (fault : DumpRefusal) → IsCallFault moves old new (E.Put dump path (Whole item) None) fault
        → IsItemThere told path node (Some item) → PutsEntry {A = Bool} moves old new told dump path node (Err fault)
    puts_refused item (D.Refused refusal) moved there = record {
      calls = (E.Put dump path (Whole item) None, Err refusal) ∷ [];
      moved = moved;
      so = (refl, refl);
      of_dump = (tt, tt);
      ends = λ tree is other at found next.
          subst (λ (x : Item). Begins (item_script dump path other next) ((E.Put dump path (Whole x) None, Err refusal) ∷ []))
          (sym (some_injects (there tree is other at found))) (small_script dump path other refusal next (small_item other found));
    }
    puts_refused item (D.BadPath rule) moved there = absurd moved
    puts_refused item D.BadTarget moved there = absurd moved
    puts_refused item D.FileTooLarge moved there = absurd moved
    puts_refused item D.Folder moved there = absurd moved
    puts_refused item D.Memory moved there = absurd moved

-- whatever an entry's put answered with Ok
pub puts_passed : {P : Type 0} (moves : P → List Call → P → Type 0) (old new : P) (told : Option Tree) (dump : SessionName) (path : List ℕ)
    (node : FoundNode) (whole : Bool) → PutsEntry moves old new told dump path node (Ok whole)
    → PutsEntry {A = ⊤} moves old new told dump path node (Ok tt)
puts_passed moves old new told dump path node whole puts = record { calls = puts.calls; moved = puts.moved; so = puts.so; of_dump = puts.of_dump; ends = puts.ends }

pub puts_failed : {P : Type 0} (moves : P → List Call → P → Type 0) (old new : P) (told : Option Tree) (dump : SessionName) (path : List ℕ)
    (node : FoundNode) (fault : DumpRefusal) → PutsEntry {A = Bool} moves old new told dump path node (Err fault)
    → PutsEntry {A = ⊤} moves old new told dump path node (Err fault)
puts_failed moves old new told dump path node fault puts = record { calls = puts.calls; moved = puts.moved; so = puts.so; of_dump = puts.of_dump; ends = puts.ends }
