-- The steps of a comparison: one listing each, the next directory first.
use Rattle.std.specs.Prelude.{◌≡◌, ℕ, ◌+◌, ◌<◌, ◌≤◌, Bool, true, false, cond, List, [], ◌∷◌, ◌++◌, length, get_or, map, reverse, take, ◌-◌, Option, Some, None, Ok, Err}
use Rattle.std.specs.List.{filter}
use Rattle.std.proofs.Common.{refl, sym, ap, ◌∙◌, subst, inl, inr, append_assoc}
use Rattle.std.proofs.lemmas.List.{reverse-append, reverse-reverse, map-append, append-nil, take_more, take_all}
use Rattle.std.proofs.lemmas.List.Elements.{filter-append}
use Rattle.attr_records.specs.Items.{Tree, is_dir}
use Rattle.attr_records.specs.Trees.{IsTree}
use Rattle.receipts.specs.declared.session.SessionName.{SessionName}
use Rattle.office_model.specs.declared.answer.NamedNode.{NamedNode}
use Rattle.office_model.specs.declared.event.Event.TheVariants as E
use Rattle.office_model.specs.declared.answer.Answer.TheVariants as A
use Rattle.office_model.specs.declared.refusal.Refusal.{Refusal}
use Rattle.office_model.specs.Step.{Call}
use Rattle.call_scripts.specs.Scripts.{Script, Begins}
use Rattle.call_scripts.specs.ScriptLaws.{AreAnswered-append}
use Rattle.folder_laws.specs.declared.known.Known.{Known}
use Rattle.folder_laws.specs.Compares.{root}
use Rattle.folder_laws.specs.Lists.{leaves, known_at, known_from, list_call, AreLists}
use Rattle.folder_laws.specs.DumpScript.{list_script}
use Rattle.folder_laws.specs.DumpScriptLaws.{begins_lists, AreLists-more}
use Rattle.folder_walk.specs.declared.refusals.DumpRefusal.{DumpRefusal}
use Rattle.folder_walk.specs.declared.refusals.DumpRefusal.TheVariants as D
use Rattle.folder_walk.specs.Causes.{refusal_of, IsListFault}
use Rattle.folder_walk.specs.Puts.{AnsweredOr}
use Rattle.folder_walk.specs.Bases.{IsFailedWith, IsFailedCall, known_here, gone_of, knowns_of, IsCompared, ListFails, ComparesOne, ListsSoFar, ListsDone, ListsStop}
use Rattle.folder_walk.specs.Events.{AreOfDump}
use Rattle.folder_walk.proofs.EventLaws.{AreOfDump-append}
use Rattle.folder_walk.proofs.WalkSteps.{list_unrefused, AnsweredOr-behind}

-- ---- the entries of one listing

abbrev pub gone_list : Tree → Option (List ℕ) → List (List ℕ × Bool) → List (List ℕ)
gone_list tree directory named = map (λ (n : List ℕ × Bool). n.0) (filter (leaves tree directory) named)

-- one entry more was looked at
pub gone_more : (tree : Tree) (directory : Option (List ℕ)) (named : List (List ℕ × Bool)) (i : ℕ) (entry : List ℕ × Bool) (front old new : List (List ℕ))
    → i < length named → entry ≡ get_or named i entry → old ≡ front ++ gone_list tree directory (take i named)
    → new ≡ old ++ cond (leaves tree directory entry) (entry.0 ∷ []) [] → new ≡ front ++ gone_list tree directory (take (i + 1) named)
gone_more tree directory named i entry front old new within at before made =
    made ∙ ap (λ xs. xs ++ cond (leaves tree directory entry) (entry.0 ∷ []) []) before
    ∙ append_assoc front (gone_list tree directory (take i named)) (cond (leaves tree directory entry) (entry.0 ∷ []) [])
    ∙ ap (λ xs. front ++ xs) (sym (ap (gone_list tree directory) taken
    ∙ ap (map (λ (n : List ℕ × Bool). n.0)) (filter-append (leaves tree directory) (take i named) (entry ∷ []))
    ∙ map-append (λ (n : List ℕ × Bool). n.0) (filter (leaves tree directory) (take i named)) (filter (leaves tree directory) (entry ∷ []))
    ∙ ap (λ xs. gone_list tree directory (take i named) ++ xs) (one (leaves tree directory entry))))
  where
    taken : take (i + 1) named ≡ take i named ++ entry ∷ []
    taken = take_more named i entry within ∙ ap (λ e. take i named ++ e ∷ []) (sym at)

    one : (b : Bool) → map (λ (n : List ℕ × Bool). n.0) (cond b (entry ∷ []) []) ≡ cond b (entry.0 ∷ []) []
    one true = refl
    one false = refl

-- all were looked at, in a directory that is there
pub gone_all : (tree : Tree) (directory : Option (List ℕ)) (there : Bool) (named : List (List ℕ × Bool)) (i : ℕ) (front new : List (List ℕ))
    → there ≡ true → length named ≤ i → new ≡ front ++ gone_list tree directory (take i named) → new ≡ front ++ gone_of tree directory there named
gone_all tree directory there named i front new is end made =
    made ∙ ap (λ xs. front ++ gone_list tree directory xs) (take_all i named end) ∙ ap (λ b. front ++ cond b (gone_list tree directory named) []) (sym is)

-- none leaves alone if its directory isn't there
pub gone_none : (tree : Tree) (directory : Option (List ℕ)) (there : Bool) (named : List (List ℕ × Bool)) (front : List (List ℕ))
    → there ≡ false → front ≡ front ++ gone_of tree directory there named
gone_none tree directory there named front is =
    sym (append-nil front) ∙ ap (λ b. front ++ cond b (gone_list tree directory named) []) (sym is)

-- one entry fewer is still to be looked at
pub known_more : (tree : Tree) (directory : Option (List ℕ)) (there : Bool) (front : List (List ℕ × Bool)) (entry : List ℕ × Bool)
    (pending pending' : List Known)
    → pending' ≡ pending ++ cond entry.1 (known_at tree (known_here directory there) entry ∷ []) []
    → pending ++ reverse (knowns_of tree directory there (front ++ entry ∷ [])) ≡ pending' ++ reverse (knowns_of tree directory there front)
known_more tree directory there front entry pending pending' pushed =
    ap (λ xs. pending ++ reverse xs) split ∙ ap (λ xs. pending ++ xs) (reverse-append (knowns_of tree directory there front) (last entry.1))
    ∙ sym (append_assoc pending (reverse (last entry.1)) (reverse (knowns_of tree directory there front)))
    ∙ ap (λ xs. (pending ++ xs) ++ reverse (knowns_of tree directory there front)) (turned entry.1)
    ∙ ap (λ xs. xs ++ reverse (knowns_of tree directory there front)) (sym pushed)
  where
    known : Known
    known = known_at tree (known_here directory there) entry

    last : Bool → List Known
    last b = cond b (known ∷ []) []

    turned : (b : Bool) → reverse (cond b (known ∷ []) []) ≡ cond b (known ∷ []) []
    turned true = refl
    turned false = refl

    one : (b : Bool) → map (known_at tree (known_here directory there)) (cond b (entry ∷ []) []) ≡ cond b (known ∷ []) []
    one true = refl
    one false = refl

    split : knowns_of tree directory there (front ++ entry ∷ []) ≡ knowns_of tree directory there front ++ cond entry.1 (known ∷ []) []
    split =
        ap (map (known_at tree (known_here directory there))) (filter-append (λ (n : List ℕ × Bool). n.1) front (entry ∷ []))
        ∙ map-append (known_at tree (known_here directory there)) (filter (λ (n : List ℕ × Bool). n.1) front) (filter (λ (n : List ℕ × Bool). n.1) (entry ∷ []))
        ∙ ap (λ xs. knowns_of tree directory there front ++ xs) (one entry.1)

-- ---- one directory

module _ {P : Type 0} (moves : P → List Call → P → Type 0) (old new : P) (told : Option Tree) (host : List ℕ) (number : ℕ) (known : Known)
    (pending : List Known) (gone : List (List ℕ)) (pending' : List Known) (gone' : List (List ℕ)) where
  -- it wasn't listed
  pub list_failed : (asked : Option (List ℕ)) (fault : DumpRefusal) → asked ≡ known.directory
      → IsFailedCall moves old new (E.List host number asked) fault
      → ComparesOne moves old new told host number known pending gone pending' gone' (Err fault)
  list_failed asked fault same failed =
      step (refusal_of fault) refl (subst (λ d. IsFailedCall moves old new (E.List host number d) fault) same failed)
    where
      step : (o : Option Refusal) → refusal_of fault ≡ o → IsFailedWith moves old new (E.List host number known.directory) o
          → ComparesOne moves old new told host number known pending gone pending' gone' (Err fault)
      step None is moved = record {
        calls = [];
        moved = moved;
        so = subst (λ (r : Option Refusal). AnsweredOr r []) (sym is) tt;
        ends = subst (λ (r : Option Refusal). ListFails host number known [] r) (sym is) (inl refl);
      }
      step (Some refusal) is moved = record {
        calls = (E.List host number known.directory, Err refusal) ∷ [];
        moved = moved;
        so = subst (λ (r : Option Refusal). AnsweredOr r ((E.List host number known.directory, Err refusal) ∷ [])) (sym is) (refl, refl);
        ends = subst (λ (r : Option Refusal). ListFails host number known ((E.List host number known.directory, Err refusal) ∷ []) r) (sym is) refl;
      }

  -- it was listed, and something else failed
  pub list_broken : (asked : Option (List ℕ)) (entries : List NamedNode) (fault : DumpRefusal) → asked ≡ known.directory
      → moves old ((E.List host number asked, Ok (A.Entries entries)) ∷ []) new
      → IsListFault told fault → ComparesOne moves old new told host number known pending gone pending' gone' (Err fault)
  list_broken asked entries fault same moved cause = record {
    calls = list_call host number known entries ∷ [];
    moved = subst (λ d. moves old ((E.List host number d, Ok (A.Entries entries)) ∷ []) new) same moved;
    so = subst (λ (r : Option Refusal). AnsweredOr r (list_call host number known entries ∷ [])) (sym (list_unrefused told fault cause)) tt;
    ends = subst (λ (r : Option Refusal). ListFails host number known (list_call host number known entries ∷ []) r)
        (sym (list_unrefused told fault cause)) (inr (entries, refl));
  }

  pub list_compared : (asked shown : Option (List ℕ)) (entries : List NamedNode) → asked ≡ known.directory → shown ≡ known.directory
      → moves old ((E.List host number asked, Ok (A.Entries entries)) ∷ []) new
      → ((tree : Tree) → told ≡ Some tree → IsTree is_dir tree → IsCompared tree (known_here shown known.there) entries pending gone pending' gone')
      → ComparesOne moves old new told host number known pending gone pending' gone' (Ok tt)
  list_compared asked shown entries same here moved compared = record {
    calls = list_call host number known entries ∷ [];
    moved = subst (λ d. moves old ((E.List host number d, Ok (A.Entries entries)) ∷ []) new) same moved;
    so = tt;
    ends = (
      entries,
      refl,
      λ tree is is_tree.
          subst (λ d. IsCompared tree (known_here d known.there) entries pending gone pending' gone') here (compared tree is is_tree),
    );
  }

-- ---- all directories

-- the calls of a listing that failed are of events that a dump calls
list_of_dump : (host : List ℕ) (number : ℕ) (known : Known) (calls : List Call) (o : Option Refusal) → ListFails host number known calls o
    → AreOfDump calls
list_of_dump host number known calls None (inl none) = subst AreOfDump (sym none) tt
list_of_dump host number known calls None (inr one) = subst AreOfDump (sym one.1) (tt, tt)
list_of_dump host number known calls (Some refusal) refused = subst AreOfDump (sym refused) (tt, tt)

-- the calls of a listing that failed begin the script of the directories that are pending
list_begins : (seen : Tree) (host : List ℕ) (number : ℕ) (dump : SessionName) (next : Script) (known : Known) (rest : List Known)
    (gone : List (List ℕ)) (calls : List Call) (o : Option Refusal) → ListFails host number known calls o
    → Begins (list_script seen host number dump next (known ∷ rest) gone) calls
list_begins seen host number dump next known rest gone calls None (inl none) =
    subst (λ cs. Begins (list_script seen host number dump next (known ∷ rest) gone) cs) (sym none) tt
list_begins seen host number dump next known rest gone calls None (inr one) =
    subst (λ cs. Begins (list_script seen host number dump next (known ∷ rest) gone) cs) (sym one.1) (refl, tt)
list_begins seen host number dump next known rest gone calls (Some refusal) refused =
    subst (λ cs. Begins (list_script seen host number dump next (known ∷ rest) gone) cs) (sym refused) (refl, tt)

module _ {P : Type 0} (moves : P → List Call → P → Type 0) (joined : (p q r : P) (xs ys : List Call) → moves p xs q → moves q ys r → moves p (xs ++ ys) r)
    (none : (p : P) → moves p [] p) (told : Option Tree) (host : List ℕ) (number : ℕ) where
  pub lists_begun : (port : P) (blank pending : List Known) (gone : List (List ℕ)) → blank ≡ [] → pending ≡ blank ++ root ∷ [] → gone ≡ []
      → ListsSoFar moves port port told host number pending gone
  lists_begun port blank pending gone bare pushed empty = record {
    calls = [];
    moved = none port;
    answered = tt;
    of_dump = tt;
    are = λ tree is is_tree. (sym (ap reverse (pushed ∙ ap (λ xs. xs ++ root ∷ []) bare)), sym empty);
  }

  -- the directory on top of the stack is the next
  next_first : (items front : List Known) (known : Known) → items ≡ front ++ known ∷ [] → reverse items ≡ known ∷ reverse front
  next_first items front known taken = ap reverse taken ∙ reverse-append front (known ∷ [])

  pub lists_next : (told' : Option Tree) (old mid new : P) (items front pending : List Known) (gone gone' : List (List ℕ)) (known : Known) → told' ≡ told
      → items ≡ front ++ known ∷ [] → ListsSoFar moves old mid told host number items gone
      → ComparesOne moves mid new told' host number known front gone pending gone' (Ok tt)
      → ListsSoFar moves old new told host number pending gone'
  lists_next told' old mid new items front pending gone gone' known same taken so_far one = record {
    calls = so_far.calls ++ one.calls;
    moved = joined old mid new so_far.calls one.calls so_far.moved one.moved;
    answered = AreAnswered-append so_far.calls one.calls so_far.answered one.so;
    of_dump = AreOfDump-append so_far.calls one.calls so_far.of_dump (subst AreOfDump (sym one.ends.1) (tt, tt));
    are = λ tree is is_tree.
        let entries : List NamedNode = one.ends.0 in
        let compared : IsCompared tree known entries front gone pending gone' = one.ends.2 tree (same ∙ is) is_tree in
        let before : AreLists tree host number (root ∷ []) [] so_far.calls (known ∷ reverse front) gone =
        subst (λ ks. AreLists tree host number (root ∷ []) [] so_far.calls ks gone) (next_first items front known taken) (so_far.are tree is is_tree) in
        let after = AreLists-more tree host number so_far.calls (root ∷ []) [] known (reverse front) gone entries before in
        let stack : reverse pending ≡ known_from tree known entries ++ reverse front =
        ap reverse compared.pending_is ∙ reverse-append front (reverse (known_from tree known entries))
        ∙ ap (λ xs. xs ++ reverse front) (reverse-reverse (known_from tree known entries)) in
        subst (λ cs. AreLists tree host number (root ∷ []) [] (so_far.calls ++ cs) (reverse pending) gone') (sym one.ends.1)
        (subst (λ ks. AreLists tree host number (root ∷ []) [] (so_far.calls ++ list_call host number known entries ∷ []) ks gone') (sym stack)
        (subst (λ paths. AreLists tree host number (root ∷ []) [] (so_far.calls ++ list_call host number known entries ∷ [])
        (known_from tree known entries ++ reverse front) paths) (sym compared.gone_is) after));
  }

  pub lists_done : (old new : P) (items front : List Known) (gone : List (List ℕ)) (len : ℕ) → len ≡ 0 → front ≡ take (len - 1) items → items ≡ front ++ []
      → ListsSoFar moves old new told host number items gone → ListsDone moves old new told host number gone
  lists_done old new items front gone len empty rest taken so_far =
      let bare : items ≡ [] = taken ∙ ap (λ xs. xs ++ []) (rest ∙ ap (λ n. take (n - 1) items) empty) in
      record {
        calls = so_far.calls;
        moved = so_far.moved;
        answered = so_far.answered;
        of_dump = so_far.of_dump;
        are = λ tree is is_tree. subst (λ ks. AreLists tree host number (root ∷ []) [] so_far.calls ks gone) (ap reverse bare) (so_far.are tree is is_tree);
      }

  pub lists_broken : (told' : Option Tree) (old mid new : P) (items front pending : List Known) (gone gone' : List (List ℕ)) (known : Known)
      (fault : DumpRefusal) → told' ≡ told → items ≡ front ++ known ∷ [] → ListsSoFar moves old mid told host number items gone
      → ComparesOne moves mid new told' host number known front gone pending gone' (Err fault)
      → ListsStop moves old new told host number fault
  lists_broken told' old mid new items front pending gone gone' known fault same taken so_far one = record {
    calls = so_far.calls ++ one.calls;
    moved = joined old mid new so_far.calls one.calls so_far.moved one.moved;
    so = AnsweredOr-behind (refusal_of fault) so_far.calls one.calls so_far.answered one.so;
    of_dump = AreOfDump-append so_far.calls one.calls so_far.of_dump (list_of_dump host number known one.calls (refusal_of fault) one.ends);
    begins = λ tree is is_tree dump next.
        begins_lists tree host number dump next so_far.calls (root ∷ []) [] (known ∷ reverse front) gone one.calls
        (subst (λ ks. AreLists tree host number (root ∷ []) [] so_far.calls ks gone) (next_first items front known taken) (so_far.are tree is is_tree))
        (list_begins tree host number dump next known (reverse front) gone one.calls (refusal_of fault) one.ends);
  }

  -- past the last turn
  pub lists_memory : (old new : P) (items : List Known) (gone : List (List ℕ)) → ListsSoFar moves old new told host number items gone
      → ListsStop moves old new told host number D.Memory
  lists_memory old new items gone so_far = record {
    calls = so_far.calls;
    moved = so_far.moved;
    so = so_far.answered;
    of_dump = so_far.of_dump;
    begins = λ tree is is_tree dump next.
        subst (λ cs. Begins (list_script tree host number dump next (root ∷ []) []) cs) (append-nil so_far.calls)
        (begins_lists tree host number dump next so_far.calls (root ∷ []) [] (reverse items) gone [] (so_far.are tree is is_tree) tt);
  }

  pub lists_nothing : (port : P) → ListsStop moves port port told host number D.Memory
  lists_nothing port = record { calls = []; moved = none port; so = tt; of_dump = tt; begins = λ tree is is_tree dump next. tt }
