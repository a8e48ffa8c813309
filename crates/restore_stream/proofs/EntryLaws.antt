-- Fields one behind the other are the parts of entries and pieces.
use Rattle.std.specs.Prelude.{⊤, ◌≡◌, ℕ, ◌+◌, ◌≤◌, ◌==◌, ℤ, Bool, true, false, List, length, Option, Some, ◌⊎◌}
use Rattle.std.proofs.Common.{refl, sym, ap, subst, ◌∙◌, inl, inr, arith}
use borrow.Author.Tests.{eqb-true}
use Rattle.std.proofs.lemmas.Bool.Decides.{nat_tests}
use Rattle.attr_records.specs.Attributes.{Attributes}
use Rattle.attr_records.specs.Items.{Tree}
use Rattle.restore_stream.specs.declared.faults.ReadStreamFault.{ReadStreamFault}
use Rattle.tree_frames.specs.declared.nodes.Node.{Node}
use Rattle.tree_frames.specs.declared.nodes.Node.TheVariants as N
use Rattle.restore_stream.specs.Cuts.{Layout, chosen, seen_as}
use Rattle.restore_stream.specs.Layouts.{kind_of}
use Rattle.restore_stream.specs.Reading.{Finds, Refuses}
use Rattle.restore_stream.specs.Streams.{u8_field, u32_field, u64_field, i64_field, text_field16, bytes_field_of, attr_layout, file_layout, dir_layout, link_layout, node_layout, entry_of, piece_layout, file_made, dir_made, link_made, IsKind, IsTarget}
use Rattle.restore_stream.proofs.ReadingLaws.{limited_refuses, limited_fits, first_refuses, then_refuses, then_finds, seen_refuses, seen_finds}

pub same_start : (start : ℕ) → start ≡ start + 0
same_start start = omega arith

module _ (start : ℕ) (fault : ReadStreamFault) where
  pub mode_refuses : {old : Option (List ℕ)} → Refuses (u32_field (λ mode. mode ≤ 4095)) start old fault
      → Refuses attr_layout start old fault
  unfolding attr_layout
  mode_refuses r = seen_refuses _ _ _ (first_refuses _ _ r)

  pub uid_refuses : {old a : Option (List ℕ)} {mode : ℕ} → Finds (u32_field (λ mode. mode ≤ 4095)) old mode a
      → Refuses (u32_field (λ _. ⊤)) 0 a fault → Refuses attr_layout start old fault
  unfolding attr_layout
  uid_refuses m r = seen_refuses _ _ _ (then_refuses _ _ m (same_start start) (first_refuses _ _ (limited_refuses _ _ _ _ r)))

  pub gid_refuses : {old a b : Option (List ℕ)} {mode uid : ℕ} → Finds (u32_field (λ mode. mode ≤ 4095)) old mode a
      → Finds (u32_field (λ _. ⊤)) a uid b
      → Refuses (u32_field (λ _. ⊤)) 0 b fault → Refuses attr_layout start old fault
  unfolding attr_layout
  gid_refuses m u r = seen_refuses _ _ _
      (then_refuses _ _ m (same_start start) (then_refuses _ _ u (same_start start) (first_refuses _ _ (limited_refuses _ _ _ _ r))))

  pub mtime_refuses : {old a b c : Option (List ℕ)} {mode uid gid : ℕ} → Finds (u32_field (λ mode. mode ≤ 4095)) old mode a
      → Finds (u32_field (λ _. ⊤)) a uid b → Finds (u32_field (λ _. ⊤)) b gid c
      → Refuses (i64_field (λ _. ⊤)) 0 c fault → Refuses attr_layout start old fault
  unfolding attr_layout
  mtime_refuses m u g r = seen_refuses _ _ _ (then_refuses _ _ m (same_start start) (then_refuses _ _ u (same_start start)
      (then_refuses _ _ g (same_start start) (first_refuses _ _ (limited_refuses _ _ _ _ r)))))

  pub nanos_refuses : {old a b c d : Option (List ℕ)} {mode uid gid : ℕ} {mtime : ℤ} → Finds (u32_field (λ mode. mode ≤ 4095)) old mode a
      → Finds (u32_field (λ _. ⊤)) a uid b → Finds (u32_field (λ _. ⊤)) b gid c
      → Finds (i64_field (λ _. ⊤)) c mtime d → Refuses (u32_field (λ nanos. nanos ≤ 999999999)) start d fault
      → Refuses attr_layout start old fault
  unfolding attr_layout
  nanos_refuses m u g t r = seen_refuses _ _ _ (then_refuses _ _ m (same_start start) (then_refuses _ _ u (same_start start)
      (then_refuses _ _ g (same_start start) (then_refuses _ _ t (same_start start) r))))

pub attr_came : {old a b c d new : Option (List ℕ)} {mode uid gid nanos : ℕ} {mtime : ℤ} (attr : Attributes)
    → attr ≡ record { mode = mode; uid = uid; gid = gid; mtime = mtime; nanos = nanos }
    → Finds (u32_field (λ mode. mode ≤ 4095)) old mode a → Finds (u32_field (λ _. ⊤)) a uid b → Finds (u32_field (λ _. ⊤)) b gid c
    → Finds (i64_field (λ _. ⊤)) c mtime d → Finds (u32_field (λ nanos. nanos ≤ 999999999)) d nanos new → Finds attr_layout old attr new
unfolding attr_layout
attr_came attr is m u g t n =
    seen_finds _ _ _ attr (ap (λ w. Some (w.mode, (w.uid, (w.gid, (w.mtime, w.nanos))))) is)
    (then_finds _ _ m (then_finds _ _ u (then_finds _ _ g (then_finds _ _ t n))))

pub kind_within : (kind : ℕ) → (kind ≡ 0 → ⊥) → kind ≤ 3 → IsKind kind
kind_within kind some few = (grind arith, few)

pub eqb_no : (m n : ℕ) → (m ≡ n → ⊥) → (m == n) ≡ false
eqb_no m n h = grind (arith, nat_tests)

-- ---- nodes

module _ (start : ℕ) (fault : ReadStreamFault) where
  pub file_attr_refuses : {old : Option (List ℕ)} → Refuses attr_layout start old fault → Refuses file_layout start old fault
  file_attr_refuses r = seen_refuses _ _ _ (first_refuses _ _ r)

  pub group_refuses : {old a : Option (List ℕ)} {attr : Attributes} → Finds attr_layout old attr a
      → Refuses (u32_field (λ _. ⊤)) 0 a fault → Refuses file_layout start old fault
  group_refuses f r = seen_refuses _ _ _ (then_refuses _ _ f (same_start start) (first_refuses _ _ (limited_refuses _ _ _ _ r)))

  pub size_refuses : {old a b : Option (List ℕ)} {attr : Attributes} {group : ℕ} → Finds attr_layout old attr a
      → Finds (u32_field (λ _. ⊤)) a group b → Refuses (u64_field (λ _. ⊤)) 0 b fault
      → Refuses file_layout start old fault
  size_refuses f g r =
      seen_refuses _ _ _ (then_refuses _ _ f (same_start start) (then_refuses _ _ g (same_start start) (limited_refuses _ _ _ _ r)))

  pub dir_refuses : {old : Option (List ℕ)} → Refuses attr_layout start old fault → Refuses dir_layout start old fault
  dir_refuses r = seen_refuses _ _ _ r

  pub link_attr_refuses : {old : Option (List ℕ)} → Refuses attr_layout start old fault → Refuses link_layout start old fault
  link_attr_refuses r = seen_refuses _ _ _ (first_refuses _ _ r)

  pub target_refuses : {old a : Option (List ℕ)} {attr : Attributes} → Finds attr_layout old attr a
      → Refuses (text_field16 IsTarget) start a fault → Refuses link_layout start old fault
  target_refuses f r = seen_refuses _ _ _ (then_refuses _ _ f (same_start start) r)

pub file_came : {old a b new : Option (List ℕ)} {attr : Attributes} {group size : ℕ} → Finds attr_layout old attr a
    → Finds (u32_field (λ _. ⊤)) a group b → Finds (u64_field (λ _. ⊤)) b size new
    → Finds file_layout old (file_made (attr, (group, size))) new
file_came f g s = seen_finds _ _ _ _ refl (then_finds _ _ f (then_finds _ _ g s))

pub dir_came : {old new : Option (List ℕ)} {attr : Attributes} → Finds attr_layout old attr new → Finds dir_layout old (dir_made attr) new
dir_came f = seen_finds _ _ _ _ refl f

pub link_came : {old a new : Option (List ℕ)} {attr : Attributes} {target : List ℕ} → Finds attr_layout old attr a
    → Finds (text_field16 IsTarget) a target new → Finds link_layout old (link_made (attr, target)) new
link_came f t = seen_finds _ _ _ _ refl (then_finds _ _ f t)

-- the layout of each kind
pub node_is_file : (kind : ℕ) → kind ≡ 1 → node_layout kind ≡ file_layout
unfolding node_layout
node_is_file kind e = ap (λ k. chosen (k == 1) file_layout (chosen (k == 2) dir_layout link_layout)) e

pub node_is_dir : (kind : ℕ) → kind ≡ 2 → node_layout kind ≡ dir_layout
unfolding node_layout
node_is_dir kind e = ap (λ k. chosen (k == 1) file_layout (chosen (k == 2) dir_layout link_layout)) e

pub node_is_link : (kind : ℕ) → (kind == 1) ≡ false → (kind == 2) ≡ false → node_layout kind ≡ link_layout
unfolding node_layout
node_is_link kind e f =
    ap (λ b. chosen b file_layout (chosen (kind == 2) dir_layout link_layout)) e ∙ ap (λ b. chosen b dir_layout link_layout) f

-- ---- entries

module _ (start : ℕ) (fault : ReadStreamFault) (P : List ℕ → Type 0) where
  pub kind_refuses : {old : Option (List ℕ)} → Refuses (u8_field IsKind) start old fault → Refuses (entry_of P) start old fault
  unfolding entry_of
  kind_refuses r = seen_refuses _ _ _ (first_refuses _ _ r)

  pub path_refuses : {old a : Option (List ℕ)} {kind : ℕ} → Finds (u8_field IsKind) old kind a
      → Refuses (text_field16 P) start a fault
      → Refuses (entry_of P) start old fault
  unfolding entry_of
  path_refuses k r = seen_refuses _ _ _ (then_refuses _ _ k (same_start start) (first_refuses _ _ r))

  pub node_refuses : {old a b : Option (List ℕ)} {kind : ℕ} {path : List ℕ} → Finds (u8_field IsKind) old kind a
      → Finds (text_field16 P) a path b → Refuses (node_layout kind) start b fault
      → Refuses (entry_of P) start old fault
  unfolding entry_of
  node_refuses k p r = seen_refuses _ _ _ (then_refuses _ _ k (same_start start) (then_refuses _ _ p (same_start start) r))

-- ---- pieces

module _ (start : ℕ) (fault : ReadStreamFault) (count : ℕ) where
  pub tag_refuses : {old : Option (List ℕ)} → Refuses (u8_field (λ tag. tag ≡ 68)) start old fault
      → Refuses (piece_layout count) start old fault
  unfolding piece_layout
  tag_refuses r = seen_refuses _ _ _ (first_refuses _ _ r)

  pub count_refuses : {old a : Option (List ℕ)} {tag : ℕ} → Finds (u8_field (λ tag. tag ≡ 68)) old tag a
      → Refuses (u32_field (λ n. n ≡ count)) start a fault
      → Refuses (piece_layout count) start old fault
  unfolding piece_layout
  count_refuses t r = seen_refuses _ _ _ (then_refuses _ _ t (same_start start) (first_refuses _ _ r))

  pub piece_refuses : {old a b : Option (List ℕ)} {tag n : ℕ} → n ≡ count → Finds (u8_field (λ tag. tag ≡ 68)) old tag a
      → Finds (u32_field (λ n. n ≡ count)) a n b
      → Refuses (bytes_field_of count (λ _. ⊤)) 0 b fault → Refuses (piece_layout count) start old fault
  unfolding piece_layout
  piece_refuses {b = b} {n = n} is t c r =
      let r' : Refuses (bytes_field_of n (λ _. ⊤)) start b fault =
      limited_refuses _ _ _ _ (subst (λ (m : ℕ). Refuses (bytes_field_of m (λ _. ⊤)) 0 b fault) (sym is) r) in
      seen_refuses _ _ _ (then_refuses _ _ t (same_start start) (then_refuses _ _ c (same_start start) r'))

-- a piece that came
pub piece_came : {old a b new : Option (List ℕ)} {tag n : ℕ} {bytes : List ℕ} (count : ℕ) → n ≡ count
    → Finds (u8_field (λ tag. tag ≡ 68)) old tag a
    → Finds (u32_field (λ n. n ≡ count)) a n b → Finds (bytes_field_of count (λ _. ⊤)) b bytes new
    → Finds (piece_layout count) old bytes new
unfolding piece_layout
piece_came {old} {a} {b} {new} {tag} {n} {bytes} count is t c f =
    let is_tag : tag ≡ 68 = (limited_fits _ _ _ _ t).1 in
    let len : length bytes ≡ count = (limited_fits _ _ _ _ f).0 in
    let f' : Finds (bytes_field_of n (λ _. ⊤)) b bytes new = subst (λ (m : ℕ). Finds (bytes_field_of m (λ _. ⊤)) b bytes new) (sym is) f in
    seen_finds _ _ _ bytes (λ i. Some (sym is_tag i, ((len ∙ sym is) i, bytes))) (then_finds _ _ t (then_finds _ _ c f'))

file_kind : (n : Node) → file_layout.Fits n → kind_of n ≡ 1
unfolding seen_as
file_kind (N.File file) h = refl
file_kind (N.Dir dir) h = absurd h
file_kind (N.Link link) h = absurd h

dir_kind : (n : Node) → dir_layout.Fits n → kind_of n ≡ 2
unfolding seen_as
dir_kind (N.File file) h = absurd h
dir_kind (N.Dir dir) h = refl
dir_kind (N.Link link) h = absurd h

link_kind : (n : Node) → link_layout.Fits n → kind_of n ≡ 3
unfolding seen_as
link_kind (N.File file) h = absurd h
link_kind (N.Dir dir) h = absurd h
link_kind (N.Link link) h = refl

-- an entry that came: its kind is that of the node
pub entry_came : {old a b new : Option (List ℕ)} {kind : ℕ} {path : List ℕ} {node : Node} (P : List ℕ → Type 0) → Finds (u8_field IsKind) old kind a
    → Finds (text_field16 P) a path b → Finds (node_layout kind) b node new → Finds (entry_of P) old (path, node) new
unfolding entry_of
entry_came {old} {a} {b} {new} {kind} {path} {node} P k p f =
    let is : kind_of node ≡ kind = kind_is kind node (limited_fits _ _ _ _ k).1 f.fits in
    seen_finds _ _ _ (path, node) (λ i. Some (is i, (path, node))) (then_finds _ _ k (then_finds _ _ p f))
  where
    kind_is : (k : ℕ) (n : Node) → IsKind k → (node_layout k).Fits n → kind_of n ≡ k
    kind_is k n within fits = step (k == 1) refl (k == 2) refl
      where
        step : (b : Bool) → (k == 1) ≡ b → (c : Bool) → (k == 2) ≡ c → kind_of n ≡ k
        step true e c f =
            let one : k ≡ 1 = eqb-true k 1 e in
            file_kind n (subst (λ (l : Layout Node). l.Fits n) (node_is_file k one) fits) ∙ sym one
        step false e true f =
            let two : k ≡ 2 = eqb-true k 2 f in
            dir_kind n (subst (λ (l : Layout Node). l.Fits n) (node_is_dir k two) fits) ∙ sym two
        step false e false f =
            let three : k ≡ 3 = grind (arith, nat_tests) in
            link_kind n (subst (λ (l : Layout Node). l.Fits n) (node_is_link k e f) fits) ∙ sym three

pub no_tag : (tag : ℕ) → (tag ≡ 69 → ⊥) → (tag ≡ 90 → ⊥) → (tag ≡ 69) ⊎ (tag ≡ 90) → ⊥
no_tag tag a b (inl e) = a e
no_tag tag a b (inr e) = b e
