-- What the stream's layout says of streams.
use Rattle.std.specs.Prelude.{◌≡◌, ℕ, ◌<◌, List, [], ◌++◌, length, Option, Some, None, Result, Ok, Err, IfOk, MatchResult}
use Rattle.std.proofs.Common.{refl, sym, ap, subst, ◌∙◌, append_assoc, length-append, arith}
use Rattle.std.proofs.lemmas.List.{append-nil}
use Rattle.wire_bytes.specs.Kind.{IsReadOneWay}
use Rattle.stream_traits.specs.Told.{before}
use Rattle.attr_records.specs.Items.{Tree}
use Rattle.restore_stream.specs.declared.faults.ReadStreamFault.{ReadStreamFault}
use Rattle.restore_stream.specs.declared.faults.ReadStreamFault.TheVariants as F
use Rattle.restore_stream.specs.Cuts.{Layout}
use Rattle.restore_stream.specs.Reading.{Reads, ReadsExactly, IsOther}
use Rattle.restore_stream.specs.Layouts.{stream_bytes}
use Rattle.restore_stream.specs.Streams.{stream_layout}
use Rattle.restore_stream.specs.Trees.{IsMadeTree}
use Rattle.restore_stream.proofs.PrintLaws.{stream_print}
use Rattle.restore_stream.proofs.FitLaws.{tree_fits}

module _ {X V : Type 0} (layout : Layout V) (view : X → V) where
  split : (bytes print : List ℕ) (new : Option (List ℕ)) → Some bytes ≡ before print new
      → (rest : List ℕ) × (new ≡ Some rest) × (bytes ≡ print ++ rest)
  split bytes print None e = absurd (let never : Some bytes ≡ None = e in cc)
  split bytes print (Some rest) e = (rest, refl, (let same : Some bytes ≡ Some (print ++ rest) = e in cc))

  exactly : (bytes : List ℕ) (new : Option (List ℕ)) (result : Result X ReadStreamFault) → Reads layout 0 view (Some bytes) result new
      → ReadsExactly layout view (Some bytes) result new
  exactly bytes new (Ok x) read =
      let s = split bytes (layout.print (view x)) new read.took in
      record {
        back = λ value rest fits e.
            let same : bytes ≡ layout.print value ++ rest = inside e in
            let h = layout.one_way (view x) value s.0 rest read.fits fits (sym s.2 ∙ same) in (h.0, s.1 ∙ ap Some h.1);
        broken = λ other offset e b.
            layout.not_broken (view x) s.0 offset read.fits (subst (λ (r : List ℕ). layout.Broken r offset) (sym (inside e) ∙ s.2) b);
        cut = λ other e c. layout.not_cut (view x) s.0 read.fits (subst layout.Cut (sym (inside e) ∙ s.2) c);
      }
    where
      inside : {a b : List ℕ} → Some a ≡ Some b → a ≡ b
      inside e = cc
  exactly bytes new (Err (F.BadStream offset)) read =
      let why = read.why.why in
      let here : offset ≡ read.why.behind = omega (arith, read.why.here) in
      record {
        back = λ value rest fits e. layout.not_broken value rest read.why.behind fits
            (subst (λ (r : List ℕ). layout.Broken r read.why.behind) (inside e) why);
        broken = λ other place e b. here
            ∙ layout.one_offset bytes read.why.behind place why (subst (λ (r : List ℕ). layout.Broken r place) (sym (inside e)) b);
        cut = λ other e c. layout.not_both bytes read.why.behind why (subst layout.Cut (sym (inside e)) c);
      }
    where
      inside : {a b : List ℕ} → Some a ≡ Some b → a ≡ b
      inside e = cc
  exactly bytes new (Err F.Ended) read =
      record {
        back = λ value rest fits e. layout.not_cut value rest fits (subst layout.Cut (inside e) read.why);
        broken = λ other place e b. layout.not_both bytes place (subst (λ (r : List ℕ). layout.Broken r place) (sym (inside e)) b) read.why;
        cut = λ other e c. tt;
      }
    where
      inside : {a b : List ℕ} → Some a ≡ Some b → a ≡ b
      inside e = cc
  exactly bytes new (Err F.ReadFault) read = record { back = λ value rest fits e. tt; broken = λ other place e b. tt; cut = λ other e c. tt }
  exactly bytes new (Err F.Memory) read = record { back = λ value rest fits e. tt; broken = λ other place e b. tt; cut = λ other e c. tt }

  pub read_exactly_from : (old new : Option (List ℕ)) (result : Result X ReadStreamFault) → Reads layout 0 view old result new
      → ReadsExactly layout view old result new
  read_exactly_from None new result read = record {
    back = λ value rest fits e. absurd cc;
    broken = λ bytes offset e b. absurd cc;
    cut = λ bytes e c. absurd cc;
  }
  read_exactly_from (Some bytes) new result read = exactly bytes new result read

-- ---- streams

pub streams_one_way : IsReadOneWay stream_layout.Fits stream_bytes
streams_one_way = λ a b x y fits_a fits_b e.
    stream_layout.one_way a b x y fits_a fits_b
    (ap (λ bytes. bytes ++ x) (stream_print a) ∙ e ∙ ap (λ bytes. bytes ++ y) (sym (stream_print b)))

-- what was read is the tree whose stream it was
pub tree_read : (old new : Option (List ℕ)) (result : Result Tree ReadStreamFault) → Reads stream_layout 0 (λ tree. tree) old result new
    → IfOk result IsMadeTree → IfOk result (λ tree. IsMadeTree tree × (old ≡ before (stream_bytes tree) new))
tree_read old new (Ok tree) read is = (is, read.took ∙ ap (λ bytes. before bytes new) (stream_print tree))
tree_read old new (Err fault) read is = tt

-- the stream of a tree is read as the tree
pub tree_back : (old new : Option (List ℕ)) (result : Result Tree ReadStreamFault) → Reads stream_layout 0 (λ tree. tree) old result new
    → (tree : Tree) (rest : List ℕ) → IsMadeTree tree → old ≡ Some (stream_bytes tree ++ rest)
    → MatchResult result (λ read. (read ≡ tree) × (new ≡ Some rest)) IsOther
tree_back old new result read = λ tree rest is e.
    (read_exactly_from stream_layout (λ t. t) old new result read).back tree rest (tree_fits tree is)
    (e ∙ ap (λ bytes. Some (bytes ++ rest)) (sym (stream_print tree)))

-- a stream that ends before its end is none
pub no_cut_stream : (tree other : Tree) (front back rest : List ℕ) → stream_layout.Fits tree → stream_layout.Fits other → 0 < length back
    → stream_bytes tree ≡ front ++ back → front ≡ stream_bytes other ++ rest → ⊥
no_cut_stream tree other front back rest fits_a fits_b some parts is =
    let whole : stream_bytes tree ++ [] ≡ stream_bytes other ++ (rest ++ back) =
    append-nil (stream_bytes tree) ∙ parts ∙ ap (λ bytes. bytes ++ back) is ∙ append_assoc (stream_bytes other) rest back in
    let none = (streams_one_way tree other [] (rest ++ back) fits_a fits_b whole).1 in
    let n = length-append rest back in
    let m : 0 ≡ length (rest ++ back) = ap length none in
    omega (arith, n, m, some)
