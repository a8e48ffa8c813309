-- What reading the bytes of a file says of the counts that it holds.
--     read_ok, read_bad      whoever reads counts finds those of the file;  bytes outside the layout are of none
--     no_file      an absent file holds none
--     says_none      a refusal with what was found of a file that holds none
use Rattle.std.specs.Prelude.{◌≡◌, ℕ, List, Option, Some, None, Result, Ok, Err}
use Rattle.std.proofs.Common.{sym, ap, ◌∙◌, subst}
use Rattle.wire_bytes.specs.Grammar.{seen_as}
use Rattle.wire_bytes.specs.GrammarReading.{ReadsSealed}
use Rattle.disk_trait.specs.declared.ids.FileId.{FileId}
use Rattle.disk_trait.specs.declared.ids.FileId.TheVariants.{Counts as CountsFile}
use Rattle.ref_counts.specs.Numbers.{Items}
use Rattle.ref_counts.specs.declared.fault.CountsFault.{CountsFault}
use Rattle.ref_counts.specs.declared.fault.CountsFault.TheVariants.{BadIndex}
use Rattle.ref_counts.specs.Faults.{offset_of}
use Rattle.ref_counts.specs.Layout.{IsCounts}
use Rattle.ref_counts.specs.CountsFile.{counts_grammar, counts_file}
use Rattle.host_counts.specs.declared.fault.HostCountsFault.{HostCountsFault}
use Rattle.host_counts.specs.declared.fault.HostCountsFault.TheVariants.{Foreign}
use Rattle.host_counts.specs.Held.{HasCounts, TellsCounts, HasNone, SaysNone}

fits_grammar : (host : ℕ) (items : Items) → IsCounts items → (counts_grammar host).Fits items
unfolding counts_grammar seen_as
fits_grammar host items are = are

grammar_fits : (host : ℕ) (items : Items) → (counts_grammar host).Fits items → IsCounts items
unfolding counts_grammar seen_as
grammar_fits host items are = are

some_same : {A : Type 0} (x y : A) → Some x ≡ Some y → x ≡ y
some_same x y e = cc

some_none : (n : ℕ) → Some n ≡ None → ⊥
some_none n e = absurd cc

-- whoever reads them finds them
pub read_ok : {E : Type 0} (offset : E → Option ℕ) (host : ℕ) (read bytes : List ℕ) (counts : Items) → read ≡ bytes
    → ReadsSealed offset (λ counts. counts) (counts_grammar host) read (Ok counts) → TellsCounts host counts (Some bytes)
read_ok offset host read bytes counts same reads = record {
  has = record {
    fits = grammar_fits host counts reads.found.0;
    is = ap (λ (b : List ℕ). Some b) (sym same ∙ reads.found.1);
  };
  only = λ others has.
      reads.back others (fits_grammar host others has.fits) (same ∙ some_same bytes (counts_file host others) has.is);
}

-- bytes outside the layout are of no counts
pub read_bad : (host : ℕ) (read bytes : List ℕ) (fault : CountsFault) (offset : ℕ) → read ≡ bytes → fault ≡ BadIndex offset
    → ReadsSealed offset_of (λ counts. counts) (counts_grammar host) read (Err fault) → HasNone host (Some bytes)
read_bad host read bytes fault offset same is reads = λ items has.
    some_none offset (ap offset_of (sym is)
    ∙ reads.back items (fits_grammar host items has.fits) (same ∙ some_same bytes (counts_file host items) has.is))

pub no_file : (host : ℕ) → HasNone host None
no_file host = λ items has. let e = has.is in absurd cc

same_file : (a b : FileId) (f g : Option (List ℕ)) → Foreign a f ≡ Foreign b g → a ≡ b
same_file a b f g e = cc

same_found : (a b : FileId) (f g : Option (List ℕ)) → Foreign a f ≡ Foreign b g → f ≡ g
same_found a b f g e = cc

pub says_none : (host : ℕ) (was : Option (List ℕ)) → HasNone host was → SaysNone host was (Foreign (CountsFile host) was)
says_none host was none = λ file found e.
    let f = same_found (CountsFile host) file was found e in
    (sym (same_file (CountsFile host) file was found e), sym f, subst (HasNone host) f none)
