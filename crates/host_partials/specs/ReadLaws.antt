-- What reading the bytes of a file says of the partial that it holds.
--     read_ok, read_bad      a partial that was read is that of the file;  bytes outside the layout are of none
--     says_none      a refusal with what was found of a file that holds none
--     tells_head      what is known of the partial that a file holds
use Rattle.std.specs.Prelude.{◌≡◌, ℕ, List, Option, Some, None, Ok, Err}
use Rattle.std.specs.Option.{option_map}
use Rattle.std.proofs.Common.{sym, ap, ◌∙◌, subst}
use Rattle.wire_bytes.specs.Grammar.{seen_as}
use Rattle.wire_bytes.specs.GrammarReading.{ReadsSealed}
use Rattle.disk_trait.specs.declared.ids.FileId.{FileId}
use Rattle.disk_trait.specs.declared.ids.FileId.TheVariants.{Partial as PartialOf}
use Rattle.partial_files.specs.declared.partial.PartialFile.{PartialFile}
use Rattle.partial_files.specs.declared.fault.PartialFault.{PartialFault}
use Rattle.partial_files.specs.declared.fault.PartialFault.TheVariants.{BadPartial}
use Rattle.partial_files.specs.Faults.{offset_of}
use Rattle.partial_files.specs.Layout.{IsPartial}
use Rattle.partial_files.specs.Partials.{partial_grammar, partial_fits}
use Rattle.host_partials.specs.declared.held.PartialHead.{PartialHead}
use Rattle.host_partials.specs.declared.fault.HostPartialsFault.TheVariants.{Foreign}
use Rattle.host_partials.specs.Held.{HasPartial, HasNone, SaysNone, TellsHead, head_of_file}

fits_grammar : (host : ℕ) (file : PartialFile) → IsPartial file → (partial_grammar host).Fits file
unfolding partial_grammar seen_as
fits_grammar host file is = is

some_none : (n : ℕ) → Some n ≡ None → ⊥
some_none n e = absurd cc

-- the partial that was read is the file's
pub read_ok : {E : Type 0} (offset : E → Option ℕ) (host : ℕ) (read bytes : List ℕ) (file : PartialFile) → read ≡ bytes
    → ReadsSealed offset (λ file. file) (partial_grammar host) read (Ok file) → HasPartial host (Some file) (Some bytes)
read_ok offset host read bytes file same reads =
    (partial_fits host file reads.found.0, ap (λ (b : List ℕ). Some b) (sym same ∙ reads.found.1))

-- bytes outside the layout are of no partial
pub read_bad : (host : ℕ) (read bytes : List ℕ) (fault : PartialFault) (offset : ℕ) → read ≡ bytes → fault ≡ BadPartial offset
    → ReadsSealed offset_of (λ file. file) (partial_grammar host) read (Err fault) → HasNone host bytes
read_bad host read bytes fault offset same is reads = λ file fits e.
    some_none offset (ap offset_of (sym is) ∙ reads.back file (fits_grammar host file fits) (same ∙ e))

same_file : (a b : FileId) (f g : List ℕ) → Foreign a f ≡ Foreign b g → a ≡ b
same_file a b f g e = cc

same_found : (a b : FileId) (f g : List ℕ) → Foreign a f ≡ Foreign b g → f ≡ g
same_found a b f g e = cc

pub says_none : (host : ℕ) (was : List ℕ) → HasNone host was → SaysNone host (Some was) (Foreign (PartialOf host) was)
says_none host was none = λ file found e.
    let f = same_found (PartialOf host) file was found e in
    (sym (same_file (PartialOf host) file was found e), ap (λ (b : List ℕ). Some b) (sym f), subst (HasNone host) f none)

pub tells_head : (host : ℕ) (head : Option PartialHead) (partial : Option PartialFile) (found : Option (List ℕ))
    → HasPartial host partial found → head ≡ option_map head_of_file partial → TellsHead host head found
tells_head host head partial found has is = record { partial = partial; has = has; is = is }
