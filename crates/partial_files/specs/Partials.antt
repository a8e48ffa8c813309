-- The file of a host's partial dump.
--     partial_grammar, partial_file      `RPD1`, the host's number, the kind, the start, the number of rows, the rows
use Rattle.std.specs.Prelude.{ℕ, List}
use Rattle.wire_bytes.specs.Seal.{sealed}
use Rattle.wire_bytes.specs.Grammar.{Grammar, seen_as}
use Rattle.partial_files.specs.declared.partial.PartialFile.{PartialFile}
use Rattle.partial_files.specs.Layout.{IsPartial}
use Rattle.partial_files.specs.LayoutLaws.{parts_grammar, parts_of, made_of, partial_sees}

-- the body of the file of a host's partial dump
unfoldable pub partial_grammar : ℕ → Grammar PartialFile
partial_grammar host = seen_as (parts_grammar host) IsPartial parts_of made_of (partial_sees host)

-- the file
abbrev pub partial_file : ℕ → PartialFile → List ℕ
partial_file host file = sealed ((partial_grammar host).print file)

-- what the grammar takes has a file
pub partial_fits : (host : ℕ) (file : PartialFile) → (partial_grammar host).Fits file → IsPartial file
unfolding partial_grammar seen_as
partial_fits host file fits = fits
