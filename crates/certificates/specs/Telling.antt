-- What the parts of bytes that a reader gives tell of what was read.
use Rattle.std.specs.Prelude.{◌≡◌, ℕ, List, length, map, Result, MatchResult, IfOk, IfErr}
use Rattle.wire_bytes.specs.declared.fault.FieldFault.{FieldFault}
use Rattle.wire_bytes.specs.Reading.{Reading}
use Rattle.wire_bytes.specs.Breaks.{items_bytes}
use Rattle.wire_bytes.specs.Grammar.{Grammar}
use Rattle.wire_bytes.specs.GrammarReading.{Finds, Refuses, FileBreaks, fault_offset}
use Rattle.wire_bytes.specs.Seal.{sealed}
use Rattle.certificates.specs.declared.bytes.Run.{Run}
use Rattle.certificates.specs.declared.bytes.TableBytes.{TableBytes}
use Rattle.certificates.specs.declared.bytes.HostBytes.{HostBytes}
use Rattle.certificates.specs.declared.bytes.CertificateBytes.{CertificateBytes}
use Rattle.certificates.specs.Certificate.{Table, HostPart, Certificate}
use Rattle.certificates.specs.Layout.{table_grammar, host_grammar, item_bytes, file_bytes, certificate_grammar}

-- a value was read, and what is given tells it
pub record FindsTelling {X V : Type 0} (Tells : V → X → Type 0) (grammar : Grammar V) (old : Reading) (x : X) (new : Reading) : Type 0 where
  pub value : V
  pub tells : Tells value x
  pub finds : Finds grammar old value new

-- what a call returned that reads a value by a grammar
abbrev pub ReadsTelling : {X V : Type 0} → (V → X → Type 0) → Grammar V → Reading → Result X FieldFault → Reading → Type 0
ReadsTelling Tells grammar old result new = MatchResult result (λ x. FindsTelling Tells grammar old x new)
    (λ fault. Refuses fault_offset grammar old fault)

-- things of a list, one behind the other
pub record AreIn {V : Type 0} (print : V → List ℕ) (xs : List V) (run : Run) : Type 0 where
  pub count : run.count ≡ length xs
  pub bytes : run.bytes.now ≡ items_bytes print xs

pub record IsTable (table : Table) (x : TableBytes) : Type 0 where
  pub number : x.number ≡ table.number
  pub ids : x.ids.now ≡ table.ids

pub record IsHost (host : HostPart) (x : HostBytes) : Type 0 where
  pub name : x.name.now ≡ host.name
  pub tables : AreIn table_grammar.print host.tables x.tables
  pub partial : x.partial.now ≡ host.partial
  pub items : x.items.now ≡ map item_bytes host.items

pub record IsCertificate (c : Certificate) (x : CertificateBytes) : Type 0 where
  pub hosts : AreIn host_grammar.print c.hosts x.hosts
  pub pool : x.pool.now ≡ map file_bytes c.pool

-- a file whose bytes are those of a certificate that fits, and of no other
pub record IsFileOf {X : Type 0} (Tells : Certificate → X → Type 0) (grammar : Grammar Certificate) (file : List ℕ) (x : X) : Type 0 where
  pub certificate : Certificate
  pub tells : Tells certificate x
  pub fits : grammar.Fits certificate
  pub is : file ≡ sealed (grammar.print certificate)
  pub only : (other : Certificate) → grammar.Fits other → file ≡ sealed (grammar.print other) → certificate ≡ other

-- bytes that are no certificate's, and where they break
pub record IsNoFile (grammar : Grammar Certificate) (file : List ℕ) (offset : ℕ) : Type 0 where
  pub breaks : FileBreaks grammar file offset
  pub none : (certificate : Certificate) → grammar.Fits certificate → file ≡ sealed (grammar.print certificate) → ⊥

-- what bytes are read as
pub record IsRead (file : List ℕ) (result : Result CertificateBytes ℕ) : Type 0 where
  pub ok : IfOk result (IsFileOf IsCertificate certificate_grammar file)
  pub err : IfErr result (IsNoFile certificate_grammar file)
