-- What is written is the layout.
--     each_put_is      things of a list, each of which leaves its print behind a buffer, leave their bytes
--     certificate_put_is, written_is      what is written of a certificate
--     read_back      what is read of a certificate's bytes
use Rattle.std.specs.Prelude.{◌≡◌, ℕ, List, [], ◌∷◌, ◌++◌, length, Result, IsOkAnd}
use Rattle.std.specs.declared.result.Result.TheVariants.{Ok, Err}
use Rattle.std.specs.Int.{w8, w32, w64}
use Rattle.std.proofs.Common.{refl, sym, ap, subst, ◌∙◌, append_assoc, append-nil}
use Rattle.wire_bytes.specs.Layout.{number_bytes, text_bytes}
use Rattle.wire_bytes.specs.Seal.{sealed}
use Rattle.wire_bytes.specs.Breaks.{items_bytes}
use Rattle.certificates.specs.Certificate.{Table, HostPart, Certificate}
use Rattle.certificates.specs.Layout.{certificate_magic, ids_bytes, table_grammar, item_bytes, host_grammar, file_bytes, certificate_grammar, certificate_file}
use Rattle.certificates.specs.PrintLaws.{table_print, host_print, certificate_print}
use Rattle.certificates.specs.Telling.{IsCertificate, IsRead}
use Rattle.certificates.specs.declared.bytes.CertificateBytes.{CertificateBytes}
use Rattle.certificates.specs.Written.{each_put, head_put, count_put, table_put, item_put, file_put, tables_put, host_put, certificate_put, written}

pub each_put_is : {A : Type 0} (put : List ℕ → A → List ℕ) (print : A → List ℕ) → ((out : List ℕ) (x : A) → put out x ≡ out ++ print x)
    → (out : List ℕ) (xs : List A) → each_put put out xs ≡ out ++ items_bytes print xs
each_put_is put print one out [] = sym (append-nil out)
each_put_is put print one out (x ∷ xs) =
    ap (λ (l : List ℕ). each_put put l xs) (one out x)
    ∙ (each_put_is put print one (out ++ print x) xs ∙ append_assoc out (print x) (items_bytes print xs))

table_put_is : (out : List ℕ) (table : Table) → table_put out table ≡ out ++ table_grammar.print table
table_put_is out table = ap (λ (l : List ℕ). out ++ l) (sym (table_print table))

-- five parts, brackets to the left and to the right
five : (out a b c d e f : List ℕ) → (((((out ++ a) ++ b) ++ c) ++ d) ++ e) ++ f ≡ out ++ (a ++ ((b ++ c) ++ (d ++ (e ++ f))))
five out a b c d e f =
    append_assoc ((((out ++ a) ++ b) ++ c) ++ d) e f
    ∙ (append_assoc (((out ++ a) ++ b) ++ c) d (e ++ f)
    ∙ (append_assoc ((out ++ a) ++ b) c (d ++ (e ++ f))
    ∙ (append_assoc (out ++ a) b (c ++ (d ++ (e ++ f)))
    ∙ (append_assoc out a (b ++ (c ++ (d ++ (e ++ f))))
    ∙ ap (λ (l : List ℕ). out ++ (a ++ l)) (sym (append_assoc b c (d ++ (e ++ f))))))))

host_put_is : (out : List ℕ) (host : HostPart) → host_put out host ≡ out ++ host_grammar.print host
host_put_is out host =
    let name = text_bytes w8 host.name in
    let first = number_bytes w64 (length host.tables) in
    let second = number_bytes w64 (length host.items) in
    let start = (out ++ name) ++ first in
    each_put_is item_put item_bytes (λ o x. refl) (count_put (tables_put out host ++ ids_bytes host.partial) (length host.items)) host.items
    ∙ (ap (λ (l : List ℕ). ((l ++ ids_bytes host.partial) ++ second) ++ items_bytes item_bytes host.items)
    (each_put_is table_put table_grammar.print table_put_is start host.tables)
    ∙ (five out name first (items_bytes table_grammar.print host.tables) (ids_bytes host.partial) second (items_bytes item_bytes host.items)
    ∙ ap (λ (l : List ℕ). out ++ l) (sym (host_print host))))

-- the same of the whole
six : (out m a b c d e : List ℕ) → (((out ++ (m ++ (a ++ b))) ++ c) ++ d) ++ e ≡ out ++ (m ++ (a ++ ((b ++ c) ++ (d ++ e))))
six out m a b c d e =
    append_assoc ((out ++ (m ++ (a ++ b))) ++ c) d e
    ∙ (append_assoc (out ++ (m ++ (a ++ b))) c (d ++ e)
    ∙ (append_assoc out (m ++ (a ++ b)) (c ++ (d ++ e))
    ∙ ap (λ (l : List ℕ). out ++ l) (append_assoc m (a ++ b) (c ++ (d ++ e))
    ∙ ap (λ (l : List ℕ). m ++ l) (append_assoc a b (c ++ (d ++ e)) ∙ ap (λ (l : List ℕ). a ++ l) (sym (append_assoc b c (d ++ e)))))))

pub certificate_put_is : (out : List ℕ) (c : Certificate) → certificate_put out c ≡ out ++ certificate_grammar.print c
certificate_put_is out c =
    let head = head_put out c.epoch (length c.hosts) in
    each_put_is file_put file_bytes (λ o x. refl) (count_put (each_put host_put head c.hosts) (length c.pool)) c.pool
    ∙ (ap (λ (l : List ℕ). (l ++ number_bytes w64 (length c.pool)) ++ items_bytes file_bytes c.pool)
    (each_put_is host_put host_grammar.print host_put_is head c.hosts)
    ∙ (six out certificate_magic (number_bytes w64 c.epoch) (number_bytes w32 (length c.hosts)) (items_bytes host_grammar.print c.hosts)
    (number_bytes w64 (length c.pool)) (items_bytes file_bytes c.pool) ∙ ap (λ (l : List ℕ). out ++ l) (sym (certificate_print c))))

pub written_is : (c : Certificate) → written c ≡ certificate_file c
written_is c = ap sealed (certificate_put_is [] c)

pub read_back : (c : Certificate) (file : List ℕ) (result : Result CertificateBytes ℕ) → certificate_grammar.Fits c → file ≡ certificate_file c
    → IsRead file result → IsOkAnd result (IsCertificate c)
read_back c file (Ok x) fits is read = subst (λ (d : Certificate). IsCertificate d x) (read.ok.only c fits is) read.ok.tells
read_back c file (Err offset) fits is read = absurd (read.err.none c fits is)
