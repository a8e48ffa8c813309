-- The paths of a push's targets: their forms, and what they name.
use Rattle.std.proofs.Common.{◌≡◌, ℕ, ◌<◌, ◌^◌, true, List, [], ◌∷◌, ◌++◌, refl, sym, ap, ◌∙◌, arith, codes, decimal, append-nil, inl}
use Rattle.attr_records.specs.Names.{is_host_name}
use Rattle.http_routes.specs.Forms.{done, param, HasForm}
use Rattle.http_routes.specs.Table.{routes}
use Rattle.http_routes.specs.Targets.{before_slash, after_slash, first_part, second_part}
use Rattle.http_routes.specs.declared.route.Route.TheVariants as R
use Rattle.event_texts.proofs.CutLemmas.{NonePass, all-append, cut-before, cut-after, whole-before}
use Rattle.event_texts.proofs.NameLemmas.{IsName, slash, question, piece_of}
use Rattle.event_texts.proofs.ReadLemmas.{takes_text, has_at}

-- ---- forms

pub dumps-form : (host : List ℕ) → IsName host → HasForm R.Dumps (codes "/hosts/" ++ (host ++ codes "/dumps"))
dumps-form host n = (
  codes "/hosts/{host}/dumps",
  has_at (codes "/hosts/{host}/dumps") R.Dumps 3 routes (inl (refl, refl)),
  takes_text (codes "/hosts/") (param host (codes "/dumps") (piece_of host n) refl (takes_text (codes "/dumps") done)),
)

pub entry-form : (text : List ℕ) → IsName text → HasForm R.Entry (codes "/dumps/" ++ (text ++ codes "/entry"))
entry-form text n = (
  codes "/dumps/{dump}/entry",
  has_at (codes "/dumps/{dump}/entry") R.Entry 4 routes (inl (refl, refl)),
  takes_text (codes "/dumps/") (param text (codes "/entry") (piece_of text n) refl (takes_text (codes "/entry") done)),
)

pub commit-form : (text : List ℕ) → IsName text → HasForm R.Commit (codes "/dumps/" ++ (text ++ codes "/commit"))
commit-form text n = (
  codes "/dumps/{dump}/commit",
  has_at (codes "/dumps/{dump}/commit") R.Commit 5 routes (inl (refl, refl)),
  takes_text (codes "/dumps/") (param text (codes "/commit") (piece_of text n) refl (takes_text (codes "/commit") done)),
)

pub dump-form : (text : List ℕ) → IsName text → HasForm R.Dump (codes "/dumps/" ++ text)
dump-form text n = (
  codes "/dumps/{dump}",
  has_at (codes "/dumps/{dump}") R.Dump 7 routes (inl (refl, refl)),
  takes_text (codes "/dumps/") (param text [] (piece_of text n) (sym (append-nil text)) done),
)

pub list-form : (host number : List ℕ) → IsName host → IsName number
    → HasForm R.BackupList (codes "/hosts/" ++ (host ++ (codes "/backups/" ++ (number ++ codes "/list"))))
list-form host number n d = (
  codes "/hosts/{host}/backups/{number}/list",
  has_at (codes "/hosts/{host}/backups/{number}/list") R.BackupList 12 routes (inl (refl, refl)),
  takes_text (codes "/hosts/") (param host (codes "/backups/" ++ (number ++ codes "/list")) (piece_of host n) refl
      (takes_text (codes "/backups/") (param number (codes "/list") (piece_of number d) refl (takes_text (codes "/list") done)))),
)

-- ---- no question mark

pub dumps-plain : (host : List ℕ) → NonePass question host → NonePass question (codes "/hosts/" ++ (host ++ codes "/dumps"))
dumps-plain host h = all-append _ (codes "/hosts/") (host ++ codes "/dumps") refl (all-append _ host (codes "/dumps") h refl)

pub within-plain : (text rest : List ℕ) → NonePass question text → NonePass question rest → NonePass question (codes "/dumps/" ++ (text ++ rest))
within-plain text rest h k = all-append _ (codes "/dumps/") (text ++ rest) refl (all-append _ text rest h k)

pub dump-plain : (text : List ℕ) → NonePass question text → NonePass question (codes "/dumps/" ++ text)
dump-plain text h = all-append _ (codes "/dumps/") text refl h

pub list-plain : (host number : List ℕ) → NonePass question host → NonePass question number
    → NonePass question (codes "/hosts/" ++ (host ++ (codes "/backups/" ++ (number ++ codes "/list"))))
list-plain host number h k =
    let rest = number ++ codes "/list" in
    all-append _ (codes "/hosts/") (host ++ (codes "/backups/" ++ rest)) refl
    (all-append _ host (codes "/backups/" ++ rest) h (all-append _ (codes "/backups/") rest refl (all-append _ number (codes "/list") k refl)))

-- ---- the piece that a path names

pub first-of-dumps : (text rest : List ℕ) → NonePass slash text → first_part (codes "/dumps/" ++ (text ++ 47 ∷ rest)) ≡ text
unfolding first_part
first-of-dumps text rest h =
    ap (λ t. before_slash (after_slash t)) (cut-after slash [] (codes "dumps/" ++ (text ++ 47 ∷ rest)) 47 refl refl)
    ∙ ap before_slash (cut-after slash (codes "dumps") (text ++ 47 ∷ rest) 47 refl refl)
    ∙ cut-before slash text rest 47 h refl

-- where nothing follows the name
pub last-of-dumps : (text : List ℕ) → NonePass slash text → first_part (codes "/dumps/" ++ text) ≡ text
unfolding first_part
last-of-dumps text h =
    ap (λ t. before_slash (after_slash t)) (cut-after slash [] (codes "dumps/" ++ text) 47 refl refl)
    ∙ ap before_slash (cut-after slash (codes "dumps") text 47 refl refl)
    ∙ whole-before slash text h
