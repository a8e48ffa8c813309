-- The parts of the paths that a client writes.
use Rattle.std.proofs.Common.{◌≡◌, ℕ, ◌-◌, ◌<◌, ◌^◌, true, Some, None, if◌then◌else◌, List, [], ◌∷◌, ◌++◌, Ok, refl, ap, ◌∙◌, arith, codes, decimal, unwrap_or, lit<}
use Rattle.attr_records.specs.Names.{is_host_name}
use Rattle.http_query.specs.Numbers.{number_of}
use Rattle.http_query.proofs.ScanLaws.{number_of-decimal}
use Rattle.http_routes.specs.Targets.{before_slash, after_slash, first_part, second_part}
use Rattle.receipts.specs.declared.session.SessionName.{SessionName}
use Rattle.receipts.specs.Session.{session_text}
use Rattle.request_events.specs.declared.refusal.RequestRefusal.TheVariants.{BadName, BadNumber}
use Rattle.request_events.specs.Said.{or_refuse}
use Rattle.request_events.specs.Names.{session_of, session_in, host_in, number_in}
use Rattle.event_texts.specs.Laws.{IsSession}
use Rattle.event_texts.proofs.CutLemmas.{NonePass, cut-before, cut-after, whole-before}
use Rattle.event_texts.proofs.NameLemmas.{slash, session-back}

pub first-of-restores : (text rest : List ℕ) → NonePass slash text → first_part (codes "/restores/" ++ (text ++ 47 ∷ rest)) ≡ text
unfolding first_part
first-of-restores text rest h =
    ap (λ t. before_slash (after_slash t)) (cut-after slash [] (codes "restores/" ++ (text ++ 47 ∷ rest)) 47 refl refl)
    ∙ ap before_slash (cut-after slash (codes "restores") (text ++ 47 ∷ rest) 47 refl refl)
    ∙ cut-before slash text rest 47 h refl

-- where nothing follows the name
pub last-of-restores : (text : List ℕ) → NonePass slash text → first_part (codes "/restores/" ++ text) ≡ text
unfolding first_part
last-of-restores text h =
    ap (λ t. before_slash (after_slash t)) (cut-after slash [] (codes "restores/" ++ text) 47 refl refl)
    ∙ ap before_slash (cut-after slash (codes "restores") text 47 refl refl)
    ∙ whole-before slash text h

pub first-of-hosts : (text rest : List ℕ) → NonePass slash text → first_part (codes "/hosts/" ++ (text ++ 47 ∷ rest)) ≡ text
unfolding first_part
first-of-hosts text rest h =
    ap (λ t. before_slash (after_slash t)) (cut-after slash [] (codes "hosts/" ++ (text ++ 47 ∷ rest)) 47 refl refl)
    ∙ ap before_slash (cut-after slash (codes "hosts") (text ++ 47 ∷ rest) 47 refl refl)
    ∙ cut-before slash text rest 47 h refl

pub second-of-hosts : (text number rest : List ℕ) → NonePass slash text → NonePass slash number
    → second_part (codes "/hosts/" ++ (text ++ (codes "/backups/" ++ (number ++ 47 ∷ rest)))) ≡ number
unfolding second_part
second-of-hosts text number rest h k =
    let behind = codes "backups/" ++ (number ++ 47 ∷ rest) in
    ap (λ t. before_slash (after_slash (after_slash (after_slash t)))) (cut-after slash [] (codes "hosts/" ++ (text ++ 47 ∷ behind)) 47 refl refl)
    ∙ ap (λ t. before_slash (after_slash (after_slash t))) (cut-after slash (codes "hosts") (text ++ 47 ∷ behind) 47 refl refl)
    ∙ ap (λ t. before_slash (after_slash t)) (cut-after slash text behind 47 h refl)
    ∙ ap before_slash (cut-after slash (codes "backups") (number ++ 47 ∷ rest) 47 refl refl)
    ∙ cut-before slash number rest 47 k refl

-- ---- what a path names

pub host-in : (path host : List ℕ) → first_part path ≡ host → is_host_name host ≡ true → host_in path ≡ Ok host
host-in path host is h =
    ap (λ t. or_refuse BadName (if is_host_name t then Some t else None)) is ∙ ap (λ b. or_refuse BadName (if b then Some host else None)) h

pub number-in : (path : List ℕ) (number : ℕ) → second_part path ≡ decimal number → number < 2 ^ 32 → number_in path ≡ Ok number
number-in path number is small =
    ap (λ t. or_refuse BadNumber (number_of (2 ^ 32 - 1) t)) is
    ∙ ap (or_refuse BadNumber) (number_of-decimal (2 ^ 32 - 1) number (omega (arith, small)) (lit< tt))

pub session-in : (path : List ℕ) (name : SessionName) → first_part path ≡ session_text name → IsSession name → session_in path ≡ name
session-in path name is fits =
    ap (λ t. unwrap_or (session_of t) (record { epoch = 0; sequence = 0 })) is
    ∙ ap (λ o. unwrap_or o (record { epoch = 0; sequence = 0 })) (session-back name fits)
