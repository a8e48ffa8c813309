-- The count of the link's faults behind one part and behind two.
use Rattle.std.specs.Prelude.{◌≡◌, ◌≢◌, ℕ, Result, Ok, Err, IsErrOf, IfErr}
use Rattle.std.proofs.Common.{refl, sym, ap, ◌∙◌, subst, arith}
use Rattle.fault_counts.specs.Counts.{Counted}
use Rattle.peer_exchange.specs.declared.fault.PeerFault.{PeerFault}
use Rattle.peer_exchange.specs.declared.fault.PeerFault.TheVariants as F
use Rattle.pull_work.specs.declared.ends.PullEnd.{PullEnd}
use Rattle.pull_work.specs.declared.ends.PullEnd.TheVariants.{LinkFault}
use Rattle.pull_work.specs.Script.{end_by}

-- nothing was done over the link, and nothing of it is told
pub Counted-calm : (n : ℕ) (A : Type 0) → ¬ A → Counted n n A
Counted-calm n A never = record { later = omega arith; rose = λ x. absurd (never x); stays = λ other. refl }

pub Counted-as : (m n : ℕ) (A B : Type 0) → (B → A) → (A → B) → Counted m n A → Counted m n B
Counted-as m n A B to from counted =
    record { later = counted.later; rose = λ x. counted.rose (to x); stays = λ never. counted.stays (λ x. never (from x)) }

-- behind a part that didn't fail
pub Counted-behind : (m k n : ℕ) (A : Type 0) → k ≡ m → Counted k n A → Counted m n A
Counted-behind m k n A same counted = subst (λ (i : ℕ). Counted i n A) same counted

-- one that gave a value didn't fail
pub still : {T E : Type 0} (m n : ℕ) (x : T) (e : E) → Counted m n (IsErrOf {T = T} {E = E} (Ok x) e) → n ≡ m
still m n x e counted = counted.stays (λ failed. absurd (cc))

-- the fault of the link alone is told as such
link_told : (fault : PeerFault) → end_by fault ≡ LinkFault → fault ≡ F.Link
link_told (F.Refused status) e = absurd (cc)
link_told F.Foreign e = absurd (cc)
link_told F.Link e = refl
link_told F.Memory e = absurd (cc)

err_is : {T E : Type 0} (a b : E) → ◌≡◌ {A = Result T E} (Err a) (Err b) → a ≡ b
err_is a b e = cc

pub Counted-end : {T : Type 0} (m n : ℕ) (fault : PeerFault) (end : PullEnd) → end ≡ end_by fault
    → Counted m n (IsErrOf {T = T} {E = PeerFault} (Err fault) F.Link) → Counted m n (end ≡ LinkFault)
Counted-end {T = T} m n fault end is counted =
    Counted-as m n (IsErrOf {T = T} {E = PeerFault} (Err fault) F.Link) (end ≡ LinkFault) (λ e. ap Err (link_told fault (sym is ∙ e)))
    (λ e. is ∙ ap end_by (err_is {T = T} fault F.Link e)) counted

pub Counted-err : {T : Type 0} (m n : ℕ) (end : PullEnd) → Counted m n (end ≡ LinkFault)
    → Counted m n (IsErrOf {T = T} {E = PullEnd} (Err end) LinkFault)
Counted-err {T = T} m n end counted =
    Counted-as m n (end ≡ LinkFault) (IsErrOf {T = T} {E = PullEnd} (Err end) LinkFault) (λ e. err_is {T = T} end LinkFault e) (λ e. ap Err e) counted

pub Counted-told : {T : Type 0} (m n : ℕ) (end : PullEnd) → Counted m n (IsErrOf {T = T} {E = PullEnd} (Err end) LinkFault)
    → Counted m n (end ≡ LinkFault)
Counted-told {T = T} m n end counted =
    Counted-as m n (IsErrOf {T = T} {E = PullEnd} (Err end) LinkFault) (end ≡ LinkFault) (λ e. ap Err e) (λ e. err_is {T = T} end LinkFault e) counted

-- what was done at home fails in no such way
pub no_link : {T : Type 0} (result : Result T PullEnd) → IfErr result (λ end. end ≢ LinkFault) → ¬ (IsErrOf result LinkFault)
no_link {T = T} (Ok x) unfailed e = absurd (cc)
no_link {T = T} (Err end) unfailed e = unfailed (err_is {T = T} end LinkFault e)
