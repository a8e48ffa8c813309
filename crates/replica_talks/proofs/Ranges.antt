-- Numbers that were read of bodies have their bits, and so those of a pull's phases.
use Rattle.std.proofs.Common.{◌≡◌, ℕ, ◌≤◌, ◌-◌, ◌^◌, ◌==◌, ◌&&◌, ◌||◌, nat_lt, nat_le, Bool, true, false, cond, if◌then◌else◌, List, [], ◌∷◌, Option, Some, None, option_map, option_and_then, refl, sym, ap, subst, bytes_eq, decimal, codes, arith}
use Rattle.std.specs.List.{AllByRecursion, filter, list_any, before_first, after_first}
use Rattle.std.specs.Str.Parse.{digits_value}
use Rattle.std.specs.Cmp.{first_so}
use Rattle.std.proofs.lemmas.Bool.{leb-true, lt-ltb}
use Rattle.std.proofs.lemmas.Bool.Decides.{Decides-eqb}
use Rattle.http_query.specs.Numbers.{number_of}
use Rattle.serde_json.specs.Data.{Data, Items, no_items, item}
use Rattle.serde_json.specs.Find.{get, as_array}
use Rattle.json_back.specs.Reading.{data_of}
use Rattle.backup_rules.specs.declared.lines.Kind.{Kind}
use Rattle.backup_rules.specs.declared.lines.Line.{Line}
use Rattle.receipts.specs.declared.session.SessionName.{SessionName}
use Rattle.listing_back.specs.declared.listing.Listing.{Listing}
use Rattle.listing_back.specs.Members.{count_at, if_small, number_at, flag_at, text_at, kind_of, session_of, maybe_session_in}
use Rattle.listing_back.specs.Listings.{line_in, lines_in, listing_in, opened_in, listing_of, opened_of}
use Rattle.pull_codec.specs.Codec.{is_session, is_base}
use Rattle.pull_work.specs.Compared.{is_same_kind, is_same_backup, newest_of, base_in}

-- what stands behind a look-up that gave something
pub then_some : {A B : Type 0} (f : A → Option B) (o : Option A) (b : B) → option_and_then f o ≡ Some b
    → (a : A) × (o ≡ Some a) × (f a ≡ Some b)
then_some f None b e = absurd (cc)
then_some f (Some a) b e = (a, refl, e)

pub mapped_some : {A B : Type 0} (f : A → B) (o : Option A) (b : B) → option_map f o ≡ Some b → (a : A) × (o ≡ Some a) × (f a ≡ b)
mapped_some f None b e = absurd (cc)
mapped_some f (Some a) b e = (a, refl, cc (e))

if_some : {A : Type 0} (test : Bool) (a b : A) → (if test then Some a else None) ≡ Some b → (test ≡ true) × (a ≡ b)
if_some true a b e = (refl, cc (e))
if_some false a b e = absurd (cc)

-- ---- listings

abbrev pub HasNumber : Line → Type 0
HasNumber line = nat_lt line.number (2 ^ 32) ≡ true

abbrev pub HaveNumbers : List Line → Type 0
HaveNumbers lines = AllByRecursion HasNumber lines

small : (n number : ℕ) → if_small n ≡ Some number → nat_lt number (2 ^ 32) ≡ true
small n number e =
    let w = if_some (nat_lt n (2 ^ 32)) n number e in
    subst (λ (m : ℕ). nat_lt m (2 ^ 32) ≡ true) w.1 w.0

line_by : (number start end : Option ℕ) (kind : Option Kind) (filled keep : Option Bool) (line : Line)
    → option_and_then (λ n. option_and_then (λ s. option_and_then (λ e. option_and_then (λ k. option_and_then (λ f.
    option_map (λ p. record { number = n; start = s; end = e; kind = k; filled = f; keep = p }) keep) filled) kind) end) start) number
    ≡ Some line → number ≡ Some line.number
line_by None start end kind filled keep line e = absurd (cc)
line_by (Some n) None end kind filled keep line e = absurd (cc)
line_by (Some n) (Some s) None kind filled keep line e = absurd (cc)
line_by (Some n) (Some s) (Some d) None filled keep line e = absurd (cc)
line_by (Some n) (Some s) (Some d) (Some k) None keep line e = absurd (cc)
line_by (Some n) (Some s) (Some d) (Some k) (Some f) None line e = absurd (cc)
line_by (Some n) (Some s) (Some d) (Some k) (Some f) (Some p) line e = ap (option_map (λ (l : Line). l.number)) e

line_ranged : (value : Data) (line : Line) → line_in value ≡ Some line → HasNumber line
line_ranged value line e =
    let is = line_by (number_at (codes "number") value) (count_at (codes "start") value) (count_at (codes "end") value)
    (option_and_then kind_of (text_at (codes "kind") value)) (flag_at (codes "filled") value) (flag_at (codes "keep") value) line e in
    let n = then_some if_small (count_at (codes "number") value) line.number is in
    small n.0 line.number n.2

lines_ranged : (values : Items) (lines : List Line) → lines_in values ≡ Some lines → HaveNumbers lines
lines_ranged no_items lines e =
    let same : [] ≡ lines = cc (e) in subst HaveNumbers same tt
lines_ranged (item value values) lines e =
    let a = then_some (λ line. option_map (λ more. line ∷ more) (lines_in values)) (line_in value) lines e in
    let b = mapped_some (λ more. a.0 ∷ more) (lines_in values) lines a.2 in
    subst HaveNumbers b.2 (line_ranged value a.0 a.1, lines_ranged values b.0 b.1)

listing_by : (lines : Option (List Line)) (next : Option ℕ) (dump : Option (Option SessionName)) (there : Listing)
    → option_and_then (λ l. option_and_then (λ n. option_map (λ d. record { lines = l; next = n; dump = d }) dump) next) lines ≡ Some there
    → lines ≡ Some there.lines
listing_by None next dump there e = absurd (cc)
listing_by (Some l) None dump there e = absurd (cc)
listing_by (Some l) (Some n) None there e = absurd (cc)
listing_by (Some l) (Some n) (Some d) there e = ap (option_map (λ (it : Listing). it.lines)) e

pub listing_ranged : (body : List ℕ) (there : Listing) → Some there ≡ listing_of body → HaveNumbers there.lines
listing_ranged body there e =
    let a = then_some listing_in (data_of body) there (sym e) in
    let found = option_and_then as_array (get (codes "backups") a.0) in
    let is = listing_by (option_and_then lines_in found) (count_at (codes "next") a.0)
    (option_and_then maybe_session_in (get (codes "dump") a.0)) there a.2 in
    let items = then_some lines_in found there.lines is in
    lines_ranged items.0 there.lines items.2

pub filter_ranged : (test : Line → Bool) (lines : List Line) → HaveNumbers lines → HaveNumbers (filter test lines)
filter_ranged test [] all = tt
filter_ranged test (line ∷ lines) all = by (test line) (filter_ranged test lines all.1)
  where
    by : (b : Bool) → HaveNumbers (filter test lines) → HaveNumbers (cond b (line ∷ filter test lines) (filter test lines))
    by true later = (all.0, later)
    by false later = later

-- a backup that is among lines has the number of one of them
same_ranged : (own : Line) (lines : List Line) → HaveNumbers lines → list_any (is_same_backup own) lines ≡ true → HasNumber own
same_ranged own [] all e = absurd (cc)
same_ranged own (line ∷ lines) all e = by (is_same_backup own line) refl e (same_ranged own lines all.1)
  where
    by : (b : Bool) → is_same_backup own line ≡ b → (b || list_any (is_same_backup own) lines) ≡ true
        → (list_any (is_same_backup own) lines ≡ true → HasNumber own) → HasNumber own
    by true is f later =
        let same : (own.number == line.number) ≡ true =
        first_so (own.number == line.number) (own.start == line.start && (own.end == line.end && is_same_kind own.kind line.kind)) is in
        let number : own.number ≡ line.number = (Decides-eqb own.number line.number).0 same in
        subst (λ (m : ℕ). nat_lt m (2 ^ 32) ≡ true) (sym number) all.0
    by false is f later = later f

pub base_ranged : (own there : List Line) → HaveNumbers there → is_base (base_in own there) ≡ true
base_ranged own there all = by (newest_of own)
  where
    among : (newest : Line) (b : Bool) → list_any (is_same_backup newest) there ≡ b
        → is_base (if b then Some newest.number else None) ≡ true
    among newest true is = same_ranged newest there all is
    among newest false is = refl

    by : (newest : Option Line)
        → is_base (option_and_then (λ n. if list_any (is_same_backup n) there then Some n.number else None) newest) ≡ true
    by None = refl
    by (Some newest) = among newest (list_any (is_same_backup newest) there) refl

-- ---- restores

number_ranged : (text : List ℕ) (n : ℕ) → number_of (2 ^ 64 - 1) text ≡ Some n → nat_lt n (2 ^ 64) ≡ true
unfolding number_of
number_ranged text n e =
    let number = digits_value 10 text in
    let w = if_some (nat_le number (2 ^ 64 - 1) && bytes_eq text (decimal number)) number n e in
    let few : nat_le number (2 ^ 64 - 1) ≡ true = first_so (nat_le number (2 ^ 64 - 1)) (bytes_eq text (decimal number)) w.0 in
    let bound : number ≤ 2 ^ 64 - 1 = leb-true number (2 ^ 64 - 1) few in
    lt-ltb n (2 ^ 64) (omega (arith, bound, w.1))

session_by : (epoch sequence : Option ℕ) (name : SessionName)
    → option_and_then (λ e. option_map (λ s. record { epoch = e; sequence = s }) sequence) epoch ≡ Some name
    → (epoch ≡ Some name.epoch) × (sequence ≡ Some name.sequence)
session_by None sequence name e = absurd (cc)
session_by (Some n) None name e = absurd (cc)
session_by (Some n) (Some s) name e =
    (ap (option_map (λ (it : SessionName). it.epoch)) e, ap (option_map (λ (it : SessionName). it.sequence)) e)

pub both_true : {a b : Bool} → a ≡ true → b ≡ true → (a && b) ≡ true
both_true p q = λ i. p i && q i

session_ranged : (text : List ℕ) (name : SessionName) → session_of text ≡ Some name → is_session name ≡ true
unfolding session_of
session_ranged text name e =
    let front = number_of (2 ^ 64 - 1) (before_first (λ byte. byte == 45) text) in
    let back = number_of (2 ^ 64 - 1) (after_first (λ byte. byte == 45) text) in
    let is = session_by front back name e in
    both_true (number_ranged (before_first (λ byte. byte == 45) text) name.epoch is.0)
    (number_ranged (after_first (λ byte. byte == 45) text) name.sequence is.1)

pub opened_ranged : (body : List ℕ) (name : SessionName) → Some name ≡ opened_of body → is_session name ≡ true
opened_ranged body name e =
    let a = then_some opened_in (data_of body) name (sym e) in
    let b = then_some session_of (text_at (codes "restore") a.0) name a.2 in
    session_ranged b.0 name b.2
