-- What a judged front says of all the bytes, and what an input that begins with a response comes to.
use Rattle.std.proofs.Common.{◌≡◌, ◌≤◌, ◌<◌, ◌-◌, true, inl, inr, ℕ, List, [], ◌∷◌, ◌++◌, length, take, drop, map, min, Option, Some, None, arith, refl, sym, ap, ◌∙◌, subst, append_assoc, append-nil, length-append}
use Rattle.std.specs.Option.{option_copied}
use Rattle.std.specs.Str.Parse.{digits_value}
use Rattle.std.proofs.lemmas.Bool.{cases_lt, ltb-true}
use Rattle.std.proofs.lemmas.List.{take-append-drop, take-append-le, drop-append-le, length-take, take_all, length-map}
use denote.Bor.{Bor}
use Rattle.httparse.specs.Grammar.{ResponseHead, print_response, ReadsResponse, HasNoResponse, MayBecomeResponse, status_code}
use Rattle.httparse.specs.declared.spans.HeaderSpan.{HeaderSpan}
use Rattle.httparse.specs.declared.spans.ResponseSpans.{ResponseSpans}
use Rattle.httparse.specs.Spans.{ResponseOverflows, IsResponseAt, IsResponseWithin, header_bytes, name_and_value}
use Rattle.httparse.proofs.GrammarLemmas.{ReadsResponse-append, response_unique, response_prefix_free}
use Rattle.http_heads.specs.declared.response.ResponseParts.{ResponseParts}
use Rattle.http_heads.specs.declared.response.ResponseFront.{ResponseFront}
use Rattle.http_heads.specs.declared.response.ResponseFront.TheVariants.{Whole, TooLong, Foreign, Unfinished}
use Rattle.http_heads.specs.Fields.{FieldList, is_too_large, body_limit}
use Rattle.http_heads.specs.Fronts.{head_limit, field_limit}
use Rattle.http_heads.specs.Responses.{length_text, response_fields, HasResponseHead, NeverResponds, IsUnfinishedResponse, IsWholeResponse, IsLongResponse, IsResponseFront, HasResponse, EndsInBody, Read, IsForeign, IsEnded, IsTruncated}
use Rattle.http_heads.specs.ResponseLaws.{ResponseHeadsDecide, ForeignFrontsDecide, ResponsesDecide, CutResponsesAreTruncated}
use Rattle.http_heads.proofs.BlankLemmas.{blank-no_response}
use Rattle.http_heads.proofs.FrontLaws.{cut-front}

-- ---- more bytes behind

pub response_head-append : ResponseHeadsDecide
response_head-append bytes more parts rest x = record {
  head = x.head;
  reads = ReadsResponse-append bytes x.head rest more x.reads;
  short = x.short;
  few = x.few;
  status = x.status;
  text = x.text;
  names = x.names;
  size = x.size;
}

pub never_responds-append : ForeignFrontsDecide
never_responds-append bytes more x others parts rest has =
    x (more ++ others) parts rest (subst (λ (t : List ℕ). HasResponseHead t parts rest) (append_assoc bytes more others) has)

-- ---- a whole head

-- a head that names no length is none, whatever follows
no_length-never : (bytes : List ℕ) (h : ResponseHead) (rest : List ℕ) → ReadsResponse bytes h rest
    → length_text (status_code h) (response_fields h) ≡ None → NeverResponds bytes
no_length-never bytes h rest reads none more parts rest' has =
    let same = response_prefix_free bytes more h has.head rest rest' reads has.reads in
    let no : None ≡ Some has.text = sym none ∙ ap (λ k. length_text (status_code k) (response_fields k)) same.0 ∙ has.names in
    cc

-- ---- the front of all the bytes

module _ (bytes : List ℕ) (n : ℕ) (n_is : n ≡ min (length bytes) head_limit) where
  split : take n bytes ++ drop n bytes ≡ bytes
  split = take-append-drop n bytes

  never-front : NeverResponds (take n bytes) → NeverResponds bytes
  never-front x = subst NeverResponds split (never_responds-append (take n bytes) (drop n bytes) x)

  whole-front : (len : ℕ) (parts : ResponseParts) → IsWholeResponse (take n bytes) len parts → IsWholeResponse bytes len parts
  whole-front len parts x =
      let rest = sym (drop-append-le len (take n bytes) (drop n bytes) x.within) ∙ ap (drop len) split in
      let longer = response_head-append (take n bytes) (drop n bytes) parts (drop len (take n bytes)) x.whole in
      record {
        within = omega (arith, x.within, length-take n bytes);
        short = x.short;
        few = x.few;
        whole = subst (λ (t : List ℕ). HasResponseHead bytes parts t) rest
            (subst (λ (t : List ℕ). HasResponseHead t parts (drop len (take n bytes) ++ drop n bytes)) split longer);
      }

  long-front : IsLongResponse (take n bytes) body_limit → IsLongResponse bytes body_limit
  long-front x = record {
    parts = x.parts;
    rest = x.rest ++ drop n bytes;
    whole = subst (λ (t : List ℕ). HasResponseHead t x.parts (x.rest ++ drop n bytes)) split
        (response_head-append (take n bytes) (drop n bytes) x.parts x.rest x.whole);
    many = x.many;
  }

  -- a head of the bytes and more has more fields than the room
  pub response_overflows-front : ResponseOverflows field_limit (take n bytes) → NeverResponds bytes
  response_overflows-front over more parts rest has =
      let text = ap (λ (t : List ℕ). t ++ more) (sym split) ∙ append_assoc (take n bytes) (drop n bytes) more in
      let many = over (drop n bytes ++ more) has.head rest (has.reads.0, sym text ∙ has.reads.1) in
      omega (arith, many, has.few)

  full-never : HasNoResponse (take n bytes) → n ≡ head_limit → NeverResponds bytes
  full-never none full more parts rest has =
      let long : n ≤ length bytes = omega (arith, n_is) in
      let cut = cut-front (bytes ++ more) n (print_response has.head) rest has.reads.1 (omega (arith, full, has.short)) in
      none has.head (take (n - length (print_response has.head)) rest) (has.reads.0, sym (take-append-le n bytes more long) ∙ cut)

  open-front : HasNoResponse (take n bytes) → MayBecomeResponse (take n bytes) → n < head_limit → IsUnfinishedResponse bytes
  open-front none may short =
      let whole : take n bytes ≡ bytes = take_all n bytes (omega (arith, n_is, short)) in
      record {
        short = omega (arith, n_is, short);
        none = subst HasNoResponse whole none;
        may = subst MayBecomeResponse whole may;
      }

  pub partial_response-front : (front : ResponseFront) → (length (take n bytes) < head_limit → front ≡ Unfinished)
      → (length (take n bytes) ≡ head_limit → front ≡ Foreign)
      → HasNoResponse (take n bytes) → MayBecomeResponse (take n bytes) → IsResponseFront bytes front
  partial_response-front front short full none may = elim (cases_lt n head_limit) [
    | inl less ↦ rw (short (omega (arith, n_is, less, length-take n bytes))) (open-front none may less)
    | inr more ↦
        let whole : n ≡ head_limit = omega (arith, n_is, more) in
        rw (full (omega (arith, n_is, whole, length-take n bytes))) (full-never none whole)
  ]

  -- what a whole head in the front comes to, all the bytes come to
  pub judged_response-front : (front : ResponseFront) → (front ≡ Unfinished → ⊥) → IsResponseFront (take n bytes) front → IsResponseFront bytes front
  judged_response-front (Whole len parts) other x = whole-front len parts x
  judged_response-front TooLong other x = long-front x
  judged_response-front Foreign other x = never-front x
  judged_response-front Unfinished other x = absurd (other refl)

-- ---- what the parser answered

module _ (start : List ℕ) (spans : List HeaderSpan) (r : ResponseSpans) (h : ResponseHead) (at : IsResponseAt start spans r h)
    (within : IsResponseWithin start spans r) (fits : (length start ≤ head_limit) × (length spans ≤ field_limit))
    (fields : FieldList) (fields_is : fields ≡ map (header_bytes start) (take r.headers spans))
    (found : Option (Bor (List ℕ))) (found_is : option_copied found ≡ length_text r.code fields) where
  named : length_text (status_code h) (response_fields h) ≡ option_copied found
  named = (λ i. length_text (sym at.code i) (sym (fields_is ∙ at.fields) i)) ∙ sym found_is

  few_fields : length h.fields ≤ field_limit
  few_fields =
      let same : length (take r.headers spans) ≡ length h.fields =
      sym (length-map (take r.headers spans) (header_bytes start)) ∙ ap length at.fields ∙ length-map h.fields name_and_value in
      omega (arith, same, length-take r.headers spans, fits.1)

  pub unnamed-never : found ≡ None → NeverResponds start
  unnamed-never none = no_length-never start h (drop r.len start) at.reads (named ∙ ap option_copied none)

  says-length : (text : Bor (List ℕ)) (size : ℕ) → found ≡ Some text → size ≡ digits_value 10 text.now
      → HasResponseHead start (record { status = r.code; length = size }) (drop r.len start)
  says-length text size some value = record {
    head = h;
    reads = at.reads;
    short = omega (arith, at.len, within.section.len_fits, fits.0);
    few = few_fields;
    status = at.code;
    text = text.now;
    names = named ∙ ap option_copied some;
    size = value;
  }

  pub named-whole : (text : Bor (List ℕ)) (size : ℕ) → found ≡ Some text → size ≡ digits_value 10 text.now → size ≤ body_limit
      → IsWholeResponse start r.len (record { status = r.code; length = size })
  named-whole text size some value small = record {
    within = within.section.len_fits;
    short = omega (arith, within.section.len_fits, fits.0);
    few = small;
    whole = says-length text size some value;
  }

  pub named-long : (text : Bor (List ℕ)) → found ≡ Some text → is_too_large text.now ≡ true → IsLongResponse start body_limit
  named-long text some large = record {
    parts = record { status = r.code; length = digits_value 10 text.now };
    rest = drop r.len start;
    whole = says-length text (digits_value 10 text.now) some refl;
    many = ltb-true body_limit (digits_value 10 text.now) large;
  }

-- ---- whole inputs

-- two lists of equal length before others
same-front : (xs ys us vs : List ℕ) → length xs ≡ length ys → xs ++ us ≡ ys ++ vs → (xs ≡ ys) × (us ≡ vs)
same-front [] [] us vs n e = (refl, e)
same-front [] (y ∷ ys) us vs n e = absurd (omega (arith, n))
same-front (x ∷ xs) [] us vs n e = absurd (omega (arith, n))
same-front (x ∷ xs) (y ∷ ys) us vs n e =
    let head : x ≡ y = cc in
    let tail : xs ++ us ≡ ys ++ vs = cc in
    let rest : (xs ≡ ys) × (us ≡ vs) = same-front xs ys us vs (omega (arith, n)) tail in
    ((λ i. head i ∷ rest.0 i), rest.1)

-- an input has one head at most
same-head : (input : List ℕ) (p q : ResponseParts) (r s : List ℕ) → HasResponseHead input p r → HasResponseHead input q s
    → (p.status ≡ q.status) × (p.length ≡ q.length) × (r ≡ s)
same-head input p q r s x y =
    let same = response_unique input x.head y.head r s x.reads y.reads in
    let texts : Some x.text ≡ Some y.text =
    sym x.names ∙ ap (λ k. length_text (status_code k) (response_fields k)) same.0 ∙ y.names in
    let text : x.text ≡ y.text = cc in
    (x.status ∙ ap status_code same.0 ∙ sym y.status, x.size ∙ ap (digits_value 10) text ∙ sym y.size, same.1)

-- and one response at most
pub same-response : (input : List ℕ) (s t : ℕ) (b c r q : List ℕ) → HasResponse input s b r → HasResponse input t c q
    → (s ≡ t) × (b ≡ c) × (r ≡ q)
same-response input s t b c r q x y =
    let heads = same-head input (record { status = s; length = length b }) (record { status = t; length = length c }) (b ++ r) (c ++ q) x y in
    let bodies = same-front b c r q heads.1 heads.2 in
    (heads.0, bodies.0, bodies.1)

response-append : (input more : List ℕ) (s : ℕ) (b r : List ℕ) → HasResponse input s b r → HasResponse (input ++ more) s b (r ++ more)
response-append input more s b r x =
    subst (λ (t : List ℕ). HasResponseHead (input ++ more) (record { status = s; length = length b }) t) (append_assoc b r more)
    (response_head-append input more (record { status = s; length = length b }) (b ++ r) x)

-- a body that is there isn't cut
not-cut : (input : List ℕ) (s : ℕ) (b r : List ℕ) → HasResponse input s b r → EndsInBody input → ⊥
not-cut input s b r x y =
    let same = same-head input (record { status = s; length = length b }) y.parts (b ++ r) y.part x y.head in
    omega (arith, same.1, y.short, ap length same.2, length-append b r)

pub responses-decide : ResponsesDecide
responses-decide input s b r (Read t c q) x y =
    let same = same-response input t s c b q r y x in
    λ i. Read (same.0 i) (same.1 i) (same.2 i)
responses-decide input s b r IsForeign x y =
    absurd (y [] (record { status = s; length = length b }) (b ++ r)
    (subst (λ (t : List ℕ). HasResponseHead t (record { status = s; length = length b }) (b ++ r)) (sym (append-nil input)) x))
responses-decide input s b r IsEnded x y = absurd (blank-no_response input x.head (b ++ r) y.0 x.reads)
responses-decide input s b r IsTruncated x (inl y) = absurd (y.0.none x.head (b ++ r) x.reads)
responses-decide input s b r IsTruncated x (inr y) = absurd (not-cut input s b r x y)

nil_behind : (xs ys : List ℕ) → [] ≡ xs ++ ys → ys ≡ []
nil_behind [] ys is = sym is
nil_behind (x ∷ xs) ys is = cc

pub cut-truncated : CutResponsesAreTruncated
cut-truncated input more s b (Read t c q) has some blank y =
    let same = same-response (input ++ more) s t b c [] (q ++ more) has (response-append input more t c q y) in
    absurd (some (nil_behind q more same.2))
cut-truncated input more s b IsForeign has some blank y =
    absurd (y more (record { status = s; length = length b }) (b ++ []) has)
cut-truncated input more s b IsEnded has some blank y = absurd (blank y.0)
cut-truncated input more s b IsTruncated has some blank y = refl
