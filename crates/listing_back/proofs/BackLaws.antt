-- A listing is read back, and the name of an opened restore.
use Rattle.std.proofs.Common.{◌≡◌, ℕ, ◌≤◌, ◌<◌, ◌^◌, true, List, [], ◌∷◌, map, Option, Some, None, option_map, option_and_then, if◌then◌else◌, nat_lt, IsUtf8, codes, refl, ap, ◌∙◌, arith}
use Rattle.std.specs.List.{AllByRecursion}
use Rattle.std.proofs.lemmas.Bool.Decides.{nat_tests}
use Rattle.backup_rules.specs.declared.lines.Kind.{Kind}
use Rattle.backup_rules.specs.declared.lines.Kind.TheVariants.{Full, Incr}
use Rattle.backup_rules.specs.declared.lines.Line.{Line}
use Rattle.receipts.specs.declared.session.SessionName.{SessionName}
use Rattle.receipts.specs.Session.{session_text}
use Rattle.json.proofs.Printed.Utf8.{are_ascii, IsUtf8-are_ascii}
use Rattle.serde_json.specs.Data.{depth, items_depth}
use Rattle.serde_json.specs.View.{items_of}
use Rattle.office_model.specs.declared.event.Event.TheVariants as E
use Rattle.office_model.specs.declared.answer.Answer.TheVariants as A
use Rattle.reply_bodies.specs.Laws.{IsSession}
use Rattle.reply_bodies.specs.Objects.{Field, Text, json_text, object_of, object_text}
use Rattle.reply_bodies.specs.Replies.{kind_text, line_data, dump_data, backups_data}
use Rattle.reply_bodies.proofs.PlainReplies.{short_replies}
use Rattle.json_back.specs.Canonical.{IsCanonical, AreCanonical, HasTexts, ItemsHaveTexts}
use Rattle.json_back.specs.Reading.{data_of}
use Rattle.json_back.proofs.BackLaws.{bytes-read}
use Rattle.listing_back.specs.Members.{if_small, kind_of, maybe_session_in}
use Rattle.listing_back.specs.Listings.{line_in, lines_in, listing_in, opened_in}
use Rattle.listing_back.specs.Laws.{IsRanged, MaybeSession, ListingsReadBack, OpenedReadBack}
use Rattle.listing_back.proofs.SessionLaws.{session-back, session-utf8}

-- ---- lines

kind-back : (kind : Kind) → kind_of (kind_text kind) ≡ Some kind
kind-back Full = refl
kind-back Incr = refl

small-back : (n : ℕ) → n < 2 ^ 32 → if_small n ≡ Some n
small-back n small = ap (λ b. if b then Some n else None) (within n (2 ^ 32) small)
  where
    within : (a b : ℕ) → a < b → nat_lt a b ≡ true
    within a b h = grind (arith, nat_tests)

line-back : (line : Line) → IsRanged line → line_in (line_data line) ≡ Some line
line-back line r =
    (λ i. option_and_then (λ number. option_and_then (λ kind.
    Some (record { number = number; start = line.start; end = line.end; kind = kind; filled = line.filled; keep = line.keep }))
    (kind-back line.kind i)) (small-back line.number r.number i))

lines-back : (lines : List Line) → AllByRecursion IsRanged lines → lines_in (items_of (map line_data lines)) ≡ Some lines
lines-back [] h = refl
lines-back (line ∷ lines) h =
    ap (option_and_then (λ l. option_map (λ ls. l ∷ ls) (lines_in (items_of (map line_data lines))))) (line-back line h.0)
    ∙ ap (option_map (λ ls. line ∷ ls)) (lines-back lines h.1)

dump-back : (dump : Option SessionName) → MaybeSession dump → maybe_session_in (dump_data dump) ≡ Some dump
dump-back None h = refl
dump-back (Some name) h = ap (option_map (λ n. Some n)) (session-back name (h name refl))

listing-back : (lines : List Line) (next : ℕ) (dump : Option SessionName) → AllByRecursion IsRanged lines → MaybeSession dump
    → listing_in (backups_data lines next dump) ≡ Some (record { lines = lines; next = next; dump = dump })
listing-back lines next dump h d =
    (λ i. option_and_then (λ ls. option_map (λ o. record { lines = ls; next = next; dump = o }) (dump-back dump d i)) (lines-back lines h i))

-- ---- what is written is canonical, of UTF-8 and not deep

line-canonical : (line : Line) → IsRanged line → IsCanonical (line_data line)
line-canonical line r = (
  tt,
  r.end,
  (
    (refl, tt),
    tt,
    (
      (refl, (refl, tt)),
      tt,
      (
        (refl, (refl, (refl, tt))),
        tt,
        (
          (refl, (refl, (refl, (refl, tt)))),
          omega (arith, r.number),
          ((refl, (refl, (refl, (refl, (refl, tt))))), r.start, tt),
        ),
      ),
    ),
  ),
)

lines-canonical : (lines : List Line) → AllByRecursion IsRanged lines → AreCanonical (items_of (map line_data lines))
lines-canonical [] h = tt
lines-canonical (line ∷ lines) h = (line-canonical line h.0, lines-canonical lines h.1)

dump-canonical : (dump : Option SessionName) → IsCanonical (dump_data dump)
dump-canonical None = tt
dump-canonical (Some name) = tt

listing-canonical : (lines : List Line) (next : ℕ) (dump : Option SessionName) → AllByRecursion IsRanged lines → next < 2 ^ 64
    → IsCanonical (backups_data lines next dump)
listing-canonical lines next dump h fits =
    (tt, lines-canonical lines h, ((refl, tt), dump-canonical dump, ((refl, (refl, tt)), fits, tt)))

kind-utf8 : (kind : Kind) → IsUtf8 (kind_text kind)
kind-utf8 Full = IsUtf8-are_ascii _ refl
kind-utf8 Incr = IsUtf8-are_ascii _ refl

key : (text : List ℕ) → are_ascii text ≡ true → IsUtf8 text
key = IsUtf8-are_ascii

line-texts : (line : Line) → HasTexts (line_data line)
line-texts line = (
  key (codes "end") refl,
  tt,
  (
    key (codes "filled") refl,
    tt,
    (
      key (codes "keep") refl,
      tt,
      (
        key (codes "kind") refl,
        kind-utf8 line.kind,
        (key (codes "number") refl, tt, (key (codes "start") refl, tt, tt)),
      ),
    ),
  ),
)

lines-texts : (lines : List Line) → ItemsHaveTexts (items_of (map line_data lines))
lines-texts [] = tt
lines-texts (line ∷ lines) = (line-texts line, lines-texts lines)

dump-texts : (dump : Option SessionName) → MaybeSession dump → HasTexts (dump_data dump)
dump-texts None h = tt
dump-texts (Some name) h = session-utf8 name (h name refl)

listing-texts : (lines : List Line) (next : ℕ) (dump : Option SessionName) → MaybeSession dump → HasTexts (backups_data lines next dump)
listing-texts lines next dump d =
    (key (codes "backups") refl, lines-texts lines, (key (codes "dump") refl, dump-texts dump d, (key (codes "next") refl, tt, tt)))

lines-shallow : (lines : List Line) → items_depth (items_of (map line_data lines)) ≤ 1
lines-shallow [] = omega arith
lines-shallow (line ∷ lines) = omega (arith, lines-shallow lines)

dump-shallow : (dump : Option SessionName) → depth (dump_data dump) ≤ 0
dump-shallow None = omega arith
dump-shallow (Some name) = omega arith

-- ---- the laws

pub listings-back : ListingsReadBack
unfolding json_text
listings-back lines next dump h fits d =
    ap (option_and_then listing_in)
    (bytes-read (backups_data lines next dump) (listing-canonical lines next dump h fits) (listing-texts lines next dump d)
    (omega (arith, lines-shallow lines, dump-shallow dump)))
    ∙ listing-back lines next dump h d

-- the members of the answer that names a restore
abbrev opened : SessionName → List Field
opened name = (codes "restore", Text (session_text name)) ∷ []

opened-bytes : (name : SessionName) → IsSession name → data_of (object_text (opened name)) ≡ Some (object_of (opened name))
unfolding json_text
opened-bytes name fits =
    ap data_of (short_replies E.Stats (A.Restore name) (opened name) tt fits refl)
    ∙ bytes-read (object_of (opened name)) (tt, tt, tt) (key (codes "restore") refl, session-utf8 name fits, tt) (omega arith)

pub opened-back : OpenedReadBack
opened-back event name fits = ap (option_and_then opened_in) (opened-bytes name fits) ∙ session-back name fits
