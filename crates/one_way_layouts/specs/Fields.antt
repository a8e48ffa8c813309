-- Fields that are read in one way.
--     number_once, signed_once, text_once, flag_once, bytes_once, magic_once
--     id_once      the name of a content
use Rattle.std.specs.Prelude.{⊤, ◌≡◌, ℕ, List, ◌++◌, length, FitsSigned}
use Rattle.std.specs.Int.{Width, w16}
use Rattle.wire_bytes.specs.Layout.{IsFieldWidth, number_bytes, signed_bytes, text_bytes, flag_bytes, IsNumber, IsText, HasLength}
use Rattle.wire_bytes.specs.Kind.{IsReadOneWay}
use Rattle.wire_bytes.specs.Grammar.{number, magic}
use Rattle.wire_bytes.proofs.Field.{read_one_way, bytes_field}
use Rattle.wire_bytes.proofs.Numbers.{number_field}
use Rattle.wire_bytes.proofs.Signed.{signed_field}
use Rattle.wire_bytes.proofs.Texts.{text_field}
use Rattle.wire_bytes.proofs.Flags.{flag_field, magic_field}
use Rattle.disk_trait.specs.declared.ids.PoolId.{PoolId}
use Rattle.one_way_layouts.specs.OneWay.{IsOneWay}
use Rattle.one_way_layouts.specs.OneWayLaws.{narrow_once, field_once, peel}

pub number_once : (w : Width) → IsFieldWidth w → IsReadOneWay (IsNumber w) (number_bytes w)
number_once w is = read_one_way (number_field w is).reads

pub signed_once : (w : Width) → IsFieldWidth w → IsReadOneWay (FitsSigned w) (signed_bytes w)
signed_once w is = read_one_way (signed_field w is).reads

pub text_once : (w : Width) → IsFieldWidth w → IsReadOneWay (IsText w) (text_bytes w)
text_once w is = read_one_way (text_field w is).reads

pub flag_once : IsReadOneWay (λ _. ⊤) flag_bytes
flag_once = read_one_way flag_field.reads

pub bytes_once : (count : ℕ) → IsReadOneWay (HasLength count) (λ bytes. bytes)
bytes_once count = read_one_way (bytes_field count).reads

pub magic_once : (bytes : List ℕ) → IsOneWay (magic bytes)
magic_once bytes = field_once (λ _. ⊤) (λ _. bytes) (read_one_way (magic_field bytes).reads)

-- a number of fewer values
pub number_in_once : (w : Width) (Fits : ℕ → Type 0) → IsFieldWidth w → ((n : ℕ) → Fits n → IsNumber w n) → IsOneWay (number w Fits)
number_in_once w Fits is wide = field_once Fits (number_bytes w) (narrow_once _ wide (number_once w is))

-- digest and extension
pub id_once : (a b : PoolId) (x y : List ℕ) → length a.digest ≡ 16 → length b.digest ≡ 16 → IsNumber w16 a.extension
    → IsNumber w16 b.extension
    → (a.digest ++ number_bytes w16 a.extension) ++ x ≡ (b.digest ++ number_bytes w16 b.extension) ++ y → (a ≡ b) × (x ≡ y)
id_once a b x y digest_a digest_b extension_a extension_b same =
    let digests = peel _ (bytes_once 16) a.digest b.digest (number_bytes w16 a.extension) (number_bytes w16 b.extension) x y digest_a digest_b same in
    let extensions = number_once w16 tt a.extension b.extension x y extension_a extension_b digests.1 in
    ((λ i. record { digest = digests.0 i; extension = extensions.0 i }), extensions.1)
