-- Sealed files.
use Rattle.std.specs.Prelude.{List, ℕ, ◌++◌}
use Rattle.md5.specs.Md5.{md5}

-- a body and its seal: the 16 bytes of its MD5 (RFC 1321)
unfoldable pub sealed : List ℕ → List ℕ
sealed body = body ++ md5 body
