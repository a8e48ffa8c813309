-- The limit of short texts.
use Rattle.std.specs.Prelude.{ℕ}

-- the most bytes of a short text
abbrev pub short_text_limit : ℕ
short_text_limit = 512
