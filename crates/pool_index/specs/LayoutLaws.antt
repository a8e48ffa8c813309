-- The items that a file may have, as the grammar says it.
use Rattle.std.specs.Prelude.{ℕ, List, Option}
use Rattle.wire_bytes.specs.Grammar.{seen_as}
use Rattle.pool_index.specs.declared.item.IndexItem.{IndexItem}
use Rattle.pool_index.specs.Layout.{IsIndex, index_grammar}

pub index_fits : (byte : Option ℕ) (items : List IndexItem) → (index_grammar byte).Fits items → IsIndex byte items
unfolding index_grammar seen_as
index_fits byte items fits = fits

pub fits_index : (byte : Option ℕ) (items : List IndexItem) → IsIndex byte items → (index_grammar byte).Fits items
unfolding index_grammar seen_as
fits_index byte items is = is
