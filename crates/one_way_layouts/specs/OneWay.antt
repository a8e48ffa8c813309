-- Grammars that are read in one way: no print begins another, and no two values have one print.
use Rattle.wire_bytes.specs.Kind.{IsReadOneWay}
use Rattle.wire_bytes.specs.Grammar.{Grammar}

-- no print begins another, and no two values have one print
abbrev pub IsOneWay : {V : Type 0} → Grammar V → Type 0
IsOneWay grammar = IsReadOneWay grammar.Fits grammar.print
