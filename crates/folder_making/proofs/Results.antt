-- What holds of a call that was carried out holds of what is handed on.
use Rattle.std.specs.Prelude.{Result, Ok, Err, OnOk}

pub on_ok : {A E P Q : Type 0} (result : Result A E) → OnOk result P → (P → Q) → OnOk result Q
on_ok (Ok x) h f = f h
on_ok (Err e) h f = tt
