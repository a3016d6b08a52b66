-- What a successful call promises.
use Rattle.std.specs.Prelude.{IfOk, Result, Ok, Err}

pub if_ok : {T E : Type 0} {P Q : T → Type 0} (r : Result T E) → IfOk r P → ((x : T) → P x → Q x) → IfOk r Q
if_ok (Ok x) is step = step x is
if_ok (Err e) is step = tt
