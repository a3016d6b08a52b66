-- Results that may have no text.
use Rattle.std.proofs.Common.{Option, Some, None, Result, Ok, Err, IfOk, IfSome, IfNone}

pub some_as : {X E : Type 0} (result : Result (Option X) E) (P Q : X → Type 0) → ((x : X) → P x → Q x)
    → IfOk result (λ s. IfSome s P) → IfOk result (λ s. IfSome s Q)
some_as (Ok None) P Q to is = tt
some_as (Ok (Some x)) P Q to is = to x is
some_as (Err e) P Q to is = tt

pub none_as : {X E : Type 0} (result : Result (Option X) E) (P Q : Type 0) → (P → Q) → IfOk result (λ s. IfNone s P) → IfOk result (λ s. IfNone s Q)
none_as (Ok None) P Q to is = to is
none_as (Ok (Some x)) P Q to is = tt
none_as (Err e) P Q to is = tt

pub ok_as : {X E : Type 0} (result : Result X E) (P Q : X → Type 0) → ((x : X) → P x → Q x) → IfOk result P → IfOk result Q
ok_as (Ok x) P Q to is = to x is
ok_as (Err e) P Q to is = tt
