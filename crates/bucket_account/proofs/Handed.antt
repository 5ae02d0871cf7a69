-- Errors that are handed on.
use Rattle.std.proofs.Common.{◌≡◌, ap, sym}
use Rattle.std.specs.Prelude.{Result, Ok, Err, OnOk, OnErr}
use Rattle.std.specs.Result.{IsErrAnd}
use Rattle.office_types.specs.declared.refusal.Refusal.{Refusal}

pub on_err : {T E : Type 0} (result : Result T E) (P : Type 0) → P → OnErr result P
on_err (Ok x) P holds = tt
on_err (Err e) P holds = holds

-- an error that was handed on
pub err_of : {T : Type 0} (r : Result T Refusal) (refusal : Refusal) → IsErrAnd r (λ other. other ≡ refusal) → Err refusal ≡ r
err_of (Ok x) refusal same = absurd same
err_of (Err other) refusal same = ap (λ (e : Refusal). Err e) (sym same)

-- what follows if the call was accepted, and if it was refused
pub ok_then : {T E : Type 0} (result : Result T E) (P Q : Type 0) → (P → Q) → OnOk result P → OnOk result Q
ok_then (Ok x) P Q f holds = f holds
ok_then (Err e) P Q f holds = holds

pub err_then : {T E : Type 0} (result : Result T E) (P Q : Type 0) → (P → Q) → OnErr result P → OnErr result Q
err_then (Ok x) P Q f holds = holds
err_then (Err e) P Q f holds = f holds
