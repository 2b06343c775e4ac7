-- What a clause says of an answer, where one thing follows from another.
use Rattle.std.proofs.Common.{Result, Ok, Err, IfOk, OnOk}

pub on_ok : {A E P Q : Type 0} (result : Result A E) → (P → Q) → OnOk result P → OnOk result Q
on_ok (Ok value) more holds = more holds
on_ok (Err fault) more holds = tt

pub if_ok : {A E : Type 0} {P Q : A → Type 0} (result : Result A E) → ((value : A) → P value → Q value) → IfOk result P → IfOk result Q
if_ok (Ok value) more holds = more value holds
if_ok (Err fault) more holds = tt
