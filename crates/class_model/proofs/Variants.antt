-- What is said of one variant alone.
use Rattle.std.proofs.Common.{◌≡◌, Option, Some, None, IfNone, Result, Ok, Err, sym, ap, ◌∙◌}
use Rattle.std.specs.Result.{IsErrOf, IsErrAnd}

-- a fact serves where there is no value
pub if_none : {A : Type 0} {P : Type 0} (option : Option A) → P → IfNone option P
if_none None fact = fact
if_none (Some value) fact = tt

-- a ? passes on the error
pub passed_on : {A B E : Type 0} (result : Result A E) (error bad : E) → IsErrAnd result (λ e. e ≡ error) → IsErrOf result bad → IsErrOf {T = B} (Err error) bad
passed_on (Ok value) error bad is of = absurd is
passed_on (Err e) error bad is of = let same : e ≡ bad = cc in ap Err (sym is ∙ same)
