-- What holds of a result's value.
use Rattle.std.specs.Prelude.{Result, Ok, Err, IfOk}

pub ok_weaker :
    {T E : Type 0} {Holds Wanted : T → Type 0} (result : Result T E)
    → ((value : T) → Holds value → Wanted value) → IfOk result Holds → IfOk result Wanted
ok_weaker (Ok value) from holds = from value holds
ok_weaker (Err error) from holds = tt
