-- The exception table of a method (JVM Specification SE 8, 4.10.1.6).
use Rattle.std.specs.Prelude.{◌==◌, ◌&&◌, nat_le, nat_lt, ℕ, Bool, List, [], ◌∷◌, Option, Some, if◌then◌else◌}
use Rattle.class_model.specs.PoolChecks.{class_at}
use Rattle.class_model.specs.declared.class_file.Handler.{Handler}
use Rattle.class_tree.specs.Headers.{Name}
use Rattle.class_tree.specs.Names.{throwable}
use Rattle.member_link.specs.Bodies.{BodyCatch, BodyCaught}
use Rattle.member_link.specs.Scope.{Scope}

-- the class that a handler catches: any throwable, or one of the pool
abbrev pub caught : Scope → Handler → Option Name
caught s handler =
    if handler.catch_type == 0 then Some throwable else class_at s.class.pool handler.catch_type

-- the range of a handler has an offset
abbrev pub covers : Handler → ℕ → Bool
covers handler at = nat_le handler.start at && nat_lt at handler.end

-- ---- as a body has it

abbrev pub catch_of : Scope → Handler → BodyCatch
catch_of s handler = record { to = handler.at; class = caught s handler }

-- the handlers whose range has an offset, in table order
abbrev pub catches_at : Scope → ℕ → List Handler → List BodyCatch
catches_at s at [] = []
catches_at s at (handler ∷ handlers) =
    if covers handler at
    then catch_of s handler ∷ catches_at s at handlers
    else catches_at s at handlers

abbrev pub caught_in : Scope → Handler → BodyCaught
caught_in s handler = record { start = handler.start; class = caught s handler }
