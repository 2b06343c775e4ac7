-- How many local units a called method has, and which monitor it enters.
use Rattle.std.proofs.Common.{◌≡◌, List, Some, None, refl, ap, ◌∙◌}
use Rattle.class_model.specs.declared.class_file.MethodAt.{MethodAt}
use Rattle.machine_values.specs.declared.value.Value.{Value}
use Rattle.member_link.specs.Machine.Performing.{Locking, locked, locked_by}
use Rattle.member_link.specs.Machine.Programs.{Program, code_at, name_of_class}
use Rattle.member_link.specs.Machine.Worlds.{Memory}
use Rattle.machine_code.specs.Prepared.{IsPrepared, IsTraitsOf, locking}
use Rattle.machine_code.specs.declared.prepared_method.Locks.{Locks}
use Rattle.machine_code.specs.declared.prepared_method.MethodTraits.{MethodTraits}
use Rattle.machine_code.specs.declared.prepared_method.PreparedMethod.{PreparedMethod}
use Rattle.machine_run.specs.Inner.CallWords.{units_of_code}

-- ---- local units, by the code that is prepared

pub units_prepared :
    (P : Program) (at : MethodAt) (prepared : PreparedMethod)
    → IsPrepared P at prepared
    → prepared.locals ≡ units_of_code (code_at P at)
units_prepared P at prepared is = rw (is.there, is.has_code) is.locals

pub no_units :
    (P : Program) (at : MethodAt) → code_at P at ≡ None → 0 ≡ units_of_code (code_at P at)
no_units P at none = rw none refl

-- ---- monitors

pub locked_by_traits :
    (P : Program) (memory : Memory) (at : MethodAt) (values : List Value) (traits : MethodTraits) (locks : Locks)
    → IsTraitsOf P at (Some traits)
    → traits.locks ≡ locks
    → locked P memory at values
    ≡ locked_by memory (name_of_class P at.class) (locking locks) values
locked_by_traits P memory at values traits locks is same =
    rw is.1
    (ap (λ (l : Locking). locked_by memory (name_of_class P at.class) l values) (is.2.locks ∙ ap locking same))
