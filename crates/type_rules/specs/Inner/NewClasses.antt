-- The class of a new.
use Rattle.std.specs.Prelude.{Option, None}
use Rattle.class_model.specs.PoolChecks.{class_at}
use Rattle.class_model.specs.declared.instr.Instr.{Instr}
use Rattle.class_model.specs.declared.instr.Instr.TheVariants.{New}
use Rattle.class_tree.specs.Headers.{Name}
use Rattle.member_link.specs.Scope.{Scope}

-- the class that an instruction makes an object of, if it is a new
abbrev pub class_made : Scope → Instr → Option Name
class_made s (New index) = class_at s.class.pool index
class_made s other = None
