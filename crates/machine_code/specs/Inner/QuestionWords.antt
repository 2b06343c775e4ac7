-- Words of the questions that preparing asks of a tree.
use Rattle.std.specs.Prelude.{Bool, true, false, bytes_eq, Option, Some, None}
use Rattle.class_tree.specs.Headers.{Name}
use Rattle.machine_code.specs.declared.prepared_method.Locks.{Locks}
use Rattle.machine_code.specs.declared.prepared_method.Locks.TheVariants as locks

-- the initialiser, if it is any, is that of the class
abbrev pub is_class_of : Option Name → Name → Bool
is_class_of None class = false
is_class_of (Some own) class = bytes_eq own class

-- the monitor that a method enters, by whether it is synchronized and whether it is static
abbrev pub locks_by : Bool → Bool → Locks
locks_by false static = locks.None
locks_by true true = locks.Class
locks_by true false = locks.Receiver
