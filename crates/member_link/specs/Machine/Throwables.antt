-- The throwables that the machine raises (JVM Specification SE 8, 2.10 and 6.5).
use Rattle.std.specs.Prelude.{codes}
use Rattle.class_tree.specs.Headers.{Name}

-- a null receiver, array or monitor; athrow of null
abbrev pub null_pointer : Name
null_pointer = codes "java/lang/NullPointerException"

-- a divisor that is zero
abbrev pub arithmetic : Name
arithmetic = codes "java/lang/ArithmeticException"

-- an index outside the array
abbrev pub index_outside : Name
index_outside = codes "java/lang/ArrayIndexOutOfBoundsException"

-- a value that is no instance of an array's component
abbrev pub array_store : Name
array_store = codes "java/lang/ArrayStoreException"

-- a negative length
abbrev pub negative_size : Name
negative_size = codes "java/lang/NegativeArraySizeException"

-- a checkcast that does not hold
abbrev pub class_cast : Name
class_cast = codes "java/lang/ClassCastException"

-- a monitorexit of a monitor that is not entered
abbrev pub illegal_monitor : Name
illegal_monitor = codes "java/lang/IllegalMonitorStateException"

-- a store into a final instance field outside an instance initialiser of its class, and into a final static field outside its class
-- initialiser; a selected method that is not public
abbrev pub illegal_access : Name
illegal_access = codes "java/lang/IllegalAccessError"

-- an interface that the receiver does not implement, and several defaults
abbrev pub incompatible_change : Name
incompatible_change = codes "java/lang/IncompatibleClassChangeError"

-- a selected method that is abstract
abbrev pub abstract_called : Name
abstract_called = codes "java/lang/AbstractMethodError"
