-- Names of classes that linking knows (JVM Specification SE 8, 4.10.1.2 and 6.5), and what flags and member lists say.
use Rattle.std.specs.Prelude.{ℕ, Bool, List, [], ◌∷◌, ◌&&◌, codes, bytes_eq, count_by}
use Rattle.class_model.specs.Members.{has, INTERFACE}
use Rattle.class_model.specs.declared.header.Header.{Header}
use Rattle.class_model.specs.declared.header.Member.{Member}
use Rattle.class_tree.specs.Headers.{Name}

abbrev pub object : Name
object = codes "java/lang/Object"

abbrev pub cloneable : Name
cloneable = codes "java/lang/Cloneable"

abbrev pub serializable : Name
serializable = codes "java/io/Serializable"

abbrev pub throwable : Name
throwable = codes "java/lang/Throwable"

abbrev pub method_handle : Name
method_handle = codes "java/lang/invoke/MethodHandle"

abbrev pub method_type : Name
method_type = codes "java/lang/invoke/MethodType"

-- the throwables that instructions raise, in byte order
abbrev pub machine_throwables : List Name
machine_throwables =
    codes "java/lang/AbstractMethodError"
    ∷ codes "java/lang/ArithmeticException"
    ∷ codes "java/lang/ArrayIndexOutOfBoundsException"
    ∷ codes "java/lang/ArrayStoreException"
    ∷ codes "java/lang/ClassCastException"
    ∷ codes "java/lang/IllegalAccessError"
    ∷ codes "java/lang/IllegalMonitorStateException"
    ∷ codes "java/lang/IncompatibleClassChangeError"
    ∷ codes "java/lang/NegativeArraySizeException"
    ∷ codes "java/lang/NullPointerException"
    ∷ []

-- the classes that each library has, in byte order
abbrev pub base_names : List Name
base_names =
    codes "java/io/Serializable"
    ∷ codes "java/lang/AbstractMethodError"
    ∷ codes "java/lang/ArithmeticException"
    ∷ codes "java/lang/ArrayIndexOutOfBoundsException"
    ∷ codes "java/lang/ArrayStoreException"
    ∷ codes "java/lang/Class"
    ∷ codes "java/lang/ClassCastException"
    ∷ codes "java/lang/Cloneable"
    ∷ codes "java/lang/IllegalAccessError"
    ∷ codes "java/lang/IllegalMonitorStateException"
    ∷ codes "java/lang/IncompatibleClassChangeError"
    ∷ codes "java/lang/NegativeArraySizeException"
    ∷ codes "java/lang/NullPointerException"
    ∷ codes "java/lang/Object"
    ∷ codes "java/lang/String"
    ∷ codes "java/lang/Throwable"
    ∷ []

-- the class is an interface
abbrev pub is_interface : Header → Bool
is_interface header = has header.flags INTERFACE

-- the member has this name and descriptor
abbrev pub is_member : Name → List ℕ → Member → Bool
is_member name desc member = bytes_eq name member.name && bytes_eq desc member.desc

-- how many members have this name
abbrev pub times_named : Name → List Member → ℕ
times_named name members = count_by (λ member. bytes_eq name member.name) members
