-- The classes of generated work and of its library as headers, in byte order of their names.
use Rattle.std.proofs.Common.{ℕ, List, [], ◌∷◌, Option, Some, None, codes}
use Rattle.class_model.specs.Names.{init}
use Rattle.class_model.specs.declared.header.Header.{Header}
use Rattle.class_model.specs.declared.header.Member.{Member}
use Rattle.class_tree.specs.Headers.{Headers, Name}
use Rattle.class_tree.specs.Names.{cloneable, method_handle, method_type, object, serializable, throwable}
use Rattle.work_gen.specs.BaseLibrary.{gives_object, no_parameters, takes_object}

-- ---- the library

abbrev pub member : ℕ → List ℕ → List ℕ → Member
member flags name desc = record { flags = flags; name = name; desc = desc }

abbrev class : Name → ℕ → Option Name → List Member → Header
class name flags super_name methods = record {
  name = name;
  flags = flags;
  super_name = super_name;
  interfaces = [];
  fields = [];
  methods = methods;
}

abbrev pub constructor : Member
constructor = member 0x0001 init no_parameters

abbrev thrown : Name → Name → Header
thrown super_name name = class name 0x0021 (Some super_name) (constructor ∷ [])

abbrev pub root_header : Header
root_header =
    class object 0x0021 None
    (constructor ∷ member 0x0104 (codes "clone") gives_object
    ∷ member 0x0104 (codes "finalize") no_parameters ∷ [])

abbrev pub use_member : Member
use_member = member 0x0109 (codes "use") takes_object

abbrev pub keeper_header : Header
keeper_header = class (codes "L") 0x0021 (Some object) (use_member ∷ member 0x0109 (codes "keep") takes_object ∷ [])

abbrev pub throwable_header : Header
throwable_header = thrown object throwable

abbrev pub library : List Header
library =
    keeper_header
    ∷ class serializable 0x0601 (Some object) []
    ∷ thrown throwable (codes "java/lang/AbstractMethodError")
    ∷ thrown throwable (codes "java/lang/ArithmeticException")
    ∷ thrown throwable (codes "java/lang/ArrayIndexOutOfBoundsException")
    ∷ thrown throwable (codes "java/lang/ArrayStoreException")
    ∷ class (codes "java/lang/Class") 0x0031 (Some object) []
    ∷ thrown throwable (codes "java/lang/ClassCastException")
    ∷ class cloneable 0x0601 (Some object) []
    ∷ thrown throwable (codes "java/lang/IllegalAccessError")
    ∷ thrown throwable (codes "java/lang/IllegalMonitorStateException")
    ∷ thrown throwable (codes "java/lang/IncompatibleClassChangeError")
    ∷ thrown throwable (codes "java/lang/NegativeArraySizeException")
    ∷ thrown throwable (codes "java/lang/NullPointerException")
    ∷ root_header
    ∷ class (codes "java/lang/String") 0x0031 (Some object) []
    ∷ throwable_header
    ∷ class method_handle 0x0021 (Some object) []
    ∷ class method_type 0x0021 (Some object) []
    ∷ []

-- ---- the folder

abbrev pub x_field : Member
x_field = member 0 (codes "x") (codes "I")

abbrev pub y_field : Member
y_field = member 0 (codes "y") (codes "I")

abbrev pub point_constructor : Member
point_constructor = member 0 init (codes "(II)V")

abbrev pub y_method : Member
y_method = member 0 (codes "y") (codes "()I")

abbrev pub point_header : Header
point_header = record {
  name = codes "P";
  flags = 0x0020;
  super_name = Some object;
  interfaces = [];
  fields = x_field ∷ y_field ∷ [];
  methods = point_constructor ∷ y_method ∷ [];
}

-- the class of the generated methods
abbrev pub work_header : List Member → Header
work_header methods = class (codes "G") 0x0021 (Some object) methods

-- all, where it has these methods
abbrev pub headers : List Member → Headers
headers methods = record { folder = work_header methods ∷ point_header ∷ []; library = library }
