-- The class files of the library as values: which constant stands at which index.
use Rattle.std.specs.Prelude.{ℕ, List, [], ◌∷◌, ◌++◌, map, codes, Some, None}
use Rattle.class_model.specs.Methods.{code}
use Rattle.class_model.specs.Names.{init}
use Rattle.class_model.specs.Pool.{Constants}
use Rattle.class_model.specs.declared.class_file.Attr.{Attr}
use Rattle.class_model.specs.declared.class_file.Attr.TheVariants.{Code}
use Rattle.class_model.specs.declared.class_file.ClassFile.{ClassFile}
use Rattle.class_model.specs.declared.class_file.CodePart.{CodePart}
use Rattle.class_model.specs.declared.class_file.Method.{Method}
use Rattle.class_model.specs.declared.opcodes.TheConstants.{ALOAD_0, RETURN, INVOKESPECIAL}
use Rattle.class_model.specs.declared.pool.Const.TheVariants.{Utf8, Class, NameAndType, Methodref}
use Rattle.class_tree.specs.Headers.{Name}
use Rattle.class_tree.specs.Names.{object, cloneable, serializable, throwable, method_handle, method_type, machine_throwables}
use Rattle.work_gen.specs.BaseLibrary.{no_parameters, takes_object, gives_object}

-- of version 52.0; the class's own constant is the second
abbrev pub class_of : Constants → ℕ → ℕ → List Method → ClassFile
class_of pool flags super_class methods = record {
  major = 52;
  minor = 0;
  pool = pool;
  flags = flags;
  this_class = 2;
  super_class = super_class;
  interfaces = [];
  fields = [];
  methods = methods;
  attrs = [];
}

-- a class constant at an even index, behind its name
abbrev pub class_name : ℕ → Name → Constants
class_name index name = Some (Utf8 name) ∷ Some (Class index) ∷ []

-- a class, and its superclass at the fourth index
abbrev pub class_and_super : Name → Name → Constants
class_and_super name super_name = None ∷ (class_name 1 name ++ class_name 3 super_name)

abbrev pub method : ℕ → ℕ → ℕ → List Attr → Method
method flags name desc attrs = record { flags = flags; name = name; desc = desc; attrs = attrs }

abbrev pub code_of : ℕ → List ℕ → CodePart
code_of max_stack bytes =
    record { max_stack = max_stack; max_locals = 1; code = bytes; handlers = []; attrs = [] }

-- a class without members
abbrev pub memberless : ℕ → Name → ClassFile
memberless flags name = class_of (class_and_super name object) flags 4 []

-- the constructor's name, descriptor and code, and the superclass's constructor
abbrev pub thrown_pool : Name → Name → Constants
thrown_pool super_name name =
    class_and_super name super_name ++ Some (Utf8 init) ∷ Some (Utf8 no_parameters)
    ∷ Some (Utf8 code) ∷ Some (NameAndType 5 6) ∷ Some (Methodref 4 8) ∷ []

-- aload_0, invokespecial, return
abbrev pub thrown_code : CodePart
thrown_code = code_of 1 (ALOAD_0 ∷ INVOKESPECIAL ∷ 0 ∷ 9 ∷ RETURN ∷ [])

-- a throwable
abbrev pub thrown : Name → Name → ClassFile
thrown super_name name =
    class_of (thrown_pool super_name name) 0x0021 4
    (method 0x0001 5 6 (Code 7 thrown_code ∷ []) ∷ [])

abbrev pub root_pool : Constants
root_pool =
    None
    ∷ class_name 1 object
    ++ Some (Utf8 init) ∷ Some (Utf8 no_parameters) ∷ Some (Utf8 code)
    ∷ Some (Utf8 (codes "clone")) ∷ Some (Utf8 gives_object) ∷ Some (Utf8 (codes "finalize")) ∷ []

-- return
abbrev pub root_code : CodePart
root_code = code_of 0 (RETURN ∷ [])

abbrev pub root_methods : List Method
root_methods =
    method 0x0001 3 4 (Code 5 root_code ∷ []) ∷ method 0x0104 6 7 [] ∷ method 0x0104 8 4 [] ∷ []

-- java/lang/Object
abbrev pub root : ClassFile
root = class_of root_pool 0x0021 0 root_methods

-- L
abbrev pub keeper : ClassFile
keeper =
    class_of
    (class_and_super (codes "L") object ++ Some (Utf8 (codes "use"))
    ∷ Some (Utf8 (codes "keep")) ∷ Some (Utf8 takes_object) ∷ []) 0x0021 4
    (method 0x0109 5 7 [] ∷ method 0x0109 6 7 [] ∷ [])

-- the classes but for the throwables that instructions raise
abbrev pub named_classes : List ClassFile
named_classes =
    root
    ∷ memberless 0x0601 cloneable
    ∷ memberless 0x0601 serializable
    ∷ memberless 0x0031 (codes "java/lang/String")
    ∷ memberless 0x0031 (codes "java/lang/Class")
    ∷ memberless 0x0021 method_handle
    ∷ memberless 0x0021 method_type
    ∷ keeper
    ∷ thrown object throwable
    ∷ []

-- the library
abbrev pub base_classes : List ClassFile
base_classes = named_classes ++ map (thrown throwable) machine_throwables
