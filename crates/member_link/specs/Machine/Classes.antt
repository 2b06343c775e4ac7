-- The program of a folder of class files and its library.
use Rattle.std.specs.Prelude.{ℕ, zero, suc, List, [], ◌∷◌, ◌++◌, map, Option, Some, None, option_map, if◌then◌else◌}
use Rattle.std.specs.List.{flat_map}
use Rattle.class_model.specs.Header.{header_of, method_member}
use Rattle.class_model.specs.Instructions.{u2_in}
use Rattle.class_model.specs.Members.{has, STATIC, constant_value, is_named, raw_content}
use Rattle.class_model.specs.Pool.{Constants, constant_at}
use Rattle.class_model.specs.PoolChecks.{utf8_at}
use Rattle.class_model.specs.declared.class_file.Attr.{Attr}
use Rattle.class_model.specs.declared.class_file.ClassFile.{ClassFile}
use Rattle.class_model.specs.declared.class_file.Field.{Field}
use Rattle.class_model.specs.declared.class_file.Method.{Method}
use Rattle.class_model.specs.declared.pool.Const.{Const}
use Rattle.class_model.specs.declared.pool.Const.TheVariants as consts
use Rattle.class_tree.specs.Headers.{Classes, Headers, headers_of}
use Rattle.machine_values.specs.declared.object.Constant.{Constant}
use Rattle.machine_values.specs.declared.value.Value.TheVariants as values
use Rattle.member_link.specs.Machine.Codes.{method_code, handle_of}
use Rattle.member_link.specs.Machine.Programs.{Program, RunClass, RunMethod, Links, StaticStart, StartValue, start_value, start_string}
use Rattle.member_link.specs.Scope.{scope_of}

-- ---- static fields (4.7.2)

-- the first attribute that is a ConstantValue, as the constant that it names
abbrev pub constant_of : Constants → List Attr → Option Const
constant_of pool [] = None
constant_of pool (attr ∷ attrs) =
    if is_named pool constant_value attr
    then constant_at pool (u2_in (raw_content attr) 0)
    else constant_of pool attrs

abbrev pub start_of : Constants → Option Const → Option StartValue
start_of pool (Some (consts.Integer number)) = Some (start_value (values.Int number))
start_of pool (Some (consts.Long number)) = Some (start_value (values.Long number))
start_of pool (Some (consts.Float bits)) = Some (start_value (values.Float bits))
start_of pool (Some (consts.Double bits)) = Some (start_value (values.Double bits))
start_of pool (Some (consts.String text)) = option_map start_string (utf8_at pool text)
start_of pool constant = None

-- the static fields with a ConstantValue, from the number of the first on
abbrev pub starts_from : Constants → ℕ → List Field → List StaticStart
starts_from pool number [] = []
starts_from pool number (field ∷ fields) =
    start_in (if has field.flags STATIC then start_of pool (constant_of pool field.attrs) else None)
    ++ starts_from pool (suc number) fields
  where
    start_in : Option StartValue → List StaticStart
    start_in None = []
    start_in (Some value) = record { field = number; value = value } ∷ []

-- ---- classes

-- the method handles of a pool
abbrev pub handles_in : Constants → List (Option Const) → List Constant
handles_in pool entries = flat_map handle entries where
  some : Option Constant → List Constant
  some None = []
  some (Some constant) = constant ∷ []

  handle : Option Const → List Constant
  handle (Some (consts.MethodHandle kind reference)) = some (handle_of pool kind reference)
  handle entry = []

abbrev pub run_method_of : Links → Headers → ClassFile → Method → RunMethod
run_method_of links headers class method = record {
  member = method_member class.pool method;
  code = option_map (method_code links) (scope_of headers class method);
}

abbrev pub run_class_of : Links → Headers → ClassFile → RunClass
run_class_of links headers class = record {
  header = header_of class;
  methods = map (run_method_of links headers class) class.methods;
  starts = starts_from class.pool zero class.fields;
  handles = handles_in class.pool class.pool;
}

-- what a folder and its library run, by the links of their hierarchy
abbrev pub program_of : Classes → Links → Program
program_of classes links = record {
  classes = map (run_class_of links (headers_of classes)) classes.folder;
  library = classes.library;
  links = links;
}
