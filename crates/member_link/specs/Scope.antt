-- The method in which an instruction stands.
use Rattle.std.specs.Prelude.{◌==◌, ℕ, Bool, List, [], ◌∷◌, slice_get, Option, None, Result, Ok, Err, option_map, option_and_then, if◌then◌else◌}
use Rattle.class_model.specs.Checks.{Fault}
use Rattle.class_model.specs.Header.{header_of}
use Rattle.class_model.specs.Instructions.{decoded}
use Rattle.class_model.specs.Members.{is_text}
use Rattle.class_model.specs.MethodCode.{code_of}
use Rattle.class_model.specs.Names.{clinit, init}
use Rattle.class_model.specs.PoolChecks.{utf8_at, class_at, text_or_empty}
use Rattle.class_model.specs.declared.class_file.ClassFile.{ClassFile}
use Rattle.class_model.specs.declared.class_file.CodePart.{CodePart}
use Rattle.class_model.specs.declared.class_file.Method.{Method}
use Rattle.class_model.specs.declared.class_file.MethodAt.{MethodAt}
use Rattle.class_model.specs.declared.instr.Instr.{Instr}
use Rattle.class_model.specs.declared.instr.Instr.TheVariants.{New}
use Rattle.class_model.specs.declared.instr.Placed.{Placed}
use Rattle.class_tree.specs.Headers.{Name, Classes, Headers, headers_of}
use Rattle.member_link.specs.RowScope.{RowScope}
use Rattle.member_link.specs.Signatures.{result_of}

-- the classes, the class file, its method, and the method's code
pub record Scope : Type 0 where
  pub headers : Headers
  pub class : ClassFile
  pub method : Method
  pub part : CodePart

-- ---- where a method stands

abbrev pub scope_of : Headers → ClassFile → Method → Option Scope
scope_of headers class method =
    option_map (λ part. record {
      headers = headers;
      class = class;
      method = method;
      part = part;
    }) (code_of method.attrs)

-- the method at its numbers, where it is there and has code
abbrev pub scope_at : Classes → MethodAt → Option Scope
scope_at classes at =
    option_and_then (λ class. option_and_then (scope_of (headers_of classes) class)
    (slice_get class.methods at.method)) (slice_get classes.folder at.class)

-- ---- what is said of it

-- the method is an instance initialiser
abbrev pub is_init : Scope → Bool
is_init s = is_text init (utf8_at s.class.pool s.method.name)

-- the method's descriptor
abbrev pub own_descriptor : Scope → List ℕ
own_descriptor s = text_or_empty (utf8_at s.class.pool s.method.desc)

-- the method's instructions
abbrev pub instructions : Scope → List Placed
instructions s = or_none (decoded s.part.code) where
  or_none : Result (List Placed) Fault → List Placed
  or_none (Ok instrs) = instrs
  or_none (Err fault) = []

-- the class of the new at an offset, if a new stands there
abbrev pub class_of_new : Scope → ℕ → Option Name
class_of_new s at = new_in (instructions s) where
  named : Instr → Option Name
  named (New index) = class_at s.class.pool index
  named other = None

  new_in : List Placed → Option Name
  new_in [] = None
  new_in (placed ∷ others) = if placed.at == at then named placed.instr else new_in others

-- the method is a class initialiser
abbrev pub is_clinit : Scope → Bool
is_clinit s = is_text clinit (utf8_at s.class.pool s.method.name)

-- ---- what its rows read

abbrev pub row_scope : Scope → RowScope
row_scope s = record {
  headers = s.headers;
  pool = s.class.pool;
  major = s.class.major;
  own = header_of s.class;
  is_init = is_init s;
  is_clinit = is_clinit s;
  result = result_of (own_descriptor s);
  max_stack = s.part.max_stack;
  new_class = class_of_new s;
}
