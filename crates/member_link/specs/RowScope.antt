-- What the typing of one instruction reads, apart from where its code stands (JVM Specification SE 8, 4.10.1): the classes
-- around it, what its constants are, the class and the method that it counts as part of, and the class of each new.
use Rattle.std.specs.Prelude.{ℕ, Bool, Option}
use Rattle.class_model.specs.Pool.{Constants}
use Rattle.class_model.specs.declared.descriptor.FieldType.{FieldType}
use Rattle.class_model.specs.declared.header.Header.{Header}
use Rattle.class_tree.specs.Headers.{Name, Headers}

pub record RowScope : Type 0 where
  -- the classes of the folder and of its library
  pub headers : Headers
  -- the constants that the instruction names by their indices
  pub pool : Constants
  -- the major version of the class whose code has the instruction
  pub major : ℕ
  -- the header of that class, which is the current class
  pub own : Header
  -- the method is an instance initialiser, or a class initialiser
  pub is_init : Bool
  pub is_clinit : Bool
  -- the result that the method declares, if it has one
  pub result : Option FieldType
  -- how many units the operand stack may take
  pub max_stack : ℕ
  -- the class of the new at a place, if a new stands there
  pub new_class : ℕ → Option Name
