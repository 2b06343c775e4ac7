-- Class files whose numbers fit the items of two bytes that spell them (JVM Specification SE 8, 4.1 and 4.4 to 4.7), as those of
-- each value that a program holds do.
use Rattle.std.specs.List.{AllByRecursion}
use Rattle.class_model.specs.Pool.{IsPool}
use Rattle.class_model.specs.declared.class_file.Attr.{Attr}
use Rattle.class_model.specs.declared.class_file.Attr.TheVariants.{Raw, Code}
use Rattle.class_model.specs.declared.class_file.ClassFile.{ClassFile}
use Rattle.class_model.specs.declared.class_file.CodePart.{CodePart}
use Rattle.class_model.specs.declared.class_file.Field.{Field}
use Rattle.class_model.specs.declared.class_file.Handler.{Handler}
use Rattle.class_model.specs.declared.class_file.InnerAttr.{InnerAttr}
use Rattle.class_model.specs.declared.class_file.Method.{Method}
use Rattle.pool_bytes.specs.Items.{IsU2, PoolFits}

abbrev pub InnerNumber : InnerAttr → Type 0
InnerNumber attr = IsU2 attr.name

pub record HandlerNumbers (handler : Handler) : Type 0 where
  pub start : IsU2 handler.start
  pub end : IsU2 handler.end
  pub at : IsU2 handler.at
  pub catch_type : IsU2 handler.catch_type

-- the parts of a Code attribute
pub record PartNumbers (part : CodePart) : Type 0 where
  pub max_stack : IsU2 part.max_stack
  pub max_locals : IsU2 part.max_locals
  pub handlers : AllByRecursion HandlerNumbers part.handlers
  pub attrs : AllByRecursion InnerNumber part.attrs

abbrev pub AttrNumbers : Attr → Type 0
AttrNumbers (Raw name bytes) = IsU2 name
AttrNumbers (Code name part) = IsU2 name × PartNumbers part

pub record FieldNumbers (field : Field) : Type 0 where
  pub flags : IsU2 field.flags
  pub name : IsU2 field.name
  pub desc : IsU2 field.desc
  pub attrs : AllByRecursion AttrNumbers field.attrs

pub record MethodNumbers (method : Method) : Type 0 where
  pub flags : IsU2 method.flags
  pub name : IsU2 method.name
  pub desc : IsU2 method.desc
  pub attrs : AllByRecursion AttrNumbers method.attrs

-- what stands behind the pool
pub record BodyNumbers (c : ClassFile) : Type 0 where
  pub flags : IsU2 c.flags
  pub this_class : IsU2 c.this_class
  pub super_class : IsU2 c.super_class
  pub interfaces : AllByRecursion IsU2 c.interfaces
  pub fields : AllByRecursion FieldNumbers c.fields
  pub methods : AllByRecursion MethodNumbers c.methods
  pub attrs : AllByRecursion AttrNumbers c.attrs

-- the whole class file
pub record FitsNumbers (c : ClassFile) : Type 0 where
  pub major : IsU2 c.major
  pub minor : IsU2 c.minor
  pub pool : IsPool c.pool
  pub constants : PoolFits c.pool
  pub body : BodyNumbers c
