-- The parts of a class file as the reader holds them, and the values that they stand for.
use Rattle.std.specs.Prelude.{List, map, Result, Ok, Err}
use Rattle.std.specs.Option.{option_copied}
use Rattle.class_model.specs.Cutting as cutting
use Rattle.class_model.specs.Methods as methods
use Rattle.class_model.specs.Pool.{Constants}
use Rattle.class_model.specs.declared.class_file.Attr.{Attr}
use Rattle.class_model.specs.declared.class_file.Attr.TheVariants.{Raw}
use Rattle.class_model.specs.declared.class_file.ClassFile.{ClassFile}
use Rattle.class_model.specs.declared.class_file.CodePart.{CodePart}
use Rattle.class_model.specs.declared.class_file.Field.{Field}
use Rattle.class_model.specs.declared.class_file.InnerAttr.{InnerAttr}
use Rattle.class_model.specs.declared.class_file.Method.{Method}
use Rattle.class_bytes.specs.declared.cut.CutAttr.{CutAttr}
use Rattle.class_bytes.specs.declared.cut.CutBody.{CutBody}
use Rattle.class_bytes.specs.declared.cut.CutMember.{CutMember}
use Rattle.class_bytes.specs.declared.cut.CutPart.{CutPart}
use Rattle.class_bytes.specs.declared.cut.Version.{Version}
use Rattle.class_bytes.specs.declared.home.Home.{Home}

-- the same answer of a value seen as another
abbrev pub result_seen : {A B E : Type 0} → (A → B) → Result A E → Result B E
result_seen f (Ok x) = Ok (f x)
result_seen f (Err e) = Err e

abbrev pub version_of : Version → cutting.Version
version_of version = record { minor = version.minor; major = version.major }

-- an attribute of a class or a member, and one of a code
abbrev pub attr_of : CutAttr → Attr
attr_of attr = Raw attr.name attr.content.now

abbrev pub inner_of : CutAttr → InnerAttr
inner_of attr = record { name = attr.name; bytes = attr.content.now }

abbrev pub attrs_of : List CutAttr → List Attr
attrs_of attrs = map attr_of attrs

abbrev pub inners_of : List CutAttr → List InnerAttr
inners_of attrs = map inner_of attrs

-- a member as a field, and as a method
abbrev pub field_of : CutMember → Field
field_of member = record {
  flags = member.flags;
  name = member.name;
  desc = member.desc;
  attrs = attrs_of member.attrs;
}

abbrev pub method_of : CutMember → Method
method_of member = record {
  flags = member.flags;
  name = member.name;
  desc = member.desc;
  attrs = attrs_of member.attrs;
}

abbrev pub fields_of : List CutMember → List Field
fields_of members = map field_of members

abbrev pub methods_of : List CutMember → List Method
methods_of members = map method_of members

-- the content of a Code attribute
abbrev pub part_of : CutPart → CodePart
part_of part = record {
  max_stack = part.max_stack;
  max_locals = part.max_locals;
  code = part.code.now;
  handlers = part.handlers;
  attrs = inners_of part.attrs;
}

-- the class file, with its pool
abbrev pub class_of : Constants → CutBody → ClassFile
class_of pool body = record {
  major = body.version.major;
  minor = body.version.minor;
  pool = pool;
  flags = body.flags;
  this_class = body.this_class;
  super_class = body.super_class;
  interfaces = body.interfaces;
  fields = fields_of body.fields;
  methods = methods_of body.methods;
  attrs = attrs_of body.attrs;
}

-- the class that a method stands in
abbrev pub home_seen : Home → methods.Home
home_seen home = record {
  pool = home.pool.now;
  major = home.major;
  flags = home.flags;
  name = option_copied home.name;
}
