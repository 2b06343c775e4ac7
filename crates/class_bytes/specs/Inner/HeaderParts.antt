-- What a reader of headers holds of a class file behind its pool, and what that is asked (JVM Specification SE 8, 4.1 to
-- 4.6). Attributes are cut and not kept: of those of a member the length is.
use Rattle.std.specs.Prelude.{◌==◌, ◌+◌, ◌*◌, ℕ, List, [], ◌∷◌, ◌++◌, length, map, Result, Ok, Err, IfSome, IsSome, if◌then◌else◌}
use Rattle.class_model.specs.Checks.{Check, check, Fault, fault, ◌>>=◌}
use Rattle.class_model.specs.Cutting.{Rest, Cut, u2_at, counted_at, attr_at}
use Rattle.class_model.specs.Members.{class_name_checks, super_checks, interfaces_checks}
use Rattle.class_model.specs.Methods.{IsDescriptorOf}
use Rattle.class_model.specs.Names.{IsMethodName, IsFieldName}
use Rattle.class_model.specs.Pool.{Constants}
use Rattle.class_model.specs.PoolChecks.{utf8_at, class_at, text_or_empty, IsFieldDescriptor, InitIsVoid}
use Rattle.class_model.specs.declared.class_file.ClassFile.{ClassFile}
use Rattle.class_model.specs.declared.class_file.Field.{Field}
use Rattle.class_model.specs.declared.class_file.Method.{Method}
use Rattle.class_model.specs.declared.fault.FileRule.TheVariants as rules
use Rattle.class_model.specs.declared.header.Header.{Header}
use Rattle.class_model.specs.declared.header.Member.{Member}
use Rattle.class_bytes.specs.Inner.Cut.{result_seen}
use Rattle.class_bytes.specs.Inner.Parts.{attrs_len}
use Rattle.class_bytes.specs.declared.header_checks.MemberKind.{MemberKind}
use Rattle.class_bytes.specs.declared.header_checks.MemberKind.TheVariants as kinds
use Rattle.class_bytes.specs.declared.header_cutting.CutHeader.{CutHeader}
use Rattle.class_bytes.specs.declared.header_cutting.MemberHead.{MemberHead}

-- ---- cutting

-- the same part seen as another value
abbrev pub cut_seen : {X Y : Type 0} → (X → Y) → Cut X → Cut Y
cut_seen f cut = result_seen (λ part. (f part.0, part.1)) cut

-- attributes behind their count, and how many bytes they take without it
abbrev pub skipped_at : Rest → Cut ℕ
skipped_at rest = cut_seen attrs_len (counted_at attr_at rest)

-- a field or a method
abbrev pub member_head_at : Rest → Cut MemberHead
member_head_at rest = do
  flags ← u2_at rest
  name ← u2_at flags.1
  desc ← u2_at name.1
  attrs ← skipped_at desc.1
  Ok (record { flags = flags.0; name = name.0; desc = desc.0; attrs = attrs.0 }, attrs.1)

-- what stands behind the pool, to the last byte
abbrev pub cut_header_at : Rest → Result CutHeader Fault
cut_header_at rest = do
  flags ← u2_at rest
  this ← u2_at flags.1
  super ← u2_at this.1
  interfaces ← counted_at u2_at super.1
  fields ← counted_at member_head_at interfaces.1
  methods ← counted_at member_head_at fields.1
  attrs ← skipped_at methods.1
  if length attrs.1.bytes == 0 then Ok (record {
    flags = flags.0;
    this_class = this.0;
    super_class = super.0;
    interfaces = interfaces.0;
    fields = fields.0;
    methods = methods.0;
  }) else Err (fault attrs.1.at rules.Extra)

-- what is held of a class file that was cut with its attributes
abbrev pub field_head : Field → MemberHead
field_head field = record {
  flags = field.flags;
  name = field.name;
  desc = field.desc;
  attrs = attrs_len field.attrs;
}

abbrev pub method_head : Method → MemberHead
method_head method = record {
  flags = method.flags;
  name = method.name;
  desc = method.desc;
  attrs = attrs_len method.attrs;
}

abbrev pub cut_header : ClassFile → CutHeader
cut_header c = record {
  flags = c.flags;
  this_class = c.this_class;
  super_class = c.super_class;
  interfaces = c.interfaces;
  fields = map field_head c.fields;
  methods = map method_head c.methods;
}

-- ---- checks, each part from its place on

-- the name and the descriptor of a field, and of a method
abbrev pub field_head_checks : Constants → ℕ → MemberHead → List (Check Fault)
field_head_checks pool at field =
    check (at + 2) rules.Index (IsSome (utf8_at pool field.name))
    ∷ check (at + 2) rules.Name (IfSome (utf8_at pool field.name) IsFieldName)
    ∷ check (at + 4) rules.Index (IsSome (utf8_at pool field.desc))
    ∷ check (at + 4) rules.Descriptor (IfSome (utf8_at pool field.desc) IsFieldDescriptor)
    ∷ []

abbrev pub method_head_checks : Constants → ℕ → MemberHead → List (Check Fault)
method_head_checks pool at method =
    check (at + 2) rules.Index (IsSome (utf8_at pool method.name))
    ∷ check (at + 2) rules.Name (IfSome (utf8_at pool method.name)
    (λ name. IsMethodName name × InitIsVoid name (utf8_at pool method.desc)))
    ∷ check (at + 4) rules.Index (IsSome (utf8_at pool method.desc))
    ∷ check (at + 4) rules.Descriptor
    (IfSome (utf8_at pool method.desc) (IsDescriptorOf method.flags))
    ∷ []

abbrev pub member_checks : MemberKind → Constants → ℕ → MemberHead → List (Check Fault)
member_checks kinds.Field pool at member = field_head_checks pool at member
member_checks kinds.Method pool at member = method_head_checks pool at member

-- members one after the other, and how many bytes they take
abbrev pub members_checks : MemberKind → Constants → ℕ → List MemberHead → List (Check Fault)
members_checks kind pool at [] = []
members_checks kind pool at (member ∷ members) =
    member_checks kind pool at member ++ members_checks kind pool (at + (8 + member.attrs)) members

abbrev pub members_len : List MemberHead → ℕ
members_len [] = 0
members_len (member ∷ members) = 8 + member.attrs + members_len members

-- the head with the count of the interfaces, and the fields and the methods with theirs
abbrev pub header_len : CutHeader → ℕ
header_len head =
    8 + 2 * length head.interfaces + (2 + members_len head.fields) + (2 + members_len head.methods)

-- all of these, the flags of the class at the place
abbrev pub cut_header_checks : Constants → ℕ → CutHeader → List (Check Fault)
cut_header_checks pool at head =
    let fields = at + 8 + 2 * length head.interfaces in
    let methods = fields + 2 + members_len head.fields in
    class_name_checks pool (at + 2) head.this_class
    ++ (super_checks pool (at + 4) head.super_class
    ++ (interfaces_checks pool (at + 8) head.interfaces
    ++ (members_checks kinds.Field pool (fields + 2) head.fields
    ++ members_checks kinds.Method pool (methods + 2) head.methods)))

-- ---- what is kept

-- the name of the class at an index
abbrev pub class_name_in : Constants → ℕ → List ℕ
class_name_in pool index = text_or_empty (class_at pool index)

-- a member, with its name and its descriptor
abbrev pub member_in : Constants → MemberHead → Member
member_in pool member = record {
  flags = member.flags;
  name = text_or_empty (utf8_at pool member.name);
  desc = text_or_empty (utf8_at pool member.desc);
}

abbrev pub header_in : Constants → CutHeader → Header
header_in pool head = record {
  name = class_name_in pool head.this_class;
  flags = head.flags;
  super_name = class_at pool head.super_class;
  interfaces = map (class_name_in pool) head.interfaces;
  fields = map (member_in pool) head.fields;
  methods = map (member_in pool) head.methods;
}
