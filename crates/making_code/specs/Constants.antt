-- Constants that written code needs, by what they mean, and the constant pool that grows by them at its end (JVM Specification SE 8, 4.4).
-- It is this project's profile.
use Rattle.std.specs.Prelude.{ℕ, suc, ◌+◌, List, [], ◌∷◌, ◌++◌, length, nat_le, Option, Some, None, option_and_then, if◌then◌else◌}
use Rattle.class_model.specs.Names.{init}
use Rattle.class_model.specs.Pool.{Constants, constant_at, entries_of}
use Rattle.class_model.specs.PoolChecks.{class_at, descriptor_at, name_at, utf8_at}
use Rattle.class_model.specs.contracts.pool.ConstPartialEq.TheImpl.{ghosts as comparison}
use Rattle.class_model.specs.declared.pool.Const.{Const}
use Rattle.class_model.specs.declared.pool.Const.TheVariants.{Utf8, Integer, Float, Long, Double, Class, String, Fieldref, Methodref, InterfaceMethodref, NameAndType}
use Rattle.class_tree.specs.Headers.{Name}

-- ---- what is needed

-- what a reference to a member is
pub data MemberKind : Type 0 where
  of_field : MemberKind
  of_method : MemberKind
  of_interface_method : MemberKind

pub data Need : Type 0 where
  -- a constant that names no other one
  needs_itself : Const → Need
  needs_class : Name → Need
  needs_string : List ℕ → Need
  needs_name_and_type : List ℕ → List ℕ → Need
  -- a reference to a member, by its class, name and descriptor
  needs_member : MemberKind → Name → List ℕ → List ℕ → Need

-- ---- indices

-- the smallest index, from one on, of an entry that equals a constant
abbrev pub index_from : ℕ → Const → Constants → Option ℕ
index_from index constant [] = None
index_from index constant (None ∷ entries) = index_from (suc index) constant entries
index_from index constant (Some one ∷ entries) =
    if comparison.eq one constant then Some index else index_from (suc index) constant entries

abbrev pub index_of : Constants → Const → Option ℕ
index_of pool constant = index_from 0 constant pool

-- the same, or 0
abbrev pub index_or_zero : Constants → Const → ℕ
index_or_zero pool constant = or_zero (index_of pool constant) where
  or_zero : Option ℕ → ℕ
  or_zero None = 0
  or_zero (Some index) = index

-- the constant that is needed, in a pool that has what it names
abbrev pub text_index : Constants → List ℕ → ℕ
text_index pool text = index_or_zero pool (Utf8 text)

abbrev pub class_index : Constants → Name → ℕ
class_index pool name = index_or_zero pool (Class (text_index pool name))

abbrev pub name_and_type_index : Constants → List ℕ → List ℕ → ℕ
name_and_type_index pool name desc =
    index_or_zero pool (NameAndType (text_index pool name) (text_index pool desc))

abbrev pub reference_of_kind : MemberKind → ℕ → ℕ → Const
reference_of_kind of_field class member = Fieldref class member
reference_of_kind of_method class member = Methodref class member
reference_of_kind of_interface_method class member = InterfaceMethodref class member

abbrev pub constant_of : Constants → Need → Const
constant_of pool (needs_itself constant) = constant
constant_of pool (needs_class name) = Class (text_index pool name)
constant_of pool (needs_string text) = String (text_index pool text)
constant_of pool (needs_name_and_type name desc) =
    NameAndType (text_index pool name) (text_index pool desc)
constant_of pool (needs_member kind class name desc) =
    reference_of_kind kind (class_index pool class) (name_and_type_index pool name desc)

-- the smallest index of what is needed
abbrev pub index_in : Constants → Need → ℕ
index_in pool need = index_or_zero pool (constant_of pool need)

-- ---- growth

-- the pool with a constant, which is appended where no entry equals it; None where that would take the count past a limit
abbrev pub with_constant : ℕ → Constants → Const → Option Constants
with_constant limit pool constant = by_index (index_of pool constant) where
  by_index : Option ℕ → Option Constants
  by_index (Some index) = Some pool
  by_index None =
      if nat_le (length pool + length (entries_of constant)) limit
      then Some (pool ++ entries_of constant)
      else None

abbrev pub grow : ℕ → Constants → List Need → Option Constants
grow limit pool [] = Some pool
grow limit pool (need ∷ needs) =
    option_and_then (λ more. grow limit more needs)
    (with_constant limit pool (constant_of pool need))

-- ---- needs, inner ones first

abbrev pub needs_text : List ℕ → List Need
needs_text text = needs_itself (Utf8 text) ∷ []

abbrev pub class_needs : Name → List Need
class_needs name = needs_text name ++ (needs_class name ∷ [])

abbrev pub string_needs : List ℕ → List Need
string_needs text = needs_text text ++ (needs_string text ∷ [])

abbrev pub name_and_type_needs : List ℕ → List ℕ → List Need
name_and_type_needs name desc =
    needs_text name ++ needs_text desc ++ (needs_name_and_type name desc ∷ [])

abbrev pub member_needs : MemberKind → Name → List ℕ → List ℕ → List Need
member_needs kind class name desc =
    class_needs class
    ++ name_and_type_needs name desc
    ++ (needs_member kind class name desc ∷ [])

-- the call of a class's field constructor, whose descriptor this is
abbrev pub constructor_needs : Name → List ℕ → List Need
constructor_needs class desc = member_needs of_method class init desc

-- what a constant of another pool means. Constants that only stay in their own class need nothing here.
abbrev pub needs_of_reference :
    MemberKind → Option Name → Option (List ℕ) → Option (List ℕ) → List Need
needs_of_reference kind (Some class) (Some name) (Some desc) = member_needs kind class name desc
needs_of_reference kind class name desc = []

abbrev pub needs_of_class : Option Name → List Need
needs_of_class None = []
needs_of_class (Some name) = class_needs name

abbrev pub needs_of_string : Option (List ℕ) → List Need
needs_of_string None = []
needs_of_string (Some text) = string_needs text

abbrev pub needs_of_constant : Constants → Option Const → List Need
needs_of_constant pool (Some (Class name)) = needs_of_class (utf8_at pool name)
needs_of_constant pool (Some (String text)) = needs_of_string (utf8_at pool text)
needs_of_constant pool (Some (Integer number)) = needs_itself (Integer number) ∷ []
needs_of_constant pool (Some (Float bits)) = needs_itself (Float bits) ∷ []
needs_of_constant pool (Some (Long number)) = needs_itself (Long number) ∷ []
needs_of_constant pool (Some (Double bits)) = needs_itself (Double bits) ∷ []
needs_of_constant pool (Some (Fieldref class member)) =
    needs_of_reference of_field (class_at pool class) (name_at pool member)
    (descriptor_at pool member)
needs_of_constant pool (Some (Methodref class member)) =
    needs_of_reference of_method (class_at pool class) (name_at pool member)
    (descriptor_at pool member)
needs_of_constant pool (Some (InterfaceMethodref class member)) =
    needs_of_reference of_interface_method (class_at pool class) (name_at pool member)
    (descriptor_at pool member)
needs_of_constant pool constant = []

-- those of what an index names
abbrev pub needs_at : Constants → ℕ → List Need
needs_at pool index = needs_of_constant pool (constant_at pool index)

-- the last of them, which is what the index names
abbrev pub last_need : List Need → Option Need
last_need [] = None
last_need (need ∷ []) = Some need
last_need (need ∷ other ∷ needs) = last_need (other ∷ needs)
