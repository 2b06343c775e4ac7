-- The operands of a field constructor's instructions fit: its locals are there, and its constants are of their kinds.
use Rattle.std.proofs.Common.{◌++◌, ◌+◌, ◌≤◌, ℕ, Bool, true, false, if◌then◌else◌, bytes_eq, List, [], ◌∷◌, map, inl, inr, refl, sym, subst, arith}
use Rattle.std.specs.List.{AllByRecursion}
use Rattle.class_model.specs.Code.{FitsLocal, IsCalled, OperandFits}
use Rattle.class_model.specs.Descriptors.{kind_of, type_of, units_of}
use Rattle.class_model.specs.Pool.{Constants, constant_at}
use Rattle.class_model.specs.PoolChecks.{IsFieldConstant, IsMethodConstant}
use Rattle.class_model.specs.declared.descriptor.Kind.{Kind}
use Rattle.class_model.specs.declared.descriptor.Kind.TheVariants as kinds
use Rattle.class_model.specs.declared.header.Member.{Member}
use Rattle.class_model.specs.declared.instr.Imm.TheVariants as imms
use Rattle.class_model.specs.declared.instr.Instr.TheVariants.{Const, Load}
use Rattle.class_model.specs.declared.opcodes.TheConstants.{INVOKESPECIAL}
use Rattle.class_tree.specs.Headers.{Headers, Name}
use Rattle.class_tree.specs.Layouts.{instance_fields}
use Rattle.class_tree.specs.Names.{object}
use Rattle.making_code.specs.Constants.{of_field, of_method}
use Rattle.making_code.specs.ConstructorCode.{indexed_instr}
use Rattle.making_code.specs.FieldConstructor.{CInstr, calls_constructor, calls_object, loads_from, puts_from, simple, super_call, units_of_fields}
use Rattle.making_code.specs.Laws.MeantConstants.{NamesMember}
use Rattle.written_files.proofs.FieldConstructors.Constants.{Names}

local_fits : (kind : Kind) (unit room : ℕ) → unit + units_of kind ≤ room → FitsLocal room kind unit
local_fits kinds.Int unit room within = omega (arith, within)
local_fits kinds.Long unit room within = omega (arith, within)
local_fits kinds.Float unit room within = omega (arith, within)
local_fits kinds.Double unit room within = omega (arith, within)
local_fits kinds.Ref unit room within = omega (arith, within)

module _ (pool grown : Constants) (constructor : Name → List ℕ) (major room : ℕ) where
  abbrev pub HaveOperands : List CInstr → Type 0
  HaveOperands items = AllByRecursion (OperandFits grown major room) (map (indexed_instr pool constructor) items)

  abbrev AreNamed : List CInstr → Type 0
  AreNamed items = AllByRecursion (Names constructor pool grown) items

  pub both_fit : (front back : List CInstr) → HaveOperands front → HaveOperands back → HaveOperands (front ++ back)
  both_fit [] back one other = other
  both_fit (item ∷ front) back one other = (one.0, both_fit front back one.1 other)

  field_there : (index : ℕ) (class : Name) (name desc : List ℕ) → NamesMember grown index of_field class name desc
      → IsFieldConstant (constant_at grown index)
  field_there index class name desc named = subst IsFieldConstant (sym named.is) tt

  call_fits : (index : ℕ) (class : Name) (name desc : List ℕ) → NamesMember grown index of_method class name desc
      → IsCalled grown major INVOKESPECIAL index 0
  call_fits index class name desc named = inr (inr (inl refl, inl (subst IsMethodConstant (sym named.is) tt)))

  loads_fit : (unit : ℕ) (fields : List Member) → unit + units_of_fields fields ≤ room → HaveOperands (loads_from unit fields)
  loads_fit unit [] within = tt
  loads_fit unit (field ∷ fields) within = (
    local_fits (kind_of (type_of field.desc)) unit room (omega (arith, within)),
    loads_fit (unit + units_of (kind_of (type_of field.desc))) fields (omega (arith, within)),
  )

  pub puts_fit : (class : Name) (unit : ℕ) (fields : List Member) → unit + units_of_fields fields ≤ room → 1 ≤ room
      → AreNamed (puts_from class unit fields)
      → HaveOperands (puts_from class unit fields)
  puts_fit class unit [] within some names = tt
  puts_fit class unit (field ∷ fields) within some names = (
    omega (arith, some),
    (
      local_fits (kind_of (type_of field.desc)) unit room (omega (arith, within)),
      (
        field_there _ _ _ _ names.1.1.0,
        puts_fit class (unit + units_of (kind_of (type_of field.desc))) fields (omega (arith, within)) some names.1.1.1,
      ),
    ),
  )

  pub call_above_fits : (headers : Headers) (above : Name) → 1 + units_of_fields (instance_fields headers above) ≤ room
      → AreNamed (super_call headers above)
      → HaveOperands (super_call headers above)
  call_above_fits headers above few names = by (bytes_eq above object) names where
    last_of : (front back : List CInstr) → AreNamed (front ++ back) → AreNamed back
    last_of [] back all = all
    last_of (item ∷ front) back all = last_of front back all.1

    by : (b : Bool)
        → AreNamed (if b then simple (Load kinds.Ref 0) ∷ calls_object ∷ []
        else ((simple (Load kinds.Ref 0) ∷ []) ++ loads_from 1 (instance_fields headers above)) ++ (simple (Const imms.Null) ∷ calls_constructor above ∷ []))
        → HaveOperands (if b then simple (Load kinds.Ref 0) ∷ calls_object ∷ []
        else ((simple (Load kinds.Ref 0) ∷ []) ++ loads_from 1 (instance_fields headers above)) ++ (simple (Const imms.Null) ∷ calls_constructor above ∷ []))
    by true known = (omega (arith, few), (call_fits _ _ _ _ known.1.0, tt))
    by false known =
        let first : List CInstr = (simple (Load kinds.Ref 0) ∷ []) ++ loads_from 1 (instance_fields headers above) in
        let back : List CInstr = simple (Const imms.Null) ∷ calls_constructor above ∷ [] in
        let named = last_of first back known in
        both_fit first back (omega (arith, few), loads_fit 1 (instance_fields headers above) few)
        (tt, (call_fits _ _ _ _ named.1.0, tt))
