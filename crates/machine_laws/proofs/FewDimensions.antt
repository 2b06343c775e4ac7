use Rattle.std.specs.Prelude.{◌≡◌, ◌≤◌, ◌+◌, ◌&&◌, ◌==◌, nat_le, nat_lt, refl, IfSome, ℕ, ℤ, zero, suc, Bool, true, false, List, [], ◌∷◌, length, take, drop, map, slice_get, Option, Some, None, Result, Ok, Err, option_map, option_and_then, if◌then◌else◌}
use Rattle.std.specs.Int.{w16, from_be_bytes}
use Rattle.std.specs.List.{AllByRecursion}
use Rattle.std.proofs.Common.{arith, sym, subst}
use Rattle.std.proofs.lemmas.List.Elements.{recursion_from_All}
use Rattle.std.proofs.lemmas.Option.{slice_get-map}
use Rattle.class_model.specs.Checks.{Fault, fault, ◌>>=◌}
use Rattle.class_model.specs.declared.fault.FileRule.TheVariants as rules
use Rattle.class_model.specs.declared.opcodes.TheConstants.{IALOAD, SALOAD, IASTORE, SASTORE, IFEQ, IFLE, IF_ICMPEQ, IF_ICMPLE, IF_ACMPEQ, IF_ACMPNE, IFNULL, IFNONNULL, IINC}
use Rattle.class_model.specs.Cutting.{IsBytes}
use Rattle.class_model.specs.Laws.Cuts.{IsBytes-drop}
use Rattle.class_model.specs.Laws.Lists.{AllByRecursion-weaker, at_index}
use Rattle.class_model.specs.Instructions.{decoded}
use Rattle.class_model.specs.Members.{has, NATIVE}
use Rattle.class_model.specs.MethodCode.{code_of}
use Rattle.class_model.specs.Pool.{Constants, constant_at}
use Rattle.class_model.specs.PoolChecks.{class_at}
use Rattle.class_model.specs.declared.class_file.ClassFile.{ClassFile}
use Rattle.class_model.specs.declared.class_file.CodePart.{CodePart}
use Rattle.class_model.specs.declared.class_file.Method.{Method}
use Rattle.class_model.specs.declared.descriptor.FieldType.{FieldType}
use Rattle.class_model.specs.declared.descriptor.Kind.{Kind}
use Rattle.class_model.specs.declared.instr.Instr.{Instr}
use Rattle.class_model.specs.declared.instr.Instr.TheVariants as instrs
use Rattle.class_model.specs.declared.instr.Placed.{Placed}
use Rattle.class_model.specs.declared.pool.Const.{Const}
use Rattle.class_tree.specs.Headers.{Classes, Headers, headers_of}
use Rattle.machine_laws.specs.Laws.DimensionsRead.{AllHave, DimensionsIn, ListHas, instrs_has}
use Rattle.machine_laws.specs.CodesOfBytes.{HasCodeOfBytes, HasCodesOfBytes, HaveCodesOfBytes}
use Rattle.member_link.specs.Bodies.{item_instr}
use Rattle.member_link.specs.Laws.TranslatedOps.{between_has, call_has, constant_has, dynamic_has, found_has, return_has}
use Rattle.member_link.specs.Machine.Bounds.{HasFewDimensions, MakesFewArrays, MOST_DIMENSIONS}
use Rattle.member_link.specs.Machine.Classes.{program_of, run_class_of, run_method_of}
use Rattle.member_link.specs.Machine.Codes.{CodePoint, item_op, constant_op, or_meaningless, initialises, dynamic_op, return_op, if_between, call_op, instr_op, number_at, method_code, code_points}
use Rattle.member_link.specs.Machine.Ops.{Op, meaningless, load_element, store_element, jump_by_int, jump_by_ints, jump_by_references, jump_by_null, get_static, put_static, get_field, put_field, new_object, new_array, new_arrays, check_cast, instance_of}
use Rattle.member_link.specs.Machine.Programs.{Code, Links, Point, RunClass, code_run}
use Rattle.member_link.specs.References.{Reference}
use Rattle.member_link.specs.Rows.ArrayRows.{primitive_array, array_of}
use Rattle.member_link.specs.Signatures.{reference_of}
use Rattle.member_link.specs.RowScope.{RowScope}
use Rattle.member_link.specs.Scope.{Scope, scope_of, row_scope, instructions}

-- ---- instructions

abbrev IsFew : ℕ → Type 0
IsFew dimensions = dimensions ≤ MOST_DIMENSIONS

abbrev FewIn : Instr → Type 0
FewIn = DimensionsIn IsFew

first_byte : (bytes : List ℕ) → IsBytes bytes → from_be_bytes w16 (0 ∷ take 1 bytes) ≤ 255
first_byte [] are = omega arith
first_byte (byte ∷ bytes) are = let first = are.0 in omega (arith, first)

-- ---- operations

between_few : (low high opcode : ℕ) (op : Op) → HasFewDimensions op → HasFewDimensions (if_between low high opcode op)
between_few = between_has HasFewDimensions tt

constant_few : (pool : Constants) (constant : Option Const) → HasFewDimensions (constant_op pool constant)
constant_few pool constant = constant_has HasFewDimensions tt pool constant (λ v. tt) (λ x. tt)

maybe_few : {A : Type 0} (a : Option A) (op : A → Op) → ((x : A) → HasFewDimensions (op x)) → HasFewDimensions (or_meaningless (option_map op a))
maybe_few a op few = found_has HasFewDimensions tt a op few

instr_op_few : (links : Links) (number : ℕ → ℕ) (s : RowScope) (instr : Instr) → FewIn instr → HasFewDimensions (instr_op links number s instr)
instr_op_few links number s (instrs.Ldc index) few = constant_few s.pool (constant_at s.pool index)
instr_op_few links number s (instrs.Ldc2 index) few = constant_few s.pool (constant_at s.pool index)
instr_op_few links number s (instrs.ArrayLoad opcode) few = between_few IALOAD SALOAD opcode (load_element opcode) tt
instr_op_few links number s (instrs.ArrayStore opcode) few = between_few IASTORE SASTORE opcode (store_element opcode) tt
instr_op_few links number s (instrs.If opcode target) few = between_few IFEQ IFLE opcode (jump_by_int opcode (number target)) tt
instr_op_few links number s (instrs.If2 opcode target) few = between_few IF_ICMPEQ IF_ICMPLE opcode (jump_by_ints opcode (number target)) tt
instr_op_few links number s (instrs.IfSame opcode target) few = between_few IF_ACMPEQ IF_ACMPNE opcode (jump_by_references opcode (number target)) tt
instr_op_few links number s (instrs.IfNull opcode target) few = between_few IFNULL IFNONNULL opcode (jump_by_null opcode (number target)) tt
instr_op_few links number s (instrs.Return kind) few = return_has HasFewDimensions tt s.result kind tt (λ type. tt)
instr_op_few links number s (instrs.GetStatic index) few = maybe_few (reference_of s.pool (constant_at s.pool index)) get_static (λ r. tt)
instr_op_few links number s (instrs.PutStatic index) few = maybe_few (reference_of s.pool (constant_at s.pool index)) (λ r. put_static r (initialises s.is_clinit s.own)) (λ r. tt)
instr_op_few links number s (instrs.GetField index) few = maybe_few (reference_of s.pool (constant_at s.pool index)) get_field (λ r. tt)
instr_op_few links number s (instrs.PutField index) few = maybe_few (reference_of s.pool (constant_at s.pool index)) (λ r. put_field r (initialises s.is_init s.own)) (λ r. tt)
instr_op_few links number s (instrs.Invoke opcode index count) few = maybe_few (reference_of s.pool (constant_at s.pool index)) (call_op links s opcode) (λ r. call_has HasFewDimensions tt links s opcode r tt (λ start. tt) tt tt)
instr_op_few links number s (instrs.Dynamic index) few = dynamic_has HasFewDimensions tt s (constant_at s.pool index) (λ class bootstrap name desc. tt)
instr_op_few links number s (instrs.New index) few = maybe_few (class_at s.pool index) new_object (λ n. tt)
instr_op_few links number s (instrs.NewArray code) few = maybe_few (primitive_array code) new_array (λ n. tt)
instr_op_few links number s (instrs.NewRefArray index) few = maybe_few (array_of (class_at s.pool index)) new_array (λ n. tt)
instr_op_few links number s (instrs.NewMulti index dimensions) few = maybe_few (class_at s.pool index) (λ name. new_arrays name dimensions) (λ n. few)
instr_op_few links number s (instrs.Cast index) few = maybe_few (class_at s.pool index) check_cast (λ n. tt)
instr_op_few links number s (instrs.InstanceOf index) few = maybe_few (class_at s.pool index) instance_of (λ n. tt)
instr_op_few links number s instr few = tt

-- ---- programs

abbrev pub PointFew : Option Point → Type 0
PointFew point = IfSome point (λ (p : Point). HasFewDimensions p.op)

-- what stands at a place of a list, of what each item becomes
map_at : {A B : Type 0} (P : Option B → Type 0) (f : A → B) (xs : List A) (k : ℕ) → P (option_map f (slice_get xs k)) → P (slice_get (map f xs) k)
map_at P f xs k p = subst P (sym (slice_get-map f xs k)) p

instructions_few : (s : Scope) → IsBytes s.part.code → AllHave IsFew (instructions s)
instructions_few s are = by (decoded s.part.code) refl (instrs_has IsFew IsBytes IsBytes-drop (λ bytes are some. first_byte (drop 3 bytes) (IsBytes-drop 3 bytes are))
    (length s.part.code) 0 s.part.code are) where
      by : (r : Result (List Placed) Fault) → decoded s.part.code ≡ r → ListHas IsFew r → AllHave IsFew (instructions s)
      by (Ok placed) e few = rw e few
      by (Err fault) e few = rw e tt

all_mapped : {A B : Type 0} (Q : B → Type 0) (f : A → B) (xs : List A) → AllByRecursion (λ (x : A). Q (f x)) xs → AllByRecursion Q (map f xs)
all_mapped Q f [] all = tt
all_mapped Q f (x ∷ xs) all = (all.0, all_mapped Q f xs all.1)

code_points_few : (links : Links) (number : ℕ → ℕ) (s : Scope) → IsBytes s.part.code
    → AllByRecursion (λ (p : CodePoint). HasFewDimensions (item_op links number p.scope p.item)) (code_points s)
code_points_few links number s are =
    all_mapped (λ (p : CodePoint). HasFewDimensions (item_op links number p.scope p.item)) _ (instructions s)
    (AllByRecursion-weaker (λ (p : Placed). FewIn p.instr) (λ (p : Placed). HasFewDimensions (item_op links number (row_scope s) (item_instr p.instr)))
    (λ p few. instr_op_few links number (row_scope s) p.instr few) (instructions s) (instructions_few s are))

points_few : (links : Links) (s : Scope) → IsBytes s.part.code → AllByRecursion (λ (p : Point). HasFewDimensions p.op) (method_code links s).points
points_few links s are = all_mapped (λ (p : Point). HasFewDimensions p.op) _ (code_points s) (code_points_few links (number_at (code_points s)) s are)

code_few : (links : Links) (s : Scope) → IsBytes s.part.code → (place : ℕ) → PointFew (slice_get (method_code links s).points place)
code_few links s are place = by (slice_get (method_code links s).points place) refl where
  by : (p : Option Point) → slice_get (method_code links s).points place ≡ p → PointFew p
  by None e = tt
  by (Some p) e = at_index (λ (q : Point). HasFewDimensions q.op) (method_code links s).points place p (points_few links s are) e

-- the point of a code that may be there
abbrev pub AtFew : ℕ → Option Code → Type 0
AtFew place code = PointFew (option_and_then (λ (c : Code). slice_get c.points place) code)

method_few : (links : Links) (headers : Headers) (class : ClassFile) (method : Method) (place : ℕ) → HasCodeOfBytes method → AtFew place (code_run (run_method_of links headers class method))
method_few links headers class method place are = by (has (run_method_of links headers class method).member.flags NATIVE) where
  by_code : (part : Option CodePart) → IfSome part (λ (p : CodePart). IsBytes p.code)
      → AtFew place (option_map (method_code links) (option_map (λ (p : CodePart). record { headers = headers; class = class; method = method; part = p }) part))
  by_code None are = tt
  by_code (Some part) are = code_few links (record { headers = headers; class = class; method = method; part = part }) are place

  by : (b : Bool) → AtFew place (if b then None else option_map (method_code links) (scope_of headers class method))
  by true = tt
  by false = by_code (code_of method.attrs) are

class_few : (links : Links) (headers : Headers) (class : ClassFile) (number place : ℕ) → HasCodesOfBytes class
    → AtFew place (option_and_then code_run (slice_get (run_class_of links headers class).methods number))
class_few links headers class number place are =
    map_at (λ o. AtFew place (option_and_then code_run o)) (run_method_of links headers class) class.methods number (by (slice_get class.methods number) refl) where
      by : (o : Option Method) → slice_get class.methods number ≡ o → AtFew place (option_and_then code_run (option_map (run_method_of links headers class) o))
      by None e = tt
      by (Some method) e = method_few links headers class method place (at_index HasCodeOfBytes class.methods number method (recursion_from_All HasCodeOfBytes class.methods are) e)

pub classes_few : (classes : Classes) (links : Links) → HaveCodesOfBytes classes → MakesFewArrays (program_of classes links)
classes_few classes links are at place =
    map_at (λ o. AtFew place (option_and_then code_run (option_and_then (λ (c : RunClass). slice_get c.methods at.method) o))) (run_class_of links (headers_of classes)) classes.folder at.class
    (by (slice_get classes.folder at.class) refl) where
      by : (o : Option ClassFile) → slice_get classes.folder at.class ≡ o
          → AtFew place (option_and_then code_run (option_and_then (λ (c : RunClass). slice_get c.methods at.method) (option_map (run_class_of links (headers_of classes)) o)))
      by None e = tt
      by (Some class) e =
          class_few links (headers_of classes) class at.method place (at_index HasCodesOfBytes classes.folder at.class class (recursion_from_All HasCodesOfBytes classes.folder are) e)
