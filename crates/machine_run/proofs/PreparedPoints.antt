-- The points of a method whose code is prepared.
use Rattle.std.proofs.Common.{◌≡◌, ◌-◌, ◌^◌, IfSome, arith, ◌≤◌, ◌<◌, ℕ, zero, suc, List, [], ◌∷◌, length, map, set, get_or, slice_get, All, Option, Some, None, Vec, Global, option_map, option_and_then, refl, sym, ap, subst, ◌∙◌}
use Rattle.std.proofs.lemmas.List.{length-map}
use Rattle.std.proofs.lemmas.List.Elements.{All-get_or, All-set}
use Rattle.std.proofs.lemmas.Option.{slice_get-map, slice_get_past, slice_get_read, get_or_from_slice_get}
use Rattle.class_model.specs.declared.class_file.MethodAt.{MethodAt}
use Rattle.machine_values.specs.Frames.{MethodState}
use Rattle.member_link.specs.Machine.Bounds.{HasFewDimensions}
use Rattle.member_link.specs.Machine.Ops as ops
use Rattle.member_link.specs.Machine.Programs.{Program, Code, Point, code_at, code_run, point_at}
use Rattle.machine_code.specs.Prepared.{IsPrepared, op_at}
use Rattle.member_link.specs.RunOps.{IsResolved, op_of}
use Rattle.machine_code.specs.declared.prepared_method.PreparedMethod.{PreparedMethod}
use Rattle.member_link.specs.declared.run_op.RunOp.{RunOp}
use Rattle.machine_run.specs.Inner.Performed.{HasBoundedNext}

map_set_same :
    {X Y : Type 0} (f : X → Y) (xs : List X) (i : ℕ) (x y : X)
    → slice_get xs i ≡ Some x
    → f y ≡ f x
    → map f (set xs i y) ≡ map f xs
map_set_same f [] i x y is same = refl
map_set_same f (z ∷ xs) zero x y is same =
    let first : z ≡ x = cc in
    ap (λ w. w ∷ map f xs) (same ∙ ap f (sym first))
map_set_same f (z ∷ xs) (suc i) x y is same = ap (λ l. f z ∷ l) (map_set_same f xs i x y is same)

-- what is true of each is true of the one at an index
all_at : {X : Type 0} (P : X → Type 0) (xs : List X) (i : ℕ) (x : X) → i < length xs → slice_get xs i ≡ Some x → All P xs → P x
all_at P xs i x within is all = subst P (get_or_from_slice_get xs i x x is) (All-get_or P xs i x within all)

-- an operation that is read at a place stands there
pub op_read :
    (ops : List RunOp) (len inside place : ℕ) (op : RunOp)
    → inside ≡ place
    → len ≡ length ops
    → inside < len
    → op ≡ get_or ops inside op
    → (place < length ops) × (slice_get ops place ≡ Some op)
op_read ops len inside place op same many within read = (
  subst (λ (n : ℕ). n < length ops) same (subst (λ (n : ℕ). inside < n) many within),
  subst (λ (n : ℕ). slice_get ops n ≡ Some op) same (slice_get_read ops len inside op many within read),
)

module _ (P : Program) (at : MethodAt) (prepared : PreparedMethod) (is : IsPrepared P at prepared) where
  code_is : code_at P at ≡ Some is.code
  code_is = ap (option_and_then code_run) is.there ∙ is.has_code

  pub point_is : (place : ℕ) → point_at P at place ≡ slice_get is.code.points place
  point_is place = ap (option_and_then (λ (code : Code). slice_get code.points place)) code_is

  ops_at : (place : ℕ) → option_map op_of (slice_get prepared.ops.items place) ≡ option_map op_at (slice_get is.code.points place)
  ops_at place =
      sym (slice_get-map op_of prepared.ops.items place)
      ∙ ap (λ (l : List ops.Op). slice_get l place) is.ops
      ∙ slice_get-map op_at is.code.points place

  of_point :
      (place : ℕ) (op : RunOp) (found : Option Point)
      → slice_get is.code.points place ≡ found
      → slice_get prepared.ops.items place ≡ Some op
      → (point : Point) × (slice_get is.code.points place ≡ Some point) × (point.op ≡ op_of op)
  of_point place op None there same =
      let none : option_map op_of (slice_get prepared.ops.items place) ≡ None = ops_at place ∙ ap (option_map op_at) there in
      let some : option_map op_of (slice_get prepared.ops.items place) ≡ Some (op_of op) = ap (option_map op_of) same in
      absurd cc
  of_point place op (Some point) there same =
      let one : Some (op_of op) ≡ Some point.op = sym (ap (option_map op_of) same) ∙ ops_at place ∙ ap (option_map op_at) there in
      (point, there, cc)

  -- the operation at a place is that of the point there
  pub point_with :
      (place : ℕ) (op : RunOp)
      → slice_get prepared.ops.items place ≡ Some op
      → (point : Point) × (point_at P at place ≡ Some point) × (point.op ≡ op_of op)
  point_with place op same =
      let found = of_point place op (slice_get is.code.points place) refl same in
      (found.0, point_is place ∙ found.1, found.2)

  of_none : (place : ℕ) (found : Option Point) → slice_get is.code.points place ≡ found → slice_get prepared.ops.items place ≡ None → found ≡ None
  of_none place None there none = refl
  of_none place (Some point) there none =
      let no : None ≡ Some point.op = sym (ap (option_map op_of) none) ∙ ops_at place ∙ ap (option_map op_at) there in
      absurd cc

  -- behind the last operation is no point
  pub no_point : (place : ℕ) → length prepared.ops.items ≤ place → point_at P at place ≡ None
  no_point place behind =
      point_is place ∙ of_none place (slice_get is.code.points place) refl (slice_get_past prepared.ops.items place behind)

  pub op_resolved :
      (place : ℕ) (op : RunOp)
      → place < length prepared.ops.items
      → slice_get prepared.ops.items place ≡ Some op
      → IsResolved P op
  op_resolved place op within same = all_at (IsResolved P) prepared.ops.items place op within same is.resolved

  -- with what an operation has remembered
  pub with_op :
      (place : ℕ) (old new : RunOp) (items : Vec RunOp Global)
      → slice_get prepared.ops.items place ≡ Some old
      → op_of new ≡ op_of old
      → IsResolved P new
      → items.items ≡ set prepared.ops.items place new
      → IsPrepared P at (record prepared { ops = items })
  with_op place old new items same op resolved changed = record {
    method = is.method;
    code = is.code;
    there = is.there;
    has_code = is.has_code;
    locals = is.locals;
    few = is.few;
    ops = ap (map op_of) changed ∙ map_set_same op_of prepared.ops.items place old new same op ∙ is.ops;
    resolved = subst (All (IsResolved P)) (sym changed) (All-set (IsResolved P) prepared.ops.items place new resolved is.resolved);
    catches = is.catches;
  }

  -- no method has so many operations that a place has none behind it
  pub few_ops : length prepared.ops.items < 2 ^ 32 - 1
  few_ops =
      subst (λ (n : ℕ). n < 2 ^ 32 - 1)
      (sym (length-map is.code.points op_at) ∙ sym (ap length is.ops) ∙ length-map prepared.ops.items op_of)
      is.few

  pub bounded_with :
      (f : MethodState) (op : RunOp)
      → f.at ≡ at
      → slice_get prepared.ops.items f.place ≡ Some op
      → HasFewDimensions (op_of op)
      → f.place < length prepared.ops.items
      → HasBoundedNext P f
  bounded_with f op where_is same few within =
      let found = point_with f.place op same in
      let there : point_at P f.at f.place ≡ Some found.0 = ap (λ (a : MethodAt). point_at P a f.place) where_is ∙ found.1 in
      subst (λ (p : Option Point). IfSome p (λ point. HasFewDimensions point.op × (f.place < 2 ^ 32 - 1))) (sym there)
      (subst HasFewDimensions (sym found.2) few, lt-trans within)
    where
      lt-trans : f.place < length prepared.ops.items → f.place < 2 ^ 32 - 1
      lt-trans within = omega (arith, within, few_ops)
