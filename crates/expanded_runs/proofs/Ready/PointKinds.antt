-- What the points of flat code do: an instruction of a method that stays, a return of a callee, or the entry of a callee.
use Rattle.std.proofs.Common.{◌≡◌, ◌≢◌, ◌++◌, ℕ, zero, suc, Bool, true, false, List, [], ◌∷◌, map, reverse, slice_get, pos, Option, Some, None, refl, sym, subst, ◌∙◌}
use Rattle.std.specs.List.{AllByRecursion}
use Rattle.std.proofs.lemmas.Option.{none-some, same_Some}
use Rattle.class_model.specs.declared.descriptor.FieldType.{FieldType}
use Rattle.class_model.specs.declared.descriptor.FieldType.TheVariants as field_types
use Rattle.class_model.specs.declared.descriptor.Kind.{Kind}
use Rattle.class_model.specs.declared.frame.Frame.{Frame}
use Rattle.class_model.specs.declared.instr.Imm.TheVariants as imms
use Rattle.class_model.specs.declared.instr.Instr.{Instr}
use Rattle.class_model.specs.declared.instr.Instr.TheVariants.{Const, Goto, Pure, Return, Store}
use Rattle.class_model.specs.declared.instr.Placed.{Placed}
use Rattle.class_model.specs.declared.opcodes.TheConstants.{I2B, I2C, I2S, IAND}
use Rattle.expanded_code.specs.Expanded.{Argument, Narrowing, Setting, arguments, class_of, frame_behind_stores, frame_stored, instr_points, narrowing, own_narrowing, point_in, points_of_entry, return_points, set_frame, store_points, test_points, tests_receiver}
use Rattle.same_runs.specs.Laws.ComeFirst.{all_appended}
use Rattle.expanded_runs.proofs.Types.FlatTyped.{remains_none, remains_some, returns_some}
use Rattle.expanded_runs.proofs.Types.OwnPoints.{own_point}
use Rattle.flow_code.specs.declared.point.FlatInstr.{FlatInstr}
use Rattle.flow_code.specs.declared.point.FlatInstr.TheVariants.{NullTest, Of}
use Rattle.flow_code.specs.declared.point.Point.{Point}
use Rattle.member_link.specs.Scope.{Scope, own_descriptor}
use Rattle.member_link.specs.Signatures.{result_of}

-- ---- an instruction that stays, or a return of a callee

-- the point of a number among those of an instruction
pub data OwnKind (t : Setting) (placed : Placed) (frame : Frame) (n : ℕ) (point : Point) : Type 0 where
  own_stays : n ≡ 0
      → (t.behind ≢ None → (kind : Option Kind) → placed.instr ≢ Return kind)
      → own_point t placed frame ≡ point
      → OwnKind t placed frame n point
  own_returns : (behind : ℕ) (kind : Option Kind)
      → t.behind ≡ Some behind
      → placed.instr ≡ Return kind
      → slice_get (return_points t placed.at (set_frame t frame) behind) n ≡ Some point
      → OwnKind t placed frame n point

pub own_kind : (t : Setting) (placed : Placed) (frame : Frame) (n : ℕ) (point : Point) → slice_get (instr_points t placed frame) n ≡ Some point
    → OwnKind t placed frame n point
own_kind t placed frame n point there = by t.behind refl placed.instr refl where
  alone : (m : ℕ) → slice_get (own_point t placed frame ∷ []) m ≡ Some point
      → (t.behind ≢ None → (kind : Option Kind) → placed.instr ≢ Return kind)
      → OwnKind t placed frame m point
  alone zero is stays = own_stays refl stays (same_Some (own_point t placed frame) point is)
  alone (suc m) is stays = absurd (none-some point is)

  by : (behind : Option ℕ) → t.behind ≡ behind → (instr : Instr) → placed.instr ≡ instr → OwnKind t placed frame n point
  by None b instr i =
      alone n (subst (λ (points : List Point). slice_get points n ≡ Some point) (remains_none t placed frame b) there) (λ some. absurd (some b))
  by (Some behind) b (Return kind) i =
      own_returns behind kind b i (subst (λ (points : List Point). slice_get points n ≡ Some point) (returns_some t placed frame behind kind b i) there)
  by (Some behind) b instr i =
      let other : (kind : Option Kind) → placed.instr ≢ Return kind =
      λ kind is. let e : instr ≡ Return kind = sym i ∙ is in cc in
      alone n (subst (λ (points : List Point). slice_get points n ≡ Some point) (remains_some t placed frame behind b other) there) (λ some. other)

-- ---- a property of the instructions of returns and entries

module _ (P : FlatInstr → Type 0) where
  abbrev pub HaveInstrs : List Point → Type 0
  HaveInstrs points = AllByRecursion (λ (point : Point). P point.instr) points

  -- those that narrow a result
  pub record HasNarrowing (class : ℕ) : Type 0 where
    pub byte : P (Of class (Pure I2B))
    pub short : P (Of class (Pure I2S))
    pub char : P (Of class (Pure I2C))
    pub one : P (Of class (Const (imms.Int (pos 1))))
    pub and : P (Of class (Pure IAND))

  narrowings_have : (class : ℕ) → HasNarrowing class → (result : Option FieldType)
      → AllByRecursion (λ (n : Narrowing). P (Of class n.instr)) (narrowing result)
  narrowings_have class has None = tt
  narrowings_have class has (Some field_types.Byte) = (has.byte, tt)
  narrowings_have class has (Some field_types.Short) = (has.short, tt)
  narrowings_have class has (Some field_types.Char) = (has.char, tt)
  narrowings_have class has (Some field_types.Bool) = (has.one, (has.and, tt))
  narrowings_have class has (Some other) = tt

  pub returns_have : (t : Setting) (at : ℕ) (typed : Frame) (behind : ℕ) → HasNarrowing (class_of t) → P (Of (class_of t) (Goto behind))
      → HaveInstrs (return_points t at typed behind)
  returns_have t at typed behind has goto =
      all_appended (λ (point : Point). P point.instr) _ _
      (each (own_narrowing t.coded.scope) (narrowings_have (class_of t) has (result_of (own_descriptor t.coded.scope)))) (goto, tt)
    where
      each : (all : List Narrowing) → AllByRecursion (λ (n : Narrowing). P (Of (class_of t) n.instr)) all
          → HaveInstrs (map (λ (n : Narrowing). point_in t at (record typed { stack = typed.stack ++ n.above }) n.instr) all)
      each [] none = tt
      each (one ∷ all) have = (have.0, each all have.1)

  pub entries_have : (t : Setting) (at : ℕ) (frame : Frame) (callee : Scope) (unit : ℕ)
      → AllByRecursion (λ (a : Argument). P (Of (class_of t) (Store a.kind a.unit))) (reverse (arguments callee unit))
      → (tests_receiver callee ≡ true → P (NullTest unit))
      → HaveInstrs (points_of_entry t at frame callee unit)
  entries_have t at frame callee unit stores test =
      all_appended (λ (point : Point). P point.instr) _ _ (stored frame (reverse (arguments callee unit)) stores)
      (tested (frame_behind_stores frame (reverse (arguments callee unit))))
    where
      stored : (frame : Frame) (all : List Argument) → AllByRecursion (λ (a : Argument). P (Of (class_of t) (Store a.kind a.unit))) all
          → HaveInstrs (store_points t at frame all)
      stored frame [] none = tt
      stored frame (argument ∷ others) have = (have.0, stored (frame_stored frame argument) others have.1)

      tested : (frame : Frame) → HaveInstrs (test_points t at frame callee unit)
      tested frame = by (tests_receiver callee) refl where
        by : (tests : Bool) → tests_receiver callee ≡ tests → HaveInstrs (test_points t at frame callee unit)
        by true is = rw (is) (test is, tt)
        by false is = rw (is) tt
