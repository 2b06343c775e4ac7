-- The frames that a method's code states, and the one that it begins with: each long and double among their locals has its second unit behind
-- it, and those that are stated have the units of the code.
use Rattle.std.proofs.Common.{◌≡◌, ◌+◌, ℕ, zero, suc, Bool, true, false, List, [], ◌∷◌, length, Some, Result, Ok, Err, refl, sym, subst}
use Rattle.std.specs.Prelude.{◌==◌, ◌||◌, if◌then◌else◌, nat_lt}
use Rattle.std.specs.List.{AllByRecursion}
use Rattle.std.proofs.lemmas.Bool.{ltb-false}
use Rattle.std.proofs.lemmas.Option.{none-some, same_Some}
use Rattle.class_model.specs.Checks.{Fault}
use Rattle.class_model.specs.Code.{inner_is_named, stack_map_table}
use Rattle.class_model.specs.Cutting.{Rest}
use Rattle.class_model.specs.Frames.{Setting, Stated, depth, fits_at, frame_at, frames_at, listed, missing, stack_map_table_at, table_u2_at}
use Rattle.class_model.specs.Instructions.{decoded, is_start}
use Rattle.class_model.specs.Laws.Cuts.{bind_ok, same_done}
use Rattle.class_model.specs.Methods.{Home, entry_of}
use Rattle.class_model.specs.Stated.{frame_for, read_or_none, stated_frames, stated_in}
use Rattle.class_model.specs.declared.class_file.CodePart.{CodePart}
use Rattle.class_model.specs.declared.class_file.InnerAttr.{InnerAttr}
use Rattle.class_model.specs.declared.class_file.Method.{Method}
use Rattle.class_model.specs.declared.frame.Frame.{Frame}
use Rattle.class_model.specs.declared.frame.PlacedFrame.{PlacedFrame}
use Rattle.class_model.specs.declared.frame.VType.{VType}
use Rattle.class_model.specs.declared.instr.Placed.{Placed}
use Rattle.expanded_code.specs.Laws.RowUnits.{ArePaired, filled_long, filled_paired}

-- locals of so many units, in pairs
pub record HasUnitsOf (max_locals : ℕ) (locals : List VType) : Type 0 where
  pub long : length locals ≡ max_locals
  pub paired : ArePaired locals

abbrev AllHaveUnits : ℕ → List PlacedFrame → Type 0
AllHaveUnits max_locals frames = AllByRecursion (λ placed. HasUnitsOf max_locals placed.frame.locals) frames

-- a value behind two tests that it passed
behind_tests : {Y : Type 0} (large deep starts : Bool) (size place : Fault) (x y : Y)
    → (if large || deep then Err size else (if starts then Ok x else Err place)) ≡ Ok y → (large ≡ false) × (x ≡ y)
behind_tests true deep starts size place x y e = absurd cc
behind_tests false true starts size place x y e = absurd cc
behind_tests false false true size place x y e = (refl, cc)
behind_tests false false false size place x y e = absurd cc

placed_units : (s : Setting) (frame at : ℕ) (f : Stated) (placed : PlacedFrame) → fits_at s frame at f ≡ Ok placed
    → HasUnitsOf s.max_locals placed.frame.locals
placed_units s frame at f placed e =
    let tests = behind_tests (nat_lt s.max_locals (depth f.entries.locals)) (nat_lt s.max_stack (depth f.entries.stack)) (is_start s.code at)
    _ _ _ placed e in
    subst (λ (p : PlacedFrame). HasUnitsOf s.max_locals p.frame.locals) tests.1 (record {
      long = filled_long s.max_locals f.entries.locals (ltb-false s.max_locals (depth f.entries.locals) tests.0);
      paired = filled_paired s.max_locals f.entries.locals;
    })

each_units : (s : Setting) (count from : ℕ) (locals : List VType) (rest : Rest) (cut : List PlacedFrame × Rest)
    → frames_at s count from locals rest ≡ Ok cut → AllHaveUnits s.max_locals cut.0
unfolding frames_at
each_units s zero from locals rest cut e =
    subst (λ (c : List PlacedFrame × Rest). AllHaveUnits s.max_locals c.0) (same_done ([], rest) cut e) tt
each_units s (suc count) from locals rest cut e =
    let first = bind_ok (frame_at s locals rest) _ cut e in
    let placed = bind_ok (fits_at s rest.at (from + first.0.0.delta) first.0.0) _ cut first.2 in
    let others = bind_ok (frames_at s count (from + first.0.0.delta + 1) first.0.0.entries.locals first.0.1) _ cut placed.2 in
    subst (λ (c : List PlacedFrame × Rest). AllHaveUnits s.max_locals c.0) (same_done (placed.0 ∷ others.0.0, others.0.1) cut others.2) (
      placed_units s rest.at (from + first.0.0.delta) first.0.0 placed.0 placed.1,
      each_units s count (from + first.0.0.delta + 1) first.0.0.entries.locals first.0.1 others.0 others.1,
    )

-- a value behind a test that it passed
behind_test : {Y : Type 0} (test : Bool) (d : Fault) (x y : Y) → (if test then Ok x else Err d) ≡ Ok y → x ≡ y
behind_test true d x y e = cc
behind_test false d x y e = absurd cc

table_units : (s : Setting) (entry : Frame) (content : List ℕ) (frames : List PlacedFrame) → stack_map_table_at s entry content ≡ Ok frames
    → AllHaveUnits s.max_locals frames
table_units s entry content frames e =
    let count = bind_ok (table_u2_at (record { at = 0; bytes = content })) _ frames e in
    let cut = bind_ok (frames_at s count.0.0 0 (listed entry) count.0.1) _ frames count.2 in
    subst (AllHaveUnits s.max_locals) (behind_test (length cut.0.1.bytes == 0) missing cut.0.0 frames cut.2)
    (each_units s count.0.0 0 (listed entry) count.0.1 cut.0 cut.1)

-- ---- those of a method's code

one_has_units : (max_locals : ℕ) (frames : List PlacedFrame) (at : ℕ) (frame : Frame) → AllHaveUnits max_locals frames
    → frame_for frames at ≡ Some frame → HasUnitsOf max_locals frame.locals
one_has_units max_locals [] at frame each is = absurd cc
one_has_units max_locals (placed ∷ others) at frame each is =
    by (placed.at == at) is (one_has_units max_locals others at frame each.1) where
      by : (here : Bool) → (if here then Some placed.frame else frame_for others at) ≡ Some frame
          → (frame_for others at ≡ Some frame → HasUnitsOf max_locals frame.locals)
          → HasUnitsOf max_locals frame.locals
      by true found below =
          subst (λ (f : Frame). HasUnitsOf max_locals f.locals) (same_Some placed.frame frame found) each.0
      by false found below = below found

module _ (home : Home) (method : Method) (part : CodePart) (at : ℕ) (frame : Frame) where
  of_table : (attr : InnerAttr) (read : Result (List Placed) Fault) (table : Result (List PlacedFrame) Fault)
      → stated_frames home method part read attr ≡ table → frame_for (read_or_none table) at ≡ Some frame
      → HasUnitsOf part.max_locals frame.locals
  of_table attr (Err f) table table_is is = absurd (none_stated table table_is is) where
    none_stated : (table : Result (List PlacedFrame) Fault) → Ok [] ≡ table → frame_for (read_or_none table) at ≡ Some frame → ⊥
    none_stated (Ok frames) none is =
        let empty : [] ≡ frames = cc in
        let no : frame_for [] at ≡ Some frame = subst (λ (all : List PlacedFrame). frame_for all at ≡ Some frame) (sym empty) is in
        absurd (none-some frame no)
    none_stated (Err f) none is = absurd cc
  of_table attr (Ok instrs) (Err f) table_is is = absurd cc
  of_table attr (Ok instrs) (Ok frames) table_is is =
      let setting : Setting =
      record { pool = home.pool; max_locals = part.max_locals; max_stack = part.max_stack; code = instrs } in
      one_has_units part.max_locals frames at frame (table_units setting (entry_of home method part) attr.bytes frames table_is) is

  pub stated_units : (attrs : List InnerAttr) → frame_for (stated_in home method part attrs) at ≡ Some frame
      → HasUnitsOf part.max_locals frame.locals
  stated_units [] is = absurd cc
  stated_units (attr ∷ attrs) is = by (inner_is_named home.pool stack_map_table attr) is (stated_units attrs) where
    by : (named : Bool)
        → frame_for (if named then read_or_none (stated_frames home method part (decoded part.code) attr)
        else stated_in home method part attrs) at ≡ Some frame
        → (frame_for (stated_in home method part attrs) at ≡ Some frame → HasUnitsOf part.max_locals frame.locals)
        → HasUnitsOf part.max_locals frame.locals
    by true found below = of_table attr (decoded part.code) (stated_frames home method part (decoded part.code) attr) refl found
    by false found below = below found
