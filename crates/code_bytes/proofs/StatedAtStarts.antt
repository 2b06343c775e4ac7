-- Frames are stated where instructions start.
use Rattle.std.proofs.Common.{◌≡◌, ℕ, zero, suc, ◌+◌, Bool, true, false, List, [], ◌∷◌, length, Some, Result, Ok, Err, IsTrue, refl, sym, subst}
use Rattle.std.specs.Prelude.{◌==◌, if◌then◌else◌}
use Rattle.std.specs.List.{AllByRecursion}
use Rattle.std.proofs.lemmas.Bool.{eqb-true}
use Rattle.class_model.specs.Checks.{Fault}
use Rattle.class_model.specs.Code.{inner_is_named, stack_map_table}
use Rattle.class_model.specs.Cutting.{Rest}
use Rattle.class_model.specs.Frames.{Setting, Stated, fits_at, frame_at, frames_at, listed, missing, stack_map_table_at, table_u2_at}
use Rattle.class_model.specs.Instructions.{decoded, is_start}
use Rattle.class_model.specs.Laws.Cuts.{bind_ok, same_done}
use Rattle.class_model.specs.Methods.{Home, entry_of}
use Rattle.class_model.specs.Stated.{frame_for, read_or_none, stated_frames, stated_in}
use Rattle.class_model.specs.declared.class_file.CodePart.{CodePart}
use Rattle.class_model.specs.declared.class_file.InnerAttr.{InnerAttr}
use Rattle.class_model.specs.declared.class_file.Method.{Method}
use Rattle.class_model.specs.declared.frame.Frame.{Frame}
use Rattle.class_model.specs.declared.frame.PlacedFrame.{PlacedFrame}
use Rattle.class_model.specs.declared.frame.VType.{VType}
use Rattle.class_model.specs.declared.instr.Placed.{Placed}

-- each of these frames stands at an instruction
abbrev AtStarts : List Placed → List PlacedFrame → Type 0
AtStarts code frames = AllByRecursion (λ placed. IsTrue (is_start code placed.at)) frames

-- a value behind two tests that it passed
behind_tests : {Y : Type 0} (too_large starts : Bool) (size place : Fault) (x y : Y) → (if too_large then Err size else (if starts then Ok x else Err place)) ≡ Ok y → IsTrue starts × (x ≡ y)
behind_tests true starts size place x y e = absurd cc
behind_tests false true size place x y e = (refl, cc)
behind_tests false false size place x y e = absurd cc

placed_at_start : (s : Setting) (frame at : ℕ) (f : Stated) (placed : PlacedFrame) → fits_at s frame at f ≡ Ok placed → IsTrue (is_start s.code placed.at)
placed_at_start s frame at f placed e =
    let tests = behind_tests _ (is_start s.code at) _ _ _ placed e in
    subst (λ (p : PlacedFrame). IsTrue (is_start s.code p.at)) tests.1 tests.0

each_at_start : (s : Setting) (count from : ℕ) (locals : List VType) (rest : Rest) (cut : List PlacedFrame × Rest) → frames_at s count from locals rest ≡ Ok cut → AtStarts s.code cut.0
unfolding frames_at
each_at_start s zero from locals rest cut e = subst (λ (c : List PlacedFrame × Rest). AtStarts s.code c.0) (same_done ([], rest) cut e) tt
each_at_start s (suc count) from locals rest cut e =
    let first = bind_ok (frame_at s locals rest) _ cut e in
    let placed = bind_ok (fits_at s rest.at (from + first.0.0.delta) first.0.0) _ cut first.2 in
    let others = bind_ok (frames_at s count (from + first.0.0.delta + 1) first.0.0.entries.locals first.0.1) _ cut placed.2 in
    subst (λ (c : List PlacedFrame × Rest). AtStarts s.code c.0) (same_done (placed.0 ∷ others.0.0, others.0.1) cut others.2)
    (placed_at_start s rest.at (from + first.0.0.delta) first.0.0 placed.0 placed.1, each_at_start s count (from + first.0.0.delta + 1) first.0.0.entries.locals first.0.1 others.0 others.1)

-- a value behind a test that it passed
behind_test : {Y : Type 0} (test : Bool) (d : Fault) (x y : Y) → (if test then Ok x else Err d) ≡ Ok y → x ≡ y
behind_test true d x y e = cc
behind_test false d x y e = absurd cc

table_at_starts : (s : Setting) (entry : Frame) (content : List ℕ) (frames : List PlacedFrame) → stack_map_table_at s entry content ≡ Ok frames → AtStarts s.code frames
table_at_starts s entry content frames e =
    let count = bind_ok (table_u2_at (record { at = 0; bytes = content })) _ frames e in
    let cut = bind_ok (frames_at s count.0.0 0 (listed entry) count.0.1) _ frames count.2 in
    subst (AtStarts s.code) (behind_test (length cut.0.1.bytes == 0) missing cut.0.0 frames cut.2) (each_at_start s count.0.0 0 (listed entry) count.0.1 cut.0 cut.1)

-- ---- those of a method's code

-- an instruction of a code that can be read starts at an offset
pub record StartsAt (code : List ℕ) (at : ℕ) : Type 0 where
  pub instrs : List Placed
  pub read : decoded code ≡ Ok instrs
  pub starts : IsTrue (is_start instrs at)

-- and a frame that is stated for an offset among such
one_at_start : (code : List Placed) (frames : List PlacedFrame) (at : ℕ) (frame : Frame) → AtStarts code frames → frame_for frames at ≡ Some frame → IsTrue (is_start code at)
one_at_start code [] at frame each is = absurd cc
one_at_start code (placed ∷ others) at frame each is = by (placed.at == at) refl is (one_at_start code others at frame each.1) where
  by : (here : Bool) → (placed.at == at) ≡ here → (if here then Some placed.frame else frame_for others at) ≡ Some frame → (frame_for others at ≡ Some frame → IsTrue (is_start code at)) → IsTrue (is_start code at)
  by true e found below = subst (λ (place : ℕ). IsTrue (is_start code place)) (eqb-true placed.at at e) each.0
  by false e found below = below found

module _ (home : Home) (method : Method) (part : CodePart) (at : ℕ) (frame : Frame) where
  of_table : (attr : InnerAttr) (read : Result (List Placed) Fault) (table : Result (List PlacedFrame) Fault) → decoded part.code ≡ read → stated_frames home method part read attr ≡ table → frame_for (read_or_none table) at ≡ Some frame → StartsAt part.code at
  of_table attr (Err f) table read_is table_is is = absurd (none_stated table table_is is) where
    none_stated : (table : Result (List PlacedFrame) Fault) → Ok [] ≡ table → frame_for (read_or_none table) at ≡ Some frame → ⊥
    none_stated (Ok frames) none is = let empty : [] ≡ frames = cc in absurd (let no : frame_for [] at ≡ Some frame = subst (λ (all : List PlacedFrame). frame_for all at ≡ Some frame) (sym empty) is in cc)
    none_stated (Err f) none is = absurd cc
  of_table attr (Ok instrs) (Err f) read_is table_is is = absurd cc
  of_table attr (Ok instrs) (Ok frames) read_is table_is is =
      let setting : Setting = record { pool = home.pool; max_locals = part.max_locals; max_stack = part.max_stack; code = instrs } in
      record { instrs = instrs; read = read_is; starts = one_at_start instrs frames at frame (table_at_starts setting (entry_of home method part) attr.bytes frames table_is) is }

  pub stated_at_start : (attrs : List InnerAttr) → frame_for (stated_in home method part attrs) at ≡ Some frame → StartsAt part.code at
  stated_at_start [] is = absurd cc
  stated_at_start (attr ∷ attrs) is = by (inner_is_named home.pool stack_map_table attr) is (stated_at_start attrs) where
    by : (named : Bool) → frame_for (if named then read_or_none (stated_frames home method part (decoded part.code) attr) else stated_in home method part attrs) at ≡ Some frame → (frame_for (stated_in home method part attrs) at ≡ Some frame → StartsAt part.code at) → StartsAt part.code at
    by true found below = of_table attr (decoded part.code) (stated_frames home method part (decoded part.code) attr) refl refl found
    by false found below = below found
