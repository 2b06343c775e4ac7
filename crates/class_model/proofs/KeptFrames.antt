-- A table of frames that is read over a pool is read alike over one that keeps what its indices name.
use Rattle.std.proofs.Common.{◌≡◌, ℕ, zero, suc, ◌+◌, Bool, true, false, cond, List, length, Option, Some, None, Result, Ok, Err, refl, sym, ap, ◌∙◌}
use Rattle.std.specs.Prelude.{IsSome, nat_lt}
use Rattle.class_model.specs.Checks.{Fault, ◌>>=◌}
use Rattle.class_model.specs.Cutting.{Rest, behind, uncut}
use Rattle.class_model.specs.Frames.{Setting, TypeOperand, NoOperand, ClassIndex, NewOffset, FrameForm, SameFrame, ItemFrame, ReservedFrame, ItemFrameExtended, ChopFrame, SameFrameExtended, AppendFrame, FullFrame, object_of, type_rows, type_behind, verification_type_at, verification_types_at, counted_types_at, item_frame_at, frame_rows, frame_behind, frame_at, frames_at, fits_at, listed, table_u2_at, stack_map_table_at}
use Rattle.class_model.specs.Instructions.{u1_in}
use Rattle.class_model.specs.Pool.{Constants}
use Rattle.class_model.specs.PoolChecks.{class_at}
use Rattle.class_model.specs.Tables.{given_in}
use Rattle.class_model.specs.declared.frame.Frame.{Frame}
use Rattle.class_model.specs.declared.frame.VType.{VType}
use Rattle.class_model.proofs.KeptPools.{Keeps, class_kept}

-- Where the first gives a value, the other gives it too.
pub record GivesToo {X : Type 0} (r other : Result X Fault) : Type 0 where
  pub gives : (x : X) → r ≡ Ok x → other ≡ Ok x

same : {X : Type 0} {r : Result X Fault} → GivesToo r r
same = record { gives = λ x e. e }

as_is : {X : Type 0} (r : Result X Fault) → GivesToo r r
as_is r = same

steps : {A B : Type 0} {r other : Result A Fault} {f g : A → Result B Fault} → GivesToo r other → ((x : A) → GivesToo (f x) (g x)) → GivesToo (r >>= f) (other >>= g)
steps {r = r} {other = other} {f = f} {g = g} one more = by r one
  where
    by : (r : Result _ Fault) → GivesToo r other → GivesToo (r >>= f) (other >>= g)
    by (Ok x) one = record { gives = λ y e. ap (λ r. r >>= g) (one.gives x refl) ∙ (more x).gives y e }
    by (Err d) one = record { gives = λ y e. absurd cc }

either : {X : Type 0} (test : Bool) {a b c d : Result X Fault} → GivesToo a b → GivesToo c d → GivesToo (cond test a c) (cond test b d)
either true one other = one
either false one other = other

module _ (s : Setting) (new : Constants) (keeps : Keeps s.pool new) where
  abbrev pub over : Setting
  over = record s { pool = new }

  object_kept : (frame : ℕ) (rest : Rest) (index : ℕ) → GivesToo (object_of frame rest (class_at s.pool index)) (object_of frame rest (class_at new index))
  object_kept frame rest index = by (class_at s.pool index) refl
    where
      by : (o : Option (List ℕ)) → class_at s.pool index ≡ o → GivesToo (object_of frame rest (class_at s.pool index)) (object_of frame rest (class_at new index))
      by (Some name) e =
          let there : IsSome (class_at s.pool index) = rw e refl in
          record { gives = λ x f. ap (object_of frame rest) (class_kept keeps index there) ∙ f }
      by None e = record {
        gives = λ x f.
            let none : object_of frame rest None ≡ Ok x = ap (object_of frame rest) (sym e) ∙ f in
            absurd cc;
      }

  type_behind_kept : (frame : ℕ) (operand : Option TypeOperand) (rest : Rest) → GivesToo (type_behind s frame operand rest) (type_behind over frame operand rest)
  type_behind_kept frame None rest = same
  type_behind_kept frame (Some (NoOperand type)) rest = same
  type_behind_kept frame (Some ClassIndex) rest = steps (as_is (table_u2_at rest)) (λ index. object_kept frame index.1 index.0)
  type_behind_kept frame (Some NewOffset) rest = same

  type_kept : (frame : ℕ) (rest : Rest) → GivesToo (verification_type_at s frame rest) (verification_type_at over frame rest)
  type_kept frame rest =
      either (nat_lt (length rest.bytes) 1) same (type_behind_kept frame (given_in type_rows (u1_in rest.bytes 0)) (behind 1 rest))

  types_kept : (frame count : ℕ) (rest : Rest) → GivesToo (verification_types_at s frame count rest) (verification_types_at over frame count rest)
  unfolding verification_types_at
  types_kept frame zero rest = same
  types_kept frame (suc count) rest = steps (type_kept frame rest) (λ first. steps (types_kept frame count first.1) (λ others. same))

  counted_kept : (frame : ℕ) (rest : Rest) → GivesToo (counted_types_at s frame rest) (counted_types_at over frame rest)
  counted_kept frame rest = steps (as_is (table_u2_at rest)) (λ count. types_kept frame count.0 count.1)

  item_kept : (delta : ℕ) (locals : List VType) (frame : ℕ) (rest : Rest) → GivesToo (item_frame_at s delta locals frame rest) (item_frame_at over delta locals frame rest)
  item_kept delta locals frame rest = steps (steps (type_kept frame rest) (λ item. same)) (λ stack. same)

  frame_behind_kept : (locals : List VType) (frame : ℕ) (form : Option FrameForm) (rest : Rest) → GivesToo (frame_behind s locals frame form rest) (frame_behind over locals frame form rest)
  frame_behind_kept locals frame None rest = same
  frame_behind_kept locals frame (Some (SameFrame delta)) rest = same
  frame_behind_kept locals frame (Some (ItemFrame delta)) rest = item_kept delta locals frame rest
  frame_behind_kept locals frame (Some ReservedFrame) rest = same
  frame_behind_kept locals frame (Some ItemFrameExtended) rest = steps (as_is (table_u2_at rest)) (λ delta. item_kept delta.0 locals frame delta.1)
  frame_behind_kept locals frame (Some (ChopFrame count)) rest = same
  frame_behind_kept locals frame (Some SameFrameExtended) rest = same
  frame_behind_kept locals frame (Some (AppendFrame count)) rest = steps (as_is (table_u2_at rest)) (λ delta. steps (types_kept frame count delta.1) (λ more. same))
  frame_behind_kept locals frame (Some FullFrame) rest = steps (as_is (table_u2_at rest)) (λ delta. steps (counted_kept frame delta.1) (λ types. steps (counted_kept frame types.1) (λ stack. same)))

  frame_kept : (locals : List VType) (rest : Rest) → GivesToo (frame_at s locals rest) (frame_at over locals rest)
  frame_kept locals rest =
      either (nat_lt (length rest.bytes) 1) same (frame_behind_kept locals rest.at (given_in frame_rows (u1_in rest.bytes 0)) (behind 1 rest))

  frames_kept : (count from : ℕ) (locals : List VType) (rest : Rest) → GivesToo (frames_at s count from locals rest) (frames_at over count from locals rest)
  unfolding frames_at
  frames_kept zero from locals rest = same
  frames_kept (suc count) from locals rest =
      steps (frame_kept locals rest) (λ first. steps (as_is (fits_at s rest.at (from + first.0.delta) first.0)) (λ placed.
      steps (frames_kept count (from + first.0.delta + 1) first.0.entries.locals first.1) (λ others. same)))

  pub table_kept : (entry : Frame) (content : List ℕ) → GivesToo (stack_map_table_at s entry content) (stack_map_table_at over entry content)
  table_kept entry content = steps (as_is (table_u2_at (uncut content))) (λ count. steps (frames_kept count.0 0 (listed entry) count.1) (λ frames. same))
