-- A fault of a StackMapTable stands at one of its bytes, or at its end.
use Rattle.std.proofs.Common.{◌≡◌, ◌==◌, ◌||◌, inl, inr, sym, ap, subst, ◌∙◌, ℕ, zero, suc, ◌+◌, ◌≤◌, Bool, true, false, ltb, eqb, List, [], length, Option, Some, None, Result, Ok, Err, refl, arith}
use Rattle.std.specs.Prelude.{nat_lt, if◌then◌else◌}
use Rattle.std.proofs.lemmas.Bool.{ltb-false, cases_Bool}
use Rattle.std.proofs.lemmas.List.{length-drop}
use Rattle.class_model.specs.Checks.{Fault, fault, AllHold, IsFirstFault, ◌>>=◌}
use Rattle.class_model.specs.Code.{table_fault}
use Rattle.class_model.specs.Cutting.{Rest, Cut, behind}
use Rattle.class_model.specs.Frames.{Setting, Stated, TypeOperand, NoOperand, ClassIndex, NewOffset, FrameForm, SameFrame, ItemFrame, ReservedFrame, ItemFrameExtended, ChopFrame, SameFrameExtended, AppendFrame, FullFrame, is_new_at, missing, depth, filled, type_rows, type_behind, verification_type_at, verification_types_at, counted_types_at, item_at, item_frame_at, frame_rows, frame_behind, frame_at, frames_at, listed, stack_map_table_at}
use Rattle.class_model.specs.Instructions.{u1_in, u2_in, is_start}
use Rattle.class_model.specs.PoolChecks.{class_at}
use Rattle.class_model.specs.Tables.{given_in}
use Rattle.class_model.specs.declared.fault.FileRule.TheVariants as rules
use Rattle.class_model.specs.declared.frame.Frame.{Frame}
use Rattle.class_model.specs.declared.frame.PlacedFrame.{PlacedFrame}
use Rattle.class_model.specs.declared.frame.VType.{VType}
use Rattle.class_model.specs.declared.frame.VType.TheVariants.{Object, Uninit}
use Rattle.class_bytes.specs.Inner.CodeParts.{table_checks}

-- what is left, or the place of a fault, is not behind an end
abbrev Inside : ℕ → Rest → Type 0
Inside end rest = rest.at + length rest.bytes ≤ end

record Within {X : Type 0} (end : ℕ) (cut : Cut X) : Type 0 where
  pub ok : (x : X × Rest) → cut ≡ Ok x → Inside end x.1
  pub err : (f : Fault) → cut ≡ Err f → f.at ≤ end

record Fails {X : Type 0} (end : ℕ) (step : Result X Fault) : Type 0 where
  pub err : (f : Fault) → step ≡ Err f → f.at ≤ end

got : {X : Type 0} (end : ℕ) (x : X) (rest : Rest) → Inside end rest → Within end (Ok (x, rest))
got end x rest inside = record { ok = λ y e. let same : (x, rest) ≡ y = cc in subst (λ (z : _ × Rest). Inside end z.1) same inside; err = λ f e. absurd cc }

fault_within : {X : Type 0} (end : ℕ) (f : Fault) → f.at ≤ end → Within {X = X} end (Err f)
fault_within end f here = record { ok = λ y e. absurd cc; err = λ g e. let same : f ≡ g = cc in subst (λ (h : Fault). h.at ≤ end) same here }

step_done : {X : Type 0} (end : ℕ) (x : X) → Fails end (Ok x)
step_done end x = record { err = λ f e. absurd cc }

step_fails : {X : Type 0} (end : ℕ) (f : Fault) → f.at ≤ end → Fails {X = X} end (Err f)
step_fails end f here = record { err = λ g e. let same : f ≡ g = cc in subst (λ (h : Fault). h.at ≤ end) same here }

-- ---- forms

either : {X : Type 0} (end : ℕ) (test : Bool) (one other : Cut X) → Within end one → Within end other → Within end (if test then one else other)
either end true one other p q = p
either end false one other p q = q

refused : {X : Type 0} (end : ℕ) (test : Bool) (f : Fault) (other : Cut X) → f.at ≤ end → (test ≡ false → Within end other) → Within end (if test then Err f else other)
refused end true f other p q = fault_within end f p
refused end false f other p q = q refl

next_part : {X Y : Type 0} (end : ℕ) (cut : Cut X) (next : X × Rest → Cut Y) → Within end cut → ((x : X × Rest) → Inside end x.1 → Within end (next x)) → Within end (cut >>= next)
next_part end (Ok x) next p q = q x (p.ok x refl)
next_part end (Err f) next p q = fault_within end f (p.err f refl)

next_step : {X Y : Type 0} (end : ℕ) (step : Result X Fault) (next : X → Cut Y) → Fails end step → ((x : X) → Within end (next x)) → Within end (step >>= next)
next_step end (Ok x) next p q = q x
next_step end (Err f) next p q = fault_within end f (p.err f refl)

none_missing : (end : ℕ) → missing.at ≤ end
none_missing end = omega arith

behind_inside : (end count : ℕ) (rest : Rest) → Inside end rest → ltb (length rest.bytes) count ≡ false → Inside end (behind count rest)
behind_inside end count rest inside enough = let few : count ≤ length rest.bytes = ltb-false _ _ enough in omega (arith, length-drop count rest.bytes)

-- ---- items

number_in : Rest → Cut ℕ
number_in rest = if nat_lt (length rest.bytes) 2 then Err missing else Ok (u2_in rest.bytes 0, behind 2 rest)

number_within : (end : ℕ) (rest : Rest) → Inside end rest → Within end (number_in rest)
unfolding number_in
number_within end rest inside = refused end (ltb (length rest.bytes) 2) missing (Ok (u2_in rest.bytes 0, behind 2 rest)) (none_missing end) (λ enough. got end _ _ (behind_inside end 2 rest inside enough))

object_in : ℕ → Rest → Option (List ℕ) → Cut VType
object_in frame rest (Some name) = Ok (Object name, rest)
object_in frame rest None = Err (fault frame rules.FrameType)

object_within : (end frame : ℕ) (rest : Rest) (name : Option (List ℕ)) → frame ≤ end → Inside end rest → Within end (object_in frame rest name)
unfolding object_in
object_within end frame rest (Some name) here inside = got end (Object name) rest inside
object_within end frame rest None here inside = fault_within end (fault frame rules.FrameType) here

type_behind_within : (s : Setting) (end frame : ℕ) (operand : Option TypeOperand) (rest : Rest) → frame ≤ end → Inside end rest → Within end (type_behind s frame operand rest)
unfolding number_in object_in
type_behind_within s end frame None rest here inside = fault_within end (fault frame rules.FrameType) here
type_behind_within s end frame (Some (NoOperand type)) rest here inside = got end type rest inside
type_behind_within s end frame (Some ClassIndex) rest here inside =
    next_part end (number_in rest) _ (number_within end rest inside) (λ index left. object_within end frame index.1 (class_at s.pool index.0) here left)
type_behind_within s end frame (Some NewOffset) rest here inside =
    next_part end (number_in rest) _ (number_within end rest inside) (λ at left.
    either end (is_new_at s.code at.0) _ _ (got end (Uninit at.0) at.1 left) (fault_within end (fault frame rules.FrameType) here))

entry_within : (s : Setting) (end frame : ℕ) (rest : Rest) → frame ≤ end → Inside end rest → Within end (verification_type_at s frame rest)
entry_within s end frame rest here inside =
    refused end (ltb (length rest.bytes) 1) missing _ (none_missing end)
    (λ some. type_behind_within s end frame (given_in type_rows (u1_in rest.bytes 0)) (behind 1 rest) here (behind_inside end 1 rest inside some))

entries_within : (s : Setting) (end frame count : ℕ) (rest : Rest) → frame ≤ end → Inside end rest → Within end (verification_types_at s frame count rest)
unfolding verification_types_at
entries_within s end frame zero rest here inside = got end [] rest inside
entries_within s end frame (suc count) rest here inside =
    next_part end (verification_type_at s frame rest) _ (entry_within s end frame rest here inside) (λ first left.
    next_part end (verification_types_at s frame count first.1) _ (entries_within s end frame count first.1 here left) (λ others last. got end _ _ last))

-- ---- frames

counted_within : (s : Setting) (end frame : ℕ) (rest : Rest) → frame ≤ end → Inside end rest → Within end (counted_types_at s frame rest)
unfolding number_in
counted_within s end frame rest here inside =
    next_part end (number_in rest) _ (number_within end rest inside) (λ count left. entries_within s end frame count.0 count.1 here left)

item_within : (s : Setting) (end delta : ℕ) (locals : List VType) (frame : ℕ) (rest : Rest) → frame ≤ end → Inside end rest → Within end (item_frame_at s delta locals frame rest)
item_within s end delta locals frame rest here inside =
    next_part end (item_at s frame rest) _
    (next_part end (verification_type_at s frame rest) _ (entry_within s end frame rest here inside) (λ item left. got end _ _ left)) (λ stack last. got end _ _ last)

frame_behind_within : (s : Setting) (end : ℕ) (locals : List VType) (frame : ℕ) (form : Option FrameForm) (rest : Rest) → frame ≤ end → Inside end rest → Within end (frame_behind s locals frame form rest)
unfolding number_in
frame_behind_within s end locals frame None rest here inside = fault_within end (fault frame rules.FrameKind) here
frame_behind_within s end locals frame (Some (SameFrame delta)) rest here inside = got end _ _ inside
frame_behind_within s end locals frame (Some (ItemFrame delta)) rest here inside = item_within s end delta locals frame rest here inside
frame_behind_within s end locals frame (Some ReservedFrame) rest here inside = fault_within end (fault frame rules.FrameKind) here
frame_behind_within s end locals frame (Some ItemFrameExtended) rest here inside =
    next_part end (number_in rest) _ (number_within end rest inside) (λ delta left. item_within s end delta.0 locals frame delta.1 here left)
frame_behind_within s end locals frame (Some (ChopFrame count)) rest here inside =
    either end (nat_lt (length locals) count) _ _ (fault_within end (fault frame rules.FrameKind) here)
    (next_part end (number_in rest) _ (number_within end rest inside) (λ delta left. got end _ _ left))
frame_behind_within s end locals frame (Some SameFrameExtended) rest here inside =
    next_part end (number_in rest) _ (number_within end rest inside) (λ delta left. got end _ _ left)
frame_behind_within s end locals frame (Some (AppendFrame count)) rest here inside =
    next_part end (number_in rest) _ (number_within end rest inside) (λ delta left.
    next_part end (verification_types_at s frame count delta.1) _ (entries_within s end frame count delta.1 here left) (λ more last. got end _ _ last))
frame_behind_within s end locals frame (Some FullFrame) rest here inside =
    next_part end (number_in rest) _ (number_within end rest inside) (λ delta a.
    next_part end (counted_types_at s frame delta.1) _ (counted_within s end frame delta.1 here a) (λ types b.
    next_part end (counted_types_at s frame types.1) _ (counted_within s end frame types.1 here b) (λ stack c. got end _ _ c)))

frame_within : (s : Setting) (end : ℕ) (locals : List VType) (rest : Rest) → Inside end rest → Within end (frame_at s locals rest)
frame_within s end locals rest inside =
    let here : rest.at ≤ end = omega arith in
    refused end (ltb (length rest.bytes) 1) missing _ (none_missing end)
    (λ some. frame_behind_within s end locals rest.at (given_in frame_rows (u1_in rest.bytes 0)) (behind 1 rest) here (behind_inside end 1 rest inside some))

-- ---- the table

either_step : {X : Type 0} (end : ℕ) (test : Bool) (one other : Result X Fault) → Fails end one → Fails end other → Fails end (if test then one else other)
either_step end true one other p q = p
either_step end false one other p q = q

last_part : {X Y : Type 0} (end : ℕ) (cut : Cut X) (next : X × Rest → Result Y Fault) → Within end cut → ((x : X × Rest) → Inside end x.1 → Fails end (next x)) → Fails end (cut >>= next)
last_part end (Ok x) next p q = q x (p.ok x refl)
last_part end (Err f) next p q = step_fails end f (p.err f refl)

placed_in : Setting → ℕ → ℕ → Stated → Result PlacedFrame Fault
placed_in s frame at f =
    if nat_lt s.max_locals (depth f.entries.locals) || nat_lt s.max_stack (depth f.entries.stack) then Err (fault frame rules.FrameSize)
    else (if is_start s.code at then Ok (record { at = at; frame = record { locals = filled s.max_locals f.entries.locals; stack = f.entries.stack } })
    else Err (fault frame rules.FramePlace))

placed_fails : (s : Setting) (end frame at : ℕ) (f : Stated) → frame ≤ end → Fails end (placed_in s frame at f)
unfolding placed_in
placed_fails s end frame at f here =
    either_step end (nat_lt s.max_locals (depth f.entries.locals) || nat_lt s.max_stack (depth f.entries.stack)) _ _ (step_fails end (fault frame rules.FrameSize) here)
    (either_step end (is_start s.code at) _ _ (step_done end _) (step_fails end (fault frame rules.FramePlace) here))

frames_within : (s : Setting) (end count from : ℕ) (locals : List VType) (rest : Rest) → Inside end rest → Within end (frames_at s count from locals rest)
unfolding frames_at placed_in
frames_within s end zero from locals rest inside = got end [] rest inside
frames_within s end (suc count) from locals rest inside =
    next_part end (frame_at s locals rest) _ (frame_within s end locals rest inside) (λ first left.
    next_step end (placed_in s rest.at (from + first.0.delta) first.0) _ (placed_fails s end rest.at (from + first.0.delta) first.0 (omega arith)) (λ placed.
    next_part end (frames_at s count (from + first.0.delta + 1) first.0.entries.locals first.1) _ (frames_within s end count (from + first.0.delta + 1) first.0.entries.locals first.1 left) (λ others last. got end _ _ last)))

-- the table, behind these locals
table_from : Setting → List VType → List ℕ → Result (List PlacedFrame) Fault
table_from s locals content =
    number_in (record { at = 0; bytes = content }) >>= λ count. frames_at s count.0 0 locals count.1 >>= λ frames. (if length frames.1.bytes == 0 then Ok frames.0 else Err missing)

table_is : (s : Setting) (entry : Frame) (content : List ℕ) → stack_map_table_at s entry content ≡ table_from s (listed entry) content
unfolding table_from number_in
table_is s entry content = refl

table_fails : (s : Setting) (locals : List VType) (content : List ℕ) → Fails (length content) (table_from s locals content)
unfolding table_from
table_fails s locals content =
    let end = length content in
    let start : Rest = record { at = 0; bytes = content } in
    let inside : Inside end start = omega arith in
    last_part end (number_in start) _ (number_within end start inside) (λ count a.
    last_part end (frames_at s count.0 0 locals count.1) _ (frames_within s end count.0 0 locals count.1 a) (λ frames b. either_step end _ _ _ (step_done end _) (step_fails end missing (none_missing end))))

pub table_fault_inside : (s : Setting) (entry : Frame) (content : List ℕ) (f : Fault) → stack_map_table_at s entry content ≡ Err f → f.at ≤ length content
table_fault_inside s entry content f is = (table_fails s (listed entry) content).err f (sym (table_is s entry content) ∙ is)

-- it asks of the entry frame what that lists
same_table : (s : Setting) (one other : Frame) (content : List ℕ) → listed one ≡ listed other → stack_map_table_at s one content ≡ stack_map_table_at s other content
same_table s one other content same = table_is s one content ∙ ap (λ (locals : List VType). table_from s locals content) same ∙ sym (table_is s other content)

-- ---- in the file

fault_placed : (at : ℕ) (f : Fault) → fault (if f.at == 0 then at else at + 6 + f.at) f.rule ≡ table_fault at f
fault_placed at f = elim (cases_Bool (eqb f.at 0)) [ inl e ↦ rw e refl | inr e ↦ rw e refl ]

pub table_fault_placed : (s : Setting) (entry : Frame) (content : List ℕ) (at : ℕ) (f : Fault) (other : Frame) → listed other ≡ listed entry → stack_map_table_at s other content ≡ Err f
    → IsFirstFault (table_checks s entry at content) (fault (if f.at == 0 then at else at + 6 + f.at) f.rule)
table_fault_placed s entry content at f other same is =
    let here : stack_map_table_at s entry content ≡ Err f = sym (same_table s other entry content same) ∙ is in
    rw (here, fault_placed at f) (inl ((λ none. none), refl))

pub table_holds : (s : Setting) (entry : Frame) (content : List ℕ) (at : ℕ) (other : Frame) → listed other ≡ listed entry → (frames : List PlacedFrame) → stack_map_table_at s other content ≡ Ok frames → AllHold (table_checks s entry at content)
table_holds s entry content at other same frames is =
    let here : stack_map_table_at s entry content ≡ Ok frames = sym (same_table s other entry content same) ∙ is in
    rw here tt
