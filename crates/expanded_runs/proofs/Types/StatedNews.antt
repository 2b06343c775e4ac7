-- The uninitialised objects that the frames of a method's code name are those of its news: in the frames that it states.
use Rattle.std.proofs.Common.{◌≡◌, ◌≢◌, ◌+◌, ◌-◌, ℕ, zero, suc, Bool, true, false, List, [], ◌∷◌, ◌++◌, length, map, reverse, replicate, Option, Some, None, Result, Ok, Err, refl, sym, subst, ◌∙◌, if◌then◌else◌}
use Rattle.std.specs.Prelude.{◌==◌, ◌||◌, ◌&&◌, nat_lt, nat_le}
use Rattle.std.specs.List.{AllByRecursion}
use Rattle.std.proofs.lemmas.List.{reverse-append}
use Rattle.std.proofs.lemmas.Option.{none-some, same_Some}
use Rattle.class_model.specs.Checks.{Fault}
use Rattle.class_model.specs.Code.{inner_is_named, entry_frame, stack_map_table, verification_type}
use Rattle.class_model.specs.Cutting.{Rest, behind}
use Rattle.class_model.specs.Descriptors.{parameters_of}
use Rattle.class_model.specs.Frames.{FrameForm, NoOperand, ClassIndex, NewOffset, Setting, Stated, TypeOperand, SameFrame, ItemFrame, ReservedFrame, ItemFrameExtended, ChopFrame, SameFrameExtended, AppendFrame, FullFrame, chopped, counted_types_at, depth, entries_of_units, filled, fits_at, frame_at, frame_behind, frames_at, is_new_at, is_top, is_wide, item_at, item_frame_at, listed, missing, object_of, stack_map_table_at, stated_frame, table_u2_at, type_behind, type_rows, units, units_of_entries, verification_type_at, verification_types_at, without_tops}
use Rattle.class_model.specs.Instructions.{decoded, is_start, u1_in}
use Rattle.class_model.specs.Laws.Cuts.{bind_ok, same_done}
use Rattle.class_model.specs.Members.{STATIC, has, is_text}
use Rattle.class_model.specs.Methods.{Home, entry_of}
use Rattle.class_model.specs.Names.{init}
use Rattle.class_model.specs.PoolChecks.{class_at, text_or_empty, utf8_at}
use Rattle.class_model.specs.Stated.{frame_for, read_or_none, stated_frames, stated_in}
use Rattle.class_model.specs.Tables.{Row, given_in}
use Rattle.class_model.specs.declared.class_file.CodePart.{CodePart}
use Rattle.class_model.specs.declared.class_file.InnerAttr.{InnerAttr}
use Rattle.class_model.specs.declared.class_file.Method.{Method}
use Rattle.class_model.specs.declared.descriptor.FieldType.{FieldType}
use Rattle.class_model.specs.declared.descriptor.FieldType.TheVariants as field_types
use Rattle.class_model.specs.declared.frame.Frame.{Frame}
use Rattle.class_model.specs.declared.frame.PlacedFrame.{PlacedFrame}
use Rattle.class_model.specs.declared.frame.VType.{VType}
use Rattle.class_model.specs.declared.frame.VType.TheVariants as types
use Rattle.class_model.specs.declared.instr.Placed.{Placed}
use Rattle.expanded_runs.proofs.Types.ObjectsApart.{all_joined, all_same, all_taken}

-- an uninitialised object is that of a new of the code
abbrev pub IsNewIn : List Placed → VType → Type 0
IsNewIn code type = (at : ℕ) → type ≡ types.Uninit at → is_new_at code at ≡ true

abbrev pub AreNewIn : List Placed → List VType → Type 0
AreNewIn code entries = AllByRecursion (IsNewIn code) entries

-- ---- tables

rows_give : {X : Type 0} (P : X → Type 0) (rows : List (Row X)) → AllByRecursion (λ (r : Row X). (n : ℕ) → P (r.gives n)) rows
    → (n : ℕ) (x : X) → given_in rows n ≡ Some x → P x
rows_give P [] all n x is = absurd (none-some x is)
rows_give {X} P (r ∷ rows) all n x is = by (nat_le r.low n && nat_le n r.high) is (rows_give P rows all.1 n x) where
  by : (b : Bool) → (if b then Some (r.gives n) else given_in rows n) ≡ Some x → (given_in rows n ≡ Some x → P x) → P x
  by true found rest = subst P (same_Some (r.gives n) x found) (all.0 n)
  by false found rest = rest found

-- a tag stands for no uninitialised object
abbrev NoObject : TypeOperand → Type 0
NoObject (NoOperand type) = (at : ℕ) → type ≢ types.Uninit at
NoObject other = Unit {0}

no_objects : AllByRecursion (λ (r : Row TypeOperand). (n : ℕ) → NoObject (r.gives n)) type_rows
no_objects = (
  (λ n at is. absurd cc),
  (
    (λ n at is. absurd cc),
    (
      (λ n at is. absurd cc),
      (
        (λ n at is. absurd cc),
        (
          (λ n at is. absurd cc),
          ((λ n at is. absurd cc), ((λ n at is. absurd cc), ((λ n. tt), ((λ n. tt), tt)))),
        ),
      ),
    ),
  ),
)

-- ---- values behind tests

behind_first_test : {Y : Type 0} (test : Bool) (d : Fault) (x y : Result Y Fault) → (if test then Err d else x) ≡ y → (z : Y) → y ≡ Ok z → x ≡ Ok z
behind_first_test true d x y e z is = absurd cc
behind_first_test false d x y e z is = e ∙ is

module _ (s : Setting) where
  type_behind_new : (frame : ℕ) (found : Option TypeOperand) (rest : Rest) (cut : VType × Rest)
      → ((x : TypeOperand) → found ≡ Some x → NoObject x)
      → type_behind s frame found rest ≡ Ok cut
      → IsNewIn s.code cut.0
  type_behind_new frame None rest cut good e = absurd cc
  type_behind_new frame (Some (NoOperand type)) rest cut good e =
      subst (λ (c : VType × Rest). IsNewIn s.code c.0) (same_done (type, rest) cut e)
      (λ at is. absurd (good (NoOperand type) refl at is))
  type_behind_new frame (Some ClassIndex) rest cut good e =
      let index = bind_ok (table_u2_at rest) _ cut e in
      by (class_at s.pool index.0.0) index.0.1 index.2 where
        by : (name : Option (List ℕ)) (r : Rest) → object_of frame r name ≡ Ok cut → IsNewIn s.code cut.0
        by None r e = absurd cc
        by (Some name) r e =
            subst (λ (c : VType × Rest). IsNewIn s.code c.0) (same_done (types.Object name, r) cut e) (λ at is. absurd cc)
  type_behind_new frame (Some NewOffset) rest cut good e =
      let offset = bind_ok (table_u2_at rest) _ cut e in
      by offset.0.0 offset.0.1 _ (is_new_at s.code offset.0.0) refl offset.2 where
        by : (n : ℕ) (r : Rest) (d : Fault) (new : Bool) → is_new_at s.code n ≡ new
            → (if new then Ok (types.Uninit n, r) else Err d) ≡ Ok cut
            → IsNewIn s.code cut.0
        by n r d true is e =
            subst (λ (c : VType × Rest). IsNewIn s.code c.0) (same_done (types.Uninit n, r) cut e)
            (λ at same. let number : n ≡ at = cc in subst (λ (m : ℕ). is_new_at s.code m ≡ true) number is)
        by n r d false is e = absurd cc

  type_new : (frame : ℕ) (rest : Rest) (cut : VType × Rest) → verification_type_at s frame rest ≡ Ok cut → IsNewIn s.code cut.0
  type_new frame rest cut e =
      type_behind_new frame (given_in type_rows (u1_in rest.bytes 0)) (behind 1 rest) cut
      (λ x is. rows_give NoObject type_rows no_objects (u1_in rest.bytes 0) x is)
      (behind_first_test (nat_lt (length rest.bytes) 1) missing _ _ refl cut e)

  types_new : (frame count : ℕ) (rest : Rest) (cut : List VType × Rest) → verification_types_at s frame count rest ≡ Ok cut
      → AreNewIn s.code cut.0
  unfolding verification_types_at
  types_new frame zero rest cut e = subst (λ (c : List VType × Rest). AreNewIn s.code c.0) (same_done ([], rest) cut e) tt
  types_new frame (suc count) rest cut e =
      let first = bind_ok (verification_type_at s frame rest) _ cut e in
      let others = bind_ok (verification_types_at s frame count first.0.1) _ cut first.2 in
      subst (λ (c : List VType × Rest). AreNewIn s.code c.0) (same_done (first.0.0 ∷ others.0.0, others.0.1) cut others.2)
      (type_new frame rest first.0 first.1, types_new frame count first.0.1 others.0 others.1)

  counted_new : (frame : ℕ) (rest : Rest) (cut : List VType × Rest) → counted_types_at s frame rest ≡ Ok cut → AreNewIn s.code cut.0
  counted_new frame rest cut e =
      let count = bind_ok (table_u2_at rest) _ cut e in
      types_new frame count.0.0 count.0.1 cut count.2

  item_new : (frame : ℕ) (rest : Rest) (cut : List VType × Rest) → item_at s frame rest ≡ Ok cut → AreNewIn s.code cut.0
  item_new frame rest cut e =
      let item = bind_ok (verification_type_at s frame rest) _ cut e in
      subst (λ (c : List VType × Rest). AreNewIn s.code c.0) (same_done (item.0.0 ∷ [], item.0.1) cut item.2)
      (type_new frame rest item.0 item.1, tt)

  -- ---- frames

  abbrev FrameNew : Stated → Type 0
  FrameNew f = AreNewIn s.code f.entries.locals × AreNewIn s.code f.entries.stack

  item_frame_new : (frame delta : ℕ) (locals : List VType) (rest : Rest) (cut : Stated × Rest) → AreNewIn s.code locals
      → item_frame_at s delta locals frame rest ≡ Ok cut → FrameNew cut.0
  item_frame_new frame delta locals rest cut all e =
      let stack = bind_ok (item_at s frame rest) _ cut e in
      subst (λ (c : Stated × Rest). FrameNew c.0) (same_done (stated_frame delta locals stack.0.0, stack.0.1) cut stack.2)
      (all, item_new frame rest stack.0 stack.1)

  frame_new : (locals : List VType) (frame : ℕ) (form : Option FrameForm) (rest : Rest) (cut : Stated × Rest) → AreNewIn s.code locals
      → frame_behind s locals frame form rest ≡ Ok cut → FrameNew cut.0
  frame_new locals frame None rest cut all e = absurd cc
  frame_new locals frame (Some (SameFrame delta)) rest cut all e =
      subst (λ (c : Stated × Rest). FrameNew c.0) (same_done (stated_frame delta locals [], rest) cut e) (all, tt)
  frame_new locals frame (Some (ItemFrame delta)) rest cut all e = item_frame_new frame delta locals rest cut all e
  frame_new locals frame (Some ReservedFrame) rest cut all e = absurd cc
  frame_new locals frame (Some ItemFrameExtended) rest cut all e =
      let delta = bind_ok (table_u2_at rest) _ cut e in
      item_frame_new frame delta.0.0 locals delta.0.1 cut all delta.2
  frame_new locals frame (Some (ChopFrame count)) rest cut all e =
      let later = behind_first_test (nat_lt (length locals) count) _ _ _ refl cut e in
      let delta = bind_ok (table_u2_at rest) _ cut later in
      subst (λ (c : Stated × Rest). FrameNew c.0) (same_done (stated_frame delta.0.0 (chopped count locals) [], delta.0.1) cut delta.2)
      (all_taken (IsNewIn s.code) _ locals all, tt)
  frame_new locals frame (Some SameFrameExtended) rest cut all e =
      let delta = bind_ok (table_u2_at rest) _ cut e in
      subst (λ (c : Stated × Rest). FrameNew c.0) (same_done (stated_frame delta.0.0 locals [], delta.0.1) cut delta.2) (all, tt)
  frame_new locals frame (Some (AppendFrame count)) rest cut all e =
      let delta = bind_ok (table_u2_at rest) _ cut e in
      let more = bind_ok (verification_types_at s frame count delta.0.1) _ cut delta.2 in
      subst (λ (c : Stated × Rest). FrameNew c.0) (same_done (stated_frame delta.0.0 (locals ++ more.0.0) [], more.0.1) cut more.2)
      (all_joined (IsNewIn s.code) locals more.0.0 all (types_new frame count delta.0.1 more.0 more.1), tt)
  frame_new locals frame (Some FullFrame) rest cut all e =
      let delta = bind_ok (table_u2_at rest) _ cut e in
      let own = bind_ok (counted_types_at s frame delta.0.1) _ cut delta.2 in
      let stack = bind_ok (counted_types_at s frame own.0.1) _ cut own.2 in
      subst (λ (c : Stated × Rest). FrameNew c.0) (same_done (stated_frame delta.0.0 own.0.0 stack.0.0, stack.0.1) cut stack.2)
      (counted_new frame delta.0.1 own.0 own.1, counted_new frame own.0.1 stack.0 stack.1)

  frame_at_new : (locals : List VType) (rest : Rest) (cut : Stated × Rest) → AreNewIn s.code locals → frame_at s locals rest ≡ Ok cut → FrameNew cut.0
  frame_at_new locals rest cut all e =
      frame_new locals rest.at _ (behind 1 rest) cut all (behind_first_test (nat_lt (length rest.bytes) 1) missing _ _ refl cut e)

  -- ---- units

  units_new : (type : VType) → IsNewIn s.code type → AreNewIn s.code (units type)
  units_new types.Long is = (is, ((λ at same. absurd cc), tt))
  units_new types.Double is = (is, ((λ at same. absurd cc), tt))
  units_new other is = (is, tt)

  entries_new : (entries : List VType) → AreNewIn s.code entries → AreNewIn s.code (units_of_entries entries)
  entries_new [] all = tt
  entries_new (type ∷ entries) all =
      all_joined (IsNewIn s.code) (units type) (units_of_entries entries) (units_new type all.0) (entries_new entries all.1)

  pub filled_new : (max_locals : ℕ) (entries : List VType) → AreNewIn s.code entries → AreNewIn s.code (filled max_locals entries)
  filled_new max_locals entries all =
      all_joined (IsNewIn s.code) (units_of_entries entries) (replicate (max_locals - length (units_of_entries entries)) types.Top)
      (entries_new entries all) (all_same (IsNewIn s.code) _ types.Top (λ at same. absurd cc))

  -- ---- frames of a table

  abbrev PlacedNew : PlacedFrame → Type 0
  PlacedNew placed = AreNewIn s.code placed.frame.locals × AreNewIn s.code placed.frame.stack

  behind_tests : {Y : Type 0} (size starts : Bool) (one two : Fault) (x y : Y)
      → (if size then Err one else (if starts then Ok x else Err two)) ≡ Ok y → x ≡ y
  behind_tests true starts one two x y e = absurd cc
  behind_tests false true one two x y e = cc
  behind_tests false false one two x y e = absurd cc

  placed_new : (frame at : ℕ) (f : Stated) (placed : PlacedFrame) → FrameNew f → fits_at s frame at f ≡ Ok placed → PlacedNew placed
  placed_new frame at f placed all e =
      subst PlacedNew
      (behind_tests (nat_lt s.max_locals (depth f.entries.locals) || nat_lt s.max_stack (depth f.entries.stack)) (is_start s.code at) _ _ _ placed e)
      (filled_new s.max_locals f.entries.locals all.0, all.1)

  each_new : (count from : ℕ) (locals : List VType) (rest : Rest) (cut : List PlacedFrame × Rest) → AreNewIn s.code locals
      → frames_at s count from locals rest ≡ Ok cut → AllByRecursion PlacedNew cut.0
  unfolding frames_at
  each_new zero from locals rest cut all e =
      subst (λ (c : List PlacedFrame × Rest). AllByRecursion PlacedNew c.0) (same_done ([], rest) cut e) tt
  each_new (suc count) from locals rest cut all e =
      let first = bind_ok (frame_at s locals rest) _ cut e in
      let placed = bind_ok (fits_at s rest.at (from + first.0.0.delta) first.0.0) _ cut first.2 in
      let others = bind_ok (frames_at s count (from + first.0.0.delta + 1) first.0.0.entries.locals first.0.1) _ cut placed.2 in
      let own = frame_at_new locals rest first.0 all first.1 in
      subst (λ (c : List PlacedFrame × Rest). AllByRecursion PlacedNew c.0) (same_done (placed.0 ∷ others.0.0, others.0.1) cut others.2) (
        placed_new rest.at (from + first.0.0.delta) first.0.0 placed.0 own placed.1,
        each_new count (from + first.0.0.delta + 1) first.0.0.entries.locals first.0.1 others.0 own.0 others.1,
      )

  -- ---- the frame that the code begins with, as a table lists it

  joined_one : (entries : List VType) (type : VType) → AreNewIn s.code entries → IsNewIn s.code type → AreNewIn s.code (entries ++ type ∷ [])
  joined_one entries type all is = all_joined (IsNewIn s.code) entries (type ∷ []) all (is, tt)

  reversed_new : (entries : List VType) → AreNewIn s.code entries → AreNewIn s.code (reverse entries)
  reversed_new [] all = tt
  reversed_new (type ∷ entries) all =
      subst (AreNewIn s.code) (sym (reverse-append (type ∷ []) entries)) (joined_one (reverse entries) type (reversed_new entries all.1) all.0)

  tops_gone : (entries : List VType) → AreNewIn s.code entries → AreNewIn s.code (without_tops entries)
  tops_gone [] all = tt
  tops_gone (type ∷ entries) all = by (is_top type) (tops_gone entries all.1) where
    by : (top : Bool) → AreNewIn s.code (without_tops entries) → AreNewIn s.code (if top then without_tops entries else type ∷ entries)
    by true rest = rest
    by false rest = all

  listed_units : (entries : List VType) → AreNewIn s.code entries → AreNewIn s.code (entries_of_units entries)
  unfolding entries_of_units
  listed_units [] all = tt
  listed_units (type ∷ []) all = all
  listed_units (type ∷ next ∷ entries) all = by (is_wide type) (listed_units entries all.1.1) (listed_units (next ∷ entries) all.1) where
    by : (wide : Bool) → AreNewIn s.code (entries_of_units entries) → AreNewIn s.code (entries_of_units (next ∷ entries))
        → AreNewIn s.code (if wide then type ∷ entries_of_units entries else type ∷ entries_of_units (next ∷ entries))
    by true one other = (all.0, one)
    by false one other = (all.0, other)

  listed_new : (entry : Frame) → AreNewIn s.code entry.locals → AreNewIn s.code (listed entry)
  listed_new entry all =
      listed_units _ (reversed_new (without_tops (reverse entry.locals)) (tops_gone (reverse entry.locals) (reversed_new entry.locals all)))

  params_new : (params : List FieldType) → AreNewIn s.code (map verification_type params)
  params_new [] = tt
  params_new (param ∷ params) = (one param, params_new params) where
    one : (param : FieldType) → IsNewIn s.code (verification_type param)
    one (field_types.Named name) = λ at is. absurd cc
    one field_types.Byte = λ at is. absurd cc
    one field_types.Char = λ at is. absurd cc
    one field_types.Short = λ at is. absurd cc
    one field_types.Bool = λ at is. absurd cc
    one field_types.Int = λ at is. absurd cc
    one field_types.Long = λ at is. absurd cc
    one field_types.Float = λ at is. absurd cc
    one field_types.Double = λ at is. absurd cc

  behind_last_test : {Y : Type 0} (test : Bool) (d : Fault) (x y : Y) → (if test then Ok x else Err d) ≡ Ok y → x ≡ y
  behind_last_test true d x y e = cc
  behind_last_test false d x y e = absurd cc

  table_new : (entry : Frame) (content : List ℕ) (frames : List PlacedFrame) → AreNewIn s.code entry.locals
      → stack_map_table_at s entry content ≡ Ok frames
      → AllByRecursion PlacedNew frames
  table_new entry content frames all e =
      let count = bind_ok (table_u2_at (record { at = 0; bytes = content })) _ frames e in
      let cut = bind_ok (frames_at s count.0.0 0 (listed entry) count.0.1) _ frames count.2 in
      subst (AllByRecursion PlacedNew) (behind_last_test (length cut.0.1.bytes == 0) missing cut.0.0 frames cut.2)
      (each_new count.0.0 0 (listed entry) count.0.1 cut.0 (listed_new entry all) cut.1)

  entry_frame_new : (flags : ℕ) (name : List ℕ) (class : Option (List ℕ)) (params : List FieldType) (max_locals : ℕ)
      → AreNewIn s.code (entry_frame flags name class params max_locals).locals
  entry_frame_new flags name class params max_locals = by (has flags STATIC) refl where
    one : (this : VType) → IsNewIn s.code this → AreNewIn s.code (filled max_locals (this ∷ map verification_type params))
    one this is = filled_new max_locals (this ∷ map verification_type params) (is, params_new params)

    of_class : (found : Option (List ℕ)) → class ≡ found → has flags STATIC ≡ false → is_text init (Some name) ≡ false
        → AreNewIn s.code (entry_frame flags name class params max_locals).locals
    of_class (Some named) is static other = rw (static, other, is) (one (types.Object named) (λ at e. absurd cc))
    of_class None is static other = rw (static, other, is) (one types.Top (λ at e. absurd cc))

    of_name : (is_init : Bool) → is_text init (Some name) ≡ is_init → has flags STATIC ≡ false
        → AreNewIn s.code (entry_frame flags name class params max_locals).locals
    of_name true is static = rw (static, is) (one types.UninitThis (λ at e. absurd cc))
    of_name false is static = of_class class refl static is

    by : (static : Bool) → has flags STATIC ≡ static → AreNewIn s.code (entry_frame flags name class params max_locals).locals
    by true is = rw is (filled_new max_locals (map verification_type params) (params_new params))
    by false is = of_name (is_text init (Some name)) refl is

-- ---- those of a method's code

one_stated : (code : List Placed) (frames : List PlacedFrame) (at : ℕ) (frame : Frame)
    → AllByRecursion (λ (placed : PlacedFrame). AreNewIn code placed.frame.locals × AreNewIn code placed.frame.stack) frames
    → frame_for frames at ≡ Some frame
    → AreNewIn code frame.locals × AreNewIn code frame.stack
one_stated code [] at frame each is = absurd (none-some frame is)
one_stated code (placed ∷ others) at frame each is = by (placed.at == at) is (one_stated code others at frame each.1) where
  by : (here : Bool) → (if here then Some placed.frame else frame_for others at) ≡ Some frame
      → (frame_for others at ≡ Some frame → AreNewIn code frame.locals × AreNewIn code frame.stack)
      → AreNewIn code frame.locals × AreNewIn code frame.stack
  by true found below =
      subst (λ (f : Frame). AreNewIn code f.locals × AreNewIn code f.stack) (same_Some placed.frame frame found) each.0
  by false found below = below found

-- the instructions of a code
abbrev pub read_instrs : Result (List Placed) Fault → List Placed
read_instrs (Ok instrs) = instrs
read_instrs (Err fault) = []

module _ (home : Home) (method : Method) (part : CodePart) (at : ℕ) (frame : Frame) where
  of_table : (attr : InnerAttr) (read : Result (List Placed) Fault) (table : Result (List PlacedFrame) Fault)
      → stated_frames home method part read attr ≡ table → frame_for (read_or_none table) at ≡ Some frame
      → AreNewIn (read_instrs read) frame.locals × AreNewIn (read_instrs read) frame.stack
  of_table attr (Err f) table table_is is = absurd (none_stated table table_is is) where
    none_stated : (table : Result (List PlacedFrame) Fault) → Ok [] ≡ table → frame_for (read_or_none table) at ≡ Some frame → ⊥
    none_stated (Ok frames) none is =
        let empty : [] ≡ frames = cc in
        let no : frame_for [] at ≡ Some frame = subst (λ (all : List PlacedFrame). frame_for all at ≡ Some frame) (sym empty) is in
        absurd (none-some frame no)
    none_stated (Err f) none is = absurd cc
  of_table attr (Ok instrs) (Err f) table_is is = absurd cc
  of_table attr (Ok instrs) (Ok frames) table_is is =
      let setting : Setting =
      record { pool = home.pool; max_locals = part.max_locals; max_stack = part.max_stack; code = instrs } in
      one_stated instrs frames at frame
      (table_new setting (entry_of home method part) attr.bytes frames
      (entry_frame_new setting method.flags (text_or_empty (utf8_at home.pool method.name)) home.name
      (parameters_of (text_or_empty (utf8_at home.pool method.desc))) part.max_locals) table_is) is

  pub stated_news : (attrs : List InnerAttr) → frame_for (stated_in home method part attrs) at ≡ Some frame
      → AreNewIn (read_instrs (decoded part.code)) frame.locals × AreNewIn (read_instrs (decoded part.code)) frame.stack
  stated_news [] is = absurd (none-some frame is)
  stated_news (attr ∷ attrs) is = by (inner_is_named home.pool stack_map_table attr) is (stated_news attrs) where
    by : (named : Bool)
        → frame_for (if named then read_or_none (stated_frames home method part (decoded part.code) attr)
        else stated_in home method part attrs) at ≡ Some frame
        → (frame_for (stated_in home method part attrs) at ≡ Some frame
        → AreNewIn (read_instrs (decoded part.code)) frame.locals × AreNewIn (read_instrs (decoded part.code)) frame.stack)
        → AreNewIn (read_instrs (decoded part.code)) frame.locals × AreNewIn (read_instrs (decoded part.code)) frame.stack
    by true found below = of_table attr (decoded part.code) (stated_frames home method part (decoded part.code) attr) refl found
    by false found below = below found

-- so are those of the frame that it begins with
pub entry_news : (code : List Placed) (home : Home) (method : Method) (part : CodePart) → AreNewIn code (entry_of home method part).locals
entry_news code home method part =
    entry_frame_new (record { pool = home.pool; max_locals = part.max_locals; max_stack = part.max_stack; code = code }) method.flags
    (text_or_empty (utf8_at home.pool method.name)) home.name (parameters_of (text_or_empty (utf8_at home.pool method.desc))) part.max_locals
