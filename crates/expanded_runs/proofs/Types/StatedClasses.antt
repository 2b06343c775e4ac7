-- The classes that the frames of a StackMapTable name are those of Class constants, or stand in the frame that the code begins with.
use Rattle.std.proofs.Common.{◌≡◌, ◌+◌, ◌-◌, ℕ, zero, suc, Bool, true, false, List, [], ◌∷◌, ◌++◌, length, reverse, replicate, take, Option, Some, None, Result, Ok, Err, if◌then◌else◌, refl, sym, subst}
use Rattle.std.specs.Prelude.{◌==◌, ◌&&◌, nat_le, nat_lt}
use Rattle.std.specs.List.{AllByRecursion}
use Rattle.std.proofs.lemmas.List.{reverse-append}
use Rattle.std.proofs.lemmas.Option.{none-some, same_Some}
use Rattle.class_model.specs.Checks.{Fault, ◌>>=◌}
use Rattle.class_model.specs.Cutting.{Rest, behind}
use Rattle.class_model.specs.Frames.{AppendFrame, ChopFrame, ClassIndex, FrameForm, FullFrame, ItemFrame, ItemFrameExtended, NewOffset, NoOperand, ReservedFrame, SameFrame, SameFrameExtended, Setting, Stated, TypeOperand, counted_types_at, entries_of_units, fits_at, frame_at, frame_behind, frame_rows, frames_at, is_new_at, is_top, is_wide, item_at, item_frame_at, listed, object_of, stack_map_table_at, table_u2_at, type_behind, type_rows, units_of_entries, verification_type_at, verification_types_at, without_tops}
use Rattle.class_model.specs.Instructions.{is_start, u1_in}
use Rattle.class_model.specs.PoolChecks.{class_at}
use Rattle.class_model.specs.Tables.{Row, given_in}
use Rattle.class_model.specs.declared.frame.Frame.{Frame}
use Rattle.class_model.specs.declared.frame.PlacedFrame.{PlacedFrame}
use Rattle.class_model.specs.declared.frame.VType.{VType}
use Rattle.class_model.specs.declared.frame.VType.TheVariants as types
use Rattle.expanded_runs.specs.NamedFrames.{FrameHas, TypeHas, TypesHave}

-- ---- types

module _ (Has : List ℕ → Type 0) where
  joined : (ones others : List VType) → TypesHave Has ones → TypesHave Has others → TypesHave Has (ones ++ others)
  joined [] others one other = other
  joined (type ∷ ones) others one other = (one.0, joined ones others one.1 other)

  taken : (count : ℕ) (all : List VType) → TypesHave Has all → TypesHave Has (take count all)
  taken zero all named = tt
  taken (suc count) [] named = tt
  taken (suc count) (type ∷ all) named = (named.0, taken count all named.1)

  reversed : (all : List VType) → TypesHave Has all → TypesHave Has (reverse all)
  reversed [] named = tt
  reversed (type ∷ all) named =
      subst (TypesHave Has) (sym (reverse-append (type ∷ []) all)) (joined (reverse all) (type ∷ []) (reversed all named.1) (named.0, tt))

  tops : (count : ℕ) → TypesHave Has (replicate count types.Top)
  tops zero = tt
  tops (suc count) = (tt, tops count)

  cut_tops : (all : List VType) → TypesHave Has all → TypesHave Has (without_tops all)
  cut_tops [] named = tt
  cut_tops (type ∷ all) named = by (is_top type) (cut_tops all named.1) where
    by : (b : Bool) → TypesHave Has (without_tops all) → TypesHave Has (if b then without_tops all else type ∷ all)
    by true rest = rest
    by false rest = named

  entries : (all : List VType) → TypesHave Has all → TypesHave Has (entries_of_units all)
  unfolding entries_of_units
  entries [] named = tt
  entries (one ∷ []) named = named
  entries (one ∷ next ∷ all) named = by (is_wide one) (entries all named.1.1) (entries (next ∷ all) named.1) where
    by : (b : Bool) → TypesHave Has (entries_of_units all) → TypesHave Has (entries_of_units (next ∷ all))
        → TypesHave Has (if b then one ∷ entries_of_units all else one ∷ entries_of_units (next ∷ all))
    by true behind rest = (named.0, behind)
    by false behind rest = (named.0, rest)

  of_units : (all : List VType) → TypesHave Has all → TypesHave Has (units_of_entries all)
  of_units [] named = tt
  of_units (types.Long ∷ all) named = (tt, (tt, of_units all named.1))
  of_units (types.Double ∷ all) named = (tt, (tt, of_units all named.1))
  of_units (types.Top ∷ all) named = (tt, of_units all named.1)
  of_units (types.Int ∷ all) named = (tt, of_units all named.1)
  of_units (types.Float ∷ all) named = (tt, of_units all named.1)
  of_units (types.Null ∷ all) named = (tt, of_units all named.1)
  of_units (types.UninitThis ∷ all) named = (tt, of_units all named.1)
  of_units (types.Object name ∷ all) named = (named.0, of_units all named.1)
  of_units (types.Uninit at ∷ all) named = (tt, of_units all named.1)

-- ---- what is read

-- what is read has a property
pub record Reads {X : Type 0} (Holds : X → Type 0) (r : Result X Fault) : Type 0 where
  pub holds : (x : X) → r ≡ Ok x → Holds x

it_is : {X : Type 0} {Holds : X → Type 0} (x : X) → Holds x → Reads Holds (Ok x)
it_is {X} {Holds} x has = record { holds = λ y e. let same : x ≡ y = cc in subst Holds same has }

none_is : {X : Type 0} {Holds : X → Type 0} (f : Fault) → Reads Holds (Err f)
none_is f = record { holds = λ y e. absurd cc }

any_is : {X : Type 0} (r : Result X Fault) → Reads (λ x. Unit {0}) r
any_is r = record { holds = λ y e. tt }

then_is : {A B : Type 0} {One : A → Type 0} {Holds : B → Type 0} (r : Result A Fault) (f : A → Result B Fault) → Reads One r
    → ((x : A) → One x → Reads Holds (f x))
    → Reads Holds (r >>= f)
then_is (Ok x) f one more = more x (one.holds x refl)
then_is (Err d) f one more = none_is d

if_is : {X : Type 0} {Holds : X → Type 0} (test : Bool) (one other : Result X Fault) → Reads Holds one → Reads Holds other
    → Reads Holds (if test then one else other)
if_is true one other first second = first
if_is false one other first second = second

-- ---- a table

-- what a number gives has what each row gives
given : {X : Type 0} (Holds : X → Type 0) (rows : List (Row X)) → AllByRecursion (λ (r : Row X). (n : ℕ) → Holds (r.gives n)) rows
    → (number : ℕ) (x : X) → given_in rows number ≡ Some x
    → Holds x
given Holds [] all number x is = absurd (none-some x is)
given {X} Holds (r ∷ rows) all number x is = by (nat_le r.low number && nat_le number r.high) is (given Holds rows all.1 number x) where
  by : (b : Bool) → (if b then Some (r.gives number) else given_in rows number) ≡ Some x → (given_in rows number ≡ Some x → Holds x) → Holds x
  by true same below = subst Holds (same_Some (r.gives number) x same) (all.0 number)
  by false rest below = below rest

abbrev PlainOperand : (List ℕ → Type 0) → TypeOperand → Type 0
PlainOperand Has (NoOperand type) = TypeHas Has type
PlainOperand Has other = Unit {0}

module _ (Has : List ℕ → Type 0) (s : Setting) (constants : (index : ℕ) (name : List ℕ) → class_at s.pool index ≡ Some name → Has name) where
  abbrev One : VType × Rest → Type 0
  One cut = TypeHas Has cut.0

  abbrev Many : List VType × Rest → Type 0
  Many cut = TypesHave Has cut.0

  object_has : (frame : ℕ) (rest : Rest) (index : ℕ) → Reads One (object_of frame rest (class_at s.pool index))
  object_has frame rest index = by (class_at s.pool index) refl where
    by : (found : Option (List ℕ)) → class_at s.pool index ≡ found → Reads One (object_of frame rest found)
    by None none = none_is _
    by (Some name) some = it_is (types.Object name, rest) (constants index name some)

  behind_has : (frame : ℕ) (operand : Option TypeOperand) (rest : Rest)
      → ((o : TypeOperand) → operand ≡ Some o → PlainOperand Has o)
      → Reads One (type_behind s frame operand rest)
  behind_has frame None rest plain = none_is _
  behind_has frame (Some (NoOperand type)) rest plain = it_is (type, rest) (plain (NoOperand type) refl)
  behind_has frame (Some ClassIndex) rest plain =
      then_is (table_u2_at rest) _ (any_is (table_u2_at rest)) (λ index is. object_has frame index.1 index.0)
  behind_has frame (Some NewOffset) rest plain =
      then_is (table_u2_at rest) _ (any_is (table_u2_at rest))
      (λ at is. if_is (is_new_at s.code at.0) _ _ (it_is (types.Uninit at.0, at.1) tt) (none_is _))

  rows_plain : AllByRecursion (λ (r : Row TypeOperand). (n : ℕ) → PlainOperand Has (r.gives n)) type_rows
  rows_plain = (λ n. tt, (λ n. tt, (λ n. tt, (λ n. tt, (λ n. tt, (λ n. tt, (λ n. tt, (λ n. tt, (λ n. tt, tt)))))))))

  type_has : (frame : ℕ) (rest : Rest) → Reads One (verification_type_at s frame rest)
  type_has frame rest =
      if_is (nat_lt (length rest.bytes) 1) _ _ (none_is _)
      (behind_has frame (given_in type_rows (u1_in rest.bytes 0)) (behind 1 rest)
      (λ o is. given (PlainOperand Has) type_rows rows_plain (u1_in rest.bytes 0) o is))

  types_have : (frame count : ℕ) (rest : Rest) → Reads Many (verification_types_at s frame count rest)
  unfolding verification_types_at
  types_have frame zero rest = it_is ([], rest) tt
  types_have frame (suc count) rest =
      then_is (verification_type_at s frame rest) _ (type_has frame rest)
      (λ first has. then_is (verification_types_at s frame count first.1) _ (types_have frame count first.1)
      (λ others have. it_is (first.0 ∷ others.0, others.1) (has, have)))

  counted_have : (frame : ℕ) (rest : Rest) → Reads Many (counted_types_at s frame rest)
  counted_have frame rest =
      then_is (table_u2_at rest) _ (any_is (table_u2_at rest)) (λ count is. types_have frame count.0 count.1)

  -- ---- frames

  abbrev Entered : Stated × Rest → Type 0
  Entered cut = TypesHave Has cut.0.entries.locals × TypesHave Has cut.0.entries.stack

  item_has : (delta : ℕ) (locals : List VType) (frame : ℕ) (rest : Rest) → TypesHave Has locals → Reads Entered (item_frame_at s delta locals frame rest)
  item_has delta locals frame rest named =
      then_is (item_at s frame rest) _
      (then_is {One = One} {Holds = Many} (verification_type_at s frame rest) _ (type_has frame rest)
      (λ item has. it_is (item.0 ∷ [], item.1) (has, tt)))
      (λ stack has. it_is _ (named, has))

  frame_behind_has : (locals : List VType) (frame : ℕ) (form : Option FrameForm) (rest : Rest) → TypesHave Has locals
      → Reads Entered (frame_behind s locals frame form rest)
  frame_behind_has locals frame None rest named = none_is _
  frame_behind_has locals frame (Some (SameFrame delta)) rest named = it_is _ (named, tt)
  frame_behind_has locals frame (Some (ItemFrame delta)) rest named = item_has delta locals frame rest named
  frame_behind_has locals frame (Some ReservedFrame) rest named = none_is _
  frame_behind_has locals frame (Some ItemFrameExtended) rest named =
      then_is (table_u2_at rest) _ (any_is (table_u2_at rest)) (λ delta is. item_has delta.0 locals frame delta.1 named)
  frame_behind_has locals frame (Some (ChopFrame count)) rest named =
      if_is (nat_lt (length locals) count) _ _ (none_is _)
      (then_is (table_u2_at rest) _ (any_is (table_u2_at rest)) (λ delta is. it_is _ (taken Has (length locals - count) locals named, tt)))
  frame_behind_has locals frame (Some SameFrameExtended) rest named =
      then_is (table_u2_at rest) _ (any_is (table_u2_at rest)) (λ delta is. it_is _ (named, tt))
  frame_behind_has locals frame (Some (AppendFrame count)) rest named =
      then_is (table_u2_at rest) _ (any_is (table_u2_at rest))
      (λ delta is. then_is (verification_types_at s frame count delta.1) _ (types_have frame count delta.1)
      (λ more has. it_is _ (joined Has locals more.0 named has, tt)))
  frame_behind_has locals frame (Some FullFrame) rest named =
      then_is (table_u2_at rest) _ (any_is (table_u2_at rest))
      (λ delta is. then_is (counted_types_at s frame delta.1) _ (counted_have frame delta.1)
      (λ all has. then_is (counted_types_at s frame all.1) _ (counted_have frame all.1)
      (λ stack have. it_is _ (has, have))))

  frame_has : (locals : List VType) (rest : Rest) → TypesHave Has locals → Reads Entered (frame_at s locals rest)
  frame_has locals rest named =
      if_is (nat_lt (length rest.bytes) 1) _ _ (none_is _)
      (frame_behind_has locals rest.at (given_in frame_rows (u1_in rest.bytes 0)) (behind 1 rest) named)

  abbrev pub PlacedHas : PlacedFrame → Type 0
  PlacedHas placed = FrameHas Has placed.frame

  fits_has : (frame at : ℕ) (f : Stated) → TypesHave Has f.entries.locals → TypesHave Has f.entries.stack → Reads PlacedHas (fits_at s frame at f)
  fits_has frame at f locals stack =
      if_is _ _ _ (none_is _)
      (if_is (is_start s.code at) _ _
      (it_is _ (record {
        locals = joined Has (units_of_entries f.entries.locals) (replicate (s.max_locals - length (units_of_entries f.entries.locals)) types.Top)
            (of_units Has f.entries.locals locals) (tops Has (s.max_locals - length (units_of_entries f.entries.locals)));
        stack = stack;
      })) (none_is _))

  abbrev AllNamed : List PlacedFrame × Rest → Type 0
  AllNamed cut = AllByRecursion PlacedHas cut.0

  frames_have : (count from : ℕ) (locals : List VType) (rest : Rest) → TypesHave Has locals → Reads AllNamed (frames_at s count from locals rest)
  unfolding frames_at
  frames_have zero from locals rest named = it_is _ tt
  frames_have (suc count) from locals rest named =
      then_is (frame_at s locals rest) _ (frame_has locals rest named)
      (λ first has. then_is (fits_at s rest.at (from + first.0.delta) first.0) _ (fits_has rest.at (from + first.0.delta) first.0 has.0 has.1)
      (λ placed here. then_is (frames_at s count (from + first.0.delta + 1) first.0.entries.locals first.1) _
      (frames_have count (from + first.0.delta + 1) first.0.entries.locals first.1 has.0)
      (λ others have. it_is _ (here, have))))

  -- All frames of a table.
  pub table_names : (entry : Frame) (content : List ℕ) → TypesHave Has entry.locals
      → Reads (AllByRecursion PlacedHas) (stack_map_table_at s entry content)
  table_names entry content named =
      then_is (table_u2_at (record { at = 0; bytes = content })) _ (any_is (table_u2_at (record { at = 0; bytes = content })))
      (λ count is. then_is (frames_at s count.0 0 (listed entry) count.1) _
      (frames_have count.0 0 (listed entry) count.1
      (entries Has (reverse (without_tops (reverse entry.locals)))
      (reversed Has (without_tops (reverse entry.locals)) (cut_tops Has (reverse entry.locals) (reversed Has entry.locals named)))))
      (λ frames have. if_is (length frames.1.bytes == 0) _ _ (it_is _ have) (none_is _)))
