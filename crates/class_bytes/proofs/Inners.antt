-- The attributes of a code checked one after the other, of which one may be a StackMapTable.
use Rattle.std.proofs.lemmas.List.{drop_more}
use Rattle.std.proofs.Common.{◌≡◌, ◌||◌, ℕ, ◌+◌, ◌<◌, Bool, List, ◌∷◌, length, get_or, drop, Ok, Err, subst, arith, length-append}
use Rattle.std.specs.List.{flat_map}
use Rattle.class_model.specs.Answers.{Tells}
use Rattle.class_model.specs.Checks.{Check, Fault}
use Rattle.class_model.specs.Code.{inners_checks, inner_is_named, stack_map_table}
use Rattle.class_model.specs.Frames.{Setting}
use Rattle.class_model.specs.Laws.Answers.{refused}
use Rattle.class_model.specs.Laws.Checks.{Remain, remain}
use Rattle.class_model.specs.Spelling.{inner_bytes}
use Rattle.class_model.specs.declared.fault.ClassFault.{ClassFault}
use Rattle.class_model.specs.declared.frame.Frame.{Frame}
use Rattle.class_bytes.specs.Inner.CodeParts.{inners_len, inner_checks}
use Rattle.class_bytes.specs.Inner.Cut.{inner_of, inners_of}
use Rattle.class_bytes.specs.declared.cut.CutAttr.{CutAttr}

-- The attributes before this place hold, and whether one of them is a StackMapTable; these are left.
pub record InnersChecked (s : Setting) (entry : Frame) (whole : List (Check Fault)) (end : ℕ) (has_table : Bool) (place : ℕ) (left : List CutAttr) : Type 0 where
  pub remain : Remain whole (inners_checks s entry has_table place (inners_of left))
  pub ends : place + inners_len (inners_of left) ≡ end

inner_len : (attr : CutAttr) → length (inner_bytes (inner_of attr)) ≡ 6 + length attr.content.now
inner_len attr = omega arith

-- the next of them
module _ (s : Setting) (entry : Frame) (whole : List (Check Fault)) (end : ℕ) (has_table : Bool) (place : ℕ) (attrs : List CutAttr) (index : ℕ) (none : CutAttr) (within : index < length attrs) (so_far : InnersChecked s entry whole end has_table place (drop index attrs)) where
  abbrev next : CutAttr
  next = get_or attrs index none

  abbrev others : List CutAttr
  others = drop (index + 1) attrs

  first_left : drop index attrs ≡ next ∷ others
  first_left = drop_more attrs index none within

  ends_with_next : place + inners_len (inners_of (next ∷ others)) ≡ end
  ends_with_next = rw first_left at so_far.ends

  its_len : place + (6 + length next.content.now) + inners_len (inners_of others) ≡ end
  its_len = omega (arith, ends_with_next, inner_len next, length-append (inner_bytes (inner_of next)) (flat_map inner_bytes (inners_of others)))

  pub inner_below : {limit : ℕ} → end < limit → place + 6 + length next.content.now < limit
  inner_below below = omega (arith, its_len)

  abbrev its_checks : List (Check Fault)
  its_checks = inner_checks s entry has_table place (inner_of next)

  abbrev IsTable : Bool → Type 0
  IsTable is_table = is_table ≡ inner_is_named s.pool stack_map_table (inner_of next)

  left : Remain whole (inners_checks s entry has_table place (inners_of (next ∷ others)))
  left = rw first_left at so_far.remain

  pub inner_refused : (e : ClassFault) → Tells its_checks IsTable (Err e) → Tells {X = Unit {0}} whole (λ done. Unit {0}) (Err e)
  inner_refused e told = refused {Y = Unit {0}} its_checks _ IsTable (λ done. Unit {0}) e left told

  pub inner_more : (is_table : Bool) → Tells its_checks IsTable (Ok is_table) → InnersChecked s entry whole end (has_table || is_table) (place + (6 + length next.content.now)) others
  inner_more is_table told =
      let behind : Remain whole (inners_checks s entry (has_table || inner_is_named s.pool stack_map_table (inner_of next)) (place + length (inner_bytes (inner_of next))) (inners_of others)) = remain its_checks _ left told.0 in
      record {
        remain = rw told.1 (subst (λ (n : ℕ). Remain whole (inners_checks s entry (has_table || inner_is_named s.pool stack_map_table (inner_of next)) (place + n) (inners_of others))) (inner_len next) behind);
        ends = its_len;
      }
