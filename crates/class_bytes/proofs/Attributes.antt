-- Attributes checked one after the other, of which one name may stand once.
use Rattle.std.proofs.lemmas.List.{drop_more}
use Rattle.std.proofs.Math.Bool.{or-false}
use Rattle.std.proofs.Common.{◌≡◌, ◌||◌, ℕ, ◌+◌, Bool, List, [], ◌∷◌, ◌++◌, length, map, Result, Ok, Err, get_or, drop, refl, sym, ap, subst, ◌∙◌, arith, length-append, ◌<◌, ◌^◌}
use Rattle.std.specs.List.{flat_map, list_any}
use Rattle.std.proofs.lemmas.List.Folds.{list_any-append}
use Rattle.class_model.specs.Answers.{Tells}
use Rattle.class_model.specs.Checks.{Check, Fault}
use Rattle.class_model.specs.Laws.Answers.{refused}
use Rattle.class_model.specs.Laws.Checks.{Remain, remain}
use Rattle.class_model.specs.Members.{is_named, has_named, attrs_checks}
use Rattle.class_model.specs.Pool.{Constants}
use Rattle.class_model.specs.Spelling.{attr_bytes}
use Rattle.class_model.specs.declared.class_file.Attr.{Attr}
use Rattle.class_model.specs.declared.fault.ClassFault.{ClassFault}
use Rattle.class_bytes.specs.Inner.Cut.{attr_of, attrs_of}
use Rattle.class_bytes.specs.Inner.Parts.{attrs_len}
use Rattle.class_bytes.specs.declared.cut.CutAttr.{CutAttr}

-- The attributes before this place hold, and whether one of them has the name; these are left.
pub record Checked (pool : Constants) (name : List ℕ) (asks : List Attr → ℕ → Attr → List (Check Fault)) (whole : List (Check Fault)) (end : ℕ) (has_one : Bool) (place : ℕ) (left : List CutAttr) : Type 0 where
  pub before : List Attr
  pub named : has_one ≡ has_named pool name before
  pub remain : Remain whole (attrs_checks asks before place (attrs_of left))
  pub ends : place + attrs_len (attrs_of left) ≡ end

-- a test of what items are seen as
pub any_seen : {A B : Type 0} (f : A → B) (test : B → Bool) (items : List A) → list_any (λ item. test (f item)) items ≡ list_any test (map f items)
any_seen f test [] = refl
any_seen f test (item ∷ items) = ap (λ (b : Bool). test (f item) || b) (any_seen f test items)

attr_len : (attr : CutAttr) → length (attr_bytes (attr_of attr)) ≡ 6 + length attr.content.now
attr_len attr = omega arith

-- the next of them
module _ (pool : Constants) (name : List ℕ) (asks : List Attr → ℕ → Attr → List (Check Fault)) (whole : List (Check Fault)) (end : ℕ) (has_one : Bool) (place : ℕ) (attrs : List CutAttr) (index : ℕ) (none : CutAttr) (within : index < length attrs) (so_far : Checked pool name asks whole end has_one place (drop index attrs)) where
  abbrev pub next : CutAttr
  next = get_or attrs index none

  abbrev pub others : List CutAttr
  others = drop (index + 1) attrs

  first_left : drop index attrs ≡ next ∷ others
  first_left = drop_more attrs index none within

  pub next_below : end < 2 ^ 63 → place + 6 + length next.content.now < 2 ^ 63
  next_below below =
      let ends : place + attrs_len (attrs_of (next ∷ others)) ≡ end = rw first_left at so_far.ends in
      omega (arith, attr_len next, length-append (attr_bytes (attr_of next)) (flat_map attr_bytes (attrs_of others)))

  abbrev its_checks : List (Check Fault)
  its_checks = asks so_far.before place (attr_of next)

  abbrev Tells_next : Result Bool ClassFault → Type 0
  Tells_next result = (before : List Attr) → has_one ≡ has_named pool name before → Tells (asks before place (attr_of next)) (λ is_one. is_one ≡ is_named pool name (attr_of next)) result

  pub refuses : (e : ClassFault) → Tells_next (Err e) → Tells whole (λ at. at ≡ end) (Err e)
  refuses e told =
      let left : Remain whole (attrs_checks asks so_far.before place (attrs_of (next ∷ others))) = rw first_left at so_far.remain in
      refused its_checks _ (λ is_one. is_one ≡ is_named pool name (attr_of next)) (λ at. at ≡ end) e left (told so_far.before so_far.named)

  pub one_more : (is_one : Bool) → Tells_next (Ok is_one) → Checked pool name asks whole end (has_one || is_one) (place + (6 + length next.content.now)) others
  one_more is_one told =
      let here = told so_far.before so_far.named in
      let left : Remain whole (attrs_checks asks so_far.before place (attrs_of (next ∷ others))) = rw first_left at so_far.remain in
      let ends : place + attrs_len (attrs_of (next ∷ others)) ≡ end = rw first_left at so_far.ends in
      let len = attr_len next in
      let before = so_far.before ++ attr_of next ∷ [] in
      record {
        before = before;
        named = ap (λ (b : Bool). b || is_one) so_far.named ∙ ap (λ (b : Bool). has_named pool name so_far.before || b) (here.1 ∙ sym (or-false _)) ∙ sym (list_any-append (is_named pool name) so_far.before (attr_of next ∷ []));
        remain = subst (λ (n : ℕ). Remain whole (attrs_checks asks before (place + n) (attrs_of others))) len (remain its_checks _ left here.0);
        ends = omega (arith, length-append (attr_bytes (attr_of next)) (flat_map attr_bytes (attrs_of others)));
      }
