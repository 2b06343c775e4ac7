-- The attributes of a class checked one after the other, and how many bootstrap methods the first that has any has.
use Rattle.std.proofs.lemmas.List.{drop_more}
use Rattle.std.proofs.lemmas.Bool.{not-false}
use Rattle.std.proofs.Common.{◌≡◌, ◌||◌, not, IsTrue, IsFalse, inl, inr, ℕ, ◌+◌, ◌<◌, Bool, true, false, List, [], ◌∷◌, length, get_or, drop, Option, Some, None, Result, Ok, Err, is_some, unwrap_or, refl, sym, ap, subst, ◌∙◌}
use Rattle.std.specs.Option.{option_or, IsSome}
use Rattle.std.specs.Prelude.{bytes_eq}
use Rattle.class_model.specs.Answers.{Tells}
use Rattle.class_model.specs.Checks.{Check, check, Fault}
use Rattle.class_model.specs.Laws.Answers.{goes_on, stops}
use Rattle.class_model.specs.Members.{is_text, is_named, has_named, attr_name_check}
use Rattle.class_model.specs.Methods.{bootstraps, bootstrap_methods, bootstrap_table_checks, class_attr_checks, bootstrap_count}
use Rattle.class_model.specs.Pool.{Constants}
use Rattle.class_model.specs.declared.class_file.Attr.{Attr}
use Rattle.class_model.specs.declared.fault.ClassFault.{ClassFault}
use Rattle.class_model.specs.declared.fault.ClassFault.TheVariants.{Malformed, Version, NoMemory}
use Rattle.class_model.specs.PoolChecks.{utf8_at}
use Rattle.class_model.specs.declared.fault.FileRule.TheVariants as rules
use Rattle.class_bytes.specs.Inner.Bootstraps.{own_count, CountsMethods}
use Rattle.class_bytes.specs.Inner.Cut.{attr_of, attrs_of}
use Rattle.class_bytes.specs.declared.cut.CutAttr.{CutAttr}
use Rattle.class_bytes.proofs.Attributes.{Checked, refuses, one_more}
use Rattle.class_bytes.proofs.Kept.{eq_sym}

-- the refusal says nothing of a value
pub refused_too : {X Y : Type 0} (checks : List (Check Fault)) (Is : X → Type 0) (Other : Y → Type 0) (e : ClassFault) → Tells checks Is (Err e) → Tells checks Other (Err e)
refused_too checks Is Other (Malformed at rule) told = told
refused_too checks Is Other NoMemory told = told
refused_too checks Is Other (Version major minor) told = told

-- the first attribute's count, or else that of the others
count_first : (pool : Constants) (attr : Attr) (attrs : List Attr) → bootstrap_count pool (attr ∷ attrs) ≡ unwrap_or (own_count pool attr) (bootstrap_count pool attrs)
count_first pool attr attrs = by_name (is_named pool bootstrap_methods attr) refl where
  by_name : (named : Bool) → is_named pool bootstrap_methods attr ≡ named → bootstrap_count pool (attr ∷ attrs) ≡ unwrap_or (own_count pool attr) (bootstrap_count pool attrs)
  by_name true e = rw e refl
  by_name false e = rw e refl

-- the count of a BootstrapMethods attribute that could be cut
pub count_of : (pool : Constants) (attr : CutAttr) (count : ℕ) → is_named pool bootstrap_methods (attr_of attr) ≡ true → CountsMethods (bootstraps attr.content.now) count → Some count ≡ own_count pool (attr_of attr)
count_of pool attr count named counts = rw (named, counts.is) (ap Some (sym counts.len))

-- ---- one BootstrapMethods attribute

-- whether an attribute has a name, by the bytes of its own
pub named_by : (pool : Constants) (name : List ℕ) (attr : CutAttr) (text bytes : List ℕ) → utf8_at pool attr.name ≡ Some text → bytes ≡ text → is_named pool name (attr_of attr) ≡ bytes_eq bytes name
named_by pool name attr text bytes there same =
    ap (λ (t : Option (List ℕ)). is_text name t) there ∙ eq_sym name text ∙ ap (λ (t : List ℕ). bytes_eq t name) (sym same)

-- an attribute whose name is not another
pub is_table : (pool : Constants) (attr : CutAttr) (text bytes : List ℕ) → utf8_at pool attr.name ≡ Some text → bytes ≡ text → false ≡ not (bytes_eq bytes bootstrap_methods) → is_named pool bootstrap_methods (attr_of attr) ≡ true
is_table pool attr text bytes there same e =
    named_by pool bootstrap_methods attr text bytes there same ∙ not-false (bytes_eq bytes bootstrap_methods) (sym e)

-- an attribute whose name is another is asked nothing more
other_named : (b : Bool) → true ≡ not b → b ≡ false
other_named true e = absurd cc
other_named false e = refl

pub is_other : (pool : Constants) (before : List Attr) (at : ℕ) (attr : CutAttr) (text bytes : List ℕ) → IsSome (utf8_at pool attr.name) → utf8_at pool attr.name ≡ Some text → bytes ≡ text → true ≡ not (bytes_eq bytes bootstrap_methods)
    → Tells (class_attr_checks pool before at (attr_of attr)) (λ own. own ≡ own_count pool (attr_of attr)) (Ok None)
is_other pool before at attr text bytes some there same e =
    let other : is_named pool bootstrap_methods (attr_of attr) ≡ false = named_by pool bootstrap_methods attr text bytes there same ∙ other_named _ e in
    ((some, rw other tt), rw other refl)

-- the name is not there yet
not_again : (is_again is_there : Bool) → IsTrue (not is_again) → is_again ≡ is_there → IsFalse is_there
not_again true is_there h e = absurd cc
not_again false is_there h e = sym e

-- the name is there already
again : (b : Bool) (at : ℕ) (e : ClassFault) → Tells {X = Unit {0}} (check at rules.Twice (IsTrue (not b)) ∷ []) (λ done. Unit {0}) (Err e) → Tells {X = Unit {0}} (check at rules.Twice (IsFalse b) ∷ []) (λ done. Unit {0}) (Err e)
again true at (Malformed place rule) (inl here) = inl ((λ h. absurd cc), here.1)
again true at (Malformed place rule) (inr later) = absurd later.1
again false at (Malformed place rule) (inl here) = absurd (here.0 refl)
again false at (Malformed place rule) (inr later) = absurd later.1
again b at NoMemory told = tt
again b at (Version major minor) told = told

module _ (pool : Constants) (before : List Attr) (at : ℕ) (attr : CutAttr) (named : is_named pool bootstrap_methods (attr_of attr) ≡ true) (there : IsSome (utf8_at pool attr.name)) (is_again : Bool) (same : is_again ≡ has_named pool bootstrap_methods before) where
  abbrev name_check : Check Fault
  name_check = attr_name_check pool at (attr_of attr)

  abbrev twice_check : Check Fault
  twice_check = check at rules.Twice (IsFalse (has_named pool bootstrap_methods before))

  abbrev table : List (Check Fault)
  table = bootstrap_table_checks pool at (bootstraps attr.content.now)

  in_parts : class_attr_checks pool before at (attr_of attr) ≡ name_check ∷ twice_check ∷ table
  in_parts = rw named refl

  abbrev IsOwn : Option ℕ → Type 0
  IsOwn own = own ≡ own_count pool (attr_of attr)

  whole_told : (result : Result (Option ℕ) ClassFault) → Tells (name_check ∷ twice_check ∷ table) IsOwn result → Tells (class_attr_checks pool before at (attr_of attr)) IsOwn result
  whole_told result told = subst (λ (checks : List (Check Fault)). Tells checks IsOwn result) (sym in_parts) told

  pub twice_refused : (e : ClassFault) → Tells {X = Unit {0}} (check at rules.Twice (IsTrue (not is_again)) ∷ []) (λ done. Unit {0}) (Err e) → Tells (class_attr_checks pool before at (attr_of attr)) IsOwn (Err e)
  twice_refused e told =
      let here : Tells {X = Unit {0}} (twice_check ∷ []) (λ done. Unit {0}) (Err e) = again (has_named pool bootstrap_methods before) at e (subst (λ (b : Bool). Tells {X = Unit {0}} (check at rules.Twice (IsTrue (not b)) ∷ []) (λ done. Unit {0}) (Err e)) same told) in
      whole_told (Err e) (goes_on (name_check ∷ []) (twice_check ∷ table) IsOwn (Err e) (there, tt)
      (stops (twice_check ∷ []) table (λ (done : Unit {0}). Unit {0}) IsOwn e here))

  pub table_refused : (e : ClassFault) → IsTrue (not is_again) → Tells table (CountsMethods (bootstraps attr.content.now)) (Err e) → Tells (class_attr_checks pool before at (attr_of attr)) IsOwn (Err e)
  table_refused e first told =
      whole_told (Err e) (goes_on (name_check ∷ twice_check ∷ []) table IsOwn (Err e) (there, (not_again is_again _ first same, tt))
      (refused_too table (CountsMethods (bootstraps attr.content.now)) IsOwn e told))

  pub table_counted : (count : ℕ) → IsTrue (not is_again) → Tells table (CountsMethods (bootstraps attr.content.now)) (Ok count) → Tells (class_attr_checks pool before at (attr_of attr)) IsOwn (Ok (Some count))
  table_counted count first told =
      whole_told (Ok (Some count)) (goes_on (name_check ∷ twice_check ∷ []) table IsOwn (Ok (Some count)) (there, (not_again is_again _ first same, tt))
      (told.0, count_of pool attr count named told.1))

-- ---- one attribute after the other

-- The attributes before this place hold, and what was found in them; these are left.
pub record AttrsChecked (pool : Constants) (whole : List (Check Fault)) (end : ℕ) (attrs : List Attr) (found : Option ℕ) (place : ℕ) (left : List CutAttr) : Type 0 where
  pub checked : Checked pool bootstrap_methods (class_attr_checks pool) whole end (is_some found) place left
  pub counted : bootstrap_count pool attrs ≡ unwrap_or found (bootstrap_count pool (attrs_of left))

or_is_some : (found own : Option ℕ) → (is_some found || is_some own) ≡ is_some (option_or found own)
or_is_some None own = refl
or_is_some (Some count) own = refl

or_else : (found own : Option ℕ) (count : ℕ) → unwrap_or found (unwrap_or own count) ≡ unwrap_or (option_or found own) count
or_else None own count = refl
or_else (Some found) own count = refl

-- it was found exactly where the attribute is one
is_own : (pool : Constants) (attr : Attr) → is_some (own_count pool attr) ≡ is_named pool bootstrap_methods attr
is_own pool attr = by_name (is_named pool bootstrap_methods attr) refl where
  by_name : (named : Bool) → is_named pool bootstrap_methods attr ≡ named → is_some (own_count pool attr) ≡ is_named pool bootstrap_methods attr
  by_name true e = rw e refl
  by_name false e = rw e refl

-- the next of them
module _ (pool : Constants) (whole : List (Check Fault)) (end : ℕ) (found : Option ℕ) (place : ℕ) (attrs : List CutAttr) (index : ℕ) (none : CutAttr) (within : index < length attrs) (so_far : AttrsChecked pool whole end (attrs_of attrs) found place (drop index attrs)) where
  abbrev next : CutAttr
  next = get_or attrs index none

  abbrev others : List CutAttr
  others = drop (index + 1) attrs

  first_left : drop index attrs ≡ next ∷ others
  first_left = drop_more attrs index none within

  abbrev TellsNext : Result (Option ℕ) ClassFault → Type 0
  TellsNext result = (before : List Attr) → is_some found ≡ has_named pool bootstrap_methods before → Tells (class_attr_checks pool before place (attr_of next)) (λ own. own ≡ own_count pool (attr_of next)) result

  pub attr_refused : (Is : ℕ → Type 0) (e : ClassFault) → TellsNext (Err e) → Tells whole Is (Err e)
  attr_refused Is e told =
      refused_too whole (λ (at : ℕ). at ≡ end) Is e
      (refuses pool bootstrap_methods (class_attr_checks pool) whole end (is_some found) place attrs index none within so_far.checked e
      (λ before named. refused_too {X = Option ℕ} {Y = Bool} (class_attr_checks pool before place (attr_of next)) (λ own. own ≡ own_count pool (attr_of next)) (λ is_one. is_one ≡ is_named pool bootstrap_methods (attr_of next)) e (told before named)))

  pub one_behind : (own : Option ℕ) → TellsNext (Ok own) → AttrsChecked pool whole end (attrs_of attrs) (option_or found own) (place + (6 + length next.content.now)) others
  one_behind own told =
      let here = told so_far.checked.before so_far.checked.named in
      let more : Checked pool bootstrap_methods (class_attr_checks pool) whole end (is_some found || is_some own) (place + (6 + length next.content.now)) others =
      one_more pool bootstrap_methods (class_attr_checks pool) whole end (is_some found) place attrs index none within so_far.checked (is_some own)
      (λ before named. ((told before named).0, ap is_some (told before named).1 ∙ is_own pool (attr_of next))) in
      let counted : bootstrap_count pool (attrs_of attrs) ≡ unwrap_or found (bootstrap_count pool (attrs_of (next ∷ others))) = rw first_left at so_far.counted in
      record {
        checked = subst (λ (has_one : Bool). Checked pool bootstrap_methods (class_attr_checks pool) whole end has_one (place + (6 + length next.content.now)) others) (or_is_some found own) more;
        counted = counted
            ∙ ap (unwrap_or found) (count_first pool (attr_of next) (attrs_of others) ∙ ap (λ (o : Option ℕ). unwrap_or o (bootstrap_count pool (attrs_of others))) (sym here.1))
            ∙ or_else found own (bootstrap_count pool (attrs_of others));
      }
