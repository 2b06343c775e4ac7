-- What the local units hold inside make code: what the state has in its own units and in those of fields; the objects that are made; the entries
-- that are saved; and the copies of objects.
use Rattle.std.proofs.Common.{◌≡◌, ◌≢◌, ◌⊎◌, ◌+◌, ◌==◌, ◌<◌, ◌≤◌, ℕ, suc, Bool, true, false, List, [], ◌∷◌, ◌++◌, length, map, slice_get, Option, Some, None, option_map, refl, sym, ap, subst, ◌∙◌, inl, inr, arith}
use Rattle.std.specs.List.{AllByRecursion}
use Rattle.std.proofs.lemmas.Bool.{eq-eqb, eqb-true, false≢true}
use Rattle.std.proofs.lemmas.Option.{none-some, same_Some, slice_get-map, slice_get_within}
use Rattle.class_model.specs.Frames.{is_wide}
use Rattle.class_model.specs.declared.frame.VType.{VType}
use Rattle.class_model.specs.declared.frame.VType.TheVariants as types
use Rattle.class_tree.specs.Headers.{Headers}
use Rattle.flow_code.specs.WrittenUnits.{written_units}
use Rattle.flow_code.specs.declared.point.Point.{Point}
use Rattle.flow_code.specs.declared.point.Site.{Site}
use Rattle.making_code.specs.Units.{first_object_unit, first_scratch_unit}
use Rattle.member_link.specs.Assignability.{IsAssignable, from_null, of_names, to_same, to_top}
use Rattle.member_link.specs.Rows.Table.{without_older}
use Rattle.virtual_state.specs.Sites.{has}
use Rattle.virtual_state.specs.States.{State}
use Rattle.virtual_state.specs.declared.slot.Slot.TheVariants.{Virt}
use Rattle.written_types.proofs.NoThis.{NotThis}
use Rattle.written_types.proofs.StoredLocals.{IsCut, StaysOr, Stored, units_long}
use Rattle.written_types.proofs.UnitTypes.{UnitTypes, field_region, own_region, paired_at}
use Rattle.written_types.specs.Writing.{Writing}

-- ---- a unit behind a store

pub data Look (at : ℕ) (type : VType) (locals after : List VType) (unit : ℕ) : Type 0 where
  at_the_unit : unit ≡ at → Look at type locals after unit
  is_second : is_wide type ≡ true → unit ≡ suc at → Look at type locals after unit
  as_before : slice_get after unit ≡ slice_get locals unit → Look at type locals after unit
  cut_off : slice_get after unit ≡ Some types.Top → IsCut at locals unit → Look at type locals after unit

pub decided : (a b : ℕ) → (a ≡ b) ⊎ (a ≢ b)
decided a b = by (a == b) refl where
  by : (x : Bool) → (a == b) ≡ x → (a ≡ b) ⊎ (a ≢ b)
  by true e = inl (eqb-true a b e)
  by false e = inr (λ same. absurd (false≢true (sym e ∙ eq-eqb a b same)))

pub look : (at : ℕ) (type : VType) (locals after : List VType) → Stored at type locals after → (unit : ℕ) → Look at type locals after unit
look at type locals after is unit = by (decided unit at) where
  stays : StaysOr at locals after unit → Look at type locals after unit
  stays (inl same) = as_before same
  stays (inr (top, cut)) = cut_off top cut

  narrow : unit ≢ at → (b : Bool) → is_wide type ≡ b → Look at type locals after unit
  narrow other false e = stays (is.others unit other (λ wide. absurd (false≢true (sym e ∙ wide))))
  narrow other true e = of (decided unit (suc at)) where
    of : (unit ≡ suc at) ⊎ (unit ≢ suc at) → Look at type locals after unit
    of (inl second) = is_second e second
    of (inr third) = stays (is.others unit other (λ wide. third))

  by : (unit ≡ at) ⊎ (unit ≢ at) → Look at type locals after unit
  by (inl same) = at_the_unit same
  by (inr other) = narrow other (is_wide type) refl

top_not_this : NotThis types.Top
top_not_this = λ e. absurd cc

-- a wide type may stand for itself and Top
cut_fits : {headers : Headers} {low high : VType} → IsAssignable headers low high → is_wide low ≡ true → is_wide high ≡ false
    → IsAssignable headers types.Top high
cut_fits (to_same type) wide narrow = absurd (false≢true (sym narrow ∙ wide))
cut_fits (to_top type) wide narrow = to_top types.Top
cut_fits (from_null name) wide narrow = absurd (false≢true wide)
cut_fits (of_names low high names) wide narrow = absurd (false≢true wide)

module _ (w : Writing) (at : ℕ) (point : Point) (state : State) (sites : List ℕ) (ut : UnitTypes w at point state) where
  abbrev region : List VType
  region = own_region w point state ++ field_region w state

  abbrev objects : ℕ
  objects = first_object_unit w.s.flat

  abbrev scratches : ℕ
  scratches = first_scratch_unit w.s.flat

  pub record Kept (locals : List VType) (done : ℕ → Bool) (saves : List (ℕ × VType)) (copies : ℕ) : Type 0 where
    pub long : length locals ≡ written_units w.s.flat
    pub no_this : (unit : ℕ) (type : VType) → slice_get locals unit ≡ Some type → NotThis type
    pub has_region : (unit : ℕ) (type low : VType)
        → slice_get region unit ≡ Some type
        → slice_get locals unit ≡ Some low
        → IsAssignable w.host.headers low type
    pub made : (site : ℕ) (one : Site)
        → done site ≡ true
        → slice_get w.s.flat.sites site ≡ Some one
        → slice_get locals (objects + site) ≡ Some (types.Object one.class)
    pub saved : AllByRecursion (λ save. slice_get locals (scratches + save.0) ≡ Some save.1) saves
    pub copied : (unit site : ℕ) (one : Site)
        → unit < copies
        → unit < w.s.flat.locals
        → slice_get state.slots unit ≡ Some (Virt site)
        → has sites site ≡ true
        → slice_get w.s.flat.sites site ≡ Some one
        → slice_get locals unit ≡ Some (types.Object one.class)

  in_region : (unit : ℕ) (type : VType) → slice_get region unit ≡ Some type → unit < objects
  in_region unit type is = let within = slice_get_within region unit type is in let long = ut.long in omega (arith, within, long)

  -- the unit before those of objects is no first one of two
  pub last_narrow : (from unit : ℕ) (type : VType) → objects ≤ from → suc unit ≡ from → slice_get region unit ≡ Some type → is_wide type ≡ false
  last_narrow from unit type high next is = by (is_wide type) refl where
    by : (b : Bool) → is_wide type ≡ b → is_wide type ≡ false
    by false e = e
    by true e =
        let second = in_region (suc unit) types.Top (paired_at region unit type ut.pairs is e) in
        absurd (omega (arith, second, high, next))

  no_this_behind : (from : ℕ) (type : VType) (locals after : List VType)
      → Stored from type locals after
      → NotThis type
      → ((unit : ℕ) (one : VType) → slice_get locals unit ≡ Some one → NotThis one)
      → (unit : ℕ) (one : VType) → slice_get after unit ≡ Some one → NotThis one
  no_this_behind from type locals after is none before unit one there = by (look from type locals after is unit) where
    by : Look from type locals after unit → NotThis one
    by (at_the_unit same) =
        subst NotThis (same_Some type one (sym is.there ∙ ap (slice_get after) (sym same) ∙ there)) none
    by (is_second wide second) =
        subst NotThis (same_Some types.Top one (sym (is.second wide) ∙ ap (slice_get after) (sym second) ∙ there)) top_not_this
    by (as_before same) = before unit one (sym same ∙ there)
    by (cut_off top cut) = subst NotThis (same_Some types.Top one (sym top ∙ there)) top_not_this

  region_behind : (from : ℕ) (type : VType) (locals after : List VType)
      → Stored from type locals after
      → (is_wide type ≡ true → objects ≤ from)
      → ((one : VType) → slice_get region from ≡ Some one → IsAssignable w.host.headers type one)
      → ((unit : ℕ) (one : VType) → suc unit ≡ from → slice_get region unit ≡ Some one → is_wide one ≡ false)
      → ((unit : ℕ) (one low : VType) → slice_get region unit ≡ Some one → slice_get locals unit ≡ Some low → IsAssignable w.host.headers low one)
      → (unit : ℕ) (one low : VType) → slice_get region unit ≡ Some one → slice_get after unit ≡ Some low → IsAssignable w.host.headers low one
  region_behind from type locals after is wides fits no_second before unit one low here there = by (look from type locals after is unit) where
    by : Look from type locals after unit → IsAssignable w.host.headers low one
    by (at_the_unit same) =
        subst (λ (t : VType). IsAssignable w.host.headers t one)
        (same_Some type low (sym is.there ∙ ap (slice_get after) (sym same) ∙ there)) (fits one (ap (slice_get region) (sym same) ∙ here))
    by (is_second wide second) = let high = wides wide in let low_one = in_region unit one here in absurd (omega (arith, high, second, low_one))
    by (as_before same) = before unit one low here (sym same ∙ there)
    by (cut_off top cut) =
        subst (λ (t : VType). IsAssignable w.host.headers t one) (same_Some types.Top low (sym top ∙ there))
        (cut_fits (before unit one cut.type here cut.was) cut.wide (no_second unit one cut.before here))

  -- ---- a store below the scratch units

  pub kept_by_store : (from : ℕ) (type : VType) (locals after : List VType) (done more : ℕ → Bool) (saves : List (ℕ × VType)) (few many : ℕ)
      → Kept locals done saves few
      → Stored from type locals after
      → is_wide type ≡ false
      → NotThis type
      → from < scratches
      → ((one : VType) → slice_get region from ≡ Some one → IsAssignable w.host.headers type one)
      → ((unit : ℕ) (one : VType) → suc unit ≡ from → slice_get region unit ≡ Some one → is_wide one ≡ false)
      → ((site : ℕ) (one : Site) → more site ≡ true → slice_get w.s.flat.sites site ≡ Some one → objects + site ≡ from → type ≡ types.Object one.class)
      → ((site : ℕ) → more site ≡ true → objects + site ≢ from → done site ≡ true)
      → ((unit site : ℕ) (one : Site) → unit < many → slice_get state.slots unit ≡ Some (Virt site) → has sites site ≡ true
      → slice_get w.s.flat.sites site ≡ Some one → unit < w.s.flat.locals → unit ≡ from → type ≡ types.Object one.class)
      → ((unit site : ℕ) → unit < many → slice_get state.slots unit ≡ Some (Virt site) → has sites site ≡ true → unit ≢ from → unit < few)
      → Kept after more saves many
  kept_by_store from type locals after done more saves few many kept is narrow none low fits no_second here made here_copied copied = record {
    long = is.long ∙ kept.long;
    no_this = no_this_behind from type locals after is none kept.no_this;
    has_region = region_behind from type locals after is (λ wide. absurd (false≢true (sym narrow ∙ wide))) fits no_second kept.has_region;
    made = λ site one now is_site. of_made site one now is_site (look from type locals after is (objects + site));
    saved = of_saves saves kept.saved;
    copied = λ unit site one less own slot taken is_site. of_copy unit site one less own slot taken is_site (look from type locals after is unit);
  } where
    of_made : (site : ℕ) (one : Site) → more site ≡ true → slice_get w.s.flat.sites site ≡ Some one
        → Look from type locals after (objects + site)
        → slice_get after (objects + site) ≡ Some (types.Object one.class)
    of_made site one now is_site (at_the_unit same) =
        ap (slice_get after) same ∙ is.there ∙ ap (λ (t : VType). Some t) (here site one now is_site same)
    of_made site one now is_site (is_second wide second) = absurd (false≢true (sym narrow ∙ wide))
    of_made site one now is_site (as_before same) = of (decided (objects + site) from) where
      of : (objects + site ≡ from) ⊎ (objects + site ≢ from) → slice_get after (objects + site) ≡ Some (types.Object one.class)
      of (inl there) = ap (slice_get after) there ∙ is.there ∙ ap (λ (t : VType). Some t) (here site one now is_site there)
      of (inr other) = same ∙ kept.made site one (made site now other) is_site
    of_made site one now is_site (cut_off top cut) = of (decided (objects + site) from) where
      of : (objects + site ≡ from) ⊎ (objects + site ≢ from) → slice_get after (objects + site) ≡ Some (types.Object one.class)
      of (inl there) = ap (slice_get after) there ∙ is.there ∙ ap (λ (t : VType). Some t) (here site one now is_site there)
      of (inr other) =
          let object : types.Object one.class ≡ cut.type =
          same_Some (types.Object one.class) cut.type (sym (kept.made site one (made site now other) is_site) ∙ cut.was) in
          absurd (false≢true (ap is_wide object ∙ cut.wide))

    of_saves : (all : List (ℕ × VType)) → AllByRecursion (λ save. slice_get locals (scratches + save.0) ≡ Some save.1) all
        → AllByRecursion (λ save. slice_get after (scratches + save.0) ≡ Some save.1) all
    of_saves [] have = tt
    of_saves (save ∷ all) have = (of (look from type locals after is (scratches + save.0)), of_saves all have.1) where
      of : Look from type locals after (scratches + save.0) → slice_get after (scratches + save.0) ≡ Some save.1
      of (at_the_unit same) = absurd (omega (arith, same, low))
      of (is_second wide second) = absurd (false≢true (sym narrow ∙ wide))
      of (as_before same) = same ∙ have.0
      of (cut_off top cut) = let next = cut.before in absurd (omega (arith, next, low))

    of_copy : (unit site : ℕ) (one : Site) → unit < many → unit < w.s.flat.locals → slice_get state.slots unit ≡ Some (Virt site)
        → has sites site ≡ true
        → slice_get w.s.flat.sites site ≡ Some one
        → Look from type locals after unit
        → slice_get after unit ≡ Some (types.Object one.class)
    of_copy unit site one less own slot taken is_site found = of (decided unit from) where
      of : (unit ≡ from) ⊎ (unit ≢ from) → slice_get after unit ≡ Some (types.Object one.class)
      of (inl same) = ap (slice_get after) same ∙ is.there ∙ ap (λ (t : VType). Some t) (here_copied unit site one less slot taken is_site own same)
      of (inr other) = of_look found where
        was : slice_get locals unit ≡ Some (types.Object one.class)
        was = kept.copied unit site one (copied unit site less slot taken other) own slot taken is_site

        of_look : Look from type locals after unit → slice_get after unit ≡ Some (types.Object one.class)
        of_look (at_the_unit same) = absurd (other same)
        of_look (is_second wide second) = absurd (false≢true (sym narrow ∙ wide))
        of_look (as_before same) = same ∙ was
        of_look (cut_off top cut) =
            absurd (false≢true (ap is_wide (same_Some (types.Object one.class) cut.type (sym was ∙ cut.was)) ∙ cut.wide))

  -- ---- a store to a scratch unit, before objects are made

  pub kept_by_save : (below : ℕ) (type : VType) (locals after : List VType) (saves : List (ℕ × VType))
      → Kept locals (λ site. false) saves 0
      → Stored (scratches + below) type locals after
      → NotThis type
      → AllByRecursion (λ save. below + units_long type ≤ save.0) saves
      → (is_wide type ≡ true → units_long type ≡ 2)
      → 1 ≤ units_long type
      → Kept after (λ site. false) ((below, type) ∷ saves) 0
  kept_by_save below type locals after saves kept is none above two some = record {
    long = is.long ∙ kept.long;
    no_this = no_this_behind (scratches + below) type locals after is none kept.no_this;
    has_region = region_behind (scratches + below) type locals after is (λ wide. omega arith)
        (λ one there. let less = in_region (scratches + below) one there in absurd (omega (arith, less)))
        (last_narrow' (scratches + below) (omega arith)) kept.has_region;
    made = λ site one now is_site. absurd (false≢true now);
    saved = (is.there, of_saves saves kept.saved above);
    copied = λ unit site one less own slot taken is_site. absurd (omega (arith, less));
  } where
    last_narrow' : (from : ℕ) → objects ≤ from → (unit : ℕ) (one : VType) → suc unit ≡ from → slice_get region unit ≡ Some one → is_wide one ≡ false
    last_narrow' from high unit one next is_one = last_narrow from unit one high next is_one

    of_saves : (all : List (ℕ × VType)) → AllByRecursion (λ save. slice_get locals (scratches + save.0) ≡ Some save.1) all
        → AllByRecursion (λ save. below + units_long type ≤ save.0) all
        → AllByRecursion (λ save. slice_get after (scratches + save.0) ≡ Some save.1) all
    of_saves [] have high = tt
    of_saves (save ∷ all) have high = (of (look (scratches + below) type locals after is (scratches + save.0)), of_saves all have.1 high.1) where
      over : below + units_long type ≤ save.0
      over = high.0

      of : Look (scratches + below) type locals after (scratches + save.0) → slice_get after (scratches + save.0) ≡ Some save.1
      of (at_the_unit same) = absurd (omega (arith, same, over, some))
      of (is_second wide second) = let double = two wide in absurd (omega (arith, second, over, double))
      of (as_before same) = same ∙ have.0
      of (cut_off top cut) = let next = cut.before in absurd (omega (arith, next, over, some))

  -- ---- a new

  other_stays : (number : ℕ) (type : VType) → type ≢ types.Uninit number → without_older number type ≡ type
  other_stays number (types.Uninit other) apart = by (other == number) refl where
    by : (b : Bool) → (other == number) ≡ b → without_older number (types.Uninit other) ≡ types.Uninit other
    by true is = absurd (apart (ap types.Uninit (eqb-true other number is)))
    by false is = rw (is) refl
  other_stays number types.Top apart = refl
  other_stays number types.Int apart = refl
  other_stays number types.Float apart = refl
  other_stays number types.Long apart = refl
  other_stays number types.Double apart = refl
  other_stays number types.Null apart = refl
  other_stays number types.UninitThis apart = refl
  other_stays number (types.Object name) apart = refl

  not_older : (number : ℕ) (type : VType) → without_older number type ≢ types.Uninit number
  not_older number (types.Uninit other) = by (other == number) refl where
    by : (b : Bool) → (other == number) ≡ b → without_older number (types.Uninit other) ≢ types.Uninit number
    by true is = λ same. let e : types.Top ≡ types.Uninit number = sym (rw (is) refl) ∙ same in absurd cc
    by false is = λ same.
        let e : types.Uninit other ≡ types.Uninit number = sym (rw (is) refl) ∙ same in
        let numbers : other ≡ number = cc in
        absurd (false≢true (sym is ∙ eq-eqb other number numbers))
  not_older number types.Top = λ same. absurd cc
  not_older number types.Int = λ same. absurd cc
  not_older number types.Float = λ same. absurd cc
  not_older number types.Long = λ same. absurd cc
  not_older number types.Double = λ same. absurd cc
  not_older number types.Null = λ same. absurd cc
  not_older number types.UninitThis = λ same. absurd cc
  not_older number (types.Object name) = λ same. absurd cc

  pub none_older : (number : ℕ) (all : List VType) → AllByRecursion (λ type. type ≢ types.Uninit number) (map (without_older number) all)
  none_older number [] = tt
  none_older number (type ∷ all) = (not_older number type, none_older number all)

  older_not_this : (number : ℕ) (type : VType) → NotThis type → NotThis (without_older number type)
  older_not_this number (types.Uninit other) none = by (other == number) refl where
    by : (b : Bool) → (other == number) ≡ b → NotThis (without_older number (types.Uninit other))
    by true is = λ same. let e : types.Top ≡ types.UninitThis = sym (rw (is) refl) ∙ same in absurd cc
    by false is = λ same. let e : types.Uninit other ≡ types.UninitThis = sym (rw (is) refl) ∙ same in absurd cc
  older_not_this number types.Top none = none
  older_not_this number types.Int none = none
  older_not_this number types.Float none = none
  older_not_this number types.Long none = none
  older_not_this number types.Double none = none
  older_not_this number types.Null none = none
  older_not_this number types.UninitThis none = none
  older_not_this number (types.Object name) none = none

  older_fits : (number : ℕ) {low high : VType} → IsAssignable w.host.headers low high → high ≢ types.Uninit number
      → IsAssignable w.host.headers (without_older number low) high
  older_fits number (to_top type) apart = to_top (without_older number type)
  older_fits number (to_same type) apart =
      subst (λ (t : VType). IsAssignable w.host.headers t type) (sym (other_stays number type apart)) (to_same type)
  older_fits number (from_null name) apart = from_null name
  older_fits number (of_names low high names) apart = of_names low high names

  -- what was a local that is not changed is one
  was_local : (number : ℕ) (locals : List VType) (unit : ℕ) (after : VType)
      → slice_get (map (without_older number) locals) unit ≡ Some after
      → (before : VType) × (slice_get locals unit ≡ Some before) × (without_older number before ≡ after)
  was_local number locals unit after is = by (slice_get locals unit) refl where
    mapped : slice_get (map (without_older number) locals) unit ≡ option_map (without_older number) (slice_get locals unit)
    mapped = slice_get-map (without_older number) locals unit

    by : (found : Option VType) → slice_get locals unit ≡ found
        → (before : VType) × (slice_get locals unit ≡ Some before) × (without_older number before ≡ after)
    by None none = absurd (none-some after (sym (mapped ∙ ap (option_map (without_older number)) none) ∙ is))
    by (Some before) some =
        (before, some, same_Some (without_older number before) after (sym (mapped ∙ ap (option_map (without_older number)) some) ∙ is))

  stays_there : (number : ℕ) (locals : List VType) (unit : ℕ) (type : VType) → type ≢ types.Uninit number → slice_get locals unit ≡ Some type
      → slice_get (map (without_older number) locals) unit ≡ Some type
  stays_there number locals unit type apart is =
      slice_get-map (without_older number) locals unit
      ∙ ap (option_map (without_older number)) is
      ∙ ap (λ (t : VType). Some t) (other_stays number type apart)

  mapped_long : (change : VType → VType) (all : List VType) → length (map change all) ≡ length all
  mapped_long change [] = refl
  mapped_long change (type ∷ all) = ap suc (mapped_long change all)

  pub kept_by_new : (number : ℕ) (locals : List VType) (done : ℕ → Bool) (saves : List (ℕ × VType)) (copies : ℕ)
      → Kept locals done saves copies
      → ((unit : ℕ) (type : VType) → slice_get region unit ≡ Some type → type ≢ types.Uninit number)
      → AllByRecursion (λ save. save.1 ≢ types.Uninit number) saves
      → Kept (map (without_older number) locals) done saves copies
  kept_by_new number locals done saves copies kept apart fresh = record {
    long = mapped_long (without_older number) locals ∙ kept.long;
    no_this = λ unit type is.
        let was = was_local number locals unit type is in
        subst NotThis was.2 (older_not_this number was.0 (kept.no_this unit was.0 was.1));
    has_region = λ unit type low here is.
        let was = was_local number locals unit low is in
        subst (λ (t : VType). IsAssignable w.host.headers t type) was.2
        (older_fits number (kept.has_region unit type was.0 here was.1) (apart unit type here));
    made = λ site one now is_site. stays_there number locals (objects + site) (types.Object one.class) (λ same. absurd cc) (kept.made site one now is_site);
    saved = of_saves saves kept.saved fresh;
    copied = λ unit site one less own slot taken is_site.
        stays_there number locals unit (types.Object one.class) (λ same. absurd cc) (kept.copied unit site one less own slot taken is_site);
  } where
    of_saves : (all : List (ℕ × VType)) → AllByRecursion (λ save. slice_get locals (scratches + save.0) ≡ Some save.1) all
        → AllByRecursion (λ save. save.1 ≢ types.Uninit number) all
        → AllByRecursion (λ save. slice_get (map (without_older number) locals) (scratches + save.0) ≡ Some save.1) all
    of_saves [] have news = tt
    of_saves (save ∷ all) have news = (stays_there number locals (scratches + save.0) save.1 news.0 have.0, of_saves all have.1 news.1)
