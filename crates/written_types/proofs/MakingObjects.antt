-- Objects are made one after the other: each field is loaded, the constructor is called, and the object goes to its unit.
use Rattle.std.proofs.Common.{◌≡◌, ◌≢◌, ◌⊎◌, ◌+◌, ◌==◌, ◌||◌, ◌<◌, ◌≤◌, ℕ, zero, suc, Bool, true, false, not, List, [], ◌∷◌, ◌++◌, length, map, slice_get, Option, Some, None, refl, sym, ap, subst, ◌∙◌, inl, inr, arith}
use Rattle.std.specs.Prelude.{is_some}
use Rattle.std.specs.List.{AllByRecursion, filter, flat_map, list_any}
use Rattle.std.proofs.lemmas.Bool.{eq-eqb, eqb-true, false≢true}
use Rattle.std.proofs.lemmas.List.{append-nil, append_assoc, length-append, map-append}
use Rattle.std.proofs.lemmas.Option.{same_Some, slice_get_within}
use Rattle.class_model.specs.Code.{verification_type}
use Rattle.class_model.specs.Descriptors.{kind_of}
use Rattle.class_model.specs.declared.descriptor.FieldType.{FieldType}
use Rattle.class_model.specs.declared.descriptor.FieldType.TheVariants as field_types
use Rattle.class_model.specs.declared.descriptor.Kind.TheVariants as kinds
use Rattle.class_model.specs.declared.frame.Frame.{Frame}
use Rattle.class_model.specs.declared.frame.VType.{VType}
use Rattle.class_model.specs.declared.frame.VType.TheVariants as types
use Rattle.class_model.specs.declared.instr.Imm.TheVariants as imms
use Rattle.class_model.specs.declared.instr.Instr.TheVariants.{Const, Enter, Shuffle}
use Rattle.class_model.specs.declared.opcodes.TheConstants.{DUP}
use Rattle.class_tree.specs.Headers.{Headers, headers_of}
use Rattle.flow_code.specs.WrittenUnits.{greatest_depth, written_units}
use Rattle.flow_code.specs.declared.point.Point.{Point}
use Rattle.flow_code.specs.declared.point.Site.{Site}
use Rattle.making_code.specs.Items.{WInstr, WItem, constructs, item, load, makes, plain, store}
use Rattle.making_code.specs.MakeCode.{enters, load_field, load_fields_from, make_object, make_one}
use Rattle.making_code.specs.Laws.MakeOrders.{names_of_some}
use Rattle.making_code.specs.MakeOrder.{IsMakeOrder, all_made, one_next}
use Rattle.making_code.specs.Units.{field_unit, first_object_unit, object_unit, unit_number}
use Rattle.member_link.specs.Assignability.{IsAssignable, from_null, of_names, to_same, to_top}
use Rattle.member_link.specs.Rows.LocalRows.{HasRoom, stored}
use Rattle.member_link.specs.Rows.Operands.{AllFit, IsOfKind, IsReference, assignable_to}
use Rattle.member_link.specs.Rows.Table.{without_older}
use Rattle.virtual_state.specs.Sites.{has}
use Rattle.virtual_state.specs.States.{State, is_present, is_virtual, names, object_of}
use Rattle.virtual_state.specs.declared.slot.Slot.{Slot}
use Rattle.virtual_state.specs.declared.slot.Slot.TheVariants.{Plain, Virt, Unusable}
use Rattle.virtual_state.specs.declared.slot.VObject.{VObject}
use Rattle.written_types.proofs.Given.{CanMake, Given}
use Rattle.written_types.proofs.MakingCalls.{construct_carries, dup_carries}
use Rattle.written_types.proofs.MakingLocals.{Kept, decided, kept_by_new, kept_by_store, last_narrow, none_older}
use Rattle.written_types.proofs.ItemPlaces.{StandsAt}
use Rattle.written_types.proofs.MakingPlaces.{MakeConstants, NoneOf, PlacedFrom, TakesFields, new_class_there, first_placed, one_placed, rest_placed}
use Rattle.written_types.proofs.MakingSteps.{enter_carries, load_carries, new_carries, null_carries, store_carries}
use Rattle.written_types.proofs.Placing.{carries_both}
use Rattle.written_types.proofs.RouteEdges.{found_there}
use Rattle.written_types.proofs.Standing.{item_at}
use Rattle.written_types.proofs.StoredLocals.{stored_is}
use Rattle.written_types.proofs.UnitTypes.{UnitTypes, field_region, own_region}
use Rattle.written_types.specs.FitsTypes.{HasType, HaveTypes}
use Rattle.written_types.specs.Inner.CarriedFrames.{Carries, carries_none}
use Rattle.written_types.specs.Writing.{Writing, scope_in}

-- ---- one list behind another

mapped_long : {A B : Type 0} (change : A → B) (all : List A) → length (map change all) ≡ length all
mapped_long change [] = refl
mapped_long change (first ∷ all) = ap suc (mapped_long change all)

pub then_carries : (w : Writing) (number : ℕ) (first rest : List WInstr) (frame middle last : Frame)
    → Carries w number (map item first) frame (Some middle)
    → Carries w (number + length first) (map item rest) middle (Some last)
    → Carries w number (map item (first ++ rest)) frame (Some last)
then_carries w number first rest frame middle last one next =
    subst (λ (all : List WItem). Carries w number all frame (Some last)) (sym (map-append item first rest))
    (carries_both w number (map item first) (map item rest) frame middle (Some middle) (Some last) one refl
    (subst (λ (n : ℕ). Carries w n (map item rest) middle (Some last)) (ap (λ (n : ℕ). number + n) (sym (mapped_long item first))) next))

pub and_carries : (w : Writing) (number : ℕ) (first : WInstr) (rest : List WInstr) (frame middle last : Frame)
    → Carries w number (item first ∷ []) frame (Some middle)
    → Carries w (suc number) (map item rest) middle (Some last)
    → Carries w number (map item (first ∷ rest)) frame (Some last)
and_carries w number first rest frame middle last one next =
    carries_both w number (item first ∷ []) (map item rest) frame middle (Some middle) (Some last) one refl
    (subst (λ (n : ℕ). Carries w n (map item rest) middle (Some last)) (the_same (suc number) (number + 1) (omega arith)) next) where
      the_same : (a b : ℕ) → a ≡ b → a ≡ b
      the_same a b e = e

-- ---- kinds of what is loaded

same_if : {headers : Headers} {low high : VType} → IsAssignable headers low high → high ≢ types.Top → ((name : List ℕ) → high ≢ types.Object name)
    → low ≡ high
same_if (to_same type) no_top no_object = refl
same_if (to_top type) no_top no_object = absurd (no_top refl)
same_if (from_null name) no_top no_object = absurd (no_object name refl)
same_if (of_names low high names) no_top no_object = absurd (no_object high refl)

ref_if : {headers : Headers} {low high : VType} (name : List ℕ) → IsAssignable headers low high → high ≡ types.Object name → IsReference low
ref_if name (to_same type) is = subst IsReference (sym is) tt
ref_if name (to_top type) is = absurd cc
ref_if name (from_null other) is = tt
ref_if name (of_names low high names) is = tt

pub loaded_kind : (headers : Headers) (type : FieldType) (low : VType)
    → IsAssignable headers low (verification_type type)
    → IsOfKind (kind_of type) low
loaded_kind headers (field_types.Named name) low fits = ref_if name fits refl
loaded_kind headers field_types.Bool low fits = same_if fits (λ e. absurd cc) (λ name e. absurd cc)
loaded_kind headers field_types.Byte low fits = same_if fits (λ e. absurd cc) (λ name e. absurd cc)
loaded_kind headers field_types.Char low fits = same_if fits (λ e. absurd cc) (λ name e. absurd cc)
loaded_kind headers field_types.Short low fits = same_if fits (λ e. absurd cc) (λ name e. absurd cc)
loaded_kind headers field_types.Int low fits = same_if fits (λ e. absurd cc) (λ name e. absurd cc)
loaded_kind headers field_types.Long low fits = same_if fits (λ e. absurd cc) (λ name e. absurd cc)
loaded_kind headers field_types.Float low fits = same_if fits (λ e. absurd cc) (λ name e. absurd cc)
loaded_kind headers field_types.Double low fits = same_if fits (λ e. absurd cc) (λ name e. absurd cc)

-- ---- sites that are left

still_left : (site : ℕ) (left : List ℕ) (one : ℕ) → has left one ≡ true
    → (one ≡ site) ⊎ (has (filter (λ other. not (other == site)) left) one ≡ true)
still_left site [] one is = absurd (false≢true is)
still_left site (first ∷ left) one is = by (decided one site) where
  by : (one ≡ site) ⊎ (one ≢ site) → (one ≡ site) ⊎ (has (filter (λ other. not (other == site)) (first ∷ left)) one ≡ true)
  by (inl same) = inl same
  by (inr apart) = inr (kept (first ∷ left) is) where
    kept : (all : List ℕ) → has all one ≡ true → has (filter (λ other. not (other == site)) all) one ≡ true
    kept [] e = absurd (false≢true e)
    kept (next ∷ all) e = of (next == site) refl (next == one) refl (kept all) where
      of : (b : Bool) → (next == site) ≡ b → (c : Bool) → (next == one) ≡ c
          → (has all one ≡ true → has (filter (λ other. not (other == site)) all) one ≡ true)
          → has (filter (λ other. not (other == site)) (next ∷ all)) one ≡ true
      of true at_site true here rest = absurd (apart (sym (eqb-true next one here) ∙ eqb-true next site at_site))
      of true at_site false here rest = rw (at_site) (rest (sym (rw (here) refl) ∙ e))
      of false at_site true here rest = rw (at_site) (rw (here) refl)
      of false at_site false here rest = rw (at_site) (rw (here) (rest (sym (rw (here) refl) ∙ e)))

left_before : (site : ℕ) (left : List ℕ) (one : ℕ) → has (filter (λ other. not (other == site)) left) one ≡ true → has left one ≡ true
left_before site [] one is = is
left_before site (first ∷ left) one is = by (first == site) refl (left_before site left one) where
  second : (a b : Bool) → b ≡ true → (a || b) ≡ true
  second true b e = refl
  second false b e = e

  either : (a b c : Bool) → (b ≡ true → c ≡ true) → (a || b) ≡ true → (a || c) ≡ true
  either true b c more e = refl
  either false b c more e = more e

  by : (b : Bool) → (first == site) ≡ b
      → (has (filter (λ other. not (other == site)) left) one ≡ true → has left one ≡ true)
      → has (first ∷ left) one ≡ true
  by true at_site rest = second (first == one) (has left one) (rest (sym (rw (at_site) refl) ∙ is))
  by false at_site rest =
      either (first == one) (has (filter (λ other. not (other == site)) left) one) (has left one) rest (sym (rw (at_site) refl) ∙ is)

any_there : (test : ℕ → Bool) (all : List ℕ) (one : ℕ) → has all one ≡ true → test one ≡ true → list_any test all ≡ true
any_there test [] one is passes = absurd (false≢true is)
any_there test (first ∷ all) one is passes = by (first == one) refl (any_there test all one) where
  second : (a b : Bool) → b ≡ true → (a || b) ≡ true
  second true b e = refl
  second false b e = e

  by : (b : Bool) → (first == one) ≡ b → (has all one ≡ true → test one ≡ true → list_any test all ≡ true) → list_any test (first ∷ all) ≡ true
  by true same rest =
      let here : test first ≡ true = ap test (eqb-true first one same) ∙ passes in rw (here) refl
  by false other rest = second (test first) (list_any test all) (rest (sym (rw (other) refl) ∙ is) passes)

module _ (w : Writing) (given : Given w) (at : ℕ) (point : Point) (state : State) (sites order : List ℕ) (ut : UnitTypes w at point state)
    (can : CanMake w given at state sites order) (constants : MakeConstants w) (headers_same : w.host.headers ≡ headers_of w.s.classes) (low high : ℕ)
    (apart : (number : ℕ) → low ≤ number → number < high → (unit : ℕ) (type : VType)
    → slice_get (own_region w point state ++ field_region w state) unit ≡ Some type → type ≢ types.Uninit number) where
  abbrev headers : Headers
  headers = w.host.headers

  abbrev KeptHere : List VType → (ℕ → Bool) → List (ℕ × VType) → Type 0
  KeptHere locals done saves = Kept w at point state sites ut locals done saves 0

  abbrev PlacedHere : ℕ → List WInstr → Type 0
  PlacedHere number instrs = PlacedFrom w low high number instrs

  units_are : written_units w.s.flat ≡ first_object_unit w.s.flat + length w.s.flat.sites + greatest_depth w.s.flat.points
  units_are = refl

  -- ---- the fields of an object

  record Loaded (number : ℕ) (instrs : List WInstr) (locals stack : List VType) (all : List FieldType) : Type 0 where
    args : List VType
    carries : Carries w number (map item instrs) (record { locals = locals; stack = stack })
        (Some (record { locals = locals; stack = stack ++ args }))
    fit : AllFit (scope_in w) (map (λ param. assignable_to (verification_type param)) all) args

  record Value (number : ℕ) (instr : WInstr) (locals stack : List VType) (type : FieldType) : Type 0 where
    first : VType
    fits : IsAssignable headers first (verification_type type)
    carries : Carries w number (item instr ∷ []) (record { locals = locals; stack = stack })
        (Some (record { locals = locals; stack = stack ++ (first ∷ []) }))

  load_all : (site : ℕ) (one : Site) (number from : ℕ) (locals stack : List VType) (done : ℕ → Bool) (saves : List (ℕ × VType))
      (all : List FieldType) (slots : List Slot)
      → KeptHere locals done saves
      → slice_get w.s.flat.sites site ≡ Some one
      → is_present state.objects site ≡ true
      → ((n : ℕ) (type : FieldType) → slice_get all n ≡ Some type → slice_get one.fields (from + n) ≡ Some type)
      → HaveTypes w.s (map verification_type all) slots
      → ((named : ℕ) → names slots named ≡ true → done named ≡ true)
      → Loaded number (load_fields_from site from all slots) locals stack all
  load_all site one number from locals stack done saves [] slots kept is present parts have ready = record {
    args = [];
    carries = subst (λ (rest : List VType). Carries w number [] (record { locals = locals; stack = stack })
        (Some (record { locals = locals; stack = rest }))) (sym (append-nil stack)) (carries_none number (record { locals = locals; stack = stack }));
    fit = tt;
  }
  load_all site one number from locals stack done saves (type ∷ all) [] kept is present parts have ready = absurd have
  load_all site one number from locals stack done saves (type ∷ all) (slot ∷ slots) kept is present parts have ready =
      by (value slot have.0 ready)
      (λ first. load_all site one (suc number) (suc from) locals (stack ++ (first ∷ [])) done saves all slots kept is present
      (λ n one_type there. ap (slice_get one.fields) (the_same (suc from + n) (from + suc n) (omega arith)) ∙ parts (suc n) one_type there) have.1
      (λ named there. ready named (second (is_virtual named slot) (names slots named) there))) where
        the_same : (a b : ℕ) → a ≡ b → a ≡ b
        the_same a b e = e

        second : (a b : Bool) → b ≡ true → (a || b) ≡ true
        second true b e = refl
        second false b e = e

        of_unit : (kind_slot : Slot) → load_field site from type kind_slot ≡ load (kind_of type) (field_unit site from)
            → Value number (load_field site from type kind_slot) locals stack type
        of_unit kind_slot instr =
            let unit = unit_number w.s.flat (field_unit site from) in
            let region = ut.field site from one type is present
            (ap (slice_get one.fields) (the_same from (from + 0) (omega arith)) ∙ parts 0 type refl) in
            let within = slice_get_within (own_region w point state ++ field_region w state) unit (verification_type type) region in
            let long = ut.long in
            let many = kept.long in
            let there = item_at locals unit (omega (arith, within, long, many)) in
            let fits = kept.has_region unit (verification_type type) there.0 region there.1 in
            record {
              first = there.0;
              fits = fits;
              carries = subst (λ (instr : WInstr). Carries w number (item instr ∷ []) (record { locals = locals; stack = stack })
                  (Some (record { locals = locals; stack = stack ++ (there.0 ∷ []) }))) (sym instr)
                  (load_carries w number (kind_of type) (field_unit site from) locals stack there.0 there.1
                  (loaded_kind headers type there.0 fits));
            }

        value : (slot : Slot) → HasType w.s (verification_type type) slot → ((named : ℕ) → names (slot ∷ slots) named ≡ true → done named ≡ true)
            → Value number (load_field site from type slot) locals stack type
        value Plain has now = of_unit Plain refl
        value Unusable has now = of_unit Unusable refl
        value (Virt named) has now =
            let object = types.Object has.site.class in
            let made = kept.made named has.site (now named (rw (eq-eqb named named refl) refl)) has.there in
            record {
              first = object;
              fits = subst (λ (h : Headers). IsAssignable h object (verification_type type)) (sym headers_same) has.assignable;
              carries = load_carries w number kinds.Ref (object_unit named) locals stack object made tt;
            }

        by : (v : Value number (load_field site from type slot) locals stack type)
            → ((first : VType) → Loaded (suc number) (load_fields_from site (suc from) all slots) locals (stack ++ (first ∷ [])) all)
            → Loaded number (load_fields_from site from (type ∷ all) (slot ∷ slots)) locals stack (type ∷ all)
        by v rest =
            let more = rest v.first in
            record {
              args = v.first ∷ more.args;
              carries =
                  subst (λ (all_of : List VType). Carries w number (map item (load_fields_from site from (type ∷ all) (slot ∷ slots)))
                  (record { locals = locals; stack = stack }) (Some (record { locals = locals; stack = all_of })))
                  (append_assoc stack (v.first ∷ []) more.args)
                  (and_carries w number (load_field site from type slot) (load_fields_from site (suc from) all slots)
                  (record { locals = locals; stack = stack }) (record { locals = locals; stack = stack ++ (v.first ∷ []) })
                  (record { locals = locals; stack = (stack ++ (v.first ∷ [])) ++ more.args }) v.carries more.carries);
              fit = (v.fits, more.fit);
            }

  -- ---- the monitor

  enter_all : (site : ℕ) (one : Site) (number depth : ℕ) (locals stack : List VType) (done : ℕ → Bool) (saves : List (ℕ × VType))
      → KeptHere locals done saves
      → done site ≡ true
      → slice_get w.s.flat.sites site ≡ Some one
      → Carries w number (map item (enters site depth)) (record { locals = locals; stack = stack }) (Some (record { locals = locals; stack = stack }))
  enter_all site one number zero locals stack done saves kept now is = carries_none number (record { locals = locals; stack = stack })
  enter_all site one number (suc depth) locals stack done saves kept now is =
      and_carries w number (load kinds.Ref (object_unit site)) (plain Enter ∷ enters site depth) (record { locals = locals; stack = stack })
      (record { locals = locals; stack = stack ++ (types.Object one.class ∷ []) }) (record { locals = locals; stack = stack })
      (load_carries w number kinds.Ref (object_unit site) locals stack (types.Object one.class) (kept.made site one now is) tt)
      (and_carries w (suc number) (plain Enter) (enters site depth) (record { locals = locals; stack = stack ++ (types.Object one.class ∷ []) })
      (record { locals = locals; stack = stack }) (record { locals = locals; stack = stack })
      (enter_carries w (suc number) locals stack (types.Object one.class) tt)
      (enter_all site one (suc (suc number)) depth locals stack done saves kept now is))

  -- ---- one object

  abbrev with_site : (ℕ → Bool) → ℕ → ℕ → Bool
  with_site done site one = (one == site) || done one

  pub record Made (number : ℕ) (instrs : List WInstr) (locals stack : List VType) (done : ℕ → Bool) (saves : List (ℕ × VType)) : Type 0 where
    pub after : List VType
    pub carries : Carries w number (map item instrs) (record { locals = locals; stack = stack }) (Some (record { locals = after; stack = stack }))
    pub kept : KeptHere after done saves

  make_it : (site : ℕ) (one : Site) (object : VObject) (number : ℕ) (locals stack : List VType) (done : ℕ → Bool) (saves : List (ℕ × VType))
      → KeptHere locals done saves
      → object.site ≡ site
      → slice_get w.s.flat.sites site ≡ Some one
      → is_present state.objects site ≡ true
      → HaveTypes w.s (map verification_type one.fields) object.fields
      → ((named : ℕ) → names object.fields named ≡ true → done named ≡ true)
      → NoneOf low high stack
      → NoneOf low high (map (λ save. save.1) saves)
      → PlacedHere number (make_object w.s.flat object one)
      → Made number (make_object w.s.flat object one) locals stack (with_site done site) saves
  make_it site one object number locals stack done saves kept same is present have ready fresh fresh_saves placed = record {
    after = stored unit (types.Object one.class) older;
    carries =
        and_carries w number (makes one.class) (plain (Shuffle DUP) ∷ loads ++ rest) (frame locals stack)
        (frame older (stack ++ (types.Uninit number ∷ []))) (frame last stack)
        (new_carries w number one.class locals stack (fresh number placed.from inside))
        (and_carries w (suc number) (plain (Shuffle DUP)) (loads ++ rest) (frame older (stack ++ (types.Uninit number ∷ [])))
        (frame older (stack ++ (types.Uninit number ∷ types.Uninit number ∷ []))) (frame last stack)
        (dup_carries w (suc number) older stack (types.Uninit number) refl)
        (then_carries w (suc (suc number)) loads rest (frame older (stack ++ (types.Uninit number ∷ types.Uninit number ∷ [])))
        (frame older ((stack ++ (types.Uninit number ∷ types.Uninit number ∷ [])) ++ loaded.args)) (frame last stack) loaded.carries
        (and_carries w at_null (plain (Const imms.Null)) (constructs one.class ∷ store kinds.Ref (object_unit object.site) ∷ entering)
        (frame older ((stack ++ (types.Uninit number ∷ types.Uninit number ∷ [])) ++ loaded.args)) (frame older full) (frame last stack)
        (subst (λ (all : List VType). Carries w at_null (item (plain (Const imms.Null)) ∷ [])
        (frame older ((stack ++ (types.Uninit number ∷ types.Uninit number ∷ [])) ++ loaded.args)) (Some (frame older all))) full_is
        (null_carries w at_null older ((stack ++ (types.Uninit number ∷ types.Uninit number ∷ [])) ++ loaded.args)))
        (and_carries w (suc at_null) (constructs one.class) (store kinds.Ref (object_unit object.site) ∷ entering) (frame older full)
        (frame older (stack ++ (types.Object one.class ∷ []))) (frame last stack)
        (construct_carries w (suc at_null) number one.class older stack (loaded.args ++ (types.Null ∷ []))
        (one.fields ++ (field_types.Named takes.array ∷ [])) (constants.constructor (suc at_null) one.class construct_there) takes.parameters
        takes.no_result arguments (new_class_there w number one.class constants (one_placed w low high number (makes one.class) _ placed)) takes.free
        (none_older w at point state sites ut number locals) (fresh number placed.from inside))
        (and_carries w (suc (suc at_null)) (store kinds.Ref (object_unit object.site)) entering (frame older (stack ++ (types.Object one.class ∷ [])))
        (frame last stack) (frame last stack)
        (subst (λ (n : ℕ). Carries w (suc (suc at_null)) (item (store kinds.Ref (object_unit n)) ∷ [])
        (frame older (stack ++ (types.Object one.class ∷ []))) (Some (frame last stack))) (sym same)
        (store_carries w (suc (suc at_null)) kinds.Ref (object_unit site) older stack (types.Object one.class) tt room))
        (subst (λ (n : ℕ). Carries w (suc (suc (suc at_null))) (map item (enters n object.depth)) (frame last stack) (Some (frame last stack)))
        (sym same)
        (enter_all site one (suc (suc (suc at_null))) object.depth last stack (with_site done site) saves kept_last (rw (eq-eqb site site refl) refl)
        is)))))));
    kept = kept_last;
  } where
    frame : List VType → List VType → Frame
    frame all entries = record { locals = all; stack = entries }

    unit : ℕ
    unit = first_object_unit w.s.flat + site

    older : List VType
    older = map (without_older number) locals

    last : List VType
    last = stored unit (types.Object one.class) older

    loads : List WInstr
    loads = load_fields_from object.site 0 one.fields object.fields

    entering : List WInstr
    entering = enters object.site object.depth

    rest : List WInstr
    rest = plain (Const imms.Null) ∷ constructs one.class ∷ store kinds.Ref (object_unit object.site) ∷ entering

    inside : number < high
    inside = let all = placed.to in omega (arith, all)

    kept_older : KeptHere older done saves
    kept_older =
        kept_by_new w at point state sites ut number locals done saves 0 kept (apart number placed.from inside)
        (of_saves saves (fresh_saves number placed.from inside)) where
          of_saves : (all : List (ℕ × VType)) → AllByRecursion (λ type. type ≢ types.Uninit number) (map (λ save. save.1) all)
              → AllByRecursion (λ save. save.1 ≢ types.Uninit number) all
          of_saves [] none = tt
          of_saves (save ∷ all) none = (none.0, of_saves all none.1)

    number_of : (a b : ℕ) → a ≡ b → a ≡ b
    number_of a b e = e

    loaded : Loaded (suc (suc number)) loads older (stack ++ (types.Uninit number ∷ types.Uninit number ∷ [])) one.fields
    loaded =
        subst (λ (n : ℕ). Loaded (suc (suc number)) (load_fields_from n 0 one.fields object.fields) older
        (stack ++ (types.Uninit number ∷ types.Uninit number ∷ [])) one.fields) (sym same)
        (load_all site one (suc (suc number)) 0 older (stack ++ (types.Uninit number ∷ types.Uninit number ∷ [])) done saves one.fields object.fields
        kept_older is present (λ n type there. ap (slice_get one.fields) (number_of (0 + n) n (omega arith)) ∙ there) have ready)

    at_null : ℕ
    at_null = suc (suc number) + length loads

    full : List VType
    full = (stack ++ (types.Uninit number ∷ [])) ++ (types.Uninit number ∷ (loaded.args ++ (types.Null ∷ [])))

    full_is : ((stack ++ (types.Uninit number ∷ types.Uninit number ∷ [])) ++ loaded.args) ++ (types.Null ∷ []) ≡ full
    full_is =
        append_assoc (stack ++ (types.Uninit number ∷ types.Uninit number ∷ [])) loaded.args (types.Null ∷ [])
        ∙ append_assoc stack (types.Uninit number ∷ types.Uninit number ∷ []) (loaded.args ++ (types.Null ∷ []))
        ∙ sym (append_assoc stack (types.Uninit number ∷ []) (types.Uninit number ∷ (loaded.args ++ (types.Null ∷ []))))

    takes : TakesFields w one
    takes = constants.parameters site one is

    and_null : (all : List FieldType) (args : List VType) → AllFit (scope_in w) (map (λ param. assignable_to (verification_type param)) all) args
        → AllFit (scope_in w) (map (λ param. assignable_to (verification_type param)) (all ++ (field_types.Named takes.array ∷ [])))
        (args ++ (types.Null ∷ []))
    and_null [] [] fit = (from_null takes.array, tt)
    and_null [] (arg ∷ args) fit = absurd fit
    and_null (type ∷ all) [] fit = absurd fit
    and_null (type ∷ all) (arg ∷ args) fit = (fit.0, and_null all args fit.1)

    arguments : AllFit (scope_in w) (map (λ param. assignable_to (verification_type param)) (one.fields ++ (field_types.Named takes.array ∷ [])))
        (loaded.args ++ (types.Null ∷ []))
    arguments = and_null one.fields loaded.args loaded.fit

    construct_there : StandsAt w (suc at_null) (item (constructs one.class))
    construct_there =
        subst (λ (n : ℕ). StandsAt w n (item (constructs one.class)))
        (let long = length-append loads (plain (Const imms.Null) ∷ []) in
        number_of (number + length (makes one.class ∷ plain (Shuffle DUP) ∷ loads ++ (plain (Const imms.Null) ∷ []))) (suc at_null) (omega (arith, long)))
        (placed.each (makes one.class ∷ plain (Shuffle DUP) ∷ loads ++ (plain (Const imms.Null) ∷ []))
        (store kinds.Ref (object_unit object.site) ∷ entering) (constructs one.class)
        (ap (λ (all : List WInstr). makes one.class ∷ plain (Shuffle DUP) ∷ all)
        (sym (append_assoc loads (plain (Const imms.Null) ∷ []) (constructs one.class ∷ store kinds.Ref (object_unit object.site) ∷ entering)))))

    site_low : site < length w.s.flat.sites
    site_low = slice_get_within w.s.flat.sites site one is

    room : HasRoom kinds.Ref older unit
    room = let long = kept_older.long in omega (arith, long, site_low)

    kept_last : KeptHere last (with_site done site) saves
    kept_last =
        kept_by_store w at point state sites ut unit (types.Object one.class) older last done (with_site done site) saves 0 0 kept_older
        (stored_is unit (types.Object one.class) older room) refl (λ e. absurd cc) (omega (arith, site_low))
        (λ type there. absurd (outside type there))
        (λ before type next there. last_narrow w at point state sites ut unit before type (omega arith) next there)
        (λ other found now there here. same_class other found there here)
        (λ other now apart_one. before_now other now apart_one)
        (λ before other found less. absurd (omega (arith, less)))
        (λ before other less. absurd (omega (arith, less))) where
          outside : (type : VType) → slice_get (own_region w point state ++ field_region w state) unit ≡ Some type → ⊥
          outside type there =
              let within = slice_get_within (own_region w point state ++ field_region w state) unit type there in
              let long = ut.long in
              absurd (omega (arith, within, long))

          same_class : (other : ℕ) (found : Site) → slice_get w.s.flat.sites other ≡ Some found → first_object_unit w.s.flat + other ≡ unit
              → types.Object one.class ≡ types.Object found.class
          same_class other found there here =
              let same_site : other ≡ site = omega (arith, here) in
              ap (λ (x : Site). types.Object x.class)
              (same_Some one found (sym is ∙ ap (slice_get w.s.flat.sites) (sym same_site) ∙ there))

          before_now : (other : ℕ) → with_site done site other ≡ true → (first_object_unit w.s.flat + other ≡ unit → ⊥) → done other ≡ true
          before_now other now apart_one = by (other == site) refl where
            by : (b : Bool) → (other == site) ≡ b → done other ≡ true
            by true e = absurd (apart_one (ap (λ (n : ℕ). first_object_unit w.s.flat + n) (eqb-true other site e)))
            by false e = sym (rw (e) refl) ∙ now

  -- ---- all in order

  pub record MadeAll (number : ℕ) (instrs : List WInstr) (locals stack : List VType) (saves : List (ℕ × VType)) : Type 0 where
    pub after : List VType
    pub done : ℕ → Bool
    pub carries : Carries w number (map item instrs) (record { locals = locals; stack = stack }) (Some (record { locals = after; stack = stack }))
    pub kept : KeptHere after done saves
    pub all : (site : ℕ) → has sites site ≡ true → done site ≡ true

  pub make_all : (left queue : List ℕ) (number : ℕ) (locals stack : List VType) (done : ℕ → Bool) (saves : List (ℕ × VType))
      → IsMakeOrder state.objects left queue
      → KeptHere locals done saves
      → ((site : ℕ) → has left site ≡ true → has sites site ≡ true)
      → ((site : ℕ) → has sites site ≡ true → (has left site ≡ true) ⊎ (done site ≡ true))
      → NoneOf low high stack
      → NoneOf low high (map (λ save. save.1) saves)
      → PlacedHere number (flat_map (make_one w.s.flat state) queue)
      → MadeAll number (flat_map (make_one w.s.flat state) queue) locals stack saves
  make_all left queue number locals stack done saves all_made kept within cover fresh fresh_saves placed = record {
    after = locals;
    done = done;
    carries = carries_none number (record { locals = locals; stack = stack });
    kept = kept;
    all = λ site taken. of_cover site (cover site taken);
  } where
    of_cover : (site : ℕ) → (has [] site ≡ true) ⊎ (done site ≡ true) → done site ≡ true
    of_cover site (inl none) = absurd (false≢true none)
    of_cover site (inr now) = now
  make_all left queue number locals stack done saves (one_next _ rest site next more) kept within cover fresh fresh_saves placed =
      by (object_of state.objects site) refl
      (λ n after placed_rest kept_now cover_now. make_all (filter (λ other. not (other == site)) left) rest n after stack (with_site done site) saves more
      kept_now (λ one is. within one (left_before site left one is)) cover_now fresh fresh_saves placed_rest) where
        taken : has sites site ≡ true
        taken = within site next.left_over

        present : is_present state.objects site ≡ true
        present = can.is_made.present site taken

        first_instrs : List WInstr
        first_instrs = make_one w.s.flat state site

        rest_instrs : List WInstr
        rest_instrs = flat_map (make_one w.s.flat state) rest

        cover_after : (one : ℕ) → has sites one ≡ true
            → (has (filter (λ other. not (other == site)) left) one ≡ true) ⊎ (with_site done site one ≡ true)
        cover_after one is = of (cover one is) where
          of_left : (one ≡ site) ⊎ (has (filter (λ other. not (other == site)) left) one ≡ true)
              → (has (filter (λ other. not (other == site)) left) one ≡ true) ⊎ (with_site done site one ≡ true)
          of_left (inl same) = inr (rw (eq-eqb one site same) refl)
          of_left (inr still) = inl still

          second : (a b : Bool) → b ≡ true → (a || b) ≡ true
          second true b e = refl
          second false b e = e

          of : (has left one ≡ true) ⊎ (done one ≡ true)
              → (has (filter (λ other. not (other == site)) left) one ≡ true) ⊎ (with_site done site one ≡ true)
          of (inl in_left) = of_left (still_left site left one in_left)
          of (inr now) = inr (second (one == site) (done one) now)

        by : (found : Option VObject) → object_of state.objects site ≡ found
            → ((n : ℕ) (after : List VType)
            → PlacedHere n rest_instrs
            → KeptHere after (with_site done site) saves
            → ((one : ℕ) → has sites one ≡ true
            → (has (filter (λ other. not (other == site)) left) one ≡ true) ⊎ (with_site done site one ≡ true))
            → MadeAll n rest_instrs after stack saves)
            → MadeAll number (first_instrs ++ rest_instrs) locals stack saves
        by None none below = absurd (false≢true (sym (ap is_some none) ∙ present))
        by (Some object) there below =
            let fields = can.fits.objects site object there in
            let passed = found_there (λ (o : VObject). o.site == site) state.objects object there in
            let same : object.site ≡ site = eqb-true object.site site passed.passes in
            let instrs_are : make_one w.s.flat state site ≡ make_object w.s.flat object fields.site = rw (there, fields.there) refl in
            let made = make_it site fields.site object number locals stack done saves kept same fields.there present fields.fields
            (ready object there) fresh fresh_saves
            (subst (PlacedHere number) instrs_are (first_placed w low high number first_instrs rest_instrs placed)) in
            let further = below (number + length first_instrs) made.after (rest_placed w low high number first_instrs rest_instrs placed) made.kept
            cover_after in
            record {
              after = further.after;
              done = further.done;
              carries = then_carries w number first_instrs rest_instrs (record { locals = locals; stack = stack })
                  (record { locals = made.after; stack = stack }) (record { locals = further.after; stack = stack })
                  (subst (λ (instrs : List WInstr). Carries w number (map item instrs) (record { locals = locals; stack = stack })
                  (Some (record { locals = made.after; stack = stack }))) (sym instrs_are) made.carries) further.carries;
              kept = further.kept;
              all = further.all;
            }
          where
            ready : (object : VObject) → object_of state.objects site ≡ Some object → (named : ℕ) → names object.fields named ≡ true
                → done named ≡ true
            ready object there named is = of (cover named (can.is_made.closed site named (record { object = object; there = there; named = is }) taken)) where
              of : (has left named ≡ true) ⊎ (done named ≡ true) → done named ≡ true
              of (inr now) = now
              of (inl in_left) =
                  absurd (false≢true (sym next.ready ∙ names_of_some state.objects left site object there
                  ∙ any_there (names object.fields) left named in_left is))
