-- The stack around make code: the plain entries above the lowest object that is made are saved, and all are loaded again.
use Rattle.std.proofs.Common.{◌≡◌, ◌≢◌, ◌+◌, ◌≤◌, ℕ, suc, Bool, true, false, List, [], ◌∷◌, ◌++◌, length, map, reverse, Option, Some, None, refl, sym, ap, subst, ◌∙◌, arith}
use Rattle.std.specs.List.{AllByRecursion, filter}
use Rattle.std.proofs.lemmas.Bool.{false≢true}
use Rattle.std.proofs.lemmas.List.{append-nil, append_assoc, length-append, map-append, reverse-append}
use Rattle.class_model.specs.Frames.{depth, is_top, is_wide, units, units_of_entries}
use Rattle.class_model.specs.declared.frame.VType.{VType}
use Rattle.class_model.specs.declared.frame.VType.TheVariants as types
use Rattle.class_tree.specs.Headers.{Headers, headers_of}
use Rattle.flow_code.specs.ReadTypes.{class_of_site, read_type}
use Rattle.flow_code.specs.WrittenUnits.{greatest_depth}
use Rattle.flow_code.specs.declared.point.Point.{Point}
use Rattle.making_code.specs.Items.{WInstr, item}
use Rattle.making_code.specs.MakeCode.{Entry, entries_from, is_plain, kind_of_type, save}
use Rattle.making_code.specs.StateFrames.{entry_types_from}
use Rattle.making_code.specs.Units.{first_scratch_unit, scratch}
use Rattle.member_link.specs.Assignability.{IsAssignable, from_null, of_names, to_same, to_top}
use Rattle.member_link.specs.Rows.FrameAssignability.{AreAssignable}
use Rattle.member_link.specs.Rows.LocalRows.{HasRoom, stored}
use Rattle.member_link.specs.Rows.Operands.{IsOfKind, IsReference}
use Rattle.plan_flow.specs.Written.FramedCode.{is_of_point, type_by_item}
use Rattle.plan_flow.specs.Written.WrittenCode.{start_of}
use Rattle.virtual_state.specs.States.{State}
use Rattle.virtual_state.specs.declared.slot.Slot.{Slot}
use Rattle.virtual_state.specs.declared.slot.Slot.TheVariants.{Plain, Virt, Unusable}
use Rattle.written_types.proofs.Given.{NoTops}
use Rattle.written_types.proofs.MakingLocals.{Kept, kept_by_save}
use Rattle.written_types.proofs.MakingObjects.{then_carries}
use Rattle.written_types.proofs.MakingSteps.{store_carries}
use Rattle.written_types.proofs.NoThis.{NotThis}
use Rattle.written_types.proofs.SlotTypes.{read_wide}
use Rattle.written_types.proofs.StoredLocals.{stored_is, units_long}
use Rattle.written_types.proofs.UnitTypes.{UnitTypes, item_wide}
use Rattle.written_types.specs.Inner.CarriedFrames.{Carries, carries_none}
use Rattle.written_types.specs.Writing.{Writing}

-- ---- kinds and units of entries

-- as it is read and named by item
abbrev pub entry_type : Writing → VType → VType
entry_type w type = type_by_item w.form w.blocks (read_type w.s.flat type)

same_if : {headers : Headers} {low high : VType} → IsAssignable headers low high → high ≢ types.Top → ((name : List ℕ) → high ≢ types.Object name)
    → low ≡ high
same_if (to_same type) no_top no_object = refl
same_if (to_top type) no_top no_object = absurd (no_top refl)
same_if (from_null name) no_top no_object = absurd (no_object name refl)
same_if (of_names low high names) no_top no_object = absurd (no_object high refl)

ref_if : {headers : Headers} {low high : VType} (name : List ℕ) → IsAssignable headers low high → high ≡ types.Object name → IsReference low
ref_if name (to_same type) is = subst IsReference (sym is) tt
ref_if name (to_top type) is = absurd cc
ref_if name (from_null other) is = tt
ref_if name (of_names low high names) is = tt

-- a reference where a reference is wanted
ref_fits : {headers : Headers} {low high : VType} → IsAssignable headers low high → IsReference high → IsReference low
ref_fits (to_same type) is = is
ref_fits (to_top type) is = absurd is
ref_fits (from_null name) is = tt
ref_fits (of_names low high names) is = tt

new_is_reference : (w : Writing) (at : ℕ) → IsReference (entry_type w (types.Uninit at))
new_is_reference w at = by (class_of_site w.s.flat.sites at) refl where
  by : (found : Option (List ℕ)) → class_of_site w.s.flat.sites at ≡ found → IsReference (entry_type w (types.Uninit at))
  by None is = rw (is) tt
  by (Some class) is = rw (is) tt

pub saved_kind : (w : Writing) (headers : Headers) (type low : VType) → is_top type ≡ false → IsAssignable headers low (entry_type w type)
    → IsOfKind (kind_of_type type) low
saved_kind w headers types.Top low no_top fits = absurd (false≢true (sym no_top))
saved_kind w headers types.Int low no_top fits = same_if fits (λ e. absurd cc) (λ name e. absurd cc)
saved_kind w headers types.Float low no_top fits = same_if fits (λ e. absurd cc) (λ name e. absurd cc)
saved_kind w headers types.Long low no_top fits = same_if fits (λ e. absurd cc) (λ name e. absurd cc)
saved_kind w headers types.Double low no_top fits = same_if fits (λ e. absurd cc) (λ name e. absurd cc)
saved_kind w headers types.Null low no_top fits = ref_fits fits tt
saved_kind w headers types.UninitThis low no_top fits = ref_fits fits tt
saved_kind w headers (types.Object name) low no_top fits = ref_fits fits tt
saved_kind w headers (types.Uninit at) low no_top fits = ref_fits fits (new_is_reference w at)

single_long : (type : VType) → is_wide type ≡ false → units_long type ≡ 1
single_long types.Long narrow = absurd (false≢true (sym narrow))
single_long types.Double narrow = absurd (false≢true (sym narrow))
single_long types.Int narrow = refl
single_long types.Float narrow = refl
single_long types.Top narrow = refl
single_long types.Null narrow = refl
single_long types.UninitThis narrow = refl
single_long (types.Object name) narrow = refl
single_long (types.Uninit at) narrow = refl

wide_long : (type : VType) → is_wide type ≡ true → units_long type ≡ 2
wide_long types.Long wide = refl
wide_long types.Double wide = refl
wide_long types.Int wide = absurd (false≢true wide)
wide_long types.Float wide = absurd (false≢true wide)
wide_long types.Top wide = absurd (false≢true wide)
wide_long types.Null wide = absurd (false≢true wide)
wide_long types.UninitThis wide = absurd (false≢true wide)
wide_long (types.Object name) wide = absurd (false≢true wide)
wide_long (types.Uninit at) wide = absurd (false≢true wide)

units_some : (type : VType) → 1 ≤ units_long type
units_some type = by (is_wide type) refl where
  by : (b : Bool) → is_wide type ≡ b → 1 ≤ units_long type
  by true wide = let two = wide_long type wide in omega (arith, two)
  by false narrow = let one = single_long type narrow in omega (arith, one)

depth_one : (type : VType) → depth (type ∷ []) ≡ units_long type
depth_one type = ap length (append-nil (units type))

pub entry_no_top : (w : Writing) (type : VType) → is_top type ≡ false → entry_type w type ≢ types.Top
entry_no_top w types.Top apart e = absurd (false≢true (sym apart))
entry_no_top w types.Int apart e = absurd cc
entry_no_top w types.Float apart e = absurd cc
entry_no_top w types.Long apart e = absurd cc
entry_no_top w types.Double apart e = absurd cc
entry_no_top w types.Null apart e = absurd cc
entry_no_top w types.UninitThis apart e = absurd cc
entry_no_top w (types.Object name) apart e = absurd cc
entry_no_top w (types.Uninit at) apart e = by (class_of_site w.s.flat.sites at) refl where
  by : (found : Option (List ℕ)) → class_of_site w.s.flat.sites at ≡ found → ⊥
  by None is = let no_one : types.Uninit (start_of w.form w.blocks (is_of_point at)) ≡ types.Top = sym (rw (is) refl) ∙ e in absurd cc
  by (Some class) is = let no_one : types.Object class ≡ types.Top = sym (rw (is) refl) ∙ e in absurd cc

wide_same : {headers : Headers} {low high : VType} → IsAssignable headers low high → high ≢ types.Top → is_wide low ≡ is_wide high
wide_same (to_same type) no_top = refl
wide_same (to_top type) no_top = absurd (no_top refl)
wide_same (from_null name) no_top = refl
wide_same (of_names low high names) no_top = refl

-- what is saved takes the units of its entry
saved_units : (w : Writing) (headers : Headers) (type low : VType) → is_top type ≡ false → IsAssignable headers low (entry_type w type)
    → units_long low ≡ depth (type ∷ [])
saved_units w headers type low no_top fits = by (is_wide type) refl where
  same : is_wide low ≡ is_wide type
  same = wide_same fits (entry_no_top w type no_top) ∙ item_wide w.form w.blocks (read_type w.s.flat type) ∙ read_wide w.s.flat type

  by : (b : Bool) → is_wide type ≡ b → units_long low ≡ depth (type ∷ [])
  by true wide = wide_long low (same ∙ wide) ∙ sym (wide_long type wide) ∙ sym (depth_one type)
  by false narrow = single_long low (same ∙ narrow) ∙ sym (single_long type narrow) ∙ sym (depth_one type)

room_of : (w : Writing) (headers : Headers) (type low : VType) (locals : List VType) (at : ℕ) → is_top type ≡ false
    → IsAssignable headers low (entry_type w type)
    → at + units_long low ≤ length locals
    → HasRoom (kind_of_type type) locals at
room_of w headers types.Top low locals at no_top fits room = absurd (false≢true (sym no_top))
room_of w headers types.Long low locals at no_top fits room =
    let many = saved_units w headers types.Long low refl fits in omega (arith, room, many)
room_of w headers types.Double low locals at no_top fits room =
    let many = saved_units w headers types.Double low refl fits in omega (arith, room, many)
room_of w headers types.Int low locals at no_top fits room = let some = units_some low in omega (arith, room, some)
room_of w headers types.Float low locals at no_top fits room = let some = units_some low in omega (arith, room, some)
room_of w headers types.Null low locals at no_top fits room = let some = units_some low in omega (arith, room, some)
room_of w headers types.UninitThis low locals at no_top fits room = let some = units_some low in omega (arith, room, some)
room_of w headers (types.Object name) low locals at no_top fits room = let some = units_some low in omega (arith, room, some)
room_of w headers (types.Uninit number) low locals at no_top fits room = let some = units_some low in omega (arith, room, some)

pub depth_both : (type : VType) (all : List VType) → depth (type ∷ all) ≡ depth (type ∷ []) + depth all
depth_both type all =
    length-append (units type) (units_of_entries all) ∙ ap (λ (n : ℕ). n + depth all) (sym (depth_one type))

-- ---- what is saved

-- the saved entries, the lowest first, with the units below each
abbrev pub saves_of : ℕ → List VType → List Slot → List VType → List (ℕ × VType)
saves_of below [] slots tops = []
saves_of below (type ∷ all) [] tops = []
saves_of below (type ∷ all) (Plain ∷ slots) [] = []
saves_of below (type ∷ all) (Plain ∷ slots) (top ∷ tops) = (below, top) ∷ saves_of (below + depth (type ∷ [])) all slots tops
saves_of below (type ∷ all) (Virt site ∷ slots) tops = saves_of (below + depth (type ∷ [])) all slots tops
saves_of below (type ∷ all) (Unusable ∷ slots) tops = saves_of (below + depth (type ∷ [])) all slots tops

-- types by item of the plain entries
abbrev pub entries_by_item : Writing → List VType → List Slot → List VType
entries_by_item w all slots = map (type_by_item w.form w.blocks) (entry_types_from w.s.flat all slots)

saves_above : (w : Writing) (headers : Headers) (least below : ℕ) (all : List VType) (slots : List Slot) (tops : List VType) → least ≤ below
    → AllByRecursion (λ save. least ≤ save.0) (saves_of below all slots tops)
saves_above w headers least below [] slots tops low = tt
saves_above w headers least below (type ∷ all) [] tops low = tt
saves_above w headers least below (type ∷ all) (Plain ∷ slots) [] low = tt
saves_above w headers least below (type ∷ all) (Plain ∷ slots) (top ∷ tops) low =
    (low, saves_above w headers least (below + depth (type ∷ [])) all slots tops (omega (arith, low)))
saves_above w headers least below (type ∷ all) (Virt site ∷ slots) tops low =
    saves_above w headers least (below + depth (type ∷ [])) all slots tops (omega (arith, low))
saves_above w headers least below (type ∷ all) (Unusable ∷ slots) tops low =
    saves_above w headers least (below + depth (type ∷ [])) all slots tops (omega (arith, low))

pub saves_types : (P : VType → Type 0) (below : ℕ) (all : List VType) (slots : List Slot) (tops : List VType) → AllByRecursion P tops
    → AllByRecursion P (map (λ save. save.1) (saves_of below all slots tops))
saves_types P below [] slots tops have = tt
saves_types P below (type ∷ all) [] tops have = tt
saves_types P below (type ∷ all) (Plain ∷ slots) [] have = tt
saves_types P below (type ∷ all) (Plain ∷ slots) (top ∷ tops) have = (have.0, saves_types P (below + depth (type ∷ [])) all slots tops have.1)
saves_types P below (type ∷ all) (Virt site ∷ slots) tops have = saves_types P (below + depth (type ∷ [])) all slots tops have
saves_types P below (type ∷ all) (Unusable ∷ slots) tops have = saves_types P (below + depth (type ∷ [])) all slots tops have

-- the plain entries, the topmost first
abbrev pub saving : List Entry → List WInstr
saving entries = map save (reverse (filter (λ entry. is_plain entry.slot) entries))

reversed_both : {A : Type 0} (first : A) (rest : List A) → reverse (first ∷ rest) ≡ reverse rest ++ (first ∷ [])
reversed_both first rest = reverse-append (first ∷ []) rest

module _ (w : Writing) (at : ℕ) (point : Point) (state : State) (sites : List ℕ) (ut : UnitTypes w at point state)
    (headers_same : w.host.headers ≡ headers_of w.s.classes) where
  abbrev KeptIn : List VType → (ℕ → Bool) → List (ℕ × VType) → ℕ → Type 0
  KeptIn locals done saves copies = Kept w at point state sites ut locals done saves copies

  pub record SavedAll (number place below : ℕ) (all : List VType) (slots : List Slot) (locals base tops : List VType) : Type 0 where
    pub after : List VType
    pub carries : Carries w number (map item (saving (entries_from place below all slots))) (record { locals = locals; stack = base ++ tops })
        (Some (record { locals = after; stack = base }))
    pub kept : KeptIn after (λ site. false) (saves_of below all slots tops) 0

  pub save_all : (number place below : ℕ) (all : List VType) (slots : List Slot) (locals base tops : List VType)
      → KeptIn locals (λ site. false) [] 0
      → NoTops all slots
      → AreAssignable w.host.headers tops (entries_by_item w all slots)
      → AllByRecursion NotThis tops
      → below + depth all ≤ greatest_depth w.s.flat.points
      → SavedAll number place below all slots locals base tops
  save_all number place below [] slots locals base [] kept no_tops fits nots room = record {
    after = locals;
    carries = subst (λ (stack : List VType). Carries w number [] (record { locals = locals; stack = stack }) (Some (record { locals = locals; stack = base })))
        (sym (append-nil base)) (carries_none number (record { locals = locals; stack = base }));
    kept = kept;
  }
  save_all number place below [] slots locals base (top ∷ tops) kept no_tops fits nots room = absurd fits
  save_all number place below (type ∷ all) [] locals base [] kept no_tops fits nots room = record {
    after = locals;
    carries = subst (λ (stack : List VType). Carries w number [] (record { locals = locals; stack = stack }) (Some (record { locals = locals; stack = base })))
        (sym (append-nil base)) (carries_none number (record { locals = locals; stack = base }));
    kept = kept;
  }
  save_all number place below (type ∷ all) [] locals base (top ∷ tops) kept no_tops fits nots room = absurd fits
  save_all number place below (type ∷ all) (Virt site ∷ slots) locals base tops kept no_tops fits nots room =
      let more = depth_both type all in
      let rest = save_all number (suc place) (below + depth (type ∷ [])) all slots locals base tops kept no_tops.1 fits nots (omega (arith, room, more)) in
      record { after = rest.after; carries = rest.carries; kept = rest.kept }
  save_all number place below (type ∷ all) (Unusable ∷ slots) locals base tops kept no_tops fits nots room =
      let more = depth_both type all in
      let rest = save_all number (suc place) (below + depth (type ∷ [])) all slots locals base tops kept no_tops.1 fits nots (omega (arith, room, more)) in
      record { after = rest.after; carries = rest.carries; kept = rest.kept }
  save_all number place below (type ∷ all) (Plain ∷ slots) locals base [] kept no_tops fits nots room = absurd fits
  save_all number place below (type ∷ all) (Plain ∷ slots) locals base (top ∷ tops) kept no_tops fits nots room =
      let more = depth_both type all in
      of_rest (save_all number (suc place) (below + depth (type ∷ [])) all slots locals (base ++ (top ∷ [])) tops kept no_tops.1 fits.1 nots.1
      (omega (arith, room, more))) where
        rest_entries : List Entry
        rest_entries = entries_from (suc place) (below + depth (type ∷ [])) all slots

        own : Entry
        own = record { place = place; below = below; kind = kind_of_type type; slot = Plain }

        unit : ℕ
        unit = first_scratch_unit w.s.flat + below

        instrs_are : saving (own ∷ rest_entries) ≡ saving rest_entries ++ (save own ∷ [])
        instrs_are =
            ap (map save) (reversed_both own (filter (λ entry. is_plain entry.slot) rest_entries))
            ∙ map-append save (reverse (filter (λ entry. is_plain entry.slot) rest_entries)) (own ∷ [])

        no_top : is_top type ≡ false
        no_top = no_tops.0 refl

        many : units_long top ≡ depth (type ∷ [])
        many = saved_units w w.host.headers type top no_top fits.0

        of_rest : SavedAll number (suc place) (below + depth (type ∷ [])) all slots locals (base ++ (top ∷ [])) tops
            → SavedAll number place below (type ∷ all) (Plain ∷ slots) locals base (top ∷ tops)
        of_rest rest =
            let long = rest.kept.long in
            let more = depth_both type all in
            let room_here : unit + units_long top ≤ length rest.after = omega (arith, long, room, more, many) in
            record {
              after = stored unit top rest.after;
              carries =
                  subst (λ (instrs : List WInstr). Carries w number (map item instrs) (record { locals = locals; stack = base ++ (top ∷ tops) })
                  (Some (record { locals = stored unit top rest.after; stack = base }))) (sym instrs_are)
                  (then_carries w number (saving rest_entries) (save own ∷ []) (record { locals = locals; stack = base ++ (top ∷ tops) })
                  (record { locals = rest.after; stack = base ++ (top ∷ []) }) (record { locals = stored unit top rest.after; stack = base })
                  (subst (λ (stack : List VType). Carries w number (map item (saving rest_entries)) (record { locals = locals; stack = stack })
                  (Some (record { locals = rest.after; stack = base ++ (top ∷ []) }))) (append_assoc base (top ∷ []) tops) rest.carries)
                  (store_carries w (number + length (saving rest_entries)) (kind_of_type type) (scratch below) rest.after base top
                  (saved_kind w w.host.headers type top no_top fits.0)
                  (room_of w w.host.headers type top rest.after unit no_top fits.0 room_here)));
              kept =
                  kept_by_save w at point state sites ut below top rest.after (stored unit top rest.after)
                  (saves_of (below + depth (type ∷ [])) all slots tops) rest.kept (stored_is unit top rest.after room_here) nots.0
                  (saves_above w w.host.headers (below + units_long top) (below + depth (type ∷ [])) all slots tops (omega (arith, many)))
                  (wide_long top) (units_some top);
            }
