-- Make code, from its parts as they are written.
use Rattle.std.proofs.Common.{◌≡◌, ◌≤◌, ℕ, Bool, true, false, cond, List, [], ◌∷◌, ◌++◌, map, reverse, refl, sym, ap, subst, ◌∙◌, append_assoc}
use Rattle.std.specs.List.{AllByRecursion, filter, flat_map}
use Rattle.std.proofs.lemmas.List.{map-append, reverse-append}
use Rattle.class_model.specs.declared.instr.Instr.{Instr}
use Rattle.class_tree.specs.Headers.{Classes, Name}
use Rattle.flow_code.specs.FlatCode.{FlatCode, point_at}
use Rattle.flow_code.specs.WrittenUnits.{written_units}
use Rattle.flow_code.specs.declared.reason.Reason.{Reason}
use Rattle.making_code.specs.Constants.{Need}
use Rattle.making_code.specs.IndexedMaking.{all_making_needs, made_instr}
use Rattle.making_code.specs.Items.{WInstr}
use Rattle.making_code.specs.MakeCode.{Entry, copy_locals_from, copy_object, entries_at, from_lowest, is_plain, load_entry, local_slots_in, make_code, make_one, save, saved}
use Rattle.making_code.specs.MakeOrder.{IsMakeOrder}
use Rattle.making_code.specs.Units.{scratch, unit_number}
use Rattle.materialise.proofs.BareLaws.{bare_behind, loads_bare, locals_bare, objects_bare, only_objects, saves_bare}
use Rattle.materialise.proofs.EntryLaws.{IsLow, saved_low}
use Rattle.materialise.proofs.FitLaws.{all_same, code_fits, scratch_fits}
use Rattle.materialise.proofs.OrderLaws.{one_order}
use Rattle.materialise.proofs.UnitLaws.{few_min}
use Rattle.materialise.specs.Growing.{Grows, IsFull}
use Rattle.materialise.specs.Inner.CodeWords.{Makes, Writes, kept_instr}
use Rattle.materialise.specs.Inner.StackWords.{copying, entry_meant, place_and_unit, saving}
use Rattle.materialise.specs.Inner.UnitWords.{kept_unit}
use Rattle.materialise.specs.MadeCode.{CanMake, DescribesConstructors, IsMakeCode}
use Rattle.materialise.specs.Restacking.{restack_of, restacked}
use Rattle.materialise.specs.declared.stack.Restacked.{Restacked}
use Rattle.materialise.specs.declared.stack.StackEntry.{StackEntry}
use Rattle.pool_edit.specs.Edits.{Edit, grown}
use Rattle.virtual_state.specs.States.{IsState, State}

-- ---- entries as they are meant

filter_meant : (test : Entry → Bool) (entries : List StackEntry) → filter test (map entry_meant entries) ≡ map entry_meant (filter (λ entry. test (entry_meant entry)) entries)
filter_meant test [] = refl
filter_meant test (entry ∷ entries) = by (test (entry_meant entry)) (filter_meant test entries) where
  by : (passes : Bool) → filter test (map entry_meant entries) ≡ map entry_meant (filter (λ entry. test (entry_meant entry)) entries)
      → cond passes (entry_meant entry ∷ filter test (map entry_meant entries)) (filter test (map entry_meant entries))
      ≡ map entry_meant (cond passes (entry ∷ filter (λ entry. test (entry_meant entry)) entries) (filter (λ entry. test (entry_meant entry)) entries))
  by true rest = ap (λ (list : List Entry). entry_meant entry ∷ list) rest
  by false rest = rest

reverse_meant : (entries : List StackEntry) → reverse (map entry_meant entries) ≡ map entry_meant (reverse entries)
reverse_meant [] = refl
reverse_meant (entry ∷ entries) =
    reverse-append (entry_meant entry ∷ []) (map entry_meant entries)
    ∙ ap (λ (list : List Entry). list ++ entry_meant entry ∷ []) (reverse_meant entries)
    ∙ sym (ap (map entry_meant) (reverse-append (entry ∷ []) entries) ∙ map-append entry_meant (reverse entries) (entry ∷ []))

map_meant : {B : Type 0} (of : Entry → B) (entries : List StackEntry) → map of (map entry_meant entries) ≡ map (λ entry. of (entry_meant entry)) entries
map_meant of [] = refl
map_meant of (entry ∷ entries) = ap (λ list. of (entry_meant entry) ∷ list) (map_meant of entries)

flat_meant : (of : Entry → List WInstr) (entries : List StackEntry) → flat_map of (map entry_meant entries) ≡ flat_map (λ entry. of (entry_meant entry)) entries
flat_meant of [] = refl
flat_meant of (entry ∷ entries) = ap (λ (list : List WInstr). of (entry_meant entry) ++ list) (flat_meant of entries)

-- ---- places and units of entries

abbrev kept_place : FlatCode → Entry → Restacked
kept_place flat entry = record { place = entry.place; unit = kept_unit flat (scratch entry.below) }

exact_places : (flat : FlatCode) (few : written_units flat ≤ 65535) (list : List Entry) → AllByRecursion (IsLow flat) list
    → map (kept_place flat) list ≡ map (restack_of flat) (map (λ entry. record { place = entry.place; unit = scratch entry.below }) list)
exact_places flat few [] all = refl
exact_places flat few (entry ∷ list) all =
    ap (λ (unit : ℕ). record { place = entry.place; unit = unit } ∷ map (kept_place flat) list)
    (few_min (unit_number flat (scratch entry.below)) (scratch_fits flat few entry.below all.0))
    ∙ ap (λ (rest : List Restacked). record { place = entry.place; unit = unit_number flat (scratch entry.below) } ∷ rest) (exact_places flat few list all.1)

-- ---- the whole

module _ (flat : FlatCode) (at : ℕ) (state : State) (sites : List ℕ) (entries : List StackEntry)
    (gathered : map entry_meant entries ≡ from_lowest sites (entries_at flat at state)) where
  plain_meant : saved sites (entries_at flat at state) ≡ map entry_meant (reverse (filter (λ entry. is_plain entry.slot) entries))
  plain_meant =
      ap (λ (list : List Entry). reverse (filter (λ (entry : Entry). is_plain entry.slot) list)) (sym gathered)
      ∙ ap reverse (filter_meant (λ (entry : Entry). is_plain entry.slot) entries)
      ∙ reverse_meant (filter (λ (entry : StackEntry). is_plain entry.slot) entries)

  saving_is : saving entries ≡ map save (saved sites (entries_at flat at state))
  saving_is = sym (ap (map save) plain_meant ∙ map_meant save (reverse (filter (λ (entry : StackEntry). is_plain entry.slot) entries)))

  loading_is : flat_map (λ entry. load_entry sites (entry_meant entry)) entries ≡ flat_map (load_entry sites) (from_lowest sites (entries_at flat at state))
  loading_is = sym (ap (flat_map (load_entry sites)) (sym gathered) ∙ flat_meant (load_entry sites) entries)

  code_is : (order : List ℕ) → saving entries ++ flat_map (make_one flat state) order ++ copying flat at state sites entries ≡ make_code flat at state sites order
  code_is order =
      let locals = copy_locals_from sites 0 (local_slots_in (point_at flat at) state) in
      let objects = flat_map (copy_object sites) state.objects in
      let loads = flat_map (load_entry sites) (from_lowest sites (entries_at flat at state)) in
      let front = map save (saved sites (entries_at flat at state)) ++ flat_map (make_one flat state) order in
      ap (λ (list : List WInstr). list ++ flat_map (make_one flat state) order ++ copying flat at state sites entries) saving_is
      ∙ ap (λ (list : List WInstr). front ++ (locals ++ objects ++ list)) loading_is
      ∙ sym (append_assoc front (locals ++ objects) loads)
      ∙ ap (λ (list : List WInstr). list ++ loads) (sym (append_assoc front locals objects))

  code_needs : (constructor : Name → List ℕ) (order : List ℕ)
      → all_making_needs constructor (make_code flat at state sites order) ≡ all_making_needs constructor (flat_map (make_one flat state) order)
  code_needs constructor order =
      ap (all_making_needs constructor) (sym (code_is order))
      ∙ ap (λ (list : List WInstr). all_making_needs constructor (list ++ flat_map (make_one flat state) order ++ copying flat at state sites entries)) saving_is
      ∙ ap (λ (list : List WInstr). all_making_needs constructor (map save (saved sites (entries_at flat at state)) ++ flat_map (make_one flat state) order ++ (copy_locals_from sites 0 (local_slots_in (point_at flat at) state) ++ flat_map (copy_object sites) state.objects ++ list))) loading_is
      ∙ only_objects constructor (map save (saved sites (entries_at flat at state))) (flat_map (make_one flat state) order)
      (copy_locals_from sites 0 (local_slots_in (point_at flat at) state) ++ flat_map (copy_object sites) state.objects ++ flat_map (load_entry sites) (from_lowest sites (entries_at flat at state)))
      (saves_bare (saved sites (entries_at flat at state)))
      (bare_behind (copy_locals_from sites 0 (local_slots_in (point_at flat at) state)) (flat_map (copy_object sites) state.objects) (flat_map (load_entry sites) (from_lowest sites (entries_at flat at state)))
      (locals_bare sites 0 (local_slots_in (point_at flat at) state)) (objects_bare sites state.objects) (loads_bare sites (from_lowest sites (entries_at flat at state))))

  -- what is written, part by part, is make code
  pub written_code : (classes : Classes) (old new : Edit) (order : List ℕ) (saves makes copies : List Instr)
      → CanMake flat at state sites
      → IsState state
      → IsMakeOrder state.objects sites order
      → Writes flat [] (saving entries) saves
      → ((constructor : Name → List ℕ) → DescribesConstructors classes constructor → Makes flat constructor old saves (flat_map (make_one flat state) order) new makes)
      → Writes flat makes (copying flat at state sites entries) copies
      → IsMakeCode classes flat at state sites old new copies
  written_code classes old new order saves makes copies can is_state is_order one two three = record {
    grows = λ constructor other described is_other.
        subst (λ (list : List ℕ). Grows old (all_making_needs constructor (make_code flat at state sites list)) new) (one_order is_order is_other)
        (subst (λ (needs : List Need). Grows old needs new) (sym (code_needs constructor order)) (two constructor described).grows);
    instrs_are = λ constructor other described is_other more.
        let pool = grown new ++ more in
        let kept = kept_instr flat constructor pool in
        let made = flat_map (make_one flat state) order in
        let behind = copying flat at state sites entries in
        let parts : copies ≡ (map kept (saving entries) ++ map kept made) ++ map kept behind =
        three.writes _ _
        ∙ ap (λ (list : List Instr). list ++ map kept behind) ((two constructor described).writes more ∙ ap (λ (list : List Instr). list ++ map kept made) (one.writes _ _)) in
        let joined : (map kept (saving entries) ++ map kept made) ++ map kept behind ≡ map kept (make_code flat at state sites order) =
        sym (ap (map kept) (sym (code_is order)) ∙ map-append kept (saving entries ++ made) behind ∙ ap (λ (list : List Instr). list ++ map kept behind) (map-append kept (saving entries) made)) in
        parts ∙ joined
        ∙ all_same flat constructor pool (make_code flat at state sites order) (code_fits flat at state sites can is_state order)
        ∙ ap (λ (list : List ℕ). map (made_instr flat constructor pool) (make_code flat at state sites list)) (one_order is_order is_other);
  }

  -- where it does not fit, neither does make code
  pub full_code : (constructor : Name → List ℕ) (edit : Edit) (reason : Reason) (order other : List ℕ)
      → IsMakeOrder state.objects sites order
      → IsMakeOrder state.objects sites other
      → IsFull edit (all_making_needs constructor (flat_map (make_one flat state) order)) reason
      → IsFull edit (all_making_needs constructor (make_code flat at state sites other)) reason
  full_code constructor edit reason order other is_order is_other full =
      subst (λ (list : List ℕ). IsFull edit (all_making_needs constructor (make_code flat at state sites list)) reason) (one_order is_order is_other)
      (subst (λ (needs : List Need). IsFull edit needs reason) (sym (code_needs constructor order)) full)

  -- ---- what is saved

  pub saved_is : written_units flat ≤ 65535
      → map (place_and_unit flat) (reverse (filter (λ entry. is_plain entry.slot) entries)) ≡ restacked flat at state sites
  saved_is few =
      sym (map_meant (kept_place flat) (reverse (filter (λ (entry : StackEntry). is_plain entry.slot) entries)))
      ∙ ap (map (kept_place flat)) (sym plain_meant)
      ∙ exact_places flat few (saved sites (entries_at flat at state)) (saved_low flat at state sites)
