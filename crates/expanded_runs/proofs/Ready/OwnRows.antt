-- The rows of the plan of a point of an instruction that stays: each type of an uninitialised object of a site behind it comes from the same type.
use Rattle.std.proofs.Common.{◌≡◌, ◌≢◌, ◌+◌, ◌-◌, ◌≤◌, ◌<◌, ◌⊎◌, ℕ, zero, suc, Bool, true, false, List, [], ◌∷◌, ◌++◌, length, map, drop, slice_get, Option, Some, None, option_map, IsTrue, if◌then◌else◌, refl, sym, ap, subst, ◌∙◌, arith, inl, inr}
use Rattle.std.specs.Prelude.{◌==◌, ◌&&◌, nat_le}
use Rattle.std.specs.List.{AllByRecursion}
use Rattle.std.proofs.lemmas.List.{length-drop, length-map}
use Rattle.std.proofs.lemmas.Option.{none-some, same_Some, slice_get-map, slice_get_within}
use Rattle.class_model.specs.Frames.{is_wide}
use Rattle.class_model.specs.Pool.{Constants, constant_at}
use Rattle.class_model.specs.PoolChecks.{class_at}
use Rattle.class_model.specs.declared.descriptor.Kind.{Kind}
use Rattle.class_model.specs.declared.frame.Frame.{Frame}
use Rattle.class_model.specs.declared.frame.VType.{VType}
use Rattle.class_model.specs.declared.frame.VType.TheVariants as types
use Rattle.class_model.specs.declared.instr.Instr.{Instr}
use Rattle.class_model.specs.declared.instr.Instr.TheVariants.{Nop, Const, Ldc, Ldc2, Load, Store, Iinc, ArrayLoad, ArrayStore, Shuffle, Pure, Divide, FloatAsk, If, If2, IfSame, IfNull, Goto, Table, Lookup, Return, GetStatic, PutStatic, GetField, PutField, Invoke, Dynamic, New, NewArray, NewRefArray, NewMulti, Length, Throw, Cast, InstanceOf, Enter, Leave}
use Rattle.class_model.specs.declared.opcodes.TheConstants.{DUP, DUP2, DUP2_X1, DUP2_X2, DUP_X1, DUP_X2, IFEQ, IFLE, IFNONNULL, IFNULL, IF_ACMPEQ, IF_ACMPNE, IF_ICMPEQ, IF_ICMPLE, INVOKESTATIC, POP, POP2, SWAP}
use Rattle.class_tree.specs.Headers.{Name}
use Rattle.expanded_code.specs.Expanded.{Setting, class_of, set_frame, set_instr, set_type}
use Rattle.expanded_runs.proofs.Ready.Comes.{Comes, held_long, other_source, set_source, site_numbered}
use Rattle.expanded_runs.proofs.Ready.PlainRows.{Plan, all_left, array_load_keeps, array_store_keeps, call_keeps, cast_keeps, const_keeps, dynamic_keeps, get_field_keeps, get_static_keeps, imm_known, jump_keeps, like_plain, made_keeps, no_row_keeps, null_plan, operation_keeps, plan_of, put_field_keeps, put_static_keeps, same_plan}
use Rattle.expanded_runs.proofs.Ready.RowKeeps.{LocalsKept, RowKeeps, entry_set, held_kept, keeps_by, local_set, locals_long, stack_long}
use Rattle.expanded_runs.proofs.Ready.StoredBack.{mapped_back, older_back, room_within, stored_back}
use Rattle.expanded_runs.proofs.Runs.PositionLaws.{slice_left, slice_right}
use Rattle.expanded_runs.proofs.Types.Entries.{topmost_set}
use Rattle.expanded_runs.proofs.Types.PlacedRows.{has_enough}
use Rattle.expanded_runs.proofs.Types.PlacedShuffles.{fit_form, form_many, form_over_both}
use Rattle.expanded_runs.proofs.Types.Units.{get_drop}
use Rattle.flow_code.specs.FlatCode.{FlatCode}
use Rattle.flow_code.specs.ReadTypes.{is_site_object}
use Rattle.member_link.specs.Machine.CallSteps.{is_object_init}
use Rattle.member_link.specs.References.{Reference}
use Rattle.member_link.specs.RowScope.{RowScope}
use Rattle.member_link.specs.Rows.ArithmeticRows.{divide_operations, float_operations, operation_in, pure_operations}
use Rattle.member_link.specs.Rows.ArrayRows.{array_of, primitive_array}
use Rattle.member_link.specs.Rows.LocalRows.{load_row, local_entry, store_row as own_store_row, HasRoom}
use Rattle.member_link.specs.Rows.Operands.{AllFit, IsUninitialised, is_single, lowest_of, of_kind, topmost}
use Rattle.member_link.specs.Rows.Row.{Row}
use Rattle.member_link.specs.Rows.ShuffleRows.{Form, Width, have_widths, has_width, form_in, form_row, forms_of, one, picked, two, need_of}
use Rattle.member_link.specs.Rows.Table.{row_of, new_row as own_new_row, without_older}
use Rattle.member_link.specs.Signatures.{reference_of}
use Rattle.plan_flow.specs.PlanRows.{PlanRow, Source, from_new, from_place}
use Rattle.plan_flow.specs.PlanScope.{PlanScope, pool_of, site_at, field_of}
use Rattle.plan_flow.specs.PlanTable.{call_row, cast_row, dynamic_row, get_field_row, held_from, held_locals, instr_row, moving, new_row, operand, picked_operands, put_field_row, shuffle_row, store_row}
use Rattle.plan_flow.specs.ReadyForPlans.{from_its_new, from_its_type, place_types}

-- ---- forms of stack moves

abbrev Picks : Form → Type 0
Picks form = AllByRecursion (λ n. n < length form.takes) form.gives

if_picks : (test : Bool) (ones others : List Form) → AllByRecursion Picks ones → AllByRecursion Picks others
    → AllByRecursion Picks (if test then ones else others)
if_picks true ones others picks also = picks
if_picks false ones others picks also = also

forms_pick : (opcode : ℕ) → AllByRecursion Picks (forms_of opcode)
forms_pick opcode =
    if_picks (opcode == POP) _ _ (tt, tt)
    (if_picks (opcode == POP2) _ _ (tt, (tt, tt))
    (if_picks (opcode == DUP) _ _ ((omega arith, (omega arith, tt)), tt)
    (if_picks (opcode == DUP_X1) _ _ ((omega arith, (omega arith, (omega arith, tt))), tt)
    (if_picks (opcode == DUP_X2) _ _ (
      (omega arith, (omega arith, (omega arith, (omega arith, tt)))),
      ((omega arith, (omega arith, (omega arith, tt))), tt),
    )
    (if_picks (opcode == DUP2) _ _ ((omega arith, (omega arith, (omega arith, (omega arith, tt)))), ((omega arith, (omega arith, tt)), tt))
    (if_picks (opcode == DUP2_X1) _ _ (
      (omega arith, (omega arith, (omega arith, (omega arith, (omega arith, tt))))),
      ((omega arith, (omega arith, (omega arith, tt))), tt),
    )
    (if_picks (opcode == DUP2_X2) _ _ (
      (omega arith, (omega arith, (omega arith, (omega arith, (omega arith, (omega arith, tt)))))),
      (
        (omega arith, (omega arith, (omega arith, (omega arith, tt)))),
        ((omega arith, (omega arith, (omega arith, (omega arith, (omega arith, tt))))), ((omega arith, (omega arith, (omega arith, tt))), tt)),
      ),
    )
    (if_picks (opcode == SWAP) _ _ ((omega arith, (omega arith, tt)), tt) tt))))))))

picks_found : (forms : List Form) (stack : List VType) (form : Form) → AllByRecursion Picks forms → form_in forms stack ≡ Some form → Picks form
picks_found [] stack form all is = absurd cc
picks_found (first ∷ others) stack form all is = by (fit_form first.takes stack) is (picks_found others stack form all.1) where
  by : (fits : Bool) → (if fits then Some first else form_in others stack) ≡ Some form
      → (form_in others stack ≡ Some form → Picks form)
      → Picks form
  by true found later = let same : first ≡ form = cc in subst Picks same all.0
  by false found later = later found

fits_found : (forms : List Form) (stack : List VType) (form : Form) → form_in forms stack ≡ Some form → fit_form form.takes stack ≡ true
fits_found [] stack form is = absurd cc
fits_found (first ∷ others) stack form is = by (fit_form first.takes stack) refl is (fits_found others stack form) where
  by : (fits : Bool) → fit_form first.takes stack ≡ fits → (if fits then Some first else form_in others stack) ≡ Some form
      → (form_in others stack ≡ Some form → fit_form form.takes stack ≡ true)
      → fit_form form.takes stack ≡ true
  by true fits found later = let same : first ≡ form = cc in subst (λ (g : Form). fit_form g.takes stack ≡ true) same fits
  by false fits found later = later found

-- an entry that is picked
picked_one : (operands : List VType) (numbers : List ℕ) → AllByRecursion (λ n. n < length operands) numbers → (j : ℕ) (type : VType)
    → slice_get (picked operands numbers) j ≡ Some type
    → (n : ℕ) × (slice_get numbers j ≡ Some n) × (slice_get operands n ≡ Some type)
picked_one operands [] all j type is = absurd cc
picked_one operands (n ∷ numbers) all j type is =
    by (slice_get operands n) refl j is (picked_one operands numbers all.1) where
      by : (found : Option VType) → slice_get operands n ≡ found → (j : ℕ) → slice_get (picked operands (n ∷ numbers)) j ≡ Some type
          → ((j : ℕ) (type : VType) → slice_get (picked operands numbers) j ≡ Some type
          → (n : ℕ) × (slice_get numbers j ≡ Some n) × (slice_get operands n ≡ Some type))
          → (m : ℕ) × (slice_get (n ∷ numbers) j ≡ Some m) × (slice_get operands m ≡ Some type)
      by None none j is later = absurd (missing operands n all.0 none)
        where
          missing : (operands : List VType) (n : ℕ) → n < length operands → slice_get operands n ≡ None → ⊥
          missing [] n within none = omega (arith, within)
          missing (operand ∷ operands) zero within none = none-some operand (sym none)
          missing (operand ∷ operands) (suc n) within none = missing operands n (omega (arith, within)) none
      by (Some own) found zero is later =
          let there : slice_get (own ∷ picked operands numbers) zero ≡ Some type = rw (found) at is in
          (n, refl, found ∙ there)
      by (Some own) found (suc j) is later =
          let there : slice_get (own ∷ picked operands numbers) (suc j) ≡ Some type = rw (found) at is in
          later j type there

-- ---- types in their place, by their widths

-- it takes as many units in its place
pub record SameWidth (t : Setting) (type : VType) : Type 0 where
  pub wide : is_wide (set_type t type) ≡ is_wide type
  pub single : is_single (set_type t type) ≡ is_single type

widths_set : (t : Setting) (widths : List Width) (entries : List VType) → AllByRecursion (SameWidth t) entries
    → have_widths widths (map (set_type t) entries) ≡ have_widths widths entries
widths_set t [] [] all = refl
widths_set t [] (entry ∷ entries) all = refl
widths_set t (width ∷ widths) [] all = refl
widths_set t (width ∷ widths) (entry ∷ entries) all = rw (width_set width, widths_set t widths entries all.1) refl where
  width_set : (w : Width) → has_width w (set_type t entry) ≡ has_width w entry
  width_set one = all.0.single
  width_set two = all.0.wide

all_dropped : {A : Type 0} (P : A → Type 0) (n : ℕ) (items : List A) → AllByRecursion P items → AllByRecursion P (drop n items)
all_dropped P zero items all = all
all_dropped P (suc n) [] all = tt
all_dropped P (suc n) (item ∷ items) all = all_dropped P n items all.1

forms_set : (t : Setting) (f : Frame) → AllByRecursion (SameWidth t) f.stack → (widths : List Width) → fit_form widths f.stack ≡ true
    → fit_form widths (set_frame t f).stack ≡ true
forms_set t f all widths is =
    ap (have_widths widths) (topmost_set t (length widths) t.below.stack f.stack (form_many widths f.stack is))
    ∙ widths_set t widths (topmost (length widths) f.stack) (all_dropped (SameWidth t) (length f.stack - length widths) f.stack all)
    ∙ is

-- ---- rows that give uninitialised objects

module _ (flat : FlatCode) (t : Setting) (number : ℕ) (f : Frame) (fits : t.unit + length f.locals ≤ length t.below.locals) (s : RowScope) where
  abbrev Fit : Row → Type 0
  Fit row = AllFit s row.takes (topmost (length row.takes) f.stack)

  -- the one source behind those that are held
  behind_held : (count : ℕ) (source : Source) (n : ℕ) → n ≡ count
      → slice_get (held_from (length (set_frame t f).locals) count ++ source ∷ []) n ≡ Some source
  behind_held count source n is =
      subst (λ (m : ℕ). slice_get (held_from (length (set_frame t f).locals) count ++ source ∷ []) m ≡ Some source)
      (omega (arith, is, held_long (length (set_frame t f).locals) count))
      (slice_right (held_from (length (set_frame t f).locals) count) (source ∷ []) 0 source refl)

  same_locals : (row : Row) (plan : PlanRow) → row.locals ≡ f.locals → plan.locals ≡ held_locals (set_frame t f)
      → LocalsKept flat t number f fits row plan
  same_locals row plan same held = held_kept flat t number f fits row plan (record {
    plan_locals = held;
    back = λ m type new is. subst (λ (l : List VType). slice_get l m ≡ Some type) same is;
  })

  -- ---- load

  abbrev loading : ℕ → PlanRow
  loading local = moving (set_frame t f) 0 (from_place (t.unit + local) ∷ [])

  load_keeps : (kind : Kind) (local : ℕ) → RowKeeps flat t number f (load_row f kind local) (loading local)
  load_keeps kind local =
      keeps_by flat t number f fits (load_row f kind local) (loading local) 0 (record { more = _; stack = refl }) (omega arith) (omega arith)
      (all_left flat t number f fits s (load_row f kind local) (λ entries. refl)) (same_locals (load_row f kind local) (loading local) refl refl)
      (λ j type new site is. by (slice_get f.locals local) refl j type is) where
        by : (found : Option VType) → slice_get f.locals local ≡ found → (j : ℕ) (type : VType)
            → slice_get (local_entry f.locals local) j ≡ Some type
            → Comes number (place_types (set_frame t f)) (loading local).stack
            (length t.below.stack + (length f.stack - length (load_row f kind local).takes + j)) (set_type t type)
        by None none j type is = let no : slice_get [] j ≡ Some type = rw (none) at is in absurd (none-some type no)
        by (Some own) found zero type is =
            let there : slice_get (own ∷ []) zero ≡ Some type = rw (found) at is in
            let local_is = found ∙ there in
            record {
              source = from_place (t.unit + local);
              there = behind_held (length (set_frame t f).stack - 0) (from_place (t.unit + local))
                  (length t.below.stack + (length f.stack - 0 + 0)) (omega (arith, stack_long t f));
              kept = from_its_type (t.unit + local)
                  (slice_left (set_frame t f).locals (set_frame t f).stack (t.unit + local) (set_type t type) (local_set t f fits local type local_is));
            }
        by (Some own) found (suc j) type is =
            let there : slice_get (own ∷ []) (suc j) ≡ Some type = rw (found) at is in absurd (none-some type there)

  -- ---- store

  abbrev storing : ℕ → PlanRow
  storing local = store_row (set_frame t f) (t.unit + local)

  -- what is on top
  top_there : (kind : Kind) → AllFit s (of_kind kind ∷ []) (topmost 1 f.stack)
      → slice_get (place_types (set_frame t f)) (operand (set_frame t f) 0) ≡ Some (set_type t (lowest_of 1 f.stack))
  top_there kind fit = by (topmost 1 f.stack) refl fit where
    by : (entries : List VType) → topmost 1 f.stack ≡ entries → AllFit s (of_kind kind ∷ []) entries
        → slice_get (place_types (set_frame t f)) (operand (set_frame t f) 0) ≡ Some (set_type t (lowest_of 1 f.stack))
    by [] are none = absurd none
    by (value ∷ rest) are held =
        let low : lowest_of 1 f.stack ≡ value = rw (are) refl in
        let first : slice_get (drop (length f.stack - 1) f.stack) 0 ≡ Some value = ap (λ (l : List VType). slice_get l 0) are in
        let there : slice_get f.stack (length f.stack - 1 + 0) ≡ Some value = sym (get_drop (length f.stack - 1) f.stack 0) ∙ first in
        let within = slice_get_within f.stack (length f.stack - 1 + 0) value there in
        let placed = slice_right (set_frame t f).locals (set_frame t f).stack (length t.below.stack + (length f.stack - 1 + 0)) (set_type t value)
        (entry_set t f (length f.stack - 1 + 0) value there) in
        subst (λ (x : VType). slice_get (place_types (set_frame t f)) (operand (set_frame t f) 0) ≡ Some (set_type t x)) (sym low)
        (subst (λ (n : ℕ). slice_get (place_types (set_frame t f)) n ≡ Some (set_type t value)) (omega (arith, within, stack_long t f)) placed)

  held_at : (local n : ℕ) (type : VType) → t.unit + local ≢ n → slice_get (set_frame t f).locals n ≡ Some type
      → Comes number (place_types (set_frame t f)) (storing local).locals n type
  held_at local n type other is = record {
    source = from_place n;
    there = other_source (set_frame t f) (t.unit + local) n (from_place (operand (set_frame t f) 0)) other (slice_get_within (set_frame t f).locals n type is);
    kept = from_its_type n (slice_left (set_frame t f).locals (set_frame t f).stack n type is);
  }

  store_keeps : (kind : Kind) (local : ℕ) → HasRoom kind f.locals local → Fit (own_store_row f kind local)
      → RowKeeps flat t number f (own_store_row f kind local) (storing local)
  store_keeps kind local room fit =
      keeps_by flat t number f fits (own_store_row f kind local) (storing local) 1 (record { more = _; stack = refl }) (omega arith)
      (has_enough s (of_kind kind ∷ []) f.stack fit)
      (all_left flat t number f fits s (own_store_row f kind local) (λ entries. refl)) (record {
        own = own_local;
        below = λ n type out is. held_at local n type (apart n out) is;
      }) (λ j type new site is. absurd (none-some type is))
    where
      there : local < length f.locals
      there = room_within kind f.locals local room

      apart : (n : ℕ) → (n < t.unit) ⊎ (t.unit + length f.locals ≤ n) → t.unit + local ≢ n
      apart n (inl before) same = omega (arith, before, same)
      apart n (inr behind) same = omega (arith, behind, same, there)

      own_local : (m : ℕ) (type : VType) → IsUninitialised type → IsTrue (is_site_object flat (set_type t type))
          → slice_get (own_store_row f kind local).locals m ≡ Some type
          → Comes number (place_types (set_frame t f)) (storing local).locals (t.unit + m) (set_type t type)
      own_local m type new site is = elim (stored_back local (lowest_of 1 f.stack) f.locals m type new is) [
        | inl here ↦
            subst (λ (k : ℕ). Comes number (place_types (set_frame t f)) (storing local).locals (t.unit + k) (set_type t type)) (sym here.0)
            (subst (λ (x : VType). Comes number (place_types (set_frame t f)) (storing local).locals (t.unit + local) (set_type t x)) here.1 (record {
              source = from_place (operand (set_frame t f) 0);
              there = set_source (set_frame t f) (t.unit + local) (from_place (operand (set_frame t f) 0)) (omega (arith, there, fits, locals_long t f fits));
              kept = from_its_type (operand (set_frame t f) 0) (top_there kind fit);
            }))
        | inr other ↦ held_at local (t.unit + m) (set_type t type) (λ same. other.0 (omega (arith, same))) (local_set t f fits m type other.1)
      ]

  -- ---- new

  new_keeps : (at : ℕ) → number ≡ t.number at
      → RowKeeps flat t number f (own_new_row f at) (new_row (set_frame t f) (site_at flat number))
  new_keeps at here = by (site_at flat number) refl where
    older : (plan : PlanRow) → plan.locals ≡ held_locals (set_frame t f) → LocalsKept flat t number f fits (own_new_row f at) plan
    older plan held = held_kept flat t number f fits (own_new_row f at) plan (record {
      plan_locals = held;
      back = mapped_back (without_older at) (older_back at) f.locals;
    })

    numbered : IsTrue (is_site_object flat (set_type t (types.Uninit at))) → (k : ℕ) × (site_at flat number ≡ Some k)
    numbered site = site_numbered flat.sites number (subst (λ (n : ℕ). IsTrue (is_site_object flat (types.Uninit n))) (sym here) site)

    one_given : (j : ℕ) (type : VType) → slice_get (types.Uninit at ∷ []) j ≡ Some type → (j ≡ 0) × (types.Uninit at ≡ type)
    one_given zero type is = (refl, same_Some (types.Uninit at) type is)
    one_given (suc j) type is = absurd (none-some type is)

    by : (found : Option ℕ) → site_at flat number ≡ found → RowKeeps flat t number f (own_new_row f at) (new_row (set_frame t f) found)
    by None none =
        keeps_by flat t number f fits (own_new_row f at) (new_row (set_frame t f) None) 0 (record { more = _; stack = refl }) (omega arith) (omega arith)
        (all_left flat t number f fits s (own_new_row f at) (λ entries. refl)) (older _ refl)
        (λ j type new site is.
        let given = one_given j type is in
        let some = numbered (subst (λ (x : VType). IsTrue (is_site_object flat (set_type t x))) (sym given.1) site) in
        absurd (none-some some.0 (sym none ∙ some.1)))
    by (Some k) some =
        keeps_by flat t number f fits (own_new_row f at) (new_row (set_frame t f) (Some k)) 0 (record { more = _; stack = refl }) (omega arith) (omega arith)
        (all_left flat t number f fits s (own_new_row f at) (λ entries. refl)) (older _ refl)
        (λ j type new site is.
        let given = one_given j type is in
        subst (λ (x : VType). Comes number (place_types (set_frame t f)) (new_row (set_frame t f) (Some k)).stack
        (length t.below.stack + (length f.stack - 0 + j)) (set_type t x)) given.1 (record {
          source = from_new;
          there = behind_held (length (set_frame t f).stack - 0) from_new (length t.below.stack + (length f.stack - 0 + j))
              (omega (arith, given.0, stack_long t f));
          kept = from_its_new (ap types.Uninit (sym here));
        }))

  -- ---- moves of entries

  picking : (takes : ℕ) (numbers : List ℕ) (j n : ℕ) → slice_get numbers j ≡ Some n
      → slice_get (picked_operands (set_frame t f) takes numbers) j ≡ Some (from_place (operand (set_frame t f) (takes - (n + 1))))
  picking takes numbers j n is =
      slice_get-map (λ (k : ℕ). from_place (operand (set_frame t f) (takes - (k + 1)))) numbers j
      ∙ ap (option_map (λ (k : ℕ). from_place (operand (set_frame t f) (takes - (k + 1))))) is

  -- an operand
  operand_there : (takes n : ℕ) (type : VType) → takes ≤ length f.stack → slice_get (topmost takes f.stack) n ≡ Some type → n < takes
      → slice_get (place_types (set_frame t f)) (operand (set_frame t f) (takes - (n + 1))) ≡ Some (set_type t type)
  operand_there takes n type enough is within =
      let there = sym (get_drop (length f.stack - takes) f.stack n) ∙ is in
      let placed = slice_right (set_frame t f).locals (set_frame t f).stack (length t.below.stack + (length f.stack - takes + n)) (set_type t type)
      (entry_set t f (length f.stack - takes + n) type there) in
      subst (λ (k : ℕ). slice_get (place_types (set_frame t f)) k ≡ Some (set_type t type)) (omega (arith, enough, within, stack_long t f)) placed

  shuffle_keeps : AllByRecursion (SameWidth t) f.stack → (opcode : ℕ) → Fit (form_row f (form_in (forms_of opcode) f.stack))
      → RowKeeps flat t number f (form_row f (form_in (forms_of opcode) f.stack))
      (shuffle_row (set_frame t f) (form_in (forms_of opcode) (set_frame t f).stack))
  shuffle_keeps widths opcode fit = by (form_in (forms_of opcode) f.stack) refl fit where
    long_needs : (form : Form) → length (map need_of form.takes) ≡ length form.takes
    long_needs form = length-map form.takes need_of

    of_form : (form : Form) → Picks form → fit_form form.takes f.stack ≡ true → Fit (form_row f (Some form))
        → RowKeeps flat t number f (form_row f (Some form)) (shuffle_row (set_frame t f) (Some form))
    of_form form picks fitting fit =
        let takes = length form.takes in
        let enough = form_many form.takes f.stack fitting in
        let operands = topmost takes f.stack in
        let many : length operands ≡ takes = omega (arith, enough, length-drop (length f.stack - takes) f.stack) in
        keeps_by flat t number f fits (form_row f (Some form)) (shuffle_row (set_frame t f) (Some form)) takes (record { more = _; stack = refl })
        (omega (arith, long_needs form)) (omega (arith, enough, long_needs form))
        (all_left flat t number f fits s (form_row f (Some form)) (λ entries. refl))
        (same_locals (form_row f (Some form)) (shuffle_row (set_frame t f) (Some form)) refl refl)
        (λ j type new site is.
        let one = picked_one operands form.gives (subst (λ (n : ℕ). AllByRecursion (λ k. k < n) form.gives) (sym many) picks) j type is in
        let within = slice_get_within operands one.0 type one.2 in
        let held = held_from (length (set_frame t f).locals) (length (set_frame t f).stack - takes) in
        record {
          source = from_place (operand (set_frame t f) (takes - (one.0 + 1)));
          there =
              subst (λ (n : ℕ). slice_get (held ++ picked_operands (set_frame t f) takes form.gives) n
              ≡ Some (from_place (operand (set_frame t f) (takes - (one.0 + 1)))))
              (omega (arith, enough, stack_long t f, long_needs form, held_long (length (set_frame t f).locals) (length (set_frame t f).stack - takes)))
              (slice_right held (picked_operands (set_frame t f) takes form.gives) j _ (picking takes form.gives j one.0 one.1));
          kept = from_its_type _ (operand_there takes one.0 type enough one.2 (omega (arith, within, many)));
        })

    by : (found : Option Form) → form_in (forms_of opcode) f.stack ≡ found → Fit (form_row f found)
        → RowKeeps flat t number f (form_row f found) (shuffle_row (set_frame t f) (form_in (forms_of opcode) (set_frame t f).stack))
    by None none fit = no_row_keeps flat t number f fits s _ fit
    by (Some form) some fit =
        let over = form_over_both f.stack (set_frame t f).stack (forms_set t f widths) opcode form some in
        subst (λ (o : Option Form). RowKeeps flat t number f (form_row f (Some form)) (shuffle_row (set_frame t f) o)) (sym over)
        (of_form form (picks_found (forms_of opcode) f.stack form (forms_pick opcode) some) (fits_found (forms_of opcode) f.stack form some) fit)

  -- ---- the table

  module _ (pl : PlanScope) (plan_flat : pl.flat ≡ flat) (at : ℕ) (pool : pool_of pl (class_of t) ≡ s.pool)
      (widths : AllByRecursion (SameWidth t) f.stack) where
    abbrev planned : Instr → PlanRow
    planned instr = instr_row pl number (set_frame t f) (class_of t) (set_instr t instr)

    -- plans that hold the locals and what they don't take
    field_plan : (found : Option Reference) → Plan flat t number f fits s (get_field_row pl (set_frame t f) found) 1
    field_plan None = plan_of flat t number f fits s 1 _
    field_plan (Some field) = record { moving = record { more = _; stack = refl }; locals = refl }

    put_plan : (found : Option Reference) → Plan flat t number f fits s (put_field_row pl (set_frame t f) found) 2
    put_plan None = plan_of flat t number f fits s 2 _
    put_plan (Some field) = record { moving = record { more = _; stack = refl }; locals = refl }

    cast_plan : (found : Option Name) → Plan flat t number f fits s (cast_row (set_frame t f) found) 1
    cast_plan None = plan_of flat t number f fits s 1 _
    cast_plan (Some name) = record { moving = record { more = _; stack = refl }; locals = refl }

    -- The row of each instruction.
    pub row_keeps : (instr : Instr) → ((index : ℕ) → instr ≡ New index → number ≡ t.number at)
        → ((opcode index count : ℕ) → instr ≡ Invoke opcode index count → (r : Reference)
        → reference_of s.pool (constant_at s.pool index) ≡ Some r
        → (opcode == INVOKESTATIC) ≡ true
        → is_object_init r ≡ false)
        → (row_of s f at instr).local
        → Fit (row_of s f at instr)
        → RowKeeps flat t number f (row_of s f at instr) (planned instr)
    row_keeps Nop new static local fit =
        like_plain flat t number f fits s _ _ 0 (plan_of flat t number f fits s 0 _) (omega arith) refl (λ entries. refl) tt fit
    row_keeps (Const imm) new static local fit =
        like_plain flat t number f fits s _ _ 0 (plan_of flat t number f fits s 0 _) (omega arith) refl (λ entries. refl) (imm_known imm, tt) fit
    row_keeps (Ldc index) new static local fit =
        const_keeps flat t number f fits s _ (plan_of flat t number f fits s 0 _) (constant_at s.pool index) fit
    row_keeps (Ldc2 index) new static local fit =
        const_keeps flat t number f fits s _ (plan_of flat t number f fits s 0 _) (constant_at s.pool index) fit
    row_keeps (Load kind unit) new static local fit = load_keeps kind unit
    row_keeps (Store kind unit) new static local fit = store_keeps kind unit local fit
    row_keeps (Iinc unit by) new static local fit =
        like_plain flat t number f fits s (row_of s f at (Iinc unit by)) _ 0 (plan_of flat t number f fits s 0 _) (omega arith) refl (λ entries. refl) tt fit
    row_keeps (ArrayLoad opcode) new static local fit =
        array_load_keeps flat t number f fits s _ (record { moving = record { more = _; stack = refl }; locals = refl }) opcode fit
    row_keeps (ArrayStore opcode) new static local fit =
        array_store_keeps flat t number f fits s _ (record { moving = record { more = _; stack = refl }; locals = refl }) opcode fit
    row_keeps (Shuffle opcode) new static local fit = shuffle_keeps widths opcode fit
    row_keeps (Pure opcode) new static local fit =
        operation_keeps flat t number f fits s _ (operation_in pure_operations opcode) (plan_of flat t number f fits s _ _) fit
    row_keeps (Divide opcode) new static local fit =
        operation_keeps flat t number f fits s _ (operation_in divide_operations opcode)
        (record { moving = record { more = _; stack = refl }; locals = refl }) fit
    row_keeps (FloatAsk opcode) new static local fit =
        operation_keeps flat t number f fits s _ (operation_in float_operations opcode) (plan_of flat t number f fits s _ _) fit
    row_keeps (If opcode target) new static local fit =
        jump_keeps flat t number f fits s _ 1 (plan_of flat t number f fits s 1 _) (nat_le IFEQ opcode && nat_le opcode IFLE) _ (omega arith) fit
    row_keeps (If2 opcode target) new static local fit =
        jump_keeps flat t number f fits s _ 2 (plan_of flat t number f fits s 2 _) (nat_le IF_ICMPEQ opcode && nat_le opcode IF_ICMPLE) _ (omega arith) fit
    row_keeps (IfSame opcode target) new static local fit =
        jump_keeps flat t number f fits s _ 2 (same_plan flat t number f fits s opcode) (nat_le IF_ACMPEQ opcode && nat_le opcode IF_ACMPNE) _ (omega arith) fit
    row_keeps (IfNull opcode target) new static local fit =
        jump_keeps flat t number f fits s _ 1 (null_plan flat t number f fits s opcode) (nat_le IFNULL opcode && nat_le opcode IFNONNULL) _ (omega arith) fit
    row_keeps (Goto target) new static local fit =
        like_plain flat t number f fits s _ _ 0 (plan_of flat t number f fits s 0 _) (omega arith) refl (λ entries. refl) tt fit
    row_keeps (Table low other targets) new static local fit =
        like_plain flat t number f fits s _ _ 1 (plan_of flat t number f fits s 1 _) (omega arith) refl (λ entries. refl) tt fit
    row_keeps (Lookup other pairs) new static local fit =
        like_plain flat t number f fits s _ _ 1 (plan_of flat t number f fits s 1 _) (omega arith) refl (λ entries. refl) tt fit
    row_keeps (Return None) new static local fit =
        like_plain flat t number f fits s (row_of s f at (Return None)) _ 0 (plan_of flat t number f fits s 0 _) (omega arith) refl (λ entries. refl) tt fit
    row_keeps (Return (Some kind)) new static local fit =
        like_plain flat t number f fits s (row_of s f at (Return (Some kind))) _ 1
        (record { moving = record { more = _; stack = refl }; locals = refl }) (omega arith) refl (λ entries. refl) tt fit
    row_keeps (GetStatic index) new static local fit =
        get_static_keeps flat t number f fits s _ (plan_of flat t number f fits s 0 _) (reference_of s.pool (constant_at s.pool index)) fit
    row_keeps (PutStatic index) new static local fit =
        put_static_keeps flat t number f fits s _ (record { moving = record { more = _; stack = refl }; locals = refl })
        (reference_of s.pool (constant_at s.pool index)) fit
    row_keeps (GetField index) new static local fit =
        get_field_keeps flat t number f fits s _ (field_plan (field_of pl (class_of t) index)) (reference_of s.pool (constant_at s.pool index)) fit
    row_keeps (PutField index) new static local fit =
        put_field_keeps flat t number f fits s _ (put_plan (field_of pl (class_of t) index)) (reference_of s.pool (constant_at s.pool index)) fit
    row_keeps (Invoke opcode index count) new static local fit =
        subst (λ (p : Constants). RowKeeps flat t number f (row_of s f at (Invoke opcode index count))
        (call_row (set_frame t f) opcode (reference_of p (constant_at p index)))) (sym pool)
        (call_keeps flat t number f fits s opcode (reference_of s.pool (constant_at s.pool index)) (static opcode index count refl) fit)
    row_keeps (Dynamic index) new static local fit =
        subst (λ (p : Constants). RowKeeps flat t number f (row_of s f at (Dynamic index)) (dynamic_row p (set_frame t f) (constant_at p index))) (sym pool)
        (dynamic_keeps flat t number f fits s (constant_at s.pool index) fit)
    row_keeps (New index) new static local fit =
        subst (λ (c : FlatCode). RowKeeps flat t number f (row_of s f at (New index)) (new_row (set_frame t f) (site_at c number))) (sym plan_flat)
        (new_keeps at (new index refl))
    row_keeps (NewArray code) new static local fit =
        made_keeps flat t number f fits s _ 1 (record { moving = record { more = _; stack = refl }; locals = refl }) (primitive_array code) fit
    row_keeps (NewRefArray index) new static local fit =
        made_keeps flat t number f fits s _ 1 (record { moving = record { more = _; stack = refl }; locals = refl }) (array_of (class_at s.pool index)) fit
    row_keeps (NewMulti index dimensions) new static local fit =
        made_keeps flat t number f fits s _ dimensions (record { moving = record { more = _; stack = refl }; locals = refl }) (class_at s.pool index) fit
    row_keeps Length new static local fit =
        like_plain flat t number f fits s (row_of s f at Length) _ 1 (record { moving = record { more = _; stack = refl }; locals = refl }) (omega arith) refl
        (λ entries. refl) (λ is. is, tt) fit
    row_keeps Throw new static local fit =
        like_plain flat t number f fits s (row_of s f at Throw) _ 1 (record { moving = record { more = _; stack = refl }; locals = refl }) (omega arith) refl
        (λ entries. refl) tt fit
    row_keeps (Cast index) new static local fit =
        cast_keeps flat t number f fits s _ (cast_plan (class_at (pool_of pl (class_of t)) index)) (class_at s.pool index) fit
    row_keeps (InstanceOf index) new static local fit =
        like_plain flat t number f fits s (row_of s f at (InstanceOf index)) _ 1 (plan_of flat t number f fits s 1 _) (omega arith) refl (λ entries. refl)
        (λ is. is, tt) fit
    row_keeps Enter new static local fit =
        like_plain flat t number f fits s (row_of s f at Enter) _ 1 (record { moving = record { more = _; stack = refl }; locals = refl }) (omega arith) refl
        (λ entries. refl) tt fit
    row_keeps Leave new static local fit =
        like_plain flat t number f fits s (row_of s f at Leave) _ 1 (record { moving = record { more = _; stack = refl }; locals = refl }) (omega arith) refl
        (λ entries. refl) tt fit
