-- The form by which the topmost values of a frame are moved is that of their types: no two forms of an opcode fit one stack.
use Rattle.std.proofs.Common.{◌≡◌, ◌-◌, ◌+◌, ◌≤◌, ◌&&◌, not, if◌then◌else◌, ℕ, zero, suc, Bool, true, false, List, [], ◌∷◌, ◌++◌, map, length, take, drop, reverse, slice_get, Option, Some, None, arith, ap, refl, sym, ◌∙◌, subst}
use Rattle.std.proofs.lemmas.List.{drop-drop, drop-map, length-drop, length-map, length-reverse, length-take, reverse-append, take-append-drop}
use Rattle.class_model.specs.Frames.{is_top, is_wide}
use Rattle.class_model.specs.declared.frame.Frame.{Frame}
use Rattle.class_model.specs.declared.frame.VType.{VType}
use Rattle.class_model.specs.declared.frame.VType.TheVariants as types
use Rattle.class_model.specs.declared.instr.Instr.TheVariants.{Shuffle}
use Rattle.flow_code.specs.FlatCode.{FlatCode}
use Rattle.flow_code.specs.ReadTypes.{class_of_site, read_frame, read_type}
use Rattle.flow_code.specs.declared.point.FlatInstr.{FlatInstr}
use Rattle.flow_code.specs.declared.point.FlatInstr.TheVariants.{Of}
use Rattle.flow_code.specs.declared.point.Point.{Point}
use Rattle.machine_values.specs.Frames.{MethodState}
use Rattle.machine_values.specs.Heaps.{Heap}
use Rattle.machine_values.specs.Values.{is_wide_value}
use Rattle.machine_values.specs.declared.frame.RunFrame.{RunFrame}
use Rattle.machine_values.specs.declared.frame.RunFrame.TheVariants.{Method}
use Rattle.machine_values.specs.declared.value.Value.{Value}
use Rattle.member_link.specs.Bodies.{item_row}
use Rattle.member_link.specs.BodyTyping.{RowHolds}
use Rattle.member_link.specs.Machine.Locals as machine
use Rattle.member_link.specs.Machine.Locals.{fits_width, fit_widths, form_for}
use Rattle.member_link.specs.Machine.Programs.{Program}
use Rattle.member_link.specs.Machine.Worlds.{World}
use Rattle.member_link.specs.RowScope.{RowScope}
use Rattle.member_link.specs.Rows.Operands.{AllFit, nothing, topmost}
use Rattle.member_link.specs.Rows.Readings.{row_by}
use Rattle.member_link.specs.Rows.Row.{access_aside}
use Rattle.member_link.specs.Rows.ShuffleRows.{Width, one, two, Form, forms_of, form_row, has_width, have_widths, form_in}
use Rattle.plan_flow.specs.Written.WrittenPrograms.{WrittenMethod}
use Rattle.same_runs.specs.Flats.{flat_item, instr_scope}
use Rattle.same_runs.specs.TypedFlats.{reading_of}
use Rattle.typed_runs.specs.Conforming.{Conforms, an_int, a_long, a_float, a_double, only_null, null_object, an_object, of_new, of_this, AllConform, no_values, and_value}
use Rattle.typed_runs.specs.FolderTypings.{HasFlatTypings}
use Rattle.typed_runs.specs.TypedWorlds.{TypedWorld}
use Rattle.written_runs.specs.Inner.Setup.{IsSetup, Setup, first}
use Rattle.written_runs.specs.Laws.TypedEntries.{as_many, typed_frame}
use Rattle.written_runs.specs.WrittenRuns.{IsReadyMethod}

some_of : {A : Type 0} {a b : A} → Some a ≡ Some b → a ≡ b
some_of e = cc

and_first : (a b : Bool) → (a && b) ≡ true → a ≡ true
and_first true b is = refl
and_first false b is = is

and_second : (a b : Bool) → (a && b) ≡ true → b ≡ true
and_second true b is = is
and_second false b is = cc

-- ---- the topmost of a stack

reversed : {A : Type 0} (n : ℕ) (xs : List A) → reverse xs ≡ reverse (drop n xs) ++ reverse (take n xs)
reversed n xs = ap reverse (sym (take-append-drop n xs)) ∙ reverse-append (take n xs) (drop n xs)

drop_at : {A : Type 0} (xs ys : List A) (n : ℕ) → length xs ≡ n → drop n (xs ++ ys) ≡ ys
drop_at [] ys zero e = refl
drop_at [] ys (suc n) e = cc
drop_at (x ∷ xs) ys zero e = cc
drop_at (x ∷ xs) ys (suc n) e = drop_at xs ys n (omega (arith, e))

top_is : {A : Type 0} (n : ℕ) (xs : List A) → drop (length xs - n) (reverse xs) ≡ reverse (take n xs)
top_is n xs =
    ap (drop (length xs - n)) (reversed n xs)
    ∙ drop_at (reverse (drop n xs)) (reverse (take n xs)) (length xs - n) (length-reverse (drop n xs) ∙ length-drop n xs)

conform_drop : {P : Program} {s : RowScope} {h : Heap} {ts : List VType} {vs : List Value} (n : ℕ) → AllConform P s h ts vs
    → AllConform P s h (drop n ts) (drop n vs)
conform_drop zero all = all
conform_drop (suc n) no_values = no_values
conform_drop (suc n) (and_value conforms others) = conform_drop n others

pub top_conforms : {P : Program} {s : RowScope} {h : Heap} (n : ℕ) (types : List VType) (stack : List Value) → AllConform P s h types (reverse stack)
    → AllConform P s h (topmost n types) (machine.topmost n stack)
top_conforms {P} {s} {h} n types stack all =
    subst (AllConform P s h (topmost n types))
    (ap (λ (k : ℕ). drop (k - n) (reverse stack)) (sym (as_many all) ∙ length-reverse stack) ∙ top_is n stack)
    (conform_drop (length types - n) all)

-- ---- widths of types and of values

width_conforms : {P : Program} {s : RowScope} {h : Heap} (w : Width) {t : VType} {v : Value} → has_width w t ≡ true → Conforms P s h t v → fits_width w v ≡ true
width_conforms one is an_int = refl
width_conforms one is a_float = refl
width_conforms one is only_null = refl
width_conforms one is null_object = refl
width_conforms one is (an_object sh c) = refl
width_conforms one is (of_new n sh c) = refl
width_conforms one is (of_this sh b) = refl
width_conforms two is a_long = refl
width_conforms two is a_double = refl
width_conforms w is c = cc

both_true : (a b : Bool) → a ≡ true → b ≡ true → (a && b) ≡ true
both_true a b e d = rw e d

widths_conform : {P : Program} {s : RowScope} {h : Heap} (ws : List Width) (ts : List VType) {vs : List Value} → have_widths ws ts ≡ true
    → AllConform P s h ts vs → fit_widths ws vs ≡ true
widths_conform [] [] is no_values = refl
widths_conform (w ∷ ws) (t ∷ ts) is (and_value {value = v} c others) =
    both_true (fits_width w v) _ (width_conforms w (and_first (has_width w t) (have_widths ws ts) is) c)
    (widths_conform ws ts (and_second (has_width w t) (have_widths ws ts) is) others)
widths_conform [] (t ∷ ts) is all = cc
widths_conform (w ∷ ws) [] is all = cc

-- ---- no two forms fit one stack

abbrev same_widths : List Width → List Width → Bool
same_widths [] [] = true
same_widths (one ∷ ws) (one ∷ xs) = same_widths ws xs
same_widths (two ∷ ws) (two ∷ xs) = same_widths ws xs
same_widths ws xs = false

-- the one is the end of the other
abbrev agree : List Width → List Width → Bool
agree ws xs = same_widths (drop (length ws - length xs) ws) (drop (length xs - length ws) xs)

abbrev no_other_agrees : Form → List Form → Bool
no_other_agrees form [] = true
no_other_agrees form (other ∷ others) = not (agree form.takes other.takes) && no_other_agrees form others

abbrev none_agree : List Form → Bool
none_agree [] = true
none_agree (form ∷ forms) = no_other_agrees form forms && none_agree forms

fit_drop : (n : ℕ) (ws : List Width) (vs : List Value) → fit_widths ws vs ≡ true → fit_widths (drop n ws) (drop n vs) ≡ true
fit_drop zero ws vs is = is
fit_drop (suc n) [] [] is = refl
fit_drop (suc n) (w ∷ ws) (v ∷ vs) is = fit_drop n ws vs (and_second (fits_width w v) (fit_widths ws vs) is)
fit_drop (suc n) [] (v ∷ vs) is = cc
fit_drop (suc n) (w ∷ ws) [] is = cc

same_width : (w x : Width) (v : Value) → fits_width w v ≡ true → fits_width x v ≡ true → (ws xs : List Width) → same_widths ws xs ≡ true
    → same_widths (w ∷ ws) (x ∷ xs) ≡ true
same_width one one v e d ws xs is = is
same_width two two v e d ws xs is = is
same_width one two v e d ws xs is = by (is_wide_value v) refl where
  by : (b : Bool) → is_wide_value v ≡ b → false ≡ true
  by true wide = let n : not true ≡ true = rw wide at e in cc
  by false wide = cc
same_width two one v e d ws xs is = by (is_wide_value v) refl where
  by : (b : Bool) → is_wide_value v ≡ b → false ≡ true
  by true wide = let n : not true ≡ true = rw wide at d in cc
  by false wide = cc

same_of_fit : (ws xs : List Width) (vs : List Value) → fit_widths ws vs ≡ true → fit_widths xs vs ≡ true → same_widths ws xs ≡ true
same_of_fit [] [] vs e d = refl
same_of_fit (w ∷ ws) (x ∷ xs) (v ∷ vs) e d =
    same_width w x v (and_first (fits_width w v) (fit_widths ws vs) e) (and_first (fits_width x v) (fit_widths xs vs) d) ws xs
    (same_of_fit ws xs vs (and_second (fits_width w v) (fit_widths ws vs) e) (and_second (fits_width x v) (fit_widths xs vs) d))
same_of_fit [] (x ∷ xs) [] e d = cc
same_of_fit [] (x ∷ xs) (v ∷ vs) e d = cc
same_of_fit (w ∷ ws) [] [] e d = cc
same_of_fit (w ∷ ws) [] (v ∷ vs) e d = cc
same_of_fit (w ∷ ws) (x ∷ xs) [] e d = cc

fit_length : (ws : List Width) (vs : List Value) → fit_widths ws vs ≡ true → length ws ≡ length vs
fit_length [] [] is = refl
fit_length (w ∷ ws) (v ∷ vs) is = ap suc (fit_length ws vs (and_second (fits_width w v) (fit_widths ws vs) is))
fit_length [] (v ∷ vs) is = cc
fit_length (w ∷ ws) [] is = cc

topmost_enough : (n : ℕ) (stack : List Value) → n ≡ length (machine.topmost n stack) → n ≤ length stack
topmost_enough n stack e = let f = length-reverse (take n stack) in let g = length-take n stack in omega (arith, e, f, g)

-- the topmost values, without the lowest of them
drop_topmost : (a b : ℕ) (stack : List Value) → a ≤ length stack → drop (a - b) (machine.topmost a stack) ≡ machine.topmost (a - (a - b)) stack
drop_topmost a b stack enough =
    let k : ℕ = a - b in
    ap (drop k) (sym (top_is a stack)) ∙ (drop-drop k (length stack - a) (reverse stack) ∙
    (ap (λ n. drop n (reverse stack)) (let e : length stack - a + k ≡ length stack - (a - k) = omega (arith, enough) in e) ∙ top_is (a - k) stack))

-- both fit the topmost values: then they agree
fits_agree : (ws xs : List Width) (stack : List Value) → fit_widths ws (machine.topmost (length ws) stack) ≡ true
    → fit_widths xs (machine.topmost (length xs) stack) ≡ true
    → agree ws xs ≡ true
fits_agree ws xs stack e d =
    let a : ℕ = length ws in
    let b : ℕ = length xs in
    let le : length ws ≡ length (machine.topmost a stack) = fit_length ws _ e in
    let ld : length xs ≡ length (machine.topmost b stack) = fit_length xs _ d in
    let enough : length ws ≤ length stack = topmost_enough (length ws) stack le in
    let enough_other : length xs ≤ length stack = topmost_enough (length xs) stack ld in
    let top : machine.topmost (length ws - (length ws - length xs)) stack ≡ machine.topmost (length xs - (length xs - length ws)) stack =
    ap (λ n. machine.topmost n stack) (let m : length ws - (length ws - length xs) ≡ length xs - (length xs - length ws) = omega arith in m) in
    same_of_fit (drop (length ws - length xs) ws) (drop (length xs - length ws) xs) (machine.topmost (length ws - (length ws - length xs)) stack)
    (subst (λ vs. fit_widths (drop (length ws - length xs) ws) vs ≡ true) (drop_topmost (length ws) (length xs) stack enough)
    (fit_drop (length ws - length xs) ws _ e))
    (subst (λ vs. fit_widths (drop (length xs - length ws) xs) vs ≡ true) (drop_topmost (length xs) (length ws) stack enough_other ∙ sym top)
    (fit_drop (length xs - length ws) xs _ d))

-- ---- the form that is chosen

not_true : (b : Bool) → not b ≡ true → b ≡ false
not_true true is = cc
not_true false is = refl

others_differ : (first : Form) (forms : List Form) (form : Form) (types : List VType) → form_in forms types ≡ Some form → no_other_agrees first forms ≡ true
    → agree first.takes form.takes ≡ false
others_differ first [] form types is apart = cc
others_differ first (other ∷ others) form types is apart =
    by (have_widths other.takes (topmost (length other.takes) types)) refl
    (λ e. others_differ first others form types e (and_second (not (agree first.takes other.takes)) (no_other_agrees first others) apart)) where
      by : (b : Bool) → have_widths other.takes (topmost (length other.takes) types) ≡ b
          → (form_in others types ≡ Some form → agree first.takes form.takes ≡ false) → agree first.takes form.takes ≡ false
      by true e next =
          let same : other ≡ form = some_of (rw e at is) in
          subst (λ (f : Form). agree first.takes f.takes ≡ false) same
          (not_true (agree first.takes other.takes) (and_first (not (agree first.takes other.takes)) (no_other_agrees first others) apart))
      by false e next = next (rw e at is)

form_found : (forms : List Form) (form : Form) (types : List VType) (stack : List Value) → none_agree forms ≡ true → form_in forms types ≡ Some form
    → fit_widths form.takes (machine.topmost (length form.takes) stack) ≡ true → form_for forms stack ≡ Some form
form_found [] form types stack apart is fits = cc
form_found (first ∷ others) form types stack apart is fits =
    by (have_widths first.takes (topmost (length first.takes) types)) refl
    (λ e. form_found others form types stack (and_second (no_other_agrees first others) (none_agree others) apart) e fits) where
      by_fit : (b : Bool) → fit_widths first.takes (machine.topmost (length first.takes) stack) ≡ b → form_in others types ≡ Some form
          → form_for others stack ≡ Some form → form_for (first ∷ others) stack ≡ Some form
      by_fit true e found next =
          let yes : agree first.takes form.takes ≡ true = fits_agree first.takes form.takes stack e fits in
          let other : agree first.takes form.takes ≡ false = others_differ first others form types found
          (and_first (no_other_agrees first others) (none_agree others) apart) in
          cc
      by_fit false e found next = rw e next

      by : (b : Bool) → have_widths first.takes (topmost (length first.takes) types) ≡ b
          → (form_in others types ≡ Some form → form_for others stack ≡ Some form) → form_for (first ∷ others) stack ≡ Some form
      by true e next =
          let same : first ≡ form = some_of (rw e at is) in
          let fit : fit_widths first.takes (machine.topmost (length first.takes) stack) ≡ true = subst
          (λ (f : Form). fit_widths f.takes (machine.topmost (length f.takes) stack) ≡ true) (sym same) fits in
          rw fit (ap Some same)
      by false e next = by_fit (fit_widths first.takes (machine.topmost (length first.takes) stack)) refl (rw e at is) (next (rw e at is))

-- the widths of the operands are those of the form
chosen_widths : (forms : List Form) (form : Form) (types : List VType) → form_in forms types ≡ Some form
    → have_widths form.takes (topmost (length form.takes) types) ≡ true
chosen_widths [] form types is = cc
chosen_widths (first ∷ others) form types is = by (have_widths first.takes (topmost (length first.takes) types)) refl
    (λ e. chosen_widths others form types e) where
      by : (b : Bool) → have_widths first.takes (topmost (length first.takes) types) ≡ b
          → (form_in others types ≡ Some form → have_widths form.takes (topmost (length form.takes) types) ≡ true)
          → have_widths form.takes (topmost (length form.takes) types) ≡ true
      by true e next = let same : first ≡ form = some_of (rw e at is) in subst (λ (f : Form). have_widths f.takes (topmost (length f.takes) types) ≡ true) same e
      by false e next = next (rw e at is)

forms_apart : (opcode : ℕ) → none_agree (forms_of opcode) ≡ true
forms_apart opcode = grind arith

-- ---- forms of stacks that are read

read_wide : (flat : FlatCode) (type : VType) → is_wide (read_type flat type) ≡ is_wide type
read_wide flat (types.Uninit at) = by (class_of_site flat.sites at) refl where
  by : (found : Option (List ℕ)) → class_of_site flat.sites at ≡ found → is_wide (read_type flat (types.Uninit at)) ≡ false
  by None none = rw none refl
  by (Some class) some = rw some refl
read_wide flat type = refl

read_top : (flat : FlatCode) (type : VType) → is_top (read_type flat type) ≡ is_top type
read_top flat (types.Uninit at) = by (class_of_site flat.sites at) refl where
  by : (found : Option (List ℕ)) → class_of_site flat.sites at ≡ found → is_top (read_type flat (types.Uninit at)) ≡ false
  by None none = rw none refl
  by (Some class) some = rw some refl
read_top flat type = refl

read_width : (flat : FlatCode) (width : Width) (type : VType) → has_width width (read_type flat type) ≡ has_width width type
read_width flat one type = λ i. not (read_wide flat type i) && not (read_top flat type i)
read_width flat two type = read_wide flat type

read_widths : (flat : FlatCode) (widths : List Width) (stack : List VType) → have_widths widths (map (read_type flat) stack) ≡ have_widths widths stack
read_widths flat [] [] = refl
read_widths flat [] (type ∷ stack) = refl
read_widths flat (width ∷ widths) [] = refl
read_widths flat (width ∷ widths) (type ∷ stack) = λ i. read_width flat width type i && read_widths flat widths stack i

read_topmost : (flat : FlatCode) (count : ℕ) (stack : List VType) → topmost count (map (read_type flat) stack) ≡ map (read_type flat) (topmost count stack)
read_topmost flat count stack =
    ap (λ (n : ℕ). drop (n - count) (map (read_type flat) stack)) (length-map stack (read_type flat))
    ∙ drop-map (read_type flat) (length stack - count) stack

read_form : (flat : FlatCode) (forms : List Form) (stack : List VType) → form_in forms (map (read_type flat) stack) ≡ form_in forms stack
read_form flat [] stack = refl
read_form flat (first ∷ forms) stack =
    λ i. if (ap (have_widths first.takes) (read_topmost flat (length first.takes) stack)
    ∙ read_widths flat first.takes (topmost (length first.takes) stack)) i then Some first else read_form flat forms stack i

-- ---- a shuffle of flat code

row_form : {s : RowScope} (f : Frame) (found : Option Form) → RowHolds s f (access_aside (form_row f found)) → (form : Form) × (found ≡ Some form)
row_form {s} f (Some form) holds = (form, refl)
row_form {s} f None holds = absurd (none_fits s (topmost 1 f.stack) holds.operands) where
  none_fits : (s : RowScope) (types : List VType) → AllFit s (nothing ∷ []) types → ⊥
  none_fits s [] fits = fits
  none_fits s (type ∷ types) fits = fits.0

pub same_forms : (u : Setup) → IsSetup u → HasFlatTypings u.flats u.typings
    → (world : World) (f : MethodState) (rest : List RunFrame) (w : WrittenMethod) (point : Point) (class opcode : ℕ) (form : Form)
    → TypedWorld (first u) u.typings world
    → world.frames ≡ Method f ∷ rest
    → u.written f.at ≡ Some w
    → slice_get w.flat.points f.place ≡ Some point
    → point.instr ≡ Of class (Shuffle opcode)
    → form_for (forms_of opcode) f.stack ≡ Some form
    → form_in (forms_of opcode) point.typed.stack ≡ Some form
same_forms u setup has world f rest w point class opcode form typed stands written there instr is =
    sym (read_form w.flat (forms_of opcode) point.typed.stack)
    ∙ by_types.1
    ∙ sym (form_found (forms_of opcode) by_types.0 read.stack f.stack (forms_apart opcode) by_types.1 fits)
    ∙ is where
      read : Frame
      read = read_frame w.flat point.typed

      ready : IsReadyMethod u.classes u.links f.at w
      ready = setup.ready f.at w written

      TypedRow : FlatInstr → Type 0
      TypedRow i =
          RowHolds (instr_scope u.classes ready.scope w.flat i) read
          (row_by (reading_of u.classes w.flat f.place point.typed i) read
          (item_row (instr_scope u.classes ready.scope w.flat i) read f.place (flat_item i)))

      row : TypedRow (Of class (Shuffle opcode))
      row = subst TypedRow instr (ready.code.typed.points f.place point there).row

      by_types : (found : Form) × (form_in (forms_of opcode) read.stack ≡ Some found)
      by_types = row_form read (form_in (forms_of opcode) read.stack) row

      fits : fit_widths by_types.0.takes (machine.topmost (length by_types.0.takes) f.stack) ≡ true
      fits =
          widths_conform by_types.0.takes (topmost (length by_types.0.takes) read.stack)
          (chosen_widths (forms_of opcode) by_types.0 read.stack by_types.1)
          (top_conforms (length by_types.0.takes) read.stack f.stack (typed_frame u setup has world f rest w point typed stands written there).stack)
