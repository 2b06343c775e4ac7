use Rattle.std.specs.Prelude.{◌≡◌, ◌-◌, ◌+◌, ◌≤◌, ◌&&◌, not, refl, ℕ, zero, suc, Bool, true, false, List, [], ◌∷◌, ◌++◌, map, length, take, drop, reverse, slice_get, Option, Some, None}
use Rattle.std.proofs.Common.{arith, ap, sym, ◌∙◌, subst}
use Rattle.std.proofs.lemmas.List.{length-map, length-reverse, length-take, drop-drop}
use Rattle.class_model.specs.declared.frame.Frame.{Frame}
use Rattle.class_model.specs.declared.frame.VType.{VType}
use Rattle.machine_values.specs.Frames.{MethodState}
use Rattle.machine_values.specs.Heaps.{Heap}
use Rattle.machine_values.specs.Values.{is_wide_value}
use Rattle.machine_values.specs.declared.frame.RunFrame.{RunFrame}
use Rattle.machine_values.specs.declared.value.Value.{Value}
use Rattle.member_link.specs.Machine.Locals as machine
use Rattle.member_link.specs.Machine.Locals.{fits_width, fit_widths, form_for, chosen_values, shuffled}
use Rattle.member_link.specs.Machine.Ops.{shuffle_stack}
use Rattle.member_link.specs.Machine.Programs.{Program}
use Rattle.member_link.specs.Machine.Stepping.{op_step}
use Rattle.member_link.specs.Machine.Worlds.{World}
use Rattle.member_link.specs.RowScope.{RowScope}
use Rattle.member_link.specs.Rows.Operands.{topmost, under}
use Rattle.member_link.specs.Rows.Row.{access_aside, plain}
use Rattle.member_link.specs.Rows.ShuffleRows.{Width, one, two, Form, forms_of, need_of, has_width, have_widths, form_in, picked, form_row, shuffle_row}
use Rattle.typed_runs.proofs.Basics.{and_first, and_second, some_of}
use Rattle.typed_runs.proofs.Here.{Here, goes, operands_here, pushed}
use Rattle.typed_runs.proofs.Taken.{takes_nothing}
use Rattle.typed_runs.proofs.Stacks.{Operands, top_is}
use Rattle.typed_runs.specs.Conforming.{Conforms, an_int, a_long, a_float, a_double, only_null, null_object, an_object, of_new, of_this, AllConform, no_values, and_value}
use Rattle.typed_runs.specs.TypedPrograms.{Typings}
use Rattle.typed_runs.specs.TypedWorlds.{StaysTyped}

-- ---- widths of types and of values

pub width_conforms : {P : Program} {s : RowScope} {h : Heap} (w : Width) {t : VType} {v : Value} → has_width w t ≡ true → Conforms P s h t v → fits_width w v ≡ true
width_conforms one is an_int = refl
width_conforms one is a_float = refl
width_conforms one is only_null = refl
width_conforms one is null_object = refl
width_conforms one is (an_object sh c) = refl
width_conforms one is (of_new n sh c) = refl
width_conforms one is (of_this sh b) = refl
width_conforms two is a_long = refl
width_conforms two is a_double = refl
width_conforms w is c = cc

pub both_true : (a b : Bool) → a ≡ true → b ≡ true → (a && b) ≡ true
both_true a b e d = rw e d

pub widths_conform : {P : Program} {s : RowScope} {h : Heap} (ws : List Width) (ts : List VType) {vs : List Value} → have_widths ws ts ≡ true → AllConform P s h ts vs → fit_widths ws vs ≡ true
widths_conform [] [] is no_values = refl
widths_conform (w ∷ ws) (t ∷ ts) is (and_value {value = v} c others) =
    both_true (fits_width w v) _ (width_conforms w (and_first (has_width w t) (have_widths ws ts) is) c) (widths_conform ws ts (and_second (has_width w t) (have_widths ws ts) is) others)
widths_conform [] (t ∷ ts) is all = cc
widths_conform (w ∷ ws) [] is all = cc

-- ---- no two forms fit one stack

abbrev pub same_widths : List Width → List Width → Bool
same_widths [] [] = true
same_widths (one ∷ ws) (one ∷ xs) = same_widths ws xs
same_widths (two ∷ ws) (two ∷ xs) = same_widths ws xs
same_widths ws xs = false

-- the one is the end of the other
abbrev pub agree : List Width → List Width → Bool
agree ws xs = same_widths (drop (length ws - length xs) ws) (drop (length xs - length ws) xs)

abbrev pub no_other_agrees : Form → List Form → Bool
no_other_agrees form [] = true
no_other_agrees form (other ∷ others) = not (agree form.takes other.takes) && no_other_agrees form others

abbrev pub none_agree : List Form → Bool
none_agree [] = true
none_agree (form ∷ forms) = no_other_agrees form forms && none_agree forms

pub fit_drop : (n : ℕ) (ws : List Width) (vs : List Value) → fit_widths ws vs ≡ true → fit_widths (drop n ws) (drop n vs) ≡ true
fit_drop zero ws vs is = is
fit_drop (suc n) [] [] is = refl
fit_drop (suc n) (w ∷ ws) (v ∷ vs) is = fit_drop n ws vs (and_second (fits_width w v) (fit_widths ws vs) is)
fit_drop (suc n) [] (v ∷ vs) is = cc
fit_drop (suc n) (w ∷ ws) [] is = cc

pub same_width : (w x : Width) (v : Value) → fits_width w v ≡ true → fits_width x v ≡ true → (ws xs : List Width) → same_widths ws xs ≡ true → same_widths (w ∷ ws) (x ∷ xs) ≡ true
same_width one one v e d ws xs is = is
same_width two two v e d ws xs is = is
same_width one two v e d ws xs is = by (is_wide_value v) refl where
  by : (b : Bool) → is_wide_value v ≡ b → false ≡ true
  by true wide = let n : not true ≡ true = rw wide at e in cc
  by false wide = cc
same_width two one v e d ws xs is = by (is_wide_value v) refl where
  by : (b : Bool) → is_wide_value v ≡ b → false ≡ true
  by true wide = let n : not true ≡ true = rw wide at d in cc
  by false wide = cc

pub same_of_fit : (ws xs : List Width) (vs : List Value) → fit_widths ws vs ≡ true → fit_widths xs vs ≡ true → same_widths ws xs ≡ true
same_of_fit [] [] vs e d = refl
same_of_fit (w ∷ ws) (x ∷ xs) (v ∷ vs) e d =
    same_width w x v (and_first (fits_width w v) (fit_widths ws vs) e) (and_first (fits_width x v) (fit_widths xs vs) d) ws xs
    (same_of_fit ws xs vs (and_second (fits_width w v) (fit_widths ws vs) e) (and_second (fits_width x v) (fit_widths xs vs) d))
same_of_fit [] (x ∷ xs) [] e d = cc
same_of_fit [] (x ∷ xs) (v ∷ vs) e d = cc
same_of_fit (w ∷ ws) [] [] e d = cc
same_of_fit (w ∷ ws) [] (v ∷ vs) e d = cc
same_of_fit (w ∷ ws) (x ∷ xs) [] e d = cc

pub fit_length : (ws : List Width) (vs : List Value) → fit_widths ws vs ≡ true → length ws ≡ length vs
fit_length [] [] is = refl
fit_length (w ∷ ws) (v ∷ vs) is = ap suc (fit_length ws vs (and_second (fits_width w v) (fit_widths ws vs) is))
fit_length [] (v ∷ vs) is = cc
fit_length (w ∷ ws) [] is = cc

pub topmost_enough : (n : ℕ) (stack : List Value) → n ≡ length (machine.topmost n stack) → n ≤ length stack
topmost_enough n stack e = let f = length-reverse (take n stack) in let g = length-take n stack in omega (arith, e, f, g)

-- the topmost values, without the lowest of them
pub drop_topmost : (a b : ℕ) (stack : List Value) → a ≤ length stack → drop (a - b) (machine.topmost a stack) ≡ machine.topmost (a - (a - b)) stack
drop_topmost a b stack enough =
    let k : ℕ = a - b in
    ap (drop k) (sym (top_is a stack)) ∙ (drop-drop k (length stack - a) (reverse stack) ∙
    (ap (λ n. drop n (reverse stack)) (let e : length stack - a + k ≡ length stack - (a - k) = omega (arith, enough) in e) ∙ top_is (a - k) stack))

-- both fit the topmost values: then they agree
pub fits_agree : (ws xs : List Width) (stack : List Value) → fit_widths ws (machine.topmost (length ws) stack) ≡ true → fit_widths xs (machine.topmost (length xs) stack) ≡ true
    → agree ws xs ≡ true
fits_agree ws xs stack e d =
    let a : ℕ = length ws in
    let b : ℕ = length xs in
    let le : length ws ≡ length (machine.topmost a stack) = fit_length ws _ e in
    let ld : length xs ≡ length (machine.topmost b stack) = fit_length xs _ d in
    let enough : length ws ≤ length stack = topmost_enough (length ws) stack le in
    let enough_other : length xs ≤ length stack = topmost_enough (length xs) stack ld in
    let top : machine.topmost (length ws - (length ws - length xs)) stack ≡ machine.topmost (length xs - (length xs - length ws)) stack =
    ap (λ n. machine.topmost n stack) (let m : length ws - (length ws - length xs) ≡ length xs - (length xs - length ws) = omega arith in m) in
    same_of_fit (drop (length ws - length xs) ws) (drop (length xs - length ws) xs) (machine.topmost (length ws - (length ws - length xs)) stack)
    (subst (λ vs. fit_widths (drop (length ws - length xs) ws) vs ≡ true) (drop_topmost (length ws) (length xs) stack enough) (fit_drop (length ws - length xs) ws _ e))
    (subst (λ vs. fit_widths (drop (length xs - length ws) xs) vs ≡ true) (drop_topmost (length xs) (length ws) stack enough_other ∙ sym top) (fit_drop (length xs - length ws) xs _ d))

-- ---- what is pushed

abbrev pub entry : {A : Type 0} → Option A → List A
entry None = []
entry (Some x) = x ∷ []

pub conform_entry : {P : Program} {s : RowScope} {h : Heap} {ts us : List VType} {vs ws : List Value} → AllConform P s h ts vs → (n : ℕ) → AllConform P s h us ws
    → AllConform P s h (entry (slice_get ts n) ++ us) (entry (slice_get vs n) ++ ws)
conform_entry no_values n more = more
conform_entry (and_value c others) zero more = and_value c more
conform_entry (and_value c others) (suc n) more = conform_entry others n more

pub conform_at : {P : Program} {s : RowScope} {h : Heap} {ts : List VType} {vs : List Value} → AllConform P s h ts vs → (ns : List ℕ) → AllConform P s h (picked ts ns) (chosen_values vs ns)
conform_at all [] = no_values
conform_at all (n ∷ ns) = conform_entry all n (conform_at all ns)

-- ---- the form that is chosen

not_true : (b : Bool) → not b ≡ true → b ≡ false
not_true true is = cc
not_true false is = refl

pub others_differ : (first : Form) (forms : List Form) (form : Form) (types : List VType) → form_in forms types ≡ Some form → no_other_agrees first forms ≡ true → agree first.takes form.takes ≡ false
others_differ first [] form types is apart = cc
others_differ first (other ∷ others) form types is apart =
    by (have_widths other.takes (topmost (length other.takes) types)) refl
    (λ e. others_differ first others form types e (and_second (not (agree first.takes other.takes)) (no_other_agrees first others) apart)) where
      by : (b : Bool) → have_widths other.takes (topmost (length other.takes) types) ≡ b → (form_in others types ≡ Some form → agree first.takes form.takes ≡ false) → agree first.takes form.takes ≡ false
      by true e next =
          let same : other ≡ form = some_of (rw e at is) in
          subst (λ (f : Form). agree first.takes f.takes ≡ false) same (not_true (agree first.takes other.takes) (and_first (not (agree first.takes other.takes)) (no_other_agrees first others) apart))
      by false e next = next (rw e at is)

pub form_found : (forms : List Form) (form : Form) (types : List VType) (stack : List Value) → none_agree forms ≡ true → form_in forms types ≡ Some form
    → fit_widths form.takes (machine.topmost (length form.takes) stack) ≡ true → form_for forms stack ≡ Some form
form_found [] form types stack apart is fits = cc
form_found (first ∷ others) form types stack apart is fits =
    by (have_widths first.takes (topmost (length first.takes) types)) refl
    (λ e. form_found others form types stack (and_second (no_other_agrees first others) (none_agree others) apart) e fits) where
      by_fit : (b : Bool) → fit_widths first.takes (machine.topmost (length first.takes) stack) ≡ b → form_in others types ≡ Some form → form_for others stack ≡ Some form → form_for (first ∷ others) stack ≡ Some form
      by_fit true e found next =
          let yes : agree first.takes form.takes ≡ true = fits_agree first.takes form.takes stack e fits in
          let other : agree first.takes form.takes ≡ false = others_differ first others form types found (and_first (no_other_agrees first others) (none_agree others) apart) in
          cc
      by_fit false e found next = rw e next

      by : (b : Bool) → have_widths first.takes (topmost (length first.takes) types) ≡ b → (form_in others types ≡ Some form → form_for others stack ≡ Some form) → form_for (first ∷ others) stack ≡ Some form
      by true e next =
          let same : first ≡ form = some_of (rw e at is) in
          let fit : fit_widths first.takes (machine.topmost (length first.takes) stack) ≡ true = subst (λ (f : Form). fit_widths f.takes (machine.topmost (length f.takes) stack) ≡ true) (sym same) fits in
          rw fit (ap Some same)
      by false e next = by_fit (fit_widths first.takes (machine.topmost (length first.takes) stack)) refl (rw e at is) (next (rw e at is))

-- the widths of the operands are those of the form
pub chosen_widths : (forms : List Form) (form : Form) (types : List VType) → form_in forms types ≡ Some form → have_widths form.takes (topmost (length form.takes) types) ≡ true
chosen_widths [] form types is = cc
chosen_widths (first ∷ others) form types is = by (have_widths first.takes (topmost (length first.takes) types)) refl (λ e. chosen_widths others form types e) where
  by : (b : Bool) → have_widths first.takes (topmost (length first.takes) types) ≡ b → (form_in others types ≡ Some form → have_widths form.takes (topmost (length form.takes) types) ≡ true)
      → have_widths form.takes (topmost (length form.takes) types) ≡ true
  by true e next = let same : first ≡ form = some_of (rw e at is) in subst (λ (f : Form). have_widths f.takes (topmost (length f.takes) types) ≡ true) same e
  by false e next = next (rw e at is)

pub forms_apart : (opcode : ℕ) → none_agree (forms_of opcode) ≡ true
forms_apart opcode = grind arith

-- ---- the instruction

module _ {P : Program} {T : Typings} {w : World} {f : MethodState} {rest : List RunFrame} {s : RowScope} {frame : Frame} {place : ℕ} {numbered : ℕ → ℕ} where
  pub formed_stays : (opcode : ℕ) (form : Form) → form_in (forms_of opcode) frame.stack ≡ Some form
      → Here P T w f rest s frame place numbered (plain frame (map need_of form.takes) (picked (topmost (length form.takes) frame.stack) form.gives)) (shuffle_stack opcode) true []
      → StaysTyped P T w (op_step P w f rest (shuffle_stack opcode))
  formed_stays opcode form is h =
      let n : ℕ = length form.takes in
      let many : length (map need_of form.takes) ≡ length form.takes = length-map form.takes need_of in
      let o : Operands P (T f.at).scope w.memory.heap frame.stack f.stack (length form.takes) = subst (λ k. Operands P (T f.at).scope w.memory.heap frame.stack f.stack k) many (operands_here h) in
      let fits : fit_widths form.takes (machine.topmost (length form.takes) f.stack) ≡ true = widths_conform form.takes (topmost (length form.takes) frame.stack) (chosen_widths (forms_of opcode) form frame.stack is) o.values in
      let found : form_for (forms_of opcode) f.stack ≡ Some form = form_found (forms_of opcode) form frame.stack f.stack (forms_apart opcode) is fits in
      let new : List Value = reverse (chosen_values (machine.topmost (length form.takes) f.stack) form.gives) ++ drop (length form.takes) f.stack in
      rw found (goes h (f.place + 1) _ h.next f.locals new h.stands.paired h.locals
      (subst (λ k. AllConform P (T f.at).scope w.memory.heap (under k frame.stack ++ picked (topmost (length form.takes) frame.stack) form.gives) (reverse new)) (sym many)
      (pushed (drop (length form.takes) f.stack) (chosen_values (machine.topmost (length form.takes) f.stack) form.gives) o.rest (conform_at o.values form.gives))))

  pub shuffle_stays : (opcode : ℕ) → Here P T w f rest s frame place numbered (access_aside (shuffle_row frame opcode)) (shuffle_stack opcode) true []
      → StaysTyped P T w (op_step P w f rest (shuffle_stack opcode))
  shuffle_stays opcode h = by (form_in (forms_of opcode) frame.stack) refl h where
    by : (form : Option Form) → form_in (forms_of opcode) frame.stack ≡ form
        → Here P T w f rest s frame place numbered (access_aside (form_row frame form)) (shuffle_stack opcode) true [] → StaysTyped P T w (op_step P w f rest (shuffle_stack opcode))
    by None is k = absurd (takes_nothing s (topmost 1 frame.stack) k.holds.operands)
    by (Some form) is k = formed_stays opcode form is k
