-- What pop, dup, swap and the like leave, with types: a plan and the typing of code take the same form.
use Rattle.std.proofs.Common.{◌≡◌, ◌+◌, ◌-◌, ◌<◌, ℕ, Bool, true, false, List, [], ◌∷◌, ◌++◌, length, map, drop, slice_get, Option, Some, None, if◌then◌else◌, refl, sym, ap, subst, ◌∙◌, arith}
use Rattle.std.specs.Prelude.{◌==◌, ◌&&◌, not}
use Rattle.std.specs.List.{AllByRecursion}
use Rattle.std.proofs.lemmas.List.{drop-map, length-map}
use Rattle.std.proofs.lemmas.Option.{none-some, same_Some}
use Rattle.class_model.specs.Frames.{is_top}
use Rattle.class_model.specs.declared.frame.Frame.{Frame}
use Rattle.class_model.specs.declared.frame.VType.{VType}
use Rattle.class_model.specs.declared.frame.VType.TheVariants as types
use Rattle.class_model.specs.declared.opcodes.TheConstants.{POP, POP2, DUP, DUP_X1, DUP_X2, DUP2, DUP2_X1, DUP2_X2, SWAP}
use Rattle.flow_code.specs.FlatCode.{FlatCode}
use Rattle.flow_code.specs.ReadTypes.{class_of_site, read_frame, read_type}
use Rattle.member_link.specs.RowScope.{RowScope}
use Rattle.member_link.specs.Rows.Operands.{topmost, under}
use Rattle.member_link.specs.Rows.ShuffleRows.{Form, Width, form_in, form_row, forms_of, have_widths, has_width, need_of, one, picked, two}
use Rattle.plan_flow.specs.PlanRows.{no_change}
use Rattle.plan_flow.specs.PlanScope.{PlanScope}
use Rattle.plan_flow.specs.PlanSlots.{slots_from}
use Rattle.plan_flow.specs.PlanTable.{picked_operands, shuffle_row}
use Rattle.virtual_state.specs.States.{State}
use Rattle.written_types.proofs.OperandRows.{Fit, Leaves, no_operand}
use Rattle.written_types.proofs.SlotTypes.{read_wide}
use Rattle.written_types.proofs.Standing.{Left, Standing, all_at, all_dropped, fit_long, item_at, moved, operand_has}
use Rattle.written_types.specs.FitsTypes.{HasItsNew, HaveTypes}

-- ---- forms

-- what is given are operands
abbrev GivesOperands : Form → Type 0
GivesOperands form = AllByRecursion (λ number. number < length form.takes) form.gives

abbrev GiveOperands : List Form → Type 0
GiveOperands forms = AllByRecursion GivesOperands forms

forms_if : (b : Bool) (ones others : List Form) → GiveOperands ones → GiveOperands others → GiveOperands (if b then ones else others)
forms_if true ones others first second = first
forms_if false ones others first second = second

below_one : (0 < 1)
below_one = omega arith

zero_two : (0 < 2)
zero_two = omega arith

one_two : (1 < 2)
one_two = omega arith

zero_three : (0 < 3)
zero_three = omega arith

one_three : (1 < 3)
one_three = omega arith

two_three : (2 < 3)
two_three = omega arith

zero_four : (0 < 4)
zero_four = omega arith

one_four : (1 < 4)
one_four = omega arith

two_four : (2 < 4)
two_four = omega arith

three_four : (3 < 4)
three_four = omega arith

pair : (1 < 2) × ((0 < 2) × ((1 < 2) × Unit {0}))
pair = (one_two, (zero_two, (one_two, tt)))

triple : (2 < 3) × ((0 < 3) × ((1 < 3) × ((2 < 3) × Unit {0})))
triple = (two_three, (zero_three, (one_three, (two_three, tt))))

twice : (1 < 3) × ((2 < 3) × ((0 < 3) × ((1 < 3) × ((2 < 3) × Unit {0}))))
twice = (one_three, triple)

forms_give : (opcode : ℕ) → GiveOperands (forms_of opcode)
forms_give opcode =
    forms_if (opcode == POP) _ _ (tt, tt) (forms_if (opcode == POP2) _ _ (tt, (tt, tt))
    (forms_if (opcode == DUP) _ _ ((below_one, (below_one, tt)), tt) (forms_if (opcode == DUP_X1) _ _ (pair, tt)
    (forms_if (opcode == DUP_X2) _ _ (triple, (pair, tt))
    (forms_if (opcode == DUP2) _ _ ((zero_two, (one_two, (zero_two, (one_two, tt)))), ((below_one, (below_one, tt)), tt))
    (forms_if (opcode == DUP2_X1) _ _ (twice, (pair, tt))
    (forms_if (opcode == DUP2_X2) _ _
    ((two_four, (three_four, (zero_four, (one_four, (two_four, (three_four, tt)))))), (triple, (twice, (pair, tt))))
    (forms_if (opcode == SWAP) _ [] ((one_two, (zero_two, tt)), tt) tt))))))))

form_gives : (forms : List Form) (stack : List VType) (form : Form) → GiveOperands forms → form_in forms stack ≡ Some form → GivesOperands form
form_gives [] stack form all is = absurd (none-some form is)
form_gives (first ∷ forms) stack form all is =
    by (have_widths first.takes (topmost (length first.takes) stack)) is (form_gives forms stack form all.1) where
      by : (b : Bool) → (if b then Some first else form_in forms stack) ≡ Some form → (form_in forms stack ≡ Some form → GivesOperands form)
          → GivesOperands form
      by true found rest = subst GivesOperands (same_Some first form found) all.0
      by false found rest = rest found

-- ---- forms of stacks that are read

read_top : (flat : FlatCode) (type : VType) → is_top (read_type flat type) ≡ is_top type
read_top flat (types.Uninit at) = by (class_of_site flat.sites at) refl where
  by : (found : Option (List ℕ)) → class_of_site flat.sites at ≡ found → is_top (read_type flat (types.Uninit at)) ≡ false
  by None none = rw none refl
  by (Some class) some = rw some refl
read_top flat type = refl

pub read_width : (flat : FlatCode) (width : Width) (type : VType) → has_width width (read_type flat type) ≡ has_width width type
read_width flat one type = λ i. not (read_wide flat type i) && not (read_top flat type i)
read_width flat two type = read_wide flat type

read_widths : (flat : FlatCode) (widths : List Width) (stack : List VType) → have_widths widths (map (read_type flat) stack) ≡ have_widths widths stack
read_widths flat [] [] = refl
read_widths flat [] (type ∷ stack) = refl
read_widths flat (width ∷ widths) [] = refl
read_widths flat (width ∷ widths) (type ∷ stack) = λ i. read_width flat width type i && read_widths flat widths stack i

pub read_topmost : (flat : FlatCode) (count : ℕ) (stack : List VType) → topmost count (map (read_type flat) stack) ≡ map (read_type flat) (topmost count stack)
read_topmost flat count stack =
    ap (λ (n : ℕ). drop (n - count) (map (read_type flat) stack)) (length-map stack (read_type flat))
    ∙ drop-map (read_type flat) (length stack - count) stack

pub read_form : (flat : FlatCode) (forms : List Form) (stack : List VType) → form_in forms (map (read_type flat) stack) ≡ form_in forms stack
read_form flat [] stack = refl
read_form flat (first ∷ forms) stack =
    λ i. if (ap (have_widths first.takes) (read_topmost flat (length first.takes) stack)
    ∙ read_widths flat first.takes (topmost (length first.takes) stack)) i then Some first else read_form flat forms stack i

-- ---- rows

module _ (s : PlanScope) (reached : ℕ → Bool) (f : Frame) (before : State) (st : Standing s reached f before) (sc : RowScope) where
  abbrev rf : Frame
  rf = read_frame s.flat f

  picks_have : (count : ℕ) → length (topmost count rf.stack) ≡ count → (gives : List ℕ) → AllByRecursion (λ number. number < count) gives
      → HaveTypes s (picked (topmost count rf.stack) gives) (slots_from s before no_change (picked_operands f count gives))
  picks_have count long [] all = tt
  picks_have count long (number ∷ gives) all =
      let there = item_at (topmost count rf.stack) number (omega (arith, long, all.0)) in
      rw (there.1) (
        operand_has s reached f before st count number (count - (number + 1)) there.0 long (omega (arith, all.0)) there.1,
        picks_have count long gives all.1,
      )

  picks_new : (count : ℕ) (gives : List ℕ) → AllByRecursion (HasItsNew s reached) (picked (topmost count rf.stack) gives)
  picks_new count [] = tt
  picks_new count (number ∷ gives) = by (slice_get (topmost count rf.stack) number) refl (picks_new count gives) where
    by : (found : Option VType) → slice_get (topmost count rf.stack) number ≡ found
        → AllByRecursion (HasItsNew s reached) (picked (topmost count rf.stack) gives)
        → AllByRecursion (HasItsNew s reached) (picked (topmost count rf.stack) (number ∷ gives))
    by None none others = rw none others
    by (Some type) some others =
        rw some (
          all_at (HasItsNew s reached) (topmost count rf.stack) number type
              (all_dropped (HasItsNew s reached) (length rf.stack - count) rf.stack st.stack) some,
          others,
        )

  form_leaves : (found : Option Form) → ((form : Form) → found ≡ Some form → GivesOperands form) → Fit sc rf (form_row rf found)
      → Leaves s reached f before st sc (shuffle_row f found) (form_row rf found)
  form_leaves None give fit = absurd (no_operand sc rf fit)
  form_leaves (Some form) give fit =
      let many = length-map form.takes need_of in
      let long : length (topmost (length form.takes) rf.stack) ≡ length form.takes =
      subst (λ (n : ℕ). length (topmost n rf.stack) ≡ n) many (fit_long sc (map need_of form.takes) _ fit) in
      subst (λ (n : ℕ). Left s reached before (shuffle_row f (Some form)) rf.locals
      (under n rf.stack ++ picked (topmost (length form.takes) rf.stack) form.gives) true) (sym many)
      (moved s reached f before st (shuffle_row f (Some form)) (length form.takes) (picked_operands f (length form.takes) form.gives) _ refl refl
      (picks_have (length form.takes) long form.gives (give form refl)) st.objects (picks_new (length form.takes) form.gives))

  pub shuffle_leaves : (opcode : ℕ) → Fit sc rf (form_row rf (form_in (forms_of opcode) rf.stack))
      → Leaves s reached f before st sc (shuffle_row f (form_in (forms_of opcode) f.stack)) (form_row rf (form_in (forms_of opcode) rf.stack))
  shuffle_leaves opcode fit =
      let same = read_form s.flat (forms_of opcode) f.stack in
      subst (λ (found : Option Form). Leaves s reached f before st sc (shuffle_row f found) (form_row rf (form_in (forms_of opcode) rf.stack))) same
      (form_leaves (form_in (forms_of opcode) rf.stack)
      (λ form is. form_gives (forms_of opcode) rf.stack form (forms_give opcode) is) fit)
