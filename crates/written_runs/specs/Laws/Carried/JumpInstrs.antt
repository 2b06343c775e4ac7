-- Conditional jumps that are written as they are: of ints, whose operands are no objects, and comparisons of references and with null, for which a
-- template is written where an operand is virtual.
use Rattle.std.proofs.Common.{◌≡◌, ◌==◌, ◌||◌, ℕ, ℤ, Bool, true, false, List, [], ◌∷◌, length, slice_get, Some, None, refl, sym, ap, ◌∙◌}
use Rattle.std.proofs.lemmas.Bool.{false≢true}
use Rattle.std.proofs.lemmas.Option.{none-some}
use Rattle.class_model.specs.declared.instr.Instr.{Instr}
use Rattle.class_model.specs.declared.instr.Instr.TheVariants.{If, If2, IfNull, IfSame}
use Rattle.class_model.specs.declared.opcodes.TheConstants.{IFNULL, IF_ACMPEQ}
use Rattle.flow_code.specs.declared.point.FlatInstr.TheVariants.{Of}
use Rattle.flow_code.specs.declared.point.Point.{Point}
use Rattle.machine_values.specs.Frames.{MethodState}
use Rattle.machine_values.specs.declared.value.Value.{Value}
use Rattle.machine_values.specs.declared.value.Value.TheVariants.{Int, Long, Float, Double, Null, Ref}
use Rattle.member_link.specs.Machine.Locals.{jump_of_int, jump_of_ints}
use Rattle.member_link.specs.Machine.Runs.{Run}
use Rattle.plan_flow.specs.Must.{row_of_point}
use Rattle.plan_flow.specs.PlanRows.{PlanRow, where_may_be_same, where_may_differ, where_plain}
use Rattle.plan_flow.specs.PlanScope.{PlanScope}
use Rattle.plan_flow.specs.PlanSlots.{held, is_open, is_plain}
use Rattle.plan_flow.specs.PlanTable.{falls_on, moving, operand, row_at}
use Rattle.plan_flow.specs.Written.Blocks.{is_decided, state_written}
use Rattle.plan_flow.specs.Written.Routes.{Route}
use Rattle.plan_flow.specs.Written.Templates.{is_virtual, null_template, same_template}
use Rattle.plan_flow.specs.Written.WrittenPrograms.{WrittenMethod}
use Rattle.virtual_state.specs.States.{State}
use Rattle.virtual_state.specs.declared.slot.Slot.{Slot}
use Rattle.virtual_state.specs.declared.slot.Slot.TheVariants.{Plain, Virt}
use Rattle.written_runs.specs.Inner.PlannedFrames.{scope_in}
use Rattle.written_runs.specs.Inner.Setup.{Setup}
use Rattle.written_runs.specs.Laws.Carried.JumpEdges.{many_here}
use Rattle.written_runs.specs.Laws.Carried.JumpFamilies.{int_jumps, ints_jumps, null_jumps, references_jumps}
use Rattle.written_runs.specs.Laws.Carried.JumpTurns.{jump_turn}
use Rattle.written_runs.specs.Laws.Carried.Knowing.{CarriedLaws}
use Rattle.written_runs.specs.Laws.Carried.OperandFits.{IsOfTwo, is_first, is_second, of_two, only_first, plain_read}
use Rattle.written_runs.specs.Laws.Carried.Planned.{carried_here, known_here, knowing_here, met_there, own_start}
use Rattle.written_runs.specs.Laws.Carried.Rows.{PlainRow, virtual_operand}
use Rattle.written_runs.specs.Laws.Carried.Waiting.{AtCarried}
use Rattle.written_runs.specs.Laws.Halfway.{Halfway}
use Rattle.written_runs.specs.Laws.PlannedTurns.{AtPlanned, written_at}
use Rattle.written_runs.specs.Laws.Settling.{SettleLaws}
use Rattle.written_runs.specs.Laws.Simulation.{KeepsTurn}

-- ---- operands of jumps of ints

int_on_top : (opcode : ℕ) (stack : List Value) (jump : Bool × List Value) → jump_of_int opcode stack ≡ Some jump
    → (n : ℤ) × (slice_get stack 0 ≡ Some (Int n))
int_on_top opcode (Int n ∷ rest) jump is = (n, refl)
int_on_top opcode [] jump is = absurd (none-some jump is)
int_on_top opcode (Long n ∷ rest) jump is = absurd (none-some jump is)
int_on_top opcode (Float n ∷ rest) jump is = absurd (none-some jump is)
int_on_top opcode (Double n ∷ rest) jump is = absurd (none-some jump is)
int_on_top opcode (Null ∷ rest) jump is = absurd (none-some jump is)
int_on_top opcode (Ref n ∷ rest) jump is = absurd (none-some jump is)

ints_on_top : (opcode : ℕ) (stack : List Value) (jump : Bool × List Value) → jump_of_ints opcode stack ≡ Some jump
    → (n m : ℤ) × (slice_get stack 0 ≡ Some (Int n)) × (slice_get stack 1 ≡ Some (Int m))
ints_on_top opcode (Int n ∷ Int m ∷ rest) jump is = (n, m, refl, refl)
ints_on_top opcode [] jump is = absurd (none-some jump is)
ints_on_top opcode (Int n ∷ []) jump is = absurd (none-some jump is)
ints_on_top opcode (Int n ∷ Long m ∷ rest) jump is = absurd (none-some jump is)
ints_on_top opcode (Int n ∷ Float m ∷ rest) jump is = absurd (none-some jump is)
ints_on_top opcode (Int n ∷ Double m ∷ rest) jump is = absurd (none-some jump is)
ints_on_top opcode (Int n ∷ Null ∷ rest) jump is = absurd (none-some jump is)
ints_on_top opcode (Int n ∷ Ref m ∷ rest) jump is = absurd (none-some jump is)
ints_on_top opcode (Long n ∷ rest) jump is = absurd (none-some jump is)
ints_on_top opcode (Float n ∷ rest) jump is = absurd (none-some jump is)
ints_on_top opcode (Double n ∷ rest) jump is = absurd (none-some jump is)
ints_on_top opcode (Null ∷ rest) jump is = absurd (none-some jump is)
ints_on_top opcode (Ref n ∷ rest) jump is = absurd (none-some jump is)

-- ---- operands that are compared

null_plain : (s : PlanScope) (route : Route) (slot : Slot) (site : ℕ) → null_template s route slot ≡ None → slot ≡ Virt site → ⊥
null_plain s route slot site none virtual = none-some _ (sym (ap (null_template s route) (sym virtual) ∙ none))

same_plain : (s : PlanScope) (route : Route) (one other : Slot) → same_template s route one other ≡ None → (is_virtual one ≡ false) × (is_virtual other ≡ false)
same_plain s route one other none = by (is_virtual one) refl (is_virtual other) refl where
  by : (a : Bool) → is_virtual one ≡ a → (b : Bool) → is_virtual other ≡ b → (is_virtual one ≡ false) × (is_virtual other ≡ false)
  by true is_a b is_b = let told : Some _ ≡ None = rw (is_a) at none in absurd (none-some _ (sym told))
  by false is_a true is_b = let told : Some _ ≡ None = rw (is_a, is_b) at none in absurd (none-some _ (sym told))
  by false is_a false is_b = (is_a, is_b)

no_virtual : (slot : Slot) (site : ℕ) → is_virtual slot ≡ false → slot ≡ Virt site → ⊥
no_virtual slot site not_virtual is = false≢true (sym not_virtual ∙ ap is_virtual is)

-- ---- none of these is a goto, or decided by a virtual object

undecided_if : (point : Point) (route : Route) (class opcode to : ℕ) → point.instr ≡ Of class (If opcode to) → is_decided point route ≡ false
undecided_if point route class opcode to is = rw (is) refl

undecided_two : (point : Point) (route : Route) (class opcode to : ℕ) → point.instr ≡ Of class (If2 opcode to) → is_decided point route ≡ false
undecided_two point route class opcode to is = rw (is) refl

undecided_null : (point : Point) (route : Route) (class opcode to : ℕ) → point.instr ≡ Of class (IfNull opcode to)
    → held (state_written route) (operand point.typed 0) ≡ Plain
    → is_decided point route ≡ false
undecided_null point route class opcode to is plain = rw (is) (ap is_virtual plain)

undecided_same : (point : Point) (route : Route) (class opcode to : ℕ) → point.instr ≡ Of class (IfSame opcode to)
    → is_virtual (held (state_written route) (operand point.typed 0)) ≡ false
    → is_virtual (held (state_written route) (operand point.typed 1)) ≡ false
    → is_decided point route ≡ false
undecided_same point route class opcode to is one other =
    rw (is) (ap (λ (b : Bool). b || is_virtual (held (state_written route) (operand point.typed 1))) one ∙ other)

-- ---- at an instruction

module _ (u : Setup) (laws : CarriedLaws u) {measure : ℕ} {one other : Run} (a : AtPlanned u measure one other) (class : ℕ) where
  abbrev settle : SettleLaws u
  settle = laws.turns.settle

  abbrev w : WrittenMethod
  w = a.in_planned.one

  abbrev s : PlanScope
  s = scope_in u w

  abbrev route : Route
  route = a.settled.route

  abbrev point : Point
  point = a.settled.point

  abbrev before : State
  before = state_written route

  abbrev f : MethodState
  f = a.f

  abbrev h : Halfway u one other f a.ones w (known_here u settle a) point before (own_start u w f.place route)
  h = knowing_here u settle a

  abbrev At : Instr → Type 0
  At instr = (is : a.settled.point.instr ≡ Of class instr) → written_at a class instr ≡ None → KeepsTurn u measure one other

  abbrev c : (instr : Instr) (is : a.settled.point.instr ≡ Of class instr) → written_at a class instr ≡ None
      → AtCarried u h.virtuals (known_here u settle a) h.names (length a.ones) f h.g
  c instr is none = carried_here u settle a class instr is none

  -- a number is no virtual object
  no_object : (instr : Instr) (is : a.settled.point.instr ≡ Of class instr) (none : written_at a class instr ≡ None) (number site : ℕ) {n : ℤ}
      → slice_get f.stack number ≡ Some (Int n)
      → held before (operand point.typed number) ≡ Virt site
      → ⊥
  no_object instr is none number site there virtual =
      cc (virtual_operand route number site _ h.are_known (met_there u settle a) (many_here u laws measure h (c instr is none)) there virtual).refers

  -- ---- ints

  pub if_turn : (opcode to : ℕ) → At (If opcode to)
  if_turn opcode to is none =
      jump_turn u laws measure h (c (If opcode to) is none) int_jumps If (record {
        targets_are = λ o n. refl;
        op_is = λ links number scope o n. refl;
        jumping = λ o n m. refl;
        opposite_is = λ o n. refl;
      }) opcode to refl (undecided_if point route class opcode to is) (record {
        row = moving point.typed 1 [];
        is_row = row_is;
        locals = refl;
        stack = refl;
        plain = refl;
        unchanged = refl;
        opens = refl;
        falls = ap falls_on is;
      }) (ap (λ (row : PlanRow). is_open before row.jump) row_is)
      (λ jump some number site low virtual.
      no_object (If opcode to) is none 0 site (int_on_top opcode f.stack jump some).1
      (ap (λ (n : ℕ). held before (operand point.typed n)) (sym (only_first number low)) ∙ virtual)) where
        row_is : row_of_point s f.place point ≡ moving point.typed 1 []
        row_is = ap (row_at s f.place point.typed) is

  pub if_two_turn : (opcode to : ℕ) → At (If2 opcode to)
  if_two_turn opcode to is none =
      jump_turn u laws measure h (c (If2 opcode to) is none) ints_jumps If2 (record {
        targets_are = λ o n. refl;
        op_is = λ links number scope o n. refl;
        jumping = λ o n m. refl;
        opposite_is = λ o n. refl;
      }) opcode to refl (undecided_two point route class opcode to is) (record {
        row = moving point.typed 2 [];
        is_row = row_is;
        locals = refl;
        stack = refl;
        plain = refl;
        unchanged = refl;
        opens = refl;
        falls = ap falls_on is;
      }) (ap (λ (row : PlanRow). is_open before row.jump) row_is)
      (λ jump some number site low virtual. of_operand jump some (of_two number low) site virtual) where
        row_is : row_of_point s f.place point ≡ moving point.typed 2 []
        row_is = ap (row_at s f.place point.typed) is

        of_operand : (jump : Bool × List Value) → jump_of_ints opcode f.stack ≡ Some jump → {number : ℕ} → IsOfTwo number → (site : ℕ)
            → held before (operand point.typed number) ≡ Virt site
            → ⊥
        of_operand jump some is_first site virtual = no_object (If2 opcode to) is none 0 site (ints_on_top opcode f.stack jump some).2 virtual
        of_operand jump some is_second site virtual = no_object (If2 opcode to) is none 1 site (ints_on_top opcode f.stack jump some).3 virtual

  -- ---- null

  pub if_null_turn : (opcode to : ℕ) → At (IfNull opcode to)
  if_null_turn opcode to is none =
      jump_turn u laws measure h (c (IfNull opcode to) is none) null_jumps IfNull (record {
        targets_are = λ o n. refl;
        op_is = λ links number scope o n. refl;
        jumping = λ o n m. refl;
        opposite_is = λ o n. refl;
      }) opcode to refl (undecided_null point route class opcode to is plain) (opened (opcode == IFNULL) refl).0 (opened (opcode == IFNULL) refl).1
      (λ jump some number site low virtual.
      never site (ap (λ (n : ℕ). held before (operand point.typed n)) (sym (only_first number low)) ∙ virtual)) where
        never : (site : ℕ) → held before (operand point.typed 0) ≡ Virt site → ⊥
        never site virtual = null_plain s route _ site none virtual

        plain : held before (operand point.typed 0) ≡ Plain
        plain = plain_read _ never

        opened : (b : Bool) → (opcode == IFNULL) ≡ b
            → PlainRow s f.place point before 1 [] × (is_open before (row_of_point s f.place point).jump ≡ true)
        opened true told = (
          record {
            row = record (moving point.typed 1 []) { jump = where_plain (operand point.typed 0) };
            is_row = row_is;
            locals = refl;
            stack = refl;
            plain = refl;
            unchanged = refl;
            opens = refl;
            falls = ap falls_on is;
          },
          ap (λ (row : PlanRow). is_open before row.jump) row_is ∙ ap is_plain plain,
        ) where
          row_is : row_of_point s f.place point ≡ record (moving point.typed 1 []) { jump = where_plain (operand point.typed 0) }
          row_is = ap (row_at s f.place point.typed) is ∙ rw (told) refl
        opened false told = (
          record {
            row = record (moving point.typed 1 []) { next = where_plain (operand point.typed 0) };
            is_row = row_is;
            locals = refl;
            stack = refl;
            plain = refl;
            unchanged = refl;
            opens = ap is_plain plain;
            falls = ap falls_on is;
          },
          ap (λ (row : PlanRow). is_open before row.jump) row_is,
        ) where
          row_is : row_of_point s f.place point ≡ record (moving point.typed 1 []) { next = where_plain (operand point.typed 0) }
          row_is = ap (row_at s f.place point.typed) is ∙ rw (told) refl

  -- ---- references

  pub if_same_turn : (opcode to : ℕ) → At (IfSame opcode to)
  if_same_turn opcode to is none =
      jump_turn u laws measure h (c (IfSame opcode to) is none) references_jumps IfSame (record {
        targets_are = λ o n. refl;
        op_is = λ links number scope o n. refl;
        jumping = λ o n m. refl;
        opposite_is = λ o n. refl;
      }) opcode to refl (undecided_same point route class opcode to is both.1 both.0) (opened (opcode == IF_ACMPEQ) refl).0
      (opened (opcode == IF_ACMPEQ) refl).1
      (λ jump some number site low virtual. of_operand (of_two number low) site virtual) where
        both : (is_virtual (held before (operand point.typed 1)) ≡ false) × (is_virtual (held before (operand point.typed 0)) ≡ false)
        both = same_plain s route _ _ none

        never_first : (site : ℕ) → held before (operand point.typed 0) ≡ Virt site → ⊥
        never_first site virtual = no_virtual _ site both.1 virtual

        never_second : (site : ℕ) → held before (operand point.typed 1) ≡ Virt site → ⊥
        never_second site virtual = no_virtual _ site both.0 virtual

        plain : (number : ℕ) → ((site : ℕ) → held before (operand point.typed number) ≡ Virt site → ⊥) → held before (operand point.typed number) ≡ Plain
        plain number never = plain_read _ never

        of_operand : {number : ℕ} → IsOfTwo number → (site : ℕ) → held before (operand point.typed number) ≡ Virt site → ⊥
        of_operand is_first site virtual = never_first site virtual
        of_operand is_second site virtual = never_second site virtual

        opens_same : is_open before (where_may_be_same (operand point.typed 1) (operand point.typed 0)) ≡ true
        opens_same = rw (plain 0 never_first, plain 1 never_second) refl

        opens_other : is_open before (where_may_differ (operand point.typed 1) (operand point.typed 0)) ≡ true
        opens_other = rw (plain 0 never_first, plain 1 never_second) refl

        opened : (b : Bool) → (opcode == IF_ACMPEQ) ≡ b
            → PlainRow s f.place point before 2 [] × (is_open before (row_of_point s f.place point).jump ≡ true)
        opened true told = (
          record {
            row = record (moving point.typed 2 []) {
              jump = where_may_be_same (operand point.typed 1) (operand point.typed 0);
              next = where_may_differ (operand point.typed 1) (operand point.typed 0);
            };
            is_row = row_is;
            locals = refl;
            stack = refl;
            plain = refl;
            unchanged = refl;
            opens = opens_other;
            falls = ap falls_on is;
          },
          ap (λ (row : PlanRow). is_open before row.jump) row_is ∙ opens_same,
        ) where
          row_is : row_of_point s f.place point ≡ record (moving point.typed 2 []) {
            jump = where_may_be_same (operand point.typed 1) (operand point.typed 0);
            next = where_may_differ (operand point.typed 1) (operand point.typed 0);
          }
          row_is = ap (row_at s f.place point.typed) is ∙ rw (told) refl
        opened false told = (
          record {
            row = record (moving point.typed 2 []) {
              jump = where_may_differ (operand point.typed 1) (operand point.typed 0);
              next = where_may_be_same (operand point.typed 1) (operand point.typed 0);
            };
            is_row = row_is;
            locals = refl;
            stack = refl;
            plain = refl;
            unchanged = refl;
            opens = opens_same;
            falls = ap falls_on is;
          },
          ap (λ (row : PlanRow). is_open before row.jump) row_is ∙ opens_other,
        ) where
          row_is : row_of_point s f.place point ≡ record (moving point.typed 2 []) {
            jump = where_may_differ (operand point.typed 1) (operand point.typed 0);
            next = where_may_be_same (operand point.typed 1) (operand point.typed 0);
          }
          row_is = ap (row_at s f.place point.typed) is ∙ rw (told) refl
