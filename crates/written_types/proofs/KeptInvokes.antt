-- Rows of calls that are written as they are, by opcode and by what the constant refers to.
use Rattle.std.proofs.Common.{◌≡◌, ◌+◌, ◌-◌, ◌<◌, ℕ, suc, Bool, true, false, List, [], ◌++◌, length, Option, Some, None, if◌then◌else◌, refl, sym, ap, subst, ◌∙◌, arith}
use Rattle.std.specs.Prelude.{◌==◌, ◌&&◌, ◌||◌, bytes_eq}
use Rattle.std.proofs.lemmas.Bool.{and_parts}
use Rattle.std.proofs.lemmas.Option.{none-some}
use Rattle.class_model.specs.Descriptors.{parameters_of}
use Rattle.class_model.specs.Names.{init}
use Rattle.class_model.specs.PoolChecks.{descriptor_at}
use Rattle.class_model.specs.declared.descriptor.FieldType.{FieldType}
use Rattle.class_model.specs.declared.frame.Frame.{Frame}
use Rattle.class_model.specs.declared.frame.VType.{VType}
use Rattle.class_model.specs.declared.opcodes.TheConstants.{INVOKESPECIAL, INVOKESTATIC}
use Rattle.class_model.specs.declared.pool.Const.{Const as Constant}
use Rattle.class_model.specs.declared.pool.Const.TheVariants as consts
use Rattle.class_tree.specs.Names.{object}
use Rattle.flow_code.specs.ReadTypes.{is_site_object, read_frame}
use Rattle.member_link.specs.Machine.CallSteps.{is_object_init}
use Rattle.member_link.specs.References.{Reference}
use Rattle.member_link.specs.RowScope.{RowScope}
use Rattle.member_link.specs.Rows.MemberRows.{argument_needs, call_row, dynamic_row, receiver, result_types}
use Rattle.member_link.specs.Rows.Readings.{reads_itself, reads_pop, row_by}
use Rattle.member_link.specs.Rows.Row.{Row, access_aside, plain}
use Rattle.member_link.specs.Signatures.{result_of}
use Rattle.plan_flow.specs.PlanRows.{PlanRow}
use Rattle.plan_flow.specs.PlanSlots.{held}
use Rattle.plan_flow.specs.PlanTable.{call_row as plan_call, calling, dynamic_row as plan_dynamic, held_from, moving, operand, receivers, result_given}
use Rattle.plan_flow.specs.Written.Templates.{init_template, is_virtual}
use Rattle.same_runs.specs.TypedFlats.{reading_of_call}
use Rattle.virtual_state.specs.States.{State}
use Rattle.written_types.proofs.CallRows.{IsObjectInit}
use Rattle.written_types.proofs.ChangedTypes.{NewsStand}
use Rattle.written_types.proofs.KeptCalls.{Calls, dynamic_called, flat_scope, init_kept, instance_kept, special_kept, static_kept}
use Rattle.written_types.proofs.NamedConstants.{dynamic_desc}
use Rattle.written_types.proofs.OperandRows.{Fit, no_operand}
use Rattle.written_types.proofs.PlainOperands.{IsNone, NoneAsked, handed_none}
use Rattle.written_types.proofs.SiteFields.{SitesKnown}
use Rattle.written_types.proofs.StandingFrames.{RowFollows, Stands}
use Rattle.written_types.specs.Writing.{Writing, scope_in}

-- a row in the flat code whose access is not asked
pub without_access : {w : Writing} {before : State} {rest : List VType} {f g : Frame} {p : PlanRow} {row written : Row}
    → RowFollows w before rest f g p row written
    → RowFollows w before rest f g p (access_aside row) written
without_access r = record { fits = r.fits; operands = r.operands; goes = r.goes; unchanged = r.unchanged; follows = r.follows }

-- ---- tests

if_none : {A : Type 0} (b : Bool) (one : A) → (if b then Some one else None) ≡ None → b ≡ false
if_none true one is = absurd (none-some one (sym is))
if_none false one is = refl

one_less : (a b c d : Bool) → (a && b && (c || d)) ≡ false → (a && b && d) ≡ false
one_less true true true d is = absurd (cc is)
one_less true true false d is = is
one_less true false c d is = refl
one_less false b c d is = refl

module _ (w : Writing) (reached : ℕ → Bool) (f : Frame) (before : State) (rest : List VType) (g : Frame) (st : Stands w reached f before rest g)
    (known : SitesKnown w.s) (class : ℕ) where
  abbrev rf : Frame
  rf = read_frame w.s.flat f

  abbrev sc : RowScope
  sc = flat_scope w class

  abbrev Follow : PlanRow → Row → Row → Type 0
  Follow p row written = RowFollows w before rest f g p row written

  -- a call with a result
  calls_of : (count : ℕ) (desc : List ℕ) → Calls w reached f before rest g st known class (calling f count desc) count desc
  calls_of count desc = record { still = refl; locals_are = refl; stack_is = refl }

  other_kept : NewsStand w reached → (opcode : ℕ) (r : Reference)
      → NoneAsked w.s before (calling f (length (parameters_of r.desc) + receivers opcode) r.desc)
      → Fit sc rf (call_row sc rf opcode (Some r))
      → (call_row sc rf opcode (Some r)).further
      → Follow (calling f (length (parameters_of r.desc) + receivers opcode) r.desc) (call_row sc rf opcode (Some r)) (call_row (scope_in w) g opcode (Some r))
  other_kept news opcode r asked fit further =
      by (opcode == INVOKESTATIC) (opcode == INVOKESPECIAL) (bytes_eq r.name init) refl refl refl where
        none : (k : ℕ) → k < length (parameters_of r.desc) + receivers opcode → IsNone before (operand f k)
        none =
            handed_none w.s before f (calling f (length (parameters_of r.desc) + receivers opcode) r.desc) (length (parameters_of r.desc) + receivers opcode)
            refl asked

        static_count : (opcode == INVOKESTATIC) ≡ true → length (parameters_of r.desc) + receivers opcode ≡ length (parameters_of r.desc)
        static_count one = let no : receivers opcode ≡ 0 = rw one refl in omega (arith, no)

        object_count : (opcode == INVOKESTATIC) ≡ false → length (parameters_of r.desc) + receivers opcode ≡ suc (length (parameters_of r.desc))
        object_count one = let single : receivers opcode ≡ 1 = rw one refl in omega (arith, single)

        counted : (n : ℕ) → length (parameters_of r.desc) + receivers opcode ≡ n
            → Follow (calling f n r.desc) (call_row sc rf opcode (Some r)) (call_row (scope_in w) g opcode (Some r))
            → Follow (calling f (length (parameters_of r.desc) + receivers opcode) r.desc) (call_row sc rf opcode (Some r))
            (call_row (scope_in w) g opcode (Some r))
        counted n is goes =
            subst (λ (m : ℕ). Follow (calling f m r.desc) (call_row sc rf opcode (Some r)) (call_row (scope_in w) g opcode (Some r))) (sym is) goes

        by : (static special initialises : Bool) → (opcode == INVOKESTATIC) ≡ static → (opcode == INVOKESPECIAL) ≡ special
            → bytes_eq r.name init ≡ initialises
            → Follow (calling f (length (parameters_of r.desc) + receivers opcode) r.desc) (call_row sc rf opcode (Some r))
            (call_row (scope_in w) g opcode (Some r))
        by true special initialises one two three =
            let n = static_count one in
            counted (length (parameters_of r.desc)) n
            (rw one
            (static_kept w reached f before rest g st known class (calling f (length (parameters_of r.desc)) r.desc) r
            (calls_of (length (parameters_of r.desc)) r.desc) (λ k less. none k (omega (arith, less, n))) (rw one at fit)))
        by false true true one two three =
            let n = object_count one in
            counted (suc (length (parameters_of r.desc))) n
            (rw (one, two, three)
            (init_kept w reached f before rest g st known class news (calling f (suc (length (parameters_of r.desc))) r.desc) r
            (calls_of (suc (length (parameters_of r.desc))) r.desc) (λ k less. none k (omega (arith, less, n))) (rw (one, two, three) at fit)
            (rw (one, two, three) at further)))
        by false true false one two three =
            let n = object_count one in
            counted (suc (length (parameters_of r.desc))) n
            (rw (one, two, three)
            (special_kept w reached f before rest g st known class (calling f (suc (length (parameters_of r.desc))) r.desc) r
            (calls_of (suc (length (parameters_of r.desc))) r.desc) (λ k less. none k (omega (arith, less, n))) (rw (one, two, three) at fit)
            (rw (one, two, three) at further)))
        by false false initialises one two three =
            let n = object_count one in
            counted (suc (length (parameters_of r.desc))) n
            (rw (one, two)
            (instance_kept w reached f before rest g st known class (calling f (suc (length (parameters_of r.desc))) r.desc) r
            (calls_of (suc (length (parameters_of r.desc))) r.desc) (λ k less. none k (omega (arith, less, n))) (rw (one, two) at fit)))

  -- the initialiser of java/lang/Object takes its object alone
  object_init_kept : NewsStand w reached → (opcode : ℕ) (r : Reference) → IsObjectInit opcode r → bytes_eq r.name init ≡ true
      → Fit sc rf (call_row sc rf opcode (Some r))
      → (call_row sc rf opcode (Some r)).further
      → Follow (moving f 1 []) (call_row sc rf opcode (Some r)) (call_row (scope_in w) g opcode (Some r))
  object_init_kept news opcode r is named fit further =
      let no_static : (opcode == INVOKESTATIC) ≡ false = ap (λ (n : ℕ). n == INVOKESTATIC) is.special in
      let special : (opcode == INVOKESPECIAL) ≡ true = ap (λ (n : ℕ). n == INVOKESPECIAL) is.special in
      rw (no_static, special, named)
      (init_kept w reached f before rest g st known class news (moving f 1 []) r
      (record {
        still = refl;
        locals_are = refl;
        stack_is =
            sym (ap (λ (result : Option FieldType). held_from (length f.locals) (length f.stack - suc (length (parameters_of r.desc))) ++ result_given result)
            is.no_result
            ∙ ap (λ (all : List FieldType). held_from (length f.locals) (length f.stack - suc (length all)) ++ []) is.no_parameters);
      }) (λ k less. let none : length (parameters_of r.desc) ≡ 0 = ap length is.no_parameters in absurd (omega (arith, less, none)))
      (rw (no_static, special, named) at fit) (rw (no_static, special, named) at further))

  -- a call that is read as it is
  itself_kept : NewsStand w reached → (opcode : ℕ) (r : Reference) → (is_object_init r ≡ true → IsObjectInit opcode r)
      → NoneAsked w.s before (plan_call f opcode (Some r))
      → Fit sc rf (call_row sc rf opcode (Some r))
      → (call_row sc rf opcode (Some r)).further
      → Follow (plan_call f opcode (Some r)) (call_row sc rf opcode (Some r)) (call_row (scope_in w) g opcode (Some r))
  itself_kept news opcode r inits asked fit further = by (is_object_init r) refl where
    row_is : (b : Bool) → is_object_init r ≡ b
        → plan_call f opcode (Some r) ≡ (if b then moving f 1 [] else calling f (length (parameters_of r.desc) + receivers opcode) r.desc)
    row_is b is = ap (λ (b : Bool). if b then moving f 1 [] else calling f (length (parameters_of r.desc) + receivers opcode) r.desc) is

    by : (b : Bool) → is_object_init r ≡ b
        → Follow (plan_call f opcode (Some r)) (call_row sc rf opcode (Some r)) (call_row (scope_in w) g opcode (Some r))
    by true is =
        let named = and_parts (bytes_eq r.class object) (bytes_eq r.name init) is in
        subst (λ (p : PlanRow). Follow p (call_row sc rf opcode (Some r)) (call_row (scope_in w) g opcode (Some r))) (sym (row_is true is))
        (object_init_kept news opcode r (inits is) named.1 fit further)
    by false is =
        subst (λ (p : PlanRow). Follow p (call_row sc rf opcode (Some r)) (call_row (scope_in w) g opcode (Some r))) (sym (row_is false is))
        (other_kept news opcode r (subst (NoneAsked w.s before) (row_is false is) asked) fit further)

  pub reads_as_it_is : (opcode : ℕ) (r : Reference) → init_template w.s f before (opcode == INVOKESPECIAL) (Some r) ≡ None
      → reading_of_call w.s.flat f opcode (Some r) ≡ reads_itself
  reads_as_it_is opcode r none =
      let test = one_less (opcode == INVOKESPECIAL) (is_object_init r) (is_virtual (held before (operand f (length (parameters_of r.desc)))))
      (is_site_object w.s.flat (receiver f r.desc))
      (if_none (opcode == INVOKESPECIAL && is_object_init r
      && (is_virtual (held before (operand f (length (parameters_of r.desc)))) || is_site_object w.s.flat (receiver f r.desc))) _ none) in
      ap (λ (b : Bool). if b then reads_pop r.desc else reads_itself) test

  pub call_kept : NewsStand w reached → (opcode : ℕ) (found other : Option Reference) → ((r : Reference) → found ≡ Some r → other ≡ Some r)
      → ((r : Reference) → found ≡ Some r → is_object_init r ≡ true → IsObjectInit opcode r)
      → init_template w.s f before (opcode == INVOKESPECIAL) found ≡ None
      → NoneAsked w.s before (plan_call f opcode found)
      → Fit sc rf (row_by (reading_of_call w.s.flat f opcode found) rf (call_row sc rf opcode found))
      → (row_by (reading_of_call w.s.flat f opcode found) rf (call_row sc rf opcode found)).further
      → Follow (plan_call f opcode found) (row_by (reading_of_call w.s.flat f opcode found) rf (call_row sc rf opcode found))
      (call_row (scope_in w) g opcode other)
  call_kept news opcode None other keeps inits none asked fit further = absurd (no_operand sc rf fit)
  call_kept news opcode (Some r) other keeps inits none asked fit further =
      let reads = reads_as_it_is opcode r none in
      rw (reads, keeps r refl)
      (without_access (itself_kept news opcode r (inits r refl) asked (rw reads at fit) (rw reads at further)))

  -- ---- invokedynamic

  pub dynamic_kept : (one other : Option Constant) → ((desc : List ℕ) → dynamic_desc sc.pool one ≡ Some desc → dynamic_desc w.pool other ≡ Some desc)
      → NoneAsked w.s before (plan_dynamic sc.pool f one)
      → Fit sc rf (dynamic_row sc rf one)
      → Follow (plan_dynamic sc.pool f one) (dynamic_row sc rf one) (dynamic_row (scope_in w) g other)
  dynamic_kept None other keeps asked fit = absurd (no_operand sc rf fit)
  dynamic_kept (Some (consts.InvokeDynamic bootstrap member)) other keeps asked fit = by (descriptor_at sc.pool member) refl where
    written : (desc : List ℕ) (found : Option Constant) → dynamic_desc w.pool found ≡ Some desc
        → dynamic_row (scope_in w) g found ≡ plain g (argument_needs desc) (result_types (result_of desc))
    written desc (Some (consts.InvokeDynamic bootstraps name)) is = rw is refl
    written desc None is = absurd (none-some desc is)
    written desc (Some (consts.Utf8 text)) is = absurd (none-some desc is)
    written desc (Some (consts.Integer number)) is = absurd (none-some desc is)
    written desc (Some (consts.Float bits)) is = absurd (none-some desc is)
    written desc (Some (consts.Long number)) is = absurd (none-some desc is)
    written desc (Some (consts.Double bits)) is = absurd (none-some desc is)
    written desc (Some (consts.Class name)) is = absurd (none-some desc is)
    written desc (Some (consts.String text)) is = absurd (none-some desc is)
    written desc (Some (consts.Fieldref of_class name)) is = absurd (none-some desc is)
    written desc (Some (consts.Methodref of_class name)) is = absurd (none-some desc is)
    written desc (Some (consts.InterfaceMethodref of_class name)) is = absurd (none-some desc is)
    written desc (Some (consts.NameAndType name type)) is = absurd (none-some desc is)
    written desc (Some (consts.MethodHandle kind reference)) is = absurd (none-some desc is)
    written desc (Some (consts.MethodType type)) is = absurd (none-some desc is)

    by : (found : Option (List ℕ)) → descriptor_at sc.pool member ≡ found
        → Follow (plan_dynamic sc.pool f (Some (consts.InvokeDynamic bootstrap member))) (dynamic_row sc rf (Some (consts.InvokeDynamic bootstrap member)))
        (dynamic_row (scope_in w) g other)
    by None none = absurd (no_operand sc rf (rw none at fit))
    by (Some desc) some =
        rw (some, written desc other (keeps desc some))
        (dynamic_called w reached f before rest g st known class (calling f (length (parameters_of desc)) desc) desc
        (calls_of (length (parameters_of desc)) desc)
        (handed_none w.s before f (calling f (length (parameters_of desc)) desc) (length (parameters_of desc)) refl (rw some at asked)) (rw some at fit))
  dynamic_kept (Some other_constant) other keeps asked fit = absurd (no_operand sc rf fit)
