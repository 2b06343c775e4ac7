-- Fields, calls and returns, behind frames whose uninitialised objects have other numbers.
use Rattle.std.proofs.Common.{◌≡◌, ◌≢◌, ◌+◌, ℕ, Bool, true, false, List, [], ◌∷◌, length, map, Option, Some, None, if◌then◌else◌, refl, sym, ap, subst, ◌∙◌, inl, inr}
use Rattle.std.specs.Prelude.{◌==◌, ◌⊎◌, bytes_eq}
use Rattle.class_model.specs.Code.{verification_type}
use Rattle.class_model.specs.Descriptors.{parameters_of, type_of}
use Rattle.class_model.specs.Names.{init}
use Rattle.class_model.specs.PoolChecks.{descriptor_at}
use Rattle.class_model.specs.declared.descriptor.FieldType.{FieldType}
use Rattle.class_model.specs.declared.descriptor.Kind.{Kind}
use Rattle.class_model.specs.declared.frame.Frame.{Frame}
use Rattle.class_model.specs.declared.frame.VType.{VType}
use Rattle.class_model.specs.declared.frame.VType.TheVariants as types
use Rattle.class_model.specs.declared.opcodes.TheConstants.{INVOKESTATIC, INVOKESPECIAL}
use Rattle.class_model.specs.declared.pool.Const.{Const}
use Rattle.class_model.specs.declared.pool.Const.TheVariants as consts
use Rattle.class_tree.specs.Headers.{Name}
use Rattle.row_frames.specs.Laws.NumberedFrames.{numbered_type, numbered_frame}
use Rattle.row_frames.specs.Laws.RenumberedRows.{Moves, conditional_moves, ending_moves, no_row_moves, plain_moves}
use Rattle.row_frames.specs.Laws.RenumberedTypes.{assignable_kept, lowest_same, numbered_need, renumbered, verification_same}
use Rattle.member_link.specs.DeclaredMembers.{Declared}
use Rattle.member_link.specs.Fields.{FindsField}
use Rattle.member_link.specs.Methods.{FindsMethod}
use Rattle.member_link.specs.References.{Reference}
use Rattle.member_link.specs.RowScope.{RowScope}
use Rattle.member_link.specs.Rows.Assigning.{IsAssignableIn}
use Rattle.member_link.specs.Rows.MemberRows.{MayInitialise, MayPut, MayReturn, MayReturnValue, NoUninitThis, PassesField, PassesInitialiser, PassesMethod, PassesProtected, PassesPut, argument_needs, call_row, dynamic_row, get_field_row, get_static_row, init_row, initialised_type, instance_row, put_field_row, put_static_row, receiver, result_types, return_row, special_row, static_row}
use Rattle.member_link.specs.Rows.Operands.{Need, assignable_to, assignable_or_this, lowest_of, uninitialised}
use Rattle.member_link.specs.Rows.Row.{Row, either}
use Rattle.member_link.specs.Signatures.{field_type, result_of}

module _ (number : ℕ → ℕ) where
  -- ---- arguments and results

  params_same : (params : List FieldType)
      → map (λ param. assignable_to (verification_type param)) params ≡ map (numbered_need number)
      (map (λ param. assignable_to (verification_type param)) params)
  params_same [] = refl
  params_same (param ∷ params) =
      ap (λ (needs : List Need). assignable_to (verification_type param) ∷ needs) (params_same params)
      ∙ ap (λ (type : VType). assignable_to type ∷ map (numbered_need number)
      (map (λ other. assignable_to (verification_type other)) params)) (sym (verification_same number param))

  arguments_same : (desc : List ℕ) → argument_needs desc ≡ map (numbered_need number) (argument_needs desc)
  arguments_same desc = params_same (parameters_of desc)

  results_same : (result : Option FieldType) → result_types result ≡ map (numbered_type number) (result_types result)
  results_same None = refl
  results_same (Some type) = ap (λ (t : VType). t ∷ []) (sym (verification_same number type))

  field_same : (desc : List ℕ) → field_type desc ≡ numbered_type number (field_type desc)
  field_same desc = sym (verification_same number (type_of desc))

  receiver_same : (f : Frame) (desc : List ℕ) → receiver (numbered_frame number f) desc ≡ numbered_type number (receiver f desc)
  receiver_same f desc = lowest_same number (length (parameters_of desc) + 1) f.stack

  -- ---- fields

  pub get_static_moves : (f : Frame) (reference : Option Reference)
      → Moves number (get_static_row f reference) (get_static_row (numbered_frame number f) reference)
  get_static_moves f None = no_row_moves number f
  get_static_moves f (Some r) = plain_moves number f _ _ _ _ refl (ap (λ (type : VType). type ∷ []) (field_same r.desc))

  pub put_static_moves : (f : Frame) (reference : Option Reference)
      → Moves number (put_static_row f reference) (put_static_row (numbered_frame number f) reference)
  put_static_moves f None = no_row_moves number f
  put_static_moves f (Some r) = plain_moves number f _ _ _ _ (ap (λ (type : VType). assignable_to type ∷ []) (field_same r.desc)) refl

  module _ (s : RowScope) (room : ℕ) (news : ℕ → Option Name) where
    -- ---- access to protected members

    protected_kept : (r : Reference) (Finds : Option Declared → Type 0) (receiver : VType) → PassesProtected s r Finds receiver
        → PassesProtected (renumbered s room news) r Finds (numbered_type number receiver)
    protected_kept r Finds (types.Uninit at) passes =
        λ member found is_protected apart below. by (passes member found is_protected apart below) where
          by : IsAssignableIn s.headers s.major (types.Uninit at) (types.Object s.own.name) ⊎ ⊥
              → IsAssignableIn s.headers s.major (types.Uninit (number at)) (types.Object s.own.name) ⊎ ⊥
          by (inl may) = inl (assignable_kept number s.headers may)
          by (inr never) = absurd never
    protected_kept r Finds other passes = passes

    field_kept : (r : Reference) (receiver : VType) → PassesField s r receiver
        → PassesField (renumbered s room news) r (numbered_type number receiver)
    field_kept r receiver passes = protected_kept r (FindsField s.headers r.class r.name r.desc) receiver passes

    method_kept : (r : Reference) (receiver : VType) → PassesMethod s r receiver
        → PassesMethod (renumbered s room news) r (numbered_type number receiver)
    method_kept r receiver passes = protected_kept r (FindsMethod s.headers r.class r.name r.desc) receiver passes

    put_kept : (r : Reference) (receiver : VType) → PassesPut s r receiver
        → PassesPut (renumbered s room news) r (numbered_type number receiver)
    put_kept r (types.Uninit at) passes = field_kept r (types.Uninit at) passes
    put_kept r types.UninitThis passes = passes
    put_kept r (types.Object name) passes = field_kept r (types.Object name) passes
    put_kept r other passes = field_kept r other passes

    initialiser_kept : (r : Reference) (object : VType) → PassesInitialiser s r object
        → PassesInitialiser (renumbered s room news) r (numbered_type number object)
    initialiser_kept r (types.Uninit at) passes = passes
    initialiser_kept r other passes = passes

    -- ---- fields of objects

    pub get_field_moves : (f : Frame) (reference : Option Reference)
        → Moves number (get_field_row s f reference) (get_field_row (renumbered s room news) (numbered_frame number f) reference)
    get_field_moves f None = no_row_moves number f
    get_field_moves f (Some r) =
        conditional_moves number f _ _ _ _ _ _ _ _ refl (ap (λ (type : VType). type ∷ []) (field_same r.desc)) (λ held. held)
        (λ passes. subst (PassesField (renumbered s room news) r) (sym (lowest_same number 1 f.stack)) (field_kept r (lowest_of 1 f.stack) passes))

    may_put : (r : Reference) (type : VType) → MayPut s r type → MayPut (renumbered s room news) r (numbered_type number type)
    may_put r (types.Uninit at) may = may
    may_put r other may = may

    pub put_field_moves : (f : Frame) (reference : Option Reference)
        → Moves number (put_field_row s f reference) (put_field_row (renumbered s room news) (numbered_frame number f) reference)
    put_field_moves f None = no_row_moves number f
    put_field_moves f (Some r) = conditional_moves number f _ _ _ _ _ _ _ _
        (ap (λ (type : VType). assignable_or_this (types.Object r.class) ∷ assignable_to type ∷ []) (field_same r.desc)) refl
        (λ may. subst (MayPut (renumbered s room news) r) (sym (lowest_same number 2 f.stack)) (may_put r (lowest_of 2 f.stack) may))
        (λ passes. subst (PassesPut (renumbered s room news) r) (sym (lowest_same number 2 f.stack)) (put_kept r (lowest_of 2 f.stack) passes))

    -- ---- calls

    instance_moves : (f : Frame) (r : Reference) (Further Also Access Asked : Type 0) → (Further → Also) → (Access → Asked)
        → Moves number (instance_row f r Further Access) (instance_row (numbered_frame number f) r Also Asked)
    instance_moves f r Further Also Access Asked also asked = conditional_moves number f _ _ _ _ _ _ _ _
        (ap (λ (needs : List Need). assignable_to (types.Object r.class) ∷ needs) (arguments_same r.desc))
        (results_same (result_of r.desc)) also asked

    static_moves : (f : Frame) (r : Reference) → Moves number (static_row f r) (static_row (numbered_frame number f) r)
    static_moves f r = plain_moves number f _ _ _ _ (arguments_same r.desc) (results_same (result_of r.desc))

    special_moves : (f : Frame) (r : Reference)
        → Moves number (special_row s f r) (special_row (renumbered s room news) (numbered_frame number f) r)
    special_moves f r = instance_moves f r _ _ _ _ (λ held. (
      held.0,
      subst (λ (type : VType). IsAssignableIn s.headers s.major type (types.Object s.own.name)) (sym (receiver_same f r.desc))
          (assignable_kept number s.headers held.1),
    )) (λ held. held)

    pub dynamic_moves : (f : Frame) (constant : Option Const)
        → Moves number (dynamic_row s f constant) (dynamic_row (renumbered s room news) (numbered_frame number f) constant)
    dynamic_moves f None = no_row_moves number f
    dynamic_moves f (Some (consts.InvokeDynamic bootstrap member)) = by (descriptor_at s.pool member) refl where
      by : (desc : Option (List ℕ)) → descriptor_at s.pool member ≡ desc
          → Moves number (dynamic_row s f (Some (consts.InvokeDynamic bootstrap member)))
          (dynamic_row (renumbered s room news) (numbered_frame number f) (Some (consts.InvokeDynamic bootstrap member)))
      by None is = rw is (no_row_moves number f)
      by (Some desc) is = rw is (plain_moves number f _ _ _ _ (arguments_same desc) (results_same (result_of desc)))
    dynamic_moves f (Some other) = no_row_moves number f

    -- ---- returns

    no_this_kept : (entries : List VType) → NoUninitThis entries → NoUninitThis (map (numbered_type number) entries)
    no_this_kept [] none = tt
    no_this_kept (entry ∷ entries) none = (apart entry none.0, no_this_kept entries none.1) where
      apart : (type : VType) → type ≢ types.UninitThis → numbered_type number type ≢ types.UninitThis
      apart (types.Uninit at) not = λ e. absurd cc
      apart other not = not

    may_return : (f : Frame) → MayReturn s f → MayReturn (renumbered s room news) (numbered_frame number f)
    may_return f may = record {
      no_result = may.no_result;
      initialised = λ is_init. (no_this_kept f.locals (may.initialised is_init).0, no_this_kept f.stack (may.initialised is_init).1);
    }

    may_return_value : (kind : Kind) (value : VType) → MayReturnValue s kind value
        → MayReturnValue (renumbered s room news) kind (numbered_type number value)
    may_return_value kind value may = record {
      type = may.type;
      is_result = may.is_result;
      same_kind = may.same_kind;
      assignable =
          λ is_ref. subst (λ (type : VType). IsAssignableIn s.headers s.major (numbered_type number value) type)
          (verification_same number may.type) (assignable_kept number s.headers (may.assignable is_ref));
    }

    pub return_moves : (f : Frame) (kind : Option Kind)
        → Moves number (return_row s f kind) (return_row (renumbered s room news) (numbered_frame number f) kind)
    return_moves f None = ending_moves number f _ _ _ _ refl (may_return f)
    return_moves f (Some kind) = ending_moves number f _ _ _ _ refl
        (λ may. subst (MayReturnValue (renumbered s room news) kind) (sym (lowest_same number 1 f.stack))
        (may_return_value kind (lowest_of 1 f.stack) may))

    -- ---- instance initialisers

    -- no other object has the number of one that a new makes, and a new keeps its class
    pub record KeepsNews : Type 0 where
      pub apart : (at : ℕ) (class : Name) → s.new_class at ≡ Some class → (other : ℕ) → (number other == number at) ≡ (other == at)
      pub class_kept : (at : ℕ) (class : Name) → s.new_class at ≡ Some class → news (number at) ≡ Some class

    module _ (keeps : KeepsNews) where
      may_initialise : (r : Reference) (object : VType) → MayInitialise s r object
          → MayInitialise (renumbered s room news) r (numbered_type number object)
      may_initialise r (types.Uninit at) may = keeps.class_kept at r.class may
      may_initialise r types.UninitThis may = may
      may_initialise r other may = absurd may

      of_object_same : (r : Reference) (at : ℕ) (type : VType) → s.new_class at ≡ Some r.class
          → initialised_type (renumbered s room news) r (types.Uninit (number at)) (numbered_type number type) ≡ numbered_type number
          (initialised_type s r (types.Uninit at) type)
      of_object_same r at (types.Uninit other) is =
          ap (λ (same : Bool). if same then types.Object r.class else types.Uninit (number other)) (keeps.apart at r.class is other)
          ∙ chosen (other == at)
        where
          chosen : (same : Bool)
              → (if same then types.Object r.class else types.Uninit (number other)) ≡ numbered_type number
              (if same then types.Object r.class else types.Uninit other)
          chosen true = refl
          chosen false = refl
      of_object_same r at other is = refl

      of_this_same : (r : Reference) (type : VType)
          → initialised_type (renumbered s room news) r types.UninitThis (numbered_type number type) ≡ numbered_type number
          (initialised_type s r types.UninitThis type)
      of_this_same r (types.Uninit other) = refl
      of_this_same r other = refl

      type_same : (r : Reference) (object : VType) → MayInitialise s r object → (type : VType)
          → initialised_type (renumbered s room news) r (numbered_type number object) (numbered_type number type) ≡ numbered_type number
          (initialised_type s r object type)
      type_same r (types.Uninit at) may type = of_object_same r at type may
      type_same r types.UninitThis may type = of_this_same r type
      type_same r other may type = absurd may

      entries_same : (r : Reference) (object : VType) → MayInitialise s r object → (entries : List VType)
          → map (initialised_type (renumbered s room news) r (numbered_type number object)) (map (numbered_type number) entries) ≡ map
          (numbered_type number) (map (initialised_type s r object) entries)
      entries_same r object may [] = refl
      entries_same r object may (entry ∷ entries) = rw (type_same r object may entry, entries_same r object may entries) refl

      init_moves : (f : Frame) (r : Reference) → MayInitialise s r (receiver f r.desc)
          → Moves number (init_row s f r) (init_row (renumbered s room news) (numbered_frame number f) r)
      init_moves f r may = record {
        takes = ap (λ (needs : List Need). uninitialised ∷ needs) (arguments_same r.desc);
        local = λ held. held;
        gives = results_same (result_of r.desc);
        further =
            λ held. subst (MayInitialise (renumbered s room news) r) (sym (receiver_same f r.desc))
            (may_initialise r (receiver f r.desc) held);
        access =
            λ passes. subst (PassesInitialiser (renumbered s room news) r) (sym (receiver_same f r.desc))
            (initialiser_kept r (receiver f r.desc) passes);
        locals = becoming f.locals;
        becomes = becoming;
        goes_on = refl;
        ends = inl refl;
      } where
        becoming : (entries : List VType)
            → map (initialised_type (renumbered s room news) r (receiver (numbered_frame number f) r.desc))
            (map (numbered_type number) entries) ≡ map (numbered_type number) (map (initialised_type s r (receiver f r.desc)) entries)
        becoming entries =
            ap (λ (object : VType). map (initialised_type (renumbered s room news) r object) (map (numbered_type number) entries))
            (receiver_same f r.desc) ∙ entries_same r (receiver f r.desc) may entries

      abbrev call_by : RowScope → Frame → Reference → Bool → Bool → Bool → Row
      call_by t f r is_static is_special is_init =
          either is_static (static_row f r)
          (either is_special (either is_init (init_row t f r) (special_row t f r))
          (instance_row f r (Unit {0}) (PassesMethod t r (receiver f r.desc))))

      call_by_moves : (f : Frame) (r : Reference) (is_static is_special is_init : Bool)
          → (call_by s f r is_static is_special is_init).further
          → Moves number (call_by s f r is_static is_special is_init)
          (call_by (renumbered s room news) (numbered_frame number f) r is_static is_special is_init)
      call_by_moves f r true is_special is_init held = static_moves f r
      call_by_moves f r false true true held = init_moves f r held
      call_by_moves f r false true false held = special_moves f r
      call_by_moves f r false false is_init held = instance_moves f r _ _ _ _ (λ also. also)
          (λ passes. subst (PassesMethod (renumbered s room news) r) (sym (receiver_same f r.desc))
          (method_kept r (receiver f r.desc) passes))

      pub call_moves : (f : Frame) (opcode : ℕ) (reference : Option Reference) → (call_row s f opcode reference).further
          → Moves number (call_row s f opcode reference) (call_row (renumbered s room news) (numbered_frame number f) opcode reference)
      call_moves f opcode None held = no_row_moves number f
      call_moves f opcode (Some r) held = call_by_moves f r (opcode == INVOKESTATIC) (opcode == INVOKESPECIAL) (bytes_eq r.name init) held
