-- Calls in their place in flat code, those of instance initialisers among them: these initialise no object of a candidate site.
use Rattle.std.proofs.Common.{◌≡◌, ◌≢◌, ◌+◌, ℕ, suc, Bool, true, false, List, [], ◌∷◌, ◌++◌, length, map, Option, Some, None, if◌then◌else◌, refl, sym, ap, subst, ◌∙◌, inl}
use Rattle.std.specs.Prelude.{◌==◌, bytes_eq}
use Rattle.std.proofs.lemmas.Bool.{eqb-true, ne_eqb}
use Rattle.std.proofs.lemmas.List.{map-append}
use Rattle.class_model.specs.Descriptors.{parameters_of}
use Rattle.class_model.specs.Names.{init}
use Rattle.class_model.specs.declared.frame.Frame.{Frame}
use Rattle.class_model.specs.declared.frame.VType.{VType}
use Rattle.class_model.specs.declared.frame.VType.TheVariants as types
use Rattle.class_model.specs.declared.header.Header.{Header}
use Rattle.class_model.specs.declared.opcodes.TheConstants.{INVOKESTATIC, INVOKESPECIAL}
use Rattle.class_tree.specs.Headers.{Name}
use Rattle.expanded_code.specs.Expanded.{overlaid}
use Rattle.expanded_runs.proofs.Types.Blocks.{map_block}
use Rattle.expanded_runs.proofs.Types.PlacedMembers.{HasThis, IsNoSite, IsWithout, KeepsNews, SameMethod, arguments_kept, instance_moves, no_this, of_method, of_none, of_site, receiver_same, results_same, special_moves, static_moves, with_receiver}
use Rattle.expanded_runs.proofs.Types.PlacedRows.{HasOperands, Moves, no_row_moves}
use Rattle.expanded_runs.proofs.Types.PlacedTypes.{Place, all_fit_kept, flat_scope, new_type, placed_frame, placed_locals, placed_stack, placed_type, this_type}
use Rattle.member_link.specs.References.{Reference}
use Rattle.member_link.specs.RowScope.{RowScope}
use Rattle.member_link.specs.Rows.MemberRows.{MayInitialise, PassesMethod, argument_needs, call_row, init_row, initialised_type, instance_row, receiver, special_row, static_row}
use Rattle.member_link.specs.Rows.Operands.{AllFit, IsUninitialised, lowest_of, topmost, uninitialised}
use Rattle.member_link.specs.Rows.Row.{Row, either}
use Rattle.member_link.specs.Signatures.{result_of}

-- ---- an object among types

-- what becomes of the types where an object does not stand
pub same_without : (change : VType → VType) (object : VType) → ((type : VType) → type ≢ object → change type ≡ type)
    → (entries : List VType) → IsWithout object entries → map change entries ≡ entries
same_without change object same [] none = refl
same_without change object same (entry ∷ entries) none =
    rw (same entry none.0, same_without change object same entries none.1) refl

-- of a map that does to placed types what another one did to them before, and that leaves those below
pub map_placed : (p : Place) (before after : VType → VType)
    → ((type : VType) → after (placed_type p type) ≡ placed_type p (before type))
    → (entries : List VType) → map after (map (placed_type p) entries) ≡ map (placed_type p) (map before entries)
map_placed p before after same [] = refl
map_placed p before after same (entry ∷ entries) = rw (same entry, map_placed p before after same entries) refl

pub map_locals : (p : Place) (before after : VType → VType)
    → ((type : VType) → after (placed_type p type) ≡ placed_type p (before type)) → map after p.below.locals ≡ p.below.locals
    → (own : List VType) → map after (placed_locals p own) ≡ placed_locals p (map before own)
map_locals p before after same below own =
    map_block after p.unit (map (placed_type p) own) p.below.locals
    ∙ ap (λ (units : List VType). overlaid p.unit (map after (map (placed_type p) own)) units) below
    ∙ ap (λ (units : List VType). overlaid p.unit units p.below.locals) (map_placed p before after same own)

pub map_stack : (p : Place) (before after : VType → VType)
    → ((type : VType) → after (placed_type p type) ≡ placed_type p (before type)) → map after p.below.stack ≡ p.below.stack
    → (own : List VType) → map after (placed_stack p own) ≡ placed_stack p (map before own)
map_stack p before after same below own =
    map-append after p.below.stack (map (placed_type p) own)
    ∙ ap (λ (entries : List VType). entries ++ map after (map (placed_type p) own)) below
    ∙ ap (λ (entries : List VType). p.below.stack ++ entries) (map_placed p before after same own)

module _ (p : Place) (f : Frame) where
  -- ---- an initialiser's object

  module _ (keeps : KeepsNews p) (r : Reference) (at : ℕ) (is_new : p.scope.new_class at ≡ Some r.class)
      (no_site : p.site (p.number at) ≡ None) where
    abbrev change : VType → VType
    change = initialised_type p.scope r (types.Uninit at)

    abbrev change_also : VType → VType
    change_also = initialised_type (flat_scope p) r (types.Uninit (p.number at))

    -- an object of another number
    other_same : (other : ℕ) → (b : Bool) → (other == at) ≡ b → (site : Option Name) → p.site (p.number other) ≡ site
        → change_also (new_type site (p.number other)) ≡ placed_type p (if b then types.Object r.class else types.Uninit other)
    other_same other true here None is =
        ap (λ (b : Bool). if b then types.Object r.class else types.Uninit (p.number other))
        (keeps.apart at r.class is_new other ∙ here)
    other_same other false here None is =
        ap (λ (b : Bool). if b then types.Object r.class else types.Uninit (p.number other))
        (keeps.apart at r.class is_new other ∙ here)
        ∙ sym (ap (λ (site : Option Name). new_type site (p.number other)) is)
    other_same other true here (Some class) is =
        let same : other ≡ at = eqb-true other at here in
        let none : p.site (p.number other) ≡ None = subst (λ (n : ℕ). p.site (p.number n) ≡ None) (sym same) no_site in
        absurd cc
    other_same other false here (Some class) is = sym (ap (λ (site : Option Name). new_type site (p.number other)) is)

    this_same : (this : Option Name) → change_also (this_type this) ≡ this_type this
    this_same None = refl
    this_same (Some class) = refl

    object_same : (type : VType) → change_also (placed_type p type) ≡ placed_type p (change type)
    object_same (types.Uninit other) = other_same other (other == at) refl (p.site (p.number other)) refl
    object_same types.UninitThis = this_same p.this
    object_same other = refl

    below_same : (type : VType) → type ≢ types.Uninit (p.number at) → change_also type ≡ type
    below_same (types.Uninit other) not =
        ap (λ (b : Bool). if b then types.Object r.class else types.Uninit other)
        (ne_eqb other (p.number at) (λ e. not (ap types.Uninit e)))
    below_same other not = refl

  -- an uninitialised this of the same method
  module _ (same : SameMethod p) (none : p.this ≡ None) (r : Reference) where
    abbrev change_this : VType → VType
    change_this = initialised_type p.scope r types.UninitThis

    abbrev change_this_also : VType → VType
    change_this_also = initialised_type (flat_scope p) r types.UninitThis

    new_stays : (site : Option Name) (at : ℕ) → change_this_also (new_type site at) ≡ new_type site at
    new_stays None at = refl
    new_stays (Some class) at = refl

    this_object_same : (type : VType) → change_this_also (placed_type p type) ≡ placed_type p (change_this type)
    this_object_same (types.Uninit other) = new_stays (p.site (p.number other)) (p.number other)
    this_object_same types.UninitThis =
        ap (λ (this : Option Name). change_this_also (this_type this)) none
        ∙ ap (λ (own : Header). types.Object own.name) same.own
    this_object_same other = refl

    below_stays : (type : VType) → type ≢ types.UninitThis → change_this_also type ≡ type
    below_stays types.UninitThis not = absurd (not refl)
    below_stays other not = refl

  -- ---- the row of an initialiser

  -- what becomes of an object before and behind the call, and of its type in the place
  pub record Initialises (r : Reference) (object placed : VType) : Type 0 where
    pub uninitialised : IsUninitialised placed
    pub may : MayInitialise (flat_scope p) r placed
    pub locals : (own : List VType)
        → map (initialised_type (flat_scope p) r placed) (placed_locals p own)
        ≡ placed_locals p (map (initialised_type p.scope r object) own)
    pub stack : (own : List VType)
        → map (initialised_type (flat_scope p) r placed) (placed_stack p own)
        ≡ placed_stack p (map (initialised_type p.scope r object) own)

  new_initialises : KeepsNews p → (r : Reference) (at : ℕ) → p.scope.new_class at ≡ Some r.class → p.site (p.number at) ≡ None
      → Initialises r (types.Uninit at) (placed_type p (types.Uninit at))
  new_initialises keeps r at is_new none =
      let below = keeps.below at r.class is_new none in
      subst (λ (site : Option Name). Initialises r (types.Uninit at) (new_type site (p.number at))) (sym none) (record {
        uninitialised = tt;
        may = keeps.class_kept at r.class is_new none;
        locals = map_locals p (initialised_type p.scope r (types.Uninit at)) (initialised_type (flat_scope p) r (types.Uninit (p.number at)))
            (object_same keeps r at is_new none)
            (same_without _ (types.Uninit (p.number at)) (below_same keeps r at is_new none) p.below.locals below.0);
        stack = map_stack p (initialised_type p.scope r (types.Uninit at)) (initialised_type (flat_scope p) r (types.Uninit (p.number at)))
            (object_same keeps r at is_new none)
            (same_without _ (types.Uninit (p.number at)) (below_same keeps r at is_new none) p.below.stack below.1);
      })

  this_initialises : SameMethod p → p.this ≡ None → (r : Reference) → MayInitialise p.scope r types.UninitThis
      → Initialises r types.UninitThis (placed_type p types.UninitThis)
  this_initialises same none r may =
      subst (λ (this : Option Name). Initialises r types.UninitThis (this_type this)) (sym none) (record {
        uninitialised = tt;
        may = subst (λ (own : Header). MayInitialise (record (flat_scope p) { own = own }) r types.UninitThis) (sym same.own) may;
        locals = map_locals p (initialised_type p.scope r types.UninitThis) (initialised_type (flat_scope p) r types.UninitThis)
            (this_object_same same none r) (same_without _ types.UninitThis (below_stays same none r) p.below.locals same.below.0);
        stack = map_stack p (initialised_type p.scope r types.UninitThis) (initialised_type (flat_scope p) r types.UninitThis)
            (this_object_same same none r) (same_without _ types.UninitThis (below_stays same none r) p.below.stack same.below.1);
      })

  module _ (this : HasThis p f) (keeps : KeepsNews p) where
    by_this : HasThis p f → (r : Reference) → p.this ≡ None → MayInitialise p.scope r types.UninitThis
        → receiver f r.desc ≡ types.UninitThis → Initialises r types.UninitThis (placed_type p types.UninitThis)
    by_this (of_method same none) r is_none may is = this_initialises same none r may
    by_this (of_site class site below) r is_none may is = absurd cc
    by_this (of_none locals stack none) r is_none may is =
        absurd (no_this p f (length (parameters_of r.desc) + 1) stack is)

    initialises : (r : Reference) (object : VType) → receiver f r.desc ≡ object → IsNoSite p object → MayInitialise p.scope r object
        → Initialises r object (placed_type p object)
    initialises r (types.Uninit at) is none may = new_initialises keeps r at may none
    initialises r types.UninitThis is none may = by_this this r none may is
    initialises r other is none may = absurd may

    pub init_moves : (r : Reference) → IsNoSite p (receiver f r.desc) → MayInitialise p.scope r (receiver f r.desc)
        → HasOperands p f (init_row p.scope f r)
        → Moves p f (init_row p.scope f r) (init_row (flat_scope p) (placed_frame p f) r)
    init_moves r none may fit = record {
      takes = refl;
      fits = λ held. operands (topmost (suc (length (argument_needs r.desc))) f.stack) refl fit;
      local = λ held. held;
      gives = results_same p f (result_of r.desc);
      further = λ held. subst (MayInitialise (flat_scope p) r) (sym receiver_is) does.may;
      locals = λ held. ap (λ (object : VType). map (initialised_type (flat_scope p) r object) (placed_locals p f.locals)) receiver_is
          ∙ does.locals f.locals;
      becomes = λ entries. ap (λ (object : VType). map (initialised_type (flat_scope p) r object) (placed_stack p entries)) receiver_is
          ∙ does.stack entries;
      goes_on = refl;
      ends = inl refl;
    } where
      does : Initialises r (receiver f r.desc) (placed_type p (receiver f r.desc))
      does = initialises r (receiver f r.desc) refl none may

      receiver_is : receiver (placed_frame p f) r.desc ≡ placed_type p (receiver f r.desc)
      receiver_is = receiver_same p f uninitialised r.desc fit

      operands : (entries : List VType) → topmost (suc (length (argument_needs r.desc))) f.stack ≡ entries
          → AllFit p.scope (uninitialised ∷ argument_needs r.desc) entries
          → AllFit (flat_scope p) (uninitialised ∷ argument_needs r.desc) (map (placed_type p) entries)
      operands [] are held = absurd held
      operands (object ∷ entries) are held = (
        subst (λ (type : VType). IsUninitialised (placed_type p type)) is_object does.uninitialised,
        all_fit_kept p (argument_needs r.desc) entries (arguments_kept p f r.desc) held.1,
      ) where
        lowest : lowest_of (suc (length (argument_needs r.desc))) f.stack ≡ object
        lowest = rw are refl

        is_object : receiver f r.desc ≡ object
        is_object = ap (λ (n : ℕ). lowest_of n f.stack) (sym (with_receiver p f r.desc)) ∙ lowest

    -- ---- the row of a call

    abbrev call_by : RowScope → Frame → Reference → Bool → Bool → Bool → Row
    call_by t g r is_static is_special is_init =
        either is_static (static_row g r)
        (either is_special (either is_init (init_row t g r) (special_row t g r))
        (instance_row g r (Unit {0}) (PassesMethod t r (receiver g r.desc))))

    call_by_moves : (r : Reference) (is_static is_special is_init : Bool)
        → (is_special ≡ true → is_init ≡ true → IsNoSite p (receiver f r.desc))
        → (is_special ≡ true → is_init ≡ false → SameMethod p)
        → (call_by p.scope f r is_static is_special is_init).further
        → HasOperands p f (call_by p.scope f r is_static is_special is_init)
        → Moves p f (call_by p.scope f r is_static is_special is_init)
        (call_by (flat_scope p) (placed_frame p f) r is_static is_special is_init)
    call_by_moves r true is_special is_init none same held fit = static_moves p f r fit
    call_by_moves r false true true none same held fit = init_moves r (none refl refl) held fit
    call_by_moves r false true false none same held fit = special_moves p f (same refl refl) r fit
    call_by_moves r false false is_init none same held fit = instance_moves p f r _ _ _ _ (λ also. also) fit

    pub call_moves : (opcode : ℕ) (reference : Option Reference)
        → ((r : Reference) → reference ≡ Some r → (opcode == INVOKESPECIAL) ≡ true → bytes_eq r.name init ≡ true
        → IsNoSite p (receiver f r.desc))
        → ((r : Reference) → reference ≡ Some r → (opcode == INVOKESPECIAL) ≡ true → bytes_eq r.name init ≡ false → SameMethod p)
        → (call_row p.scope f opcode reference).further
        → HasOperands p f (call_row p.scope f opcode reference)
        → Moves p f (call_row p.scope f opcode reference) (call_row (flat_scope p) (placed_frame p f) opcode reference)
    call_moves opcode None none same held fit = no_row_moves p f fit
    call_moves opcode (Some r) none same held fit =
        call_by_moves r (opcode == INVOKESTATIC) (opcode == INVOKESPECIAL) (bytes_eq r.name init) (none r refl) (same r refl) held fit
