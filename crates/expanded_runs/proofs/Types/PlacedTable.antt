-- The row of each instruction in its place in flat code, where it is read as it is.
use Rattle.std.proofs.Common.{◌≡◌, ◌≢◌, ℕ, Bool, true, false, List, [], ◌∷◌, ◌++◌, map, Option, Some, None, if◌then◌else◌, refl, sym, ap, subst, ◌∙◌, inl, eq-eqb}
use Rattle.std.specs.Prelude.{◌==◌, ◌&&◌, bytes_eq, nat_le}
use Rattle.std.specs.List.{AllByRecursion}
use Rattle.std.proofs.lemmas.Bool.{eqb-true, ne_eqb}
use Rattle.class_model.specs.Names.{init}
use Rattle.class_model.specs.Pool.{constant_at}
use Rattle.class_model.specs.PoolChecks.{class_at}
use Rattle.class_model.specs.declared.frame.Frame.{Frame}
use Rattle.class_model.specs.declared.frame.VType.{VType}
use Rattle.class_model.specs.declared.frame.VType.TheVariants as types
use Rattle.class_model.specs.declared.instr.Instr.{Instr}
use Rattle.class_model.specs.declared.instr.Instr.TheVariants.{Nop, Const, Ldc, Ldc2, Load, Store, Iinc, ArrayLoad, ArrayStore, Shuffle, Pure, Divide, FloatAsk, If, If2, IfSame, IfNull, Goto, Table, Lookup, Return, GetStatic, PutStatic, GetField, PutField, Invoke, Dynamic, New, NewArray, NewRefArray, NewMulti, Length, Throw, Cast, InstanceOf, Enter, Leave}
use Rattle.class_model.specs.declared.opcodes.TheConstants.{IFEQ, IFLE, IF_ICMPEQ, IF_ICMPLE, IF_ACMPEQ, IF_ACMPNE, IFNULL, IFNONNULL, INVOKESPECIAL}
use Rattle.class_tree.specs.Headers.{Name}
use Rattle.expanded_code.specs.Expanded.{with_unit}
use Rattle.expanded_runs.proofs.Types.PlacedArithmetic.{operation_moves}
use Rattle.expanded_runs.proofs.Types.PlacedArrays.{array_load_moves, array_store_moves, length_moves, made_moves}
use Rattle.expanded_runs.proofs.Types.PlacedCalls.{call_moves, map_locals, same_without}
use Rattle.expanded_runs.proofs.Types.PlacedLocals.{HasBlock, const_moves, iinc_moves, imm_moves, load_moves, store_moves}
use Rattle.expanded_runs.proofs.Types.PlacedMembers.{HasThis, IsNoSite, IsWithout, KeepsNews, SameMethod, dynamic_moves, get_field_moves, get_static_moves, put_field_moves, put_static_moves, return_moves}
use Rattle.expanded_runs.proofs.Types.PlacedRows.{HasOperands, Moves, either_moves, ending_moves, no_row_moves, plain_moves}
use Rattle.expanded_runs.proofs.Types.PlacedShuffles.{shuffle_moves}
use Rattle.expanded_runs.proofs.Types.PlacedTypes.{IsKept, Place, all_fit_kept, flat_scope, new_type, placed_frame, placed_type, this_type}
use Rattle.member_link.specs.References.{Reference}
use Rattle.member_link.specs.Rows.ArithmeticRows.{pure_operations, divide_operations, float_operations, operation_in}
use Rattle.member_link.specs.Rows.ArrayRows.{array_of, primitive_array}
use Rattle.member_link.specs.Rows.MemberRows.{receiver}
use Rattle.member_link.specs.Rows.Operands.{Need}
use Rattle.member_link.specs.Rows.Table.{cast_row, jump_row, new_row, row_of, throw_row, without_older}
use Rattle.member_link.specs.Signatures.{reference_of}
use Rattle.member_link.specs.Targets.{with_targets}

-- an instruction in its place
abbrev pub placed_instr : Place → Instr → Instr
placed_instr p instr = with_targets p.number (with_unit p.unit instr)

-- ---- what is asked of an instruction that is read as it is

-- A call of an initialiser is on no object of a site, and another special call is one of the host.
pub record CallStays (p : Place) (f : Frame) (reference : Option Reference) : Type 0 where
  pub initialiser : (r : Reference)
      → reference ≡ Some r
      → bytes_eq r.name init ≡ true
      → IsNoSite p (receiver f r.desc)
  pub special : (r : Reference) → reference ≡ Some r → bytes_eq r.name init ≡ false → SameMethod p

-- No site is at the point of a new, no other offset has its number, and callers have no object of this number.
pub record NewStays (p : Place) (at : ℕ) : Type 0 where
  pub no_site : p.site (p.number at) ≡ None
  pub apart : (other : ℕ) → (p.number other == p.number at) ≡ (other == at)
  pub below_locals : IsWithout (types.Uninit (p.number at)) p.below.locals
  pub below_stack : IsWithout (types.Uninit (p.number at)) p.below.stack

abbrev pub Stays : Place → Frame → ℕ → Instr → Type 0
Stays p f at (Return kind) = SameMethod p
Stays p f at (Invoke opcode index count) =
    (opcode == INVOKESPECIAL) ≡ true → CallStays p f (reference_of p.scope.pool (constant_at p.scope.pool index))
Stays p f at (New index) = NewStays p at
Stays p f at instr = Unit {0}

module _ (p : Place) (f : Frame) where
  -- ---- objects

  module _ (at : ℕ) (new : NewStays p at) where
    older_new : (other : ℕ) (b : Bool) → (other == at) ≡ b → (site : Option Name) → p.site (p.number other) ≡ site
        → without_older (p.number at) (new_type site (p.number other)) ≡ placed_type p (if b then types.Top else types.Uninit other)
    older_new other true here None is =
        ap (λ (b : Bool). if b then types.Top else types.Uninit (p.number other)) (new.apart other ∙ here)
    older_new other false here None is =
        ap (λ (b : Bool). if b then types.Top else types.Uninit (p.number other)) (new.apart other ∙ here)
        ∙ sym (ap (λ (site : Option Name). new_type site (p.number other)) is)
    older_new other true here (Some class) is =
        let none : p.site (p.number other) ≡ None =
        subst (λ (n : ℕ). p.site (p.number n) ≡ None) (sym (eqb-true other at here)) new.no_site in
        absurd cc
    older_new other false here (Some class) is = sym (ap (λ (site : Option Name). new_type site (p.number other)) is)

    older_this : (this : Option Name) → without_older (p.number at) (this_type this) ≡ this_type this
    older_this None = refl
    older_this (Some class) = refl

    older_same : (type : VType) → without_older (p.number at) (placed_type p type) ≡ placed_type p (without_older at type)
    older_same (types.Uninit other) = older_new other (other == at) refl (p.site (p.number other)) refl
    older_same types.UninitThis = older_this p.this
    older_same type = refl

    below_same : (type : VType) → type ≢ types.Uninit (p.number at) → without_older (p.number at) type ≡ type
    below_same (types.Uninit other) not =
        ap (λ (b : Bool). if b then types.Top else types.Uninit other) (ne_eqb other (p.number at) (λ e. not (ap types.Uninit e)))
    below_same other not = refl

    -- one that is not of this number
    other_new : (other : ℕ) → types.Uninit other ≢ types.Uninit at → (site : Option Name)
        → new_type site (p.number other) ≢ types.Uninit (p.number at)
    other_new other not None = λ e.
        let same : p.number other ≡ p.number at = cc in
        not (ap types.Uninit (eqb-true other at (sym (new.apart other) ∙ eq-eqb (p.number other) (p.number at) same)))
    other_new other not (Some class) = λ e. absurd cc

    other_this : (this : Option Name) → this_type this ≢ types.Uninit (p.number at)
    other_this None = λ e. absurd cc
    other_this (Some class) = λ e. absurd cc

    other_kept : (type : VType) → type ≢ types.Uninit at → placed_type p type ≢ types.Uninit (p.number at)
    other_kept (types.Uninit other) not = other_new other not (p.site (p.number other))
    other_kept types.UninitThis not = other_this p.this
    other_kept type not = λ e. absurd cc

    own_without : (entries : List VType) → IsWithout (types.Uninit at) entries
        → IsWithout (types.Uninit (p.number at)) (map (placed_type p) entries)
    own_without [] none = tt
    own_without (entry ∷ entries) none = (other_kept entry none.0, own_without entries none.1)

    all_without : (object : VType) (below own : List VType) → IsWithout object below → IsWithout object own
        → IsWithout object (below ++ own)
    all_without object [] own none also = also
    all_without object (entry ∷ below) own none also = (none.0, all_without object below own none.1 also)

    new_moves : HasOperands p f (new_row f at) → Moves p f (new_row f at) (new_row (placed_frame p f) (p.number at))
    new_moves fit = record {
      takes = refl;
      fits = λ held. all_fit_kept p [] _ tt fit;
      local = λ held. held;
      gives = sym (ap (λ (site : Option Name). new_type site (p.number at) ∷ []) new.no_site);
      further = λ none. all_without _ p.below.stack (map (placed_type p) f.stack) new.below_stack (own_without f.stack none);
      locals = λ held. map_locals p (without_older at) (without_older (p.number at)) older_same
          (same_without _ (types.Uninit (p.number at)) below_same p.below.locals new.below_locals) f.locals;
      becomes = λ entries. refl;
      goes_on = refl;
      ends = inl refl;
    }

  cast_moves : (name : Option Name) → HasOperands p f (cast_row f name) → Moves p f (cast_row f name) (cast_row (placed_frame p f) name)
  cast_moves None fit = no_row_moves p f fit
  cast_moves (Some name) fit = plain_moves p f _ _ _ (tt, tt) refl fit

  throw_moves : HasOperands p f (throw_row f) → Moves p f (throw_row f) (throw_row (placed_frame p f))
  throw_moves fit = ending_moves p f _ _ _ (refl, tt) (λ held. held) fit

  jump_moves : (is_known : Bool) (takes : List Need) → AllByRecursion (IsKept p) takes → HasOperands p f (jump_row f is_known takes)
      → Moves p f (jump_row f is_known takes) (jump_row (placed_frame p f) is_known takes)
  jump_moves is_known takes kept fit =
      either_moves p f is_known _ _ _ _ (plain_moves p f _ _ _ kept refl) (no_row_moves p f) fit

  -- ---- the table

  module _ (block : HasBlock p f) (this : HasThis p f) (keeps : KeepsNews p) where
    pub row_moves : (at : ℕ) (instr : Instr) → Stays p f at instr
        → (row_of p.scope f at instr).local
        → (row_of p.scope f at instr).further
        → HasOperands p f (row_of p.scope f at instr)
        → Moves p f (row_of p.scope f at instr) (row_of (flat_scope p) (placed_frame p f) (p.number at) (placed_instr p instr))
    row_moves at Nop stays local held fit = plain_moves p f _ _ _ tt refl fit
    row_moves at (Const imm) stays local held fit = imm_moves p f imm fit
    row_moves at (Ldc index) stays local held fit = const_moves p f (constant_at p.scope.pool index) fit
    row_moves at (Ldc2 index) stays local held fit = const_moves p f (constant_at p.scope.pool index) fit
    row_moves at (Load kind unit) stays local held fit = load_moves p f block kind unit local fit
    row_moves at (Store kind unit) stays local held fit = store_moves p f block kind unit fit
    row_moves at (Iinc unit by) stays local held fit = iinc_moves p f block unit fit
    row_moves at (ArrayLoad opcode) stays local held fit = array_load_moves p f opcode fit
    row_moves at (ArrayStore opcode) stays local held fit = array_store_moves p f opcode fit
    row_moves at (Shuffle opcode) stays local held fit = shuffle_moves p f opcode fit
    row_moves at (Pure opcode) stays local held fit = operation_moves p f (operation_in pure_operations opcode) fit
    row_moves at (Divide opcode) stays local held fit = operation_moves p f (operation_in divide_operations opcode) fit
    row_moves at (FloatAsk opcode) stays local held fit = operation_moves p f (operation_in float_operations opcode) fit
    row_moves at (If opcode target) stays local held fit =
        jump_moves (nat_le IFEQ opcode && nat_le opcode IFLE) _ (tt, tt) fit
    row_moves at (If2 opcode target) stays local held fit =
        jump_moves (nat_le IF_ICMPEQ opcode && nat_le opcode IF_ICMPLE) _ (tt, (tt, tt)) fit
    row_moves at (IfSame opcode target) stays local held fit =
        jump_moves (nat_le IF_ACMPEQ opcode && nat_le opcode IF_ACMPNE) _ (tt, (tt, tt)) fit
    row_moves at (IfNull opcode target) stays local held fit =
        jump_moves (nat_le IFNULL opcode && nat_le opcode IFNONNULL) _ (tt, tt) fit
    row_moves at (Goto target) stays local held fit = plain_moves p f _ _ _ tt refl fit
    row_moves at (Table low other targets) stays local held fit = plain_moves p f _ _ _ (tt, tt) refl fit
    row_moves at (Lookup other pairs) stays local held fit = plain_moves p f _ _ _ (tt, tt) refl fit
    row_moves at (Return kind) stays local held fit = return_moves p f stays kind fit
    row_moves at (GetStatic index) stays local held fit = get_static_moves p f (reference_of p.scope.pool (constant_at p.scope.pool index)) fit
    row_moves at (PutStatic index) stays local held fit = put_static_moves p f (reference_of p.scope.pool (constant_at p.scope.pool index)) fit
    row_moves at (GetField index) stays local held fit = get_field_moves p f (reference_of p.scope.pool (constant_at p.scope.pool index)) fit
    row_moves at (PutField index) stays local held fit =
        put_field_moves p f this (reference_of p.scope.pool (constant_at p.scope.pool index)) fit
    row_moves at (Invoke opcode index count) stays local held fit =
        call_moves p f this keeps opcode (reference_of p.scope.pool (constant_at p.scope.pool index))
        (λ r is special is_init. (stays special).initialiser r is is_init)
        (λ r is special other. (stays special).special r is other) held fit
    row_moves at (Dynamic index) stays local held fit = dynamic_moves p f (constant_at p.scope.pool index) fit
    row_moves at (New index) stays local held fit = new_moves at stays fit
    row_moves at (NewArray code) stays local held fit = made_moves p f 1 (primitive_array code) fit
    row_moves at (NewRefArray index) stays local held fit = made_moves p f 1 (array_of (class_at p.scope.pool index)) fit
    row_moves at (NewMulti index dimensions) stays local held fit = made_moves p f dimensions (class_at p.scope.pool index) fit
    row_moves at Length stays local held fit = length_moves p f fit
    row_moves at Throw stays local held fit = throw_moves fit
    row_moves at (Cast index) stays local held fit = cast_moves (class_at p.scope.pool index) fit
    row_moves at (InstanceOf index) stays local held fit = plain_moves p f _ _ _ (tt, tt) refl fit
    row_moves at Enter stays local held fit = plain_moves p f _ _ _ (tt, tt) refl fit
    row_moves at Leave stays local held fit = plain_moves p f _ _ _ (tt, tt) refl fit
