-- The items of make code that copy an uninitialised object and that call its constructor.
use Rattle.std.proofs.Common.{◌≡◌, ◌≢◌, ◌+◌, ◌==◌, ℕ, suc, Bool, true, false, List, [], ◌∷◌, ◌++◌, length, map, Option, Some, None, refl, sym, ap, subst, ◌∙◌, arith}
use Rattle.std.specs.List.{AllByRecursion}
use Rattle.std.proofs.lemmas.Bool.{eqb-true, eq-eqb}
use Rattle.std.proofs.lemmas.List.{append-nil, map-append}
use Rattle.class_model.specs.Code.{verification_type}
use Rattle.class_model.specs.Descriptors.{parameters_of}
use Rattle.class_model.specs.Names.{init}
use Rattle.class_model.specs.Pool.{constant_at}
use Rattle.class_model.specs.declared.descriptor.FieldType.{FieldType}
use Rattle.class_model.specs.declared.frame.Frame.{Frame}
use Rattle.class_model.specs.declared.frame.VType.{VType}
use Rattle.class_model.specs.declared.frame.VType.TheVariants as types
use Rattle.class_model.specs.declared.instr.Instr.TheVariants.{Shuffle}
use Rattle.class_model.specs.declared.opcodes.TheConstants.{DUP, INVOKESPECIAL}
use Rattle.class_tree.specs.Headers.{Name}
use Rattle.making_code.specs.Constants.{constructor_needs}
use Rattle.making_code.specs.IndexedMaking.{index_of_last}
use Rattle.making_code.specs.Items.{constructs, item, plain}
use Rattle.member_link.specs.DeclaredMembers.{own_method}
use Rattle.member_link.specs.References.{Reference}
use Rattle.member_link.specs.RowScope.{RowScope}
use Rattle.member_link.specs.Rows.MemberRows.{MayInitialise, PassesInitialiser, argument_needs, call_row, initialised_type, receiver, result_types}
use Rattle.member_link.specs.Rows.Operands.{AllFit, Need, assignable_to, is_single, single, topmost, under, uninitialised}
use Rattle.member_link.specs.Rows.Row.{access_aside, row_frame}
use Rattle.member_link.specs.Rows.ShuffleRows.{Form, form_in, form_row, forms_of, one, picked}
use Rattle.member_link.specs.Signatures.{reference_of, result_of}
use Rattle.written_types.proofs.MakingSteps.{one_step, topmost_are, under_are}
use Rattle.written_types.proofs.PassingMembers.{none_declared}
use Rattle.written_types.specs.HeldRows.{RowFits}
use Rattle.written_types.specs.Inner.CarriedFrames.{Carries}
use Rattle.written_types.specs.Writing.{Writing, scope_in}

-- ---- dup

pub dup_carries : (w : Writing) (number : ℕ) (locals below : List VType) (type : VType)
    → is_single type ≡ true
    → Carries w number (item (plain (Shuffle DUP)) ∷ []) (record { locals = locals; stack = below ++ (type ∷ []) })
    (Some (record { locals = locals; stack = below ++ (type ∷ type ∷ []) }))
dup_carries w number locals below type is =
    one_step w number (item (plain (Shuffle DUP))) frame (record { locals = locals; stack = below ++ (type ∷ type ∷ []) })
    (record {
      row = subst (λ (found : Option Form). RowFits (scope_in w) frame (access_aside (form_row frame found))) (sym found) (record {
        operands = subst (AllFit (scope_in w) (single ∷ [])) (sym tops) (is, tt);
        local = tt;
        further = tt;
        access = tt;
      });
      targets = tt;
      handlers = tt;
      access = λ usable. subst (λ (found : Option Form). (form_row frame found).access) (sym found) tt;
    })
    (ap (λ (found : Option Form). row_frame frame (access_aside (form_row frame found))) found
    ∙ (λ i. Some (record { locals = locals; stack = under_are below (type ∷ []) 1 refl i ++ picked (tops i) (0 ∷ 0 ∷ []) }))) where
      frame : Frame
      frame = record { locals = locals; stack = below ++ (type ∷ []) }

      tops : topmost 1 (below ++ (type ∷ [])) ≡ type ∷ []
      tops = topmost_are below (type ∷ []) 1 refl

      found : form_in (forms_of DUP) (below ++ (type ∷ [])) ≡ Some (record { takes = one ∷ []; gives = 0 ∷ 0 ∷ [] })
      found = rw (tops, is) refl

-- ---- the constructor's call

other_stays : (s : RowScope) (reference : Reference) (at : ℕ) (type : VType) → type ≢ types.Uninit at
    → initialised_type s reference (types.Uninit at) type ≡ type
other_stays s reference at (types.Uninit other) apart = by (other == at) refl where
  by : (b : Bool) → (other == at) ≡ b → initialised_type s reference (types.Uninit at) (types.Uninit other) ≡ types.Uninit other
  by true is = absurd (apart (ap types.Uninit (eqb-true other at is)))
  by false is = rw (is) refl
other_stays s reference at types.Top apart = refl
other_stays s reference at types.Int apart = refl
other_stays s reference at types.Float apart = refl
other_stays s reference at types.Long apart = refl
other_stays s reference at types.Double apart = refl
other_stays s reference at types.Null apart = refl
other_stays s reference at types.UninitThis apart = refl
other_stays s reference at (types.Object name) apart = refl

others_stay : (s : RowScope) (reference : Reference) (at : ℕ) (all : List VType) → AllByRecursion (λ type. type ≢ types.Uninit at) all
    → map (initialised_type s reference (types.Uninit at)) all ≡ all
others_stay s reference at [] apart = refl
others_stay s reference at (type ∷ all) apart = λ i. other_stays s reference at type apart.0 i ∷ others_stay s reference at all apart.1 i

initialised_is : (s : RowScope) (reference : Reference) (at : ℕ)
    → initialised_type s reference (types.Uninit at) (types.Uninit at) ≡ types.Object reference.class
initialised_is s reference at = rw (eq-eqb at at refl) refl

mapped_long : {A B : Type 0} (change : A → B) (all : List A) → length (map change all) ≡ length all
mapped_long change [] = refl
mapped_long change (first ∷ all) = ap suc (mapped_long change all)

fit_count : (s : RowScope) (needs : List Need) (args : List VType) → AllFit s needs args → length needs ≡ length args
fit_count s [] [] fit = refl
fit_count s [] (arg ∷ args) fit = absurd fit
fit_count s (need ∷ needs) [] fit = absurd fit
fit_count s (need ∷ needs) (arg ∷ args) fit = ap suc (fit_count s needs args fit.1)

abbrev pub constructor_of : Writing → Name → Reference
constructor_of w class = record { class = class; name = init; desc = w.constructor class }

pub construct_carries : (w : Writing) (number at : ℕ) (class : Name) (locals base args : List VType) (params : List FieldType)
    → reference_of w.pool (constant_at w.pool (index_of_last w.pool (constructor_needs class (w.constructor class)))) ≡ Some (constructor_of w class)
    → parameters_of (w.constructor class) ≡ params
    → result_of (w.constructor class) ≡ None
    → AllFit (scope_in w) (map (λ param. assignable_to (verification_type param)) params) args
    → (scope_in w).new_class at ≡ Some class
    → own_method (scope_in w).headers class init (w.constructor class) ≡ None
    → AllByRecursion (λ type. type ≢ types.Uninit at) locals
    → AllByRecursion (λ type. type ≢ types.Uninit at) base
    → Carries w number (item (constructs class) ∷ [])
    (record { locals = locals; stack = (base ++ (types.Uninit at ∷ [])) ++ (types.Uninit at ∷ args) })
    (Some (record { locals = locals; stack = base ++ (types.Object class ∷ []) }))
construct_carries w number at class locals base args params named params_are no_result fit made free locals_apart base_apart =
    one_step w number (item (constructs class)) frame next
    (record {
      row = subst (λ (found : Option Reference). RowFits s frame (access_aside (call_row s frame INVOKESPECIAL found))) (sym named) (record {
        operands = subst (AllFit s (uninitialised ∷ argument_needs ref.desc)) (sym tops) (tt, arguments);
        local = tt;
        further = subst (MayInitialise s ref) (sym receiver_is) made;
        access = tt;
      });
      targets = tt;
      handlers = tt;
      access = λ usable. subst (λ (found : Option Reference). (call_row s frame INVOKESPECIAL found).access) (sym named)
          (subst (PassesInitialiser s ref) (sym receiver_is) (none_declared s ref at free refl));
    })
    (ap (λ (found : Option Reference). row_frame frame (access_aside (call_row s frame INVOKESPECIAL found))) named
    ∙ ap (λ (object : VType). Some (record {
      locals = map (initialised_type s ref object) locals;
      stack = map (initialised_type s ref object) (under (suc (length (argument_needs ref.desc))) stack) ++ result_types (result_of ref.desc);
    })) receiver_is
    ∙ (λ i. Some (record { locals = others_stay s ref at locals locals_apart i; stack = stack_is i }))) where
      s : RowScope
      s = scope_in w

      ref : Reference
      ref = constructor_of w class

      below : List VType
      below = base ++ (types.Uninit at ∷ [])

      stack : List VType
      stack = below ++ (types.Uninit at ∷ args)

      frame : Frame
      frame = record { locals = locals; stack = stack }

      next : Frame
      next = record { locals = locals; stack = base ++ (types.Object class ∷ []) }

      arguments : AllFit s (argument_needs ref.desc) args
      arguments =
          subst (λ (all : List FieldType). AllFit s (map (λ param. assignable_to (verification_type param)) all) args) (sym params_are) fit

      many : length (argument_needs ref.desc) ≡ length args
      many = fit_count s (argument_needs ref.desc) args arguments

      tops : topmost (suc (length (argument_needs ref.desc))) stack ≡ types.Uninit at ∷ args
      tops = topmost_are below (types.Uninit at ∷ args) (suc (length (argument_needs ref.desc))) (ap suc many)

      tops_also : topmost (length (parameters_of ref.desc) + 1) stack ≡ types.Uninit at ∷ args
      tops_also =
          topmost_are below (types.Uninit at ∷ args) (length (parameters_of ref.desc) + 1)
          (let count = mapped_long (λ param. assignable_to (verification_type param)) (parameters_of ref.desc) in omega (arith, many, count))

      receiver_is : receiver frame ref.desc ≡ types.Uninit at
      receiver_is = rw (tops_also) refl

      under_is : under (suc (length (argument_needs ref.desc))) stack ≡ below
      under_is = under_are below (types.Uninit at ∷ args) (suc (length (argument_needs ref.desc))) (ap suc many)

      stack_is : map (initialised_type s ref (types.Uninit at)) (under (suc (length (argument_needs ref.desc))) stack) ++ result_types (result_of ref.desc)
          ≡ base ++ (types.Object class ∷ [])
      stack_is =
          (λ i. map (initialised_type s ref (types.Uninit at)) (under_is i) ++ result_types (no_result i))
          ∙ append-nil (map (initialised_type s ref (types.Uninit at)) below)
          ∙ map-append (initialised_type s ref (types.Uninit at)) base (types.Uninit at ∷ [])
          ∙ (λ i. others_stay s ref at base base_apart i ++ (initialised_is s ref at i ∷ []))
