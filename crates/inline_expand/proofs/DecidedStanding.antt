-- It is decided whether the code of a method may stand in that of a host.
use Rattle.std.proofs.Common.{◌≡◌, ◌≢◌, ◌≤◌, ◌-◌, ℕ, Bool, true, false, List, [], ◌∷◌, drop, length, slice_get, Option, Some, None, IsTrue, IsFalse, refl, sym, subst, ◌∙◌, inl, inr}
use Rattle.std.proofs.lemmas.Bool.{cases_eq, false≢true}
use Rattle.std.specs.List.{AllByRecursion}
use Rattle.class_model.specs.Code.{verification_type}
use Rattle.class_model.specs.Descriptors.{kind_of, parameters_of, units_of}
use Rattle.class_model.specs.Header.{header_of}
use Rattle.class_model.specs.Laws.Decisions.{Decision, both, denied, either, implied, is_false, is_true, mapped}
use Rattle.class_model.specs.Members.{has, STATIC}
use Rattle.class_model.specs.Methods.{this_units}
use Rattle.class_model.specs.Names.{init}
use Rattle.class_model.specs.Pool.{constant_at}
use Rattle.class_model.specs.declared.class_file.ClassFile.{ClassFile}
use Rattle.class_model.specs.declared.descriptor.FieldType.{FieldType}
use Rattle.class_model.specs.declared.frame.Frame.{Frame}
use Rattle.class_model.specs.declared.frame.VType.{VType}
use Rattle.class_model.specs.declared.frame.VType.TheVariants.{Object, Top, UninitThis}
use Rattle.class_model.specs.declared.header.Header.{Header}
use Rattle.class_model.specs.declared.instr.Instr.{Instr}
use Rattle.class_model.specs.declared.instr.Instr.TheVariants.{Dynamic, FloatAsk, Invoke, Ldc, Return}
use Rattle.class_model.specs.declared.instr.Placed.{Placed}
use Rattle.class_model.specs.declared.opcodes.TheConstants.{INVOKESPECIAL}
use Rattle.class_model.specs.declared.pool.Const.{Const}
use Rattle.class_model.specs.declared.pool.Const.TheVariants as consts
use Rattle.class_tree.specs.Headers.{Classes, Headers, Name, headers_of, named}
use Rattle.class_tree.specs.Hierarchy.{IsHierarchy}
use Rattle.class_tree.specs.Laws.Decided.{below_decided, same_bytes}
use Rattle.class_tree.specs.Layouts.{chain}
use Rattle.expanded_code.specs.Callees.{IsClass, IsNoHandle, IsPlain, IsWithoutThis, LeavesResult, MayStandIn, NamesInitialiser, NamesOpen, ResultSaysAtMost, SayAtMost, SaysAtMost, own_name}
use Rattle.expanded_code.specs.Laws.Searches.{HasOne, all_decided, at_most, each_decided, empty, if_decided, one_decided, three}
use Rattle.expanded_code.specs.Quiet.{IsOfFolder, IsQuiet, declares_initialiser}
use Rattle.inline_expand.proofs.DecidedOpen.{FindsOneField, names_decided, of_folder_decided}
use Rattle.inline_expand.proofs.DecidedRuns.{LooksUpOnce}
use Rattle.inline_expand.proofs.DecidedWords.{HasAnswers, class_decided, same_type}
use Rattle.inline_expand.proofs.FolderNames.{folder_name}
use Rattle.member_link.specs.Access.{IsAtOrBelow}
use Rattle.member_link.specs.Laws.FolderClasses.{folder_index, found_in_folder}
use Rattle.member_link.specs.Machine.Performing.{SYNCHRONIZED}
use Rattle.member_link.specs.Rows.MemberRows.{NoUninitThis}
use Rattle.member_link.specs.Rows.Operands.{lowest_of}
use Rattle.member_link.specs.Scope.{Scope, instructions, is_init, own_descriptor}
use Rattle.member_link.specs.Signatures.{reference_of}

-- ---- quiet classes

module _ (headers : Headers) (hierarchy : IsHierarchy headers) where
  at_or_below : (low high : Name) → Decision (IsAtOrBelow headers low high)
  at_or_below low high = either (same_bytes low high) (below_decided headers hierarchy low high)

  -- a class of the folder at or above one declares a class initialiser
  abbrev Initialises : Name → ℕ → Header → Type 0
  Initialises class number header = IsAtOrBelow headers class header.name × IsTrue (declares_initialiser header)

  abbrev NoneInitialises : Name → Type 0
  NoneInitialises class =
      (high : Name) (header : Header) → IsAtOrBelow headers class high → named high headers.folder ≡ Some header → IsFalse (declares_initialiser header)

  none_initialises : (class : Name) → Decision (NoneInitialises class)
  none_initialises class =
      mapped (λ none high header up found. silent none high header up found (is_false (declares_initialiser header)))
      (λ none one. absurd (loud one.item (none one.item.name one.item one.holds.0 (found_in_folder headers hierarchy one.number one.item one.is)) one.holds.1))
      (denied (one_decided headers.folder (Initialises class) (λ number header is. both (at_or_below class header.name) (is_true (declares_initialiser header))))) where
        loud : (header : Header) → IsFalse (declares_initialiser header) → IsTrue (declares_initialiser header) → ⊥
        loud header none some = false≢true (sym none ∙ some)

        silent : (¬ HasOne headers.folder (Initialises class)) → (high : Name) (header : Header) → IsAtOrBelow headers class high → named high headers.folder ≡ Some header
            → Decision (IsFalse (declares_initialiser header)) → IsFalse (declares_initialiser header)
        silent none high header up found (inl is) = is
        silent none high header up found (inr not) =
            let there = folder_index headers high header found in
            let up_own : IsAtOrBelow headers class header.name = subst (IsAtOrBelow headers class) (sym (folder_name headers high header found)) up in
            absurd (none (record { number = there.0; item = header; is = there.1; holds = (up_own, not_false (declares_initialiser header) not) })) where
              not_false : (test : Bool) → ¬ IsFalse test → IsTrue test
              not_false true not = refl
              not_false false not = absurd (not refl)

  pub quiet_decided : (class : Name) → Decision (IsQuiet headers class)
  quiet_decided class =
      mapped (λ h. record { itself = h.0; above = h.1; no_initialiser = h.2 }) (λ quiet. (quiet.itself, quiet.above, quiet.no_initialiser))
      (three (of_folder_decided headers class) (all_decided (IsOfFolder headers) (of_folder_decided headers) (chain headers class)) (none_initialises class))

-- ---- types that say no more than is declared

module _ (headers : Headers) where
  an_object : (said : VType) → Decision ((name : Name) × (said ≡ Object name) × IsClass headers name)
  an_object (Object name) =
      mapped (λ class. (name, refl, class)) (λ some. let e : Object name ≡ Object some.0 = some.1 in let same : name ≡ some.0 = cc in subst (IsClass headers) (sym same) some.2) (class_decided headers name)
  an_object other = inr (λ some. let e = some.1 in absurd cc)

  says_decided : (type : FieldType) (said : VType) → Decision (SaysAtMost headers type said)
  says_decided type said = either (same_type said (verification_type type)) (either (same_type said Top) (an_object said))

  say_decided : (types : List FieldType) (units : List VType) → Decision (SayAtMost headers types units)
  say_decided [] units = inl tt
  say_decided (type ∷ types) [] = inr (λ none. none)
  say_decided (type ∷ types) (said ∷ units) = both (says_decided type said) (say_decided types (drop (units_of (kind_of type) - 1) units))

  pub result_decided : (result : Option FieldType) (frame : Frame) → Decision (ResultSaysAtMost headers result frame)
  result_decided None frame = inl tt
  result_decided (Some type) frame = says_decided type (lowest_of 1 frame.stack)

-- ---- instructions

no_handle : (constant : Option Const) → Decision (IsNoHandle constant)
no_handle (Some (consts.MethodHandle kind reference)) = inr (λ none. none)
no_handle (Some (consts.MethodType descriptor)) = inr (λ none. none)
no_handle constant = inl tt

plain_decided : (s : Scope) (instr : Instr) → Decision (IsPlain s instr)
plain_decided s (FloatAsk opcode) = inr (λ none. none)
plain_decided s (Dynamic index) = inr (λ none. none)
plain_decided s (Ldc index) = no_handle (constant_at s.class.pool index)
plain_decided s other = inl tt

special_decided : (s : Scope) (instr : Instr) → Decision (NamesInitialiser s instr)
special_decided s (Invoke opcode index count) =
    implied (cases_eq opcode INVOKESPECIAL)
    (if_decided (reference_of s.class.pool (constant_at s.class.pool index)) (λ reference. reference.name ≡ init) (λ reference is. same_bytes reference.name init))
special_decided s other = inl tt

leaves_decided : (instr : Instr) (frame : Frame) → Decision (LeavesResult instr frame)
leaves_decided (Return None) frame = empty frame.stack
leaves_decided (Return (Some kind)) frame = cases_eq (length frame.stack) 1
leaves_decided other frame = inl tt

no_this : (entries : List VType) → Decision (NoUninitThis entries)
no_this entries = all_decided (λ type. type ≢ UninitThis) (λ type. denied (same_type type UninitThis)) entries

without_this : (frame : Frame) → Decision (IsWithoutThis frame)
without_this frame = both (no_this frame.locals) (no_this frame.stack)

-- each return has its result alone
abbrev ReturnsAlone : List Placed → List Frame → Type 0
ReturnsAlone instrs frames =
    (number : ℕ) (placed : Placed) (frame : Frame) → slice_get instrs number ≡ Some placed → slice_get frames number ≡ Some frame → LeavesResult placed.instr frame

returns_decided : (instrs : List Placed) (frames : List Frame) → Decision (ReturnsAlone instrs frames)
returns_decided instrs frames =
    mapped (λ all number placed frame is before. all number placed is frame before) (λ all number placed is frame before. all number placed frame is before)
    (each_decided instrs (λ number placed. (frame : Frame) → slice_get frames number ≡ Some frame → LeavesResult placed.instr frame)
    (λ number placed is. if_decided (slice_get frames number) (λ frame. LeavesResult placed.instr frame) (λ frame before. leaves_decided placed.instr frame)))

-- ---- all conditions

module _ (classes : Classes) (hierarchy : IsHierarchy (headers_of classes)) (answers : HasAnswers (headers_of classes)) (fields_once : FindsOneField) (methods_once : LooksUpOnce)
    (host : ClassFile) (s : Scope) (own : s.headers ≡ headers_of classes) (frames : List Frame) where
  abbrev HasForm : Type 0
  HasForm = ((s.class.major ≡ host.major) × (length s.part.code ≤ 64)) × ((s.part.handlers ≡ []) × IsFalse (has s.method.flags SYNCHRONIZED))

  abbrev HasPlainCode : Type 0
  HasPlainCode =
      (AllByRecursion (λ placed. IsPlain s placed.instr) (instructions s) × AllByRecursion (λ placed. NamesInitialiser s placed.instr) (instructions s))
      × (ReturnsAlone (instructions s) frames × (IsFalse (is_init s) → AllByRecursion IsWithoutThis frames))

  abbrev Takes : Type 0
  Takes = (first : Frame) → slice_get frames 0 ≡ Some first → SayAtMost (headers_of classes) (parameters_of (own_descriptor s)) (drop (this_units s.method.flags) first.locals)

  abbrev Reaches : Type 0
  Reaches =
      ((IsTrue (has s.method.flags STATIC) → IsQuiet (headers_of classes) (own_name s)) × Takes)
      × AllByRecursion (λ placed. NamesOpen s (header_of host).name placed.instr) (instructions s)

  form_decided : Decision HasForm
  form_decided =
      both (both (cases_eq s.class.major host.major) (at_most (length s.part.code) 64)) (both (empty s.part.handlers) (is_false (has s.method.flags SYNCHRONIZED)))

  code_decided : Decision HasPlainCode
  code_decided =
      both
      (both (all_decided (λ placed. IsPlain s placed.instr) (λ placed. plain_decided s placed.instr) (instructions s))
      (all_decided (λ placed. NamesInitialiser s placed.instr) (λ placed. special_decided s placed.instr) (instructions s)))
      (both (returns_decided (instructions s) frames) (implied (is_false (is_init s)) (all_decided IsWithoutThis without_this frames)))

  reaches_decided : Decision Reaches
  reaches_decided =
      both
      (both (implied (is_true (has s.method.flags STATIC)) (quiet_decided (headers_of classes) hierarchy (own_name s)))
      (if_decided (slice_get frames 0) (λ first. SayAtMost (headers_of classes) (parameters_of (own_descriptor s)) (drop (this_units s.method.flags) first.locals))
      (λ first is. say_decided (headers_of classes) (parameters_of (own_descriptor s)) (drop (this_units s.method.flags) first.locals))))
      (all_decided (λ placed. NamesOpen s (header_of host).name placed.instr)
      (λ placed. names_decided s (header_of host).name (subst HasAnswers (sym own) answers) fields_once methods_once placed.instr) (instructions s))

  pub stand_decided : Decision (MayStandIn classes host s frames)
  stand_decided =
      mapped (λ h. record {
        version = h.0.0.0;
        quiet = h.2.0.0;
        short = h.0.0.1;
        no_handlers = h.0.1.0;
        plain = h.1.0.0;
        no_monitor = h.0.1.1;
        returns = h.1.1.0;
        parameters = h.2.0.1;
        special = h.1.0.1;
        without_this = h.1.1.1;
        access = h.2.1;
      }) (λ stands. (
        ((stands.version, stands.short), (stands.no_handlers, stands.no_monitor)),
        ((stands.plain, stands.special), (stands.returns, stands.without_this)),
        ((stands.quiet, stands.parameters), stands.access),
      ))
      (three form_decided code_decided reaches_decided)
