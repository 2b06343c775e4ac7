-- What the call of an instance initialiser leaves, and what is told of an answer.
use Rattle.std.proofs.Common.{◌≡◌, ◌+◌, ◌++◌, ℕ, suc, List, length, map, Option, Some, Result, Ok, Err, IfOk, sym, ap, subst, ◌∙◌}
use Rattle.std.proofs.Math.Numerals.{add-one}
use Rattle.std.proofs.lemmas.List.{length-map}
use Rattle.std.specs.List.{AllByRecursion}
use Rattle.std.specs.Option.{option_map}
use Rattle.class_model.specs.Code.{verification_type}
use Rattle.class_model.specs.Descriptors.{parameters_of}
use Rattle.class_model.specs.Pool.{Constants}
use Rattle.class_model.specs.declared.descriptor.FieldType.{FieldType}
use Rattle.class_model.specs.declared.frame.Frame.{Frame}
use Rattle.class_model.specs.declared.frame.VType.{VType}
use Rattle.class_tree.specs.Headers.{Name}
use Rattle.member_link.specs.References.{Reference}
use Rattle.member_link.specs.RowScope.{RowScope}
use Rattle.member_link.specs.Rows.MemberRows.{argument_needs, init_row, initialised_type, result_types}
use Rattle.member_link.specs.Rows.Operands.{assignable_to, lowest_of, under}
use Rattle.member_link.specs.Signatures.{result_of}
use Rattle.row_frames.proofs.InitialisedTypes.{all_same}
use Rattle.row_frames.specs.Behind.{HasText}
use Rattle.row_frames.specs.Inner.Rows.{IsBehindRow}
use Rattle.row_frames.specs.Inner.Becoming.{becomes}
use Rattle.row_frames.specs.Inner.Scopes.{scope_with}
use Rattle.row_frames.specs.Inner.Stacks.{given}

pub if_ok : {A F : Type 0} (P Q : A → Type 0) (result : Result A F) → ((a : A) → P a → Q a) → IfOk result P → IfOk result Q
if_ok P Q (Ok a) to told = to a told
if_ok P Q (Err fault) to told = tt

-- ---- what a call gives, by its descriptor

abbrev pub Tells : List ℕ → Option (Option VType) → Type 0
Tells desc gives = AllByRecursion HasText (result_types (result_of desc)) → option_map given gives ≡ Some (result_types (result_of desc))

pub told_of : (bytes desc : List ℕ) (found : Option (Option VType)) (gives : Option VType) → bytes ≡ desc → found ≡ Some gives → Tells bytes found → Tells desc (Some gives)
told_of bytes desc found gives same is tells = subst (Tells desc) is (subst (λ (d : List ℕ). Tells d found) same tells)

-- ---- an initialiser

abbrev pub initialised_frame : Name → Name → Frame → ℕ → List VType → Option Frame
initialised_frame own class f count gives = Some (record {
  locals = map (becomes own class (lowest_of count f.stack)) f.locals;
  stack = map (becomes own class (lowest_of count f.stack)) (under count f.stack) ++ gives;
})

abbrev frame_of : List VType → List VType → Option Frame
frame_of locals stack = Some (record { locals = locals; stack = stack })

pub init_leaves : (f : Frame) (s : RowScope) (r : Reference) (count : ℕ) (gives : Option VType) (frame : Option Frame) → count ≡ length (parameters_of r.desc)
    → Tells r.desc (Some gives)
    → frame ≡ initialised_frame s.own.name r.class f (count + 1) (given gives)
    → IsBehindRow f (init_row s f r) frame
init_leaves f s r count gives frame many tells is texts =
    let wanted = result_types (result_of r.desc) in
    let count_is = length (parameters_of r.desc) in
    let receiver = lowest_of (count_is + 1) f.stack in
    let same_gives : given gives ≡ wanted = cc (tells texts) in
    let operands : count_is + 1 ≡ suc (length (argument_needs r.desc)) =
    add-one count_is ∙ ap suc (sym (length-map (parameters_of r.desc) (λ (param : FieldType). assignable_to (verification_type param)))) in
    is
    ∙ ap (λ (n : ℕ). initialised_frame s.own.name r.class f (n + 1) (given gives)) many
    ∙ ap (initialised_frame s.own.name r.class f (count_is + 1)) same_gives
    ∙ ap (λ (locals : List VType). frame_of locals (map (becomes s.own.name r.class receiver) (under (count_is + 1) f.stack) ++ wanted)) (all_same s r receiver f.locals)
    ∙ ap (λ (stack : List VType). frame_of (map (initialised_type s r receiver) f.locals) (stack ++ wanted)) (all_same s r receiver (under (count_is + 1) f.stack))
    ∙ ap (λ (n : ℕ). frame_of (map (initialised_type s r receiver) f.locals) (map (initialised_type s r receiver) (under n f.stack) ++ wanted)) operands

-- ---- scopes

pub in_scope : (s : RowScope) (pool : Constants) (own : Name) → s.pool ≡ pool → s.own.name ≡ own → scope_with s pool own ≡ s
in_scope s pool own pool_is own_is =
    ap (λ (p : Constants). scope_with s p own) (sym pool_is) ∙ ap (scope_with s s.pool) (sym own_is)
