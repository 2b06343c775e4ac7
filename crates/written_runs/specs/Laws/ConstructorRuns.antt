-- A field constructor gives its object the values that it is given, quietly, class by class from the highest one on.
use Rattle.std.proofs.Common.{◌≡◌, ◌+◌, ◌-◌, nat_le, ℕ, suc, List, [], ◌∷◌, ◌++◌, bytes_eq, drop, false, true, length, map, replicate, reverse, take, Option, Some, None, option_and_then, refl, sym, ap, subst, ◌∙◌, arith}
use Rattle.std.proofs.lemmas.List.{append_assoc, drop-drop, length-append, length-map}
use Rattle.class_model.specs.Descriptors.{type_of}
use Rattle.class_model.specs.Header.{header_of}
use Rattle.class_model.specs.declared.class_file.ClassFile.{ClassFile}
use Rattle.class_model.specs.declared.descriptor.FieldType.{FieldType}
use Rattle.class_model.specs.declared.descriptor.Kind.TheVariants as kinds
use Rattle.class_model.specs.declared.header.Member.{Member}
use Rattle.class_model.specs.declared.instr.Imm.TheVariants as imms
use Rattle.class_model.specs.declared.instr.Instr.TheVariants.{Const, Load, Return}
use Rattle.class_tree.specs.Headers.{Name, Classes, headers_of}
use Rattle.class_tree.specs.Layouts.{instance_fields, own_fields}
use Rattle.class_tree.specs.Names.{object}
use Rattle.machine_values.specs.Frames.{MethodState}
use Rattle.machine_values.specs.Values.{have_kinds, units_of_values}
use Rattle.machine_values.specs.declared.frame.RunFrame.{RunFrame}
use Rattle.machine_values.specs.declared.frame.RunFrame.TheVariants.{Method}
use Rattle.machine_values.specs.declared.object.Object.{Object}
use Rattle.machine_values.specs.declared.value.Value.{Value}
use Rattle.machine_values.specs.declared.value.Value.TheVariants.{Null, Ref}
use Rattle.making_code.specs.FieldConstructor.{CInstr, call_above, calls_constructor, calls_object, constructor_items, fields_above, loads_from, puts_from, simple, units_of_fields}
use Rattle.member_link.specs.Machine.Beginnings.{frame_with}
use Rattle.member_link.specs.Machine.Codes.{special_start}
use Rattle.member_link.specs.Machine.Ops.{Op}
use Rattle.member_link.specs.Machine.Performing.{locking_of}
use Rattle.member_link.specs.Machine.Programs.{Code, Links, Program, code_at, code_run, run_method}
use Rattle.member_link.specs.Machine.Runs.{Run}
use Rattle.member_link.specs.Machine.Work.{arity, work}
use Rattle.member_link.specs.Machine.Worlds.{Memory}
use Rattle.plan_flow.specs.Written.WrittenPrograms.{constructor_code, constructor_method, constructor_scope}
use Rattle.same_runs.specs.Laws.CaughtUp.{less}
use Rattle.same_runs.specs.Laws.Operations.{WorksOnOperands}
use Rattle.same_runs.specs.Laws.QuietBeginnings.{quietly_then, standing}
use Rattle.same_runs.specs.Laws.QuietCalls.{quiet_call, quiet_return}
use Rattle.same_runs.specs.Simulations.{Quietly}
use Rattle.written_runs.specs.Laws.ConstructorSteps.{Reaches, Stands, Units, behind_it, calls_top, loads, loads_one, point_of, point_there, pushes_null, stores, then_reaches}
use Rattle.written_runs.specs.Laws.FieldConstructors.{AtConstructor, FillsObjects, GoesOn, HasConstructors, IsBelowObject, IsConstructor, behind_call, calls_one, filled, filled_itself, highest, lower, reference_of_constructor}
use Rattle.written_runs.specs.Laws.GivenValues.{CutInTwo, FitBoth, FitTypes, cut_in_two, fit_both, fit_kinds, fit_length, none_left, operands_back, operands_enough, operands_gone, pushed_all, types_of, units_append, units_behind}

-- ---- the instructions

-- those that call the superclass's constructor, and the rest
abbrev pub own_items : Classes → ClassFile → Name → List CInstr
own_items classes file above =
    puts_from (header_of file).name (1 + units_of_fields (instance_fields (headers_of classes) above))
    (own_fields (headers_of classes) (header_of file).name)
    ++ (simple (Return None) ∷ [])

module _ {Q : Program} {classes : Classes} {links : Links} {constructor : Name → List ℕ} {shape : ℕ} {file : ClassFile}
    (is : IsConstructor Q classes links constructor shape file) where
  items_are : constructor_items (headers_of classes) (header_of file).name
      ≡ call_above (headers_of classes) (Some is.above) ++ own_items classes file is.above
  items_are =
      ap (λ (above : Option Name). call_above (headers_of classes) above
      ++ puts_from (header_of file).name (1 + units_of_fields (fields_above (headers_of classes) above))
      (own_fields (headers_of classes) (header_of file).name)
      ++ (simple (Return None) ∷ [])) is.has_above
      ∙ append_assoc (call_above (headers_of classes) (Some is.above))
      (puts_from (header_of file).name (1 + units_of_fields (instance_fields (headers_of classes) is.above))
      (own_fields (headers_of classes) (header_of file).name)) (simple (Return None) ∷ [])

  calls_highest_items : (rest : List CInstr) → bytes_eq is.above object ≡ true
      → call_above (headers_of classes) (Some is.above) ++ rest ≡ simple (Load kinds.Ref 0) ∷ calls_object ∷ rest
  calls_highest_items rest same = rw (same) refl

  calls_lower_items : (rest : List CInstr) → bytes_eq is.above object ≡ false
      → call_above (headers_of classes) (Some is.above) ++ rest
      ≡ simple (Load kinds.Ref 0)
      ∷ (loads_from 1 (instance_fields (headers_of classes) is.above) ++ (simple (Const imms.Null) ∷ calls_constructor is.above ∷ rest))
  calls_lower_items rest apart =
      rw (apart) (ap (λ (items : List CInstr). simple (Load kinds.Ref 0) ∷ items)
      (append_assoc (loads_from 1 (instance_fields (headers_of classes) is.above)) (simple (Const imms.Null) ∷ calls_constructor is.above ∷ []) rest))

  -- ---- its code

  abbrev code : Code
  code = constructor_code classes links constructor file

  has_code : code_at Q is.at ≡ Some code
  has_code = ap (option_and_then code_run) is.is_method

  -- ---- one call

  module _ (r : Run) (g : MethodState) (memory : Memory) (given behind rest : List Value) (reference : ℕ) (one : Object) (others : List RunFrame)
      (steps : ℕ)
      (a : AtConstructor Q (instance_fields (headers_of classes) (header_of file).name) shape
      (reference_of_constructor constructor (header_of file).name) r g memory given behind rest reference one) where
    abbrev values : List Value
    values = Ref reference ∷ (given ++ Null ∷ [])

    abbrev locals : Units
    locals = units_of_values values ++ replicate (code.locals - length (units_of_values values)) None

    abbrev tail : Units
    tail = replicate (code.locals - length (units_of_values values)) None

    abbrev count : ℕ
    count = arity a.point.op

    abbrev waiting : MethodState
    waiting = less count g

    abbrev fresh : MethodState
    fresh = frame_with Q is.at (units_of_values values) None

    as_many : count ≡ length values
    as_many =
        ap arity a.calls_it
        ∙ ap (λ (types : List FieldType). length types + 1) is.parameters
        ∙ lengths where
          fields : List Member
          fields = instance_fields (headers_of classes) (header_of file).name

          lengths : length (types_of fields ++ is.last ∷ []) + 1 ≡ suc (length (given ++ Null ∷ []))
          lengths =
              omega (
                arith,
                length-append (types_of fields) (is.last ∷ []),
                length-append given (Null ∷ []),
                length-map fields (λ (field : Member). type_of field.desc),
                fit_length fields given a.fit,
              )

    -- the call
    enters : Quietly Q (standing r (Method g ∷ others) memory steps) (standing r (Method fresh ∷ Method waiting ∷ others) memory (steps + 1))
    enters =
        quiet_call {Q = Q} {others = others} r g memory steps a.point is.at values a.goes a.is_point (subst WorksOnOperands (sym a.calls_it) tt)
        (ap (λ (s : List Value). nat_le count (length s)) a.stack ∙ operands_enough values rest count as_many)
        (ap (λ (s : List Value). work Q memory a.point.op (reverse (take count s))) a.stack
        ∙ ap (work Q memory a.point.op) (operands_back values rest count as_many)
        ∙ ap (λ (op : Op). work Q memory op values) a.calls_it
        ∙ calls_one is a.from memory reference one (given ++ Null ∷ []) a.is_there a.is_shape
        (ap (λ (types : List FieldType). have_kinds types (given ++ Null ∷ [])) is.parameters
        ∙ fit_kinds (instance_fields (headers_of classes) (header_of file).name) is.last given is.last_reference a.fit))
        (ap locking_of is.is_method)

    -- the return
    leaves : (f : MethodState) (later : Memory) (now : ℕ)
        → Stands Q classes links constructor file r a.goes (Method waiting ∷ others) code is.at has_code locals f [] (simple (Return None) ∷ [])
        → Quietly Q (standing r (Method f ∷ Method waiting ∷ others) later now) (standing r (Method (behind_call g rest) ∷ others) later (now + 1))
    leaves f later now stands =
        subst (λ (s : List Value). Quietly Q (standing r (Method f ∷ Method waiting ∷ others) later now)
        (standing r (Method (behind_call g s) ∷ others) later (now + 1)))
        (ap (drop count) a.stack ∙ operands_gone values rest count as_many)
        (quiet_return {Q = Q} {others = others} r f waiting later now (point_of Q classes links constructor file r a.goes (Method waiting ∷ others) code is.at has_code locals (simple (Return None)))
        (constructor_method classes links constructor file) a.goes
        (point_there Q classes links constructor file r a.goes (Method waiting ∷ others) code is.at has_code locals (simple (Return None)) [] f stands)
        refl (ap (run_method Q) stands.is_at ∙ is.is_method) refl stands.holds)

    -- ---- its values

    abbrev above_fields : List Member
    above_fields = instance_fields (headers_of classes) is.above

    abbrev own : List Member
    own = own_fields (headers_of classes) (header_of file).name

    cut : FitBoth above_fields own given
    cut = fit_both above_fields own given (subst (λ (fields : List Member). FitTypes (types_of fields) given) is.fields a.fit)

    was : CutInTwo (length cut.first) (length cut.second) a.before
    was =
        cut_in_two (length cut.first) (length cut.second) a.before
        (a.as_many ∙ ap length cut.are ∙ length-append cut.first cut.second)

    was_all : one.values ≡ was.first ++ (was.second ++ behind)
    was_all = a.values ∙ ap (λ (vs : List Value). vs ++ behind) was.are ∙ append_assoc was.first was.second behind

    units_first : drop 1 locals ≡ units_of_values cut.first ++ (units_of_values (cut.second ++ Null ∷ []) ++ tail)
    units_first =
        ap (λ (vs : List Value). units_of_values vs ++ tail)
        (ap (λ (vs : List Value). vs ++ Null ∷ []) cut.are ∙ append_assoc cut.first cut.second (Null ∷ []))
        ∙ ap (λ (us : Units). us ++ tail) (units_append cut.first (cut.second ++ Null ∷ []))
        ∙ append_assoc (units_of_values cut.first) (units_of_values (cut.second ++ Null ∷ [])) tail

    units_second : drop (1 + units_of_fields above_fields) locals ≡ units_of_values cut.second ++ (units_of_values (Null ∷ []) ++ tail)
    units_second =
        sym (drop-drop (units_of_fields above_fields) 1 locals)
        ∙ ap (drop (units_of_fields above_fields)) units_first
        ∙ units_behind above_fields cut.first (units_of_values (cut.second ++ Null ∷ []) ++ tail) cut.fit
        ∙ ap (λ (us : Units). us ++ tail) (units_append cut.second (Null ∷ []))
        ∙ append_assoc (units_of_values cut.second) (units_of_values (Null ∷ [])) tail

    -- ---- the body

    abbrev Here : MethodState → List Value → List CInstr → Type 0
    Here f stack items = Stands Q classes links constructor file r a.goes (Method waiting ∷ others) code is.at has_code locals f stack items

    abbrev To : MethodState → ℕ → Memory → Memory → List Value → List CInstr → Type 0
    To f now before after stack items =
        Reaches Q classes links constructor file r a.goes (Method waiting ∷ others) code is.at has_code locals f now before after stack items

    -- the superclass's fields have their values
    abbrev Halfway : Memory
    Halfway = filled memory reference one (cut.first ++ (was.second ++ behind))

    begins : Here fresh [] (call_above (headers_of classes) (Some is.above) ++ own_items classes file is.above)
    begins = record {
      is_at = refl;
      has_locals = rw (has_code) refl;
      has_stack = refl;
      holds = refl;
      has_items = ap (map (point_of Q classes links constructor file r a.goes (Method waiting ∷ others) code is.at has_code locals)) items_are;
    }

    at_highest : IsBelowObject Q classes shape is.above → (f : MethodState) (now : ℕ)
        → Here f [] (call_above (headers_of classes) (Some is.above) ++ own_items classes file is.above)
        → To f now memory Halfway [] (own_items classes file is.above)
    at_highest below f now here =
        subst (λ (m : Memory). To f now memory m [] (own_items classes file is.above)) (sym unchanged)
        (calls_top Q classes links constructor file r a.goes (Method waiting ∷ others) code is.at has_code locals memory reference one a.is_there
        a.is_shape refl below (own_items classes file is.above) f now
        (subst (Here f []) (calls_highest_items (own_items classes file is.above) below.is_object) here)) where
          none : cut.first ≡ []
          none = none_left cut.first (fit_length above_fields cut.first cut.fit ∙ ap length below.no_fields)

          none_before : was.first ≡ []
          none_before = none_left was.first (was.as_many ∙ ap length none)

          unchanged : Halfway ≡ memory
          unchanged =
              ap (λ (vs : List Value). filled memory reference one (vs ++ (was.second ++ behind))) (none ∙ sym none_before)
              ∙ ap (filled memory reference one) (sym was_all)
              ∙ filled_itself memory reference one a.is_there

    at_lower : bytes_eq is.above object ≡ false
        → FillsObjects Q above_fields shape (reference_of_constructor constructor is.above)
        → (f : MethodState) (now : ℕ)
        → Here f [] (call_above (headers_of classes) (Some is.above) ++ own_items classes file is.above)
        → To f now memory Halfway [] (own_items classes file is.above)
    at_lower apart fills f now here =
        then_reaches Q classes links constructor file r a.goes (Method waiting ∷ others) code is.at has_code locals f now memory
        (loads_one Q classes links constructor file r a.goes (Method waiting ∷ others) code is.at has_code locals kinds.Ref 0
        (loads_from 1 above_fields ++ to_call) (Ref reference) f now memory
        (subst (Here f []) (calls_lower_items (own_items classes file is.above) apart) here) refl refl)
        (λ f now here. then_reaches Q classes links constructor file r a.goes (Method waiting ∷ others) code is.at has_code locals f now memory
        (loads Q classes links constructor file r a.goes (Method waiting ∷ others) code is.at has_code locals above_fields cut.first 1
        (units_of_values (cut.second ++ Null ∷ []) ++ tail) (Ref reference ∷ []) to_call f now memory cut.fit units_first here)
        (λ f now here. then_reaches Q classes links constructor file r a.goes (Method waiting ∷ others) code is.at has_code locals f now memory
        (pushes_null Q classes links constructor file r a.goes (Method waiting ∷ others) code is.at has_code locals
        (calls_constructor is.above ∷ own_items classes file is.above) f now memory here)
        (λ f now here. calls_it f now here))) where
          to_call : List CInstr
          to_call = simple (Const imms.Null) ∷ calls_constructor is.above ∷ own_items classes file is.above

          calls_it : (f : MethodState) (now : ℕ)
              → Here f (Null ∷ (reverse cut.first ++ (Ref reference ∷ []))) (calls_constructor is.above ∷ own_items classes file is.above)
              → To f now memory Halfway [] (own_items classes file is.above)
          calls_it f now here =
              let goes_on = fills.fills r f memory cut.first (was.second ++ behind) [] reference one (Method waiting ∷ others) now (record {
                goes = a.goes;
                point = point_of Q classes links constructor file r a.goes (Method waiting ∷ others) code is.at has_code locals (calls_constructor is.above);
                is_point = point_there Q classes links constructor file r a.goes (Method waiting ∷ others) code is.at has_code locals
                    (calls_constructor is.above) (own_items classes file is.above) f here;
                from = special_start links (constructor_scope classes file) is.above;
                calls_it = refl;
                stack = here.has_stack ∙ pushed_all (Ref reference) cut.first [];
                fit = cut.fit;
                is_there = a.is_there;
                is_shape = a.is_shape;
                before = was.first;
                values = was_all;
                as_many = was.as_many;
              }) in
              record {
                after = behind_call f [];
                then_steps = goes_on.then_steps;
                quietly = goes_on.quietly;
                stands = behind_it Q classes links constructor file r a.goes (Method waiting ∷ others) code is.at has_code locals
                    (calls_constructor is.above) (own_items classes file is.above) f (behind_call f []) here refl refl refl refl refl;
              }

    runs : ((f : MethodState) (now : ℕ)
        → Here f [] (call_above (headers_of classes) (Some is.above) ++ own_items classes file is.above)
        → To f now memory Halfway [] (own_items classes file is.above))
        → GoesOn Q r others memory (filled memory reference one (given ++ behind)) g (behind_call g rest) steps
    runs first_part = record {
      then_steps = body.then_steps + 1;
      quietly = quietly_then enters (quietly_then body.quietly (leaves body.after (filled memory reference one (given ++ behind)) body.then_steps body.stands));
    } where
      all_given : cut.first ++ (cut.second ++ behind) ≡ given ++ behind
      all_given = sym (append_assoc cut.first cut.second behind) ∙ ap (λ (vs : List Value). vs ++ behind) (sym cut.are)

      body : To fresh (steps + 1) memory (filled memory reference one (given ++ behind)) [] (simple (Return None) ∷ [])
      body =
          subst (λ (vs : List Value). To fresh (steps + 1) memory (filled memory reference one vs) [] (simple (Return None) ∷ [])) all_given
          (then_reaches Q classes links constructor file r a.goes (Method waiting ∷ others) code is.at has_code locals fresh (steps + 1) memory
          (first_part fresh (steps + 1) begins)
          (λ f now here. stores Q classes links constructor file r a.goes (Method waiting ∷ others) code is.at has_code locals memory reference one
          a.is_there a.is_shape refl own cut.second was.second (1 + units_of_fields above_fields) (units_of_values (Null ∷ []) ++ tail)
          (simple (Return None) ∷ []) cut.first behind (length above_fields) is.number f now is.own is.of_folder is.conforms cut.fit_also
          (fit_length above_fields cut.first cut.fit) was.as_many_also units_second here))

-- ---- each class

-- Where a class and those above it have their field constructors, that of the class fills objects.
pub constructor_fills : {Q : Program} {classes : Classes} {links : Links} {constructor : Name → List ℕ} {shape : ℕ} {class : Name}
    → HasConstructors Q classes links constructor shape class
    → FillsObjects Q (instance_fields (headers_of classes) class) shape (reference_of_constructor constructor class)
constructor_fills (highest file is below) = record {
  fills = λ r g memory given behind rest reference one others steps a.
      runs is r g memory given behind rest reference one others steps a (at_highest is r g memory given behind rest reference one others steps a below);
}
constructor_fills (lower file is apart above) =
    let fills = constructor_fills above in
    record {
      fills = λ r g memory given behind rest reference one others steps a.
          runs is r g memory given behind rest reference one others steps a
          (at_lower is r g memory given behind rest reference one others steps a apart fills);
    }
