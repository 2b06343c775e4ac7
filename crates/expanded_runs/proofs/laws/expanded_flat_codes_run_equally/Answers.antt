use Rattle.std.proofs.Common.{subst}
use Rattle.class_tree.specs.Hierarchy.{IsHierarchy}
use Rattle.expanded_runs.proofs.Runs.Assembled.{RunLaws, expanded_runs_equally}
use Rattle.expanded_runs.proofs.Runs.CallTargets.{headers_are}
use Rattle.expanded_runs.proofs.Runs.Setup.{IsSetup, Setup}
use Rattle.expanded_runs.proofs.laws.expanded_flat_codes_run_equally.Goals as goal

pub returns : goal.returns
returns c = λ classes typed links typings flats r tree types linked program has expanded replaces.
    let laws : RunLaws = record {
      code = record {
        operands = c.a_class_file_has_read_methods.ensures.operands;
        order = c.a_method_stands_in_order.ensures.order;
      };
      each = c.a_typed_folder_types_each_method.ensures;
      one = c.a_typed_method_types_each_instruction.ensures.count;
      bars = record {
        each_method = c.a_typed_folder_types_each_method.ensures;
        one_each = c.a_typed_method_types_each_instruction.ensures.count;
        each_instr = c.a_typed_method_types_each_instruction.ensures.each;
        fields = record { above = c.a_found_field_is_above.ensures; one = c.a_look_up_finds_one_field.ensures };
      };
      calls = record {
        finds_one = c.a_look_up_finds_one_method.ensures;
        finds_above = c.a_found_method_is_above.ensures;
        chooses_one = c.a_selection_chooses_one.ensures;
        runnable = c.a_choice_can_be_run.ensures;
        consecutive = c.instructions_are_consecutive.ensures;
        methods = c.a_typed_folder_types_each_method.ensures;
        instrs = c.a_typed_method_types_each_instruction.ensures.each;
        steps = c.a_step_stays_typed.ensures;
      };
      starts = c.a_run_starts_typed.ensures;
      acts = c.an_action_stays_typed.ensures;
    } in
    let u : Setup = record { classes = classes; typed = typed; links = links; flats = flats; r = r; typings = typings } in
    let is : IsSetup u = record {
      tree = tree;
      hierarchy = subst IsHierarchy (headers_are classes links) program.hierarchy;
      linked = linked;
      types = types;
      expanded = expanded;
      replaces = replaces;
      program = program;
      typings = has;
    } in
    expanded_runs_equally u is laws
