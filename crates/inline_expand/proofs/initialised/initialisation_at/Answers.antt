use Rattle.std.proofs.Common.{◌≡◌, List, ℕ, ap, sym, ◌∙◌, Some, rules}
use Rattle.std.specs.Option.{option_copied, option_map}
use Rattle.class_model.specs.Names.{init}
use Rattle.class_model.specs.declared.frame.VType.{VType}
use Rattle.class_model.specs.declared.opcodes.TheConstants.{INVOKESPECIAL}
use Rattle.expanded_code.specs.Callees.{frame_before}
use Rattle.inline_expand.proofs.Initialisations.{top_is_none, with_object}
use Rattle.inline_expand.proofs.initialised.initialisation_at.Goals as goal
use Rattle.inline_expand.specs.Inner.Calls.{call_at, call_meant}
use Rattle.inline_expand.specs.Inner.Initialised.{object_of}
use Rattle.member_link.specs.Rows.MemberRows.{receiver}

pub returns : goal.returns
returns c =
    let s = c.args.method.now.host in let frames = c.args.method.now.frames.now in let call = call_meant c.in-Some.call in
    let read : call_at s c.args.at ≡ Some call = sym c.call_at.ensures ∙ ap (option_map call_meant) c.in-Some.is in
    let special : call.opcode ≡ INVOKESPECIAL = search rules in
    let named : call.reference.name ≡ init = search rules in
    let before : frame_before s frames c.args.at ≡ Some c.in-Some-frame_before.frame.now = sym c.frame_before.ensures ∙ ap option_copied c.in-Some-frame_before.is in
    let on : object_of (Some (receiver c.in-Some-frame_before.frame.now call.reference.desc)) ≡ Some c.in-Some-object_of.object =
    ap (λ (desc : List ℕ). object_of (Some (receiver c.in-Some-frame_before.frame.now desc))) (sym c.bytes-2.ensures.same)
    ∙ ap (λ (type : VType). object_of (Some type)) (sym c.receiver.ensures)
    ∙ sym (top_is_none (option_copied c.receiver.result))
    ∙ sym c.object_of.ensures ∙ c.in-Some-object_of.is in
    record {
      reference = call.reference;
      is = with_object s frames c.args.at call read c.in-Some-frame_before.frame.now c.in-Some-object_of.object special named before on;
      class = search rules;
    }
