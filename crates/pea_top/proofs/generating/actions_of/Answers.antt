use Rattle.pea_top.proofs.generating.actions_of.Goals as goal

-- a script has no line outside the grammar
pub unreachable-requires : goal.unreachable-requires
unreachable-requires c =
    let first = rw c.in-Err-BadScript.field-0-is at c.in-Err-BadScript.ensures.fault in
    c.a_script_has_no_line_outside.ensures.not_both c.args.script.now c.requires.0 _ c.requires.1 first
