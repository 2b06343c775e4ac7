use Rattle.std.proofs.Common.{◌++◌}
use Rattle.std.specs.List.{flat_map}
use Rattle.flow_code.specs.FlatCode.{point_at}
use Rattle.making_code.specs.MakeCode.{copy_locals_from, copy_object, load_entry, local_slots_in}
use Rattle.materialise.proofs.CodeLaws.{writes_both}
use Rattle.materialise.proofs.making.copy_objects.Goals as goal
use Rattle.materialise.specs.Inner.StackWords.{entry_meant}

pub returns : goal.returns
returns c =
    let flat = c.args.units.now in
    let sites = c.args.sites.now in
    let locals = copy_locals_from sites 0 (local_slots_in (point_at flat c.args.at) c.args.state.now) in
    let objects = flat_map (copy_object sites) c.args.state.now.objects in
    writes_both flat c.args.instrs.now.items c.copy_to_fields.new.instrs.items c.load_entries.new.instrs.items (locals ++ objects) (flat_map (λ entry. load_entry sites (entry_meant entry)) c.args.entries.now)
    (writes_both flat c.args.instrs.now.items c.copy_to_locals.new.instrs.items c.copy_to_fields.new.instrs.items locals objects c.in_ok-copy_to_locals.ensures c.in_ok-copy_to_fields.ensures)
    c.in_ok-load_entries.ensures
