use Rattle.std.proofs.Common.{◌≡◌, ◌+◌, ◌++◌, ◌∙◌, ℕ, List, ap, arith}
use Rattle.flow_code.specs.WrittenUnits.{field_units}
use Rattle.flow_code.specs.declared.point.Site.{Site}
use Rattle.making_code.specs.StateFrames.{local_types_from, site_types_from}
use Rattle.written_frames.proofs.FewUnits.{own_few}
use Rattle.written_frames.proofs.FieldUnits.{behind_fits, whole_locals}
use Rattle.written_frames.proofs.locals.written_locals.Goals as goal

pub push_sites-requires-clause-room : goal.push_sites-requires-clause-room
push_sites-requires-clause-room c =
    let own = c.in_ok-locals.locals in
    let few = own_few c.args.flat.now c.args.types.now own c.args.state.now.slots c.in_ok-locals.ensures c.requires.few in
    let sites : field_units c.as_slice.result.now ≡ field_units c.args.flat.now.sites = ap field_units (c.as_slice.ensures ∙ c.sites.ensures) in
    omega (arith, few, sites, c.requires.room.few)

pub overflow_add-len : goal.overflow_add-len
overflow_add-len c =
    let own = c.in_ok-locals.locals in
    let state = c.args.state.now in
    let few = own_few c.args.flat.now c.args.types.now own state.slots c.in_ok-locals.ensures c.requires.few in
    let is : c.push_sites.new.locals ≡ own ++ site_types_from state 0 c.args.flat.now.sites =
    c.in_ok-push_sites.ensures ∙ ap (λ (list : List Site). own ++ site_types_from state 0 list) (c.as_slice.ensures ∙ c.sites.ensures) in
    let fits = behind_fits c.args.flat.now state c.args.behind own c.push_sites.new.locals c.requires.room few is in
    omega (arith, fits, c.len.ensures)

pub returns : goal.returns
returns c =
    let own = c.in_ok-locals.locals in
    let state = c.args.state.now in
    let is : c.push_sites.new.locals ≡ own ++ site_types_from state 0 c.args.flat.now.sites =
    c.in_ok-push_sites.ensures ∙ ap (λ (list : List Site). own ++ site_types_from state 0 list) (c.as_slice.ensures ∙ c.sites.ensures) in
    whole_locals c.args.flat.now state c.args.behind (c.len.result + c.args.behind) own (local_types_from c.args.flat.now c.args.types.now state.slots)
    c.push_sites.new.locals c.fill.new.self c.requires.room c.in_ok-locals.ensures is (ap (λ (n : ℕ). n + c.args.behind) c.len.ensures) c.fill.ensures
