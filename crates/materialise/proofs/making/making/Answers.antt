use Rattle.std.proofs.Common.{rules, ◌≡◌, ℕ, List, [], map, ap, subst, ◌∙◌}
use Rattle.std.specs.List.{flat_map}
use Rattle.std.specs.Result.{IsErrOf}
use Rattle.class_model.specs.declared.instr.Instr.{Instr}
use Rattle.class_tree.specs.Headers.{Name}
use Rattle.flow_code.specs.FlatCode.{FlatCode}
use Rattle.flow_code.specs.declared.reason.KeptFault.TheVariants.{Kept}
use Rattle.making_code.specs.IndexedMaking.{all_making_needs}
use Rattle.making_code.specs.MakeCode.{entries_at, from_lowest, make_one}
use Rattle.materialise.proofs.MadeLaws.{full_code, written_code}
use Rattle.materialise.proofs.making.making.Goals as goal
use Rattle.materialise.specs.Growing.{IsFull}
use Rattle.materialise.specs.Inner.CodeWords.{Makes, Writes}
use Rattle.materialise.specs.Inner.StackWords.{copying, entry_meant, saving}
use Rattle.materialise.specs.MadeCode.{DescribesConstructors}
use Rattle.materialise.specs.declared.stack.StackEntry.{StackEntry}

pub returns-in_err-make_objects-clause-full : goal.returns-in_err-make_objects-clause-full
returns-in_err-make_objects-clause-full c = λ reason constructor order is described is_order.
    let flat = c.args.units.now in
    let state = c.args.state.now in
    let sites = c.args.sites.now in
    let entries = c.in_ok-entries.entries.items in
    let gathered : map entry_meant entries ≡ from_lowest sites (entries_at flat c.args.at state) =
    c.in_ok-entries.ensures ∙ ap (λ (f : FlatCode). from_lowest sites (entries_at f c.args.at state)) c.flat.ensures.flat in
    let fails : IsErrOf c.make_objects.result (Kept reason) = search rules in
    full_code flat c.args.at state sites entries gathered constructor c.args.pool.now reason c.in_ok-order.order order c.in_ok-order.ensures is_order
    (subst (λ (own : List ℕ). IsFull c.args.pool.now (all_making_needs constructor (flat_map (make_one flat state) own)) reason) c.as_slice-2.ensures
    (c.make_objects.ensures.full reason constructor fails described))

pub returns-clause-ok : goal.returns-clause-ok
returns-clause-ok c =
    let flat = c.args.units.now in
    let state = c.args.state.now in
    let sites = c.args.sites.now in
    let entries = c.in_ok-entries.entries.items in
    let gathered : map entry_meant entries ≡ from_lowest sites (entries_at flat c.args.at state) =
    c.in_ok-entries.ensures ∙ ap (λ (f : FlatCode). from_lowest sites (entries_at f c.args.at state)) c.flat.ensures.flat in
    let saves = c.save_plain.new.instrs.items in
    let makes = c.make_objects.new.instrs.items in
    let copies = c.copy_objects.new.instrs.items in
    let one : Writes flat [] (saving entries) saves =
    subst (λ (before : List Instr). Writes flat before (saving entries) saves) c.new-instrs.ensures.items
    (subst (λ (list : List StackEntry). Writes flat c.new-instrs.result.items (saving list) saves) c.as_slice.ensures.value c.in_ok-save_plain.ensures) in
    let two : (constructor : Name → List ℕ) → DescribesConstructors c.args.constructors.now constructor
    → Makes flat constructor c.args.pool.now saves (flat_map (make_one flat state) c.in_ok-order.order) c.make_objects.new.pool makes =
    λ constructor described.
    subst (λ (own : List ℕ). Makes flat constructor c.args.pool.now saves (flat_map (make_one flat state) own) c.make_objects.new.pool makes) c.as_slice-2.ensures
    (c.in_ok-make_objects.ensures.ok constructor described) in
    let three : Writes flat makes (copying flat c.args.at state sites entries) copies =
    subst (λ (list : List StackEntry). Writes flat makes (copying flat c.args.at state sites list) copies) c.as_slice-3.ensures.value c.in_ok-copy_objects.ensures in
    written_code flat c.args.at state sites entries gathered c.args.constructors.now c.args.pool.now c.make_objects.new.pool c.in_ok-order.order saves makes copies
    c.requires.can c.is_state.ensures c.in_ok-order.ensures one two three
