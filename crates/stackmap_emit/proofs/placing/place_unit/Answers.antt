use Rattle.std.proofs.Common.{◌≡◌, ◌∙◌, ℕ, Option, ap, sym}
use Rattle.class_model.specs.declared.frame.VType.TheVariants.{Uninit}
use Rattle.stackmap_emit.proofs.PlacedUnits.{placed_next, placed_same}
use Rattle.stackmap_emit.proofs.placing.place_unit.Goals as goal
use Rattle.stackmap_emit.specs.Inner.PlacedUnits.{number_by, numbered}
use Rattle.stackmap_emit.specs.PlacedFrames.{type_at}

pub returns-in_ok-set : goal.returns-in_ok-set
returns-in_ok-set c =
    let start = number_by c.args.starts.now.numbers.now c.args.starts.now.other in
    let type = c.args.unit.now in
    let offset : Uninit c.start_at.result ≡ Uninit (start c.in-Some.number) = ap (λ (n : ℕ). Uninit n) c.start_at.ensures in
    let read : type_at start type ≡ Uninit (start c.in-Some.number) = c.number_of.ensures start ∙ ap (λ (number : Option ℕ). numbered start number type) c.in-Some.is in
    placed_next start c.args.units.now c.args.at c.args.placed.now c.set.new.self type (Uninit c.start_at.result) c.requires.unit c.requires.there
    (offset ∙ sym read) c.in_ok-set.ensures.ok c.requires.before

pub returns-in_default : goal.returns-in_default
returns-in_default c =
    let start = number_by c.args.starts.now.numbers.now c.args.starts.now.other in
    let type = c.args.unit.now in
    placed_same start c.args.units.now c.args.at c.args.placed.now type c.requires.unit c.requires.there
    (sym (c.number_of.ensures start ∙ ap (λ (number : Option ℕ). numbered start number type) c.in_default.is)) c.requires.before
