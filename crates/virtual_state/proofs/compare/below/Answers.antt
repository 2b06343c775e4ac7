use Rattle.std.proofs.Common.{◌≡◌, List, map, sym, subst}
use Rattle.std.proofs.lemmas.Bool.{both_ways, false≢true}
use Rattle.virtual_state.proofs.Comparisons.{below_fits, fits_below}
use Rattle.virtual_state.specs.Inner.Comparing.{ObjectsFit, absent_from}
use Rattle.virtual_state.specs.Without.{made_plain}
use Rattle.virtual_state.specs.declared.slot.VObject.{VObject}
use Rattle.virtual_state.proofs.compare.below.Goals as goal

pub returns-then-slots : goal.returns-then-slots
returns-then-slots c =
    let state = c.args.state.now in
    let other = c.args.other.now in
    let slots : other.slots ≡ map (made_plain (absent_from other.objects)) state.slots = c.places_fit-slots.ensures.0 c.if-slots.true in (
      λ fits.
          let left = subst (λ (list : List VObject). ObjectsFit list c.objects-then-slots.result.now) c.objects.ensures (c.objects_fit.ensures.0 fits) in
          fits_below state other c.is_state.ensures c.is_state-2.ensures slots (subst (ObjectsFit state.objects) c.objects-then-slots.ensures left),
      λ below.
          let both = (below_fits state other c.is_state.ensures below).1 in
          let left = subst (ObjectsFit state.objects) (sym c.objects-then-slots.ensures) both in
          c.objects_fit.ensures.1 (subst (λ (list : List VObject). ObjectsFit list c.objects-then-slots.result.now) (sym c.objects.ensures) left),
    )

pub returns-else-slots : goal.returns-else-slots
returns-else-slots c =
    let state = c.args.state.now in
    let other = c.args.other.now in (
      λ never. absurd (false≢true never),
      λ below.
          let slots = (below_fits state other c.is_state.ensures below).0 in
          absurd (both_ways c.places_fit-slots.result c.if-slots.false (c.places_fit-slots.ensures.1 slots)),
    )
