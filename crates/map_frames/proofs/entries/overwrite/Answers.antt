use Rattle.std.proofs.Common.{◌≡◌, ℕ, ◌+◌, ◌≤◌, List, ◌++◌, length, take, drop, None, Some, ap, sym, ◌∙◌, arith}
use Rattle.std.proofs.Math.ListN.{set}
use Rattle.std.proofs.Math.Seq.{take-length, paste}
use Rattle.std.specs.List.{slice_get}
use Rattle.std.proofs.lemmas.List.Edits.{paste_more}
use Rattle.std.proofs.lemmas.Option.{slice_get_within, get_or_from_slice_get}
use Rattle.class_model.specs.Laws.Lists.{none_behind}
use Rattle.class_model.specs.declared.frame.VType.{VType}
use Rattle.map_frames.proofs.entries.overwrite.Goals as goal

-- one unit more
next_pasted : (units others now after : List VType) (from at : ℕ) (unit copy : VType) → from + length others ≤ length units → slice_get others at ≡ Some unit → copy ≡ unit
    → now ≡ paste units from others at → after ≡ set now (from + at) copy → after ≡ paste units from others (at + 1)
next_pasted units others now after from at unit copy within is same so_far written =
    let lt = slice_get_within others at unit is in
    let one = same ∙ sym (get_or_from_slice_get others at unit unit is) in
    written ∙ ap (λ (l : List VType). set l (from + at) copy) so_far ∙ ap (set (paste units from others at) (from + at)) one ∙ paste_more units from others at unit (omega arith) lt

all_pasted : (units others : List VType) (from at : ℕ) → at ≡ length others → paste units from others at ≡ take from units ++ others ++ drop (from + length others) units
all_pasted units others from at is =
    ap (paste units from others) is ∙ ap (λ (l : List VType). take from units ++ l ++ drop (from + length others) units) (take-length others)

pub loop-unit-preserved : goal.loop-unit-preserved
loop-unit-preserved c =
    let found : slice_get c.args.others.now c.loop-unit.at ≡ Some c.in-Some.unit.now = sym c.in-Some.ensures in
    record {
      written = next_pasted c.args.units.now c.args.others.now c.loop-unit.units c.set.new.self c.args.from c.loop-unit.at c.in-Some.unit.now c.in_ok-copy.field-0 c.requires.within found c.in_ok-copy.ensures c.loop-unit.invariant.written c.in_ok-set.ensures.ok;
      within = omega (arith, slice_get_within c.args.others.now c.loop-unit.at c.in-Some.unit.now found);
    }

pub returns : goal.returns
returns c =
    let none : slice_get c.args.others.now c.loop-unit.at ≡ None = sym c.in_default.ensures in
    let all : c.loop-unit.at ≡ length c.args.others.now = omega (arith, none_behind c.args.others.now c.loop-unit.at none) in
    c.loop-unit.invariant.written ∙ all_pasted c.args.units.now c.args.others.now c.args.from c.loop-unit.at all
