use Rattle.std.proofs.Common.{◌≡◌, ◌-◌, ◌≤◌, ◌++◌, length, drop, replicate, ap, ◌∙◌, arith, length-append}
use Rattle.std.proofs.lemmas.List.{length-replicate}
use Rattle.class_model.specs.Frames.{depth, units_of_entries}
use Rattle.class_model.specs.declared.frame.VType.TheVariants.{Top}
use Rattle.map_frames.proofs.UnitsFollow.{Turn, turn, changed_are, room, followed, on_ok-same}
use Rattle.map_frames.proofs.entries.Entries.follow.Goals as goal
use Rattle.map_frames.proofs.entries.Entries.follow.Goals.{After-len}

turned : (c : After-len) → Turn c.args.max_locals c.args.kept c.args.before c.args.self.now c.args.locals.now
turned c = turn c.args.max_locals c.args.kept c.args.before c.args.self.now c.args.locals.now c.requires

units_are : (c : After-len) → c.self.inside.units ≡ depth c.args.self.now
units_are c = c.self.invariant ∙ ap depth c.self.view_is

behind_kept : (c : After-len) → c.in_ok-changed.changed ≡ units_of_entries (drop c.args.kept c.args.self.now)
behind_kept c = changed_are c.args.kept c.args.self.now c.deref.result.now c.in_ok-changed.changed (c.deref.ensures.value ∙ c.self.view_is) c.in_ok-changed.ensures

behind_len : (c : After-len) → c.len.result ≡ depth (drop c.args.kept c.args.self.now)
behind_len c = c.len.ensures ∙ ap length (behind_kept c)

all_fit : (c : After-len) → c.args.before ≤ c.args.max_locals
all_fit c = omega arith

pub overflow_sub-from : goal.overflow_sub-from
overflow_sub-from c = let t = turned (goal.at.overflow_sub-from c).After-len in omega (arith, behind_len (goal.at.overflow_sub-from c).After-len, units_are (goal.at.overflow_sub-from c).After-len, t.lengths)

pub overflow_sub-before : goal.overflow_sub-before
overflow_sub-before c =
    let k = (goal.at.overflow_sub-before c).After-len in
    let t = turned k in
    omega (arith, behind_len k, units_are k, t.lengths, t.before_is)

pub overwrite-requires-clause-within : goal.overwrite-requires-clause-within
overwrite-requires-clause-within c =
    let k = (goal.at.overwrite-requires-clause-within c).After-len in
    let t = turned k in
    let width = ap length c.fill.ensures ∙ length-append c.in_ok-changed.changed (replicate (c.args.before - (c.self.inside.units - c.len.result) - length c.in_ok-changed.changed) Top) in
    omega (
      arith,
      width,
      length-replicate (c.args.before - (c.self.inside.units - c.len.result) - length c.in_ok-changed.changed) Top,
      room t (all_fit k),
      behind_len k,
      c.len.ensures,
      units_are k,
      t.lengths,
      t.before_is,
      c.requires.fits,
    )

pub returns : goal.returns
returns c =
    let k = (goal.at.returns c).After-len in
    let from : c.self.inside.units - c.len.result ≡ depth c.args.self.now - depth (drop c.args.kept c.args.self.now) = omega (arith, behind_len k, units_are k) in
    let changed : c.fill.new.self ≡ units_of_entries (drop c.args.kept c.args.self.now) ++ replicate (c.args.before - (c.self.inside.units - c.len.result) - depth (drop c.args.kept c.args.self.now)) Top =
    rw (behind_kept k) at c.fill.ensures in
    on_ok-same c.overwrite.result c.overwrite.new.units _ _ (followed c.args.max_locals c.args.kept c.args.before (c.self.inside.units - c.len.result) c.args.self.now c.args.locals.now c.fill.new.self c.requires (all_fit k) from changed)
    c.overwrite.ensures
