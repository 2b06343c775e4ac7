use Rattle.std.proofs.Common.{◌≡◌, Some, refl, sym, subst}
use Rattle.class_model.specs.PoolChecks.{utf8_at}
use Rattle.class_bytes.specs.Inner.TextNumbers.{Numbers, Grows}
use Rattle.class_bytes.proofs.Numbering.{grows_put, known_put, number_put}
use Rattle.class_bytes.proofs.text_numbers.TextNumbers.find_or_add.Goals as goal

pub invariant_of-self-2 : goal.invariant_of-self-2
invariant_of-self-2 c =
    let i = c.self.inside in
    let stands = subst (λ (all : Numbers). utf8_at all.pool c.args.index ≡ Some c.args.text.now) (sym c.self.view_is) c.requires in
    known_put _ _ c.args.text.now c.args.index (record {
      same = refl;
      stands = stands;
      new = sym c.in_default.ensures.value;
      numbers = λ other. c.in_ok-insert.ensures.updates.0 (record { ref_ptr = (0, 0); now = other });
    }) i.known.items c.self.invariant

pub returns-clause-grows : goal.returns-clause-grows
returns-clause-grows c =
    let i = c.self.inside in
    let after : Numbers = record { pool = i.pool.now; entries = c.insert.new.self.entries } in
    let stands = subst (λ (all : Numbers). utf8_at all.pool c.args.index ≡ Some c.args.text.now) (sym c.self.view_is) c.requires in
    subst (λ (all : Numbers). Grows all after) c.self.view_is
    (grows_put _ after c.args.text.now c.args.index (record {
      same = refl;
      stands = stands;
      new = sym c.in_default.ensures.value;
      numbers = λ other. c.in_ok-insert.ensures.updates.0 (record { ref_ptr = (0, 0); now = other });
    }) i.known.items c.self.invariant)

pub returns-clause-number : goal.returns-clause-number
returns-clause-number c =
    let i = c.self.inside in
    let stands = subst (λ (all : Numbers). utf8_at all.pool c.args.index ≡ Some c.args.text.now) (sym c.self.view_is) c.requires in
    number_put (record { pool = i.pool.now; entries = i.numbers.entries }) _ c.args.text.now c.args.index (record {
      same = refl;
      stands = stands;
      new = sym c.in_default.ensures.value;
      numbers = λ other. c.in_ok-insert.ensures.updates.0 (record { ref_ptr = (0, 0); now = other });
    }) i.known.items c.self.invariant
