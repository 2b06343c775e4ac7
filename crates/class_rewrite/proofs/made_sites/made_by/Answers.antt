use Rattle.std.proofs.Common.{◌∙◌, [], ap, arith, length, subst}
use Rattle.class_rewrite.proofs.made_sites.made_by.Goals as goal
use Rattle.class_rewrite.specs.Inner.MadeSites.{IsNoted, classes_of, made_to}

pub returns : goal.returns
returns c =
    let noted : IsNoted (record { count = 0; sites = [] }) (made_to (length c.args.flat.now.points) c.args.plan.now) c.note_points.new.making =
    subst (λ count. IsNoted (record { count = 0; sites = [] }) (made_to count c.args.plan.now) c.note_points.new.making) c.len.ensures.len
    (subst (λ sites. IsNoted (record { count = 0; sites = sites }) (made_to c.len.result c.args.plan.now) c.note_points.new.making) c.new.ensures
    c.in_ok-note_points.ensures) in
    record {
      sites = c.note_points.new.making.sites;
      same = noted.sites;
      count = λ few. let counted = noted.count (omega (arith, few)) in omega (arith, counted);
      names = c.in_ok-names.ensures
          ∙ ap (λ sites. classes_of sites c.as_slice.result.now) c.sites.ensures
          ∙ ap (classes_of c.args.flat.now.sites) c.as_slice.ensures.sites;
    }
