use Rattle.std.proofs.Common.{refl, sym, ◌∙◌}
use Rattle.std.proofs.lemmas.Bool.{false≢true}
use Rattle.pea_top.proofs.FileReads.{good_other, good_class}
use Rattle.pea_top.proofs.reading.file_of.Goals as goal

pub returns-then-not-is_class_file-clause-file : goal.returns-then-not-is_class_file-clause-file
returns-then-not-is_class_file-clause-file c = λ folder there.
    (refl, good_other folder c.args.name c.args.bytes there (sym c.is_class_file.ensures ∙ c.if-not-is_class_file.true))

pub returns-in_ok-bytes-in-Ok-clause-file : goal.returns-in_ok-bytes-in-Ok-clause-file
returns-in_ok-bytes-in-Ok-clause-file c = λ folder there.
    let named = sym c.is_class_file.ensures ∙ c.if-not-is_class_file.false in
    rw c.in_ok-bytes-in-Ok.ensures (refl, good_class folder c.args.name c.args.bytes there c.in-Ok.class named c.in-Ok.ensures.class c.in-Ok.ensures.not_refused)

pub returns-then-not-is_class_file-clause-pair : goal.returns-then-not-is_class_file-clause-pair
returns-then-not-is_class_file-clause-pair c = λ named. false≢true (sym (sym c.is_class_file.ensures ∙ c.if-not-is_class_file.true) ∙ named)

pub returns-in_ok-bytes-in-Ok-clause-pair : goal.returns-in_ok-bytes-in-Ok-clause-pair
returns-in_ok-bytes-in-Ok-clause-pair c =
    let named = sym c.is_class_file.ensures ∙ c.if-not-is_class_file.false in
    rw c.in_ok-bytes-in-Ok.ensures (record { named = named; is = c.in-Ok.ensures.class; spelled = c.in-Ok.ensures.spelled; fits = c.in-Ok.ensures.fits })
