use Rattle.class_rewrite.proofs.finished.extended_if.Goals as goal

pub extended-requires-clause-can : goal.extended-requires-clause-can
extended-requires-clause-can c = λ header there. c.requires.can header c.if-extends.true there
