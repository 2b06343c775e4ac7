use Rattle.std.proofs.Common.{sym, ◌∙◌, inl, inr}
use Rattle.std.proofs.lemmas.Bool.{false≢true}
use Rattle.class_tree.specs.Headers.{headers_of}
use Rattle.inline_expand.proofs.FinalClasses.{IsStoredFor, stores_none, stores_not, stores_there}
use Rattle.inline_expand.proofs.final_stores.stored_class.Goals as goal

pub returns-in_default : goal.returns-in_default
returns-in_default c = λ found. stores_none (headers_of c.args.tree.now) c.args.class.now c.args.number c.args.index c.final_class.result c.final_class.ensures c.in_default.is found

pub returns-then-found-number : goal.returns-then-found-number
returns-then-found-number c = λ found.
    let stored : IsStoredFor (headers_of c.args.tree.now) c.args.class.now c.args.number c.args.index c.final_class.result c.final_class.ensures c.in-Some.found =
    elim c.if-found-number.either [
      | inl is ↦ inl (sym c.requires.is_elsewhere ∙ is)
      | inr other ↦ elim c.else-not-is_elsewhere.either [
        | inl by ↦ inr (sym c.requires.by_initialiser ∙ by.1, λ same. other.1 (sym same))
        | inr is ↦ inl (sym c.requires.is_elsewhere ∙ is)
      ]
    ] in
    stores_there (headers_of c.args.tree.now) c.args.class.now c.args.number c.args.index c.final_class.result c.final_class.ensures c.in-Some.found c.in-Some.is stored found

pub returns-else-found-number : goal.returns-else-found-number
returns-else-found-number c = λ found.
    let never : ¬ IsStoredFor (headers_of c.args.tree.now) c.args.class.now c.args.number c.args.index c.final_class.result c.final_class.ensures c.in-Some.found =
    λ stored. elim stored [
      | inl is ↦ false≢true (sym c.if-found-number.false.0 ∙ c.requires.is_elsewhere ∙ is)
      | inr by ↦ by.1 (sym c.if-found-number.false.1)
    ] in
    stores_not (headers_of c.args.tree.now) c.args.class.now c.args.number c.args.index c.final_class.result c.final_class.ensures c.in-Some.found c.in-Some.is never found
