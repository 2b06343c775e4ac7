-- The instructions of a method stand by increasing offset.
use Rattle.std.proofs.Common.{◌≡◌, ◌<◌, ◌+◌, List, [], ◌∷◌, map, arith}
use Rattle.std.specs.List.{AllByRecursion}
use Rattle.class_model.specs.Laws.Lists.{AllByRecursion-weaker}
use Rattle.class_model.specs.declared.instr.Placed.{Placed}
use Rattle.member_link.specs.BodyTyping.{AreInOrder}
use Rattle.member_link.specs.Scope.{Scope}
use Rattle.type_rules.specs.MethodBodies.{point_of}

abbrev pub Ascend : List Placed → Type 0
Ascend [] = Unit {0}
Ascend (p ∷ ps) = AllByRecursion (λ (q : Placed). p.at < q.at) ps × Ascend ps

pub ascend : (s : Scope) (ps : List Placed) → AreInOrder (map (point_of s) ps) → Ascend ps
ascend s [] order = tt
ascend s (p ∷ []) order = (tt, tt)
ascend s (p ∷ (q ∷ ps)) order =
    let rest : Ascend (q ∷ ps) = ascend s (q ∷ ps) order.2 in
    let one : p.at < p.at + p.len = order.0 in
    let same : q.at ≡ p.at + p.len = order.1 in
    let before : p.at < q.at = omega (arith, one, same) in (
      (
        before,
        AllByRecursion-weaker (λ (r : Placed). q.at < r.at) (λ (r : Placed). p.at < r.at) (λ r is. omega (arith, before, is)) ps
            rest.0,
      ),
      rest,
    )
