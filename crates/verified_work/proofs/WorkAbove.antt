-- No class of generated work or of its library is above itself.
use Rattle.std.proofs.Common.{◌≡◌, ◌<◌, ℕ, Bool, true, false, List, [], ◌∷◌, Some, IfSome, cond, bytes_eq, refl, subst, arith}
use Rattle.std.specs.List.{AllByRecursion, list_any}
use Rattle.std.specs.Prelude.{if◌then◌else◌}
use Rattle.std.proofs.lemmas.Bool.{false≢true}
use Rattle.std.proofs.lemmas.Option.{same_Some}
use Rattle.class_model.specs.declared.header.Header.{Header}
use Rattle.class_model.specs.declared.header.Member.{Member}
use Rattle.class_tree.specs.Headers.{Name, all_headers, named}
use Rattle.class_tree.specs.Laws.Headers.{own_name}
use Rattle.class_tree.specs.Names.{machine_throwables, object}
use Rattle.class_tree.specs.Subtype.{IsBelow, IsDirectlyBelow, directly, interface, onwards, superclass}
use Rattle.verified_work.proofs.WorkHeaders.{headers}

-- ---- what holds of the class of a name

module _ (Holds : Header → Type 0) where
  pub holds_of_named : (name : Name) (list : List Header) (header : Header) → named name list ≡ Some header → AllByRecursion Holds list → Holds header
  holds_of_named name [] header is all = absurd cc
  holds_of_named name (first ∷ others) header is all = by (bytes_eq name first.name) is (λ is. holds_of_named name others header is all.1)
    where
      by : (test : Bool) → cond test (Some first) (named name others) ≡ Some header → (named name others ≡ Some header → Holds header) → Holds header
      by true is later = subst Holds (same_Some first header is) all.0
      by false is later = later is

-- ---- how far a class is below java/lang/Object

abbrev rank : Name → ℕ
rank name = if bytes_eq name object then 0 else (if list_any (bytes_eq name) machine_throwables then 2 else 1)

record IsRanked (header : Header) : Type 0 where
  above : IfSome header.super_name (λ high. rank high < rank header.name)
  no_interface : header.interfaces ≡ []

of_class : {header : Header} → IfSome header.super_name (λ high. rank high < rank header.name) → header.interfaces ≡ [] → IsRanked header
of_class above none = record { above = above; no_interface = none }

are_ranked : (methods : List Member) → AllByRecursion IsRanked (all_headers (headers methods))
are_ranked methods = (
  of_class (omega arith) refl,
  (
    of_class (omega arith) refl,
    (
      of_class (omega arith) refl,
      (
        of_class (omega arith) refl,
        (
          of_class (omega arith) refl,
          (
            of_class (omega arith) refl,
            (
              of_class (omega arith) refl,
              (
                of_class (omega arith) refl,
                (
                  of_class (omega arith) refl,
                  (
                    of_class (omega arith) refl,
                    (
                      of_class (omega arith) refl,
                      (
                        of_class (omega arith) refl,
                        (
                          of_class (omega arith) refl,
                          (
                            of_class (omega arith) refl,
                            (
                              of_class (omega arith) refl,
                              (
                                of_class (omega arith) refl,
                                (
                                  of_class tt refl,
                                  (
                                    of_class (omega arith) refl,
                                    (
                                      of_class (omega arith) refl,
                                      (
                                        of_class (omega arith) refl,
                                        (of_class (omega arith) refl, tt),
                                      ),
                                    ),
                                  ),
                                ),
                              ),
                            ),
                          ),
                        ),
                      ),
                    ),
                  ),
                ),
              ),
            ),
          ),
        ),
      ),
    ),
  ),
)

falls : (methods : List Member) {low high : Name} → IsDirectlyBelow (headers methods) low high → rank high < rank low
falls methods (superclass low high header is some) =
    let ranked = holds_of_named IsRanked low (all_headers (headers methods)) header is (are_ranked methods) in
    let above : rank high < rank header.name = rw some at ranked.above in
    subst (λ name. rank high < rank name) (own_name (headers methods) low header is) above
falls methods (interface low high header is any) =
    let ranked = holds_of_named IsRanked low (all_headers (headers methods)) header is (are_ranked methods) in
    absurd (false≢true (rw ranked.no_interface at any))

falls_below : (methods : List Member) {low high : Name} → IsBelow (headers methods) low high → rank high < rank low
falls_below methods (directly low high step) = falls methods step
falls_below methods (onwards low middle high step rest) = omega (arith, falls methods step, falls_below methods rest)

pub no_circle : (methods : List Member) (name : Name) → ¬ IsBelow (headers methods) name name
no_circle methods name up = absurd (omega (arith, falls_below methods up))
