-- A method of the folder that is seen leaves fewer that were not.
use Rattle.std.proofs.Common.{◌≡◌, ◌≢◌, ℕ, zero, suc, ◌+◌, ◌<◌, ◌≤◌, Bool, List, [], ◌∷◌, Option, Some, None, slice_get, refl, sym, subst, arith}
use Rattle.class_model.specs.declared.class_file.ClassFile.{ClassFile}
use Rattle.class_model.specs.declared.class_file.Method.{Method}
use Rattle.class_model.specs.declared.class_file.MethodAt.{MethodAt}
use Rattle.inline_expand.specs.Inner.Unseen.{unseen, unseen_methods, unseen_one}

one_more : (before after : Option Bool) → (after ≡ None → before ≡ None) → unseen_one after ≤ unseen_one before
one_more before (Some is_ready) more = omega arith
one_more before None more = subst (λ (o : Option Bool). 1 ≤ unseen_one o) (sym (more refl)) (omega arith)

one_falls : (before after : Option Bool) → before ≡ None → after ≢ None → unseen_one after < unseen_one before
one_falls before None is not = absurd (not refl)
one_falls before (Some is_ready) is not = subst (λ (o : Option Bool). 0 < unseen_one o) (sym is) (omega arith)

module _ (before after : MethodAt → Option Bool) (more : (at : MethodAt) → after at ≡ None → before at ≡ None) where
  methods_more : (class number : ℕ) (methods : List Method) → unseen_methods after class number methods ≤ unseen_methods before class number methods
  methods_more class number [] = omega arith
  methods_more class number (method ∷ methods) =
      let at : MethodAt = record { class = class; method = number } in
      omega (arith, one_more (before at) (after at) (more at), methods_more class (suc number) methods)

  classes_more : (number : ℕ) (classes : List ClassFile) → unseen after number classes ≤ unseen before number classes
  classes_more number [] = omega arith
  classes_more number (class ∷ classes) =
      omega (arith, methods_more number 0 class.methods, classes_more (suc number) classes)

  module _ (at : MethodAt) (not_before : before at ≡ None) (is_after : after at ≢ None) where
    methods_fall : (class number place : ℕ) (methods : List Method) (method : Method)
        → slice_get methods place ≡ Some method
        → class ≡ at.class
        → number + place ≡ at.method
        → unseen_methods after class number methods < unseen_methods before class number methods
    methods_fall class number place [] method is is_class is_number = absurd cc
    methods_fall class number zero (first ∷ methods) method is is_class is_number =
        let here : record { class = class; method = number } ≡ at = same in
        omega (
          arith,
          one_falls (before (record { class = class; method = number })) (after (record { class = class; method = number }))
              (subst (λ (m : MethodAt). before m ≡ None) (sym here) not_before)
              (subst (λ (m : MethodAt). after m ≢ None) (sym here) is_after),
          methods_more class (suc number) methods,
        ) where
          is_method : number ≡ at.method
          is_method = omega arith

          same : record { class = class; method = number } ≡ at
          same = λ i. record { class = is_class i; method = is_method i }
    methods_fall class number (suc place) (first ∷ methods) method is is_class is_number =
        let here : MethodAt = record { class = class; method = number } in
        omega (
          arith,
          one_more (before here) (after here) (more here),
          methods_fall class (suc number) place methods method is is_class (omega arith),
        )

    classes_fall : (number place : ℕ) (classes : List ClassFile) (class : ClassFile) (method : Method)
        → slice_get classes place ≡ Some class
        → slice_get class.methods at.method ≡ Some method
        → number + place ≡ at.class
        → unseen after number classes < unseen before number classes
    classes_fall number place [] class method is is_method is_number = absurd cc
    classes_fall number zero (first ∷ classes) class method is is_method is_number =
        let same : first ≡ class = cc in
        let there : slice_get first.methods at.method ≡ Some method = subst (λ (c : ClassFile). slice_get c.methods at.method ≡ Some method) (sym same) is_method in
        omega (arith, methods_fall number 0 at.method first.methods method there (omega arith) (omega arith), classes_more (suc number) classes)
    classes_fall number (suc place) (first ∷ classes) class method is is_method is_number =
        omega (arith, methods_more number 0 first.methods, classes_fall (suc number) place classes class method is is_method (omega arith))

    pub fewer_unseen : (classes : List ClassFile) (class : ClassFile) (method : Method)
        → slice_get classes at.class ≡ Some class
        → slice_get class.methods at.method ≡ Some method
        → unseen after 0 classes < unseen before 0 classes
    fewer_unseen classes class method is is_method = classes_fall 0 at.class classes class method is is_method (omega arith)
