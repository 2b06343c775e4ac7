-- What a method whose instructions are asked keeps beside itself.
use Rattle.std.specs.Prelude.{◌≡◌, Some}
use Rattle.std.specs.List.{AllByRecursion}
use Rattle.class_model.specs.Header.{header_of}
use Rattle.class_model.specs.Pool.{Constants}
use Rattle.class_model.specs.declared.header.Header.{Header}
use Rattle.class_tree.specs.Headers.{Classes, headers_of, IsClassFile}
use Rattle.class_tree.specs.Order.{header_at}
use Rattle.class_tree.specs.declared.place.Place.{Place}
use Rattle.member_link.specs.CodedMethods.{CodedMethod}
use Rattle.type_rules.specs.Inner.CodedScopes.{coded_of}
use Rattle.type_rules.specs.Rule.{FitsPool}
use Rattle.member_link.specs.Scope.{Scope, instructions}

pub record IsKnown (classes : Classes) (s : Scope) (place : Place) (header : Header)
    (body : CodedMethod)
    (calls : Constants)
    : Type 0 where
  pub headers : s.headers ≡ headers_of classes
  pub class_file : IsClassFile s.class
  pub stands : header_at s.headers place ≡ Some header
  pub header_is : header ≡ header_of s.class
  pub body_is : body ≡ coded_of s
  pub calls_are : calls ≡ s.class.pool
  pub fit : AllByRecursion (λ placed. FitsPool s placed.instr) (instructions s)
