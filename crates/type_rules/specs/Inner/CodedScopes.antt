-- The method with code that a scope speaks of.
use Rattle.member_link.specs.CodedMethods.{CodedMethod}
use Rattle.member_link.specs.Scope.{Scope}

abbrev pub coded_of : Scope → CodedMethod
coded_of s = record { class = s.class; method = s.method; part = s.part }
