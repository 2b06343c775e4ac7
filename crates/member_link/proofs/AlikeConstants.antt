-- Constants that refer to the same resolve to the same.
use Rattle.std.proofs.Common.{◌≡◌, ℕ, Option, Some, None, IfSome, sym, subst}
use Rattle.class_model.specs.Pool.{constant_at}
use Rattle.class_model.specs.declared.pool.Const.{Const}
use Rattle.class_model.specs.declared.pool.Const.TheVariants.{Fieldref, Methodref, InterfaceMethodref}
use Rattle.class_tree.specs.Headers.{Name, Headers}
use Rattle.member_link.specs.References.{Reference, reference_at}
use Rattle.member_link.specs.Inner.AlikeConstants.{AreAlike}
use Rattle.member_link.specs.Inner.Resolving.{Resolved}
use Rattle.member_link.specs.Inner.Resolutions.{ConstantResolves, FieldResolves, IfHad, MethodResolves, Resolves}
use Rattle.member_link.specs.declared.resolution.Resolution.{Resolution}
use Rattle.member_link.specs.declared.resolution.Resolution.TheVariants as resolutions

module _ (headers : Headers) (from : Name) (class member named other : ℕ) where
  class_method : (reference : Reference) (resolution : Resolution) → MethodResolves headers from (Some (Methodref class member)) reference resolution → MethodResolves headers from (Some (Methodref named other)) reference resolution
  class_method reference (resolutions.Broken rule) h = h
  class_method reference (resolutions.Method referent callee) h = (h.0, h.1, h.2, record { kind = h.3.kind; initialiser = h.3.initialiser })
  class_method reference resolution h = absurd h

  interface_method : (reference : Reference) (resolution : Resolution) → MethodResolves headers from (Some (InterfaceMethodref class member)) reference resolution → MethodResolves headers from (Some (InterfaceMethodref named other)) reference resolution
  interface_method reference (resolutions.Broken rule) h = h
  interface_method reference (resolutions.Method referent callee) h = (h.0, h.1, h.2, record { kind = h.3.kind; initialiser = h.3.initialiser })
  interface_method reference resolution h = absurd h

  class_methods : (reference : Option Reference) (resolution : Resolution) → IfHad (MethodResolves headers from (Some (Methodref class member))) reference resolution → IfHad (MethodResolves headers from (Some (Methodref named other))) reference resolution
  class_methods None resolution h = h
  class_methods (Some reference) resolution h = class_method reference resolution h

  interface_methods : (reference : Option Reference) (resolution : Resolution) → IfHad (MethodResolves headers from (Some (InterfaceMethodref class member))) reference resolution → IfHad (MethodResolves headers from (Some (InterfaceMethodref named other))) reference resolution
  interface_methods None resolution h = h
  interface_methods (Some reference) resolution h = interface_method reference resolution h

alike : (own : Resolved) (resolution : Resolution) (one two : Const) → AreAlike own.pool one two → ConstantResolves own (Some one) resolution → ConstantResolves own (Some two) resolution
alike own resolution (Fieldref class member) (Fieldref named other) e h =
    subst (λ (reference : Option Reference). IfHad (FieldResolves own.headers own.from) reference resolution) e h
alike own resolution (Methodref class member) (Methodref named other) e h =
    class_methods own.headers own.from class member named other (reference_at own.pool named other) resolution (subst (λ (reference : Option Reference). IfHad (MethodResolves own.headers own.from (Some (Methodref class member))) reference resolution) e h)
alike own resolution (InterfaceMethodref class member) (InterfaceMethodref named other) e h =
    interface_methods own.headers own.from class member named other (reference_at own.pool named other) resolution (subst (λ (reference : Option Reference). IfHad (MethodResolves own.headers own.from (Some (InterfaceMethodref class member))) reference resolution) e h)
alike own resolution one two e h = subst (λ (constant : Const). ConstantResolves own (Some constant) resolution) e h

pub carried : (own : Resolved) (guess index : ℕ) (one two : Const) (result : Option Resolution) → Some one ≡ constant_at own.pool guess → Some two ≡ constant_at own.pool index → AreAlike own.pool one two → IfSome result (Resolves own guess) → IfSome result (Resolves own index)
carried own guess index one two None is_one is_two e h = h
carried own guess index one two (Some resolution) is_one is_two e h =
    let of_one : ConstantResolves own (Some one) resolution = subst (λ (o : Option Const). ConstantResolves own o resolution) (sym is_one) h in
    subst (λ (o : Option Const). ConstantResolves own o resolution) is_two (alike own resolution one two e of_one)
