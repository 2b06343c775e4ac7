use Rattle.std.proofs.Common.{◌≡◌, Option, Some, None, option_map, refl}
use Rattle.class_model.specs.declared.header.Member.{Member}
use Rattle.member_link.specs.Machine.Programs.{RunMethod, run_method}
use Rattle.member_link.specs.Inner.QuestionWords.{member_run}
use Rattle.machine_code.proofs.traits.method_traits.Goals as goal

-- a method that has this member
with_member :
    (found : Option RunMethod) (member : Member)
    → Some member ≡ option_map member_run found
    → (method : RunMethod) × (found ≡ Some method) × (method.member ≡ member)
with_member None member is = absurd cc
with_member (Some method) member is = (method, refl, cc)

pub returns-in-Some : goal.returns-in-Some
returns-in-Some c = λ P is.
    let found = with_member (run_method P c.args.at) c.in-Some.member.now (c.in-Some.ensures P is) in
    (found.0, found.1, c.traits_of.ensures found.0 found.2)

pub returns-in-None : goal.returns-in-None
returns-in-None c = λ P is. none (run_method P c.args.at) (c.in-None.ensures P is)
  where
    none : (found : Option RunMethod) → None ≡ option_map member_run found → found ≡ None
    none None is = refl
    none (Some method) is = absurd cc
