-- A selection chooses one method.
use Rattle.std.proofs.Common.{◌≡◌, ◌∙◌, ℕ, List, refl, sym, ap}
use Rattle.std.proofs.lemmas.Bool.{both_ways}
use Rattle.std.proofs.lemmas.Option.{none-some, same_Some}
use Rattle.class_model.specs.Members.{has, PRIVATE}
use Rattle.class_tree.specs.Headers.{Name, Headers}
use Rattle.member_link.specs.DeclaredMembers.{Declared}
use Rattle.member_link.specs.Selection.{Choice, chosen_method, choice_of, public_choice_of, ChoosesDefault, the_one, no_default, two_defaults, Chooses, first_upwards, by_default, start_of, IsOrOverrides, CountsForSpecial, Selects, of_private, of_virtual, of_interface, of_initialiser, of_special}
use Rattle.member_link.specs.declared.selection.CallForm.{CallForm}
use Rattle.member_link.proofs.UpwardsOnce.{upwards_once}

module _ (headers : Headers) (class : Name) (name desc : List ℕ) where
  default_once : {one other : Choice} → ChoosesDefault headers class name desc one → ChoosesDefault headers class name desc other → one ≡ other
  default_once (the_one method is) (the_one other also) = ap chosen_method (also.only method is.is_default)
  default_once (the_one method is) (no_default none) = absurd (none method is.is_default)
  default_once (the_one method is) (two_defaults first second is_first is_second differ) = absurd (differ (is.only first is_first ∙ sym (is.only second is_second)))
  default_once (no_default none) (the_one method is) = absurd (none method is.is_default)
  default_once (no_default none) (no_default also) = refl
  default_once (no_default none) (two_defaults first second is_first is_second differ) = absurd (none first is_first)
  default_once (two_defaults first second is_first is_second differ) (the_one method is) = absurd (differ (is.only first is_first ∙ sym (is.only second is_second)))
  default_once (two_defaults first second is_first is_second differ) (no_default none) = absurd (none first is_first)
  default_once (two_defaults first second is_first is_second differ) (two_defaults third fourth is_third is_fourth also) = refl

  module _ (Counts : Declared → Type 0) (of_method : Declared → Choice) where
    chooses_once : {one other : Choice} → Chooses headers Counts of_method class name desc one → Chooses headers Counts of_method class name desc other → one ≡ other
    chooses_once (first_upwards method up) (first_upwards other up_other) = ap of_method (same_Some method other (upwards_once headers Counts name desc up up_other))
    chooses_once (first_upwards method up) (by_default choice none over) = absurd (none-some method (upwards_once headers Counts name desc none up))
    chooses_once (by_default choice none over) (first_upwards method up) = absurd (none-some method (upwards_once headers Counts name desc none up))
    chooses_once (by_default choice none over) (by_default other none_other over_other) = default_once over over_other

pub selects_once : (headers : Headers) (receiver : Name) (resolved : Declared) (form : CallForm) (one other : Choice) → Selects headers receiver resolved form one → Selects headers receiver resolved form other → one ≡ other
selects_once headers receiver resolved form one other selects also = by selects also
  where
    start : Name
    start = start_of receiver

    by : {form : CallForm} {one other : Choice} → Selects headers receiver resolved form one → Selects headers receiver resolved form other → one ≡ other
    by (of_private is) (of_private also) = refl
    by (of_private is) (of_virtual choice free chooses) = absurd (both_ways (has resolved.member.flags PRIVATE) free is)
    by (of_virtual choice free chooses) (of_private is) = absurd (both_ways (has resolved.member.flags PRIVATE) free is)
    by (of_virtual choice free chooses) (of_virtual other also_free also) = chooses_once headers start resolved.member.name resolved.member.desc (IsOrOverrides headers resolved) choice_of chooses also
    by (of_interface choice chooses) (of_interface other also) = chooses_once headers start resolved.member.name resolved.member.desc _ public_choice_of chooses also
    by (of_initialiser is) (of_initialiser also) = refl
    by (of_initialiser is) (of_special choice differ chooses) = absurd (differ is)
    by (of_special choice differ chooses) (of_initialiser is) = absurd (differ is)
    by (of_special choice differ chooses) (of_special other also_differ also) = chooses_once headers start resolved.member.name resolved.member.desc (CountsForSpecial headers start) choice_of chooses also
