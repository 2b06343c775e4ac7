-- What a plan makes is what its written code makes: as many objects of sites, of the same classes.
use Rattle.std.proofs.Common.{◌≡◌, ◌≤◌, ◌==◌, ◌||◌, ℕ, zero, suc, Bool, true, false, List, [], ◌∷◌, ◌++◌, length, slice_get, bytes_eq, Option, Some, None, refl, sym, ap, subst, ◌∙◌, arith}
use Rattle.std.proofs.lemmas.Bool.{eqb-true, false≢true}
use Rattle.std.proofs.lemmas.Option.{none-some, same_Some}
use Rattle.std.proofs.lemmas.Slice.Eq.{bytes_eq-Decides}
use Rattle.class_rewrite.proofs.TalliedItems.{on_item, on_makes}
use Rattle.class_rewrite.proofs.TalliedPoints.{written_tallied}
use Rattle.class_rewrite.proofs.Tallies.{all_tallied, counted, has_item, item_had, one_passes, some_tallied, tally, tally_few}
use Rattle.class_rewrite.specs.Inner.MadeSites.{AreMadeBy, class_of, classes_of, made_to}
use Rattle.class_rewrite.specs.Inner.Outcomes.{AreNamesOf, MakesHere}
use Rattle.class_rewrite.specs.Rewriting.Methods.{Rewriting}
use Rattle.class_rewrite.specs.declared.made_sites.MadeSites.{MadeSites}
use Rattle.class_tree.specs.Headers.{Name}
use Rattle.code_drafts.specs.Laws.ReachedStarts.{finished}
use Rattle.flow_code.specs.declared.point.Site.{Site}
use Rattle.making_code.specs.CountedItems.{makes_site, site_news}
use Rattle.making_code.specs.Items.{WInstr, WItem, carried, constructs, load, makes, plain, store}
use Rattle.plan_flow.specs.Laws.RoutedPlans.{HasOneEffect}
use Rattle.plan_flow.specs.Plans.{IsValid, Plan}
use Rattle.plan_flow.specs.Written.Routes.{IsRouted}
use Rattle.plan_flow.specs.Written.WrittenCode.{short, written_items}
use Rattle.plan_flow.specs.Written.WrittenPrograms.{WrittenMethod, items_of, plan_scope}
use Rattle.virtual_state.specs.Sites.{has}

-- ---- classes of sites

record IsOfSite (sites : List Site) (numbers : List ℕ) (name : Name) : Type 0 where
  number : ℕ
  among : has numbers number ≡ true
  site : Site
  is_site : slice_get sites number ≡ Some site
  named : site.class ≡ name

further : (sites : List Site) (first : ℕ) (numbers : List ℕ) (name : Name) → IsOfSite sites numbers name → IsOfSite sites (first ∷ numbers) name
further sites first numbers name found = record {
  number = found.number;
  among = either (first == found.number) found.among;
  site = found.site;
  is_site = found.is_site;
  named = found.named;
} where
  either : (b : Bool) → has numbers found.number ≡ true → (b || has numbers found.number) ≡ true
  either true there = refl
  either false there = there

class_among : (sites : List Site) (numbers : List ℕ) (place : ℕ) (name : Name) → slice_get (classes_of sites numbers) place ≡ Some name
    → IsOfSite sites numbers name
class_among sites [] place name is = absurd (none-some name is)
class_among sites (number ∷ numbers) place name is =
    by (slice_get sites number) refl place is (λ behind got. further sites number numbers name (class_among sites numbers behind name got)) where
      by : (found : Option Site) → slice_get sites number ≡ found
          → (place : ℕ) → slice_get (class_of found ++ classes_of sites numbers) place ≡ Some name
          → ((behind : ℕ) → slice_get (classes_of sites numbers) behind ≡ Some name → IsOfSite sites (number ∷ numbers) name)
          → IsOfSite sites (number ∷ numbers) name
      by None none place got rest = rest place got
      by (Some site) some zero got rest = record {
        number = number;
        among = has_item (number ∷ numbers) 0 number refl;
        site = site;
        is_site = some;
        named = same_Some site.class name got;
      }
      by (Some site) some (suc behind) got rest = rest behind got

class_there : (sites : List Site) (numbers : List ℕ) (number : ℕ) (site : Site) → has numbers number ≡ true → slice_get sites number ≡ Some site
    → (place : ℕ) × (slice_get (classes_of sites numbers) place ≡ Some site.class)
class_there sites [] number site among is = absurd (false≢true among)
class_there sites (first ∷ numbers) number site among is =
    by (first == number) refl among (slice_get sites first) refl (λ behind. class_there sites numbers number site behind is) where
      by : (here : Bool) → (first == number) ≡ here
          → (here || has numbers number) ≡ true
          → (found : Option Site) → slice_get sites first ≡ found
          → (has numbers number ≡ true → (place : ℕ) × (slice_get (classes_of sites numbers) place ≡ Some site.class))
          → (place : ℕ) × (slice_get (class_of (slice_get sites first) ++ classes_of sites numbers) place ≡ Some site.class)
      by true told either found there rest =
          let same : slice_get sites first ≡ Some site = ap (λ (n : ℕ). slice_get sites n) (eqb-true first number told) ∙ is in
          (0, rw (same) refl)
      by false told either None there rest = let behind = rest either in (behind.0, rw (there) behind.1)
      by false told either (Some one) there rest = let behind = rest either in (suc behind.0, rw (there) behind.1)

named_there : (names others : List Name) (place : ℕ) (one name : Name) → names ≡ others → slice_get others place ≡ Some one → one ≡ name
    → slice_get names place ≡ Some name
named_there names others place one name same is named =
    ap (λ (all : List Name). slice_get all place) same ∙ is ∙ ap (λ (n : Name). Some n) named

-- ---- tests

-- the class of a site passes a test
abbrev on_class : (Name → Bool) → Option Site → Bool
on_class on None = false
on_class on (Some site) = on site.class

abbrev is_name : Name → Name → Bool
is_name name class = bytes_eq class name

tallied_alike : {A : Type 0} (one other : A → Bool) (items : List A) → ((item : A) → one item ≡ other item) → tally one items ≡ tally other items
tallied_alike one other [] same = refl
tallied_alike one other (item ∷ items) same =
    let rest = tallied_alike one other items same in
    rw (same item) (omega (arith, rest))

makes_one_site : (instr : WInstr) → makes_site instr ≡ on_makes (λ class. true) instr
makes_one_site (makes class) = refl
makes_one_site (constructs class) = refl
makes_one_site (carried class instr) = refl
makes_one_site (plain instr) = refl
makes_one_site (load kind unit) = refl
makes_one_site (store kind unit) = refl

-- an instruction that makes an object of a class
makes_named : (name : Name) (instr : WInstr) → on_makes (is_name name) instr ≡ true → instr ≡ makes name
makes_named name (makes class) told = ap (λ (n : Name). makes n) ((bytes_eq-Decides class name).0 told)
makes_named name (constructs class) told = absurd (false≢true told)
makes_named name (carried class instr) told = absurd (false≢true told)
makes_named name (plain instr) told = absurd (false≢true told)
makes_named name (load kind unit) told = absurd (false≢true told)
makes_named name (store kind unit) told = absurd (false≢true told)

record HasNamed (sites : List Site) (number : ℕ) (name : Name) : Type 0 where
  site : Site
  is_site : slice_get sites number ≡ Some site
  named : site.class ≡ name

named_site : (sites : List Site) (number : ℕ) (name : Name) → on_class (is_name name) (slice_get sites number) ≡ true → HasNamed sites number name
named_site sites number name told = by (slice_get sites number) refl told where
  by : (found : Option Site) → slice_get sites number ≡ found → on_class (is_name name) found ≡ true → HasNamed sites number name
  by None is told = absurd (false≢true told)
  by (Some site) is told = record { site = site; is_site = is; named = (bytes_eq-Decides site.class name).0 told }

-- ---- the whole

module _ (r : Rewriting) (one : WrittenMethod) (plan : Plan) (one_effect : HasOneEffect (plan_scope r.classes r.links one))
    (valid : IsValid (plan_scope r.classes r.links one) plan) (routed : IsRouted (plan_scope r.classes r.links one) plan one.routes)
    (made : MadeSites) (made_by : AreMadeBy one.flat plan made) where
  abbrev all : List ℕ
  all = made_to (length one.flat.points) plan

  abbrev items : List WItem
  items = items_of r.classes r.links one

  as_many : site_news items ≡ length all
  as_many =
      counted (λ (item : WItem). makes_site item.instr) items
      ∙ tallied_alike (λ (item : WItem). makes_site item.instr) (on_item (λ class. true)) items (λ item. makes_one_site item.instr)
      ∙ written_tallied (plan_scope r.classes r.links one) (λ class. true) (λ site. true) (λ site found is. refl) plan one.routes one.form one_effect valid routed
      ∙ all_tallied all

  named_alike : (name : Name)
      → tally (on_item (is_name name)) items ≡ tally (λ site. on_class (is_name name) (slice_get one.flat.sites site)) all
  named_alike name =
      written_tallied (plan_scope r.classes r.links one) (is_name name) (λ site. on_class (is_name name) (slice_get one.flat.sites site))
      (λ site found is. ap (on_class (is_name name)) is) plan one.routes one.form one_effect valid routed

  each_made : (place : ℕ) (name : Name) → slice_get made.names place ≡ Some name → MakesHere r one name
  each_made place name is =
      let found = class_among one.flat.sites made_by.sites place name (subst (λ (names : List Name). slice_get names place ≡ Some name) made_by.names is) in
      let there = item_had all found.number (sym (made_by.same found.number) ∙ found.among) in
      let passes : on_class (is_name name) (slice_get one.flat.sites found.number) ≡ true =
      ap (on_class (is_name name)) found.is_site ∙ (bytes_eq-Decides found.site.class name).1 found.named in
      let some = some_tallied (λ site. on_class (is_name name) (slice_get one.flat.sites site)) all there.0 found.number there.1 passes in
      let same = named_alike name in
      let item = one_passes (on_item (is_name name)) items (omega (arith, some, same)) in
      record { number = item.number; item = item.item; is_item = item.is; makes_it = makes_named name item.item.instr item.passes }

  all_made : (name : Name) → MakesHere r one name → (place : ℕ) × (slice_get made.names place ≡ Some name)
  all_made name makes_it =
      let passes : on_makes (is_name name) makes_it.item.instr ≡ true =
      ap (on_makes (is_name name)) makes_it.makes_it ∙ (bytes_eq-Decides name name).1 refl in
      let some = some_tallied (on_item (is_name name)) items makes_it.number makes_it.item makes_it.is_item passes in
      let same = named_alike name in
      let site = one_passes (λ site. on_class (is_name name) (slice_get one.flat.sites site)) all (omega (arith, some, same)) in
      let named = named_site one.flat.sites site.item name site.passes in
      let there = class_there one.flat.sites made_by.sites site.item named.site (made_by.same site.item ∙ has_item all site.number site.item site.is) named.is_site in
      (there.0, named_there made.names (classes_of one.flat.sites made_by.sites) there.0 named.site.class name made_by.names there.1 named.named)

  abbrev short_items : List WItem
  short_items = written_items short (finished (plan_scope r.classes r.links one) one.routes)

  as_few : length all ≤ length short_items
  as_few =
      let same =
      written_tallied (plan_scope r.classes r.links one) (λ class. true) (λ site. true) (λ site found is. refl) plan one.routes short one_effect valid routed in
      let every = all_tallied all in
      let few = tally_few (on_item (λ class. true)) short_items in
      omega (arith, same, every, few)

  pub count_here : length short_items ≤ 65535 → made.count ≡ site_news items
  count_here few = let less = as_few in made_by.count (omega (arith, few, less)) ∙ sym as_many

  pub names_here : AreNamesOf (MakesHere r one) made.names
  names_here = record { each = each_made; all = all_made }
