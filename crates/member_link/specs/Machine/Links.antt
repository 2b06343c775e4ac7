-- Links that are those of a hierarchy: what subtyping, look-up and selection answer there, for every question. A link of an
-- instance initialiser is none: it is looked up in the named class alone and is itself the choice, so calls do not ask links for it.
use Rattle.std.specs.Prelude.{◌≡◌, ◌≢◌, ◌↔◌, IsTrue, Option, Some, None, option_map}
use Rattle.class_model.specs.Names.{init}
use Rattle.class_tree.specs.Headers.{Name, Headers}
use Rattle.class_tree.specs.Subtype.{IsSubtype}
use Rattle.member_link.specs.DeclaredMembers.{Declared, own_method}
use Rattle.member_link.specs.Fields.{FindsField}
use Rattle.member_link.specs.Machine.Programs.{Links, Chosen, chosen, abstract_method, several_defaults, not_public}
use Rattle.member_link.specs.Methods.{FindsMethod}
use Rattle.member_link.specs.References.{Reference}
use Rattle.member_link.specs.Selection.{Choice, Selects, chosen_method, abstract_choice, several_defaults as several_choices, choice_not_public}
use Rattle.member_link.specs.declared.selection.CallForm.{CallForm}

-- a declared member as a reference names it
abbrev pub reference_to : Declared → Reference
reference_to found =
    record { class = found.class; name = found.member.name; desc = found.member.desc }

abbrev pub chosen_by : Choice → Chosen
chosen_by (chosen_method method) = chosen (reference_to method)
chosen_by abstract_choice = abstract_method
chosen_by several_choices = several_defaults
chosen_by choice_not_public = not_public

-- what a look-up finds
pub record IsLink (Finds : Option Declared → Type 0) (link : Option Reference) : Type 0 where
  pub found : Option Declared
  pub finds : Finds found
  pub same : link ≡ option_map reference_to found

-- what a selection chooses
pub record IsChoiceLink (headers : Headers) (receiver : Name) (method : Declared) (form : CallForm)
    (link : Chosen)
    : Type 0 where
  pub choice : Choice
  pub selects : Selects headers receiver method form choice
  pub same : link ≡ chosen_by choice

-- by the method that is declared there, if one is
abbrev pub IsSelection : Headers → Name → CallForm → Option Declared → Chosen → Type 0
IsSelection headers receiver form None link = link ≡ abstract_method
IsSelection headers receiver form (Some method) link =
    IsChoiceLink headers receiver method form link

pub record AreLinksOf (headers : Headers) (links : Links) : Type 0 where
  pub below : (low high : Name) → IsTrue (links.below low high) ↔ IsSubtype headers low high
  pub field : (r : Reference) → IsLink (FindsField headers r.class r.name r.desc) (links.field r)
  pub method :
      (r : Reference)
      → r.name ≢ init
      → IsLink (FindsMethod headers r.class r.name r.desc) (links.method r)
  pub initialiser : (r : Reference) → r.name ≡ init → links.method r ≡ None
  pub select :
      (receiver : Name) (r : Reference) (form : CallForm)
      → r.name ≢ init
      → IsSelection headers receiver form (own_method headers r.class r.name r.desc)
      (links.select receiver r form)
  pub no_initialiser :
      (receiver : Name) (r : Reference) (form : CallForm)
      → r.name ≡ init
      → links.select receiver r form ≡ abstract_method
