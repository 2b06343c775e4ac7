-- Fields or methods checked one after the other.
use Rattle.std.proofs.Common.{◌≡◌, ℕ, suc, ◌+◌, ◌<◌, ◌^◌, Bool, List, [], ◌∷◌, ◌++◌, length, get_or, drop, Result, Ok, Err, refl, sym, ap, subst, ◌∙◌, arith, length-append, add-one, drop-cons}
use Rattle.std.specs.List.{flat_map}
use Rattle.class_model.specs.Answers.{Tells}
use Rattle.class_model.specs.Checks.{Check, Fault}
use Rattle.class_model.specs.ClassOf.{fields_checks, methods_checks}
use Rattle.class_model.specs.Laws.Answers.{refused}
use Rattle.class_model.specs.Laws.Checks.{Remain, remain}
use Rattle.class_model.specs.Members.{Signature, stands_before, field_checks}
use Rattle.class_model.specs.Methods.{Home, method_checks}
use Rattle.class_model.specs.Pool.{Constants}
use Rattle.class_model.specs.Spelling.{field_bytes, method_bytes}
use Rattle.class_model.specs.declared.fault.ClassFault.{ClassFault}
use Rattle.class_bytes.specs.Inner.Cut.{field_of, fields_of, method_of, methods_of}
use Rattle.class_bytes.specs.Inner.Parts.{fields_len, methods_len}
use Rattle.class_bytes.specs.Inner.Signatures.{Knows}
use Rattle.class_bytes.specs.declared.cut.CutMember.{CutMember}
use Rattle.class_bytes.specs.declared.signatures.Signatures.{Signatures}

abbrev pub signature_of : CutMember → Signature
signature_of member = record { name = member.name; desc = member.desc }

-- What is asked of a member and of members from a place on, and how many bytes they take.
pub record Kind : Type 1 where
  pub asks : List Signature → ℕ → CutMember → List (Check Fault)
  pub len : CutMember → ℕ
  pub all : List Signature → ℕ → List CutMember → List (Check Fault)
  pub len_all : List CutMember → ℕ
  pub first : (before : List Signature) (at : ℕ) (member : CutMember) (others : List CutMember) → all before at (member ∷ others) ≡ asks before at member ++ all (before ++ signature_of member ∷ []) (at + len member) others
  pub len_first : (member : CutMember) (others : List CutMember) → len_all (member ∷ others) ≡ len member + len_all others

abbrev pub field_kind : Constants → ℕ → Kind
field_kind pool flags = record {
  asks = λ before at member. field_checks pool flags before at (field_of member);
  len = λ member. length (field_bytes (field_of member));
  all = λ before at members. fields_checks pool flags before at (fields_of members);
  len_all = λ members. fields_len (fields_of members);
  first = λ before at member others. refl;
  len_first = λ member others. length-append (field_bytes (field_of member)) (flat_map field_bytes (fields_of others));
}

abbrev pub method_kind : Home → Kind
method_kind home = record {
  asks = λ before at member. method_checks home before at (method_of member);
  len = λ member. length (method_bytes (method_of member));
  all = λ before at members. methods_checks home before at (methods_of members);
  len_all = λ members. methods_len (methods_of members);
  first = λ before at member others. refl;
  len_first = λ member others. length-append (method_bytes (method_of member)) (flat_map method_bytes (methods_of others));
}

-- The members before this place hold, and their signatures are kept; these are left.
pub record MembersChecked (pool : Constants) (kind : Kind) (whole : List (Check Fault)) (end : ℕ) (kept : Signatures) (place : ℕ) (left : List CutMember) : Type 0 where
  pub before : List Signature
  pub knows : Knows pool before kept
  pub remain : Remain whole (kind.all before place left)
  pub ends : place + kind.len_all left ≡ end

-- the next of them
module _ (pool : Constants) (kind : Kind) (whole : List (Check Fault)) (end : ℕ) (kept : Signatures) (place : ℕ) (members : List CutMember) (index : ℕ) (member : CutMember) (within : index < length members) (is : member ≡ get_or members index member) (so_far : MembersChecked pool kind whole end kept place (drop index members)) where
  abbrev others : List CutMember
  others = drop (index + 1) members

  first_left : drop index members ≡ member ∷ others
  first_left = drop-cons members index member within ∙ ap (λ (next : CutMember). next ∷ drop (suc index) members) (sym is) ∙ ap (λ (n : ℕ). member ∷ drop n members) (sym (add-one index))

  ends : place + (kind.len member + kind.len_all others) ≡ end
  ends = rw (first_left, kind.len_first member others) at so_far.ends

  pub member_below : end < 2 ^ 63 → place + kind.len member < 2 ^ 63
  member_below below = let e = ends in omega arith

  left : Remain whole (kind.asks so_far.before place member ++ kind.all (so_far.before ++ signature_of member ∷ []) (place + kind.len member) others)
  left = rw (first_left, kind.first so_far.before place member others) at so_far.remain

  module _ (after : Signatures) (is_again : Bool) (added : (before : List Signature) → Knows pool before kept → (is_again ≡ stands_before pool before (signature_of member)) × Knows pool (before ++ signature_of member ∷ []) after) where
    abbrev TellsNext : Result ℕ ClassFault → Type 0
    TellsNext result = (before : List Signature) → is_again ≡ stands_before pool before (signature_of member) → Tells (kind.asks before place member) (λ at. at ≡ place + kind.len member) result

    pub member_refused : (e : ClassFault) → TellsNext (Err e) → Tells whole (λ at. at ≡ end) (Err e)
    member_refused e told =
        refused (kind.asks so_far.before place member) _ (λ at. at ≡ place + kind.len member) (λ at. at ≡ end) e left (told so_far.before (added so_far.before so_far.knows).0)

    pub one_behind : (behind : ℕ) → TellsNext (Ok behind) → MembersChecked pool kind whole end after behind others
    one_behind behind told =
        let add = added so_far.before so_far.knows in
        let here = told so_far.before add.0 in
        let before = so_far.before ++ signature_of member ∷ [] in
        let e = ends in
        record {
          before = before;
          knows = add.1;
          remain = subst (λ (at : ℕ). Remain whole (kind.all before at others)) (sym here.1) (remain (kind.asks so_far.before place member) _ left here.0);
          ends = omega (arith, here.1);
        }
