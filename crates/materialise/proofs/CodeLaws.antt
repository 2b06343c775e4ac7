-- Instructions that are written behind others, part by part.
use Rattle.std.proofs.Common.{◌≡◌, ◌+◌, ◌≤◌, ℕ, List, [], ◌∷◌, ◌++◌, length, map, drop, get_or, slice_get, Some, None, true, nat_lt, refl, sym, ap, ◌∙◌, append_assoc, append-nil}
use Rattle.std.specs.List.{flat_map}
use Rattle.std.proofs.lemmas.List.{drop_all, map-append}
use Rattle.std.proofs.lemmas.Bool.{ltb-true}
use Rattle.std.proofs.lemmas.Option.{slice_get_past, slice_get_read}
use Rattle.class_model.specs.Laws.Lists.{drop_item}
use Rattle.class_model.specs.declared.instr.Instr.{Instr}
use Rattle.class_tree.specs.Headers.{Name}
use Rattle.flow_code.specs.FlatCode.{FlatCode}
use Rattle.making_code.specs.Items.{WInstr}
use Rattle.materialise.specs.Inner.CodeWords.{Writes, WritesRest, coded}

-- ---- parts

pub writes_none : (flat : FlatCode) (before : List Instr) → Writes flat before [] before
writes_none flat before = record { writes = λ class_of constructor_of. sym (append-nil before) }

pub writes_one : (flat : FlatCode) (before after : List Instr) (item : WInstr) (instr : Instr)
    → after ≡ before ++ instr ∷ []
    → ((class_of constructor_of : Name → ℕ) → instr ≡ coded flat class_of constructor_of item)
    → Writes flat before (item ∷ []) after
writes_one flat before after item instr is same = record {
  writes = λ class_of constructor_of. is ∙ ap (λ (one : Instr). before ++ one ∷ []) (same class_of constructor_of);
}

pub writes_both : (flat : FlatCode) (before middle after : List Instr) (front back : List WInstr)
    → Writes flat before front middle
    → Writes flat middle back after
    → Writes flat before (front ++ back) after
writes_both flat before middle after front back one other = record {
  writes = λ class_of constructor_of.
      let code = coded flat class_of constructor_of in
      other.writes class_of constructor_of
      ∙ ap (λ (instrs : List Instr). instrs ++ map code back) (one.writes class_of constructor_of)
      ∙ append_assoc before (map code front) (map code back)
      ∙ ap (λ (instrs : List Instr). before ++ instrs) (sym (map-append code front back));
}

-- ---- loops

pub writes_first : (flat : FlatCode) (before : List Instr) (all : List WInstr) → WritesRest flat before all before all
writes_first flat before all = record { goes_on = λ class_of constructor_of. refl }

pub writes_more : (flat : FlatCode) (before now after : List Instr) (all items rest left : List WInstr)
    → WritesRest flat before all now left
    → left ≡ items ++ rest
    → Writes flat now items after
    → WritesRest flat before all after rest
writes_more flat before now after all items rest left so_far is writes = record {
  goes_on = λ class_of constructor_of.
      let code = coded flat class_of constructor_of in
      ap (λ (instrs : List Instr). instrs ++ map code rest) (writes.writes class_of constructor_of)
      ∙ append_assoc now (map code items) (map code rest)
      ∙ ap (λ (instrs : List Instr). now ++ instrs) (sym (map-append code items rest))
      ∙ ap (λ (instrs : List WInstr). now ++ map code instrs) (sym is)
      ∙ so_far.goes_on class_of constructor_of;
}

pub writes_all : (flat : FlatCode) (before now : List Instr) (all left : List WInstr)
    → WritesRest flat before all now left
    → left ≡ []
    → Writes flat before all now
writes_all flat before now all left so_far is = record {
  writes = λ class_of constructor_of.
      let code = coded flat class_of constructor_of in
      sym (append-nil now)
      ∙ ap (λ (instrs : List WInstr). now ++ map code instrs) (sym is)
      ∙ so_far.goes_on class_of constructor_of;
}

-- ---- lists from a place on

pub mapped_from : {A : Type 0} (of : A → WInstr) (items : List A) (at : ℕ) (item : A) → slice_get items at ≡ Some item
    → map of (drop at items) ≡ (of item ∷ []) ++ map of (drop (at + 1) items)
mapped_from of items at item is = ap (map of) (drop_item items at item is)

pub joined_from : {A : Type 0} (of : A → List WInstr) (items : List A) (at : ℕ) (item : A) → slice_get items at ≡ Some item
    → flat_map of (drop at items) ≡ of item ++ flat_map of (drop (at + 1) items)
joined_from of items at item is = ap (flat_map of) (drop_item items at item is)

pub mapped_end : {A : Type 0} (of : A → WInstr) (items : List A) (at : ℕ) → length items ≤ at → map of (drop at items) ≡ []
mapped_end of items at end = ap (map of) (drop_all at items end)

pub joined_end : {A : Type 0} (of : A → List WInstr) (items : List A) (at : ℕ) → length items ≤ at → flat_map of (drop at items) ≡ []
joined_end of items at end = ap (flat_map of) (drop_all at items end)

-- ---- items of slices

pub got_some : {A : Type 0} (items : List A) (at : ℕ) (item : A) → true ≡ nat_lt at (length items) → item ≡ get_or items at item → slice_get items at ≡ Some item
got_some items at item within is = slice_get_read items (length items) at item refl (ltb-true at (length items) (sym within)) is

pub got_none : {A : Type 0} (items : List A) (at : ℕ) → length items ≤ at → slice_get items at ≡ None
got_none items at past = slice_get_past items at past
