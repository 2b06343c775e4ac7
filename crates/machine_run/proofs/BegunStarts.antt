-- The static fields of a class that begins, field by field.
use Rattle.std.proofs.Common.{◌≡◌, ◌<◌, ◌+◌, ℕ, suc, List, ◌∷◌, map, drop, length, get_or, slice_get, Option, Some, None, option_map, refl, sym, ap, ◌∙◌, drop-cons, add-one}
use Rattle.std.proofs.lemmas.Option.{slice_get-map}
use Rattle.class_model.specs.Header.{field_member}
use Rattle.class_model.specs.Pool.{Constants}
use Rattle.class_model.specs.PoolChecks.{text_or_empty, utf8_at}
use Rattle.class_model.specs.declared.class_file.ClassFile.{ClassFile}
use Rattle.class_model.specs.declared.class_file.Field.{Field}
use Rattle.class_model.specs.declared.header.Member.{Member}
use Rattle.member_link.specs.Machine.Beginnings.{with_starts}
use Rattle.member_link.specs.Machine.Classes.{starts_from}
use Rattle.member_link.specs.Machine.Programs.{Program, StartValue}
use Rattle.member_link.specs.Machine.Worlds.{Memory, field_desc}
use Rattle.machine_run.specs.Inner.StartWords.{AreFieldsOf, start_if, with_start_if}

-- ---- the descriptor of a field

desc_in :
    (pool : Constants) (fields : List Field) (number : ℕ) (field : Field)
    → slice_get fields number ≡ Some field
    → slice_get (map (field_member pool) fields) number ≡ Some (field_member pool field)
desc_in pool fields number field at =
    slice_get-map (field_member pool) fields number ∙ ap (option_map (field_member pool)) at

pub desc_is :
    (P : Program) (class : ℕ) (file : ClassFile)
    → AreFieldsOf P class file
    → (number : ℕ) (field : Field)
    → slice_get file.fields number ≡ Some field
    → field_desc P class number ≡ text_or_empty (utf8_at file.pool field.desc)
desc_is P class file are number field at =
    rw are.at
    (rw (ap (λ (fields : List Member). slice_get fields number) are.fields ∙ desc_in file.pool file.fields number field at)
    refl)

-- ---- one field more

pub one_start :
    (P : Program) (class : ℕ) (memory : Memory) (pool : Constants) (number : ℕ) (field : Field) (fields : List Field)
    → with_starts P class memory (starts_from pool number (field ∷ fields))
    ≡ with_starts P class (with_start_if P class memory number (start_if pool field)) (starts_from pool (suc number) fields)
one_start P class memory pool number field fields = by (start_if pool field) refl
  where
    by :
        (start : Option StartValue)
        → start_if pool field ≡ start
        → with_starts P class memory (starts_from pool number (field ∷ fields))
        ≡ with_starts P class (with_start_if P class memory number (start_if pool field)) (starts_from pool (suc number) fields)
    by None is = rw is refl
    by (Some start) is = rw is refl

-- behind the field of a number among these
pub one_start_more :
    (P : Program) (class : ℕ) (before after whole : Memory) (pool : Constants) (fields : List Field) (number : ℕ)
    (field : Field)
    → number < length fields
    → get_or fields number field ≡ field
    → with_starts P class before (starts_from pool number (drop number fields)) ≡ whole
    → after ≡ with_start_if P class before number (start_if pool field)
    → with_starts P class after (starts_from pool (number + 1) (drop (number + 1) fields)) ≡ whole
one_start_more P class before after whole pool fields number field within is so_far step =
    rw (step, add-one)
    (sym (one_start P class before pool number field (drop (suc number) fields))
    ∙ ap (λ (rest : List Field). with_starts P class before (starts_from pool number rest)) (sym split)
    ∙ so_far)
  where
    split : drop number fields ≡ field ∷ drop (suc number) fields
    split = drop-cons fields number field within ∙ ap (λ (first : Field). first ∷ drop (suc number) fields) is
