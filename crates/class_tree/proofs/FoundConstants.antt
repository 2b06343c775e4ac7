-- Constants that are looked for in pools, one after the other.
use Rattle.std.proofs.Math.Bool.{or-false}
use Rattle.std.proofs.Common.{◌≡◌, ◌||◌, ◌+◌, ◌<◌, ◌≤◌, ℕ, Bool, true, false, List, ◌∷◌, length, drop, get_or, Option, Some, None, refl, sym, ap, ◌∙◌}
use Rattle.std.specs.List.{list_any}
use Rattle.std.specs.Option.{option_map_or}
use Rattle.std.proofs.lemmas.List.{drop_more, drop_all}
use Rattle.std.proofs.lemmas.Option.{slice_get-get_or}
use Rattle.class_model.specs.Pool.{Constants, constant_at}
use Rattle.class_model.specs.declared.class_file.ClassFile.{ClassFile}
use Rattle.class_model.specs.declared.pool.Const.{Const}
use Rattle.class_tree.specs.Steps.{has_constant}

-- what was found so far, and what is found next and in the rest
pub found_more : (found next here rest whole : Bool) → here ≡ (next || rest) → (found || here) ≡ whole → ((found || next) || rest) ≡ whole
found_more true next here rest whole parts is = is
found_more false next here rest whole parts is = sym parts ∙ is

pub all_found : (found rest whole : Bool) → rest ≡ false → (found || rest) ≡ whole → found ≡ whole
all_found found rest whole none is = sym (or-false found) ∙ ap (λ (b : Bool). found || b) (sym none) ∙ is

-- the entries of a pool from an index on
abbrev pub from_index : ClassFile → ℕ → ClassFile
from_index class index = record class { pool = drop index class.pool }

pub at_index : (test : Const → Bool) (class : ClassFile) (index : ℕ) → index < length class.pool → has_constant test (from_index class index) ≡ (option_map_or test (constant_at class.pool index) false || has_constant test (from_index class (index + 1)))
at_index test class index within =
    ap (λ (pool : Constants). has_constant test (record class { pool = pool })) (drop_more class.pool index None within)
    ∙ by (get_or class.pool index None) (constant_at class.pool index) (ap join (slice_get-get_or class.pool index None within))
  where
    join : Option (Option Const) → Option Const
    join None = None
    join (Some entry) = entry

    by : (entry constant : Option Const) → constant ≡ entry → has_constant test (record class { pool = entry ∷ drop (index + 1) class.pool }) ≡ (option_map_or test constant false || has_constant test (from_index class (index + 1)))
    by None constant is = rw is refl
    by (Some found) constant is = rw is refl

pub behind_last : (test : Const → Bool) (class : ClassFile) (index : ℕ) → length class.pool ≤ index → has_constant test (from_index class index) ≡ false
behind_last test class index end = ap (λ (pool : Constants). has_constant test (record class { pool = pool })) (drop_all index class.pool end)

-- the class files of a folder from a place on
pub at_class : (test : ClassFile → Bool) (folder : List ClassFile) (i : ℕ) (class : ClassFile) → i < length folder → class ≡ get_or folder i class → list_any test (drop i folder) ≡ (test class || list_any test (drop (i + 1) folder))
at_class test folder i class within is =
    ap (list_any test) (drop_more folder i class within) ∙ ap (λ (c : ClassFile). test c || list_any test (drop (i + 1) folder)) (sym is)
