-- The words of an action, taken one by one.
use Rattle.std.proofs.Common.{◌≡◌, ◌≢◌, ◌∷◌, [], ℕ, ℤ, List, Some, None, codes, refl, sym, subst}
use Rattle.std.specs.Int.{w32, cast_signed, cast_unsigned}
use Rattle.std.specs.Prelude.{FitsSigned}
use Rattle.std.proofs.lemmas.Int.{to_z-of_z}
use Rattle.machine_values.specs.declared.action.Action.{Action}
use Rattle.machine_values.specs.declared.action.Action.TheVariants.{Call, Construct, Return, Throw, ArrayGet, ArraySet, ArrayLength, NewArray, NewExternal, Stop}
use Rattle.machine_values.specs.declared.action.Given.{Given}
use Rattle.script_text.specs.Scripts.{Word, SpellsText, SpellsEach, SpellsGiven, SpellsKnown, SpellsInteger, SpellsAction, call_line, construct_line, return_line, return_value_line, throw_line, get_line, set_line, length_line, array_line, new_line, stop_line}
use Rattle.script_text.specs.Inner.Reading.{Takes, takes_word}

fits_of : {w rest : List Word} {number : ℤ} → Takes (SpellsInteger w32) w number rest → FitsSigned w32 number
fits_of (takes_word spelled) = spelled.fits

-- ---- call

pub is_call : {w r1 r2 r3 : List Word} {class name desc : Word} {values : List Given} → Takes SpellsText w class r1 → Takes SpellsText r1 name r2 → Takes SpellsText r2 desc r3 → SpellsEach SpellsGiven values r3 → SpellsAction (Call class name desc values) (codes "call" ∷ w)
is_call (takes_word c) (takes_word n) (takes_word d) values = call_line c n d values

pub call_class : {w : List Word} → ((x : Word) (r : List Word) → ¬ Takes SpellsText w x r) → (a : Action) → ¬ SpellsAction a (codes "call" ∷ w)
call_class never a (call_line c n d values) = never _ _ (takes_word c)

pub call_name : {w r1 : List Word} {class : Word} → Takes SpellsText w class r1 → ((x : Word) (r : List Word) → ¬ Takes SpellsText r1 x r) → (a : Action) → ¬ SpellsAction a (codes "call" ∷ w)
call_name (takes_word c') never a (call_line c n d values) = never _ _ (takes_word n)

pub call_desc : {w r1 r2 : List Word} {class name : Word} → Takes SpellsText w class r1 → Takes SpellsText r1 name r2 → ((x : Word) (r : List Word) → ¬ Takes SpellsText r2 x r) → (a : Action) → ¬ SpellsAction a (codes "call" ∷ w)
call_desc (takes_word c') (takes_word n') never a (call_line c n d values) = never _ _ (takes_word d)

pub call_values : {w r1 r2 r3 : List Word} {class name desc : Word} → Takes SpellsText w class r1 → Takes SpellsText r1 name r2 → Takes SpellsText r2 desc r3 → ((x : List Given) → ¬ SpellsEach SpellsGiven x r3) → (a : Action) → ¬ SpellsAction a (codes "call" ∷ w)
call_values (takes_word c') (takes_word n') (takes_word d') never a (call_line c n d values) = never _ values

-- ---- construct

pub is_construct : {w r1 r2 : List Word} {class desc : Word} {values : List Given} → Takes SpellsText w class r1 → Takes SpellsText r1 desc r2 → SpellsEach SpellsGiven values r2 → SpellsAction (Construct class desc values) (codes "construct" ∷ w)
is_construct (takes_word c) (takes_word d) values = construct_line c d values

pub construct_class : {w : List Word} → ((x : Word) (r : List Word) → ¬ Takes SpellsText w x r) → (a : Action) → ¬ SpellsAction a (codes "construct" ∷ w)
construct_class never a (construct_line c d values) = never _ _ (takes_word c)

pub construct_desc : {w r1 : List Word} {class : Word} → Takes SpellsText w class r1 → ((x : Word) (r : List Word) → ¬ Takes SpellsText r1 x r) → (a : Action) → ¬ SpellsAction a (codes "construct" ∷ w)
construct_desc (takes_word c') never a (construct_line c d values) = never _ _ (takes_word d)

pub construct_values : {w r1 r2 : List Word} {class desc : Word} → Takes SpellsText w class r1 → Takes SpellsText r1 desc r2 → ((x : List Given) → ¬ SpellsEach SpellsGiven x r2) → (a : Action) → ¬ SpellsAction a (codes "construct" ∷ w)
construct_values (takes_word c') (takes_word d') never a (construct_line c d values) = never _ values

-- ---- new

pub is_new : {w r1 : List Word} {class : Word} {also : List Word} → Takes SpellsText w class r1 → SpellsEach SpellsText also r1 → SpellsAction (NewExternal class also) (codes "new" ∷ w)
is_new (takes_word c) also = new_line c also

pub new_class : {w : List Word} → ((x : Word) (r : List Word) → ¬ Takes SpellsText w x r) → (a : Action) → ¬ SpellsAction a (codes "new" ∷ w)
new_class never a (new_line c also) = never _ _ (takes_word c)

pub new_also : {w r1 : List Word} {class : Word} → Takes SpellsText w class r1 → ((x : List Word) → ¬ SpellsEach SpellsText x r1) → (a : Action) → ¬ SpellsAction a (codes "new" ∷ w)
new_also (takes_word c') never a (new_line c also) = never _ also

-- ---- array

pub is_array : {w r1 : List Word} {desc : Word} {len : ℤ} → Takes SpellsText w desc r1 → Takes (SpellsInteger w32) r1 len [] → SpellsAction (NewArray desc len) (codes "array" ∷ w)
is_array (takes_word d) (takes_word l) = array_line d l

pub array_desc : {w : List Word} → ((x : Word) (r : List Word) → ¬ Takes SpellsText w x r) → (a : Action) → ¬ SpellsAction a (codes "array" ∷ w)
array_desc never a (array_line d l) = never _ _ (takes_word d)

pub array_len : {w r1 : List Word} {desc : Word} → Takes SpellsText w desc r1 → ((x : ℤ) → ¬ Takes (SpellsInteger w32) r1 x []) → (a : Action) → ¬ SpellsAction a (codes "array" ∷ w)
array_len (takes_word d') never a (array_line d l) = never _ (takes_word l)

-- ---- those of known references, return and stop

pub is_return_value : {w : List Word} {value : Given} → Takes SpellsGiven w value [] → SpellsAction (Return (Some value)) (codes "return" ∷ w)
is_return_value (takes_word v) = return_value_line v

pub no_return : {w : List Word} → w ≢ [] → ((x : Given) → ¬ Takes SpellsGiven w x []) → (a : Action) → ¬ SpellsAction a (codes "return" ∷ w)
no_return some never a return_line = some refl
no_return some never a (return_value_line v) = never _ (takes_word v)

pub is_throw : {w : List Word} {number : ℕ} → Takes SpellsKnown w number [] → SpellsAction (Throw number) (codes "throw" ∷ w)
is_throw (takes_word k) = throw_line k

pub no_throw : {w : List Word} → ((x : ℕ) → ¬ Takes SpellsKnown w x []) → (a : Action) → ¬ SpellsAction a (codes "throw" ∷ w)
no_throw never a (throw_line k) = never _ (takes_word k)

pub is_length : {w : List Word} {number : ℕ} → Takes SpellsKnown w number [] → SpellsAction (ArrayLength number) (codes "length" ∷ w)
is_length (takes_word k) = length_line k

pub no_length : {w : List Word} → ((x : ℕ) → ¬ Takes SpellsKnown w x []) → (a : Action) → ¬ SpellsAction a (codes "length" ∷ w)
no_length never a (length_line k) = never _ (takes_word k)

pub is_get : {w r1 : List Word} {number : ℕ} {index : ℤ} → Takes SpellsKnown w number r1 → Takes (SpellsInteger w32) r1 index [] → SpellsAction (ArrayGet number index) (codes "get" ∷ w)
is_get (takes_word k) (takes_word i) = get_line k i

pub get_known : {w : List Word} → ((x : ℕ) (r : List Word) → ¬ Takes SpellsKnown w x r) → (a : Action) → ¬ SpellsAction a (codes "get" ∷ w)
get_known never a (get_line k i) = never _ _ (takes_word k)

pub get_index : {w r1 : List Word} {number : ℕ} → Takes SpellsKnown w number r1 → ((x : ℤ) → ¬ Takes (SpellsInteger w32) r1 x []) → (a : Action) → ¬ SpellsAction a (codes "get" ∷ w)
get_index (takes_word k') never a (get_line k i) = never _ (takes_word i)

pub is_set : {w r1 r2 : List Word} {number : ℕ} {index : ℤ} {value : Given} → Takes SpellsKnown w number r1 → Takes (SpellsInteger w32) r1 index r2 → Takes SpellsGiven r2 value [] → SpellsAction (ArraySet number index value) (codes "set" ∷ w)
is_set (takes_word k) (takes_word i) (takes_word v) = set_line k i v

pub set_known : {w : List Word} → ((x : ℕ) (r : List Word) → ¬ Takes SpellsKnown w x r) → (a : Action) → ¬ SpellsAction a (codes "set" ∷ w)
set_known never a (set_line k i v) = never _ _ (takes_word k)

pub set_index : {w r1 : List Word} {number : ℕ} → Takes SpellsKnown w number r1 → ((x : ℤ) (r : List Word) → ¬ Takes (SpellsInteger w32) r1 x r) → (a : Action) → ¬ SpellsAction a (codes "set" ∷ w)
set_index (takes_word k') never a (set_line k i v) = never _ _ (takes_word i)

pub set_value : {w r1 r2 : List Word} {number : ℕ} {index : ℤ} → Takes SpellsKnown w number r1 → Takes (SpellsInteger w32) r1 index r2 → ((x : Given) → ¬ Takes SpellsGiven r2 x []) → (a : Action) → ¬ SpellsAction a (codes "set" ∷ w)
set_value (takes_word k') (takes_word i') never a (set_line k i v) = never _ (takes_word v)

pub no_stop : {w : List Word} → w ≢ [] → (a : Action) → ¬ SpellsAction a (codes "stop" ∷ w)
no_stop some a stop_line = some refl

-- ---- no other first word

pub no_form : (head : Word) (w : List Word) → head ≢ codes "call" → head ≢ codes "construct" → head ≢ codes "new" → head ≢ codes "array" → head ≢ codes "return" → head ≢ codes "throw" → head ≢ codes "get" → head ≢ codes "set" → head ≢ codes "length" → head ≢ codes "stop" → (a : Action) → ¬ SpellsAction a (head ∷ w)
no_form head w n1 n2 n3 n4 n5 n6 n7 n8 n9 n10 a (call_line c n d values) = n1 refl
no_form head w n1 n2 n3 n4 n5 n6 n7 n8 n9 n10 a (construct_line c d values) = n2 refl
no_form head w n1 n2 n3 n4 n5 n6 n7 n8 n9 n10 a (new_line c also) = n3 refl
no_form head w n1 n2 n3 n4 n5 n6 n7 n8 n9 n10 a (array_line d l) = n4 refl
no_form head w n1 n2 n3 n4 n5 n6 n7 n8 n9 n10 a return_line = n5 refl
no_form head w n1 n2 n3 n4 n5 n6 n7 n8 n9 n10 a (return_value_line v) = n5 refl
no_form head w n1 n2 n3 n4 n5 n6 n7 n8 n9 n10 a (throw_line k) = n6 refl
no_form head w n1 n2 n3 n4 n5 n6 n7 n8 n9 n10 a (get_line k i) = n7 refl
no_form head w n1 n2 n3 n4 n5 n6 n7 n8 n9 n10 a (set_line k i v) = n8 refl
no_form head w n1 n2 n3 n4 n5 n6 n7 n8 n9 n10 a (length_line k) = n9 refl
no_form head w n1 n2 n3 n4 n5 n6 n7 n8 n9 n10 a stop_line = n10 refl

-- ---- as the code holds integers

pub get_again : {w r1 : List Word} {number : ℕ} {index : ℤ} → Takes SpellsKnown w number r1 → Takes (SpellsInteger w32) r1 index [] → SpellsAction (ArrayGet number (cast_signed w32 (cast_unsigned w32 index))) (codes "get" ∷ w)
get_again {w} {r1} {number} {index} k i = subst (λ (z : ℤ). SpellsAction (ArrayGet number z) (codes "get" ∷ w)) (sym (to_z-of_z w32 index (fits_of i))) (is_get k i)

pub set_again : {w r1 r2 : List Word} {number : ℕ} {index : ℤ} {value : Given} → Takes SpellsKnown w number r1 → Takes (SpellsInteger w32) r1 index r2 → Takes SpellsGiven r2 value [] → SpellsAction (ArraySet number (cast_signed w32 (cast_unsigned w32 index)) value) (codes "set" ∷ w)
set_again {w} {r1} {r2} {number} {index} {value} k i v = subst (λ (z : ℤ). SpellsAction (ArraySet number z value) (codes "set" ∷ w)) (sym (to_z-of_z w32 index (fits_of i))) (is_set k i v)

pub array_again : {w r1 : List Word} {desc : Word} {len : ℤ} → Takes SpellsText w desc r1 → Takes (SpellsInteger w32) r1 len [] → SpellsAction (NewArray desc (cast_signed w32 (cast_unsigned w32 len))) (codes "array" ∷ w)
array_again {w} {r1} {desc} {len} d l = subst (λ (z : ℤ). SpellsAction (NewArray desc z) (codes "array" ∷ w)) (sym (to_z-of_z w32 len (fits_of l))) (is_array d l)

pub is_stop : {w : List Word} → w ≡ [] → SpellsAction Stop (codes "stop" ∷ w)
is_stop is = subst (λ (t : List Word). SpellsAction Stop (codes "stop" ∷ t)) (sym is) stop_line

pub is_return : {w : List Word} → w ≡ [] → SpellsAction (Return None) (codes "return" ∷ w)
is_return is = subst (λ (t : List Word). SpellsAction (Return None) (codes "return" ∷ t)) (sym is) return_line
