-- A fault of a part is one of the whole.
use Rattle.std.proofs.Common.{◌≡◌, Result, Err, refl, sym, subst}
use Rattle.class_model.specs.Answers.{Gives, Takes}
use Rattle.class_model.specs.Checks.{Fault, ◌>>=◌}
use Rattle.class_model.specs.Cutting.{Rest, Cut}
use Rattle.class_model.specs.declared.fault.ClassFault.{ClassFault}
use Rattle.class_model.specs.declared.fault.ClassFault.TheVariants.{Malformed, Version, NoMemory}
use Rattle.map_frames.specs.Reading.{Accepts}
use Rattle.map_frames.specs.Inner.Steps.{Refuses}

pub refuses_bind : {X Y : Type 0} (part : Result X Fault) (next : X → Result Y Fault) (f : ClassFault) → Refuses part f → Refuses (part >>= next) f
refuses_bind part next (Malformed at rule) h = rw h refl
refuses_bind part next NoMemory h = tt
refuses_bind part next (Version major minor) h = h

pub refuses_same : {X : Type 0} (part whole : Result X Fault) (f : ClassFault) → whole ≡ part → Refuses part f → Refuses whole f
refuses_same part whole f e h = subst (λ (r : Result _ Fault). Refuses r f) (sym e) h

pub refuses_takes : {X : Type 0} (cut : Cut X) (after : Rest) (f : ClassFault) → Takes cut after (Err f) → Refuses cut f
refuses_takes cut after (Malformed at rule) h = h
refuses_takes cut after NoMemory h = h
refuses_takes cut after (Version major minor) h = h

pub refuses_gives : {X : Type 0} (given : Result X Fault) (f : ClassFault) → Gives given (Err f) → Refuses given f
refuses_gives given (Malformed at rule) h = h
refuses_gives given NoMemory h = h
refuses_gives given (Version major minor) h = h

pub gives_refused : {X : Type 0} (given : Result X Fault) (f : ClassFault) → Refuses given f → Gives given (Err f)
gives_refused given (Malformed at rule) h = h
gives_refused given NoMemory h = h
gives_refused given (Version major minor) h = h

pub accepts_refused : {X : Type 0} (given : Result X Fault) (f : ClassFault) → Refuses given f → Accepts given (Err f)
accepts_refused given (Malformed at rule) h = h
accepts_refused given NoMemory h = h
accepts_refused given (Version major minor) h = h
