-- What is read of an input and its library.
use Rattle.std.proofs.Common.{Err}
use Rattle.host_tree.specs.Host.{Folder}
use Rattle.pea_top.specs.Answer.{IsRefusedClass, NoneRefused, of_input, of_library}
use Rattle.pea_top.specs.Inner.Reading.{IsReadOrWhy, IsLibraryOrWhy, IsInputOrWhy}
use Rattle.pea_top.specs.declared.reading.ReadStop.{ReadStop}
use Rattle.pea_top.specs.declared.reading.ReadStop.TheVariants.{Fault, NoMemory, Malformed, Version}

-- where a file of the input stops the reading
pub why_from_input : (folder library : Folder) (stop : ReadStop) → IsReadOrWhy folder (Err stop) → IsInputOrWhy folder library (Err stop)
why_from_input folder library (Fault call) why = tt
why_from_input folder library NoMemory why = tt
why_from_input folder library (Malformed name at rule file) why = of_input why
why_from_input folder library (Version name major minor side) why = of_input why

-- where a file of the library does
pub why_from_library : (folder library : Folder) → NoneRefused IsRefusedClass folder → (stop : ReadStop) → IsLibraryOrWhy library (Err stop) → IsInputOrWhy folder library (Err stop)
why_from_library folder library none (Fault call) why = tt
why_from_library folder library none NoMemory why = tt
why_from_library folder library none (Malformed name at rule file) why = of_library none why
why_from_library folder library none (Version name major minor side) why = of_library none why
