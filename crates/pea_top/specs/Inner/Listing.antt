-- What listing one file answers.
use Rattle.std.specs.Prelude.{Result, Ok, Err}
use Rattle.class_model.specs.Checks.{fault}
use Rattle.host_tree.specs.Host.{Bytes, Folder}
use Rattle.host_tree.specs.declared.call.HostCall.TheVariants as calls
use Rattle.pea_top.specs.Answer.{broken, other_version, IsRefusedThere, IsAbsentThere}
use Rattle.pea_top.specs.Effects.{IsListingText}
use Rattle.pea_top.specs.declared.listing.ListStop.{ListStop}
use Rattle.pea_top.specs.declared.listing.ListStop.TheVariants.{Absent, Fault, Malformed, Version, NoMemory}
use Rattle.pea_top.specs.declared.status.Status.{Status}
use Rattle.pea_top.specs.declared.status.Status.TheVariants as statuses

-- why the file of this name is not listed: it is not there, or is refused for this
abbrev pub IsListStop : Folder → Bytes → ListStop → Type 0
IsListStop folder name (Absent told) = IsAbsentThere folder name told
IsListStop folder name Fault = Unit {0}
IsListStop folder name (Malformed told at rule bytes) =
    IsRefusedThere folder name told (broken (fault at rule))
IsListStop folder name (Version told major minor) =
    IsRefusedThere folder name told (other_version (record { minor = minor; major = major }))
IsListStop folder name NoMemory = Unit {0}

-- its listing, or why it is not listed
abbrev pub IsListingOrWhy : Folder → Bytes → Result Bytes ListStop → Type 0
IsListingOrWhy folder name (Ok text) = IsListingText folder name text
IsListingOrWhy folder name (Err stop) = IsListStop folder name stop

-- the status of a command whose file is not listed
abbrev pub list_status : ListStop → Status
list_status (Absent told) = statuses.Absent told
list_status Fault = statuses.HostFault calls.Read
list_status (Malformed told at rule bytes) = statuses.Malformed told at rule
list_status (Version told major minor) = statuses.Version told major minor
list_status NoMemory = statuses.NoMemory
