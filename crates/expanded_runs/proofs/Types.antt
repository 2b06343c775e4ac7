-- The typed points of expanded code type it.
pub mod FlatParts
pub mod Units
pub mod FrameFacts
pub mod Starts
pub mod Edges
pub mod OwnPoints
pub mod Handlers
pub mod FlatTyped
pub mod ThroughClass
pub mod CallFacts
pub mod ReturnFrames
mod Blocks
mod PlacedTypes
pub mod PlacedRows
mod PlacedArithmetic
mod PlacedArrays
mod PlacedLocals
pub mod PlacedShuffles
mod PlacedMembers
mod PlacedCalls
mod PlacedTable
mod PlacedGoes
mod PlacedReads
mod PlacedThis
pub mod FlatPlaces
mod FlatRows
mod RowConditions
pub mod InstrStarts
mod SitesThere
pub mod StandingPlaces
mod PlainPoints
pub mod ReturnPoints
pub mod Returns
pub mod StoredUnits
pub mod StorePoints
mod EntryTypes
pub mod EntryFrames
pub mod Entries
pub mod Expanded
mod HostBegins
mod PlainCalls
mod InitCalls
mod InitCallees
mod EachFrame
mod TypedUnits
mod StandingUnits
pub mod FirstFrames
mod ArrayKinds
mod StackDepths
pub mod ThisWithin
mod ObjectsApart
mod SiteObjects
mod StayingCalls
pub mod StandingRows
mod RowNews
mod CalledObjects
mod ReplacedRows
mod SpecialCalls
mod ReplacedCallRows
mod StatedNews
mod NewsOfFrames
mod HostTyped
mod NamedTypes
mod RowNames
mod StatedNames
mod ClassTexts
mod NamedDescriptors
mod KnownBases
mod InstrNames
mod ShortTexts
pub mod KnownTypes
pub mod Whole
pub mod NoFlats
mod FoundNames
mod StatedClasses
mod SpelledInstrs
mod SpelledFrames
pub mod FlatNames
pub mod FlatClasses
