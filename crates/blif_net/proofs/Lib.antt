mod Rows
mod ModelRows
pub mod ModelLines
pub mod ModelTold
pub mod CoverRows
pub mod NoFaults
pub mod LineWords
pub mod PlainWords
pub mod FaultlessModels
pub mod Sound
pub mod NamedLines
pub mod NamedWholes
pub mod Arranging
pub mod Completeness
pub mod Ordered
pub mod OneNet
pub mod Bounds
pub mod OnCycles
pub mod Faultless
pub mod Distinct
pub mod PlainLines
pub mod PlainTexts
pub mod Fronts
pub mod Written
pub mod WrittenCircuits
pub mod WrittenNets
pub mod Keeping
pub mod Taking
pub mod Whole
pub mod TextLines
pub mod Finishing
pub mod WholeEnding
pub mod NamesApart
pub mod MultiplexedLines
pub mod KnownSignals
pub mod MultiplexedSignals
pub mod NetValues
pub mod ListedRoots
pub mod NetNames
pub mod DumpValues
pub mod DumpedTexts
mod AdderNames
mod AdderLines
mod AdderRows
mod AdderTexts
