-- Laws of a change in stages.
pub mod SpreadLines
pub mod ReadSheets
pub mod NodeLaws
pub mod HeapNodes
pub mod LargestLines
pub mod PrintedLines
pub mod StageChurn
pub mod Rows
pub mod CutRow
pub mod OneChange
pub mod BothCalls
pub mod StageText
pub mod Cases
